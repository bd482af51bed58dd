-- A job is its sections.
use Rattle.std.specs.Prelude.{List, [], ◌∷◌, ◌++◌, map, Option, Some, None}
use Rattle.job_text.specs.declared.job.Job.{Job}
use Rattle.job_text.specs.declared.job.TextSection.{TextSection}
use Rattle.job_text.specs.declared.job.Section.{Section}
use Rattle.job_text.specs.declared.job.Section.TheVariants.{Code, Asm, Fill, Table, Script, Graph}

abbrev pub graph_sections : Option TextSection → List Section
graph_sections None = []
graph_sections (Some s) = Graph s ∷ []

-- the sections in the order in which they are printed: by kind, and by lines within a kind
abbrev pub job_sections : Job → List Section
job_sections job =
    map (λ s. Code s) job.codes ++ (map (λ s. Asm s) job.asms ++ (map (λ f. Fill f) job.fills ++ (map (λ t. Table t) job.tables
    ++ (map (λ l. Script l) job.script ++ graph_sections job.graph))))

-- a job with one more section, after the sections of its kind
abbrev pub with_section : Job → Section → Job
with_section job (Code s) = record job { codes = job.codes ++ s ∷ [] }
with_section job (Asm s) = record job { asms = job.asms ++ s ∷ [] }
with_section job (Fill f) = record job { fills = job.fills ++ f ∷ [] }
with_section job (Table t) = record job { tables = job.tables ++ t ∷ [] }
with_section job (Script l) = record job { script = job.script ++ l ∷ [] }
with_section job (Graph s) = record job { graph = Some s }
