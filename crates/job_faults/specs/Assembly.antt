-- The sections of assembly of a job.
use Rattle.std.specs.Prelude.{◌≡◌, ℕ, ◌+◌, List, [], ◌∷◌, ◌++◌, map, Option, Some, None}
use Rattle.std.specs.declared.result.Result.{Result}
use Rattle.std.specs.declared.result.Result.TheVariants.{Ok, Err}
use Rattle.tn_text.specs.declared.stop.Fault.{Fault as At}
use Rattle.tn_text.specs.declared.stop.Stop.{Stop}
use Rattle.tn_text.specs.declared.stop.Stop.TheVariants.{Fault, Memory}
use Rattle.asm_text.specs.declared.fault.AsmKind.{AsmKind}
use Rattle.asm_build.specs.declared.image.Image.{Image}
use Rattle.asm_build.specs.Text.{assembled}
use Rattle.job_text.specs.declared.job.CodeSection.{CodeSection}
use Rattle.job_text.specs.declared.job.Job.{Job}
use Rattle.job_text.specs.declared.job.TextSection.{TextSection}
use Rattle.job_faults.specs.declared.assembly.Assembled.{Assembled}
use Rattle.job_faults.specs.declared.fault.LoadFault.{LoadFault}
use Rattle.job_faults.specs.Names.{fault_of_asm}

-- a section's text begins on the line after its head
abbrev pub image_of : TextSection → Result Image (At AsmKind)
image_of s = assembled (s.line + 1) s.text

-- Faults.

abbrev pub fault_by : Result Image (At AsmKind) → Option LoadFault → Option LoadFault
fault_by (Ok image) others = others
fault_by (Err fault) others = Some (fault_of_asm fault)

-- the first section that is no assembly, in order of the sections
abbrev pub asms_fault : List TextSection → Option LoadFault
asms_fault [] = None
asms_fault (s ∷ ss) = fault_by (image_of s) (asms_fault ss)

-- Words.

abbrev pub image_words : Result Image (At AsmKind) → List ℕ
image_words (Ok image) = image.words
image_words (Err fault) = []

-- a section as if it gave these words itself
abbrev pub code_with : TextSection → List ℕ → CodeSection
code_with s words = record { line = s.line; owner = s.owner; words = words }

-- a section as if it gave its words itself
abbrev pub as_code : TextSection → CodeSection
as_code s = code_with s (image_words (image_of s))

-- the sections that give words, and behind them those of assembly
abbrev pub sections_of : Job → List CodeSection
sections_of job = job.codes ++ map as_code job.asms

-- Labels.

-- labels and their addresses
abbrev pub LabelList : Type 0
LabelList = List (List ℕ × ℕ)

abbrev pub image_labels : Result Image (At AsmKind) → LabelList
image_labels (Ok image) = image.labels
image_labels (Err found) = []

-- the labels of the first section: a job with a graph has no other
abbrev pub labels_of : List TextSection → LabelList
labels_of [] = []
labels_of (s ∷ ss) = image_labels (image_of s)

-- What assembling answers, where memory may be wanting.

abbrev pub IsStop : Stop LoadFault → Option LoadFault → Type 0
IsStop Memory first = Unit {0}
IsStop (Fault fault) first = first ≡ Some fault

-- the sections of assembly as sections that give words and the labels of the first one, or the first fault, unless memory ran out
abbrev pub Assembles : Result Assembled (Stop LoadFault) → List TextSection → Type 0
Assembles (Ok all) asms = (asms_fault asms ≡ None) × (all.codes ≡ map as_code asms) × (all.labels ≡ labels_of asms)
Assembles (Err stop) asms = IsStop stop (asms_fault asms)

-- the words and labels of one section
abbrev pub AssemblesOne : Result Image (Stop LoadFault) → TextSection → Type 0
AssemblesOne (Ok image) s = image_of s ≡ Ok image
AssemblesOne (Err stop) s = IsStop stop (asms_fault (s ∷ []))

-- sections that give words, with these behind them
abbrev pub AssemblesAfter : Result (Unit {0}) (Stop LoadFault) → List CodeSection → List CodeSection → List TextSection → Type 0
AssemblesAfter (Ok done) old new asms = (asms_fault asms ≡ None) × (new ≡ old ++ map as_code asms)
AssemblesAfter (Err stop) old new asms = IsStop stop (asms_fault asms)
