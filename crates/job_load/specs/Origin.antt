-- Where the threads and tables of a job's machine come from.
use Rattle.std.specs.Prelude.{ℕ, ◌≡◌, List, map, None, Some}
use Rattle.std.specs.List.{range_with_len}
use Rattle.tn_base.specs.declared.shape.ShapeNumbers.{ShapeNumbers}
use Rattle.tn_base.specs.Shape.{thread_count}
use Rattle.tn_keys.specs.Tables.{Table}
use Rattle.job_text.specs.declared.job.CodeSection.{CodeSection}
use Rattle.job_text.specs.declared.job.Job.{Job}
use Rattle.job_faults.specs.declared.map.Mapped.{Mapped}
use Rattle.job_faults.specs.Assembly.{as_code}
use Rattle.job_faults.specs.Mapping.{graph_mapped}
use Rattle.job_faults.specs.Order.{load_fault}
use Rattle.job_faults.specs.ReadTables.{as_read}
use Rattle.job_load.specs.declared.origin.Origin.{Origin}
use Rattle.job_load.specs.declared.origin.Origin.TheVariants.{Sections, Graph}
use Rattle.job_load.specs.Graph.{seated_in}
use Rattle.job_load.specs.Groups.{AreGroups}
use Rattle.job_load.specs.SeatedModel.{SeatedModel}

-- these are what the job's graph gives
pub record ComesOfGraph (job : Job) (flits : ℕ) (threads : List SeatedModel) (tables : List Table) : Type 0 where
  pub mapped : Mapped
  pub graph_is : graph_mapped job ≡ Some mapped
  pub flits_are : flits ≡ mapped.graph.flits
  pub threads_are : threads ≡ map (seated_in job mapped) (range_with_len 0 (thread_count job.numbers))
  pub tables_are : tables ≡ mapped.routes.tables

-- the origin is the job's: its graph, or its sections if it has no graph
abbrev pub ComesFrom : Job → Origin → Type 0
ComesFrom job (Sections groups tables) = (graph_mapped job ≡ None) × AreGroups job.fills groups × (tables ≡ map (as_read job.version) job.tables)
ComesFrom job (Graph flits threads tables) = ComesOfGraph job flits threads.items tables

-- the numbers, the assembly and the origin are those of a job without a fault
pub record IsMadeOf (job : Job) (n : ShapeNumbers) (asms : List CodeSection) (origin : Origin) : Type 0 where
  pub shape : n ≡ job.numbers
  pub faultless : load_fault job ≡ None
  pub asms_are : asms ≡ map as_code job.asms
  pub origin_is : ComesFrom job origin
