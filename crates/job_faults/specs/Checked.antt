-- What a look for faults answers.
use Rattle.std.specs.Prelude.{◌≡◌, length, map, IfSome, None}
use Rattle.std.specs.Option.{option_or}
use Rattle.std.specs.declared.result.Result.{Result}
use Rattle.std.specs.declared.result.Result.TheVariants.{Ok, Err}
use Rattle.tn_base.specs.Parts.{board_count}
use Rattle.tn_text.specs.declared.stop.Stop.{Stop}
use Rattle.job_text.specs.declared.job.Job.{Job}
use Rattle.job_faults.specs.declared.check.Checked.{Checked}
use Rattle.job_faults.specs.declared.check.Read.{Read}
use Rattle.job_faults.specs.declared.fault.LoadFault.{LoadFault}
use Rattle.job_faults.specs.Assembly.{IsStop, as_code, labels_of}
use Rattle.job_faults.specs.Faults.{asm_fault}
use Rattle.job_faults.specs.Mapping.{AreMapped, graph_fault, graph_mapped}
use Rattle.job_faults.specs.Order.{load_fault}
use Rattle.job_faults.specs.ReadTables.{as_read}

-- this is read of the job
pub record IsRead (job : Job) (read : Read) : Type 0 where
  pub asms : read.asms ≡ map as_code job.asms
  pub labels : read.labels ≡ labels_of job.asms
  pub tables : read.tables ≡ map (as_read job.version) job.tables
  pub graph : read.mapped ≡ graph_mapped job
  pub fits : AreMapped read.mapped
  pub boards : IfSome read.mapped (λ m. length m.routes.tables ≡ board_count job.numbers)

-- what is read of a job whose assembly and graph have no fault, or the first fault, unless memory ran out
abbrev pub Reads : Result Read (Stop LoadFault) → Job → Type 0
Reads (Ok read) job = (asm_fault job ≡ None) × (graph_fault job ≡ None) × IsRead job read
Reads (Err stop) job = IsStop stop (option_or (asm_fault job) (graph_fault job))

-- the job has no fault, and this is known of it
pub record IsChecked (job : Job) (checked : Checked) : Type 0 where
  pub faultless : load_fault job ≡ None
  pub shape : checked.shape ≡ job.numbers
  pub read : IsRead job checked.read

-- what is known of a job without a fault, or the first fault, unless memory ran out
abbrev pub Checks : Result Checked (Stop LoadFault) → Job → Type 0
Checks (Ok checked) job = IsChecked job checked
Checks (Err stop) job = IsStop stop (load_fault job)
