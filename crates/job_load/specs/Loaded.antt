-- What a job makes: its machine at the start, or the first fault.
use Rattle.std.specs.declared.result.Result.{Result}
use Rattle.std.specs.declared.result.Result.TheVariants.{Ok}
use Rattle.tn_rows.specs.WorldView.{WorldView}
use Rattle.job_text.specs.declared.job.Job.{Job}
use Rattle.job_faults.specs.declared.fault.LoadFault.{LoadFault}
use Rattle.job_faults.specs.Order.{load_fault, unless}
use Rattle.job_load.specs.Start.{start_of}

-- the faults, and behind them the start
abbrev pub loaded : Job → Result WorldView LoadFault
loaded job = unless (load_fault job) (Ok (start_of job))
