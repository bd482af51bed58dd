-- Refusals.
use Rattle.std.specs.Prelude.{◌≡◌, ℕ, List, ◌++◌, codes, decimal}
use Rattle.job_faults.specs.declared.fault.LoadFault.{LoadFault}
use Rattle.job_faults.specs.Names.{fault_text}
use Rattle.tn_call.specs.declared.status.Status.{Status}
use Rattle.tn_call.specs.declared.status.Status.TheVariants.{Refused}
use Rattle.tn_run.specs.Kept.{IsFresh, KeptView}

-- `refused LINE KIND`
abbrev pub refused_text : ℕ → List ℕ → List ℕ
refused_text line name = codes "refused " ++ decimal line ++ codes " " ++ name ++ codes "\n"

-- the refusal of a job
abbrev pub refusal_text : LoadFault → List ℕ
refusal_text fault = refused_text fault.line (fault_text fault.kind)

-- the job is refused, and nothing is kept
pub record IsRefusal (fault : LoadFault) (kept : KeptView) (status : Status) (text : List ℕ) : Type 0 where
  pub nothing : IsFresh kept
  pub status_is : status ≡ Refused
  pub text_is : text ≡ refusal_text fault
