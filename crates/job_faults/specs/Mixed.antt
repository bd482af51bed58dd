-- A graph beside sections that a graph's job does not have, or without the assembly that it needs.
use Rattle.std.specs.Prelude.{◌||◌, Bool, true, false, not, List, length, nat_lt, Option, Some, None, if◌then◌else◌}
use Rattle.std.specs.List.{list_any}
use Rattle.job_text.specs.declared.job.Job.{Job}
use Rattle.job_text.specs.declared.job.ScriptLine.{ScriptLine}
use Rattle.job_text.specs.declared.job.ScriptText.{ScriptText}
use Rattle.job_text.specs.declared.job.ScriptText.TheVariants.{Send, Idle}
use Rattle.job_text.specs.declared.job.TextSection.{TextSection}
use Rattle.job_faults.specs.declared.fault.FaultName.TheVariants as fault
use Rattle.job_faults.specs.declared.fault.LoadFault.{LoadFault}
use Rattle.job_faults.specs.Code.{is_all}
use Rattle.job_faults.specs.Faults.{fault_at}

abbrev pub is_send : ScriptText → Bool
is_send (Send thread bytes) = true
is_send Idle = false

-- some section gives assembly for all tiles
abbrev pub has_common : List TextSection → Bool
has_common asms = list_any (λ s. is_all s.owner) asms

-- some section gives assembly for one tile
abbrev pub has_own : List TextSection → Bool
has_own asms = list_any (λ s. not (is_all s.owner)) asms

-- the host sends a message
abbrev pub has_send : List ScriptLine → Bool
has_send script = list_any (λ l. is_send l.item) script

-- the job has words of code, assembly for one tile, bytes of memory, a table or a message of the host, or no assembly for all tiles
abbrev pub is_mixed : Job → Bool
is_mixed job =
    nat_lt 0 (length job.codes) || has_own job.asms || nat_lt 0 (length job.fills) || nat_lt 0 (length job.tables) || has_send job.script
    || not (has_common job.asms)

abbrev pub mixed_at : Option TextSection → Bool → Option LoadFault
mixed_at None mixed = None
mixed_at (Some s) mixed = if mixed then Some (fault_at s.line fault.Mixed) else None

-- a graph beside these, at the graph's line
abbrev pub mixed_fault : Job → Option LoadFault
mixed_fault job = mixed_at job.graph (is_mixed job)
