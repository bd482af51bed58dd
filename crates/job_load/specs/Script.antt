-- The script of a job's host.
use Rattle.std.specs.Prelude.{List, length, Option, Some, None, if◌then◌else◌}
use Rattle.std.specs.List.{filter_map}
use Rattle.tn_base.specs.Bytes.{is_length}
use Rattle.tn_host.specs.declared.script.ScriptItem.{ScriptItem}
use Rattle.tn_host.specs.declared.script.ScriptItem.TheVariants as item
use Rattle.job_text.specs.declared.job.Job.{Job}
use Rattle.job_text.specs.declared.job.ScriptText.{ScriptText}
use Rattle.job_text.specs.declared.job.ScriptText.TheVariants.{Idle, Send}

-- the item that a line is. Bytes that are no message refuse the job before
abbrev pub item_of : ScriptText → Option ScriptItem
item_of (Send thread bytes) = if is_length (length bytes) then Some (item.Send (record { 0 = thread }) bytes) else None
item_of Idle = Some item.AwaitIdle

-- the items of a job's lines, in order
abbrev pub script_of : Job → List ScriptItem
script_of job = filter_map (λ l. item_of l.item) job.script
