use Rattle.std.proofs.Common.{◌≡◌, ◌++◌, drop}
use Rattle.std.specs.List.{filter_map}
use Rattle.job_load.specs.Script.{item_of}
use Rattle.job_load.proofs.script.items_of.Given as goal

abbrev pub invariant-loop-line : goal.invariant-loop-line
invariant-loop-line l = l.items.items ++ filter_map (λ x. item_of x.item) (drop l.line-index l.lines) ≡ filter_map (λ x. item_of x.item) l.lines
