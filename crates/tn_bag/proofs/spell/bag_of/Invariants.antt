use Rattle.std.proofs.Common.{◌≡◌, ◌++◌, drop}
use Rattle.tn_rows.specs.Runs.{Run}
use Rattle.tn_rows.specs.WorldView.{WorldView}
use Rattle.tn_letters.specs.Steps.{bag_of}
use Rattle.tn_bag.proofs.spell.bag_of.Given as goal

abbrev pub invariant-loop-event : goal.invariant-loop-event
invariant-loop-event g l =
    ((end : WorldView) × Run l.world (drop l.event-index l.history) end)
    × (l.all.items ++ bag_of l.world (drop l.event-index l.history) ≡ bag_of l.start l.history)
