use Rattle.std.proofs.Common.{◌≡◌, take}
use Rattle.tn_host.proofs.script.copy_items.Given as goal

abbrev pub invariant-loop-item : goal.invariant-loop-item
invariant-loop-item l = l.all.items ≡ take l.item-index l.items
