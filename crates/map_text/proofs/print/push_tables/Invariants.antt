use Rattle.std.proofs.Common.{◌≡◌, ◌++◌, flat_map}
use Rattle.std.specs.List.{range_with_len}
use Rattle.map_text.specs.Text.{row_text}
use Rattle.map_text.proofs.print.push_tables.Given as goal

abbrev pub invariant-loop-y : goal.invariant-loop-y
invariant-loop-y l = l.text.items ≡ l.initial.text.items ++ flat_map (row_text l.shape l.tables) (range_with_len 0 l.y)
