use Rattle.std.proofs.Common.{◌≡◌, ◌++◌, flat_map}
use Rattle.std.specs.List.{range_with_len}
use Rattle.map_text.specs.Text.{board_text}
use Rattle.map_text.proofs.print.push_row.Given as goal

abbrev pub invariant-loop-x : goal.invariant-loop-x
invariant-loop-x l = l.text.items ≡ l.initial.text.items ++ flat_map (board_text l.shape l.tables l.y) (range_with_len 0 l.x)
