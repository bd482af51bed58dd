use Rattle.std.proofs.Common.{◌≡◌, ◌++◌, take, flat_map}
use Rattle.map_text.specs.Text.{beat_line}
use Rattle.map_text.proofs.print.push_beats.Given as goal

abbrev pub invariant-loop-beat : goal.invariant-loop-beat
invariant-loop-beat l = l.text.items ≡ l.initial.text.items ++ flat_map beat_line (take l.beat-index l.beats)
