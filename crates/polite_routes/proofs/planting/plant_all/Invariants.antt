use Rattle.std.proofs.Common.{false, ◌≡◌, ◌<◌, ℕ, length, take}
use Rattle.tn_base.specs.Parts.{board_count}
use Rattle.polite_routes.specs.Full.{is_full}
use Rattle.polite_routes.specs.Routes.{keys_to, tables_after, trees_to}
use Rattle.polite_routes.specs.Targets.{Blank, count_in}
use Rattle.polite_routes.proofs.planting.plant_all.Given as goal

abbrev pub invariant-loop-pin : goal.invariant-loop-pin
invariant-loop-pin l = record {
  counts : (i : ℕ) → i < 256 → count_in l.counts i ≡ trees_to (take l.pin-index l.pins) i;
  room : length l.counts ≡ 256;
  tables : l.draft ≡ tables_after l.shape l.pins l.pin-index;
  boards : length l.draft ≡ board_count l.shape;
  short : is_full l.draft ≡ false;
  blank : Blank l.spots;
  keys : l.keys.items ≡ keys_to l.shape l.pins l.pin-index;
}
