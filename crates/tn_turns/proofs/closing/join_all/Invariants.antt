use Rattle.std.proofs.Common.{◌≡◌, ℕ, ◌<◌, ◌≤◌, [], length, true}
use Rattle.tn_turns.specs.declared.view.View.TheVariants.{Kept}
use Rattle.tn_turns.specs.Rule.{kept_of, among}
use Rattle.tn_turns.specs.Returned.{AllReturned}
use Rattle.tn_turns.proofs.closing.join_all.Given as goal

abbrev pub invariant-loop-it : goal.invariant-loop-it
invariant-loop-it g l = record {
  table : l.kept.table_id ≡ l.fn.kept.table_id;
  id : l.kept.id ≡ l.fn.kept.id;
  held : l.kept.me ≡ (Kept (kept_of l.kept.me.0), []);
  given : (kept_of l.kept.me.0).given ≡ (kept_of l.fn.kept.me.0).given;
  seats : AllReturned l.fn.kept.table_id l.seats.items;
  joined : (m : ℕ) → length l.seats.items ≤ m → m < (kept_of l.kept.me.0).given → among m (kept_of l.kept.me.0).joined ≡ true;
}

abbrev pub decreases-loop-it : goal.decreases-loop-it
decreases-loop-it g l = goal.left-loop-it g l
