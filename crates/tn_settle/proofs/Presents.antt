-- The presents of a machine's parts are a machine.
use Rattle.std.proofs.Common.{◌≡◌, ◌∙◌, ◌∷◌, [], ℕ, zero, suc, List, None, Some, refl, sym, subst, option_and_then}
use Rattle.std.specs.declared.option.Option.{Option}
use Rattle.std.specs.List.{All, slice_index_or}
use Rattle.std.proofs.lemmas.List.{length-map}
use Rattle.std.proofs.lemmas.List.Elements.{All-head, All-tail}
use Rattle.tn_base.specs.declared.shape.ShapeNumbers.{ShapeNumbers}
use Rattle.tn_base.specs.declared.part.Kind.{Kind}
use Rattle.tn_base.specs.Parts.{kind_of}
use Rattle.tn_stamp.specs.declared.entry.Entry.{Entry}
use Rattle.tn_rows.proofs.Keeping.{kind_stays}
use Rattle.tn_rows.specs.Events.{FitsKind, IsWorld, after, replay}
use Rattle.tn_rows.specs.PartView.{PartView, AbsentV}
use Rattle.tn_rows.specs.Stamped.{AreJournals, IsStamped, StampedView, machine, presents_of, starts_of}

replay_fits : (n : ShapeNumbers) (k : Kind) (es : List Entry) (old new : PartView) → replay es old ≡ Some new → FitsKind n k old → FitsKind n k new
replay_fits n k [] old new made fits = subst (FitsKind n k) (cc made) fits
replay_fits n k (e ∷ es) old new made fits = by (after e.event e.crossing old) refl made (λ mid. replay_fits n k es mid new)
  where
    by : (o : Option PartView) → after e.event e.crossing old ≡ o → option_and_then (replay es) o ≡ Some new → ((mid : PartView) → replay es mid ≡ Some new → FitsKind n k mid → FitsKind n k new) → FitsKind n k new
    by None is made more = cc made
    by (Some mid) is made more = more mid made (kind_stays e.event e.crossing n k old mid is fits)

present_fits : (n : ShapeNumbers) (k : Kind) (parts : List StampedView) (p : ℕ) → All IsStamped parts → FitsKind n k (slice_index_or (starts_of parts) p AbsentV) → FitsKind n k (slice_index_or (presents_of parts) p AbsentV)
present_fits n k [] p stamped fits = fits
present_fits n k (s ∷ parts) zero stamped fits = replay_fits n k s.entries s.start s.present (All-head IsStamped s parts stamped).replays fits
present_fits n k (s ∷ parts) (suc p) stamped fits = present_fits n k parts p (All-tail IsStamped s parts stamped) fits

pub presents_are : (n : ShapeNumbers) (parts : List StampedView) → All IsStamped parts → AreJournals n parts → IsWorld (machine n (presents_of parts))
presents_are n parts stamped are = record {
  count = length-map parts (λ (s : StampedView). s.present) ∙ sym (length-map parts (λ (s : StampedView). s.start)) ∙ are.world.count;
  each = λ p less. present_fits n (kind_of n p) parts p stamped (are.world.each p less);
}
