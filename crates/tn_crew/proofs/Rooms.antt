-- More room in a journal changes nothing else of a part.
use Rattle.std.proofs.Common.{◌≡◌, ◌∙◌, ◌++◌, ℕ, List, ap, subst}
use Rattle.tn_base.specs.declared.shape.ShapeNumbers.{ShapeNumbers}
use Rattle.tn_base.specs.Parts.{part_count}
use Rattle.tn_crew.specs.Tries.{IsKept}
use Rattle.tn_rows.specs.PartView.{PartView}
use Rattle.tn_stamp.specs.declared.entry.Entry.{Entry}
use Rattle.tn_stamp.specs.Pairs.{AllBetween}
use Rattle.tn_stamped.specs.Placed.{GrewTogether, PlacedView, began, began_with}

record IsSame (old new : PlacedView) : Type 0 where
  kept : IsKept old.stamped new.stamped
  stays : (new.shape ≡ old.shape) × (new.place ≡ old.place)

began_same : (old new : PlacedView) → IsSame old new → began new ≡ began old
began_same old new s =
    ap (λ (x : PartView). began_with x new.shape new.place) s.kept.start ∙ ap (λ (n : ShapeNumbers). began_with old.stamped.start n new.place) s.stays.0
    ∙ ap (λ (k : ℕ). began_with old.stamped.start old.shape k) s.stays.1

more : (old mid new es : List Entry) → mid ≡ old → new ≡ mid ++ es → new ≡ old ++ es
more old mid new es same is = is ∙ ap (λ (xs : List Entry). xs ++ es) same

pub room_together : (low high low₁ high₁ low' high' : PlacedView)
    → IsKept low.stamped low₁.stamped → (low₁.shape ≡ low.shape) × (low₁.place ≡ low.place)
    → IsKept high.stamped high₁.stamped → (high₁.shape ≡ high.shape) × (high₁.place ≡ high.place)
    → GrewTogether low₁ high₁ low' high' → GrewTogether low high low' high'
room_together low high low₁ high₁ low' high' a b c d g =
    let es = g.grows.0 in
    record {
      low_stays = g.low_stays ∙ began_same low low₁ (record { kept = a; stays = b });
      high_stays = g.high_stays ∙ began_same high high₁ (record { kept = c; stays = d });
      grows = (
        es,
        more low.stamped.entries low₁.stamped.entries low'.stamped.entries es a.entries g.grows.1,
        more high.stamped.entries high₁.stamped.entries high'.stamped.entries es c.entries g.grows.2,
        subst (λ (k : ℕ). AllBetween (part_count low.shape) low.place k es) d.1 (subst (λ (k : ℕ). AllBetween (part_count low.shape) k high₁.place es) b.1 (subst (λ (n : ShapeNumbers). AllBetween (part_count n) low₁.place high₁.place es) b.0 g.grows.3)),
      );
    }
