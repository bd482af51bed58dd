-- Parts at their places stay a crew, and are a machine now.
use Rattle.std.proofs.Common.{◌≡◌, ◌∙◌, ◌<◌, ◌+◌, ◌||◌, ℕ, zero, suc, Bool, true, false, List, [], ◌∷◌, Some, get_or, is_some, length, map, slice_get, slice_index_or, refl, sym, ap, subst, arith}
use Rattle.std.specs.List.{All}
use Rattle.std.proofs.lemmas.List.Elements.{All-head, All-tail}
use Rattle.tn_base.specs.declared.shape.ShapeNumbers.{ShapeNumbers}
use Rattle.tn_base.specs.Parts.{kind_of, part_count}
use Rattle.tn_crew.proofs.Laying.{count_presents, count_starts}
use Rattle.tn_crew.specs.Crew.{AreFresh, CrewView, IsCrew, present_of, start_of}
use Rattle.tn_rows.specs.Events.{FitsKind, IsWorld}
use Rattle.tn_rows.specs.PartView.{AbsentV, PartView}
use Rattle.tn_rows.specs.Stamped.{first_final, machine, presents_of}
use Rattle.tn_settle.specs.Settles.{some_ended}
use Rattle.tn_stamp.specs.Merging.{ArePaired}
use Rattle.tn_stamped.proofs.Closing.{same_at, same_starts}
use Rattle.tn_stamped.specs.Placed.{AreAt, FitsHere, PlacedView, began, entries_of, stamped_of}
use Rattle.tn_turns.proofs.Untouched.{untouched_paired}
use Rattle.tn_turns.specs.Faithful.{IsFaithful}

pub crew_begins : (n : ShapeNumbers) (whole : List PartView) (ps : List PlacedView) → IsWorld (machine n whole) → AreFresh n whole ps → IsCrew (record { shape = n; parts = ps })
crew_begins n whole ps world fresh = record {
  placed = fresh.placed;
  world = subst (λ vs. IsWorld (machine n vs)) (sym fresh.starts) world;
  paired = subst ArePaired (sym fresh.entries) (untouched_paired whole);
}

pub crew_stays : (n : ShapeNumbers) (ps qs : List PlacedView) → IsCrew (record { shape = n; parts = ps }) → IsFaithful began entries_of ps qs →
    IsCrew (record { shape = n; parts = qs })
crew_stays n ps qs crew kept = record {
  placed = same_at n 0 ps qs kept.starts crew.placed;
  world = subst (λ vs. IsWorld (machine n vs)) (sym (same_starts ps qs kept.starts)) crew.world;
  paired = kept.paired;
}

-- what the parts began as stays
pub start_stays : (n : ShapeNumbers) (ps qs : List PlacedView) → map began qs ≡ map began ps → start_of (record { shape = n; parts = qs }) ≡ start_of (record { shape = n; parts = ps })
start_stays n ps qs same = ap (machine n) (same_starts ps qs same)

or_true : (b : Bool) → (b || true) ≡ true
or_true true = refl
or_true false = refl

-- no event of the part's journal is final
abbrev pub GoesOn : PlacedView → Type 0
GoesOn p = is_some (first_final p.stamped.entries p.stamped.start) ≡ false

none_at : (p : PlacedView) (ps : List PlacedView) → GoesOn p → some_ended (stamped_of ps) ≡ false → some_ended (stamped_of (p ∷ ps)) ≡ false
none_at p ps here rest = ap (λ (b : Bool). b || some_ended (stamped_of ps)) here ∙ rest

pub none_stopped : (ps : List PlacedView) → All GoesOn ps → some_ended (stamped_of ps) ≡ false
none_stopped [] all = refl
none_stopped (p ∷ ps) all = none_at p ps (All-head GoesOn p ps all) (none_stopped ps (All-tail GoesOn p ps all))

pub stopped_at : (ps : List PlacedView) (i : ℕ) (p : PlacedView) → i < length ps → get_or ps i p ≡ p → is_some (first_final p.stamped.entries p.stamped.start) ≡ true → some_ended (stamped_of ps) ≡ true
stopped_at [] i p l e t = absurd (omega arith)
stopped_at (q ∷ qs) zero p l e t = ap (λ (b : Bool). b || some_ended (stamped_of qs)) (ap (λ (u : PlacedView). is_some (first_final u.stamped.entries u.stamped.start)) e ∙ t)
stopped_at (q ∷ qs) (suc i) p l e t = ap (λ (b : Bool). is_some (first_final q.stamped.entries q.stamped.start) || b) (stopped_at qs i p (omega arith) e t) ∙ or_true (is_some (first_final q.stamped.entries q.stamped.start))

pub crew_count : (c : CrewView) → IsCrew c → length c.parts ≡ part_count c.shape
crew_count c crew = sym (count_starts c.parts) ∙ crew.world.count

fits_at : (n : ShapeNumbers) (k i : ℕ) (ps : List PlacedView) → AreAt n k ps → All FitsHere ps → i < length ps →
    FitsKind n (kind_of n (k + i)) (slice_index_or (presents_of (stamped_of ps)) i AbsentV)
fits_at n k i [] a all l = absurd (omega arith)
fits_at n k zero (p ∷ ps) a all l =
    let here : FitsKind p.shape (kind_of p.shape p.place) p.stamped.present = All-head FitsHere p ps all in
    let same : p.place ≡ k + 0 = omega (arith, a.1) in
    subst (λ j. FitsKind n (kind_of n j) p.stamped.present) same (subst (λ m. FitsKind m (kind_of m p.place) p.stamped.present) a.0 here)
fits_at n k (suc i) (p ∷ ps) a all l =
    let less : i < length ps = omega arith in
    let rest = fits_at n (k + 1) i ps a.2 (All-tail FitsHere p ps all) less in
    let same : k + 1 + i ≡ k + suc i = omega arith in
    subst (λ j. FitsKind n (kind_of n j) (slice_index_or (presents_of (stamped_of ps)) i AbsentV)) same rest

pub present_world : (c : CrewView) → IsCrew c → All FitsHere c.parts → IsWorld (present_of c)
present_world c crew all = record {
  count = count_presents c.parts ∙ crew_count c crew;
  each = λ p l.
      let count = crew_count c crew in
      let within : p < length c.parts = omega (arith, l, count) in
      let fits = fits_at c.shape 0 p c.parts crew.placed all within in
      let same : 0 + p ≡ p = omega arith in
      subst (λ j. FitsKind c.shape (kind_of c.shape j) (slice_index_or (presents_of (stamped_of c.parts)) p AbsentV)) same fits;
}

-- the present part at a place
pub present_at : (ps : List PlacedView) (i : ℕ) (p : PlacedView) → i < length ps → get_or ps i p ≡ p → slice_get (presents_of (stamped_of ps)) i ≡ Some p.stamped.present
present_at [] i p l e = absurd (omega arith)
present_at (q ∷ qs) zero p l e = ap (λ (u : PlacedView). Some u.stamped.present) e
present_at (q ∷ qs) (suc i) p l e = present_at qs i p (omega arith) e
