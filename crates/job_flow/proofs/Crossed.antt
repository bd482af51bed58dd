-- What an event makes of each part of a machine: the part's row with what the event's two parts pass, or nothing. These are the lemmas
-- of `tn_letters` on the parts of an event, which also say that the giver is a part of the machine.
use Rattle.std.proofs.Common.{ℕ, ◌<◌, ◌≡◌, List, length, get_or, set, sym, refl, ap, subst, inl, inr, arith, Option, Some, None, option_map, length-set, ◌∙◌}
use Rattle.std.specs.List.{slice_get}
use Rattle.std.specs.Prelude.{option_and_then}
use Rattle.std.proofs.lemmas.Bool.{cases_eq}
use Rattle.std.proofs.lemmas.Grind.{get_or-set_at}
use Rattle.std.proofs.lemmas.List.{get_or-set_other, get_or-set_same}
use Rattle.std.proofs.lemmas.Option.{get_or_from_slice_get, slice_get-get_or, slice_get_within}
use Rattle.tn_base.specs.declared.event.Event.{Event}
use Rattle.tn_rows.specs.Events.{Met, after, crossing_of, happened, happened_at, meets, meets_at, met_with, with_both, with_part}
use Rattle.tn_rows.specs.PartView.{PartView, AbsentV}
use Rattle.tn_rows.specs.Places.{Places, Nowhere, One, Two, places}
use Rattle.tn_rows.specs.WorldView.{WorldView}
use Rattle.tn_rows.proofs.Meeting.{mapped, met_rows}
use Rattle.tn_stamp.specs.declared.entry.Crossing.{Crossing}
use Rattle.tn_stamp.specs.declared.entry.Crossing.TheVariants as crossing

-- the parts of an event on two parts, and what the first of them, or the second, gives
pub record Passes (e : Event) (w : WorldView) (c : Crossing) (p q : ℕ) : Type 0 where
  pub low : PartView
  pub high : PartView
  pub low_is : slice_get w.parts p ≡ Some low
  pub high_is : slice_get w.parts q ≡ Some high
  pub gives : crossing_of e low high ≡ Some c

-- what crosses in an event on these parts: nothing on one part, and on two parts what the giver gives
abbrev pub CrossesAt : Event → WorldView → Crossing → Places → Type 0
CrossesAt e w c Nowhere = ⊥
CrossesAt e w c (One p) = c ≡ crossing.None
CrossesAt e w c (Two p q) = Passes e w c p q

-- a part of the machine after the event: on one part it is that part
abbrev pub IsNow : Places → WorldView → ℕ → PartView → Type 0
IsNow Nowhere new i b = ⊥
IsNow (One p) new i b = (i ≡ p) × (slice_get new.parts i ≡ Some b)
IsNow (Two p q) new i b = Unit {0}

-- a fact of each part's number, of the part before the event and of the part after it
abbrev pub Fact : Type 1
Fact = ℕ → PartView → PartView → Type 0

set_there : (parts : List PartView) (p : ℕ) (x : PartView) → p < length parts → slice_get (set parts p x) p ≡ Some x
set_there parts p x h =
    let size = length-set parts p x in
    slice_get-get_or (set parts p x) p AbsentV (omega arith) ∙ ap (λ y. Some y) (get_or-set_same parts p x AbsentV h)

-- part p becomes another part, of which the fact holds. Then it holds of each part, if it holds of parts that stay
placed : (R : Fact) → ((i : ℕ) (x : PartView) → R i x x) → (parts : List PartView) (p q : ℕ) (old new : PartView) → slice_get parts p ≡ Some old → R p old new → R q (get_or parts q AbsentV) (get_or (set parts p new) q AbsentV)
placed R same parts p q old new read here =
    let within : p < length parts = slice_get_within parts p old read in
    let was : get_or parts p AbsentV ≡ old = get_or_from_slice_get parts p old AbsentV read in
    elim (cases_eq q p) [
      | inl e ↦
          subst (R q (get_or parts q AbsentV)) (sym (get_or-set_at parts p q new AbsentV e within))
          (subst (λ (x : PartView). R q x new) (sym was ∙ ap (λ i. get_or parts i AbsentV) (sym e)) (subst (λ i. R i old new) (sym e) here))
      | inr ne ↦ subst (R q (get_or parts q AbsentV)) (sym (get_or-set_other parts p q new AbsentV ne)) (same q (get_or parts q AbsentV))
    ]

-- parts p and q become other parts. The two may have one number: then the second change counts
both_placed : (R : Fact) → ((i : ℕ) (x : PartView) → R i x x) → (parts : List PartView) (p q r : ℕ) (low high new_low new_high : PartView) → slice_get parts p ≡ Some low → slice_get parts q ≡ Some high → R p low new_low → R q high new_high → R r (get_or parts r AbsentV) (get_or (set (set parts p new_low) q new_high) r AbsentV)
both_placed R same parts p q r low high new_low new_high read_low read_high here there =
    let size = length-set parts p new_low in
    let below : q < length parts = slice_get_within parts q high read_high in
    let within : q < length (set parts p new_low) = omega arith in
    let was : get_or parts q AbsentV ≡ high = get_or_from_slice_get parts q high AbsentV read_high in
    elim (cases_eq r q) [
      | inl e ↦
          subst (R r (get_or parts r AbsentV)) (sym (get_or-set_at (set parts p new_low) q r new_high AbsentV e within))
          (subst (λ (x : PartView). R r x new_high) (sym was ∙ ap (λ i. get_or parts i AbsentV) (sym e)) (subst (λ i. R i high new_high) (sym e) there))
      | inr ne ↦
          subst (R r (get_or parts r AbsentV)) (sym (get_or-set_other (set parts p new_low) q r new_high AbsentV ne))
          (placed R same parts p r low new_low read_low here)
    ]

-- the fact follows from each row
abbrev Rowwise : Fact → Event → WorldView → WorldView → Places → Type 0
Rowwise R e w new at = (c : Crossing) → CrossesAt e w c at → (i : ℕ) (a b : PartView) → slice_get w.parts i ≡ Some a → after e c a ≡ Some b → IsNow at new i b → R i a b

crossed : (e : Event) (low high : PartView) (o : Option Crossing) (m : Met) → met_with e low high o ≡ Some m → (c : Crossing) × (o ≡ Some c) × (after e c low ≡ Some m.low) × (after e c high ≡ Some m.high)
crossed e low high None m is = cc is
crossed e low high (Some c) m is = let rows = met_rows (after e c low) (after e c high) m is in (c, refl, rows.0, rows.1)

one_part : (R : Fact) → ((i : ℕ) (x : PartView) → R i x x) → (e : Event) (old new : WorldView) (p r : ℕ) (o : Option PartView) → Rowwise R e old new (One p) → slice_get old.parts p ≡ o → option_map (with_part old p) (option_and_then (after e crossing.None) o) ≡ Some new → R r (get_or old.parts r AbsentV) (get_or new.parts r AbsentV)
one_part R same e old new p r None rows read is = cc is
one_part R same e old new p r (Some part) rows read is =
    let m = mapped (with_part old p) (after e crossing.None part) new is in
    let now : slice_get new.parts p ≡ Some m.0 = subst (λ (x : WorldView). slice_get x.parts p ≡ Some m.0) m.2 (set_there old.parts p m.0 (slice_get_within old.parts p part read)) in
    subst (λ (x : WorldView). R r (get_or old.parts r AbsentV) (get_or x.parts r AbsentV)) m.2 (placed R same old.parts p r part m.0 read (rows crossing.None refl p part m.0 read m.1 (refl, now)))

two_parts : (R : Fact) → ((i : ℕ) (x : PartView) → R i x x) → (e : Event) (old new : WorldView) (p q r : ℕ) (low high : Option PartView) → Rowwise R e old new (Two p q) → slice_get old.parts p ≡ low → slice_get old.parts q ≡ high → option_map (with_both old p q) (meets_at e low high) ≡ Some new →
    R r (get_or old.parts r AbsentV) (get_or new.parts r AbsentV)
two_parts R same e old new p q r None high rows read_low read_high is = cc is
two_parts R same e old new p q r (Some low) None rows read_low read_high is = cc is
two_parts R same e old new p q r (Some low) (Some high) rows read_low read_high is =
    let m = mapped (with_both old p q) (meets e low high) new is in
    let c = crossed e low high (crossing_of e low high) m.0 m.1 in
    let crosses : CrossesAt e old c.0 (Two p q) = record { low = low; high = high; low_is = read_low; high_is = read_high; gives = c.1 } in
    subst (λ (x : WorldView). R r (get_or old.parts r AbsentV) (get_or x.parts r AbsentV)) m.2
    (both_placed R same old.parts p q r low high m.0.low m.0.high read_low read_high (rows c.0 crosses p low m.0.low read_low c.2 tt) (rows c.0 crosses q high m.0.high read_high c.3 tt))

at_places : (R : Fact) → ((i : ℕ) (x : PartView) → R i x x) → (e : Event) (old new : WorldView) (r : ℕ) (at : Places) → Rowwise R e old new at → happened_at e old at ≡ Some new → R r (get_or old.parts r AbsentV) (get_or new.parts r AbsentV)
at_places R same e old new r Nowhere rows is = cc is
at_places R same e old new r (One p) rows is = one_part R same e old new p r (slice_get old.parts p) rows refl is
at_places R same e old new r (Two p q) rows is = two_parts R same e old new p q r (slice_get old.parts p) (slice_get old.parts q) rows refl refl is

-- a fact that holds of parts that stay, and that follows from each row, holds of each part
pub each_row : (R : Fact) → ((i : ℕ) (x : PartView) → R i x x) → (e : Event) (old new : WorldView) → Rowwise R e old new (places old.shape e) → happened e old ≡ Some new → (r : ℕ) → R r (get_or old.parts r AbsentV) (get_or new.parts r AbsentV)
each_row R same e old new rows is r = at_places R same e old new r (places old.shape e) rows is
