-- What placed parts are when they all come back.
use Rattle.std.proofs.Common.{◌≡◌, ◌∙◌, ◌+◌, ℕ, zero, suc, List, [], ◌∷◌, map, refl, sym, ap, subst, arith}
use Rattle.std.specs.List.{All}
use Rattle.std.proofs.lemmas.List.Elements.{All-nil, All-head, All-map, All-tail}
use Rattle.tn_base.specs.declared.shape.ShapeNumbers.{ShapeNumbers}
use Rattle.tn_stamp.specs.Merging.{ArePaired, entries_at}
use Rattle.tn_rows.specs.Events.{IsWorld}
use Rattle.tn_rows.specs.Stamped.{IsStamped, StampedView, StandsAt, journals_of, machine, starts_of}
use Rattle.tn_stamped.specs.Placed.{AreAt, ComeBack, PlacedView, StandsHere, began, entries_of, stamped_of}

pub same_at : (n : ShapeNumbers) (k : ℕ) (ps qs : List PlacedView) → map began qs ≡ map began ps → AreAt n k ps → AreAt n k qs
same_at n k [] [] e a = tt
same_at n k [] (q ∷ qs) e a = cc
same_at n k (p ∷ ps) [] e a = cc
same_at n k (p ∷ ps) (q ∷ qs) e a =
    let head : began q ≡ began p = cc in
    let rest : map began qs ≡ map began ps = cc in
    (ap (λ (o : PlacedView). o.shape) head ∙ a.0, ap (λ (o : PlacedView). o.place) head ∙ a.1, same_at n (k + 1) ps qs rest a.2)

pub same_starts : (ps qs : List PlacedView) → map began qs ≡ map began ps → starts_of (stamped_of qs) ≡ starts_of (stamped_of ps)
same_starts [] [] e = refl
same_starts [] (q ∷ qs) e = cc
same_starts (p ∷ ps) [] e = cc
same_starts (p ∷ ps) (q ∷ qs) e =
    let head : began q ≡ began p = cc in
    let rest : map began qs ≡ map began ps = cc in
    let first : q.stamped.start ≡ p.stamped.start = ap (λ (o : PlacedView). o.stamped.start) head in
    let others : starts_of (stamped_of qs) ≡ starts_of (stamped_of ps) = same_starts ps qs rest in
    cc

stand : (n : ShapeNumbers) (k i : ℕ) (ps : List PlacedView) → AreAt n k ps → All StandsHere ps → All (StandsAt n (k + i)) (entries_at (journals_of (stamped_of ps)) i)
stand n k i [] a all = All-nil (StandsAt n (k + i))
stand n k zero (p ∷ ps) a all =
    let here : All (StandsAt p.shape p.place) p.stamped.entries = All-head StandsHere p ps all in
    let same : p.place ≡ k + 0 = omega (arith, a.1) in
    subst (λ j. All (StandsAt n j) p.stamped.entries) same (subst (λ m. All (StandsAt m p.place) p.stamped.entries) a.0 here)
stand n k (suc i) (p ∷ ps) a all =
    let rest = stand n (k + 1) i ps a.2 (All-tail StandsHere p ps all) in
    let same : k + 1 + i ≡ k + suc i = omega arith in
    subst (λ j. All (StandsAt n j) (entries_at (journals_of (stamped_of ps)) i)) same rest

same_entries : (ps : List PlacedView) → map entries_of ps ≡ journals_of (stamped_of ps)
same_entries [] = refl
same_entries (p ∷ ps) = ap (λ es. p.stamped.entries ∷ es) (same_entries ps)

pub closed : (n : ShapeNumbers) (shown : List PlacedView) → All StandsHere shown → ComeBack n shown
closed n shown all firsts same at world paired = record {
  world = subst (λ ps. IsWorld (machine n ps)) (sym (same_starts firsts shown same)) world;
  paired = subst ArePaired (same_entries shown) paired;
  placed = λ i.
      let s = stand n 0 i shown (same_at n 0 firsts shown same at) all in
      let k : 0 + i ≡ i = omega arith in
      subst (λ j. All (StandsAt n j) (entries_at (journals_of (stamped_of shown)) i)) k s;
}

-- the stamps of the part's journal rise, and the part is its start after the journal
abbrev pub HasStamps : PlacedView → Type 0
HasStamps p = IsStamped p.stamped

pub all_stamped : (ps : List PlacedView) → All HasStamps ps → All IsStamped (stamped_of ps)
all_stamped ps all = All-map IsStamped (λ (p : PlacedView). p.stamped) ps all

pub stamped_here : (p : PlacedView) (s : StampedView) → s ≡ p.stamped → IsStamped s → HasStamps p
stamped_here p s same stamped = subst IsStamped same stamped
