-- Parts of a machine that are laid at their places one behind the other.
use Rattle.std.proofs.Common.{◌≡◌, ◌∙◌, ◌<◌, ◌+◌, ◌++◌, ℕ, suc, List, [], ◌∷◌, length, map, reverse, slice_index_or, refl, sym, ap, subst, append-nil, length-append, arith}
use Rattle.std.proofs.lemmas.List.{reverse-append, reverse-reverse}
use Rattle.std.proofs.Math.Seq.{get_or-append_seam}
use Rattle.tn_base.specs.declared.shape.ShapeNumbers.{ShapeNumbers}
use Rattle.tn_base.specs.Parts.{kind_of, part_count}
use Rattle.tn_crew.specs.Crew.{AreFresh, IsFresh, no_entries}
use Rattle.tn_rows.specs.Events.{FitsKind, IsWorld}
use Rattle.tn_rows.specs.PartView.{AbsentV, PartView}
use Rattle.tn_rows.specs.Stamped.{machine, presents_of, starts_of}
use Rattle.tn_stamp.specs.declared.entry.Entry.{Entry}
use Rattle.tn_stamped.specs.Placed.{AreAt, PlacedView, entries_of, stamped_of}

-- so many parts are laid, and the others are left, the next one last
pub record Laying (n : ShapeNumbers) (whole : List PartView) (laid : List PlacedView) (left : List PartView) : Type 0 where
  pub placed : AreAt n 0 laid
  pub starts : starts_of (stamped_of laid) ++ reverse left ≡ whole
  pub presents : presents_of (stamped_of laid) ++ reverse left ≡ whole
  pub entries : map entries_of laid ++ no_entries (reverse left) ≡ no_entries whole

at_end : (n : ShapeNumbers) (k : ℕ) (ps : List PlacedView) (p : PlacedView) → AreAt n k ps → p.shape ≡ n → p.place ≡ k + length ps → AreAt n k (ps ++ p ∷ [])
at_end n k [] p a s e = let here : p.place ≡ k = omega (arith, e) in (s, here, tt)
at_end n k (q ∷ qs) p a s e = let behind : p.place ≡ k + 1 + length qs = omega (arith, e) in (a.0, a.1, at_end n (k + 1) qs p a.2 s behind)

starts_joined : (ps : List PlacedView) (p : PlacedView) (vs : List PartView) → starts_of (stamped_of (ps ++ p ∷ [])) ++ vs ≡ starts_of (stamped_of ps) ++ p.stamped.start ∷ vs
starts_joined [] p vs = refl
starts_joined (q ∷ qs) p vs = ap (λ us. q.stamped.start ∷ us) (starts_joined qs p vs)

presents_joined : (ps : List PlacedView) (p : PlacedView) (vs : List PartView) → presents_of (stamped_of (ps ++ p ∷ [])) ++ vs ≡ presents_of (stamped_of ps) ++ p.stamped.present ∷ vs
presents_joined [] p vs = refl
presents_joined (q ∷ qs) p vs = ap (λ us. q.stamped.present ∷ us) (presents_joined qs p vs)

entries_joined : (ps : List PlacedView) (p : PlacedView) (js : List (List Entry)) → map entries_of (ps ++ p ∷ []) ++ js ≡ map entries_of ps ++ p.stamped.entries ∷ js
entries_joined [] p js = refl
entries_joined (q ∷ qs) p js = ap (λ us. q.stamped.entries ∷ us) (entries_joined qs p js)

pub count_starts : (ps : List PlacedView) → length (starts_of (stamped_of ps)) ≡ length ps
count_starts [] = refl
count_starts (p ∷ ps) = ap suc (count_starts ps)

pub count_presents : (ps : List PlacedView) → length (presents_of (stamped_of ps)) ≡ length ps
count_presents [] = refl
count_presents (p ∷ ps) = ap suc (count_presents ps)

next_first : (left : List PartView) (v : PartView) → reverse (left ++ v ∷ []) ≡ v ∷ reverse left
next_first left v = reverse-append left (v ∷ [])

pub none_laid : (n : ShapeNumbers) (whole : List PartView) → Laying n whole [] (reverse whole)
none_laid n whole = record {
  placed = tt;
  starts = reverse-reverse whole;
  presents = reverse-reverse whole;
  entries = ap no_entries (reverse-reverse whole);
}

pub laid_more : (n : ShapeNumbers) (whole : List PartView) (laid : List PlacedView) (left : List PartView) (v : PartView) (p : PlacedView) →
    Laying n whole laid (left ++ v ∷ []) → IsFresh n (length laid) v p → Laying n whole (laid ++ p ∷ []) left
laid_more n whole laid left v p l next =
    let turned = next_first left v in
    let began : p.stamped.start ∷ reverse left ≡ reverse (left ++ v ∷ []) = ap (λ u. u ∷ reverse left) next.start ∙ sym turned in
    let is : p.stamped.present ∷ reverse left ≡ reverse (left ++ v ∷ []) = ap (λ u. u ∷ reverse left) next.present ∙ sym turned in
    let wrote : p.stamped.entries ∷ no_entries (reverse left) ≡ no_entries (reverse (left ++ v ∷ [])) =
    ap (λ es. es ∷ no_entries (reverse left)) next.entries ∙ ap no_entries (sym turned) in
    let behind : p.place ≡ 0 + length laid = omega (arith, next.place) in
    record {
      placed = at_end n 0 laid p l.placed next.shape behind;
      starts = starts_joined laid p (reverse left) ∙ (ap (λ us. starts_of (stamped_of laid) ++ us) began ∙ l.starts);
      presents = presents_joined laid p (reverse left) ∙ (ap (λ us. presents_of (stamped_of laid) ++ us) is ∙ l.presents);
      entries = entries_joined laid p (no_entries (reverse left)) ∙ (ap (λ us. map entries_of laid ++ us) wrote ∙ l.entries);
    }

next_there : (n : ShapeNumbers) (whole : List PartView) (laid : List PlacedView) (left : List PartView) (v : PartView) →
    Laying n whole laid (left ++ v ∷ []) → starts_of (stamped_of laid) ++ v ∷ reverse left ≡ whole
next_there n whole laid left v l = ap (λ us. starts_of (stamped_of laid) ++ us) (sym (next_first left v)) ∙ l.starts

pub next_within : (n : ShapeNumbers) (whole : List PartView) (laid : List PlacedView) (left : List PartView) (v : PartView) →
    Laying n whole laid (left ++ v ∷ []) → length laid < length whole
next_within n whole laid left v l =
    let starts = starts_of (stamped_of laid) in
    let e : length (starts ++ v ∷ reverse left) ≡ length whole = ap length (next_there n whole laid left v l) in
    omega (arith, e, length-append starts (v ∷ reverse left), count_starts laid)

pub next_fits : (n : ShapeNumbers) (whole : List PartView) (laid : List PlacedView) (left : List PartView) (v : PartView) →
    IsWorld (machine n whole) → Laying n whole laid (left ++ v ∷ []) → FitsKind n (kind_of n (length laid)) v
next_fits n whole laid left v world l =
    let starts = starts_of (stamped_of laid) in
    let there = next_there n whole laid left v l in
    let seam : slice_index_or (starts ++ v ∷ reverse left) (length starts) AbsentV ≡ v = get_or-append_seam starts v (reverse left) AbsentV in
    let at : slice_index_or whole (length laid) AbsentV ≡ v =
    ap (λ us. slice_index_or us (length laid) AbsentV) (sym there) ∙ (ap (λ k. slice_index_or (starts ++ v ∷ reverse left) k AbsentV) (sym (count_starts laid)) ∙ seam) in
    let less = next_within n whole laid left v l in
    let count = world.count in
    let within : length laid < part_count n = omega (arith, less, count) in
    subst (λ u. FitsKind n (kind_of n (length laid)) u) at (world.each (length laid) within)

-- nothing is left
pub all_laid : (n : ShapeNumbers) (whole : List PartView) (laid : List PlacedView) → Laying n whole laid [] → AreFresh n whole laid
all_laid n whole laid l = record {
  placed = l.placed;
  starts = sym (append-nil (starts_of (stamped_of laid))) ∙ l.starts;
  presents = sym (append-nil (presents_of (stamped_of laid))) ∙ l.presents;
  entries = sym (append-nil (map entries_of laid)) ∙ l.entries;
}

pub start_laid : (n : ShapeNumbers) (whole : List PartView) (laid : List PlacedView) (left : List PartView) → laid ≡ [] → left ≡ reverse whole → Laying n whole laid left
start_laid n whole laid left none all = subst (λ ps. Laying n whole ps left) (sym none) (subst (λ us. Laying n whole [] us) (sym all) (none_laid n whole))

pub end_laid : (n : ShapeNumbers) (whole : List PartView) (laid : List PlacedView) (left : List PartView) → left ≡ [] → Laying n whole laid left → AreFresh n whole laid
end_laid n whole laid left none l = all_laid n whole laid (subst (λ us. Laying n whole laid us) none l)
