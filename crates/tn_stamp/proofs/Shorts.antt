-- Entries kept short, their crossings in a list beside them.
use Rattle.std.proofs.Common.{◌≡◌, ℕ, zero, suc, ◌-◌, ◌^◌, ◌<◌, ◌≤◌, inl, inr, List, [], ◌∷◌, ◌++◌, length, get_or, slice_get, Some, refl, sym, ap, ◌∙◌, subst, arith}
use Rattle.std.specs.List.{All}
use Rattle.std.proofs.lemmas.List.{get_or_append_left, append-nil, get_or_past, length-append, length-map, map-append}
use Rattle.std.proofs.lemmas.List.Elements.{All-head, All-tail, All-push, All-weaker}
use Rattle.tn_base.specs.declared.event.Event.{Event}
use Rattle.tn_stamp.specs.declared.entry.Crossing.{Crossing}
use Rattle.tn_stamp.specs.declared.entry.Crossing.TheVariants as crossing
use Rattle.tn_stamp.specs.declared.short.ShortEntry.{ShortEntry}
use Rattle.tn_stamp.specs.Journals.{IsPlace, Keeps, Rises, entries_with, entry_with, last_stamp}
use Rattle.tn_stamp.proofs.Rising.{Rises-push, last_stamp-push}

-- what stands at a place stays there
place_kept : (old more : List Crossing) (d : Crossing) (p : ℕ) → IsPlace (length old) p → length old < 2 ^ 32 - 1 → length more ≤ 1 → get_or (old ++ more) p d ≡ get_or old p d
place_kept old more d p (inl h) few one = get_or_append_left old more d p h
place_kept old more d p (inr e) few one = let l = length-append old more in get_or_past (old ++ more) p d (omega arith) ∙ sym (get_or_past old p d (omega arith))

entries_kept : (old more : List Crossing) (es : List ShortEntry) → All (λ x. IsPlace (length old) x.place) es → length old < 2 ^ 32 - 1 → length more ≤ 1 → entries_with (old ++ more) es ≡ entries_with old es
entries_kept old more [] all few one = refl
entries_kept old more (x ∷ es) all few one =
    let P : ShortEntry → Type 0 = λ x. IsPlace (length old) x.place in
    let same = place_kept old more crossing.None x.place (All-head P x es all) few one in
    let rest = entries_kept old more es (All-tail P x es all) few one in
    λ t. record { stamp = x.stamp; event = x.event; crossing = same t } ∷ rest t

module _ (old new : List Crossing) (es : List ShortEntry) (stamp : ℕ) (event : Event) (c : Crossing) (place : ℕ)
    (all : All (λ x. IsPlace (length old) x.place) es) (kept : Keeps old c place new) (few : length old < 2 ^ 32 - 1) where
  -- one more entry
  pub appended : entries_with new (es ++ record { stamp = stamp; event = event; place = place } ∷ []) ≡ entries_with old es ++ record { stamp = stamp; event = event; crossing = c } ∷ []
  appended =
      let s : ShortEntry = record { stamp = stamp; event = event; place = place } in
      map-append (entry_with new) es (s ∷ []) ∙ (λ t. front t ++ record { stamp = stamp; event = event; crossing = kept.there t } ∷ [])
    where
      front : entries_with new es ≡ entries_with old es
      front = ap (λ cs. entries_with cs es) kept.grown ∙ entries_kept old kept.more es all few kept.few

  pub places_kept : All (λ x. IsPlace (length new) x.place) (es ++ record { stamp = stamp; event = event; place = place } ∷ [])
  places_kept =
      let P : ShortEntry → Type 0 = λ x. IsPlace (length new) x.place in
      let s : ShortEntry = record { stamp = stamp; event = event; place = place } in
      All-push P es s (All-weaker (λ x. IsPlace (length old) x.place) P (λ x. further x.place) es all) kept.fits
    where
      further : (p : ℕ) → IsPlace (length old) p → IsPlace (length new) p
      further p (inl h) = let l = ap length kept.grown in let k = length-append old kept.more in inl (omega arith)
      further p (inr e) = inr e

  pub few_kept : length new ≤ 2 ^ 32 - 1
  few_kept = let l = ap length kept.grown in let k = length-append old kept.more in let one = kept.few in omega arith

  -- the facts of the longer journal
  pub rises_kept : (Rises 0 (entries_with old es)) → last_stamp 0 (entries_with old es) < stamp → Rises 0 (entries_with new (es ++ record { stamp = stamp; event = event; place = place } ∷ []))
  rises_kept rises later = subst (Rises 0) (sym appended) (Rises-push 0 (entries_with old es) (record { stamp = stamp; event = event; crossing = c }) rises later)

  pub last_kept : last_stamp 0 (entries_with new (es ++ record { stamp = stamp; event = event; place = place } ∷ [])) ≡ stamp
  last_kept = ap (last_stamp 0) appended ∙ last_stamp-push 0 (entries_with old es) (record { stamp = stamp; event = event; crossing = c })

-- no crossing
pub keeps_none : (cs : List Crossing) → length cs ≤ 2 ^ 32 - 1 → Keeps cs crossing.None (2 ^ 32 - 1) cs
keeps_none cs few = record { there = get_or_past cs (2 ^ 32 - 1) crossing.None few; fits = inr refl; more = []; grown = sym (append-nil cs); few = omega arith }

pub within : (cs : List Crossing) (es : List ShortEntry) (i : ℕ) → i < length (entries_with cs es) → i < length es
within cs es i h = let l = length-map es (entry_with cs) in omega arith

pub at_entry : (cs : List Crossing) (es : List ShortEntry) (i : ℕ) (s : ShortEntry) → i < length es → s ≡ get_or es i s → slice_get (entries_with cs es) i ≡ Some (entry_with cs s)
at_entry cs [] i s h e = absurd (omega arith)
at_entry cs (x ∷ es) zero s h e = ap (λ (y : ShortEntry). Some (entry_with cs y)) (sym e)
at_entry cs (x ∷ es) (suc i) s h e = at_entry cs es i s (omega arith) e
