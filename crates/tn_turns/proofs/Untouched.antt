-- Items without entries.
use Rattle.std.proofs.Common.{◌≡◌, ℕ, zero, suc, List, [], ◌∷◌, length, map, sym, refl, ap, ◌∙◌, subst}
use Rattle.std.proofs.lemmas.List.Elements.{All-nil}
use Rattle.tn_stamp.specs.declared.entry.Entry.{Entry}
use Rattle.tn_stamp.specs.Merging.{ArePaired, entries_at}
use Rattle.tn_stamp.specs.Pairs.{AllOwn, pairing}

module _ {X : Type 0} where
  abbrev untouched : List X → List (List Entry)
  untouched xs = map (λ x. []) xs

  no_entry : (xs : List X) (i : ℕ) → entries_at (untouched xs) i ≡ []
  no_entry [] i = refl
  no_entry (x ∷ xs) zero = refl
  no_entry (x ∷ xs) (suc i) = no_entry xs i

  pub untouched_paired : (xs : List X) → ArePaired (untouched xs)
  untouched_paired xs = let n : ℕ = length (untouched xs) in record {
    own = λ i. subst (AllOwn n i) (sym (no_entry xs i)) (All-nil _);
    paired = λ low high. ap (pairing n low high) (no_entry xs low ∙ sym (no_entry xs high));
  }
