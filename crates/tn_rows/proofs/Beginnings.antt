-- A beginning of a merge has a beginning of each journal.
use Rattle.std.proofs.Common.{◌≡◌, ◌∙◌, ◌++◌, ◌∷◌, [], ℕ, List, filter, map, sym, ap, inl, inr}
use Rattle.std.proofs.lemmas.List.{map-append}
use Rattle.std.proofs.lemmas.List.Elements.{filter-append}
use Rattle.tn_stamp.specs.declared.entry.Entry.{Entry}
use Rattle.tn_stamp.specs.Merging.{Placed, IsBefore, IsInOrder, IsMergeOf, entries_at, is_on, of_part}
use Rattle.tn_stamp.specs.Pairs.{pair_of}
use Rattle.tn_stamp.proofs.Merged.{Among, from_all}
use Rattle.std.specs.Prelude.{length}

pub of_part-append : (n i : ℕ) (xs ys : List Placed) → of_part n i (xs ++ ys) ≡ of_part n i xs ++ of_part n i ys
of_part-append n i xs ys =
    ap (map (λ (x : Placed). x.entry)) (filter-append (λ (x : Placed). is_on (pair_of n x.entry.event) x.part i) xs ys)
    ∙ map-append (λ (x : Placed). x.entry) (filter (λ x. is_on (pair_of n x.entry.event) x.part i) xs) (filter (λ x. is_on (pair_of n x.entry.event) x.part i) ys)

-- the journal of part i is what the beginning has of it, and what the rest has
pub journal_split : (js : List (List Entry)) (xs ys : List Placed) (i : ℕ) → IsMergeOf js (xs ++ ys) → entries_at js i ≡ of_part (length js) i xs ++ of_part (length js) i ys
journal_split js xs ys i m = sym (m.each i) ∙ of_part-append (length js) i xs ys

right : (xs ys : List Placed) (y : Placed) → Among y ys → Among y (xs ++ ys)
right [] ys y h = h
right (x ∷ xs) ys y h = inr (right xs ys y h)

-- all of the beginning is before all of the rest
pub before_rest : (xs ys : List Placed) (x y : Placed) → IsInOrder (xs ++ ys) → Among x xs → Among y ys → IsBefore x y
before_rest [] ys x y o h k = absurd h
before_rest (z ∷ xs) ys x y o (inl e) k = rw e (from_all (IsBefore z) (xs ++ ys) y o.0 (right xs ys y k))
before_rest (z ∷ xs) ys x y o (inr h) k = before_rest xs ys x y o.1 h k
