-- Lists that are made for the numbers of a range.
use Rattle.std.proofs.Common.{ℕ, ◌≡◌, ◌+◌, ◌++◌, ◌∷◌, [], ◌∙◌, List, ap, arith, flat_map, sym}
use Rattle.std.specs.List.{range_with_len}
use Rattle.std.proofs.lemmas.List.{flat_map_more, map-id}
use Rattle.std.proofs.lemmas.List.FromFn.{map-range_with_len_more}

range_more : (n : ℕ) → range_with_len 0 (n + 1) ≡ range_with_len 0 n ++ n ∷ []
range_more n =
    sym (map-id (range_with_len 0 (n + 1))) ∙ map-range_with_len_more (λ x. x) 0 n n (omega arith) ∙ ap (λ xs. xs ++ n ∷ []) (map-id (range_with_len 0 n))

-- the list of one more number, behind those of the numbers before it
pub each_more : {X : Type 0} (f : ℕ → List X) (bs : List X) (n : ℕ) → (bs ++ flat_map f (range_with_len 0 n)) ++ f n ≡ bs ++ flat_map f (range_with_len 0 (n + 1))
each_more f bs n = flat_map_more f bs (range_with_len 0 n) n ∙ ap (λ xs. bs ++ flat_map f xs) (sym (range_more n))
