-- After its turns are given back a seat has none.
use Rattle.std.proofs.Common.{◌≡◌, ◌≢◌, ℕ, ◌∙◌, List, [], ◌∷◌, ◌++◌, set, sym, subst, ⊎_elim, Option, Some, None, zero, suc, replicate, length}
use mathlib.Core.Option.{some, some-injective, some-ne-none}
use lib.ListN.{get_elem?}
use Rattle.atomic_table.proofs.Lists.{at_set}
use Rattle.atomic_table.specs.Seated.{TableId}
use Rattle.tn_turns.specs.declared.seats.TurnSeat.{TurnSeat}
use Rattle.tn_turns.specs.Words.{seat_table, number_of, outs_of}
use Rattle.tn_turns.specs.Returned.{AllReturned}
use Rattle.tn_turns.proofs.ByIndex.{at_end}
use Rattle.tn_turns.specs.Outs.{LacksAll}

module _ {T : Type 0} where
  none_some : (x : T) → None ≡ Some x → ⊥
  none_some x e = cc

  -- all but the turn i are free
  abbrev FreeBut : ℕ → List (Option T) → Type 0
  FreeBut i outs = (k : ℕ) (x : T) → k ≢ i → get_elem? outs k ≢ some (Some x)

  given_back : (i : ℕ) (outs : List (Option T)) → FreeBut i outs → LacksAll (set outs i None)
  given_back i outs f k x e = ⊎_elim (λ (t : (k ≡ i) × (None ≡ Some x)). none_some x t.1) (λ (t : (k ≢ i) × (get_elem? outs k ≡ some (Some x))). f k x t.0 t.1) (at_set outs i k None (Some x) e)

  but_one : (i : ℕ) (o : Option T) (outs : List (Option T)) → LacksAll outs → FreeBut i (set outs i o)
  but_one i o outs f k x n e = ⊎_elim (λ (t : (k ≡ i) × (o ≡ Some x)). n t.0) (λ (t : (k ≢ i) × (get_elem? outs k ≡ some (Some x))). f k x t.1) (at_set outs i k o (Some x) e)

  pub other_free : (i j : ℕ) (o : Option T) (outs outs₁ : List (Option T)) → j ≢ i → LacksAll outs → outs₁ ≡ set outs i o → (x : T) → get_elem? outs₁ j ≢ some (Some x)
  other_free i j o outs outs₁ n f is x e = but_one i o outs f j x n (subst (λ os. get_elem? os j ≡ some (Some x)) is e)

  pub free_one : (i : ℕ) (o : Option T) (outs outs₁ outs₂ : List (Option T)) → LacksAll outs → outs₁ ≡ set outs i o → outs₂ ≡ set outs₁ i None → LacksAll outs₂
  free_one i o outs outs₁ outs₂ f p q = subst LacksAll (sym (q ∙ (λ t. set (p t) i None))) (given_back i (set outs i o) (but_one i o outs f))

  pub free_two : (i j : ℕ) (o p : Option T) (outs : List (Option T)) → LacksAll outs → LacksAll (set (set (set (set outs i o) j p) i None) j None)
  free_two i j o p outs f = given_back j _ (λ k x n e. ⊎_elim (λ (t : (k ≡ i) × (None ≡ Some x)). none_some x t.1)
      (λ (t : (k ≢ i) × (get_elem? (set (set outs i o) j p) k ≡ some (Some x))).
      ⊎_elim (λ (u : (k ≡ j) × (p ≡ Some x)). n u.0) (λ (u : (k ≢ j) × (get_elem? (set outs i o) k ≡ some (Some x))). but_one i o outs f k x t.0 u.1)
      (at_set (set outs i o) j k p (Some x) t.1))
      (at_set (set (set outs i o) j p) i k None (Some x) e))

  pub none_out : (n : ℕ) → LacksAll {T = T} (replicate n None)
  none_out zero i x e = some-ne-none (Some x) (sym e)
  none_out (suc n) zero x e = none_some x (some-injective None (Some x) e)
  none_out (suc n) (suc i) x e = none_out n i x e

  pub one_more : (id : TableId) (seats : List (TurnSeat T)) (s : TurnSeat T) → seat_table s ≡ id → number_of s ≡ length seats → LacksAll (outs_of s) → AllReturned id seats → AllReturned id (seats ++ s ∷ [])
  one_more id seats s table number free all k t e = ⊎_elim (all k t) (λ (p : (k ≡ length seats) × (s ≡ t)). subst (λ (z : TurnSeat T). (seat_table z ≡ id) × (number_of z ≡ k) × LacksAll (outs_of z)) p.1 (table, number ∙ sym p.0, free)) (at_end seats s t k e)
