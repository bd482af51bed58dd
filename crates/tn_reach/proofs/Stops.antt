-- The first board at fault.
use Rattle.std.proofs.Common.{ℕ, zero, suc, ◌≡◌, ◌≤◌, ◌<◌, ◌+◌, ◌-◌, List, ◌∷◌, length, refl, ap, sym, ◌∙◌, arith, inl, inr}
use Rattle.std.specs.List.{range_with_len}
use Rattle.std.specs.declared.option.Option.{Option}
use Rattle.std.specs.declared.option.Option.TheVariants.{Some, None}
use Rattle.std.proofs.lemmas.Bool.{cases_eq}
use Rattle.tn_base.specs.declared.shape.ShapeNumbers.{ShapeNumbers}
use Rattle.tn_base.specs.Parts.{board_at, board_count}
use Rattle.tn_keys.specs.declared.fault.TableFault.{TableFault}
use Rattle.tn_keys.specs.Accepted.{Accepted, board_fault}
use Rattle.tn_keys.specs.Tables.{Table}
use Rattle.tn_reach.specs.declared.check.TableStop.{TableStop}
use Rattle.tn_reach.specs.declared.check.TableStop.TheVariants.{Fault}
use Rattle.tn_reach.specs.Check.{first_stop, stop_at, table_stop}

from_here : (a n : ℕ) → a < n → range_with_len a (n - a) ≡ a ∷ range_with_len (a + 1) (n - (a + 1))
from_here a n l = let e : n - a ≡ suc (n - (a + 1)) = omega arith in rw e refl

pub stop_here : (f : ℕ → Option TableFault) (a n : ℕ) (fault : TableFault) (x : Option TableStop) → first_stop f (range_with_len a (n - a)) ≡ x → a < n → f a ≡ Some fault → Some (Fault a fault) ≡ x
stop_here f a n fault x h l e =
    sym (ap (first_stop f) (from_here a n l) ∙ ap (λ o. stop_at a o (first_stop f (range_with_len (a + 1) (n - (a + 1))))) e) ∙ h

pub stop_later : (f : ℕ → Option TableFault) (a n : ℕ) (x : Option TableStop) → first_stop f (range_with_len a (n - a)) ≡ x → a < n → f a ≡ None → first_stop f (range_with_len (a + 1) (n - (a + 1))) ≡ x
stop_later f a n x h l e =
    sym (ap (first_stop f) (from_here a n l) ∙ ap (λ o. stop_at a o (first_stop f (range_with_len (a + 1) (n - (a + 1))))) e) ∙ h

none_first : (i : ℕ) (o : Option TableFault) (others : Option TableStop) → stop_at i o others ≡ None → (o ≡ None) × (others ≡ None)
none_first i None others h = (refl, h)
none_first i (Some fault) others h = absurd (cc)

no_stops : (f : ℕ → Option TableFault) (k a i : ℕ) → first_stop f (range_with_len a k) ≡ None → a ≤ i → i < a + k → f i ≡ None
no_stops f zero a i h low high = absurd (omega arith)
no_stops f (suc k) a i h low high =
    let p = none_first a (f a) (first_stop f (range_with_len (a + 1) k)) h in
    elim (cases_eq a i) [
      | inl same ↦ ap f (sym same) ∙ p.0
      | inr other ↦ no_stops f k (a + 1) i p.1 (let n = other in grind arith) (omega arith)
    ]

pub accepted : (n : ShapeNumbers) (ts : List Table) → length ts ≡ board_count n → table_stop n ts ≡ None → Accepted n ts
accepted n ts c h = record { count = c; faultless = λ i l. no_stops (λ j. board_fault n ts (board_at n j)) (board_count n) 0 i h (omega arith) (omega arith) }
