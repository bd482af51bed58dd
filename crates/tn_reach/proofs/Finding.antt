-- The faults of a board, from the records and the marks of its beats.
use Rattle.std.proofs.Common.{ℕ, ◌≡◌, ◌+◌, Bool, ltb, ◌||◌, List, [], ◌∷◌, map, refl, ap, sym, ◌∙◌, arith, inl, inr}
use Rattle.std.specs.List.{list_any, sum_by}
use Rattle.std.proofs.lemmas.Bool.{cases_lt, le-ltb, lt-ltb}
use Rattle.std.proofs.lemmas.Bool.Decides.{nat_tests}
use Rattle.std.proofs.lemmas.List.Folds.{list_any-append}
use Rattle.std.proofs.lemmas.List.Sums.{sum_by-cons}
use Rattle.tn_base.specs.declared.ids.Board.{Board}
use Rattle.tn_base.specs.declared.shape.ShapeNumbers.{ShapeNumbers}
use Rattle.tn_keys.specs.declared.record.RouteRec.{RouteRec}
use Rattle.std.specs.declared.option.Option.TheVariants.{None}
use Rattle.tn_keys.specs.declared.fault.TableFault.TheVariants as fault
use Rattle.tn_keys.specs.Accepted.{bad_range, bad_thread, board_fault, chains, empty_mask, loops, off_machine, too_wide, unless}
use Rattle.tn_keys.specs.Tables.{Table, joined, table_of}
use Rattle.tn_reach.specs.declared.measure.Measure.TheVariants.{Chains, Weights}
use Rattle.tn_reach.specs.Marks.{capped, mark}

pub any_joined : (p : RouteRec → Bool) (beats : Table) → list_any p (joined beats) ≡ list_any (λ beat. list_any p beat) beats
any_joined p [] = refl
any_joined p (beat ∷ beats) = list_any-append p beat (joined beats) ∙ ap (λ b. list_any p beat || b) (any_joined p beats)

any_map : {A : Type 0} (p : ℕ → Bool) (f : A → ℕ) (xs : List A) → list_any p (map f xs) ≡ list_any (λ x. p (f x)) xs
any_map p f [] = refl
any_map p f (x ∷ xs) = ap (λ b. p (f x) || b) (any_map p f xs)

any_same : {A : Type 0} (p q : A → Bool) (xs : List A) → ((x : A) → p x ≡ q x) → list_any p xs ≡ list_any q xs
any_same p q [] e = refl
any_same p q (x ∷ xs) e = ap (λ b. b || list_any p xs) (e x) ∙ ap (λ b. q x || b) (any_same p q xs e)

wide : (v : ℕ) → ltb 65536 (capped v) ≡ ltb 65536 v
wide v = elim (cases_lt 65536 v) [
  | inl h ↦ lt-ltb 65536 (capped v) (omega arith) ∙ sym (lt-ltb 65536 v h)
  | inr h ↦ le-ltb 65536 (capped v) (omega arith) ∙ sym (le-ltb 65536 v h)
]

some : (v : ℕ) → ltb 0 (capped v) ≡ ltb 0 v
some v = elim (cases_lt 0 v) [
  | inl h ↦ lt-ltb 0 (capped v) (omega arith) ∙ sym (lt-ltb 0 v h)
  | inr h ↦ le-ltb 0 (capped v) (omega arith) ∙ sym (le-ltb 0 v h)
]

-- a sum is above 0 where one of its terms is
some_sum : (f : RouteRec → ℕ) (rs : List RouteRec) → ltb 0 (sum_by f rs) ≡ list_any (λ r. ltb 0 (f r)) rs
some_sum f [] = refl
some_sum f (r ∷ rs) = ap (ltb 0) (sum_by-cons f r rs) ∙ either (f r) (sum_by f rs) ∙ ap (λ b. ltb 0 (f r) || b) (some_sum f rs) where
  either : (a b : ℕ) → ltb 0 (a + b) ≡ (ltb 0 a || ltb 0 b)
  either a b = grind (arith, nat_tests)

pub loop_is : (n : ShapeNumbers) (ts : List Table) (b : Board) (beats : Table) (ms : List ℕ) → ms ≡ map (mark Chains 64 n ts b) beats → list_any (λ v. ltb 0 v) ms ≡ list_any (loops n ts b) (joined beats)
loop_is n ts b beats ms e =
    ap (list_any (λ v. ltb 0 v)) e ∙ any_map (λ v. ltb 0 v) (mark Chains 64 n ts b) beats
    ∙ any_same (λ beat. ltb 0 (mark Chains 64 n ts b beat)) (λ beat. list_any (loops n ts b) beat) beats (λ beat. some (sum_by (chains 64 n ts b) beat) ∙ some_sum (chains 64 n ts b) beat)
    ∙ sym (any_joined (loops n ts b) beats)

pub wide_is : (n : ShapeNumbers) (ts : List Table) (b : Board) (beats : Table) (ms : List ℕ) → ms ≡ map (mark Weights 64 n ts b) beats → list_any (λ v. ltb 65536 v) ms ≡ list_any (too_wide n ts b) beats
wide_is n ts b beats ms e =
    ap (list_any (λ v. ltb 65536 v)) e ∙ any_map (λ v. ltb 65536 v) (mark Weights 64 n ts b) beats
    ∙ any_same (λ beat. ltb 65536 (mark Weights 64 n ts b beat)) (too_wide n ts b) beats (λ beat. wide _)

-- the first fault of a board, from what its tests say
pub fault_is : (n : ShapeNumbers) (ts : List Table) (b : Board) (beats : Table) (p q r s t u : Bool) → beats ≡ table_of n ts b → p ≡ list_any (off_machine n b) (joined beats) → q ≡ list_any (bad_thread n) (joined beats) → r ≡ list_any empty_mask (joined beats)
    → s ≡ list_any (bad_range n ts b) (joined beats) → t ≡ list_any (loops n ts b) (joined beats) → u ≡ list_any (too_wide n ts b) beats
    → unless p fault.OffMachine (unless q fault.BadThread (unless r fault.EmptyMask (unless s fault.KeyRange (unless t fault.Loop (unless u fault.TooWide None))))) ≡ board_fault n ts b
fault_is n ts b beats p q r s t u e ep eq er es et eu = rw (← e, ← ep, ← eq, ← er, ← es, ← et, ← eu) refl
