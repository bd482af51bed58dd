-- How many pages of a memory are made.
use Rattle.std.proofs.Common.{ℕ, ◌+◌, ◌*◌, ◌≤◌, ◌≡◌, Bool, true, false, cond, List, ◌++◌, length, set, replicate, sym, ◌∙◌, ap, inl, inr, arith}
use Rattle.std.specs.List.{count_by}
use Rattle.std.proofs.lemmas.Bool.{cases_lt}
use Rattle.std.proofs.lemmas.List.{set_past}
use Rattle.std.proofs.lemmas.List.Folds.{sum_by-replicate}
use Rattle.std.proofs.lemmas.List.Sums.{sum_by-append, sum_by-set}

pub front_counted : (n m : ℕ) → count_by (λ (b : Bool). b) (replicate n true ++ replicate m false) ≡ n
front_counted n m =
    let a = sum_by-append (λ (b : Bool). cond b 1 0) (replicate n true) (replicate m false) in
    let t = sum_by-replicate (λ (b : Bool). cond b 1 0) n true in
    let f = sum_by-replicate (λ (b : Bool). cond b 1 0) m false in
    a ∙ rw (t, f) (omega arith)

pub one_more : (made : List Bool) (p : ℕ) → count_by (λ (b : Bool). b) (set made p true) ≤ count_by (λ (b : Bool). b) made + 1
one_more made p = elim (cases_lt p (length made)) [
  | inl h ↦ let e = sum_by-set (λ (b : Bool). cond b 1 0) made p true false h in omega arith
  | inr past ↦ rw (set_past made p true past) (omega arith)
]
