-- How many reports are missing, and what the reports sum to.
use Rattle.std.proofs.Common.{ℕ, zero, suc, ◌+◌, ◌*◌, ◌^◌, ◌<◌, ◌≤◌, ◌≡◌, ◌≢◌, ◌==◌, refl, sym, ◌∙◌, ap, subst, inl, inr, arith, cond, Bool, true, false, Option, Some, None, List, [], ◌∷◌, ◌++◌, length, take, drop, set, replicate, pos, is_some, sum_by}
use Rattle.std.specs.Prelude.{ℤ, ◌+ℤ◌, ◌≤ℤ◌, neg_ℤ, is_none}
use Rattle.std.specs.List.{list_all}
use Rattle.std.proofs.lemmas.Bool.{cases_eq, eq-eqb, ne_eqb}
use Rattle.std.proofs.lemmas.Int.{ints}
use Rattle.std.proofs.lemmas.List.{map-set, get_or-map, get_or-replicate, length-replicate, length-map, length-set, get_or-set_other, get_or-set_same, ext_get_or}
use Rattle.std.proofs.lemmas.List.Sums.{count_by-le-length, sum_by-cons, sum_by-set}
use Rattle.std.proofs.Math.Seq.{take-append_seam}
use Rattle.tn_detect.specs.declared.reports.Told.{Told}
use Rattle.tn_detect.specs.Reports.{number_of, report_at, sum_int, total}
use Rattle.tn_detect.proofs.Sums.{changed_sum, high_sum, low_sum, zero_sum}
use Rattle.tn_detect.specs.Told.{IsSummed, IsToldUntil, missing_in, shown, shown_in, told_by, told_in, untold}

-- one report is another one
pub total-set : (rs : List (Option ℤ)) (i : ℕ) (r : Option ℤ) → i < length rs → total (set rs i r) +ℤ number_of (report_at rs i) ≡ total rs +ℤ number_of r
total-set rs i r l =
    let other : (k : ℕ) → k < length rs → k ≢ i → number_of (report_at (set rs i r) k) ≡ number_of (report_at rs k) = λ k less ne. ap number_of (get_or-set_other rs i k r None ne) in
    let e = changed_sum (λ k. number_of (report_at rs k)) (λ k. number_of (report_at (set rs i r) k)) (length rs) i l other in
    let at : number_of (report_at (set rs i r) i) ≡ number_of r = ap number_of (get_or-set_same rs i r None l) in
    let long : length (set rs i r) ≡ length rs = length-set rs i r in
    let same : total (set rs i r) ≡ sum_int (λ k. number_of (report_at (set rs i r) k)) (length rs) = ap (sum_int (λ k. number_of (report_at (set rs i r) k))) long in
    omega (arith, ints)

pub total-replicate : (n : ℕ) → total (replicate n None) ≡ pos 0
total-replicate n =
    let long : length (replicate {A = Option ℤ} n None) ≡ n = length-replicate n None in
    zero_sum (λ k. number_of (report_at (replicate n None) k)) (length (replicate {A = Option ℤ} n None)) (λ k l. ap number_of (get_or-replicate n k None None (omega arith)))

-- no report is missing exactly if all parts have one
pub none_missing : (rs : List (Option ℤ)) → list_all is_some rs ≡ (sum_by missing_in rs == 0)
none_missing [] = refl
none_missing (None ∷ rs) = let e = sum_by-cons missing_in None rs in sym (ne_eqb (sum_by missing_in (None ∷ rs)) 0 (λ x. omega arith))
none_missing (Some r ∷ rs) = none_missing rs

-- all reports are missing
pub all_missing : (n : ℕ) → sum_by missing_in (replicate n None) ≡ n
all_missing zero = refl
all_missing (suc n) = let e = sum_by-cons missing_in None (replicate n None) in let r = all_missing n in omega arith

-- ---- what the parts told

pub number_low : (round : ℕ) (t : Told) → neg_ℤ (pos (2 ^ 63)) ≤ℤ t.counter → neg_ℤ (pos (2 ^ 63)) ≤ℤ number_of (shown round t)
number_low round t l = by (t.round == round) where
  by : (b : Bool) → neg_ℤ (pos (2 ^ 63)) ≤ℤ number_of (cond b (Some t.counter) None)
  by true = l
  by false = omega (arith, ints)

pub number_high : (round : ℕ) (t : Told) → t.counter ≤ℤ pos (2 ^ 63) → number_of (shown round t) ≤ℤ pos (2 ^ 63)
number_high round t l = by (t.round == round) where
  by : (b : Bool) → number_of (cond b (Some t.counter) None) ≤ℤ pos (2 ^ 63)
  by true = l
  by false = omega (arith, ints)

shown_at : (round : ℕ) (told : List Told) (k : ℕ) → k < length told → report_at (shown_in round told) k ≡ shown round (told_by told k)
shown_at round told k l = get_or-map (shown round) told k untold None l

-- the bounds that keep the count and the sum within their types
pub record AreBounded (told : List Told) (round : ℕ) : Type 0 where
  pub few : sum_by missing_in (shown_in round told) ≤ length told
  pub low : neg_ℤ (pos (length told * 2 ^ 63)) ≤ℤ total (shown_in round told)
  pub high : total (shown_in round told) ≤ℤ pos (length told * 2 ^ 63)

pub bounded : (told : List Told) (round : ℕ) → IsToldUntil round told → AreBounded told round
bounded told round u =
    let long : length (shown_in round told) ≡ length told = length-map told (shown round) in
    let same : total (shown_in round told) ≡ sum_int (λ k. number_of (report_at (shown_in round told) k)) (length told) = ap (sum_int (λ k. number_of (report_at (shown_in round told) k))) long in
    let low = low_sum (λ k. number_of (report_at (shown_in round told) k)) (length told) (λ k l.
    let e = ap number_of (shown_at round told k l) in let b = number_low round (told_by told k) (u.low k l) in omega (arith, ints)) in
    let high = high_sum (λ k. number_of (report_at (shown_in round told) k)) (length told) (λ k l.
    let e = ap number_of (shown_at round told k l) in let b = number_high round (told_by told k) (u.high k l) in omega (arith, ints)) in
    let some = count_by-le-length is_none (shown_in round told) in
    record { few = omega arith; low = omega (arith, ints); high = omega (arith, ints) }

-- ---- a part tells another report

pub told_shown : (round : ℕ) (r : Option ℤ) → 0 < round → shown round (told_in round r) ≡ r
told_shown round None l = ap (λ b. cond b (Some (pos 0)) None) (ne_eqb 0 round (λ e. omega arith))
told_shown round (Some c) l = ap (λ b. cond b (Some c) None) (eq-eqb round round refl)

pub shown-set : (round : ℕ) (told : List Told) (i : ℕ) (r : Option ℤ) → 0 < round → shown_in round (set told i (told_in round r)) ≡ set (shown_in round told) i r
shown-set round told i r l = map-set (shown round) told i (told_in round r) ∙ ap (set (shown_in round told) i) (told_shown round r l)

told_round : (round : ℕ) (r : Option ℤ) → (told_in round r).round ≤ round
told_round round None = omega arith
told_round round (Some c) = omega arith

told_number : (round : ℕ) (r : Option ℤ) → (told_in round r).counter ≡ number_of r
told_number round None = refl
told_number round (Some c) = refl

-- what holds of each that was told, and of another one, holds after the write
told_each : (P : Told → Type 0) (told : List Told) (i : ℕ) (t : Told) → P t → ((k : ℕ) → k < length told → P (told_by told k)) → (k : ℕ) → k < length (set told i t) → P (told_by (set told i t) k)
told_each P told i t here all k l =
    let long : length (set told i t) ≡ length told = length-set told i t in
    elim (cases_eq k i) [
      | inl e ↦ subst (λ x. P (told_by (set told i t) x)) (sym e) (subst P (sym (get_or-set_same told i t untold (omega arith))) here)
      | inr ne ↦ subst P (sym (get_or-set_other told i k t untold ne)) (all k (omega arith))
    ]

pub until-set : (told : List Told) (round i : ℕ) (r : Option ℤ) → neg_ℤ (pos (2 ^ 63)) ≤ℤ number_of r → number_of r ≤ℤ pos (2 ^ 63) → IsToldUntil round told → IsToldUntil round (set told i (told_in round r))
until-set told round i r low high u =
    let long : length (set told i (told_in round r)) ≡ length told = length-set told i (told_in round r) in
    let e = told_number round r in
    let few = u.few in
    record {
      few = omega arith;
      rounds = told_each (λ t. t.round ≤ round) told i (told_in round r) (told_round round r) u.rounds;
      low = told_each (λ t. neg_ℤ (pos (2 ^ 63)) ≤ℤ t.counter) told i (told_in round r) (omega (arith, ints)) u.low;
      high = told_each (λ t. t.counter ≤ℤ pos (2 ^ 63)) told i (told_in round r) (omega (arith, ints)) u.high;
    }

pub record Sets (told : List Told) (round i : ℕ) (r : Option ℤ) : Type 0 where
  pub missing : sum_by missing_in (shown_in round (set told i (told_in round r))) + missing_in (shown round (told_by told i)) ≡ sum_by missing_in (shown_in round told) + missing_in r
  pub sum : total (shown_in round (set told i (told_in round r))) +ℤ number_of (shown round (told_by told i)) ≡ total (shown_in round told) +ℤ number_of r

pub sets : (told : List Told) (round i : ℕ) (r : Option ℤ) → 0 < round → i < length told → Sets told round i r
sets told round i r some l =
    let long : length (shown_in round told) ≡ length told = length-map told (shown round) in
    let e = shown-set round told i r some in
    let at = shown_at round told i l in
    let count = sum_by-set missing_in (shown_in round told) i r None (omega arith) in
    let sum = total-set (shown_in round told) i r (omega arith) in
    record {
      missing = rw e (subst (λ x. sum_by missing_in (set (shown_in round told) i r) + missing_in x ≡ sum_by missing_in (shown_in round told) + missing_in r) at count);
      sum = rw e (subst (λ x. total (set (shown_in round told) i r) +ℤ number_of x ≡ total (shown_in round told) +ℤ number_of r) at sum);
    }

pub summed-set : (told : List Told) (round lacking i fewer : ℕ) (all another : ℤ) (r : Option ℤ) → IsSummed told round lacking all → i < length told → neg_ℤ (pos (2 ^ 63)) ≤ℤ number_of r → number_of r ≤ℤ pos (2 ^ 63)
    → fewer + missing_in (shown round (told_by told i)) ≡ lacking + missing_in r → another +ℤ number_of (shown round (told_by told i)) ≡ all +ℤ number_of r
    → IsSummed (set told i (told_in round r)) round fewer another
summed-set told round lacking i fewer all another r s l low high e f =
    let m = sets told round i r s.begun l in
    let a = m.missing in let b = m.sum in let c = s.missing in let d = s.sum in
    record { begun = s.begun; until = until-set told round i r low high s.until; missing = omega arith; sum = omega (arith, ints) }

-- ---- a round without reports

pub shown_nothing : (round : ℕ) (told : List Told) → ((k : ℕ) → k < length told → (told_by told k).round < round) → shown_in round told ≡ replicate (length told) None
shown_nothing round told before =
    let long : length (shown_in round told) ≡ length told = length-map told (shown round) in
    ext_get_or None (shown_in round told) (replicate (length told) None) (long ∙ sym (length-replicate (length told) None)) (λ k l.
    let b = before k (omega arith) in
    shown_at round told k (omega arith)
    ∙ (ap (λ t. cond t (Some (told_by told k).counter) None) (ne_eqb (told_by told k).round round (λ e. omega arith))
    ∙ sym (get_or-replicate (length told) k None None (omega arith))))

pub summed_nothing : (told : List Told) (last : ℕ) → IsToldUntil last told → IsSummed told (last + 1) (length told) (pos 0)
summed_nothing told last u =
    let e = shown_nothing (last + 1) told (λ k l. let r = u.rounds k l in omega arith) in
    record {
      begun = omega arith;
      until = record { few = u.few; rounds = λ k l. (let r = u.rounds k l in omega arith); low = u.low; high = u.high };
      missing = sym (ap (sum_by missing_in) e ∙ all_missing (length told));
      sum = sym (ap total e ∙ total-replicate (length told));
    }

pub until_nothing : (n round : ℕ) → n < 2 ^ 32 → IsToldUntil round (replicate n untold)
until_nothing n round l =
    let long : length (replicate n untold) ≡ n = length-replicate n untold in
    let at : (k : ℕ) → k < length (replicate n untold) → told_by (replicate n untold) k ≡ untold = λ k less. get_or-replicate n k untold untold (omega arith) in
    record {
      few = omega arith;
      rounds = λ k less. subst (λ (t : Told). t.round ≤ round) (sym (at k less)) (omega arith);
      low = λ k less. subst (λ (t : Told). neg_ℤ (pos (2 ^ 63)) ≤ℤ t.counter) (sym (at k less)) (omega (arith, ints));
      high = λ k less. subst (λ (t : Told). t.counter ≤ℤ pos (2 ^ 63)) (sym (at k less)) (omega (arith, ints));
    }

-- ---- what the calls meet

pub within : (round : ℕ) (told : List Told) (now : List (Option ℤ)) (i : ℕ) → shown_in round told ≡ now → i < length now → i < length told
within round told now i e l =
    let long : length (shown_in round told) ≡ length told = length-map told (shown round) in
    let same : length (shown_in round told) ≡ length now = ap length e in
    omega arith

pub summed_start : (n : ℕ) (told : List Told) → told ≡ replicate n untold → n < 2 ^ 32 → IsSummed told 1 n (pos 0)
summed_start n told e l =
    let long : length (replicate n untold) ≡ n = length-replicate n untold in
    subst (λ xs. IsSummed xs 1 n (pos 0)) (sym e) (subst (λ k. IsSummed (replicate n untold) 1 k (pos 0)) long (summed_nothing (replicate n untold) 0 (until_nothing n 0 l)))

pub shown_start : (n : ℕ) (told : List Told) → told ≡ replicate n untold → shown_in 1 told ≡ replicate n None
shown_start n told e =
    let long : length (replicate n untold) ≡ n = length-replicate n untold in
    ap (shown_in 1) e
    ∙ (shown_nothing 1 (replicate n untold) (λ k l. subst (λ (t : Told). t.round < 1) (sym (get_or-replicate n k untold untold (omega arith))) (omega arith))
    ∙ ap (λ k. replicate k None) long)

pub missing_le : (r : Option ℤ) → missing_in r ≤ 1
missing_le None = omega arith
missing_le (Some c) = omega arith

pub take_all : (xs ys : List Told) (n : ℕ) → n ≡ length xs → take n (xs ++ drop (length xs) ys) ≡ xs
take_all xs ys n e = ap (λ k. take k (xs ++ drop (length xs) ys)) e ∙ take-append_seam xs (drop (length xs) ys)
