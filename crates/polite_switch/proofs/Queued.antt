-- Exactly the ready devices are in the queue, each once.
use Rattle.std.proofs.Common.{ℕ, zero, suc, ◌+◌, ◌<◌, ◌≤◌, ◌≡◌, ◌≢◌, ◌==◌, ◌∙◌, ◌&&◌, ◌||◌, not, Bool, true, false, cond, List, [], ◌∷◌, ◌++◌, length, get_or, set, replicate, refl, sym, ap, inl, inr, arith, nat_lt}
use Rattle.std.specs.Bool.{OnTrue}
use Rattle.std.specs.List.{count_by}
use Rattle.std.proofs.Common.{get_or-set_same, get_or-set_other}
use Rattle.std.proofs.lemmas.Bool.{cases_eq, eq-eqb, ne_eqb}
use Rattle.std.proofs.lemmas.Bool.Decides.{nat_tests}
use Rattle.std.proofs.lemmas.List.{length_push}
use Rattle.std.proofs.lemmas.List.Filters.{length-filter_both}
use Rattle.std.proofs.lemmas.List.Sums.{count_by-le-length, length-filter, sum_by-cons, sum_by-set, sum_by_push}
use Rattle.polite_switch.specs.declared.ready.Mark.{Mark}
use Rattle.polite_switch.specs.ReadyModel.{ReadyModel}
use Rattle.polite_switch.specs.Ready.{WellQueued, after_joining, after_leaving, fresh_ready, is_ready, joins, leaves, mark_at, no_mark, put_active, put_ready, times, without}

abbrev one : Bool → ℕ
one b = cond b 1 0

times-cons : (x y : ℕ) (ys : List ℕ) → times x (y ∷ ys) ≡ one (y == x) + times x ys
times-cons x y ys = sum_by-cons (λ z. one (z == x)) y ys

times_push : (x : ℕ) (ys : List ℕ) (y : ℕ) → times x (ys ++ y ∷ []) ≡ times x ys + one (y == x)
times_push x ys y = sum_by_push (λ z. one (z == x)) ys y

-- what is taken out is there no more
times_gone : (d : ℕ) (q : List ℕ) → times d (without d q) ≡ 0
times_gone d [] = refl
times_gone d (y ∷ ys) = at (y == d) refl (times_gone d ys) where
  at : (b : Bool) → b ≡ (y == d) → times d (without d ys) ≡ 0 → times d (cond (not b) (y ∷ without d ys) (without d ys)) ≡ 0
  at true e h = h
  at false e h = let s = times-cons d y (without d ys) in let o : one (y == d) ≡ 0 = ap one (sym e) in omega arith

-- all else stays
times_stays : (d x : ℕ) (q : List ℕ) → x ≢ d → times x (without d q) ≡ times x q
times_stays d x [] ne = refl
times_stays d x (y ∷ ys) ne = at (y == d) refl (times_stays d x ys ne) where
  at : (b : Bool) → b ≡ (y == d) → times x (without d ys) ≡ times x ys → times x (cond (not b) (y ∷ without d ys) (without d ys)) ≡ times x (y ∷ ys)
  at true e h =
      let s = times-cons x y ys in
      let o : one (y == x) ≡ 0 = elim (cases_eq y x) [ inl q ↦ absurd (elim (cases_eq y d) [ inl p ↦ ne (sym q ∙ p) | inr p ↦ absurd (let f = ne_eqb y d p in cc) ]) | inr p ↦ ap one (ne_eqb y x p) ] in
      omega arith
  at false e h = let s = times-cons x y (without d ys) in let t = times-cons x y ys in omega arith

-- a device that is in the queue once leaves it shorter by one
length_without : (d : ℕ) (q : List ℕ) → length (without d q) + times d q ≡ length q
length_without d q =
    let a = length-filter_both (λ x. not (x == d)) (λ x. x == d) (λ x. opposite (x == d)) q in
    let b = length-filter (λ x. x == d) q in
    omega arith
  where
    opposite : (b : Bool) → b ≡ not (not b)
    opposite true = refl
    opposite false = refl

-- how often the device and the others are in the queue after it, and how long it is
times_after : (d : ℕ) (l j : Bool) (q : List ℕ) → times d (after_joining j d (after_leaving l d q)) ≡ cond l 0 (times d q) + one j
times_after d true true q = let a = times_push d (without d q) d in let b = times_gone d q in let e = ap one (eq-eqb d d refl) in omega arith
times_after d true false q = let b = times_gone d q in omega arith
times_after d false true q = let a = times_push d q d in let e = ap one (eq-eqb d d refl) in omega arith
times_after d false false q = omega arith

times_other : (d x : ℕ) (l j : Bool) (q : List ℕ) → x ≢ d → times x (after_joining j d (after_leaving l d q)) ≡ times x q
times_other d x true true q ne = let a = times_push x (without d q) d in let b = times_stays d x q ne in let e = ap one (ne_eqb d x (λ p. ne (sym p))) in omega arith
times_other d x true false q ne = times_stays d x q ne
times_other d x false true q ne = let a = times_push x q d in let e = ap one (ne_eqb d x (λ p. ne (sym p))) in omega arith
times_other d x false false q ne = refl

length_after : (d : ℕ) (l j : Bool) (q : List ℕ) → length (after_joining j d (after_leaving l d q)) + cond l (times d q) 0 ≡ length q + one j
length_after d true true q = let a = length_push (without d q) d in let b = length_without d q in omega arith
length_after d true false q = let b = length_without d q in omega arith
length_after d false true q = let a = length_push q d in omega arith
length_after d false false q = omega arith

zero_test : (n : ℕ) → (n == 0) ≡ not (nat_lt 0 n)
zero_test n = grind (arith, nat_tests)

-- the two tests of a device's old and new readiness, and whether its send handler returned
place_bits : (was now sent : Bool) → cond (was && (sent || not now)) 0 (one was) + one (now && (sent || not was)) ≡ one now
place_bits true true true = omega arith
place_bits true true false = omega arith
place_bits true false true = omega arith
place_bits true false false = omega arith
place_bits false true true = omega arith
place_bits false true false = omega arith
place_bits false false true = omega arith
place_bits false false false = omega arith

left_bits : (was now sent : Bool) → cond (was && (sent || not now)) (one was) 0 + one now ≡ one was + one (now && (sent || not was))
left_bits true true true = omega arith
left_bits true true false = omega arith
left_bits true false true = omega arith
left_bits true false false = omega arith
left_bits false true true = omega arith
left_bits false true false = omega arith
left_bits false false true = omega arith
left_bits false false false = omega arith

place_after : (was now : ℕ) (sent : Bool) → cond (leaves was now sent) 0 (one (nat_lt 0 was)) + one (joins was now sent) ≡ one (nat_lt 0 now)
place_after was now sent = rw (zero_test now, zero_test was) (place_bits (nat_lt 0 was) (nat_lt 0 now) sent)

left_after : (was now : ℕ) (sent : Bool) → cond (leaves was now sent) (one (nat_lt 0 was)) 0 + one (nat_lt 0 now) ≡ one (nat_lt 0 was) + one (joins was now sent)
left_after was now sent = rw (zero_test now, zero_test was) (left_bits (nat_lt 0 was) (nat_lt 0 now) sent)

cond_same : (b : Bool) (m n x : ℕ) → m ≡ n → cond b x m ≡ cond b x n
cond_same true m n x e = refl
cond_same false m n x e = e

cond_first : (b : Bool) (m n x : ℕ) → m ≡ n → cond b m x ≡ cond b n x
cond_first true m n x e = e
cond_first false m n x e = refl

pub put_kept : (r : ReadyModel) (d now : ℕ) (sent : Bool) → WellQueued r → d < length r.marks → WellQueued (put_ready d now sent r)
put_kept r d now sent h there = record {
  each = λ x. elim (cases_eq x d) [
    | inl e ↦
        let was = (mark_at r.marks d).ready in
        let a = times_after d (leaves was now sent) (joins was now sent) r.queue in
        let b = cond_same (leaves was now sent) _ _ 0 (h.each d) in
        let p = place_after was now sent in
        rw (e, get_or-set_same) (a ∙ ap (λ n. n + one (joins was now sent)) b ∙ p)
    | inr ne ↦
        let was = (mark_at r.marks d).ready in
        rw get_or-set_other (times_other d x (leaves was now sent) (joins was now sent) r.queue ne ∙ h.each x)
  ];
  long =
      let was = (mark_at r.marks d).ready in
      let new : Mark = record { ready = now; active = (mark_at r.marks d).active } in
      let a = length_after d (leaves was now sent) (joins was now sent) r.queue in
      let b = cond_first (leaves was now sent) _ _ 0 (h.each d) in
      let p = left_after was now sent in
      let s = sum_by-set (λ m. one (is_ready m)) r.marks d new no_mark there in
      let l = h.long in
      omega arith;
}

-- a device that joins finds room
pub room_after : (r : ReadyModel) (d now : ℕ) (sent : Bool) → WellQueued r → d < length r.marks → joins (mark_at r.marks d).ready now sent ≡ true
    → length (after_leaving (leaves (mark_at r.marks d).ready now sent) d r.queue) < length r.marks
room_after r d now sent h there j =
    let was = (mark_at r.marks d).ready in
    let k = put_kept r d now sent h there in
    let a = length_after d (leaves was now sent) true r.queue in
    let n : length (put_ready d now sent r).queue ≡ length (after_leaving (leaves was now sent) d r.queue ++ d ∷ []) = ap (λ b. length (after_joining b d (after_leaving (leaves was now sent) d r.queue))) j in
    let l = length_push (after_leaving (leaves was now sent) d r.queue) d in
    let c = count_by-le-length is_ready (put_ready d now sent r).marks in
    let m = k.long in
    let s = same_length r.marks d (record { ready = now; active = (mark_at r.marks d).active }) in
    omega arith
  where
    same_length : (ms : List Mark) (i : ℕ) (m : Mark) → length (set ms i m) ≡ length ms
    same_length [] i m = refl
    same_length (x ∷ xs) zero m = refl
    same_length (x ∷ xs) (suc i) m = ap suc (same_length xs i m)

pub active_kept : (r : ReadyModel) (d : ℕ) (active : Bool) → WellQueued r → d < length r.marks → WellQueued (put_active d active r)
active_kept r d active h there = record {
  each = λ x. elim (cases_eq x d) [
    | inl e ↦ rw (e, get_or-set_same) (h.each d)
    | inr ne ↦ rw get_or-set_other (h.each x)
  ];
  long =
      let s = sum_by-set (λ m. one (is_ready m)) r.marks d (record { ready = (mark_at r.marks d).ready; active = active }) no_mark there in
      let l = h.long in
      omega arith;
}

pub fresh_kept : (n : ℕ) → WellQueued (fresh_ready n)
fresh_kept n = record { each = λ d. none n d; long = sym (count n) } where
  none : (n d : ℕ) → 0 ≡ one (is_ready (mark_at (fresh_ready n).marks d))
  none zero d = refl
  none (suc n) zero = refl
  none (suc n) (suc d) = none n d

  count : (n : ℕ) → count_by is_ready (fresh_ready n).marks ≡ 0
  count zero = refl
  count (suc n) = let s = sum_by-cons (λ m. one (is_ready m)) (record { ready = 0; active = true }) (fresh_ready n).marks in let c = count n in omega arith

pub room_for : (r : ReadyModel) (d now room : ℕ) (sent leaving joining : Bool) → WellQueued r → length r.marks ≤ room → d < length r.marks
    → leaving ≡ leaves (mark_at r.marks d).ready now sent → joining ≡ joins (mark_at r.marks d).ready now sent → OnTrue joining (length (after_leaving leaving d r.queue) < room)
room_for r d now room sent leaving true h few there l j =
    let a = room_after r d now sent h there (sym j) in
    let b : length (after_leaving leaving d r.queue) ≡ length (after_leaving (leaves (mark_at r.marks d).ready now sent) d r.queue) = ap (λ b. length (after_leaving b d r.queue)) l in
    omega arith
room_for r d now room sent leaving false h few there l j = tt

pub put_as : (r : ReadyModel) (d now : ℕ) (sent leaving joining : Bool) (mark : Mark) (queue : List ℕ) → WellQueued r → d < length r.marks
    → mark ≡ mark_at r.marks d → leaving ≡ leaves mark.ready now sent → joining ≡ joins mark.ready now sent → queue ≡ after_joining joining d (after_leaving leaving d r.queue)
    → WellQueued (record { marks = set r.marks d (record { ready = now; active = mark.active }); queue = queue })
put_as r d now sent leaving joining mark queue h there m l j q = rw (q, l, j, m) (put_kept r d now sent h there)

pub fresh_as : (n : ℕ) (marks : List Mark) (queue : List ℕ) → marks ≡ replicate n (record { ready = 0; active = true }) → queue ≡ [] → WellQueued (record { marks = marks; queue = queue })
fresh_as n marks queue m q = rw (m, q) (fresh_kept n)

in_marks : (ms : List Mark) (d : ℕ) → 0 < one (is_ready (mark_at ms d)) → d < length ms
in_marks [] d h = absurd (omega arith)
in_marks (m ∷ ms) zero h = omega arith
in_marks (m ∷ ms) (suc d) h = let r = in_marks ms d h in omega arith

-- the first of the queue is a device
pub first_there : (marks : List Mark) (q : List ℕ) (d : ℕ) → WellQueued (record { marks = marks; queue = q }) → 0 < length q → d ≡ get_or q 0 d → d < length marks
first_there marks [] d h l e = absurd (omega arith)
first_there marks (x ∷ xs) d h l e =
    let t = times-cons d x xs in
    let o : one (x == d) ≡ 1 = ap one (eq-eqb x d (sym e)) in
    let r = h.each d in
    in_marks marks d (omega arith)
