-- How many vertices each thread takes.
use Rattle.std.proofs.Common.{suc, zero, ◌≡◌, ◌<◌, ◌≤◌, ℕ, ◌+◌, ◌-◌, ◌*◌, ◌/◌, ◌%◌, arith, ap, ◌∙◌, sym}
use Rattle.std.proofs.Math.Nat.{div-lt_iff_lt-mul, div-add-mod, lt-div-mul-add, mul_comm, mul-pos}
use Rattle.tn_base.specs.declared.shape.ShapeNumbers.{ShapeNumbers}
use Rattle.tn_base.specs.Shape.{WithinLimits, thread_count}

pub some_threads : (n : ShapeNumbers) → WithinLimits n → 0 < thread_count n
some_threads n l =
    mul-pos (mul-pos (mul-pos (mul-pos (mul-pos l.boards_x.0 l.boards_y.0) l.tiles_x.0) l.tiles_y.0) l.cores.0) l.threads.0

pub enough : (v t : ℕ) → 0 < t → v ≤ t * ((v + t - 1) / t)
enough v t h =
    let a : v + t - 1 < (v + t - 1) / t * t + t = lt-div-mul-add h in
    let c = mul_comm ((v + t - 1) / t) t in
    omega arith

pub share_some : (t v share p : ℕ) → v ≤ t * share → p < v → 0 < share
share_some t v zero p h l = let e : t * 0 ≡ 0 = omega arith in absurd (omega arith)
share_some t v (suc s) p h l = omega arith

-- a place below t * share is of one of t threads
pub thread_below : (k share t : ℕ) → 0 < share → k < t * share → k / share < t
thread_below k share t h l = (div-lt_iff_lt-mul h).1 l

pub share_few : (v t per : ℕ) → 0 < t → v ≤ t * per → (v + t - 1) / t ≤ per
share_few v t per h l =
    let c = mul_comm t per in
    let e : (per + 1) * t ≡ per * t + t = omega arith in
    let b : (v + t - 1) / t < per + 1 = (div-lt_iff_lt-mul h).1 (omega arith) in
    omega arith

-- quotient and remainder make the number
pub both_same : (j k share : ℕ) → j / share ≡ k / share → j % share ≡ k % share → j ≡ k
both_same j k share p q =
    sym (div-add-mod j share) ∙ ap (λ x. share * x + j % share) p ∙ ap (λ x. share * (k / share) + x) q ∙ div-add-mod k share
