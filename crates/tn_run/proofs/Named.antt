-- The address of each thread of each tile.
use Rattle.std.proofs.Common.{◌≡◌, ℕ, ◌+◌, ◌*◌, ◌/◌, ◌%◌, ◌<◌, arith}
use Rattle.std.proofs.Math.Nat.{mul-add-div_right, mul-add-mod_self_right, div-lt_iff_lt-mul}
use Rattle.std.proofs.lemmas.Nat.{div-mul-add, mod-mul-add}
use Rattle.tn_base.specs.declared.shape.ShapeNumbers.{ShapeNumbers}
use Rattle.tn_base.specs.Address.{above, in_tile, thread_at, tile_threads}
use Rattle.tn_base.specs.Parts.{tile_at}

joined : (g t q r c : ℕ) → ((g * 4 + q) * 16 + r) ≡ g * 64 + q * 16 + r
joined g t q r c = omega arith

thread_is : (th c t k : ℕ) (g : ℕ → ℕ) → 0 < th → k < c * th → above 16 th (above 4 c g) (t * (c * th) + k) ≡ g t * 64 + k / th * 16 + k % th
thread_is th c t k g some below =
    let flat : t * (c * th) ≡ t * c * th = omega arith in
    let q : (t * (c * th) + k) / th ≡ t * c + k / th = rw flat (mul-add-div_right some (t * c) k) in
    let r : (t * (c * th) + k) % th ≡ k % th = rw flat (mul-add-mod_self_right (t * c) th k) in
    let low : k / th < c = (div-lt_iff_lt-mul {k = th} {x = k} {y = c} some).1 below in
    let a : (t * c + k / th) / c ≡ t = div-mul-add t c (k / th) low in
    let b : (t * c + k / th) % c ≡ k / th = mod-mul-add t c (k / th) low in
    rw (q, r, a, b) (joined (g t) t (k / th) (k % th) c)

pub thread_named : (n : ShapeNumbers) (t k : ℕ) → 0 < n.threads → k < tile_threads n → thread_at n (t * tile_threads n + k) ≡ in_tile n (tile_at n t) k
thread_named n t k some below = thread_is n.threads n.cores t k (above 4 n.tiles_x (above 4 n.tiles_y (above 4 n.boards_x (λ i. i)))) some below
