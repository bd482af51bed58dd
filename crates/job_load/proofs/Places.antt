-- A thread's place among those of the machine.
use Rattle.std.proofs.Common.{ℕ, ◌≡◌, ◌<◌, ◌+◌, ◌*◌, ◌/◌, ◌%◌, ◌∙◌, IsTrue, refl, arith}
use Rattle.std.proofs.lemmas.Nat.{div-mul-add, mod-mul-add, mul-add-lt}
use Rattle.tn_base.specs.declared.shape.ShapeNumbers.{ShapeNumbers}
use Rattle.tn_base.specs.Address.{has_thread, has_tile, in_tile, place_in_tile, thread_at, tile_of, tile_place, tile_threads}
use Rattle.tn_base.specs.Parts.{tile_at, tile_count}
use Rattle.tn_base.specs.Shape.{WithinLimits, thread_count}
use Rattle.job_load.specs.Graph.{place_of}
use Rattle.tn_base.proofs.TilePlaces.{fields, place_back, place_below, place_there, tile_found}

-- the address of the thread whose digits are a tile, a core and a thread
at_digits : (n : ShapeNumbers) (p c t : ℕ) → c < n.cores → t < n.threads → thread_at n (p * tile_threads n + (c * n.threads + t)) ≡ tile_at n p + c * 16 + t
at_digits n p c t hc ht =
    let whole : p * tile_threads n + (c * n.threads + t) ≡ (p * n.cores + c) * n.threads + t = grind arith in
    let low : ((p * n.cores + c) * n.threads + t) % n.threads ≡ t = mod-mul-add (p * n.cores + c) n.threads t ht in
    let high : ((p * n.cores + c) * n.threads + t) / n.threads ≡ p * n.cores + c = div-mul-add (p * n.cores + c) n.threads t ht in
    let core : (p * n.cores + c) % n.cores ≡ c = mod-mul-add p n.cores c hc in
    let tile : (p * n.cores + c) / n.cores ≡ p = div-mul-add p n.cores c hc in
    rw (whole, high, low, core, tile) (omega arith)

-- the thread at the place of an address is that of the address
pub place_there_at : (n : ShapeNumbers) (a : ℕ) → WithinLimits n → IsTrue (has_thread n a) → thread_at n (place_of n a) ≡ a
place_there_at n a l h =
    let f = fields n a h in
    let found : tile_at n (tile_place n (tile_of a)) ≡ tile_of a = (tile_found n (tile_of a) l f.tile).1 in
    at_digits n (tile_place n (tile_of a)) (a / 16 % 4) (a % 16) f.core f.thread ∙ omega (arith, found)

-- the place is one of the machine
pub place_of_below : (n : ShapeNumbers) (a : ℕ) → WithinLimits n → IsTrue (has_thread n a) → place_of n a < thread_count n
place_of_below n a l h =
    let f = fields n a h in
    let below = (tile_found n (tile_of a) l f.tile).0 in
    let more = mul-add-lt (tile_place n (tile_of a)) (tile_threads n) (place_in_tile n a) (tile_count n) below (place_below n a h) in
    let same : tile_count n * tile_threads n ≡ thread_count n = grind arith in
    omega (arith, more, same)

-- the threads of a tile have places one behind the other
pub place_on_tile : (n : ShapeNumbers) (tile k : ℕ) → WithinLimits n → IsTrue (has_tile n tile) → k < tile_threads n → place_of n (in_tile n tile k) ≡ tile_place n tile * tile_threads n + k
place_on_tile n tile k l h less =
    let back = place_back n tile k l h less in
    rw (back.0, back.1) refl

pub place_within : (n : ShapeNumbers) (tile k : ℕ) → WithinLimits n → IsTrue (has_tile n tile) → k < tile_threads n → place_of n (in_tile n tile k) < thread_count n
place_within n tile k l h less = place_of_below n (in_tile n tile k) l (place_there n tile k l h less)
