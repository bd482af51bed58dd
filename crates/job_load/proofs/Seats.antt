-- The threads of a tile of a graph's machine.
use Rattle.std.proofs.Common.{ℕ, ◌≡◌, ◌≤◌, ◌<◌, ◌+◌, ◌*◌, ◌∷◌, ◌∙◌, [], IsTrue, List, Some, drop, get_or, length, length-drop, map, refl, sym, ap, arith}
use Rattle.std.specs.List.{range_with_len}
use Rattle.std.proofs.lemmas.Nat.{mul-le}
use Rattle.std.proofs.lemmas.List.{get_or-drop, get_or_default, get_or-map, get_or-take, length-map, length-take-le}
use Rattle.std.proofs.lemmas.List.FromFn.{fill_by_all, get_or-map-range_with_len, length-map-range_with_len}
use Rattle.tn_base.specs.declared.shape.ShapeNumbers.{ShapeNumbers}
use Rattle.tn_base.specs.Address.{has_tile, in_tile, tile_place, tile_threads}
use Rattle.tn_base.specs.Parts.{tile_count}
use Rattle.tn_base.specs.Shape.{WithinLimits, thread_count}
use Rattle.tn_base.proofs.TilePlaces.{tile_found}
use Rattle.polite_switch.specs.SwitchModel.{SwitchModel}
use Rattle.tn_base.specs.declared.ids.ThreadId.{ThreadId}
use Rattle.tn_thread.specs.declared.thread.Thread.{Thread}
use Rattle.tn_thread.specs.Step.{started}
use Rattle.tn_tile.specs.Kept.{with_switches}
use Rattle.job_load.specs.Graph.{bare_over, bare_thread, no_seat, place_of, seat_in, seats_on, thread_with}
use Rattle.job_load.specs.SeatedModel.{SeatedModel}
use Rattle.job_load.proofs.Places.{place_on_tile}

-- Lists.

-- threads and softswitches that are made for the same numbers
pub with_both : (f : ℕ → Thread) (g : ℕ → SwitchModel) (is : List ℕ) → with_switches (map f is) (map g is) ≡ map (λ k. record (f k) { switch = Some (g k) }) is
with_both f g [] = refl
with_both f g (i ∷ is) = ap (λ (ts : List Thread). record (f i) { switch = Some (g i) } ∷ ts) (with_both f g is)

-- two functions that agree below n make the same list
pub same_below : {X : Type 0} (f g : ℕ → X) (n : ℕ) → ((k : ℕ) → k < n → f k ≡ g k) → map f (range_with_len 0 n) ≡ map g (range_with_len 0 n)
same_below f g n h =
    fill_by_all g (map f (range_with_len 0 n)) n (f 0) (length-map-range_with_len f 0 n)
    (λ k less. get_or-map-range_with_len f 0 n k k (f 0) less (omega arith) ∙ h k less)

-- a list that a function makes of another list, by place
pub by_place : {X Y : Type 0} (g : X → Y) (xs : List X) (n : ℕ) (d : X) → length xs ≡ n → map g xs ≡ map (λ k. g (get_or xs k d)) (range_with_len 0 n)
by_place g xs n d e =
    fill_by_all (λ k. g (get_or xs k d)) (map g xs) n (g d) (length-map xs g ∙ e) (λ k less. get_or-map g xs k d (g d) (omega arith))

-- The seats of a tile.

pub room_in : (p c m : ℕ) → p < m → p * c + c ≤ m * c
room_in p c m h = omega (arith, mul-le (p + 1) c m c (omega arith) (omega arith))

-- the places of a tile's threads are within the machine
pub tile_within : (n : ShapeNumbers) (tile : ℕ) → WithinLimits n → IsTrue (has_tile n tile) → tile_place n tile * tile_threads n + tile_threads n ≤ thread_count n
tile_within n tile l h =
    let room = room_in (tile_place n tile) (tile_threads n) (tile_count n) (tile_found n tile l h).0 in
    let whole : tile_count n * tile_threads n ≡ thread_count n = grind arith in
    omega (arith, room, whole)

pub seats_count : (n : ShapeNumbers) (seats : List SeatedModel) (tile : ℕ) → tile_place n tile * tile_threads n + tile_threads n ≤ length seats → length (seats_on n seats tile) ≡ tile_threads n
seats_count n seats tile h = let left = length-drop (tile_place n tile * tile_threads n) seats in length-take-le (tile_threads n) (drop (tile_place n tile * tile_threads n) seats) (omega arith)

pub seat_on : (n : ShapeNumbers) (seats : List SeatedModel) (tile k : ℕ) → k < tile_threads n → seat_in (seats_on n seats tile) k ≡ seat_in seats (tile_place n tile * tile_threads n + k)
seat_on n seats tile k h =
    get_or-take (tile_threads n) (drop (tile_place n tile * tile_threads n) seats) k no_seat h ∙ get_or-drop (tile_place n tile * tile_threads n) seats k no_seat

-- a thread that was made over a seat
pub bare_made : (n : ShapeNumbers) (many : ℕ) (seats : List SeatedModel) (tile k : ℕ) (id : ThreadId) (image : List ℕ) (seat : SeatedModel) (thread : Thread) →
    id.0 ≡ in_tile n tile k → image ≡ seat.image → seat ≡ get_or seats k seat → k < length seats → thread ≡ started n id image (Some many) → thread ≡ bare_thread n many seats tile k
bare_made n many seats tile k id image seat thread e f g less h =
    let same : seat ≡ seat_in seats k = g ∙ get_or_default seats k seat no_seat less in
    h ∙ ap (λ m. started n id m (Some many)) (f ∙ ap (λ (s : SeatedModel). s.image) same) ∙ ap (λ b. bare_over n many b (seat_in seats k)) e

-- The threads of a tile with their softswitches are those that the seats give by address.
pub tile_seated : (n : ShapeNumbers) (many : ℕ) (seat : ℕ → SeatedModel) (seats : List SeatedModel) (tile : ℕ) → WithinLimits n → IsTrue (has_tile n tile) →
    seats ≡ map seat (range_with_len 0 (thread_count n)) →
    with_switches (map (bare_thread n many (seats_on n seats tile) tile) (range_with_len 0 (tile_threads n))) (map (λ (s : SeatedModel). s.switch) (seats_on n seats tile))
    ≡ map (λ k. thread_with n many (in_tile n tile k) (seat (place_of n (in_tile n tile k)))) (range_with_len 0 (tile_threads n))
tile_seated n many seat seats tile l h are =
    let on : List SeatedModel = seats_on n seats tile in
    let within = tile_within n tile l h in
    let whole : length seats ≡ thread_count n = ap length are ∙ length-map-range_with_len seat 0 (thread_count n) in
    let count : length on ≡ tile_threads n = seats_count n seats tile (omega arith) in
    let each : (k : ℕ) → k < tile_threads n → seat_in on k ≡ seat (place_of n (in_tile n tile k)) = λ k less.
    seat_on n seats tile k less ∙ ap (λ (ss : List SeatedModel). seat_in ss (tile_place n tile * tile_threads n + k)) are
    ∙ get_or-map-range_with_len seat 0 (thread_count n) (tile_place n tile * tile_threads n + k) (tile_place n tile * tile_threads n + k) no_seat (omega arith) (omega arith)
    ∙ ap seat (sym (place_on_tile n tile k l h less)) in
    ap (λ (ss : List SwitchModel). with_switches (map (bare_thread n many on tile) (range_with_len 0 (tile_threads n))) ss) (by_place (λ (s : SeatedModel). s.switch) on (tile_threads n) no_seat count)
    ∙ with_both (bare_thread n many on tile) (λ k. (seat_in on k).switch) (range_with_len 0 (tile_threads n))
    ∙ same_below (λ k. record (bare_thread n many on tile k) { switch = Some (seat_in on k).switch }) (λ k. thread_with n many (in_tile n tile k) (seat (place_of n (in_tile n tile k)))) (tile_threads n)
    (λ k less. ap (thread_with n many (in_tile n tile k)) (each k less))
