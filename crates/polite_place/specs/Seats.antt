-- The thread and device of each vertex.
use Rattle.std.specs.Prelude.{ℕ, suc, ◌≡◌, ◌<◌, ◌≤◌, ◌+◌, ◌-◌, ◌*◌, ◌/◌, ◌%◌, ◌==◌, List, [], ◌∷◌, IsTrue, length, map, nat_lt, slice_index_or, if◌then◌else◌}
use Rattle.std.specs.List.{range_with_len}
use Rattle.std.specs.declared.result.Result.{Result}
use Rattle.std.specs.declared.result.Result.TheVariants.{Ok, Err}
use Rattle.tn_base.specs.declared.shape.ShapeNumbers.{ShapeNumbers}
use Rattle.tn_base.specs.Address.{has_thread, thread_at}
use Rattle.tn_base.specs.Shape.{thread_count}
use Rattle.tn_sums.specs.Totals.{total}
use Rattle.polite_place.specs.declared.placement.Seat.{Seat}
use Rattle.polite_place.specs.declared.placement.PlaceStop.{PlaceStop}
use Rattle.polite_place.specs.declared.placement.PlaceStop.TheVariants.{Memory, TooMany}
use Rattle.polite_place.specs.Order.{bfs}

-- how many vertices each thread takes: their number by that of the threads, rounded up
abbrev pub share_of : ShapeNumbers → ℕ → ℕ
share_of n vertices = (vertices + thread_count n - 1) / thread_count n

abbrev pub seat : ℕ → ℕ → Seat
seat thread device = record { thread = record { 0 = thread }; device = device }

-- the k-th seat, where each thread by ascending address has so many
abbrev pub seat_at : ShapeNumbers → ℕ → ℕ → Seat
seat_at n share k = seat (thread_at n (k / share)) (k % share)

-- the place of a vertex in an order
abbrev pub place_in : List ℕ → ℕ → ℕ
place_in [] v = 0
place_in (x ∷ xs) v = if x == v then 0 else suc (place_in xs v)

-- the seat of each vertex: the vertices take the seats in breadth-first order
unfoldable pub seats : ShapeNumbers → List (List ℕ) → List Seat
seats n outs =
    let count = length outs in
    map (λ v. seat_at n (share_of n count) (place_in (bfs outs count) v)) (range_with_len 0 count)

-- the seats, or that there are more vertices than threads times devices of a thread
abbrev pub placed : ShapeNumbers → ℕ → List (List ℕ) → Result (List Seat) PlaceStop
placed n per_thread outs = if nat_lt (thread_count n * per_thread) (length outs) then Err TooMany else Ok (seats n outs)

-- what a call answers, unless memory ran out
abbrev pub Places : Result (List Seat) PlaceStop → Result (List Seat) PlaceStop → Type 0
Places (Ok placement) answer = Ok placement ≡ answer
Places (Err Memory) answer = Unit {0}
Places (Err TooMany) answer = Err TooMany ≡ answer

-- the seat of a vertex
abbrev pub seat_of : List Seat → ℕ → Seat
seat_of placement v = slice_index_or placement v (seat 0 0)

-- the vertex has the thread of this address, of which it is one device
abbrev pub device_on : List Seat → ℕ → ℕ → ℕ
device_on placement a v = if (seat_of placement v).thread.0 == a then 1 else 0

-- how many devices the thread of an address has: its vertices
abbrev pub devices_on : List Seat → ℕ → ℕ
devices_on placement a = total (device_on placement a) (length placement)

-- the devices of each thread are numbered from 0, and there are at most so many
pub record Numbered (per_thread : ℕ) (placement : List Seat) : Type 0 where
  pub device : (v : ℕ) → v < length placement → (seat_of placement v).device < devices_on placement (seat_of placement v).thread.0
  pub few : (a : ℕ) → devices_on placement a ≤ per_thread

-- each vertex has a thread of the machine and one of its devices, and no other vertex has the same
pub record Seated (n : ShapeNumbers) (per_thread : ℕ) (placement : List Seat) : Type 0 where
  pub there : (v : ℕ) → v < length placement → IsTrue (has_thread n (seat_of placement v).thread.0)
  pub few : (v : ℕ) → v < length placement → (seat_of placement v).device < per_thread
  pub apart : (u v : ℕ) → u < length placement → v < length placement → seat_of placement u ≡ seat_of placement v → u ≡ v
