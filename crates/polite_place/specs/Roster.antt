-- The vertices of each thread, by device.
use Rattle.std.specs.Prelude.{ℕ, ◌≡◌, ◌≤◌, ◌<◌, ◌*◌, ◌==◌, List, drop, length, slice_index_or, take, if◌then◌else◌}
use Rattle.tn_base.specs.declared.shape.ShapeNumbers.{ShapeNumbers}
use Rattle.tn_base.specs.Address.{thread_at}
use Rattle.tn_base.specs.Shape.{thread_count}
use Rattle.tn_sums.specs.Totals.{total, weigh}
use Rattle.polite_place.specs.Order.{bfs}
use Rattle.polite_place.specs.Seats.{seat, seat_of, seats, share_of}

-- the vertices in breadth-first order, and how many of them each thread takes
pub record RosterView : Type 0 where
  pub order : List ℕ
  pub share : ℕ

-- the vertices of the thread at a place by ascending address: its share of the order, by device
abbrev pub vertices_in : RosterView → ℕ → List ℕ
vertices_in r i = take r.share (drop (i * r.share) r.order)

-- the roster of a graph's vertices, whose out-edges are these
unfoldable pub roster_of : ShapeNumbers → List (List ℕ) → RosterView
roster_of n outs = record { order = bfs outs (length outs); share = share_of n (length outs) }

abbrev pub vertices_on : ShapeNumbers → List (List ℕ) → ℕ → List ℕ
vertices_on n outs i = vertices_in (roster_of n outs) i

-- the weight of a vertex, if the thread at an address has it
abbrev pub weight_on : ShapeNumbers → List (List ℕ) → (ℕ → ℕ) → ℕ → ℕ → ℕ
weight_on n outs weight a v = if (seat_of (seats n outs) v).thread.0 == a then weight v else 0

-- the thread at this place has the vertex as its d-th device
pub record HasVertex (n : ShapeNumbers) (outs : List (List ℕ)) (i d v : ℕ) : Type 0 where
  pub thread : i < thread_count n
  pub device : d < length (vertices_on n outs i)
  pub vertex : slice_index_or (vertices_on n outs i) d 0 ≡ v

-- where a vertex has its seat
pub record Listed (n : ShapeNumbers) (outs : List (List ℕ)) (v : ℕ) : Type 0 where
  pub place : ℕ
  pub address : thread_at n place ≡ (seat_of (seats n outs) v).thread.0
  pub has : HasVertex n outs place (seat_of (seats n outs) v).device v

-- a roster and the seats say the same: each vertex is listed at its seat, and each listed vertex has its seat there
pub record Lists (n : ShapeNumbers) (outs : List (List ℕ)) : Type 0 where
  pub listed : (v : ℕ) → v < length outs → Listed n outs v
  pub there : (i device : ℕ) → i < thread_count n → device < length (vertices_on n outs i) → slice_index_or (vertices_on n outs i) device 0 < length outs
  pub seats : (i device : ℕ) → i < thread_count n → device < length (vertices_on n outs i) → seat_of (seats n outs) (slice_index_or (vertices_on n outs i) device 0) ≡ seat (thread_at n i) device
  pub few : (per_thread i : ℕ) → length outs ≤ thread_count n * per_thread → length (vertices_on n outs i) ≤ per_thread
  pub weights : (weight : ℕ → ℕ) (i : ℕ) → i < thread_count n → weigh weight (vertices_on n outs i) ≡ total (weight_on n outs weight (thread_at n i)) (length outs)
