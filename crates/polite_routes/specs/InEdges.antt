-- In-edges while they are listed.
use Rattle.std.specs.Prelude.{ℕ, ◌≡◌, ◌<◌, List, [], length, slice_index_or}
use Rattle.tn_base.specs.declared.shape.ShapeNumbers.{ShapeNumbers}
use Rattle.tn_base.specs.Address.{thread_at}
use Rattle.tn_base.specs.Shape.{thread_count}
use Rattle.polite_switch.specs.declared.device.InEdge.{InEdge}

-- the in-edges of a thread at a local key, out of lists by thread and local key
abbrev pub edges_in : List (List (List InEdge)) → ℕ → ℕ → List InEdge
edges_in lists i local = slice_index_or (slice_index_or lists i []) local []

-- a list by address has the place of each thread among all threads
pub record Located (n : ShapeNumbers) (places : List ℕ) : Type 0 where
  pub all : length places ≡ 16384
  pub each : (i : ℕ) → i < thread_count n → slice_index_or places (thread_at n i) 0 ≡ i
