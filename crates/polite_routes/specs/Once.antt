-- What hops find: each edge once.
use Rattle.std.specs.Prelude.{ℕ, ◌≡◌, ◌<◌, ◌/◌, true, List, length}
use Rattle.std.specs.List.{All, sum_by}
use Rattle.tn_base.specs.declared.shape.ShapeNumbers.{ShapeNumbers}
use Rattle.tn_base.specs.Address.{has_thread}
use Rattle.polite_switch.specs.declared.device.InEdge.{InEdge}
use Rattle.polite_routes.specs.declared.target.Target.{Target}
use Rattle.polite_routes.specs.Hops.{Hop}
use Rattle.polite_routes.specs.Targets.{edges_to, reaches}

-- in-edges by thread and local key
abbrev pub Lists : Type 0
Lists = ℕ → ℕ → List InEdge

-- what hops find in the in-edge lists is exactly the edges of a pin, each once: of every weight of a thread, an edge and a local key
-- the sum is the same. `local` has the local key by tile: the tile of a thread is its address / 64.
pub record EachOnce (lists : Lists) (hops : List Hop) (targets : List Target) (local : ℕ → ℕ) : Type 0 where
  pub once : (weight : ℕ → InEdge → ℕ → ℕ) →
      sum_by (λ h. sum_by (λ e. weight h.receiver e h.local) (lists h.receiver h.local)) hops ≡ sum_by (λ t. weight t.thread.0 t.edge (local (t.thread.0 / 64))) targets

-- each hop finds an edge
pub record AllFind (lists : Lists) (hops : List Hop) : Type 0 where
  pub found : All (λ h. 0 < length (lists h.receiver h.local)) hops

-- each edge leads to a thread of the machine
pub record AllThere (n : ShapeNumbers) (targets : List Target) : Type 0 where
  pub there : All (λ t. has_thread n t.thread.0 ≡ true) targets

-- the in-edges of a thread at the local key of its tile are the edges to it, in order
pub record Listed (lists : Lists) (targets : List Target) (local : ℕ → ℕ) : Type 0 where
  pub listed : (a : ℕ) → reaches targets (a / 64) ≡ true → lists a (local (a / 64)) ≡ edges_to targets a
