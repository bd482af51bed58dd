-- A graph on a machine: what each thread has of it, which edges each pin has, and where messages arrive.
use Rattle.std.specs.Prelude.{ℕ, ◌≡◌, ◌<◌, ◌≤◌, IsTrue, List, [], length, sum_by, Option, Some, None}
use Rattle.std.specs.List.{AllByRecursion}
use Rattle.polite_routes.specs.Hops.{Hop}
use Rattle.polite_switch.specs.declared.device.InEdge.{InEdge}
use Rattle.polite_switch.specs.Device.{AllAligned, AllNamed, device_at, edges_at, key_at}
use Rattle.polite_switch.specs.DeviceModel.{DeviceModel}
use Rattle.tn_base.specs.declared.shape.ShapeNumbers.{ShapeNumbers}
use Rattle.tn_base.specs.Address.{has_thread}
use Rattle.tn_keys.specs.Copies.{keyed}

pub record Layout : Type 0 where
  -- the machine's numbers
  pub shape : ShapeNumbers
  -- by the address of a thread: its devices, and its in-edges by local key
  pub devices : ℕ → List DeviceModel
  pub in_edges : ℕ → List (List InEdge)
  -- by vertex and pin: the edges, each by its place in the graph
  pub edges : ℕ → ℕ → List ℕ
  -- by edge: the local key under which the edge's messages arrive
  pub local : ℕ → ℕ
  -- by the address of a sender and a key: the threads that the key reaches, each with the local key there
  pub hops : ℕ → ℕ → List Hop

abbrev pub device_count : Layout → ℕ → ℕ
device_count g a = length (g.devices a)

-- the vertex of a device
abbrev pub vertex_in : List DeviceModel → ℕ → ℕ
vertex_in devices d = (device_at devices d).vertex

-- a message under a local key, which stands in place of the message's first two bytes
abbrev pub with_key : ℕ → List ℕ → List ℕ
with_key key bytes = keyed 2 key bytes

-- the in-edges that a hop finds, weighed by edge and local key
abbrev pub found : Layout → (ℕ → ℕ → ℕ) → Hop → ℕ
found g weight h = sum_by (λ (e : InEdge). weight e.edge h.local) (edges_at (g.in_edges h.receiver) h.local)

-- what a key finds is exactly these edges, each once and under its local key: of each weight the sums are the same. Local keys have 16
-- bits. Without a key there are no edges
abbrev pub IsRouted : Option ℕ → Layout → ℕ → List ℕ → Type 0
IsRouted None g a edges = edges ≡ []
IsRouted (Some key) g a edges =
    AllByRecursion (λ (h : Hop). h.local < 65536) (g.hops a key) × ((weight : ℕ → ℕ → ℕ) → sum_by (found g weight) (g.hops a key) ≡ sum_by (λ (e : ℕ). weight e (g.local e)) edges)

-- the key of each pin finds exactly the pin's edges
pub record AllRouted (g : Layout) : Type 0 where
  pub pin : (a d p : ℕ) → IsTrue (has_thread g.shape a) → d < device_count g a → IsRouted (key_at (device_at (g.devices a) d) p) g a (g.edges (vertex_in (g.devices a) d) p)

-- a key of a pin of one of a thread's devices
pub record IsKeyOf (g : Layout) (a key : ℕ) : Type 0 where
  pub device : ℕ
  pub pin : ℕ
  pub there : device < device_count g a
  pub is : key_at (device_at (g.devices a) device) pin ≡ Some key

-- a softswitch can be made of the devices and the in-edges of each thread, and no in-edges are elsewhere
pub record IsPlaced (g : Layout) : Type 0 where
  pub few : (a : ℕ) → IsTrue (has_thread g.shape a) → device_count g a ≤ 64
  pub aligned : (a : ℕ) → IsTrue (has_thread g.shape a) → AllAligned (g.devices a)
  pub named : (a : ℕ) → IsTrue (has_thread g.shape a) → AllNamed (device_count g a) (g.in_edges a)
