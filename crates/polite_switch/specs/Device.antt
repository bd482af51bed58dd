-- One device of a thread.
use Rattle.std.specs.Prelude.{ℕ, ◌≡◌, ◌%◌, ◌<◌, List, [], length, slice_get, slice_index, slice_index_or, Option, Some, None}
use Rattle.polite_switch.specs.declared.course.Entry.{Entry}
use Rattle.polite_switch.specs.declared.device.InEdge.{InEdge}
use Rattle.polite_switch.specs.DeviceModel.{DeviceModel}
use Rattle.polite_switch.specs.Course.{number_of}

-- what is read past the last device
abbrev pub no_device : DeviceModel
no_device = record { vertex = 0; state = 0; entries = []; keys = [] }

abbrev pub device_at : List DeviceModel → ℕ → DeviceModel
device_at devices d = slice_index_or devices d no_device

-- the address of a handler
abbrev pub entry_at : DeviceModel → Entry → ℕ
entry_at d e = slice_index d.entries (number_of e)

abbrev pub joined_key : Option (Option ℕ) → Option ℕ
joined_key None = None
joined_key (Some key) = key

-- the key of a pin's tree, if there is such a pin and it has edges
abbrev pub key_at : DeviceModel → ℕ → Option ℕ
key_at d pin = joined_key (slice_get d.keys pin)

-- the in-edges of a local key
abbrev pub edges_at : List (List InEdge) → ℕ → List InEdge
edges_at in_edges key = slice_index_or in_edges key []

-- the in-edges of the first letter's key, none where there is no letter
abbrev pub edges_for : List (List InEdge) → Option ℕ → List InEdge
edges_for in_edges None = []
edges_for in_edges (Some key) = edges_at in_edges key

abbrev pub no_edge : InEdge
no_edge = record { device = 0; value = 0; edge = 0 }

-- each handler begins at an address that four divides
pub record AllAligned (devices : List DeviceModel) : Type 0 where
  pub each : (d : ℕ) (e : Entry) → entry_at (device_at devices d) e % 4 ≡ 0

-- each in-edge leads to one of n devices
pub record AllNamed (n : ℕ) (in_edges : List (List InEdge)) : Type 0 where
  pub each : (key i : ℕ) → i < length (edges_at in_edges key) → (slice_index_or (edges_at in_edges key) i no_edge).device < n
