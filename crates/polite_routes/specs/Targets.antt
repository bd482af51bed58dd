-- To which tiles and threads the edges of a pin lead.
use Rattle.std.specs.Prelude.{ℕ, ◌≡◌, ◌<◌, length, ◌+◌, ◌/◌, ◌%◌, ◌==◌, Bool, List, [], ◌∷◌, map, slice_index_or, if◌then◌else◌}
use Rattle.std.specs.List.{All, filter, list_any, range_with_len}
use Rattle.tn_base.specs.Mask.{with_bit}
use Rattle.polite_switch.specs.declared.device.InEdge.{InEdge}
use Rattle.polite_routes.specs.declared.target.Target.{Target}
use Rattle.polite_routes.specs.declared.target.Spot.{Spot}

-- whether an edge leads to the tile whose threads have the addresses from i * 64 on
abbrev pub leads_to : ℕ → Target → Bool
leads_to i t = t.thread.0 / 64 == i

abbrev pub reaches : List Target → ℕ → Bool
reaches ts i = list_any (leads_to i) ts

-- the edges to a thread, in order
abbrev pub edges_to : List Target → ℕ → List InEdge
edges_to ts thread = map (λ t. t.edge) (filter (λ t. t.thread.0 == thread) ts)

-- a mask, with the threads of a tile added to which edges lead: bit core * 16 + thread
abbrev pub mask_with : ℕ → List Target → ℕ → ℕ
mask_with mask [] i = mask
mask_with mask (t ∷ ts) i = mask_with (if leads_to i t then with_bit mask (t.thread.0 % 64) else mask) ts i

abbrev pub mask_of : List Target → ℕ → ℕ
mask_of ts i = mask_with 0 ts i

abbrev pub spot : ℕ → ℕ → Spot
spot mask local = record { mask = mask; local = local }

-- the spot of a tile that so many earlier trees reach
abbrev pub spot_for : List Target → (ℕ → ℕ) → ℕ → Spot
spot_for ts earlier i = spot (mask_of ts i) (if mask_of ts i == 0 then 0 else earlier i)

-- the spots of all tiles that a machine may have, by address
unfoldable pub spots_for : List Target → (ℕ → ℕ) → List Spot
spots_for ts earlier = map (spot_for ts earlier) (range_with_len 0 256)

abbrev pub spot_at : List Spot → ℕ → Spot
spot_at spots i = slice_index_or spots i (spot 0 0)

-- there are spots for all tiles, whose local keys fit 16 bits
pub record Narrow (spots : List Spot) : Type 0 where
  pub all : length spots ≡ 256
  pub each : (i : ℕ) → (spot_at spots i).local < 65536

-- there are spots for all tiles, and none has a thread
pub record Blank (spots : List Spot) : Type 0 where
  pub all : length spots ≡ 256
  pub blank : (i : ℕ) → spot_at spots i ≡ spot 0 0

-- each edge leads to an address that a machine may have
pub record AllLow (ts : List Target) : Type 0 where
  pub low : All (λ t. t.thread.0 < 16384) ts

abbrev pub count_in : List ℕ → ℕ → ℕ
count_in counts i = slice_index_or counts i 0

-- one more if the mask has a thread
abbrev pub one_more : ℕ → ℕ → ℕ
one_more mask count = if mask == 0 then count else count + 1
