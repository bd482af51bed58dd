-- The states of the bag machine that a machine shows.
use Rattle.std.specs.Prelude.{ℕ, ◌==◌, [], List, map, Option, Some, None, slice_index_or, if◌then◌else◌}
use Rattle.std.specs.Int.{bit_at}
use Rattle.std.specs.List.{range_with_len}
use Rattle.tn_base.specs.declared.message.Letter.{Letter}
use Rattle.tn_base.specs.Address.{in_tile, place_in_tile, tile_of, tile_place}
use Rattle.tn_base.specs.Parts.{board_count, router_part, tile_part}
use Rattle.tn_host.specs.HostView.{HostState}
use Rattle.tn_host.specs.Rows.{fresh_state}
use Rattle.tn_slots.specs.Pool.{slot_at}
use Rattle.tn_thread.specs.declared.thread.Thread.{Thread}
use Rattle.tn_tile.specs.declared.sender.Sender.{Sender}
use Rattle.tn_tile.specs.Kept.{fresh_tile}
use Rattle.tn_tile.specs.Step.{no_thread, thread_at}
use Rattle.tn_tile.specs.TileView.{TileView}
use Rattle.tn_rows.specs.PartView.{PartView, TileV, RouterV, LinkV, HostV, DetectorV, AbsentV}
use Rattle.tn_rows.specs.WorldView.{WorldView}
use Rattle.tn_keys.specs.Reach.{Reach, reach}
use Rattle.tn_keys.specs.Tables.{Table}
use Rattle.tn_letters.specs.Letters.{letter}
use Rattle.tn_letters.specs.State.{Program}

-- what stands where there is no tile
abbrev pub no_tile : TileView
no_tile = fresh_tile no_thread.shape 0 [] []

abbrev pub tile_in : PartView → TileView
tile_in (TileV v) = v
tile_in (RouterV v) = no_tile
tile_in (LinkV v) = no_tile
tile_in (HostV s) = no_tile
tile_in (DetectorV v) = no_tile
tile_in AbsentV = no_tile

-- the part of the tile that the thread at an address is on, and the tile
abbrev pub part_for : WorldView → ℕ → ℕ
part_for w a = tile_part (tile_place w.shape (tile_of a))

abbrev pub tile_for : WorldView → ℕ → TileView
tile_for w a = tile_in (slice_index_or w.parts (part_for w a) AbsentV)

-- the thread at a place of a tile, and at an address
abbrev pub thread_in : TileView → ℕ → Thread
thread_in v k = thread_at v.now k

abbrev pub thread_of : WorldView → ℕ → Thread
thread_of w a = thread_in (tile_for w a) (place_in_tile w.shape a)

-- whose packet a slot has
abbrev pub sender_at : TileView → ℕ → Sender
sender_at v s = slice_index_or v.now.senders s (record { origin = 0; number = 0 })

-- the letter that a slot has for the thread at a place of the tile
abbrev pub letter_in : TileView → ℕ → ℕ → Letter
letter_in v k s = letter (sender_at v s).origin (sender_at v s).number (in_tile v.plan.shape v.plan.tile k) (slot_at v.now.pool s).bytes

-- the letter that the thread at a place has in a slot, where it holds the slot
abbrev pub held_in : TileView → ℕ → ℕ → Option Letter
held_in v k s = if bit_at (slot_at v.now.pool s).holders k == 1 then Some (letter_in v k s) else None

abbrev pub held_of : WorldView → ℕ → ℕ → Option Letter
held_of w a s = held_in (tile_for w a) (place_in_tile w.shape a) s

-- the beats of the router that a part is
abbrev pub beats_on : PartView → Table
beats_on (TileV v) = []
beats_on (RouterV v) = v.plan.beats
beats_on (LinkV v) = []
beats_on (HostV s) = []
beats_on (DetectorV v) = []
beats_on AbsentV = []

-- the tables of the machine: by board, those of its router
unfoldable pub tables_of : WorldView → List Table
tables_of w = map (λ i. beats_on (slice_index_or w.parts (router_part w.shape i) AbsentV)) (range_with_len 0 (board_count w.shape))

-- what stands where there is no host
abbrev pub no_host : HostState
no_host = fresh_state []

abbrev pub host_in : PartView → HostState
host_in (TileV v) = no_host
host_in (RouterV v) = no_host
host_in (LinkV v) = no_host
host_in (HostV s) = s
host_in (DetectorV v) = no_host
host_in AbsentV = no_host

-- the host is the first part
abbrev pub host_on : WorldView → HostState
host_on w = host_in (slice_index_or w.parts 0 AbsentV)

-- where the keys of the machine lead
abbrev pub reach_of : WorldView → Reach
reach_of w = reach w.shape (tables_of w)

-- what no event changes
abbrev pub program_of : WorldView → Program
program_of w = record { shape = w.shape; code = λ a. (tile_for w a).plan.code; reach = reach_of w }
