-- Letters: what one packet is for each of its receivers. Bags: letters in no order.
use Rattle.std.specs.Prelude.{ℕ, ◌≡◌, ◌%◌, ◌==◌, Bool, false, List, [], ◌∷◌, map, count_by, if◌then◌else◌}
use Rattle.std.specs.Int.{bit_at}
use Rattle.tn_base.specs.declared.ids.Board.{Board}
use Rattle.tn_base.specs.declared.message.Dest.{Dest}
use Rattle.tn_base.specs.declared.message.Dest.TheVariants as dest
use Rattle.tn_base.specs.declared.message.Letter.{Letter}
use Rattle.tn_base.specs.declared.message.Packet.{Packet}
use Rattle.tn_base.specs.declared.part.Kind.{Kind}
use Rattle.tn_base.specs.declared.part.Kind.TheVariants as kind
use Rattle.tn_base.specs.declared.shape.ShapeNumbers.{ShapeNumbers}
use Rattle.tn_base.specs.Address.{in_tile, tile_threads}
use Rattle.tn_base.specs.Message.{has_packet}
use Rattle.tn_base.specs.Parts.{kind_of}
use Rattle.tn_base.specs.Ports.{board_x, board_y}
pub use Rattle.tn_host.specs.Script.{host_address}
use Rattle.tn_keys.specs.Copies.{Copy, each_below, only_if}
use Rattle.tn_keys.specs.Reach.{Reach}
use Rattle.tn_router.specs.Kept.{is_keyed}

-- the board of an address; the host's is the first one
abbrev pub board_of : ℕ → Board
board_of a = record { x = board_x a; y = board_y a }

-- the board of a part; the host's is the first one
abbrev pub kind_board : Kind → Board
kind_board kind.Host = board_of host_address
kind_board (kind.Tile tile) = board_of tile.0
kind_board (kind.Router board) = board
kind_board (kind.Link from onto) = board_of host_address
kind_board kind.Detector = board_of host_address

-- the board of the part that a link leads to
abbrev pub board_ahead : ShapeNumbers → Kind → Board
board_ahead n kind.Host = board_of host_address
board_ahead n (kind.Tile tile) = board_of host_address
board_ahead n (kind.Router board) = board_of host_address
board_ahead n (kind.Link from onto) = kind_board (kind_of n onto.0)
board_ahead n kind.Detector = board_of host_address

-- the board at which the keys of the packets on link p are looked up
abbrev pub link_board : ShapeNumbers → ℕ → Board
link_board n p = board_ahead n (kind_of n p)

abbrev pub letter : ℕ → ℕ → ℕ → List ℕ → Letter
letter origin number receiver bytes = record { origin = origin; number = number; receiver = receiver; bytes = bytes }

-- the letter that a copy of a packet is
abbrev pub letter_for : ℕ → ℕ → Copy → Letter
letter_for origin number c = letter origin number c.receiver c.bytes

-- a letter for each thread of a tile, by ascending address, that the mask names: its bit is core * 16 + thread, the low
-- six bits of the address
abbrev pub masked_letters : ShapeNumbers → ℕ → ℕ → ℕ → ℕ → List ℕ → List Letter
masked_letters n origin number tile mask bytes =
    each_below (tile_threads n) (λ k. only_if (bit_at mask (in_tile n tile k % 64) == 1) (letter origin number (in_tile n tile k) bytes))

-- the letters of a packet where its key is looked up at a board: one for a thread or the host, one for each thread that
-- a mask names, and one for each copy that a key leads to
abbrev pub letters_from : Board → ShapeNumbers → Reach → ℕ → ℕ → Dest → List ℕ → List Letter
letters_from board n reach origin number (dest.Thread t) bytes = letter origin number t.0 bytes ∷ []
letters_from board n reach origin number dest.Host bytes = letter origin number host_address bytes ∷ []
letters_from board n reach origin number (dest.Mask tile mask) bytes = masked_letters n origin number tile.0 mask bytes
letters_from board n reach origin number (dest.Key key) bytes = map (letter_for origin number) (reach board key bytes)

-- the letters of a send: its key is looked up at the sender's board
abbrev pub letters : ShapeNumbers → Reach → ℕ → ℕ → Dest → List ℕ → List Letter
letters n reach origin number to bytes = letters_from (board_of origin) n reach origin number to bytes

-- the letters of a packet that did not come to a router yet
abbrev pub packet_letters : ShapeNumbers → Reach → Packet → List Letter
packet_letters n reach p = letters n reach p.origin p.number p.dest p.bytes

-- the letters of a packet on its way to a board, where its key is looked up. One that is none of the machine's has no
-- receivers
abbrev pub letters_to : Board → ShapeNumbers → Reach → Packet → List Letter
letters_to board n reach p = if has_packet n p then letters_from board n reach p.origin p.number p.dest p.bytes else []

-- the letters of a packet without a key are these, wherever keys lead
abbrev pub IsPlain : ShapeNumbers → Packet → List Letter → Type 0
IsPlain n p all = (board : Board) (reach : Reach) → is_keyed p.dest ≡ false → all ≡ letters_from board n reach p.origin p.number p.dest p.bytes

-- two bags are the same: each test is passed by as many letters of the one as of the other
pub record SameBag (xs ys : List Letter) : Type 0 where
  pub each : (test : Letter → Bool) → count_by test xs ≡ count_by test ys

-- the bag is this letter and the rest: the letter leaves it once
abbrev pub Takes : List Letter → Letter → List Letter → Type 0
Takes bag l rest = SameBag bag (l ∷ rest)
