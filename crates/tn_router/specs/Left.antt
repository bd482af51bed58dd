-- The copies still to come of the packets in a router.
use Rattle.std.specs.Prelude.{ℕ, ◌≡◌, ◌++◌, List, [], ◌∷◌, Option, Some, None}
use Rattle.tn_base.specs.declared.ids.Board.{Board}
use Rattle.tn_base.specs.declared.message.Dest.{Dest}
use Rattle.tn_base.specs.declared.message.Dest.TheVariants as dest
use Rattle.tn_base.specs.declared.message.Packet.{Packet}
use Rattle.tn_base.specs.declared.port.Port.{Port}
use Rattle.tn_base.specs.declared.port.Port.TheVariants as port
use Rattle.tn_base.specs.declared.shape.ShapeNumbers.{ShapeNumbers}
use Rattle.tn_keys.specs.Copies.{Copy, copy_to, led, masked_copies, neighbour, onto}
use Rattle.tn_keys.specs.Reach.{Reach, walk}
use Rattle.tn_keys.specs.Tables.{Table}
use Rattle.tn_router.specs.declared.moves.Move.{Move}
use Rattle.tn_router.specs.declared.moves.Sent.{Sent}
use Rattle.tn_router.specs.declared.work.Work.{Work}
use Rattle.tn_router.specs.Rest.{rest_of}

-- the copies of a message for the receivers that it names; if it has a key, the copies of the key are given
abbrev pub copies_to : (ℕ → List Copy) → List ℕ → Dest → List Copy
copies_to by_key bytes (dest.Thread t) = copy_to t.0 bytes ∷ []
copies_to by_key bytes dest.Host = copy_to 0x40000000 bytes ∷ []
copies_to by_key bytes (dest.Mask tile mask) = masked_copies tile.0 mask bytes
copies_to by_key bytes (dest.Key key) = by_key key

-- what each key reaches at each board with these bytes
abbrev pub reached : Reach → List ℕ → Board → ℕ → List Copy
reached on bytes b key = on b key bytes

-- the copies still to come of a packet in process, in order: those of the records still to come, or those of a packet
-- without a key
abbrev pub copies_left : Reach → ShapeNumbers → Board → Table → Work → List Copy
copies_left on n b table w =
    copies_to (λ key. walk (reached on w.packet.bytes) n b w.packet.bytes (rest_of table w)) w.packet.bytes w.packet.dest

-- the board whose router a way out leads to
abbrev pub board_on : ShapeNumbers → Board → Port → Option Board
board_on n b port.East = neighbour n 0 b
board_on n b port.West = neighbour n 1 b
board_on n b port.South = neighbour n 2 b
board_on n b port.North = neighbour n 3 b
board_on n b port.Up = None
board_on n b port.Down = None
board_on n b port.HostPort = None
board_on n b port.Here = None

-- the copies of a packet that waits for a way out: a key is that of the router to which it goes
abbrev pub copies_out : Reach → ShapeNumbers → Board → Port → Packet → List Copy
copies_out on n b way p = copies_to (λ key. led (reached on p.bytes) (onto key (board_on n b way))) p.bytes p.dest

-- the copies of what stays in process, and of what is sent on
abbrev pub all_left : Reach → ShapeNumbers → Board → Table → Option Work → List Copy
all_left on n b table None = []
all_left on n b table (Some w) = copies_left on n b table w

abbrev pub all_sent : Reach → ShapeNumbers → Board → Option Sent → List Copy
all_sent on n b None = []
all_sent on n b (Some s) = copies_out on n b s.way s.packet

-- a move loses no copy and makes none twice: those that were to come are those of what it sends on, then those of what stays
abbrev pub KeepsCopies : Reach → ShapeNumbers → Board → Table → Work → Move → Type 0
KeepsCopies on n b table w m =
    copies_left on n b table w ≡ all_sent on n b m.sent ++ all_left on n b table m.work
