-- What holds of every router.
use Rattle.std.specs.Prelude.{ℕ, ◌+◌, ◌==◌, ◌&&◌, ◌||◌, Bool, true, false, IsTrue, List, [], ◌∷◌, MatchOption, None, length, nat_le, nat_lt, not, slice_index_or, ⊤}
use Rattle.tn_base.specs.declared.ids.Board.{Board}
use Rattle.tn_base.specs.declared.message.Dest.{Dest}
use Rattle.tn_base.specs.declared.message.Dest.TheVariants as dest
use Rattle.tn_base.specs.declared.message.Packet.{Packet}
use Rattle.tn_base.specs.declared.port.Port.{Port}
use Rattle.tn_base.specs.declared.port.Port.TheVariants as port
use Rattle.tn_base.specs.declared.shape.ShapeNumbers.{ShapeNumbers}
use Rattle.tn_base.specs.Message.{has_packet}
use Rattle.tn_keys.specs.declared.record.RouteRec.{RouteRec}
use Rattle.tn_keys.specs.Key.{key_count, key_first}
use Rattle.tn_keys.specs.Tables.{HasBoard, Table, is_bad_key}
use Rattle.tn_router.specs.declared.moves.Move.{Move}
use Rattle.tn_router.specs.declared.work.Work.{Work}
use Rattle.tn_node.specs.NodeRows.{fresh_node}
use Rattle.tn_node.specs.PortRows.{at, no_values}
use Rattle.tn_router.specs.Places.{has_side, has_way}
use Rattle.tn_router.specs.Rest.{rest_of}
use Rattle.tn_router.specs.RouterView.{RouterPlan, RouterView}
use Rattle.tn_router.specs.declared.state.RouterState.{RouterState}

-- the two numbers name a record of one of the key's beats
abbrev pub is_record_of : Table → ℕ → ℕ → ℕ → Bool
is_record_of table key beat at =
    not (is_bad_key (length table) key)
    && nat_le (key_first key) beat
    && nat_lt beat (key_first key + key_count key)
    && nat_lt at (length (slice_index_or table beat []))

abbrev pub is_record_to : Table → Dest → ℕ → ℕ → Bool
is_record_to table (dest.Thread t) beat at = false
is_record_to table dest.Host beat at = false
is_record_to table (dest.Mask tile mask) beat at = false
is_record_to table (dest.Key key) beat at = is_record_of table key beat at

abbrev pub is_nil : List RouteRec → Bool
is_nil [] = true
is_nil (r ∷ rs) = false

-- the numbers of a packet in process name a record of its key; if no record comes, both numbers are 0
abbrev pub is_placed : Table → Work → Bool
is_placed table w =
    is_record_to table w.packet.dest w.beat w.at || (is_nil (rest_of table w) && w.beat == 0 && w.at == 0)

-- a packet in process is one of the machine, at its place
abbrev pub FitsWork : ShapeNumbers → Table → Work → Type 0
FitsWork n table w = IsTrue (has_packet n w.packet) × IsTrue (is_placed table w)

abbrev pub is_keyed : Dest → Bool
is_keyed (dest.Thread t) = false
is_keyed dest.Host = false
is_keyed (dest.Mask tile mask) = false
is_keyed (dest.Key key) = true

-- the way leads to a neighbouring router
abbrev pub leads_on : Port → Bool
leads_on port.East = true
leads_on port.West = true
leads_on port.South = true
leads_on port.North = true
leads_on port.Up = false
leads_on port.Down = false
leads_on port.HostPort = false
leads_on port.Here = false

-- a packet that waits for a way out is one of the machine; one with a key goes to a neighbouring router; and the way is there
abbrev pub FitsWay : ShapeNumbers → Board → Port → Packet → Type 0
FitsWay n b way p = IsTrue (has_packet n p) × IsTrue (not (is_keyed p.dest) || leads_on way) × IsTrue (has_way n b way)

-- a packet in process fits there, and it came from a side from which a link leads here
abbrev pub FitsSide : RouterPlan → Port → Work → Type 0
FitsSide plan side w = FitsWork plan.shape plan.beats w × IsTrue (has_side plan.shape plan.board side)

-- each packet in process fits its side, and each packet that waits for a way out fits the way
pub record IsFit (plan : RouterPlan) (s : RouterState) : Type 0 where
  pub works : (side : Port) → MatchOption (at side s.inputs) ⊤ (FitsSide plan side)
  pub waits : (way : Port) → MatchOption (at way s.node.out) ⊤ (FitsWay plan.shape plan.board way)

pub record WellShaped (v : RouterView) : Type 0 where
  pub board : HasBoard v.plan.shape v.plan.board
  pub fits : IsFit v.plan v.now

-- a move leaves in process what fits there, and sends on what fits its way
pub record MoveFits (plan : RouterPlan) (m : Move) : Type 0 where
  pub work : MatchOption m.work ⊤ (FitsSide plan m.side)
  pub sent : MatchOption m.sent ⊤ (λ s. FitsWay plan.shape plan.board s.way s.packet)

-- a router at its start
abbrev pub fresh_state : RouterState
fresh_state = record { inputs = no_values; node = fresh_node; ended = None }

abbrev pub fresh_router : ShapeNumbers → Board → Table → RouterView
fresh_router n b beats = record { plan = record { shape = n; board = b; beats = beats }; now = fresh_state }
