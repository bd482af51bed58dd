-- What fits in a router fits after each change.
use Rattle.std.proofs.Common.{ℕ, ℤ, ◌≡◌, ◌&&◌, Bool, true, false, cond, refl, ap, Option, Some, None, MatchOption, is_none, is_some, option_map}
use Rattle.std.proofs.lemmas.Bool.{and_parts}
use Rattle.tn_base.specs.declared.ids.Board.{Board}
use Rattle.tn_base.specs.declared.message.Packet.{Packet}
use Rattle.tn_base.specs.declared.port.Port.{Port}
use Rattle.tn_base.specs.declared.shape.ShapeNumbers.{ShapeNumbers}
use Rattle.tn_base.specs.Message.{has_packet}
use Rattle.tn_node.specs.declared.ports.Ports.{Ports}
use Rattle.tn_node.specs.NodeRows.{can_arrive, departed, depart_row as node_departs}
use Rattle.tn_node.specs.PortRows.{at, with_at}
use Rattle.tn_node.proofs.Changed.{Departs as NodeDeparts, departs as node_departing}
use Rattle.tn_node.proofs.PortLaws.{each_set}
use Rattle.tn_router.specs.declared.moves.Move.{Move}
use Rattle.tn_router.specs.declared.moves.Sent.{Sent}
use Rattle.tn_router.specs.declared.state.RouterState.{RouterState}
use Rattle.tn_router.specs.declared.work.Work.{Work}
use Rattle.tn_router.specs.Kept.{FitsWay, IsFit, MoveFits}
use Rattle.tn_router.specs.Places.{has_side}
use Rattle.tn_router.specs.Rest.{started}
use Rattle.tn_router.specs.Rows.{accept_row, can_accept, carried, depart_row, received, with_node, with_sent}
use Rattle.tn_router.specs.RouterView.{RouterPlan}
use Rattle.tn_router.proofs.Moved.{SentFits, SideFits, has_started}
use Rattle.tn_router.proofs.Placed.{started_placed}

-- a packet that fits its way, or none
abbrev pub WaitFits : ShapeNumbers → Board → Port → Option Packet → Type 0
WaitFits n b way o = MatchOption o (Unit {0}) (FitsWay n b way)

set_sent : (n : ShapeNumbers) (b : Board) (o : Option Sent) (out : Ports Packet) → SentFits n b o → ((w : Port) → WaitFits n b w (at w out)) → (w : Port) → WaitFits n b w (at w (with_sent o out))
set_sent n b None out fits all w = all w
set_sent n b (Some s) out fits all w = each_set (WaitFits n b) s.way w (Some s.packet) out fits all

-- a move is made
pub carried_shaped : (plan : RouterPlan) (s : RouterState) (m : Move) → MoveFits plan m → IsFit plan s → IsFit plan (carried s m)
carried_shaped plan s m f w = record {
  works = λ side. each_set (SideFits plan) m.side side m.work s.inputs f.work w.works;
  waits = set_sent plan.shape plan.board m.sent s.node.out f.sent w.waits;
}

-- a packet comes into process, or none
pub work_shaped : (plan : RouterPlan) (s : RouterState) (side : Port) (o : Option Work) → SideFits plan side o → IsFit plan s → IsFit plan (record s { inputs = with_at side o s.inputs })
work_shaped plan s side o f w = record { works = λ at. each_set (SideFits plan) side at o s.inputs f w.works; waits = w.waits }

-- no packet waits for a way out any more
pub gone_shaped : (plan : RouterPlan) (s : RouterState) (way : Port) → IsFit plan s → IsFit plan (record s { node = record s.node { out = with_at way None s.node.out } })
gone_shaped plan s way w = record { works = w.works; waits = λ at. each_set (WaitFits plan.shape plan.board) way at None s.node.out tt w.waits }

-- other counts, colours and notes
pub notes_shaped : (plan : RouterPlan) (s : RouterState) (counter : ℤ) (black held : Bool) (ended : Option ℕ) → IsFit plan s
    → IsFit plan (record s { node = record s.node { counter = counter; black = black; held = held }; ended = ended })
notes_shaped plan s counter black held ended w = record { works = w.works; waits = w.waits }

-- the packet is gone
pub record Departs (way : Port) (s : RouterState) : Type 0 where
  pub node : NodeDeparts way s.node
  pub row : depart_row way s ≡ Some (with_node s (departed way s.node))

is_mapped : {X Y : Type 0} (f : X → Y) (o : Option X) → is_some (option_map f o) ≡ true → is_some o ≡ true
is_mapped f None h = cc h
is_mapped f (Some x) h = refl

pub departs : (way : Port) (s : RouterState) → is_some (depart_row way s) ≡ true → Departs way s
departs way s h =
    let node : NodeDeparts way s.node = node_departing way s.node (is_mapped (with_node s) (node_departs way s.node) h) in
    record { node = node; row = ap (option_map (with_node s)) node.row }

some_taken : {X : Type 0} (b : Bool) (o : Option X) → is_some (cond b o None) ≡ true → b ≡ true
some_taken true o e = refl
some_taken false o e = cc e

-- a packet is taken from a link
pub record Accepts (plan : RouterPlan) (side : Port) (p : Packet) (s : RouterState) : Type 0 where
  pub there : has_side plan.shape plan.board side ≡ true
  pub free : is_none (at side s.inputs) ≡ true
  pub packet : has_packet plan.shape p ≡ true
  pub low : can_arrive s.node ≡ true
  pub fits : SideFits plan side (Some (started plan.beats p))
  pub row : accept_row plan side p s ≡ Some (received plan side p s)

pub accepts : (plan : RouterPlan) (side : Port) (p : Packet) (s : RouterState) → is_some (accept_row plan side p s) ≡ true → Accepts plan side p s
accepts plan side p s h =
    let all = some_taken (can_accept plan side p s && can_arrive s.node) (Some (received plan side p s)) h in
    let parts = and_parts (can_accept plan side p s) (can_arrive s.node) all in
    let tests = and_parts (has_side plan.shape plan.board side && is_none (at side s.inputs)) (has_packet plan.shape p) parts.0 in
    let input = and_parts (has_side plan.shape plan.board side) (is_none (at side s.inputs)) tests.0 in
    record {
      there = input.0;
      free = input.1;
      packet = tests.1;
      low = parts.1;
      fits = ((has_started plan.shape plan.beats p tests.1, started_placed plan.beats p), input.0);
      row = rw all refl;
    }
