-- The first side that can move, whether a side can, and the move of a side that can.
use Rattle.std.proofs.Common.{ℕ, suc, ◌≡◌, ◌<◌, ◌+◌, true, false, cond, List, drop, get_or, length, refl, sym, ap, ◌∙◌, arith, Option, Some, None, is_some, option_map, subst, Bool}
use Rattle.std.proofs.Math.Seq.{drop-cons}
use Rattle.tn_base.specs.declared.message.Packet.{Packet}
use Rattle.tn_base.specs.declared.port.Port.{Port}
use Rattle.tn_node.specs.declared.ports.Ports.{Ports}
use Rattle.tn_node.specs.PortRows.{at, with_at}
use Rattle.tn_node.proofs.Changed.{set_twice}
use Rattle.tn_router.specs.declared.moves.Move.{Move}
use Rattle.tn_router.specs.declared.moves.Sent.{Sent}
use Rattle.tn_router.specs.declared.state.RouterState.{RouterState}
use Rattle.tn_router.specs.declared.work.Work.{Work}
use Rattle.tn_router.specs.Moves.{move_of, sent_way}
use Rattle.tn_router.specs.Rows.{carried, first_of, has_room, is_free, move_at, move_if, move_with, noted, or_else, with_sent}
use Rattle.tn_router.specs.RouterView.{RouterPlan}
use Rattle.tn_router.proofs.Moved.{move_side}

-- a move can be made if its way out is free
free_room : (sent : Option Sent) (out : Ports Packet) → is_free (sent_way sent) out ≡ has_room sent out
free_room None out = refl
free_room (Some s) out = refl

is_if : (m : Move) (s : RouterState) → has_room m.sent s.node.out ≡ is_some (move_if m s)
is_if m s = by (has_room m.sent s.node.out) where
  by : (b : _) → b ≡ is_some (cond b (Some m) None)
  by true = refl
  by false = refl

pub can_move : (plan : RouterPlan) (side : Port) (w : Work) (s : RouterState) → at side s.inputs ≡ Some w
    → is_free (sent_way (move_of plan.shape plan.board plan.beats side w).sent) s.node.out ≡ is_some (move_at plan side s)
can_move plan side w s e =
    free_room (move_of plan.shape plan.board plan.beats side w).sent s.node.out ∙ is_if (move_of plan.shape plan.board plan.beats side w) s
    ∙ sym (ap (λ (o : Option Work). is_some (move_with plan side o s)) e)

-- the move of a side that can move
moved_if : (b : Bool) (m : Move) → is_some (cond b (Some m) None) ≡ true → cond b (Some m) None ≡ Some m
moved_if true m h = refl
moved_if false m h = cc h

move_is : (plan : RouterPlan) (side : Port) (w : Work) (s : RouterState) → at side s.inputs ≡ Some w → is_some (move_at plan side s) ≡ true → move_at plan side s ≡ Some (move_of plan.shape plan.board plan.beats side w)
move_is plan side w s e h =
    let read : move_at plan side s ≡ move_if (move_of plan.shape plan.board plan.beats side w) s = ap (λ (o : Option Work). move_with plan side o s) e in
    read ∙ moved_if (has_room (move_of plan.shape plan.board plan.beats side w).sent s.node.out) (move_of plan.shape plan.board plan.beats side w) (ap (λ (o : Option Move). is_some o) (sym read) ∙ h)

taken_carried : (s : RouterState) (side : Port) (m : Move) → m.side ≡ side → carried (record s { inputs = with_at side None s.inputs }) m ≡ carried s m
taken_carried s side m e =
    subst (λ p. carried (record s { inputs = with_at p None s.inputs }) m ≡ carried s m) e
    (ap (λ (i : Ports Work). record { inputs = i; node = record s.node { out = with_sent m.sent s.node.out }; ended = noted s.ended m.bad }) (set_twice m.side m.work None s.inputs))

-- the packet of the side is taken, and its move is made
pub moves_at : (plan : RouterPlan) (side : Port) (w : Work) (s : RouterState) (m : Move) → at side s.inputs ≡ Some w → m ≡ move_of plan.shape plan.board plan.beats side w → is_some (move_at plan side s) ≡ true
    → option_map (carried s) (move_at plan side s) ≡ Some (carried (record s { inputs = with_at side None s.inputs }) m)
moves_at plan side w s m e is h =
    let from : m.side ≡ side = ap (λ (x : Move). x.side) is ∙ move_side plan.shape plan.board plan.beats side w in
    ap (option_map (carried s)) (move_is plan side w s e h ∙ ap (λ (x : Move). Some x) (sym is)) ∙ ap (λ (x : RouterState). Some x) (sym (taken_carried s side m from))

here : (plan : RouterPlan) (sides : List Port) (s : RouterState) (i : ℕ) (d : Port) → i < length sides → first_of plan (drop i sides) s ≡ or_else (move_at plan (get_or sides i d) s) (first_of plan (drop (i + 1) sides) s)
here plan sides s i d h =
    let next : suc i ≡ i + 1 = omega arith in
    ap (λ ss. first_of plan ss s) (drop-cons sides i d h) ∙ ap (λ j. or_else (move_at plan (get_or sides i d) s) (first_of plan (drop j sides) s)) next

first_if : (o others : Option Move) → is_some o ≡ true → or_else o others ≡ o
first_if None others e = cc e
first_if (Some m) others e = refl

others_if : (o others : Option Move) → is_some o ≡ false → or_else o others ≡ others
others_if None others e = refl
others_if (Some m) others e = cc e

-- the side that is looked at can move, or cannot
pub found_here : (plan : RouterPlan) (sides : List Port) (s : RouterState) (i : ℕ) (d : Port) → i < length sides → is_some (move_at plan (get_or sides i d) s) ≡ true → first_of plan (drop i sides) s ≡ move_at plan (get_or sides i d) s
found_here plan sides s i d h e = here plan sides s i d h ∙ first_if (move_at plan (get_or sides i d) s) (first_of plan (drop (i + 1) sides) s) e

pub passed_here : (plan : RouterPlan) (sides : List Port) (s : RouterState) (i : ℕ) (d : Port) → i < length sides → is_some (move_at plan (get_or sides i d) s) ≡ false → first_of plan (drop (i + 1) sides) s ≡ first_of plan (drop i sides) s
passed_here plan sides s i d h e = sym (here plan sides s i d h ∙ others_if (move_at plan (get_or sides i d) s) (first_of plan (drop (i + 1) sides) s) e)
