-- A Route moves a packet's letters and neither loses one nor makes one twice.
use Rattle.std.proofs.Common.{ℕ, ◌+◌, ◌≡◌, ◌==◌, Bool, true, false, cond, List, [], ◌∷◌, length, ltb, get_or, refl, sym, ◌∙◌, ap, subst, arith, Option, Some, None, MatchOption, is_none, is_some, option_map, unwrap_or, sum_by}
use Rattle.std.proofs.lemmas.Bool.{cond_both}
use Rattle.std.proofs.lemmas.List.Sums.{sum_by-append}
use Rattle.tn_base.specs.declared.ids.Board.{Board}
use Rattle.tn_base.specs.declared.message.Dest.{Dest}
use Rattle.tn_base.specs.declared.message.Dest.TheVariants as dest
use Rattle.tn_base.specs.declared.message.Letter.{Letter}
use Rattle.tn_base.specs.declared.message.Packet.{Packet}
use Rattle.tn_base.specs.declared.port.Port.{Port}
use Rattle.tn_base.specs.declared.port.Port.TheVariants as port
use Rattle.tn_base.specs.declared.shape.ShapeNumbers.{ShapeNumbers}
use Rattle.tn_base.specs.Message.{has_packet}
use Rattle.tn_base.specs.Ports.{board_x, board_y, router_port, toward}
use Rattle.tn_base.specs.Shape.{WithinLimits}
use Rattle.tn_keys.specs.declared.record.RouteRec.{RouteRec}
use Rattle.tn_keys.specs.declared.record.RouteRec.TheVariants.{Urm1, Urm2, Rr, Mrm, Ind}
use Rattle.tn_keys.specs.Accepted.{Accepted}
use Rattle.tn_keys.specs.Copies.{Copy, keyed, neighbour, tile_address}
use Rattle.tn_keys.specs.Key.{key_first}
use Rattle.tn_keys.specs.Reach.{Reach, reach}
use Rattle.tn_keys.specs.Tables.{HasBoard, Table, is_bad_key, table_of}
use Rattle.tn_router.specs.declared.moves.Move.{Move}
use Rattle.tn_router.specs.declared.moves.Sent.{Sent}
use Rattle.tn_router.specs.declared.work.Work.{Work}
use Rattle.tn_router.specs.Kept.{FitsWork, WellShaped}
use Rattle.tn_router.specs.Left.{all_left, all_sent, copies_left, copies_out}
use Rattle.tn_router.specs.Moves.{behind, copy_by, move_of, move_to, record_move, sent_if, way_of, whole_move}
use Rattle.tn_node.specs.declared.ports.Ports.{Ports}
use Rattle.tn_node.specs.PortRows.{at, with_at}
use Rattle.tn_router.specs.declared.state.RouterState.{RouterState}
use Rattle.tn_router.specs.Rest.{at_beat, beats_from, entered, first_full, from_beat, next_record, next_work}
use Rattle.tn_router.specs.Rows.{carried, first_move, first_of, has_room, move_at, move_with, or_else, sides, with_sent}
use Rattle.tn_router.specs.RouterView.{RouterPlan, RouterView, with_now}
use Rattle.tn_router.proofs.Conserved.{route_conserves}
use Rattle.tn_router.proofs.Moved.{work_fits}
use Rattle.tn_letters.specs.Letters.{letter_for}
use Rattle.tn_letters.proofs.Weights.{copies_w, out_w, outs_w, ports_set, router_w, work_w, works_w}

-- ---- what a move sends and leaves is of the same packet

-- a router has these ways out, and packets come from these sides
abbrev pub IsOut : Port → Type 0
IsOut port.East = Unit {0}
IsOut port.West = Unit {0}
IsOut port.South = Unit {0}
IsOut port.North = Unit {0}
IsOut port.Down = Unit {0}
IsOut port.HostPort = Unit {0}
IsOut port.Up = ⊥
IsOut port.Here = ⊥

abbrev pub From : Packet → Packet → Type 0
From p q = (q.origin ≡ p.origin) × (q.number ≡ p.number)

abbrev SentFrom : Packet → Option Sent → Type 0
SentFrom p o = MatchOption o (Unit {0}) (λ s. From p s.packet × IsOut s.way)

abbrev WorkFrom : Packet → Option Work → Type 0
WorkFrom p o = MatchOption o (Unit {0}) (λ x. From p x.packet)

toward_out : (x y to_x to_y : ℕ) (end : Port) → IsOut end → IsOut (toward x y to_x to_y end)
toward_out x y to_x to_y end h =
    cond_both (ltb x to_x) _ _ IsOut (λ _. tt)
    (λ _. cond_both (ltb to_x x) _ _ IsOut (λ _. tt)
    (λ _. cond_both (ltb y to_y) _ _ IsOut (λ _. tt)
    (λ _. cond_both (ltb to_y y) _ _ IsOut (λ _. tt) (λ _. h))))

router_out : (b : Board) (d : Dest) → IsOut (router_port b d)
router_out b (dest.Thread t) = toward_out b.x b.y (board_x t.0) (board_y t.0) port.Down tt
router_out b dest.Host = toward_out b.x b.y 0 0 port.HostPort tt
router_out b (dest.Mask tile mask) = toward_out b.x b.y (board_x tile.0) (board_y tile.0) port.Down tt
router_out b (dest.Key key) = tt

way_out : (dir : ℕ) → IsOut (way_of dir)
way_out dir = cond_both (dir == 0) _ _ IsOut (λ _. tt) (λ _. cond_both (dir == 1) _ _ IsOut (λ _. tt) (λ _. cond_both (dir == 2) _ _ IsOut (λ _. tt) (λ _. tt)))

sent_from : (p : Packet) (n : ShapeNumbers) (way : Port) (q : Packet) → From p q → IsOut way → SentFrom p (sent_if n way q)
sent_from p n way q from out = cond_both (has_packet n q) (Some (record { way = way; packet = q })) None (SentFrom p) (λ _. (from, out)) (λ _. tt)

copy_from : (n : ShapeNumbers) (b : Board) (p : Packet) (r : RouteRec) → SentFrom p (copy_by n b p r)
copy_from n b p (Urm1 tile thread key) = sent_from p n port.Down (record p { dest = dest.Thread (record { 0 = tile_address b tile + thread }); bytes = keyed 4 key p.bytes }) (refl, refl) tt
copy_from n b p (Urm2 tile thread key) = sent_from p n port.Down (record p { dest = dest.Thread (record { 0 = tile_address b tile + thread }); bytes = keyed 8 key p.bytes }) (refl, refl) tt
copy_from n b p (Rr dir key) =
    cond_both (is_some (neighbour n dir b)) (sent_if n (way_of dir) (record p { dest = dest.Key key })) None (SentFrom p)
    (λ _. sent_from p n (way_of dir) (record p { dest = dest.Key key }) (refl, refl) (way_out dir)) (λ _. tt)
copy_from n b p (Mrm tile key mask) = sent_from p n port.Down (record p { dest = dest.Mask (record { 0 = tile_address b tile }) mask; bytes = keyed 2 key p.bytes }) (refl, refl) tt
copy_from n b p (Ind key) = tt

beat_from : (p q : Packet) (o : Option ℕ) → From p q → WorkFrom p (option_map (at_beat q) o)
beat_from p q None h = tt
beat_from p q (Some i) h = h

next_from : (table : Table) (key : ℕ) (w : Work) → WorkFrom w.packet (next_work table key w)
next_from table key w =
    cond_both (ltb (w.at + 1) (length (get_or table w.beat []))) (Some (record w { at = w.at + 1 })) (from_beat table key (w.beat + 1) w.packet) (WorkFrom w.packet)
    (λ _. (refl, refl)) (λ _. beat_from w.packet w.packet (first_full (w.beat + 1) (beats_from table key (w.beat + 1))) (refl, refl))

entered_from : (table : Table) (p : Packet) (key : ℕ) → WorkFrom p (entered table p key)
entered_from table p key =
    cond_both (is_bad_key (length table) key) (Some (at_beat (record p { dest = dest.Key key }) 0)) (from_beat table key (key_first key) (record p { dest = dest.Key key })) (WorkFrom p)
    (λ _. (refl, refl)) (λ _. beat_from p (record p { dest = dest.Key key }) (first_full (key_first key) (beats_from table key (key_first key))) (refl, refl))

behind_from : (table : Table) (key : ℕ) (w : Work) (r : RouteRec) → WorkFrom w.packet (behind table key w r)
behind_from table key w (Urm1 tile thread local) = next_from table key w
behind_from table key w (Urm2 tile thread local) = next_from table key w
behind_from table key w (Rr dir onward) = next_from table key w
behind_from table key w (Mrm tile local mask) = next_from table key w
behind_from table key w (Ind onward) = entered_from table w.packet onward

pub record MovesFrom (side : Port) (w : Work) (m : Move) : Type 0 where
  pub side_is : m.side ≡ side
  pub sent : SentFrom w.packet m.sent
  pub work : WorkFrom w.packet m.work

record_from : (n : ShapeNumbers) (b : Board) (table : Table) (side : Port) (key : ℕ) (w : Work) (o : Option RouteRec) → MovesFrom side w (record_move n b table side key w o)
record_from n b table side key w None = record { side_is = refl; sent = tt; work = tt }
record_from n b table side key w (Some r) = record { side_is = refl; sent = copy_from n b w.packet r; work = behind_from table key w r }

whole_from : (b : Board) (side : Port) (w : Work) → MovesFrom side w (whole_move b side w.packet)
whole_from b side w = record { side_is = refl; sent = ((refl, refl), router_out b w.packet.dest); work = tt }

from_to : (n : ShapeNumbers) (b : Board) (table : Table) (side : Port) (w : Work) (d : Dest) → MovesFrom side w (move_to n b table side w d)
from_to n b table side w (dest.Thread t) = whole_from b side w
from_to n b table side w dest.Host = whole_from b side w
from_to n b table side w (dest.Mask tile mask) = whole_from b side w
from_to n b table side w (dest.Key key) =
    cond_both (is_bad_key (length table) key) (record { side = side; sent = None; work = Some w; bad = Some key }) (record_move n b table side key w (next_record table w)) (MovesFrom side w)
    (λ _. record { side_is = refl; sent = tt; work = (refl, refl) })
    (λ _. record_from n b table side key w (next_record table w))

-- ---- what a move weighs

copies_from : (f : Letter → ℕ) (p q : Packet) (copies : List Copy) → From p q → copies_w f q copies ≡ copies_w f p copies
copies_from f p q copies from =
    ap (λ o. sum_by (λ (c : Copy). f (letter_for o q.number c)) copies) from.0 ∙ ap (λ i. sum_by (λ (c : Copy). f (letter_for p.origin i c)) copies) from.1

-- of what is sent
abbrev pub sent_w : (Letter → ℕ) → Reach → ShapeNumbers → Board → Option Sent → ℕ
sent_w f on n b None = 0
sent_w f on n b (Some s) = out_w f on n b s.way (Some s.packet)

sent_is : (f : Letter → ℕ) (on : Reach) (n : ShapeNumbers) (b : Board) (p : Packet) (o : Option Sent) → SentFrom p o → sent_w f on n b o ≡ copies_w f p (all_sent on n b o)
sent_is f on n b p None from = refl
sent_is f on n b p (Some s) from = copies_from f p s.packet (copies_out on n b s.way s.packet) from.0

left_is : (f : Letter → ℕ) (on : Reach) (n : ShapeNumbers) (b : Board) (table : Table) (p : Packet) (o : Option Work) → WorkFrom p o → work_w f on n b table o ≡ copies_w f p (all_left on n b table o)
left_is f on n b table p None from = refl
left_is f on n b table p (Some x) from = copies_from f p x.packet (copies_left on n b table x) from

-- the letters before are those that are sent and those that stay
abbrev Weighs : (Letter → ℕ) → Reach → ShapeNumbers → Board → Table → Work → Move → Type 0
Weighs f on n b table w m = work_w f on n b table (Some w) ≡ sent_w f on n b m.sent + work_w f on n b table m.work

move_weighs : (f : Letter → ℕ) (n : ShapeNumbers) (tables : List Table) (b : Board) (side : Port) (w : Work) → WithinLimits n → Accepted n tables → HasBoard n b → FitsWork n (table_of n tables b) w →
    Weighs f (reach n tables) n b (table_of n tables b) w (move_of n b (table_of n tables b) side w)
move_weighs f n tables b side w limits accepted board fits =
    let on : Reach = reach n tables in
    let table : Table = table_of n tables b in
    let m : Move = move_of n b table side w in
    let from : MovesFrom side w m = from_to n b table side w w.packet.dest in
    let all = ap (copies_w f w.packet) (route_conserves n tables b side w limits accepted board fits) in
    let both = sum_by-append (λ (c : Copy). f (letter_for w.packet.origin w.packet.number c)) (all_sent on n b m.sent) (all_left on n b table m.work) in
    let sent = sent_is f on n b w.packet m.sent from.sent in
    let left = left_is f on n b table w.packet m.work from.work in
    all ∙ (both ∙ (ap (λ k. k + copies_w f w.packet (all_left on n b table m.work)) (sym sent) ∙ ap (λ k. sent_w f on n b m.sent + k) (sym left)))

-- ---- a packet more or less in a router

pub works_set : (f : Letter → ℕ) (on : Reach) (n : ShapeNumbers) (b : Board) (table : Table) (side : Port) (o : Option Work) (p : Ports Work) → (side ≡ port.Here → ⊥) →
    works_w f on n b table (with_at side o p) + work_w f on n b table (at side p) ≡ works_w f on n b table p + work_w f on n b table o
works_set f on n b table side o p ne = ports_set (λ side. work_w f on n b table) side o p ne

pub outs_set : (f : Letter → ℕ) (on : Reach) (n : ShapeNumbers) (b : Board) (way : Port) (o : Option Packet) (out : Ports Packet) → (way ≡ port.Here → ⊥) →
    outs_w f on n b (with_at way o out) + out_w f on n b way (at way out) ≡ outs_w f on n b out + out_w f on n b way o
outs_set f on n b way o out ne = ports_set (out_w f on n b) way o out ne

-- a port that has a value is not `Here`
pub port_there : {X : Type 0} (p : Port) (s : Ports X) (x : X) → at p s ≡ Some x → p ≡ port.Here → ⊥
port_there p s x e here = let no : None ≡ Some x = sym (ap (λ q. at q s) here) ∙ e in cc no

out_there : (way : Port) → IsOut way → way ≡ port.Here → ⊥
out_there way out here = subst IsOut here out

none_from : (o : Option Packet) → is_none o ≡ true → o ≡ None
none_from None e = refl
none_from (Some x) e = cc e

sent_more : (f : Letter → ℕ) (on : Reach) (n : ShapeNumbers) (b : Board) (p : Packet) (o : Option Sent) (out : Ports Packet) → SentFrom p o → has_room o out ≡ true → outs_w f on n b (with_sent o out) ≡ outs_w f on n b out + sent_w f on n b o
sent_more f on n b p None out from room = omega arith
sent_more f on n b p (Some s) out from room =
    let a = outs_set f on n b s.way (Some s.packet) out (out_there s.way from.1) in
    let z : out_w f on n b s.way (at s.way out) ≡ 0 = ap (out_w f on n b s.way) (none_from (at s.way out) room) in
    omega arith

-- ---- a Route

pub record MovesSo (plan : RouterPlan) (s : RouterState) (m : Move) : Type 0 where
  pub side : Port
  pub work : Work
  pub there : at side s.inputs ≡ Some work
  pub is : m ≡ move_of plan.shape plan.board plan.beats side work
  pub room : has_room m.sent s.node.out ≡ true

move_so : (b : Bool) (x m : Move) → cond b (Some x) None ≡ Some m → (b ≡ true) × (x ≡ m)
move_so true x m e = (refl, ap (λ (o : Option Move). unwrap_or o m) e)
move_so false x m e = cc e

moved_with : (plan : RouterPlan) (side : Port) (o : Option Work) (s : RouterState) (m : Move) → at side s.inputs ≡ o → move_with plan side o s ≡ Some m → MovesSo plan s m
moved_with plan side None s m e is = cc is
moved_with plan side (Some w) s m e is =
    let x : Move = move_of plan.shape plan.board plan.beats side w in
    let so = move_so (has_room x.sent s.node.out) x m is in
    record { side = side; work = w; there = e; is = sym so.1; room = ap (λ (y : Move). has_room y.sent s.node.out) (sym so.1) ∙ so.0 }

moved_or : (plan : RouterPlan) (a others : Option Move) (s : RouterState) (m : Move) → (a ≡ Some m → MovesSo plan s m) → (others ≡ Some m → MovesSo plan s m) → or_else a others ≡ Some m → MovesSo plan s m
moved_or plan None others s m first rest e = rest e
moved_or plan (Some x) others s m first rest e = first e

first_moves : (plan : RouterPlan) (order : List Port) (s : RouterState) (m : Move) → first_of plan order s ≡ Some m → MovesSo plan s m
first_moves plan [] s m e = cc e
first_moves plan (side ∷ others) s m e = moved_or plan (move_at plan side s) (first_of plan others s) s m (λ here. moved_with plan side (at side s.inputs) s m refl here) (λ rest. first_moves plan others s m rest) e

pub moves_so : (plan : RouterPlan) (s : RouterState) (m : Move) → first_move plan s ≡ Some m → MovesSo plan s m
moves_so plan s m e = first_moves plan sides s m e

route_at : (f : Letter → ℕ) (tables : List Table) (v : RouterView) (m : Move) → WithinLimits v.plan.shape → Accepted v.plan.shape tables → WellShaped v → v.plan.beats ≡ table_of v.plan.shape tables v.plan.board → MovesSo v.plan v.now m → router_w f (reach v.plan.shape tables) (with_now v (carried v.now m)) ≡ router_w f (reach v.plan.shape tables) v
route_at f tables v m limits accepted shaped beats s =
    let on : Reach = reach v.plan.shape tables in
    let n : ShapeNumbers = v.plan.shape in
    let b : Board = v.plan.board in
    let x : Move = move_of n b v.plan.beats s.side s.work in
    let from : MovesFrom s.side s.work x = from_to n b v.plan.beats s.side s.work s.work.packet.dest in
    let fits : FitsWork n v.plan.beats s.work = work_fits v.plan v.now s.side s.work shaped.fits s.there in
    let weighs : Weighs f on n b v.plan.beats s.work x = subst (λ t. FitsWork n t s.work → Weighs f on n b t s.work (move_of n b t s.side s.work)) (sym beats)
    (λ h. move_weighs f n tables b s.side s.work limits accepted shaped.board h) fits in
    let sent = sent_more f on n b s.work.packet x.sent v.now.node.out from.sent (ap (λ (y : Move). has_room y.sent v.now.node.out) (sym s.is) ∙ s.room) in
    let set = works_set f on n b v.plan.beats s.side x.work v.now.inputs (port_there s.side v.now.inputs s.work s.there) in
    let was : work_w f on n b v.plan.beats (at s.side v.now.inputs) ≡ work_w f on n b v.plan.beats (Some s.work) = ap (work_w f on n b v.plan.beats) s.there in
    let side : works_w f on n b v.plan.beats (with_at x.side x.work v.now.inputs) ≡ works_w f on n b v.plan.beats (with_at s.side x.work v.now.inputs) = ap (λ z. works_w f on n b v.plan.beats (with_at z x.work v.now.inputs)) from.side_is in
    let all : router_w f on (with_now v (carried v.now x)) ≡ router_w f on v = omega arith in
    ap (λ (y : Move). router_w f on (with_now v (carried v.now y))) s.is ∙ all

-- a Route changes no letter
pub route_weighs : (f : Letter → ℕ) (n : ShapeNumbers) (tables : List Table) (v : RouterView) (m : Move) → v.plan.shape ≡ n → WithinLimits n → Accepted n tables → WellShaped v → v.plan.beats ≡ table_of n tables v.plan.board → MovesSo v.plan v.now m → router_w f (reach n tables) (with_now v (carried v.now m)) ≡ router_w f (reach n tables) v
route_weighs f n tables v m same limits accepted shaped beats s =
    subst (λ k. WithinLimits k → Accepted k tables → v.plan.beats ≡ table_of k tables v.plan.board → router_w f (reach k tables) (with_now v (carried v.now m)) ≡ router_w f (reach k tables) v) same
    (λ l a b. route_at f tables v m l a shaped b s) limits accepted beats
