-- By a router's way to the host only packets for the host go.
use Rattle.std.proofs.Common.{ℕ, ◌≡◌, ◌+◌, ◌==◌, refl, subst, sym, ltb, Option, Some, None, MatchOption, is_some}
use Rattle.std.proofs.lemmas.Bool.{cond_both}
use Rattle.tn_base.specs.declared.ids.Board.{Board}
use Rattle.tn_base.specs.declared.message.Dest.{Dest}
use Rattle.tn_base.specs.declared.message.Dest.TheVariants as dest
use Rattle.tn_base.specs.declared.message.Packet.{Packet}
use Rattle.tn_base.specs.declared.port.Port.{Port}
use Rattle.tn_base.specs.declared.port.Port.TheVariants as port
use Rattle.tn_base.specs.declared.shape.ShapeNumbers.{ShapeNumbers}
use Rattle.tn_base.specs.Message.{has_packet}
use Rattle.tn_base.specs.Ports.{board_x, board_y, router_port, toward}
use Rattle.tn_keys.specs.declared.record.RouteRec.{RouteRec}
use Rattle.tn_keys.specs.declared.record.RouteRec.TheVariants.{Urm1, Urm2, Rr, Mrm, Ind}
use Rattle.tn_keys.specs.Copies.{keyed, neighbour, tile_address}
use Rattle.tn_keys.specs.Tables.{Table, is_bad_key}
use Rattle.tn_node.specs.declared.ports.Ports.{Ports}
use Rattle.tn_node.specs.PortRows.{with_at}
use Rattle.tn_node.proofs.PortLaws.{each_set}
use Rattle.tn_router.specs.declared.moves.Move.{Move}
use Rattle.tn_router.specs.declared.moves.Sent.{Sent}
use Rattle.tn_router.specs.declared.state.RouterState.{RouterState}
use Rattle.tn_router.specs.declared.work.Work.{Work}
use Rattle.tn_router.specs.Moves.{copy_by, move_of, move_to, record_move, sent_if, way_of}
use Rattle.tn_router.specs.Rest.{next_record}
use Rattle.tn_router.specs.RouterView.{RouterPlan}
use Rattle.tn_router.specs.Rows.{carried, with_sent}
use Rattle.tn_letters.proofs.Lift.{ForHost, HostWay}

pub host_set : (way : Port) (o : Option Packet) (out : Ports Packet) → ForHost way o → HostWay out → HostWay (with_at way o out)
host_set way o out fits h = λ q. each_set ForHost way q o out fits h

-- no packet goes by a way
pub no_packet : (way : Port) → ForHost way None
no_packet port.East = tt
no_packet port.West = tt
no_packet port.South = tt
no_packet port.North = tt
no_packet port.Up = tt
no_packet port.Down = tt
no_packet port.HostPort = tt
no_packet port.Here = tt

-- a packet that goes by the way to the host
pub at_host : (way : Port) (k : Packet) → way ≡ port.HostPort → ForHost way (Some k) → k.dest ≡ dest.Host
at_host way k e fits = subst (λ w. ForHost w (Some k)) e fits

-- ---- what a move sends

-- toward a board, a packet goes by the way to the host only at the end
toward_host : (x y to_x to_y : ℕ) (last : Port) (o : Option Packet) → ForHost last o → ForHost (toward x y to_x to_y last) o
toward_host x y to_x to_y last o h =
    cond_both (ltb x to_x) port.East _ (λ w. ForHost w o) (λ _. tt)
    (λ _. cond_both (ltb to_x x) port.West _ (λ w. ForHost w o) (λ _. tt)
    (λ _. cond_both (ltb y to_y) port.South _ (λ w. ForHost w o) (λ _. tt)
    (λ _. cond_both (ltb to_y y) port.North last (λ w. ForHost w o) (λ _. tt) (λ _. h))))

whole_host : (b : Board) (d : Dest) (p : Packet) → p.dest ≡ d → ForHost (router_port b d) (Some p)
whole_host b (dest.Thread t) p e = toward_host b.x b.y (board_x t.0) (board_y t.0) port.Down (Some p) tt
whole_host b dest.Host p e = toward_host b.x b.y 0 0 port.HostPort (Some p) e
whole_host b (dest.Mask tile mask) p e = toward_host b.x b.y (board_x tile.0) (board_y tile.0) port.Down (Some p) tt
whole_host b (dest.Key key) p e = tt

abbrev SentHost : Option Sent → Type 0
SentHost o = MatchOption o (Unit {0}) (λ s. ForHost s.way (Some s.packet))

sent_host : (n : ShapeNumbers) (way : Port) (p : Packet) → ForHost way (Some p) → SentHost (sent_if n way p)
sent_host n way p h = cond_both (has_packet n p) (Some (record { way = way; packet = p })) None SentHost (λ _. h) (λ _. tt)

way_host : (dir : ℕ) (p : Packet) → ForHost (way_of dir) (Some p)
way_host dir p =
    cond_both (dir == 0) _ _ (λ w. ForHost w (Some p)) (λ _. tt)
    (λ _. cond_both (dir == 1) _ _ (λ w. ForHost w (Some p)) (λ _. tt)
    (λ _. cond_both (dir == 2) _ _ (λ w. ForHost w (Some p)) (λ _. tt) (λ _. tt)))

copy_host : (n : ShapeNumbers) (b : Board) (p : Packet) (r : RouteRec) → SentHost (copy_by n b p r)
copy_host n b p (Urm1 tile thread key) = sent_host n port.Down (record p { dest = dest.Thread (record { 0 = tile_address b tile + thread }); bytes = keyed 4 key p.bytes }) tt
copy_host n b p (Urm2 tile thread key) = sent_host n port.Down (record p { dest = dest.Thread (record { 0 = tile_address b tile + thread }); bytes = keyed 8 key p.bytes }) tt
copy_host n b p (Rr dir key) = cond_both (is_some (neighbour n dir b)) (sent_if n (way_of dir) (record p { dest = dest.Key key })) None SentHost (λ _. sent_host n (way_of dir) (record p { dest = dest.Key key }) (way_host dir (record p { dest = dest.Key key }))) (λ _. tt)
copy_host n b p (Mrm tile key mask) = sent_host n port.Down (record p { dest = dest.Mask (record { 0 = tile_address b tile }) mask; bytes = keyed 2 key p.bytes }) tt
copy_host n b p (Ind key) = tt

record_host : (n : ShapeNumbers) (b : Board) (table : Table) (side : Port) (key : ℕ) (w : Work) (o : Option RouteRec) → SentHost (record_move n b table side key w o).sent
record_host n b table side key w None = tt
record_host n b table side key w (Some r) = copy_host n b w.packet r

move_host : (n : ShapeNumbers) (b : Board) (table : Table) (side : Port) (w : Work) (d : Dest) → w.packet.dest ≡ d → SentHost (move_to n b table side w d).sent
move_host n b table side w (dest.Thread t) e = subst (λ d. ForHost (router_port b d) (Some w.packet)) (sym e) (whole_host b (dest.Thread t) w.packet e)
move_host n b table side w dest.Host e = subst (λ d. ForHost (router_port b d) (Some w.packet)) (sym e) (whole_host b dest.Host w.packet e)
move_host n b table side w (dest.Mask tile mask) e = subst (λ d. ForHost (router_port b d) (Some w.packet)) (sym e) (whole_host b (dest.Mask tile mask) w.packet e)
move_host n b table side w (dest.Key key) e = cond_both (is_bad_key _ key) _ _ (λ (m : Move). SentHost m.sent) (λ _. tt) (λ _. record_host n b table side key w (next_record table w))

sent_set : (o : Option Sent) (out : Ports Packet) → SentHost o → HostWay out → HostWay (with_sent o out)
sent_set None out fits h = h
sent_set (Some s) out fits h = host_set s.way (Some s.packet) out fits h

-- a router that made a move
pub host_moved : (plan : RouterPlan) (s : RouterState) (side : Port) (w : Work) (m : Move) → m ≡ move_of plan.shape plan.board plan.beats side w → HostWay s.node.out → HostWay (carried s m).node.out
host_moved plan s side w m is h = sent_set m.sent s.node.out (subst (λ (x : Move). SentHost x.sent) (sym is) (move_host plan.shape plan.board plan.beats side w w.packet.dest refl)) h
