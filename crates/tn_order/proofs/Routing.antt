-- A Route keeps the order.
use Rattle.std.proofs.Common.{ℕ, ◌≡◌, ◌+◌, Bool, true, false, ltb, refl, sym, ◌∙◌, ap, subst, inl, inr, List, [], ◌∷◌, ◌++◌, get_or, length, Option, Some, None, option_map, is_some}
use Rattle.std.specs.Prelude.{is_none, MatchOption}
use Rattle.std.proofs.lemmas.Bool.{cases_Bool, cases_eq, cond_both}
use Rattle.tn_base.specs.declared.ids.Board.{Board}
use Rattle.tn_base.specs.declared.message.Dest.{Dest}
use Rattle.tn_base.specs.declared.message.Dest.TheVariants as dest
use Rattle.tn_base.specs.declared.message.Packet.{Packet}
use Rattle.tn_base.specs.declared.part.Kind.TheVariants as kind
use Rattle.tn_base.specs.declared.port.Port.{Port}
use Rattle.tn_base.specs.declared.port.Port.TheVariants as port
use Rattle.tn_base.specs.declared.shape.ShapeNumbers.{ShapeNumbers}
use Rattle.tn_base.specs.Message.{has_packet}
use Rattle.tn_base.specs.Parts.{kind_of}
use Rattle.tn_base.specs.Ports.{board_x, board_y, port_from, router_port, toward}
use Rattle.tn_keys.specs.declared.record.RouteRec.{RouteRec}
use Rattle.tn_keys.specs.declared.record.RouteRec.TheVariants.{Urm1, Urm2, Rr, Mrm, Ind}
use Rattle.tn_keys.specs.Copies.{keyed, neighbour, tile_address}
use Rattle.tn_keys.specs.Key.{key_first}
use Rattle.tn_keys.specs.Tables.{Table, is_bad_key}
use Rattle.tn_node.specs.declared.ports.Ports.{Ports}
use Rattle.tn_node.specs.PortRows.{at, with_at}
use Rattle.tn_node.proofs.PortLaws.{each_set}
use Rattle.tn_router.specs.declared.moves.Move.{Move}
use Rattle.tn_router.specs.declared.moves.Sent.{Sent}
use Rattle.tn_router.specs.declared.state.RouterState.{RouterState}
use Rattle.tn_router.specs.declared.work.Work.{Work}
use Rattle.tn_router.specs.Kept.{is_keyed}
use Rattle.tn_router.specs.Moves.{behind, copy_by, key_move, move_to, record_move, sent_if, way_of as way_to, whole_move}
use Rattle.tn_router.specs.Rest.{at_beat, beats_from, entered, first_full, from_beat, next_record, next_work}
use Rattle.tn_router.specs.RouterView.{RouterView, with_now}
use Rattle.tn_router.specs.Rows.{carried, has_room, route_row, with_sent}
use Rattle.tn_rows.specs.Events.{with_part}
use Rattle.tn_rows.specs.PartView.{PartView, RouterV}
use Rattle.tn_rows.specs.WorldView.{WorldView}
use Rattle.tn_rows.proofs.Meeting.{mapped}
use Rattle.tn_letters.proofs.Lift.{OnPart}
use Rattle.tn_letters.proofs.Moves.{moves_so}
use Rattle.tn_order.specs.Kept.{AllFor, Kept, world_of}
use Rattle.tn_order.specs.Net.{Net, IsNet, Rest}
use Rattle.tn_order.specs.Spots.{Crosses, Item, Pending, Queue, Spot, Waits, Works, item_of, items_of, numbers, packet_in, spot_part, standing_at, stands_in, way_of}
use Rattle.tn_order.proofs.Crossing.{put_there, taken_away}
use Rattle.tn_order.proofs.Keeps.{keeps}
use Rattle.tn_order.proofs.PartViews.{ports_others, router_out, router_works}
use Rattle.tn_order.proofs.Steps.{within_part}
use Rattle.tn_order.proofs.Views.{at_part, beside, number_no, rests, was_part}

-- ---- changes of what is not meant

-- of a spot: the same numbers, and what is meant is for the receiver as before
pub record Blind (n : ShapeNumbers) (goal : Dest) (mine : ℕ → ℕ → Bool) (xs ys : List Item) : Type 0 where
  pub same : numbers mine ys ≡ numbers mine xs
  pub all : AllFor n goal mine xs → AllFor n goal mine ys

pub blind_same : (n : ShapeNumbers) (goal : Dest) (mine : ℕ → ℕ → Bool) (xs ys : List Item) → ys ≡ xs → Blind n goal mine xs ys
blind_same n goal mine xs ys e = record { same = ap (numbers mine) e; all = λ a. subst (λ l. AllFor n goal mine l) (sym e) a }

pub blinds : (n : ShapeNumbers) (net : Net Spot) (goal : Dest) (mine : ℕ → ℕ → Bool) (f g : Spot → List Item) (sent gone : List ℕ) → IsNet net → ((r : Spot) → Blind n goal mine (f r) (g r)) → Kept n net goal mine f sent gone → Kept n net goal mine g sent gone
blinds n net goal mine f g sent gone is each k = record {
  order = keeps net Rest (world_of mine f sent gone) (world_of mine g sent gone) is k.order (rests (λ r. numbers mine (f r)) (λ r. numbers mine (g r)) sent gone (λ r. (each r).same));
  all = λ r. (each r).all (k.all r);
}

pub blind_part : (n : ShapeNumbers) (goal : Dest) (mine : ℕ → ℕ → Bool) (w : WorldView) (p : ℕ) (a b : PartView) → OnPart w p a → ((r : Spot) → spot_part w.shape goal r ≡ p → Blind n goal mine (stands_in goal a r) (stands_in goal b r)) → (r : Spot) → Blind n goal mine (standing_at goal w r) (standing_at goal (with_part w p b) r)
blind_part n goal mine w p a b on each r = elim (cases_eq (spot_part w.shape goal r) p) [
  | inr ne ↦ blind_same n goal mine (standing_at goal w r) (standing_at goal (with_part w p b) r) (beside goal w p b r ne)
  | inl here ↦ subst (λ xs. Blind n goal mine xs (standing_at goal (with_part w p b) r)) (sym (was_part goal w p a r on.is here)) (subst (λ ys. Blind n goal mine (stands_in goal a r) ys) (sym (at_part goal w p b r on.within here)) (each r here))
]

-- ---- a packet stays the packet of its origin and number

abbrev From : Packet → Packet → Type 0
From p q = (q.origin ≡ p.origin) × (q.number ≡ p.number)

abbrev SentFrom : Packet → Option Sent → Type 0
SentFrom p o = MatchOption o (Unit {0}) (λ s. From p s.packet)

abbrev WorkFrom : Packet → Option Work → Type 0
WorkFrom p o = MatchOption o (Unit {0}) (λ x. From p x.packet)

sent_from : (p : Packet) (n : ShapeNumbers) (way : Port) (q : Packet) → From p q → SentFrom p (sent_if n way q)
sent_from p n way q from = cond_both (has_packet n q) (Some (record { way = way; packet = q })) None (SentFrom p) (λ _. from) (λ _. tt)

copy_from : (n : ShapeNumbers) (b : Board) (p : Packet) (r : RouteRec) → SentFrom p (copy_by n b p r)
copy_from n b p (Urm1 tile thread key) = sent_from p n port.Down (record p { dest = dest.Thread (record { 0 = tile_address b tile + thread }); bytes = keyed 4 key p.bytes }) (refl, refl)
copy_from n b p (Urm2 tile thread key) = sent_from p n port.Down (record p { dest = dest.Thread (record { 0 = tile_address b tile + thread }); bytes = keyed 8 key p.bytes }) (refl, refl)
copy_from n b p (Rr dir key) = cond_both (is_some (neighbour n dir b)) (sent_if n (way_to dir) (record p { dest = dest.Key key })) None (SentFrom p) (λ _. sent_from p n (way_to dir) (record p { dest = dest.Key key }) (refl, refl)) (λ _. tt)
copy_from n b p (Mrm tile key mask) = sent_from p n port.Down (record p { dest = dest.Mask (record { 0 = tile_address b tile }) mask; bytes = keyed 2 key p.bytes }) (refl, refl)
copy_from n b p (Ind key) = tt

beat_from : (p q : Packet) (o : Option ℕ) → From p q → WorkFrom p (option_map (at_beat q) o)
beat_from p q None h = tt
beat_from p q (Some i) h = h

next_from : (table : Table) (key : ℕ) (w : Work) → WorkFrom w.packet (next_work table key w)
next_from table key w =
    cond_both (ltb (w.at + 1) (length (get_or table w.beat []))) (Some (record w { at = w.at + 1 })) (from_beat table key (w.beat + 1) w.packet) (WorkFrom w.packet)
    (λ _. (refl, refl)) (λ _. beat_from w.packet w.packet (first_full (w.beat + 1) (beats_from table key (w.beat + 1))) (refl, refl))

entered_from : (table : Table) (p : Packet) (key : ℕ) → WorkFrom p (entered table p key)
entered_from table p key =
    cond_both (is_bad_key (length table) key) (Some (at_beat (record p { dest = dest.Key key }) 0)) (from_beat table key (key_first key) (record p { dest = dest.Key key })) (WorkFrom p)
    (λ _. (refl, refl)) (λ _. beat_from p (record p { dest = dest.Key key }) (first_full (key_first key) (beats_from table key (key_first key))) (refl, refl))

behind_from : (table : Table) (key : ℕ) (w : Work) (r : RouteRec) → WorkFrom w.packet (behind table key w r)
behind_from table key w (Urm1 tile thread local) = next_from table key w
behind_from table key w (Urm2 tile thread local) = next_from table key w
behind_from table key w (Rr dir onward) = next_from table key w
behind_from table key w (Mrm tile local mask) = next_from table key w
behind_from table key w (Ind onward) = entered_from table w.packet onward

-- a move of a packet with a key
record KeyMoves (side : Port) (w : Work) (m : Move) : Type 0 where
  pub side_is : m.side ≡ side
  pub sent : SentFrom w.packet m.sent
  pub work : WorkFrom w.packet m.work

record_moves : (n : ShapeNumbers) (b : Board) (table : Table) (side : Port) (key : ℕ) (w : Work) (o : Option RouteRec) → KeyMoves side w (record_move n b table side key w o)
record_moves n b table side key w None = record { side_is = refl; sent = tt; work = tt }
record_moves n b table side key w (Some r) = record { side_is = refl; sent = copy_from n b w.packet r; work = behind_from table key w r }

key_moves : (n : ShapeNumbers) (b : Board) (table : Table) (side : Port) (key : ℕ) (w : Work) → KeyMoves side w (key_move n b table side key w)
key_moves n b table side key w =
    cond_both (is_bad_key (length table) key) (record { side = side; sent = None; work = Some w; bad = Some key }) (record_move n b table side key w (next_record table w)) (KeyMoves side w)
    (λ _. record { side_is = refl; sent = tt; work = (refl, refl) })
    (λ _. record_moves n b table side key w (next_record table w))

-- ---- a packet with a key

unmeant : (n : ShapeNumbers) (goal : Dest) (mine : ℕ → ℕ → Bool) (p : Packet) (o : Option Packet) → mine p.origin p.number ≡ false → MatchOption o (Unit {0}) (From p) → (numbers mine (items_of o) ≡ []) × AllFor n goal mine (items_of o)
unmeant n goal mine p None other from = (refl, tt)
unmeant n goal mine p (Some q) other from =
    let no_more : mine q.origin q.number ≡ false = ap (λ i. mine i q.number) from.0 ∙ (ap (mine p.origin) from.1 ∙ other) in
    (number_no mine (item_of q) no_more, (λ meant. let e = sym meant ∙ no_more in cc e, tt))

work_unmeant : (n : ShapeNumbers) (goal : Dest) (mine : ℕ → ℕ → Bool) (p : Packet) (o : Option Work) → mine p.origin p.number ≡ false → WorkFrom p o → (numbers mine (items_of (packet_in o)) ≡ []) × AllFor n goal mine (items_of (packet_in o))
work_unmeant n goal mine p None other from = (refl, tt)
work_unmeant n goal mine p (Some x) other from = unmeant n goal mine p (Some x.packet) other from

sent_unmeant : (n : ShapeNumbers) (goal : Dest) (mine : ℕ → ℕ → Bool) (p : Packet) (o : Option Sent) (out : Ports Packet) (u : Port) → mine p.origin p.number ≡ false → SentFrom p o → has_room o out ≡ true → Blind n goal mine (items_of (at u out)) (items_of (at u (with_sent o out)))
sent_unmeant n goal mine p None out u other from room = blind_same n goal mine (items_of (at u out)) (items_of (at u out)) refl
sent_unmeant n goal mine p (Some s) out u other from room =
    let x = unmeant n goal mine p (Some s.packet) other from in
    let none : at s.way out ≡ None = none_there (at s.way out) room in
    each_set (λ q o. Blind n goal mine (items_of (at q out)) (items_of o)) s.way u (Some s.packet) out
    (record { same = x.0 ∙ sym (ap (λ o. numbers mine (items_of o)) none); all = λ a. x.1 })
    (λ q. blind_same n goal mine (items_of (at q out)) (items_of (at q out)) refl)
  where
    none_there : {A : Type 0} (o : Option A) → is_none o ≡ true → o ≡ None
    none_there None e = refl
    none_there (Some y) e = cc e

key_blind : (n : ShapeNumbers) (goal : Dest) (mine : ℕ → ℕ → Bool) (v : RouterView) (side : Port) (work : Work) (m : Move) → at side v.now.inputs ≡ Some work → KeyMoves side work m → has_room m.sent v.now.node.out ≡ true → mine work.packet.origin work.packet.number ≡ false →
    (r : Spot) → Blind n goal mine (stands_in goal (RouterV v) r) (stands_in goal (RouterV (with_now v (carried v.now m))) r)
key_blind n goal mine v side work m there moves room other (Pending q j) = blind_same n goal mine [] [] refl
key_blind n goal mine v side work m there moves room other (Waits q u) = sent_unmeant n goal mine work.packet m.sent v.now.node.out u other moves.sent room
key_blind n goal mine v side work m there moves room other (Works q u) =
    let was = work_unmeant n goal mine work.packet (Some work) other (refl, refl) in
    let now = work_unmeant n goal mine work.packet m.work other moves.work in
    each_set (λ z o. Blind n goal mine (items_of (packet_in (at z v.now.inputs))) (items_of (packet_in o))) m.side u m.work v.now.inputs
    (record {
      same = now.0 ∙ sym (ap (λ z. numbers mine (items_of (packet_in (at z v.now.inputs)))) moves.side_is ∙ (ap (λ o. numbers mine (items_of (packet_in o))) there ∙ was.0));
      all = λ a. now.1;
    })
    (λ z. blind_same n goal mine (items_of (packet_in (at z v.now.inputs))) (items_of (packet_in (at z v.now.inputs))) refl)
key_blind n goal mine v side work m there moves room other (Crosses l) = blind_same n goal mine [] [] refl
key_blind n goal mine v side work m there moves room other Queue = blind_same n goal mine [] [] refl

-- ---- a packet without a key

toward_else : (x y to_x to_y : ℕ) (end : Port) → (end ≡ port.Here → ⊥) → toward x y to_x to_y end ≡ port.Here → ⊥
toward_else x y to_x to_y end h =
    cond_both (ltb x to_x) _ _ (λ p. p ≡ port.Here → ⊥) (λ _ e. cc e)
    (λ _. cond_both (ltb to_x x) _ _ (λ p. p ≡ port.Here → ⊥) (λ _ e. cc e)
    (λ _. cond_both (ltb y to_y) _ _ (λ p. p ≡ port.Here → ⊥) (λ _ e. cc e)
    (λ _. cond_both (ltb to_y y) _ _ (λ p. p ≡ port.Here → ⊥) (λ _ e. cc e) (λ _. h))))

pub router_else : (b : Board) (d : Dest) → router_port b d ≡ port.Here → ⊥
router_else b (dest.Thread t) = toward_else b.x b.y (board_x t.0) (board_y t.0) port.Down (λ e. cc e)
router_else b dest.Host = toward_else b.x b.y 0 0 port.HostPort (λ e. cc e)
router_else b (dest.Mask tile mask) = toward_else b.x b.y (board_x tile.0) (board_y tile.0) port.Down (λ e. cc e)
router_else b (dest.Key key) = λ e. cc e

-- the router with nothing in process from a side
abbrev emptied : RouterView → Port → RouterState
emptied v side = record v.now { inputs = with_at side None v.now.inputs }

works_else : (p q : ℕ) (side way : Port) → Works p side ≡ Waits q way → ⊥
works_else p q side way e = cc e

whole_keeps : (s : ℕ) (goal : Dest) (mine : ℕ → ℕ → Bool) (w : WorldView) (p : ℕ) (v : RouterView) (side : Port) (work : Work) (sent gone : List ℕ) → IsNet (way_of w.shape s goal) → OnPart w p (RouterV v) → kind_of w.shape p ≡ kind.Router v.plan.board → at side v.now.inputs ≡ Some work →
    has_room (whole_move v.plan.board side work.packet).sent v.now.node.out ≡ true → Kept w.shape (way_of w.shape s goal) goal mine (standing_at goal w) sent gone → Kept w.shape (way_of w.shape s goal) goal mine (standing_at goal (with_part w p (RouterV (with_now v (carried v.now (whole_move v.plan.board side work.packet)))))) sent gone
whole_keeps s goal mine w p v side work sent gone is on router there room kept =
    let k : Packet = work.packet in
    let way : Port = router_port v.plan.board k.dest in
    let none : at way v.now.node.out ≡ None = none_there (at way v.now.node.out) room in
    within_part w.shape (way_of w.shape s goal) goal mine w p (RouterV v) (RouterV (with_now v (emptied v side))) (RouterV (with_now v (carried v.now (whole_move v.plan.board side k)))) (Works p side) (Waits p way) (item_of k) (item_of k) sent gone is (works_else p p side way) on
    (record {
      here = refl;
      first = ap (λ o. items_of (packet_in o)) there ∙ ap (λ l. item_of k ∷ l) (sym (ap (λ o. items_of (packet_in o)) (taken_away side v.now.inputs)));
      others = router_works goal w p v (emptied v side) side (ports_others side None v.now.inputs) (λ u. refl);
    })
    (record {
      here = refl;
      last = ap items_of (put_there way (Some k) v.now.node.out (router_else v.plan.board k.dest)) ∙ sym (ap (λ o. items_of o ++ item_of k ∷ []) none);
      others = router_out goal w p (with_now v (emptied v side)) (carried v.now (whole_move v.plan.board side k)) way (λ u. refl) (ports_others way (Some k) v.now.node.out);
    })
    (record { origin = refl; number = refl })
    (λ meant for. ap (Waits p) (for.port (kind.Router v.plan.board) ∙ sym (ap (λ z. port_from z goal) router)))
    (λ meant for. for) kept
  where
    none_there : {A : Type 0} (o : Option A) → is_none o ≡ true → o ≡ None
    none_there None e = refl
    none_there (Some y) e = cc e

-- ---- a Route

by_dest : (s : ℕ) (goal : Dest) (mine : ℕ → ℕ → Bool) (w : WorldView) (p : ℕ) (v : RouterView) (side : Port) (work : Work) (d : Dest) (m : Move) (sent gone : List ℕ) → IsNet (way_of w.shape s goal) → OnPart w p (RouterV v) → kind_of w.shape p ≡ kind.Router v.plan.board → at side v.now.inputs ≡ Some work →
    work.packet.dest ≡ d → m ≡ move_to v.plan.shape v.plan.board v.plan.beats side work d → has_room m.sent v.now.node.out ≡ true → Kept w.shape (way_of w.shape s goal) goal mine (standing_at goal w) sent gone → Kept w.shape (way_of w.shape s goal) goal mine (standing_at goal (with_part w p (RouterV (with_now v (carried v.now m))))) sent gone
by_dest s goal mine w p v side work (dest.Thread t) m sent gone is on router there to e room kept =
    subst (λ (x : Move). Kept w.shape (way_of w.shape s goal) goal mine (standing_at goal (with_part w p (RouterV (with_now v (carried v.now x))))) sent gone) (sym e)
    (whole_keeps s goal mine w p v side work sent gone is on router there (subst (λ (x : Move). has_room x.sent v.now.node.out ≡ true) e room) kept)
by_dest s goal mine w p v side work dest.Host m sent gone is on router there to e room kept =
    subst (λ (x : Move). Kept w.shape (way_of w.shape s goal) goal mine (standing_at goal (with_part w p (RouterV (with_now v (carried v.now x))))) sent gone) (sym e)
    (whole_keeps s goal mine w p v side work sent gone is on router there (subst (λ (x : Move). has_room x.sent v.now.node.out ≡ true) e room) kept)
by_dest s goal mine w p v side work (dest.Mask tile mask) m sent gone is on router there to e room kept =
    subst (λ (x : Move). Kept w.shape (way_of w.shape s goal) goal mine (standing_at goal (with_part w p (RouterV (with_now v (carried v.now x))))) sent gone) (sym e)
    (whole_keeps s goal mine w p v side work sent gone is on router there (subst (λ (x : Move). has_room x.sent v.now.node.out ≡ true) e room) kept)
by_dest s goal mine w p v side work (dest.Key key) m sent gone is on router there to e room kept =
    let moves : KeyMoves side work m = subst (KeyMoves side work) (sym e) (key_moves v.plan.shape v.plan.board v.plan.beats side key work) in
    let here : standing_at goal w (Works p side) ≡ item_of work.packet ∷ [] = was_part goal w p (RouterV v) (Works p side) on.is refl ∙ ap (λ o. items_of (packet_in o)) there in
    let all : AllFor w.shape goal mine (item_of work.packet ∷ []) = subst (λ l. AllFor w.shape goal mine l) here (kept.all (Works p side)) in
    let other : mine work.packet.origin work.packet.number ≡ false = elim (cases_Bool (mine work.packet.origin work.packet.number)) [
      | inr f ↦ f
      | inl meant ↦ (let u = (all.0 meant).unkeyed in let clash : true ≡ false = sym (ap is_keyed to) ∙ u in cc clash)
    ] in
    blinds w.shape (way_of w.shape s goal) goal mine (standing_at goal w) (standing_at goal (with_part w p (RouterV (with_now v (carried v.now m))))) sent gone is
    (blind_part w.shape goal mine w p (RouterV v) (RouterV (with_now v (carried v.now m))) on (λ r h. key_blind w.shape goal mine v side work m there moves room other r)) kept

pub route_keeps : (s : ℕ) (goal : Dest) (mine : ℕ → ℕ → Bool) (w : WorldView) (p : ℕ) (v : RouterView) (new : RouterState) (sent gone : List ℕ) → IsNet (way_of w.shape s goal) → OnPart w p (RouterV v) → kind_of w.shape p ≡ kind.Router v.plan.board → route_row v.plan v.now ≡ Some new →
    Kept w.shape (way_of w.shape s goal) goal mine (standing_at goal w) sent gone → Kept w.shape (way_of w.shape s goal) goal mine (standing_at goal (with_part w p (RouterV (with_now v new)))) sent gone
route_keeps s goal mine w p v new sent gone is on router row kept =
    let m = mapped (carried v.now) _ new row in
    let so = moves_so v.plan v.now m.0 m.1 in
    subst (λ (x : RouterState). Kept w.shape (way_of w.shape s goal) goal mine (standing_at goal (with_part w p (RouterV (with_now v x)))) sent gone) m.2
    (by_dest s goal mine w p v so.side so.work so.work.packet.dest m.0 sent gone is on router so.there refl so.is so.room kept)
