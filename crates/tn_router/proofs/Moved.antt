-- A move leaves in process what fits there, and sends on what fits its way.
use Rattle.std.proofs.Common.{ℕ, ◌≡◌, ◌+◌, ◌==◌, ◌||◌, ◌∙◌, true, false, [], get_or, length, refl, sym, ap, subst, inl, inr, leb, ltb, Option, Some, None, MatchOption, is_some, option_map}
use Rattle.std.specs.Prelude.{not, slice_get}
use Rattle.std.proofs.lemmas.Bool.{and_parts, cond_both, or_left}
use Rattle.tn_base.specs.declared.ids.Board.{Board}
use Rattle.tn_base.specs.declared.message.Dest.{Dest}
use Rattle.tn_base.specs.declared.message.Dest.TheVariants as dest
use Rattle.tn_base.specs.declared.message.Packet.{Packet}
use Rattle.tn_base.specs.declared.port.Port.{Port}
use Rattle.tn_base.specs.declared.port.Port.TheVariants as port
use Rattle.tn_base.specs.declared.shape.ShapeNumbers.{ShapeNumbers}
use Rattle.tn_base.specs.Message.{has_dest, has_packet, slot_bytes}
use Rattle.tn_keys.specs.declared.record.RouteRec.{RouteRec}
use Rattle.tn_keys.specs.declared.record.RouteRec.TheVariants.{Urm1, Urm2, Rr, Mrm, Ind}
use Rattle.tn_keys.specs.Copies.{keyed, neighbour, tile_address}
use Rattle.tn_keys.specs.Key.{key_first}
use Rattle.tn_keys.specs.Tables.{HasBoard, Table, is_bad_key}
use Rattle.tn_router.specs.declared.moves.Move.{Move}
use Rattle.tn_router.specs.declared.moves.Sent.{Sent}
use Rattle.tn_router.specs.declared.work.Work.{Work}
use Rattle.tn_node.specs.PortRows.{at}
use Rattle.tn_router.specs.declared.state.RouterState.{RouterState}
use Rattle.tn_router.specs.Kept.{FitsSide, FitsWay, FitsWork, IsFit, MoveFits, is_keyed, is_placed, is_record_of, leads_on}
use Rattle.tn_router.specs.Moves.{behind, copy_by, key_move, move_of, move_to, record_move, sent_if, way_of, whole_move}
use Rattle.tn_router.specs.Places.{has_side, has_way}
use Rattle.tn_router.specs.Rest.{at_beat, beats_from, entered, first_full, from_beat, next_record, next_work, or_zero, rest_by, rest_to, started, started_to}
use Rattle.tn_router.specs.RouterView.{RouterPlan}
use Rattle.tn_router.proofs.Firsts.{placed_cases}
use Rattle.tn_router.proofs.Placed.{entered_placed, next_placed}
use Rattle.tn_router.proofs.Toward.{port_there, way_there}

-- what is sent on fits its way
abbrev pub SentFits : ShapeNumbers → Board → Option Sent → Type 0
SentFits n b o = MatchOption o (Unit {0}) (λ s. FitsWay n b s.way s.packet)

abbrev pub WorkFits : ShapeNumbers → Table → Option Work → Type 0
WorkFits n table o = MatchOption o (Unit {0}) (FitsWork n table)

-- what is in process of a side fits there, at a side from which a link leads here
abbrev pub SideFits : RouterPlan → Port → Option Work → Type 0
SideFits plan side o = MatchOption o (Unit {0}) (FitsSide plan side)

sent_fits : (n : ShapeNumbers) (b : Board) (way : Port) (p : Packet) → (not (is_keyed p.dest) || leads_on way) ≡ true → has_way n b way ≡ true → SentFits n b (sent_if n way p)
sent_fits n b way p h there = cond_both (has_packet n p) (Some (record { way = way; packet = p })) None (SentFits n b) (λ e. (e, h, there)) (λ _. tt)

way_leads : (dir : ℕ) → leads_on (way_of dir) ≡ true
way_leads dir =
    cond_both (dir == 0) _ _ (λ w. leads_on w ≡ true) (λ _. refl)
    (λ _. cond_both (dir == 1) _ _ (λ w. leads_on w ≡ true) (λ _. refl)
    (λ _. cond_both (dir == 2) _ _ (λ w. leads_on w ≡ true) (λ _. refl) (λ _. refl)))

copy_fits : (n : ShapeNumbers) (b : Board) (p : Packet) (r : RouteRec) → SentFits n b (copy_by n b p r)
copy_fits n b p (Urm1 tile thread key) = sent_fits n b port.Down (record p { dest = dest.Thread (record { 0 = tile_address b tile + thread }); bytes = keyed 4 key p.bytes }) refl refl
copy_fits n b p (Urm2 tile thread key) = sent_fits n b port.Down (record p { dest = dest.Thread (record { 0 = tile_address b tile + thread }); bytes = keyed 8 key p.bytes }) refl refl
copy_fits n b p (Rr dir key) = cond_both (is_some (neighbour n dir b)) (sent_if n (way_of dir) (record p { dest = dest.Key key })) None (SentFits n b) (λ e. sent_fits n b (way_of dir) (record p { dest = dest.Key key }) (way_leads dir) (way_there n b dir ∙ e)) (λ _. tt)
copy_fits n b p (Mrm tile key mask) = sent_fits n b port.Down (record p { dest = dest.Mask (record { 0 = tile_address b tile }) mask; bytes = keyed 2 key p.bytes }) refl refl
copy_fits n b p (Ind key) = tt

-- the packet of what stays in process is one of the machine, if its packet was
has_beat : (n : ShapeNumbers) (p : Packet) (o : Option ℕ) → has_packet n p ≡ true → MatchOption (option_map (at_beat p) o) (Unit {0}) (λ w. has_packet n w.packet ≡ true)
has_beat n p None h = tt
has_beat n p (Some j) h = h

has_next : (n : ShapeNumbers) (table : Table) (key : ℕ) (w : Work) → has_packet n w.packet ≡ true → MatchOption (next_work table key w) (Unit {0}) (λ x. has_packet n x.packet ≡ true)
has_next n table key w h =
    cond_both (ltb (w.at + 1) (length (get_or table w.beat []))) (Some (record w { at = w.at + 1 })) (from_beat table key (w.beat + 1) w.packet) (λ o. MatchOption o (Unit {0}) (λ x. has_packet n x.packet ≡ true))
    (λ _. h) (λ _. has_beat n w.packet (first_full (w.beat + 1) (beats_from table key (w.beat + 1))) h)

has_entered : (n : ShapeNumbers) (table : Table) (p : Packet) (key : ℕ) → has_packet n p ≡ true → MatchOption (entered table p key) (Unit {0}) (λ x. has_packet n x.packet ≡ true)
has_entered n table p key h =
    let fits : has_packet n (record p { dest = dest.Key key }) ≡ true = (and_parts (has_dest n p.dest) (leb (length p.bytes) (slot_bytes n)) h).1 in
    cond_both (is_bad_key (length table) key) (Some (at_beat (record p { dest = dest.Key key }) 0)) (from_beat table key (key_first key) (record p { dest = dest.Key key })) (λ o. MatchOption o (Unit {0}) (λ x. has_packet n x.packet ≡ true))
    (λ _. fits) (λ _. has_beat n (record p { dest = dest.Key key }) (first_full (key_first key) (beats_from table key (key_first key))) fits)

both_fit : (n : ShapeNumbers) (table : Table) (o : Option Work) → MatchOption o (Unit {0}) (λ x. has_packet n x.packet ≡ true) → MatchOption o (Unit {0}) (λ x. is_placed table x ≡ true) → WorkFits n table o
both_fit n table None h p = tt
both_fit n table (Some w) h p = (h, p)

next_fits : (n : ShapeNumbers) (table : Table) (key : ℕ) (w : Work) → w.packet.dest ≡ dest.Key key → has_packet n w.packet ≡ true → is_record_of table key w.beat w.at ≡ true → WorkFits n table (next_work table key w)
next_fits n table key w e h is = both_fit n table (next_work table key w) (has_next n table key w h) (next_placed table key w e is)

behind_fits : (n : ShapeNumbers) (table : Table) (key : ℕ) (w : Work) (r : RouteRec) → w.packet.dest ≡ dest.Key key → has_packet n w.packet ≡ true → is_record_of table key w.beat w.at ≡ true → WorkFits n table (behind table key w r)
behind_fits n table key w (Urm1 tile thread local) e h is = next_fits n table key w e h is
behind_fits n table key w (Urm2 tile thread local) e h is = next_fits n table key w e h is
behind_fits n table key w (Rr dir onward) e h is = next_fits n table key w e h is
behind_fits n table key w (Mrm tile local mask) e h is = next_fits n table key w e h is
behind_fits n table key w (Ind onward) e h is = both_fit n table (entered table w.packet onward) (has_entered n table w.packet onward h) (entered_placed table w.packet onward)

-- a move fits a router
abbrev MoveFitsIn : ShapeNumbers → Board → Table → Move → Type 0
MoveFitsIn n b table m = WorkFits n table m.work × SentFits n b m.sent

whole_fits : (n : ShapeNumbers) (b : Board) (table : Table) (side : Port) (p : Packet) → HasBoard n b → has_packet n p ≡ true → is_keyed p.dest ≡ false → MoveFitsIn n b table (whole_move b side p)
whole_fits n b table side p board h e =
    let there = port_there n b p.dest board (and_parts (has_dest n p.dest) (leb (length p.bytes) (slot_bytes n)) h).0 in
    (tt, (h, or_left (not (is_keyed p.dest)) _ (ap not e), there))

-- a record that comes is one of the key's
pub comes : (table : Table) (key : ℕ) (w : Work) (r : RouteRec) → w.packet.dest ≡ dest.Key key → is_placed table w ≡ true → slice_get (rest_by table w key) 0 ≡ Some r → is_record_of table key w.beat w.at ≡ true
comes table key w r e placed is = elim (placed_cases table key w e placed) [
  | inl here ↦ here
  | inr none ↦
      let no : slice_get (rest_by table w key) 0 ≡ None = ap (λ rs. slice_get rs 0) none.0 in
      cc (no, is)
]

record_fits : (n : ShapeNumbers) (b : Board) (table : Table) (side : Port) (key : ℕ) (w : Work) (o : Option RouteRec) → w.packet.dest ≡ dest.Key key → FitsWork n table w → slice_get (rest_by table w key) 0 ≡ o → MoveFitsIn n b table (record_move n b table side key w o)
record_fits n b table side key w None e f is = (tt, tt)
record_fits n b table side key w (Some r) e f is = (behind_fits n table key w r e f.0 (comes table key w r e f.1 is), copy_fits n b w.packet r)

key_fits : (n : ShapeNumbers) (b : Board) (table : Table) (side : Port) (key : ℕ) (w : Work) → w.packet.dest ≡ dest.Key key → FitsWork n table w → MoveFitsIn n b table (key_move n b table side key w)
key_fits n b table side key w e f =
    cond_both (is_bad_key (length table) key) _ _ (MoveFitsIn n b table) (λ _. (f, tt))
    (λ _. record_fits n b table side key w (next_record table w) e f (sym (ap (λ d. slice_get (rest_to table w d) 0) e)))

move_fits_to : (n : ShapeNumbers) (b : Board) (table : Table) (side : Port) (w : Work) (d : Dest) → HasBoard n b → w.packet.dest ≡ d → FitsWork n table w → MoveFitsIn n b table (move_to n b table side w d)
move_fits_to n b table side w (dest.Thread t) board e f = whole_fits n b table side w.packet board f.0 (ap is_keyed e)
move_fits_to n b table side w dest.Host board e f = whole_fits n b table side w.packet board f.0 (ap is_keyed e)
move_fits_to n b table side w (dest.Mask tile mask) board e f = whole_fits n b table side w.packet board f.0 (ap is_keyed e)
move_fits_to n b table side w (dest.Key key) board e f = key_fits n b table side key w e f

pub move_fits : (n : ShapeNumbers) (b : Board) (table : Table) (side : Port) (w : Work) → HasBoard n b → FitsWork n table w → WorkFits n table (move_of n b table side w).work × SentFits n b (move_of n b table side w).sent
move_fits n b table side w board f = move_fits_to n b table side w w.packet.dest board refl f

-- the packet in process of a side fits there, and a link leads here from that side
pub work_fits : (plan : RouterPlan) (s : RouterState) (side : Port) (w : Work) → IsFit plan s → at side s.inputs ≡ Some w → FitsWork plan.shape plan.beats w
work_fits plan s side w f e = (subst (SideFits plan side) e (f.works side)).0

pub side_there : (plan : RouterPlan) (s : RouterState) (side : Port) (w : Work) → IsFit plan s → at side s.inputs ≡ Some w → has_side plan.shape plan.board side ≡ true
side_there plan s side w f e = (subst (SideFits plan side) e (f.works side)).1

pub move_side : (n : ShapeNumbers) (b : Board) (table : Table) (side : Port) (w : Work) → (move_of n b table side w).side ≡ side
move_side n b table side w = side_to w.packet.dest where
  side_by : (key : ℕ) (o : Option RouteRec) → (record_move n b table side key w o).side ≡ side
  side_by key None = refl
  side_by key (Some r) = refl

  side_to : (d : Dest) → (move_to n b table side w d).side ≡ side
  side_to (dest.Thread t) = refl
  side_to dest.Host = refl
  side_to (dest.Mask tile mask) = refl
  side_to (dest.Key key) = cond_both (is_bad_key (length table) key) _ _ (λ (m : Move). m.side ≡ side) (λ _. refl) (λ _. side_by key (next_record table w))

with_side : (plan : RouterPlan) (side : Port) (o : Option Work) → WorkFits plan.shape plan.beats o → has_side plan.shape plan.board side ≡ true → SideFits plan side o
with_side plan side None f h = tt
with_side plan side (Some w) f h = (f, h)

pub placed_fits : (plan : RouterPlan) (s : RouterState) (side : Port) (w : Work) (m : Move) → HasBoard plan.shape plan.board → IsFit plan s → at side s.inputs ≡ Some w → m ≡ move_of plan.shape plan.board plan.beats side w → MoveFits plan m
placed_fits plan s side w m board f e is =
    let moved = move_fits plan.shape plan.board plan.beats side w board (work_fits plan s side w f e) in
    let from = move_side plan.shape plan.board plan.beats side w in
    let there = ap (has_side plan.shape plan.board) from ∙ side_there plan s side w f e in
    subst (MoveFits plan) (sym is) (record { work = with_side plan (move_of plan.shape plan.board plan.beats side w).side _ moved.0 there; sent = moved.1 })

-- a packet that comes into process is the one that came
started_with : (n : ShapeNumbers) (p : Packet) (o : Option ℕ) → has_packet n p ≡ true → has_packet n (or_zero p (option_map (at_beat p) o)).packet ≡ true
started_with n p None h = h
started_with n p (Some j) h = h

started_has : (n : ShapeNumbers) (table : Table) (p : Packet) (d : Dest) → has_packet n p ≡ true → has_packet n (started_to table p d).packet ≡ true
started_has n table p (dest.Thread t) h = h
started_has n table p dest.Host h = h
started_has n table p (dest.Mask tile mask) h = h
started_has n table p (dest.Key key) h =
    cond_both (is_bad_key (length table) key) (at_beat p 0) (or_zero p (from_beat table key (key_first key) p)) (λ w. has_packet n w.packet ≡ true)
    (λ _. h) (λ _. started_with n p (first_full (key_first key) (beats_from table key (key_first key))) h)

pub has_started : (n : ShapeNumbers) (table : Table) (p : Packet) → has_packet n p ≡ true → has_packet n (started table p).packet ≡ true
has_started n table p h = started_has n table p p.dest h
