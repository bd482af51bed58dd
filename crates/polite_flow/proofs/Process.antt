-- Routers keep their packets on their way.
use Rattle.std.proofs.Common.{ℕ, ◌≡◌, Bool, true, false, cond, refl, sym, ◌∙◌, ap, subst, List, [], ◌∷◌, drop, map, Option, Some, None, is_some, option_map}
use Rattle.std.specs.Prelude.{slice_get}
use Rattle.std.specs.List.{AllByRecursion}
use Rattle.std.proofs.lemmas.Bool.{cond_both}
use Rattle.tn_base.specs.declared.ids.Board.{Board}
use Rattle.tn_base.specs.declared.message.Dest.{Dest}
use Rattle.tn_base.specs.declared.message.Dest.TheVariants as dest
use Rattle.tn_base.specs.declared.message.Packet.{Packet}
use Rattle.tn_base.specs.declared.port.Port.{Port}
use Rattle.tn_base.specs.declared.port.Port.TheVariants as port
use Rattle.tn_base.specs.declared.shape.ShapeNumbers.{ShapeNumbers}
use Rattle.tn_base.specs.Message.{has_packet}
use Rattle.tn_base.specs.Ports.{router_port}
use Rattle.tn_keys.specs.declared.record.RouteRec.{RouteRec}
use Rattle.tn_keys.specs.declared.record.RouteRec.TheVariants.{Urm1, Urm2, Rr, Mrm, Ind}
use Rattle.tn_keys.specs.Copies.{keyed, neighbour}
use Rattle.tn_keys.specs.Tables.{HasBoard, Table, table_of}
use Rattle.tn_node.specs.declared.ports.Ports.{Ports}
use Rattle.tn_node.specs.Deed.{Deed}
use Rattle.tn_node.specs.Deed as deed
use Rattle.tn_node.specs.NodeRows.{depart_row as node_departs, offered}
use Rattle.tn_node.specs.PortRows.{at, with_at}
use Rattle.tn_node.specs.SamePacket.{is_packet}
use Rattle.tn_node.proofs.PortLaws.{each_set}
use Rattle.tn_router.specs.declared.moves.Move.{Move}
use Rattle.tn_router.specs.declared.moves.Sent.{Sent}
use Rattle.tn_router.specs.declared.state.RouterState.{RouterState}
use Rattle.tn_router.specs.declared.work.Work.{Work}
use Rattle.tn_router.specs.Kept.{FitsWork, IsFit}
use Rattle.tn_router.specs.Moves.{behind, copy_by, move_of, move_to, record_move, sent_if, way_of}
use Rattle.tn_router.specs.Rest.{next_record, next_work, rest_by, rest_to, started, started_by, started_to}
use Rattle.tn_router.specs.Rows.{carried, depart_row, first_move, first_of, has_room, move_at, move_with, noted, or_else, released, gone_on, router_deed, router_whitened, sides, with_node, with_sent}
use Rattle.tn_router.specs.RouterView.{RouterPlan}
use Rattle.tn_router.proofs.Deeds.{accept_deed, confirm_deed, depart_deed, go_deed, release_deed, report_deed}
use Rattle.tn_router.proofs.Firsts.{record_facts}
use Rattle.tn_router.proofs.Moved.{comes, work_fits}
use Rattle.tn_router.proofs.Resting.{Rests, rest_next, rest_started, started_packet}
use Rattle.tn_rows.proofs.Packets.{packet_is}
use Rattle.polite_flow.specs.Law.{HasRoutes}
use Rattle.polite_flow.specs.OnWay.{Fits}
use Rattle.polite_flow.specs.Places.{Bound, Due, copy_for, RouterLink, RouterWaits, Works}
use Rattle.polite_flow.specs.Routers.{Comes, IsGoodKey, ProcessFits, RouterOnWay, TakesWhatComes, WaitsFit, plan_of, still_to}
use Rattle.polite_flow.proofs.Keys.{good}
use Rattle.polite_flow.proofs.Steps.{steps}

-- ---- another state

abbrev Waits : ShapeNumbers → List Table → Board → Ports Packet → Type 0
Waits n tables b out = (way : Port) → WaitsFit n tables b way (at way out)

abbrev Process : ShapeNumbers → List Table → Board → Ports Work → Type 0
Process n tables b inputs = (side : Port) → ProcessFits n tables b side (at side inputs)

on_way : (n : ShapeNumbers) (tables : List Table) (b : Board) (t : RouterState) (inputs : Ports Work) (out : Ports Packet) → Process n tables b inputs → Waits n tables b out → t.inputs ≡ inputs → t.node.out ≡ out → t.ended ≡ None → RouterOnWay n tables b t
on_way n tables b t inputs out p w e f none = record { process = subst (Process n tables b) (sym e) p; waits = subst (Waits n tables b) (sym f) w; ended = none }

put_waits : (n : ShapeNumbers) (tables : List Table) (b : Board) (way : Port) (o : Option Packet) (out : Ports Packet) → WaitsFit n tables b way o → Waits n tables b out → Waits n tables b (with_at way o out)
put_waits n tables b way o out new all = λ p. each_set (λ q x. WaitsFit n tables b q x) way p o out new all

put_process : (n : ShapeNumbers) (tables : List Table) (b : Board) (side : Port) (o : Option Work) (inputs : Ports Work) → ProcessFits n tables b side o → Process n tables b inputs → Process n tables b (with_at side o inputs)
put_process n tables b side o inputs new all = λ p. each_set (λ q x. ProcessFits n tables b q x) side p o inputs new all

-- ---- a packet comes

started_fits : (n : ShapeNumbers) (tables : List Table) (b : Board) (side : Port) (p : Packet) (d : Dest) → HasRoutes n tables → p.dest ≡ d → Comes n tables b side d → ProcessFits n tables b side (Some (started_to (table_of n tables b) p d))
started_fits n tables b side p (dest.Thread t) g e c =
    subst (λ x. IsGoodKey (table_of n tables b) x × AllByRecursion (Fits n tables (Works b side)) (still_to (table_of n tables b) (started_to (table_of n tables b) p (dest.Thread t)) x)) (sym e)
    (tt, (steps n tables c.from (Works b side) (Bound (dest.Thread t)) g c.fits c.leads).fits)
started_fits n tables b side p dest.Host g e c =
    subst (λ x. IsGoodKey (table_of n tables b) x × AllByRecursion (Fits n tables (Works b side)) (still_to (table_of n tables b) (started_to (table_of n tables b) p dest.Host) x)) (sym e)
    (tt, (steps n tables c.from (Works b side) (Bound dest.Host) g c.fits c.leads).fits)
started_fits n tables b side p (dest.Mask tile mask) g e c =
    subst (λ x. IsGoodKey (table_of n tables b) x × AllByRecursion (Fits n tables (Works b side)) (still_to (table_of n tables b) (started_to (table_of n tables b) p (dest.Mask tile mask)) x)) (sym e)
    (tt, (steps n tables c.from (Works b side) (Bound (dest.Mask tile mask)) g c.fits c.leads).fits)
started_fits n tables b side p (dest.Key key) g e c =
    let w = started_by (table_of n tables b) p key in
    let is : w.packet.dest ≡ dest.Key key = ap (λ (q : Packet). q.dest) (started_packet (table_of n tables b) p key) ∙ e in
    subst (λ x. IsGoodKey (table_of n tables b) x × AllByRecursion (Fits n tables (Works b side)) (still_to (table_of n tables b) w x)) (sym is) (
      good n tables c.from b side key c.fits c.leads,
      subst (λ rs. AllByRecursion (Fits n tables (Works b side)) (map Due rs)) (sym (rest_started (table_of n tables b) p key)) (steps n tables c.from (Works b side) (Bound (dest.Key key)) g c.fits c.leads).fits,
    )

-- ---- a packet moves

-- what is sent is on its way
abbrev SentFits : ShapeNumbers → List Table → Board → Option Sent → Type 0
SentFits n tables b None = Unit {0}
SentFits n tables b (Some s) = Fits n tables (RouterWaits b s.way) (Bound s.packet.dest)

record MoveOnWay (n : ShapeNumbers) (tables : List Table) (b : Board) (m : Move) : Type 0 where
  pub process : ProcessFits n tables b m.side m.work
  pub sent : SentFits n tables b m.sent
  pub bad : m.bad ≡ None

sent_fits : (n : ShapeNumbers) (tables : List Table) (b : Board) (way : Port) (p : Packet) → Fits n tables (RouterWaits b way) (Bound p.dest) → SentFits n tables b (sent_if n way p)
sent_fits n tables b way p f = cond_both (has_packet n p) (Some (record { way = way; packet = p })) None (SentFits n tables b) (λ _. f) (λ _. tt)

copy_fits : (n : ShapeNumbers) (tables : List Table) (b : Board) (side : Port) (p : Packet) (r : RouteRec) → HasRoutes n tables → Fits n tables (Works b side) (Due r) → SentFits n tables b (copy_by n b p r)
copy_fits n tables b side p (Urm1 tile thread key) g f = absurd f.straight
copy_fits n tables b side p (Urm2 tile thread key) g f = absurd f.straight
copy_fits n tables b side p (Rr dir key) g f =
    cond_both (is_some (neighbour n dir b)) (sent_if n (way_of dir) (record p { dest = dest.Key key })) None (SentFits n tables b)
    (λ _. sent_fits n tables b (way_of dir) (record p { dest = dest.Key key }) (steps n tables (Works b side) (RouterWaits b (way_of dir)) (Due (Rr dir key)) g f refl).fits.0) (λ _. tt)
copy_fits n tables b side p (Mrm tile key mask) g f = sent_fits n tables b port.Down (record p { dest = copy_for b (Mrm tile key mask); bytes = keyed 2 key p.bytes }) (steps n tables (Works b side) (RouterWaits b port.Down) (Due (Mrm tile key mask)) g f refl).fits.0
copy_fits n tables b side p (Ind key) g f = absurd f.straight

pub first_is : (rs : List RouteRec) (r : RouteRec) → slice_get rs 0 ≡ Some r → rs ≡ r ∷ drop 1 rs
first_is [] r e = cc e
first_is (x ∷ rs) r e = let is : x ≡ r = cc e in ap (λ y. y ∷ rs) is

-- behind a record the next records come
behind_fits : (n : ShapeNumbers) (tables : List Table) (b : Board) (side : Port) (key : ℕ) (w : Work) (o : Option Work) → w.packet.dest ≡ dest.Key key → IsGoodKey (table_of n tables b) (dest.Key key) → AllByRecursion (Fits n tables (Works b side)) (map Due (drop 1 (rest_by (table_of n tables b) w key)))
    → Rests (table_of n tables b) key w.packet (drop 1 (rest_by (table_of n tables b) w key)) o → ProcessFits n tables b side o
behind_fits n tables b side key w None e g a r = tt
behind_fits n tables b side key w (Some x) e g a r =
    let is : x.packet.dest ≡ dest.Key key = ap (λ (q : Packet). q.dest) r.0 ∙ e in
    subst (λ d. IsGoodKey (table_of n tables b) d × AllByRecursion (Fits n tables (Works b side)) (still_to (table_of n tables b) x d)) (sym is)
    (g, subst (λ rs. AllByRecursion (Fits n tables (Works b side)) (map Due rs)) (sym r.1) a)

-- a record leads on behind itself to the next one, unless it is an IND
behind_is : (n : ShapeNumbers) (tables : List Table) (b : Board) (side : Port) (table : Table) (key : ℕ) (w : Work) (r : RouteRec) → Fits n tables (Works b side) (Due r) → next_work table key w ≡ behind table key w r
behind_is n tables b side table key w (Urm1 tile thread local) f = refl
behind_is n tables b side table key w (Urm2 tile thread local) f = refl
behind_is n tables b side table key w (Rr dir onward) f = refl
behind_is n tables b side table key w (Mrm tile local mask) f = refl
behind_is n tables b side table key w (Ind onward) f = absurd f.straight

record_on_way : (n : ShapeNumbers) (tables : List Table) (b : Board) (side : Port) (key : ℕ) (w : Work) (o : Option RouteRec) → HasRoutes n tables → FitsWork n (table_of n tables b) w → w.packet.dest ≡ dest.Key key → IsGoodKey (table_of n tables b) (dest.Key key)
    → AllByRecursion (Fits n tables (Works b side)) (map Due (rest_by (table_of n tables b) w key)) → slice_get (rest_by (table_of n tables b) w key) 0 ≡ o → MoveOnWay n tables b (record_move n b (table_of n tables b) side key w o)
record_on_way n tables b side key w None g f e k a is = record { process = tt; sent = tt; bad = refl }
record_on_way n tables b side key w (Some r) g f e k a is =
    let table = table_of n tables b in
    let all : AllByRecursion (Fits n tables (Works b side)) (map Due (r ∷ drop 1 (rest_by table w key))) = subst (λ rs. AllByRecursion (Fits n tables (Works b side)) (map Due rs)) (first_is (rest_by table w key) r is) a in
    let here = record_facts table key w.beat w.at (comes table key w r e f.1 is) in
    record {
      process = subst (ProcessFits n tables b side) (behind_is n tables b side table key w r all.0) (behind_fits n tables b side key w (next_work table key w) e k all.1 (rest_next table key w here));
      sent = copy_fits n tables b side w.packet r g all.0;
      bad = refl;
    }

whole_on_way : (n : ShapeNumbers) (tables : List Table) (b : Board) (side : Port) (w : Work) (d : Dest) → HasRoutes n tables → w.packet.dest ≡ d → Fits n tables (RouterWaits b (router_port b d)) (Bound d) → SentFits n tables b (Some (record { way = router_port b w.packet.dest; packet = w.packet }))
whole_on_way n tables b side w d g e f = subst (λ x. Fits n tables (RouterWaits b (router_port b x)) (Bound x)) (sym e) f

move_on_way : (n : ShapeNumbers) (tables : List Table) (b : Board) (side : Port) (w : Work) (d : Dest) → HasRoutes n tables → FitsWork n (table_of n tables b) w → w.packet.dest ≡ d → IsGoodKey (table_of n tables b) d × AllByRecursion (Fits n tables (Works b side)) (still_to (table_of n tables b) w d)
    → MoveOnWay n tables b (move_to n b (table_of n tables b) side w d)
move_on_way n tables b side w (dest.Thread t) g f e p = record { process = tt; sent = whole_on_way n tables b side w (dest.Thread t) g e (steps n tables (Works b side) (RouterWaits b (router_port b (dest.Thread t))) (Bound (dest.Thread t)) g p.1.0 refl).fits.0; bad = refl }
move_on_way n tables b side w dest.Host g f e p = record { process = tt; sent = whole_on_way n tables b side w dest.Host g e (steps n tables (Works b side) (RouterWaits b (router_port b dest.Host)) (Bound dest.Host) g p.1.0 refl).fits.0; bad = refl }
move_on_way n tables b side w (dest.Mask tile mask) g f e p = record { process = tt; sent = whole_on_way n tables b side w (dest.Mask tile mask) g e (steps n tables (Works b side) (RouterWaits b (router_port b (dest.Mask tile mask))) (Bound (dest.Mask tile mask)) g p.1.0 refl).fits.0; bad = refl }
move_on_way n tables b side w (dest.Key key) g f e p =
    subst (λ v. MoveOnWay n tables b (cond v (record { side = side; sent = None; work = Some w; bad = Some key }) (record_move n b (table_of n tables b) side key w (next_record (table_of n tables b) w)))) (sym p.0)
    (record_on_way n tables b side key w (next_record (table_of n tables b) w) g f e p.0 p.1 (sym (ap (λ d. slice_get (rest_to (table_of n tables b) w d) 0) e)))

-- the move of a Route is the move of some side
roomy : (P : Move → Type 0) (room : Bool) (found m : Move) → P found → cond room (Some found) None ≡ Some m → P m
roomy P true found m p h = let is : found ≡ m = cc h in subst P is p
roomy P false found m p h = cc h

by_side : (P : Move → Type 0) (plan : RouterPlan) (side : Port) (o : Option Work) (s : RouterState) (m : Move) → at side s.inputs ≡ o → ((w : Work) → at side s.inputs ≡ Some w → P (move_of plan.shape plan.board plan.beats side w)) → move_with plan side o s ≡ Some m → P m
by_side P plan side None s m e f h = cc h
by_side P plan side (Some w) s m e f h = roomy P (has_room (move_of plan.shape plan.board plan.beats side w).sent s.node.out) (move_of plan.shape plan.board plan.beats side w) m (f w e) h

or_further : (P : Move → Type 0) (o others : Option Move) (m : Move) → (o ≡ Some m → P m) → (others ≡ Some m → P m) → or_else o others ≡ Some m → P m
or_further P None others m here further h = further h
or_further P (Some found) others m here further h = here h

by_sides : (P : Move → Type 0) (plan : RouterPlan) (places : List Port) (s : RouterState) (m : Move) → ((side : Port) (w : Work) → at side s.inputs ≡ Some w → P (move_of plan.shape plan.board plan.beats side w)) → first_of plan places s ≡ Some m → P m
by_sides P plan [] s m f h = cc h
by_sides P plan (side ∷ others) s m f h = or_further P (move_at plan side s) (first_of plan others s) m (by_side P plan side (at side s.inputs) s m refl (f side)) (by_sides P plan others s m f) h

sent_waits : (n : ShapeNumbers) (tables : List Table) (b : Board) (o : Option Sent) (out : Ports Packet) → SentFits n tables b o → Waits n tables b out → Waits n tables b (with_sent o out)
sent_waits n tables b None out f w = w
sent_waits n tables b (Some s) out f w = put_waits n tables b s.way (Some s.packet) out f w

carried_on_way : (n : ShapeNumbers) (tables : List Table) (b : Board) (s : RouterState) (m : Move) → RouterOnWay n tables b s → MoveOnWay n tables b m → RouterOnWay n tables b (carried s m)
carried_on_way n tables b s m r f =
    on_way n tables b (carried s m) (with_at m.side m.work s.inputs) (with_sent m.sent s.node.out) (put_process n tables b m.side m.work s.inputs f.process r.process) (sent_waits n tables b m.sent s.node.out f.sent r.waits)
    refl refl (ap (λ e. noted e m.bad) r.ended ∙ f.bad)

routed : (n : ShapeNumbers) (tables : List Table) (b : Board) (s t : RouterState) (o : Option Move) → HasRoutes n tables → IsFit (plan_of n tables b) s → RouterOnWay n tables b s → first_move (plan_of n tables b) s ≡ o → option_map (carried s) o ≡ Some t → RouterOnWay n tables b t
routed n tables b s t None g f r e h = cc h
routed n tables b s t (Some m) g f r e h =
    let plan = plan_of n tables b in
    let is : carried s m ≡ t = cc h in
    subst (RouterOnWay n tables b) is (carried_on_way n tables b s m r (by_sides (MoveOnWay n tables b) plan sides s m
    (λ side w at_side. move_on_way n tables b side w w.packet.dest g (work_fits plan s side w f at_side) refl (subst (ProcessFits n tables b side) at_side (r.process side))) e))

-- ---- every deed

given : {X Y : Type 0} (b : Bool) (o : Option X) (f : X → Y) (y : Y) → option_map f (cond b o None) ≡ Some y → option_map f o ≡ Some y
given true o f y h = h
given false o f y h = cc h

departs : (n : ShapeNumbers) (tables : List Table) (b : Board) (way : Port) (s t : RouterState) → RouterOnWay n tables b s → depart_row way s ≡ Some t → RouterOnWay n tables b t
departs n tables b way s t r h =
    let d = depart_deed way s t h in
    on_way n tables b t s.inputs (with_at way None s.node.out) r.process (put_waits n tables b way None s.node.out tt r.waits) d.inputs d.out (d.ended ∙ r.ended)

takes : (n : ShapeNumbers) (tables : List Table) (b : Board) (side : Port) (k : Packet) (s t : RouterState) → HasRoutes n tables → Comes n tables b side k.dest → RouterOnWay n tables b s → router_deed (plan_of n tables b) (deed.Take side k) s ≡ Some t → RouterOnWay n tables b t
takes n tables b side k s t g c r h =
    let d = accept_deed (plan_of n tables b) side k s t h in
    on_way n tables b t (with_at side (Some (started (table_of n tables b) k)) s.inputs) s.node.out (put_process n tables b side (Some (started (table_of n tables b) k)) s.inputs (started_fits n tables b side k k.dest g refl c) r.process) r.waits d.inputs d.out (d.ended ∙ r.ended)

same_packets : (n : ShapeNumbers) (tables : List Table) (b : Board) (s t u : RouterState) → t ≡ u → u.inputs ≡ s.inputs → u.node.out ≡ s.node.out → u.ended ≡ s.ended → RouterOnWay n tables b s → RouterOnWay n tables b t
same_packets n tables b s t u is e f k r = subst (RouterOnWay n tables b) (sym is) (on_way n tables b u s.inputs s.node.out r.process r.waits e f (k ∙ r.ended))

pub keeps_ways : (n : ShapeNumbers) (tables : List Table) (b : Board) (d : Deed) (s t : RouterState) → HasRoutes n tables → HasBoard n b → IsFit (plan_of n tables b) s → TakesWhatComes n tables b d → RouterOnWay n tables b s → router_deed (plan_of n tables b) d s ≡ Some t → RouterOnWay n tables b t
keeps_ways n tables b (deed.Turn u k) s t g on f c r h = cc h
keeps_ways n tables b (deed.Deliver u) s t g on f c r h = cc h
keeps_ways n tables b (deed.Give way k) s t g on f c r h = departs n tables b way s t r (given (is_packet k (offered way s.node)) (node_departs way s.node) (with_node s) t h)
keeps_ways n tables b (deed.Take side k) s t g on f c r h = takes n tables b side k s t g c r h
keeps_ways n tables b deed.Route s t g on f c r h = routed n tables b s t (first_move (plan_of n tables b) s) g f r refl h
keeps_ways n tables b (deed.HostPut k) s t g on f c r h = cc h
keeps_ways n tables b (deed.HostTake k) s t g on f c r h = cc h
keeps_ways n tables b (deed.Report i x) s t g on f c r h = same_packets n tables b s t (router_whitened s) (report_deed (plan_of n tables b) i x s t h).is refl refl refl r
keeps_ways n tables b deed.Begin s t g on f c r h = cc h
keeps_ways n tables b (deed.Confirm i x) s t g on f c r h = same_packets n tables b s t s (confirm_deed (plan_of n tables b) i x s t h).is refl refl refl r
keeps_ways n tables b deed.Announce s t g on f c r h = cc h
keeps_ways n tables b (deed.Release i x) s t g on f c r h = same_packets n tables b s t (released s) (release_deed (plan_of n tables b) i x s t h).is refl refl refl r
keeps_ways n tables b (deed.Go i x) s t g on f c r h = same_packets n tables b s t (gone_on s) (go_deed (plan_of n tables b) i x s t h).is refl refl refl r

-- ---- what a router gives

offered_is : (held : Bool) (o : Option Packet) (k : Packet) → cond held None o ≡ Some k → o ≡ Some k
offered_is true o k h = cc h
offered_is false o k h = h

gate : {X Y : Type 0} (b : Bool) (o : Option X) (f : X → Y) (y : Y) → option_map f (cond b o None) ≡ Some y → b ≡ true
gate true o f y h = refl
gate false o f y h = cc h

pub gives_ways : (n : ShapeNumbers) (tables : List Table) (b : Board) (way : Port) (k : Packet) (s t : RouterState) → RouterOnWay n tables b s → router_deed (plan_of n tables b) (deed.Give way k) s ≡ Some t → Fits n tables (RouterLink b way) (Bound k.dest)
gives_ways n tables b way k s t r h =
    let same = packet_is k (offered way s.node) (gate (is_packet k (offered way s.node)) (node_departs way s.node) (with_node s) t h) in
    let there = offered_is s.node.held (at way s.node.out) k same in
    subst (WaitsFit n tables b way) there (r.waits way)
