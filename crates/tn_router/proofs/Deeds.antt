-- What each event leaves as it is, and what the detector sees of it.
use Rattle.std.proofs.Common.{ℕ, ◌≡◌, MatchOption, Bool, true, false, cond, List, [], ◌∷◌, refl, sym, ap, subst, ◌∙◌, inl, inr, Option, Some, None, is_some, option_map, pos, ◌+ℤ◌, ◌-ℤ◌}
use Rattle.std.proofs.lemmas.Bool.{and_parts, cases_Bool}
use Rattle.tn_base.specs.declared.message.Packet.{Packet}
use Rattle.tn_base.specs.declared.port.Port.{Port}
use Rattle.tn_base.specs.Does.{Does}
use Rattle.tn_keys.specs.Tables.{HasBoard}
use Rattle.tn_node.specs.Deed.{Deed}
use Rattle.tn_node.specs.declared.facts.PartFacts.{PartFacts}
use Rattle.tn_node.specs.declared.node.Node.{Node}
use Rattle.tn_node.specs.declared.ports.Ports.{Ports}
use Rattle.tn_node.specs.Deed as deed
use Rattle.tn_node.specs.Facts.{with_value}
use Rattle.tn_node.specs.NodeRows.{departed, depart_row as node_departs, held_back, let_go, offered, whitened}
use Rattle.tn_node.specs.PortRows.{all_empty, at, with_at}
use Rattle.tn_node.specs.SamePacket.{is_packet}
use Rattle.tn_node.proofs.Agreed.{Own, own_given, own_taken, still_given, still_taken}
use Rattle.tn_node.proofs.PortLaws.{empty_at}
use Rattle.tn_router.specs.declared.moves.Move.{Move}
use Rattle.tn_router.specs.declared.state.RouterState.{RouterState}
use Rattle.tn_router.specs.declared.work.Work.{Work}
use Rattle.tn_router.specs.Kept.{FitsWay, IsFit, MoveFits}
use Rattle.tn_router.specs.Moves.{move_of}
use Rattle.tn_router.specs.Rest.{started}
use Rattle.tn_router.specs.Rows.{accept_row, carried, depart_row, first_move, first_of, gone_on, has_room, is_still, move_at, move_with, or_else, received, released, router_deed, router_facts, router_whitened, route_row, sides, with_node}
use Rattle.tn_router.specs.RouterView.{RouterPlan, RouterView, now_by, with_now}
use Rattle.tn_router.proofs.Moved.{placed_fits}
use Rattle.tn_router.proofs.Shaped.{Accepts, Departs, accepts, carried_shaped, departs, gone_shaped, notes_shaped, work_shaped}

-- a Route happens only if the router is not still; it moves packets within the router, and may note a bad key
pub record RouteDeed (old new : RouterState) : Type 0 where
  pub active : is_still old ≡ false
  pub counter : new.node.counter ≡ old.node.counter
  pub black : new.node.black ≡ old.node.black
  pub held : new.node.held ≡ old.node.held

no_move : (plan : RouterPlan) (s : RouterState) (side : Port) → at side s.inputs ≡ None → move_at plan side s ≡ None
no_move plan s side e = ap (λ (o : Option Work). move_with plan side o s) e

none_of : (plan : RouterPlan) (s : RouterState) (ss : List Port) → ((side : Port) → at side s.inputs ≡ None) → first_of plan ss s ≡ None
none_of plan s [] none = refl
none_of plan s (side ∷ others) none = ap (λ (o : Option Move). or_else o (first_of plan others s)) (no_move plan s side (none side)) ∙ none_of plan s others none

active_if : (plan : RouterPlan) (s : RouterState) (m : Move) → first_move plan s ≡ Some m → is_still s ≡ false
active_if plan s m e = elim (cases_Bool (is_still s)) [
  | inl still ↦
      let none = none_of plan s sides (λ side. empty_at side s.inputs (and_parts (all_empty s.inputs) (all_empty s.node.out) still).0) in
      cc (none, e)
  | inr active ↦ active
]

route_by : (plan : RouterPlan) (s t : RouterState) (o : Option Move) → first_move plan s ≡ o → option_map (carried s) o ≡ Some t → RouteDeed s t
route_by plan s t None e h = cc h
route_by plan s t (Some m) e h =
    let is : carried s m ≡ t = cc h in
    subst (RouteDeed s) is (record { active = active_if plan s m e; counter = refl; black = refl; held = refl })

pub route_deed : (plan : RouterPlan) (s t : RouterState) → route_row plan s ≡ Some t → RouteDeed s t
route_deed plan s t h = route_by plan s t (first_move plan s) refl h

-- a Depart happens only if the router is not held, and raises the counter by one
pub record DepartDeed (way : Port) (old new : RouterState) : Type 0 where
  pub free : old.node.held ≡ false
  pub counter : new.node.counter ≡ old.node.counter +ℤ pos 1
  pub black : new.node.black ≡ old.node.black
  pub held : new.node.held ≡ old.node.held
  pub inputs : new.inputs ≡ old.inputs
  pub out : new.node.out ≡ with_at way None old.node.out
  pub ended : new.ended ≡ old.ended

pub depart_deed : (way : Port) (s t : RouterState) → depart_row way s ≡ Some t → DepartDeed way s t
depart_deed way s t h =
    let gone : Departs way s = departs way s (ap is_some h) in
    let is : with_node s (departed way s.node) ≡ t = cc (gone.row, h) in
    subst (DepartDeed way s) is (record { free = gone.node.free; counter = refl; black = refl; held = refl; inputs = refl; out = refl; ended = refl })

-- an Arrive lowers the counter by one and blackens
pub record AcceptDeed (plan : RouterPlan) (side : Port) (p : Packet) (old new : RouterState) : Type 0 where
  pub counter : new.node.counter ≡ old.node.counter -ℤ pos 1
  pub black : new.node.black ≡ true
  pub held : new.node.held ≡ old.node.held
  pub inputs : new.inputs ≡ with_at side (Some (started plan.beats p)) old.inputs
  pub out : new.node.out ≡ old.node.out
  pub ended : new.ended ≡ old.ended

pub accept_deed : (plan : RouterPlan) (side : Port) (p : Packet) (s t : RouterState) → accept_row plan side p s ≡ Some t → AcceptDeed plan side p s t
accept_deed plan side p s t h =
    let a : Accepts plan side p s = accepts plan side p s (ap is_some h) in
    let is : received plan side p s ≡ t = cc (a.row, h) in
    subst (AcceptDeed plan side p s) is (record { counter = refl; black = refl; held = refl; inputs = refl; out = refl; ended = refl })

-- each event keeps what fits
move_with_fits : (plan : RouterPlan) (side : Port) (o : Option Work) (s : RouterState) (m : Move) → HasBoard plan.shape plan.board → IsFit plan s → at side s.inputs ≡ o → move_with plan side o s ≡ Some m → MoveFits plan m
move_with_fits plan side None s m b f e h = cc h
move_with_fits plan side (Some w) s m b f e h = by (has_room (move_of plan.shape plan.board plan.beats side w).sent s.node.out) h where
  by : (room : Bool) → cond room (Some (move_of plan.shape plan.board plan.beats side w)) None ≡ Some m → MoveFits plan m
  by true q = placed_fits plan s side w m b f e (cc q)
  by false q = cc q

first_fits : (plan : RouterPlan) (places : List Port) (s : RouterState) (m : Move) → HasBoard plan.shape plan.board → IsFit plan s → first_of plan places s ≡ Some m → MoveFits plan m
first_fits plan [] s m b f h = cc h
first_fits plan (side ∷ others) s m b f h = by (move_at plan side s) refl h (λ q. first_fits plan others s m b f q) where
  by : (o : Option Move) → move_at plan side s ≡ o → or_else o (first_of plan others s) ≡ Some m → (first_of plan others s ≡ Some m → MoveFits plan m) → MoveFits plan m
  by None e q further = further q
  by (Some found) e q further = move_with_fits plan side (at side s.inputs) s m b f refl (e ∙ q)

routed_shaped : (plan : RouterPlan) (s t : RouterState) (o : Option Move) → HasBoard plan.shape plan.board → IsFit plan s → first_move plan s ≡ o → option_map (carried s) o ≡ Some t → IsFit plan t
routed_shaped plan s t None b f e h = cc h
routed_shaped plan s t (Some m) b f e h =
    let is : carried s m ≡ t = cc h in
    subst (IsFit plan) is (carried_shaped plan s m (first_fits plan sides s m b f e) f)

pub route_shaped : (plan : RouterPlan) (s t : RouterState) → HasBoard plan.shape plan.board → IsFit plan s → route_row plan s ≡ Some t → IsFit plan t
route_shaped plan s t b f h = routed_shaped plan s t (first_move plan s) b f refl h

pub depart_shaped : (plan : RouterPlan) (way : Port) (s t : RouterState) → IsFit plan s → depart_row way s ≡ Some t → IsFit plan t
depart_shaped plan way s t f h =
    let gone : Departs way s = departs way s (ap is_some h) in
    let is : with_node s (departed way s.node) ≡ t = cc (gone.row, h) in
    subst (IsFit plan) is (notes_shaped plan (record s { node = record s.node { out = with_at way None s.node.out } }) (s.node.counter +ℤ pos 1) s.node.black s.node.held s.ended (gone_shaped plan s way f))

pub accept_shaped : (plan : RouterPlan) (side : Port) (p : Packet) (s t : RouterState) → IsFit plan s → accept_row plan side p s ≡ Some t → IsFit plan t
accept_shaped plan side p s t f h =
    let a : Accepts plan side p s = accepts plan side p s (ap is_some h) in
    let is : received plan side p s ≡ t = cc (a.row, h) in
    subst (IsFit plan) is (notes_shaped plan (record s { inputs = with_at side (Some (started plan.beats p)) s.inputs }) (s.node.counter -ℤ pos 1) true s.node.held s.ended (work_shaped plan s side (Some (started plan.beats p)) a.fits f))

-- what the detector's deeds make of a router: the facts are the router's own, and the router becomes what the call of this name says
pub record ReportDeed (f : PartFacts) (old new : RouterState) : Type 0 where
  pub facts : f ≡ with_value (router_facts old) f
  pub still : is_still old ≡ true
  pub is : new ≡ router_whitened old

pub record ConfirmDeed (f : PartFacts) (old new : RouterState) : Type 0 where
  pub facts : f ≡ with_value (router_facts old) f
  pub is : new ≡ old

pub record ReleaseDeed (f : PartFacts) (old new : RouterState) : Type 0 where
  pub facts : f ≡ with_value (router_facts old) f
  pub is : new ≡ released old

pub record GoDeed (f : PartFacts) (old new : RouterState) : Type 0 where
  pub facts : f ≡ with_value (router_facts old) f
  pub is : new ≡ gone_on old

pub report_deed : (plan : RouterPlan) (i : ℕ) (f : PartFacts) (s t : RouterState) → router_deed plan (deed.Report i f) s ≡ Some t → ReportDeed f s t
report_deed plan i f s t e =
    let o = still_taken (router_facts s) f (router_whitened s) t e in
    record { facts = o.0.facts; still = o.1; is = sym o.0.is }

pub confirm_deed : (plan : RouterPlan) (i : ℕ) (f : PartFacts) (s t : RouterState) → router_deed plan (deed.Confirm i f) s ≡ Some t → ConfirmDeed f s t
confirm_deed plan i f s t e =
    let o : Own (router_facts s) f s t = own_taken (router_facts s) f s t e in
    record { facts = o.facts; is = sym o.is }

pub release_deed : (plan : RouterPlan) (i : ℕ) (f : PartFacts) (s t : RouterState) → router_deed plan (deed.Release i f) s ≡ Some t → ReleaseDeed f s t
release_deed plan i f s t e =
    let o : Own (router_facts s) f (released s) t = own_taken (router_facts s) f (released s) t e in
    record { facts = o.facts; is = sym o.is }

pub go_deed : (plan : RouterPlan) (i : ℕ) (f : PartFacts) (s t : RouterState) → router_deed plan (deed.Go i f) s ≡ Some t → GoDeed f s t
go_deed plan i f s t e =
    let o : Own (router_facts s) f (gone_on s) t = own_taken (router_facts s) f (gone_on s) t e in
    record { facts = o.facts; is = sym o.is }

-- a router can do each of them with its own facts, whatever the detector's answer is; it reports only if it is still
pub record TellsOwn (plan : RouterPlan) (s : RouterState) : Type 0 where
  pub reports : (i value : ℕ) → is_still s ≡ true → router_deed plan (deed.Report i (record (router_facts s) { value = value })) s ≡ Some (router_whitened s)
  pub confirms : (i value : ℕ) → router_deed plan (deed.Confirm i (record (router_facts s) { value = value })) s ≡ Some s
  pub releases : (i value : ℕ) → router_deed plan (deed.Release i (record (router_facts s) { value = value })) s ≡ Some (released s)
  pub goes : (i value : ℕ) → router_deed plan (deed.Go i (record (router_facts s) { value = value })) s ≡ Some (gone_on s)

pub tells_own : (plan : RouterPlan) (s : RouterState) → TellsOwn plan s
tells_own plan s = record {
  reports = λ i value still. still_given (router_facts s) value (router_whitened s) still;
  confirms = λ i value. own_given (router_facts s) value s;
  releases = λ i value. own_given (router_facts s) value (released s);
  goes = λ i value. own_given (router_facts s) value (gone_on s);
}

-- another node with the same packets keeps what fits
node_shaped : (plan : RouterPlan) (s t : RouterState) (node : Node) → node.out ≡ s.node.out → t ≡ with_node s node → IsFit plan s → IsFit plan t
node_shaped plan s t node same is f =
    subst (IsFit plan) (sym is) (record { works = f.works; waits = subst (λ (out : Ports Packet). (way : Port) → MatchOption (at way out) (Unit {0}) (FitsWay plan.shape plan.board way)) (sym same) f.waits })

given : {X Y : Type 0} (b : Bool) (o : Option X) (f : X → Y) (y : Y) → option_map f (cond b o None) ≡ Some y → option_map f o ≡ Some y
given true o f y h = h
given false o f y h = cc h

pub deed_shaped : (plan : RouterPlan) (d : Deed) (s t : RouterState) → HasBoard plan.shape plan.board → IsFit plan s → router_deed plan d s ≡ Some t → IsFit plan t
deed_shaped plan (deed.Turn u n) s t b f h = cc h
deed_shaped plan (deed.Deliver u) s t b f h = cc h
deed_shaped plan (deed.Give way k) s t b f h = depart_shaped plan way s t f (given (is_packet k (offered way s.node)) (node_departs way s.node) (with_node s) t h)
deed_shaped plan (deed.Take side k) s t b f h = accept_shaped plan side k s t f h
deed_shaped plan deed.Route s t b f h = route_shaped plan s t b f h
deed_shaped plan (deed.HostPut k) s t b f h = cc h
deed_shaped plan (deed.HostTake k) s t b f h = cc h
deed_shaped plan (deed.Report i g) s t b f h = node_shaped plan s t (whitened s.node) refl (report_deed plan i g s t h).is f
deed_shaped plan deed.Begin s t b f h = cc h
deed_shaped plan (deed.Confirm i g) s t b f h = subst (IsFit plan) (sym (confirm_deed plan i g s t h).is) f
deed_shaped plan deed.Announce s t b f h = cc h
deed_shaped plan (deed.Release i g) s t b f h = node_shaped plan s t (held_back s.node) refl (release_deed plan i g s t h).is f
deed_shaped plan (deed.Go i g) s t b f h = node_shaped plan s t (let_go s.node) refl (go_deed plan i g s t h).is f

-- a Route that did what its row says keeps what fits, whether it was enabled or not
pub routed_fits : (plan : RouterPlan) (happened : Bool) (s t : RouterState) → HasBoard plan.shape plan.board → IsFit plan s → Does happened (route_row plan s) s t → IsFit plan t
routed_fits plan happened s t b f does = by (route_row plan s) refl does where
  by : (o : Option RouterState) → route_row plan s ≡ o → Does happened o s t → IsFit plan t
  by None e d = subst (IsFit plan) (sym d.1) f
  by (Some u) e d = subst (IsFit plan) (sym d.1) (route_shaped plan s u b f e)

-- a row of the state is a row of the whole router
pub does_now : (happened : Bool) (o : Option RouterState) (v : RouterView) (t : RouterState) → Does happened o v.now t → Does happened (now_by v o) v (with_now v t)
does_now happened None v t d = (d.0, ap (with_now v) d.1)
does_now happened (Some u) v t d = (d.0, ap (with_now v) d.1)
