-- What a deed does to what a router shows.
use Rattle.std.proofs.Common.{◌≡◌, cond, refl, sym, ◌∙◌, ap, subst, arith, inl, inr, Bool, true, false, Option, Some, None, option_map}
use Rattle.std.proofs.lemmas.Bool.{and_parts, cases_Bool}
use Rattle.std.proofs.lemmas.Int.{ints}
use Rattle.tn_base.specs.declared.message.Packet.{Packet}
use Rattle.tn_base.specs.declared.port.Port.{Port}
use Rattle.tn_node.specs.Deed.{Deed}
use Rattle.tn_node.specs.Deed as deed
use Rattle.tn_node.specs.NodeRows.{depart_row as node_departs, departed_with, give_row, offered}
use Rattle.tn_node.specs.PortRows.{all_empty, at}
use Rattle.tn_node.specs.SamePacket.{is_packet}
use Rattle.tn_node.proofs.PortLaws.{empty_at}
use Rattle.tn_rest.specs.RestView.{Turns, Whitens}
use Rattle.tn_router.specs.declared.state.RouterState.{RouterState}
use Rattle.tn_router.specs.Rows.{depart_row, is_still, router_deed, with_node}
use Rattle.tn_router.specs.RouterView.{RouterPlan}
use Rattle.tn_router.proofs.Deeds.{accept_deed, confirm_deed, depart_deed, go_deed, release_deed, report_deed, route_deed}
use Rattle.tn_tile.proofs.Steps.{taken}
use Rattle.tn_rows.specs.DetectorDeed.{view_of}
use Rattle.tn_quiet.specs.Shows.{DoesDeed, router_shows}
use Rattle.tn_quiet.proofs.Tiles.{kept_by}

given_row : (way : Port) (k : Packet) (s t : RouterState) → option_map (with_node s) (give_row way k s.node) ≡ Some t → depart_row way s ≡ Some t
given_row way k s t e =
    let m = kept_by (with_node s) (give_row way k s.node) t e in
    let row = (taken (is_packet k (offered way s.node)) (node_departs way s.node) m.0 m.1).1 in
    ap (option_map (with_node s)) row ∙ ap (λ (x : RouterState). Some x) (sym m.2)

-- nothing departs from a router that is still
none_offered : (b : Bool) (o : Option Packet) → o ≡ None → cond b None o ≡ None
none_offered true o e = refl
none_offered false o e = e

active_if : (way : Port) (s t : RouterState) → depart_row way s ≡ Some t → is_still s ≡ false
active_if way s t e = elim (cases_Bool (is_still s)) [
  | inl still ↦
      let none : offered way s.node ≡ None = none_offered s.node.held (at way s.node.out) (empty_at way s.node.out (and_parts (all_empty s.inputs) (all_empty s.node.out) still).1) in
      let row : depart_row way s ≡ None = ap (λ o. option_map (with_node s) (departed_with o way s.node)) none in
      cc (row, e)
  | inr active ↦ active
]

pub router_does : (plan : RouterPlan) (d : Deed) (s t : RouterState) → router_deed plan d s ≡ Some t → DoesDeed d (router_shows s) (router_shows t)
router_does plan (deed.Turn a n) s t e = cc e
router_does plan (deed.Deliver a) s t e = cc e
router_does plan (deed.Give way k) s t e =
    let row = given_row way k s t e in
    let d = depart_deed way s t row in
    record { busy = active_if way s t row; free = d.free; counter = d.counter; black = d.black; held = d.held }
router_does plan (deed.Take side k) s t e =
    let d = accept_deed plan side k s t e in
    let c = d.counter in
    record { counter = omega (arith, ints); black = d.black; held = d.held }
router_does plan deed.Route s t e =
    let d = route_deed plan s t e in
    record { busy = d.active; counter = d.counter; black = d.black; held = d.held }
router_does plan (deed.HostPut k) s t e = cc e
router_does plan (deed.HostTake k) s t e = cc e
router_does plan (deed.Report i f) s t e =
    let d = report_deed plan i f s t e in
    (ap view_of d.facts, d.still, subst (λ x. Whitens (router_shows s) (router_shows x)) (sym d.is) (record { white = refl; still = refl; counter = refl; held = refl }))
router_does plan deed.Begin s t e = cc e
router_does plan (deed.Confirm i f) s t e = let d = confirm_deed plan i f s t e in (ap view_of d.facts, ap router_shows d.is)
router_does plan deed.Announce s t e = cc e
router_does plan (deed.Release i f) s t e =
    let d = release_deed plan i f s t e in
    (ap view_of d.facts, subst (λ x. Turns true (router_shows s) (router_shows x)) (sym d.is) (record { held = refl; counter = refl; black = refl }))
router_does plan (deed.Go i f) s t e =
    let d = go_deed plan i f s t e in
    (ap view_of d.facts, subst (λ x. Turns false (router_shows s) (router_shows x)) (sym d.is) (record { held = refl; counter = refl; black = refl }))
