-- What a deed does to what a tile shows.
use Rattle.std.proofs.Common.{◌≡◌, refl, sym, ◌∙◌, ap, subst, arith, Option, Some, None, option_map, true, false}
use Rattle.std.proofs.lemmas.Int.{ints}
use Rattle.tn_base.specs.declared.message.Packet.{Packet}
use Rattle.tn_base.specs.declared.port.Port.{Port}
use Rattle.tn_node.specs.declared.node.Node.{Node}
use Rattle.tn_node.specs.Deed.{Deed}
use Rattle.tn_node.specs.Deed as deed
use Rattle.tn_node.specs.NodeRows.{depart_row as node_departs, give_row, offered}
use Rattle.tn_node.specs.SamePacket.{is_packet}
use Rattle.tn_rest.specs.RestView.{Sends, Turns, Whitens}
use Rattle.tn_tile.specs.Rows.{tile_deed, with_node}
use Rattle.tn_tile.specs.declared.state.TileState.{TileState}
use Rattle.tn_tile.specs.TileView.{TilePlan}
use Rattle.tn_tile.proofs.Deeds.{accept_deed, confirm_deed, deliver_deed, depart_deed, go_deed, release_deed, report_deed, turn_deed}
use Rattle.tn_tile.proofs.Steps.{taken}
use Rattle.tn_rows.specs.DetectorDeed.{view_of}
use Rattle.tn_quiet.specs.Shows.{DoesDeed, tile_shows}

-- what was mapped is there
pub kept_by : {X Y : Type 0} (f : X → Y) (o : Option X) (y : Y) → option_map f o ≡ Some y → (x : X) × (o ≡ Some x) × (y ≡ f x)
kept_by f None y e = cc e
kept_by f (Some x) y e = (x, refl, cc e)

-- a part that gives a packet has put it on its link
given_row : (way : Port) (k : Packet) (s t : TileState) → option_map (with_node s) (give_row way k s.node) ≡ Some t → option_map (with_node s) (node_departs way s.node) ≡ Some t
given_row way k s t e =
    let m = kept_by (with_node s) (give_row way k s.node) t e in
    let row = (taken (is_packet k (offered way s.node)) (node_departs way s.node) m.0 m.1).1 in
    ap (option_map (with_node s)) row ∙ ap (λ (x : TileState). Some x) (sym m.2)

pub tile_does : (plan : TilePlan) (d : Deed) (s t : TileState) → tile_deed plan d s ≡ Some t → DoesDeed d (tile_shows s) (tile_shows t)
tile_does plan (deed.Turn a n) s t e =
    let d = turn_deed plan a.0 n s t e in
    record { busy = d.active; counter = ap (λ (n : Node). n.counter) d.node; black = ap (λ (n : Node). n.black) d.node; held = ap (λ (n : Node). n.held) d.node }
tile_does plan (deed.Deliver a) s t e =
    let d = deliver_deed plan a.0 s t e in
    record { busy = d.active; counter = d.counter; black = d.black; held = d.held }
tile_does plan (deed.Give way k) s t e =
    let d = depart_deed way s t (given_row way k s t e) in
    subst (λ x. Sends (tile_shows s) (tile_shows x)) (sym d.is) (record { busy = d.active; free = d.free; counter = refl; black = refl; held = refl })
tile_does plan (deed.Take side k) s t e =
    let d = accept_deed plan k s t e in
    let c = d.counter in
    record { counter = omega (arith, ints); black = d.black; held = d.held }
tile_does plan deed.Route s t e = cc e
tile_does plan (deed.HostPut k) s t e = cc e
tile_does plan (deed.HostTake k) s t e = cc e
tile_does plan (deed.Report i f) s t e =
    let d = report_deed plan i f s t e in
    (ap view_of d.facts, d.still, subst (λ x. Whitens (tile_shows s) (tile_shows x)) (sym d.is) (record { white = refl; still = refl; counter = refl; held = refl }))
tile_does plan deed.Begin s t e = cc e
tile_does plan (deed.Confirm i f) s t e = let d = confirm_deed plan i f s t e in (ap view_of d.facts, ap tile_shows d.is)
tile_does plan deed.Announce s t e = cc e
tile_does plan (deed.Release i f) s t e =
    let d = release_deed plan i f s t e in
    (ap view_of d.facts, subst (λ x. Turns true (tile_shows s) (tile_shows x)) (sym d.is) (record { held = refl; counter = refl; black = refl }))
tile_does plan (deed.Go i f) s t e =
    let d = go_deed plan i f s t e in
    (ap view_of d.facts, subst (λ x. Turns false (tile_shows s) (tile_shows x)) (sym d.is) (record { held = refl; counter = refl; black = refl }))
