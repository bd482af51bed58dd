use Rattle.std.proofs.Common.{◌∙◌, ◌≡◌, ◌++◌, [], ap, sym, is_some}
use Rattle.std.specs.Prelude.{option_copied}
use Rattle.std.proofs.lemmas.List.{append-nil}
use Rattle.tn_rows.specs.Events.{happened}
use Rattle.tn_letters.specs.Steps.{event_steps}
use Rattle.tn_letters.specs.Tiles.{reach_of}
use Rattle.tn_bag.proofs.Arrivals.{arrival_is, arrival_not, arrives, front_fits, on_ok}
use Rattle.tn_bag.proofs.spell.push_event.Goals as goal

pub push_delivery-requires : goal.push_delivery-requires
push_delivery-requires g c =
    let w = c.args.world.now in
    let some = ap (λ e. is_some (happened e w)) (sym c.in-Arrive.is) ∙ c.requires in
    let a = arrives w c.in-Arrive.l c.in-Arrive.p c.in-Some-tile_at.tile.now some (sym c.tile_at.ensures ∙ ap option_copied c.in-Some-tile_at.is) in
    front_fits w c.in-Arrive.l c.in-Arrive.p c.in-Some-tile_at.tile.now c.front_at.result a c.front_at.ensures

pub returns-in-Some-tile_at : goal.returns-in-Some-tile_at
returns-in-Some-tile_at g c =
    let w = c.args.world.now in
    let some = ap (λ e. is_some (happened e w)) (sym c.in-Arrive.is) ∙ c.requires in
    let a = arrives w c.in-Arrive.l c.in-Arrive.p c.in-Some-tile_at.tile.now some (sym c.tile_at.ensures ∙ ap option_copied c.in-Some-tile_at.is) in
    on_ok c.push_delivery.result
    (λ h. h (reach_of w) ∙ ap (λ steps. c.args.all.now.items ++ steps) (arrival_is w c.in-Arrive.l c.in-Arrive.p c.in-Some-tile_at.tile.now (option_copied c.front_at.result) a c.front_at.ensures ∙ ap (λ e. event_steps e w) (sym c.in-Arrive.is)))
    c.push_delivery.ensures

pub returns-in-None-tile_at : goal.returns-in-None-tile_at
returns-in-None-tile_at g c =
    let w = c.args.world.now in
    let none : event_steps c.args.event.now w ≡ [] = ap (λ e. event_steps e w) c.in-Arrive.is ∙ arrival_not w c.in-Arrive.l c.in-Arrive.p (sym c.tile_at.ensures ∙ ap option_copied c.in-None-tile_at.is) in
    sym (ap (λ steps. c.args.all.now.items ++ steps) none ∙ append-nil c.args.all.now.items)
