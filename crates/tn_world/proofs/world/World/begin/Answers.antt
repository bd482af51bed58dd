use Rattle.std.proofs.Common.{◌≡◌, ◌<◌, ap, length, set, subst, sym, ◌∙◌}
use Rattle.tn_base.specs.declared.shape.ShapeNumbers.{ShapeNumbers}
use Rattle.tn_base.specs.declared.event.Event.TheVariants as event
use Rattle.tn_base.specs.Does.{Does}
use Rattle.tn_rows.specs.Events.{happened}
use Rattle.tn_rows.specs.Places.{One, detector_part}
use Rattle.tn_rows.specs.WorldView.{WorldView}
use Rattle.tn_tile.specs.Turns.{moved}
use Rattle.tn_world.proofs.Places.{At, does_keeps, does_world}
use Rattle.tn_rows.proofs.Ways.{detector_there}
use Rattle.tn_world.proofs.world.World.begin.Goals as goal

pub invariant_of-self : goal.invariant_of-self
invariant_of-self g c =
    let w : WorldView = record { shape = c.self.inside.shape; parts = c.self.inside.parts.items } in
    let is : c.detector-d.result.0 ≡ detector_part w.shape = c.detector-d.ensures ∙ ap (λ (n : ShapeNumbers). detector_part n) c.self.invariant.all in
    let at : At w c.detector-d.result.0 c.index_mut.result.now = record { within = subst (λ d. d < length w.parts) (sym is) (detector_there w c.self.invariant.world); is = c.index_mut.ensures.value } in
    record {
      world = does_keeps w event.Begin c.detector-d.result.0 c.index_mut.result.now c.begin.new.self (moved c.begin.result) at c.begin.ensures c.self.invariant.world;
      all = c.self.invariant.all;
    }

pub returns : goal.returns
returns g c =
    let w : WorldView = record { shape = c.self.inside.shape; parts = c.self.inside.parts.items } in
    let is : c.detector-d.result.0 ≡ detector_part w.shape = c.detector-d.ensures ∙ ap (λ (n : ShapeNumbers). detector_part n) c.self.invariant.all in
    let at : At w c.detector-d.result.0 c.index_mut.result.now = record { within = subst (λ d. d < length w.parts) (sym is) (detector_there w c.self.invariant.world); is = c.index_mut.ensures.value } in
    subst (λ (x : WorldView). Does (moved c.begin.result) (happened event.Begin x) x (record { shape = c.self.inside.shape; parts = set c.self.inside.parts.items c.detector-d.result.0 c.begin.new.self })) c.self.view_is
    (does_world w event.Begin c.detector-d.result.0 c.index_mut.result.now c.begin.new.self (moved c.begin.result) (ap One (sym is)) at c.begin.ensures)
