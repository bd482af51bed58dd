use Rattle.std.proofs.Common.{◌≡◌, ◌<◌, ◌≤◌, arith, false, ltb, refl, subst, sym, ◌∙◌, ap}
use Rattle.std.specs.declared.option.Option.{Option}
use Rattle.std.proofs.lemmas.Bool.{lt-ltb}
use Rattle.tn_base.specs.declared.shape.ShapeNumbers.{ShapeNumbers}
use Rattle.tn_base.specs.Does.{Does}
use Rattle.tn_base.specs.Parts.{visited}
use Rattle.tn_rows.specs.Events.{happened, happened_at}
use Rattle.tn_rows.specs.Places.{detector_part, two_if}
use Rattle.tn_rows.specs.WorldView.{WorldView}
use Rattle.tn_tile.specs.Turns.{moved}
use Rattle.tn_part.specs.Visits.{visit_event}
use Rattle.tn_world.proofs.Pairs.{both_keeps, both_world}
use Rattle.tn_part.proofs.Visits.{past_visited, visit_is}
use Rattle.tn_rows.proofs.Ways.{VisitPair, visit_pair}
use Rattle.tn_world.proofs.world.World.visit.Goals as goal

pub visit_at-requires : goal.visit_at-requires
visit_at-requires g c =
    let w : WorldView = record { shape = c.self.inside.shape; parts = c.self.inside.parts.items } in
    let at : c.detector-d.result.0 ≡ detector_part w.shape = c.detector-d.ensures ∙ ap (λ (n : ShapeNumbers). detector_part n) c.self.invariant.all in
    let less : c.args.p.0 < visited w.shape = omega (arith, c.if-p-visited.false, c.visited.ensures.value) in
    let joins : VisitPair w c.args.p.0 c.detector-d.result.0 = subst (VisitPair w c.args.p.0) (sym at) (visit_pair w c.args.p.0 less c.law_links.ensures c.self.invariant.world) in
    record { low = joins.less; high = joins.high; visits = joins.visits }

pub invariant_of-self : goal.invariant_of-self
invariant_of-self g c =
    let w : WorldView = record { shape = c.self.inside.shape; parts = c.self.inside.parts.items } in
    let at : c.detector-d.result.0 ≡ detector_part w.shape = c.detector-d.ensures ∙ ap (λ (n : ShapeNumbers). detector_part n) c.self.invariant.all in
    let less : c.args.p.0 < visited w.shape = omega (arith, c.if-p-visited.false, c.visited.ensures.value) in
    let joins : VisitPair w c.args.p.0 c.detector-d.result.0 = subst (VisitPair w c.args.p.0) (sym at) (visit_pair w c.args.p.0 less c.law_links.ensures c.self.invariant.world) in
    record { world = both_keeps w (visit_event c.args.visit c.args.p) c.args.p.0 c.detector-d.result.0 c.visit_at.new.parts.items (moved c.visit_at.result) joins.less c.visit_at.ensures c.self.invariant.world; all = c.self.invariant.all }

pub returns : goal.returns
returns g c =
    let w : WorldView = record { shape = c.self.inside.shape; parts = c.self.inside.parts.items } in
    let new : WorldView = record { shape = c.self.inside.shape; parts = c.visit_at.new.parts.items } in
    let e = visit_event c.args.visit c.args.p in
    let at : c.detector-d.result.0 ≡ detector_part w.shape = c.detector-d.ensures ∙ ap (λ (n : ShapeNumbers). detector_part n) c.self.invariant.all in
    let less : c.args.p.0 < visited w.shape = omega (arith, c.if-p-visited.false, c.visited.ensures.value) in
    subst (λ (x : WorldView). Does (moved c.visit_at.result) (happened e x) x new) c.self.view_is
    (subst (λ (o : Option WorldView). Does (moved c.visit_at.result) o w new) (sym (visit_is w c.args.visit c.args.p))
    (subst (λ d. Does (moved c.visit_at.result) (happened_at e w (two_if (ltb c.args.p.0 (visited w.shape)) c.args.p.0 d)) w new) at
    (both_world w e (ltb c.args.p.0 (visited w.shape)) c.args.p.0 c.detector-d.result.0 c.visit_at.new.parts.items (moved c.visit_at.result) (lt-ltb c.args.p.0 (visited w.shape) less) c.visit_at.ensures)))

pub returns-then-p-visited : goal.returns-then-p-visited
returns-then-p-visited g c =
    let w : WorldView = record { shape = c.self.inside.shape; parts = c.self.inside.parts.items } in
    let past : visited w.shape ≤ c.args.p.0 = omega (arith, c.if-p-visited.true, c.visited.ensures.value) in
    subst (λ (x : WorldView). Does false (happened (visit_event c.args.visit c.args.p) x) x x) c.self.view_is
    (subst (λ (o : Option WorldView). Does false o w w) (sym (past_visited w c.args.visit c.args.p past)) (refl, refl))
