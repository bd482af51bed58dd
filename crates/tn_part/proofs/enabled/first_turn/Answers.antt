use Rattle.std.proofs.Common.{◌≡◌, ◌∙◌, ◌<◌, ◌≤◌, subst, sym}
use Rattle.tn_base.specs.declared.shape.ShapeNumbers.{ShapeNumbers}
use Rattle.tn_base.specs.Address.{thread_at}
use Rattle.tn_base.specs.Shape.{thread_count}
use Rattle.tn_part.proofs.Listed.{NoTurn, turn_none, first_turn, more, no_turn}
use Rattle.tn_part.proofs.enabled.first_turn.Goals as goal

pub returns-then-can_turn : goal.returns-then-can_turn
returns-then-can_turn g c =
    let same = c.shape-shape.ensures ∙ c.sites.ensures in
    let less : c.loop-i.i < thread_count (g.M.HasParts.world c.args.machine.now).shape = subst (λ (n : ShapeNumbers). c.loop-i.i < thread_count n) same (subst (λ m. c.loop-i.i < m) c.thread_count-i-end.ensures.value c.loop-i-test.true) in
    first_turn (g.M.HasParts.world c.args.machine.now) c.thread_at-t.result c.loop-i.i (subst (λ (n : ShapeNumbers). c.thread_at-t.result.0 ≡ thread_at n c.loop-i.i) same c.thread_at-t.ensures) less c.loop-i.invariant (sym c.can_turn.ensures ∙ c.if-can_turn.true)

pub loop-i-preserved : goal.loop-i-preserved
loop-i-preserved g c =
    let same = c.shape-shape.ensures ∙ c.sites.ensures in
    more (NoTurn (g.M.HasParts.world c.args.machine.now)) c.loop-i.i c.loop-i.invariant (turn_none (g.M.HasParts.world c.args.machine.now) c.thread_at-t.result c.loop-i.i (subst (λ (n : ShapeNumbers). c.thread_at-t.result.0 ≡ thread_at n c.loop-i.i) same c.thread_at-t.ensures) (sym c.can_turn.ensures ∙ c.if-can_turn.false))

pub returns : goal.returns
returns g c =
    let same = c.shape-shape.ensures ∙ c.sites.ensures in
    let past : thread_count (g.M.HasParts.world c.args.machine.now).shape ≤ c.loop-i.i = subst (λ (n : ShapeNumbers). thread_count n ≤ c.loop-i.i) same (subst (λ m. m ≤ c.loop-i.i) c.thread_count-i-end.ensures.value c.loop-i-test.false) in
    no_turn (g.M.HasParts.world c.args.machine.now) c.loop-i.i past c.loop-i.invariant
