use Rattle.std.proofs.Common.{rules, ◌∙◌, ◌<◌, ◌≤◌}
use Rattle.tn_base.specs.Address.{place_in_tile}
use Rattle.tn_bag.proofs.Spelled.{turn_can, turn_ends, turn_next, turn_pushed, turn_start, turn_whole}
use Rattle.tn_bag.proofs.turns.push_turn.Goals as goal

pub loop-made-init : goal.loop-made-init
loop-made-init c = (
  turn_start c.args.t.0 c.args.n c.args.tile.now c.in_ok-current.current c.kept.ensures c.requires c.in_ok-current.ensures,
  turn_whole c.args.t.0 (place_in_tile c.args.tile.now.plan.shape c.args.t.0) c.args.n c.args.tile.now c.in_ok-current.current c.args.all.now.items c.in_ok-current.ensures,
)

pub push_step-requires-clause-can : goal.push_step-requires-clause-can
push_step-requires-clause-can c = turn_can c.args.t.0 c.args.n c.loop-made._made c.args.tile.now c.loop-made.current c.loop-made.invariant.0 (search rules)

pub loop-made-preserved : goal.loop-made-preserved
loop-made-preserved c =
    let less : c.loop-made._made < c.args.n = search rules in
    let next = turn_next c.args.t.0 c.args.n c.loop-made._made c.turn_up_to-steps.result c.args.tile.now c.loop-made.current c.turn_up_to-steps.new.self c.loop-made.invariant.0 less c.turn_up_to-steps.ensures.steps c.turn_up_to-steps.ensures.plan c.kept-in-loop-made.ensures in (
      next.1,
      turn_pushed c.args.t.0 c.args.n c.loop-made._made c.args.tile.now c.loop-made.current c.turn_up_to-steps.new.self c.loop-made.all.items c.push_step.new.all.items c.loop-made.invariant.0 less next.0 c.in_ok-push_step.ensures
          ∙ c.loop-made.invariant.1,
    )

pub returns : goal.returns
returns c =
    let h : c.args.n ≤ c.loop-made._made = search rules in
    turn_ends c.args.t.0 (place_in_tile c.args.tile.now.plan.shape c.args.t.0) c.args.n c.loop-made._made c.loop-made.current c.loop-made.all.items _ h c.loop-made.invariant.1
