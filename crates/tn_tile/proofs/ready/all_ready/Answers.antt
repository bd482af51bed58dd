use Rattle.std.proofs.Common.{◌∙◌, ap, rules}
use Rattle.tn_tile.specs.Step.{can_step}
use Rattle.tn_tile.proofs.Elsewhere.{past_last}
use Rattle.tn_tile.proofs.Marked.{below_all, below_more, below_none}
use Rattle.tn_tile.proofs.Shaped.{has_place}
use Rattle.tn_tile.proofs.ready.all_ready.Goals as goal

pub loop-k-init : goal.loop-k-init
loop-k-init c = below_none (λ k. can_step c.args.plan.now.shape.fuel k c.args.state.now)

pub can_step-requires : goal.can_step-requires
can_step-requires c = has_place c.args.plan.now c.loop-k.k c.args.state.now (search rules) c.requires

pub loop-k-preserved : goal.loop-k-preserved
loop-k-preserved c =
    below_more (λ k. can_step c.args.plan.now.shape.fuel k c.args.state.now) c.loop-k.k c.loop-k.seen c.write_bit-seen.result (search rules) c.loop-k.invariant
    (c.write_bit-seen.ensures.written ∙ c.can_step.ensures ∙ ap (λ f. can_step f c.loop-k.k c.args.state.now) c.fuel-fuel.ensures.value) c.write_bit-seen.ensures.others

pub returns-clause-marks : goal.returns-clause-marks
returns-clause-marks c =
    let count = c.requires.threads.count in
    below_all (λ k. can_step c.args.plan.now.shape.fuel k c.args.state.now) c.loop-k.k c.loop-k.seen (λ k h. past_last c.args.plan.now.shape.fuel k c.args.state.now (search rules)) c.loop-k.invariant
