use Rattle.std.proofs.Common.{rules, ◌∙◌, ◌++◌, ◌≤◌, ◌<◌, ap}
use Rattle.tn_base.specs.Parts.{part_count}
use Rattle.tn_letters.specs.Standing.{part_standing, standing_on}
use Rattle.tn_letters.specs.Tiles.{reach_of}
use Rattle.tn_bag.proofs.Loops.{at_end, from_on, from_start, one_more}
use Rattle.tn_bag.proofs.places.standing.Goals as goal

pub loop-p-init : goal.loop-p-init
loop-p-init g c = ap (λ xs. xs ++ from_on (standing_on c.args.world.now) 0 (part_count c.args.world.now.shape)) c.new-all.ensures.items ∙ from_start (standing_on c.args.world.now) (part_count c.args.world.now.shape)

pub loop-p-preserved : goal.loop-p-preserved
loop-p-preserved g c =
    let h : c.loop-p.p < part_count c.args.world.now.shape = search rules in
    one_more (standing_on c.args.world.now) c.loop-p.p (part_count c.args.world.now.shape) c.loop-p.all.items c.push_part.new.all.items h (c.in_ok-push_part.ensures ∙ ap (λ v. c.loop-p.all.items ++ part_standing c.args.world.now.shape (reach_of c.args.world.now) c.loop-p.p v) c.part.ensures) ∙ c.loop-p.invariant

pub returns : goal.returns
returns g c =
    let h : part_count c.args.world.now.shape ≤ c.loop-p.p = search rules in
    at_end (standing_on c.args.world.now) c.loop-p.p (part_count c.args.world.now.shape) c.loop-p.all.items _ h c.loop-p.invariant
