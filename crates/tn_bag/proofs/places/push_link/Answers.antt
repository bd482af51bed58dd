use Rattle.std.proofs.Common.{rules, ◌∙◌, ◌++◌, ◌≤◌, ◌<◌, ap, length}
use Rattle.tn_letters.specs.Standing.{crossing_at}
use Rattle.tn_letters.specs.Tiles.{reach_of}
use Rattle.tn_bag.proofs.Loops.{at_end, from_start, one_more}
use Rattle.tn_bag.proofs.Spelled.{crossings}
use Rattle.tn_bag.proofs.places.push_link.Goals as goal

pub loop-i-init : goal.loop-i-init
loop-i-init g c = ap (λ xs. c.args.all.now.items ++ xs) (from_start (crossings c.args.world.now.shape (reach_of c.args.world.now) c.args.p (g.L.Link.content c.args.link.now)) (length (g.L.Link.content c.args.link.now).packets))

pub loop-i-preserved : goal.loop-i-preserved
loop-i-preserved g c =
    let link = g.L.Link.content c.args.link.now in
    let h : c.loop-i.i < length link.packets = search rules in
    one_more (crossings c.args.world.now.shape (reach_of c.args.world.now) c.args.p link) c.loop-i.i (length link.packets) c.loop-i.all.items c.push_crossing.new.all.items h
    (c.in_ok-push_crossing.ensures ∙ ap (λ o. c.loop-i.all.items ++ crossing_at c.args.world.now.shape (reach_of c.args.world.now) c.args.p c.loop-i.i o) c.get.ensures) ∙ c.loop-i.invariant

pub returns : goal.returns
returns g c =
    let link = g.L.Link.content c.args.link.now in
    let h : length link.packets ≤ c.loop-i.i = search rules in
    at_end (crossings c.args.world.now.shape (reach_of c.args.world.now) c.args.p link) c.loop-i.i (length link.packets) c.loop-i.all.items _ h c.loop-i.invariant
