use Rattle.std.proofs.Common.{rules, ◌∙◌, ◌++◌, ◌≤◌, ◌<◌, ap, subst}
use Rattle.tn_base.specs.Address.{tile_threads}
use Rattle.tn_base.specs.Shape.{WithinLimits}
use Rattle.tn_letters.specs.Standing.{pending_of}
use Rattle.tn_letters.specs.Tiles.{reach_of}
use Rattle.tn_bag.proofs.Loops.{at_end, from_start, one_more}
use Rattle.tn_bag.proofs.Made.{here_read, packet_read, pending_read}
use Rattle.tn_bag.proofs.places.push_pending.Goals as goal

pub loop-place-init : goal.loop-place-init
loop-place-init g c = ap (λ xs. c.args.all.now.items ++ xs) (from_start (pending_of (reach_of c.args.world.now) c.args.tile.now) (tile_threads c.args.tile.now.plan.shape))

pub pending-requires : goal.pending-requires
pending-requires g c = (here_read c.args.tile.now c.shape-in-loop-place.result c.name.result.0 c.loop-place.place c.thread_in_tile-thread.result.0 c.kept.ensures c.shape-in-loop-place.ensures c.name.ensures (search rules) c.thread_in_tile-thread.ensures.address c.thread_in_tile-thread.ensures.there (subst WithinLimits c.shape.ensures c.numbers-numbers.ensures.limits)).0

pub push_packet-requires : goal.push_packet-requires
push_packet-requires g c = packet_read c.args.tile.now.plan.shape c.pending.result _ c.pending.ensures (c.kept.ensures.fits.pending.each _)

pub loop-place-preserved : goal.loop-place-preserved
loop-place-preserved g c =
    let h : c.loop-place.place < tile_threads c.args.tile.now.plan.shape = search rules in
    let here = here_read c.args.tile.now c.shape-in-loop-place.result c.name.result.0 c.loop-place.place c.thread_in_tile-thread.result.0 c.kept.ensures c.shape-in-loop-place.ensures c.name.ensures h c.thread_in_tile-thread.ensures.address c.thread_in_tile-thread.ensures.there (subst WithinLimits c.shape.ensures c.numbers-numbers.ensures.limits) in
    one_more (pending_of (reach_of c.args.world.now) c.args.tile.now) c.loop-place.place (tile_threads c.args.tile.now.plan.shape) c.loop-place.all.items c.push_packet.new.all.items h (c.in_ok-push_packet.ensures ∙ ap (λ xs. c.loop-place.all.items ++ xs) (pending_read c.args.tile.now c.loop-place.place c.thread_in_tile-thread.result.0 (reach_of c.args.world.now) _ here.1 here.2 c.pending.ensures)) ∙ c.loop-place.invariant

pub returns : goal.returns
returns g c =
    let h : tile_threads c.args.tile.now.plan.shape ≤ c.loop-place.place = search rules in
    at_end (pending_of (reach_of c.args.world.now) c.args.tile.now) c.loop-place.place (tile_threads c.args.tile.now.plan.shape) c.loop-place.all.items _ h c.loop-place.invariant
