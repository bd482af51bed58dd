use Rattle.std.proofs.Common.{◌<◌, ◌∙◌, arith}
use Rattle.tn_base.specs.Address.{tile_threads}
use Rattle.tn_tile.proofs.tile.Tile.can_step.Goals as goal

pub has_bit-requires : goal.has_bit-requires
has_bit-requires c =
    let few = c.self.invariant.few in
    let h : c.args.place < tile_threads c.self.inside.plan.shape = rw (← c.self.view_is) at c.requires in
    omega arith

pub returns : goal.returns
returns c =
    let few = c.self.invariant.few in
    let h : c.args.place < tile_threads c.self.inside.plan.shape = rw (← c.self.view_is) at c.requires in
    rw (← c.self.view_is) (c.has_bit.ensures ∙ c.self.invariant.ready.each c.args.place (omega arith))
