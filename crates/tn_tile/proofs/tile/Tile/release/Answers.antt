use Rattle.std.proofs.Common.{ap, sym, ◌∙◌}
use Rattle.tn_node.specs.declared.node.Node.{Node}
use Rattle.tn_tile.proofs.Dead.{dead_told}
use Rattle.tn_tile.proofs.Known.{told_fits}
use Rattle.tn_tile.proofs.tile.Tile.release.Goals as goal

pub all_ready-self-inside-requires : goal.all_ready-self-inside-requires
all_ready-self-inside-requires c = rw c.tell.ensures (told_fits c.self.inside.plan c.args.value c.hold.new.self c.self.inside.state (ap (λ (n : Node). n.out) c.hold.ensures) c.self.invariant.shaped.fits)

pub invariant_of-self : goal.invariant_of-self
invariant_of-self c = record {
  shaped = record {
    tile = c.self.invariant.shaped.tile;
    fits = rw c.tell.ensures (told_fits c.self.inside.plan c.args.value c.hold.new.self c.self.inside.state (ap (λ (n : Node). n.out) c.hold.ensures) c.self.invariant.shaped.fits);
  };
  few = c.self.invariant.few;
  ready = c.all_ready-self-inside.ensures.marks;
  dead = rw c.tell.ensures (c.self.invariant.dead ∙ sym (dead_told c.self.inside.state.threads c.args.value));
}
