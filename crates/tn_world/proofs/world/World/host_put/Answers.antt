use Rattle.std.proofs.Common.{◌≡◌, ◌-◌, refl, subst, sym, true, ◌∙◌, ap}
use Rattle.tn_base.specs.declared.shape.ShapeNumbers.{ShapeNumbers}
use Rattle.tn_base.specs.declared.event.Event.TheVariants as event
use Rattle.tn_base.specs.Does.{Does}
use Rattle.tn_base.specs.Parts.{part_count}
use Rattle.tn_rows.specs.Events.{happened, happened_at}
use Rattle.tn_rows.specs.Places.{Two}
use Rattle.tn_rows.specs.WorldView.{WorldView}
use Rattle.tn_tile.specs.Turns.{moved}
use Rattle.tn_world.proofs.Pairs.{both_keeps, both_world}
use Rattle.tn_rows.proofs.Ways.{HostPair, from_host_pair}
use Rattle.tn_world.proofs.world.World.host_put.Goals as goal

pub put_at-requires : goal.put_at-requires
put_at-requires g c =
    let w : WorldView = record { shape = c.self.inside.shape; parts = c.self.inside.parts.items } in
    let at : c.from_host-l.result.0 ≡ part_count w.shape - 2 = c.from_host-l.ensures ∙ ap (λ (n : ShapeNumbers). part_count n - 2) c.self.invariant.all in
    let joins : HostPair w c.from_host-l.result.0 = subst (HostPair w) (sym at) (from_host_pair w c.self.invariant.world) in
    record { low = joins.less; high = joins.high; host = joins.host; link = joins.link }

pub invariant_of-self : goal.invariant_of-self
invariant_of-self g c =
    let w : WorldView = record { shape = c.self.inside.shape; parts = c.self.inside.parts.items } in
    let at : c.from_host-l.result.0 ≡ part_count w.shape - 2 = c.from_host-l.ensures ∙ ap (λ (n : ShapeNumbers). part_count n - 2) c.self.invariant.all in
    let joins : HostPair w c.from_host-l.result.0 = subst (HostPair w) (sym at) (from_host_pair w c.self.invariant.world) in
    record { world = both_keeps w event.HostPut 0 c.from_host-l.result.0 c.put_at.new.parts.items (moved c.put_at.result) joins.less c.put_at.ensures c.self.invariant.world; all = c.self.invariant.all }

pub returns : goal.returns
returns g c =
    let w : WorldView = record { shape = c.self.inside.shape; parts = c.self.inside.parts.items } in
    let at : c.from_host-l.result.0 ≡ part_count w.shape - 2 = c.from_host-l.ensures ∙ ap (λ (n : ShapeNumbers). part_count n - 2) c.self.invariant.all in
    let joins : HostPair w c.from_host-l.result.0 = subst (HostPair w) (sym at) (from_host_pair w c.self.invariant.world) in
    subst (λ (x : WorldView). Does (moved c.put_at.result) (happened event.HostPut x) x (record { shape = c.self.inside.shape; parts = c.put_at.new.parts.items })) c.self.view_is
    (subst (λ l. Does (moved c.put_at.result) (happened_at event.HostPut w (Two 0 l)) w (record { shape = c.self.inside.shape; parts = c.put_at.new.parts.items })) at
    (both_world w event.HostPut true 0 c.from_host-l.result.0 c.put_at.new.parts.items (moved c.put_at.result) refl c.put_at.ensures))
