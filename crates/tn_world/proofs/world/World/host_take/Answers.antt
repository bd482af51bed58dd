use Rattle.std.proofs.Common.{◌≡◌, ◌-◌, subst, sym, MatchResult, ◌∙◌, ap}
use Rattle.tn_base.specs.declared.shape.ShapeNumbers.{ShapeNumbers}
use Rattle.tn_base.specs.declared.event.Event.TheVariants as event
use Rattle.tn_base.specs.Does.{Does}
use Rattle.tn_base.specs.Parts.{part_count}
use Rattle.tn_rows.specs.Events.{happened, happened_at}
use Rattle.tn_rows.specs.Places.{Two}
use Rattle.tn_rows.specs.WorldView.{WorldView}
use Rattle.tn_tile.specs.Turns.{moved}
use Rattle.tn_world.proofs.Pairs.{both_keeps_or, both_world_or}
use Rattle.tn_rows.proofs.Ways.{HostPair, to_host_pair}
use Rattle.tn_world.proofs.world.World.host_take.Goals as goal

pub take_at-requires : goal.take_at-requires
take_at-requires g c =
    let w : WorldView = record { shape = c.self.inside.shape; parts = c.self.inside.parts.items } in
    let at : c.to_host-l.result.0 ≡ part_count w.shape - 3 = c.to_host-l.ensures ∙ ap (λ (n : ShapeNumbers). part_count n - 3) c.self.invariant.all in
    let joins : HostPair w c.to_host-l.result.0 = subst (HostPair w) (sym at) (to_host_pair w c.self.invariant.world) in
    record { low = joins.less; high = joins.high; host = joins.host; link = joins.link }

pub invariant_of-self : goal.invariant_of-self
invariant_of-self g c =
    let w : WorldView = record { shape = c.self.inside.shape; parts = c.self.inside.parts.items } in
    let at : c.to_host-l.result.0 ≡ part_count w.shape - 3 = c.to_host-l.ensures ∙ ap (λ (n : ShapeNumbers). part_count n - 3) c.self.invariant.all in
    let joins : HostPair w c.to_host-l.result.0 = subst (HostPair w) (sym at) (to_host_pair w c.self.invariant.world) in
    record { world = both_keeps_or w event.HostTake 0 c.to_host-l.result.0 c.take_at.new.parts.items c.take_at.result joins.less c.take_at.ensures c.self.invariant.world; all = c.self.invariant.all }

pub returns : goal.returns
returns g c =
    let w : WorldView = record { shape = c.self.inside.shape; parts = c.self.inside.parts.items } in
    let at : c.to_host-l.result.0 ≡ part_count w.shape - 3 = c.to_host-l.ensures ∙ ap (λ (n : ShapeNumbers). part_count n - 3) c.self.invariant.all in
    let joins : HostPair w c.to_host-l.result.0 = subst (HostPair w) (sym at) (to_host_pair w c.self.invariant.world) in
    subst (λ (x : WorldView). MatchResult c.take_at.result (λ did. Does (moved did) (happened event.HostTake x) x (record { shape = c.self.inside.shape; parts = c.take_at.new.parts.items })) (λ _. record { shape = c.self.inside.shape; parts = c.take_at.new.parts.items } ≡ x)) c.self.view_is
    (subst (λ l. MatchResult c.take_at.result (λ did. Does (moved did) (happened_at event.HostTake w (Two 0 l)) w (record { shape = c.self.inside.shape; parts = c.take_at.new.parts.items })) (λ _. record { shape = c.self.inside.shape; parts = c.take_at.new.parts.items } ≡ w)) at
    (both_world_or w event.HostTake 0 c.to_host-l.result.0 c.take_at.new.parts.items c.take_at.result c.take_at.ensures))
