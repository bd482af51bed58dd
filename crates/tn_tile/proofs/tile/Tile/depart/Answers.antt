use Rattle.tn_tile.specs.TileView.{TileView}
use Rattle.tn_tile.proofs.Known.{departed_known}
use Rattle.tn_tile.proofs.tile.Tile.depart.Goals as goal

pub invariant_of-self : goal.invariant_of-self
invariant_of-self c =
    let v : TileView = record { plan = c.self.inside.plan; now = c.self.inside.state } in
    departed_known v c.args.way c.self.inside.ready c.self.inside.dead c.depart.new.self c.depart.ensures c.self.invariant
