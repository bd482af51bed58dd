use Rattle.std.proofs.Common.{◌∙◌, ap, subst, sym}
use Rattle.tn_base.specs.declared.event.Event.TheVariants as event
use Rattle.tn_base.specs.Does.{Does}
use Rattle.tn_rows.specs.Events.{after}
use Rattle.tn_rows.specs.PartView.{PartView, TileV}
use Rattle.tn_stamp.specs.declared.entry.Crossing.TheVariants as crossing
use Rattle.tn_tile.specs.Rows.{deliver_row}
use Rattle.tn_tile.specs.TileView.{now_by}
use Rattle.tn_tile.specs.Turns.{moved}
use Rattle.tn_part.specs.Views.{view_of}
use Rattle.tn_part.proofs.Crossings.{does_mapped}
use Rattle.tn_part.proofs.part.Part.deliver.Goals as goal

pub returns : goal.returns
returns g c =
    subst (λ (x : PartView). Does (moved c.deliver_tile.result) (after (event.Deliver c.args.t) crossing.None x) x (TileV c.deliver_tile.new.tile)) (sym (ap (view_of g.L.Link.content) c.in-Tile.is) ∙ c.self.view_is)
    (does_mapped TileV (moved c.deliver_tile.result) (now_by c.in-Tile.tile (deliver_row c.in-Tile.tile.plan c.args.t.0 c.in-Tile.tile.now)) c.in-Tile.tile c.deliver_tile.new.tile c.deliver_tile.ensures)
