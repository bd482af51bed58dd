use Rattle.std.proofs.Common.{◌+◌, ◌*◌, refl, sym, ◌∙◌, arith}
use Rattle.polite_routes.specs.Targets.{spot_at}
use Rattle.polite_routes.proofs.Records.{few_made, mrms_more, mrms_none}
use Rattle.polite_routes.proofs.tree.tree_records.Goals as goal

pub loop-tile-init : goal.loop-tile-init
loop-tile-init c = record { added = c.new-records.ensures.items ∙ sym (mrms_none c.args.spots.now c.args.board); alone = rw c.new-records.ensures.items refl }

pub loop-tile-preserved : goal.loop-tile-preserved
loop-tile-preserved c = record {
  added = mrms_more c.args.spots.now c.args.board c.loop-tile.tile (c.args.board.y * 64 + c.args.board.x * 16) (spot_at c.args.spots.now (c.args.board.y * 64 + c.args.board.x * 16 + c.loop-tile.tile)) c.loop-tile.records.items c.push_tile.new.records.items refl refl
      c.loop-tile.invariant.added c.in_ok-push_tile.ensures.added;
  alone = c.in_ok-push_tile.ensures.alone;
}

pub returns-clause-few : goal.returns-clause-few
returns-clause-few c = few_made c.args.spots.now c.args.board c.args.children.now c.loop-tile.records.items c.push_children.new.records.items c.loop-tile.tile c.requires.few (omega (arith, c.loop-tile-test.false, c.loop-tile.auto.tile-end)) c.loop-tile.invariant.added
    c.in_ok-push_children.ensures.added
