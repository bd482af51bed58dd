use Rattle.std.proofs.Common.{[], length, take, ap, sym, ◌∙◌}
use Rattle.std.proofs.lemmas.List.{length-replicate}
use Rattle.tn_base.specs.Parts.{board_count}
use Rattle.polite_routes.specs.Full.{is_full}
use Rattle.polite_routes.specs.Tree.{Planted}
use Rattle.polite_routes.proofs.InTurn.{Next, bare_short, bare_tables, full_end, item_is, item_there, laid_stop, narrow_spots, next_pin, none_counted, taken_few, tree_is}
use Rattle.polite_routes.proofs.Spotting.{blank_spots}
use Rattle.polite_routes.proofs.Tallies.{small_counts}
use Rattle.polite_routes.proofs.planting.plant_all.Goals as goal

pub loop-pin-init : goal.loop-pin-init
loop-pin-init c = record {
  counts = λ i h. none_counted c.args.counts.now i c.requires.none;
  room = c.requires.room;
  tables = c.requires.bare ∙ sym (bare_tables c.args.shape.now c.args.pins.now);
  boards = ap length c.requires.bare ∙ length-replicate (board_count c.args.shape.now) [];
  short = ap is_full c.requires.bare ∙ bare_short (board_count c.args.shape.now);
  blank = blank_spots c.args.spots.now c.requires.blank;
  keys = c.requires.no_keys;
}

pub plant_pin-requires-clause-there : goal.plant_pin-requires-clause-there
plant_pin-requires-clause-there c =
    item_there c.args.shape.now c.args.pins.now c.loop-pin.pin-index c.pin-item.result c.requires.there c.loop-pin-test.true (item_is c.args.pins.now c.loop-pin.pin-index c.pin-item.result c.loop-pin-test.true c.pin-item.is)

pub plant_pin-requires-clause-few : goal.plant_pin-requires-clause-few
plant_pin-requires-clause-few c =
    small_counts c.loop-pin.counts (take c.loop-pin.pin-index c.args.pins.now) c.loop-pin.invariant.room c.loop-pin.invariant.counts (taken_few c.args.pins.now c.loop-pin.pin-index c.requires.few)

pub plant_pin-requires-clause-narrow : goal.plant_pin-requires-clause-narrow
plant_pin-requires-clause-narrow c =
    narrow_spots c.args.pins.now c.loop-pin.pin-index c.pin-item.result c.loop-pin.counts c.loop-pin-test.true (item_is c.args.pins.now c.loop-pin.pin-index c.pin-item.result c.loop-pin-test.true c.pin-item.is) c.requires.free c.loop-pin.invariant.counts

pub returns-in_err-key : goal.returns-in_err-key
returns-in_err-key c =
    let e = item_is c.args.pins.now c.loop-pin.pin-index c.pin-item.result c.loop-pin-test.true c.pin-item.is in
    let t = tree_is c.args.shape.now c.args.pins.now c.loop-pin.pin-index c.pin-item.result c.loop-pin.counts c.loop-pin.draft e c.loop-pin.invariant.counts c.loop-pin.invariant.tables in
    laid_stop c.from_residual.result c.in_err-key.field-0.0 c.plant_pin.new.draft c.plant_pin.new.draft _ _ _ _ _ c.from_residual.ensures.1 c.in_err-key.ensures.gives
    (λ f. full_end c.args.shape.now c.args.pins.now c.loop-pin.pin-index c.loop-pin-test.true (ap (λ (q : Planted). is_full q.tables) (sym t) ∙ f))

pub loop-pin-preserved : goal.loop-pin-preserved
loop-pin-preserved c =
    let i = c.loop-pin.invariant in
    let e = item_is c.args.pins.now c.loop-pin.pin-index c.pin-item.result c.loop-pin-test.true c.pin-item.is in
    let s : Next c.args.shape.now c.args.pins.now c.loop-pin.pin-index c.loop-pin.counts c.loop-pin.draft c.loop-pin.keys.items =
    record { counted_all = i.counts; room = i.room; tables = i.tables; boards = i.boards; short = i.short; keys_are = i.keys } in
    let n = next_pin c.args.shape.now c.args.pins.now c.loop-pin.pin-index c.pin-item.result c.loop-pin.counts c.plant_pin.new.counts c.loop-pin.draft c.plant_pin.new.draft c.loop-pin.keys.items c.push.new.self.items c.in_ok-key.key c.loop-pin-test.true e s
    c.in_ok-key.ensures.counts c.in_ok-key.ensures.room c.in_ok-key.ensures.boards c.in_ok-key.ensures.gives.0 c.in_ok-key.ensures.gives.1 c.in_ok-key.ensures.gives.2 c.in-Ok.ensures.items in
    record { counts = n.counted_all; room = n.room; tables = n.tables; boards = n.boards; short = n.short; blank = c.in_ok-key.ensures.blank; keys = n.keys_are }
