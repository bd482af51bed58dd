use Rattle.std.proofs.Common.{◌∙◌, ap, arith, length, subst, sym}
use Rattle.polite_routes.specs.Routes.{PinsThere}
use Rattle.polite_routes.proofs.Entries.{given_back}
use Rattle.polite_routes.proofs.PinRows.{length_pins, pins_there}
use Rattle.polite_routes.proofs.pins.pins_of.Goals as goal

pub returns-clause-there : goal.returns-clause-there
returns-clause-there c =
    let w = given_back c.add_edges.new.pins c.in_ok-pins.pins.items c.in_ok-pins.pins.len (omega arith) (omega (arith, c.add_edges.auto.pins, c.as_mut_slice-slice.ensures.len)) ∙ c.in_ok-add_edges.ensures in
    subst (PinsThere c.args.shape.now) (sym w) (pins_there c.args.shape.now c.args.graph.now c.args.placement.now c.requires.graph c.requires.count c.requires.seated)

pub returns-clause-count : goal.returns-clause-count
returns-clause-count c =
    let w = given_back c.add_edges.new.pins c.in_ok-pins.pins.items c.in_ok-pins.pins.len (omega arith) (omega (arith, c.add_edges.auto.pins, c.as_mut_slice-slice.ensures.len)) ∙ c.in_ok-add_edges.ensures in
    ap length w ∙ length_pins (length c.args.graph.now.vertices) c.args.graph.now.edges (length c.args.graph.now.edges) c.args.placement.now
