use Rattle.std.proofs.Common.{◌∙◌, false, refl, true}
use Rattle.tn_reach.proofs.Finding.{fault_is, loop_is, wide_is}
use Rattle.tn_reach.proofs.kinds.find_fault.Goals as goal

pub returns-then-has_above : goal.returns-then-has_above
returns-then-has_above c =
    fault_is c.args.shape.now c.args.tables.now c.args.board c.args.beats.now false false false false true _ c.requires.beats c.if-is_in_beats.ensures c.if-is_in_beats-2.ensures c.if-is_in_beats-3.ensures c.if-is_in_beats-4.ensures
    (c.if-has_above.ensures ∙ loop_is c.args.shape.now c.args.tables.now c.args.board c.args.beats.now c.args.chains.now c.requires.chains) refl

pub returns-then-has_above-2 : goal.returns-then-has_above-2
returns-then-has_above-2 c =
    fault_is c.args.shape.now c.args.tables.now c.args.board c.args.beats.now false false false false false true c.requires.beats c.if-is_in_beats.ensures c.if-is_in_beats-2.ensures c.if-is_in_beats-3.ensures c.if-is_in_beats-4.ensures
    (c.if-has_above.ensures ∙ loop_is c.args.shape.now c.args.tables.now c.args.board c.args.beats.now c.args.chains.now c.requires.chains)
    (c.if-has_above-2.ensures ∙ wide_is c.args.shape.now c.args.tables.now c.args.board c.args.beats.now c.args.weights.now c.requires.weights)

pub returns : goal.returns
returns c =
    fault_is c.args.shape.now c.args.tables.now c.args.board c.args.beats.now false false false false false false c.requires.beats c.if-is_in_beats.ensures c.if-is_in_beats-2.ensures c.if-is_in_beats-3.ensures c.if-is_in_beats-4.ensures
    (c.if-has_above.ensures ∙ loop_is c.args.shape.now c.args.tables.now c.args.board c.args.beats.now c.args.chains.now c.requires.chains)
    (c.if-has_above-2.ensures ∙ wide_is c.args.shape.now c.args.tables.now c.args.board c.args.beats.now c.args.weights.now c.requires.weights)
