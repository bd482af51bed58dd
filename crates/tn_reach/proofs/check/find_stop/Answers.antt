use Rattle.std.proofs.Common.{◌∙◌, ap, arith, length, sym}
use Rattle.tn_base.specs.Parts.{board_at}
use Rattle.tn_keys.specs.Accepted.{board_fault}
use Rattle.tn_reach.proofs.Stops.{stop_here, stop_later}
use Rattle.tn_reach.proofs.check.find_stop.Goals as goal

pub returns-in-Some : goal.returns-in-Some
returns-in-Some c =
    stop_here (λ i. board_fault c.args.shape.now c.args.tables.now (board_at c.args.shape.now i)) c.loop-place.place (length c.args.tables.now) c.in-Some.fault _ c.loop-place.invariant (omega arith)
    (ap (board_fault c.args.shape.now c.args.tables.now) (sym c.board_at-board.ensures.value) ∙ sym c.find_fault.ensures ∙ c.in-Some.is)

pub loop-place-preserved : goal.loop-place-preserved
loop-place-preserved c =
    stop_later (λ i. board_fault c.args.shape.now c.args.tables.now (board_at c.args.shape.now i)) c.loop-place.place (length c.args.tables.now) _ c.loop-place.invariant (omega arith)
    (ap (board_fault c.args.shape.now c.args.tables.now) (sym c.board_at-board.ensures.value) ∙ sym c.find_fault.ensures ∙ c.in_default.is)
