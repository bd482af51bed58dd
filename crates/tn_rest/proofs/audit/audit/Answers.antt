use Rattle.std.proofs.Common.{sym, ◌∙◌}
use Rattle.tn_rest.proofs.Tested.{quiet_holds, quiet_if}
use Rattle.tn_rest.proofs.audit.audit.Goals as goal

pub returns : goal.returns
returns g c =
    let n = g.M.Machine.visited c.args.machine.now in
    let m = g.M.Machine.links c.args.machine.now in
    let w = g.M.Machine.seen c.args.machine.now in
    let places = sym c.places.ensures ∙ (c.if-places-visited.false ∙ c.visited.ensures) in (
      λ h. quiet_if n m w places (c.are_balanced.ensures.0 c.if-not-are_balanced.false) (c.all_fit.ensures.0 c.if-not-all_fit.false) (c.holds_in_phase.ensures.0 h),
      λ q. c.holds_in_phase.ensures.1 (quiet_holds n m w q),
    )
