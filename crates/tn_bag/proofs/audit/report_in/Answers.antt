use Rattle.std.proofs.Common.{None, arith, sym, ap, ◌∙◌}
use Rattle.std.proofs.lemmas.List.{get_or_past}
use Rattle.tn_detect.specs.declared.state.DetectorState.{DetectorState}
use Rattle.tn_detect.specs.Reports.{report_at}
use Rattle.tn_bag.proofs.audit.report_in.Goals as goal

pub returns-else-k-visited : goal.returns-else-k-visited
returns-else-k-visited g c =
    let few = c.kept.ensures.places in
    let count = c.visited.ensures in
    let past = c.if-k-visited.false in
    sym (ap (λ (d : DetectorState). report_at d.reports c.args.k) c.in_ok-detector.ensures ∙ get_or_past c.in_ok-detector.detector.now.now.reports c.args.k None (omega (arith, few, count, past)))
