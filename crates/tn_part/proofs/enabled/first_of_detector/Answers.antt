use Rattle.std.proofs.Common.{◌∙◌, sym}
use Rattle.tn_part.proofs.Rests.{detector_announces, detector_begins, detector_confirms, detector_lets_go, detector_releases, detector_reports}
use Rattle.tn_part.proofs.enabled.first_of_detector.Goals as goal

pub returns-in-Some : goal.returns-in-Some
returns-in-Some g c = detector_reports (g.M.HasParts.world c.args.machine.now) c.in-Some.e c.in-Some.ensures

pub returns-then-can_begin : goal.returns-then-can_begin
returns-then-can_begin g c = detector_begins (g.M.HasParts.world c.args.machine.now) c.in_default.ensures (sym c.can_begin.ensures ∙ c.if-can_begin.true)

pub returns-in-Some-first_visit : goal.returns-in-Some-first_visit
returns-in-Some-first_visit g c = detector_confirms (g.M.HasParts.world c.args.machine.now) c.in-Some-first_visit.e c.in_default.ensures (sym c.can_begin.ensures ∙ c.if-can_begin.false) c.in-Some-first_visit.ensures

pub returns-then-can_announce : goal.returns-then-can_announce
returns-then-can_announce g c =
    detector_announces (g.M.HasParts.world c.args.machine.now) c.in_default.ensures (sym c.can_begin.ensures ∙ c.if-can_begin.false) c.in_default-first_visit.ensures (sym c.can_announce.ensures ∙ c.if-can_announce.true)

pub returns-in-Some-first_visit-2 : goal.returns-in-Some-first_visit-2
returns-in-Some-first_visit-2 g c =
    detector_releases (g.M.HasParts.world c.args.machine.now) c.in-Some-first_visit-2.e c.in_default.ensures (sym c.can_begin.ensures ∙ c.if-can_begin.false) c.in_default-first_visit.ensures (sym c.can_announce.ensures ∙ c.if-can_announce.false) c.in-Some-first_visit-2.ensures

pub returns : goal.returns
returns g c =
    detector_lets_go (g.M.HasParts.world c.args.machine.now) c.first_visit-4.result c.in_default.ensures (sym c.can_begin.ensures ∙ c.if-can_begin.false) c.in_default-first_visit.ensures (sym c.can_announce.ensures ∙ c.if-can_announce.false) c.in_default-first_visit-2.ensures c.first_visit-4.ensures
