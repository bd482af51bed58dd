use Rattle.std.proofs.Common.{◌≡◌, None, length, refl, rules}
use Rattle.std.proofs.lemmas.List.{ext_get_or}
use Rattle.tn_detect.proofs.reports.Reports.same.Goals as goal

pub returns : goal.returns
returns c =
    let long : length c.args.self.now ≡ length c.args.other.now = search rules in
    (λ h. ext_get_or None c.args.self.now c.args.other.now long (λ k below. c.loop-i.invariant k (search rules)), λ e. refl)
