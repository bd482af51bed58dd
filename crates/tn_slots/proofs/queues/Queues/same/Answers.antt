use Rattle.std.proofs.Common.{◌≡◌, [], refl, rules, length}
use Rattle.std.proofs.lemmas.List.{ext_get_or}
use Rattle.tn_slots.proofs.queues.Queues.same.Goals as goal

pub returns : goal.returns
returns c =
    let long : length c.args.self.now.queues ≡ length c.args.other.now.queues = search rules in
    (λ h. ext_get_or [] c.args.self.now.queues c.args.other.now.queues long (λ t below. c.loop-t.invariant t (search rules)), λ e. refl)
