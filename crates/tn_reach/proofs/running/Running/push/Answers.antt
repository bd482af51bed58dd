use Rattle.std.proofs.Common.{ℕ, List, ◌≡◌, ◌≤◌, ◌∙◌, ◌-◌, ◌+◌, ◌++◌, ◌∷◌, [], ap, arith, length, get_or}
use Rattle.tn_reach.specs.Running.{steps}
use Rattle.tn_reach.proofs.Runs.{length_steps, push_is, pushed}
use Rattle.tn_reach.proofs.running.Running.push.Goals as goal

pub invariant_of-self-2 : goal.invariant_of-self-2
invariant_of-self-2 c =
    let count = length_steps c.self.inside.sums.items c.self.invariant.0 in
    let same = ap length c.self.view_is in
    let long : length c.self.inside.sums.items ≤ 65536 = omega arith in
    pushed c.self.inside.sums.items c.as_slice-sums.result.now c.push.new.self.items c.args.number c.as_slice-sums.ensures.value c.in_ok-push.ensures.items c.requires.small c.self.invariant.0 long c.self.invariant.2 c.self.invariant.3 c.self.invariant.4

pub returns : goal.returns
returns c =
    let new : c.push.new.self.items ≡ c.self.inside.sums.items ++ (get_or c.self.inside.sums.items (length c.self.inside.sums.items - 1) 0 + c.args.number) ∷ [] =
    c.in_ok-push.ensures.items ∙ ap (λ (ys : List ℕ). c.self.inside.sums.items ++ (get_or ys (length ys - 1) 0 + c.args.number) ∷ []) c.as_slice-sums.ensures.value in
    ap steps new ∙ push_is c.self.inside.sums.items c.args.number c.self.invariant.0 ∙ ap (λ (ys : List ℕ). ys ++ c.args.number ∷ []) c.self.view_is
