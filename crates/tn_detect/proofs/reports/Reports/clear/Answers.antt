use Rattle.std.proofs.Common.{◌≡◌, ◌+◌, ◌∙◌, ap, arith, length, replicate, sym, subst, None, pos}
use Rattle.std.proofs.lemmas.List.{length-map}
use Rattle.tn_detect.specs.Told.{IsSummed, shown, shown_in}
use Rattle.tn_detect.proofs.Summed.{shown_nothing, summed_nothing, take_all}
use Rattle.tn_detect.proofs.reports.Reports.clear.Goals as goal

pub invariant_of-self : goal.invariant_of-self
invariant_of-self c =
    let w = c.deref_mut.ensures.len in let a = c.retire.auto.told in let b = c.len-self-inside.ensures in
    let whole = take_all c.retire.new.told c.self.inside.told.items c.self.inside.told.len (omega arith) in
    let count : length c.retire.new.told ≡ c.len-self-inside.result = omega arith in
    rw whole (subst (λ k. IsSummed c.retire.new.told (c.retire.result + 1) k (pos 0)) count (summed_nothing c.retire.new.told c.retire.result c.retire.ensures.until))

pub returns : goal.returns
returns c =
    let w = c.deref_mut.ensures.len in let a = c.retire.auto.told in let v = c.deref_mut.ensures.value in
    let whole = take_all c.retire.new.told c.self.inside.told.items c.self.inside.told.len (omega arith) in
    let none = shown_nothing (c.retire.result + 1) c.retire.new.told (λ k l. let r = c.retire.ensures.until.rounds k l in omega arith) in
    let same : length c.retire.new.told ≡ length c.self.inside.told.items = a ∙ ap length v in
    let long : length (shown_in c.self.inside.round c.self.inside.told.items) ≡ length c.self.inside.told.items = length-map c.self.inside.told.items (shown c.self.inside.round) in
    let now : length (shown_in c.self.inside.round c.self.inside.told.items) ≡ length c.args.self.now = ap length c.self.view_is in
    ap (shown_in (c.retire.result + 1)) whole ∙ (none ∙ ap (λ k. replicate k None) (same ∙ (sym long ∙ now)))
