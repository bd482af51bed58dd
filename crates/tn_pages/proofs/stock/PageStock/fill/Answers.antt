use Rattle.std.proofs.Common.{◌≡◌, arith, inl, inr, length, max}
use Rattle.std.proofs.lemmas.Bool.{cases_lt}
use Rattle.tn_pages.proofs.stock.PageStock.fill.Goals as goal

pub returns-clause-filled : goal.returns-clause-filled
returns-clause-filled c =
    let held : length c.self.inside.pages.items ≡ c.args.self.now = c.self.view_is in
    let long : length c.loop-i.self-inside.pages.items ≡ c.loop-i._i = c.loop-i.invariant.long in
    let e : length c.loop-i.self-inside.pages.items ≡ max c.args.self.now c.args.n = elim (cases_lt c.args.n c.len-held.result) [
      | inl enough ↦ let stop = c.loop-i.invariant.stop enough in omega arith
      | inr few ↦ let end = c.loop-i.auto._i-end few in omega arith
    ] in
    e
