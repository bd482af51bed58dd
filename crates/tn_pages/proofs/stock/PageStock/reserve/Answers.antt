use Rattle.std.proofs.Common.{◌≤◌, ◌≡◌, arith, length}
use Rattle.tn_pages.proofs.Stocks.{fit_take}
use Rattle.tn_pages.proofs.stock.PageStock.reserve.Goals as goal

pub invariant_of-self : goal.invariant_of-self
invariant_of-self c =
    let before : length c.self.inside.pages.items ≡ c.args.self.now = c.self.view_is in
    let after : length c.self-2.inside.pages.items ≡ c.fill-filled.new.self = c.self-2.view_is in
    let more = c.fill-filled.ensures.more in
    let held : c.len-held.result ≤ length c.self-2.inside.pages.items = omega arith in
    rw (c.truncate.ensures.items) (fit_take c.len-held.result c.self-2.inside.pages.items held c.self-2.invariant)
