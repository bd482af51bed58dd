use Rattle.std.proofs.Common.{◌≡◌, ◌<◌, ◌≤◌, length}
use Rattle.tn_pages.specs.Pages.{StockFits}
use Rattle.tn_pages.proofs.stock.PageStock.fill.Given as goal

abbrev pub invariant-loop-i : goal.invariant-loop-i
invariant-loop-i l = record { long : length l.self-inside.pages.items ≡ l._i; zeros : StockFits l.self-inside.pages.items; more : l.held ≤ l._i; stop : l.n < l.held → l._i ≡ l.held }
