use Rattle.std.proofs.Common.{◌∙◌, sym}
use Rattle.tn_bag.proofs.Waits.{router_board}
use Rattle.tn_bag.proofs.keyed.link_board.Goals as goal

pub returns-in-Router-clause-x : goal.returns-in-Router-clause-x
returns-in-Router-clause-x c = (router_board c.args.shape.now c.in-Link.to.0 c.in-Router.board (sym c.kind_at-in-Link.ensures ∙ c.in-Router.is) c.numbers-numbers.ensures.limits).0

pub returns-in-Router-clause-y : goal.returns-in-Router-clause-y
returns-in-Router-clause-y c = (router_board c.args.shape.now c.in-Link.to.0 c.in-Router.board (sym c.kind_at-in-Link.ensures ∙ c.in-Router.is) c.numbers-numbers.ensures.limits).1
