use Rattle.tn_router.proofs.Deeds.{accept_shaped}
use Rattle.tn_router.proofs.router.Router.accept.Goals as goal

pub invariant_of-self : goal.invariant_of-self
invariant_of-self c = record { board = c.self.invariant.board; fits = accept_shaped c.self.inside.plan c.args.from c.args.p.now c.self.inside.state c.accept.new.self c.self.invariant.fits c.accept.ensures }
