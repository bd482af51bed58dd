use Rattle.tn_router.proofs.Deeds.{depart_shaped}
use Rattle.tn_router.proofs.router.Router.depart.Goals as goal

pub invariant_of-self : goal.invariant_of-self
invariant_of-self c = record { board = c.self.invariant.board; fits = depart_shaped c.self.inside.plan c.args.way c.self.inside.state c.depart.new.self c.self.invariant.fits c.depart.ensures }
