use Rattle.tn_stamped.proofs.Fitting.{turn_fits}
use Rattle.tn_stamped.proofs.Entries.{turn_stands}
use Rattle.tn_stamped.proofs.placed.Placed.turn.Goals as goal
use Rattle.std.proofs.Common.{subst}
use Rattle.tn_stamped.proofs.Giving.{turn_grows}
use Rattle.tn_rows.specs.Stamped.{StampedView}
use Rattle.tn_stamped.specs.Doing.{DoesTurn}
use Rattle.tn_stamped.specs.Placed.{GrewAlone, PlacedView}

pub invariant_of-self : goal.invariant_of-self
invariant_of-self g c = record {
  here = turn_stands c.self.inside.shape c.self.inside.place.0 c.self.inside.stamped.value c.turn.new.self c.turn.result.turned c.args.t (rw (← c.self.view_is) at c.requires.here) (subst (λ (s : StampedView). DoesTurn c.turn.result.turned c.args.t s c.turn.new.self) c.deref_mut.ensures.value c.turn.ensures.turn) c.self.invariant.here;
  fits = turn_fits c.self.inside.shape _ c.self.inside.stamped.value c.turn.new.self c.turn.result.turned c.args.t (subst (λ (s : StampedView). DoesTurn c.turn.result.turned c.args.t s c.turn.new.self) c.deref_mut.ensures.value c.turn.ensures.turn) c.self.invariant.fits;
}

pub returns-clause-grows : goal.returns-clause-grows
returns-clause-grows g c =
    let old : PlacedView = record { stamped = c.self.inside.stamped.value; shape = c.self.inside.shape; place = c.self.inside.place.0 } in
    subst (λ (x : PlacedView). GrewAlone x (record old { stamped = c.turn.new.self })) c.self.view_is
    (turn_grows old.shape old.place old.stamped c.turn.new.self c.turn.result.turned c.args.t (subst (λ (s : StampedView). DoesTurn c.turn.result.turned c.args.t s c.turn.new.self) c.deref_mut.ensures.value c.turn.ensures.turn))
