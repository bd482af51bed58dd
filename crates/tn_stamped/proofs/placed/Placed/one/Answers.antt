use Rattle.tn_stamped.proofs.Fitting.{one_fits}
use Rattle.tn_stamped.proofs.Entries.{one_stands}
use Rattle.tn_stamped.proofs.placed.Placed.one.Goals as goal
use Rattle.tn_tile.specs.Turns.{moved}
use Rattle.std.proofs.Common.{subst}
use Rattle.tn_stamped.proofs.Giving.{one_grows}
use Rattle.tn_rows.specs.Stamped.{StampedView}
use Rattle.tn_stamped.specs.Doing.{DoesOne}
use Rattle.tn_stamped.specs.Placed.{GrewAlone, PlacedView}

pub invariant_of-self : goal.invariant_of-self
invariant_of-self g c = record {
  here = one_stands c.self.inside.shape c.self.inside.place.0 c.self.inside.stamped.value c.one.new.self (moved c.one.result) c.args.e (rw (← c.self.view_is) at c.requires.here) (subst (λ (s : StampedView). DoesOne (moved c.one.result) c.args.e s c.one.new.self) c.deref_mut.ensures.value c.one.ensures) c.self.invariant.here;
  fits = one_fits c.self.inside.shape _ c.self.inside.stamped.value c.one.new.self (moved c.one.result) c.args.e (subst (λ (s : StampedView). DoesOne (moved c.one.result) c.args.e s c.one.new.self) c.deref_mut.ensures.value c.one.ensures) c.self.invariant.fits;
}

pub returns-clause-grows : goal.returns-clause-grows
returns-clause-grows g c =
    let old : PlacedView = record { stamped = c.self.inside.stamped.value; shape = c.self.inside.shape; place = c.self.inside.place.0 } in
    subst (λ (x : PlacedView). GrewAlone x (record old { stamped = c.one.new.self })) c.self.view_is
    (one_grows old.shape old.place old.stamped c.one.new.self (moved c.one.result) c.args.e (rw (← c.self.view_is) at c.requires.here) (subst (λ (s : StampedView). DoesOne (moved c.one.result) c.args.e s c.one.new.self) c.deref_mut.ensures.value c.one.ensures))
