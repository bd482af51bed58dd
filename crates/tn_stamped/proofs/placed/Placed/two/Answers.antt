use Rattle.std.proofs.Common.{subst, sym}
use Rattle.std.specs.List.{All}
use Rattle.tn_base.specs.declared.shape.ShapeNumbers.{ShapeNumbers}
use Rattle.tn_stamped.proofs.Entries.{high_stands_or, low_stands_or}
use Rattle.tn_base.specs.Parts.{kind_of}
use Rattle.tn_rows.specs.Events.{FitsKind}
use Rattle.tn_stamped.proofs.Fitting.{high_fits_or, joined_here, low_fits_or}
use Rattle.tn_stamped.proofs.placed.Placed.two.Goals as goal
use Rattle.tn_rows.specs.PartView.{PartView}
use Rattle.tn_rows.specs.Stamped.{StampedView, StandsAt}
use Rattle.tn_part.specs.Meeting.{IsJoined}
use Rattle.tn_stamped.specs.Doing.{DoesTwoOr}
use Rattle.tn_stamped.proofs.Giving.{two_grows}
use Rattle.tn_stamped.specs.Placed.{GrewTogether, PlacedView}

pub invariant_of-self : goal.invariant_of-self
invariant_of-self g c = record {
  here = low_stands_or c.self.inside.shape c.self.inside.place.0 c.high.inside.place.0 c.self.inside.stamped.value c.high.inside.stamped.value c.two.new.self c.two.new.high c.two.result c.args.e (rw (← c.high.view_is, ← c.self.view_is) at c.requires.here) (subst (λ (s : StampedView). DoesTwoOr c.two.result c.args.e s c.high.inside.stamped.value c.two.new.self c.two.new.high) c.deref_mut.ensures.value (subst (λ (s : StampedView). DoesTwoOr c.two.result c.args.e c.deref_mut.result.now s c.two.new.self c.two.new.high) c.deref_mut-2.ensures.value c.two.ensures)) c.self.invariant.here;
  fits = low_fits_or c.self.inside.shape _ c.self.inside.stamped.value c.high.inside.stamped.value c.two.new.self c.two.new.high c.two.result c.args.e (subst (λ (s : StampedView). DoesTwoOr c.two.result c.args.e s c.high.inside.stamped.value c.two.new.self c.two.new.high) c.deref_mut.ensures.value (subst (λ (s : StampedView). DoesTwoOr c.two.result c.args.e c.deref_mut.result.now s c.two.new.self c.two.new.high) c.deref_mut-2.ensures.value c.two.ensures)) c.self.invariant.fits;
}

pub invariant_of-high : goal.invariant_of-high
invariant_of-high g c =
    let here = rw (← c.high.view_is, ← c.self.view_is) at c.requires.here in
    let same = rw (← c.high.view_is, ← c.self.view_is) at c.requires.same in
    record {
      here = subst (λ (m : ShapeNumbers). All (StandsAt m c.high.inside.place.0) c.two.new.high.entries) (sym same) (high_stands_or c.self.inside.shape c.self.inside.place.0 c.high.inside.place.0 c.self.inside.stamped.value c.high.inside.stamped.value c.two.new.self c.two.new.high c.two.result c.args.e here (subst (λ (s : StampedView). DoesTwoOr c.two.result c.args.e s c.high.inside.stamped.value c.two.new.self c.two.new.high) c.deref_mut.ensures.value (subst (λ (s : StampedView). DoesTwoOr c.two.result c.args.e c.deref_mut.result.now s c.two.new.self c.two.new.high) c.deref_mut-2.ensures.value c.two.ensures)) (subst (λ (m : ShapeNumbers). All (StandsAt m c.high.inside.place.0) c.high.inside.stamped.value.entries) same c.high.invariant.here));
      fits = high_fits_or c.high.inside.shape _ c.self.inside.stamped.value c.high.inside.stamped.value c.two.new.self c.two.new.high c.two.result c.args.e (subst (λ (s : StampedView). DoesTwoOr c.two.result c.args.e s c.high.inside.stamped.value c.two.new.self c.two.new.high) c.deref_mut.ensures.value (subst (λ (s : StampedView). DoesTwoOr c.two.result c.args.e c.deref_mut.result.now s c.two.new.self c.two.new.high) c.deref_mut-2.ensures.value c.two.ensures)) c.high.invariant.fits;
    }

pub returns-clause-grow : goal.returns-clause-grow
returns-clause-grow g c =
    let old : PlacedView = record { stamped = c.self.inside.stamped.value; shape = c.self.inside.shape; place = c.self.inside.place.0 } in
    let high : PlacedView = record { stamped = c.high.inside.stamped.value; shape = c.high.inside.shape; place = c.high.inside.place.0 } in
    let here = rw (← c.high.view_is, ← c.self.view_is) at c.requires.here in
    let same = rw (← c.high.view_is, ← c.self.view_is) at c.requires.same in
    subst (λ (x : PlacedView). GrewTogether x c.args.high.now (record old { stamped = c.two.new.self }) (record high { stamped = c.two.new.high })) c.self.view_is
    (subst (λ (y : PlacedView). GrewTogether old y (record old { stamped = c.two.new.self }) (record high { stamped = c.two.new.high })) c.high.view_is
    (subst (λ (n : ShapeNumbers). GrewTogether old (record high { shape = n }) (record old { stamped = c.two.new.self }) (record { stamped = c.two.new.high; shape = n; place = high.place })) (sym same)
    (two_grows old.shape old.place high.place old.stamped high.stamped c.two.new.self c.two.new.high c.two.result c.args.e here (subst (λ (s : StampedView). DoesTwoOr c.two.result c.args.e s c.high.inside.stamped.value c.two.new.self c.two.new.high) c.deref_mut.ensures.value (subst (λ (s : StampedView). DoesTwoOr c.two.result c.args.e c.deref_mut.result.now s c.two.new.self c.two.new.high) c.deref_mut-2.ensures.value c.two.ensures)))))

pub two-requires-clause-joined : goal.two-requires-clause-joined
two-requires-clause-joined g c =
    let n = c.self.inside.shape in
    let here = rw (← c.high.view_is, ← c.self.view_is) at c.requires.here in
    let same = rw (← c.high.view_is, ← c.self.view_is) at c.requires.same in
    subst (λ (x : PartView). IsJoined c.args.e x c.deref_mut-2.result.now.present c.args.at) (λ t. (sym c.deref_mut.ensures.value t).present)
    (subst (λ (y : PartView). IsJoined c.args.e c.self.inside.stamped.value.present y c.args.at) (λ t. (sym c.deref_mut-2.ensures.value t).present)
    (joined_here n c.args.e c.args.at c.self.inside.place.0 c.high.inside.place.0 c.self.inside.stamped.value.present c.high.inside.stamped.value.present c.law_links.ensures (rw (← c.self.view_is) at c.requires.port) here c.self.invariant.fits (subst (λ (m : ShapeNumbers). FitsKind m (kind_of m c.high.inside.place.0) c.high.inside.stamped.value.present) same c.high.invariant.fits)))
