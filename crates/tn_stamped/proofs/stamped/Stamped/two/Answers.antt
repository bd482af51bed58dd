use Rattle.std.proofs.Common.{◌≡◌, None, refl, subst, sym}
use Rattle.tn_rows.specs.Events.{meets}
use Rattle.tn_rows.specs.Stamped.{StampedView}
use Rattle.tn_stamped.specs.Doing.{BothGrown}
use Rattle.tn_stamped.proofs.Growing.{both_grown, both_none, both_rows, noted_two, replay_more, replay_same, two_same}
use Rattle.tn_stamped.proofs.stamped.Stamped.two.Goals as goal

pub invariant_of-self : goal.invariant_of-self
invariant_of-self g c =
    let row = (both_rows _ _ _ _ _ _ (sym c.in-Some.ensures) (rw c.in-Ok-Moved.field-0-is at c.in-Ok-Moved.ensures)).0 in
    record {
      replays = replay_more _ _ _ _ _ _ c.append_both.ensures.low c.self.invariant.replays row;
      noted = noted_two _ _ _ _ _ _ _ _ _ c.append_both.ensures.low c.self.invariant.replays row c.self.invariant.noted (sym c.in-Some.ensures);
    }

pub invariant_of-high : goal.invariant_of-high
invariant_of-high g c =
    let row = (both_rows _ _ _ _ _ _ (sym c.in-Some.ensures) (rw c.in-Ok-Moved.field-0-is at c.in-Ok-Moved.ensures)).1 in
    record {
      replays = replay_more _ _ _ _ _ _ c.append_both.ensures.high c.high.invariant.replays row;
      noted = noted_two _ _ _ _ _ _ _ _ _ c.append_both.ensures.high c.high.invariant.replays row c.high.invariant.noted (sym c.in-Some.ensures);
    }

pub invariant_of-self-in-Ok-Nothing : goal.invariant_of-self-in-Ok-Nothing
invariant_of-self-in-Ok-Nothing g c = record {
  replays = replay_same c.self.inside.journal.entries c.self.inside.start c.self.inside.present c.meet.new.self c.self.invariant.replays
      (both_none (meets c.args.e c.self.inside.present c.high.inside.present) c.self.inside.present c.high.inside.present c.meet.new.self c.meet.new.high (rw c.in-Ok-Nothing.field-0-is at c.in-Ok-Nothing.ensures)).1;
  noted = c.self.invariant.noted;
}

pub invariant_of-high-in-Ok-Nothing : goal.invariant_of-high-in-Ok-Nothing
invariant_of-high-in-Ok-Nothing g c = record {
  replays = replay_same c.high.inside.journal.entries c.high.inside.start c.high.inside.present c.meet.new.high c.high.invariant.replays
      (both_none (meets c.args.e c.self.inside.present c.high.inside.present) c.self.inside.present c.high.inside.present c.meet.new.self c.meet.new.high (rw c.in-Ok-Nothing.field-0-is at c.in-Ok-Nothing.ensures)).2;
  noted = c.high.invariant.noted;
}

pub returns-in-Ok-Moved : goal.returns-in-Ok-Moved
returns-in-Ok-Moved g c =
    let s : StampedView = record { start = c.self.inside.start; entries = c.self.inside.journal.entries; room = c.self.inside.journal.room; present = c.self.inside.present } in
    let t : StampedView = record { start = c.high.inside.start; entries = c.high.inside.journal.entries; room = c.high.inside.journal.room; present = c.high.inside.present } in
    let s' : StampedView = record { start = c.self.inside.start; entries = c.append_both.new.low.entries; room = c.append_both.new.low.room; present = c.meet.new.self } in
    let t' : StampedView = record { start = c.high.inside.start; entries = c.append_both.new.high.entries; room = c.append_both.new.high.room; present = c.meet.new.high } in
    subst (λ (x : StampedView). BothGrown c.args.e x c.args.high.now s' t') c.self.view_is
    (subst (λ (y : StampedView). BothGrown c.args.e s y s' t') c.high.view_is
    (both_grown c.args.e c.in-Some.crossing s t s' t' (sym c.in-Some.ensures) refl refl c.append_both.ensures.low c.append_both.ensures.high (rw c.in-Ok-Moved.field-0-is at c.in-Ok-Moved.ensures)))

pub returns-in-Ok-Nothing : goal.returns-in-Ok-Nothing
returns-in-Ok-Nothing g c =
    let s : StampedView = record { start = c.self.inside.start; entries = c.self.inside.journal.entries; room = c.self.inside.journal.room; present = c.self.inside.present } in
    let t : StampedView = record { start = c.high.inside.start; entries = c.high.inside.journal.entries; room = c.high.inside.journal.room; present = c.high.inside.present } in
    let s' : StampedView = record s { present = c.meet.new.self } in
    let t' : StampedView = record t { present = c.meet.new.high } in
    subst (λ (x : StampedView). (s' ≡ x) × (t' ≡ c.args.high.now) × (meets c.args.e x.present c.args.high.now.present ≡ None)) c.self.view_is
    (subst (λ (y : StampedView). (s' ≡ s) × (t' ≡ y) × (meets c.args.e s.present y.present ≡ None)) c.high.view_is
    (two_same c.args.e s t s' t' c.meet.new.self c.meet.new.high refl refl (rw c.in-Ok-Nothing.field-0-is at c.in-Ok-Nothing.ensures)))
