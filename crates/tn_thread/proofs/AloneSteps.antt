-- A step that asks nothing of the tile is a step: the same, but that its pc and counts are written later.
use Rattle.std.proofs.Common.{ℕ, ◌≡◌, ◌+◌, suc, List, Bool, refl, sym, ap, subst, ◌∙◌, arith, Option, Some, None}
use Rattle.tn_base.specs.declared.effect.Effect.{Effect}
use Rattle.tn_base.specs.declared.effect.Effect.TheVariants as effect
use Rattle.tn_base.specs.declared.op.Op.TheVariants as op
use Rattle.tn_thread.specs.declared.place.Place.{Place}
use Rattle.tn_thread.specs.declared.place.Place.TheVariants as place
use Rattle.tn_thread.specs.declared.thread.Thread.{Thread}
use Rattle.tn_thread.specs.Alone.{Going, alone, caught_up, goes_to, reads_from, reads_message, writes_to}
use Rattle.tn_thread.specs.Fits.{Keeps, StepFits}
use Rattle.tn_thread.specs.Sight.{Sight}
use Rattle.tn_thread.specs.Step.{Stepped, loaded_from, loaded_message, place_of, stepped, stored_to, went_to}
use Rattle.tn_thread.proofs.Fits.{stepped_fits}

-- what a step without a wish makes of a thread that is caught up
abbrev pub caught : ℕ → Going → Stepped
caught m g = record { thread = caught_up (suc m) g.pc g.thread; op = op.None }

went_on : (m pc target : ℕ) (t : Thread) → went_to target (caught_up m pc t) op.None ≡ caught m (record { pc = target; thread = t })
went_on m pc target t =
    let count : (t.steps + m) + 1 ≡ t.steps + suc m = omega arith in
    ap (λ s. record { thread = record t { pc = target; steps = s; given = 0 }; op = op.None }) count

going : (m pc target : ℕ) (t : Thread) (g : Going) → goes_to target t ≡ Some g → went_to target (caught_up m pc t) op.None ≡ caught m g
going m pc target t g e =
    let same : record { pc = target; thread = t } ≡ g = cc e in
    subst (λ (x : Going). went_to target (caught_up m pc t) op.None ≡ caught m x) same (went_on m pc target t)

message_read : (message : Option (List ℕ)) (rd width : ℕ) (signed : Bool) (at m pc : ℕ) (t : Thread) (g : Going) → reads_message message rd width signed at pc t ≡ Some g → loaded_message message rd width signed at (caught_up m pc t) ≡ caught m g
message_read None rd width signed at m pc t g e = cc e
message_read (Some message) rd width signed at m pc t g e = going m pc _ _ g e

read_is : (from : Place) (rd width : ℕ) (signed : Bool) (seen : Sight) (m pc : ℕ) (t : Thread) (g : Going) → reads_from from rd width signed seen pc t ≡ Some g → loaded_from from rd width signed seen (caught_up m pc t) ≡ caught m g
read_is (place.Private at) rd width signed seen m pc t g e = going m pc _ _ g e
read_is (place.SendSlot at) rd width signed seen m pc t g e = going m pc _ _ g e
read_is (place.Received slot at) rd width signed seen m pc t g e = message_read (seen.held slot) rd width signed at m pc t g e
read_is place.Misaligned rd width signed seen m pc t g e = cc e
read_is place.Nowhere rd width signed seen m pc t g e = cc e

write_is : (to : Place) (width value : ℕ) (m pc : ℕ) (t : Thread) (g : Going) → writes_to to width value pc t ≡ Some g → stored_to to width value (caught_up m pc t) ≡ caught m g
write_is (place.Private at) width value m pc t g e = going m pc _ _ g e
write_is (place.SendSlot at) width value m pc t g e = going m pc _ _ g e
write_is (place.Received slot at) width value m pc t g e = cc e
write_is place.Misaligned width value m pc t g e = cc e
write_is place.Nowhere width value m pc t g e = cc e

-- the step of the thread as it is after m such steps
pub alone_is : (e : Effect) (seen : Sight) (m pc : ℕ) (t : Thread) (g : Going) → alone e seen pc t ≡ Some g → stepped e seen (caught_up m pc t) ≡ caught m g
alone_is effect.Next seen m pc t g h = going m pc _ t g h
alone_is (effect.Jump target) seen m pc t g h = going m pc target t g h
alone_is (effect.Load rd addr width signed) seen m pc t g h = read_is (place_of addr width t) rd width signed seen m pc t g h
alone_is (effect.Store addr width value) seen m pc t g h = write_is (place_of addr width t) width value m pc t g h
alone_is (effect.CsrRead rd csr) seen m pc t g h = cc h
alone_is (effect.CsrWrite rd csr value) seen m pc t g h = cc h
alone_is (effect.Trap why) seen m pc t g h = cc h

-- such steps keep the thread's state, and its counts until it is caught up
pub record Stays (old new : Thread) : Type 0 where
  pub state : new.state ≡ old.state
  pub steps : new.steps ≡ old.steps
  pub keeps : Keeps old new

pub stays_self : (t : Thread) → Stays t t
stays_self t = record { state = refl; steps = refl; keeps = record { id = refl; shape = refl; firmware = refl; mem = refl; out = refl } }

pub stays_more : (a b c : Thread) → Stays a b → Stays b c → Stays a c
stays_more a b c p q = record {
  state = q.state ∙ p.state;
  steps = q.steps ∙ p.steps;
  keeps = record {
    id = q.keeps.id ∙ p.keeps.id;
    shape = q.keeps.shape ∙ p.keeps.shape;
    firmware = q.keeps.firmware ∙ p.keeps.firmware;
    mem = q.keeps.mem ∙ p.keeps.mem;
    out = q.keeps.out ∙ p.keeps.out;
  };
}

going_state : (target : ℕ) (t : Thread) (g : Going) → goes_to target t ≡ Some g → g.thread.state ≡ t.state
going_state target t g e =
    let same : record { pc = target; thread = t } ≡ g = cc e in
    sym (ap (λ (x : Going). x.thread.state) same)

message_state : (message : Option (List ℕ)) (rd width : ℕ) (signed : Bool) (at pc : ℕ) (t : Thread) (g : Going) → reads_message message rd width signed at pc t ≡ Some g → g.thread.state ≡ t.state
message_state None rd width signed at pc t g e = cc e
message_state (Some message) rd width signed at pc t g e = going_state _ _ g e

read_state : (from : Place) (rd width : ℕ) (signed : Bool) (seen : Sight) (pc : ℕ) (t : Thread) (g : Going) → reads_from from rd width signed seen pc t ≡ Some g → g.thread.state ≡ t.state
read_state (place.Private at) rd width signed seen pc t g e = going_state _ _ g e
read_state (place.SendSlot at) rd width signed seen pc t g e = going_state _ _ g e
read_state (place.Received slot at) rd width signed seen pc t g e = message_state (seen.held slot) rd width signed at pc t g e
read_state place.Misaligned rd width signed seen pc t g e = cc e
read_state place.Nowhere rd width signed seen pc t g e = cc e

write_state : (to : Place) (width value : ℕ) (pc : ℕ) (t : Thread) (g : Going) → writes_to to width value pc t ≡ Some g → g.thread.state ≡ t.state
write_state (place.Private at) width value pc t g e = going_state _ _ g e
write_state (place.SendSlot at) width value pc t g e = going_state _ _ g e
write_state (place.Received slot at) width value pc t g e = cc e
write_state place.Misaligned width value pc t g e = cc e
write_state place.Nowhere width value pc t g e = cc e

alone_state : (e : Effect) (seen : Sight) (pc : ℕ) (t : Thread) (g : Going) → alone e seen pc t ≡ Some g → g.thread.state ≡ t.state
alone_state effect.Next seen pc t g h = going_state _ t g h
alone_state (effect.Jump target) seen pc t g h = going_state target t g h
alone_state (effect.Load rd addr width signed) seen pc t g h = read_state (place_of addr width t) rd width signed seen pc t g h
alone_state (effect.Store addr width value) seen pc t g h = write_state (place_of addr width t) width value pc t g h
alone_state (effect.CsrRead rd csr) seen pc t g h = cc h
alone_state (effect.CsrWrite rd csr value) seen pc t g h = cc h
alone_state (effect.Trap why) seen pc t g h = cc h

pub alone_stays : (e : Effect) (seen : Sight) (pc : ℕ) (t : Thread) (g : Going) → alone e seen pc t ≡ Some g → Stays t g.thread
alone_stays e seen pc t g h =
    let fits : StepFits seen (caught_up 0 pc t) (caught 0 g) = subst (λ s. StepFits seen (caught_up 0 pc t) s) (alone_is e seen 0 pc t g h) (stepped_fits e seen (caught_up 0 pc t)) in
    let count = fits.steps in
    record {
      state = alone_state e seen pc t g h;
      steps = omega arith;
      keeps = record { id = fits.keeps.id; shape = fits.keeps.shape; firmware = fits.keeps.firmware; mem = fits.keeps.mem; out = fits.keeps.out };
    }
