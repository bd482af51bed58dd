-- Runs of the bag machine from what a machine shows, with the release carried through, whatever was announced before.
use Rattle.std.proofs.Common.{ℕ, ◌≡◌, ◌+◌, ◌++◌, List, [], ◌∷◌, length, refl, sym, ◌∙◌, ap, subst, arith, Option, Some, None, inl, inr}
use Rattle.tn_base.specs.declared.message.Letter.{Letter}
use Rattle.tn_base.specs.declared.op.Op.{Op}
use Rattle.tn_base.specs.declared.op.Op.TheVariants as op
use Rattle.tn_base.specs.declared.shape.ShapeNumbers.{ShapeNumbers}
use Rattle.tn_rows.specs.WorldView.{WorldView}
use Rattle.tn_letters.specs.declared.steps.BagStep.{BagStep}
use Rattle.tn_letters.specs.declared.steps.BagStep.TheVariants as bag
use Rattle.tn_letters.specs.declared.steps.Seen.{Seen}
use Rattle.tn_letters.specs.Law.{dropped_in}
use Rattle.tn_letters.specs.Machine.{Allows, BagRun, Happens, IsAllowed, MayStep, announced, ended_by, own_step, sent_by, with_own_step}
use Rattle.tn_letters.specs.Settled.{detector_on, settled}
use Rattle.tn_detect.specs.Notes.{value_of}
use Rattle.tn_letters.specs.State.{BagState, Program, Same}
use Rattle.tn_letters.specs.Tiles.{program_of}
use Rattle.tn_letters.proofs.Bare.{alike_dropped, alike_means, alike_shown, program_match}
use Rattle.tn_letters.proofs.Runs.{run_join, same_refl}
use Rattle.tn_letters.proofs.Settling.{settled_dropped, settled_program}
use Rattle.tn_letters.proofs.Silent.{Silent}
use Rattle.tn_letters.proofs.Simulate.{Reached, shown}

-- ---- the count of announcements is read by no step

-- a state with so many announcements more
abbrev pub later : ℕ → BagState → BagState
later k s = record s { announcements = s.announcements + k }

later_allows : (n : ShapeNumbers) (k : ℕ) (s : BagState) (a : ℕ) (seen : Seen) (l : Letter) → Allows n s a seen l → Allows n (later k s) a seen l
later_allows n k s a seen l h =
    let t = h.stands in
    record { slot = h.slot; first = h.first; key = h.key; stands = record { flying = t.flying; receiver = t.receiver; not_held = t.not_held; shared = t.shared } }

later_allowed : (n : ShapeNumbers) (k : ℕ) (s : BagState) (a : ℕ) (seen : Seen) → IsAllowed n s a seen → IsAllowed n (later k s) a seen
later_allowed n k s a seen (inl none) = inl none
later_allowed n k s a seen (inr l) = inr (l.0, later_allows n k s a seen l.0 l.1)

later_may : (m : Program) (k : ℕ) (s : BagState) (a : ℕ) (seen : Seen) → MayStep m s a seen → MayStep m (later k s) a seen
later_may m k s a seen h = record { there = h.there; allowed = later_allowed m.shape k s a seen h.allowed; runnable = h.runnable }

later_ended : (o : Op) (a k : ℕ) (s : BagState) → later k (ended_by o a s) ≡ ended_by o a (later k s)
later_ended op.None a k s = refl
later_ended (op.Send to bytes) a k s = refl
later_ended op.Hand a k s = refl
later_ended (op.Free slot) a k s = refl
later_ended (op.Idle vote) a k s = refl
later_ended (op.Kill value) a k s = refl
later_ended (op.Trap why) a k s = refl

later_sent : (m : Program) (a number k : ℕ) (o : Op) (s t : BagState) → sent_by m a number o s ≡ Some t → sent_by m a number o (later k s) ≡ Some (later k t)
later_sent m a number k (op.Send to bytes) s t e = ap (λ (o : Option BagState). sent_later k o) e
  where
    sent_later : ℕ → Option BagState → Option BagState
    sent_later k None = None
    sent_later k (Some s) = Some (later k s)
later_sent m a number k op.None s t e = cc e
later_sent m a number k op.Hand s t e = cc e
later_sent m a number k (op.Free slot) s t e = cc e
later_sent m a number k (op.Idle vote) s t e = cc e
later_sent m a number k (op.Kill value) s t e = cc e
later_sent m a number k (op.Trap why) s t e = cc e

later_announced : (n : ShapeNumbers) (k : ℕ) (s : BagState) → later k (announced n s) ≡ announced n (later k s)
later_announced n k s =
    let e : s.announcements + 1 + k ≡ s.announcements + k + 1 = omega arith in
    λ i. record (announced n s) { announcements = e i }

later_happens : (m : Program) (k : ℕ) (step : BagStep) (s t : BagState) → Happens m step s t → Happens m step (later k s) (later k t)
unfolding later_allows
later_happens m k (bag.Private a seen) s t h = (later_may m k s a seen h.0, h.1, ap (later k) h.2 ∙ later_ended (own_step m a seen s).op a k (with_own_step m a seen s))
later_happens m k (bag.Send a seen) s t h = (later_may m k s a seen h.0, later_sent m a (s.threads a).sends k (own_step m a seen s).op (with_own_step m a seen s) t h.1)
later_happens m k (bag.Hand a seen l) s t h = (later_may m k s a seen h.0, h.1, (h.2.0, later_allows m.shape k s a seen l h.2.1, h.2.2, ap (later k) h.2.3))
later_happens m k (bag.Free a seen slot) s t h = (later_may m k s a seen h.0, h.1, ap (later k) h.2)
later_happens m k (bag.Idle a seen vote) s t h = (later_may m k s a seen h.0, h.1, ap (later k) h.2)
later_happens m k bag.Announce s t h = (record { threads = h.0.threads; flight = h.0.flight; host = h.0.host }, ap (later k) h.1 ∙ later_announced m.shape k s)
later_happens m k (bag.HostSend l) s t h = (h.0, h.1, h.2, h.3, ap (later k) h.4)
later_happens m k (bag.HostHand l) s t h = (h.0, h.1, h.2, ap (later k) h.3)
later_happens m k (bag.Discard l) s t h = (h.0, h.1, h.2, h.3, ap (later k) h.4)

later_same : (n : ShapeNumbers) (k : ℕ) (s t : BagState) → Same n s t → Same n (later k s) (later k t)
later_same n k s t h = record {
  threads = h.threads;
  flight = h.flight;
  got = h.got;
  held = h.held;
  dropped = h.dropped;
  host = h.host;
  script = h.script;
  host_sends = h.host_sends;
  announcements = ap (λ x. x + k) h.announcements;
}

pub later_run : (m : Program) (k : ℕ) (s t : BagState) (steps : List BagStep) → BagRun m s steps t → BagRun m (later k s) steps (later k t)
later_run m k s t [] r = later_same m.shape k s t r
later_run m k s t (x ∷ xs) r = (later k r.0, later k r.1, later_same m.shape k s r.0 r.2, later_happens m k x r.0 r.1 r.3, later_run m k r.1 t xs r.4)

-- ---- from machine to machine

-- the state of the bag machine that a machine shows, beside what it does not show
abbrev pub state : (ℕ → List Letter) → List Letter → ℕ → WorldView → BagState
state got dropped k w = later k (shown got dropped (settled w))

-- a run of the bag machine from what a machine shows to what another machine shows
pub record Arrives (got : ℕ → List Letter) (dropped : List Letter) (k : ℕ) (old : WorldView) (steps : List BagStep) (new : WorldView) : Type 0 where
  pub now : ℕ → List Letter
  pub gone : List Letter
  pub more : ℕ
  pub run : BagRun (program_of old) (state got dropped k old) steps (state now gone more new)
  pub program : program_of new ≡ program_of old
  pub count : length gone + dropped_in old ≡ length dropped + dropped_in new

pub arrives_none : (got : ℕ → List Letter) (dropped : List Letter) (k : ℕ) (w : WorldView) → Arrives got dropped k w [] w
arrives_none got dropped k w = record {
  now = got;
  gone = dropped;
  more = k;
  run = same_refl w.shape (state got dropped k w);
  program = refl;
  count = refl;
}

pub arrives_join : (got : ℕ → List Letter) (dropped : List Letter) (k : ℕ) (u v w : WorldView) (xs ys : List BagStep) (x : Arrives got dropped k u xs v) → Arrives x.now x.gone x.more v ys w → Arrives got dropped k u (xs ++ ys) w
arrives_join got dropped k u v w xs ys x y = record {
  now = y.now;
  gone = y.gone;
  more = y.more;
  run = run_join (program_of u) (state got dropped k u) (state x.now x.gone x.more v) (state y.now y.gone y.more w) xs ys x.run (subst (λ m. BagRun m (state x.now x.gone x.more v) ys (state y.now y.gone y.more w)) x.program y.run);
  program = y.program ∙ x.program;
  count = let a = x.count in let b = y.count in omega arith;
}

-- what the laws of threads and letters give of the machines with the release carried through
pub arrives_reached : (got : ℕ → List Letter) (dropped : List Letter) (k : ℕ) (old new : WorldView) (steps : List BagStep) → Reached got dropped (settled old) steps (settled new) → Arrives got dropped k old steps new
arrives_reached got dropped k old new steps r = record {
  now = r.now;
  gone = r.gone;
  more = k;
  run = subst (λ m. BagRun m (state got dropped k old) steps (state r.now r.gone k new)) (settled_program old)
      (later_run (program_of (settled old)) k (shown got dropped (settled old)) (shown r.now r.gone (settled new)) steps r.run);
  program = sym (settled_program new) ∙ (r.program ∙ settled_program old);
  count =
      let a = r.count in
      let b : dropped_in (settled old) ≡ dropped_in old = settled_dropped (detector_on old).phase (value_of (detector_on old).answer) old.parts in
      let c : dropped_in (settled new) ≡ dropped_in new = settled_dropped (detector_on new).phase (value_of (detector_on new).answer) new.parts in
      omega arith;
}

-- machines that differ in what the detector asks of their parts show the same state
pub arrives_silent : (got : ℕ → List Letter) (dropped : List Letter) (k : ℕ) (old new : WorldView) → Silent old new → Arrives got dropped k old [] new
arrives_silent got dropped k old new s =
    let next : WorldView = record old { parts = s.parts } in
    let shows : shown got dropped (settled next) ≡ shown got dropped (settled old) = alike_shown got dropped (settled old) (settled next).parts s.alike in
    let program : program_of (settled next) ≡ program_of (settled old) = program_match (settled old) (settled next).parts (alike_means (settled old) (settled next).parts s.alike) in
    subst (λ (x : WorldView). Arrives got dropped k old [] x) (sym s.is) (record {
      now = got;
      gone = dropped;
      more = k;
      run = subst (λ t. Same old.shape (state got dropped k old) (later k t)) (sym shows) (same_refl old.shape (state got dropped k old));
      program = sym (settled_program next) ∙ (program ∙ settled_program old);
      count =
          let a : dropped_in (settled next) ≡ dropped_in (settled old) = alike_dropped (settled old).parts (settled next).parts s.alike in
          let b : dropped_in (settled old) ≡ dropped_in old = settled_dropped (detector_on old).phase (value_of (detector_on old).answer) old.parts in
          let c : dropped_in (settled next) ≡ dropped_in next = settled_dropped (detector_on next).phase (value_of (detector_on next).answer) next.parts in
          omega arith;
    })
