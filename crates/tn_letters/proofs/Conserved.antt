-- Each step takes from the bag in flight what leaves, and adds what it sends.
use Rattle.std.proofs.Common.{true, false, ℕ, ◌+◌, ◌≡◌, Bool, cond, List, [], ◌∷◌, ◌++◌, refl, sym, ◌∙◌, ap, arith, Option, Some, unwrap_or, sum_by, ◌==◌, append_assoc}
use Rattle.std.specs.List.{flat_map}
use Rattle.std.proofs.lemmas.Bool.{eqb-true}
use Rattle.std.proofs.lemmas.List.{append-nil}
use Rattle.std.proofs.lemmas.List.Sums.{sum_by-append, sum_by-cons}
use Rattle.tn_base.specs.declared.message.Letter.{Letter}
use Rattle.tn_base.specs.declared.op.Op.{Op}
use Rattle.tn_base.specs.declared.op.Op.TheVariants as op
use Rattle.tn_letters.specs.declared.steps.BagStep.{BagStep}
use Rattle.tn_letters.specs.declared.steps.BagStep.TheVariants as bag
use Rattle.tn_letters.specs.Conserved.{EveryRunConserves, EveryRunHands, EveryRunHandsTheHost, handed_to, leaving, sending, sent_in, sent_with, taken_by_host}
use Rattle.tn_keys.specs.Copies.{only_if}
use Rattle.tn_letters.specs.Letters.{Takes}
use Rattle.tn_letters.specs.Machine.{BagRun, Happens, ended_by, own_step, sent_by, with_own_step}
use Rattle.tn_letters.specs.State.{BagState, Program}

-- how many letters pass a test
abbrev pub passing : (Letter → Bool) → List Letter → ℕ
passing test ls = sum_by (λ (x : Letter). cond (test x) 1 0) ls

ended_flight : (o : Op) (a : ℕ) (s : BagState) → (ended_by o a s).flight ≡ s.flight
ended_flight op.None a s = refl
ended_flight (op.Send to bytes) a s = refl
ended_flight op.Hand a s = refl
ended_flight (op.Free slot) a s = refl
ended_flight (op.Idle vote) a s = refl
ended_flight (op.Kill value) a s = refl
ended_flight (op.Trap why) a s = refl

sent_flight : (m : Program) (a number : ℕ) (o : Op) (s new : BagState) → sent_by m a number o s ≡ Some new → new.flight ≡ sent_with m a number o ++ s.flight
sent_flight m a number (op.Send to bytes) s new e = sym (ap (λ (x : Option BagState). (unwrap_or x new).flight) e)
sent_flight m a number op.None s new e = cc e
sent_flight m a number op.Hand s new e = cc e
sent_flight m a number (op.Free slot) s new e = cc e
sent_flight m a number (op.Idle vote) s new e = cc e
sent_flight m a number (op.Kill value) s new e = cc e
sent_flight m a number (op.Trap why) s new e = cc e

abbrev flight_of : BagState → List Letter
flight_of s = s.flight

-- one letter leaves
one_leaves : (test : Letter → Bool) (l : Letter) (old rest new : List Letter) → Takes old l rest → new ≡ rest → passing test old + passing test [] ≡ passing test new + passing test (l ∷ [])
one_leaves test l old rest new takes e =
    let w : Letter → ℕ = λ x. cond (test x) 1 0 in
    let a : passing test old ≡ passing test (l ∷ rest) = takes.each test in
    let b = sum_by-cons w l rest in
    let c = sum_by-cons w l [] in
    let d : passing test new ≡ passing test rest = ap (passing test) e in
    omega arith

none_leaves : (test : Letter → Bool) (old new : List Letter) → new ≡ old → passing test old + passing test [] ≡ passing test new + passing test []
none_leaves test old new e = let d : passing test new ≡ passing test old = ap (passing test) e in omega arith

pub step_conserves : (m : Program) (step : BagStep) (old new : BagState) (test : Letter → Bool) → Happens m step old new → passing test old.flight + passing test (sending m step old) ≡ passing test new.flight + passing test (leaving step)
step_conserves m (bag.Private a seen) old new test h =
    none_leaves test old.flight new.flight (ap flight_of h.2 ∙ ended_flight (own_step m a seen old).op a (with_own_step m a seen old))
step_conserves m (bag.Send a seen) old new test h =
    let sent : List Letter = sent_with m a (old.threads a).sends (own_step m a seen old).op in
    let e : new.flight ≡ sent ++ old.flight = sent_flight m a (old.threads a).sends (own_step m a seen old).op (with_own_step m a seen old) new h.1 in
    let d : passing test new.flight ≡ passing test (sent ++ old.flight) = ap (passing test) e in
    let q = sum_by-append (λ (x : Letter). cond (test x) 1 0) sent old.flight in
    omega arith
step_conserves m (bag.Hand a seen l) old new test h = one_leaves test l old.flight h.2.0 new.flight h.2.2 (ap flight_of h.2.3)
step_conserves m (bag.Free a seen slot) old new test h = none_leaves test old.flight new.flight (ap flight_of h.2)
step_conserves m (bag.Idle a seen vote) old new test h = none_leaves test old.flight new.flight (ap flight_of h.2)
step_conserves m bag.Announce old new test h = none_leaves test old.flight new.flight (ap flight_of h.1)
step_conserves m (bag.HostSend l) old new test h =
    let w : Letter → ℕ = λ x. cond (test x) 1 0 in
    let d : passing test new.flight ≡ passing test (l ∷ old.flight) = ap (λ (s : BagState). passing test s.flight) h.4 in
    let b = sum_by-cons w l old.flight in
    let c = sum_by-cons w l [] in
    omega arith
step_conserves m (bag.HostHand l) old new test h = one_leaves test l old.flight h.0 new.flight h.1 (ap flight_of h.3)
step_conserves m (bag.Discard l) old new test h = one_leaves test l old.flight h.0 new.flight h.1 (ap flight_of h.4)

run_conserves : (m : Program) (steps : List BagStep) (start end : BagState) (run : BagRun m start steps end) (test : Letter → Bool) →
    passing test start.flight + passing test (sent_in m start steps end run) ≡ passing test end.flight + passing test (flat_map leaving steps)
run_conserves m [] start end run test = let a : passing test start.flight ≡ passing test end.flight = run.flight.each test in omega arith
run_conserves m (step ∷ steps) start end run test =
    let w : Letter → ℕ = λ x. cond (test x) 1 0 in
    let a : passing test start.flight ≡ passing test run.0.flight = run.2.flight.each test in
    let b = step_conserves m step run.0 run.1 test run.3 in
    let c = run_conserves m steps run.1 end run.4 test in
    let d = sum_by-append w (sending m step run.0) (sent_in m run.1 steps end run.4) in
    let e = sum_by-append w (leaving step) (flat_map leaving steps) in
    omega arith

pub every_run_conserves : EveryRunConserves
every_run_conserves m start end steps run = record {
  each = λ test.
      let w : Letter → ℕ = λ x. cond (test x) 1 0 in
      let a = run_conserves m steps start end run test in
      let b = sum_by-append w start.flight (sent_in m start steps end run) in
      let c = sum_by-append w end.flight (flat_map leaving steps) in
      let all : passing test (start.flight ++ sent_in m start steps end run) ≡ passing test (end.flight ++ flat_map leaving steps) = omega arith in
      all;
}

-- ---- what threads got

ended_got : (o : Op) (b : ℕ) (s : BagState) (a : ℕ) → (ended_by o b s).got a ≡ s.got a
ended_got op.None b s a = refl
ended_got (op.Send to bytes) b s a = refl
ended_got op.Hand b s a = refl
ended_got (op.Free slot) b s a = refl
ended_got (op.Idle vote) b s a = refl
ended_got (op.Kill value) b s a = refl
ended_got (op.Trap why) b s a = refl

sent_got : (m : Program) (b number : ℕ) (o : Op) (s new : BagState) (a : ℕ) → sent_by m b number o s ≡ Some new → new.got a ≡ s.got a
sent_got m b number (op.Send to bytes) s new a e = sym (ap (λ (x : Option BagState). (unwrap_or x new).got a) e)
sent_got m b number op.None s new a e = cc e
sent_got m b number op.Hand s new a e = cc e
sent_got m b number (op.Free slot) s new a e = cc e
sent_got m b number (op.Idle vote) s new a e = cc e
sent_got m b number (op.Kill value) s new a e = cc e
sent_got m b number (op.Trap why) s new a e = cc e

one_got : (got : ℕ → List Letter) (a b : ℕ) (l : Letter) (same : Bool) → (a == b) ≡ same → cond same (got b ++ l ∷ []) (got a) ≡ got a ++ only_if same l
one_got got a b l true e = ap (λ c. got c ++ l ∷ []) (sym (eqb-true a b e))
one_got got a b l false e = sym (append-nil (got a))

none_got : (old new : List Letter) → new ≡ old → new ≡ old ++ []
none_got old new e = e ∙ sym (append-nil old)

step_hands : (m : Program) (step : BagStep) (old new : BagState) (a : ℕ) → Happens m step old new → new.got a ≡ old.got a ++ handed_to a step
step_hands m (bag.Private b seen) old new a h = none_got (old.got a) (new.got a) (ap (λ (s : BagState). s.got a) h.2 ∙ ended_got (own_step m b seen old).op b (with_own_step m b seen old) a)
step_hands m (bag.Send b seen) old new a h = none_got (old.got a) (new.got a) (sent_got m b (old.threads b).sends (own_step m b seen old).op (with_own_step m b seen old) new a h.1)
step_hands m (bag.Hand b seen l) old new a h = ap (λ (s : BagState). s.got a) h.2.3 ∙ one_got old.got a b l (a == b) refl
step_hands m (bag.Free b seen slot) old new a h = none_got (old.got a) (new.got a) (ap (λ (s : BagState). s.got a) h.2)
step_hands m (bag.Idle b seen vote) old new a h = none_got (old.got a) (new.got a) (ap (λ (s : BagState). s.got a) h.2)
step_hands m bag.Announce old new a h = none_got (old.got a) (new.got a) (ap (λ (s : BagState). s.got a) h.1)
step_hands m (bag.HostSend l) old new a h = none_got (old.got a) (new.got a) (ap (λ (s : BagState). s.got a) h.4)
step_hands m (bag.HostHand l) old new a h = none_got (old.got a) (new.got a) (ap (λ (s : BagState). s.got a) h.3)
step_hands m (bag.Discard l) old new a h = none_got (old.got a) (new.got a) (ap (λ (s : BagState). s.got a) h.4)

pub every_run_hands : EveryRunHands
every_run_hands m start end [] a there run = sym (run.got a there) ∙ sym (append-nil (start.got a))
every_run_hands m start end (step ∷ steps) a there run =
    every_run_hands m run.1 end steps a there run.4
    ∙ (ap (λ (ls : List Letter). ls ++ flat_map (handed_to a) steps) (step_hands m step run.0 run.1 a run.3 ∙ ap (λ (ls : List Letter). ls ++ handed_to a step) (sym (run.2.got a there)))
    ∙ append_assoc (start.got a) (handed_to a step) (flat_map (handed_to a) steps))

-- ---- what the host took

ended_host : (o : Op) (b : ℕ) (s : BagState) → (ended_by o b s).host ≡ s.host
ended_host op.None b s = refl
ended_host (op.Send to bytes) b s = refl
ended_host op.Hand b s = refl
ended_host (op.Free slot) b s = refl
ended_host (op.Idle vote) b s = refl
ended_host (op.Kill value) b s = refl
ended_host (op.Trap why) b s = refl

sent_host : (m : Program) (b number : ℕ) (o : Op) (s new : BagState) → sent_by m b number o s ≡ Some new → new.host ≡ s.host
sent_host m b number (op.Send to bytes) s new e = sym (ap (λ (x : Option BagState). (unwrap_or x new).host) e)
sent_host m b number op.None s new e = cc e
sent_host m b number op.Hand s new e = cc e
sent_host m b number (op.Free slot) s new e = cc e
sent_host m b number (op.Idle vote) s new e = cc e
sent_host m b number (op.Kill value) s new e = cc e
sent_host m b number (op.Trap why) s new e = cc e

abbrev host_letters : BagState → List Letter
host_letters s = s.host

step_takes : (m : Program) (step : BagStep) (old new : BagState) → Happens m step old new → new.host ≡ old.host ++ taken_by_host step
step_takes m (bag.Private b seen) old new h = none_got old.host new.host (ap host_letters h.2 ∙ ended_host (own_step m b seen old).op b (with_own_step m b seen old))
step_takes m (bag.Send b seen) old new h = none_got old.host new.host (sent_host m b (old.threads b).sends (own_step m b seen old).op (with_own_step m b seen old) new h.1)
step_takes m (bag.Hand b seen l) old new h = none_got old.host new.host (ap host_letters h.2.3)
step_takes m (bag.Free b seen slot) old new h = none_got old.host new.host (ap host_letters h.2)
step_takes m (bag.Idle b seen vote) old new h = none_got old.host new.host (ap host_letters h.2)
step_takes m bag.Announce old new h = none_got old.host new.host (ap host_letters h.1)
step_takes m (bag.HostSend l) old new h = none_got old.host new.host (ap host_letters h.4)
step_takes m (bag.HostHand l) old new h = ap host_letters h.3
step_takes m (bag.Discard l) old new h = none_got old.host new.host (ap host_letters h.4)

pub every_run_hands_the_host : EveryRunHandsTheHost
every_run_hands_the_host m start end [] run = sym run.host ∙ sym (append-nil start.host)
every_run_hands_the_host m start end (step ∷ steps) run =
    every_run_hands_the_host m run.1 end steps run.4
    ∙ (ap (λ (ls : List Letter). ls ++ flat_map taken_by_host steps) (step_takes m step run.0 run.1 run.3 ∙ ap (λ (ls : List Letter). ls ++ taken_by_host step) (sym run.2.host))
    ∙ append_assoc start.host (taken_by_host step) (flat_map taken_by_host steps))
