-- Bag states with the same threads, which hold the same: what steps make of them.
use Rattle.std.proofs.Common.{ℕ, zero, suc, ◌+◌, ◌<◌, ◌≡◌, ◌==◌, ◌&&◌, ◌∙◌, cond, Bool, true, List, [], ◌∷◌, refl, sym, ap, subst, arith, Option, Some, None}
use Rattle.std.specs.Prelude.{map, option_map, unwrap_or}
use Rattle.std.specs.List.{list_all, range_with_len}
use Rattle.tn_base.specs.declared.message.Letter.{Letter}
use Rattle.tn_base.specs.declared.op.Op.{Op}
use Rattle.tn_base.specs.declared.op.Op.TheVariants as op
use Rattle.tn_base.specs.declared.shape.ShapeNumbers.{ShapeNumbers}
use Rattle.tn_base.specs.Address.{has_thread, thread_at}
use Rattle.tn_base.specs.Shape.{thread_count}
use Rattle.tn_base.proofs.Places.{Orders}
use Rattle.tn_thread.specs.declared.thread.Thread.{Thread}
use Rattle.tn_thread.specs.Sight.{Sight}
use Rattle.tn_thread.specs.Step.{Stepped}
use Rattle.tn_tile.specs.Rows.{told}
use Rattle.tn_tile.specs.Step.{next_step}
use Rattle.tn_tile.specs.Still.{votes_for}
use Rattle.tn_letters.specs.declared.steps.BagStep.{BagStep}
use Rattle.tn_letters.specs.declared.steps.BagStep.TheVariants as bag
use Rattle.tn_letters.specs.declared.steps.Seen.{Seen}
use Rattle.tn_letters.specs.Machine.{BagRun, Happens, announced, answer, ended_by, own_step, sent_by, with_own_step}
use Rattle.tn_letters.specs.Moved.{moved}
use Rattle.tn_letters.specs.State.{BagState, Program, Same, put}

-- the threads of a machine are listed by ascending address
abbrev pub Listed : ShapeNumbers → Type 0
Listed n = Orders (thread_at n) (thread_count n) (has_thread n)

-- what a thread sees that holds these letters
abbrev pub sight_with : Seen → (ℕ → Option Letter) → Sight
sight_with seen held = record {
  can_send = seen.can_send;
  first = seen.first;
  key = seen.key;
  held = λ slot. option_map (λ (l : Letter). l.bytes) (held slot);
}

-- two states have the same threads, which hold the same
pub record Agrees (n : ShapeNumbers) (s t : BagState) : Type 0 where
  pub threads : (a : ℕ) → has_thread n a ≡ true → s.threads a ≡ t.threads a
  pub held : (a : ℕ) → has_thread n a ≡ true → s.held a ≡ t.held a

pub agrees_refl : (n : ShapeNumbers) (s : BagState) → Agrees n s s
agrees_refl n s = record { threads = λ a h. refl; held = λ a h. refl }

pub then : (n : ShapeNumbers) (s t u : BagState) → Agrees n s t → Agrees n t u → Agrees n s u
then n s t u x y = record { threads = λ a h. x.threads a h ∙ y.threads a h; held = λ a h. x.held a h ∙ y.held a h }

pub of_same : (n : ShapeNumbers) (s t : BagState) → Same n s t → Agrees n s t
of_same n s t x = record { threads = λ a h. x.threads a h; held = λ a h i slot. x.held a slot h i }

of_equal : (n : ShapeNumbers) (s t : BagState) → s.threads ≡ t.threads → s.held ≡ t.held → Agrees n s t
of_equal n s t x y = record { threads = λ a h. ap (λ (f : ℕ → Thread). f a) x; held = λ a h. ap (λ (f : ℕ → ℕ → Option Letter). f a) y }

pub own_same : (m : Program) (a : ℕ) (seen : Seen) (s t : BagState) → Agrees m.shape s t → has_thread m.shape a ≡ true → own_step m a seen s ≡ own_step m a seen t
own_same m a seen s t x has = λ i. next_step (m.code a) (sight_with seen (x.held a has i)) (x.threads a has i)

all_same : (p q : ℕ → Bool) (f : ℕ → ℕ) (k len : ℕ) → ((i : ℕ) → i < k + len → p (f i) ≡ q (f i)) → list_all p (map f (range_with_len k len)) ≡ list_all q (map f (range_with_len k len))
all_same p q f k zero e = refl
all_same p q f k (suc len) e =
    let here = e k (omega arith) in
    let rest = all_same p q f (k + 1) len (λ i less. e i (omega arith)) in
    ap (λ b. b && list_all p (map f (range_with_len (k + 1) len))) here ∙ ap (λ b. q (f k) && b) rest

pub answer_same : (n : ShapeNumbers) (s t : BagState) → Listed n → Agrees n s t → answer n s ≡ answer n t
answer_same n s t o x =
    let e = all_same (λ a. votes_for (s.threads a).state) (λ a. votes_for (t.threads a).state) (thread_at n) 0 (thread_count n) (λ i less. ap (λ (u : Thread). votes_for u.state) (x.threads (thread_at n i) (o.there i (omega arith)))) in
    ap (λ b. let v : ℕ = cond b 2 1 in v) e

-- ---- a step keeps agreement

pub put_agrees : {A : Type 0} (f h : ℕ → A) (a b : ℕ) (x y : A) → x ≡ y → f b ≡ h b → put f a x b ≡ put h a y b
put_agrees f h a b x y e i = ap (λ z. put f a z b) e ∙ ap (λ z. cond (b == a) y z) i

own_agrees : (m : Program) (a : ℕ) (seen : Seen) (s t : BagState) → Agrees m.shape s t → has_thread m.shape a ≡ true → Agrees m.shape (with_own_step m a seen s) (with_own_step m a seen t)
own_agrees m a seen s t x has = record {
  threads = λ b h. put_agrees s.threads t.threads a b (own_step m a seen s).thread (own_step m a seen t).thread (ap (λ (r : Stepped). r.thread) (own_same m a seen s t x has)) (x.threads b h);
  held = x.held;
}

ended_agrees : (n : ShapeNumbers) (o : Op) (a : ℕ) (s t : BagState) → Agrees n s t → Agrees n (ended_by o a s) (ended_by o a t)
ended_agrees n op.None a s t x = x
ended_agrees n (op.Send to bytes) a s t x = x
ended_agrees n op.Hand a s t x = x
ended_agrees n (op.Free slot) a s t x = x
ended_agrees n (op.Idle vote) a s t x = x
ended_agrees n (op.Kill value) a s t x = record { threads = x.threads; held = λ b h. put_agrees s.held t.held a b (λ slot. None) (λ slot. None) refl (x.held b h) }
ended_agrees n (op.Trap why) a s t x = x

held_agrees : (n : ShapeNumbers) (a slot : ℕ) (l : Option Letter) (s t : BagState) → Agrees n s t → has_thread n a ≡ true → (b : ℕ) → has_thread n b ≡ true → put s.held a (put (s.held a) slot l) b ≡ put t.held a (put (t.held a) slot l) b
held_agrees n a slot l s t x has b h = put_agrees s.held t.held a b (put (s.held a) slot l) (put (t.held a) slot l) (ap (λ (f : ℕ → Option Letter). put f slot l) (x.held a has)) (x.held b h)

-- the threads of an announcement
told_agrees : (n : ShapeNumbers) (s t : BagState) → Listed n → Agrees n s t → Agrees n (announced n s) (announced n t)
told_agrees n s t o x = record {
  threads = λ a h. ap (λ v. told v (s.threads a)) (answer_same n s t o x) ∙ ap (told (answer n t)) (x.threads a h);
  held = x.held;
}

-- a step is what it moves, but for the flight
pub step_moves : (m : Program) (step : BagStep) (s new : BagState) → Happens m step s new → Agrees m.shape (moved m step s) new
step_moves m (bag.Private a seen) s new h = of_equal m.shape _ new (sym (ap (λ (x : BagState). x.threads) h.2)) (sym (ap (λ (x : BagState). x.held) h.2))
step_moves m (bag.Send a seen) s new h = sent_moves (own_step m a seen s).op h.1 where
  sent_moves : (o : Op) → sent_by m a (s.threads a).sends o (with_own_step m a seen s) ≡ Some new → Agrees m.shape (with_own_step m a seen s) new
  sent_moves op.None e = absurd cc
  sent_moves (op.Send to bytes) e = of_equal m.shape _ new (ap (λ x. (unwrap_or x new).threads) e) (ap (λ x. (unwrap_or x new).held) e)
  sent_moves op.Hand e = absurd cc
  sent_moves (op.Free slot) e = absurd cc
  sent_moves (op.Idle vote) e = absurd cc
  sent_moves (op.Kill value) e = absurd cc
  sent_moves (op.Trap why) e = absurd cc
step_moves m (bag.Hand a seen l) s new h =
    let slot : unwrap_or seen.first 0 ≡ h.2.1.slot = ap (λ o. unwrap_or o 0) h.2.1.first in
    of_equal m.shape _ new (sym (ap (λ (x : BagState). x.threads) h.2.3)) (ap (λ k. put s.held a (put (s.held a) k (Some l))) slot ∙ sym (ap (λ (x : BagState). x.held) h.2.3))
step_moves m (bag.Free a seen slot) s new h = of_equal m.shape _ new (sym (ap (λ (x : BagState). x.threads) h.2)) (sym (ap (λ (x : BagState). x.held) h.2))
step_moves m (bag.Idle a seen vote) s new h = of_equal m.shape _ new (sym (ap (λ (x : BagState). x.threads) h.2)) (sym (ap (λ (x : BagState). x.held) h.2))
step_moves m bag.Announce s new h = of_equal m.shape _ new (sym (ap (λ (x : BagState). x.threads) h.1)) (sym (ap (λ (x : BagState). x.held) h.1))
step_moves m (bag.HostSend l) s new h = of_equal m.shape _ new (sym (ap (λ (x : BagState). x.threads) h.4)) (sym (ap (λ (x : BagState). x.held) h.4))
step_moves m (bag.HostHand l) s new h = of_equal m.shape _ new (sym (ap (λ (x : BagState). x.threads) h.3)) (sym (ap (λ (x : BagState). x.held) h.3))
step_moves m (bag.Discard l) s new h = of_equal m.shape _ new (sym (ap (λ (x : BagState). x.threads) h.4)) (sym (ap (λ (x : BagState). x.held) h.4))

-- what steps move agrees where the states before them do
pub moved_agrees : (m : Program) (step : BagStep) (x s new : BagState) → Listed m.shape → Happens m step s new → Agrees m.shape x s → Agrees m.shape (moved m step x) (moved m step s)
moved_agrees m (bag.Private a seen) x s new o h e =
    let one = ended_agrees m.shape (own_step m a seen x).op a (with_own_step m a seen x) (with_own_step m a seen s) (own_agrees m a seen x s e h.0.there) in
    subst (λ q. Agrees m.shape (ended_by (own_step m a seen x).op a (with_own_step m a seen x)) (ended_by q a (with_own_step m a seen s))) (ap (λ (r : Stepped). r.op) (own_same m a seen x s e h.0.there)) one
moved_agrees m (bag.Send a seen) x s new o h e = own_agrees m a seen x s e h.0.there
moved_agrees m (bag.Hand a seen l) x s new o h e =
    record { threads = (own_agrees m a seen x s e h.0.there).threads; held = held_agrees m.shape a (unwrap_or seen.first 0) (Some l) x s e h.0.there }
moved_agrees m (bag.Free a seen slot) x s new o h e =
    record { threads = (own_agrees m a seen x s e h.0.there).threads; held = held_agrees m.shape a slot None x s e h.0.there }
moved_agrees m (bag.Idle a seen vote) x s new o h e = own_agrees m a seen x s e h.0.there
moved_agrees m bag.Announce x s new o h e = told_agrees m.shape x s o e
moved_agrees m (bag.HostSend l) x s new o h e = e
moved_agrees m (bag.HostHand l) x s new o h e = e
moved_agrees m (bag.Discard l) x s new o h e = e

-- ---- runs

-- the state after steps
abbrev pub all_moved : Program → BagState → List BagStep → BagState
all_moved m s [] = s
all_moved m s (step ∷ steps) = all_moved m (moved m step s) steps

pub run_moves : (m : Program) (steps : List BagStep) (x s end : BagState) → Listed m.shape → Agrees m.shape x s → BagRun m s steps end → Agrees m.shape (all_moved m x steps) end
run_moves m [] x s end o e run = then m.shape x s end e (of_same m.shape s end run)
run_moves m (step ∷ steps) x s end o e run =
    let before = then m.shape x s run.0 e (of_same m.shape s run.0 run.2) in
    let after = then m.shape (moved m step x) (moved m step run.0) run.1 (moved_agrees m step x run.0 run.1 o run.3 before) (step_moves m step run.0 run.1 run.3) in
    run_moves m steps (moved m step x) run.1 end o after run.4
