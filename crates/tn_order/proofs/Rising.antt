-- The sends of each origin have rising numbers.
use Rattle.std.proofs.Common.{ℕ, ◌≡◌, ◌≤◌, ◌<◌, ◌+◌, ◌%◌, ◌^◌, List, [], ◌∷◌, ◌++◌, refl, sym, ◌∙◌, ap, subst, inl, inr, arith, cond, IsTrue, Option, Some, unwrap_or}
use Rattle.std.specs.Prelude.{◌⊎◌}
use Rattle.std.proofs.lemmas.Bool.{cases_eq, cond_both, eq-eqb}
use Rattle.std.proofs.lemmas.Bool.Decides.{nat_tests}
use Rattle.tn_base.specs.declared.message.Dest.{Dest}
use Rattle.tn_base.specs.declared.message.Dest.TheVariants as dest
use Rattle.tn_base.specs.declared.op.Op.{Op}
use Rattle.tn_base.specs.declared.op.Op.TheVariants as op
use Rattle.tn_base.specs.declared.shape.ShapeNumbers.{ShapeNumbers}
use Rattle.tn_base.specs.Address.{has_thread}
use Rattle.tn_thread.specs.declared.thread.Thread.{Thread}
use Rattle.tn_thread.specs.Step.{Stepped, is_idle}
use Rattle.tn_tile.specs.Rows.{told}
use Rattle.tn_letters.specs.declared.steps.BagStep.{BagStep}
use Rattle.tn_letters.specs.declared.steps.BagStep.TheVariants as bag
use Rattle.tn_letters.specs.declared.steps.Seen.{Seen}
use Rattle.tn_letters.specs.Letters.{host_address}
use Rattle.tn_letters.specs.Machine.{BagRun, Happens, MayStep, answer, ended_by, own_step, sent_by, with_own_step}
use Rattle.tn_letters.specs.State.{BagState, Program, put}
use Rattle.tn_letters.proofs.Waiting.{ended_threads, put_beside, sent_threads}
use Rattle.tn_order.specs.Acts.{Act, Sent, Handed, Dropped, AmongActs, NumbersRise, Rises, acts_in, acts_of, sent_with}
use Rattle.tn_order.specs.Numbers.{Counts, IsNoSend}
use Rattle.tn_order.proofs.Counted.{Each, Enough, step_enough}
use Rattle.tn_order.proofs.Numbers.{next_counts}

-- ---- steps of threads do not become fewer

own_here : (m : Program) (b : ℕ) (seen : Seen) (s : BagState) (a : ℕ) → b ≡ a → put s.threads b (own_step m b seen s).thread a ≡ (own_step m b seen s).thread
own_here m b seen s a e = ap (λ c. cond c (own_step m b seen s).thread (s.threads a)) (eq-eqb a b (sym e))

own_counts : (m : Program) (b : ℕ) (seen : Seen) (s : BagState) → Counts (s.threads b) (own_step m b seen s)
own_counts m b seen s = next_counts (m.code b) _ (s.threads b)

-- the threads after a step: one thread made its own step, the idle threads are told, or no thread changes
pub record Own (m : Program) (b : ℕ) (seen : Seen) (s t : BagState) : Type 0 where
  pub may : MayStep m s b seen
  pub is : t.threads ≡ put s.threads b (own_step m b seen s).thread
  pub host : t.host_sends ≡ s.host_sends

ended_host : (o : Op) (b : ℕ) (s : BagState) → (ended_by o b s).host_sends ≡ s.host_sends
ended_host op.None b s = refl
ended_host (op.Send to bytes) b s = refl
ended_host op.Hand b s = refl
ended_host (op.Free slot) b s = refl
ended_host (op.Idle vote) b s = refl
ended_host (op.Kill value) b s = refl
ended_host (op.Trap why) b s = refl

sent_host : (m : Program) (b number : ℕ) (o : Op) (s t : BagState) → sent_by m b number o s ≡ Some t → t.host_sends ≡ s.host_sends
sent_host m b number (op.Send to bytes) s t e = sym (ap (λ (o : Option BagState). (unwrap_or o t).host_sends) e)
sent_host m b number op.None s t e = cc e
sent_host m b number op.Hand s t e = cc e
sent_host m b number (op.Free slot) s t e = cc e
sent_host m b number (op.Idle vote) s t e = cc e
sent_host m b number (op.Kill value) s t e = cc e
sent_host m b number (op.Trap why) s t e = cc e

pub data Kinds (m : Program) (s t : BagState) : Type 0 where
  Stepping : (b : ℕ) (seen : Seen) (is : Own m b seen s t) → Kinds m s t
  Telling : (is : t.threads ≡ (λ a. told (answer m.shape s) (s.threads a))) (host : t.host_sends ≡ s.host_sends) → Kinds m s t
  Staying : (is : t.threads ≡ s.threads) (host : s.host_sends ≤ t.host_sends) → Kinds m s t

pub kinds : (m : Program) (x : BagStep) (s t : BagState) → Happens m x s t → Kinds m s t
kinds m (bag.Private b seen) s t h = Stepping b seen (record {
  may = h.0;
  is = ap (λ (r : BagState). r.threads) h.2 ∙ ended_threads (own_step m b seen s).op b (with_own_step m b seen s);
  host = ap (λ (r : BagState). r.host_sends) h.2 ∙ ended_host (own_step m b seen s).op b (with_own_step m b seen s);
})
kinds m (bag.Send b seen) s t h = Stepping b seen (record {
  may = h.0;
  is = sent_threads m b (s.threads b).sends (own_step m b seen s).op (with_own_step m b seen s) t h.1;
  host = sent_host m b (s.threads b).sends (own_step m b seen s).op (with_own_step m b seen s) t h.1;
})
kinds m (bag.Hand b seen l) s t h = Stepping b seen (record { may = h.0; is = ap (λ (r : BagState). r.threads) h.2.3; host = ap (λ (r : BagState). r.host_sends) h.2.3 })
kinds m (bag.Free b seen slot) s t h = Stepping b seen (record { may = h.0; is = ap (λ (r : BagState). r.threads) h.2; host = ap (λ (r : BagState). r.host_sends) h.2 })
kinds m (bag.Idle b seen vote) s t h = Stepping b seen (record { may = h.0; is = ap (λ (r : BagState). r.threads) h.2; host = ap (λ (r : BagState). r.host_sends) h.2 })
kinds m bag.Announce s t h = Telling (ap (λ (r : BagState). r.threads) h.1) (ap (λ (r : BagState). r.host_sends) h.1)
kinds m (bag.HostSend l) s t h = Staying (ap (λ (r : BagState). r.threads) h.4) (let e = ap (λ (r : BagState). r.host_sends) h.4 in omega arith)
kinds m (bag.HostHand l) s t h = Staying (ap (λ (r : BagState). r.threads) h.3) (let e = ap (λ (r : BagState). r.host_sends) h.3 in omega arith)
kinds m (bag.Discard l) s t h = Staying (ap (λ (r : BagState). r.threads) h.4) (let e = ap (λ (r : BagState). r.host_sends) h.4 in omega arith)

-- a thread counted no fewer steps and sends, if its steps stay below 2^32
pub record Grows (old new : Thread) : Type 0 where
  pub steps : old.steps ≤ new.steps
  pub sends : new.steps < 2 ^ 32 → old.sends ≤ new.sends

grows_counts : (t : Thread) (r : Stepped) → Enough t → Counts t r → Grows t r.thread
grows_counts t r e (inl c) = let a = c.0 in let b = c.1 in record { steps = b; sends = λ l. omega arith }
grows_counts t r e (inr c) = let a = c.0 in let b = c.1 in record { steps = omega arith; sends = λ l. omega arith }

grows_same : (t u : Thread) → u ≡ t → Grows t u
grows_same t u e = let a = ap (λ (x : Thread). x.steps) e in let b = ap (λ (x : Thread). x.sends) e in record { steps = omega arith; sends = λ l. omega arith }

grows_told : (value : ℕ) (t : Thread) → Grows t (told value t)
grows_told value t = cond_both (is_idle t.state) _ _ (λ (u : Thread). Grows t u) (λ e. record { steps = omega arith; sends = λ l. omega arith }) (λ e. record { steps = omega arith; sends = λ l. omega arith })

pub step_grows : (m : Program) (s t : BagState) (a : ℕ) → Kinds m s t → Each m.shape s.threads → Grows (s.threads a) (t.threads a)
step_grows m s t a (Stepping b seen o) each =
    let is = ap (λ (f : ℕ → Thread). f a) o.is in
    elim (cases_eq b a) [
      | inl e ↦ subst (λ (x : Thread). Grows (s.threads a) x) (sym (is ∙ own_here m b seen s a e)) (subst (λ i. Grows (s.threads i) (own_step m b seen s).thread) e (grows_counts (s.threads b) (own_step m b seen s) (each b o.may.there) (own_counts m b seen s)))
      | inr ne ↦ grows_same (s.threads a) (t.threads a) (is ∙ put_beside s.threads b (own_step m b seen s).thread a ne)
    ]
step_grows m s t a (Telling is host) each = subst (λ (x : Thread). Grows (s.threads a) x) (sym (ap (λ (f : ℕ → Thread). f a) is)) (grows_told (answer m.shape s) (s.threads a))
step_grows m s t a (Staying is host) each = grows_same (s.threads a) (t.threads a) (ap (λ (f : ℕ → Thread). f a) is)

pub step_host : (m : Program) (s t : BagState) → Kinds m s t → s.host_sends ≤ t.host_sends
step_host m s t (Stepping b seen o) = let e = o.host in omega arith
step_host m s t (Telling is host) = omega arith
step_host m s t (Staying is host) = host

pub each_same : (n : ShapeNumbers) (f g : ℕ → Thread) → ((a : ℕ) → IsTrue (has_thread n a) → f a ≡ g a) → Each n f → Each n g
each_same n f g same each a there = subst (λ (t : Thread). Enough t) (same a there) (each a there)

-- along a run a thread's steps do not become fewer
run_steps : (m : Program) (steps : List BagStep) (s end : BagState) (a : ℕ) → IsTrue (has_thread m.shape a) → BagRun m s steps end → Each m.shape s.threads → (s.threads a).steps ≤ (end.threads a).steps
run_steps m [] s end a there run each = let e = ap (λ (t : Thread). t.steps) (run.threads a there) in omega arith
run_steps m (x ∷ xs) s end a there run each =
    let before = each_same m.shape s.threads run.0.threads run.2.threads each in
    let same = ap (λ (t : Thread). t.steps) (run.2.threads a there) in
    let one = (step_grows m run.0 run.1 a (kinds m x run.0 run.1 run.3) before).steps in
    let rest = run_steps m xs run.1 end a there run.4 (step_enough m x run.0 run.1 run.3 before) in
    omega arith

-- ---- numbers

-- each send so far has a number below the count of its origin
abbrev Below : ShapeNumbers → List Act → BagState → Type 0
Below n past s = (a k : ℕ) (d : Dest) → AmongActs (Sent a k d) past → ((a ≡ host_address) × (k < s.host_sends)) ⊎ (IsTrue (has_thread n a) × (k < (s.threads a).sends))

abbrev pub Few : ShapeNumbers → BagState → Type 0
Few n s = (a : ℕ) → IsTrue (has_thread n a) → (s.threads a).steps < 2 ^ 32

below_later : (m : Program) (past : List Act) (s t : BagState) → Kinds m s t → Each m.shape s.threads → Few m.shape t → Below m.shape past s → Below m.shape past t
below_later m past s t h each few below a k d i = elim (below a k d i) [
  | inl e ↦ (let g = step_host m s t h in let l = e.1 in inl (e.0, omega arith))
  | inr e ↦ (let g = (step_grows m s t a h each).sends (few a e.0) in let l = e.1 in inr (e.0, omega arith))
]

pub host_no_thread : {A : Type 0} (n : ShapeNumbers) (a : ℕ) → IsTrue (has_thread n a) → a ≡ host_address → A
host_no_thread n a h e = let low : a < 16384 = grind (arith, nat_tests) in absurd (omega arith)

same_number : (a b k l : ℕ) (d e : Dest) → Sent a k d ≡ Sent b l e → (a ≡ b) × (k ≡ l)
same_number a b k l d e h = (cc h, cc h)

record After (n : ShapeNumbers) (past : List Act) (x : Act) (t : BagState) : Type 0 where
  pub rises : Rises past x
  pub below : Below n (x ∷ past) t

-- a thread sends
thread_sends : (m : Program) (past : List Act) (b : ℕ) (seen : Seen) (to : Dest) (s t : BagState) → Own m b seen s t → Each m.shape s.threads → Few m.shape t → Below m.shape past s →
    (own_step m b seen s).thread.sends ≡ ((s.threads b).sends + 1) % 2 ^ 32 → (own_step m b seen s).thread.steps ≡ (s.threads b).steps + 1 → After m.shape past (Sent b (s.threads b).sends to) t
thread_sends m past b seen to s t o each few below sends steps =
    let is : t.threads b ≡ (own_step m b seen s).thread = ap (λ (f : ℕ → Thread). f b) o.is ∙ own_here m b seen s b refl in
    let now = ap (λ (x : Thread). x.sends) is in
    let made = ap (λ (x : Thread). x.steps) is in
    let low = few b o.may.there in
    let enough : (s.threads b).sends ≤ (s.threads b).steps = each b o.may.there in
    let later = below_later m past s t (Stepping b seen o) each few below in
    record {
      rises = λ k d i. elim (below b k d i) [
        | inl e ↦ host_no_thread m.shape b o.may.there e.0
        | inr e ↦ e.1
      ];
      below = λ a k d i. elim i [
        | inr j ↦ later a k d j
        | inl e ↦ (let same = same_number a b k (s.threads b).sends d to e in let at = same.0 in let num = same.1 in
            inr (subst (λ x. IsTrue (has_thread m.shape x)) (sym at) o.may.there, subst (λ x. k < (t.threads x).sends) (sym at) (omega arith)))
      ];
    }

-- of one step
record Stepped_by (n : ShapeNumbers) (past acts : List Act) (t : BagState) (rest : List Act) : Type 0 where
  pub join : ((now : List Act) → Below n now t → NumbersRise now rest) → NumbersRise past (acts ++ rest)

none_done : (n : ShapeNumbers) (past rest : List Act) (t : BagState) → Below n past t → Stepped_by n past [] t rest
none_done n past rest t below = record { join = λ k. k past below }

one_done : (n : ShapeNumbers) (past rest : List Act) (x : Act) (t : BagState) → After n past x t → Stepped_by n past (x ∷ []) t rest
one_done n past rest x t a = record { join = λ k. (a.rises, k (x ∷ past) a.below) }

ended_below : (n : ShapeNumbers) (past : List Act) (x : Act) (t : BagState) → ((a k : ℕ) (d : Dest) → Sent a k d ≡ x → ⊥) → Rises past x → Below n past t → After n past x t
ended_below n past x t other rises below = record { rises = rises; below = λ a k d i. elim i [ inl e ↦ absurd (other a k d e) | inr j ↦ below a k d j ] }

no_handed : (s k r a l : ℕ) (d : Dest) → Sent a l d ≡ Handed s k r → ⊥
no_handed s k r a l d e = cc e

no_dropped : (s k r a l : ℕ) (d : Dest) → Sent a l d ≡ Dropped s k r → ⊥
no_dropped s k r a l d e = cc e

-- what a Send step asks for is a send
sends_by : (m : Program) (past rest : List Act) (b : ℕ) (seen : Seen) (o : Op) (s t : BagState) → (own_step m b seen s).op ≡ o → sent_by m b (s.threads b).sends o (with_own_step m b seen s) ≡ Some t → Own m b seen s t → Each m.shape s.threads → Few m.shape t → Below m.shape past s →
    Counts (s.threads b) (own_step m b seen s) → Stepped_by m.shape past (sent_with b (s.threads b).sends o) t rest
sends_by m past rest b seen (op.Send to bytes) s t is e own each few below (inr c) = one_done m.shape past rest (Sent b (s.threads b).sends to) t (thread_sends m past b seen to s t own each few below c.0 c.1)
sends_by m past rest b seen (op.Send to bytes) s t is e own each few below (inl c) = absurd (subst IsNoSend is c.2)
sends_by m past rest b seen op.None s t is e own each few below c = cc e
sends_by m past rest b seen op.Hand s t is e own each few below c = cc e
sends_by m past rest b seen (op.Free slot) s t is e own each few below c = cc e
sends_by m past rest b seen (op.Idle vote) s t is e own each few below c = cc e
sends_by m past rest b seen (op.Kill value) s t is e own each few below c = cc e
sends_by m past rest b seen (op.Trap why) s t is e own each few below c = cc e

step_rises : (m : Program) (past rest : List Act) (x : BagStep) (s t : BagState) → Happens m x s t → Each m.shape s.threads → Few m.shape t → Below m.shape past s → Stepped_by m.shape past (acts_of m x s) t rest
step_rises m past rest (bag.Private b seen) s t h each few below = none_done m.shape past rest t (below_later m past s t (kinds m (bag.Private b seen) s t h) each few below)
step_rises m past rest (bag.Send b seen) s t h each few below =
    sends_by m past rest b seen (own_step m b seen s).op s t refl h.1 (record {
      may = h.0;
      is = sent_threads m b (s.threads b).sends (own_step m b seen s).op (with_own_step m b seen s) t h.1;
      host = sent_host m b (s.threads b).sends (own_step m b seen s).op (with_own_step m b seen s) t h.1;
    }) each few below (own_counts m b seen s)
step_rises m past rest (bag.Hand b seen l) s t h each few below =
    one_done m.shape past rest _ t (ended_below m.shape past (Handed l.origin l.number l.receiver) t (no_handed l.origin l.number l.receiver) tt (below_later m past s t (kinds m (bag.Hand b seen l) s t h) each few below))
step_rises m past rest (bag.Free b seen slot) s t h each few below = none_done m.shape past rest t (below_later m past s t (kinds m (bag.Free b seen slot) s t h) each few below)
step_rises m past rest (bag.Idle b seen vote) s t h each few below = none_done m.shape past rest t (below_later m past s t (kinds m (bag.Idle b seen vote) s t h) each few below)
step_rises m past rest bag.Announce s t h each few below = none_done m.shape past rest t (below_later m past s t (kinds m bag.Announce s t h) each few below)
step_rises m past rest (bag.HostSend l) s t h each few below =
    let later = below_later m past s t (kinds m (bag.HostSend l) s t h) each few below in
    let count = ap (λ (r : BagState). r.host_sends) h.4 in
    let number = h.3 in
    one_done m.shape past rest (Sent l.origin l.number (dest.Thread (record { 0 = l.receiver }))) t (record {
      rises = λ k d i. elim (below l.origin k d i) [
        | inl e ↦ (let g = e.1 in omega arith)
        | inr e ↦ host_no_thread m.shape l.origin e.0 h.2
      ];
      below = λ a k d i. elim i [
        | inr j ↦ later a k d j
        | inl e ↦ (let same = same_number a l.origin k l.number d (dest.Thread (record { 0 = l.receiver })) e in let num = same.1 in inl (same.0 ∙ h.2, omega arith))
      ];
    })
step_rises m past rest (bag.HostHand l) s t h each few below =
    one_done m.shape past rest _ t (ended_below m.shape past (Handed l.origin l.number l.receiver) t (no_handed l.origin l.number l.receiver) tt (below_later m past s t (kinds m (bag.HostHand l) s t h) each few below))
step_rises m past rest (bag.Discard l) s t h each few below =
    one_done m.shape past rest _ t (ended_below m.shape past (Dropped l.origin l.number l.receiver) t (no_dropped l.origin l.number l.receiver) tt (below_later m past s t (kinds m (bag.Discard l) s t h) each few below))

same_below : (n : ShapeNumbers) (past : List Act) (s t : BagState) → s.host_sends ≡ t.host_sends → ((a : ℕ) → IsTrue (has_thread n a) → s.threads a ≡ t.threads a) → Below n past s → Below n past t
same_below n past s t host threads below a k d i = elim (below a k d i) [
  | inl e ↦ (let l = e.1 in inl (e.0, omega arith))
  | inr e ↦ (let l = e.1 in let same = ap (λ (x : Thread). x.sends) (threads a e.0) in inr (e.0, omega arith))
]

pub run_rises : (m : Program) (steps : List BagStep) (past : List Act) (s end : BagState) (run : BagRun m s steps end) → Each m.shape s.threads → Few m.shape end → Below m.shape past s → NumbersRise past (acts_in m s steps end run)
run_rises m [] past s end run each few below = tt
run_rises m (x ∷ xs) past s end run each few below =
    let before = each_same m.shape s.threads run.0.threads run.2.threads each in
    let behind = step_enough m x run.0 run.1 run.3 before in
    let few_now : Few m.shape run.1 = λ a there. let l = run_steps m xs run.1 end a there run.4 behind in let g = few a there in omega arith in
    (step_rises m past (acts_in m run.1 xs end run.4) x run.0 run.1 run.3 before few_now (same_below m.shape past s run.0 run.2.host_sends run.2.threads below)).join
    (λ now b. run_rises m xs now run.1 end run.4 behind few b)

-- along a run a thread's sends do not become fewer, if its steps stay below 2^32, and neither do those of the host
pub run_sends : (m : Program) (steps : List BagStep) (s end : BagState) (a : ℕ) → IsTrue (has_thread m.shape a) → BagRun m s steps end → Each m.shape s.threads → Few m.shape end → (s.threads a).sends ≤ (end.threads a).sends
run_sends m [] s end a there run each few = let e = ap (λ (t : Thread). t.sends) (run.threads a there) in omega arith
run_sends m (x ∷ xs) s end a there run each few =
    let before = each_same m.shape s.threads run.0.threads run.2.threads each in
    let behind = step_enough m x run.0 run.1 run.3 before in
    let same = ap (λ (t : Thread). t.sends) (run.2.threads a there) in
    let low = run_steps m xs run.1 end a there run.4 behind in
    let top = few a there in
    let one = (step_grows m run.0 run.1 a (kinds m x run.0 run.1 run.3) before).sends (omega arith) in
    let rest = run_sends m xs run.1 end a there run.4 behind few in
    omega arith

pub run_host : (m : Program) (steps : List BagStep) (s end : BagState) → BagRun m s steps end → s.host_sends ≤ end.host_sends
run_host m [] s end run = let e = run.host_sends in omega arith
run_host m (x ∷ xs) s end run =
    let same = run.2.host_sends in
    let one = step_host m run.0 run.1 (kinds m x run.0 run.1 run.3) in
    let rest = run_host m xs run.1 end run.4 in
    omega arith
