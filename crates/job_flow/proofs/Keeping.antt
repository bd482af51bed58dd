-- What each deed of a tile of a graph's job keeps: a thread that waits, waits for room to send, and a dead thread has no letters.
use Rattle.std.proofs.Common.{ℕ, zero, suc, ◌≡◌, ◌≤◌, ◌<◌, ◌+◌, ◌^◌, ◌==◌, Bool, true, false, cond, refl, sym, ap, ◌∙◌, subst, arith, List, [], ◌∷◌, length, get_or, map, set, inl, inr, length-set, Option, Some, None}
use Rattle.std.specs.Int.{bit_at, bit_not, w64}
use Rattle.std.specs.List.{AllByRecursion}
use Rattle.std.proofs.Math.Nat.{pow-le-pow_right}
use Rattle.std.proofs.lemmas.Bool.{and_parts, cases_eq}
use Rattle.std.proofs.lemmas.List.{get_or-map, get_or-set_same, length-map}
use Rattle.std.proofs.lemmas.Nat.Bits.{bit_at_and, bit_at_not}
use Rattle.rv_isa.specs.declared.instr.Instr.{Instr}
use Rattle.tn_base.specs.declared.message.Packet.{Packet}
use Rattle.tn_base.specs.declared.op.Op.{Op}
use Rattle.tn_base.specs.declared.op.Op.TheVariants as op
use Rattle.tn_base.specs.declared.port.Port.{Port}
use Rattle.tn_base.specs.declared.port.Port.TheVariants as port
use Rattle.tn_base.specs.Address.{place_in_tile}
use Rattle.tn_base.specs.Ports.{tile_port}
use Rattle.tn_node.specs.Deed.{Deed}
use Rattle.tn_node.specs.Deed as deed
use Rattle.tn_node.specs.NodeRows.{give_row, waits}
use Rattle.tn_rows.proofs.Meeting.{mapped}
use Rattle.tn_slots.specs.Pool.{first_free, put_at, queue_at}
use Rattle.tn_slots.specs.PoolModel.{PoolModel}
use Rattle.tn_slots.proofs.Owed.{appended_no}
use Rattle.tn_thread.specs.declared.state.ThreadState.{ThreadState}
use Rattle.tn_thread.specs.declared.state.ThreadState.TheVariants as state
use Rattle.tn_thread.specs.declared.thread.Thread.{Thread}
use Rattle.tn_thread.specs.Step.{answered, is_idle, runnable}
use Rattle.tn_tile.specs.declared.state.TileState.{TileState}
use Rattle.tn_tile.specs.Receivers.{alive_of, dead_in, is_dead, receivers}
use Rattle.tn_tile.specs.Rows.{delivered_from, passed_by, received, released, sent_on, stored, stored_at, tile_deed, told, with_node}
use Rattle.tn_tile.specs.Step.{acted, can_step, no_thread, pending_at, sight_at, step_at_place, stepped, steps_of, thread_at, with_thread}
use Rattle.tn_tile.specs.TileView.{TilePlan}
use Rattle.tn_tile.proofs.Dead.{dead_at, dead_below, dead_bit}
use Rattle.tn_tile.proofs.Deeds.{accept_deed, confirm_deed, deliver_deed, deliver_tests, go_deed, release_deed, report_deed}
use Rattle.tn_tile.proofs.Elsewhere.{stepped_other}
use Rattle.tn_tile.proofs.Ends.{kills, next_ends}
use Rattle.tn_tile.proofs.Ends as ends
use Rattle.tn_tile.proofs.Known.{came_by}
use Rattle.tn_tile.proofs.Steps.{taken}
use Rattle.tn_tile.proofs.Turns.{turn_tests}
use Rattle.job_flow.proofs.Waiting.{Waits, next_waits}

-- ---- lists

all_set : {X : Type 0} (P : X → Type 0) (xs : List X) (i : ℕ) (x : X) → AllByRecursion P xs → P x → AllByRecursion P (set xs i x)
all_set P [] i x a p = tt
all_set P (y ∷ ys) zero x a p = (p, a.1)
all_set P (y ∷ ys) (suc i) x a p = (a.0, all_set P ys i x a.1 p)

all_mapped : {X : Type 0} (P : X → Type 0) (f : X → X) (xs : List X) → ((x : X) → P x → P (f x)) → AllByRecursion P xs → AllByRecursion P (map f xs)
all_mapped P f [] each all = tt
all_mapped P f (x ∷ xs) each all = (each x all.0, all_mapped P f xs each all.1)

-- a thread that can make a step is one of the list
runs_there : (P : Thread → Type 0) (fuel k : ℕ) (s : TileState) → AllByRecursion P s.threads → can_step fuel k s ≡ true → P (thread_at s k)
runs_there P fuel k s all can = by s.threads k all (and_parts _ _ can).0 where
  by : (threads : List Thread) (j : ℕ) → AllByRecursion P threads → runnable (sight_at s k) (get_or threads j no_thread).state ≡ true → P (get_or threads j no_thread)
  by [] j a runs = cc runs
  by (t ∷ ts) zero a runs = a.0
  by (t ∷ ts) (suc j) a runs = by ts j a.1 runs

any_default : {X : Type 0} (xs : List X) (k : ℕ) (d e : X) → k < length xs → get_or xs k d ≡ get_or xs k e
any_default [] k d e h = absurd (omega arith)
any_default (x ∷ xs) zero d e h = refl
any_default (x ∷ xs) (suc k) d e h = any_default xs k d e (omega arith)

-- ---- dead threads

-- a thread in this state has no letters in this queue, if the thread is dead
abbrev pub EmptyIfDead : ThreadState → List ℕ → Type 0
EmptyIfDead state.Run queue = Unit {0}
EmptyIfDead (state.Wait waits) queue = Unit {0}
EmptyIfDead (state.Idle vote) queue = Unit {0}
EmptyIfDead (state.Answered value) queue = Unit {0}
EmptyIfDead (state.Dead value) queue = queue ≡ []
EmptyIfDead (state.Trapped why) queue = Unit {0}

pub alive_any : (q : ThreadState) (queue : List ℕ) → is_dead q ≡ false → EmptyIfDead q queue
alive_any state.Run queue e = tt
alive_any (state.Wait waits) queue e = tt
alive_any (state.Idle vote) queue e = tt
alive_any (state.Answered value) queue e = tt
alive_any (state.Dead value) queue e = cc e
alive_any (state.Trapped why) queue e = tt

empty_any : (q : ThreadState) (queue : List ℕ) → queue ≡ [] → EmptyIfDead q queue
empty_any state.Run queue e = tt
empty_any (state.Wait waits) queue e = tt
empty_any (state.Idle vote) queue e = tt
empty_any (state.Answered value) queue e = tt
empty_any (state.Dead value) queue e = e
empty_any (state.Trapped why) queue e = tt

same_queue : (q : ThreadState) (old new : List ℕ) → (is_dead q ≡ true → new ≡ old) → EmptyIfDead q old → EmptyIfDead q new
same_queue state.Run old new same e = tt
same_queue (state.Wait waits) old new same e = tt
same_queue (state.Idle vote) old new same e = tt
same_queue (state.Answered value) old new same e = tt
same_queue (state.Dead value) old new same e = same refl ∙ e
same_queue (state.Trapped why) old new same e = tt

abbrev DeadAt : ℕ → TileState → Type 0
DeadAt k s = EmptyIfDead (thread_at s k).state (queue_at s.pool k)

-- what holds of each tile of a graph's job
pub record TileKeeps (s : TileState) : Type 0 where
  pub threads : AllByRecursion Waits s.threads
  pub dead : (k : ℕ) → k < length s.threads → DeadAt k s

-- ---- a step

threads_acted : (k : ℕ) (t : Thread) (o : Op) (s : TileState) → (acted k t o s).threads ≡ s.threads
threads_acted k t op.None s = refl
threads_acted k t (op.Send to bytes) s = refl
threads_acted k t op.Hand s = refl
threads_acted k t (op.Free slot) s = refl
threads_acted k t (op.Idle vote) s = refl
threads_acted k t (op.Kill value) s = refl
threads_acted k t (op.Trap why) s = refl

threads_stepped : (code : List (Option Instr)) (k : ℕ) (s : TileState) → (stepped code k s).threads ≡ set s.threads k (step_at_place code k s).thread
threads_stepped code k s =
    let made = step_at_place code k s in
    threads_acted k (thread_at s k) made.op (with_thread k made.thread s)

emptied : (qs : List (List ℕ)) (k : ℕ) → get_or (set qs k []) k [] ≡ []
emptied [] k = refl
emptied (q ∷ qs) zero = refl
emptied (q ∷ qs) (suc k) = emptied qs k

own_dead : (k : ℕ) (t : Thread) (o : Op) (s : TileState) (q : ThreadState) → is_dead q ≡ kills o → EmptyIfDead q (queue_at (acted k t o s).pool k)
own_dead k t op.None s q e = alive_any q _ e
own_dead k t (op.Send to bytes) s q e = alive_any q _ e
own_dead k t op.Hand s q e = alive_any q _ e
own_dead k t (op.Free slot) s q e = alive_any q _ e
own_dead k t (op.Idle vote) s q e = alive_any q _ e
own_dead k t (op.Kill value) s q e = empty_any q _ (emptied s.pool.queues k)
own_dead k t (op.Trap why) s q e = alive_any q _ e

step_keeps : (fuel k : ℕ) (code : List (Option Instr)) (s : TileState) → can_step fuel k s ≡ true → TileKeeps s → TileKeeps (stepped code k s)
step_keeps fuel k code s can f =
    let made = step_at_place code k s in
    let runs = (and_parts (runnable (sight_at s k) (thread_at s k).state) _ can).0 in
    let threads = threads_stepped code k s in
    let size = length-set s.threads k made.thread in
    let long = ap (λ (ts : List Thread). length ts) threads in
    let alive = ends.alive_of (sight_at s k) (thread_at s k).state runs in
    record {
      threads = subst (AllByRecursion Waits) (sym threads) (all_set Waits s.threads k made.thread f.threads (next_waits code (sight_at s k) (thread_at s k) runs (runs_there Waits fuel k s f.threads can)));
      dead = λ j h. elim (cases_eq j k) [
        | inr ne ↦
            let u = stepped_other code k j s ne in
            subst (λ (t : Thread). EmptyIfDead t.state (queue_at (stepped code k s).pool j)) (sym u.thread) (subst (EmptyIfDead (thread_at s j).state) (sym u.queue) (f.dead j (omega arith)))
        | inl e ↦
            let now : thread_at (stepped code k s) k ≡ made.thread = ap (λ ts. get_or ts k no_thread) threads ∙ get_or-set_same s.threads k made.thread no_thread (omega arith) in
            subst (λ i. DeadAt i (stepped code k s)) (sym e)
            (subst (λ (t : Thread). EmptyIfDead t.state (queue_at (stepped code k s).pool k)) (sym now)
            (own_dead k (thread_at s k) made.op (with_thread k made.thread s) made.thread.state (next_ends code (sight_at s k) (thread_at s k) alive)))
      ];
    }

steps_keep : (n : ℕ) (plan : TilePlan) (k : ℕ) (s t : TileState) → steps_of plan k n s ≡ Some t → TileKeeps s → TileKeeps t
unfolding steps_of
steps_keep zero plan k s t e f = let same : s ≡ t = cc e in subst TileKeeps same f
steps_keep (suc n) plan k s t e f =
    let first = taken (can_step plan.shape.fuel k s) (steps_of plan k n (stepped plan.code k s)) t e in
    steps_keep n plan k (stepped plan.code k s) t first.1 (step_keeps plan.shape.fuel k plan.code s first.0 f)

-- ---- a packet that comes

-- no letter is put into the queue of a dead thread
alive_not : (ts : List Thread) (named k : ℕ) → length ts ≤ 64 → k < length ts → is_dead (get_or ts k no_thread).state ≡ true → bit_at (alive_of ts named) k ≡ 0
alive_not ts named k few h dead =
    let below = dead_below ts in
    let most : 2 ^ length ts ≤ 2 ^ 64 = pow-le-pow_right (omega arith) few in
    let one : bit_at (dead_in ts) k ≡ 1 = dead_at ts k ∙ ap dead_bit (any_default ts k _ no_thread h) ∙ ap (λ b. cond b 1 0) dead in
    let both = bit_at_and named (bit_not w64 (dead_in ts)) k in
    let other = bit_at_not w64 (dead_in ts) k (omega arith) (omega arith) in
    omega arith

-- the queues of dead threads are as they were
abbrev Leaves : TileState → TileState → Type 0
Leaves s t = (k : ℕ) → k < length s.threads → is_dead (thread_at s k).state ≡ true → queue_at t.pool k ≡ queue_at s.pool k

slot_leaves : (slot : Option ℕ) (named k : ℕ) (p : Packet) (s t : TileState) → k < length s.pool.queues → bit_at named k ≡ 0 → stored_at slot named p s ≡ Some t → queue_at t.pool k ≡ queue_at s.pool k
slot_leaves None named k p s t h none e = cc e
slot_leaves (Some slot) named k p s t h none e =
    let is : put_at slot p.bytes named s.pool ≡ t.pool = ap (λ o. pool_of o) e in
    ap (λ (q : PoolModel). queue_at q k) (sym is) ∙ appended_no named slot s.pool.queues k h none
  where
    pool_of : Option TileState → PoolModel
    pool_of None = s.pool
    pool_of (Some x) = x.pool

stored_leaves : (named k : ℕ) (p : Packet) (s t : TileState) → k < length s.pool.queues → bit_at named k ≡ 0 → stored named p s ≡ Some t → queue_at t.pool k ≡ queue_at s.pool k
stored_leaves named k p s t h none e = by (named == 0) e where
  by : (b : Bool) → cond b (Some s) (stored_at (first_free s.pool) named p s) ≡ Some t → queue_at t.pool k ≡ queue_at s.pool k
  by true q = let same : s ≡ t = cc q in ap (λ (x : TileState). queue_at x.pool k) (sym same)
  by false q = slot_leaves (first_free s.pool) named k p s t h none q

received_leaves : (plan : TilePlan) (p : Packet) (s t : TileState) → length s.threads ≤ 64 → length s.pool.queues ≡ length s.threads → received plan p s ≡ Some t → Leaves s t
received_leaves plan p s t few queues e = λ k h dead.
    let named = alive_of s.threads (receivers plan.shape p.dest) in
    let m = mapped (λ (x : TileState). record x { dropped = x.dropped + _ }) (stored named p s) t e in
    ap (λ (x : TileState). queue_at x.pool k) (sym m.2) ∙ stored_leaves named k p s m.0 (omega arith) (alive_not s.threads (receivers plan.shape p.dest) k few h dead) m.1

on_leaves : (way : Port) (p : Packet) (s t : TileState) → sent_on way p s ≡ Some t → Leaves s t
on_leaves way p s t e = λ k h dead. let m = mapped (with_node s) (waits way p s.node) t e in ap (λ (x : TileState). queue_at x.pool k) (sym m.2)

by_leaves : (plan : TilePlan) (way : Port) (p : Packet) (s t : TileState) → length s.threads ≤ 64 → length s.pool.queues ≡ length s.threads → passed_by plan way p s ≡ Some t → Leaves s t
by_leaves plan port.Here p s t few queues e = received_leaves plan p s t few queues e
by_leaves plan port.East p s t few queues e = on_leaves port.East p s t e
by_leaves plan port.West p s t few queues e = on_leaves port.West p s t e
by_leaves plan port.South p s t few queues e = on_leaves port.South p s t e
by_leaves plan port.North p s t few queues e = on_leaves port.North p s t e
by_leaves plan port.Up p s t few queues e = on_leaves port.Up p s t e
by_leaves plan port.Down p s t few queues e = cc e
by_leaves plan port.HostPort p s t few queues e = cc e

delivered_leaves : (plan : TilePlan) (k : ℕ) (o : Option Packet) (s t : TileState) → length s.threads ≤ 64 → length s.pool.queues ≡ length s.threads → delivered_from plan k o s ≡ Some t → Leaves s t
delivered_leaves plan k None s t few queues e = cc e
delivered_leaves plan k (Some p) s t few queues e = by_leaves plan (tile_port plan.tile p.dest) p _ t few queues e

-- ---- deeds

same_keeps : (s t : TileState) → t.threads ≡ s.threads → Leaves s t → TileKeeps s → TileKeeps t
same_keeps s t threads leaves f =
    let long = ap (λ (ts : List Thread). length ts) threads in
    record {
      threads = subst (AllByRecursion Waits) (sym threads) f.threads;
      dead = λ k h.
          let now : thread_at t k ≡ thread_at s k = ap (λ ts. get_or ts k no_thread) threads in
          let low : k < length s.threads = omega arith in
          subst (λ (x : Thread). EmptyIfDead x.state (queue_at t.pool k)) (sym now) (same_queue (thread_at s k).state (queue_at s.pool k) (queue_at t.pool k) (leaves k low) (f.dead k low));
    }

same_pool : (s t : TileState) → t.pool ≡ s.pool → Leaves s t
same_pool s t e = λ k h dead. ap (λ (p : PoolModel). queue_at p k) e

told_waits : (value : ℕ) (t : Thread) → Waits t → Waits (told value t)
told_waits value t f = by (is_idle t.state) where
  by : (b : Bool) → Waits (cond b (answered value t) t)
  by true = record { firmware = f.firmware; waits = tt }
  by false = f

told_dead : (value : ℕ) (t : Thread) (queue : List ℕ) → EmptyIfDead t.state queue → EmptyIfDead (told value t).state queue
told_dead value t queue f = by (is_idle t.state) where
  by : (b : Bool) → EmptyIfDead (cond b (answered value t) t).state queue
  by true = tt
  by false = f

released_keeps : (value : ℕ) (s : TileState) → TileKeeps s → TileKeeps (released value s)
released_keeps value s f =
    let long = length-map s.threads (told value) in
    record {
      threads = all_mapped Waits (told value) s.threads (told_waits value) f.threads;
      dead = λ k h.
          let low : k < length s.threads = omega arith in
          let now : thread_at (released value s) k ≡ told value (thread_at s k) = get_or-map (told value) s.threads k no_thread no_thread low in
          subst (λ (x : Thread). EmptyIfDead x.state (queue_at s.pool k)) (sym now) (told_dead value (thread_at s k) (queue_at s.pool k) (f.dead k low));
    }

abbrev threads_of : TileState → List Thread
threads_of s = s.threads

abbrev pool_in : TileState → PoolModel
pool_in s = s.pool

pub deed_keeps : (plan : TilePlan) (d : Deed) (s t : TileState) → length s.threads ≤ 64 → length s.pool.queues ≡ length s.threads → TileKeeps s → tile_deed plan d s ≡ Some t → TileKeeps t
deed_keeps plan (deed.Turn a m) s t few queues f h = steps_keep m plan (place_in_tile plan.shape a.0) s t (turn_tests plan a.0 m s t h).steps f
deed_keeps plan (deed.Deliver a) s t few queues f h =
    let k = place_in_tile plan.shape a.0 in
    same_keeps s t (deliver_deed plan a.0 s t h).threads (delivered_leaves plan k (pending_at s k) s t few queues (deliver_tests plan a.0 s t h).row) f
deed_keeps plan (deed.Give way k) s t few queues f h =
    let m = mapped (with_node s) (give_row way k s.node) t h in
    same_keeps s t (ap threads_of (sym m.2)) (same_pool s t (ap pool_in (sym m.2))) f
deed_keeps plan (deed.Take side k) s t few queues f h =
    let c = came_by plan k s t h in
    same_keeps s t (accept_deed plan k s t h).threads (λ j low dead. ap (λ (x : TileState). queue_at x.pool j) c.is ∙ by_leaves plan (tile_port plan.tile k.dest) k s c.mid few queues c.row j low dead) f
deed_keeps plan deed.Route s t few queues f h = cc h
deed_keeps plan (deed.HostPut k) s t few queues f h = cc h
deed_keeps plan (deed.HostTake k) s t few queues f h = cc h
deed_keeps plan (deed.Report i g) s t few queues f h = let is = (report_deed plan i g s t h).is in same_keeps s t (ap threads_of is) (same_pool s t (ap pool_in is)) f
deed_keeps plan deed.Begin s t few queues f h = cc h
deed_keeps plan (deed.Confirm i g) s t few queues f h = let is = (confirm_deed plan i g s t h).is in same_keeps s t (ap threads_of is) (same_pool s t (ap pool_in is)) f
deed_keeps plan deed.Announce s t few queues f h = cc h
deed_keeps plan (deed.Release i g) s t few queues f h = subst TileKeeps (sym (release_deed plan i g s t h).is) (released_keeps g.value s f)
deed_keeps plan (deed.Go i g) s t few queues f h = let is = (go_deed plan i g s t h).is in same_keeps s t (ap threads_of is) (same_pool s t (ap pool_in is)) f
