-- What steps that ask nothing of the tile make of it: they are steps of the thread at its place.
use Rattle.std.proofs.Common.{ℕ, ◌≡◌, ◌≤◌, ◌<◌, ◌+◌, ◌/◌, suc, zero, List, [], ◌∷◌, true, length, set, refl, sym, ap, subst, ◌∙◌, arith, Option, Some, None, option_and_then, option_map, slice_get, slice_index_or}
use Rattle.std.proofs.lemmas.Bool.{lt-ltb}
use Rattle.std.proofs.lemmas.List.{get_or-set_same, length-set, set-get_or}
use Rattle.rv_isa.specs.declared.instr.Instr.{Instr}
use Rattle.rv_exec.specs.Exec.{regs_after, step_at}
use Rattle.tn_thread.specs.declared.state.ThreadState.{ThreadState}
use Rattle.tn_thread.specs.declared.state.ThreadState.TheVariants as state
use Rattle.tn_thread.specs.declared.thread.Thread.{Thread}
use Rattle.tn_thread.specs.Alone.{Going, caught_up}
use Rattle.tn_thread.specs.Sight.{Sight}
use Rattle.tn_thread.specs.Step.{Stepped, runnable, turned}
use Rattle.tn_thread.proofs.AloneSteps.{Stays, alone_is, caught, stays_self, stays_more}
use Rattle.tn_thread.proofs.Fits.{turned_runs}
use Rattle.tn_tile.specs.Alone.{RanAlone, alone_at, alone_steps, next_alone}
use Rattle.tn_tile.specs.Step.{Fetched, acted, can_step, due_by, fetched_at, fetched_by, next_step, no_thread, sight_at, step_at_place, step_by, stepped, steps_of, thread_at, with_thread}
use Rattle.tn_tile.specs.TileView.{TilePlan, TileState}
use Rattle.tn_tile.proofs.Due.{alone_due, due_runs}
use Rattle.tn_tile.proofs.Runs.{at_stays}

pub set_twice : {X : Type 0} (xs : List X) (k : ℕ) (x y : X) → set (set xs k x) k y ≡ set xs k y
set_twice [] k x y = refl
set_twice (z ∷ xs) zero x y = refl
set_twice (z ∷ xs) (suc k) x y = ap (λ r. z ∷ r) (set_twice xs k x y)

and_then_some : {A B : Type 0} (f : A → Option B) (o : Option A) (y : B) → option_and_then f o ≡ Some y → (x : A) × (o ≡ Some x) × (f x ≡ Some y)
and_then_some f None y e = cc e
and_then_some f (Some x) y e = (x, refl, e)

map_some : {A B : Type 0} (f : A → B) (o : Option A) (y : B) → option_map f o ≡ Some y → (x : A) × (o ≡ Some x) × (y ≡ f x)
map_some f None y e = cc e
map_some f (Some x) y e = (x, refl, cc e)

-- a thread that runs executes what stands at its pc
pub fetched_runs : (s : ThreadState) (code : List (Option Instr)) (t : Thread) → s ≡ state.Run → fetched_by s code t ≡ fetched_at (slice_get code (t.pc / 4)) t
fetched_runs state.Run code t h = refl
fetched_runs (state.Wait waits) code t h = cc h
fetched_runs (state.Idle vote) code t h = cc h
fetched_runs (state.Answered value) code t h = cc h
fetched_runs (state.Dead value) code t h = cc h
fetched_runs (state.Trapped why) code t h = cc h

pub run_can : (s : ThreadState) (seen : Sight) → s ≡ state.Run → runnable seen s ≡ true
run_can state.Run seen h = refl
run_can (state.Wait waits) seen h = cc h
run_can (state.Idle vote) seen h = cc h
run_can (state.Answered value) seen h = cc h
run_can (state.Dead value) seen h = cc h
run_can (state.Trapped why) seen h = cc h

abbrev pub turned_from : Sight → Fetched → Stepped
turned_from seen f = turned f.effect seen f.thread

at_is : (o : Option (Option Instr)) (seen : Sight) (m pc : ℕ) (t : Thread) (g : Going) → alone_at o seen pc t ≡ Some g → t.state ≡ state.Run → turned_from seen (fetched_at o (caught_up m pc t)) ≡ caught m g
at_is None seen m pc t g e run = cc e
at_is (Some None) seen m pc t g e run = cc e
at_is (Some (Some i)) seen m pc t g e run =
    let s = step_at i pc t.regs in
    let written : Thread = record t { regs = regs_after s.written i.rd t.regs } in
    turned_runs t.state s.effect seen (caught_up m pc written) run ∙ alone_is s.effect seen m pc written g e

-- the next step of the thread as it is after m such steps
next_is : (code : List (Option Instr)) (seen : Sight) (m : ℕ) (g h : Going) → next_alone code seen g ≡ Some h → g.thread.state ≡ state.Run → next_step code seen (caught_up m g.pc g.thread) ≡ caught m h
next_is code seen m g h e run =
    let u : Thread = caught_up m g.pc g.thread in
    let none : due_by g.thread.state code u ≡ None = due_runs g.thread.state code u run ∙ alone_due (slice_get code (g.pc / 4)) seen g.pc g.thread h e u in
    ap (λ d. step_by d code seen u) none
    ∙ ap (turned_from seen) (fetched_runs g.thread.state code u run)
    ∙ at_is (slice_get code (g.pc / 4)) seen m g.pc g.thread h e run

-- a step that asks nothing changes the thread alone
stepped_is : (code : List (Option Instr)) (s : TileState) (k m : ℕ) (g h : Going) → thread_at s k ≡ caught_up m g.pc g.thread → g.thread.state ≡ state.Run → next_alone code (sight_at s k) g ≡ Some h → stepped code k s ≡ with_thread k (caught_up (suc m) h.pc h.thread) s
stepped_is code s k m g h there run e =
    let step : step_at_place code k s ≡ caught m h = ap (next_step code (sight_at s k)) there ∙ next_is code (sight_at s k) m g h e run in
    ap (λ (x : Stepped). acted k (thread_at s k) x.op (with_thread k x.thread s)) step

can_is : (fuel : ℕ) (s : TileState) (k m n : ℕ) (g : Going) → thread_at s k ≡ caught_up m g.pc g.thread → g.thread.state ≡ state.Run → g.thread.steps + m + suc n ≤ fuel → can_step fuel k s ≡ true
can_is fuel s k m n g there run few =
    let runs : (thread_at s k).state ≡ state.Run = ap (λ (t : Thread). t.state) there ∙ run in
    let count : (thread_at s k).steps ≡ g.thread.steps + m = ap (λ (t : Thread). t.steps) there in
    rw (run_can (thread_at s k).state (sight_at s k) runs) (lt-ltb (thread_at s k).steps fuel (omega arith))

steps_from : (n m k : ℕ) (plan : TilePlan) (s : TileState) (g h : Going) → k < length s.threads → thread_at s k ≡ caught_up m g.pc g.thread → g.thread.state ≡ state.Run → g.thread.steps + m + n ≤ plan.shape.fuel → alone_steps n plan.code (sight_at s k) g ≡ Some h → steps_of plan k n s ≡ Some (with_thread k (caught_up (m + n) h.pc h.thread) s)
unfolding steps_of alone_steps
steps_from zero m k plan s g h within there run few e =
    let same : g ≡ h = cc e in
    let count : m ≡ m + 0 = omega arith in
    let thread : thread_at s k ≡ caught_up (m + 0) h.pc h.thread = there ∙ (ap (λ (x : Going). caught_up m x.pc x.thread) same ∙ ap (λ i. caught_up i h.pc h.thread) count) in
    let kept : s.threads ≡ set s.threads k (caught_up (m + 0) h.pc h.thread) = sym (set-get_or s.threads k no_thread) ∙ ap (λ t. set s.threads k t) thread in
    ap (λ ts. Some (record s { threads = ts })) kept
steps_from (suc n) m k plan s g h within there run few e =
    let first = and_then_some (alone_steps n plan.code (sight_at s k)) (next_alone plan.code (sight_at s k) g) h e in
    let j = first.0 in
    let u : Thread = caught_up (suc m) j.pc j.thread in
    let w : TileState = with_thread k u s in
    let stays : Stays g.thread j.thread = at_stays (slice_get plan.code (g.pc / 4)) (sight_at s k) g.pc g.thread j first.1 in
    let counts = stays.steps in
    let rest : steps_of plan k n w ≡ Some (with_thread k (caught_up (suc m + n) h.pc h.thread) w) = steps_from n (suc m) k plan w j h (rw (length-set s.threads k u) within) (get_or-set_same s.threads k u no_thread within) (stays.state ∙ run) (omega arith) first.2 in
    let count : suc m + n ≡ m + suc n = omega arith in
    let last : with_thread k (caught_up (suc m + n) h.pc h.thread) w ≡ with_thread k (caught_up (m + suc n) h.pc h.thread) s
    = ap (λ ts. record s { threads = ts }) (set_twice s.threads k u (caught_up (suc m + n) h.pc h.thread) ∙ ap (λ i. set s.threads k (caught_up i h.pc h.thread)) count) in
    let one : steps_of plan k n (stepped plan.code k s) ≡ Some (with_thread k (caught_up (m + suc n) h.pc h.thread) s)
    = ap (λ x. steps_of plan k n x) (stepped_is plan.code s k m g j there run first.1) ∙ rest ∙ ap (λ (x : TileState). Some x) last in
    rw (can_is plan.shape.fuel s k m n g there run few) one

steps_stay : (n : ℕ) (code : List (Option Instr)) (seen : Sight) (g h : Going) → alone_steps n code seen g ≡ Some h → Stays g.thread h.thread
unfolding alone_steps
steps_stay zero code seen g h e = let same : g ≡ h = cc e in subst (λ (x : Going). Stays g.thread x.thread) same (stays_self g.thread)
steps_stay (suc n) code seen g h e =
    let first = and_then_some (alone_steps n code seen) (next_alone code seen g) h e in
    let j = first.0 in
    stays_more g.thread j.thread h.thread (at_stays (slice_get code (g.pc / 4)) seen g.pc g.thread j first.1) (steps_stay n code seen j h first.2)

-- they keep the thread's state, and count
pub ran_stays : (code : List (Option Instr)) (seen : Sight) (old new : List Thread) (k n : ℕ) → k < length old → RanAlone k n code seen old new → ((slice_index_or new k no_thread).state ≡ (slice_index_or old k no_thread).state) × ((slice_index_or new k no_thread).steps ≡ (slice_index_or old k no_thread).steps + n)
ran_stays code seen old new k n within r =
    let t = slice_index_or old k no_thread in
    let went = map_some (λ (g : Going). caught_up n g.pc g.thread) (alone_steps n code seen (record { pc = t.pc; thread = t })) r.thread r.went in
    let g = went.0 in
    let stays : Stays t g.thread = steps_stay n code seen (record { pc = t.pc; thread = t }) g went.1 in
    let there : slice_index_or new k no_thread ≡ r.thread = ap (λ ts. slice_index_or ts k no_thread) r.put ∙ get_or-set_same old k r.thread no_thread within in
    let same : slice_index_or new k no_thread ≡ caught_up n g.pc g.thread = there ∙ went.2 in
    (ap (λ (x : Thread). x.state) same ∙ stays.state, ap (λ (x : Thread). x.steps) same ∙ ap (λ i. i + n) stays.steps)

caught_none : (t : Thread) → t ≡ caught_up 0 t.pc t
caught_none t = let count : t.steps ≡ t.steps + 0 = omega arith in ap (λ s. record t { steps = s }) count

-- steps that ask nothing are steps
pub ran_alone : (plan : TilePlan) (s : TileState) (k n : ℕ) (threads : List Thread) → k < length s.threads → (thread_at s k).state ≡ state.Run → (thread_at s k).steps + n ≤ plan.shape.fuel → RanAlone k n plan.code (sight_at s k) s.threads threads → steps_of plan k n s ≡ Some (record s { threads = threads })
ran_alone plan s k n threads within run few r =
    let old = thread_at s k in
    let went = map_some (λ (g : Going). caught_up n g.pc g.thread) (alone_steps n plan.code (sight_at s k) (record { pc = old.pc; thread = old })) r.thread r.went in
    let g = went.0 in
    let sum : 0 + n ≡ n = omega arith in
    let thread : caught_up (0 + n) g.pc g.thread ≡ r.thread = ap (λ i. caught_up i g.pc g.thread) sum ∙ sym went.2 in
    steps_from n 0 k plan s (record { pc = old.pc; thread = old }) g within (caught_none old) run (omega arith) went.1
    ∙ ap (λ t. Some (with_thread k t s)) thread
    ∙ ap (λ ts. Some (record s { threads = ts })) (sym r.put)
