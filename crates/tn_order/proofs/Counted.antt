-- In a machine each thread counted no more sends than steps: this holds of each run of the bag machine, and so of each walk.
use Rattle.std.proofs.Common.{ℕ, ◌≡◌, ◌≤◌, List, [], ◌∷◌, get_or, map, zero, suc, refl, sym, ◌∙◌, ap, subst, inl, inr, arith, cond, IsTrue, Some}
use Rattle.std.proofs.lemmas.Bool.{cases_eq, cond_both, eq-eqb}
use Rattle.tn_base.specs.declared.event.Event.{Event}
use Rattle.tn_base.specs.declared.shape.ShapeNumbers.{ShapeNumbers}
use Rattle.tn_base.specs.Address.{has_thread, place_in_tile, tile_threads}
use Rattle.tn_base.proofs.TilePlaces.{place_below}
use Rattle.tn_detect.specs.Notes.{value_of}
use Rattle.tn_quiet.specs.Law.{IsQuietWorld}
use Rattle.tn_quiet.proofs.Runs.{event_quiet}
use Rattle.tn_rows.specs.Events.{happened}
use Rattle.tn_rows.specs.PartView.{PartView, TileV, RouterV, LinkV, HostV, DetectorV, AbsentV}
use Rattle.tn_rows.specs.Runs.{Walk}
use Rattle.tn_rows.specs.WorldView.{WorldView}
use Rattle.tn_thread.specs.declared.thread.Thread.{Thread}
use Rattle.tn_thread.specs.Step.{Stepped, is_idle}
use Rattle.tn_tile.specs.Rows.{told}
use Rattle.tn_tile.specs.Step.{no_thread}
use Rattle.tn_tile.specs.TileView.{TileView}
use Rattle.tn_rows.specs.Visited.{released_part}
use Rattle.tn_letters.specs.declared.steps.BagStep.{BagStep}
use Rattle.tn_letters.specs.declared.steps.BagStep.TheVariants as bag
use Rattle.tn_letters.specs.declared.steps.Seen.{Seen}
use Rattle.tn_letters.specs.Law.{IsStart, StartsSo}
use Rattle.tn_letters.specs.Machine.{BagRun, Happens, MayStep, answer, own_step, with_own_step}
use Rattle.tn_letters.specs.Settled.{detector_on, settled}
use Rattle.tn_letters.specs.State.{BagState, Program, put}
use Rattle.tn_letters.specs.Steps.{event_steps}
use Rattle.tn_letters.specs.Tiles.{part_for, program_of, thread_in, thread_of, tile_in}
use Rattle.tn_letters.proofs.Calm.{quiet_start}
use Rattle.tn_letters.proofs.Empty.{seat}
use Rattle.tn_letters.proofs.GoodParts.{event_good, walk_good}
use Rattle.tn_letters.proofs.Lift.{Good, GoodTile, tile_on}
use Rattle.tn_letters.proofs.Meaning.{event_arrives}
use Rattle.tn_letters.proofs.Settling.{settled_stays}
use Rattle.tn_letters.proofs.Starts.{good_start}
use Rattle.tn_letters.proofs.Waiting.{ended_threads, put_beside, sent_threads}
use Rattle.tn_order.specs.Numbers.{Counts, EveryWalkCounts}
use Rattle.tn_order.proofs.Numbers.{next_counts}

-- ---- the bag machine

-- a thread counted no more sends than steps
abbrev pub Enough : Thread → Type 0
Enough t = t.sends ≤ t.steps

pub enough_next : (t : Thread) (r : Stepped) → Counts t r → Enough t → Enough r.thread
enough_next t r (inl c) h = let a = c.0 in let b = c.1 in omega arith
enough_next t r (inr c) h = let a = c.0 in let b = c.1 in omega arith

abbrev pub Each : ShapeNumbers → (ℕ → Thread) → Type 0
Each n f = (a : ℕ) → IsTrue (has_thread n a) → Enough (f a)

own_enough : (m : Program) (b : ℕ) (seen : Seen) (s : BagState) → Each m.shape s.threads → MayStep m s b seen → Each m.shape (put s.threads b (own_step m b seen s).thread)
own_enough m b seen s each may a there = elim (cases_eq b a) [
  | inl e ↦
      let here : put s.threads b (own_step m b seen s).thread a ≡ (own_step m b seen s).thread = ap (λ c. cond c (own_step m b seen s).thread (s.threads a)) (eq-eqb a b (sym e)) in
      subst (λ (t : Thread). Enough t) (sym here) (enough_next (s.threads b) (own_step m b seen s) (next_counts (m.code b) _ (s.threads b)) (each b may.there))
  | inr ne ↦ subst (λ (t : Thread). Enough t) (sym (put_beside s.threads b (own_step m b seen s).thread a ne)) (each a there)
]

told_enough : (value : ℕ) (t : Thread) → Enough t → Enough (told value t)
told_enough value t h = cond_both (is_idle t.state) _ _ (λ (u : Thread). Enough u) (λ e. h) (λ e. h)

same_each : (n : ShapeNumbers) (f g : ℕ → Thread) → g ≡ f → Each n f → Each n g
same_each n f g e h = subst (Each n) (sym e) h

pub step_enough : (m : Program) (x : BagStep) (s t : BagState) → Happens m x s t → Each m.shape s.threads → Each m.shape t.threads
step_enough m (bag.Private b seen) s t h each =
    same_each m.shape _ t.threads (ap (λ (r : BagState). r.threads) h.2 ∙ ended_threads (own_step m b seen s).op b (with_own_step m b seen s)) (own_enough m b seen s each h.0)
step_enough m (bag.Send b seen) s t h each = same_each m.shape _ t.threads (sent_threads m b (s.threads b).sends (own_step m b seen s).op (with_own_step m b seen s) t h.1) (own_enough m b seen s each h.0)
step_enough m (bag.Hand b seen l) s t h each = same_each m.shape _ t.threads (ap (λ (r : BagState). r.threads) h.2.3) (own_enough m b seen s each h.0)
step_enough m (bag.Free b seen slot) s t h each = same_each m.shape _ t.threads (ap (λ (r : BagState). r.threads) h.2) (own_enough m b seen s each h.0)
step_enough m (bag.Idle b seen vote) s t h each = same_each m.shape _ t.threads (ap (λ (r : BagState). r.threads) h.2) (own_enough m b seen s each h.0)
step_enough m bag.Announce s t h each = same_each m.shape _ t.threads (ap (λ (r : BagState). r.threads) h.1) (λ a there. told_enough (answer m.shape s) (s.threads a) (each a there))
step_enough m (bag.HostSend l) s t h each = same_each m.shape _ t.threads (ap (λ (r : BagState). r.threads) h.4) each
step_enough m (bag.HostHand l) s t h each = same_each m.shape _ t.threads (ap (λ (r : BagState). r.threads) h.3) each
step_enough m (bag.Discard l) s t h each = same_each m.shape _ t.threads (ap (λ (r : BagState). r.threads) h.4) each

pub run_enough : (m : Program) (steps : List BagStep) (start end : BagState) → BagRun m start steps end → Each m.shape start.threads → Each m.shape end.threads
run_enough m [] start end run each = λ a there. subst (λ (t : Thread). Enough t) (run.threads a there) (each a there)
run_enough m (x ∷ xs) start end run each =
    run_enough m xs run.1 end run.4 (step_enough m x run.0 run.1 run.3 (λ a there. subst (λ (t : Thread). Enough t) (run.2.threads a there) (each a there)))

-- ---- machines

-- a release leaves what a thread counted
map_told : (value : ℕ) (ts : List Thread) (k : ℕ) → get_or (map (told value) ts) k no_thread ≡ told value (get_or ts k no_thread)
map_told value [] k = refl
map_told value (t ∷ ts) zero = refl
map_told value (t ∷ ts) (suc k) = map_told value ts k

told_sends : (value : ℕ) (t : Thread) → (told value t).sends ≡ t.sends
told_sends value t = cond_both (is_idle t.state) _ _ (λ (u : Thread). u.sends ≡ t.sends) (λ e. refl) (λ e. refl)

told_steps : (value : ℕ) (t : Thread) → (told value t).steps ≡ t.steps
told_steps value t = cond_both (is_idle t.state) _ _ (λ (u : Thread). u.steps ≡ t.steps) (λ e. refl) (λ e. refl)

part_sends : (k value : ℕ) (x : PartView) → (thread_in (tile_in (released_part value x)) k).sends ≡ (thread_in (tile_in x) k).sends
part_sends k value (TileV v) = ap (λ (t : Thread). t.sends) (map_told value v.now.threads k) ∙ told_sends value (get_or v.now.threads k no_thread)
part_sends k value (RouterV v) = refl
part_sends k value (LinkV v) = refl
part_sends k value (HostV s) = refl
part_sends k value (DetectorV v) = refl
part_sends k value AbsentV = refl

part_steps : (k value : ℕ) (x : PartView) → (thread_in (tile_in (released_part value x)) k).steps ≡ (thread_in (tile_in x) k).steps
part_steps k value (TileV v) = ap (λ (t : Thread). t.steps) (map_told value v.now.threads k) ∙ told_steps value (get_or v.now.threads k no_thread)
part_steps k value (RouterV v) = refl
part_steps k value (LinkV v) = refl
part_steps k value (HostV s) = refl
part_steps k value (DetectorV v) = refl
part_steps k value AbsentV = refl

pub settled_sends : (w : WorldView) (a : ℕ) → (thread_of (settled w) a).sends ≡ (thread_of w a).sends
settled_sends w a = settled_stays (λ x. (thread_in (tile_in x) (place_in_tile w.shape a)).sends) (detector_on w).phase (value_of (detector_on w).answer) w.parts (part_for w a) (part_sends (place_in_tile w.shape a))

pub settled_steps : (w : WorldView) (a : ℕ) → (thread_of (settled w) a).steps ≡ (thread_of w a).steps
settled_steps w a = settled_stays (λ x. (thread_in (tile_in x) (place_in_tile w.shape a)).steps) (detector_on w).phase (value_of (detector_on w).answer) w.parts (part_for w a) (part_steps (place_in_tile w.shape a))

-- each thread of a machine counted no more sends than steps
abbrev pub AllEnough : WorldView → Type 0
AllEnough w = (a : ℕ) → IsTrue (has_thread w.shape a) → Enough (thread_of w a)

pub event_enough : (e : Event) (w new : WorldView) → Good w → IsQuietWorld w → happened e w ≡ Some new → AllEnough w → AllEnough new
event_enough e w new g q h all a there =
    let r = event_arrives (λ b. []) [] 0 e w new g q h in
    let shape : new.shape ≡ w.shape = ap (λ (m : Program). m.shape) r.program in
    let before : Each w.shape (thread_of (settled w)) = λ b here. let i = settled_sends w b in let j = settled_steps w b in let k = all b here in omega arith in
    let after = run_enough (program_of w) (event_steps e w) _ _ r.run before a (subst (λ n. IsTrue (has_thread n a)) shape there) in
    let i = settled_sends new a in
    let j = settled_steps new a in
    omega arith

-- no thread sent yet
pub start_enough : (w : WorldView) → IsStart w → Good w → AllEnough w
start_enough w s g a there =
    let t = seat w a g there in
    let so : StartsSo w.shape (TileV t.tile) = subst (StartsSo w.shape) t.on.is (s.parts (part_for w a) t.on.within) in
    let threads : t.tile.now.threads ≡ so.1 = ap (λ (v : TileView). v.now.threads) so.3 in
    let k = place_in_tile w.shape a in
    let none : (thread_of w a).sends ≡ 0 = ap (λ (x : Thread). x.sends) (t.thread ∙ (ap (λ ts. get_or ts k no_thread) threads ∙ (so.2.each k (place_below w.shape a there)).start)) in
    omega arith

pub walk_enough : (es : List Event) (w end : WorldView) → Good w → IsQuietWorld w → AllEnough w → Walk w es end → AllEnough end
walk_enough [] w end g q all walk = subst (λ (x : WorldView). AllEnough x) walk all
walk_enough (e ∷ es) w end g q all walk = walk_enough es walk.0 end (event_good e w walk.0 g q walk.1) (event_quiet e w walk.0 g.limits q walk.1) (event_enough e w walk.0 g q walk.1 all) walk.2

-- each thread made no more steps than its fuel
pub few_steps : (w : WorldView) (a : ℕ) → Good w → IsTrue (has_thread w.shape a) → (thread_of w a).steps ≤ w.shape.fuel
few_steps w a g there =
    let t = seat w a g there in
    let good : GoodTile w.shape (part_for w a) t.tile = tile_on w (part_for w a) t.tile g t.on in
    let is = good.shaped.fits.threads.each (place_in_tile w.shape a) (subst (λ (n : ShapeNumbers). suc (place_in_tile w.shape a) ≤ tile_threads n) (sym good.shape) (place_below w.shape a there)) in
    let steps = is.steps in
    let same = ap (λ (x : Thread). x.steps) t.thread in
    let fuel = ap (λ (n : ShapeNumbers). n.fuel) good.shape in
    omega arith

pub every_walk_counts : EveryWalkCounts
every_walk_counts start w history a s walk there =
    let g = good_start start s in
    let q = quiet_start start s g in
    record {
      sends = walk_enough history start w g q (start_enough start s g) walk a there;
      steps = few_steps w a (walk_good history start w g q walk) there;
    }

-- no event changes the shape
pub walk_shape : (es : List Event) (w end : WorldView) → Good w → IsQuietWorld w → Walk w es end → end.shape ≡ w.shape
walk_shape [] w end g q walk = ap (λ (x : WorldView). x.shape) (sym walk)
walk_shape (e ∷ es) w end g q walk =
    walk_shape es walk.0 end (event_good e w walk.0 g q walk.1) (event_quiet e w walk.0 g.limits q walk.1) walk.2
    ∙ ap (λ (m : Program). m.shape) (event_arrives (λ b. []) [] 0 e w walk.0 g q walk.1).program
