-- What the calls that spell a history, and that list the letters on links, read.
use Rattle.std.specs.List.{slice_get}
use Rattle.std.specs.Int.{bit_at}
use Rattle.std.proofs.lemmas.Nat.Bits.{bit_at-zero}
use Rattle.std.proofs.Common.{◌⊎◌, inl, inr, ◌&&◌, ℕ, ◌+◌, ◌-◌, ◌<◌, ◌≤◌, ◌^◌, nat_lt, ◌≡◌, ◌++◌, Bool, true, false, cond, List, [], ◌∷◌, length, get_or, map, drop, zero, suc, refl, sym, ◌∙◌, ap, subst, arith, Option, Some, None, is_some, unwrap_or, append_assoc, length-set}
use Rattle.std.proofs.lemmas.Bool.{and_parts, eqb-true}
use Rattle.std.proofs.lemmas.List.{append-nil, get_or-set_same}
use Rattle.tn_base.specs.declared.message.Letter.{Letter}
use Rattle.tn_base.specs.declared.op.Op.{Op}
use Rattle.tn_base.specs.declared.op.Op.TheVariants as op
use Rattle.tn_base.specs.declared.shape.ShapeNumbers.{ShapeNumbers}
use Rattle.tn_base.specs.Address.{in_tile, place_in_tile, tile_threads}
use Rattle.tn_base.proofs.TilePlaces.{place_below, place_named}
use Rattle.tn_tile.specs.Kept.{WellShaped}
use Rattle.tn_thread.specs.declared.state.ThreadState.TheVariants as state
use Rattle.tn_link.specs.LinkView.{LinkView}
use Rattle.tn_slots.specs.Pool.{message_at, queue_at, slot_at, taken, taken_from}
use Rattle.tn_slots.specs.PoolModel.{PoolModel}
use Rattle.tn_slots.specs.Queues.{first_of}
use Rattle.tn_slots.specs.Slot.{is_free}
use Rattle.tn_slots.specs.WellKept.{WellKept, times}
use Rattle.tn_slots.proofs.Kept.{free_masks}
use Rattle.tn_slots.proofs.Lists.{bit_cases, times-cons, times_first}
use Rattle.tn_slots.proofs.Owed.{first_is}
use Rattle.tn_thread.specs.declared.thread.Thread.{Thread}
use Rattle.tn_thread.specs.Step.{runnable}
use Rattle.tn_tile.specs.Rows.{can_count, is_here, sender_of, turn_row}
use Rattle.tn_tile.specs.Step.{can_step, no_thread, sight_at, step_at_place, stepped, steps_of, thread_at}
use Rattle.tn_tile.specs.Turns.{StepsUpTo}
use Rattle.tn_tile.specs.declared.state.TileState.{TileState}
use Rattle.tn_tile.specs.TileView.{TilePlan, TileView, with_now}
use Rattle.tn_letters.specs.declared.place.Place.{Place}
use Rattle.tn_letters.specs.declared.steps.BagStep.{BagStep}
use Rattle.tn_letters.specs.declared.steps.BagStep.TheVariants as bag
use Rattle.tn_letters.specs.Letters.{letter}
use Rattle.tn_keys.specs.Reach.{Reach}
use Rattle.tn_letters.specs.Standing.{crossing_at}
use Rattle.tn_letters.specs.Steps.{after_step, thread_step, turn_steps}
use Rattle.tn_letters.specs.Tiles.{letter_in, sender_at}
use Rattle.tn_bag.proofs.Made.{message_some}
use Rattle.tn_letters.proofs.Simulate.{next, op_fits}

-- the letters at each place of a link
abbrev pub crossings : ShapeNumbers → Reach → ℕ → LinkView → ℕ → List (Place × Letter)
crossings n on p v i = crossing_at n on p i (slice_get v.packets i)

-- ---- a queue that is taken slot by slot

pub record QueueLeft (was now : PoolModel) (k made : ℕ) : Type 0 where
  pub queue : queue_at now k ≡ drop made (queue_at was k)
  pub threads : length now.queues ≡ length was.queues

times_at : (q : List ℕ) (i d : ℕ) → i < length q → 1 ≤ times (get_or q i d) q
times_at [] i d h = absurd (omega arith)
times_at (x ∷ q) zero d h = let a = times_first x q in omega arith
times_at (x ∷ q) (suc i) d h = let a = times-cons (get_or q i d) x q in let b = times_at q i d (omega arith) in omega arith

-- a slot of a queue is used
owed_used : (p : PoolModel) (k s : ℕ) → bit_at (slot_at p s).owed k ≡ 1 → is_some (message_at p s) ≡ true
owed_used p k s e = by (is_free (slot_at p s)) refl
  where
    by : (b : Bool) → is_free (slot_at p s) ≡ b → is_some (cond b None (Some (slot_at p s).bytes)) ≡ true
    by false f = refl
    by true f = let z : bit_at (slot_at p s).owed k ≡ 0 = ap (λ m. bit_at m k) (free_masks (slot_at p s) f).0 ∙ bit_at-zero k in absurd (omega arith)

pub queued_used : (p : PoolModel) (k i d : ℕ) → WellKept p → k < length p.queues → i < length (queue_at p k) → is_some (message_at p (get_or (queue_at p k) i d)) ≡ true
queued_used p k i d kept h within =
    let s : ℕ = get_or (queue_at p k) i d in
    let once = kept.each k s h in
    let some = times_at (queue_at p k) i d within in
    let most = bit_cases (slot_at p s).owed k in
    owed_used p k s (by most (omega arith))
  where
    by : (bit_at (slot_at p (get_or (queue_at p k) i d)).owed k ≡ 1) ⊎ (bit_at (slot_at p (get_or (queue_at p k) i d)).owed k ≡ 0) → 1 ≤ bit_at (slot_at p (get_or (queue_at p k) i d)).owed k → bit_at (slot_at p (get_or (queue_at p k) i d)).owed k ≡ 1
    by (inl e) h = e
    by (inr e) h = absurd (omega arith)

first_at : (q : List ℕ) (i d : ℕ) → i < length q → first_of (drop i q) ≡ Some (get_or q i d)
first_at [] i d h = absurd (omega arith)
first_at (x ∷ q) zero d h = refl
first_at (x ∷ q) (suc i) d h = first_at q i d (omega arith)

-- the next slot of the queue
pub next_first : (was now : PoolModel) (k i d : ℕ) → QueueLeft was now k i → i < length (queue_at was k) → first_of (queue_at now k) ≡ Some (get_or (queue_at was k) i d)
next_first was now k i d left h = ap first_of left.queue ∙ first_at (queue_at was k) i d h

pub same_some : {A : Type 0} (x y : A) → Some x ≡ Some y → x ≡ y
same_some x y e = ap (λ o. unwrap_or o x) e

-- the same, as it is read
pub first_left : (was now : PoolModel) (k place i count : ℕ) (r : Option ℕ) → QueueLeft was now k i → place ≡ k → i < count → count ≡ length (queue_at was k) → r ≡ first_of (queue_at now place) → r ≡ Some (get_or (queue_at was k) i 0)
first_left was now k place i count r left at h long e = e ∙ (ap (λ j. first_of (queue_at now j)) at ∙ next_first was now k i 0 left (omega arith))

drop_suc : (q : List ℕ) (i : ℕ) → drop 1 (drop i q) ≡ drop (suc i) q
drop_suc [] zero = refl
drop_suc [] (suc i) = refl
drop_suc (x ∷ q) zero = refl
drop_suc (x ∷ q) (suc i) = drop_suc q i

drop_next : (q : List ℕ) (i : ℕ) → drop 1 (drop i q) ≡ drop (i + 1) q
drop_next q i = let o : suc i ≡ i + 1 = omega arith in drop_suc q i ∙ ap (λ n. drop n q) o

-- a thread's queue that begins with s, after s was taken
taken_some : (p : PoolModel) (t s : ℕ) → first_of (queue_at p t) ≡ Some s → taken t p ≡ taken_from t (s ∷ drop 1 (queue_at p t)) p
taken_some p t s e = ap (λ q. taken_from t q p) (first_is (queue_at p t) s e)

pub next_left : (was now new : PoolModel) (k i : ℕ) → QueueLeft was now k i → k < length was.queues → i < length (queue_at was k) → new ≡ taken k now → QueueLeft was new k (i + 1)
next_left was now new k i left h within e =
    let first = next_first was now k i 0 left within in
    let is : new ≡ taken_from k (get_or (queue_at was k) i 0 ∷ drop 1 (queue_at now k)) now = e ∙ taken_some now k (get_or (queue_at was k) i 0) first in
    let there : k < length now.queues = let l = left.threads in omega arith in
    record {
      queue = ap (λ (p : PoolModel). queue_at p k) is ∙ (get_or-set_same now.queues k (drop 1 (queue_at now k)) [] there ∙ (ap (λ q. drop 1 q) left.queue ∙ drop_next (queue_at was k) i));
      threads = ap (λ (p : PoolModel). length p.queues) is ∙ (length-set now.queues k (drop 1 (queue_at now k)) ∙ left.threads);
    }

-- the slot that is taken stood first
pub taken_queue : (now new : PoolModel) (k s : ℕ) → k < length now.queues → first_of (queue_at now k) ≡ Some s → new ≡ taken k now → queue_at now k ≡ s ∷ queue_at new k
taken_queue now new k s h first e =
    let is : new ≡ taken_from k (s ∷ drop 1 (queue_at now k)) now = e ∙ taken_some now k s first in
    first_is (queue_at now k) s first ∙ ap (λ q. s ∷ q) (sym (ap (λ (p : PoolModel). queue_at p k) is ∙ get_or-set_same now.queues k (drop 1 (queue_at now k)) [] h))

-- one letter more is dropped
pub one_dropped : (gives : ℕ → Letter) (q rest : List ℕ) (s : ℕ) (l : Letter) (before now : List BagStep) → q ≡ s ∷ rest → now ≡ before ++ bag.Discard l ∷ [] → l ≡ gives s →
    now ++ map bag.Discard (map gives rest) ≡ before ++ map bag.Discard (map gives q)
one_dropped gives q rest s l before now e is same =
    ap (λ (ys : List BagStep). ys ++ map bag.Discard (map gives rest)) (is ∙ ap (λ x. before ++ bag.Discard x ∷ []) same)
    ∙ (append_assoc before (bag.Discard (gives s) ∷ []) (map bag.Discard (map gives rest))
    ∙ ap (λ q. before ++ map bag.Discard (map gives q)) (sym e))

-- the place of a thread of the tile
pub place_in : (v : TileView) (a : ℕ) → WellShaped v → is_here v.plan a ≡ true → place_in_tile v.plan.shape a < length v.now.pool.queues
place_in v a shaped here =
    let h = place_below v.plan.shape a (and_parts _ _ here).0 in
    let q = shaped.fits.pool.queues in
    omega arith

-- the letter of a slot, as it was read
message_is : (free : Bool) (bytes read : List ℕ) → cond free None (Some bytes) ≡ Some read → read ≡ bytes
message_is true bytes read e = cc e
message_is false bytes read e = sym (ap (λ (o : Option (List ℕ)). unwrap_or o read) e)

pub letter_read : (v : TileView) (a s : ℕ) (from : ℕ × ℕ) (bytes : List ℕ) → is_here v.plan a ≡ true → sender_of s v.now ≡ Some from → message_at v.now.pool s ≡ Some bytes → letter from.0 from.1 a bytes ≡ letter_in v (place_in_tile v.plan.shape a) s
letter_read v a s from bytes here e f =
    let parts = and_parts _ _ here in
    let at : in_tile v.plan.shape v.plan.tile (place_in_tile v.plan.shape a) ≡ a = ap (λ t. in_tile v.plan.shape t (place_in_tile v.plan.shape a)) (sym (eqb-true _ _ parts.1)) ∙ place_named v.plan.shape a parts.0 in
    let sent : (ℕ × ℕ) = ((sender_at v s).origin, (sender_at v s).number) in
    let who : from ≡ sent = message_some (message_at v.now.pool s) sent from e in
    let what : bytes ≡ (slot_at v.now.pool s).bytes = message_is (is_free (slot_at v.now.pool s)) (slot_at v.now.pool s).bytes bytes f in
    ap (λ (q : ℕ × ℕ). letter q.0 q.1 a bytes) who
    ∙ (ap (λ b. letter sent.0 sent.1 a b) what ∙ ap (λ b. letter sent.0 sent.1 b (slot_at v.now.pool s).bytes) (sym at))

-- ---- a turn that is made step by step

pub record TurnLeft (a n made : ℕ) (tile now : TileView) : Type 0 where
  pub here : is_here tile.plan a ≡ true
  pub plan : now.plan ≡ tile.plan
  pub shaped : WellShaped now
  pub left : is_some (steps_of tile.plan (place_in_tile tile.plan.shape a) (n - made) now.now) ≡ true
  pub counts : made < n → can_count now.now ≡ true

all_four : (a b c d : Bool) (o : Option TileState) → is_some (cond (a && b && c && d) o None) ≡ true → (a ≡ true) × (d ≡ true) × (is_some o ≡ true)
all_four true true true true o e = (refl, refl, e)
all_four true true true false o e = cc e
all_four true true false d o e = cc e
all_four true false c d o e = cc e
all_four false b c d o e = cc e

pub turn_start : (a n : ℕ) (tile now : TileView) → WellShaped tile → is_some (turn_row tile.plan a n tile.now) ≡ true → now ≡ tile → TurnLeft a n 0 tile now
turn_start a n tile now shaped e is =
    let t = all_four (is_here tile.plan a) _ _ (can_count tile.now) (steps_of tile.plan (place_in_tile tile.plan.shape a) n tile.now) e in
    let all : n - 0 ≡ n = omega arith in
    subst (λ (v : TileView). TurnLeft a n 0 tile v) (sym is)
    (record { here = t.0; plan = refl; shaped = shaped; left = ap (λ m. is_some (steps_of tile.plan (place_in_tile tile.plan.shape a) m tile.now)) all ∙ t.2; counts = λ h. t.1 })

some_taken : {X : Type 0} (b : Bool) (o : Option X) → is_some (cond b o None) ≡ true → (b ≡ true) × (is_some o ≡ true)
some_taken true o e = (refl, e)
some_taken false o e = cc e

-- one step of what is left
first_step : (plan : TilePlan) (k m : ℕ) (s : TileState) → is_some (steps_of plan k (suc m) s) ≡ true → (can_step plan.shape.fuel k s ≡ true) × (is_some (steps_of plan k m (stepped plan.code k s)) ≡ true)
unfolding steps_of
first_step plan k m s e = some_taken (can_step plan.shape.fuel k s) (steps_of plan k m (stepped plan.code k s)) e

left_now : (n made : ℕ) → made < n → n - made ≡ suc (n - (made + 1))
left_now n made h = omega arith

steps_left : (a n made : ℕ) (tile now : TileView) → TurnLeft a n made tile now → made < n →
    (can_step tile.plan.shape.fuel (place_in_tile tile.plan.shape a) now.now ≡ true) × (is_some (steps_of tile.plan (place_in_tile tile.plan.shape a) (n - (made + 1)) (stepped tile.plan.code (place_in_tile tile.plan.shape a) now.now)) ≡ true)
steps_left a n made tile now t h =
    let k : ℕ = place_in_tile tile.plan.shape a in
    first_step tile.plan k (n - (made + 1)) now.now (ap (λ m. is_some (steps_of tile.plan k m now.now)) (sym (left_now n made h)) ∙ t.left)

pub turn_can : (a n made : ℕ) (tile now : TileView) → TurnLeft a n made tile now → made < n → can_step now.plan.shape.fuel (place_in_tile now.plan.shape a) now.now ≡ true
turn_can a n made tile now t h =
    subst (λ (p : TilePlan). can_step p.shape.fuel (place_in_tile p.shape a) now.now ≡ true) (sym t.plan) (steps_left a n made tile now t h).0

pub turn_here : (a n made : ℕ) (tile now : TileView) → TurnLeft a n made tile now → is_here now.plan a ≡ true
turn_here a n made tile now t = subst (λ (p : TilePlan). is_here p a ≡ true) (sym t.plan) t.here

-- a call that makes at most one step makes it, if it can
pub one_made : (plan : TilePlan) (k made : ℕ) (old new : TileState) → can_step plan.shape.fuel k old ≡ true → StepsUpTo plan k 1 made old new → new ≡ stepped plan.code k old
unfolding steps_of
one_made plan k zero old new can s =
    let same : old ≡ new = ap (λ (o : Option TileState). unwrap_or o new) s.steps in
    let stops : can_step plan.shape.fuel k old ≡ false = ap (can_step plan.shape.fuel k) same ∙ s.stops (omega arith) in
    let not : true ≡ false = sym can ∙ stops in
    cc not
one_made plan k (suc zero) old new can s =
    let one : cond (can_step plan.shape.fuel k old) (Some (stepped plan.code k old)) None ≡ Some new = s.steps in
    let is : Some (stepped plan.code k old) ≡ Some new = sym (ap (λ b. cond b (Some (stepped plan.code k old)) None) can) ∙ one in
    sym (ap (λ (o : Option TileState). unwrap_or o new) is)
one_made plan k (suc (suc made)) old new can s = let few = s.few in absurd (omega arith)

-- a thread that ended makes no step
dead_stops : (fuel k : ℕ) (s : TileState) (value : ℕ) → (thread_at s k).state ≡ state.Dead value → can_step fuel k s ≡ true → ⊥
dead_stops fuel k s value e can =
    let runs : runnable (sight_at s k) (thread_at s k).state ≡ true = (and_parts _ _ can).0 in
    let not : true ≡ false = sym runs ∙ ap (runnable (sight_at s k)) e in
    cc not

kept_count : (k : ℕ) (v : TileView) (o : Op) → k < length v.now.threads → can_step v.plan.shape.fuel k v.now ≡ true → (step_at_place v.plan.code k v.now).op ≡ o → can_step v.plan.shape.fuel k (next v k o) ≡ true → (next v k o).dropped ≡ v.now.dropped
kept_count k v op.None h can e more = refl
kept_count k v (op.Send to bytes) h can e more = refl
kept_count k v op.Hand h can e more = refl
kept_count k v (op.Free slot) h can e more = refl
kept_count k v (op.Idle vote) h can e more = refl
kept_count k v (op.Trap why) h can e more = refl
kept_count k v (op.Kill value) h can e more =
    let is : thread_at (next v k (op.Kill value)) k ≡ (step_at_place v.plan.code k v.now).thread = get_or-set_same v.now.threads k (step_at_place v.plan.code k v.now).thread no_thread h in
    let ended : (thread_at (next v k (op.Kill value)) k).state ≡ state.Dead value = ap (λ (t : Thread). t.state) is ∙ op_fits v k (op.Kill value) can e in
    absurd (dead_stops v.plan.shape.fuel k (next v k (op.Kill value)) value ended more)

-- if a step follows, no letter was dropped
counted_on : (k : ℕ) (v : TileView) → k < length v.now.threads → can_step v.plan.shape.fuel k v.now ≡ true → can_step v.plan.shape.fuel k (stepped v.plan.code k v.now) ≡ true → (stepped v.plan.code k v.now).dropped ≡ v.now.dropped
counted_on k v h can more = kept_count k v (step_at_place v.plan.code k v.now).op h can refl more

-- the tile after the next step, over the first tile's plan
abbrev pub after_next : TileView → ℕ → TileView → TileView
after_next tile a now = with_now now (stepped tile.plan.code (place_in_tile tile.plan.shape a) now.now)

-- what the call made is the next step
next_is : (a n made steps : ℕ) (tile now new : TileView) → TurnLeft a n made tile now → made < n → StepsUpTo now.plan (place_in_tile now.plan.shape a) 1 steps now.now new.now → new.now ≡ stepped tile.plan.code (place_in_tile tile.plan.shape a) now.now
next_is a n made steps tile now new t h s =
    let k : ℕ = place_in_tile tile.plan.shape a in
    one_made tile.plan k steps now.now new.now (steps_left a n made tile now t h).0 (subst (λ (p : TilePlan). StepsUpTo p (place_in_tile p.shape a) 1 steps now.now new.now) t.plan s)

pub turn_next : (a n made steps : ℕ) (tile now new : TileView) → TurnLeft a n made tile now → made < n → StepsUpTo now.plan (place_in_tile now.plan.shape a) 1 steps now.now new.now → new.plan ≡ now.plan → WellShaped new →
    (new ≡ after_next tile a now) × TurnLeft a n (made + 1) tile new
turn_next a n made steps tile now new t h s plan shaped =
    let k : ℕ = place_in_tile tile.plan.shape a in
    let at : new.now ≡ stepped tile.plan.code k now.now = next_is a n made steps tile now new t h s in
    let is : new ≡ after_next tile a now = λ i. record { plan = plan i; now = at i } in
    let left = steps_left a n made tile now t h in
    let here : TileView = record { plan = tile.plan; now = now.now } in
    let below : k < length now.now.threads =
    let low = place_below tile.plan.shape a (and_parts _ _ t.here).0 in
    let count : length now.now.threads ≡ tile_threads tile.plan.shape = t.shaped.fits.threads.count ∙ ap (λ (p : TilePlan). tile_threads p.shape) t.plan in
    omega arith in (
      is,
      record {
        here = t.here;
        plan = plan ∙ t.plan;
        shaped = shaped;
        left = ap (λ s. is_some (steps_of tile.plan k (n - (made + 1)) s)) at ∙ left.1;
        counts = λ less.
            let more = (first_step tile.plan k (n - (made + 1 + 1)) (stepped tile.plan.code k now.now) (ap (λ m. is_some (steps_of tile.plan k m (stepped tile.plan.code k now.now))) (sym (left_now n (made + 1) less)) ∙ left.1)).0 in
            ap can_count at ∙ (ap (λ d. nat_lt d (2 ^ 63)) (counted_on k here below left.0 more) ∙ t.counts h);
      },
    )

-- the steps that are left, one less
turn_more : (a k m : ℕ) (v : TileView) → turn_steps a k (suc m) v ≡ thread_step a k v ++ turn_steps a k m (after_step k v)
unfolding turn_steps
turn_more a k m v = refl

turn_none : (a k : ℕ) (v : TileView) → turn_steps a k 0 v ≡ []
unfolding turn_steps
turn_none a k v = refl

pub turn_pushed : (a n made : ℕ) (tile now new : TileView) (before after : List BagStep) → TurnLeft a n made tile now → made < n → new ≡ after_next tile a now → after ≡ before ++ thread_step a (place_in_tile now.plan.shape a) now →
    after ++ turn_steps a (place_in_tile tile.plan.shape a) (n - (made + 1)) new ≡ before ++ turn_steps a (place_in_tile tile.plan.shape a) (n - made) now
turn_pushed a n made tile now new before after t h is e =
    let k : ℕ = place_in_tile tile.plan.shape a in
    let at : place_in_tile now.plan.shape a ≡ k = ap (λ (p : TilePlan). place_in_tile p.shape a) t.plan in
    let code : after_next tile a now ≡ after_step k now = ap (λ (p : TilePlan). with_now now (stepped p.code k now.now)) (sym t.plan) in
    let m : ℕ = n - (made + 1) in
    ap (λ (ys : List BagStep). ys ++ turn_steps a k m new) (e ∙ ap (λ j. before ++ thread_step a j now) at)
    ∙ (ap (λ v. (before ++ thread_step a k now) ++ turn_steps a k m v) (is ∙ code)
    ∙ (append_assoc before (thread_step a k now) (turn_steps a k m (after_step k now))
    ∙ ap (λ ys. before ++ ys) (sym (ap (λ j. turn_steps a k j now) (left_now n made h) ∙ turn_more a k m now))))

pub turn_whole : (a k n : ℕ) (tile now : TileView) (before : List BagStep) → now ≡ tile → before ++ turn_steps a k (n - 0) now ≡ before ++ turn_steps a k n tile
turn_whole a k n tile now before is = let all : n - 0 ≡ n = omega arith in ap (λ m. before ++ turn_steps a k m now) all ∙ ap (λ v. before ++ turn_steps a k n v) is

pub turn_ends : (a k n made : ℕ) (now : TileView) (before all : List BagStep) → n ≤ made → before ++ turn_steps a k (n - made) now ≡ all → before ≡ all
turn_ends a k n made now before all h e =
    let none : n - made ≡ 0 = omega arith in
    sym (ap (λ (ys : List BagStep). before ++ ys) (ap (λ j. turn_steps a k j now) none ∙ turn_none a k now) ∙ append-nil before) ∙ e
