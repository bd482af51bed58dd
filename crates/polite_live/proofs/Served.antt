-- A tile without a free slot has a thread that can make a step.
use Rattle.std.proofs.Common.{ℕ, zero, suc, ◌≡◌, ◌<◌, ◌⊎◌, ◌∙◌, true, cond, IsTrue, List, [], ◌∷◌, length, get_or, refl, sym, ap, subst, inl, inr, arith, Some, None, is_some}
use Rattle.std.specs.Int.{bit_at}
use Rattle.std.proofs.lemmas.Bool.{and_from, cases_lt, eq-eqb, lt-ltb}
use Rattle.std.proofs.lemmas.Bool.Decides.{nat_tests}
use Rattle.std.proofs.lemmas.List.{get_or_past}
use Rattle.tn_base.specs.declared.event.Event.{Event}
use Rattle.tn_base.specs.declared.message.Letter.{Letter}
use Rattle.tn_base.specs.declared.shape.ShapeNumbers.{ShapeNumbers}
use Rattle.tn_base.specs.Address.{has_thread, has_tile, in_tile, tile_threads}
use Rattle.tn_base.proofs.TilePlaces.{place_back, place_there}
use Rattle.tn_letters.specs.Letters.{host_address}
use Rattle.tn_letters.specs.Settled.{settled}
use Rattle.tn_letters.specs.Tiles.{held_in, letter_in, thread_in, thread_of}
use Rattle.tn_letters.proofs.Lift.{Good, GoodTile, On, tile_on}
use Rattle.tn_letters.proofs.Simulate.{Place, first_stands, read}
use Rattle.tn_rows.specs.PartView.{TileV, AbsentV}
use Rattle.tn_rows.specs.WorldView.{WorldView}
use Rattle.tn_slots.specs.PoolModel.{PoolModel}
use Rattle.tn_slots.specs.Pool.{first_free, queue_at, slot_at}
use Rattle.tn_slots.specs.Queues.{first_of}
use Rattle.tn_slots.specs.WellKept.{Unused, WellKept, times}
use Rattle.tn_slots.proofs.Lists.{bit_cases}
use Rattle.tn_slots.proofs.Unused.{first_unused}
use Rattle.tn_thread.specs.Step.{runnable}
use Rattle.tn_tile.specs.Step.{sight_at, thread_at}
use Rattle.tn_tile.specs.TileView.{TileView}
use Rattle.polite_edges.specs.Deeds.{value_of}
use Rattle.polite_edges.specs.Histories.{history_deeds}
use Rattle.polite_edges.specs.Layout.{Layout}
use Rattle.polite_flow.specs.Threads.{GoesOn, ThreadGoesOn}
use Rattle.polite_live.specs.Live.{FullTilesStep}
use Rattle.polite_live.proofs.Holders.{Known, holder_runs, owed_runs}
use Rattle.polite_live.proofs.Late.{end_takes}
use Rattle.polite_live.proofs.Released.{Later, settled_later}
use Rattle.polite_live.proofs.Runs.{AtEnd, at_end}

-- ---- the first slot of a pool without a free slot has a thread

-- the first bit that is 1 of n bits, or all are 0
first_one : (f : ℕ → ℕ) (n : ℕ) → ((k : ℕ) → (f k ≡ 1) ⊎ (f k ≡ 0)) → ((k : ℕ) × (k < n) × (f k ≡ 1)) ⊎ ((k : ℕ) → k < n → f k ≡ 0)
first_one f zero bit = inr (λ k low. absurd (omega arith))
first_one f (suc n) bit = elim (first_one f n bit) [
  | inl found ↦ inl (found.0, (let low = found.1 in omega arith), found.2)
  | inr none ↦ elim (bit n) [
    | inl here ↦ inl (n, omega arith, here)
    | inr not ↦ inr (λ k low. elim (cases_lt k n) [
      | inl before ↦ none k before
      | inr past ↦ let same : k ≡ n = omega arith in ap f same ∙ not
    ])
  ]
]

-- a thread of the pool is owed the slot, or holds it
pub record User (p : PoolModel) (s : ℕ) : Type 0 where
  pub thread : ℕ
  pub below : thread < length p.queues
  pub uses : (bit_at (slot_at p s).owed thread ≡ 1) ⊎ (bit_at (slot_at p s).holders thread ≡ 1)

user_of : (p : PoolModel) (s : ℕ) → (Unused p s → ⊥) → User p s
user_of p s used = elim (first_one (λ k. bit_at (slot_at p s).owed k) (length p.queues) (bit_cases (slot_at p s).owed)) [
  | inl owed ↦ record { thread = owed.0; below = owed.1; uses = inl owed.2 }
  | inr no_owed ↦ elim (first_one (λ k. bit_at (slot_at p s).holders k) (length p.queues) (bit_cases (slot_at p s).holders)) [
    | inl held ↦ record { thread = held.0; below = held.1; uses = inr held.2 }
    | inr no_held ↦ absurd (used (record { not_owed = no_owed; not_held = no_held }))
  ]
]

full_user : (p : PoolModel) → WellKept p → 0 < length p.slots → first_free p ≡ None → User p 0
full_user p w some full = user_of p 0 (first_unused p None w full 0 some)

-- ---- the places of the tile

there_at : (w : WorldView) (p : ℕ) (v : TileView) → get_or w.parts p AbsentV ≡ TileV v → p < length w.parts
there_at w p v e = elim (cases_lt p (length w.parts)) [
  | inl within ↦ within
  | inr past ↦ absurd (let no : AbsentV ≡ TileV v = sym (get_or_past w.parts p AbsentV past) ∙ e in cc)
]

on_at : (w : WorldView) (p : ℕ) (v : TileView) → Good w → get_or w.parts p AbsentV ≡ TileV v → On w p v
on_at w p v good e = let within = there_at w p v e in let n = good.count in record { within = within; below = omega arith; is = e }

place_at : (w : WorldView) (p k : ℕ) (v : TileView) → Good w → On w p v → k < tile_threads v.plan.shape → Place w p v (in_tile w.shape v.plan.tile k) k
place_at w p k v good on low =
    let t : GoodTile w.shape p v = tile_on w p v good on in
    let has : IsTrue (has_tile w.shape v.plan.tile) = subst (λ n. IsTrue (has_tile n v.plan.tile)) t.shape t.shaped.tile in
    let below : k < tile_threads w.shape = subst (λ n. k < tile_threads n) t.shape low in
    let back = place_back w.shape v.plan.tile k good.limits has below in
    record { good = good; on = on; stands = record { there = place_there w.shape v.plan.tile k good.limits has below; tile = back.0; place = back.1 } }

-- the host's address is not that of a thread
no_host : (n : ShapeNumbers) (a : ℕ) → IsTrue (has_thread n a) → a ≡ host_address → ⊥
no_host n a h e = let low : a < 16384 = grind (arith, nat_tests) in absurd (omega arith)

-- ---- the thread that uses the slot

-- a thread of the tile at the end of a run, and what is known of it
pub record Seat (g : Layout) (start end : WorldView) (history : List Event) (p a k : ℕ) (v : TileView) : Type 0 where
  pub place : Place end p v a k
  pub at_end : AtEnd g start end history
  pub later : Later (thread_at v.now k) (thread_of (settled end) a)
  pub known : Known g a (thread_of (settled end) a) (at_end.bag.state.held a) (at_end.ends.node a) (history_deeds start history)

seat_at : (g : Layout) (start end : WorldView) (history : List Event) (p a k : ℕ) (v : TileView) → AtEnd g start end history → Place end p v a k → Seat g start end history p a k v
seat_at g start end history p a k v e place =
    let has : IsTrue (has_thread g.shape a) = subst (λ n. IsTrue (has_thread n a)) (sym e.shape) place.stands.there in
    let same : e.bag.state.threads a ≡ thread_of (settled end) a = e.bag.shows.threads a place.stands.there in
    record {
      place = place;
      at_end = e;
      later = subst (λ t. Later t (thread_of (settled end) a)) (read thread_in end p a k v place) (settled_later end a);
      known = subst (λ t. Known g a t (e.bag.state.held a) (e.ends.node a) (history_deeds start history)) same (record {
        shown = e.ends.shows.nodes a has;
        kept = e.ends.echo.kept.threads a has;
        fine = e.ends.inv.fine.nodes a has;
        closes = e.ends.echo.closes a has;
      });
    }

-- the thread holds the slot
held_runs : (g : Layout) (start end : WorldView) (history : List Event) (p a k slot : ℕ) (v : TileView) → Seat g start end history p a k v → GoesOn (thread_at v.now k).state (queue_at v.now.pool k) → bit_at (slot_at v.now.pool slot).holders k ≡ 1 →
    runnable (sight_at v.now k) (thread_at v.now k).state ≡ true
held_runs g start end history p a k slot v s goes one =
    let e = s.at_end in
    let l : Letter = letter_in v k slot in
    let here : held_in v k slot ≡ Some l = ap (λ b. cond b (Some l) None) (eq-eqb (bit_at (slot_at v.now.pool slot).holders k) 1 one) in
    let held : e.bag.state.held a slot ≡ Some l = e.bag.shows.held a slot s.place.stands.there ∙ (read (λ x j. held_in x j slot) end p a k v s.place ∙ here) in
    holder_runs (sight_at v.now k) (queue_at v.now.pool k) g a slot (thread_at v.now k) (thread_of (settled end) a) l (e.bag.state.held a) (e.ends.node a) (history_deeds start history) s.later s.known goes held

-- the thread has a letter in its queue
queued_runs : (g : Layout) (start end : WorldView) (history : List Event) (p a k : ℕ) (v : TileView) (queue : List ℕ) → Seat g start end history p a k v → GoesOn (thread_at v.now k).state queue → queue_at v.now.pool k ≡ queue → (queue ≡ [] → ⊥) →
    runnable (sight_at v.now k) (thread_at v.now k).state ≡ true
queued_runs g start end history p a k v [] s goes e some = absurd (some refl)
queued_runs g start end history p a k v (slot ∷ rest) s goes e some =
    let x = s.at_end in
    let first : is_some (sight_at v.now k).first ≡ true = ap (λ q. is_some (first_of q)) e in
    let stands = first_stands (λ b. []) [] end p a k slot rest v s.place e in
    let early : value_of (history_deeds start history) ≡ 2 → ⊥ = λ two. no_host end.shape a s.place.stands.there (sym stands.receiver ∙ end_takes g start end history (letter_in v k slot) stands.flying.0 x two stands.flying.1) in
    owed_runs (sight_at v.now k) slot rest g a (thread_at v.now k) (thread_of (settled end) a) (x.bag.state.held a) (x.ends.node a) (history_deeds start history) s.later s.known goes first early

-- a thread that is owed the slot has a letter in its queue
owed_queue : (p : PoolModel) (k slot : ℕ) → WellKept p → k < length p.queues → bit_at (slot_at p slot).owed k ≡ 1 → queue_at p k ≡ [] → ⊥
owed_queue p k slot w low one none =
    let e = w.each k slot low in
    let z = ap (times slot) none in
    absurd (omega arith)

user_runs : (g : Layout) (start end : WorldView) (history : List Event) (p a k slot : ℕ) (v : TileView) → Seat g start end history p a k v → GoesOn (thread_at v.now k).state (queue_at v.now.pool k) → WellKept v.now.pool → k < length v.now.pool.queues →
    (bit_at (slot_at v.now.pool slot).owed k ≡ 1) ⊎ (bit_at (slot_at v.now.pool slot).holders k ≡ 1) → runnable (sight_at v.now k) (thread_at v.now k).state ≡ true
user_runs g start end history p a k slot v s goes w low (inl owed) = queued_runs g start end history p a k v (queue_at v.now.pool k) s goes refl (owed_queue v.now.pool k slot w low owed)
user_runs g start end history p a k slot v s goes w low (inr held) = held_runs g start end history p a k slot v s goes held

-- ---- the tile

pub full_tiles_step : FullTilesStep
full_tiles_step g start end history p v h is goes full =
    let e = at_end g start end history h in
    let on = on_at end p v e.good is in
    let t : GoodTile end.shape p v = tile_on end p v e.good on in
    let slots = t.shaped.fits.pool.slots in
    let queues = t.shaped.fits.pool.queues in
    let limit = e.good.limits.slots.0 in
    let shape = ap (λ (n : ShapeNumbers). n.slots) t.shape in
    let user = full_user v.now.pool t.kept (omega arith) full in
    let k = user.thread in
    let low : k < tile_threads v.plan.shape = (let b = user.below in omega arith) in
    let a = in_tile end.shape v.plan.tile k in
    let seat = seat_at g start end history p a k v e (place_at end p k v e.good on low) in
    let mine : ThreadGoesOn v.plan.shape.fuel k v.now = goes k low in
    let runs = user_runs g start end history p a k 0 v seat mine.state t.kept user.below user.uses in
    (k, low, and_from _ _ runs (lt-ltb (thread_at v.now k).steps v.plan.shape.fuel (mine.left runs)))
