-- Of a tile that is not still a thread can make a step, or a packet stands on the tile.
use Rattle.std.proofs.Common.{ℕ, suc, ◌≡◌, ◌<◌, ◌==◌, ◌&&◌, ◌||◌, Bool, true, false, refl, ap, ◌∙◌, subst, List, [], ◌∷◌, length, get_or, inl, inr, arith, Option, Some, None, is_some, is_none}
use Rattle.std.specs.Prelude.{◌⊎◌, bit_and}
use Rattle.std.specs.List.{list_all}
use Rattle.std.proofs.lemmas.Bool.{and_cases, and_from, eq-eqb, lt-ltb, or_left, or_right}
use Rattle.tn_base.specs.declared.message.Packet.{Packet}
use Rattle.tn_base.specs.Address.{tile_threads}
use Rattle.tn_node.specs.PortRows.{all_empty}
use Rattle.tn_slots.specs.Pool.{queue_at}
use Rattle.tn_slots.specs.Queues.{first_of}
use Rattle.tn_thread.specs.declared.state.ThreadState.{ThreadState}
use Rattle.tn_thread.specs.declared.state.ThreadState.TheVariants as state
use Rattle.tn_thread.specs.declared.thread.Thread.{Thread}
use Rattle.tn_thread.specs.Sight.{Sight}
use Rattle.tn_thread.specs.Step.{runnable, wait_holds}
use Rattle.tn_tile.specs.Step.{no_thread, pending_at, sight_at, thread_at}
use Rattle.tn_tile.specs.Still.{does_nothing, is_nil}
use Rattle.tn_tile.specs.TileView.{TileView}
use Rattle.polite_flow.specs.Able.{HasStep}
use Rattle.polite_flow.specs.Standing.{TileHas}
use Rattle.polite_flow.specs.Threads.{GoesOn, ThreadGoesOn, TilesMoveUnlessStill}
use Rattle.polite_flow.proofs.Unjammed.{port_has, some_there}

-- ---- lists

-- the first item of a list of which a test does not hold
record Failing {X : Type 0} (f : X → Bool) (xs : List X) (d : X) : Type 0 where
  pub at : ℕ
  pub low : at < length xs
  pub fails : f (get_or xs at d) ≡ false

failing : {X : Type 0} (f : X → Bool) (xs : List X) (d : X) → list_all f xs ≡ false → Failing f xs d
failing f [] d h = cc h
failing f (x ∷ xs) d h = elim (and_cases (f x) (list_all f xs) h) [
  | inl here ↦ record { at = 0; low = omega arith; fails = here }
  | inr there ↦ let more = failing f xs d there in let low = more.low in record { at = suc more.at; low = omega arith; fails = more.fails }
]

-- ---- a thread

-- a thread that has something to do: it is neither idle nor ended, or a letter is in its queue
abbrev HasWork : ThreadState → List ℕ → Type 0
HasWork state queue = (does_nothing state ≡ false) ⊎ (is_nil queue ≡ false)

letter_first : (queue : List ℕ) → is_nil queue ≡ false → is_some (first_of queue) ≡ true
letter_first [] h = cc h
letter_first (s ∷ rest) h = refl

waiting_runs : (waits : ℕ) (seen : Sight) → bit_and waits 1 ≡ 1 → seen.can_send ≡ true → wait_holds waits seen ≡ true
waiting_runs waits seen bit room =
    or_left ((waits == 0) || (bit_and waits 1 == 1 && seen.can_send)) (bit_and waits 2 == 2 && is_some seen.first)
    (or_right (waits == 0) (bit_and waits 1 == 1 && seen.can_send) (and_from (bit_and waits 1 == 1) seen.can_send (eq-eqb (bit_and waits 1) 1 bit) room))

-- the thread at a place is runnable if its send is not pending
runs : (q : ThreadState) (queue : List ℕ) (seen : Sight) → GoesOn q queue → HasWork q queue → seen.first ≡ first_of queue → seen.can_send ≡ true → runnable seen q ≡ true
runs state.Run queue seen g w e room = refl
runs (state.Wait waits) queue seen g w e room = waiting_runs waits.0 seen g room
runs (state.Idle vote) queue seen g (inl busy) e room = cc busy
runs (state.Idle vote) queue seen g (inr letter) e room = ap (λ (o : Option ℕ). is_some o) e ∙ letter_first queue letter
runs (state.Answered value) queue seen g w e room = refl
runs (state.Dead value) queue seen g (inl busy) e room = cc busy
runs (state.Dead value) queue seen g (inr letter) e room = cc (ap (is_nil {X = ℕ}) g, letter)
runs (state.Trapped why) queue seen g w e room = absurd g

thread_moves : (v : TileView) (k : ℕ) (o : Option Packet) → pending_at v.now k ≡ o → k < tile_threads v.plan.shape → ThreadGoesOn v.plan.shape.fuel k v.now → HasWork (thread_at v.now k).state (queue_at v.now.pool k) → TileHas v.now ⊎ HasStep v
thread_moves v k (Some packet) e low g w = inl (inl (k, ap (λ (o : Option Packet). is_some o) e))
thread_moves v k None e low g w =
    let runnable_now = runs (thread_at v.now k).state (queue_at v.now.pool k) (sight_at v.now k) g.state w refl (ap (λ (o : Option Packet). is_none o) e) in
    inr (k, low, and_from _ _ runnable_now (lt-ltb (thread_at v.now k).steps v.plan.shape.fuel (g.left runnable_now)))

-- ---- a tile

pub tiles_move : TilesMoveUnlessStill
tiles_move v fit goes h =
    let s = v.now in
    let count = fit.threads.count in
    let queues = fit.pool.queues in
    elim (and_cases (list_all (λ (t : Thread). does_nothing t.state) s.threads && list_all (is_nil {X = ℕ}) s.pool.queues && list_all is_none s.pending) (all_empty s.node.out) h) [
      | inr waits ↦ inl (inr (port_has s.node.out waits))
      | inl three ↦ elim (and_cases (list_all (λ (t : Thread). does_nothing t.state) s.threads && list_all (is_nil {X = ℕ}) s.pool.queues) (list_all is_none s.pending) three) [
        | inr pending ↦ let found = failing is_none s.pending None pending in inl (inl (found.at, some_there (pending_at s found.at) found.fails))
        | inl two ↦ elim (and_cases (list_all (λ (t : Thread). does_nothing t.state) s.threads) (list_all (is_nil {X = ℕ}) s.pool.queues) two) [
          | inl threads ↦
              let found = failing (λ (t : Thread). does_nothing t.state) s.threads no_thread threads in
              let low : found.at < tile_threads v.plan.shape = subst (λ m. found.at < m) count found.low in
              thread_moves v found.at (pending_at s found.at) refl low (goes found.at low) (inl found.fails)
          | inr letters ↦
              let found = failing (is_nil {X = ℕ}) s.pool.queues [] letters in
              let low : found.at < tile_threads v.plan.shape = subst (λ m. found.at < m) queues found.low in
              thread_moves v found.at (pending_at s found.at) refl low (goes found.at low) (inr found.fails)
        ]
      ]
    ]
