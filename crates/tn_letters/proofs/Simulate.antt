-- One step of a thread is one step of the bag machine, and the letters of its queue are dropped where it ends.
use Rattle.std.proofs.Common.{ℕ, ◌+◌, ◌<◌, ◌≤◌, ◌≡◌, ◌==◌, Bool, true, false, cond, List, [], ◌∷◌, length, get_or, set, refl, sym, ◌∙◌, ap, subst, inl, inr, arith, Option, Some, None, is_none, option_map, MatchOption}
use Rattle.std.specs.Int.{bit_at}
use Rattle.std.proofs.lemmas.Bool.{and_parts}
use Rattle.std.proofs.lemmas.List.{get_or-set_same, get_or-set_other}
use Rattle.std.proofs.lemmas.List.Sums.{sum_by-cons, sum_by-set}
use Rattle.tn_base.specs.declared.message.Letter.{Letter}
use Rattle.tn_base.specs.declared.op.Op.{Op}
use Rattle.tn_base.specs.Address.{in_tile, place_in_tile, tile_of, tile_place, tile_threads}
use Rattle.tn_base.specs.Parts.{tile_part}
use Rattle.tn_base.proofs.TilePlaces.{place_named}
use Rattle.tn_slots.specs.Pool.{key_for, key_in, queue_at, slot_at, taken_from}
use Rattle.tn_slots.specs.Queues.{first_of}
use Rattle.tn_slots.specs.WellKept.{WellKept}
use Rattle.tn_slots.proofs.Kept.{first_owed}
use Rattle.tn_thread.specs.Fits.{OpFits, StepFits}
use Rattle.tn_thread.specs.Step.{Stepped, runnable}
use Rattle.tn_tile.specs.Kept.{IsFit}
use Rattle.tn_tile.specs.Step.{acted, can_step, next_step, no_thread, pending_at, sight_at, step_at_place, thread_at, with_thread}
use Rattle.tn_tile.specs.declared.state.TileState.{TileState}
use Rattle.tn_tile.specs.TileView.{TileView, with_now}
use Rattle.tn_tile.proofs.Packed.{few_places}
use Rattle.tn_tile.proofs.Moved.{next_fits, step_fits}
use Rattle.tn_rows.specs.PartView.{TileV, AbsentV}
use Rattle.tn_rows.specs.WorldView.{WorldView}
use Rattle.tn_host.specs.HostView.{HostState}
use Rattle.tn_letters.specs.declared.steps.BagStep.{BagStep}
use Rattle.tn_letters.specs.declared.steps.Seen.{Seen}
use Rattle.tn_letters.specs.Law.{dropped_in, dropped_on}
use Rattle.tn_letters.specs.Letters.{SameBag, Takes}
use Rattle.tn_letters.specs.Machine.{BagRun, Happens, IsAllowed, MayStandFirst, MayStep, SamePacket, own_step, sight, with_own_step}
use Rattle.tn_letters.specs.Standing.{standing_letters}
use Rattle.tn_letters.specs.State.{Agree, BagState, put}
use Rattle.tn_letters.specs.Steps.{seen_at}
use Rattle.tn_letters.specs.Tiles.{held_in, held_of, host_on, letter_in, part_for, program_of, reach_of, thread_in, thread_of, tile_for}
use Rattle.tn_letters.proofs.Homes.{home_same}
use Rattle.tn_letters.proofs.Lift.{Good, GoodTile, On, Stands, good_lift, good_now, host_beside, lift_put, lift_same, part_is, place_within, program_stays, tile_is, tile_on, tile_stands, with_tile}
use Rattle.tn_letters.proofs.Runs.{same_refl}
use Rattle.tn_letters.proofs.Slots.{taken_w}
use Rattle.tn_letters.proofs.Weights.{same_bag, tile_w}

-- the state that the parts of a machine have now, beside what they do not show
abbrev pub shown : (ℕ → List Letter) → List Letter → WorldView → BagState
shown got dropped w = record {
  threads = thread_of w;
  flight = standing_letters w;
  got = got;
  held = held_of w;
  dropped = dropped;
  host = (host_on w).got;
  script = (host_on w).script;
  host_sends = (host_on w).sends;
  announcements = 0;
}

-- a thread of a tile of a machine, as all lemmas take it
pub record Place (w : WorldView) (p : ℕ) (v : TileView) (a k : ℕ) : Type 0 where
  pub good : Good w
  pub on : On w p v
  pub stands : Stands w.shape v a k

pub tile_good : (w : WorldView) (p a k : ℕ) (v : TileView) → Place w p v a k → GoodTile w.shape p v
tile_good w p a k v c = tile_on w p v c.good c.on

-- the sizes of the tile
pub record Sizes (w : WorldView) (v : TileView) (k : ℕ) : Type 0 where
  pub few : tile_threads v.plan.shape ≤ 64
  pub below : k < tile_threads v.plan.shape
  pub queues : k < length v.now.pool.queues
  pub threads : k < length v.now.threads
  pub pending : k < length v.now.pending

pub sizes : (w : WorldView) (p a k : ℕ) (v : TileView) → Place w p v a k → Sizes w v k
sizes w p a k v c =
    let t = tile_good w p a k v c in
    let below : k < tile_threads v.plan.shape = subst (λ n. k < tile_threads n) (sym t.shape) (place_within w.shape v a k c.stands) in
    let queues = t.shaped.fits.pool.queues in
    let threads = t.shaped.fits.threads.count in
    let pending = t.shaped.fits.pending.count in
    record {
      few = subst (λ n. tile_threads n ≤ 64) (sym t.shape) (few_places w.shape c.good.limits);
      below = below;
      queues = omega arith;
      threads = omega arith;
      pending = omega arith;
    }

pub part_of_place : (w : WorldView) (p a k : ℕ) (v : TileView) → Place w p v a k → part_for w a ≡ p
part_of_place w p a k v c = part_is w p a k v c.good c.on c.stands

-- the address of the place
pub address_is : (w : WorldView) (p a k : ℕ) (v : TileView) → Place w p v a k → in_tile v.plan.shape v.plan.tile k ≡ a
address_is w p a k v c =
    ap (λ n. in_tile n v.plan.tile k) (tile_good w p a k v c).shape
    ∙ (ap (λ t. in_tile w.shape t k) (sym c.stands.tile) ∙ (ap (in_tile w.shape (tile_of a)) (sym c.stands.place) ∙ place_named w.shape a c.stands.there))

-- a fact of the thread's tile and place, read in the machine
pub read : {A : Type 0} (g : TileView → ℕ → A) (w : WorldView) (p a k : ℕ) (v : TileView) → Place w p v a k → g (tile_for w a) (place_in_tile w.shape a) ≡ g v k
read g w p a k v c = ap (λ t. g t (place_in_tile w.shape a)) (tile_is w p v a c.on (part_of_place w p a k v c)) ∙ ap (g v) c.stands.place

-- ---- what is seen, and the thread's own step

bytes_of : (b : Bool) (l : Letter) → option_map (λ (x : Letter). x.bytes) (cond b (Some l) None) ≡ cond b (Some l.bytes) None
bytes_of true l = refl
bytes_of false l = refl

abbrev own_in : Seen → TileView → ℕ → Stepped
own_in seen v k = next_step v.plan.code (record { can_send = seen.can_send; first = seen.first; key = seen.key; held = λ s. option_map (λ (l : Letter). l.bytes) (held_in v k s) }) (thread_at v.now k)

sight_is : (v : TileView) (k : ℕ) → record { can_send = is_none (pending_at v.now k); first = first_of (queue_at v.now.pool k); key = key_for v.now.pool k; held = λ s. option_map (λ (l : Letter). l.bytes) (held_in v k s) } ≡ sight_at v.now k
sight_is v k = λ i. record {
  can_send = is_none (pending_at v.now k);
  first = first_of (queue_at v.now.pool k);
  key = key_for v.now.pool k;
  held = λ s. bytes_of (bit_at (slot_at v.now.pool s).holders k == 1) (letter_in v k s) i;
}

pub own_is : (got : ℕ → List Letter) (dropped : List Letter) (w : WorldView) (p a k : ℕ) (v : TileView) → Place w p v a k → own_step (program_of w) a (seen_at v k) (shown got dropped w) ≡ step_at_place v.plan.code k v.now
own_is got dropped w p a k v c = read (own_in (seen_at v k)) w p a k v c ∙ ap (λ seen. next_step v.plan.code seen (thread_at v.now k)) (sight_is v k)

abbrev can_in : Seen → TileView → ℕ → Bool
can_in seen v k = runnable (record { can_send = seen.can_send; first = seen.first; key = seen.key; held = λ s. option_map (λ (l : Letter). l.bytes) (held_in v k s) }) (thread_at v.now k).state

can_is : (got : ℕ → List Letter) (dropped : List Letter) (w : WorldView) (p a k : ℕ) (v : TileView) → Place w p v a k → can_step v.plan.shape.fuel k v.now ≡ true →
    runnable (sight (seen_at v k) a (shown got dropped w)) (thread_of w a).state ≡ true
can_is got dropped w p a k v c can = read (can_in (seen_at v k)) w p a k v c ∙ (ap (λ seen. runnable seen (thread_at v.now k).state) (sight_is v k) ∙ (and_parts _ _ can).0)

-- ---- the first letter of a queue may stand there

same_packet : (b : Bool) (x l : Letter) → SamePacket x l → MatchOption (cond b (Some x) None) (Unit {0}) (λ y. SamePacket y l)
same_packet true x l e = e
same_packet false x l e = tt

pub first_leaves : (w : WorldView) (p a k s : ℕ) (rest : List ℕ) (v new : TileView) → Place w p v a k → queue_at v.now.pool k ≡ s ∷ rest →
    ((f : Letter → ℕ) → tile_w f (reach_of w) new ≡ tile_w f (reach_of w) (with_now v (record v.now { pool = taken_from k (s ∷ rest) v.now.pool }))) → Takes (standing_letters w) (letter_in v k s) (standing_letters (with_tile w p new))
first_leaves w p a k s rest v new c e same =
    let z = sizes w p a k v c in
    let owed = first_owed v.now.pool (tile_good w p a k v c).kept k s rest z.queues e in
    let l : Letter = letter_in v k s in
    same_bag _ _ (λ f.
    let x = taken_w f v k s (set v.now.pool.queues k rest) z.below z.few owed in
    let y = same f in
    let t = tile_stands f w p v new (f l) 0 c.on (omega arith) in
    let u = sum_by-cons f l (standing_letters (with_tile w p new)) in
    omega arith)

pub first_stands : (got : ℕ → List Letter) (dropped : List Letter) (w : WorldView) (p a k s : ℕ) (rest : List ℕ) (v : TileView) → Place w p v a k → queue_at v.now.pool k ≡ s ∷ rest →
    MayStandFirst w.shape (shown got dropped w) a s (letter_in v k s)
first_stands got dropped w p a k s rest v c e =
    let z = sizes w p a k v c in
    let t = tile_good w p a k v c in
    let owed = first_owed v.now.pool t.kept k s rest z.queues e in
    let apart = t.kept.apart k s z.queues in
    let l : Letter = letter_in v k s in
    let free : bit_at (slot_at v.now.pool s).holders k ≡ 0 = omega arith in
    record {
      flying = (standing_letters (with_tile w p (with_now v (record v.now { pool = taken_from k (s ∷ rest) v.now.pool }))), first_leaves w p a k s rest v (with_now v (record v.now { pool = taken_from k (s ∷ rest) v.now.pool })) c e (λ f. refl));
      receiver = address_is w p a k v c;
      not_held = read (λ x j. held_in x j s) w p a k v c ∙ ap (λ b. cond (b == 1) (Some l) None) free;
      shared = λ b h near.
          let here : part_for w b ≡ p = ap (λ x. tile_part (tile_place w.shape x)) (near ∙ c.stands.tile) ∙ t.part in
          subst (λ (x : TileView). MatchOption (held_in x (place_in_tile w.shape b) s) (Unit {0}) (λ y. SamePacket y l)) (sym (tile_is w p v b c.on here))
          (same_packet (bit_at (slot_at v.now.pool s).holders (place_in_tile w.shape b) == 1) (letter_in v (place_in_tile w.shape b) s) l (refl, refl, refl));
    }

allowed_by : (got : ℕ → List Letter) (dropped : List Letter) (w : WorldView) (p a k : ℕ) (v : TileView) (q : List ℕ) → Place w p v a k → queue_at v.now.pool k ≡ q → IsAllowed w.shape (shown got dropped w) a (seen_at v k)
allowed_by got dropped w p a k v [] c e = inl (ap first_of e, ap (λ q. option_map (λ s. key_in (slot_at v.now.pool s).bytes) (first_of q)) e)
allowed_by got dropped w p a k v (s ∷ rest) c e = inr (
  letter_in v k s,
  record {
    slot = s;
    first = ap first_of e;
    key = ap (λ q. option_map (λ s. key_in (slot_at v.now.pool s).bytes) (first_of q)) e;
    stands = first_stands got dropped w p a k s rest v c e;
  },
)

pub may_step : (got : ℕ → List Letter) (dropped : List Letter) (w : WorldView) (p a k : ℕ) (v : TileView) → Place w p v a k → can_step v.plan.shape.fuel k v.now ≡ true → MayStep (program_of w) (shown got dropped w) a (seen_at v k)
may_step got dropped w p a k v c can = record {
  there = c.stands.there;
  allowed = allowed_by got dropped w p a k v (queue_at v.now.pool k) c refl;
  runnable = can_is got dropped w p a k v c can;
}

-- ---- what a step leaves

-- the tile after a step of the thread at a place that asks for this
abbrev pub next : TileView → ℕ → Op → TileState
next v k o = acted k (thread_at v.now k) o (with_thread k (step_at_place v.plan.code k v.now).thread v.now)

-- a run of the bag machine from what a machine shows to what another one does
pub record Reached (got : ℕ → List Letter) (dropped : List Letter) (old : WorldView) (steps : List BagStep) (new : WorldView) : Type 0 where
  pub now : ℕ → List Letter
  pub gone : List Letter
  pub run : BagRun (program_of old) (shown got dropped old) steps (shown now gone new)
  pub good : Good new
  pub program : program_of new ≡ program_of old
  pub count : length gone + dropped_in old ≡ length dropped + dropped_in new

pub threads_after : (got : ℕ → List Letter) (dropped : List Letter) (w : WorldView) (p a k : ℕ) (v : TileView) (new : TileState) → Place w p v a k → new.threads ≡ set v.now.threads k (step_at_place v.plan.code k v.now).thread →
    Agree w.shape (put (thread_of w) a (own_step (program_of w) a (seen_at v k) (shown got dropped w)).thread) (thread_of (with_tile w p (with_now v new)))
threads_after got dropped w p a k v new c e =
    let z = sizes w p a k v c in
    lift_put thread_in w p a k v (with_now v new) (own_step (program_of w) a (seen_at v k) (shown got dropped w)).thread c.good c.on c.stands
    (ap (λ ts. get_or ts k no_thread) e ∙ (get_or-set_same v.now.threads k (step_at_place v.plan.code k v.now).thread no_thread z.threads ∙ sym (ap (λ (r : Stepped). r.thread) (own_is got dropped w p a k v c))))
    (λ j h ne. ap (λ ts. get_or ts j no_thread) e ∙ get_or-set_other v.now.threads k j (step_at_place v.plan.code k v.now).thread no_thread ne)

pub own_op : (got : ℕ → List Letter) (dropped : List Letter) (w : WorldView) (p a k : ℕ) (v : TileView) (o : Op) → Place w p v a k → (step_at_place v.plan.code k v.now).op ≡ o → (own_step (program_of w) a (seen_at v k) (shown got dropped w)).op ≡ o
own_op got dropped w p a k v o c e = ap (λ (r : Stepped). r.op) (own_is got dropped w p a k v c) ∙ e

pub does_fit : (v : TileView) (k : ℕ) → can_step v.plan.shape.fuel k v.now ≡ true → StepFits (sight_at v.now k) (thread_at v.now k) (step_at_place v.plan.code k v.now)
does_fit v k can = next_fits v.plan.code (sight_at v.now k) (thread_at v.now k) (and_parts _ _ can).0

pub op_fits : (v : TileView) (k : ℕ) (o : Op) → can_step v.plan.shape.fuel k v.now ≡ true → (step_at_place v.plan.code k v.now).op ≡ o → OpFits (sight_at v.now k) (thread_at v.now k) (step_at_place v.plan.code k v.now).thread o
op_fits v k o can e = subst (OpFits (sight_at v.now k) (thread_at v.now k) (step_at_place v.plan.code k v.now).thread) e (does_fit v k can).op

pub fits_after : (w : WorldView) (p a k : ℕ) (v : TileView) (o : Op) → Place w p v a k → can_step v.plan.shape.fuel k v.now ≡ true → (step_at_place v.plan.code k v.now).op ≡ o → IsFit v.plan (next v k o)
fits_after w p a k v o c can e =
    let z = sizes w p a k v c in
    subst (λ x. IsFit v.plan (next v k x)) e (step_fits v.plan k v.now z.below can (tile_good w p a k v c).shaped.fits)

-- the count of the dropped letters, where a tile is another one
pub dropped_after : (w : WorldView) (p : ℕ) (v new : TileView) → On w p v → dropped_in (with_tile w p new) + v.now.dropped ≡ dropped_in w + new.now.dropped
dropped_after w p v new on =
    let a = sum_by-set dropped_on w.parts p (TileV new) AbsentV on.within in
    let b : dropped_on (get_or w.parts p AbsentV) ≡ v.now.dropped = ap dropped_on on.is in
    omega arith

-- a step that moves no letter
pub quiet_bag : (w : WorldView) (p : ℕ) (v new : TileView) → On w p v → ((f : Letter → ℕ) → tile_w f (reach_of w) new ≡ tile_w f (reach_of w) v) → SameBag (standing_letters w) (standing_letters (with_tile w p new))
quiet_bag w p v new on e = same_bag _ _ (λ f. let a = e f in let b = tile_stands f w p v new 0 0 on (omega arith) in omega arith)

-- of a step that leaves the pool and the count of dropped letters
pub plain : (got : ℕ → List Letter) (dropped : List Letter) (w : WorldView) (p a k : ℕ) (v : TileView) (new : TileState) (step : BagStep) → Place w p v a k → Happens (program_of w) step (shown got dropped w) (with_own_step (program_of w) a (seen_at v k) (shown got dropped w)) →
    IsFit v.plan new → new.threads ≡ set v.now.threads k (step_at_place v.plan.code k v.now).thread → new.pool ≡ v.now.pool → new.dropped ≡ v.now.dropped → new.pending ≡ v.now.pending → new.node ≡ v.now.node →
    ((f : Letter → ℕ) → tile_w f (reach_of w) (with_now v new) ≡ tile_w f (reach_of w) v) → ((j : ℕ) → held_in (with_now v new) j ≡ held_in v j) →
    Reached got dropped w (step ∷ []) (with_tile w p (with_now v new))
plain got dropped w p a k v new step c happens fits threads pool drops pending node weighs holds =
    let t = tile_good w p a k v c in
    let after : BagState = with_own_step (program_of w) a (seen_at v k) (shown got dropped w) in
    record {
      now = got;
      gone = dropped;
      run = (
        shown got dropped w,
        after,
        same_refl w.shape (shown got dropped w),
        happens,
        record {
          threads = threads_after got dropped w p a k v new c threads;
          flight = quiet_bag w p v (with_now v new) c.on weighs;
          got = λ b h. refl;
          held = λ b slot h. ap (λ (x : ℕ → Option Letter). x slot) (lift_same held_in w p v (with_now v new) c.on (λ j u. holds j) b h);
          dropped = refl;
          host = ap (λ (h : HostState). h.got) (host_beside w p v (with_now v new) c.on);
          script = ap (λ (h : HostState). h.script) (host_beside w p v (with_now v new) c.on);
          host_sends = ap (λ (h : HostState). h.sends) (host_beside w p v (with_now v new) c.on);
          announcements = refl;
        },
      );
      good = good_lift w p v (with_now v new) c.good c.on (good_now w.shape p v new t fits (subst WellKept (sym pool) t.kept) (home_same v new pending node t.home));
      program = program_stays w p v (with_now v new) c.on refl;
      count = let d = dropped_after w p v (with_now v new) c.on in omega arith;
    }
