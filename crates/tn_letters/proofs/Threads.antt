-- Each step of a thread, by what it asks for.
use Rattle.std.proofs.Common.{ℕ, ◌+◌, ◌<◌, ◌≡◌, ◌==◌, Bool, true, false, cond, List, [], ◌∷◌, ◌++◌, length, get_or, set, map, refl, sym, ◌∙◌, ap, subst, arith, Option, Some, None, is_none, is_some, option_map, unwrap_or, IsTrue, length-append, sum_by}
use Rattle.std.specs.Int.{bit_at}
use Rattle.std.proofs.lemmas.Bool.{eq-eqb, eqb-true}
use Rattle.std.proofs.lemmas.List.{get_or-set_same, get_or-set_other, length-map}
use Rattle.std.proofs.lemmas.List.Sums.{sum_by-append}
use Rattle.tn_base.specs.declared.ids.ThreadId.{ThreadId}
use Rattle.tn_base.specs.declared.message.Dest.{Dest}
use Rattle.tn_base.specs.declared.message.Letter.{Letter}
use Rattle.tn_base.specs.declared.message.Packet.{Packet}
use Rattle.tn_base.specs.declared.op.Op.{Op}
use Rattle.tn_base.specs.declared.op.Op.TheVariants as op
use Rattle.tn_base.specs.declared.shape.ShapeNumbers.{ShapeNumbers}
use Rattle.tn_base.specs.Address.{has_thread, in_tile, tile_threads}
use Rattle.tn_slots.specs.Pool.{Holds, held_by, key_in, queue_at, slot_at, taken_from}
use Rattle.tn_slots.specs.Queues.{first_of}
use Rattle.tn_slots.proofs.Kept.{first_owed, freed_kept, held_within, left_kept, owed_within, taken_kept}
use Rattle.tn_thread.specs.declared.thread.Thread.{Thread}
use Rattle.tn_thread.specs.Step.{Stepped}
use Rattle.tn_tile.specs.Kept.{IsFit}
use Rattle.tn_tile.specs.Receivers.{is_dead}
use Rattle.tn_tile.specs.Step.{can_step, pending_at, step_at_place, thread_at, with_thread}
use Rattle.tn_tile.specs.declared.state.TileState.{TileState}
use Rattle.tn_tile.specs.TileView.{TileView, with_now}
use Rattle.tn_rows.specs.WorldView.{WorldView}
use Rattle.tn_host.specs.HostView.{HostState}
use Rattle.tn_letters.specs.declared.steps.BagStep.{BagStep}
use Rattle.tn_letters.specs.declared.steps.BagStep.TheVariants as bag
use Rattle.tn_letters.specs.Letters.{board_of, letters, packet_letters}
use Rattle.tn_letters.specs.Machine.{IsPrivate, ended_by, freed, handed, own_step, sent_by, with_own_step}
use Rattle.tn_letters.specs.Standing.{standing_letters}
use Rattle.tn_letters.specs.State.{BagState, put}
use Rattle.tn_letters.specs.Steps.{after_step, dropped_by, first_letter, queued, seen_at, step_by, thread_step}
use Rattle.tn_letters.specs.Tiles.{held_in, held_of, letter_in, program_of, reach_of, thread_in, thread_of}
use Rattle.tn_letters.proofs.Holding.{freed_here, freed_others, left_here, left_others, taken_here, taken_others}
use Rattle.tn_letters.proofs.Homes.{home_sent, tile_board}
use Rattle.tn_letters.proofs.Lift.{Homed, good_lift, good_now, host_beside, lift_put, lift_same, program_stays, tile_stands, with_tile}
use Rattle.tn_letters.proofs.Runs.{ForDead, discards, run_before, same_refl}
use Rattle.tn_letters.proofs.Slots.{freed_w, left_w}
use Rattle.tn_letters.proofs.Sums.{sum_one}
use Rattle.tn_letters.proofs.Weights.{packet_w, same_bag, tile_w}
use Rattle.tn_letters.proofs.Simulate.{Place, Reached, address_is, dropped_after, first_leaves, first_stands, may_step, next, op_fits, own_is, own_op, plain, quiet_bag, read, fits_after, shown, sizes, threads_after, tile_good}

none_from : (o : Option Packet) → is_none o ≡ true → o ≡ None
none_from None e = refl
none_from (Some x) e = cc e

-- a packet is pending at a thread, or none is
pub pending_set : (f : Letter → ℕ) (w : WorldView) (v : TileView) (k : ℕ) (o : Option Packet) → k < tile_threads v.plan.shape → k < length v.now.pending →
    tile_w f (reach_of w) (with_now v (record v.now { pending = set v.now.pending k o })) + packet_w f v.plan.shape (reach_of w) (pending_at v.now k) ≡ tile_w f (reach_of w) v + packet_w f v.plan.shape (reach_of w) o
pending_set f w v k o h within =
    let a = sum_one (λ j. packet_w f v.plan.shape (reach_of w) (get_or (set v.now.pending k o) j None)) (λ j. packet_w f v.plan.shape (reach_of w) (pending_at v.now j)) 0 (tile_threads v.plan.shape) k (omega arith) (omega arith)
    (λ j u ne. ap (packet_w f v.plan.shape (reach_of w)) (get_or-set_other v.now.pending k j o None ne)) in
    let b = ap (packet_w f v.plan.shape (reach_of w)) (get_or-set_same v.now.pending k o None within) in
    omega arith

abbrev pub packet_of : TileView → ℕ → Dest → List ℕ → Packet
packet_of v k to bytes = record { origin = (thread_at v.now k).id.0; number = (thread_at v.now k).sends; dest = to; bytes = bytes }

-- the letters of a send are those of the packet
letters_are : (w : WorldView) (p a k : ℕ) (v : TileView) (to : Dest) (bytes : List ℕ) → Place w p v a k → letters w.shape (reach_of w) a (thread_of w a).sends to bytes ≡ packet_letters v.plan.shape (reach_of w) (packet_of v k to bytes)
letters_are w p a k v to bytes c =
    let t = tile_good w p a k v c in
    let z = sizes w p a k v c in
    let from : (thread_at v.now k).id.0 ≡ a = ap (λ (i : ThreadId). i.0) (t.shaped.fits.threads.each k z.below).id ∙ address_is w p a k v c in
    ap (λ n. letters n (reach_of w) a (thread_of w a).sends to bytes) (sym t.shape)
    ∙ (ap (λ x. letters v.plan.shape (reach_of w) x (thread_of w a).sends to bytes) (sym from)
    ∙ ap (λ x. letters v.plan.shape (reach_of w) (thread_at v.now k).id.0 x to bytes) (read (λ x j. (thread_in x j).sends) w p a k v c))

send_reached : (got : ℕ → List Letter) (dropped : List Letter) (w : WorldView) (p a k : ℕ) (v : TileView) (to : Dest) (bytes : List ℕ) → Place w p v a k → can_step v.plan.shape.fuel k v.now ≡ true → (step_at_place v.plan.code k v.now).op ≡ op.Send to bytes →
    Reached got dropped w (bag.Send a (seen_at v k) ∷ []) (with_tile w p (with_now v (next v k (op.Send to bytes))))
send_reached got dropped w p a k v to bytes c can e =
    let t = tile_good w p a k v c in
    let z = sizes w p a k v c in
    let new : TileState = next v k (op.Send to bytes) in
    let packet : Packet = packet_of v k to bytes in
    let none : pending_at v.now k ≡ None = none_from (pending_at v.now k) (op_fits v k (op.Send to bytes) can e).0 in
    let before : BagState = with_own_step (program_of w) a (seen_at v k) (shown got dropped w) in
    let sent : List Letter = letters w.shape (reach_of w) a (thread_of w a).sends to bytes in
    let after : BagState = record before { flight = sent ++ standing_letters w } in
    let from : (thread_at v.now k).id.0 ≡ a = ap (λ (i : ThreadId). i.0) (t.shaped.fits.threads.each k z.below).id ∙ address_is w p a k v c in
    let home : Homed (board_of v.plan.tile) packet = λ _. ap board_of from ∙ (sym (tile_board a) ∙ ap board_of c.stands.tile) in
    record {
      now = got;
      gone = dropped;
      run = (
        shown got dropped w,
        after,
        same_refl w.shape (shown got dropped w),
        (may_step got dropped w p a k v c can, ap (λ o. sent_by (program_of w) a (thread_of w a).sends o before) (own_op got dropped w p a k v (op.Send to bytes) c e)),
        record {
          threads = threads_after got dropped w p a k v new c refl;
          flight = same_bag _ _ (λ f.
              let x = pending_set f w v k (Some packet) z.below z.pending in
              let y : packet_w f v.plan.shape (reach_of w) (pending_at v.now k) ≡ 0 = ap (packet_w f v.plan.shape (reach_of w)) none in
              let d = tile_stands f w p v (with_now v new) 0 (sum_by f (packet_letters v.plan.shape (reach_of w) packet)) c.on (omega arith) in
              let u : sum_by f sent ≡ sum_by f (packet_letters v.plan.shape (reach_of w) packet) = ap (λ (ls : List Letter). sum_by f ls) (letters_are w p a k v to bytes c) in
              let q = sum_by-append f sent (standing_letters w) in
              omega arith);
          got = λ b h. refl;
          held = λ b slot h. ap (λ (x : ℕ → Option Letter). x slot) (lift_same held_in w p v (with_now v new) c.on (λ j u. refl) b h);
          dropped = refl;
          host = ap (λ (h : HostState). h.got) (host_beside w p v (with_now v new) c.on);
          script = ap (λ (h : HostState). h.script) (host_beside w p v (with_now v new) c.on);
          host_sends = ap (λ (h : HostState). h.sends) (host_beside w p v (with_now v new) c.on);
          announcements = refl;
        },
      );
      good = good_lift w p v (with_now v new) c.good c.on (good_now w.shape p v new t (fits_after w p a k v (op.Send to bytes) c can e) (t.kept) (home_sent (board_of v.plan.tile) v.now.pending v.now.node.out k (Some packet) z.pending home t.home));
      program = program_stays w p v (with_now v new) c.on refl;
      count = let d = dropped_after w p v (with_now v new) c.on in omega arith;
    }

sees_held : (v : TileView) (k s : ℕ) → is_some (held_by v.now.pool k s) ≡ true → Holds v.now.pool k s
sees_held v k s e = by (bit_at (slot_at v.now.pool s).holders k == 1) refl e
  where
    by : (b : Bool) → (bit_at (slot_at v.now.pool s).holders k == 1) ≡ b → is_some (cond b (Some (slot_at v.now.pool s).bytes) None) ≡ true → Holds v.now.pool k s
    by true h e = eqb-true _ _ h
    by false h e = cc e

free_reached : (got : ℕ → List Letter) (dropped : List Letter) (w : WorldView) (p a k : ℕ) (v : TileView) (s : ℕ) → Place w p v a k → can_step v.plan.shape.fuel k v.now ≡ true → (step_at_place v.plan.code k v.now).op ≡ op.Free s →
    Reached got dropped w (bag.Free a (seen_at v k) s ∷ []) (with_tile w p (with_now v (next v k (op.Free s))))
free_reached got dropped w p a k v s c can e =
    let t = tile_good w p a k v c in
    let z = sizes w p a k v c in
    let few = z.few in
    let below = z.below in
    let new : TileState = next v k (op.Free s) in
    let holds : Holds v.now.pool k s = sees_held v k s (op_fits v k (op.Free s) can e) in
    let within = held_within v.now.pool k s holds in
    let before : BagState = with_own_step (program_of w) a (seen_at v k) (shown got dropped w) in
    let mine : held_of w a ≡ held_in v k = read held_in w p a k v c in
    record {
      now = got;
      gone = dropped;
      run = (
        shown got dropped w,
        freed a s before,
        same_refl w.shape (shown got dropped w),
        (may_step got dropped w p a k v c can, own_op got dropped w p a k v (op.Free s) c e, refl),
        record {
          threads = threads_after got dropped w p a k v new c refl;
          flight = quiet_bag w p v (with_now v new) c.on (λ f. let x = freed_w f v k s v.now.pool.queues within in omega arith);
          got = λ b h. refl;
          held = λ b slot h. ap (λ (x : ℕ → Option Letter). x slot) (lift_put held_in w p a k v (with_now v new) (put (held_of w a) s None) c.good c.on c.stands
              (freed_here v k s v.now.pool.queues (omega arith) within ∙ ap (λ (x : ℕ → Option Letter). put x s None) (sym mine))
              (λ j u ne. freed_others v k s j v.now.pool.queues (omega arith) (let same = ap tile_threads t.shape in omega arith) ne within) b h);
          dropped = refl;
          host = ap (λ (h : HostState). h.got) (host_beside w p v (with_now v new) c.on);
          script = ap (λ (h : HostState). h.script) (host_beside w p v (with_now v new) c.on);
          host_sends = ap (λ (h : HostState). h.sends) (host_beside w p v (with_now v new) c.on);
          announcements = refl;
        },
      );
      good = good_lift w p v (with_now v new) c.good c.on (good_now w.shape p v new t (fits_after w p a k v (op.Free s) c can e) (freed_kept v.now.pool k s z.queues holds t.kept) (t.home));
      program = program_stays w p v (with_now v new) c.on refl;
      count = let d = dropped_after w p v (with_now v new) c.on in omega arith;
    }

hand_by : (got : ℕ → List Letter) (dropped : List Letter) (w : WorldView) (p a k : ℕ) (v : TileView) (q : List ℕ) → Place w p v a k → can_step v.plan.shape.fuel k v.now ≡ true → (step_at_place v.plan.code k v.now).op ≡ op.Hand → queue_at v.now.pool k ≡ q → is_some (first_of q) ≡ true →
    IsFit v.plan (record (with_thread k (step_at_place v.plan.code k v.now).thread v.now) { pool = taken_from k q v.now.pool }) →
    Reached got dropped w (bag.Hand a (seen_at v k) (letter_in v k (unwrap_or (first_of q) 0)) ∷ []) (with_tile w p (with_now v (record (with_thread k (step_at_place v.plan.code k v.now).thread v.now) { pool = taken_from k q v.now.pool })))
hand_by got dropped w p a k v [] c can e is some shaped = cc some
hand_by got dropped w p a k v (s ∷ rest) c can e is some shaped =
    let t = tile_good w p a k v c in
    let z = sizes w p a k v c in
    let few = z.few in
    let below = z.below in
    let new : TileState = record (with_thread k (step_at_place v.plan.code k v.now).thread v.now) { pool = taken_from k (s ∷ rest) v.now.pool } in
    let owed = first_owed v.now.pool t.kept k s rest z.queues is in
    let within = owed_within v.now.pool k s owed in
    let l : Letter = letter_in v k s in
    let before : BagState = with_own_step (program_of w) a (seen_at v k) (shown got dropped w) in
    let mine : held_of w a ≡ held_in v k = read held_in w p a k v c in
    record {
      now = put got a (got a ++ l ∷ []);
      gone = dropped;
      run = (
        shown got dropped w,
        handed a s l (standing_letters (with_tile w p (with_now v new))) before,
        same_refl w.shape (shown got dropped w),
        (
          may_step got dropped w p a k v c can,
          own_op got dropped w p a k v op.Hand c e,
          (
            standing_letters (with_tile w p (with_now v new)),
            record {
              slot = s;
              first = ap first_of is;
              key = ap (λ q. option_map (λ s. key_in (slot_at v.now.pool s).bytes) (first_of q)) is;
              stands = first_stands got dropped w p a k s rest v c is;
            },
            first_leaves w p a k s rest v (with_now v new) c is (λ f. refl),
            refl,
          ),
        ),
        record {
          threads = threads_after got dropped w p a k v new c refl;
          flight = record { each = λ test. refl };
          got = λ b h. refl;
          held = λ b slot h. ap (λ (x : ℕ → Option Letter). x slot) (lift_put held_in w p a k v (with_now v new) (put (held_of w a) s (Some l)) c.good c.on c.stands
              (taken_here v k s (set v.now.pool.queues k rest) (omega arith) within ∙ ap (λ (x : ℕ → Option Letter). put x s (Some l)) (sym mine))
              (λ j u ne. taken_others v k s j (set v.now.pool.queues k rest) (omega arith) ne within) b h);
          dropped = refl;
          host = ap (λ (h : HostState). h.got) (host_beside w p v (with_now v new) c.on);
          script = ap (λ (h : HostState). h.script) (host_beside w p v (with_now v new) c.on);
          host_sends = ap (λ (h : HostState). h.sends) (host_beside w p v (with_now v new) c.on);
          announcements = refl;
        },
      );
      good = good_lift w p v (with_now v new) c.good c.on (good_now w.shape p v new t (shaped) (taken_kept v.now.pool k s rest z.queues is t.kept) (t.home));
      program = program_stays w p v (with_now v new) c.on refl;
      count = let d = dropped_after w p v (with_now v new) c.on in omega arith;
    }

-- ---- a thread ends

-- the letters of a queue are for the thread, which ended
queue_for_dead : (n : ShapeNumbers) (s : BagState) (v : TileView) (a k : ℕ) (q : List ℕ) → in_tile v.plan.shape v.plan.tile k ≡ a → IsTrue (has_thread n a) → is_dead (s.threads a).state ≡ true → ForDead n s (map (letter_in v k) q)
queue_for_dead n s v a k [] at there dead = tt
queue_for_dead n s v a k (x ∷ q) at there dead =
    (subst (λ b. IsTrue (has_thread n b)) (sym at) there, ap (λ b. is_dead (s.threads b).state) at ∙ dead, queue_for_dead n s v a k q at there dead)

kill_reached : (got : ℕ → List Letter) (dropped : List Letter) (w : WorldView) (p a k : ℕ) (v : TileView) (value : ℕ) → Place w p v a k → can_step v.plan.shape.fuel k v.now ≡ true → (step_at_place v.plan.code k v.now).op ≡ op.Kill value →
    Reached got dropped w (bag.Private a (seen_at v k) ∷ map bag.Discard (queued v k)) (with_tile w p (with_now v (next v k (op.Kill value))))
kill_reached got dropped w p a k v value c can e =
    let t = tile_good w p a k v c in
    let z = sizes w p a k v c in
    let few = z.few in
    let below = z.below in
    let new : TileState = next v k (op.Kill value) in
    let there : WorldView = with_tile w p (with_now v new) in
    let queues : List (List ℕ) = set v.now.pool.queues k [] in
    let before : BagState = with_own_step (program_of w) a (seen_at v k) (shown got dropped w) in
    let after : BagState = record before { held = put (held_of w) a (λ slot. None) } in
    let dead : is_dead (thread_of there a).state ≡ true =
    sym (ap (λ (x : Thread). is_dead x.state) (threads_after got dropped w p a k v new c refl a c.stands.there))
    ∙ (ap (λ x. is_dead (cond x (own_step (program_of w) a (seen_at v k) (shown got dropped w)).thread (thread_of w a)).state) (eq-eqb a a refl)
    ∙ (ap (λ (r : Stepped). is_dead r.thread.state) (own_is got dropped w p a k v c) ∙ ap is_dead (op_fits v k (op.Kill value) can e))) in
    let gone : List Letter = dropped ++ queued v k in
    record {
      now = got;
      gone = gone;
      run = (
        shown got dropped w,
        after,
        same_refl w.shape (shown got dropped w),
        (
          may_step got dropped w p a k v c can,
          subst IsPrivate (sym (own_op got dropped w p a k v (op.Kill value) c e)) tt,
          sym (ap (λ o. ended_by o a before) (own_op got dropped w p a k v (op.Kill value) c e)),
        ),
        run_before (program_of w) after (record (shown got dropped there) { flight = queued v k ++ standing_letters there }) (shown got gone there) (map bag.Discard (queued v k))
            (record {
              threads = threads_after got dropped w p a k v new c refl;
              flight = same_bag _ _ (λ f.
                  let x = left_w f v k queues t.kept z.queues z.below z.few in
                  let d = tile_stands f w p v (with_now v new) (sum_by f (queued v k)) 0 c.on (omega arith) in
                  let q = sum_by-append f (queued v k) (standing_letters there) in
                  omega arith);
              got = λ b h. refl;
              held = λ b slot h. ap (λ (x : ℕ → Option Letter). x slot) (lift_put held_in w p a k v (with_now v new) (λ s. None) c.good c.on c.stands
                  (left_here v k queues (omega arith))
                  (λ j u ne. left_others v k j queues (omega arith) (let same = ap tile_threads t.shape in omega arith) ne) b h);
              dropped = refl;
              host = ap (λ (h : HostState). h.got) (host_beside w p v (with_now v new) c.on);
              script = ap (λ (h : HostState). h.script) (host_beside w p v (with_now v new) c.on);
              host_sends = ap (λ (h : HostState). h.sends) (host_beside w p v (with_now v new) c.on);
              announcements = refl;
            })
            (discards (program_of w) (shown got dropped there) (queued v k) (standing_letters there) dropped
            (queue_for_dead w.shape (shown got dropped there) v a k (queue_at v.now.pool k) (address_is w p a k v c) c.stands.there dead)),
      );
      good = good_lift w p v (with_now v new) c.good c.on (good_now w.shape p v new t (fits_after w p a k v (op.Kill value) c can e) (left_kept v.now.pool k z.queues t.kept) (t.home));
      program = program_stays w p v (with_now v new) c.on refl;
      count =
          let d = dropped_after w p v (with_now v new) c.on in
          let l = length-append dropped (queued v k) in
          let m = length-map (queue_at v.now.pool k) (letter_in v k) in
          omega arith;
    }

-- ---- any step

abbrev pub step_bag : ℕ → TileView → ℕ → Op → List BagStep
step_bag a v k o = step_by a (seen_at v k) (first_letter v k) o ∷ dropped_by (queued v k) o

step_reached_by : (got : ℕ → List Letter) (dropped : List Letter) (w : WorldView) (p a k : ℕ) (v : TileView) (o : Op) → Place w p v a k → can_step v.plan.shape.fuel k v.now ≡ true → (step_at_place v.plan.code k v.now).op ≡ o →
    Reached got dropped w (step_bag a v k o) (with_tile w p (with_now v (next v k o)))
step_reached_by got dropped w p a k v op.None c can e =
    let own = own_op got dropped w p a k v op.None c e in
    let after : BagState = with_own_step (program_of w) a (seen_at v k) (shown got dropped w) in
    plain got dropped w p a k v (next v k op.None) (bag.Private a (seen_at v k)) c
    (may_step got dropped w p a k v c can, subst IsPrivate (sym own) tt, sym (ap (λ o. ended_by o a after) own))
    (fits_after w p a k v op.None c can e) refl refl refl refl refl (λ f. refl) (λ j. refl)
step_reached_by got dropped w p a k v (op.Trap why) c can e =
    let own = own_op got dropped w p a k v (op.Trap why) c e in
    let after : BagState = with_own_step (program_of w) a (seen_at v k) (shown got dropped w) in
    plain got dropped w p a k v (next v k (op.Trap why)) (bag.Private a (seen_at v k)) c
    (may_step got dropped w p a k v c can, subst IsPrivate (sym own) tt, sym (ap (λ o. ended_by o a after) own))
    (fits_after w p a k v (op.Trap why) c can e) refl refl refl refl refl (λ f. refl) (λ j. refl)
step_reached_by got dropped w p a k v (op.Idle vote) c can e =
    plain got dropped w p a k v (next v k (op.Idle vote)) (bag.Idle a (seen_at v k) vote) c
    (may_step got dropped w p a k v c can, own_op got dropped w p a k v (op.Idle vote) c e, refl)
    (fits_after w p a k v (op.Idle vote) c can e) refl refl refl refl refl (λ f. refl) (λ j. refl)
step_reached_by got dropped w p a k v (op.Send to bytes) c can e = send_reached got dropped w p a k v to bytes c can e
step_reached_by got dropped w p a k v (op.Free s) c can e = free_reached got dropped w p a k v s c can e
step_reached_by got dropped w p a k v op.Hand c can e =
    hand_by got dropped w p a k v (queue_at v.now.pool k) c can e refl (op_fits v k op.Hand can e) (fits_after w p a k v op.Hand c can e)
step_reached_by got dropped w p a k v (op.Kill value) c can e = kill_reached got dropped w p a k v value c can e

pub step_reached : (got : ℕ → List Letter) (dropped : List Letter) (w : WorldView) (p a k : ℕ) (v : TileView) → Place w p v a k → can_step v.plan.shape.fuel k v.now ≡ true →
    Reached got dropped w (thread_step a k v) (with_tile w p (after_step k v))
step_reached got dropped w p a k v c can = step_reached_by got dropped w p a k v (step_at_place v.plan.code k v.now).op c can refl
