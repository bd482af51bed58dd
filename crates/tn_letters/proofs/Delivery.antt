-- A delivery: the packet is stored, its letters for dead receivers are dropped, or it goes on.
use Rattle.std.specs.Int.{bit_at}
use Rattle.std.specs.List.{range_with_len}
use Rattle.std.proofs.lemmas.Bool.{and_parts, eqb-true}
use Rattle.std.proofs.lemmas.List.{get_or-set_same, get_or-set_other}
use Rattle.std.proofs.lemmas.List.Sums.{sum_by-cons}
use Rattle.tn_base.specs.declared.message.Dest.{Dest}
use Rattle.tn_base.specs.declared.message.Letter.{Letter}
use Rattle.tn_base.specs.declared.message.Packet.{Packet}
use Rattle.tn_base.specs.declared.shape.ShapeNumbers.{ShapeNumbers}
use Rattle.tn_base.specs.Address.{has_thread, has_tile, in_tile, place_in_tile, tile_of, tile_place, tile_threads}
use Rattle.tn_base.specs.Parts.{tile_part}
use Rattle.tn_base.specs.Shape.{WithinLimits}
use Rattle.tn_slots.specs.Pool.{slot_at}
use Rattle.tn_slots.specs.WellKept.{WellKept}
use Rattle.tn_thread.specs.declared.thread.Thread.{Thread}
use Rattle.std.specs.Prelude.{MatchOption}
use Rattle.tn_tile.specs.Kept.{IsFit, IsPacket, WellShaped, has_way}
use Rattle.tn_tile.specs.Receivers.{is_dead}
use Rattle.tn_tile.specs.Step.{no_thread, pending_at, thread_at}
use Rattle.tn_tile.specs.declared.state.TileState.{TileState}
use Rattle.tn_tile.specs.TileView.{TileView, with_now}
use Rattle.tn_rows.specs.WorldView.{WorldView}
use Rattle.tn_letters.specs.declared.steps.BagStep.{BagStep}
use Rattle.tn_letters.specs.declared.steps.BagStep.TheVariants as bag
use Rattle.tn_letters.specs.Letters.{board_of, letters, packet_letters}
use Rattle.tn_letters.specs.State.{BagState}
use Rattle.tn_letters.specs.Tiles.{held_in, part_for, reach_of, sender_at, thread_in, thread_of}
use Rattle.tn_letters.proofs.Becomes.{Becomes, Drops, becomes_reached, nothing, of_packet, threads_stay, tile_becomes}
use Rattle.tn_letters.proofs.Homes.{AtHome, home_same, home_sent, home_way}
use Rattle.tn_letters.proofs.Lift.{GoodTile, HomeTile, Homed, good_now, with_tile}
use Rattle.tn_letters.proofs.Runs.{ForDead}
use Rattle.tn_letters.proofs.Weights.{packet_w, tile_w}
use Rattle.std.proofs.Common.{ℕ, ◌+◌, ◌^◌, ◌%◌, ◌<◌, ◌≤◌, ◌≡◌, ◌⊎◌, ◌==◌, Bool, true, false, cond, List, [], ◌∷◌, ◌++◌, length, get_or, set, map, zero, suc, refl, sym, ◌∙◌, ap, subst, inl, inr, arith, Option, Some, None, is_none, unwrap_or, IsTrue, sum_by}
use Rattle.std.specs.Int.{bit_not, w64}
use Rattle.std.specs.Int.RustNames.{count_ones}
use Rattle.std.specs.Int.Bits.{bit_and}
use Rattle.std.specs.List.{filter, flat_map}
use Rattle.std.proofs.lemmas.Bool.{leb-true}
use Rattle.std.proofs.lemmas.List.{get_or_default}
use Rattle.std.proofs.lemmas.Nat.{and_le_l, pow_pos}
use Rattle.std.proofs.Math.Nat.{pow-le-pow_right}
use Rattle.tn_base.specs.declared.message.Dest.TheVariants as dest
use Rattle.tn_base.specs.declared.port.Port.{Port}
use Rattle.tn_base.specs.declared.port.Port.TheVariants as port
use Rattle.tn_base.specs.Message.{has_dest, has_packet, slot_bytes}
use Rattle.tn_base.specs.Ports.{tile_port}
use Rattle.tn_base.proofs.TilePlaces.{place_back, place_below, place_there}
use Rattle.tn_slots.specs.declared.slot.Slot.{Slot}
use Rattle.tn_slots.specs.Pool.{first_free, put_at}
use Rattle.tn_slots.specs.Queues.{appended}
use Rattle.tn_slots.proofs.Kept.{first_free_is, free_masks, put_kept}
use Rattle.tn_slots.proofs.Lists.{bit_cases}
use Rattle.tn_node.specs.declared.ports.Ports.{Ports}
use Rattle.tn_tile.specs.declared.sender.Sender.{Sender}
use Rattle.tn_tile.specs.Receivers.{alive_of, dead_in, dead_of, receivers}
use Rattle.tn_node.specs.declared.node.Node.{Node}
use Rattle.tn_node.specs.NodeRows.{waits}
use Rattle.tn_node.specs.PortRows.{at, with_at}
use Rattle.tn_rows.proofs.Meeting.{mapped}
use Rattle.tn_tile.specs.Rows.{counted, delivered_from, passed, passed_by, received, sent_on, stored, stored_at, with_node}
use Rattle.tn_tile.proofs.Dead.{dead_at, dead_below, dead_bit}
use Rattle.tn_tile.proofs.Packed.{few_places, one_place, packed_below}
use Rattle.tn_letters.proofs.Fitting.{out_fit, pending_fit, put_fit}
use Rattle.tn_keys.specs.Copies.{only_if}
use Rattle.tn_keys.specs.Reach.{Reach}
use Rattle.tn_letters.specs.Letters.{letter}
use Rattle.tn_tile.proofs.Steps.{taken}
use Rattle.tn_letters.specs.Steps.{delivery_steps, dropped_at, is_for_dead}
use Rattle.tn_letters.proofs.Holding.{no_sender, stored_held}
use Rattle.tn_letters.proofs.Receivers.{both_sets, letters_here, ones_are, parted, place_letter, router_away, thread_here, tile_here_is}
use Rattle.tn_letters.proofs.Simulate.{Place, Reached, shown, sizes, tile_good}
use Rattle.tn_letters.proofs.Slots.{slot_none, slot_replaced, slot_w}
use Rattle.tn_letters.proofs.Sums.{sum_filter, sum_same, sum_two}
use Rattle.tn_letters.proofs.Threads.{pending_set}
use Rattle.tn_letters.proofs.Weights.{buffers_w, ports_set}

-- ---- a packet that goes on

none_from : (o : Option Packet) → is_none o ≡ true → o ≡ None
none_from None e = refl
none_from (Some x) e = cc e

-- a packet more waits at a port where none waited
out_more : (f : Letter → ℕ) (n : ShapeNumbers) (reach : Reach) (way : Port) (p : Packet) (out : Ports Packet) → IsTrue (has_way way) → at way out ≡ None → buffers_w f n reach (with_at way (Some p) out) ≡ buffers_w f n reach out + packet_w f n reach (Some p)
out_more f n reach way p out there e =
    let a = ports_set (λ way. packet_w f n reach) way (Some p) out (λ here. let no : false ≡ true = ap has_way (sym here) ∙ there in cc no) in
    let z : packet_w f n reach (at way out) ≡ 0 = ap (packet_w f n reach) e in
    omega arith

-- the tile after a packet waits for its way out
abbrev on_way : Port → Packet → TileState → TileState
on_way way packet s = with_node s (record s.node { out = with_at way (Some packet) s.node.out })

on_drops : (w : WorldView) (v : TileView) (packet : Packet) (way : Port) → IsFit v.plan v.now → WellKept v.now.pool → IsTrue (has_packet v.plan.shape packet) → IsTrue (has_way way) → at way v.now.node.out ≡ None → HomeTile (board_of v.plan.tile) v.now.pending v.now.node.out → Homed (board_of v.plan.tile) packet →
    Drops w v (on_way way packet v.now) [] (of_packet v.plan.shape (reach_of w) packet) nothing
on_drops w v packet way fit kept fits there empty home at = record {
  weighs = λ f. let b = out_more f v.plan.shape (reach_of w) way packet v.now.node.out there empty in omega arith;
  holds = λ j. refl;
  threads = refl;
  fits = out_fit v.plan v.now way (Some packet) (fits, there) fit;
  kept = kept;
  dropped = omega arith;
  home = home_way (board_of v.plan.tile) v.now.pending v.now.node.out way (Some packet) at home;
}

-- ---- a packet whose receivers are here

-- the tile's state after a message was stored for a set of places
pub record Stored (w : WorldView) (set : ℕ) (p : Packet) (v : TileView) (mid : TileState) : Type 0 where
  pub weighs : (f : Letter → ℕ) → tile_w f (reach_of w) (with_now v mid) ≡ tile_w f (reach_of w) v + sum_by (λ k. cond (bit_at set k == 1) (f (place_letter v.plan.shape v.plan.tile p.origin p.number p.bytes k)) 0) (range_with_len 0 (tile_threads v.plan.shape))
  pub holds : (j : ℕ) → held_in (with_now v mid) j ≡ held_in v j
  pub threads : mid.threads ≡ v.now.threads
  pub fits : IsFit v.plan mid
  pub kept : WellKept mid.pool
  pub dropped : mid.dropped ≡ v.now.dropped
  pub pending : mid.pending ≡ v.now.pending
  pub node : mid.node ≡ v.now.node

put_stored : (w : WorldView) (mask : ℕ) (p : Packet) (v : TileView) (s : ℕ) → IsFit v.plan v.now → WellKept v.now.pool → mask < 2 ^ length v.now.pool.queues → length p.bytes ≤ v.now.pool.slot_bytes → first_free v.now.pool ≡ Some s →
    Stored w mask p v (record v.now { pool = put_at s p.bytes mask v.now.pool; senders = set v.now.senders s (record { origin = p.origin; number = p.number }) })
put_stored w mask p v s fit kept low short e =
    let free = first_free_is v.now.pool s e in
    let from : Sender = record { origin = p.origin; number = p.number } in
    let x : Slot = record { bytes = p.bytes; owed = mask; holders = 0 } in
    let queues : List (List ℕ) = appended mask s v.now.pool.queues in
    let there : s < length v.now.senders = let a = free.0 in let b = fit.pool.slots in let d = fit.pool.senders in omega arith in
    record {
      weighs = λ f.
          let a = slot_replaced f v s x queues (set v.now.senders s from) free.0 (λ j ne. get_or-set_other v.now.senders s j from no_sender ne) in
          let b : slot_w f v (get_or (set v.now.senders s from) s no_sender) x ≡ slot_w f v from x = ap (λ d. slot_w f v d x) (get_or-set_same v.now.senders s from no_sender there) in
          let d = slot_none f v (sender_at v s) (slot_at v.now.pool s) (free_masks (slot_at v.now.pool s) free.1).0 in
          omega arith;
      holds = λ j. stored_held v s mask p.bytes from queues j free.0 free.1;
      threads = refl;
      fits = put_fit v.plan v.now s mask p.bytes from fit;
      kept = put_kept v.now.pool s p.bytes mask free.0 free.1 low short kept;
      dropped = refl;
      pending = refl;
      node = refl;
    }

stored_by : (w : WorldView) (mask : ℕ) (p : Packet) (v : TileView) (mid : TileState) (slot : Option ℕ) → IsFit v.plan v.now → WellKept v.now.pool → mask < 2 ^ length v.now.pool.queues → length p.bytes ≤ v.now.pool.slot_bytes → first_free v.now.pool ≡ slot → stored_at slot mask p v.now ≡ Some mid → Stored w mask p v mid
stored_by w mask p v mid None fit kept low short e is = cc is
stored_by w mask p v mid (Some s) fit kept low short e is =
    let new : TileState = record v.now { pool = put_at s p.bytes mask v.now.pool; senders = set v.now.senders s (record { origin = p.origin; number = p.number }) } in
    let same : new ≡ mid = ap (λ (o : Option TileState). unwrap_or o new) is in
    subst (Stored w mask p v) same (put_stored w mask p v s fit kept low short e)

nobody_stored : (w : WorldView) (mask : ℕ) (p : Packet) (v : TileView) → IsFit v.plan v.now → WellKept v.now.pool → mask ≡ 0 → Stored w mask p v v.now
nobody_stored w mask p v fit kept e = record {
  weighs = λ f.
      let d = slot_none f v (record { origin = p.origin; number = p.number }) (record { bytes = p.bytes; owed = mask; holders = 0 }) e in
      omega arith;
  holds = λ j. refl;
  threads = refl;
  fits = fit;
  kept = kept;
  dropped = refl;
  pending = refl;
  node = refl;
}

stored_is : (w : WorldView) (mask : ℕ) (p : Packet) (v : TileView) (mid : TileState) (b : Bool) → (mask == 0) ≡ b → IsFit v.plan v.now → WellKept v.now.pool → mask < 2 ^ length v.now.pool.queues → length p.bytes ≤ v.now.pool.slot_bytes → cond b (Some v.now) (stored_at (first_free v.now.pool) mask p v.now) ≡ Some mid → Stored w mask p v mid
stored_is w mask p v mid true e fit kept low short is =
    let same : v.now ≡ mid = ap (λ (o : Option TileState). unwrap_or o v.now) is in
    subst (Stored w mask p v) same (nobody_stored w mask p v fit kept (eqb-true _ _ e))
stored_is w mask p v mid false e fit kept low short is = stored_by w mask p v mid (first_free v.now.pool) fit kept low short refl is

-- ---- which letters are dropped

-- the receivers on a tile are among its places
receivers_below : (n : ShapeNumbers) (tile : ℕ) (to : Dest) → WithinLimits n → IsTrue (has_dest n to) → receivers n to < 2 ^ tile_threads n
receivers_below n tile (dest.Thread t) limits fits = (one_place n (place_in_tile n t.0) limits (place_below n t.0 fits)).1
receivers_below n tile dest.Host limits fits = pow_pos (tile_threads n)
receivers_below n tile (dest.Mask at mask) limits fits = packed_below n mask limits (and_parts _ _ fits).1
receivers_below n tile (dest.Key key) limits fits = pow_pos (tile_threads n)

-- the bit of a thread among those that ended
dead_bit_at : (v : TileView) (k : ℕ) → k < length v.now.threads → bit_at (dead_in v.now.threads) k ≡ cond (is_dead (thread_at v.now k).state) 1 0
dead_bit_at v k h = dead_at v.now.threads k ∙ ap dead_bit (get_or_default v.now.threads k _ no_thread h)

-- the letters for those that ended, by place
dead_letters : (f : Letter → ℕ) (w : WorldView) (v : TileView) (packet : Packet) → WithinLimits v.plan.shape → WellShaped v → IsTrue (has_packet v.plan.shape packet) → tile_port v.plan.tile packet.dest ≡ port.Here →
    sum_by f (filter (is_for_dead v) (packet_letters v.plan.shape (reach_of w) packet))
    ≡ sum_by (λ j. cond (bit_at (dead_of v.now.threads (receivers v.plan.shape packet.dest)) j == 1) (f (place_letter v.plan.shape v.plan.tile packet.origin packet.number packet.bytes j)) 0) (range_with_len 0 (tile_threads v.plan.shape))
dead_letters f w v packet limits shaped fits here =
    let l : ℕ → Letter = place_letter v.plan.shape v.plan.tile packet.origin packet.number packet.bytes in
    sum_filter f (is_for_dead v) (packet_letters v.plan.shape (reach_of w) packet)
    ∙ (letters_here (λ x. cond (is_for_dead v x) (f x) 0) v.plan.shape (reach_of w) v.plan.tile packet.origin packet.number packet.dest packet.bytes limits shaped.tile (and_parts _ _ fits).0 here
    ∙ sum_same (λ j. cond (bit_at (receivers v.plan.shape packet.dest) j == 1) (cond (is_for_dead v (l j)) (f (l j)) 0) 0) (λ j. cond (bit_at (dead_of v.now.threads (receivers v.plan.shape packet.dest)) j == 1) (f (l j)) 0) 0 (tile_threads v.plan.shape)
    (λ j low high.
    let below : j < tile_threads v.plan.shape = omega arith in
    let within : j < length v.now.threads = let n = shaped.fits.threads.count in omega arith in
    let same : is_dead (thread_at v.now j).state ≡ is_for_dead v (l j) = ap (λ x. is_dead (thread_at v.now x).state) (sym (place_back v.plan.shape v.plan.tile j limits shaped.tile below).1) in
    sym (both_sets (receivers v.plan.shape packet.dest) (dead_in v.now.threads) j (f (l j)) (is_for_dead v (l j)) (dead_bit_at v j within ∙ ap (λ b. cond b 1 0) same))))

ones_in : (xs : List Letter) → sum_by (λ _. 1) xs ≡ length xs
ones_in [] = refl
ones_in (x ∷ xs) = let a = sum_by-cons (λ (_ : Letter). 1) x xs in let r = ones_in xs in omega arith

bit_or_none : (b : ℕ) → (b ≡ 1) ⊎ (b ≡ 0) → cond (b == 1) 1 0 ≡ b
bit_or_none b (inl e) = rw e refl
bit_or_none b (inr e) = rw e refl

-- they are as many as are counted
dead_count : (w : WorldView) (v : TileView) (packet : Packet) → WithinLimits v.plan.shape → WellShaped v → IsTrue (has_packet v.plan.shape packet) → tile_port v.plan.tile packet.dest ≡ port.Here →
    length (filter (is_for_dead v) (packet_letters v.plan.shape (reach_of w) packet)) ≡ count_ones (dead_of v.now.threads (receivers v.plan.shape packet.dest))
dead_count w v packet limits shaped fits here =
    let m : ℕ = dead_of v.now.threads (receivers v.plan.shape packet.dest) in
    let low : m < 2 ^ tile_threads v.plan.shape = let a = receivers_below v.plan.shape v.plan.tile packet.dest limits (and_parts _ _ fits).0 in let b = and_le_l (receivers v.plan.shape packet.dest) (dead_in v.now.threads) in omega arith in
    let n = ones_in (filter (is_for_dead v) (packet_letters v.plan.shape (reach_of w) packet)) in
    let b = dead_letters (λ _. 1) w v packet limits shaped fits here in
    let d = sum_same (λ j. cond (bit_at m j == 1) 1 0) (bit_at m) 0 (tile_threads v.plan.shape) (λ j x y. bit_or_none (bit_at m j) (bit_cases m j)) in
    let e = ones_are (tile_threads v.plan.shape) m low in
    omega arith

-- of each letter of a list
abbrev pub Each : (Letter → Type 0) → List Letter → Type 0
Each P [] = Unit {0}
Each P (l ∷ ls) = P l × Each P ls

each_only : (P : Letter → Type 0) (b : Bool) (l : Letter) (ls : List Letter) → P l → Each P ls → Each P (only_if b l ++ ls)
each_only P true l ls h all = (h, all)
each_only P false l ls h all = all

each_range : (P : Letter → Type 0) (test : ℕ → Bool) (g : ℕ → Letter) (i n : ℕ) → ((k : ℕ) → i ≤ k → k < i + n → P (g k)) → Each P (flat_map (λ k. only_if (test k) (g k)) (range_with_len i n))
each_range P test g i zero h = tt
each_range P test g i (suc n) h =
    each_only P (test i) (g i) (flat_map (λ k. only_if (test k) (g k)) (range_with_len (i + 1) n)) (h i (omega arith) (omega arith))
    (each_range P test g (i + 1) n (λ k low high. h k (omega arith) (omega arith)))

-- of each letter of a packet that stays on its tile
each_here : (P : Letter → Type 0) (n : ShapeNumbers) (reach : Reach) (tile origin number : ℕ) (to : Dest) (bytes : List ℕ) → WithinLimits n → IsTrue (has_tile n tile) → IsTrue (has_dest n to) → tile_port tile to ≡ port.Here →
    ((b : ℕ) → IsTrue (has_thread n b) → tile_of b ≡ tile → P (letter origin number b bytes)) → Each P (letters n reach origin number to bytes)
each_here P n reach tile origin number (dest.Thread t) bytes limits there fits here all = (all t.0 fits (thread_here n tile t.0 there fits here), tt)
each_here P n reach tile origin number dest.Host bytes limits there fits here all = absurd (router_away tile here)
each_here P n reach tile origin number (dest.Key key) bytes limits there fits here all = absurd (router_away tile here)
each_here P n reach tile origin number (dest.Mask at mask) bytes limits there fits here all =
    subst (λ x. Each P (letters n reach origin number (dest.Mask (record { 0 = x }) mask) bytes)) (sym (tile_here_is n tile at.0 there (and_parts _ _ (and_parts _ _ fits).0).0 here))
    (each_range P (λ k. bit_at mask (in_tile n tile k % 64) == 1) (λ k. letter origin number (in_tile n tile k) bytes) 0 (tile_threads n)
    (λ k low high.
    let below : k < tile_threads n = omega arith in
    all (in_tile n tile k) (place_there n tile k limits there below) (place_back n tile k limits there below).0))

by_test : (n : ShapeNumbers) (s : BagState) (l : Letter) (ls : List Letter) (b : Bool) → IsTrue (has_thread n l.receiver) → (b ≡ true → is_dead (s.threads l.receiver).state ≡ true) → ForDead n s ls → ForDead n s (cond b (l ∷ ls) ls)
by_test n s l ls true there dead rest = (there, dead refl, rest)
by_test n s l ls false there dead rest = rest

-- a letter whose receiver has ended, if the tile says so
abbrev pub DeadSo : ShapeNumbers → BagState → TileView → Letter → Type 0
DeadSo n s v l = IsTrue (has_thread n l.receiver) × (is_for_dead v l ≡ true → is_dead (s.threads l.receiver).state ≡ true)

for_dead : (n : ShapeNumbers) (s : BagState) (v : TileView) (ls : List Letter) → Each (DeadSo n s v) ls → ForDead n s (filter (is_for_dead v) ls)
for_dead n s v [] all = tt
for_dead n s v (l ∷ ls) all = by_test n s l (filter (is_for_dead v) ls) (is_for_dead v l) all.0.0 all.0.1 (for_dead n s v ls all.1)

-- in a machine in which the tile's threads are as they are
abbrev pub ShowsThreads : WorldView → WorldView → ℕ → TileView → Type 0
ShowsThreads w there p v = (b : ℕ) → IsTrue (has_thread w.shape b) → part_for w b ≡ p → thread_of there b ≡ thread_in v (place_in_tile w.shape b)

-- the letters of a packet that the tile drops are for threads that ended
dropped_dead : (got : ℕ → List Letter) (dropped : List Letter) (w there : WorldView) (p : ℕ) (v : TileView) (packet : Packet) → WithinLimits w.shape → GoodTile w.shape p v → IsTrue (has_packet v.plan.shape packet) → tile_port v.plan.tile packet.dest ≡ port.Here → ShowsThreads w there p v →
    ForDead w.shape (shown got dropped there) (filter (is_for_dead v) (packet_letters v.plan.shape (reach_of w) packet))
dropped_dead got dropped w there p v packet small t fits here same =
    let limits : WithinLimits v.plan.shape = subst WithinLimits (sym t.shape) small in
    let s : BagState = shown got dropped there in
    for_dead w.shape s v (packet_letters v.plan.shape (reach_of w) packet)
    (each_here (DeadSo w.shape s v) v.plan.shape (reach_of w) v.plan.tile packet.origin packet.number packet.dest packet.bytes limits t.shaped.tile (and_parts _ _ fits).0 here
    (λ b h on.
    let found : IsTrue (has_thread w.shape b) = subst (λ n. IsTrue (has_thread n b)) t.shape h in
    let near : part_for w b ≡ p = ap (λ x. tile_part (tile_place w.shape x)) on ∙ t.part in
    let is : thread_of there b ≡ thread_at v.now (place_in_tile v.plan.shape b) = same b found near ∙ ap (λ n. thread_at v.now (place_in_tile n b)) (sym t.shape) in
    (found, λ dead. ap (λ (x : Thread). is_dead x.state) is ∙ dead)))

-- the state with this many letters more dropped
abbrev dropped_more : ℕ → TileState → TileState
dropped_more n s = record s { dropped = s.dropped + n }

here_drops : (w : WorldView) (v : TileView) (packet : Packet) (mid : TileState) → WithinLimits v.plan.shape → WellShaped v → IsTrue (has_packet v.plan.shape packet) → tile_port v.plan.tile packet.dest ≡ port.Here →
    Stored w (alive_of v.now.threads (receivers v.plan.shape packet.dest)) packet v mid → HomeTile (board_of v.plan.tile) v.now.pending v.now.node.out →
    Drops w v (dropped_more (count_ones (dead_of v.now.threads (receivers v.plan.shape packet.dest))) mid) (filter (is_for_dead v) (packet_letters v.plan.shape (reach_of w) packet)) (of_packet v.plan.shape (reach_of w) packet) nothing
here_drops w v packet mid limits shaped fits here m home =
    let to : ℕ = receivers v.plan.shape packet.dest in
    let l : ℕ → Letter = place_letter v.plan.shape v.plan.tile packet.origin packet.number packet.bytes in
    let dead : ℕ = dead_in v.now.threads in
    let few : tile_threads v.plan.shape ≤ 64 = few_places v.plan.shape limits in
    let low : dead < 2 ^ 64 = let n = shaped.fits.threads.count in let b = dead_below v.now.threads in let most : length v.now.threads ≤ 64 = omega arith in let q : 2 ^ length v.now.threads ≤ 2 ^ 64 = pow-le-pow_right (omega arith) most in omega arith in
    record {
      weighs = λ f.
          let h = letters_here f v.plan.shape (reach_of w) v.plan.tile packet.origin packet.number packet.dest packet.bytes limits shaped.tile (and_parts _ _ fits).0 here in
          let q = sum_two (λ j. cond (bit_at (bit_and to dead) j == 1) (f (l j)) 0) (λ j. cond (bit_at (bit_and to (bit_not w64 dead)) j == 1) (f (l j)) 0) (λ j. cond (bit_at to j == 1) (f (l j)) 0) 0 (tile_threads v.plan.shape)
          (λ j a b. parted to dead j (f (l j)) low (omega arith)) in
          let d = dead_letters f w v packet limits shaped fits here in
          let s = m.weighs f in
          omega arith;
      holds = λ j. m.holds j;
      threads = m.threads;
      fits = record { threads = m.fits.threads; pool = m.fits.pool; pending = m.fits.pending; out = m.fits.out };
      kept = m.kept;
      dropped = let n = dead_count w v packet limits shaped fits here in let d = m.dropped in omega arith;
      home = home_same v mid m.pending m.node home;
    }

-- ---- a packet that comes to a tile

-- what it makes of the tile, and what is dropped
pub record Passes (w : WorldView) (p : ℕ) (v : TileView) (new : TileState) (packet : Packet) (ls : List Letter) : Type 0 where
  pub drops : Drops w v new ls (of_packet v.plan.shape (reach_of w) packet) nothing
  pub dead : (got : ℕ → List Letter) (dropped : List Letter) (there : WorldView) → ShowsThreads w there p v → ForDead w.shape (shown got dropped there) ls

-- a packet that waits finds no other packet
waits_is : (way : Port) (packet : Packet) (s new : TileState) → sent_on way packet s ≡ Some new → (at way s.node.out ≡ None) × (on_way way packet s ≡ new)
waits_is way packet s new is =
    let m = mapped (with_node s) (waits way packet s.node) new is in
    let yes = taken (is_none (at way s.node.out)) (Some (record s.node { out = with_at way (Some packet) s.node.out })) m.0 m.1 in
    let node : record s.node { out = with_at way (Some packet) s.node.out } ≡ m.0 = ap (λ (o : Option Node). unwrap_or o m.0) yes.1 in
    (none_from (at way s.node.out) yes.0, ap (with_node s) node ∙ m.2)

on_passes : (w : WorldView) (p : ℕ) (v : TileView) (new : TileState) (packet : Packet) (way : Port) → GoodTile w.shape p v → IsTrue (has_packet v.plan.shape packet) → Homed (board_of v.plan.tile) packet → IsTrue (has_way way) → sent_on way packet v.now ≡ Some new → Passes w p v new packet []
on_passes w p v new packet way t fits at there is =
    let m = waits_is way packet v.now new is in
    subst (λ x. Passes w p v x packet []) m.1 (record {
      drops = on_drops w v packet way t.shaped.fits t.kept fits there m.0 t.home at;
      dead = λ got dropped there h. tt;
    })

counted_is : (n : ℕ) (o : Option TileState) (new : TileState) → counted n o ≡ Some new → (mid : TileState) × (o ≡ Some mid) × (new ≡ dropped_more n mid)
counted_is n None new is = cc is
counted_is n (Some mid) new is = (mid, refl, sym (ap (λ (o : Option TileState). unwrap_or o new) is))

here_passes : (w : WorldView) (p : ℕ) (v : TileView) (new : TileState) (packet : Packet) → WithinLimits w.shape → GoodTile w.shape p v → IsTrue (has_packet v.plan.shape packet) → tile_port v.plan.tile packet.dest ≡ port.Here → received v.plan packet v.now ≡ Some new →
    Passes w p v new packet (filter (is_for_dead v) (packet_letters v.plan.shape (reach_of w) packet))
here_passes w p v new packet small t fits here is =
    let limits : WithinLimits v.plan.shape = subst WithinLimits (sym t.shape) small in
    let to : ℕ = receivers v.plan.shape packet.dest in
    let alive : ℕ = alive_of v.now.threads to in
    let count : ℕ = count_ones (dead_of v.now.threads to) in
    let m = counted_is count (stored alive packet v.now) new is in
    let low : alive < 2 ^ length v.now.pool.queues =
    let x = receivers_below v.plan.shape v.plan.tile packet.dest limits (and_parts _ _ fits).0 in
    let y = and_le_l to (bit_not w64 (dead_in v.now.threads)) in
    let q : 2 ^ length v.now.pool.queues ≡ 2 ^ tile_threads v.plan.shape = ap (λ n. 2 ^ n) t.shaped.fits.pool.queues in
    omega arith in
    let fit : length packet.bytes ≤ slot_bytes v.plan.shape = leb-true (length packet.bytes) (slot_bytes v.plan.shape) (and_parts _ _ fits).1 in
    let short : length packet.bytes ≤ v.now.pool.slot_bytes = rw t.shaped.fits.pool.slot_bytes fit in
    let s : Stored w alive packet v m.0 = stored_is w alive packet v m.0 (alive == 0) refl t.shaped.fits t.kept low short m.1 in
    subst (λ x. Passes w p v x packet (filter (is_for_dead v) (packet_letters v.plan.shape (reach_of w) packet))) (sym m.2) (record {
      drops = here_drops w v packet m.0 limits t.shaped fits here s t.home;
      dead = λ got dropped there h. dropped_dead got dropped w there p v packet small t fits here h;
    })

-- the letters that a packet drops on its way from the tile
abbrev pub dropped_on_way : Port → WorldView → Packet → TileView → List Letter
dropped_on_way port.Here w packet v = filter (is_for_dead v) (packet_letters v.plan.shape (reach_of w) packet)
dropped_on_way port.East w packet v = []
dropped_on_way port.West w packet v = []
dropped_on_way port.South w packet v = []
dropped_on_way port.North w packet v = []
dropped_on_way port.Up w packet v = []
dropped_on_way port.Down w packet v = []
dropped_on_way port.HostPort w packet v = []

way_passes : (w : WorldView) (p : ℕ) (v : TileView) (new : TileState) (packet : Packet) (way : Port) → WithinLimits w.shape → GoodTile w.shape p v → IsTrue (has_packet v.plan.shape packet) → Homed (board_of v.plan.tile) packet → tile_port v.plan.tile packet.dest ≡ way → passed_by v.plan way packet v.now ≡ Some new →
    Passes w p v new packet (dropped_on_way way w packet v)
way_passes w p v new packet port.Here small t fits home at is = here_passes w p v new packet small t fits at is
way_passes w p v new packet port.East small t fits home at is = on_passes w p v new packet port.East t fits home refl is
way_passes w p v new packet port.West small t fits home at is = on_passes w p v new packet port.West t fits home refl is
way_passes w p v new packet port.South small t fits home at is = on_passes w p v new packet port.South t fits home refl is
way_passes w p v new packet port.North small t fits home at is = on_passes w p v new packet port.North t fits home refl is
way_passes w p v new packet port.Up small t fits home at is = on_passes w p v new packet port.Up t fits home refl is
way_passes w p v new packet port.Down small t fits home at is = cc is
way_passes w p v new packet port.HostPort small t fits home at is = cc is

-- the letters that are dropped where the packet comes to the tile
abbrev pub dropped_letters : WorldView → Packet → TileView → List Letter
dropped_letters w packet v = dropped_on_way (tile_port v.plan.tile packet.dest) w packet v

pub packet_passes : (w : WorldView) (p : ℕ) (v : TileView) (new : TileState) (packet : Packet) → WithinLimits w.shape → GoodTile w.shape p v → IsTrue (has_packet v.plan.shape packet) → Homed (board_of v.plan.tile) packet → passed v.plan packet v.now ≡ Some new → Passes w p v new packet (dropped_letters w packet v)
packet_passes w p v new packet small t fits home is = way_passes w p v new packet (tile_port v.plan.tile packet.dest) small t fits home refl is

-- as steps of the bag machine
discards_by : (way : Port) (w : WorldView) (packet : Packet) (v : TileView) → map bag.Discard (dropped_on_way way w packet v) ≡ dropped_at way (reach_of w) packet v
discards_by port.Here w packet v = refl
discards_by port.East w packet v = refl
discards_by port.West w packet v = refl
discards_by port.South w packet v = refl
discards_by port.North w packet v = refl
discards_by port.Up w packet v = refl
discards_by port.Down w packet v = refl
discards_by port.HostPort w packet v = refl

pub discards_are : (w : WorldView) (packet : Packet) (v : TileView) → map bag.Discard (dropped_letters w packet v) ≡ delivery_steps (reach_of w) (Some packet) v
discards_are w packet v = discards_by (tile_port v.plan.tile packet.dest) w packet v

-- ---- a delivery

-- the tile after its thread's packet is taken up
abbrev pub taken_up : TileView → ℕ → TileView
taken_up v k = with_now v (record v.now { pending = set v.now.pending k None })

-- the packet's letters stood at the thread
pub from_thread : (w : WorldView) (p a k : ℕ) (v : TileView) (new : TileState) (packet : Packet) (ls : List Letter) → Place w p v a k → pending_at v.now k ≡ Some packet → Drops w (taken_up v k) new ls (of_packet v.plan.shape (reach_of w) packet) nothing → Drops w v new ls nothing nothing
from_thread w p a k v new packet ls c e d =
    let z = sizes w p a k v c in
    record {
      weighs = λ f.
          let x = pending_set f w v k None z.below z.pending in
          let y : packet_w f v.plan.shape (reach_of w) (pending_at v.now k) ≡ packet_w f v.plan.shape (reach_of w) (Some packet) = ap (packet_w f v.plan.shape (reach_of w)) e in
          let s = d.weighs f in
          omega arith;
      holds = d.holds;
      threads = d.threads;
      fits = d.fits;
      kept = d.kept;
      dropped = d.dropped;
      home = d.home;
    }

-- what is dropped is the same
taken_steps : (way : Port) (w : WorldView) (packet : Packet) (v : TileView) (k : ℕ) → dropped_at way (reach_of w) packet (taken_up v k) ≡ dropped_at way (reach_of w) packet v
taken_steps port.Here w packet v k = refl
taken_steps port.East w packet v k = refl
taken_steps port.West w packet v k = refl
taken_steps port.South w packet v k = refl
taken_steps port.North w packet v k = refl
taken_steps port.Up w packet v k = refl
taken_steps port.Down w packet v k = refl
taken_steps port.HostPort w packet v k = refl

delivery_by : (got : ℕ → List Letter) (dropped : List Letter) (w : WorldView) (p a k : ℕ) (v : TileView) (new : TileState) (o : Option Packet) → Place w p v a k → pending_at v.now k ≡ o → delivered_from v.plan k o v.now ≡ Some new →
    Reached got dropped w (delivery_steps (reach_of w) o v) (with_tile w p (with_now v new))
delivery_by got dropped w p a k v new None c e is = cc is
delivery_by got dropped w p a k v new (Some packet) c e is =
    let t = tile_good w p a k v c in
    let ls : List Letter = dropped_letters w packet (taken_up v k) in
    let z = sizes w p a k v c in
    let good : GoodTile w.shape p (taken_up v k) = good_now w.shape p v (record v.now { pending = set v.now.pending k None }) t (pending_fit v.plan v.now k None tt t.shaped.fits) t.kept (home_sent (board_of v.plan.tile) v.now.pending v.now.node.out k None z.pending tt t.home) in
    let home : Homed (board_of v.plan.tile) packet = subst (AtHome (board_of v.plan.tile)) e (t.home.sent k) in
    let fits : IsTrue (has_packet v.plan.shape packet) = subst (λ (x : Option Packet). MatchOption x (Unit {0}) (IsPacket v.plan.shape)) e (t.shaped.fits.pending.each k) in
    let d = packet_passes w p (taken_up v k) new packet c.good.limits good fits home is in
    let b : Becomes w (with_tile w p (with_now v new)) ls = tile_becomes w p v new ls c.good c.on (from_thread w p a k v new packet ls c e d.drops) in
    subst (λ (steps : List BagStep). Reached got dropped w steps (with_tile w p (with_now v new))) (discards_are w packet (taken_up v k) ∙ taken_steps (tile_port v.plan.tile packet.dest) w packet v k)
    (becomes_reached got dropped w (with_tile w p (with_now v new)) ls refl b (d.dead got dropped (with_tile w p (with_now v new)) (threads_stay w (with_tile w p (with_now v new)) p v ls c.on b)))

pub delivery_reached : (got : ℕ → List Letter) (dropped : List Letter) (w : WorldView) (p a k : ℕ) (v : TileView) (new : TileState) → Place w p v a k → delivered_from v.plan k (pending_at v.now k) v.now ≡ Some new →
    Reached got dropped w (delivery_steps (reach_of w) (pending_at v.now k) v) (with_tile w p (with_now v new))
delivery_reached got dropped w p a k v new c is = delivery_by got dropped w p a k v new (pending_at v.now k) c refl is
