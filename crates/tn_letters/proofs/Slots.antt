-- What each change of a slot does to the letters that stand in it, and to those that threads hold there.
use Rattle.std.proofs.Common.{ℕ, ◌+◌, ◌*◌, ◌<◌, ◌≤◌, ◌≡◌, ◌≢◌, ◌⊎◌, ◌==◌, cond, List, [], ◌∷◌, length, get_or, set, map, suc, refl, sym, ◌∙◌, ap, inl, inr, arith, length-set, sum_by}
use Rattle.std.specs.Int.{bit_at}
use Rattle.std.specs.List.{range_with_len}
use Rattle.std.proofs.Math.Nat.{suc-mul}
use Rattle.std.proofs.lemmas.Bool.{cases_lt, eq-eqb}
use Rattle.std.proofs.lemmas.List.{get_or-map, get_or-set_same, get_or-set_other, length-map}
use Rattle.std.proofs.lemmas.List.Sums.{sum_by-cons}
use Rattle.std.proofs.lemmas.Nat.Bits.{bit_at-zero}
use Rattle.tn_base.specs.declared.message.Letter.{Letter}
use Rattle.tn_base.specs.Address.{in_tile, tile_threads}
use Rattle.tn_base.specs.Mask.{without_bit}
use Rattle.tn_base.proofs.Masks.{without_same, without_other}
use Rattle.tn_slots.specs.declared.slot.Slot.{Slot}
use Rattle.tn_slots.specs.Pool.{queue_at, slot_at}
use Rattle.tn_slots.specs.Slot.{empty_slot, freed_slot, left_slot, taken_slot}
use Rattle.tn_slots.specs.WellKept.{WellKept, times}
use Rattle.tn_slots.proofs.Kept.{owed_within}
use Rattle.tn_slots.proofs.Lists.{bit_cases, times-cons, times_first, times_other}
use Rattle.tn_tile.specs.declared.sender.Sender.{Sender}
use Rattle.tn_tile.specs.TileView.{TileView, with_now}
use Rattle.tn_letters.specs.Letters.{letter}
use Rattle.tn_letters.specs.Steps.{queued}
use Rattle.tn_letters.specs.Tiles.{letter_in, sender_at}
use Rattle.tn_letters.proofs.Sums.{sum_map, sum_none, sum_one, sum_same, sum_two}
use Rattle.tn_letters.proofs.Weights.{slots_w}

-- the letter that a slot of this content, whose packet is of this sender, has for the thread at a place
abbrev pub letter_of : TileView → Sender → List ℕ → ℕ → Letter
letter_of v from bytes k = letter from.origin from.number (in_tile v.plan.shape v.plan.tile k) bytes

-- what the slot has for each place, where it is owed
abbrev pub term : (Letter → ℕ) → TileView → Sender → Slot → ℕ → ℕ
term f v from x k = cond (bit_at x.owed k == 1) (f (letter_of v from x.bytes k)) 0

abbrev pub slot_w : (Letter → ℕ) → TileView → Sender → Slot → ℕ
slot_w f v from x = sum_by (term f v from x) (range_with_len 0 (tile_threads v.plan.shape))

-- one slot, and its sender, is another
pub slot_replaced : (f : Letter → ℕ) (v : TileView) (s : ℕ) (x : Slot) (queues : List (List ℕ)) (senders : List Sender) → s < length v.now.pool.slots → ((j : ℕ) → j ≢ s → get_or senders j (record { origin = 0; number = 0 }) ≡ sender_at v j) →
    slots_w f (with_now v (record v.now { pool = record { slots = set v.now.pool.slots s x; queues = queues; slot_bytes = v.now.pool.slot_bytes }; senders = senders })) + slot_w f v (sender_at v s) (slot_at v.now.pool s)
    ≡ slots_w f v + slot_w f v (get_or senders s (record { origin = 0; number = 0 })) x
slot_replaced f v s x queues senders h same =
    let new : List Slot = set v.now.pool.slots s x in
    let none : Sender = record { origin = 0; number = 0 } in
    let a = sum_one (λ j. slot_w f v (get_or senders j none) (get_or new j empty_slot)) (λ j. slot_w f v (sender_at v j) (slot_at v.now.pool j)) 0 (length v.now.pool.slots) s (omega arith) (omega arith)
    (λ j u ne. ap (slot_w f v (get_or senders j none)) (get_or-set_other v.now.pool.slots s j x empty_slot ne) ∙ ap (λ d. slot_w f v d (slot_at v.now.pool j)) (same j ne)) in
    let here : slot_w f v (get_or senders s none) (get_or new s empty_slot) ≡ slot_w f v (get_or senders s none) x = ap (slot_w f v (get_or senders s none)) (get_or-set_same v.now.pool.slots s x empty_slot h) in
    let long : sum_by (λ j. slot_w f v (get_or senders j none) (get_or new j empty_slot)) (range_with_len 0 (length new)) ≡ sum_by (λ j. slot_w f v (get_or senders j none) (get_or new j empty_slot)) (range_with_len 0 (length v.now.pool.slots))
    = ap (λ n. sum_by (λ j. slot_w f v (get_or senders j none) (get_or new j empty_slot)) (range_with_len 0 n)) (length-set v.now.pool.slots s x) in
    omega arith

-- a thread is owed the slot no more
pub slot_lost : (f : Letter → ℕ) (v : TileView) (from : Sender) (x : Slot) (k : ℕ) → k < tile_threads v.plan.shape → tile_threads v.plan.shape ≤ 64 →
    sum_by (λ j. cond (bit_at (without_bit x.owed k) j == 1) (f (letter_of v from x.bytes j)) 0) (range_with_len 0 (tile_threads v.plan.shape)) + term f v from x k ≡ slot_w f v from x
slot_lost f v from x k h few =
    let a = sum_one (λ j. cond (bit_at (without_bit x.owed k) j == 1) (f (letter_of v from x.bytes j)) 0) (term f v from x) 0 (tile_threads v.plan.shape) k (omega arith) (omega arith)
    (λ j u ne. ap (λ b. cond (b == 1) (f (letter_of v from x.bytes j)) 0) (without_other x.owed k j (omega arith) (omega arith) ne)) in
    let gone : bit_at (without_bit x.owed k) k ≡ 0 = without_same x.owed k (omega arith) in
    let none : cond (bit_at (without_bit x.owed k) k == 1) (f (letter_of v from x.bytes k)) 0 ≡ 0 = ap (λ b. cond (b == 1) (f (letter_of v from x.bytes k)) 0) gone in
    omega arith

pub term_owed : (f : Letter → ℕ) (v : TileView) (from : Sender) (x : Slot) (k : ℕ) → bit_at x.owed k ≡ 1 → term f v from x k ≡ f (letter_of v from x.bytes k)
term_owed f v from x k e = ap (λ b. cond b (f (letter_of v from x.bytes k)) 0) (eq-eqb (bit_at x.owed k) 1 e)

pub slot_none : (f : Letter → ℕ) (v : TileView) (from : Sender) (x : Slot) → x.owed ≡ 0 → slot_w f v from x ≡ 0
slot_none f v from x e =
    sum_none (term f v from x) 0 (tile_threads v.plan.shape)
    (λ k l u. ap (λ m. cond (bit_at m k == 1) (f (letter_of v from x.bytes k)) 0) e ∙ ap (λ b. cond (b == 1) (f (letter_of v from x.bytes k)) 0) (bit_at-zero k))

-- ---- a thread takes a slot

pub taken_w : (f : Letter → ℕ) (v : TileView) (k s : ℕ) (queues : List (List ℕ)) → k < tile_threads v.plan.shape → tile_threads v.plan.shape ≤ 64 → bit_at (slot_at v.now.pool s).owed k ≡ 1 →
    slots_w f (with_now v (record v.now { pool = record { slots = set v.now.pool.slots s (taken_slot k (slot_at v.now.pool s)); queues = queues; slot_bytes = v.now.pool.slot_bytes } })) + f (letter_in v k s) ≡ slots_w f v
taken_w f v k s queues h few owed =
    let a = slot_replaced f v s (taken_slot k (slot_at v.now.pool s)) queues v.now.senders (owed_within v.now.pool k s owed) (λ j ne. refl) in
    let b = slot_lost f v (sender_at v s) (slot_at v.now.pool s) k h few in
    let c = term_owed f v (sender_at v s) (slot_at v.now.pool s) k owed in
    omega arith

-- ---- a thread gives a slot up

pub freed_w : (f : Letter → ℕ) (v : TileView) (k s : ℕ) (queues : List (List ℕ)) → s < length v.now.pool.slots →
    slots_w f (with_now v (record v.now { pool = record { slots = set v.now.pool.slots s (freed_slot k (slot_at v.now.pool s)); queues = queues; slot_bytes = v.now.pool.slot_bytes } })) ≡ slots_w f v
freed_w f v k s queues h =
    let a = slot_replaced f v s (freed_slot k (slot_at v.now.pool s)) queues v.now.senders h (λ j ne. refl) in
    omega arith

-- ---- a thread ends

-- a sum over a list by how often each number stands in it
pub sum_times : (f : ℕ → ℕ) (n : ℕ) (xs : List ℕ) → ((s : ℕ) → n ≤ s → times s xs ≡ 0) → sum_by f xs ≡ sum_by (λ s. times s xs * f s) (range_with_len 0 n)
sum_times f n [] below = sym (sum_none (λ s. times s [] * f s) 0 n (λ s l u. omega arith))
sum_times f n (x ∷ xs) below =
    let within : x < n = elim (cases_lt x n) [ inl h ↦ h | inr h ↦ absurd (let z = below x h in let c = times_first x xs in omega arith) ] in
    let rest = sum_times f n xs (λ s h. let z = below s h in let c = times-cons s x xs in omega arith) in
    let a = sum_one (λ s. times s (x ∷ xs) * f s) (λ s. times s xs * f s) 0 n x (omega arith) (omega arith)
    (λ s u ne. ap (λ m. m * f s) (times_other s x xs (λ e. ne (sym e)))) in
    let here : times x (x ∷ xs) * f x ≡ (1 + times x xs) * f x = ap (λ m. m * f x) (times-cons x x xs ∙ ap (λ b. cond b 1 0 + times x xs) (eq-eqb x x refl)) in
    let c = sum_by-cons f x xs in
    let d : (1 + times x xs) * f x ≡ f x + times x xs * f x = let m : suc (times x xs) * f x ≡ times x xs * f x + f x = suc-mul (times x xs) (f x) in let o : 1 + times x xs ≡ suc (times x xs) = omega arith in ap (λ n. n * f x) o ∙ (m ∙ omega arith) in
    omega arith

past_bit : (v : TileView) (k s : ℕ) → length v.now.pool.slots ≤ s → bit_at (slot_at v.now.pool s).owed k ≡ 0
past_bit v k s past = elim (bit_cases (slot_at v.now.pool s).owed k) [ inl one ↦ absurd (let h = owed_within v.now.pool k s one in omega arith) | inr not ↦ not ]

times_bit : (b x : ℕ) → (b ≡ 1) ⊎ (b ≡ 0) → b * x ≡ cond (b == 1) x 0
times_bit b x (inl e) = ap (λ c. c * x) e ∙ (omega arith ∙ sym (ap (λ c. cond c x 0) (eq-eqb b 1 e)))
times_bit b x (inr e) = ap (λ c. c * x) e ∙ (omega arith ∙ sym (ap (λ c. cond (c == 1) x 0) e))

-- the letters of a thread's queue are those of the slots that it is owed
pub queue_w : (f : Letter → ℕ) (v : TileView) (k : ℕ) → WellKept v.now.pool → k < length v.now.pool.queues →
    sum_by f (queued v k) ≡ sum_by (λ s. term f v (sender_at v s) (slot_at v.now.pool s) k) (range_with_len 0 (length v.now.pool.slots))
queue_w f v k w h =
    sum_map f (letter_in v k) (queue_at v.now.pool k)
    ∙ (sum_times (λ s. f (letter_in v k s)) (length v.now.pool.slots) (queue_at v.now.pool k) (λ s past. w.each k s h ∙ past_bit v k s past)
    ∙ sum_same (λ s. times s (queue_at v.now.pool k) * f (letter_in v k s)) (λ s. term f v (sender_at v s) (slot_at v.now.pool s) k) 0 (length v.now.pool.slots)
    (λ s l u. ap (λ m. m * f (letter_in v k s)) (w.each k s h) ∙ times_bit (bit_at (slot_at v.now.pool s).owed k) (f (letter_in v k s)) (bit_cases (slot_at v.now.pool s).owed k)))

pub left_w : (f : Letter → ℕ) (v : TileView) (k : ℕ) (queues : List (List ℕ)) → WellKept v.now.pool → k < length v.now.pool.queues → k < tile_threads v.plan.shape → tile_threads v.plan.shape ≤ 64 →
    slots_w f (with_now v (record v.now { pool = record { slots = map (left_slot k) v.now.pool.slots; queues = queues; slot_bytes = v.now.pool.slot_bytes } })) + sum_by f (queued v k) ≡ slots_w f v
left_w f v k queues w h j few =
    let new : List Slot = map (left_slot k) v.now.pool.slots in
    let a = queue_w f v k w h in
    let long : sum_by (λ s. slot_w f v (sender_at v s) (get_or new s empty_slot)) (range_with_len 0 (length new)) ≡ sum_by (λ s. slot_w f v (sender_at v s) (get_or new s empty_slot)) (range_with_len 0 (length v.now.pool.slots))
    = ap (λ n. sum_by (λ s. slot_w f v (sender_at v s) (get_or new s empty_slot)) (range_with_len 0 n)) (length-map v.now.pool.slots (left_slot k)) in
    let b = sum_two (λ s. slot_w f v (sender_at v s) (get_or new s empty_slot)) (λ s. term f v (sender_at v s) (slot_at v.now.pool s) k) (λ s. slot_w f v (sender_at v s) (slot_at v.now.pool s)) 0 (length v.now.pool.slots)
    (λ s l u. sym (ap (λ x. slot_w f v (sender_at v s) x + term f v (sender_at v s) (slot_at v.now.pool s) k) (get_or-map (left_slot k) v.now.pool.slots s empty_slot empty_slot (omega arith)) ∙ slot_lost f v (sender_at v s) (slot_at v.now.pool s) k j few)) in
    omega arith
