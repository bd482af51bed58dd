-- A packet that a tile drops for the receiver is an act of its event.
use Rattle.std.proofs.Common.{ℕ, zero, suc, ◌+◌, ◌-◌, ◌^◌, ◌≡◌, ◌≤◌, ◌<◌, ◌==◌, ◌&&◌, Bool, true, false, cond, refl, sym, ◌∙◌, ap, subst, inl, inr, arith, List, [], ◌∷◌, length, map, IsTrue, sum_by, min}
use Rattle.std.specs.Int.{bit_at, bit_not, w64}
use Rattle.std.specs.Int.Bits.{bit_and}
use Rattle.std.specs.List.{filter, flat_map, range_with_len}
use Rattle.std.proofs.lemmas.Bool.{and_parts, cases_eq, eq-eqb, eqb-true}
use Rattle.std.proofs.lemmas.List.{get_or_default}
use Rattle.std.proofs.lemmas.List.Sums.{sum_by-cons}
use Rattle.std.proofs.Math.Nat.{pow-le-pow_right}
use Rattle.std.proofs.lemmas.Nat.Bits.{bit_at_and, bit_at_not}
use Rattle.tn_base.specs.declared.ids.ThreadId.{ThreadId}
use Rattle.tn_base.specs.declared.message.Dest.{Dest}
use Rattle.tn_base.specs.declared.message.Dest.TheVariants as dest
use Rattle.tn_base.specs.declared.message.Letter.{Letter}
use Rattle.tn_base.specs.declared.message.Packet.{Packet}
use Rattle.tn_base.specs.declared.port.Port.TheVariants as port
use Rattle.tn_base.specs.declared.shape.ShapeNumbers.{ShapeNumbers}
use Rattle.tn_base.specs.Address.{has_thread, in_tile, place_in_tile, tile_threads}
use Rattle.tn_base.specs.Message.{has_dest}
use Rattle.tn_base.specs.Ports.{tile_port}
use Rattle.tn_base.specs.Shape.{WithinLimits}
use Rattle.tn_base.proofs.TilePlaces.{place_below, place_named}
use Rattle.tn_keys.specs.Reach.{Reach}
use Rattle.tn_slots.proofs.Lists.{bit_cases}
use Rattle.tn_thread.specs.declared.thread.Thread.{Thread}
use Rattle.tn_tile.specs.Kept.{WellShaped}
use Rattle.tn_tile.specs.Receivers.{dead_in, is_dead, receivers}
use Rattle.tn_tile.specs.Step.{no_thread, thread_at}
use Rattle.tn_tile.specs.TileView.{TileView}
use Rattle.tn_tile.proofs.Dead.{dead_at, dead_below}
use Rattle.tn_tile.proofs.Packed.{few_places}
use Rattle.tn_letters.specs.declared.steps.BagStep.TheVariants as bag
use Rattle.tn_letters.specs.Letters.{packet_letters}
use Rattle.tn_letters.specs.Steps.{is_for_dead}
use Rattle.tn_letters.proofs.Receivers.{letters_here, place_letter, thread_here}
use Rattle.tn_order.specs.Acts.{Act, Dropped}
use Rattle.tn_order.specs.History.{behind, gone_of, sent_of, step_ends}
use Rattle.tn_order.specs.Net.{In}
use Rattle.tn_order.proofs.Acting.{dropped_in, gone_later}
use Rattle.tn_order.proofs.Landing.{IsLost}

-- what is dropped, as acts
abbrev pub drops : List Letter → List Act
drops ls = flat_map step_ends (map bag.Discard ls)

pub drops_sent : (mine : ℕ → ℕ → Bool) (ls : List Letter) (past : List Act) → sent_of mine (behind (drops ls) past) ≡ sent_of mine past
drops_sent mine [] past = refl
drops_sent mine (l ∷ ls) past = drops_sent mine ls (Dropped l.origin l.number l.receiver ∷ past)

-- a letter among those of which a test holds
abbrev test_of : ℕ → ℕ → ℕ → Letter → Bool
test_of origin number receiver l = l.origin == origin && (l.number == number && l.receiver == receiver)

-- one of the letters is for this receiver, of this packet, and for a thread that ended
abbrev counts : TileView → ℕ → ℕ → ℕ → Letter → ℕ
counts v origin number receiver l = cond (is_for_dead v l) (cond (test_of origin number receiver l) 1 0) 0

drops_one : (mine : ℕ → ℕ → Bool) (v : TileView) (origin number receiver : ℕ) (ls : List Letter) (past : List Act) → mine origin number ≡ true → 0 < sum_by (counts v origin number receiver) ls → In number (gone_of mine receiver (behind (drops (filter (is_for_dead v) ls)) past))
drops_one mine v origin number receiver [] past meant some = absurd (omega arith)
drops_one mine v origin number receiver (l ∷ ls) past meant some =
    let c = sum_by-cons (counts v origin number receiver) l ls in
    by (is_for_dead v l) (test_of origin number receiver l) refl refl (λ now more. drops_one mine v origin number receiver ls now meant more) (omega arith)
  where
    by : (dead test : Bool) → is_for_dead v l ≡ dead → test_of origin number receiver l ≡ test → ((now : List Act) → 0 < sum_by (counts v origin number receiver) ls → In number (gone_of mine receiver (behind (drops (filter (is_for_dead v) ls)) now))) → 0 < cond dead (cond test 1 0) 0 + sum_by (counts v origin number receiver) ls →
        In number (gone_of mine receiver (behind (drops (cond dead (l ∷ filter (is_for_dead v) ls) (filter (is_for_dead v) ls))) past))
    by false test e f others some = others past (omega arith)
    by true false e f others some = others (Dropped l.origin l.number l.receiver ∷ past) (omega arith)
    by true true e f others some =
        let p = and_parts _ _ f in
        let q = and_parts _ _ p.1 in
        let o = eqb-true l.origin origin p.0 in
        let i = eqb-true l.number number q.0 in
        let r = eqb-true l.receiver receiver q.1 in
        gone_later mine receiver number (drops (filter (is_for_dead v) ls)) (Dropped l.origin l.number l.receiver ∷ past)
        (subst (λ z. In z (gone_of mine receiver (Dropped l.origin l.number l.receiver ∷ past))) i (dropped_in mine receiver l.origin l.number l.receiver past (ap (λ z. mine z l.number) o ∙ (ap (mine origin) i ∙ meant)) r))

-- a term is at most the sum
term_below : (g : ℕ → ℕ) (i n k : ℕ) → i ≤ k → k < i + n → g k ≤ sum_by g (range_with_len i n)
term_below g i zero k low high = absurd (omega arith)
term_below g i (suc n) k low high =
    let c = sum_by-cons g i (range_with_len (i + 1) n) in
    elim (cases_eq k i) [
      | inl e ↦ (let f = ap g e in omega arith)
      | inr ne ↦ (let r = term_below g (i + 1) n k (omega arith) (omega arith) in omega arith)
    ]

-- a receiver that is not alive ended
dead_bit_one : (set dead k : ℕ) → dead < 2 ^ 64 → k < 64 → bit_at set k ≡ 1 → bit_at (bit_and set (bit_not w64 dead)) k ≡ 0 → bit_at dead k ≡ 1
dead_bit_one set dead k low few one none =
    let a = bit_at_and set (bit_not w64 dead) k in
    let b = bit_at_not w64 dead k low few in
    elim (bit_cases dead k) [
      | inl d ↦ d
      | inr d ↦ (let m : bit_at (bit_and set (bit_not w64 dead)) k ≡ min 1 (1 - 0) = a ∙ (ap (λ z. min z (bit_at (bit_not w64 dead) k)) one ∙ ap (min 1) (b ∙ ap (λ z. 1 - z) d)) in let z : bit_at (bit_and set (bit_not w64 dead)) k ≡ 1 = m ∙ refl in absurd (omega arith))
    ]

ended_one : (b : Bool) (m : ℕ) → m ≡ cond b 1 0 → m ≡ 1 → b ≡ true
ended_one true m e f = refl
ended_one false m e f = absurd (omega arith)

-- the letter for the receiver is dropped
pub drop_is_act : (n : ShapeNumbers) (goal : Dest) (mine : ℕ → ℕ → Bool) (reach : Reach) (v : TileView) (k : Packet) (t : ThreadId) (past : List Act) → WithinLimits v.plan.shape → WellShaped v → IsTrue (has_dest v.plan.shape k.dest) → IsTrue (has_thread v.plan.shape t.0) → tile_port v.plan.tile (dest.Thread t) ≡ port.Here →
    bit_at (receivers v.plan.shape k.dest) (place_in_tile v.plan.shape t.0) ≡ 1 → IsLost v (dest.Thread t) k.dest → mine k.origin k.number ≡ true → In k.number (gone_of mine t.0 (behind (drops (filter (is_for_dead v) (packet_letters v.plan.shape reach k))) past))
drop_is_act n goal mine reach v k t past limits shaped fits there home one lost meant =
    let m : ShapeNumbers = v.plan.shape in
    let place : ℕ = place_in_tile m t.0 in
    let on = thread_here m v.plan.tile t.0 shaped.tile there home in
    let at : in_tile m v.plan.tile place ≡ t.0 = ap (λ x. in_tile m x place) (sym on) ∙ place_named m t.0 there in
    let below : place < tile_threads m = place_below m t.0 there in
    let few : tile_threads m ≤ 64 = few_places m limits in
    let count = shaped.fits.threads.count in
    let within : place < length v.now.threads = omega arith in
    let most : length v.now.threads ≤ 64 = omega arith in
    let low : dead_in v.now.threads < 2 ^ 64 = let b = dead_below v.now.threads in let q : 2 ^ length v.now.threads ≤ 2 ^ 64 = pow-le-pow_right (omega arith) most in omega arith in
    let bit = dead_bit_one (receivers m k.dest) (dead_in v.now.threads) place low (omega arith) one lost.1 in
    let dead : is_dead (thread_at v.now place).state ≡ true = ended_one (is_dead (thread_at v.now place).state) (bit_at (dead_in v.now.threads) place) (dead_at v.now.threads place ∙ ap (λ (x : Thread). cond (is_dead x.state) 1 0) (get_or_default v.now.threads place _ no_thread within)) bit in
    let l : Letter = place_letter m v.plan.tile k.origin k.number k.bytes place in
    let for : is_for_dead v l ≡ true = ap (λ x. is_dead (thread_at v.now (place_in_tile m x)).state) at ∙ dead in
    let test : test_of k.origin k.number t.0 l ≡ true = ap (λ b. b && (k.number == k.number && in_tile m v.plan.tile place == t.0)) (eq-eqb k.origin k.origin refl) ∙ (ap (λ b. b && in_tile m v.plan.tile place == t.0) (eq-eqb k.number k.number refl) ∙ eq-eqb (in_tile m v.plan.tile place) t.0 at) in
    let f : Letter → ℕ = counts v k.origin k.number t.0 in
    let is_one : f l ≡ 1 = ap (λ b. cond b (cond (test_of k.origin k.number t.0 l) 1 0) 0) for ∙ ap (λ b. cond b 1 0) test in
    let sum = letters_here f m reach v.plan.tile k.origin k.number k.dest k.bytes limits shaped.tile fits lost.0 in
    let g : ℕ → ℕ = λ j. cond (bit_at (receivers m k.dest) j == 1) (f (place_letter m v.plan.tile k.origin k.number k.bytes j)) 0 in
    let term : g place ≡ 1 = ap (λ b. cond b (f l) 0) (eq-eqb (bit_at (receivers m k.dest) place) 1 one) ∙ is_one in
    let least = term_below g 0 (tile_threads m) place (omega arith) (omega arith) in
    drops_one mine v k.origin k.number t.0 (packet_letters m reach k) past meant (omega arith)
