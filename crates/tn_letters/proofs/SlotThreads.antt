-- A used slot stays with each thread that makes no turn: each change of a slot, each row of a tile and each event.
use Rattle.std.proofs.Common.{ℕ, ◌-◌, ◌+◌, ◌*◌, ◌%◌, ◌^◌, ◌<◌, ◌≤◌, ◌≡◌, ◌≢◌, ◌&&◌, Bool, true, false, List, [], ◌∷◌, zero, suc, refl, sym, ◌∙◌, ap, subst, inl, inr, arith, Option, Some, None, unwrap_or}
use Rattle.std.specs.Int.{bit_at, bit_not, w64}
use Rattle.std.specs.Int.Bits.{bit_and, bit_or, or_zero_r}
use Rattle.std.proofs.Math.Nat.{mul-mod_left}
use Rattle.std.proofs.lemmas.Bool.{and_parts, cases_lt, eqb-true}
use Rattle.std.proofs.lemmas.Nat.{pow-add, pow_pos}
use Rattle.std.proofs.lemmas.Nat.Bits.{bit_at_and, bit_at_not, bit_at-lt, bit_at-zero}
use Rattle.tn_base.specs.declared.event.Event.{Event}
use Rattle.tn_base.specs.declared.event.Event.TheVariants as event
use Rattle.tn_base.specs.declared.ids.ThreadId.{ThreadId}
use Rattle.tn_base.specs.declared.op.Op.{Op}
use Rattle.tn_base.specs.declared.op.Op.TheVariants as op
use Rattle.tn_base.specs.Address.{in_tile, place_in_tile}
use Rattle.tn_base.specs.Mask.{with_bit, without_bit}
use Rattle.tn_base.proofs.Masks.{with_other, without_other}
use Rattle.tn_base.proofs.TilePlaces.{place_named}
use Rattle.tn_node.specs.Deed.{Deed}
use Rattle.tn_node.specs.Deed as deed
use Rattle.tn_rows.specs.Events.{after, deed_of, detector_row, happened, host_row, link_row, router_row, tile_did, tile_row}
use Rattle.tn_rows.specs.PartView.{PartView, TileV, RouterV, LinkV, HostV, DetectorV, AbsentV}
use Rattle.tn_rows.specs.WorldView.{WorldView}
use Rattle.tn_rows.proofs.Meeting.{mapped}
use Rattle.tn_slots.specs.declared.slot.Slot.{Slot}
use Rattle.tn_slots.specs.PoolModel.{PoolModel}
use Rattle.tn_slots.specs.Pool.{queue_at, slot_at, taken_from}
use Rattle.tn_slots.specs.Slot.{freed_slot, is_free, left_slot, taken_slot}
use Rattle.tn_stamp.specs.declared.entry.Crossing.{Crossing}
use Rattle.tn_stamp.specs.declared.entry.Crossing.TheVariants as crossing
use Rattle.tn_thread.specs.declared.thread.Thread.{Thread}
use Rattle.tn_tile.specs.declared.state.TileState.{TileState}
use Rattle.tn_tile.specs.Rows.{is_here}
use Rattle.tn_tile.specs.Step.{acted, can_step, step_at_place, stepped, steps_of, thread_at, with_thread}
use Rattle.tn_tile.specs.TileView.{TilePlan, TileView, with_now}
use Rattle.tn_tile.proofs.Steps.{taken}
use Rattle.tn_letters.specs.SlotLaw.{IsOther, IsUsed, StaysWith, tile_on}
use Rattle.tn_letters.specs.Tiles.{tile_in}
use Rattle.tn_letters.proofs.EventParts.{event_parts}
use Rattle.tn_letters.proofs.SlotChanges.{IsUntouched, by_deed, map_each, set_each, used_untouched}

-- ---- sets of threads

-- past the 64 bits of a set there is no bit
past_set : (t : ℕ) → 64 ≤ t → 1 * 2 ^ t % 2 ^ 64 ≡ 0
past_set t h =
    let back : t - 64 + 64 ≡ t = omega arith in
    let one : 1 * 2 ^ t ≡ 2 ^ t = omega arith in
    ap (λ x. x % 2 ^ 64) (one ∙ (sym (ap (λ i. 2 ^ i) back) ∙ pow-add 2 (t - 64) 64)) ∙ mul-mod_left (2 ^ (t - 64)) (2 ^ 64)

-- another thread stays in the set, or out of it
added_other : (m t k : ℕ) → k < 64 → k ≢ t → bit_at (with_bit m t) k ≡ bit_at m k
unfolding with_bit
added_other m t k low ne = elim (cases_lt t 64) [
  | inl h ↦ with_other m t k h ne
  | inr past ↦ ap (λ x. bit_at (bit_or m x) k) (past_set t past) ∙ ap (λ y. bit_at y k) (or_zero_r m)
]

gone_other : (m t k : ℕ) → k < 64 → k ≢ t → bit_at (without_bit m t) k ≡ bit_at m k
unfolding without_bit
gone_other m t k low ne = elim (cases_lt t 64) [
  | inl h ↦ without_other m t k h low ne
  | inr past ↦
      let a = bit_at_and m (bit_not w64 0) k in
      let b = bit_at_not w64 0 k (pow_pos 64) low in
      let c = bit_at-zero k in
      let d = bit_at-lt m k in
      ap (λ x. bit_at (bit_and m (bit_not w64 x)) k) (past_set t past) ∙ omega arith
]

-- ---- one slot

-- the thread at place k is owed the slot, and holds it, as before
record Shares (k : ℕ) (old new : Slot) : Type 0 where
  owed : bit_at new.owed k ≡ bit_at old.owed k
  holders : bit_at new.holders k ≡ bit_at old.holders k

slot_same : (k : ℕ) (x : Slot) → Shares k x x
slot_same k x = record { owed = refl; holders = refl }

slot_taken : (t k : ℕ) (x : Slot) → k < 64 → k ≢ t → Shares k x (taken_slot t x)
slot_taken t k x low ne = record { owed = gone_other x.owed t k low ne; holders = added_other x.holders t k low ne }

slot_freed : (t k : ℕ) (x : Slot) → k < 64 → k ≢ t → Shares k x (freed_slot t x)
slot_freed t k x low ne = record { owed = refl; holders = gone_other x.holders t k low ne }

slot_left : (t k : ℕ) (x : Slot) → k < 64 → k ≢ t → Shares k x (left_slot t x)
slot_left t k x low ne = record { owed = gone_other x.owed t k low ne; holders = gone_other x.holders t k low ne }

took_shares : (t j k : ℕ) (queue : List ℕ) (p : PoolModel) → k < 64 → k ≢ t → Shares k (slot_at p j) (slot_at (taken_from t queue p) j)
took_shares t j k [] p low ne = slot_same k (slot_at p j)
took_shares t j k (s ∷ rest) p low ne = set_each (Shares k) (slot_same k) p.slots s j (taken_slot t (slot_at p s)) (slot_taken t k (slot_at p s) low ne)

-- ---- a tile

-- slot j of two states of one tile stays with the thread at place k
abbrev Stays : ℕ → ℕ → TileState → TileState → Type 0
Stays j k old new = Shares k (slot_at old.pool j) (slot_at new.pool j)

shares_join : (k : ℕ) (x y z : Slot) → Shares k x y → Shares k y z → Shares k x z
shares_join k x y z a b = record { owed = b.owed ∙ a.owed; holders = b.holders ∙ a.holders }

-- the thread at place i acts, which is another one
acted_stays : (i j k : ℕ) (t : Thread) (o : Op) (s : TileState) → k < 64 → k ≢ i → Stays j k s (acted i t o s)
acted_stays i j k t op.None s low ne = slot_same k (slot_at s.pool j)
acted_stays i j k t (op.Send to bytes) s low ne = slot_same k (slot_at s.pool j)
acted_stays i j k t op.Hand s low ne = took_shares i j k (queue_at s.pool i) s.pool low ne
acted_stays i j k t (op.Free slot) s low ne = set_each (Shares k) (slot_same k) s.pool.slots slot j (freed_slot i (slot_at s.pool slot)) (slot_freed i k (slot_at s.pool slot) low ne)
acted_stays i j k t (op.Idle vote) s low ne = slot_same k (slot_at s.pool j)
acted_stays i j k t (op.Kill value) s low ne = map_each (Shares k) (slot_same k) (left_slot i) (λ x. slot_left i k x low ne) j s.pool.slots
acted_stays i j k t (op.Trap why) s low ne = slot_same k (slot_at s.pool j)

stepped_stays : (plan : TilePlan) (i j k : ℕ) (s : TileState) → k < 64 → k ≢ i → Stays j k s (stepped plan.code i s)
stepped_stays plan i j k s low ne =
    let made = step_at_place plan.code i s in
    acted_stays i j k (thread_at s i) made.op (with_thread i made.thread s) low ne

steps_stay : (n : ℕ) (plan : TilePlan) (i j k : ℕ) (old new : TileState) → k < 64 → k ≢ i → steps_of plan i n old ≡ Some new → Stays j k old new
unfolding steps_of
steps_stay zero plan i j k old new low ne e = subst (λ (x : TileState). Stays j k old x) (ap (λ o. unwrap_or o new) e) (slot_same k (slot_at old.pool j))
steps_stay (suc n) plan i j k old new low ne e =
    let first = taken (can_step plan.shape.fuel i old) (steps_of plan i n (stepped plan.code i old)) new e in
    let mid : TileState = stepped plan.code i old in
    shares_join k (slot_at old.pool j) (slot_at mid.pool j) (slot_at new.pool j) (stepped_stays plan i j k old low ne) (steps_stay n plan i j k mid new low ne first.1)

untouched_stays : (j k : ℕ) (old new : TileState) → IsUntouched j old new → Stays j k old new
untouched_stays j k old new u = record { owed = ap (λ (x : Slot). bit_at x.owed k) u.slot; holders = ap (λ (x : Slot). bit_at x.holders k) u.slot }

-- ---- an event on a tile

-- the deed is no turn of the thread at place k
abbrev OtherDeed : TilePlan → ℕ → Option Deed → Type 0
OtherDeed plan k None = Unit {0}
OtherDeed plan k (Some (deed.Turn t n)) = t.0 ≢ in_tile plan.shape plan.tile k
OtherDeed plan k (Some d) = Unit {0}

-- a thread of the tile at another address is at another place
other_place : (plan : TilePlan) (k a : ℕ) → is_here plan a ≡ true → a ≢ in_tile plan.shape plan.tile k → k ≢ place_in_tile plan.shape a
other_place plan k a here ne same =
    let parts = and_parts _ _ here in
    ne (sym (ap (in_tile plan.shape plan.tile) same ∙ (ap (λ t. in_tile plan.shape t (place_in_tile plan.shape a)) (sym (eqb-true _ _ parts.1)) ∙ place_named plan.shape a parts.0)))

first_of_four : (a b c d : Bool) → (a && b && c && d) ≡ true → a ≡ true
first_of_four true b c d e = refl
first_of_four false b c d e = cc e

turn_stays : (plan : TilePlan) (j k : ℕ) (t : ThreadId) (n : ℕ) (old new : TileState) → k < 64 → t.0 ≢ in_tile plan.shape plan.tile k → tile_did plan old (Some (deed.Turn t n)) ≡ Some new → Stays j k old new
turn_stays plan j k t n old new low ne e =
    let yes = taken _ (steps_of plan (place_in_tile plan.shape t.0) n old) new e in
    steps_stay n plan (place_in_tile plan.shape t.0) j k old new low (other_place plan k t.0 (first_of_four (is_here plan t.0) _ _ _ yes.0) ne) yes.1

deed_stays : (plan : TilePlan) (j k : ℕ) (d : Option Deed) (old new : TileState) → k < 64 → is_free (slot_at old.pool j) ≡ false → OtherDeed plan k d → tile_did plan old d ≡ Some new → Stays j k old new
deed_stays plan j k None old new low used other e = cc e
deed_stays plan j k (Some d) old new low used other e = by_deed (λ d. OtherDeed plan k (Some d) → tile_did plan old (Some d) ≡ Some new → Stays j k old new)
    (λ t n other e. turn_stays plan j k t n old new low other e) (λ d quiet other e. untouched_stays j k old new (used_untouched plan j d old new quiet used e)) d other e

other_deed : (e : Event) (c : Crossing) (v : TileView) (k : ℕ) → IsOther e v k → OtherDeed v.plan k (deed_of v.plan.shape e c)
other_deed (event.Turn t n) crossing.None v k other = other
other_deed (event.Turn t n) (crossing.Packet x) v k other = tt
other_deed (event.Turn t n) (crossing.View f) v k other = tt
other_deed (event.Deliver t) crossing.None v k other = tt
other_deed (event.Deliver t) (crossing.Packet x) v k other = tt
other_deed (event.Deliver t) (crossing.View f) v k other = tt
other_deed (event.Depart p l) crossing.None v k other = tt
other_deed (event.Depart p l) (crossing.Packet x) v k other = tt
other_deed (event.Depart p l) (crossing.View f) v k other = tt
other_deed (event.Arrive l p) crossing.None v k other = tt
other_deed (event.Arrive l p) (crossing.Packet x) v k other = tt
other_deed (event.Arrive l p) (crossing.View f) v k other = tt
other_deed (event.Route p) crossing.None v k other = tt
other_deed (event.Route p) (crossing.Packet x) v k other = tt
other_deed (event.Route p) (crossing.View f) v k other = tt
other_deed event.HostPut crossing.None v k other = tt
other_deed event.HostPut (crossing.Packet x) v k other = tt
other_deed event.HostPut (crossing.View f) v k other = tt
other_deed event.HostTake crossing.None v k other = tt
other_deed event.HostTake (crossing.Packet x) v k other = tt
other_deed event.HostTake (crossing.View f) v k other = tt
other_deed (event.Report p) crossing.None v k other = tt
other_deed (event.Report p) (crossing.Packet x) v k other = tt
other_deed (event.Report p) (crossing.View f) v k other = tt
other_deed event.Begin crossing.None v k other = tt
other_deed event.Begin (crossing.Packet x) v k other = tt
other_deed event.Begin (crossing.View f) v k other = tt
other_deed (event.Confirm p) crossing.None v k other = tt
other_deed (event.Confirm p) (crossing.Packet x) v k other = tt
other_deed (event.Confirm p) (crossing.View f) v k other = tt
other_deed event.Announce crossing.None v k other = tt
other_deed event.Announce (crossing.Packet x) v k other = tt
other_deed event.Announce (crossing.View f) v k other = tt
other_deed (event.Release p) crossing.None v k other = tt
other_deed (event.Release p) (crossing.Packet x) v k other = tt
other_deed (event.Release p) (crossing.View f) v k other = tt
other_deed (event.Go p) crossing.None v k other = tt
other_deed (event.Go p) (crossing.Packet x) v k other = tt
other_deed (event.Go p) (crossing.View f) v k other = tt

-- what the law says of a part
abbrev StaysOn : Event → ℕ → ℕ → PartView → PartView → Type 0
StaysOn e j k old new = IsUsed j (tile_in old) → IsOther e (tile_in old) k → StaysWith j k (tile_in old) (tile_in new)

view_same : (j k : ℕ) (v : TileView) → StaysWith j k v v
view_same j k v = record { owed = refl; holders = refl }

after_stays : (e : Event) (c : Crossing) (j k : ℕ) (old new : PartView) → k < 64 → after e c old ≡ Some new → StaysOn e j k old new
after_stays e c j k (TileV v) new low h used other =
    let m = mapped TileV (tile_row e c v) new h in
    let now = mapped (with_now v) (tile_did v.plan v.now (deed_of v.plan.shape e c)) m.0 m.1 in
    let s = deed_stays v.plan j k (deed_of v.plan.shape e c) v.now now.0 low used (other_deed e c v k other) now.1 in
    subst (λ (x : PartView). StaysWith j k v (tile_in x)) (ap TileV now.2 ∙ m.2) (record { owed = s.owed; holders = s.holders })
after_stays e c j k (RouterV v) new low h used other =
    let m = mapped RouterV (router_row e c v) new h in
    subst (λ (x : PartView). StaysWith j k (tile_in (RouterV v)) (tile_in x)) m.2 (view_same j k (tile_in (RouterV v)))
after_stays e c j k (LinkV v) new low h used other =
    let m = mapped LinkV (link_row e c v) new h in
    subst (λ (x : PartView). StaysWith j k (tile_in (LinkV v)) (tile_in x)) m.2 (view_same j k (tile_in (LinkV v)))
after_stays e c j k (DetectorV v) new low h used other =
    let m = mapped DetectorV (detector_row e c v) new h in
    subst (λ (x : PartView). StaysWith j k (tile_in (DetectorV v)) (tile_in x)) m.2 (view_same j k (tile_in (DetectorV v)))
after_stays e c j k (HostV s) new low h used other =
    let m = mapped HostV (host_row e c s) new h in
    subst (λ (x : PartView). StaysWith j k (tile_in (HostV s)) (tile_in x)) m.2 (view_same j k (tile_in (HostV s)))
after_stays e c j k AbsentV new low h used other = cc h

pub thread_keeps : (e : Event) (old new : WorldView) (p s k : ℕ) → k < 64 → happened e old ≡ Some new → IsUsed s (tile_on old p) → IsOther e (tile_on old p) k → StaysWith s k (tile_on old p) (tile_on new p)
thread_keeps e old new p s k low is used other =
    event_parts (λ i a b. StaysOn e s k a b) (λ i x u o. view_same s k (tile_in x)) e old new (λ c crosses i a b read row u o. after_stays e c s k a b low row u o) is p used other
