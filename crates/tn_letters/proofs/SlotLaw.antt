-- A slot that is used keeps its message: each change of a pool, each row of a tile, each event and each walk.
use Rattle.std.proofs.Common.{ℕ, ◌*◌, ◌%◌, ◌^◌, ◌≤◌, ◌≡◌, false, List, [], ◌∷◌, get_or, zero, suc, refl, ◌∙◌, ap, subst, arith, Option, Some, None, unwrap_or}
use Rattle.std.specs.Int.{bit_at, bit_not, w64}
use Rattle.std.proofs.lemmas.Nat.Bits.{bit_at_and}
use Rattle.tn_base.specs.declared.event.Event.{Event}
use Rattle.tn_base.specs.declared.ids.ThreadId.{ThreadId}
use Rattle.tn_base.specs.declared.op.Op.{Op}
use Rattle.tn_base.specs.declared.op.Op.TheVariants as op
use Rattle.tn_base.specs.Mask.{without_bit}
use Rattle.tn_node.specs.Deed.{Deed}
use Rattle.tn_node.specs.Deed as deed
use Rattle.tn_rows.specs.Events.{after, deed_of, detector_row, happened, host_row, link_row, router_row, tile_did, tile_row}
use Rattle.tn_rows.specs.PartView.{PartView, TileV, RouterV, LinkV, HostV, DetectorV, AbsentV}
use Rattle.tn_rows.specs.Runs.{Walk}
use Rattle.tn_rows.specs.WorldView.{WorldView}
use Rattle.tn_rows.proofs.Meeting.{mapped}
use Rattle.tn_slots.specs.declared.slot.Slot.{Slot}
use Rattle.tn_slots.specs.PoolModel.{PoolModel}
use Rattle.tn_slots.specs.Pool.{queue_at, slot_at, taken_from}
use Rattle.tn_slots.specs.Slot.{freed_slot, is_free, left_slot, taken_slot}
use Rattle.tn_stamp.specs.declared.entry.Crossing.{Crossing}
use Rattle.tn_thread.specs.declared.thread.Thread.{Thread}
use Rattle.tn_tile.specs.declared.state.TileState.{TileState}
use Rattle.tn_tile.specs.Step.{acted, can_step, step_at_place, stepped, steps_of, thread_at, with_thread}
use Rattle.tn_tile.specs.TileView.{TilePlan, TileView, with_now}
use Rattle.tn_tile.proofs.Steps.{taken}
use Rattle.tn_letters.specs.SlotLaw.{IsUsed, KeepsSlot, UsedAll, tile_on}
use Rattle.tn_letters.specs.Tiles.{tile_in}
use Rattle.tn_letters.proofs.EventParts.{event_parts}
use Rattle.tn_letters.proofs.SlotChanges.{IsUntouched, by_deed, map_each, set_each, used_untouched}

-- ---- one slot

-- a slot has the bytes that it had, and no thread is owed the slot that was not owed it
record KeepsBytes (old new : Slot) : Type 0 where
  bytes : new.bytes ≡ old.bytes
  owed : (k : ℕ) → bit_at new.owed k ≤ bit_at old.owed k

fewer : (m t k : ℕ) → bit_at (without_bit m t) k ≤ bit_at m k
unfolding without_bit
fewer m t k = let e = bit_at_and m (bit_not w64 (1 * 2 ^ t % 2 ^ 64)) k in omega arith

slot_same : (x : Slot) → KeepsBytes x x
slot_same x = record { bytes = refl; owed = λ k. omega arith }

slot_taken : (t : ℕ) (x : Slot) → KeepsBytes x (taken_slot t x)
slot_taken t x = record { bytes = refl; owed = fewer x.owed t }

slot_freed : (t : ℕ) (x : Slot) → KeepsBytes x (freed_slot t x)
slot_freed t x = record { bytes = refl; owed = λ k. omega arith }

slot_left : (t : ℕ) (x : Slot) → KeepsBytes x (left_slot t x)
slot_left t x = record { bytes = refl; owed = fewer x.owed t }

-- ---- the slots of a pool

took_keeps : (t j : ℕ) (queue : List ℕ) (p : PoolModel) → KeepsBytes (slot_at p j) (slot_at (taken_from t queue p) j)
took_keeps t j [] p = slot_same (slot_at p j)
took_keeps t j (s ∷ rest) p = set_each KeepsBytes slot_same p.slots s j (taken_slot t (slot_at p s)) (slot_taken t (slot_at p s))

-- ---- a tile

-- two states of one tile keep a slot
abbrev Kept : TilePlan → ℕ → TileState → TileState → Type 0
Kept plan j old new = KeepsSlot j (record { plan = plan; now = old }) (record { plan = plan; now = new })

pub same_kept : (v : TileView) (j : ℕ) → KeepsSlot j v v
same_kept v j = record { bytes = refl; sender = refl; owed = λ k. omega arith }

pub kept_join : (u v w : TileView) (j : ℕ) → KeepsSlot j u v → KeepsSlot j v w → KeepsSlot j u w
kept_join u v w j a b = record {
  bytes = b.bytes ∙ a.bytes;
  sender = b.sender ∙ a.sender;
  owed = λ k. let x = a.owed k in let y = b.owed k in omega arith;
}

-- the senders did not change, so it is enough that the pool's slot keeps its bytes
by_slots : (plan : TilePlan) (j : ℕ) (old new : TileState) → new.senders ≡ old.senders → KeepsBytes (slot_at old.pool j) (slot_at new.pool j) → Kept plan j old new
by_slots plan j old new e keeps = record {
  bytes = keeps.bytes;
  sender = ap (λ xs. get_or xs j (record { origin = 0; number = 0 })) e;
  owed = keeps.owed;
}

acted_kept : (plan : TilePlan) (k j : ℕ) (t : Thread) (o : Op) (s : TileState) → Kept plan j s (acted k t o s)
acted_kept plan k j t op.None s = by_slots plan j s (acted k t op.None s) refl (slot_same (slot_at s.pool j))
acted_kept plan k j t (op.Send to bytes) s = by_slots plan j s (acted k t (op.Send to bytes) s) refl (slot_same (slot_at s.pool j))
acted_kept plan k j t op.Hand s = by_slots plan j s (acted k t op.Hand s) refl (took_keeps k j (queue_at s.pool k) s.pool)
acted_kept plan k j t (op.Free slot) s = by_slots plan j s (acted k t (op.Free slot) s) refl (set_each KeepsBytes slot_same s.pool.slots slot j (freed_slot k (slot_at s.pool slot)) (slot_freed k (slot_at s.pool slot)))
acted_kept plan k j t (op.Idle vote) s = by_slots plan j s (acted k t (op.Idle vote) s) refl (slot_same (slot_at s.pool j))
acted_kept plan k j t (op.Kill value) s = by_slots plan j s (acted k t (op.Kill value) s) refl (map_each KeepsBytes slot_same (left_slot k) (slot_left k) j s.pool.slots)
acted_kept plan k j t (op.Trap why) s = by_slots plan j s (acted k t (op.Trap why) s) refl (slot_same (slot_at s.pool j))

-- a step of a thread puts no message
stepped_kept : (plan : TilePlan) (k j : ℕ) (s : TileState) → Kept plan j s (stepped plan.code k s)
stepped_kept plan k j s =
    let made = step_at_place plan.code k s in
    let r = acted_kept plan k j (thread_at s k) made.op (with_thread k made.thread s) in
    record { bytes = r.bytes; sender = r.sender; owed = r.owed }

steps_kept : (n : ℕ) (plan : TilePlan) (k j : ℕ) (old new : TileState) → steps_of plan k n old ≡ Some new → Kept plan j old new
unfolding steps_of
steps_kept zero plan k j old new e =
    subst (λ (x : TileState). Kept plan j old x) (ap (λ o. unwrap_or o new) e) (same_kept (record { plan = plan; now = old }) j)
steps_kept (suc n) plan k j old new e =
    let first = taken (can_step plan.shape.fuel k old) (steps_of plan k n (stepped plan.code k old)) new e in
    let mid = stepped plan.code k old in
    kept_join (record { plan = plan; now = old }) (record { plan = plan; now = mid }) (record { plan = plan; now = new }) j (stepped_kept plan k j old) (steps_kept n plan k j mid new first.1)

-- a slot that is left as it was is kept
untouched_kept : (plan : TilePlan) (j : ℕ) (old new : TileState) → IsUntouched j old new → Kept plan j old new
untouched_kept plan j old new u = record {
  bytes = ap (λ (x : Slot). x.bytes) u.slot;
  sender = u.sender;
  owed = λ k. let b = ap (λ (x : Slot). bit_at x.owed k) u.slot in omega arith;
}

-- ---- an event on a tile

-- a turn keeps each slot, and each other deed leaves a used slot as it was
pub turn_kept : (plan : TilePlan) (j : ℕ) (t : ThreadId) (n : ℕ) (old new : TileState) → tile_did plan old (Some (deed.Turn t n)) ≡ Some new → Kept plan j old new
turn_kept plan j t n old new e = steps_kept n plan _ j old new (taken _ (steps_of plan _ n old) new e).1

deed_kept : (plan : TilePlan) (j : ℕ) (d : Option Deed) (old new : TileState) → is_free (slot_at old.pool j) ≡ false → tile_did plan old d ≡ Some new → Kept plan j old new
deed_kept plan j None old new used e = cc e
deed_kept plan j (Some d) old new used e = by_deed (λ d. tile_did plan old (Some d) ≡ Some new → Kept plan j old new)
    (λ t n e. turn_kept plan j t n old new e) (λ d quiet e. untouched_kept plan j old new (used_untouched plan j d old new quiet used e)) d e

after_kept : (e : Event) (c : Crossing) (j : ℕ) (old new : PartView) → after e c old ≡ Some new → IsUsed j (tile_in old) → KeepsSlot j (tile_in old) (tile_in new)
after_kept e c j (TileV v) new h used =
    let m = mapped TileV (tile_row e c v) new h in
    let now = mapped (with_now v) (tile_did v.plan v.now (deed_of v.plan.shape e c)) m.0 m.1 in
    subst (λ (x : PartView). KeepsSlot j v (tile_in x)) (ap TileV now.2 ∙ m.2) (deed_kept v.plan j (deed_of v.plan.shape e c) v.now now.0 used now.1)
after_kept e c j (RouterV v) new h used =
    let m = mapped RouterV (router_row e c v) new h in
    subst (λ (x : PartView). KeepsSlot j (tile_in (RouterV v)) (tile_in x)) m.2 (same_kept (tile_in (RouterV v)) j)
after_kept e c j (LinkV v) new h used =
    let m = mapped LinkV (link_row e c v) new h in
    subst (λ (x : PartView). KeepsSlot j (tile_in (LinkV v)) (tile_in x)) m.2 (same_kept (tile_in (LinkV v)) j)
after_kept e c j (DetectorV v) new h used =
    let m = mapped DetectorV (detector_row e c v) new h in
    subst (λ (x : PartView). KeepsSlot j (tile_in (DetectorV v)) (tile_in x)) m.2 (same_kept (tile_in (DetectorV v)) j)
after_kept e c j (HostV s) new h used =
    let m = mapped HostV (host_row e c s) new h in
    subst (λ (x : PartView). KeepsSlot j (tile_in (HostV s)) (tile_in x)) m.2 (same_kept (tile_in (HostV s)) j)
after_kept e c j AbsentV new h used = cc h

-- ---- an event on a machine

pub event_keeps : (e : Event) (old new : WorldView) (p s : ℕ) → happened e old ≡ Some new → IsUsed s (tile_on old p) → KeepsSlot s (tile_on old p) (tile_on new p)
event_keeps e old new p s is used = event_parts (λ i a b. IsUsed s (tile_in a) → KeepsSlot s (tile_in a) (tile_in b)) (λ i x u. same_kept (tile_in x) s) e old new (λ c crosses i a b read row u. after_kept e c s a b row u) is p used

-- ---- a walk

pub walk_keeps : (events : List Event) (start end : WorldView) (p s : ℕ) → Walk start events end → UsedAll p s start events → KeepsSlot s (tile_on start p) (tile_on end p)
walk_keeps [] start end p s walk used = subst (λ (x : WorldView). KeepsSlot s (tile_on start p) (tile_on x p)) walk (same_kept (tile_on start p) s)
walk_keeps (e ∷ es) start end p s walk used =
    let first = event_keeps e start walk.0 p s walk.1 used.0 in
    let rest = walk_keeps es walk.0 end p s walk.2 (used.1 walk.0 walk.1) in
    kept_join (tile_on start p) (tile_on walk.0 p) (tile_on end p) s first rest
