-- An event drops at most 512 letters of a tile.
use Rattle.std.proofs.Common.{ℕ, zero, suc, ◌≡◌, ◌≤◌, ◌+◌, refl, sym, ap, arith, List, [], ◌∷◌, length, get_or, set, inl, inr, Option, Some, None}
use Rattle.std.proofs.lemmas.Bool.{cases_lt}
use Rattle.std.proofs.lemmas.List.{get_or_past}
use Rattle.rv_isa.specs.declared.instr.Instr.{Instr}
use Rattle.tn_base.specs.declared.message.Packet.{Packet}
use Rattle.tn_base.specs.declared.op.Op.{Op}
use Rattle.tn_base.specs.declared.op.Op.TheVariants as op
use Rattle.tn_base.specs.Address.{place_in_tile}
use Rattle.tn_node.specs.Deed.{Deed}
use Rattle.tn_node.specs.Deed as deed
use Rattle.tn_node.specs.NodeRows.{give_row}
use Rattle.tn_rows.proofs.Meeting.{mapped}
use Rattle.tn_slots.specs.Pool.{queue_at, taken_from}
use Rattle.tn_slots.specs.PoolModel.{PoolModel}
use Rattle.tn_slots.specs.WellKept.{WellKept}
use Rattle.tn_slots.proofs.Kept.{queue_short}
use Rattle.tn_thread.specs.declared.thread.Thread.{Thread}
use Rattle.tn_tile.specs.declared.state.TileState.{TileState}
use Rattle.tn_tile.specs.Rows.{delivered_from, tile_deed, with_node}
use Rattle.tn_tile.specs.Step.{acted, can_step, pending_at, step_at_place, stepped, steps_of, thread_at, with_thread}
use Rattle.tn_tile.specs.TileView.{TilePlan}
use Rattle.tn_tile.proofs.Deeds.{confirm_deed, deliver_tests, go_deed, release_deed, report_deed}
use Rattle.tn_tile.proofs.Known.{accepted_drops}
use Rattle.tn_tile.proofs.Packets.{passed_drops}
use Rattle.tn_tile.proofs.Steps.{taken as test_taken}
use Rattle.tn_tile.proofs.Turns.{turn_tests}

-- ---- queues

-- a queue has no more letters than the pool has slots
pub queue_few : (p : PoolModel) (k : ℕ) → WellKept p → length (queue_at p k) ≤ 512
queue_few p k kept = elim (cases_lt k (length p.queues)) [
  | inl there ↦ let short = queue_short p kept k there in let slots = kept.few_slots in omega arith
  | inr past ↦ let none = ap (λ (xs : List ℕ). length xs) (get_or_past p.queues k [] past) in omega arith
]

set_long : (qs : List (List ℕ)) (k : ℕ) (new : List ℕ) → length (get_or (set qs k new) k []) ≤ length new
set_long [] k new = omega arith
set_long (q ∷ qs) zero new = omega arith
set_long (q ∷ qs) (suc k) new = set_long qs k new

taken_long : (k : ℕ) (p : PoolModel) (q : List ℕ) → queue_at p k ≡ q → length (queue_at (taken_from k q p) k) ≤ length q
taken_long k p [] e = let same = ap (λ (xs : List ℕ). length xs) e in omega arith
taken_long k p (s ∷ rest) e = let less = set_long p.queues k rest in omega arith

-- ---- steps

-- the letters that were dropped, and those that a thread may still drop
abbrev at_stake : ℕ → TileState → ℕ
at_stake k s = s.dropped + length (queue_at s.pool k)

acted_stake : (k : ℕ) (t : Thread) (o : Op) (s : TileState) → at_stake k (acted k t o s) ≤ at_stake k s
acted_stake k t op.None s = omega arith
acted_stake k t (op.Send to bytes) s = omega arith
acted_stake k t op.Hand s = let less = taken_long k s.pool (queue_at s.pool k) refl in omega arith
acted_stake k t (op.Free slot) s = omega arith
acted_stake k t (op.Idle vote) s = omega arith
acted_stake k t (op.Kill value) s = let less = set_long s.pool.queues k [] in omega arith
acted_stake k t (op.Trap why) s = omega arith

stepped_stake : (code : List (Option Instr)) (k : ℕ) (s : TileState) → at_stake k (stepped code k s) ≤ at_stake k s
stepped_stake code k s =
    let made = step_at_place code k s in
    acted_stake k (thread_at s k) made.op (with_thread k made.thread s)

steps_stake : (n : ℕ) (plan : TilePlan) (k : ℕ) (s t : TileState) → steps_of plan k n s ≡ Some t → at_stake k t ≤ at_stake k s
unfolding steps_of
steps_stake zero plan k s t e = let same : s ≡ t = cc e in let size = ap (at_stake k) same in omega arith
steps_stake (suc n) plan k s t e =
    let first = test_taken (can_step plan.shape.fuel k s) (steps_of plan k n (stepped plan.code k s)) t e in
    let one = stepped_stake plan.code k s in
    let rest = steps_stake n plan k (stepped plan.code k s) t first.1 in
    omega arith

-- ---- deeds

same_few : (s t : TileState) → t.dropped ≡ s.dropped → t.dropped ≤ s.dropped + 512
same_few s t e = omega arith

delivered_few : (plan : TilePlan) (k : ℕ) (o : Option Packet) (s t : TileState) → length s.threads ≤ 64 → delivered_from plan k o s ≡ Some t → t.dropped ≤ s.dropped + 512
delivered_few plan k None s t few e = cc e
delivered_few plan k (Some p) s t few e =
    let d = passed_drops plan p _ t few e in
    let most = d.few in
    omega arith

abbrev dropped_of : TileState → ℕ
dropped_of s = s.dropped

pub deed_drops : (plan : TilePlan) (d : Deed) (s t : TileState) → WellKept s.pool → length s.threads ≤ 64 → tile_deed plan d s ≡ Some t → t.dropped ≤ s.dropped + 512
deed_drops plan (deed.Turn a m) s t kept few h =
    let k = place_in_tile plan.shape a.0 in
    let stake = steps_stake m plan k s t (turn_tests plan a.0 m s t h).steps in
    let long = queue_few s.pool k kept in
    omega arith
deed_drops plan (deed.Deliver a) s t kept few h =
    let k = place_in_tile plan.shape a.0 in
    delivered_few plan k (pending_at s k) s t few (deliver_tests plan a.0 s t h).row
deed_drops plan (deed.Give way k) s t kept few h = let m = mapped (with_node s) (give_row way k s.node) t h in same_few s t (ap dropped_of (sym m.2))
deed_drops plan (deed.Take side k) s t kept few h = let d = accepted_drops plan k s t few h in let most = d.few in omega arith
deed_drops plan deed.Route s t kept few h = cc h
deed_drops plan (deed.HostPut k) s t kept few h = cc h
deed_drops plan (deed.HostTake k) s t kept few h = cc h
deed_drops plan (deed.Report i g) s t kept few h = same_few s t (ap dropped_of (report_deed plan i g s t h).is)
deed_drops plan deed.Begin s t kept few h = cc h
deed_drops plan (deed.Confirm i g) s t kept few h = same_few s t (ap dropped_of (confirm_deed plan i g s t h).is)
deed_drops plan deed.Announce s t kept few h = cc h
deed_drops plan (deed.Release i g) s t kept few h = same_few s t (ap dropped_of (release_deed plan i g s t h).is)
deed_drops plan (deed.Go i g) s t kept few h = same_few s t (ap dropped_of (go_deed plan i g s t h).is)
