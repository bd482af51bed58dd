-- What holds of each step of the bag machine that an event is.
use Rattle.std.proofs.Common.{ℕ, zero, suc, List, [], ◌∷◌, ◌++◌, map, Option, Some, None, slice_get}
use Rattle.std.specs.List.{AllByRecursion}
use Rattle.std.specs.Prelude.{option_and_then}
use Rattle.tn_base.specs.declared.event.Event.{Event}
use Rattle.tn_base.specs.declared.event.Event.TheVariants as event
use Rattle.tn_base.specs.declared.message.Letter.{Letter}
use Rattle.tn_base.specs.declared.message.Packet.{Packet}
use Rattle.tn_base.specs.declared.op.Op.{Op}
use Rattle.tn_base.specs.declared.op.Op.TheVariants as op
use Rattle.tn_base.specs.declared.port.Port.{Port}
use Rattle.tn_base.specs.declared.port.Port.TheVariants as port
use Rattle.tn_base.specs.Address.{place_in_tile}
use Rattle.tn_base.specs.Ports.{tile_port}
use Rattle.tn_host.specs.declared.script.ScriptItem.{ScriptItem}
use Rattle.tn_host.specs.declared.script.ScriptItem.TheVariants as item
use Rattle.tn_rows.specs.Events.{carried}
use Rattle.tn_rows.specs.PartView.{PartView, TileV, RouterV, LinkV, HostV, DetectorV, AbsentV}
use Rattle.tn_rows.specs.Places.{Places, Nowhere, One, Two, places}
use Rattle.tn_rows.specs.WorldView.{WorldView}
use Rattle.tn_tile.specs.TileView.{TileView}
use Rattle.tn_keys.specs.Reach.{Reach}
use Rattle.tn_letters.specs.declared.steps.BagStep.{BagStep}
use Rattle.tn_letters.specs.declared.steps.BagStep.TheVariants as bag
use Rattle.tn_letters.specs.declared.steps.Seen.{Seen}
use Rattle.tn_letters.specs.Steps.{after_step, arrival_steps, delivery_steps, dropped_at, dropped_by, event_steps, meeting_steps, part_steps, put_steps, send_steps, step_by, steps_at, take_steps, thread_step, turn_steps}
use Rattle.tn_letters.specs.Tiles.{host_in, reach_of}

-- it holds of what the host does, and of letters that are dropped
pub record HoldsBeside (P : BagStep → Type 0) : Type 0 where
  pub send : (l : Letter) → P (bag.HostSend l)
  pub hand : (l : Letter) → P (bag.HostHand l)
  pub drop : (l : Letter) → P (bag.Discard l)

-- it holds of each step of a thread
abbrev pub HoldsOf : (BagStep → Type 0) → ℕ → Type 0
HoldsOf P a = (seen : Seen) (l : Letter) (o : Op) → P (step_by a seen l o)

-- it holds of what an event is beside these
abbrev pub HoldsIn : (BagStep → Type 0) → Event → Type 0
HoldsIn P (event.Turn t n) = HoldsOf P t.0
HoldsIn P event.Announce = P bag.Announce
HoldsIn P _ = Unit {0}

all_append : (P : BagStep → Type 0) (xs ys : List BagStep) → AllByRecursion P xs → AllByRecursion P ys → AllByRecursion P (xs ++ ys)
all_append P [] ys p q = q
all_append P (x ∷ xs) ys p q = (p.0, all_append P xs ys p.1 q)

drops_each : (P : BagStep → Type 0) → HoldsBeside P → (ls : List Letter) → AllByRecursion P (map bag.Discard ls)
drops_each P h [] = tt
drops_each P h (l ∷ ls) = (h.drop l, drops_each P h ls)

dropped_each : (P : BagStep → Type 0) → HoldsBeside P → (ls : List Letter) (o : Op) → AllByRecursion P (dropped_by ls o)
dropped_each P h ls (op.Kill value) = drops_each P h ls
dropped_each P h ls op.None = tt
dropped_each P h ls (op.Send to bytes) = tt
dropped_each P h ls op.Hand = tt
dropped_each P h ls (op.Free slot) = tt
dropped_each P h ls (op.Idle vote) = tt
dropped_each P h ls (op.Trap why) = tt

turn_each : (P : BagStep → Type 0) → HoldsBeside P → (n a k : ℕ) (v : TileView) → HoldsOf P a → AllByRecursion P (turn_steps a k n v)
unfolding turn_steps
turn_each P h zero a k v own = tt
turn_each P h (suc n) a k v own = all_append P (thread_step a k v) (turn_steps a k n (after_step k v)) (own _ _ _, dropped_each P h _ _) (turn_each P h n a k (after_step k v) own)

dropped_at_each : (P : BagStep → Type 0) → HoldsBeside P → (way : Port) (reach : Reach) (p : Packet) (v : TileView) → AllByRecursion P (dropped_at way reach p v)
dropped_at_each P h port.Here reach p v = drops_each P h _
dropped_at_each P h port.East reach p v = tt
dropped_at_each P h port.West reach p v = tt
dropped_at_each P h port.South reach p v = tt
dropped_at_each P h port.North reach p v = tt
dropped_at_each P h port.Up reach p v = tt
dropped_at_each P h port.Down reach p v = tt
dropped_at_each P h port.HostPort reach p v = tt

delivery_each : (P : BagStep → Type 0) → HoldsBeside P → (reach : Reach) (o : Option Packet) (v : TileView) → AllByRecursion P (delivery_steps reach o v)
delivery_each P h reach None v = tt
delivery_each P h reach (Some p) v = dropped_at_each P h (tile_port v.plan.tile p.dest) reach p v

arrival_each : (P : BagStep → Type 0) → HoldsBeside P → (reach : Reach) (o : Option Packet) (x : Option PartView) → AllByRecursion P (arrival_steps reach o x)
arrival_each P h reach o None = tt
arrival_each P h reach o (Some (TileV v)) = delivery_each P h reach o v
arrival_each P h reach o (Some (RouterV v)) = tt
arrival_each P h reach o (Some (LinkV v)) = tt
arrival_each P h reach o (Some (HostV s)) = tt
arrival_each P h reach o (Some (DetectorV v)) = tt
arrival_each P h reach o (Some AbsentV) = tt

send_each : (P : BagStep → Type 0) → HoldsBeside P → (number : ℕ) (o : Option ScriptItem) → AllByRecursion P (send_steps number o)
send_each P h number None = tt
send_each P h number (Some (item.Send t bytes)) = (h.send _, tt)
send_each P h number (Some item.AwaitIdle) = tt

put_each : (P : BagStep → Type 0) → HoldsBeside P → (x : Option PartView) → AllByRecursion P (put_steps x)
put_each P h None = tt
put_each P h (Some x) = send_each P h (host_in x).sends _

take_each : (P : BagStep → Type 0) → HoldsBeside P → (o : Option Packet) → AllByRecursion P (take_steps o)
take_each P h None = tt
take_each P h (Some k) = (h.hand _, tt)

part_each : (P : BagStep → Type 0) → HoldsBeside P → (e : Event) (reach : Reach) (x : Option PartView) → HoldsIn P e → AllByRecursion P (part_steps reach e x)
part_each P h e reach None own = tt
part_each P h e reach (Some (RouterV v)) own = tt
part_each P h e reach (Some (LinkV v)) own = tt
part_each P h e reach (Some (HostV s)) own = tt
part_each P h e reach (Some AbsentV) own = tt
part_each P h (event.Turn t n) reach (Some (TileV v)) own = turn_each P h n t.0 (place_in_tile v.plan.shape t.0) v own
part_each P h (event.Deliver t) reach (Some (TileV v)) own = delivery_each P h reach _ v
part_each P h (event.Depart p l) reach (Some (TileV v)) own = tt
part_each P h (event.Arrive l p) reach (Some (TileV v)) own = tt
part_each P h (event.Route p) reach (Some (TileV v)) own = tt
part_each P h event.HostPut reach (Some (TileV v)) own = tt
part_each P h event.HostTake reach (Some (TileV v)) own = tt
part_each P h (event.Report p) reach (Some (TileV v)) own = tt
part_each P h event.Begin reach (Some (TileV v)) own = tt
part_each P h (event.Confirm p) reach (Some (TileV v)) own = tt
part_each P h event.Announce reach (Some (TileV v)) own = tt
part_each P h (event.Release p) reach (Some (TileV v)) own = tt
part_each P h (event.Go p) reach (Some (TileV v)) own = tt
part_each P h (event.Turn t n) reach (Some (DetectorV v)) own = tt
part_each P h (event.Deliver t) reach (Some (DetectorV v)) own = tt
part_each P h (event.Depart p l) reach (Some (DetectorV v)) own = tt
part_each P h (event.Arrive l p) reach (Some (DetectorV v)) own = tt
part_each P h (event.Route p) reach (Some (DetectorV v)) own = tt
part_each P h event.HostPut reach (Some (DetectorV v)) own = tt
part_each P h event.HostTake reach (Some (DetectorV v)) own = tt
part_each P h (event.Report p) reach (Some (DetectorV v)) own = tt
part_each P h event.Begin reach (Some (DetectorV v)) own = tt
part_each P h (event.Confirm p) reach (Some (DetectorV v)) own = tt
part_each P h event.Announce reach (Some (DetectorV v)) own = (own, tt)
part_each P h (event.Release p) reach (Some (DetectorV v)) own = tt
part_each P h (event.Go p) reach (Some (DetectorV v)) own = tt

meeting_each : (P : BagStep → Type 0) → HoldsBeside P → (e : Event) (reach : Reach) (low high : Option PartView) → AllByRecursion P (meeting_steps reach e low high)
meeting_each P h (event.Arrive l p) reach low high = arrival_each P h reach (option_and_then carried high) low
meeting_each P h event.HostPut reach low high = put_each P h low
meeting_each P h event.HostTake reach low high = take_each P h (option_and_then carried high)
meeting_each P h (event.Turn t n) reach low high = tt
meeting_each P h (event.Deliver t) reach low high = tt
meeting_each P h (event.Depart p l) reach low high = tt
meeting_each P h (event.Route p) reach low high = tt
meeting_each P h (event.Report p) reach low high = tt
meeting_each P h event.Begin reach low high = tt
meeting_each P h (event.Confirm p) reach low high = tt
meeting_each P h event.Announce reach low high = tt
meeting_each P h (event.Release p) reach low high = tt
meeting_each P h (event.Go p) reach low high = tt

steps_each : (P : BagStep → Type 0) → HoldsBeside P → (e : Event) (w : WorldView) (at : Places) → HoldsIn P e → AllByRecursion P (steps_at e w at)
steps_each P h e w Nowhere own = tt
steps_each P h e w (One p) own = part_each P h e (reach_of w) (slice_get w.parts p) own
steps_each P h e w (Two p q) own = meeting_each P h e (reach_of w) (slice_get w.parts p) (slice_get w.parts q)

pub event_each : (P : BagStep → Type 0) → HoldsBeside P → (e : Event) (w : WorldView) → HoldsIn P e → AllByRecursion P (event_steps e w)
event_each P h e w own = steps_each P h e w (places w.shape e) own
