-- The calls of handlers in a run, its sends and its announcements, newest first, and what is read off them.
use Rattle.std.specs.Prelude.{ℕ, zero, suc, ◌+◌, ◌≡◌, ◌≤◌, ◌==◌, Bool, IsTrue, List, [], ◌∷◌, ◌++◌, count_by, map, if◌then◌else◌, Option, Some, None}
use Rattle.polite_switch.specs.declared.action.Action.{Action}
use Rattle.polite_switch.specs.declared.action.Action.TheVariants as action
use Rattle.polite_switch.specs.declared.course.Call.{Call}
use Rattle.polite_switch.specs.declared.course.Entry.{Entry}
use Rattle.polite_switch.specs.declared.course.Entry.TheVariants as entry
use Rattle.polite_switch.specs.DeviceModel.{DeviceModel}
use Rattle.tn_base.specs.declared.message.Letter.{Letter}
use Rattle.tn_base.specs.Address.{has_thread}
pub use Rattle.polite_edges.specs.declared.deed.Deed.{Deed}
pub use Rattle.polite_edges.specs.declared.deed.Deed.TheVariants.{Announced, Finished, Inited, Missed, Received, Sent, Stepped}
pub use Rattle.polite_edges.specs.declared.deed.PinSend.{PinSend}
use Rattle.polite_edges.specs.Layout.{Layout, device_count, vertex_in, with_key}

-- Which deed a dispatch is.

-- a recv handler is called with the letter that the thread has in hand
abbrev pub received_by : ℕ → Call → Option Letter → Option Deed
received_by a call None = Some (Missed a call.device call.in_edge)
received_by a call (Some l) = Some (Received a call.device call.in_edge l)

-- a handler is called. A send is a deed only when its handler has returned
abbrev pub begun_by : Entry → ℕ → Call → ℕ → Option Letter → Option Deed
begun_by entry.Init a call vertex held = Some (Inited a call.device vertex)
begun_by entry.Send a call vertex held = None
begun_by entry.Recv a call vertex held = received_by a call held
begun_by entry.Step a call vertex held = Some (Stepped a call.device vertex)
begun_by entry.Finish a call vertex held = Some (Finished a call.device vertex)

-- what a dispatch is read with: the thread, its devices, the number of its next packet, the message in its send slot, and the letter
-- that it holds
pub record Doer : Type 0 where
  pub thread : ℕ
  pub devices : List DeviceModel
  pub sends : ℕ
  pub message : List ℕ
  pub held : Option Letter

abbrev pub sent_by : Doer → Call → PinSend
sent_by x call = record { thread = x.thread; device = call.device; vertex = vertex_in x.devices call.device; pin = call.pin; number = x.sends; bytes = x.message }

-- the deed of a dispatch: what it has the thread do, and the call that was begun last
abbrev pub deed_of : Action → Option Call → Doer → Option Deed
deed_of (action.Handler entry state message value vertex ready) None x = None
deed_of (action.Handler entry state message value vertex ready) (Some call) x = begun_by call.entry x.thread call (vertex_in x.devices call.device) x.held
deed_of action.Recv call x = None
deed_of (action.KeySend key) None x = None
deed_of (action.KeySend key) (Some call) x = Some (Sent (sent_by x call))
deed_of action.HostSend call x = None
deed_of action.Free call x = None
deed_of (action.Wait waits) call x = None
deed_of (action.Idle vote) call x = None
deed_of action.Kill call x = None
deed_of (action.Trap why) call x = None

abbrev pub added : Option Deed → List Deed → List Deed
added None deeds = deeds
added (Some deed) deeds = deed ∷ deeds

-- What is read off the deeds.

-- what is due to an edge, or came to it: the packet by its sender's address and number there, and the bytes
pub record Item : Type 0 where
  pub edge : ℕ
  pub origin : ℕ
  pub number : ℕ
  pub bytes : List ℕ

-- a send is due to each edge of its pin, with the edge's local key over the first two bytes
abbrev pub due_of : Layout → PinSend → ℕ → Item
due_of g s e = record { edge = e; origin = s.thread; number = s.number; bytes = with_key (g.local e) s.bytes }

abbrev pub due : Layout → List Deed → List Item
due g [] = []
due g (Inited a d v ∷ older) = due g older
due g (Sent s ∷ older) = map (due_of g s) (g.edges s.vertex s.pin) ++ due g older
due g (Received a d e l ∷ older) = due g older
due g (Missed a d e ∷ older) = due g older
due g (Stepped a d v ∷ older) = due g older
due g (Finished a d v ∷ older) = due g older
due g (Announced value ∷ older) = due g older

abbrev pub item_of : ℕ → Letter → Item
item_of e l = record { edge = e; origin = l.origin; number = l.number; bytes = l.bytes }

abbrev pub received : List Deed → List Item
received [] = []
received (Inited a d v ∷ older) = received older
received (Sent s ∷ older) = received older
received (Received a d e l ∷ older) = item_of e l ∷ received older
received (Missed a d e ∷ older) = received older
received (Stepped a d v ∷ older) = received older
received (Finished a d v ∷ older) = received older
received (Announced value ∷ older) = received older

-- the value of the last announcement, 0 before the first
abbrev pub value_of : List Deed → ℕ
value_of [] = 0
value_of (Inited a d v ∷ older) = value_of older
value_of (Sent s ∷ older) = value_of older
value_of (Received a d e l ∷ older) = value_of older
value_of (Missed a d e ∷ older) = value_of older
value_of (Stepped a d v ∷ older) = value_of older
value_of (Finished a d v ∷ older) = value_of older
value_of (Announced value ∷ older) = value

-- the devices that thread b stepped since the last announcement, newest first
abbrev pub steps_on : ℕ → List Deed → List ℕ
steps_on b [] = []
steps_on b (Inited a d v ∷ older) = steps_on b older
steps_on b (Sent s ∷ older) = steps_on b older
steps_on b (Received a d e l ∷ older) = steps_on b older
steps_on b (Missed a d e ∷ older) = steps_on b older
steps_on b (Stepped a d v ∷ older) = if a == b then d ∷ steps_on b older else steps_on b older
steps_on b (Finished a d v ∷ older) = steps_on b older
steps_on b (Announced value ∷ older) = []

-- how often devices of thread b received since the last announcement
abbrev pub receives_on : ℕ → List Deed → ℕ
receives_on b [] = 0
receives_on b (Inited a d v ∷ older) = receives_on b older
receives_on b (Sent s ∷ older) = receives_on b older
receives_on b (Received a d e l ∷ older) = if a == b then 1 + receives_on b older else receives_on b older
receives_on b (Missed a d e ∷ older) = receives_on b older
receives_on b (Stepped a d v ∷ older) = receives_on b older
receives_on b (Finished a d v ∷ older) = receives_on b older
receives_on b (Announced value ∷ older) = 0

-- the numbers below n, the greatest first
abbrev pub down : ℕ → List ℕ
down zero = []
down (suc n) = n ∷ down n

-- The sentence.

pub record SameItems (xs ys : List Item) : Type 0 where
  pub each : (test : Item → Bool) → count_by test xs ≡ count_by test ys

-- nothing was received more often than it was due
pub record WasDue (g : Layout) (deeds : List Deed) : Type 0 where
  pub each : (test : Item → Bool) → count_by test (received deeds) ≤ count_by test (due g deeds)

-- after an announcement of 1 each thread stepped each of its devices once, in their order
pub record AllStepped (g : Layout) (deeds : List Deed) : Type 0 where
  pub each : value_of deeds ≡ 1 → (a : ℕ) → IsTrue (has_thread g.shape a) → steps_on a deeds ≡ down (device_count g a)

-- deeds are lawful, read back from the newest:
-- what is received was due, and was not received as often as it was due before; no letter is missing;
-- a step follows an announcement of 1, and nothing was received on its thread since; a finish follows an announcement of 2;
-- at an announcement exactly what was due was received, and after an announcement of 1 each device was stepped once
abbrev pub Lawful : Layout → List Deed → Type 0
Lawful g [] = Unit {0}
Lawful g (Inited a d v ∷ older) = Lawful g older
Lawful g (Sent s ∷ older) = Lawful g older
Lawful g (Received a d e l ∷ older) = WasDue g (Received a d e l ∷ older) × Lawful g older
Lawful g (Missed a d e ∷ older) = ⊥
Lawful g (Stepped a d v ∷ older) = (value_of older ≡ 1) × (receives_on a older ≡ 0) × Lawful g older
Lawful g (Finished a d v ∷ older) = (value_of older ≡ 2) × Lawful g older
Lawful g (Announced value ∷ older) = SameItems (received older) (due g older) × AllStepped g older × Lawful g older
