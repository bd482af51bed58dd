-- The machine that a run of threads with softswitches is: nodes, the letters in flight, and the deeds. What a handler returns is free.
use Rattle.std.proofs.Common.{ℕ, ◌+◌, ◌≡◌, ◌≢◌, ◌⊎◌, Bool, true, List, ◌∷◌, sum_by, Option, Some, None}
use Rattle.std.specs.Prelude.{is_some, map, option_map}
use Rattle.polite_switch.specs.declared.action.Action.{Action}
use Rattle.polite_switch.specs.declared.action.Action.TheVariants as action
use Rattle.polite_switch.specs.declared.action.SwitchView.{SwitchView}
use Rattle.polite_switch.specs.declared.device.InEdge.{InEdge}
use Rattle.polite_switch.specs.Device.{edges_at}
use Rattle.polite_switch.specs.SwitchModel.{SwitchModel}
use Rattle.polite_switch.specs.Table.{Dispatched, dispatched, fault_of}
use Rattle.tn_base.specs.declared.message.Letter.{Letter}
use Rattle.tn_base.specs.Address.{has_thread}
use Rattle.tn_slots.specs.Pool.{key_in}
use Rattle.polite_routes.specs.Hops.{Hop}
use Rattle.polite_edges.specs.Layout.{Layout, with_key}
use Rattle.polite_edges.specs.Deeds.{Announced, Deed, Doer, Item, added, deed_of, item_of}

-- what a thread is doing: it is at the firmware or in a handler, or idle, or answered, or dead
pub data Status : Type 0 where
  Going : Status
  Idling : Status
  Answered : ℕ → Status
  Dead : Status

pub record Node : Type 0 where
  pub switch : SwitchModel
  pub status : Status
  -- the answer that the next dispatch sees, else 0
  pub given : ℕ
  -- the number of the thread's next packet
  pub sends : ℕ
  -- the letter that the thread holds
  pub hand : Option Letter

pub record World : Type 0 where
  pub flight : List Letter
  pub node : ℕ → Node
  pub deeds : List Deed

-- the machine has this thread
abbrev pub Has : Layout → ℕ → Type 0
Has g a = has_thread g.shape a ≡ true

-- what a letter in flight will bring
abbrev pub brings : (Item → ℕ) → Layout → Letter → ℕ
brings w g l = sum_by (λ (e : InEdge). w (item_of e.edge l)) (edges_at (g.in_edges l.receiver) (key_in l.bytes))

-- what all letters in flight will bring
abbrev pub flying : (Item → ℕ) → Layout → List Letter → ℕ
flying w g ls = sum_by (brings w g) ls

-- two flights bring the same
abbrev pub SameFlight : Layout → List Letter → List Letter → Type 0
SameFlight g old new = (w : Item → ℕ) → flying w g new ≡ flying w g old

pub record Changed (g : Layout) (old new : ℕ → Node) (at : ℕ) : Type 0 where
  pub other : (a : ℕ) → Has g a → a ≢ at → new a ≡ old a

-- one dispatch: of which thread, what it sees, what a handler returned and left in the send slot
pub record Dispatch : Type 0 where
  pub thread : ℕ
  pub can_send : Bool
  pub seen : Option Letter
  pub a0 : ℕ
  pub a1 : ℕ
  pub bytes : List ℕ

abbrev pub view_of : Dispatch → Node → SwitchView
view_of d n = record { can_send = d.can_send; can_recv = is_some d.seen; key = option_map (λ (l : Letter). key_in l.bytes) d.seen; answer = n.given; a0 = d.a0; a1 = d.a1 }

-- the letters of a keyed send
abbrev pub letter_at : ℕ → ℕ → List ℕ → Hop → Letter
letter_at origin number bytes h = record { origin = origin; number = number; receiver = h.receiver; bytes = with_key h.local bytes }

abbrev pub letters : Layout → ℕ → ℕ → List ℕ → ℕ → List Letter
letters g origin number bytes key = map (letter_at origin number bytes) (g.hops origin key)

abbrev pub status_after : Action → Status
status_after (action.Handler entry state message value vertex ready) = Going
status_after action.Recv = Going
status_after (action.KeySend key) = Going
status_after action.HostSend = Going
status_after action.Free = Going
status_after (action.Wait waits) = Going
status_after (action.Idle vote) = Idling
status_after action.Kill = Dead
status_after (action.Trap why) = Going

abbrev pub sends_after : Action → ℕ → ℕ
sends_after (action.Handler entry state message value vertex ready) n = n
sends_after action.Recv n = n
sends_after (action.KeySend None) n = n
sends_after (action.KeySend (Some key)) n = n + 1
sends_after action.HostSend n = n + 1
sends_after action.Free n = n
sends_after (action.Wait waits) n = n
sends_after (action.Idle vote) n = n
sends_after action.Kill n = n
sends_after (action.Trap why) n = n

abbrev pub hand_after : Action → Option Letter → Option Letter → Option Letter
hand_after (action.Handler entry state message value vertex ready) seen held = held
hand_after action.Recv seen held = seen
hand_after (action.KeySend key) seen held = held
hand_after action.HostSend seen held = held
hand_after action.Free seen held = None
hand_after (action.Wait waits) seen held = held
hand_after (action.Idle vote) seen held = held
hand_after action.Kill seen held = held
hand_after (action.Trap why) seen held = held

abbrev pub node_after : Dispatched → Dispatch → Node → Node
node_after r d n = record {
  switch = r.switch;
  status = status_after r.action;
  given = 0;
  sends = sends_after r.action n.sends;
  hand = hand_after r.action d.seen n.hand;
}

-- the letter that was seen is taken out of the flight
abbrev pub TakesSeen : Layout → ℕ → Option Letter → List Letter → List Letter → Type 0
TakesSeen g a None old new = ⊥
TakesSeen g a (Some l) old new = ((w : Item → ℕ) → flying w g old ≡ flying w g (l ∷ new)) × (l.receiver ≡ a)

abbrev pub FlightAfter : Action → Layout → Dispatch → Node → List Letter → List Letter → Type 0
FlightAfter (action.Handler entry state message value vertex ready) g d n old new = SameFlight g old new
FlightAfter action.Recv g d n old new = TakesSeen g d.thread d.seen old new
FlightAfter (action.KeySend None) g d n old new = SameFlight g old new
FlightAfter (action.KeySend (Some key)) g d n old new = (w : Item → ℕ) → flying w g new ≡ flying w g (letters g d.thread n.sends d.bytes key) + flying w g old
FlightAfter action.HostSend g d n old new = SameFlight g old new
FlightAfter action.Free g d n old new = SameFlight g old new
FlightAfter (action.Wait waits) g d n old new = SameFlight g old new
FlightAfter (action.Idle vote) g d n old new = SameFlight g old new
FlightAfter action.Kill g d n old new = SameFlight g old new
FlightAfter (action.Trap why) g d n old new = SameFlight g old new

abbrev pub doer : Dispatch → Node → Doer
doer d n = record { thread = d.thread; devices = n.switch.devices; sends = n.sends; message = d.bytes; held = n.hand }

-- a dispatch that does not trap, with r its result
pub record Dispatches (g : Layout) (d : Dispatch) (r : Dispatched) (old new : World) : Type 0 where
  pub thread : Has g d.thread
  pub going : (old.node d.thread).status ≡ Going
  pub safe : fault_of (view_of d (old.node d.thread)) (old.node d.thread).switch ≡ None
  pub result : r ≡ dispatched (view_of d (old.node d.thread)) (old.node d.thread).switch
  pub node : new.node d.thread ≡ node_after r d (old.node d.thread)
  pub others : Changed g old.node new.node d.thread
  pub flight : FlightAfter r.action g d (old.node d.thread) old.flight new.flight
  pub deeds : new.deeds ≡ added (deed_of r.action r.switch.course.call (doer d (old.node d.thread))) old.deeds

-- an idle thread goes on, for a letter has come
pub record Wakes (g : Layout) (a : ℕ) (old new : World) : Type 0 where
  pub thread : Has g a
  pub idle : (old.node a).status ≡ Idling
  pub node : new.node a ≡ record (old.node a) { status = Going; given = 0 }
  pub others : Changed g old.node new.node a
  pub flight : SameFlight g old.flight new.flight
  pub deeds : new.deeds ≡ old.deeds

-- an answered thread goes on, and its next dispatch sees the answer
pub record Completes (g : Layout) (a v : ℕ) (old new : World) : Type 0 where
  pub thread : Has g a
  pub answered : (old.node a).status ≡ Answered v
  pub node : new.node a ≡ record (old.node a) { status = Going; given = v }
  pub others : Changed g old.node new.node a
  pub flight : SameFlight g old.flight new.flight
  pub deeds : new.deeds ≡ old.deeds

abbrev pub status_by : ℕ → Status → Status
status_by v Going = Going
status_by v Idling = Answered v
status_by v (Answered w) = Answered w
status_by v Dead = Dead

-- nothing is in flight, and every thread is idle or dead. If the value is 1, a thread is idle
pub record Announces (g : Layout) (v : ℕ) (old new : World) : Type 0 where
  pub empty : (w : Item → ℕ) → flying w g old.flight ≡ 0
  pub idle : (a : ℕ) → Has g a → ((old.node a).status ≡ Idling) ⊎ ((old.node a).status ≡ Dead)
  pub live : (v ≡ 2) ⊎ ((v ≡ 1) × ((some : ℕ) × Has g some × ((old.node some).status ≡ Idling)))
  pub nodes : (a : ℕ) → Has g a → new.node a ≡ record (old.node a) { status = status_by v (old.node a).status }
  pub flight : SameFlight g old.flight new.flight
  pub deeds : new.deeds ≡ Announced v ∷ old.deeds

-- a letter is dropped for a thread that ended
pub record Drops (g : Layout) (a : ℕ) (l : Letter) (old new : World) : Type 0 where
  pub thread : Has g a
  pub dead : (old.node a).status ≡ Dead
  pub nodes : (b : ℕ) → Has g b → new.node b ≡ old.node b
  pub flight : (w : Item → ℕ) → flying w g old.flight ≡ flying w g (l ∷ new.flight)
  pub deeds : new.deeds ≡ old.deeds

-- nothing happens that a softswitch sees
pub record Stays (g : Layout) (old new : World) : Type 0 where
  pub nodes : (b : ℕ) → Has g b → new.node b ≡ old.node b
  pub flight : SameFlight g old.flight new.flight
  pub deeds : new.deeds ≡ old.deeds

pub data Event : Type 0 where
  Does : (dispatch : Dispatch) (result : Dispatched) → Event
  Goes : (thread : ℕ) → Event
  Sees : (thread answer : ℕ) → Event
  Rests : (answer : ℕ) → Event
  Drop : (thread : ℕ) (letter : Letter) → Event
  Nothing : Event

abbrev pub Happens : Layout → Event → World → World → Type 0
Happens g (Does d r) old new = Dispatches g d r old new
Happens g (Goes a) old new = Wakes g a old new
Happens g (Sees a v) old new = Completes g a v old new
Happens g (Rests v) old new = Announces g v old new
Happens g (Drop a l) old new = Drops g a l old new
Happens g Nothing old new = Stays g old new
