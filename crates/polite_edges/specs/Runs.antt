-- The deeds of runs of the bag machine, and the law on them.
use Rattle.std.specs.Prelude.{ℕ, ◌+◌, ◌*◌, ◌/◌, ◌^◌, ◌≡◌, ◌<◌, true, IsTrue, List, [], ◌∷◌, map, slice_get, take, Option, Some, None, ⊤}
use Rattle.std.specs.List.{AllByRecursion}
use Rattle.polite_routes.specs.Hops.{arrives}
use Rattle.polite_switch.specs.SwitchModel.{SwitchModel}
use Rattle.polite_switch.specs.Table.{dispatched, fresh_switch}
use Rattle.tn_base.specs.declared.message.Letter.{Letter}
use Rattle.tn_base.specs.declared.op.Op.{Op}
use Rattle.tn_base.specs.declared.op.Op.TheVariants as op
use Rattle.tn_base.specs.Address.{has_thread}
use Rattle.tn_base.specs.Shape.{is_shape}
use Rattle.tn_host.specs.declared.script.ScriptItem.{ScriptItem}
use Rattle.tn_host.specs.declared.script.ScriptItem.TheVariants as item
use Rattle.tn_thread.specs.declared.state.ThreadState.TheVariants as state
use Rattle.tn_thread.specs.declared.thread.Thread.{Thread}
use Rattle.tn_thread.specs.Dispatch.{view_of}
use Rattle.tn_thread.specs.Sight.{Sight}
use Rattle.tn_tile.specs.Step.{due_by}
use Rattle.tn_letters.specs.declared.steps.BagStep.{BagStep}
use Rattle.tn_letters.specs.declared.steps.BagStep.TheVariants as bag
use Rattle.tn_letters.specs.declared.steps.Seen.{Seen}
use Rattle.tn_letters.specs.Letters.{board_of, host_address}
use Rattle.tn_letters.specs.Machine.{BagRun, answer, own_step, sight}
use Rattle.tn_letters.specs.State.{BagState, Program}
use Rattle.polite_edges.specs.Layout.{AllRouted, IsKeyOf, IsPlaced, Layout}
use Rattle.polite_edges.specs.Deeds.{Announced, Deed, Doer, Lawful, added, deed_of}
use Rattle.polite_edges.specs.VertexLog.{EdgesApart, EvenAtRest, OnceAtRest}

-- The deeds.

-- the message in the send slot of a thread
abbrev pub message_of : Thread → List ℕ
message_of t = take (16 * (t.out.last + 1)) t.out.bytes

abbrev pub doer_of : ℕ → Thread → SwitchModel → Option Letter → Doer
doer_of a t s held = record { thread = a; devices = s.devices; sends = t.sends; message = message_of t; held = held }

-- a step that traps is no deed
abbrev pub unless_trap : Op → Option Deed → Option Deed
unless_trap op.None deed = deed
unless_trap (op.Send to bytes) deed = deed
unless_trap op.Hand deed = deed
unless_trap (op.Free slot) deed = deed
unless_trap (op.Idle vote) deed = deed
unless_trap (op.Kill value) deed = deed
unless_trap (op.Trap why) deed = None

-- the deed of a step of the thread at an address: that of its dispatch, if a dispatch is due
abbrev pub dispatch_deed : Option SwitchModel → ℕ → Thread → Option Letter → Sight → Op → Option Deed
dispatch_deed None a t held seen asked = None
dispatch_deed (Some s) a t held seen asked =
    let d = dispatched (view_of seen t) s in
    unless_trap asked (deed_of d.action d.switch.course.call (doer_of a t s held))

abbrev pub thread_deed : Program → ℕ → Seen → BagState → Option Deed
thread_deed m a seen s = dispatch_deed (due_by (s.threads a).state (m.code a) (s.threads a)) a (s.threads a) (s.held a (s.threads a).hand) (sight seen a s) (own_step m a seen s).op

-- the deed of a step of the bag machine from a state
abbrev pub deed_at : Program → BagStep → BagState → Option Deed
deed_at m (bag.Private a seen) s = thread_deed m a seen s
deed_at m (bag.Send a seen) s = thread_deed m a seen s
deed_at m (bag.Hand a seen l) s = thread_deed m a seen s
deed_at m (bag.Free a seen slot) s = thread_deed m a seen s
deed_at m (bag.Idle a seen vote) s = thread_deed m a seen s
deed_at m bag.Announce s = Some (Announced (answer m.shape s))
deed_at m (bag.HostSend l) s = None
deed_at m (bag.HostHand l) s = None
deed_at m (bag.Discard l) s = None

-- the deeds of a run over those before it, newest first
abbrev pub deeds_after : List Deed → (m : Program) (start : BagState) (steps : List BagStep) (end : BagState) → BagRun m start steps end → List Deed
deeds_after deeds m start [] end run = deeds
deeds_after deeds m start (step ∷ steps) end run = deeds_after (added (deed_at m step run.0) deeds) m run.1 steps end run.4

abbrev pub deeds_in : (m : Program) (start : BagState) (steps : List BagStep) (end : BagState) → BagRun m start steps end → List Deed
deeds_in m start steps end run = deeds_after [] m start steps end run

-- The law.

-- a thread of a graph at its start
pub record IsFreshThread (g : Layout) (a : ℕ) (t : Thread) : Type 0 where
  pub firmware : t.firmware ≡ true
  pub switch : t.switch ≡ Some (fresh_switch (g.devices a) (g.in_edges a))
  pub state : t.state ≡ state.Run
  pub given : t.given ≡ 0
  pub sends : t.sends ≡ 0

abbrev pub IsAwait : ScriptItem → Type 0
IsAwait (item.Send t bytes) = ⊥
IsAwait item.AwaitIdle = ⊤

-- the start of the machine of a graph: each thread is at its start and holds nothing, nothing is in flight, and the host sends nothing.
-- No code stands at the firmware's address, the machine's tables lead each key of a pin as the layout says, and the host is no thread
-- with in-edges
pub record IsGraphStart (g : Layout) (m : Program) (s : BagState) : Type 0 where
  pub shape : m.shape ≡ g.shape
  pub machine : IsTrue (is_shape g.shape)
  pub threads : (a : ℕ) → IsTrue (has_thread g.shape a) → IsFreshThread g a (s.threads a)
  pub held : (a slot : ℕ) → IsTrue (has_thread g.shape a) → s.held a slot ≡ None
  pub flight : s.flight ≡ []
  pub script : AllByRecursion IsAwait s.script
  pub code : (a : ℕ) → IsTrue (has_thread g.shape a) → slice_get (m.code a) (0xFFFFFFF0 / 4) ≡ None
  pub reach : (a key : ℕ) (bytes : List ℕ) → IsTrue (has_thread g.shape a) → IsKeyOf g a key → m.reach (board_of a) key bytes ≡ map (arrives bytes) (g.hops a key)
  pub host : g.in_edges host_address ≡ []

-- no thread has made as many steps as there are numbers of packets, so no number came again
pub record FewSteps (g : Layout) (s : BagState) : Type 0 where
  pub few : (a : ℕ) → IsTrue (has_thread g.shape a) → (s.threads a).steps < 2 ^ 32

-- a run of the machine of a graph, from its start
pub record GraphRun (g : Layout) (m : Program) (start end : BagState) (steps : List BagStep) : Type 0 where
  pub placed : IsPlaced g
  pub routed : AllRouted g
  pub begins : IsGraphStart g m start
  pub run : BagRun m start steps end
  pub few : FewSteps g end

abbrev pub deeds_of : (g : Layout) (m : Program) (start end : BagState) (steps : List BagStep) → GraphRun g m start end steps → List Deed
deeds_of g m start end steps r = deeds_in m start steps end r.run

-- the deeds of each run are lawful
abbrev pub EveryRunIsLawful : Type 0
EveryRunIsLawful = (g : Layout) (m : Program) (start end : BagState) (steps : List BagStep) (r : GraphRun g m start end steps) → Lawful g (deeds_of g m start end steps r)

-- at each announcement of a run its vertex log is even
abbrev pub EveryLogIsEven : Type 0
EveryLogIsEven = (g : Layout) (m : Program) (start end : BagState) (steps : List BagStep) (r : GraphRun g m start end steps) → EvenAtRest g (deeds_of g m start end steps r)

-- at each announcement of a run each send in the vertex log came to each edge of its pin exactly once
abbrev pub EveryEdgeHasEachSendOnce : Type 0
EveryEdgeHasEachSendOnce = (g : Layout) (m : Program) (start end : BagState) (steps : List BagStep) (r : GraphRun g m start end steps) → EdgesApart g → OnceAtRest g (deeds_of g m start end steps r)
