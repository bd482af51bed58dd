-- The node that a thread with a softswitch is, and what a step of the thread is for the node.
use Rattle.std.proofs.Common.{ℕ, ◌≡◌, ◌≤◌, ◌⊎◌, ◌==◌, ◌∷◌, ◌++◌, cond, true, List, Option, Some, None}
use Rattle.std.specs.Prelude.{is_some, option_map}
use Rattle.polite_switch.specs.Table.{Dispatched, dispatched, fault_of}
use Rattle.tn_base.specs.declared.message.Letter.{Letter}
use Rattle.tn_base.specs.declared.op.Op.{Op}
use Rattle.tn_base.specs.declared.op.Op.TheVariants as op
use Rattle.tn_base.specs.declared.shape.ShapeNumbers.{ShapeNumbers}
use Rattle.tn_keys.specs.Reach.{Reach}
use Rattle.tn_slots.specs.Pool.{key_in}
use Rattle.tn_thread.specs.declared.state.ThreadState.{ThreadState}
use Rattle.tn_thread.specs.declared.state.ThreadState.TheVariants as state
use Rattle.tn_thread.specs.declared.thread.Thread.{Thread}
use Rattle.tn_thread.specs.Sight.{Sight}
use Rattle.tn_letters.specs.declared.steps.Seen.{Seen}
use Rattle.tn_letters.specs.Letters.{letters}
use Rattle.tn_letters.specs.State.{put}
use Rattle.polite_edges.specs.Deeds.{Deed, Item, deed_of}
use Rattle.polite_edges.specs.Layout.{Layout}
use Rattle.polite_edges.proofs.Nodes.{Answered, Dead, Dispatch, FlightAfter, Going, Idling, Node, SameFlight, doer, flying, node_after, view_of}

abbrev pub StateShown : ThreadState → Thread → Node → Type 0
StateShown state.Run t n = (n.status ≡ Going) × (n.given ≡ t.given) × ((t.given ≡ 0) ⊎ (t.pc ≡ 0xFFFFFFF0))
StateShown (state.Wait waits) t n = (n.status ≡ Going) × (n.given ≡ 0)
StateShown (state.Idle vote) t n = (n.status ≡ Idling) × (t.pc ≡ 0xFFFFFFF0)
StateShown (state.Answered value) t n = (n.status ≡ Answered value) × (t.pc ≡ 0xFFFFFFF0) × ((value ≡ 1) ⊎ (value ≡ 2))
StateShown (state.Dead value) t n = n.status ≡ Dead
StateShown (state.Trapped why) t n = n.status ≡ Going

-- the thread holds exactly the slot of its hand, if it has a letter in hand
pub record Carries (t : Thread) (held : ℕ → Option Letter) (n : Node) : Type 0 where
  pub firmware : t.firmware ≡ true
  pub switch : t.switch ≡ Some n.switch
  pub sends : n.sends ≡ t.sends
  pub few : t.sends ≤ t.steps
  pub holds : (slot : ℕ) → held slot ≡ cond (slot == t.hand) n.hand None

abbrev pub CarriedBy : ThreadState → Thread → (ℕ → Option Letter) → Node → Type 0
CarriedBy state.Run t held n = Carries t held n
CarriedBy (state.Wait waits) t held n = Carries t held n
CarriedBy (state.Idle vote) t held n = Carries t held n
CarriedBy (state.Answered value) t held n = Carries t held n
CarriedBy (state.Dead value) t held n = Unit {0}
CarriedBy (state.Trapped why) t held n = Unit {0}

pub record Shown (t : Thread) (held : ℕ → Option Letter) (n : Node) : Type 0 where
  pub state : StateShown t.state t n
  pub carries : CarriedBy t.state t held n

abbrev pub sight_with : Seen → (ℕ → Option Letter) → Sight
sight_with seen held = record {
  can_send = seen.can_send;
  first = seen.first;
  key = seen.key;
  held = λ slot. option_map (λ (l : Letter). l.bytes) (held slot);
}

-- the letter that is seen first
pub record SeenIs (seen : Seen) (o : Option Letter) : Type 0 where
  pub first : is_some seen.first ≡ is_some o
  pub key : seen.key ≡ option_map (λ (l : Letter). key_in l.bytes) o

-- a letter that is handed
pub record Hands (g : Layout) (a : ℕ) (seen : Seen) (o : Option Letter) (held now : ℕ → Option Letter) (old new : List Letter) : Type 0 where
  pub letter : Letter
  pub slot : ℕ
  pub is_seen : o ≡ Some letter
  pub first : seen.first ≡ Some slot
  pub flight : (w : Item → ℕ) → flying w g old ≡ flying w g (letter ∷ new)
  pub receiver : letter.receiver ≡ a
  pub after : now ≡ put held slot (Some letter)

-- what the machine does when a thread asks this: to the letters in flight, and to what the thread holds
abbrev pub Asked : Layout → ShapeNumbers → Reach → ℕ → ℕ → Seen → Option Letter → Op → (ℕ → Option Letter) → (ℕ → Option Letter) → List Letter → List Letter → Type 0
Asked g n reach a number seen o op.None held now old new = SameFlight g old new × (now ≡ held)
Asked g n reach a number seen o (op.Send to bytes) held now old new = ((w : Item → ℕ) → flying w g new ≡ flying w g (letters n reach a number to bytes ++ old)) × (now ≡ held)
Asked g n reach a number seen o op.Hand held now old new = Hands g a seen o held now old new
Asked g n reach a number seen o (op.Free slot) held now old new = SameFlight g old new × (now ≡ put held slot None)
Asked g n reach a number seen o (op.Idle vote) held now old new = SameFlight g old new × (now ≡ held)
Asked g n reach a number seen o (op.Kill value) held now old new = SameFlight g old new
Asked g n reach a number seen o (op.Trap why) held now old new = SameFlight g old new

-- What a step of a thread is for its node.

pub record Unmoved (g : Layout) (n new_node : Node) (old new : List Letter) (deed : Option Deed) : Type 0 where
  pub node : new_node ≡ n
  pub flight : SameFlight g old new
  pub deed_is : deed ≡ None

pub record Woken (g : Layout) (n new_node : Node) (old new : List Letter) (deed : Option Deed) : Type 0 where
  pub idle : n.status ≡ Idling
  pub node : new_node ≡ record n { status = Going; given = 0 }
  pub flight : SameFlight g old new
  pub deed_is : deed ≡ None

pub record Completed (g : Layout) (n new_node : Node) (old new : List Letter) (deed : Option Deed) : Type 0 where
  pub value : ℕ
  pub answered : n.status ≡ Answered value
  pub node : new_node ≡ record n { status = Going; given = value }
  pub flight : SameFlight g old new
  pub deed_is : deed ≡ None

-- a dispatch, of this thread
abbrev pub at_thread : ℕ → Dispatch → Dispatch
at_thread a d = record d { thread = a }

pub record Made (g : Layout) (a : ℕ) (n new_node : Node) (old new : List Letter) (deed : Option Deed) : Type 0 where
  pub dispatch : Dispatch
  pub result : Dispatched
  pub going : n.status ≡ Going
  pub safe : fault_of (view_of (at_thread a dispatch) n) n.switch ≡ None
  pub is : result ≡ dispatched (view_of (at_thread a dispatch) n) n.switch
  pub node : new_node ≡ node_after result (at_thread a dispatch) n
  pub flight : FlightAfter result.action g (at_thread a dispatch) n old new
  pub deed_is : deed ≡ deed_of result.action result.switch.course.call (doer (at_thread a dispatch) n)

abbrev pub Local : Layout → ℕ → Node → Node → List Letter → List Letter → Option Deed → Type 0
Local g a n new_node old new deed = (Unmoved g n new_node old new deed ⊎ Woken g n new_node old new deed) ⊎ (Completed g n new_node old new deed ⊎ Made g a n new_node old new deed)

-- the node after a step that leaves this thread, which holds this
pub record Leaves (g : Layout) (a : ℕ) (n : Node) (t : Thread) (now : ℕ → Option Letter) (old new : List Letter) (deed : Option Deed) : Type 0 where
  pub node : Node
  pub shown : Shown t now node
  pub local : Local g a n node old new deed
