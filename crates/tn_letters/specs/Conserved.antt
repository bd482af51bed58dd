-- No letter is made or lost but by a step that says so.
use Rattle.std.specs.Prelude.{ℕ, ◌≡◌, ◌==◌, IsTrue, List, [], ◌∷◌, ◌++◌}
use Rattle.std.specs.List.{flat_map}
use Rattle.tn_base.specs.declared.message.Letter.{Letter}
use Rattle.tn_base.specs.declared.op.Op.{Op}
use Rattle.tn_base.specs.declared.op.Op.TheVariants as op
use Rattle.tn_letters.specs.declared.steps.BagStep.{BagStep}
use Rattle.tn_letters.specs.declared.steps.BagStep.TheVariants as bag
use Rattle.tn_base.specs.Address.{has_thread}
use Rattle.tn_keys.specs.Copies.{only_if}
use Rattle.tn_letters.specs.Letters.{SameBag, letters}
use Rattle.tn_letters.specs.Machine.{BagRun, own_step}
use Rattle.tn_letters.specs.State.{BagState, Program}

-- the letters that leave the flight with a step: the one that is handed, taken by the host or dropped
abbrev pub leaving : BagStep → List Letter
leaving (bag.Private a seen) = []
leaving (bag.Send a seen) = []
leaving (bag.Hand a seen l) = l ∷ []
leaving (bag.Free a seen slot) = []
leaving (bag.Idle a seen vote) = []
leaving bag.Announce = []
leaving (bag.HostSend l) = []
leaving (bag.HostHand l) = l ∷ []
leaving (bag.Discard l) = l ∷ []

-- the letters that a thread sends, if it asks for a send
abbrev pub sent_with : Program → ℕ → ℕ → Op → List Letter
sent_with m a number (op.Send to bytes) = letters m.shape m.reach a number to bytes
sent_with m a number _ = []

-- the letters that a step sends from a state
abbrev pub sending : Program → BagStep → BagState → List Letter
sending m (bag.Private a seen) s = []
sending m (bag.Send a seen) s = sent_with m a (s.threads a).sends (own_step m a seen s).op
sending m (bag.Hand a seen l) s = []
sending m (bag.Free a seen slot) s = []
sending m (bag.Idle a seen vote) s = []
sending m bag.Announce s = []
sending m (bag.HostSend l) s = l ∷ []
sending m (bag.HostHand l) s = []
sending m (bag.Discard l) s = []

-- all letters that the steps of a run send
abbrev pub sent_in : (m : Program) (start : BagState) (steps : List BagStep) (end : BagState) → BagRun m start steps end → List Letter
sent_in m start [] end run = []
sent_in m start (step ∷ steps) end run = sending m step run.0 ++ sent_in m run.1 steps end run.4

-- the letters that were in flight and those that were sent are, as a bag, those in flight now and those that were handed,
-- taken by the host or dropped
abbrev pub EveryRunConserves : Type 0
EveryRunConserves = (m : Program) (start end : BagState) (steps : List BagStep) (run : BagRun m start steps end) → SameBag (start.flight ++ sent_in m start steps end run) (end.flight ++ flat_map leaving steps)

-- the letter that a step hands to the thread at an address, if it does
abbrev pub handed_to : ℕ → BagStep → List Letter
handed_to a (bag.Private b seen) = []
handed_to a (bag.Send b seen) = []
handed_to a (bag.Hand b seen l) = only_if (a == b) l
handed_to a (bag.Free b seen slot) = []
handed_to a (bag.Idle b seen vote) = []
handed_to a bag.Announce = []
handed_to a (bag.HostSend l) = []
handed_to a (bag.HostHand l) = []
handed_to a (bag.Discard l) = []

-- what a thread got is what it had got before and what the steps handed to it, in their order
abbrev pub EveryRunHands : Type 0
EveryRunHands = (m : Program) (start end : BagState) (steps : List BagStep) (a : ℕ) → IsTrue (has_thread m.shape a) → BagRun m start steps end → end.got a ≡ start.got a ++ flat_map (handed_to a) steps

-- the letter that the host takes in a step, if it does
abbrev pub taken_by_host : BagStep → List Letter
taken_by_host (bag.Private a seen) = []
taken_by_host (bag.Send a seen) = []
taken_by_host (bag.Hand a seen l) = []
taken_by_host (bag.Free a seen slot) = []
taken_by_host (bag.Idle a seen vote) = []
taken_by_host bag.Announce = []
taken_by_host (bag.HostSend l) = []
taken_by_host (bag.HostHand l) = l ∷ []
taken_by_host (bag.Discard l) = []

-- the host's letters are those that it had and those that it took in the steps, in their order
abbrev pub EveryRunHandsTheHost : Type 0
EveryRunHandsTheHost = (m : Program) (start end : BagState) (steps : List BagStep) → BagRun m start steps end → end.host ≡ start.host ++ flat_map taken_by_host steps
