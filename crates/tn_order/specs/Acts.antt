-- What the steps of a run send, hand and drop, and when this is in order.
use Rattle.std.specs.Prelude.{ℕ, ◌≡◌, ◌<◌, ◌==◌, ◌&&◌, ◌%◌, ◌⊎◌, Bool, true, false, List, [], ◌∷◌, ◌++◌}
use Rattle.std.specs.Int.{bit_at}
use Rattle.tn_base.specs.declared.event.Event.{Event}
use Rattle.tn_base.specs.declared.message.Dest.{Dest}
use Rattle.tn_base.specs.declared.message.Dest.TheVariants as dest
use Rattle.tn_base.specs.declared.op.Op.{Op}
use Rattle.tn_base.specs.declared.op.Op.TheVariants as op
use Rattle.tn_base.specs.Address.{tile_of}
use Rattle.tn_rows.specs.Runs.{Run}
use Rattle.tn_rows.specs.WorldView.{WorldView}
use Rattle.tn_letters.specs.declared.steps.BagStep.{BagStep}
use Rattle.tn_letters.specs.declared.steps.BagStep.TheVariants as bag
use Rattle.tn_letters.specs.Law.{IsBagRun, IsStart}
use Rattle.tn_letters.specs.Letters.{host_address}
use Rattle.tn_letters.specs.Machine.{BagRun, own_step}
use Rattle.tn_letters.specs.Standing.{bag_at}
use Rattle.tn_letters.specs.State.{BagState, Program}
use Rattle.tn_letters.specs.Steps.{bag_of}
use Rattle.tn_letters.specs.Tiles.{program_of}

-- a send with its origin, its number and its destination; a letter that is handed to a thread or taken by the host, and a letter
-- that is dropped, each with its origin, its number and its receiver
pub data Act : Type 0 where
  Sent : (origin number : ℕ) (to : Dest) → Act
  Handed : (origin number receiver : ℕ) → Act
  Dropped : (origin number receiver : ℕ) → Act

abbrev pub sent_with : ℕ → ℕ → Op → List Act
sent_with a number (op.Send to bytes) = Sent a number to ∷ []
sent_with a number _ = []

-- what a step of the bag machine does from a state
abbrev pub acts_of : Program → BagStep → BagState → List Act
acts_of m (bag.Private a seen) s = []
acts_of m (bag.Send a seen) s = sent_with a (s.threads a).sends (own_step m a seen s).op
acts_of m (bag.Hand a seen l) s = Handed l.origin l.number l.receiver ∷ []
acts_of m (bag.Free a seen slot) s = []
acts_of m (bag.Idle a seen vote) s = []
acts_of m bag.Announce s = []
acts_of m (bag.HostSend l) s = Sent l.origin l.number (dest.Thread (record { 0 = l.receiver })) ∷ []
acts_of m (bag.HostHand l) s = Handed l.origin l.number l.receiver ∷ []
acts_of m (bag.Discard l) s = Dropped l.origin l.number l.receiver ∷ []

-- what the steps of a run do, in their order
abbrev pub acts_in : (m : Program) (start : BagState) (steps : List BagStep) (end : BagState) → BagRun m start steps end → List Act
acts_in m start [] end run = []
acts_in m start (step ∷ steps) end run = acts_of m step run.0 ++ acts_in m run.1 steps end run.4

abbrev pub AmongActs : Act → List Act → Type 0
AmongActs x [] = ⊥
AmongActs x (y ∷ ys) = (x ≡ y) ⊎ AmongActs x ys

-- a send has a greater number than each send before it of its origin
abbrev pub Rises : List Act → Act → Type 0
Rises past (Sent s n to) = (m : ℕ) (d : Dest) → AmongActs (Sent s m d) past → m < n
Rises past (Handed s n a) = Unit {0}
Rises past (Dropped s n a) = Unit {0}

-- so does each send of a list, behind what was done before
abbrev pub NumbersRise : List Act → List Act → Type 0
NumbersRise past [] = Unit {0}
NumbersRise past (x ∷ xs) = Rises past x × NumbersRise (x ∷ past) xs

-- the acts of the run of the bag machine that a history is
abbrev pub acts_of_run : (start : WorldView) (history : List Event) (end : WorldView) → IsBagRun start history end → List Act
acts_of_run start history end b = acts_in (program_of start) (bag_at start) (bag_of start history) b.state b.run

-- in each run of a machine from its start each origin's sends have rising numbers
abbrev pub EveryRunNumbersRise : Type 0
EveryRunNumbersRise = (start end : WorldView) (history : List Event) (b : IsBagRun start history end) → IsStart start → Run start history end → NumbersRise [] (acts_of_run start history end b)

-- a destination without a key names this receiver: a thread, the host, or a thread in a mask of its tile
abbrev pub names : Dest → ℕ → Bool
names (dest.Thread t) a = t.0 == a
names dest.Host a = a == host_address
names (dest.Mask tile mask) a = tile.0 == tile_of a && bit_at mask (a % 64) == 1
names (dest.Key key) a = false

-- the letter of a send to a receiver was handed or dropped
abbrev pub HasEnded : ℕ → ℕ → ℕ → List Act → Type 0
HasEnded s n a past = AmongActs (Handed s n a) past ⊎ AmongActs (Dropped s n a) past

-- if a letter of a send without a key is handed, the letter of each earlier send without a key of that origin to that receiver was
-- handed or dropped before
abbrev pub ComesInTurn : List Act → Act → Type 0
ComesInTurn past (Sent s n to) = Unit {0}
ComesInTurn past (Handed s n a) = (m : ℕ) (d e : Dest) → AmongActs (Sent s n d) past → names d a ≡ true → AmongActs (Sent s m e) past → names e a ≡ true → m < n → HasEnded s m a past
ComesInTurn past (Dropped s n a) = Unit {0}

abbrev pub InOrder : List Act → List Act → Type 0
InOrder past [] = Unit {0}
InOrder past (x ∷ xs) = ComesInTurn past x × InOrder (x ∷ past) xs
