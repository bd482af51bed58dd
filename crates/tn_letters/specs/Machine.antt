-- The steps of the bag machine. It has threads and one bag of letters in flight: no queue, no slot order, no buffer.
use Rattle.std.specs.Prelude.{ℕ, ◌≡◌, ◌+◌, ◌⊎◌, true, IsTrue, List, [], ◌∷◌, ◌++◌, map, Option, Some, None, MatchOption, option_map, if◌then◌else◌}
use Rattle.std.specs.List.{list_all, range_with_len}
use Rattle.tn_base.specs.declared.message.Letter.{Letter}
use Rattle.tn_base.specs.declared.op.Op.{Op}
use Rattle.tn_base.specs.declared.op.Op.TheVariants as op
use Rattle.tn_base.specs.declared.shape.ShapeNumbers.{ShapeNumbers}
use Rattle.tn_base.specs.Address.{has_thread, thread_at, tile_of}
use Rattle.tn_base.specs.Shape.{thread_count}
use Rattle.tn_host.specs.declared.script.ScriptItem.{ScriptItem}
use Rattle.tn_host.specs.declared.script.ScriptItem.TheVariants as item
use Rattle.tn_host.specs.Script.{first_item, is_no_send, past_await}
use Rattle.tn_slots.specs.Pool.{key_in}
use Rattle.tn_thread.specs.Sight.{Sight}
use Rattle.tn_thread.specs.Step.{Stepped, runnable}
use Rattle.tn_tile.specs.Receivers.{is_dead}
use Rattle.tn_tile.specs.Rows.{told}
use Rattle.tn_tile.specs.Step.{next_step}
use Rattle.tn_tile.specs.Still.{does_nothing, votes_for}
use Rattle.tn_letters.specs.declared.steps.BagStep.{BagStep}
use Rattle.tn_letters.specs.declared.steps.BagStep.TheVariants as bag
use Rattle.tn_letters.specs.declared.steps.Seen.{Seen}
use Rattle.tn_letters.specs.Letters.{Takes, host_address, letters}
use Rattle.tn_letters.specs.State.{BagState, Program, Same, put}

-- what the thread at an address sees: the free part, and the bytes of the letters that it holds
abbrev pub sight : Seen → ℕ → BagState → Sight
sight seen a s = record {
  can_send = seen.can_send;
  first = seen.first;
  key = seen.key;
  held = λ slot. option_map (λ (l : Letter). l.bytes) (s.held a slot);
}

-- the thread's own next step, over the code of its tile
abbrev pub own_step : Program → ℕ → Seen → BagState → Stepped
own_step m a seen s = next_step (m.code a) (sight seen a s) (s.threads a)

-- two letters are of one packet
abbrev pub SamePacket : Letter → Letter → Type 0
SamePacket k l = (k.origin ≡ l.origin) × (k.number ≡ l.number) × (k.bytes ≡ l.bytes)

-- a letter may stand first for the thread at address a, in this slot: it is in flight to that thread, which does not hold
-- the slot, and each thread of its tile that holds the slot holds it with this letter's packet
pub record MayStandFirst (n : ShapeNumbers) (s : BagState) (a slot : ℕ) (l : Letter) : Type 0 where
  pub flying : (rest : List Letter) × Takes s.flight l rest
  pub receiver : l.receiver ≡ a
  pub not_held : s.held a slot ≡ None
  pub shared : (b : ℕ) → IsTrue (has_thread n b) → tile_of b ≡ tile_of a → MatchOption (s.held b slot) (Unit {0}) (λ k. SamePacket k l)

-- a letter allows what is seen: it may stand first in the slot that is seen first, and the key that is seen is its first 16 bits
pub record Allows (n : ShapeNumbers) (s : BagState) (a : ℕ) (seen : Seen) (l : Letter) : Type 0 where
  pub slot : ℕ
  pub first : seen.first ≡ Some slot
  pub key : seen.key ≡ Some (key_in l.bytes)
  pub stands : MayStandFirst n s a slot l

-- what may be seen: nothing first, or a letter that allows it; whether a send may be made is free
abbrev pub IsAllowed : ShapeNumbers → BagState → ℕ → Seen → Type 0
IsAllowed n s a seen = ((seen.first ≡ None) × (seen.key ≡ None)) ⊎ ((l : Letter) × Allows n s a seen l)

-- a thread of the machine may make a step under what it sees
pub record MayStep (m : Program) (s : BagState) (a : ℕ) (seen : Seen) : Type 0 where
  pub there : IsTrue (has_thread m.shape a)
  pub allowed : IsAllowed m.shape s a seen
  pub runnable : runnable (sight seen a s) (s.threads a).state ≡ true

-- the state after the thread's own part of a step
abbrev pub with_own_step : Program → ℕ → Seen → BagState → BagState
with_own_step m a seen s = record s { threads = put s.threads a (own_step m a seen s).thread }

-- what a thread asks for that concerns no letter but those that it holds: nothing, its end, or a trap
abbrev pub IsPrivate : Op → Type 0
IsPrivate op.None = Unit {0}
IsPrivate (op.Send to bytes) = ⊥
IsPrivate op.Hand = ⊥
IsPrivate (op.Free slot) = ⊥
IsPrivate (op.Idle vote) = ⊥
IsPrivate (op.Kill value) = Unit {0}
IsPrivate (op.Trap why) = Unit {0}

-- a thread that ended holds nothing
abbrev pub ended_by : Op → ℕ → BagState → BagState
ended_by (op.Kill value) a s = record s { held = put s.held a (λ slot. None) }
ended_by _ a s = s

-- what a send adds to the letters in flight
abbrev pub sent_by : Program → ℕ → ℕ → Op → BagState → Option BagState
sent_by m a number (op.Send to bytes) s = Some (record s { flight = letters m.shape m.reach a number to bytes ++ s.flight })
sent_by m a number _ s = None

-- the thread at address a has the letter in a slot from now on
abbrev pub handed : ℕ → ℕ → Letter → List Letter → BagState → BagState
handed a slot l rest s = record s {
  flight = rest;
  got = put s.got a (s.got a ++ l ∷ []);
  held = put s.held a (put (s.held a) slot (Some l));
}

-- and gave it up
abbrev pub freed : ℕ → ℕ → BagState → BagState
freed a slot s = record s { held = put s.held a (put (s.held a) slot None) }

-- the addresses of the machine's threads
abbrev pub addresses : ShapeNumbers → List ℕ
addresses n = map (thread_at n) (range_with_len 0 (thread_count n))

-- the machine is at rest: every thread is idle or dead, no letter is in flight, and the host does not send next
pub record IsAtRest (n : ShapeNumbers) (s : BagState) : Type 0 where
  pub threads : (a : ℕ) → IsTrue (has_thread n a) → does_nothing (s.threads a).state ≡ true
  pub flight : s.flight ≡ []
  pub host : is_no_send (first_item s.script) ≡ true

-- what the idle threads read: 2 where all threads that live voted for the end, else 1
abbrev pub answer : ShapeNumbers → BagState → ℕ
answer n s = if list_all (λ a. votes_for (s.threads a).state) (addresses n) then 2 else 1

-- the idle threads read the answer, and a host that waits for the rest goes on
abbrev pub announced : ShapeNumbers → BagState → BagState
announced n s = record s {
  threads = λ a. told (answer n s) (s.threads a);
  script = past_await s.script;
  announcements = s.announcements + 1;
}

-- a step from one state to another
abbrev pub Happens : Program → BagStep → BagState → BagState → Type 0
-- a thread's step that asks for nothing, ends the thread or traps
Happens m (bag.Private a seen) old new =
    MayStep m old a seen × IsPrivate (own_step m a seen old).op
    × (new ≡ ended_by (own_step m a seen old).op a (with_own_step m a seen old))
-- a thread sends: the letters of its packet are in flight, with the thread's number of sends
Happens m (bag.Send a seen) old new =
    MayStep m old a seen
    × (sent_by m a (old.threads a).sends (own_step m a seen old).op (with_own_step m a seen old) ≡ Some new)
-- a thread is handed a letter: it leaves the flight once, and stands in the slot that was seen first
Happens m (bag.Hand a seen l) old new =
    MayStep m old a seen × ((own_step m a seen old).op ≡ op.Hand)
    × ((rest : List Letter) × (allows : Allows m.shape old a seen l) × Takes old.flight l rest
    × (new ≡ handed a allows.slot l rest (with_own_step m a seen old)))
-- a thread gives a slot up
Happens m (bag.Free a seen slot) old new =
    MayStep m old a seen × ((own_step m a seen old).op ≡ op.Free slot) × (new ≡ freed a slot (with_own_step m a seen old))
-- a thread becomes idle
Happens m (bag.Idle a seen vote) old new =
    MayStep m old a seen × ((own_step m a seen old).op ≡ op.Idle vote) × (new ≡ with_own_step m a seen old)
-- the machine's rest is announced to all idle threads
Happens m bag.Announce old new = IsAtRest m.shape old × (new ≡ announced m.shape old)
-- the host sends the next letter of its script
Happens m (bag.HostSend l) old new =
    (items : List ScriptItem) × (old.script ≡ item.Send (record { 0 = l.receiver }) l.bytes ∷ items)
    × (l.origin ≡ host_address) × (l.number ≡ old.host_sends)
    × (new ≡ record old { flight = l ∷ old.flight; script = items; host_sends = old.host_sends + 1 })
-- the host takes a letter to it
Happens m (bag.HostHand l) old new =
    (rest : List Letter) × Takes old.flight l rest × (l.receiver ≡ host_address)
    × (new ≡ record old { flight = rest; host = old.host ++ l ∷ [] })
-- a letter to a thread that ended is dropped
Happens m (bag.Discard l) old new =
    (rest : List Letter) × Takes old.flight l rest
    × IsTrue (has_thread m.shape l.receiver) × (is_dead (old.threads l.receiver).state ≡ true)
    × (new ≡ record old { flight = rest; dropped = old.dropped ++ l ∷ [] })

-- the machine may make these steps in turn; the states between are taken as what the machine tells apart of them
abbrev pub BagRun : Program → BagState → List BagStep → BagState → Type 0
BagRun m start [] end = Same m.shape start end
BagRun m start (step ∷ steps) end =
    (before : BagState) × (after : BagState) × Same m.shape start before × Happens m step before after × BagRun m after steps end
