-- What the events of a history send, hand and drop, in their order.
use Rattle.std.specs.Prelude.{ℕ, zero, suc, ◌≡◌, ◌==◌, ◌&&◌, Bool, List, [], ◌∷◌, ◌++◌, option_map, unwrap_or, if◌then◌else◌}
use Rattle.std.specs.List.{flat_map}
use Rattle.tn_base.specs.declared.event.Event.{Event}
use Rattle.tn_base.specs.declared.event.Event.TheVariants as event
use Rattle.tn_base.specs.declared.message.Dest.{Dest}
use Rattle.tn_base.specs.declared.message.Dest.TheVariants as dest
use Rattle.tn_base.specs.Address.{place_in_tile}
use Rattle.tn_rows.specs.Events.{happened}
use Rattle.tn_rows.specs.Runs.{Run, Walk}
use Rattle.tn_rows.specs.WorldView.{WorldView}
use Rattle.tn_tile.specs.Step.{step_at_place, thread_at}
use Rattle.tn_tile.specs.TileView.{TileView}
use Rattle.tn_letters.specs.declared.steps.BagStep.{BagStep}
use Rattle.tn_letters.specs.declared.steps.BagStep.TheVariants as bag
use Rattle.tn_letters.specs.Law.{IsBagRun, IsStart}
use Rattle.tn_letters.specs.Letters.{host_address}
use Rattle.tn_letters.specs.Steps.{after_step, event_steps, thread_step}
use Rattle.tn_letters.specs.Tiles.{tile_for}
use Rattle.tn_order.specs.Acts.{Act, Sent, Handed, Dropped, InOrder, NumbersRise, acts_of_run, sent_with}

-- what a step of the bag machine does, but for the send of a thread
abbrev pub step_ends : BagStep → List Act
step_ends (bag.Private a seen) = []
step_ends (bag.Send a seen) = []
step_ends (bag.Hand a seen l) = Handed l.origin l.number l.receiver ∷ []
step_ends (bag.Free a seen slot) = []
step_ends (bag.Idle a seen vote) = []
step_ends bag.Announce = []
step_ends (bag.HostSend l) = Sent l.origin l.number (dest.Thread (record { 0 = l.receiver })) ∷ []
step_ends (bag.HostHand l) = Handed l.origin l.number l.receiver ∷ []
step_ends (bag.Discard l) = Dropped l.origin l.number l.receiver ∷ []

-- what one step of the thread at a place does, which has this address
abbrev pub step_acts : ℕ → ℕ → TileView → List Act
step_acts a k v = sent_with a (thread_at v.now k).sends (step_at_place v.plan.code k v.now).op ++ flat_map step_ends (thread_step a k v)

-- a turn: n steps of one thread
unfoldable pub turn_acts : ℕ → ℕ → ℕ → TileView → List Act
turn_acts a k zero v = []
turn_acts a k (suc n) v = step_acts a k v ++ turn_acts a k n (after_step k v)

-- what an event does
abbrev pub event_acts : Event → WorldView → List Act
event_acts (event.Turn t n) w = turn_acts t.0 (place_in_tile w.shape t.0) n (tile_for w t.0)
event_acts e w = flat_map step_ends (event_steps e w)

-- what a history does; behind an event that is not enabled nothing is done
abbrev pub history_acts : WorldView → List Event → List Act
history_acts w [] = []
history_acts w (e ∷ es) = event_acts e w ++ unwrap_or (option_map (λ mid. history_acts mid es) (happened e w)) []

-- acts put before others, the last one first
abbrev pub behind : List Act → List Act → List Act
behind [] past = past
behind (x ∷ xs) past = behind xs (x ∷ past)

-- of what was done, the numbers that are meant: those that were sent, and those whose letters for the receiver were handed or dropped
abbrev pub sent_of : (ℕ → ℕ → Bool) → List Act → List ℕ
sent_of mine [] = []
sent_of mine (Sent s n to ∷ past) = if mine s n then n ∷ sent_of mine past else sent_of mine past
sent_of mine (Handed s n a ∷ past) = sent_of mine past
sent_of mine (Dropped s n a ∷ past) = sent_of mine past

abbrev pub gone_of : (ℕ → ℕ → Bool) → ℕ → List Act → List ℕ
gone_of mine receiver [] = []
gone_of mine receiver (Sent s n to ∷ past) = gone_of mine receiver past
gone_of mine receiver (Handed s n a ∷ past) = if mine s n && a == receiver then n ∷ gone_of mine receiver past else gone_of mine receiver past
gone_of mine receiver (Dropped s n a ∷ past) = if mine s n && a == receiver then n ∷ gone_of mine receiver past else gone_of mine receiver past

-- the address of a receiver
abbrev pub receiver_of : Dest → ℕ
receiver_of (dest.Thread t) = t.0
receiver_of dest.Host = host_address
receiver_of (dest.Mask tile mask) = host_address
receiver_of (dest.Key key) = host_address

-- whatever events happen to a machine from its start: each origin's sends have rising numbers; and where a letter of a send without a key
-- is handed, the letter of each earlier send without a key of that origin to that receiver was handed or dropped before
pub record ComesInOrder (start : WorldView) (history : List Event) : Type 0 where
  pub numbers : NumbersRise [] (history_acts start history)
  pub order : InOrder [] (history_acts start history)

abbrev pub EveryHistoryIsInOrder : Type 0
EveryHistoryIsInOrder = (start end : WorldView) (history : List Event) → IsStart start → Walk start history end → ComesInOrder start history

-- in each run of a machine from its start, what the steps of the bag machine do is what the events of the history do
abbrev pub EveryRunActsAsItsHistory : Type 0
EveryRunActsAsItsHistory = (start end : WorldView) (history : List Event) (b : IsBagRun start history end) → IsStart start → Run start history end → acts_of_run start history end b ≡ history_acts start history

-- so the letters of the steps come in their order
abbrev pub EveryRunIsInOrder : Type 0
EveryRunIsInOrder = (start end : WorldView) (history : List Event) (b : IsBagRun start history end) → IsStart start → Run start history end → InOrder [] (acts_of_run start history end b)
