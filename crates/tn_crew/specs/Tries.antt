-- What tries of events answer, and what they leave of the parts.
use Rattle.std.specs.Prelude.{ℕ, ◌≡◌, ◌+◌, ◌++◌, List, true, None}
use Rattle.tn_base.specs.declared.event.Event.{Event}
use Rattle.tn_base.specs.declared.event.Event.TheVariants as event
use Rattle.tn_base.specs.declared.ids.ThreadId.{ThreadId}
use Rattle.tn_crew.specs.declared.making.Tried.{Tried}
use Rattle.tn_crew.specs.declared.making.Tried.TheVariants as tried
use Rattle.tn_rows.specs.Events.{after, meets}
use Rattle.tn_rows.specs.Stamped.{StampedView}
use Rattle.tn_stamp.specs.declared.entry.Crossing.TheVariants as crossing
use Rattle.tn_stamp.specs.declared.entry.Entry.{Entry}
use Rattle.tn_stamp.specs.Pairs.{AllBetween, AllSingle}
use Rattle.tn_stamped.specs.Doing.{DoesOne, DoesTurn, DoesTwo}
use Rattle.tn_stamped.specs.Placed.{PlacedView, began, entries_of}
use Rattle.tn_tile.specs.declared.step.Turned.TheVariants as turned

-- a part did nothing; its journal may have more room
pub record IsKept (old new : StampedView) : Type 0 where
  pub start : new.start ≡ old.start
  pub entries : new.entries ≡ old.entries
  pub present : new.present ≡ old.present

-- a thread made its longest turn; or it can make none; or memory or a stamp was refused
abbrev pub TriesTurn : Tried → ThreadId → StampedView → StampedView → Type 0
TriesTurn tried.Made t old new = (n : ℕ) × DoesTurn (turned.Moved n) t old new
TriesTurn tried.Nothing t old new = IsKept old new × ((n : ℕ) → after (event.Turn t n) crossing.None old.present ≡ None)
TriesTurn tried.Refused t old new = IsKept old new
TriesTurn tried.Ended t old new = ⊥
TriesTurn tried.Missed t old new = ⊥
TriesTurn tried.Elsewhere t old new = ⊥

-- the same of an event on one part that is no turn
abbrev pub TriesOne : Tried → Event → StampedView → StampedView → Type 0
TriesOne tried.Made e old new = DoesOne true e old new
TriesOne tried.Nothing e old new = IsKept old new × (after e crossing.None old.present ≡ None)
TriesOne tried.Refused e old new = IsKept old new
TriesOne tried.Ended e old new = ⊥
TriesOne tried.Missed e old new = ⊥
TriesOne tried.Elsewhere e old new = ⊥

-- the same of an event on two parts
abbrev pub TriesTwo : Tried → Event → StampedView → StampedView → StampedView → StampedView → Type 0
TriesTwo tried.Made e low high low' high' = DoesTwo true e low high low' high'
TriesTwo tried.Nothing e low high low' high' = IsKept low low' × IsKept high high' × (meets e low.present high.present ≡ None)
TriesTwo tried.Refused e low high low' high' = IsKept low low' × IsKept high high'
TriesTwo tried.Ended e low high low' high' = ⊥
TriesTwo tried.Missed e low high low' high' = ⊥
TriesTwo tried.Elsewhere e low high low' high' = ⊥

-- a worker counts a miss exactly where its try missed
abbrev pub CountsMiss : Tried → ℕ → ℕ → Type 0
CountsMiss tried.Missed old new = new ≡ old + 1
CountsMiss tried.Made old new = new ≡ old
CountsMiss tried.Nothing old new = new ≡ old
CountsMiss tried.Refused old new = new ≡ old
CountsMiss tried.Ended old new = new ≡ old
CountsMiss tried.Elsewhere old new = new ≡ old

-- a part grew by entries on it alone, in a machine with so many parts
pub record GrewBy (n : ℕ) (old new : PlacedView) : Type 0 where
  pub stays : began new ≡ began old
  pub grows : (es : List Entry) × (entries_of new ≡ entries_of old ++ es) × AllSingle n es

-- two parts grew by the same entries, which are on this pair of a machine with so many parts; or neither grew
pub record GrewBetween (n i j : ℕ) (low high low' high' : PlacedView) : Type 0 where
  pub low_stays : began low' ≡ began low
  pub high_stays : began high' ≡ began high
  pub grows : (es : List Entry) × (entries_of low' ≡ entries_of low ++ es) × (entries_of high' ≡ entries_of high ++ es) × AllBetween n i j es
