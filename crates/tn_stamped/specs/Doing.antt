-- What events leave of stamped parts.
use Rattle.std.specs.Prelude.{ℕ, ◌≡◌, ◌-◌, ◌<◌, ◌^◌, ◌++◌, ◌∷◌, [], Bool, true, false, MatchResult, Option, Some, None}
use Rattle.std.specs.declared.alloc.AllocError.{AllocError}
use Rattle.std.specs.declared.result.Result.{Result}
use Rattle.std.specs.declared.result.Result.TheVariants.{Ok}
use Rattle.tn_base.specs.declared.event.Event.{Event}
use Rattle.tn_base.specs.declared.event.Event.TheVariants as event
use Rattle.tn_base.specs.declared.ids.ThreadId.{ThreadId}
use Rattle.tn_base.specs.declared.port.Port.{Port}
use Rattle.tn_rows.specs.Events.{after, crossing_of, meets}
use Rattle.tn_rows.specs.Stamped.{StampedView}
use Rattle.tn_stamp.specs.declared.entry.Crossing.{Crossing}
use Rattle.tn_stamp.specs.declared.entry.Crossing.TheVariants as crossing
use Rattle.tn_stamp.specs.declared.entry.Entry.{Entry}
use Rattle.tn_stamp.specs.Journals.{double_entry, last_stamp, single_entry}
use Rattle.tn_tile.specs.declared.deliver.Did.{Did}
use Rattle.tn_tile.specs.declared.deliver.Did.TheVariants as did
use Rattle.tn_tile.specs.declared.step.Turned.{Turned}
use Rattle.tn_tile.specs.declared.step.Turned.TheVariants as turned
use Rattle.tn_tile.specs.Turns.{moved}

-- there is room for an entry, and a stamp for it
pub record IsReady (s : StampedView) : Type 0 where
  pub room : 0 < s.room
  pub early : last_stamp 0 s.entries < 2 ^ 63 - 1

-- one entry more, and the part after its row; the start stays
pub record Grown (old : StampedView) (entry : Entry) (new : StampedView) : Type 0 where
  pub start : new.start ≡ old.start
  pub entries : new.entries ≡ old.entries ++ entry ∷ []
  pub row : after entry.event entry.crossing old.present ≡ Some new.present

-- an event on one part, made or not enabled
abbrev pub DoesOne : Bool → Event → StampedView → StampedView → Type 0
DoesOne true e old new = Grown old (single_entry old.entries e) new
DoesOne false e old new = (new ≡ old) × (after e crossing.None old.present ≡ None)

-- the longest turn, or none
abbrev pub DoesTurn : Turned → ThreadId → StampedView → StampedView → Type 0
DoesTurn (turned.Moved n) t old new = Grown old (single_entry old.entries (event.Turn t n)) new × ((m : ℕ) → n < m → after (event.Turn t m) crossing.None old.present ≡ None)
DoesTurn turned.Nothing t old new = (new ≡ old) × ((m : ℕ) → after (event.Turn t m) crossing.None old.present ≡ None)

-- the same of an event of a machine; nothing happens if the machine has no such part
abbrev pub DoesOneAt : Option ℕ → Did → Event → StampedView → StampedView → Type 0
DoesOneAt None r e old new = (r ≡ did.Nothing) × (new ≡ old)
DoesOneAt (Some p) r e old new = DoesOne (moved r) e old new

abbrev pub DoesTurnAt : Option ℕ → Turned → ThreadId → StampedView → StampedView → Type 0
DoesTurnAt None r t old new = (r ≡ turned.Nothing) × (new ≡ old)
DoesTurnAt (Some p) r t old new = DoesTurn r t old new

-- the same entry in both
pub record BothGrown (e : Event) (low high low' high' : StampedView) : Type 0 where
  pub crossing : Crossing
  pub crosses : crossing_of e low.present high.present ≡ Some crossing
  pub low_grown : Grown low (double_entry low.entries high.entries e crossing) low'
  pub high_grown : Grown high (double_entry low.entries high.entries e crossing) high'

-- an event on two parts, made or not enabled
abbrev pub DoesTwo : Bool → Event → StampedView → StampedView → StampedView → StampedView → Type 0
DoesTwo true e low high low' high' = BothGrown e low high low' high'
DoesTwo false e low high low' high' = (low' ≡ low) × (high' ≡ high) × (meets e low.present high.present ≡ None)

-- the same of a call that may want memory; it then changes nothing
abbrev pub DoesTwoOr : Result Did AllocError → Event → StampedView → StampedView → StampedView → StampedView → Type 0
DoesTwoOr r e low high low' high' = MatchResult r (λ did. DoesTwo (moved did) e low high low' high') (λ _. (low' ≡ low) × (high' ≡ high))

-- the same of an event of a machine, whose parts are joined at this port; nothing happens if the machine has no two such parts
abbrev pub DoesTwoAt : Option Port → Result Did AllocError → Event → StampedView → StampedView → StampedView → StampedView → Type 0
DoesTwoAt None r e low high low' high' = (r ≡ Ok did.Nothing) × (low' ≡ low) × (high' ≡ high)
DoesTwoAt (Some at) r e low high low' high' = DoesTwoOr r e low high low' high'
