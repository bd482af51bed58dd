-- Journals: the events of a part, their stamps rising.
use Rattle.std.specs.Prelude.{ℕ, ◌≡◌, ◌≤◌, ◌<◌, ◌+◌, ◌-◌, ◌^◌, ◌⊎◌, ◌++◌, List, [], ◌∷◌, length, map, max, min, slice_index_or, slice_get, Some}
use Rattle.tn_base.specs.declared.event.Event.{Event}
use Rattle.tn_stamp.specs.declared.entry.Crossing.{Crossing}
use Rattle.tn_stamp.specs.declared.entry.Crossing.TheVariants as crossing
use Rattle.tn_stamp.specs.declared.entry.Entry.{Entry}
use Rattle.tn_stamp.specs.declared.short.ShortEntry.{ShortEntry}

-- a journal: its entries, and for how many more there is room
pub record JournalView : Type 0 where
  pub entries : List Entry
  pub room : ℕ

-- the stamps rise strictly, from above low
abbrev pub Rises : ℕ → List Entry → Type 0
Rises low [] = Unit {0}
Rises low (e ∷ es) = (low < e.stamp) × Rises e.stamp es

-- the last stamp, or low where there is none
abbrev pub last_stamp : ℕ → List Entry → ℕ
last_stamp low [] = low
last_stamp low (e ∷ es) = last_stamp e.stamp es

-- the next entry of a journal, of an event on its part alone
abbrev pub single_entry : List Entry → Event → Entry
single_entry es event = record { stamp = last_stamp 0 es + 1; event = event; crossing = crossing.None }

-- the next entry of two journals, of an event on both parts
abbrev pub double_entry : List Entry → List Entry → Event → Crossing → Entry
double_entry low high event c = record { stamp = max (last_stamp 0 low) (last_stamp 0 high) + 1; event = event; crossing = c }

-- entry i is there, and P holds of it
abbrev pub AtEntry : List Entry → ℕ → (Entry → Type 0) → Type 0
AtEntry es i P = (e : Entry) × (slice_get es i ≡ Some e) × P e

-- a place among so many crossings, or the one that means none
abbrev pub IsPlace : ℕ → ℕ → Type 0
IsPlace count place = (place < count) ⊎ (place ≡ 2 ^ 32 - 1)

-- a short entry with the crossing at its place
abbrev pub entry_with : List Crossing → ShortEntry → Entry
entry_with crossings s = record { stamp = s.stamp; event = s.event; crossing = slice_index_or crossings s.place crossing.None }

abbrev pub entries_with : List Crossing → List ShortEntry → List Entry
entries_with crossings es = map (entry_with crossings) es

-- the room for entries, whatever crosses: by the room in both lists, and by the places that can be named
abbrev pub room_for : ℕ → ℕ → ℕ → ℕ
room_for entries crossings count = min entries (min crossings (2 ^ 32 - 1 - count))

-- a list of crossings in which a crossing has got a place, and every other one keeps its place
pub record Keeps (old : List Crossing) (c : Crossing) (place : ℕ) (new : List Crossing) : Type 0 where
  pub there : slice_index_or new place crossing.None ≡ c
  pub fits : IsPlace (length new) place
  pub more : List Crossing
  pub grown : new ≡ old ++ more
  pub few : length more ≤ 1
