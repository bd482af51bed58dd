-- The merge of journals: one order of all their events.
use Rattle.std.specs.Prelude.{ℕ, ◌≡◌, ◌<◌, ◌==◌, ◌||◌, ◌⊎◌, Bool, true, List, [], ◌∷◌, length, map, filter, Option, Some, None, slice_get}
use Rattle.std.specs.List.{All}
use Rattle.tn_base.specs.declared.event.Event.{Event}
use Rattle.tn_stamp.specs.declared.entry.Entry.{Entry}
use Rattle.tn_stamp.specs.Journals.{JournalView}
use Rattle.tn_stamp.specs.Pairs.{Pair, AllOwn, pair_of, pairing}

abbrev pub entries_or_none : Option (List Entry) → List Entry
entries_or_none None = []
entries_or_none (Some es) = es

-- the entries of part i
abbrev pub entries_at : List (List Entry) → ℕ → List Entry
entries_at js i = entries_or_none (slice_get js i)

abbrev pub entries_of : List JournalView → List (List Entry)
entries_of js = map (λ j. j.entries) js

-- the entries on each pair are the same in both journals, and each entry on two parts is on its own part and one other
pub record ArePaired (js : List (List Entry)) : Type 0 where
  pub own : (i : ℕ) → AllOwn (length js) i (entries_at js i)
  pub paired : (low high : ℕ) → pairing (length js) low high (entries_at js low) ≡ pairing (length js) low high (entries_at js high)

-- an entry, and the least part that its event is on
pub record Placed : Type 0 where
  pub part : ℕ
  pub entry : Entry

-- an earlier stamp, or the same stamp and a lesser part
abbrev pub IsBefore : Placed → Placed → Type 0
IsBefore a b = (a.entry.stamp < b.entry.stamp) ⊎ ((a.entry.stamp ≡ b.entry.stamp) × (a.part < b.part))

-- each before all that follow: so each stands once
abbrev pub IsInOrder : List Placed → Type 0
IsInOrder [] = Unit {0}
IsInOrder (x ∷ xs) = All (IsBefore x) xs × IsInOrder xs

-- the least part of an event is this one; an event on one part has it wherever it stands
abbrev pub is_least : Option Pair → ℕ → Bool
is_least None part = true
is_least (Some p) part = p.low == part

-- an event whose least part is this one is on part i
abbrev pub is_on : Option Pair → ℕ → ℕ → Bool
is_on None part i = part == i
is_on (Some p) part i = (p.low == i) || (p.high == i)

-- the entries on part i of a list
abbrev pub of_part : ℕ → ℕ → List Placed → List Entry
of_part n i xs = map (λ x. x.entry) (filter (λ x. is_on (pair_of n x.entry.event) x.part i) xs)

-- the merge of journals: in order of stamp and then of least part, and what it has of each part is that part's journal
pub record IsMergeOf (js : List (List Entry)) (xs : List Placed) : Type 0 where
  pub in_order : IsInOrder xs
  pub least : All (λ x. is_least (pair_of (length js) x.entry.event) x.part ≡ true) xs
  pub each : (i : ℕ) → of_part (length js) i xs ≡ entries_at js i

abbrev pub events_of : List Placed → List Event
events_of xs = map (λ x. x.entry.event) xs

-- the events of the merge
abbrev pub IsMerge : List (List Entry) → List Event → Type 0
IsMerge js events = (xs : List Placed) × IsMergeOf js xs × (events ≡ events_of xs)

-- the next entry of journal i, where ns i of its entries are taken
abbrev pub head_at : List (List Entry) → (ℕ → ℕ) → ℕ → Option Entry
head_at js ns i = slice_get (entries_at js i) (ns i)
