-- The next entries of journals, in a heap.
use Rattle.std.specs.Prelude.{ℕ, ◌≡◌, ◌<◌, List, Option, Some, None}
use Rattle.std.specs.BinaryHeap.{IsHeap}
use Rattle.std.specs.List.{Contains}
use Rattle.std.specs.Ordering.{nat_cmp, ordering_then}
use Rattle.std.specs.declared.cmp.Ordering.{Ordering}
use Rattle.std.specs.declared.cmp.Reverse.{Reverse}
use Rattle.tn_base.specs.declared.event.Event.{Event}
use Rattle.tn_stamp.specs.declared.entry.Entry.{Entry}
use Rattle.tn_stamp.specs.Journals.{Rises}
use Rattle.tn_stamp.specs.Merging.{entries_at, head_at}

-- the stamp and the event of the next entry, if there is one
abbrev pub IsNext : Option Entry → Option (ℕ × Event) → Type 0
IsNext head None = head ≡ None
IsNext head (Some r) = (x : Entry) × (head ≡ Some x) × (r ≡ (x.stamp, x.event))

-- a stamp, and the journal that it is of; the least comes first
abbrev pub Head : Type 0
Head = Reverse (ℕ × ℕ)

abbrev pub head_key : ℕ → ℕ → Head
head_key stamp part = record { 0 = (stamp, part) }

abbrev pub head_order : Head → Head → Ordering
head_order x y = ordering_then (nat_cmp y.0.0 x.0.0) (nat_cmp y.0.1 x.0.1)

-- the next entries of the first n journals stand in the heap
abbrev pub AreHeads : List (List Entry) → (ℕ → ℕ) → ℕ → List Head → Type 0
AreHeads js ns n heap = (i : ℕ) (e : Entry) → i < n → head_at js ns i ≡ Some e → Contains heap (head_key e.stamp i)

-- the stamps of the first n journals rise
abbrev pub AllRise : List (List Entry) → ℕ → Type 0
AllRise js n = (i : ℕ) → i < n → Rises 0 (entries_at js i)

-- a heap that the next entry of a journal was added to, if it has one
pub record TakesNext (js : List (List Entry)) (ns : ℕ → ℕ) (part : ℕ) (old new : List Head) : Type 0 where
  pub ordered : IsHeap head_order old → IsHeap head_order new
  pub kept : (y : Head) → Contains old y → Contains new y
  pub there : (x : Entry) → head_at js ns part ≡ Some x → Contains new (head_key x.stamp part)
