-- Where the entries of paired journals stand.
use Rattle.std.specs.Prelude.{ℕ, ◌≡◌, ◌⊎◌, List, [], ◌∷◌, length, Some}
use Rattle.tn_stamp.specs.declared.entry.Entry.{Entry}
use Rattle.tn_stamp.specs.Merging.{entries_at}
use Rattle.tn_stamp.specs.Pairs.{Pair, pair_of}

-- an entry stands in a list
abbrev pub IsIn : Entry → List Entry → Type 0
IsIn e [] = ⊥
IsIn e (x ∷ xs) = (e ≡ x) ⊎ IsIn e xs

-- an entry on two parts stands in the journals of both
abbrev pub StandsInBoth : List (List Entry) → Type 0
StandsInBoth js = (i : ℕ) (e : Entry) (p : Pair) → IsIn e (entries_at js i) → pair_of (length js) e.event ≡ Some p → IsIn e (entries_at js p.low) × IsIn e (entries_at js p.high)

-- and in no other
abbrev pub StandsInNoOther : List (List Entry) → Type 0
StandsInNoOther js = (i : ℕ) (e : Entry) (p : Pair) → IsIn e (entries_at js i) → pair_of (length js) e.event ≡ Some p → (p.low ≡ i) ⊎ (p.high ≡ i)
