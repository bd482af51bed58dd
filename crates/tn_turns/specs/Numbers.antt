-- The rule of turns in its own words.
use Rattle.std.specs.Prelude.{◌≡◌, ◌≢◌, ◌⊎◌, ℕ, ◌+◌, ◌<◌, List, true, false, Option}
use mathlib.Core.Option.{some}
use lib.ListN.{get_elem?}
use Rattle.atomic_table.specs.Table.{State}
use Rattle.tn_turns.specs.declared.view.KeptView.{KeptView}
use Rattle.tn_turns.specs.declared.view.SeatView.{SeatView}
use Rattle.tn_turns.specs.declared.view.View.{View}
use Rattle.tn_turns.specs.declared.view.View.TheVariants.{Kept, Given}
use Rattle.tn_turns.specs.Outs.{HasTurn, LacksTurn}
use Rattle.tn_turns.specs.Rule.{among, Once}

module _ {T : Type 0} where
  -- the view k, and no other, is of the seat m
  abbrev pub IsOnly : List (View T) → ℕ → ℕ → Type 0
  IsOnly views m k = ((h : SeatView T) × (get_elem? views k ≡ some (Given h)) × (h.number ≡ m)) × ((j : ℕ) (h : SeatView T) → get_elem? views j ≡ some (Given h) → h.number ≡ m → j ≡ k)

  -- each number below the count either was joined, or is that of exactly one view, and not both
  abbrev pub NumbersKept : KeptView → List (View T) → Type 0
  NumbersKept d views = Once d.joined × ((m : ℕ) → m < d.given →
      ((among m d.joined ≡ true) × ((k : ℕ) (h : SeatView T) → get_elem? views k ≡ some (Given h) → h.number ≢ m)) ⊎ ((among m d.joined ≡ false) × ((k : ℕ) × IsOnly views m k)))

  -- exactly one view is the kept one
  abbrev pub OneKept : KeptView → List (View T) → Type 0
  OneKept d views = (get_elem? views 0 ≡ some (Kept d)) × ((k : ℕ) (e : KeptView) → get_elem? views k ≡ some (Kept e) → k ≡ 0)

  -- the turn i is out with the view k, and with no other
  pub record IsOutWith (views : List (View T)) (i k : ℕ) : Type 0 where
    pub hold : SeatView T
    pub view : get_elem? views k ≡ some (Given hold)
    pub number : k ≡ hold.number + 1
    pub item : T
    pub has : HasTurn hold.outs i item
    pub only : (j : ℕ) (h : SeatView T) (x : T) → get_elem? views j ≡ some (Given h) → HasTurn h.outs i x → j ≡ k

  -- a turn whose word is 0 is out with no view; any other word names the one view that has the turn
  abbrev pub WordsKept : List ℕ → List (View T) → Type 0
  WordsKept words views = (i k : ℕ) → get_elem? words i ≡ some k →
      ((k ≡ 0) × ((j : ℕ) (h : SeatView T) → get_elem? views j ≡ some (Given h) → LacksTurn h.outs i)) ⊎ IsOutWith views i k

  abbrev pub InWords : List T → State (Option T) (View T) → Type 0
  InWords shown s = (d : KeptView) × OneKept d s.views × NumbersKept d s.views × WordsKept s.words s.views
