-- Stamped parts at their places.
use Rattle.std.specs.Prelude.{ℕ, ◌≡◌, ◌+◌, ◌++◌, List, [], ◌∷◌, map}
use Rattle.std.specs.List.{All}
use Rattle.tn_base.specs.declared.shape.ShapeNumbers.{ShapeNumbers}
use Rattle.tn_base.specs.Parts.{kind_of, part_count}
use Rattle.tn_rows.specs.Events.{FitsKind, IsWorld}
use Rattle.tn_rows.specs.PartView.{PartView}
use Rattle.tn_rows.specs.Stamped.{AreJournals, StampedView, StandsAt, machine, starts_of}
use Rattle.tn_stamp.specs.declared.entry.Entry.{Entry}
use Rattle.tn_stamp.specs.Merging.{ArePaired}
use Rattle.tn_stamp.specs.Pairs.{AllBetween, AllSingle}

-- a stamped part, and its place in a machine of these numbers
pub record PlacedView : Type 0 where
  pub stamped : StampedView
  pub shape : ShapeNumbers
  pub place : ℕ

-- each entry of the part's journal is of an event on the part's place
abbrev pub StandsHere : PlacedView → Type 0
StandsHere p = All (StandsAt p.shape p.place) p.stamped.entries

-- the part is what the shape names at its place
abbrev pub FitsHere : PlacedView → Type 0
FitsHere p = FitsKind p.shape (kind_of p.shape p.place) p.stamped.present

-- a part as it began, at its place: what no event changes
abbrev pub began_with : PartView → ShapeNumbers → ℕ → PlacedView
began_with start n k = record { stamped = record { start = start; entries = []; room = 0; present = start }; shape = n; place = k }

abbrev pub began : PlacedView → PlacedView
began p = began_with p.stamped.start p.shape p.place

abbrev pub entries_of : PlacedView → List Entry
entries_of p = p.stamped.entries

-- the part grew by entries on it alone
pub record GrewAlone (old new : PlacedView) : Type 0 where
  pub stays : began new ≡ began old
  pub grows : (es : List Entry) × (entries_of new ≡ entries_of old ++ es) × AllSingle (part_count old.shape) es

-- both parts grew by the same entries, which are on their pair
pub record GrewTogether (low high low' high' : PlacedView) : Type 0 where
  pub low_stays : began low' ≡ began low
  pub high_stays : began high' ≡ began high
  pub grows : (es : List Entry) × (entries_of low' ≡ entries_of low ++ es) × (entries_of high' ≡ entries_of high ++ es) × AllBetween (part_count low.shape) low.place high.place es

abbrev pub stamped_of : List PlacedView → List StampedView
stamped_of ps = map (λ p. p.stamped) ps

-- the parts stand one behind the other from place k on, in the machine of these numbers
abbrev pub AreAt : ShapeNumbers → ℕ → List PlacedView → Type 0
AreAt n k [] = Unit {0}
AreAt n k (p ∷ ps) = (p.shape ≡ n) × (p.place ≡ k) × AreAt n (k + 1) ps

-- if parts began as all parts of a machine, and their journals agree on every pair, the journals are those of the machine
abbrev pub ComeBack : ShapeNumbers → List PlacedView → Type 0
ComeBack n shown =
    (firsts : List PlacedView) → map began shown ≡ map began firsts → AreAt n 0 firsts → IsWorld (machine n (starts_of (stamped_of firsts)))
    → ArePaired (map entries_of shown) → AreJournals n (stamped_of shown)
