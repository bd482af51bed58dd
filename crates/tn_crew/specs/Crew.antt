-- A machine whose parts keep where they began and what happened on them.
use Rattle.std.specs.Prelude.{ℕ, ◌≡◌, ◌⊎◌, Bool, true, List, [], map}
use Rattle.tn_base.specs.declared.shape.ShapeNumbers.{ShapeNumbers}
use Rattle.tn_rows.specs.Events.{IsWorld, Rests}
use Rattle.tn_rows.specs.PartView.{PartView}
use Rattle.tn_rows.specs.Stamped.{machine, presents_of, starts_of}
use Rattle.tn_rows.specs.WorldView.{WorldView}
use Rattle.tn_settle.specs.Settles.{some_ended}
use Rattle.tn_stamp.specs.declared.entry.Entry.{Entry}
use Rattle.tn_stamp.specs.Merging.{ArePaired}
use Rattle.tn_stamped.specs.Placed.{AreAt, PlacedView, entries_of, stamped_of}

-- the numbers of a machine, and its parts in order
pub record CrewView : Type 0 where
  pub shape : ShapeNumbers
  pub parts : List PlacedView

-- the machine that the parts began as
abbrev pub start_of : CrewView → WorldView
start_of c = machine c.shape (starts_of (stamped_of c.parts))

-- the machine that the parts are now
abbrev pub present_of : CrewView → WorldView
present_of c = machine c.shape (presents_of (stamped_of c.parts))

-- the journal of each part
abbrev pub histories_of : CrewView → List (List Entry)
histories_of c = map entries_of c.parts

-- each part is at its place, the parts began as a machine, and their journals agree on every pair
pub record IsCrew (c : CrewView) : Type 0 where
  pub placed : AreAt c.shape 0 c.parts
  pub world : IsWorld (start_of c)
  pub paired : ArePaired (histories_of c)

-- nothing happened yet on any part
abbrev pub no_entries : List PartView → List (List Entry)
no_entries parts = map (λ part. []) parts

-- a part at a place, on which nothing happened yet
pub record IsFresh (n : ShapeNumbers) (k : ℕ) (part : PartView) (p : PlacedView) : Type 0 where
  pub shape : p.shape ≡ n
  pub place : p.place ≡ k
  pub start : p.stamped.start ≡ part
  pub entries : p.stamped.entries ≡ []
  pub present : p.stamped.present ≡ part

-- the parts of a machine at their places, on which nothing happened yet
pub record AreFresh (n : ShapeNumbers) (parts : List PartView) (ps : List PlacedView) : Type 0 where
  pub placed : AreAt n 0 ps
  pub starts : starts_of (stamped_of ps) ≡ parts
  pub presents : presents_of (stamped_of ps) ≡ parts
  pub entries : map entries_of ps ≡ no_entries parts

-- a journal has a final event
abbrev pub has_stopped : CrewView → Bool
has_stopped c = some_ended (stamped_of c.parts)

-- nothing is left to do: a journal has a final event, or no event is enabled on the parts as they are now
abbrev pub IsFinished : CrewView → Type 0
IsFinished c = (has_stopped c ≡ true) ⊎ Rests (present_of c)
