-- What the events that move packets make of the order.
use Rattle.std.specs.Prelude.{ℕ, ◌≡◌, ◌⊎◌, Bool, true, IsTrue, List, ◌∷◌, Some}
use Rattle.tn_base.specs.declared.event.Event.{Event}
use Rattle.tn_base.specs.declared.event.Event.TheVariants as event
use Rattle.tn_base.specs.declared.message.Dest.{Dest}
use Rattle.tn_base.specs.declared.message.Dest.TheVariants as dest
use Rattle.tn_base.specs.declared.message.Packet.{Packet}
use Rattle.tn_base.specs.declared.shape.ShapeNumbers.{ShapeNumbers}
use Rattle.tn_base.specs.Address.{has_thread}
use Rattle.tn_rows.specs.Events.{happened}
use Rattle.tn_rows.specs.Runs.{Walk}
use Rattle.tn_rows.specs.WorldView.{WorldView}
use Rattle.tn_letters.specs.Law.{IsStart}
use Rattle.tn_order.specs.Kept.{IsFor, Kept}
use Rattle.tn_order.specs.Spots.{standing_at, way_of}

-- the receiver is a thread of the machine or the host
abbrev pub IsReceiver : ShapeNumbers → Dest → Type 0
IsReceiver n (dest.Thread t) = IsTrue (has_thread n t.0)
IsReceiver n dest.Host = Unit {0}
IsReceiver n (dest.Mask tile mask) = ⊥
IsReceiver n (dest.Key key) = ⊥

-- an event that moves a packet, and neither sends a packet nor hands a letter
abbrev pub IsMoving : Event → Type 0
IsMoving (event.Turn t n) = ⊥
IsMoving (event.Deliver t) = Unit {0}
IsMoving (event.Depart p l) = Unit {0}
IsMoving (event.Arrive l p) = Unit {0}
IsMoving (event.Route p) = Unit {0}
IsMoving event.HostPut = ⊥
IsMoving event.HostTake = ⊥
IsMoving (event.Report p) = ⊥
IsMoving event.Begin = ⊥
IsMoving (event.Confirm p) = ⊥
IsMoving event.Announce = ⊥
IsMoving (event.Release p) = ⊥
IsMoving (event.Go p) = ⊥

-- one letter that is meant is dropped
pub record DropsOne (s : ℕ) (goal : Dest) (mine : ℕ → ℕ → Bool) (n : ShapeNumbers) (new : WorldView) (sent gone : List ℕ) : Type 0 where
  pub packet : Packet
  pub meant : mine packet.origin packet.number ≡ true
  pub kept : Kept n (way_of n s goal) goal mine (standing_at goal new) sent (packet.number ∷ gone)

-- whatever numbers of a sender are meant: an event that moves a packet keeps what is meant in order, but that it may drop one letter
abbrev pub EachMovingKeeps : Type 0
EachMovingKeeps = (start w new : WorldView) (history : List Event) (e : Event) (s : ℕ) (goal : Dest) (mine : ℕ → ℕ → Bool) (sent gone : List ℕ) → IsStart start → Walk start history w → happened e w ≡ Some new → IsMoving e → IsReceiver w.shape goal → IsFor w.shape goal goal →
    Kept w.shape (way_of w.shape s goal) goal mine (standing_at goal w) sent gone → Kept w.shape (way_of w.shape s goal) goal mine (standing_at goal new) sent gone ⊎ DropsOne s goal mine w.shape new sent gone
