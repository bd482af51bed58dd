-- What holds of the spots of a machine, for one sender and one receiver.
use Rattle.std.specs.Prelude.{ℕ, ◌≡◌, Bool, true, false, List, [], ◌∷◌}
use Rattle.std.specs.Int.{bit_at}
use Rattle.tn_base.specs.declared.message.Dest.{Dest}
use Rattle.tn_base.specs.declared.message.Dest.TheVariants as dest
use Rattle.tn_base.specs.declared.part.Kind.{Kind}
use Rattle.tn_base.specs.declared.shape.ShapeNumbers.{ShapeNumbers}
use Rattle.tn_base.specs.Address.{place_in_tile}
use Rattle.tn_base.specs.Ports.{port_from}
use Rattle.tn_router.specs.Kept.{is_keyed}
use Rattle.tn_tile.specs.Receivers.{receivers}
use Rattle.tn_order.specs.Net.{Net, World}
use Rattle.tn_order.specs.Order.{Ordered}
use Rattle.tn_order.specs.Spots.{Item, Spot, numbers}

-- among the receivers of a destination on their tile is the receiver
abbrev pub HasReceiver : ShapeNumbers → Dest → Dest → Type 0
HasReceiver n (dest.Thread t) d = bit_at (receivers n d) (place_in_tile n t.0) ≡ 1
HasReceiver n dest.Host d = Unit {0}
HasReceiver n (dest.Mask tile mask) d = Unit {0}
HasReceiver n (dest.Key key) d = Unit {0}

-- a packet for this destination takes the ways of the receiver's packets, and is for the receiver too
pub record IsFor (n : ShapeNumbers) (goal d : Dest) : Type 0 where
  pub port : (k : Kind) → port_from k d ≡ port_from k goal
  pub unkeyed : is_keyed d ≡ false
  pub receiver : HasReceiver n goal d

-- each item that is meant is for the receiver
abbrev pub AllFor : ShapeNumbers → Dest → (ℕ → ℕ → Bool) → List Item → Type 0
AllFor n goal mine [] = Unit {0}
AllFor n goal mine (x ∷ xs) = (mine x.origin x.number ≡ true → IsFor n goal x.to) × AllFor n goal mine xs

-- the world of the numbers that are meant
abbrev pub world_of : (ℕ → ℕ → Bool) → (Spot → List Item) → List ℕ → List ℕ → World Spot
world_of mine f sent gone = record { place = λ r. numbers mine (f r); sent = sent; gone = gone }

-- the letters that are meant are in order, and each is for the receiver
pub record Kept (n : ShapeNumbers) (net : Net Spot) (goal : Dest) (mine : ℕ → ℕ → Bool) (f : Spot → List Item) (sent gone : List ℕ) : Type 0 where
  pub order : Ordered net (world_of mine f sent gone)
  pub all : (r : Spot) → AllFor n goal mine (f r)
