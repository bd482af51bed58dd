-- What the sends of an event need: each is for the receiver, and its number is above all before.
use Rattle.std.specs.Prelude.{ℕ, ◌≡◌, ◌<◌, Bool, true, List, [], ◌∷◌}
use Rattle.tn_base.specs.declared.message.Dest.{Dest}
use Rattle.tn_base.specs.declared.shape.ShapeNumbers.{ShapeNumbers}
use Rattle.tn_order.specs.Acts.{Act, Sent, Handed, Dropped}
use Rattle.tn_order.specs.History.{sent_of}
use Rattle.tn_order.specs.Kept.{IsFor}
use Rattle.tn_order.specs.Net.{In}

-- a send that is meant is for the receiver, and its number is above all that are meant and were sent
pub record SendFits (n : ShapeNumbers) (goal : Dest) (mine : ℕ → ℕ → Bool) (past : List Act) (number : ℕ) (to : Dest) : Type 0 where
  pub for : IsFor n goal to
  pub above : (m : ℕ) → In m (sent_of mine past) → m < number

abbrev pub ActFits : ShapeNumbers → Dest → (ℕ → ℕ → Bool) → List Act → Act → Type 0
ActFits n goal mine past (Sent t k to) = mine t k ≡ true → SendFits n goal mine past k to
ActFits n goal mine past (Handed t k a) = Unit {0}
ActFits n goal mine past (Dropped t k a) = Unit {0}

-- so does each send of some acts
abbrev pub ActsFit : ShapeNumbers → Dest → (ℕ → ℕ → Bool) → List Act → List Act → Type 0
ActsFit n goal mine past [] = Unit {0}
ActsFit n goal mine past (x ∷ xs) = ActFits n goal mine past x × ActsFit n goal mine (x ∷ past) xs
