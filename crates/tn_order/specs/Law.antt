-- The law of order over places with numbers.
use Rattle.std.specs.Prelude.{ℕ, ◌<◌, ◌≡◌, Bool, IsTrue, List, ◌∷◌}
use Rattle.tn_order.specs.Net.{Net, IsNet, In, World, Change, Does}
use Rattle.tn_order.specs.Order.{Ordered}

-- the ways between places that a test gives
abbrev pub net_by : ℕ → (ℕ → ℕ → Bool) → Net ℕ
net_by start next = record { start = start; Next = λ p q. IsTrue (next p q) }

-- each change keeps the order
abbrev pub EachChangeKeeps : Type 0
EachChangeKeeps = (start : ℕ) (next : ℕ → ℕ → Bool) (c : Change ℕ) (old new : World ℕ) → IsNet (net_by start next) → Ordered (net_by start next) old → Does (net_by start next) c old new → Ordered (net_by start next) new

-- if the first letter of a place leaves, and no way leads on from there, each letter of a smaller number was handed or dropped before
abbrev pub EarlierIsGone : Type 0
EarlierIsGone = (start : ℕ) (next : ℕ → ℕ → Bool) (w : World ℕ) (p m n : ℕ) (rest : List ℕ) → IsNet (net_by start next) → Ordered (net_by start next) w → ((q : ℕ) → IsTrue (next p q) → ⊥) → w.place p ≡ n ∷ rest → In m w.sent → m < n → In m w.gone
