-- What keys reach, whatever the bytes of the message are.
use Rattle.std.specs.Prelude.{ℕ, List, []}
use Rattle.std.specs.declared.option.Option.{Option}
use Rattle.std.specs.declared.option.Option.TheVariants.{Some, None}
use Rattle.tn_base.specs.declared.ids.Board.{Board}
use Rattle.tn_base.specs.declared.shape.ShapeNumbers.{ShapeNumbers}
use Rattle.tn_keys.specs.Copies.{Copy, copy_to, keyed, led, onto}
use Rattle.tn_keys.specs.Reach.{reach, reach_by}
use Rattle.tn_keys.specs.Tables.{Table}

-- a thread that a key reaches, and the local key that is written over the first two bytes there
pub record Hop : Type 0 where
  pub receiver : ℕ
  pub local : ℕ

abbrev pub hop : ℕ → ℕ → Hop
hop receiver local = record { receiver = receiver; local = local }

-- the copy of a message of these bytes
abbrev pub arrives : List ℕ → Hop → Copy
arrives bytes h = copy_to h.receiver (keyed 2 h.local bytes)

-- the copies over at most so many keys, and all copies; without a key there are none
abbrev pub reach_from : ℕ → ShapeNumbers → List Table → List ℕ → Option Board → Option ℕ → List Copy
reach_from keys n tables bytes at None = []
reach_from keys n tables bytes at (Some key) = led (reach_by keys n tables bytes) (onto key at)

abbrev pub reach_of : ShapeNumbers → List Table → List ℕ → Board → Option ℕ → List Copy
reach_of n tables bytes b None = []
reach_of n tables bytes b (Some key) = reach n tables b key bytes
