-- What stands at the spots of a machine before and after a change at one spot.
use Rattle.std.specs.Prelude.{◌≡◌, ◌⊎◌, List, ◌++◌}
use Rattle.tn_order.specs.Spots.{Spot}

-- what stands first at one spot leaves it, and no other spot changes
pub record Takes {A : Type 0} (x : Spot) (gone : List A) (old new : Spot → List A) : Type 0 where
  pub first : old x ≡ gone ++ new x
  pub others : (r : Spot) → (r ≡ x) ⊎ (new r ≡ old r)

-- something is put behind what stands at one spot, and no other spot changes
pub record Puts {A : Type 0} (x : Spot) (come : List A) (old new : Spot → List A) : Type 0 where
  pub last : new x ≡ old x ++ come
  pub others : (r : Spot) → (r ≡ x) ⊎ (new r ≡ old r)
