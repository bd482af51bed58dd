-- What stays true of items, whoever takes their turns.
use Rattle.std.specs.Prelude.{◌≡◌, List, map}
use Rattle.tn_stamp.specs.declared.entry.Entry.{Entry}
use Rattle.tn_stamp.specs.Merging.{ArePaired}

-- the items shown have the starts of the first ones, and their journals agree on every pair
pub record IsFaithful {T St : Type 0} (start : T → St) (journal : T → List Entry) (firsts shown : List T) : Type 0 where
  pub starts : map start shown ≡ map start firsts
  pub paired : ArePaired (map journal shown)
