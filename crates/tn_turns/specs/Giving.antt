-- What an item may have become while its turn was out.
use Rattle.std.specs.Prelude.{◌≡◌, ℕ, List, ◌++◌, Option}
use Rattle.tn_stamp.specs.declared.entry.Entry.{Entry}
use Rattle.tn_stamp.specs.Pairs.{pairing, AllSingle, AllBetween}
use Rattle.tn_turns.specs.Outs.{HasTurn}

module _ {T St : Type 0} (start : T → St) (journal : T → List Entry) (n : ℕ) (outs : List (Option T)) where
  -- the item that was taken, with entries on one item added
  abbrev pub MayGiveOne : ℕ → T → Type 0
  MayGiveOne i a = (x : T) × HasTurn outs i x × (start a ≡ start x) × ((es : List Entry) × (journal a ≡ journal x ++ es) × AllSingle n es)

  -- the items that were taken, with entries on one item or on their pair added, the latter the same in both
  abbrev pub MayGiveTwo : ℕ → T → ℕ → T → Type 0
  MayGiveTwo i a j b = (x : T) × (y : T) × HasTurn outs i x × HasTurn outs j y × (start a ≡ start x) × (start b ≡ start y)
      × ((es : List Entry) × (fs : List Entry) × (journal a ≡ journal x ++ es) × (journal b ≡ journal y ++ fs) × AllBetween n i j es × AllBetween n i j fs × (pairing n i j es ≡ pairing n i j fs))
