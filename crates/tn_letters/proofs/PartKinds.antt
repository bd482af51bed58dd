-- Which tile and which router a part of a shape is.
use Rattle.std.proofs.Common.{ℕ, ◌≡◌, ◌<◌, ◌-◌, get_or, zero, suc, arith, inl, inr, subst, ◌∙◌}
use Rattle.std.proofs.lemmas.Bool.{cases_lt}
use Rattle.tn_base.specs.declared.ids.Board.{Board}
use Rattle.tn_base.specs.declared.ids.TileId.{TileId}
use Rattle.tn_base.specs.declared.part.Kind.TheVariants as kind
use Rattle.tn_base.specs.declared.shape.ShapeNumbers.{ShapeNumbers}
use Rattle.tn_base.specs.Parts.{board_at, board_count, from_routers, kind_of, router_part, tile_at, tile_count, tile_part}
use Rattle.tn_rows.proofs.PartKinds.{IsBehind, past_routers, past_tiles, router_at, tile_at_part}

-- the number of a tile that is a part
pub record TilePart (n : ShapeNumbers) (p : ℕ) (tile : TileId) : Type 0 where
  pub i : ℕ
  pub below : i < tile_count n
  pub part : tile_part i ≡ p
  pub is : tile.0 ≡ tile_at n i

pub tile_part_is : (n : ShapeNumbers) (p : ℕ) (tile : TileId) → kind_of n p ≡ kind.Tile tile → TilePart n p tile
tile_part_is n zero tile e = cc e
tile_part_is n (suc i) tile e = elim (cases_lt i (tile_count n)) [
  | inl h ↦
      let is : kind.Tile (record { 0 = tile_at n i }) ≡ kind.Tile tile = tile_at_part n i h ∙ e in
      record { i = i; below = h; part = omega arith; is = cc is }
  | inr h ↦
      let past : get_or (from_routers n) (i - tile_count n) kind.Detector ≡ kind.Tile tile = past_tiles n i h ∙ e in
      elim (cases_lt (i - tile_count n) (board_count n)) [
        | inl here ↦
            let is : kind.Router (board_at n (i - tile_count n)) ≡ kind.Tile tile = router_at n (i - tile_count n) here ∙ past in
            cc is
        | inr there ↦ absurd (subst IsBehind past (past_routers n (i - tile_count n) there))
      ]
]

-- the number of a board whose router is a part
pub record RouterPart (n : ShapeNumbers) (p : ℕ) (board : Board) : Type 0 where
  pub i : ℕ
  pub below : i < board_count n
  pub part : router_part n i ≡ p
  pub is : board_at n i ≡ board

pub router_part_is : (n : ShapeNumbers) (p : ℕ) (board : Board) → kind_of n p ≡ kind.Router board → RouterPart n p board
router_part_is n zero board e = cc e
router_part_is n (suc i) board e = elim (cases_lt i (tile_count n)) [
  | inl h ↦
      let is : kind.Tile (record { 0 = tile_at n i }) ≡ kind.Router board = tile_at_part n i h ∙ e in
      cc is
  | inr h ↦
      let past : get_or (from_routers n) (i - tile_count n) kind.Detector ≡ kind.Router board = past_tiles n i h ∙ e in
      elim (cases_lt (i - tile_count n) (board_count n)) [
        | inl here ↦
            let is : kind.Router (board_at n (i - tile_count n)) ≡ kind.Router board = router_at n (i - tile_count n) here ∙ past in
            record { i = i - tile_count n; below = here; part = omega arith; is = cc is }
        | inr there ↦ absurd (subst IsBehind past (past_routers n (i - tile_count n) there))
      ]
]
