-- The ways that packets take are there.
use Rattle.std.proofs.Common.{ℕ, ◌≡◌, ◌<◌, ◌+◌, ◌&&◌, ◌⊎◌, Bool, true, false, cond, ltb, eqb, refl, arith, inl, inr, ap, ◌∙◌}
use Rattle.std.proofs.lemmas.Bool.{and_parts, eq-eqb, lt-ltb, ltb-false, ltb-true}
use Rattle.tn_base.specs.declared.ids.Board.{Board}
use Rattle.tn_base.specs.declared.message.Dest.{Dest}
use Rattle.tn_base.specs.declared.message.Dest.TheVariants as dest
use Rattle.tn_base.specs.declared.port.Port.{Port}
use Rattle.tn_base.specs.declared.port.Port.TheVariants as port
use Rattle.tn_base.specs.declared.shape.ShapeNumbers.{ShapeNumbers}
use Rattle.tn_base.specs.Address.{names_tile}
use Rattle.tn_base.specs.Message.{has_dest}
use Rattle.tn_base.specs.Ports.{board_x, board_y, router_port, same_board, tile_port, tile_x, tile_y, to_board, to_router, to_tile, toward}
use Rattle.tn_base.specs.Shape.{WithinLimits}
use Rattle.tn_router.specs.Places.{has_way}
use Rattle.tn_ways.specs.Ways.{has_tile_way}
use Rattle.tn_ways.proofs.Leaving.{router_by}

-- the fields of an address that names a tile
record Named (n : ShapeNumbers) (a : ℕ) : Type 0 where
  pub x : tile_x a < n.tiles_x
  pub y : tile_y a < n.tiles_y
  pub over_x : board_x a < n.boards_x
  pub over_y : board_y a < n.boards_y

named : (n : ShapeNumbers) (a : ℕ) → names_tile n a ≡ true → Named n a
named n a h =
    let d = and_parts _ _ h in
    let c = and_parts _ _ d.0 in
    let b = and_parts _ _ c.0 in
    let e = and_parts _ _ b.0 in
    record { x = ltb-true _ _ e.1; y = ltb-true _ _ b.1; over_x = ltb-true _ _ c.1; over_y = ltb-true _ _ d.1 }

-- ---- from a tile

-- the packet stays, or takes a way that is there
abbrev TileWay : ShapeNumbers → ℕ → Port → Type 0
TileWay n a way = (way ≡ port.Here) ⊎ (has_tile_way n a way ≡ true)

tile_toward : (n : ShapeNumbers) (a u v : ℕ) (stop : Port) → u < n.tiles_x → v < n.tiles_y → (tile_x a ≡ u → tile_y a ≡ v → TileWay n a stop) → TileWay n a (toward (tile_x a) (tile_y a) u v stop)
tile_toward n a u v stop h k at = by (ltb (tile_x a) u) (ltb u (tile_x a)) (ltb (tile_y a) v) (ltb v (tile_y a)) refl refl refl refl where
  by : (e w s o : Bool) → ltb (tile_x a) u ≡ e → ltb u (tile_x a) ≡ w → ltb (tile_y a) v ≡ s → ltb v (tile_y a) ≡ o →
      TileWay n a (cond e port.East (cond w port.West (cond s port.South (cond o port.North stop))))
  by true w s o p q r t = inr (let x = ltb-true _ _ p in lt-ltb (tile_x a + 1) n.tiles_x (omega arith))
  by false true s o p q r t = inr (let x = ltb-true _ _ q in lt-ltb 0 (tile_x a) (omega arith))
  by false false true o p q r t = inr (let y = ltb-true _ _ r in lt-ltb (tile_y a + 1) n.tiles_y (omega arith))
  by false false false true p q r t = inr (let y = ltb-true _ _ t in lt-ltb 0 (tile_y a) (omega arith))
  by false false false false p q r t =
      let b = ltb-false _ _ p in
      let c = ltb-false _ _ q in
      let d = ltb-false _ _ r in
      let e = ltb-false _ _ t in
      at (omega arith) (omega arith)

tile_up : (n : ShapeNumbers) (a : ℕ) → WithinLimits n → TileWay n a (to_router a)
tile_up n a l =
    tile_toward n a 0 0 port.Up l.tiles_x.0 l.tiles_y.0
    (λ x y. inr (ap (λ t. t && eqb (tile_y a) 0) (eq-eqb (tile_x a) 0 x) ∙ eq-eqb (tile_y a) 0 y))

tile_to : (n : ShapeNumbers) (a b : ℕ) → WithinLimits n → Named n b → TileWay n a (to_tile a b)
tile_to n a b l h = by (same_board a b) where
  by : (same : Bool) → TileWay n a (cond same (toward (tile_x a) (tile_y a) (tile_x b) (tile_y b) port.Here) (to_router a))
  by true = tile_toward n a (tile_x b) (tile_y b) port.Here h.x h.y (λ x y. inl refl)
  by false = tile_up n a l

pub tile_taken : (n : ShapeNumbers) (a : ℕ) (to : Dest) → WithinLimits n → has_dest n to ≡ true → TileWay n a (tile_port a to)
tile_taken n a (dest.Thread t) l h = tile_to n a t.0 l (named n t.0 (and_parts _ _ (and_parts _ _ h).0).0)
tile_taken n a dest.Host l h = tile_up n a l
tile_taken n a (dest.Mask tile mask) l h = tile_to n a tile.0 l (named n tile.0 (and_parts _ _ (and_parts _ _ (and_parts _ _ h).0).0).0)
tile_taken n a (dest.Key key) l h = tile_up n a l

-- ---- from a router

abbrev RouterWay : ShapeNumbers → Board → Port → Type 0
RouterWay n b way = (way ≡ port.Here) ⊎ (has_way n b way ≡ true)

router_toward : (n : ShapeNumbers) (b : Board) (u v : ℕ) (stop : Port) → u < n.boards_x → v < n.boards_y → (b.x ≡ u → b.y ≡ v → has_way n b stop ≡ true) → RouterWay n b (toward b.x b.y u v stop)
router_toward n b u v stop h k at = by (ltb b.x u) (ltb u b.x) (ltb b.y v) (ltb v b.y) refl refl refl refl where
  by : (e w s o : Bool) → ltb b.x u ≡ e → ltb u b.x ≡ w → ltb b.y v ≡ s → ltb v b.y ≡ o →
      RouterWay n b (cond e port.East (cond w port.West (cond s port.South (cond o port.North stop))))
  by true w s o p q r t = inr (router_by n b port.East ∙ (let x = ltb-true _ _ p in lt-ltb (b.x + 1) n.boards_x (omega arith)))
  by false true s o p q r t = inr (router_by n b port.West ∙ (let x = ltb-true _ _ q in lt-ltb 0 b.x (omega arith)))
  by false false true o p q r t = inr (router_by n b port.South ∙ (let y = ltb-true _ _ r in lt-ltb (b.y + 1) n.boards_y (omega arith)))
  by false false false true p q r t = inr (router_by n b port.North ∙ (let y = ltb-true _ _ t in lt-ltb 0 b.y (omega arith)))
  by false false false false p q r t =
      let c = ltb-false _ _ p in
      let d = ltb-false _ _ q in
      let e = ltb-false _ _ r in
      let f = ltb-false _ _ t in
      inr (at (omega arith) (omega arith))

router_to : (n : ShapeNumbers) (b : Board) (a : ℕ) → Named n a → RouterWay n b (to_board b a)
router_to n b a h = router_toward n b (board_x a) (board_y a) port.Down h.over_x h.over_y (λ x y. refl)

pub router_taken : (n : ShapeNumbers) (b : Board) (to : Dest) → WithinLimits n → has_dest n to ≡ true → RouterWay n b (router_port b to)
router_taken n b (dest.Thread t) l h = router_to n b t.0 (named n t.0 (and_parts _ _ (and_parts _ _ h).0).0)
router_taken n b dest.Host l h =
    router_toward n b 0 0 port.HostPort l.boards_x.0 l.boards_y.0 (λ x y. ap (λ t. t && eqb b.y 0) (eq-eqb b.x 0 x) ∙ eq-eqb b.y 0 y)
router_taken n b (dest.Mask tile mask) l h = router_to n b tile.0 (named n tile.0 (and_parts _ _ (and_parts _ _ (and_parts _ _ h).0).0).0)
router_taken n b (dest.Key key) l h = inr refl
