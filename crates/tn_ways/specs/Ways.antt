-- The ways out of tiles and routers, the sides of routers, and the links that lead by them.
use Rattle.std.specs.Prelude.{ℕ, ◌≡◌, ◌+◌, ◌==◌, ◌&&◌, ◌⊎◌, Bool, false, IsTrue, nat_lt}
use Rattle.tn_base.specs.declared.ids.Board.{Board}
use Rattle.tn_base.specs.declared.message.Dest.{Dest}
use Rattle.tn_base.specs.declared.part.Kind.{Kind}
use Rattle.tn_base.specs.declared.part.Kind.TheVariants as kind
use Rattle.tn_base.specs.declared.port.Port.{Port}
use Rattle.tn_base.specs.declared.port.Port.TheVariants as port
use Rattle.tn_base.specs.declared.shape.ShapeNumbers.{ShapeNumbers}
use Rattle.tn_base.specs.Message.{has_dest}
use Rattle.tn_base.specs.Parts.{kind_of}
use Rattle.tn_base.specs.Ports.{port_of, tile_x, tile_y}
use Rattle.tn_router.specs.Places.{has_side, has_way}
use Rattle.tn_rows.specs.Places.{leads_from, leads_to, link_side, link_way}

-- a way out of the tile of this address is there: to a neighbour on the board, and to the router from the board's first tile
abbrev pub has_tile_way : ShapeNumbers → ℕ → Port → Bool
has_tile_way n a port.East = nat_lt (tile_x a + 1) n.tiles_x
has_tile_way n a port.West = nat_lt 0 (tile_x a)
has_tile_way n a port.South = nat_lt (tile_y a + 1) n.tiles_y
has_tile_way n a port.North = nat_lt 0 (tile_y a)
has_tile_way n a port.Up = tile_x a == 0 && tile_y a == 0
has_tile_way n a port.Down = false
has_tile_way n a port.HostPort = false
has_tile_way n a port.Here = false

-- a way out of a part of this kind is there; only tiles and routers have ways
abbrev pub has_way_out : ShapeNumbers → Kind → Port → Bool
has_way_out n kind.Host way = false
has_way_out n (kind.Tile tile) way = has_tile_way n tile.0 way
has_way_out n (kind.Router b) way = has_way n b way
has_way_out n (kind.Link from onto) way = false
has_way_out n kind.Detector way = false

-- link l leads away from part p by this way
pub record LeadsBy (n : ShapeNumbers) (p : ℕ) (way : Port) (l : ℕ) : Type 0 where
  pub from : IsTrue (leads_from p (kind_of n l))
  pub by : link_way n l ≡ way

-- link l leads to part p from this side
pub record ComesFrom (n : ShapeNumbers) (p : ℕ) (side : Port) (l : ℕ) : Type 0 where
  pub onto : IsTrue (leads_to p (kind_of n l))
  pub beside : link_side n l ≡ side

-- one link has P, and no other link has P
pub record ExactlyOne (P : ℕ → Type 0) : Type 0 where
  pub link : ℕ
  pub has : P link
  pub alone : (other : ℕ) → P other → other ≡ link

-- the links of the machine, by their ways and sides
pub record Ways (n : ShapeNumbers) : Type 0 where
  -- if the machine has a destination, a packet for it stays at a part or takes a way that is there
  pub taken : (p : ℕ) (to : Dest) → IsTrue (has_dest n to) → (port_of n p to ≡ port.Here) ⊎ IsTrue (has_way_out n (kind_of n p) (port_of n p to))
  -- by each way that is there, exactly one link leads away
  pub out : (p : ℕ) (way : Port) → IsTrue (has_way_out n (kind_of n p) way) → ExactlyOne (LeadsBy n p way)
  -- a link that leads away from a tile does so by a way that is there, and so does a link that leads away from a router
  pub from_tile : (p l : ℕ) (way : Port) (a : ℕ) → kind_of n p ≡ kind.Tile (record { 0 = a }) → LeadsBy n p way l → IsTrue (has_tile_way n a way)
  pub from_router : (p l : ℕ) (way : Port) (b : Board) → kind_of n p ≡ kind.Router b → LeadsBy n p way l → IsTrue (has_way n b way)
  -- two links that lead away from one part by the same way are the same link
  pub apart : (p l k : ℕ) (way : Port) → LeadsBy n p way l → LeadsBy n p way k → l ≡ k
  -- from each side of a router that is there, exactly one link leads to the router
  pub sides : (p : ℕ) (side : Port) (b : Board) → kind_of n p ≡ kind.Router b → IsTrue (has_side n b side) → ExactlyOne (ComesFrom n p side)
  -- a link that leads to a router does so from a side that is there
  pub to_router : (p l : ℕ) (side : Port) (b : Board) → kind_of n p ≡ kind.Router b → ComesFrom n p side l → IsTrue (has_side n b side)
  -- two links that lead to one router from the same side are the same link
  pub own : (p l k : ℕ) (side : Port) (b : Board) → kind_of n p ≡ kind.Router b → ComesFrom n p side l → ComesFrom n p side k → l ≡ k
