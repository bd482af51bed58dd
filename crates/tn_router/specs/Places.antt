-- The sides of a router from which links lead to it, and its ways out.
use Rattle.std.specs.Prelude.{◌==◌, ◌&&◌, Bool, true, false, is_some}
use Rattle.tn_base.specs.declared.ids.Board.{Board}
use Rattle.tn_base.specs.declared.port.Port.{Port}
use Rattle.tn_base.specs.declared.port.Port.TheVariants as port
use Rattle.tn_base.specs.declared.shape.ShapeNumbers.{ShapeNumbers}
use Rattle.tn_keys.specs.Copies.{neighbour}

-- a link leads to the router of a board from this side: from a neighbour, from the first tile of the board, and from the
-- host to the first board
abbrev pub has_side : ShapeNumbers → Board → Port → Bool
has_side n b port.East = is_some (neighbour n 0 b)
has_side n b port.West = is_some (neighbour n 1 b)
has_side n b port.South = is_some (neighbour n 2 b)
has_side n b port.North = is_some (neighbour n 3 b)
has_side n b port.Up = true
has_side n b port.Down = false
has_side n b port.HostPort = b.x == 0 && b.y == 0
has_side n b port.Here = false

-- a way out of the router of a board is there: to a neighbour, to the first tile of the board, and to the host from the first
-- board
abbrev pub has_way : ShapeNumbers → Board → Port → Bool
has_way n b port.East = is_some (neighbour n 0 b)
has_way n b port.West = is_some (neighbour n 1 b)
has_way n b port.South = is_some (neighbour n 2 b)
has_way n b port.North = is_some (neighbour n 3 b)
has_way n b port.Up = false
has_way n b port.Down = true
has_way n b port.HostPort = b.x == 0 && b.y == 0
has_way n b port.Here = false
