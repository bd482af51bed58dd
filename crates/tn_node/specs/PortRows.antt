-- The value of each port, and another value in its place.
use Rattle.std.specs.Prelude.{◌&&◌, Bool, Option, None, is_none}
use Rattle.tn_base.specs.declared.port.Port.{Port}
use Rattle.tn_base.specs.declared.port.Port.TheVariants as port
use Rattle.tn_node.specs.declared.ports.Ports.{Ports}

-- the value of a port; a part has none for itself
abbrev pub at : {X : Type 0} → Port → Ports X → Option X
at port.East s = s.east
at port.West s = s.west
at port.South s = s.south
at port.North s = s.north
at port.Up s = s.up
at port.Down s = s.down
at port.HostPort s = s.host
at port.Here s = None

-- another value, or none, for a port
abbrev pub with_at : {X : Type 0} → Port → Option X → Ports X → Ports X
with_at port.East o s = record s { east = o }
with_at port.West o s = record s { west = o }
with_at port.South o s = record s { south = o }
with_at port.North o s = record s { north = o }
with_at port.Up o s = record s { up = o }
with_at port.Down o s = record s { down = o }
with_at port.HostPort o s = record s { host = o }
with_at port.Here o s = s

-- no port has a value
abbrev pub no_values : {X : Type 0} → Ports X
no_values = record { east = None; west = None; south = None; north = None; up = None; down = None; host = None }

abbrev pub all_empty : {X : Type 0} → Ports X → Bool
all_empty s =
    is_none s.east && is_none s.west && is_none s.south && is_none s.north && is_none s.up && is_none s.down && is_none s.host
