-- What changes of a node leave.
use Rattle.std.proofs.Common.{◌≡◌, ◌^◌, Bool, true, false, cond, refl, Option, None, Some, is_some, pos, ◌-ℤ◌}
use Rattle.std.specs.Prelude.{int_lt}
use Rattle.tn_base.specs.declared.message.Packet.{Packet}
use Rattle.tn_base.specs.declared.port.Port.{Port}
use Rattle.tn_base.specs.declared.port.Port.TheVariants as port
use Rattle.tn_node.specs.declared.node.Node.{Node}
use Rattle.tn_node.specs.declared.ports.Ports.{Ports}
use Rattle.tn_node.specs.NodeRows.{depart_row, departed, departed_with}
use Rattle.tn_node.specs.PortRows.{at, with_at}

-- the last of two values for one port counts
pub set_twice : {X : Type 0} (way : Port) (o p : Option X) (s : Ports X) → with_at way o (with_at way p s) ≡ with_at way o s
set_twice port.East o p s = refl
set_twice port.West o p s = refl
set_twice port.South o p s = refl
set_twice port.North o p s = refl
set_twice port.Up o p s = refl
set_twice port.Down o p s = refl
set_twice port.HostPort o p s = refl
set_twice port.Here o p s = refl

-- a packet waits for this way out of a node that is not held, and can be counted
pub record Departs (way : Port) (n : Node) : Type 0 where
  pub packet : Packet
  pub waits : at way n.out ≡ Some packet
  pub free : n.held ≡ false
  pub low : int_lt n.counter (pos (2 ^ 63) -ℤ pos 1) ≡ true
  pub row : depart_row way n ≡ Some (departed way n)

departs_if : (way : Port) (n : Node) (held low : Bool) (o : Option Packet) → n.held ≡ held → at way n.out ≡ o → int_lt n.counter (pos (2 ^ 63) -ℤ pos 1) ≡ low → is_some (departed_with (cond held None o) way n) ≡ true → Departs way n
departs_if way n true low o e f g h = cc h
departs_if way n false low None e f g h = cc h
departs_if way n false false (Some p) e f g h = cc (rw g at h)
departs_if way n false true (Some p) e f g h = record { packet = p; waits = f; free = e; low = g; row = rw (e, f, g) refl }

pub departs : (way : Port) (n : Node) → is_some (depart_row way n) ≡ true → Departs way n
departs way n h = departs_if way n n.held (int_lt n.counter (pos (2 ^ 63) -ℤ pos 1)) (at way n.out) refl refl refl h
