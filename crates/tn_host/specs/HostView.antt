-- What a host is.
use Rattle.std.specs.Prelude.{ℕ, List}
use Rattle.tn_base.specs.declared.message.Letter.{Letter}
use Rattle.tn_host.specs.declared.script.ScriptItem.{ScriptItem}
use Rattle.tn_node.specs.declared.node.Node.{Node}

-- what events change
pub record HostState : Type 0 where
  -- the items of the script that are still to come
  pub script : List ScriptItem
  -- how many messages the host sent
  pub sends : ℕ
  -- the letters that the host took, the first one first
  pub got : List Letter
  -- what the detector asks of the host. No packet waits there: each item that is a message is a packet as it leaves
  pub node : Node

-- a host in memory, and for how many letters in all it has room. No event changes the room, and no row looks at it
pub record HostView : Type 0 where
  pub now : HostState
  pub room : ℕ

-- a host in another state
abbrev pub with_now : HostView → HostState → HostView
with_now v s = record v { now = s }
