-- The items of a script that are still to come.
use Rattle.std.specs.Prelude.{ℕ, Bool, true, false, List, [], ◌∷◌, Option, Some, None}
use Rattle.tn_base.specs.declared.message.Dest.TheVariants as dest
use Rattle.tn_base.specs.declared.message.Packet.{Packet}
use Rattle.tn_host.specs.declared.script.ScriptItem.{ScriptItem}
use Rattle.tn_host.specs.declared.script.ScriptItem.TheVariants as item

-- the next item, and those behind it
abbrev pub first_item : List ScriptItem → Option ScriptItem
first_item [] = None
first_item (x ∷ xs) = Some x

abbrev pub items_behind : List ScriptItem → List ScriptItem
items_behind [] = []
items_behind (x ∷ xs) = xs

-- the address of the host
abbrev pub host_address : ℕ
host_address = 0x40000000

-- the packet of an item that is a message, which has this number among the host's packets
abbrev pub packet_of : ℕ → Option ScriptItem → Option Packet
packet_of number None = None
packet_of number (Some (item.Send t bytes)) = Some (record { origin = host_address; number = number; dest = dest.Thread t; bytes = bytes })
packet_of number (Some item.AwaitIdle) = None

-- an item is no message: the host waits, or its script is at its end
abbrev pub is_no_send : Option ScriptItem → Bool
is_no_send None = true
is_no_send (Some (item.Send t bytes)) = false
is_no_send (Some item.AwaitIdle) = true

-- the items behind a wait for the machine's rest, if that wait comes next
abbrev pub past_await : List ScriptItem → List ScriptItem
past_await [] = []
past_await (item.Send t bytes ∷ xs) = item.Send t bytes ∷ xs
past_await (item.AwaitIdle ∷ xs) = xs
