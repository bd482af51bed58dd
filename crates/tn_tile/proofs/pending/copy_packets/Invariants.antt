use Rattle.std.proofs.Common.{◌≡◌, take}
use Rattle.tn_tile.proofs.pending.copy_packets.Given as goal

abbrev pub invariant-loop-packet : goal.invariant-loop-packet
invariant-loop-packet l = l.all.items ≡ take l.packet-index l.packets.items
