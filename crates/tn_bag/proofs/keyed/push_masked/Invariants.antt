use Rattle.std.proofs.Common.{◌≡◌, ◌++◌, map}
use Rattle.tn_base.specs.Bytes.{fronted}
use Rattle.tn_keys.specs.Copies.{masked_copies}
use Rattle.tn_letters.specs.Letters.{letter_for}
use Rattle.tn_bag.proofs.Copying.{masked_at}
use Rattle.tn_bag.proofs.Loops.{from_on}
use Rattle.tn_bag.proofs.keyed.push_masked.Given as goal

abbrev pub invariant-loop-bit : goal.invariant-loop-bit
invariant-loop-bit l =
    l.all.items ++ from_on (masked_at l.packet.origin l.packet.number l.tile l.mask (fronted l.front l.packet.bytes)) l.bit 64
    ≡ l.initial.all.items ++ map (letter_for l.packet.origin l.packet.number) (masked_copies l.tile l.mask (fronted l.front l.packet.bytes))
