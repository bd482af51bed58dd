use Rattle.std.proofs.Common.{◌≡◌, ◌++◌, ◌%◌, ◌==◌}
use Rattle.std.specs.Int.{bit_at}
use Rattle.tn_base.specs.Address.{in_tile, tile_threads}
use Rattle.tn_keys.specs.Copies.{only_if}
use Rattle.tn_letters.specs.Letters.{letter, masked_letters}
use Rattle.tn_bag.proofs.Loops.{from_on}
use Rattle.tn_bag.proofs.letters.masked.Given as goal

abbrev pub invariant-loop-place : goal.invariant-loop-place
invariant-loop-place l =
    l.all.items ++ from_on (λ k. only_if (bit_at l.mask (in_tile l.shape l.tile.0 k % 64) == 1) (letter l.packet.origin l.packet.number (in_tile l.shape l.tile.0 k) l.packet.bytes)) l.place (tile_threads l.shape)
    ≡ masked_letters l.shape l.packet.origin l.packet.number l.tile.0 l.mask l.packet.bytes
