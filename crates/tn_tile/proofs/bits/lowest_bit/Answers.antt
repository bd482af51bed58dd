use Rattle.std.proofs.Common.{w64}
use Rattle.std.proofs.lemmas.Nat.Bits.{bit_at-trailing_zeros}
use Rattle.tn_tile.proofs.bits.lowest_bit.Goals as goal

pub returns : goal.returns
returns c =
    let b = bit_at-trailing_zeros w64 c.args.word c.requires c.ranges.word.fits in
    record { within = b.0; one = b.1; lowest = b.2 }
