use Rattle.std.proofs.Common.{◌==◌, ◌∙◌, ap, sym, w64}
use Rattle.std.proofs.lemmas.Bool.{eq-eqb}
use Rattle.std.proofs.lemmas.Nat.Bits.{bit_at_set_same, bit_at_set_other, bit_at_clear_same, bit_at_clear_other}
use Rattle.tn_tile.proofs.bits.write_bit.Goals as goal

pub returns-then-one : goal.returns-then-one
returns-then-one c = record {
  written = eq-eqb _ 1 (bit_at_set_same w64 c.args.word c.args.at c.requires) ∙ sym c.if-one.true;
  others = λ i _ ne. bit_at_set_other w64 c.args.word c.args.at c.requires i ne;
}

pub returns-else-one : goal.returns-else-one
returns-else-one c = record {
  written = ap (λ b. b == 1) (bit_at_clear_same w64 c.args.word c.args.at c.requires) ∙ sym c.if-one.false;
  others = λ i h ne. bit_at_clear_other w64 c.args.word c.args.at c.requires i h ne;
}
