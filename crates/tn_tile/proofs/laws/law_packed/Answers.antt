use Rattle.tn_tile.proofs.Packed.{no_more_bits, receiver_bit}
use Rattle.tn_tile.proofs.laws.law_packed.Goals as goal

pub returns-clause-each : goal.returns-clause-each
returns-clause-each c = λ a h. receiver_bit c.args.shape.now c.args.mask a c.numbers-numbers.ensures.limits c.requires h

pub returns-clause-no_more : goal.returns-clause-no_more
returns-clause-no_more c = λ k h. no_more_bits c.args.shape.now c.args.mask k c.numbers-numbers.ensures.limits c.requires h
