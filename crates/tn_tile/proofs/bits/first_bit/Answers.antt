use Rattle.tn_tile.proofs.Marked.{first_is, no_bit}
use Rattle.tn_tile.proofs.bits.first_bit.Goals as goal

pub returns-then-rest-eq0 : goal.returns-then-rest-eq0
returns-then-rest-eq0 c = no_bit c.args.word c.args.from c.if-rest-eq0.true

pub returns : goal.returns
returns c = first_is c.args.word c.args.from c.lowest_bit.result c.ranges.word.fits c.lowest_bit.ensures.one c.lowest_bit.ensures.lowest
