use Rattle.std.proofs.Common.{◌^◌, ◌<◌, length, arith}
use Rattle.tn_text.proofs.Digits.{digits_more, capped_more}
use Rattle.tn_text.proofs.numbers.in_radix.Goals as goal

pub loop-byte-preserved : goal.loop-byte-preserved
loop-byte-preserved c =
    let text = c.args.text.now in
    let i = c.loop-byte.byte-index in
    let radix = c.args.radix in
    let at : i < length text = omega arith in
    let value = rw c.from.ensures at c.in-Some.ensures.value in
    record {
      digits = digits_more radix text i at c.loop-byte.invariant.digits value.0;
      capped = rw (c.min-value.ensures, c.from-in-loop-byte.ensures, c.from-in-loop-byte-2.ensures)
          (capped_more radix text i c.loop-byte.value c.in-Some.digit (2 ^ 32) at (omega arith) c.loop-byte.invariant.capped value.1);
    }
