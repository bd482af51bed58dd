use Rattle.std.proofs.Common.{◌≡◌, ◌+◌, ◌*◌, ◌≤◌, ◌<◌, [], ◌∷◌, ◌++◌, length, take, set, arith}
use Rattle.std.proofs.lemmas.Grind.{common_steps}
use Rattle.tn_text.proofs.Digits.{byte_read}
use Rattle.tn_text.proofs.hex.read_into.Goals as goal

pub loop-k-preserved : goal.loop-k-preserved
loop-k-preserved c =
    let k = c.loop-k.k in
    let bytes = c.loop-k.bytes in
    let at : k < length bytes = omega arith in
    let taken : take (k + 1) (set bytes k c.in-Some.read) ≡ take k bytes ++ c.in-Some.read ∷ [] = grind (arith, common_steps) in
    let within : 2 * k + 2 ≤ length c.args.text.now = omega arith in
    rw taken (byte_read (take k bytes) c.args.text.now k c.in-Some.read _ within c.in-Some.ensures c.loop-k.invariant)
