use Rattle.std.proofs.Common.{arith}
use Rattle.std.proofs.lemmas.Grind.{common_steps}
use Rattle.std.proofs.KnownBytes.{Consumes-trans}
use Rattle.tn_io.proofs.whole.read_all.Goals as goal

pub returns-then-n-limit-clause-stop : goal.returns-then-n-limit-clause-stop
returns-then-n-limit-clause-stop g c =
    (_, Consumes-trans _ _ _ _ _ c.loop-n.invariant.taken c.in-Got.ensures.bytes.2, grind (arith, common_steps))

pub returns-then-is_err-clause-stop : goal.returns-then-is_err-clause-stop
returns-then-is_err-clause-stop g c =
    (_, Consumes-trans _ _ _ _ _ c.loop-n.invariant.taken c.in-Got.ensures.bytes.2, grind (arith, common_steps))
