use Rattle.tn_tile.proofs.Asked.{next_woken}
use Rattle.tn_tile.proofs.advance.resume_next.Goals as goal

pub returns : goal.returns
returns g c = next_woken c.args._code.now (g.V.View.sight c.args.sight.now) c.args.thread.now c.resume_asking-nothing.new.self c.resume_asking-nothing.result c.requires.suspended c.resume_asking-nothing.ensures.step
