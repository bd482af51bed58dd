use Rattle.std.proofs.Common.{◌≡◌, ◌∙◌, sym, subst}
use Rattle.tn_thread.specs.Command.{commanded}
use Rattle.tn_thread.specs.Fits.{StepFits}
use Rattle.tn_thread.specs.Step.{Stepped}
use Rattle.tn_thread.proofs.Commands.{command_fits}
use Rattle.tn_thread.proofs.thread.Thread.command.Goals as goal

pub returns-clause-fits : goal.returns-clause-fits
returns-clause-fits g c =
    let seen = g.V.View.sight c.args.view.now in
    let t = c.args.self.now in
    let made : Stepped = record { thread = c.obey-ask.new.self; op = c.op_of.result } in
    let is : made ≡ commanded c.args.c seen t = (λ i. let r : Stepped = record { thread = c.obey-ask.new.self; op = c.op_of.ensures i } in r) ∙ c.obey-ask.ensures in
    subst (StepFits seen t) (sym is) (command_fits c.args.c seen t)
