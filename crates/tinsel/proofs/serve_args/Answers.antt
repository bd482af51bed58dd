use Rattle.std.proofs.Common.{◌∙◌}
use Rattle.tinsel.proofs.serve_args.Goals as goal

-- what the call answers to the words, which are the arguments after the first
pub returns : goal.returns
returns g c = (c.serve.new.kept, rw (c.as_slice.ensures.value ∙ c.in-Ok.ensures) at c.serve.ensures.cause)
