use Rattle.tn_keys.proofs.Masks.{masked_is}
use Rattle.tn_keys.proofs.laws.law_masks.Goals as goal

pub returns : goal.returns
returns c =
    λ tile bytes h. masked_is c.args.shape.now tile c.args.mask bytes h (c.law_names_threads.ensures.0 c.requires) c.numbers-numbers.ensures.limits.threads.1 c.numbers-numbers.ensures.limits.cores.1
