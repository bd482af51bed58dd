use Rattle.std.proofs.Common.{◌∙◌, ap, take}
use Rattle.std.proofs.lemmas.List.{take-replicate}
use Rattle.tn_pages.proofs.page.Page.make.Goals as goal

pub returns-clause-page : goal.returns-clause-page
returns-clause-page c = rw (c.truncate.ensures.items, ← c.is_made.ensures, c.if-is_made.false) (ap (take c.args.len) (c.page.view_is ∙ c.take-page.ensures.page) ∙ take-replicate c.args.len 256 0 c.requires.len)
