use Rattle.std.proofs.Common.{ap, ◌∙◌}
use Rattle.tn_host.specs.Script.{items_behind}
use Rattle.tn_host.proofs.Rest.{passed}
use Rattle.tn_host.proofs.script.Script.pass.Goals as goal

pub returns : goal.returns
returns c = passed c.self.inside.items.items c.self.inside.passed ∙ ap items_behind c.self.view_is
