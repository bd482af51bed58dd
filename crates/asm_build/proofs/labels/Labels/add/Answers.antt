use Rattle.std.proofs.Common.{◌≡◌, ℕ, List, None, ap, ◌∙◌, arith}
use Rattle.std.specs.Str.{bytes_eq}
use Rattle.std.proofs.lemmas.Grind.{common_steps}
use Rattle.indexmap.specs.IndexMap.{insert_entry}
use Rattle.asm_build.specs.Labels.{address_of}
use Rattle.asm_build.proofs.LabelLemmas.{added}
use Rattle.asm_build.proofs.labels.Labels.add.Goals as goal

pub returns-in_ok-insert : goal.returns-in_ok-insert
returns-in_ok-insert c =
    let none : address_of c.args.name c.args.self.now ≡ None = grind (arith, common_steps) in
    let e = c.in_ok-insert.ensures.entries in
    let same : c.self.inside.map.entries ≡ c.args.self.now = cc in
    e ∙ ap (λ (labels : List (List ℕ × ℕ)). insert_entry bytes_eq labels c.args.name c.args.address) same ∙ added c.args.name c.args.address c.args.self.now none
