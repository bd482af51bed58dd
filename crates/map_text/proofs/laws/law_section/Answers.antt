use Rattle.std.proofs.Common.{◌++◌, ap}
use Rattle.map_text.specs.Text.{end_line, table_line}
use Rattle.map_text.proofs.Sections.{same_beats}
use Rattle.map_text.proofs.laws.law_section.Goals as goal

pub returns : goal.returns
returns c =
    let section = c.args._section.now in
    ap (λ lines. table_line section.x section.y ++ lines ++ end_line) (same_beats section.beats c.args._beats.now c.requires)
