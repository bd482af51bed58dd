use Rattle.std.proofs.Common.{◌∙◌, map, string_bytes, subst, sym}
use Rattle.clap.specs.Words.{found_of}
use Rattle.tn_words.specs.Forms.{run_of}
use Rattle.tn_words.specs.Gives.{Gives}
use Rattle.tn_words.specs.Parsers.{run_app}
use Rattle.tn_words.proofs.Accepted.{run_takes}
use Rattle.tn_words.proofs.Told.{refused, run_said}
use Rattle.tn_words.proofs.read.read_run.Goals as goal

pub returns-in-Ok : goal.returns-in-Ok
returns-in-Ok c =
    let said = run_said (found_of c.in-Ok.matches) (map string_bytes c.args.words.now) _ c.in_ok-parser.ensures c.in-Ok.ensures.rows c.in-Ok.ensures.clean c.in-Ok.ensures.taken in
    subst (Gives c.formed.result) (c.run_given.ensures ∙ sym said) c.formed.ensures

pub returns-in-Err : goal.returns-in-Err
returns-in-Err c =
    let words = map string_bytes c.args.words.now in
    refused c.in-Err.stop words (run_of words) _ run_app c.in_ok-parser.ensures c.in-Err.ensures.usage (run_takes words)
