use Rattle.std.proofs.Common.{◌≡◌, [], sym, ◌∙◌, arith}
use Rattle.std.proofs.lemmas.Grind.{common_steps}
use Rattle.tn_text.proofs.FirstWord.{starts_word, no_word}
use Rattle.tn_text.proofs.words.first_word.Goals as goal

pub returns-then-is_empty : goal.returns-then-is_empty
returns-then-is_empty c =
    let none : c.trimmed_front-start.result.now ≡ [] = grind (arith, common_steps) in
    no_word c.args.line.now (sym c.trimmed_front-start.ensures ∙ none)

pub returns : goal.returns
returns c = starts_word _ _ _ c.trimmed_front-start.ensures (grind (arith, common_steps)) c.word_end-end.ensures.place c.word_end-end.ensures.within
