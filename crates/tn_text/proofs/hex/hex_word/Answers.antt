use Rattle.std.proofs.Common.{sym, ◌∙◌, ⊎_elim, arith}
use Rattle.tn_text.proofs.Digits.{hex_word_of-too_large, hex_word_of-no_number}
use Rattle.tn_text.proofs.hex.hex_word.Goals as goal

pub returns-in-TooLarge : goal.returns-in-TooLarge
returns-in-TooLarge c =
    ⊎_elim (λ e. hex_word_of-too_large c.args.text.now (omega arith) (sym e ∙ c.in_radix.ensures))
    (λ e. hex_word_of-no_number c.args.text.now (omega arith) (sym e ∙ c.in_radix.ensures)) c.in-TooLarge.is
