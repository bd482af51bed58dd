use Rattle.tn_run.proofs.Plainly.{if_ok_then, made_answered}
use Rattle.tn_run.specs.Texts.{made_of}
use Rattle.tn_run.proofs.texts.answer_made.Goals as goal

pub returns-clause-made : goal.returns-clause-made
returns-clause-made c =
    if_ok_then c.answer_of.result _ _
    (λ a h. made_answered c.push_made-made.result c.push_made-made.new.text.items (made_of c.args.making c.args.input.now) a.status a.text.items (rw c.new-text.ensures.items at c.push_made-made.ensures) h)
    c.answer_of.ensures.made
