use Rattle.tn_run.proofs.Apart.{no_machines, no_texts}
use Rattle.tn_run.proofs.Drawing.{gens_served}
use Rattle.tn_run.proofs.laws.law_words.Goals as goal

pub returns-clause-machine : goal.returns-clause-machine
returns-clause-machine c = no_machines

pub returns-clause-text : goal.returns-clause-text
returns-clause-text c = no_texts

pub returns-clause-drawn : goal.returns-clause-drawn
returns-clause-drawn c = gens_served
