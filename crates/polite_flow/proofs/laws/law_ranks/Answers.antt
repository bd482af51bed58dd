use Rattle.polite_flow.proofs.Keys.{good}
use Rattle.polite_flow.proofs.Steps.{fall, free, keeps}
use Rattle.polite_flow.proofs.laws.law_ranks.Goals as goal

pub returns-clause-keep : goal.returns-clause-keep
returns-clause-keep c = keeps

pub returns-clause-fall : goal.returns-clause-fall
returns-clause-fall c = fall

pub returns-clause-free : goal.returns-clause-free
returns-clause-free c = free

pub returns-clause-keys : goal.returns-clause-keys
returns-clause-keys c = good
