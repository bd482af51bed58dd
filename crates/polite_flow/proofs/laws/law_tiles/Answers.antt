use Rattle.polite_flow.proofs.Passing.{gives_ways, keeps_ways}
use Rattle.polite_flow.proofs.laws.law_tiles.Goals as goal

pub returns-clause-keep : goal.returns-clause-keep
returns-clause-keep c = keeps_ways

pub returns-clause-give : goal.returns-clause-give
returns-clause-give c = gives_ways
