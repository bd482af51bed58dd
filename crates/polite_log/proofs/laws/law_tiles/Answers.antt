use Rattle.polite_log.proofs.HistoryDeeds.{deeds_are_of_tiles}
use Rattle.polite_log.proofs.laws.law_tiles.Goals as goal

pub returns : goal.returns
returns c = deeds_are_of_tiles
