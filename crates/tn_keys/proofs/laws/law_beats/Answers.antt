use Rattle.tn_keys.proofs.BeatLaw.{beat_law}
use Rattle.tn_keys.proofs.laws.law_beats.Goals as goal

pub returns : goal.returns
returns c = beat_law c.args.version
