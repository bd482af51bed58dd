use Rattle.tn_keys.proofs.Accepting.{beat_narrow}
use Rattle.tn_keys.proofs.laws.law_width.Goals as goal

pub returns : goal.returns
returns c = λ b i bytes h l. beat_narrow c.args.shape.now c.args.tables.now b i bytes c.requires h l
