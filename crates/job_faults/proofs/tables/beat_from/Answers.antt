use Rattle.job_faults.proofs.Boards.{beat_read}
use Rattle.job_faults.proofs.tables.beat_from.Goals as goal

pub returns : goal.returns
returns c = beat_read c.read_beat.result c.args.version c.args.bytes.now c.read_beat.ensures
