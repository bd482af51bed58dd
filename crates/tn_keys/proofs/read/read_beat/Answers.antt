use Rattle.std.proofs.Common.{sym, true, false}
use Rattle.tn_keys.proofs.Reading.{beat_by_spare}
use Rattle.tn_keys.proofs.read.read_beat.Goals as goal

pub returns-then-not-all_zero : goal.returns-then-not-all_zero
returns-then-not-all_zero c =
    sym (beat_by_spare c.args.version c.args.b.now c.in_ok-beat.beat false c.read_u16-used.result c.chunks_in-chunks.result c.read_u16-used.ensures c.chunks_in-chunks.ensures c.if-used-gt-MOST.false (sym c.in_ok-beat.ensures) (sym c.if-not-all_zero.ensures))

pub returns : goal.returns
returns c =
    sym (beat_by_spare c.args.version c.args.b.now c.in_ok-beat.beat true c.read_u16-used.result c.chunks_in-chunks.result c.read_u16-used.ensures c.chunks_in-chunks.ensures c.if-used-gt-MOST.false (sym c.in_ok-beat.ensures) (sym c.if-not-all_zero.ensures))
