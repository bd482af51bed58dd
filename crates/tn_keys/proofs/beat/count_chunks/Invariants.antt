use Rattle.std.proofs.Common.{◌≡◌, ◌≤◌, ◌*◌, take}
use Rattle.tn_keys.specs.Beat.{chunks_of}
use Rattle.tn_keys.proofs.beat.count_chunks.Given as goal

abbrev pub invariant-loop-record : goal.invariant-loop-record
invariant-loop-record l = (l.used ≡ chunks_of (take l.record-index l.records)) × (l.used ≤ 2 * l.record-index)
