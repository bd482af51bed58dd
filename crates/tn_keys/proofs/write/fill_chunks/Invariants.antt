use Rattle.std.proofs.Common.{◌≡◌, ◌<◌, ◌^◌, ℕ, slice_index, take}
use Rattle.tn_keys.specs.Beat.{chunks_of}
use Rattle.tn_keys.specs.Written.{beat_chunks}
use Rattle.tn_keys.proofs.write.fill_chunks.Given as goal

abbrev pub invariant-loop-record : goal.invariant-loop-record
invariant-loop-record l = record {
  used_is : l.used ≡ chunks_of (take l.record-index l.records);
  so_far : l.chunks ≡ beat_chunks (take l.record-index l.records);
  small : (i : ℕ) → slice_index l.chunks i < 2 ^ 48;
}
