use Rattle.std.proofs.Common.{append_assoc}
use Rattle.tn_run.proofs.report.push_bad_key.Goals as goal

pub returns : goal.returns
returns c = rw (c.in_ok-extend_from_slice-2.ensures.items, c.in_ok-push_hex_word.ensures.appended, c.in_ok-extend_from_slice.ensures.items) (simp append_assoc)
