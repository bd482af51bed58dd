use Rattle.std.proofs.Common.{map, refl}
use Rattle.job_faults.specs.Assembly.{as_code}
use Rattle.job_faults.specs.Faults.{code_fault}
use Rattle.job_faults.proofs.Faults.{soonest_append, soonest_read}
use Rattle.job_faults.proofs.sections.section_fault.Goals as goal

pub returns : goal.returns
returns c =
    let joined = soonest_append (code_fault c.args.job.now.numbers) c.args.job.now.codes (map as_code c.args.job.now.asms) in
    let beats = soonest_read c.args.job.now.version c.args.job.now.tables in
    rw (
      joined,
      c.sooner-4.ensures,
      c.sooner-3.ensures,
      c.sooner-named.ensures,
      c.sooner-2.ensures,
      c.sooner.ensures,
      c.first_code_fault-codes.ensures,
      c.first_code_fault-asms.ensures,
      c.first_fill_fault-fills.ensures,
      c.first_place_fault-boards.ensures,
      c.first_beat_fault-beats.ensures,
      c.first_send_fault-sends.ensures,
      c.as_slice.ensures,
      c.as_slice-2.ensures,
      c.as_slice-3.ensures,
      c.as_slice-4.ensures,
      c.requires.numbers,
      c.requires.asms,
      c.requires.tables,
      beats,
    ) refl
