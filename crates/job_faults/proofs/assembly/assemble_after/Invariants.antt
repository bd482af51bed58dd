use Rattle.std.proofs.Common.{◌≡◌, ◌++◌, drop, map}
use Rattle.std.specs.List.{AllByRecursion}
use Rattle.job_text.specs.Numbered.{IsNumbered}
use Rattle.job_faults.specs.Assembly.{as_code, asms_fault}
use Rattle.job_faults.proofs.assembly.assemble_after.Given as goal

abbrev pub invariant-loop-section : goal.invariant-loop-section
invariant-loop-section l = record {
  faults : asms_fault (drop l.section-index l.sections) ≡ asms_fault l.sections;
  codes : l.codes ++ map as_code (drop l.section-index l.sections) ≡ l.fn.codes ++ map as_code l.sections;
  numbered : AllByRecursion IsNumbered (drop l.section-index l.sections);
}
