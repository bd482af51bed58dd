-- The numbers of the lines of sections.
use Rattle.std.specs.Prelude.{ℕ, List, ◌+◌, ◌<◌, ◌^◌, length, IfSome}
use Rattle.std.specs.List.{AllByRecursion}
use Rattle.tn_text.specs.Lines.{lines_of}
use Rattle.job_text.specs.declared.job.Job.{Job}
use Rattle.job_text.specs.declared.job.TextSection.{TextSection}

-- each line of a text has a number, the first one this, and so has the line after them
abbrev pub HaveNumbers : ℕ → List ℕ → Type 0
HaveNumbers first text = first + length (lines_of text) < 2 ^ 32

-- the text of a section of assembly begins on the line after its head
pub record IsNumbered (s : TextSection) : Type 0 where
  pub fits : HaveNumbers (s.line + 1) s.text

-- each text of a job has numbers. The text of a graph begins with its head
pub record AreNumbered (job : Job) : Type 0 where
  pub asms : AllByRecursion IsNumbered job.asms
  pub graph : IfSome job.graph (λ s. HaveNumbers s.line s.text)
