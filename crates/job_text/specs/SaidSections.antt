-- The lines that say the sections of a job.
use Rattle.std.specs.Prelude.{◌≡◌, ℕ, ◌+◌, Bool, true, false, List, [], ◌∷◌, ◌++◌, length, codes, bytes_eq, Option, Some, None}
use Rattle.std.specs.declared.result.Result.{Result}
use Rattle.std.specs.declared.result.Result.TheVariants.{Ok, Err}
use Rattle.std.specs.List.{AllByRecursion}
use Rattle.tn_text.specs.Content.{content_of}
use Rattle.tn_text.specs.Words.{words_of}
use Rattle.job_text.specs.declared.job.Job.{Job}
use Rattle.job_text.specs.declared.job.JobKind.{JobKind}
use Rattle.job_text.specs.declared.job.JobKind.TheVariants.{BadLine}
use Rattle.job_text.specs.declared.job.Section.{Section}
use Rattle.job_text.specs.declared.job.Section.TheVariants.{Code, Asm, Fill, Table, Script, Graph}
use Rattle.job_text.specs.declared.keyword.Keyword.{Keyword}
use Rattle.job_text.specs.Arguments.{◌>>=◌}
use Rattle.job_text.specs.Keyword.{keyword_of}
use Rattle.job_text.specs.SectionLines.{is_whole, section_begun, with_line}
use Rattle.job_text.specs.Sections.{job_sections}
use Rattle.job_text.specs.Text.{job_of}

-- the number of the line that a section begins on
abbrev pub line_in : Section → ℕ
line_in (Code s) = s.line
line_in (Asm s) = s.line
line_in (Fill f) = f.line
line_in (Table t) = t.line
line_in (Script l) = l.line
line_in (Graph s) = s.line

abbrev pub begun_by : ℕ → List ℕ → Option Keyword → List (List ℕ) → Result Section JobKind
begun_by n content None words = Err BadLine
begun_by n content (Some key) words = section_begun n content key words

-- the section that begins with these words, on a line of this number and content
abbrev pub begun_with : ℕ → List ℕ → List (List ℕ) → Result Section JobKind
begun_with n content [] = Err BadLine
begun_with n content (w ∷ ws) = begun_by n content (keyword_of w) ws

-- the section that begins on a line of this number
abbrev pub begun_on : ℕ → List ℕ → Result Section JobKind
begun_on n line = begun_with n (content_of line) (words_of (content_of line))

-- a section with lines inside it, the first of them having this number
abbrev pub with_inside : ℕ → List (List ℕ) → Section → Result Section JobKind
with_inside n [] s = Ok s
with_inside n (l ∷ ls) s = with_line n (content_of l) s >>= with_inside (n + 1) ls

abbrev pub is_end : List ℕ → Bool
is_end line = bytes_eq (content_of line) (codes "end")

-- a section of one line has no lines inside, and any other section goes up to the first `end`
abbrev pub EndsAt : Bool → List (List ℕ) → List (List ℕ) → Type 0
EndsAt true inside after = inside ≡ []
EndsAt false inside [] = ⊥
EndsAt false inside (l ∷ ls) = (is_end l ≡ true) × AllByRecursion (λ k. is_end k ≡ false) inside

-- the line of the section's number is its head, and the section is what its head and the lines inside say
pub record IsSaid (lines : List (List ℕ)) (s : Section) : Type 0 where
  pub before : List (List ℕ)
  pub head : List ℕ
  pub inside : List (List ℕ)
  pub after : List (List ℕ)
  pub begun : Section
  pub lines_are : lines ≡ before ++ head ∷ (inside ++ after)
  pub number : line_in s ≡ length before + 1
  pub begins : begun_on (line_in s) head ≡ Ok begun
  pub grows : with_inside (line_in s + 1) inside begun ≡ Ok s
  pub ends : EndsAt (is_whole begun) inside after

-- each section of a job is said by the lines of its text
abbrev pub SectionsAreSaid : Type 0
SectionsAreSaid = (lines : List (List ℕ)) (job : Job) → job_of lines ≡ Ok job → AllByRecursion (IsSaid lines) (job_sections job)
