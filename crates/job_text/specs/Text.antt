-- What a text says: the header, the shape, settings, and sections.
use Rattle.std.specs.Prelude.{ℕ, ◌+◌, ◌==◌, Bool, true, false, List, [], ◌∷◌, length, slice_index, if◌then◌else◌, codes, bytes_eq, Option, Some, None}
use Rattle.std.specs.declared.result.Result.{Result}
use Rattle.std.specs.declared.result.Result.TheVariants.{Ok, Err}
use Rattle.tn_base.specs.declared.shape.ShapeNumbers.{ShapeNumbers}
use Rattle.tn_text.specs.declared.numbers.Numeral.{Numeral}
use Rattle.tn_text.specs.declared.numbers.Numeral.TheVariants.{Value, TooLarge, NoNumber}
use Rattle.tn_text.specs.declared.stop.Fault.{Fault}
use Rattle.tn_text.specs.Content.{content_of, is_plain}
use Rattle.tn_text.specs.Gives.{fault_on}
use Rattle.tn_text.specs.NumberLists.{numbers_in}
use Rattle.tn_text.specs.Reading.{built_from}
use Rattle.tn_text.specs.Words.{words_of, two_of}
use Rattle.job_text.specs.declared.job.Job.{Job}
use Rattle.job_text.specs.declared.job.Section.{Section}
use Rattle.job_text.specs.declared.job.JobKind.{JobKind}
use Rattle.job_text.specs.declared.job.JobKind.TheVariants.{Header, NoShape, BadLine, BadNumber, Twice, NoEnd}
use Rattle.job_text.specs.declared.keyword.Setting.{Setting}
use Rattle.job_text.specs.declared.keyword.Keyword.{Keyword}
use Rattle.job_text.specs.declared.keyword.Keyword.TheVariants.{Number}
use Rattle.job_text.specs.declared.named.Named.{Named}
use Rattle.job_text.specs.declared.draft.Place.{Place}
use Rattle.job_text.specs.declared.draft.Place.TheVariants.{AtHeader, AtShape, AtSettings, AtSections, Inside}
use Rattle.job_text.specs.declared.draft.Draft.{Draft}
use Rattle.job_text.specs.Arguments.{◌>>=◌, number_in}
use Rattle.job_text.specs.Keyword.{keyword_of, setting_in, with_setting}
use Rattle.job_text.specs.Named.{nothing_named, section_named}
use Rattle.job_text.specs.Sections.{with_section}
use Rattle.job_text.specs.SectionLines.{section_begun, is_whole, with_line}

-- the numbers that a text need not give
abbrev pub default_numbers : ShapeNumbers
default_numbers = record { version = 1; boards_x = 0; boards_y = 0; tiles_x = 0; tiles_y = 0; cores = 0; threads = 0; slots = 64; link = 4; mem = 4096; fuel = 1000000; turn = 16 }

-- one line's number in the place of each number
abbrev pub all_at : ℕ → ShapeNumbers
all_at n = record { version = n; boards_x = n; boards_y = n; tiles_x = n; tiles_y = n; cores = n; threads = n; slots = n; link = n; mem = n; fuel = n; turn = n }

abbrev pub empty_job : Job
empty_job = record { version = 1; numbers = default_numbers; number_lines = all_at 0; codes = []; asms = []; fills = []; tables = []; script = []; graph = None }

-- nothing is read
abbrev pub start : Draft
start = record { place = AtHeader; job = empty_job; named = nothing_named }

-- The header.

abbrev pub version_number : List ℕ → Option ℕ
version_number w = if bytes_eq w (codes "1") then Some 1 else (if bytes_eq w (codes "2") then Some 2 else None)

abbrev pub version_by : Option (List ℕ × List ℕ) → Option ℕ
version_by None = None
version_by (Some words) = if bytes_eq words.0 (codes "tinsel") then version_number words.1 else None

abbrev pub headed : Draft → ℕ → Option ℕ → Result Draft JobKind
headed d n None = Err Header
headed d n (Some version) = Ok (record d { place = AtShape (n + 1); job = record d.job { version = version; numbers = record d.job.numbers { version = version } } })

abbrev pub header_line : Draft → ℕ → List (List ℕ) → Result Draft JobKind
header_line d n [] = Ok d
header_line d n (w ∷ ws) = headed d n (version_by (two_of (w ∷ ws)))

-- The shape.

abbrev pub shape_with : ShapeNumbers → List ℕ → ShapeNumbers
shape_with numbers ns = record numbers { boards_x = slice_index ns 0; boards_y = slice_index ns 1; tiles_x = slice_index ns 2; tiles_y = slice_index ns 3; cores = slice_index ns 4; threads = slice_index ns 5 }

abbrev pub shaped : Draft → ℕ → Numeral (List ℕ) → Result Draft JobKind
shaped d n (Value ns) = Ok (record d { place = AtSettings; job = record d.job { numbers = shape_with d.job.numbers ns; number_lines = all_at n } })
shaped d n TooLarge = Err BadNumber
shaped d n NoNumber = Err NoShape

abbrev pub shape_line : Draft → ℕ → List (List ℕ) → Result Draft JobKind
shape_line d n [] = Ok d
shape_line d n (w ∷ ws) = if bytes_eq w (codes "shape") then shaped d n (numbers_in 6 ws) else Err NoShape

-- Settings.

abbrev pub set_once : Draft → ℕ → Setting → ℕ → Result Draft JobKind
set_once d n setting value =
    if setting_in setting d.job.number_lines == d.job.number_lines.version
    then Ok (record d { job = record d.job { numbers = with_setting setting value d.job.numbers; number_lines = with_setting setting n d.job.number_lines } })
    else Err Twice

-- settings come after the shape and before every section
abbrev pub takes_settings : Place → Bool
takes_settings AtSettings = true
takes_settings _ = false

abbrev pub setting_line : Draft → ℕ → Setting → List (List ℕ) → Result Draft JobKind
setting_line d n setting words = if takes_settings d.place then number_in words >>= set_once d n setting else Err BadLine

-- Sections.

-- a section is read to its end
abbrev pub closed : Job → Named → Section → Draft
closed job named s = record { place = AtSections; job = with_section job s; named = named }

-- a section is read so far
abbrev pub going_on : Job → Named → Section → Draft
going_on job named s = record { place = Inside s; job = job; named = named }

abbrev pub opened : Job → Section → Named → Draft
opened job s named = if is_whole s then closed job named s else going_on job named s

abbrev pub opened_by : Job → Section → Option Named → Result Draft JobKind
opened_by job s None = Err Twice
opened_by job s (Some named) = Ok (opened job s named)

-- a section begins, unless a section before it has the same subject
abbrev pub begun : Job → Named → Section → Result Draft JobKind
begun job named s = opened_by job s (section_named named s)

abbrev pub inside_line : Job → Named → Section → ℕ → List ℕ → Result Draft JobKind
inside_line job named s n content =
    if bytes_eq content (codes "end") then Ok (closed job named s)
    else with_line n content s >>= λ t. Ok (going_on job named t)

-- a line after the shape and outside sections

abbrev pub keyword_line : Draft → ℕ → List ℕ → Option Keyword → List (List ℕ) → Result Draft JobKind
keyword_line d n content None words = Err BadLine
keyword_line d n content (Some (Number setting)) words = setting_line d n setting words
keyword_line d n content (Some keyword) words = section_begun n content keyword words >>= begun d.job d.named

abbrev pub entry_line : Draft → ℕ → List ℕ → List (List ℕ) → Result Draft JobKind
entry_line d n content [] = Ok d
entry_line d n content (w ∷ ws) = keyword_line d n content (keyword_of w) ws

-- Any line.

-- a line without its comment and outer spaces, unless one of the bytes before the comment is not allowed
abbrev pub bare : List ℕ → Option (List ℕ)
bare line = if is_plain line then Some (content_of line) else None

-- the kind of fault of a byte that is not allowed
abbrev pub foreign_byte : Place → JobKind
foreign_byte AtHeader = Header
foreign_byte (AtShape line) = NoShape
foreign_byte _ = BadLine

abbrev pub content_line : Place → Draft → ℕ → List ℕ → Result Draft JobKind
content_line AtHeader d n content = header_line d n (words_of content)
content_line (AtShape line) d n content = shape_line d n (words_of content)
content_line AtSettings d n content = entry_line d n content (words_of content)
content_line AtSections d n content = entry_line d n content (words_of content)
content_line (Inside s) d n content = inside_line d.job d.named s n content

-- what a line makes of what was read before, or the first kind that applies to it
abbrev pub step : ℕ → Option (List ℕ) → Draft → Result Draft JobKind
step n None d = Err (foreign_byte d.place)
step n (Some content) d = content_line d.place d n content

-- Whole texts.

abbrev pub said : List ℕ → Result (Option (Option (List ℕ))) JobKind
said line = Ok (Some (bare line))

-- what lines make of what was read before, the first of them having this number
abbrev pub drafted : ℕ → List (List ℕ) → Draft → Result Draft (Fault JobKind)
drafted number lines d = built_from said step number lines d

-- at the text's end, whose last line has this number
abbrev pub ended : Place → Draft → ℕ → Result Job (Fault JobKind)
ended AtHeader d lines = Err (fault_on 1 Header)
ended (AtShape line) d lines = Err (fault_on line NoShape)
ended AtSettings d lines = Ok d.job
ended AtSections d lines = Ok d.job
ended (Inside s) d lines = Err (fault_on lines NoEnd)

abbrev pub job_by : ℕ → Result Draft (Fault JobKind) → Result Job (Fault JobKind)
job_by lines (Ok d) = ended d.place d lines
job_by lines (Err fault) = Err fault

-- the job that the lines say, or the first fault
abbrev pub job_of : List (List ℕ) → Result Job (Fault JobKind)
job_of lines = job_by (length lines) (drafted 1 lines start)
