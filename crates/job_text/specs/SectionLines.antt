-- What lines say of a section: its head, or its one line, and the lines inside.
use Rattle.std.specs.Prelude.{ℕ, nat_le, nat_lt, Bool, true, false, List, [], ◌∷◌, ◌++◌, length, slice_index, if◌then◌else◌, codes, bytes_eq, Option, Some, None}
use Rattle.std.specs.declared.result.Result.{Result}
use Rattle.std.specs.declared.result.Result.TheVariants.{Ok, Err}
use Rattle.tn_text.specs.Hex.{hex_bytes_of, hex_array_of, hex_word_of}
use Rattle.tn_text.specs.Numbers.{number_of}
use Rattle.tn_text.specs.NumberLists.{numbers_of, numbers_in}
use Rattle.tn_text.specs.Words.{words_of, one_of, two_of, three_of}
use Rattle.job_text.specs.declared.job.Owner.TheVariants.{All}
use Rattle.job_text.specs.declared.job.CodeSection.{CodeSection}
use Rattle.job_text.specs.declared.job.TextSection.{TextSection}
use Rattle.job_text.specs.declared.job.TableSection.{TableSection}
use Rattle.job_text.specs.declared.job.ScriptText.{ScriptText}
use Rattle.job_text.specs.declared.job.ScriptText.TheVariants.{Send, Idle}
use Rattle.job_text.specs.declared.job.Section.{Section}
use Rattle.job_text.specs.declared.job.Section.TheVariants as section
use Rattle.job_text.specs.declared.job.JobKind.{JobKind}
use Rattle.job_text.specs.declared.job.JobKind.TheVariants.{BadLine, BadWord, TooMany}
use Rattle.job_text.specs.declared.keyword.Keyword.{Keyword}
use Rattle.job_text.specs.declared.keyword.Keyword.TheVariants.{Number, Code, Asm, Fill, Table, Host, Graph}
use Rattle.job_text.specs.Arguments.{◌>>=◌, given, pair_in, owner_in}

-- Heads of sections that end with `end`: sections without lines so far.

abbrev pub code_head : ℕ → List (List ℕ) → Result Section JobKind
code_head n words = owner_in words >>= λ owner. Ok (section.Code (record { line = n; owner = owner; words = [] }))

abbrev pub asm_head : ℕ → List (List ℕ) → Result Section JobKind
asm_head n words = owner_in words >>= λ owner. Ok (section.Asm (record { line = n; owner = owner; text = [] }))

abbrev pub table_head : ℕ → List (List ℕ) → Result Section JobKind
table_head n words =
    given (numbers_in 2 words) >>= λ ns. Ok (section.Table (record { line = n; x = slice_index ns 0; y = slice_index ns 1; beats = [] }))

-- the text of a graph begins with its head
abbrev pub graph_head : ℕ → List ℕ → List (List ℕ) → Result Section JobKind
graph_head n content words = given (numbers_in 2 words) >>= λ ns. Ok (section.Graph (record { line = n; owner = All; text = content ++ 10 ∷ [] }))

-- Sections of one line.

-- at most 4096 bytes
abbrev pub fill_bytes : Option (List ℕ) → Result (List ℕ) JobKind
fill_bytes None = Err BadLine
fill_bytes (Some bytes) = if nat_le (length bytes) 4096 then Ok bytes else Err BadLine

abbrev pub fill_by : ℕ → Option (List ℕ × List ℕ × List ℕ) → Result Section JobKind
fill_by n None = Err BadLine
fill_by n (Some words) =
    fill_bytes (hex_bytes_of words.2) >>= λ bytes. pair_in (given (numbers_of (words.0 ∷ words.1 ∷ []))) >>= λ ns.
    Ok (section.Fill (record { line = n; thread = ns.0; address = ns.1; bytes = bytes }))

abbrev pub scripted : ℕ → ScriptText → Section
scripted n item = section.Script (record { line = n; item = item })

abbrev pub send_bytes : Option (List ℕ) → Result (List ℕ) JobKind
send_bytes None = Err BadLine
send_bytes (Some bytes) = Ok bytes

abbrev pub send_by : ℕ → Option (List ℕ × List ℕ) → Result Section JobKind
send_by n None = Err BadLine
send_by n (Some words) =
    send_bytes (hex_bytes_of words.1) >>= λ bytes. given (number_of words.0) >>= λ thread. Ok (scripted n (Send thread bytes))

abbrev pub idle_line : ℕ → List (List ℕ) → Result Section JobKind
idle_line n [] = Ok (scripted n Idle)
idle_line n (w ∷ ws) = Err BadLine

abbrev pub host_line : ℕ → List (List ℕ) → Result Section JobKind
host_line n [] = Err BadLine
host_line n (w ∷ ws) =
    if bytes_eq w (codes "idle") then idle_line n ws
    else (if bytes_eq w (codes "send") then send_by n (two_of ws) else Err BadLine)

-- the section that begins on a line: the line's number, its content, its keyword and the words after the keyword
abbrev pub section_begun : ℕ → List ℕ → Keyword → List (List ℕ) → Result Section JobKind
section_begun n content (Number setting) words = Err BadLine
section_begun n content Code words = code_head n words
section_begun n content Asm words = asm_head n words
section_begun n content Fill words = fill_by n (three_of words)
section_begun n content Table words = table_head n words
section_begun n content Host words = host_line n words
section_begun n content Graph words = graph_head n content words

-- a section of one line is whole at once
abbrev pub is_whole : Section → Bool
is_whole (section.Code s) = false
is_whole (section.Asm s) = false
is_whole (section.Fill f) = true
is_whole (section.Table t) = false
is_whole (section.Script l) = true
is_whole (section.Graph s) = false

-- Lines inside sections.

-- at most 16384 words
abbrev pub word_added : CodeSection → Option ℕ → Result CodeSection JobKind
word_added s None = Err BadWord
word_added s (Some word) = if nat_lt (length s.words) 16384 then Ok (record s { words = s.words ++ word ∷ [] }) else Err TooMany

abbrev pub word_by : CodeSection → Option (List ℕ) → Result CodeSection JobKind
word_by s None = Err BadWord
word_by s (Some w) = word_added s (hex_word_of w)

abbrev pub word_line : CodeSection → List (List ℕ) → Result CodeSection JobKind
word_line s [] = Ok s
word_line s (w ∷ ws) = word_by s (one_of (w ∷ ws))

-- at most 65536 beats
abbrev pub beat_added : TableSection → ℕ → Option (List ℕ) → Result TableSection JobKind
beat_added t n None = Err BadWord
beat_added t n (Some bytes) = if nat_lt (length t.beats) 65536 then Ok (record t { beats = t.beats ++ record { line = n; bytes = bytes } ∷ [] }) else Err TooMany

abbrev pub beat_by : TableSection → ℕ → Option (List ℕ) → Result TableSection JobKind
beat_by t n None = Err BadWord
beat_by t n (Some w) = beat_added t n (hex_array_of 32 w)

abbrev pub beat_line : TableSection → ℕ → List (List ℕ) → Result TableSection JobKind
beat_line t n [] = Ok t
beat_line t n (w ∷ ws) = beat_by t n (one_of (w ∷ ws))

-- a line as it is, without comment and outer spaces, and a line feed
abbrev pub text_added : TextSection → List ℕ → TextSection
text_added s content = record s { text = s.text ++ content ++ 10 ∷ [] }

-- a section with one more line
abbrev pub with_line : ℕ → List ℕ → Section → Result Section JobKind
with_line n content (section.Code s) = word_line s (words_of content) >>= λ t. Ok (section.Code t)
with_line n content (section.Asm s) = Ok (section.Asm (text_added s content))
with_line n content (section.Fill f) = Err BadLine
with_line n content (section.Table t) = beat_line t n (words_of content) >>= λ u. Ok (section.Table u)
with_line n content (section.Script l) = Err BadLine
with_line n content (section.Graph s) = Ok (section.Graph (text_added s content))
