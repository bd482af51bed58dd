-- The jobs that texts say, and jobs that differ in nothing but the numbers of lines.
use Rattle.std.specs.Prelude.{◌≡◌, ◌⊎◌, ℕ, ◌^◌, ◌<◌, ◌≤◌, slice_index, bytes_eq, is_some, true, false, List, ◌∷◌, ◌++◌, map, length, codes, option_map, flat_map}
use Rattle.std.specs.List.{AllByRecursion, list_any}
use Rattle.std.specs.declared.result.Result.TheVariants.{Ok}
use Rattle.tn_base.specs.declared.shape.ShapeNumbers.{ShapeNumbers}
use Rattle.tn_text.specs.Lines.{lines_of, is_feed, feed}
use Rattle.tn_text.specs.Content.{content_of, is_plain}
use Rattle.tn_text.specs.declared.numbers.Numeral.TheVariants.{Value}
use Rattle.tn_text.specs.NumberLists.{numbers_in}
use Rattle.tn_text.specs.Words.{words_of}
use Rattle.job_text.specs.declared.job.Owner.{Owner}
use Rattle.job_text.specs.declared.job.Owner.TheVariants.{All, Tile}
use Rattle.job_text.specs.declared.job.CodeSection.{CodeSection}
use Rattle.job_text.specs.declared.job.TextSection.{TextSection}
use Rattle.job_text.specs.declared.job.FillLine.{FillLine}
use Rattle.job_text.specs.declared.job.BeatLine.{BeatLine}
use Rattle.job_text.specs.declared.job.TableSection.{TableSection}
use Rattle.job_text.specs.declared.job.ScriptText.{ScriptText}
use Rattle.job_text.specs.declared.job.ScriptText.TheVariants.{Send, Idle}
use Rattle.job_text.specs.declared.job.ScriptLine.{ScriptLine}
use Rattle.job_text.specs.declared.job.Job.{Job}
use Rattle.job_text.specs.declared.job.Section.{Section}
use Rattle.job_text.specs.declared.job.Section.TheVariants.{Code, Asm, Fill, Table, Script, Graph}
use Rattle.job_text.specs.Named.{named_by, nothing_named}
use Rattle.job_text.specs.Printed.{text_of}
use Rattle.job_text.specs.Sections.{job_sections}
use Rattle.job_text.specs.Text.{all_at, job_of}

-- What one section may be.

abbrev pub IsOwner : Owner → Type 0
IsOwner All = Unit {0}
IsOwner (Tile tile) = tile < 2 ^ 32

pub record IsCode (s : CodeSection) : Type 0 where
  pub owner : IsOwner s.owner
  pub words : AllByRecursion (λ word. word < 2 ^ 32) s.words
  pub few : length s.words ≤ 16384

-- a line without comment and outer spaces, which is not `end`
pub record IsTextLine (l : List ℕ) : Type 0 where
  pub one_line : list_any is_feed l ≡ false
  pub plain : is_plain l ≡ true
  pub content : content_of l ≡ l
  pub goes_on : bytes_eq l (codes "end") ≡ false

abbrev pub fed : List ℕ → List ℕ
fed l = l ++ feed

-- whole lines
pub record IsText (text : List ℕ) : Type 0 where
  pub whole : flat_map fed (lines_of text) ≡ text
  pub lines : AllByRecursion IsTextLine (lines_of text)

pub record IsAsm (s : TextSection) : Type 0 where
  pub owner : IsOwner s.owner
  pub text : IsText s.text

abbrev pub AreBytes : List ℕ → Type 0
AreBytes bytes = (k : ℕ) → slice_index bytes k < 256

pub record IsFill (f : FillLine) : Type 0 where
  pub thread : f.thread < 2 ^ 32
  pub address : f.address < 2 ^ 32
  pub bytes : AreBytes f.bytes
  pub some : 0 < length f.bytes
  pub few : length f.bytes ≤ 4096

pub record IsBeat (beat : BeatLine) : Type 0 where
  pub bytes : AreBytes beat.bytes
  pub whole : length beat.bytes ≡ 32

pub record IsTable (t : TableSection) : Type 0 where
  pub x : t.x < 2 ^ 32
  pub y : t.y < 2 ^ 32
  pub beats : AllByRecursion IsBeat t.beats
  pub few : length t.beats ≤ 65536

abbrev pub IsScriptText : ScriptText → Type 0
IsScriptText Idle = Unit {0}
IsScriptText (Send thread bytes) = (thread < 2 ^ 32) × AreBytes bytes × (0 < length bytes)

abbrev pub IsScript : ScriptLine → Type 0
IsScript l = IsScriptText l.item

-- the first line is that of the graph, with two numbers
pub record IsGraphText (s : TextSection) (head rest : List ℕ) (words : List (List ℕ)) (ns : List ℕ) : Type 0 where
  pub owner : s.owner ≡ All
  pub text : s.text ≡ head ++ feed ++ rest
  pub line : IsTextLine head
  pub words_are : words_of head ≡ codes "graph" ∷ words
  pub numbers : numbers_in 2 words ≡ Value ns
  pub lines : IsText rest

abbrev pub IsGraph : TextSection → Type 0
IsGraph s = (head rest : List ℕ) × (words : List (List ℕ)) × (ns : List ℕ) × IsGraphText s head rest words ns

abbrev pub IsSection : Section → Type 0
IsSection (Code s) = IsCode s
IsSection (Asm s) = IsAsm s
IsSection (Fill f) = IsFill f
IsSection (Table t) = IsTable t
IsSection (Script l) = IsScript l
IsSection (Graph s) = IsGraph s

pub record AreNumbers (n : ShapeNumbers) : Type 0 where
  pub boards_x : n.boards_x < 2 ^ 32
  pub boards_y : n.boards_y < 2 ^ 32
  pub tiles_x : n.tiles_x < 2 ^ 32
  pub tiles_y : n.tiles_y < 2 ^ 32
  pub cores : n.cores < 2 ^ 32
  pub threads : n.threads < 2 ^ 32
  pub slots : n.slots < 2 ^ 32
  pub link : n.link < 2 ^ 32
  pub mem : n.mem < 2 ^ 32
  pub fuel : n.fuel < 2 ^ 32
  pub turn : n.turn < 2 ^ 32

-- the jobs that have a text
pub record IsWellFormed (job : Job) : Type 0 where
  pub version : (job.version ≡ 1) ⊎ (job.version ≡ 2)
  pub same_version : job.numbers.version ≡ job.version
  pub numbers : AreNumbers job.numbers
  pub sections : AllByRecursion IsSection (job_sections job)
  -- no two of them have the same subject
  pub once : is_some (named_by nothing_named (job_sections job)) ≡ true

-- A job with every line number zero.

abbrev pub code_unlined : CodeSection → CodeSection
code_unlined s = record s { line = 0 }

abbrev pub text_unlined : TextSection → TextSection
text_unlined s = record s { line = 0 }

abbrev pub fill_unlined : FillLine → FillLine
fill_unlined f = record f { line = 0 }

abbrev pub beat_unlined : BeatLine → BeatLine
beat_unlined b = record b { line = 0 }

abbrev pub table_unlined : TableSection → TableSection
table_unlined t = record t { line = 0; beats = map beat_unlined t.beats }

abbrev pub script_unlined : ScriptLine → ScriptLine
script_unlined l = record l { line = 0 }

abbrev pub unlined : Job → Job
unlined job = record {
  version = job.version;
  numbers = job.numbers;
  number_lines = all_at 0;
  codes = map code_unlined job.codes;
  asms = map text_unlined job.asms;
  fills = map fill_unlined job.fills;
  tables = map table_unlined job.tables;
  script = map script_unlined job.script;
  graph = option_map text_unlined job.graph;
}

-- the printed form is read as a job that differs in nothing but the numbers of lines
abbrev pub ReadsBack : Job → Type 0
ReadsBack job = (read : Job) × (job_of (lines_of (text_of job)) ≡ Ok read) × (unlined read ≡ unlined job)
