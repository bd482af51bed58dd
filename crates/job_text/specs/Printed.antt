-- The printed form of a job.
use Rattle.std.specs.Prelude.{ℕ, List, [], ◌++◌, codes, decimal, flat_map, Option, Some, None}
use Rattle.tn_base.specs.declared.shape.ShapeNumbers.{ShapeNumbers}
use Rattle.tn_text.specs.Hex.{hex_text, words_text}
use Rattle.tn_text.specs.Lines.{feed}
use Rattle.tn_text.specs.Words.{spaced}
use Rattle.job_text.specs.declared.job.Owner.{Owner}
use Rattle.job_text.specs.declared.job.Owner.TheVariants.{All, Tile}
use Rattle.job_text.specs.declared.job.CodeSection.{CodeSection}
use Rattle.job_text.specs.declared.job.TextSection.{TextSection}
use Rattle.job_text.specs.declared.job.FillLine.{FillLine}
use Rattle.job_text.specs.declared.job.BeatLine.{BeatLine}
use Rattle.job_text.specs.declared.job.TableSection.{TableSection}
use Rattle.job_text.specs.declared.job.ScriptText.{ScriptText}
use Rattle.job_text.specs.declared.job.ScriptText.TheVariants.{Send, Idle}
use Rattle.job_text.specs.declared.job.ScriptLine.{ScriptLine}
use Rattle.job_text.specs.declared.job.Job.{Job}

abbrev pub header_text : ℕ → List ℕ
header_text version = codes "tinsel" ++ spaced (decimal version) ++ feed

abbrev pub shape_text : ShapeNumbers → List ℕ
shape_text n =
    codes "shape" ++ spaced (decimal n.boards_x) ++ spaced (decimal n.boards_y) ++ spaced (decimal n.tiles_x) ++ spaced (decimal n.tiles_y)
    ++ spaced (decimal n.cores) ++ spaced (decimal n.threads) ++ feed

abbrev pub setting_text : List ℕ → ℕ → List ℕ
setting_text name n = name ++ spaced (decimal n) ++ feed

abbrev pub settings_text : ShapeNumbers → List ℕ
settings_text n =
    setting_text (codes "slots") n.slots ++ setting_text (codes "link") n.link ++ setting_text (codes "mem") n.mem
    ++ setting_text (codes "fuel") n.fuel ++ setting_text (codes "turn") n.turn

abbrev pub owner_text : Owner → List ℕ
owner_text All = codes "all"
owner_text (Tile tile) = decimal tile

abbrev pub end_text : List ℕ
end_text = codes "end" ++ feed

abbrev pub code_text : CodeSection → List ℕ
code_text s = codes "code" ++ spaced (owner_text s.owner) ++ feed ++ words_text s.words ++ end_text

abbrev pub asm_text : TextSection → List ℕ
asm_text s = codes "asm" ++ spaced (owner_text s.owner) ++ feed ++ s.text ++ end_text

abbrev pub fill_text : FillLine → List ℕ
fill_text f = codes "fill" ++ spaced (decimal f.thread) ++ spaced (decimal f.address) ++ spaced (hex_text f.bytes) ++ feed

abbrev pub beat_text : BeatLine → List ℕ
beat_text beat = hex_text beat.bytes ++ feed

abbrev pub table_text : TableSection → List ℕ
table_text t = codes "table" ++ spaced (decimal t.x) ++ spaced (decimal t.y) ++ feed ++ flat_map beat_text t.beats ++ end_text

abbrev pub item_text : ScriptText → List ℕ
item_text (Send thread bytes) = codes "host send" ++ spaced (decimal thread) ++ spaced (hex_text bytes) ++ feed
item_text Idle = codes "host idle" ++ feed

abbrev pub script_text : ScriptLine → List ℕ
script_text l = item_text l.item

abbrev pub graph_text : Option TextSection → List ℕ
graph_text None = []
graph_text (Some s) = s.text ++ end_text

abbrev pub sections_text : Job → List ℕ
sections_text job =
    flat_map code_text job.codes ++ flat_map asm_text job.asms ++ flat_map fill_text job.fills ++ flat_map table_text job.tables
    ++ flat_map script_text job.script ++ graph_text job.graph

abbrev pub text_of : Job → List ℕ
text_of job = header_text job.version ++ shape_text job.numbers ++ settings_text job.numbers ++ sections_text job
