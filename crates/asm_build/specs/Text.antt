-- What a text is in words.
use Rattle.std.specs.Prelude.{ℕ, List}
use Rattle.std.specs.declared.result.Result.{Result}
use Rattle.std.specs.declared.result.Result.TheVariants.{Ok, Err}
use Rattle.tn_text.specs.declared.stop.Fault.{Fault}
use Rattle.tn_text.specs.Lines.{lines_of}
use Rattle.asm_text.specs.declared.fault.AsmKind.{AsmKind}
use Rattle.asm_text.specs.declared.line.Line.{Line}
use Rattle.asm_text.specs.Text.{lines_from}
use Rattle.asm_build.specs.declared.image.Image.{Image}
use Rattle.asm_build.specs.Image.{image_of}

abbrev pub image_by : Result (List Line) (Fault AsmKind) → Result Image (Fault AsmKind)
image_by (Ok lines) = image_of lines
image_by (Err fault) = Err fault

-- what reading and assembling make of a text whose first line has this number
unfoldable pub assembled : ℕ → List ℕ → Result Image (Fault AsmKind)
assembled first text = image_by (lines_from first (lines_of text))
