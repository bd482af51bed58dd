-- What a text says, line by line.
use Rattle.std.specs.Prelude.{◌≡◌, ℕ, Bool, true, false, List}
use Rattle.std.specs.declared.result.Result.{Result}
use Rattle.std.specs.declared.result.Result.TheVariants.{Ok, Err}
use Rattle.tn_text.specs.declared.stop.Fault.{Fault}
use Rattle.tn_text.specs.declared.stop.Stop.{Stop}
use Rattle.tn_text.specs.declared.stop.Stop.TheVariants as stops
use Rattle.tn_text.specs.Reading.{read_from}
use Rattle.asm_text.specs.declared.fault.AsmKind.{AsmKind}
use Rattle.asm_text.specs.declared.fault.AsmKind.TheVariants.{BadLine, BadNumber}
use Rattle.asm_text.specs.declared.line.Line.{Line}
use Rattle.asm_text.specs.Statement.{line_of}

-- the lines that are not blank, the first line having this number, or the first line at fault
abbrev pub lines_from : ℕ → List (List ℕ) → Result (List Line) (Fault AsmKind)
lines_from number lines = read_from line_of number lines

abbrev pub is_misread : AsmKind → Bool
is_misread BadLine = true
is_misread BadNumber = true
is_misread _ = false

-- a fault is BadLine or BadNumber
abbrev pub IsMisread : {X : Type 0} → Result X (Stop (Fault AsmKind)) → Type 0
IsMisread (Ok x) = Unit {0}
IsMisread (Err stops.Memory) = Unit {0}
IsMisread (Err (stops.Fault fault)) = is_misread fault.kind ≡ true
