-- The numbers of lines that say something.
use Rattle.std.proofs.Common.{◌≡◌, ℕ, ◌+◌, List, length, get_or}
use Rattle.tn_text.specs.Lines.{lines_of}
use Rattle.tn_trace.specs.Parting.{said_on}

-- the line that is looked for is the same behind the lines that were passed
pub record StillSaid (text rest : List ℕ) (first number others left : ℕ) : Type 0 where
  pub same : get_or (said_on first (lines_of text)) others 0 ≡ get_or (said_on number (lines_of rest)) left 0
  pub few : number + length (lines_of rest) ≡ first + length (lines_of text)
