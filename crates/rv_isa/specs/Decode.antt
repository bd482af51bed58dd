-- The instruction of a word.
use Rattle.std.specs.Prelude.{ℕ, ℤ, Bool, true, false, Option, Some, None, option_and_then, ◌≡◌, ◌==◌, if◌then◌else◌, refl}
use Rattle.std.proofs.Common.{sym}
use Rattle.rv_isa.specs.Table.{row_of, row_fits}
use Rattle.rv_isa.specs.Search.{op_found}
use Rattle.rv_isa.specs.Fields.{rd_in, rs1_in, rs2_in, imm_in}
use Rattle.rv_isa.specs.Word.{word_of}
use Rattle.rv_isa.specs.declared.op.Op32.{Op32}
use Rattle.rv_isa.specs.declared.instr.Instr.{Instr}

-- an instruction has these fields
pub record HasFields (i : Instr) (op : Op32) (rd rs1 rs2 : ℕ) (imm : ℤ) : Type 0 where
  pub op_is : i.op ≡ op
  pub rd_is : i.rd ≡ rd
  pub rs1_is : i.rs1 ≡ rs1
  pub rs2_is : i.rs2 ≡ rs2
  pub imm_is : i.imm ≡ imm

-- the instruction with these fields, where they fit
abbrev pub with_fit : (op : Op32) (rd rs1 rs2 : ℕ) (imm : ℤ) (b : Bool) → b ≡ row_fits (row_of op) rd rs1 rs2 imm → Option Instr
with_fit op rd rs1 rs2 imm true e = Some (record { op = op; rd = rd; rs1 = rs1; rs2 = rs2; imm = imm; fits = sym e })
with_fit op rd rs1 rs2 imm false e = None

-- the same, tested by the row
abbrev pub instr_of : Op32 → ℕ → ℕ → ℕ → ℤ → Option Instr
instr_of op rd rs1 rs2 imm = with_fit op rd rs1 rs2 imm (row_fits (row_of op) rd rs1 rs2 imm) refl

-- an instruction has a name and the fields of a word
abbrev pub IsRead : Instr → Op32 → ℕ → Type 0
IsRead i op w = let r = row_of op in HasFields i op (rd_in r w) (rs1_in r w) (rs2_in r w) (imm_in r w)

-- the instruction of this name with the fields of a word
abbrev pub named : ℕ → Op32 → Option Instr
named w op = let r = row_of op in instr_of op (rd_in r w) (rs1_in r w) (rs2_in r w) (imm_in r w)

-- an instruction that has the word
abbrev pub checked : ℕ → Instr → Option Instr
checked w i = if word_of i == w then Some i else None

-- the instruction whose row has the numbers of a word and whose fields make it
unfoldable pub decode_of : ℕ → Option Instr
decode_of w = option_and_then (checked w) (option_and_then (named w) (op_found w))
