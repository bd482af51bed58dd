-- What an instruction does to the registers, and what it asks.
use Rattle.std.specs.Prelude.{ℕ, List, Option, Some, None, IsTrue, ◌≡◌, ◌<◌, ◌%◌, slice_index}
use Rattle.rv_isa.specs.declared.instr.Instr.{Instr}
use Rattle.tn_base.specs.Effects.{is_width}
use Rattle.tn_base.specs.Regs.{set_reg}
use Rattle.rv_exec.specs.Rows.{Step, step_of}
use Rattle.tn_base.specs.declared.effect.Effect.{Effect}
use Rattle.tn_base.specs.declared.effect.Effect.TheVariants.{Next, Jump, Load, Store, CsrRead, CsrWrite, Trap}

-- the registers after a word is written to rd, where there is one
abbrev pub regs_after : Option ℕ → ℕ → List ℕ → List ℕ
regs_after None rd words = words
regs_after (Some value) rd words = set_reg words rd value

-- what an instruction does at `pc`
abbrev pub step_at : Instr → ℕ → List ℕ → Step
step_at i pc words = step_of i.op i.rd i.rs1 pc (slice_index words i.rs1) (slice_index words i.rs2) i.imm

-- a fact for the effects after which no register has changed
abbrev pub OnAsking : Effect → Type 0 → Type 0
OnAsking Next P = Unit {0}
OnAsking (Jump target) P = Unit {0}
OnAsking (Load rd addr width signed) P = P
OnAsking (Store addr width value) P = P
OnAsking (CsrRead rd csr) P = P
OnAsking (CsrWrite rd csr value) P = P
OnAsking (Trap trap) P = P

-- an effect names registers and control registers that are there, widths of loads and stores, and jumps only
-- where instructions stand
abbrev pub IsRowEffect : Effect → Type 0
IsRowEffect Next = Unit {0}
IsRowEffect (Jump target) = target % 4 ≡ 0
IsRowEffect (Load rd addr width signed) = (rd < 32) × IsTrue (is_width width)
IsRowEffect (Store addr width value) = IsTrue (is_width width)
IsRowEffect (CsrRead rd csr) = (rd < 32) × (csr < 4096)
IsRowEffect (CsrWrite rd csr value) = (rd < 32) × (csr < 4096)
IsRowEffect (Trap trap) = Unit {0}
