-- What an instruction asks names only what is there, and where it asks or traps the registers are as before.
use Rattle.std.proofs.Common.{◌≡◌, ◌==◌, ◌%◌, ℕ, ℤ, ◌<◌, Bool, true, false, not, IsTrue, refl, subst, sym, ap, ◌∙◌, nat_lt, arith, List, Option, Some, None}
use Rattle.std.specs.Prelude.{int_lt, if◌then◌else◌}
use Rattle.std.specs.Int.{cast_unsigned, w32}
use Rattle.std.proofs.lemmas.Int.{ints}
use Rattle.std.proofs.lemmas.Bool.Decides.{nat_tests, Decides-eqb}
use Rattle.rv_isa.specs.Bits.{signed}
use Rattle.rv_isa.specs.Table.{row_of, row_fits}
use Rattle.rv_isa.specs.declared.op.Op32.{Op32}
use Rattle.rv_isa.specs.declared.op.Op32.TheVariants.{Jal, Jalr, Beq, Bne, Blt, Bge, Bltu, Bgeu, Lb, Lh, Lw, Lbu, Lhu, Sb, Sh, Sw, Fence, Ecall, Ebreak, Csrrw, Csrrs}
use Rattle.tn_base.specs.declared.effect.Effect.{Effect}
use Rattle.tn_base.specs.declared.effect.Effect.TheVariants.{Next, Jump, Load, Store, CsrRead, CsrWrite, Trap}
use Rattle.tn_base.specs.declared.event.Trap.TheVariants.{Misaligned, BadCsr}
use Rattle.rv_exec.specs.Rows.{Step, step_of, jump, link, ask, branch}
use Rattle.rv_exec.specs.Exec.{IsRowEffect, OnAsking, regs_after}

record IsRowStep (s : Step) : Type 0 where
  whole : IsRowEffect s.effect
  kept : OnAsking s.effect (s.written ≡ None)

jump_by : (target : ℕ) (aligned : Bool) → target % 4 == 0 ≡ aligned → IsRowEffect (if aligned then Jump target else Trap Misaligned)
jump_by target true e = (Decides-eqb (target % 4) 0).0 e
jump_by target false e = tt

jump_whole : (target : ℕ) → IsRowEffect (jump target)
jump_whole target = jump_by target (target % 4 == 0) refl

link_kept : (target value : ℕ) (aligned : Bool) → OnAsking (if aligned then Jump target else Trap Misaligned) ((if aligned then Some value else None) ≡ None)
link_kept target value true = tt
link_kept target value false = refl

link_step : (target value : ℕ) → IsRowStep (link target value)
link_step target value = record { whole = jump_whole target; kept = link_kept target value (target % 4 == 0) }

-- a fact that holds in any case
on_asking : (effect : Effect) (P : Type 0) → P → OnAsking effect P
on_asking Next P p = tt
on_asking (Jump target) P p = tt
on_asking (Load rd addr width extended) P p = p
on_asking (Store addr width value) P p = p
on_asking (CsrRead rd csr) P p = p
on_asking (CsrWrite rd csr value) P p = p
on_asking (Trap trap) P p = p

ask_step : (effect : Effect) → IsRowEffect effect → IsRowStep (ask effect)
ask_step effect whole = record { whole = whole; kept = on_asking effect ((ask effect).written ≡ None) refl }

branch_whole : (taken : Bool) (target : ℕ) → IsRowEffect (if taken then jump target else Next)
branch_whole true target = jump_whole target
branch_whole false target = tt

branch_step : (taken : Bool) (target : ℕ) → IsRowStep (branch taken target)
branch_step taken target = ask_step (if taken then jump target else Next) (branch_whole taken target)

read_whole : (reads : Bool) (rd csr : ℕ) → rd < 32 → csr < 4096 → IsRowEffect (if reads then CsrRead rd csr else Trap BadCsr)
read_whole true rd csr small known = (small, known)
read_whole false rd csr small known = tt

-- of an instruction whose fields fit its row
row_step_facts : (op : Op32) (rd rs1 rs2 pc a b : ℕ) (imm : ℤ) → IsTrue (row_fits (row_of op) rd rs1 rs2 imm) → IsRowStep (step_of op rd rs1 pc a b imm)
row_step_facts Jal rd rs1 rs2 pc a b imm fits = link_step _ _
row_step_facts Jalr rd rs1 rs2 pc a b imm fits = link_step _ _
row_step_facts Beq rd rs1 rs2 pc a b imm fits = branch_step (a == b) _
row_step_facts Bne rd rs1 rs2 pc a b imm fits = branch_step (not (a == b)) _
row_step_facts Blt rd rs1 rs2 pc a b imm fits = branch_step (int_lt (signed 32 a) (signed 32 b)) _
row_step_facts Bge rd rs1 rs2 pc a b imm fits = branch_step (not (int_lt (signed 32 a) (signed 32 b))) _
row_step_facts Bltu rd rs1 rs2 pc a b imm fits = branch_step (nat_lt a b) _
row_step_facts Bgeu rd rs1 rs2 pc a b imm fits = branch_step (not (nat_lt a b)) _
row_step_facts Lb rd rs1 rs2 pc a b imm fits = ask_step _ (grind (arith, nat_tests), refl)
row_step_facts Lh rd rs1 rs2 pc a b imm fits = ask_step _ (grind (arith, nat_tests), refl)
row_step_facts Lw rd rs1 rs2 pc a b imm fits = ask_step _ (grind (arith, nat_tests), refl)
row_step_facts Lbu rd rs1 rs2 pc a b imm fits = ask_step _ (grind (arith, nat_tests), refl)
row_step_facts Lhu rd rs1 rs2 pc a b imm fits = ask_step _ (grind (arith, nat_tests), refl)
row_step_facts Sb rd rs1 rs2 pc a b imm fits = ask_step _ refl
row_step_facts Sh rd rs1 rs2 pc a b imm fits = ask_step _ refl
row_step_facts Sw rd rs1 rs2 pc a b imm fits = ask_step _ refl
row_step_facts Csrrw rd rs1 rs2 pc a b imm fits = ask_step _ (grind (arith, ints, nat_tests), grind (arith, ints, nat_tests))
row_step_facts Csrrs rd rs1 rs2 pc a b imm fits =
    ask_step _ (read_whole (rs1 == 0) rd (cast_unsigned w32 imm) (grind (arith, ints, nat_tests)) (grind (arith, ints, nat_tests)))
row_step_facts Fence rd rs1 rs2 pc a b imm fits = ask_step _ tt
row_step_facts Ecall rd rs1 rs2 pc a b imm fits = ask_step _ tt
row_step_facts Ebreak rd rs1 rs2 pc a b imm fits = ask_step _ tt
row_step_facts _ rd rs1 rs2 pc a b imm fits = record { whole = tt; kept = tt }

pub effect_whole : (op : Op32) (rd rs1 rs2 pc a b : ℕ) (imm : ℤ) (effect : Effect) → IsTrue (row_fits (row_of op) rd rs1 rs2 imm) → effect ≡ (step_of op rd rs1 pc a b imm).effect → IsRowEffect effect
effect_whole op rd rs1 rs2 pc a b imm effect fits is = subst IsRowEffect (sym is) (row_step_facts op rd rs1 rs2 pc a b imm fits).whole

-- where nothing is written, the registers are as before
kept_by : (effect : Effect) (written : Option ℕ) (rd : ℕ) (old new : List ℕ) → new ≡ regs_after written rd old → OnAsking effect (written ≡ None) → OnAsking effect (new ≡ old)
kept_by Next written rd old new is none = tt
kept_by (Jump target) written rd old new is none = tt
kept_by (Load r addr width extended) written rd old new is none = is ∙ ap (λ w. regs_after w rd old) none
kept_by (Store addr width value) written rd old new is none = is ∙ ap (λ w. regs_after w rd old) none
kept_by (CsrRead r csr) written rd old new is none = is ∙ ap (λ w. regs_after w rd old) none
kept_by (CsrWrite r csr value) written rd old new is none = is ∙ ap (λ w. regs_after w rd old) none
kept_by (Trap trap) written rd old new is none = is ∙ ap (λ w. regs_after w rd old) none

pub regs_kept : (op : Op32) (rd rs1 rs2 pc a b : ℕ) (imm : ℤ) (effect : Effect) (old new : List ℕ) → IsTrue (row_fits (row_of op) rd rs1 rs2 imm) → effect ≡ (step_of op rd rs1 pc a b imm).effect → new ≡ regs_after (step_of op rd rs1 pc a b imm).written rd old → OnAsking effect (new ≡ old)
regs_kept op rd rs1 rs2 pc a b imm effect old new fits is after =
    subst (λ (e : Effect). OnAsking e (new ≡ old)) (sym is)
    (kept_by (step_of op rd rs1 pc a b imm).effect (step_of op rd rs1 pc a b imm).written rd old new after (row_step_facts op rd rs1 rs2 pc a b imm fits).kept)
