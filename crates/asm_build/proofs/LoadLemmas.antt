-- The words that load a number.
use Rattle.std.proofs.Common.{◌≡◌, ℕ, ℤ, ◌+ℤ◌, ◌^◌, ◌<◌, Bool, true, false, cond, IsTrue, Some, refl, sym, ap, ◌∙◌, subst, ⊎_elim, arith}
use Rattle.std.specs.declared.result.Result.{Result}
use Rattle.std.specs.declared.result.Result.TheVariants.{Ok}
use Rattle.std.proofs.lemmas.Int.{ints}
use Rattle.std.proofs.lemmas.Bool.{cases_Bool}
use Rattle.std.proofs.lemmas.Bool.Decides.{nat_tests}
use Rattle.rv_isa.specs.Bits.{signed, fits_signed}
use Rattle.rv_isa.specs.Table.{row_of, row_fits}
use Rattle.rv_isa.specs.Decode.{with_fit}
use Rattle.rv_isa.specs.Word.{word_of}
use Rattle.rv_isa.specs.declared.instr.Instr.{Instr}
use Rattle.rv_isa.specs.declared.op.Op32.{Op32}
use Rattle.rv_isa.specs.declared.op.Op32.TheVariants.{Lui, Addi}
use Rattle.asm_text.specs.declared.fault.AsmKind.{AsmKind}
use Rattle.asm_text.specs.Number.{word_number}
use Rattle.asm_build.specs.declared.code.Code.TheVariants.{One, Two}
use Rattle.asm_build.specs.Code.{word_by, word_for, one, two, low_part, high_part, number_code, address_code}
use Rattle.asm_build.specs.Laws.{IsLoad}

with_fit-some : (op : Op32) (rd rs1 rs2 : ℕ) (imm : ℤ) (b : Bool) (e : b ≡ row_fits (row_of op) rd rs1 rs2 imm) → b ≡ true
    → (i : Instr) × (with_fit op rd rs1 rs2 imm b e ≡ Some i)
with_fit-some op rd rs1 rs2 imm true e h = (_, refl)
with_fit-some op rd rs1 rs2 imm false e h = cc

-- fields that fit have a word
pub fitting_word : (op : Op32) (rd rs1 rs2 : ℕ) (imm : ℤ) → IsTrue (row_fits (row_of op) rd rs1 rs2 imm) → (w : ℕ) × (word_for op rd rs1 rs2 imm ≡ Ok w)
unfolding word_for
fitting_word op rd rs1 rs2 imm fits =
    let r = with_fit-some op rd rs1 rs2 imm (row_fits (row_of op) rd rs1 rs2 imm) refl fits in (word_of r.0, ap word_by r.1)

high_fits : (rd n : ℕ) → rd < 32 → IsTrue (row_fits (row_of Lui) rd 0 0 (high_part n))
high_fits rd n h = grind (arith, ints, nat_tests)

low_fits : (rd n : ℕ) → rd < 32 → IsTrue (row_fits (row_of Addi) rd rd 0 (low_part n))
low_fits rd n h = grind (arith, ints, nat_tests)

parts_sum : (n : ℕ) → n < 2 ^ 32 → word_number (high_part n +ℤ low_part n) ≡ n
parts_sum n h = grind (arith, ints, nat_tests)

signed_number : (n : ℕ) → n < 2 ^ 32 → word_number (signed 32 n) ≡ n
signed_number n h = grind (arith, ints, nat_tests)

pub address_loads : (rd n : ℕ) → rd < 32 → n < 2 ^ 32 → IsLoad rd n (address_code rd n)
unfolding address_code
address_loads rd n h k =
    let first = fitting_word Lui rd 0 0 (high_part n) (high_fits rd n h) in
    let second = fitting_word Addi rd rd 0 (low_part n) (low_fits rd n h) in
    let code : address_code rd n ≡ Ok (Two first.0 second.0) =
    ap (λ (r : Result ℕ AsmKind). two r (word_for Addi rd rd 0 (low_part n))) first.1 ∙ ap (two (Ok first.0)) second.1 in
    subst (IsLoad rd n) (sym code) (high_part n, low_part n, first.1, second.1, parts_sum n k)

short_fits : (rd n : ℕ) → rd < 32 → fits_signed 12 (signed 32 n) ≡ true → IsTrue (row_fits (row_of Addi) rd 0 0 (signed 32 n))
short_fits rd n h k = grind (arith, ints, nat_tests)

pub number_loads : (rd n : ℕ) → rd < 32 → n < 2 ^ 32 → IsLoad rd n (number_code rd n)
unfolding number_code
number_loads rd n h k =
    ⊎_elim (λ e.
    let word = fitting_word Addi rd 0 0 (signed 32 n) (short_fits rd n h e) in
    let code : number_code rd n ≡ Ok (One word.0) =
    ap (λ (b : Bool). cond b (one (word_for Addi rd 0 0 (signed 32 n))) (address_code rd n)) e ∙ ap one word.1 in
    subst (IsLoad rd n) (sym code) (signed 32 n, word.1, signed_number n k))
    (λ e.
    let code : number_code rd n ≡ address_code rd n =
    ap (λ (b : Bool). cond b (one (word_for Addi rd 0 0 (signed 32 n))) (address_code rd n)) e in
    subst (IsLoad rd n) (sym code) (address_loads rd n h k)) (cases_Bool (fits_signed 12 (signed 32 n)))
