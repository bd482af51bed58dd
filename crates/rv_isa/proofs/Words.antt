-- A word is the word of the fields that it has.
use Rattle.std.proofs.Common.{◌≡◌, ℕ, ◌<◌, ◌^◌, arith}
use Rattle.std.proofs.lemmas.Int.{ints}
use Rattle.std.proofs.lemmas.Bool.Decides.{nat_tests}
use Rattle.rv_isa.specs.Table.{row_word, Matches}
use Rattle.rv_isa.specs.Fields.{rd_in, rs1_in, rs2_in, imm_in}
use Rattle.rv_isa.specs.declared.row.Row.{Row}
use Rattle.rv_isa.specs.declared.row.Row.TheVariants.{Register, Shift, Immediate, Control, Store, Branch, Upper, Jump, Fixed}

pub word_in : (r : Row) (w : ℕ) → w < 2 ^ 32 → Matches r w → row_word r (rd_in r w) (rs1_in r w) (rs2_in r w) (imm_in r w) ≡ w
word_in (Register o f g) w small m = grind (arith, ints, nat_tests)
word_in (Shift o f g) w small m = grind (arith, ints, nat_tests)
word_in (Immediate o f) w small m = grind (arith, ints, nat_tests)
word_in (Control o f) w small m = grind (arith, ints, nat_tests)
word_in (Store o f) w small m = grind (arith, ints, nat_tests)
word_in (Branch o f) w small m = grind (arith, ints, nat_tests)
word_in (Upper o) w small m = grind (arith, ints, nat_tests)
word_in (Jump o) w small m = grind (arith, ints, nat_tests)
word_in (Fixed v) w small m = cc
