-- What the word of a row tells of its fields.
use Rattle.std.proofs.Common.{◌≡◌, ℕ, ℤ, Bool, true, false, cond, find, List, [], ◌∷◌, IsTrue, Option, Some, arith, refl, ap, ◌∙◌, subst}
use Rattle.std.proofs.lemmas.Int.{ints}
use Rattle.std.proofs.lemmas.Bool.Decides.{nat_tests}
use Rattle.rv_isa.specs.Bits.{bits}
use Rattle.rv_isa.specs.Table.{row_of, row_word, row_fits, IsSmallRow, Matches}
use Rattle.rv_isa.specs.declared.op.Op32.{Op32}
use Rattle.rv_isa.specs.declared.op.Op32.TheVariants.{Lui}
use Rattle.rv_isa.specs.declared.row.Row.{Row}
use Rattle.rv_isa.specs.declared.row.Row.TheVariants.{Register, Shift, Immediate, Control, Store, Branch, Upper, Jump, Fixed}
use Rattle.rv_isa.specs.Search.{op_found, op_by, all_ops, has_numbers}
use Rattle.rv_isa.specs.Fields.{rd_in, rs1_in, rs2_in, imm_in}

pub matches_word : (r : Row) (rd rs1 rs2 : ℕ) (imm : ℤ) → IsSmallRow r → IsTrue (row_fits r rd rs1 rs2 imm) → Matches r (row_word r rd rs1 rs2 imm)
matches_word (Register o f g) rd rs1 rs2 imm small fits = (grind (arith, ints, nat_tests), grind (arith, ints, nat_tests), grind (arith, ints, nat_tests))
matches_word (Shift o f g) rd rs1 rs2 imm small fits = (grind (arith, ints, nat_tests), grind (arith, ints, nat_tests), grind (arith, ints, nat_tests))
matches_word (Immediate o f) rd rs1 rs2 imm small fits = (grind (arith, ints, nat_tests), grind (arith, ints, nat_tests))
matches_word (Control o f) rd rs1 rs2 imm small fits = (grind (arith, ints, nat_tests), grind (arith, ints, nat_tests))
matches_word (Store o f) rd rs1 rs2 imm small fits = (grind (arith, ints, nat_tests), grind (arith, ints, nat_tests))
matches_word (Branch o f) rd rs1 rs2 imm small fits = (grind (arith, ints, nat_tests), grind (arith, ints, nat_tests))
matches_word (Upper o) rd rs1 rs2 imm small fits = grind (arith, ints, nat_tests)
matches_word (Jump o) rd rs1 rs2 imm small fits = grind (arith, ints, nat_tests)
matches_word (Fixed o) rd rs1 rs2 imm small fits = refl

pub rd_word : (r : Row) (rd rs1 rs2 : ℕ) (imm : ℤ) → IsSmallRow r → IsTrue (row_fits r rd rs1 rs2 imm) → rd ≡ rd_in r (row_word r rd rs1 rs2 imm)
rd_word (Register o f g) rd rs1 rs2 imm small fits = grind (arith, ints, nat_tests)
rd_word (Shift o f g) rd rs1 rs2 imm small fits = grind (arith, ints, nat_tests)
rd_word (Immediate o f) rd rs1 rs2 imm small fits = grind (arith, ints, nat_tests)
rd_word (Control o f) rd rs1 rs2 imm small fits = grind (arith, ints, nat_tests)
rd_word (Store o f) rd rs1 rs2 imm small fits = grind (arith, ints, nat_tests)
rd_word (Branch o f) rd rs1 rs2 imm small fits = grind (arith, ints, nat_tests)
rd_word (Upper o) rd rs1 rs2 imm small fits = grind (arith, ints, nat_tests)
rd_word (Jump o) rd rs1 rs2 imm small fits = grind (arith, ints, nat_tests)
rd_word (Fixed o) rd rs1 rs2 imm small fits = grind (arith, ints, nat_tests)

pub rs1_word : (r : Row) (rd rs1 rs2 : ℕ) (imm : ℤ) → IsSmallRow r → IsTrue (row_fits r rd rs1 rs2 imm) → rs1 ≡ rs1_in r (row_word r rd rs1 rs2 imm)
rs1_word (Register o f g) rd rs1 rs2 imm small fits = grind (arith, ints, nat_tests)
rs1_word (Shift o f g) rd rs1 rs2 imm small fits = grind (arith, ints, nat_tests)
rs1_word (Immediate o f) rd rs1 rs2 imm small fits = grind (arith, ints, nat_tests)
rs1_word (Control o f) rd rs1 rs2 imm small fits = grind (arith, ints, nat_tests)
rs1_word (Store o f) rd rs1 rs2 imm small fits = grind (arith, ints, nat_tests)
rs1_word (Branch o f) rd rs1 rs2 imm small fits = grind (arith, ints, nat_tests)
rs1_word (Upper o) rd rs1 rs2 imm small fits = grind (arith, ints, nat_tests)
rs1_word (Jump o) rd rs1 rs2 imm small fits = grind (arith, ints, nat_tests)
rs1_word (Fixed o) rd rs1 rs2 imm small fits = grind (arith, ints, nat_tests)

pub rs2_word : (r : Row) (rd rs1 rs2 : ℕ) (imm : ℤ) → IsSmallRow r → IsTrue (row_fits r rd rs1 rs2 imm) → rs2 ≡ rs2_in r (row_word r rd rs1 rs2 imm)
rs2_word (Register o f g) rd rs1 rs2 imm small fits = grind (arith, ints, nat_tests)
rs2_word (Shift o f g) rd rs1 rs2 imm small fits = grind (arith, ints, nat_tests)
rs2_word (Immediate o f) rd rs1 rs2 imm small fits = grind (arith, ints, nat_tests)
rs2_word (Control o f) rd rs1 rs2 imm small fits = grind (arith, ints, nat_tests)
rs2_word (Store o f) rd rs1 rs2 imm small fits = grind (arith, ints, nat_tests)
rs2_word (Branch o f) rd rs1 rs2 imm small fits = grind (arith, ints, nat_tests)
rs2_word (Upper o) rd rs1 rs2 imm small fits = grind (arith, ints, nat_tests)
rs2_word (Jump o) rd rs1 rs2 imm small fits = grind (arith, ints, nat_tests)
rs2_word (Fixed o) rd rs1 rs2 imm small fits = grind (arith, ints, nat_tests)

pub imm_word : (r : Row) (rd rs1 rs2 : ℕ) (imm : ℤ) → IsSmallRow r → IsTrue (row_fits r rd rs1 rs2 imm) → imm ≡ imm_in r (row_word r rd rs1 rs2 imm)
imm_word (Register o f g) rd rs1 rs2 imm small fits = grind (arith, ints, nat_tests)
imm_word (Shift o f g) rd rs1 rs2 imm small fits = grind (arith, ints, nat_tests)
imm_word (Immediate o f) rd rs1 rs2 imm small fits = grind (arith, ints, nat_tests)
imm_word (Control o f) rd rs1 rs2 imm small fits = grind (arith, ints, nat_tests)
imm_word (Store o f) rd rs1 rs2 imm small fits = grind (arith, ints, nat_tests)
imm_word (Branch o f) rd rs1 rs2 imm small fits = grind (arith, ints, nat_tests)
imm_word (Upper o) rd rs1 rs2 imm small fits = grind (arith, ints, nat_tests)
imm_word (Jump o) rd rs1 rs2 imm small fits = grind (arith, ints, nat_tests)
imm_word (Fixed o) rd rs1 rs2 imm small fits = grind (arith, ints, nat_tests)

pub small_row : (op : Op32) → IsSmallRow (row_of op)
small_row Lui = search arith
small_row _ = search arith

-- what a word names, where it has the numbers of a row
abbrev op_at : Row → ℕ → Option Op32
op_at (Register o f g) w = op_by o f g w
op_at (Shift o f g) w = op_by o f g w
op_at (Immediate o f) w = op_by o f (bits w 31 25) w
op_at (Control o f) w = op_by o f (bits w 31 25) w
op_at (Store o f) w = op_by o f (bits w 31 25) w
op_at (Branch o f) w = op_by o f (bits w 31 25) w
op_at (Upper o) w = op_by o (bits w 14 12) (bits w 31 25) w
op_at (Jump o) w = op_by o (bits w 14 12) (bits w 31 25) w
op_at (Fixed v) w = op_by (bits v 6 0) (bits v 14 12) (bits v 31 25) v

by_numbers : (a b c w a' b' c' w' : ℕ) → a ≡ a' → b ≡ b' → c ≡ c' → w ≡ w' → op_by a b c w ≡ op_by a' b' c' w'
by_numbers a b c w a' b' c' w' p q r s = ap (λ x. op_by x b c w) p ∙ ap (λ x. op_by a' x c w) q ∙ ap (λ x. op_by a' b' x w) r ∙ ap (λ x. op_by a' b' c' x) s

by_row : (r : Row) (w : ℕ) → Matches r w → op_by (bits w 6 0) (bits w 14 12) (bits w 31 25) w ≡ op_at r w
by_row (Register o f g) w m = by_numbers _ _ _ w _ _ _ _ m.0 m.1 m.2 refl
by_row (Shift o f g) w m = by_numbers _ _ _ w _ _ _ _ m.0 m.1 m.2 refl
by_row (Immediate o f) w m = by_numbers _ _ (bits w 31 25) w _ _ _ _ m.0 m.1 refl refl
by_row (Control o f) w m = by_numbers _ _ (bits w 31 25) w _ _ _ _ m.0 m.1 refl refl
by_row (Store o f) w m = by_numbers _ _ (bits w 31 25) w _ _ _ _ m.0 m.1 refl refl
by_row (Branch o f) w m = by_numbers _ _ (bits w 31 25) w _ _ _ _ m.0 m.1 refl refl
by_row (Upper o) w m = by_numbers _ _ (bits w 31 25) w _ _ _ _ m refl refl refl
by_row (Jump o) w m = by_numbers _ _ (bits w 31 25) w _ _ _ _ m refl refl refl
by_row (Fixed v) w m = ap (λ x. op_by (bits x 6 0) (bits x 14 12) (bits x 31 25) x) m

by_op : (op : Op32) (w : ℕ) → op_at (row_of op) w ≡ Some op
by_op Lui w = refl
by_op _ w = refl

-- a word with the numbers of an instruction's row names that instruction
pub names_op : (op : Op32) (w : ℕ) → Matches (row_of op) w → op_found w ≡ Some op
unfolding op_found
names_op op w m = by_row (row_of op) w m ∙ by_op op w

by_first : (test : Op32 → Bool) (first : Op32) (rest : List Op32) (op : Op32) → (find test rest ≡ Some op → test op ≡ true) → (b : Bool) → test first ≡ b → cond b (Some first) (find test rest) ≡ Some op → test op ≡ true
by_first test first rest op later true passes e = let same : first ≡ op = cc e in subst (λ o. test o ≡ true) same passes
by_first test first rest op later false passes e = later e

-- what a search gives passes the test
find_passes : (test : Op32 → Bool) (ops : List Op32) (op : Op32) → find test ops ≡ Some op → test op ≡ true
find_passes test [] op e = cc e
find_passes test (first ∷ rest) op e = by_first test first rest op (find_passes test rest op) (test first) refl e

numbers_match : (r : Row) (w : ℕ) → has_numbers r (bits w 6 0) (bits w 14 12) (bits w 31 25) w ≡ true → Matches r w
numbers_match (Register o f g) w e = (grind (arith, nat_tests), grind (arith, nat_tests), grind (arith, nat_tests))
numbers_match (Shift o f g) w e = (grind (arith, nat_tests), grind (arith, nat_tests), grind (arith, nat_tests))
numbers_match (Immediate o f) w e = (grind (arith, nat_tests), grind (arith, nat_tests))
numbers_match (Control o f) w e = (grind (arith, nat_tests), grind (arith, nat_tests))
numbers_match (Store o f) w e = (grind (arith, nat_tests), grind (arith, nat_tests))
numbers_match (Branch o f) w e = (grind (arith, nat_tests), grind (arith, nat_tests))
numbers_match (Upper o) w e = grind (arith, nat_tests)
numbers_match (Jump o) w e = grind (arith, nat_tests)
numbers_match (Fixed v) w e = grind (arith, nat_tests)

-- a word has the numbers of the row of the instruction that it names
pub op_found-matches : (w : ℕ) (op : Op32) → op_found w ≡ Some op → Matches (row_of op) w
unfolding op_found
op_found-matches w op e =
    numbers_match (row_of op) w (find_passes (λ o. has_numbers (row_of o) (bits w 6 0) (bits w 14 12) (bits w 31 25) w) all_ops op e)
