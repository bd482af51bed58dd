-- How many words a line has does not depend on the labels' addresses.
use Rattle.std.proofs.Common.{◌≡◌, ℕ, ℤ, pos, ◌-ℤ◌, Bool, true, false, IsTrue, List, [], ◌∷◌, Option, Some, None, length, refl, sym, ap, ◌∙◌, arith}
use Rattle.std.specs.declared.result.Result.{Result}
use Rattle.std.specs.declared.result.Result.TheVariants.{Ok, Err}
use Rattle.std.proofs.lemmas.Int.{ints}
use Rattle.std.proofs.lemmas.Bool.Decides.{nat_tests}
use Rattle.rv_isa.specs.Table.{row_of, row_fits}
use Rattle.rv_isa.specs.Decode.{with_fit}
use Rattle.rv_isa.specs.declared.op.Op32.{Op32}
use Rattle.rv_isa.specs.declared.op.Op32.TheVariants.{Lui, Jal, Beq, Bne, Addi}
use Rattle.asm_text.specs.declared.fault.AsmKind.{AsmKind}
use Rattle.asm_text.specs.declared.line.Arg.{Arg}
use Rattle.asm_text.specs.declared.line.Arg.TheVariants.{Reg, Num, Name, Mem}
use Rattle.asm_text.specs.declared.line.Body.{Body}
use Rattle.asm_text.specs.declared.line.Body.TheVariants.{Empty, Ins, Word}
use Rattle.asm_build.specs.declared.code.Code.{Code}
use Rattle.asm_build.specs.declared.code.Code.TheVariants.{One, Two}
use Rattle.asm_build.specs.declared.spelling.Form.{Form}
use Rattle.asm_build.specs.declared.spelling.Form.TheVariants.{Registers, Branch, Jump}
use Rattle.asm_build.specs.declared.spelling.Pseudo.{Pseudo}
use Rattle.asm_build.specs.declared.spelling.Pseudo.TheVariants.{Nop, Mv, Li, La, J, Call, Ret, Beqz, Bnez}
use Rattle.asm_build.specs.Labels.{address_of}
use Rattle.asm_build.specs.Fields.{offset_by, offset_of, beside, fields_of, branch_fields, jump_fields}
use Rattle.asm_build.specs.Code.{word_by, word_for, one, two, low_part, high_part, address_code, label_code, target_code, pseudo_code, op_by, code_by, code_of, words_in}
use Rattle.asm_build.specs.Image.{size_by}
use Rattle.asm_build.specs.Spelling.{form_of, op_named, pseudo_named}
use Rattle.asm_build.proofs.LoadLemmas.{fitting_word}

-- each label of the one list is at 0 in the other
pub record Covers (known places : List (List ℕ × ℕ)) : Type 0 where
  pub at : (name : List ℕ) (address : ℕ) → address_of name places ≡ Some address → address_of name known ≡ Some 0

-- a row that takes some immediate takes 0
zero_fits : (op : Op32) (rd rs1 rs2 : ℕ) (imm : ℤ) → IsTrue (row_fits (row_of op) rd rs1 rs2 imm) → IsTrue (row_fits (row_of op) rd rs1 rs2 (pos 0))
zero_fits Lui rd rs1 rs2 imm fits = grind (arith, ints, nat_tests)
zero_fits _ rd rs1 rs2 imm fits = grind (arith, ints, nat_tests)

fits_by : (op : Op32) (rd rs1 rs2 : ℕ) (imm : ℤ) (b : Bool) (e : b ≡ row_fits (row_of op) rd rs1 rs2 imm) (w : ℕ) → word_by (with_fit op rd rs1 rs2 imm b e) ≡ Ok w → b ≡ true
fits_by op rd rs1 rs2 imm true e w h = refl
fits_by op rd rs1 rs2 imm false e w h = cc

zero_word : (op : Op32) (rd rs1 rs2 : ℕ) (imm : ℤ) (w : ℕ) → word_for op rd rs1 rs2 imm ≡ Ok w → (v : ℕ) × (word_for op rd rs1 rs2 (pos 0) ≡ Ok v)
unfolding word_for
zero_word op rd rs1 rs2 imm w h =
    fitting_word op rd rs1 rs2 (pos 0) (zero_fits op rd rs1 rs2 imm (fits_by op rd rs1 rs2 imm (row_fits (row_of op) rd rs1 rs2 imm) refl w h))

one_parts : (r : Result ℕ AsmKind) (code : Code) → one r ≡ Ok code → (w : ℕ) × (r ≡ Ok w) × (code ≡ One w)
one_parts (Ok w) code h = (w, refl, cc)
one_parts (Err kind) code h = cc

two_parts : (r s : Result ℕ AsmKind) (code : Code) → two r s ≡ Ok code → (v w : ℕ) × (r ≡ Ok v) × (s ≡ Ok w) × (code ≡ Two v w)
two_parts (Ok v) (Ok w) code h = (v, w, refl, refl, cc)
two_parts (Ok v) (Err kind) code h = cc
two_parts (Err kind) s code h = cc

abbrev SameSize : Result Code AsmKind → Code → Type 0
SameSize r code = size_by r ≡ length (words_in code)

own_size : (r : Result Code AsmKind) (code : Code) → r ≡ Ok code → SameSize r code
own_size r code h = ap size_by h

-- an offset, beside these registers
abbrev placed : Op32 → ℕ → ℕ → ℕ → Result ℤ AsmKind → Result Code AsmKind
placed op rd rs1 rs2 offset = op_by op (beside rd rs1 rs2 offset)

placed_zero : (op : Op32) (rd rs1 rs2 : ℕ) (offset : ℤ) (code : Code) → placed op rd rs1 rs2 (Ok offset) ≡ Ok code → SameSize (placed op rd rs1 rs2 (Ok (pos 0))) code
placed_zero op rd rs1 rs2 offset code h =
    let parts = one_parts (word_for op rd rs1 rs2 offset) code h in
    let zero = zero_word op rd rs1 rs2 offset parts.0 parts.1 in
    ap (λ (r : Result ℕ AsmKind). size_by (one r)) zero.1 ∙ ap (λ (c : Code). length (words_in c)) (sym parts.2)

placed_label : (op : Op32) (rd rs1 rs2 here : ℕ) (o p : Option ℕ) (code : Code) → ((address : ℕ) → o ≡ Some address → p ≡ Some 0)
    → placed op rd rs1 rs2 (offset_by here o) ≡ Ok code → SameSize (placed op rd rs1 rs2 (offset_by 0 p)) code
placed_label op rd rs1 rs2 here None p code there h = cc
placed_label op rd rs1 rs2 here (Some address) p code there h =
    ap (λ (x : Option ℕ). size_by (placed op rd rs1 rs2 (offset_by 0 x))) (there address refl)
    ∙ placed_zero op rd rs1 rs2 (pos address -ℤ pos here) code h

placed_size : (known places : List (List ℕ × ℕ)) → Covers known places → (op : Op32) (rd rs1 rs2 here : ℕ) (target : Arg) (code : Code)
    → placed op rd rs1 rs2 (offset_of places here target) ≡ Ok code → SameSize (placed op rd rs1 rs2 (offset_of known 0 target)) code
placed_size known places c op rd rs1 rs2 here (Num offset) code h = own_size _ code h
placed_size known places c op rd rs1 rs2 here (Name label) code h =
    placed_label op rd rs1 rs2 here (address_of label places) (address_of label known) code (c.at label) h
placed_size known places c op rd rs1 rs2 here (Reg n) code h = cc
placed_size known places c op rd rs1 rs2 here (Mem z n) code h = cc

same_placed : (op : Op32) (rd rs1 : ℕ) (offset : Result ℤ AsmKind) → target_code op rd rs1 offset ≡ placed op rd rs1 0 offset
same_placed op rd rs1 (Ok offset) = refl
same_placed op rd rs1 (Err kind) = refl

target_size : (known places : List (List ℕ × ℕ)) → Covers known places → (op : Op32) (rd rs1 here : ℕ) (target : Arg) (code : Code)
    → target_code op rd rs1 (offset_of places here target) ≡ Ok code → SameSize (target_code op rd rs1 (offset_of known 0 target)) code
target_size known places c op rd rs1 here target code h =
    ap size_by (same_placed op rd rs1 (offset_of known 0 target))
    ∙ placed_size known places c op rd rs1 0 here target code (sym (same_placed op rd rs1 (offset_of places here target)) ∙ h)

address_size : (rd address : ℕ) (code : Code) → address_code rd address ≡ Ok code → SameSize (address_code rd 0) code
unfolding address_code
address_size rd address code h =
    let parts = two_parts (word_for Lui rd 0 0 (high_part address)) (word_for Addi rd rd 0 (low_part address)) code h in
    let first = zero_word Lui rd 0 0 (high_part address) parts.0 parts.2 in
    let second = zero_word Addi rd rd 0 (low_part address) parts.1 parts.3 in
    ap (λ (r : Result ℕ AsmKind). size_by (two r (word_for Addi rd rd 0 (pos 0)))) first.1
    ∙ ap (λ (r : Result ℕ AsmKind). size_by (two (Ok first.0) r)) second.1 ∙ ap (λ (c : Code). length (words_in c)) (sym parts.4)

label_size : (rd : ℕ) (o p : Option ℕ) (code : Code) → ((address : ℕ) → o ≡ Some address → p ≡ Some 0) → label_code rd o ≡ Ok code → SameSize (label_code rd p) code
label_size rd None p code there h = cc
label_size rd (Some address) p code there h = ap (λ (x : Option ℕ). size_by (label_code rd x)) (there address refl) ∙ address_size rd address code h

branch_size : (known places : List (List ℕ × ℕ)) → Covers known places → (op : Op32) (here : ℕ) (args : List Arg) (code : Code)
    → op_by op (branch_fields places here args) ≡ Ok code → SameSize (op_by op (branch_fields known 0 args)) code
branch_size known places c op here (Reg rs1 ∷ Reg rs2 ∷ target ∷ []) code h = placed_size known places c op 0 rs1 rs2 here target code h
branch_size known places c op here _ code h = cc

jump_size : (known places : List (List ℕ × ℕ)) → Covers known places → (op : Op32) (here : ℕ) (args : List Arg) (code : Code)
    → op_by op (jump_fields places here args) ≡ Ok code → SameSize (op_by op (jump_fields known 0 args)) code
jump_size known places c op here (Reg rd ∷ target ∷ []) code h = placed_size known places c op rd 0 0 here target code h
jump_size known places c op here _ code h = cc

form_size : (known places : List (List ℕ × ℕ)) → Covers known places → (form : Form) (op : Op32) (here : ℕ) (args : List Arg) (code : Code)
    → op_by op (fields_of form places here args) ≡ Ok code → SameSize (op_by op (fields_of form known 0 args)) code
form_size known places c Branch op here args code h = branch_size known places c op here args code h
form_size known places c Jump op here args code h = jump_size known places c op here args code h
form_size known places c Registers op here args code h = own_size _ code h
form_size known places c _ op here args code h = own_size _ code h

pseudo_size : (known places : List (List ℕ × ℕ)) → Covers known places → (pseudo : Pseudo) (here : ℕ) (args : List Arg) (code : Code)
    → pseudo_code pseudo places here args ≡ Ok code → SameSize (pseudo_code pseudo known 0 args) code
pseudo_size known places c Nop here [] code h = own_size _ code h
pseudo_size known places c Mv here (Reg rd ∷ Reg rs ∷ []) code h = own_size _ code h
pseudo_size known places c Li here (Reg rd ∷ Num number ∷ []) code h = own_size _ code h
pseudo_size known places c La here (Reg rd ∷ Name label ∷ []) code h =
    label_size rd (address_of label places) (address_of label known) code (c.at label) h
pseudo_size known places c J here (target ∷ []) code h = target_size known places c Jal 0 0 here target code h
pseudo_size known places c Call here (target ∷ []) code h = target_size known places c Jal 1 0 here target code h
pseudo_size known places c Ret here [] code h = own_size _ code h
pseudo_size known places c Beqz here (Reg rs ∷ target ∷ []) code h = target_size known places c Beq 0 rs here target code h
pseudo_size known places c Bnez here (Reg rs ∷ target ∷ []) code h = target_size known places c Bne 0 rs here target code h
pseudo_size known places c _ here _ code h = cc

code_size : (known places : List (List ℕ × ℕ)) → Covers known places → (o : Option Op32) (p : Option Pseudo) (here : ℕ) (args : List Arg) (code : Code)
    → code_by o p places here args ≡ Ok code → SameSize (code_by o p known 0 args) code
code_size known places c (Some op) p here args code h = form_size known places c (form_of op) op here args code h
code_size known places c None (Some pseudo) here args code h = pseudo_size known places c pseudo here args code h
code_size known places c None None here args code h = cc

-- a line has as many words with its labels at 0
pub body_size : (known places : List (List ℕ × ℕ)) → Covers known places → (here : ℕ) (body : Body) (code : Code)
    → code_of places here body ≡ Ok code → size_by (code_of known 0 body) ≡ length (words_in code)
body_size known places c here Empty code h = own_size _ code h
body_size known places c here (Word w) code h = own_size _ code h
body_size known places c here (Ins name args) code h = code_size known places c (op_named name) (pseudo_named name) here args code h
