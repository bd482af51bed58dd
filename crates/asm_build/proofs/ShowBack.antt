-- The canonical line of a word is read and assembled to the word.
use Rattle.std.proofs.Common.{◌≡◌, ℕ, pos, ◌^◌, ◌<◌, ◌/◌, ◌%◌, ◌&&◌, eqb, ⊎_elim, true, List, [], ◌∷◌, ◌++◌, Option, Some, None, length, drop, codes, refl, sym, ap, ◌∙◌, subst, arith}
use Rattle.std.specs.declared.result.Result.{Result}
use Rattle.std.specs.declared.result.Result.TheVariants.{Ok}
use Rattle.std.specs.List.{list_all}
use Rattle.std.proofs.lemmas.List.{drop_at}
use Rattle.std.specs.Str.Parse.{digits_value}
use Rattle.std.proofs.lemmas.Bool.{cases_Bool, and_parts, eqb-true, lt-ltb}
use Rattle.tn_text.specs.declared.numbers.Numeral.TheVariants.{Value}
use Rattle.tn_text.specs.Hex.{is_hex_digit, hex_word_of, hex_word_text}
use Rattle.tn_text.specs.Numbers.{numeral_of, signed_number_of, positive}
use Rattle.tn_text.proofs.Clean.{IsLine, content_line_is, plain_line, some_bytes, trimmed_behind, without_front_is}
use Rattle.tn_text.proofs.Printed.{hex_word_read_back}
use Rattle.tn_text.proofs.Says.{line_said}
use Rattle.tn_text.specs.Content.{trimmed}
use Rattle.tn_text.specs.Words.{is_some_text}
use Rattle.rv_isa.specs.Decode.{decode_of}
use Rattle.rv_isa.specs.Word.{word_of}
use Rattle.rv_isa.specs.declared.instr.Instr.{Instr}
use Rattle.rv_isa.specs.declared.op.Op32.{Op32}
use Rattle.rv_isa.specs.declared.op.Op32.TheVariants.{Lui}
use Rattle.rv_isa.proofs.DecodeLaw.{instr_of-fields, decode_of-word}
use Rattle.asm_text.specs.declared.fault.AsmKind.{AsmKind}
use Rattle.asm_text.specs.declared.fault.AsmKind.TheVariants.{BadLine}
use Rattle.asm_text.specs.declared.line.Arg.{Arg}
use Rattle.asm_text.specs.declared.line.Body.{Body}
use Rattle.asm_text.specs.declared.line.Body.TheVariants.{Ins, Word}
use Rattle.asm_text.specs.declared.line.Line.{Line}
use Rattle.asm_text.specs.Arguments.{arg_of, arg_before, args_of, args_in}
use Rattle.tn_text.specs.Cut.{parts_at}
use Rattle.asm_text.specs.Statement.{word_by as word_number_by, word_body, named, instruction_of, body_by, body_of, with_body, labelled, line_by, line_of}
use Rattle.asm_build.specs.declared.code.Code.TheVariants.{One}
use Rattle.asm_build.specs.Code.{word_by, word_for, one, op_by, code_by, code_of}
use Rattle.asm_build.specs.Fields.{fields_of}
use Rattle.asm_build.specs.Shown.{more_operands, operand_text, text_of, operands_of, shown_instr, unknown_text, shown_by, shown}
use Rattle.asm_build.specs.Spelling.{name_of, form_of, op_named, pseudo_named}
use Rattle.asm_build.proofs.Tight.{IsTight, AreTight, text_line, text_words, more_line, no_label, word_trimmed, word_trimmed_behind, behind_space, parts_are}
use Rattle.asm_build.proofs.Operands.{char_tight}
use Rattle.asm_build.proofs.FieldsBack.{fits_form, form_args, fields_with, form_fields, Reads, form_reads}

-- Arguments.

tight_from : (texts : List (List ℕ)) (args : List Arg) → Reads texts args → AreTight texts
tight_from [] [] h = tt
tight_from [] (a ∷ more) h = absurd h
tight_from (t ∷ ts) [] h = absurd h
tight_from (t ∷ ts) (a ∷ more) h = (h.0.tight, tight_from ts more h.1)

behind_back : (texts : List (List ℕ)) (args : List Arg) → Reads texts args → args_of (behind_space texts) ≡ Ok args
behind_back [] [] h = refl
behind_back [] (a ∷ more) h = absurd h
behind_back (t ∷ ts) [] h = absurd h
behind_back (t ∷ ts) (a ∷ more) h =
    let here : arg_of (trimmed (32 ∷ t)) ≡ Ok a = ap arg_of (word_trimmed_behind t h.0.tight) ∙ h.0.arg_is in
    ap (λ (r : Result Arg AsmKind). arg_before r (args_of (behind_space ts))) here
    ∙ ap (λ (r : Result (List Arg) AsmKind). arg_before (Ok a) r) (behind_back ts more h.1)

args_from : (text : List ℕ) → is_some_text text ≡ true → args_in text ≡ args_of (parts_at 44 text)
args_from [] h = cc
args_from (b ∷ bs) h = refl

some_front : (w rest : List ℕ) → IsTight w → is_some_text (w ++ rest) ≡ true
some_front [] rest h = let e = h.some in cc
some_front (b ∷ bs) rest h = refl

-- the arguments after the name, without the space
args_back : (texts : List (List ℕ)) (args : List Arg) → Reads texts args → args_in (trimmed (operand_text texts)) ≡ Ok args
args_back [] [] h = refl
args_back [] (a ∷ more) h = absurd h
args_back (t ∷ ts) [] h = absurd h
args_back (t ∷ ts) (a ∷ more) h =
    let rest = t ++ more_operands ts in
    let tight = tight_from ts more h.1 in
    let here : arg_of (trimmed t) ≡ Ok a = ap arg_of (word_trimmed t h.0.tight) ∙ h.0.arg_is in
    ap args_in (trimmed_behind rest (more_line t ts h.0.tight tight))
    ∙ args_from rest (some_front t (more_operands ts) h.0.tight)
    ∙ ap args_of (parts_are t ts h.0.tight tight)
    ∙ ap (λ (r : Result Arg AsmKind). arg_before r (args_of (behind_space ts))) here
    ∙ ap (λ (r : Result (List Arg) AsmKind). arg_before (Ok a) r) (behind_back ts more h.1)

-- Lines.

body_text : (name : List ℕ) (texts : List (List ℕ)) → IsTight name → AreTight texts → body_of (text_of name texts) ≡ instruction_of name (trimmed (operand_text texts))
body_text name texts h hs =
    let text = text_of name texts in
    ap (body_by text) (text_words name texts h hs)
    ∙ ap (λ (t : List ℕ). instruction_of name (trimmed (drop (length name) t))) (without_front_is text (text_line name texts h hs))
    ∙ ap (λ (t : List ℕ). instruction_of name (trimmed t)) (drop_at name (operand_text texts) (length name) refl)

-- a line without a label
abbrev pub line_with : ℕ → Body → Line
line_with number body = record { number = number; label = None; body = body }

-- a text is one line, which says a body of one word, at whatever address
pub record Shows (text : List ℕ) (body : Body) (word : ℕ) : Type 0 where
  pub line : IsLine text
  pub reads : (number : ℕ) → line_of number text ≡ Ok (Some (line_with number body))
  pub code : (here : ℕ) → code_of [] here body ≡ Ok (One word)

-- a name with its arguments is one word, where its body is
text_shows : (name : List ℕ) (texts : List (List ℕ)) (body : Body) (word : ℕ) → IsTight name → AreTight texts
    → instruction_of name (trimmed (operand_text texts)) ≡ Ok body → ((here : ℕ) → code_of [] here body ≡ Ok (One word)) → Shows (text_of name texts) body word
text_shows name texts body word h hs is code =
    let text = text_of name texts in
    let line = text_line name texts h hs in
    record {
      line = line;
      reads = λ number. line_said BadLine (line_by number) text text (line_with number body) (plain_line text line) (sym (content_line_is text line))
          (some_bytes text line.begins)
          (ap (labelled number text) (no_label name texts h hs) ∙ ap (with_body number None) (body_text name texts h hs ∙ is));
      code = code;
    }

-- Names.

name_tight : (op : Op32) → IsTight (name_of op)
name_tight Lui = record { bytes = refl; some = refl }
name_tight _ = record { bytes = refl; some = refl }

name_ins : (op : Op32) (operands : List ℕ) → instruction_of (name_of op) operands ≡ named (name_of op) (args_in operands)
name_ins Lui operands = refl
name_ins _ operands = refl

op_back : (op : Op32) → op_named (name_of op) ≡ Some op
unfolding op_named
op_back Lui = refl
op_back _ = refl

-- Instructions.

word_back : (i : Instr) → word_for i.op i.rd i.rs1 i.rs2 i.imm ≡ Ok (word_of i)
unfolding word_for
word_back i = ap word_by (sym (instr_of-fields i i.op i.rd i.rs1 i.rs2 i.imm refl refl refl refl refl))

code_back : (i : Instr) (here : ℕ) (args : List Arg) → fields_of (form_of i.op) [] here args ≡ Ok (fields_with i.rd i.rs1 i.rs2 i.imm)
    → code_of [] here (Ins (name_of i.op) args) ≡ Ok (One (word_of i))
code_back i here args h =
    ap (λ (o : Option Op32). code_by o (pseudo_named (name_of i.op)) [] here args) (op_back i.op) ∙ ap (op_by i.op) h ∙ ap one (word_back i)

abbrev pub instr_body : Instr → Body
instr_body i = Ins (name_of i.op) (form_args (form_of i.op) i.rd i.rs1 i.rs2 i.imm)

instr_shows : (i : Instr) → Shows (shown_instr i) (instr_body i) (word_of i)
instr_shows i =
    let fits = fits_form i.op i.rd i.rs1 i.rs2 i.imm i.fits in
    let form = form_of i.op in
    let texts = operands_of form i in
    let args = form_args form i.rd i.rs1 i.rs2 i.imm in
    let reads = form_reads form i fits in
    text_shows (name_of i.op) texts (instr_body i) (word_of i) (name_tight i.op) (tight_from texts args reads)
    (name_ins i.op (trimmed (operand_text texts)) ∙ ap (named (name_of i.op)) (args_back texts args reads))
    (λ here. code_back i here args (form_fields form here i.rd i.rs1 i.rs2 i.imm fits))

-- Words of no instruction.

eight_digits : (text : List ℕ) (word : ℕ) → hex_word_of text ≡ Some word → word < 2 ^ 32 → numeral_of 16 text ≡ Value word
eight_digits text word h small =
    ⊎_elim (λ e.
    let both = and_parts (eqb (length text) 8) (list_all is_hex_digit text) e in
    let k : Some (digits_value 16 text) ≡ Some word = rw e at h in
    let value : digits_value 16 text ≡ word = cc in
    let long : length text ≡ 8 = eqb-true (length text) 8 both.0 in
    let fits = lt-ltb word (2 ^ 32) small in
    let all = both.1 in
    rw (long, all, value, fits) refl)
    (λ e. let k : None ≡ Some word = rw e at h in cc) (cases_Bool (eqb (length text) 8 && list_all is_hex_digit text))

abbrev word_operand : ℕ → List ℕ
word_operand word = codes "0x" ++ hex_word_text word

operand_number : (word : ℕ) → word < 2 ^ 32 → signed_number_of (word_operand word) ≡ Value (pos word)
operand_number word h = ap positive (eight_digits (hex_word_text word) word (hex_word_read_back word h) h)

operand_tight : (word : ℕ) → word < 2 ^ 32 → IsTight (word_operand word)
operand_tight word h =
    let a = char_tight (word / 2 ^ 24 / 16) (omega arith) in let b = char_tight (word / 2 ^ 24 % 16) (omega arith) in
    let c = char_tight (word / 2 ^ 16 % 256 / 16) (omega arith) in let d = char_tight (word / 2 ^ 16 % 256 % 16) (omega arith) in
    let e = char_tight (word / 2 ^ 8 % 256 / 16) (omega arith) in let f = char_tight (word / 2 ^ 8 % 256 % 16) (omega arith) in
    let g = char_tight (word % 256 / 16) (omega arith) in let k = char_tight (word % 256 % 16) (omega arith) in
    record { bytes = rw (a, b, c, d, e, f, g, k) refl; some = refl }

unknown_shows : (word : ℕ) → word < 2 ^ 32 → Shows (unknown_text word) (Word word) word
unknown_shows word h =
    let text = word_operand word in
    let tight = operand_tight word h in
    let same : word % 2 ^ 32 ≡ word = omega arith in
    let is : instruction_of (codes ".word") (trimmed (operand_text (text ∷ []))) ≡ Ok (Word word) =
    ap (λ (t : List ℕ). word_body t) (word_trimmed_behind text tight) ∙ ap word_number_by (operand_number word h) ∙ ap (λ (n : ℕ). Ok (Word n)) same in
    text_shows (codes ".word") (text ∷ []) (Word word) word (record { bytes = refl; some = refl }) (tight, tt) is (λ here. refl)

-- Words.

-- what the line of a word says
abbrev pub body_shown : ℕ → Option Instr → Body
body_shown word (Some i) = instr_body i
body_shown word None = Word word

shows_by : (word : ℕ) (o : Option Instr) → decode_of word ≡ o → word < 2 ^ 32 → Shows (shown_by word o) (body_shown word o) word
shows_by word (Some i) e h = subst (λ (w : ℕ). Shows (shown_instr i) (instr_body i) w) ((decode_of-word word i).0 e) (instr_shows i)
shows_by word None e h = unknown_shows word h

pub shows : (word : ℕ) → word < 2 ^ 32 → Shows (shown word) (body_shown word (decode_of word)) word
shows word h = shows_by word (decode_of word) refl h
