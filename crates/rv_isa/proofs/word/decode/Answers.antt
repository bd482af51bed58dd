use Rattle.std.proofs.Common.{◌≡◌, ℕ, ◌<◌, ◌^◌, Some, ◌∙◌, rules, subst, sym}
use Rattle.rv_isa.specs.Table.{row_of, row_word}
use Rattle.rv_isa.specs.Fields.{rd_in, rs1_in, rs2_in, imm_in}
use Rattle.rv_isa.specs.Word.{word_of}
use Rattle.rv_isa.specs.declared.op.Op32.{Op32}
use Rattle.rv_isa.specs.declared.instr.Instr.{Instr}
use Rattle.rv_isa.proofs.DecodeLaw.{decode_of-word, decode_of-none}
use Rattle.rv_isa.proofs.Words.{word_in}
use Rattle.rv_isa.proofs.Fields.{op_found-matches}
use Rattle.rv_isa.proofs.word.decode.Goals as goal

pub read_fields-requires : goal.read_fields-requires
read_fields-requires c = op_found-matches c.args.word c.in_ok-op.op (sym c.in_ok-op.ensures)

pub returns-in_err-op : goal.returns-in_err-op
returns-in_err-op c =
    let none = c.from_residual.ensures ∙ sym (decode_of-none c.args.word (sym c.in_err-op.ensures)) in
    record { value = none; row = λ i. subst (λ o. (o ≡ Some i → word_of i ≡ c.args.word) × (word_of i ≡ c.args.word → o ≡ Some i)) (sym none) (decode_of-word c.args.word i) }

-- an instruction with the fields that a word has under its row has that word
by_fields : (j : Instr) (op : Op32) (w : ℕ) → j.op ≡ op → j.rd ≡ rd_in (row_of op) w → j.rs1 ≡ rs1_in (row_of op) w → j.rs2 ≡ rs2_in (row_of op) w → j.imm ≡ imm_in (row_of op) w → word_of j ≡ row_word (row_of op) (rd_in (row_of op) w) (rs1_in (row_of op) w) (rs2_in (row_of op) w) (imm_in (row_of op) w)
by_fields j op w e rd rs1 rs2 imm = cc

pub returns : goal.returns
returns c =
    let f = c.read_fields.ensures in
    let small : c.args.word < 2 ^ 32 = search rules in
    let word : word_of c.read_fields.result ≡ c.args.word =
    by_fields c.read_fields.result c.in_ok-op.op c.args.word f.op_is f.rd_is f.rs1_is f.rs2_is f.imm_is
    ∙ word_in (row_of c.in_ok-op.op) c.args.word small (op_found-matches c.args.word c.in_ok-op.op (sym c.in_ok-op.ensures)) in
    let some = sym ((decode_of-word c.args.word c.read_fields.result).1 word) in
    record { value = some; row = λ i. subst (λ o. (o ≡ Some i → word_of i ≡ c.args.word) × (word_of i ≡ c.args.word → o ≡ Some i)) (sym some) (decode_of-word c.args.word i) }
