use Rattle.std.proofs.Common.{◌∙◌, ap, arith}
use Rattle.tn_base.specs.Parts.{board_at}
use Rattle.job_faults.specs.Tables.{table_for}
use Rattle.job_text.proofs.Sections.{tables_are}
use Rattle.job_faults.proofs.Boards.{all_tables, boards_long, more_tables, tables_few}
use Rattle.job_faults.proofs.tables.tables_of.Goals as goal

pub loop-i-preserved : goal.loop-i-preserved
loop-i-preserved c =
    let board = c.board_at.ensures ∙ ap (λ n. board_at n c.loop-i.i) c.requires.numbers in
    let made = c.in_ok-table_for.ensures ∙ ap (table_for c.args.job.now) board in
    let more = more_tables (λ k. table_for c.args.job.now (board_at c.args.job.now.numbers k)) c.loop-i.i c.board_count-count.result c.loop-i.boards.items c.in_ok-table_for.field-0 (omega arith) made in
    rw c.in_ok-push.ensures.items (more ∙ c.loop-i.invariant)

pub of-requires-clause-few : goal.of-requires-clause-few
of-requires-clause-few c =
    let made = all_tables c.args.job.now c.loop-i.i c.board_count-count.result c.loop-i.boards.items (rw c.requires.numbers at c.board_count-count.ensures.value) (omega arith) c.loop-i.invariant in
    let long = boards_long c.args.job.now c.loop-i.boards.items made in
    let count = rw c.requires.numbers at c.board_count-count.ensures.value in
    omega (arith, long, count, c.board_count-count.ensures.few)

pub of-requires-clause-short : goal.of-requires-clause-short
of-requires-clause-short c =
    let made = all_tables c.args.job.now c.loop-i.i c.board_count-count.result c.loop-i.boards.items (rw c.requires.numbers at c.board_count-count.ensures.value) (omega arith) c.loop-i.invariant in
    λ i. rw made (tables_few c.args.job.now (tables_are c.args.job.now c.requires.formed.sections) i)

pub returns : goal.returns
returns c =
    c.of.ensures ∙ all_tables c.args.job.now c.loop-i.i c.board_count-count.result c.loop-i.boards.items (rw c.requires.numbers at c.board_count-count.ensures.value) (omega arith) c.loop-i.invariant
