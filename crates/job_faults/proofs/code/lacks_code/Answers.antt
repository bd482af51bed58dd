use Rattle.std.proofs.Common.{◌≡◌, ◌++◌, ◌∙◌, sym, true, false, arith}
use Rattle.tn_base.specs.Parts.{tile_at, tile_count}
use Rattle.job_faults.specs.Code.{code_of, is_empty}
use Rattle.job_faults.proofs.Ranges.{any_behind, any_here}
use Rattle.job_faults.proofs.code.lacks_code.Goals as goal

pub returns-then-is_empty : goal.returns-then-is_empty
returns-then-is_empty c =
    let e : is_empty (code_of (c.args.codes.now ++ c.args.asms.now) (tile_at c.args.shape.now c.loop-i.i)) ≡ true = rw (← c.tile_at.ensures, ← c.code_of.ensures, ← c.is_empty.ensures) c.if-is_empty.true in
    sym (any_here (λ i. is_empty (code_of (c.args.codes.now ++ c.args.asms.now) (tile_at c.args.shape.now i))) c.loop-i.i (tile_count c.args.shape.now) (omega arith) e) ∙ c.loop-i.invariant

pub loop-i-preserved : goal.loop-i-preserved
loop-i-preserved c =
    let e : is_empty (code_of (c.args.codes.now ++ c.args.asms.now) (tile_at c.args.shape.now c.loop-i.i)) ≡ false = rw (← c.tile_at.ensures, ← c.code_of.ensures, ← c.is_empty.ensures) c.if-is_empty.false in
    any_behind (λ i. is_empty (code_of (c.args.codes.now ++ c.args.asms.now) (tile_at c.args.shape.now i))) c.loop-i.i (tile_count c.args.shape.now) (omega arith) e ∙ c.loop-i.invariant
