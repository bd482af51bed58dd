use Rattle.std.proofs.Common.{◌≤◌, ◌+◌, ◌≡◌, ◌/◌, ◌∙◌, ap, arith, slice_get, subst, sym, Some}
use Rattle.tn_thread.specs.declared.thread.Thread.{Thread}
use Rattle.tn_tile.specs.Step.{fetched_at}
use Rattle.tn_tile.proofs.Asked.{asked_again, asked_next}
use Rattle.tn_tile.proofs.Runs.{further, further_none, goes_is, went_is}
use Rattle.tn_tile.proofs.alone.run_code.Goals as goal

pub loop-made-init : goal.loop-made-init
loop-made-init g c = (omega arith, omega arith, further_none c.args.code.now (g.V.View.sight c.args.sight.now) c.args.thread.now c.pc-pc.result c.pc-pc.ensures)

pub loop-made-preserved : goal.loop-made-preserved
loop-made-preserved g c =
    let step = goes_is c.step_alone.result _ c.loop-made.thread c.step_alone.new.thread c.in-Some.next c.step_alone.ensures.step c.in-Some.is in (
      omega arith,
      (let used : c.loop-made.stock ≤ c.step_alone.new.stock + 1 = rw c.in-Some.is at c.step_alone.ensures.stock in omega arith),
      further c.loop-made.made c.args.code.now (g.V.View.sight c.args.sight.now) c.args.thread.now c.loop-made.thread c.step_alone.new.thread c.loop-made.pc c.in-Some.next c.loop-made.invariant.2 step,
    )

pub returns-in_default-clause-steps : goal.returns-in_default-clause-steps
returns-in_default-clause-steps g c =
    let n = c.loop-made.made in
    let pc = c.loop-made.pc in
    let t = c.loop-made.thread in
    let code = c.args.code.now in
    let seen = g.V.View.sight c.args.sight.now in
    let mid = c.fetch_at-effect.new.thread in
    let asked = asked_again (slice_get code (pc / 4)) c.fetch_at-effect.result seen n pc t c.step_alone.new.thread mid (rw c.in_default.is at c.step_alone.ensures.step) (rw c.catch_up.ensures at c.fetch_at-effect.ensures.row) in
    went_is n code seen c.args.thread.now t pc c.loop-made.invariant.2 ∙ ap (λ (x : Thread). Some x) (sym asked.1)

pub returns-in_default-clause-next : goal.returns-in_default-clause-next
returns-in_default-clause-next g c =
    let n = c.loop-made.made in
    let pc = c.loop-made.pc in
    let t = c.loop-made.thread in
    let code = c.args.code.now in
    let seen = g.V.View.sight c.args.sight.now in
    let e = c.fetch_at-effect.result in
    let mid = c.fetch_at-effect.new.thread in
    let asked = asked_again (slice_get code (pc / 4)) e seen n pc t c.step_alone.new.thread mid (rw c.in_default.is at c.step_alone.ensures.step) (rw c.catch_up.ensures at c.fetch_at-effect.ensures.row) in
    let next = subst (λ (x : Thread). fetched_at (slice_get code (x.pc / 4)) x ≡ record { thread = x; effect = e }) (sym asked.1) (asked_next (slice_get code (pc / 4)) e n pc t asked.0) in
    (c.loop-made-test.true, (next, c.fetch_at-effect.ensures.fits))
