use Rattle.std.proofs.Common.{◌+◌, ◌++◌, sym, ◌∙◌}
use Rattle.polite_routes.specs.Pack.{pack}
use Rattle.polite_routes.proofs.Filled.{Filling, filling_as, filling_fits, filling_next}
use Rattle.polite_routes.proofs.draft.BeatList.fill.Goals.{then-not-is_beat+in_ok-push, else-not-is_beat}
use Rattle.polite_routes.proofs.draft.BeatList.fill.Goals as goal

pub loop-end-preserved : goal.loop-end-preserved
loop-end-preserved c =
    let f : Filling c.if-not-is_beat.self (c.args.self.now ++ pack c.args.records.now) c.args.records.now c.if-not-is_beat.start (c.loop-end.end + 1) = elim c.if-not-is_beat.branch [
      | then-not-is_beat+in_ok-push w ↦
          filling_as _ _ _ _ _ _ _ w.self-is w.start-is
          (filling_next c.loop-end.self w.push.new.self (c.args.self.now ++ pack c.args.records.now) c.args.records.now c.loop-end.start c.loop-end.end c.loop-end.invariant.order c.loop-end-test.true (sym c.is_beat.ensures ∙ w.if-not-is_beat.true) c.requires
          w.in_ok-push.ensures c.loop-end.invariant.so_far)
      | else-not-is_beat w ↦
          filling_as _ _ _ _ _ _ _ w.self-is w.start-is
          (filling_fits c.loop-end.self (c.args.self.now ++ pack c.args.records.now) c.args.records.now c.loop-end.start c.loop-end.end c.loop-end.invariant.order c.loop-end-test.true (sym c.is_beat.ensures ∙ w.if-not-is_beat.false) c.loop-end.invariant.so_far)
    ] in record { so_far = f.so_far; beat = f.beat; order = f.order }
