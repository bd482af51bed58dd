use Rattle.std.proofs.Common.{ℕ, List, ◌≡◌, ◌∙◌, sym, arith, add-one, refl, subst}
use Rattle.tn_reach.specs.Marks.{Next}
use Rattle.tn_reach.proofs.Rounding.{marked_first, marked_last, marked_next}
use Rattle.tn_reach.proofs.rounds.gather.Goals as goal

pub loop-round-init : goal.loop-round-init
loop-round-init c = marked_first c.args.measure c.args.shape.now c.args.tables.now c.in_ok-marks.marks.items c.in_ok-marks.ensures

pub returns-then-same_marks : goal.returns-then-same_marks
returns-then-same_marks c =
    let next : Next c.args.measure c.args.shape.now c.args.tables.now c.loop-round.marks.items c.in_ok-next.next.items =
    let P : List (List ℕ) → Type 0 = λ ms. Next c.args.measure c.args.shape.now c.args.tables.now ms c.in_ok-next.next.items in subst P c.as_slice.ensures.value c.in_ok-next.ensures in
    let same : c.in_ok-next.next.items ≡ c.loop-round.marks.items = sym c.as_slice-in-loop-round.ensures.value ∙ c.if-same_marks.ensures refl ∙ c.as_slice-in-loop-round-2.ensures.value in
    marked_last c.args.measure c.loop-round._round 64 c.args.shape.now c.args.tables.now c.loop-round.marks.items c.in_ok-next.next.items c.numbers-numbers.ensures.limits.boards_x.0 c.requires (omega arith) c.loop-round.invariant next same

pub loop-round-preserved : goal.loop-round-preserved
loop-round-preserved c =
    let next : Next c.args.measure c.args.shape.now c.args.tables.now c.loop-round.marks.items c.in_ok-next.next.items =
    let P : List (List ℕ) → Type 0 = λ ms. Next c.args.measure c.args.shape.now c.args.tables.now ms c.in_ok-next.next.items in subst P c.as_slice.ensures.value c.in_ok-next.ensures in
    rw add-one (marked_next c.args.measure c.loop-round._round c.args.shape.now c.args.tables.now c.loop-round.marks.items c.in_ok-next.next.items c.numbers-numbers.ensures.limits.boards_x.0 c.requires c.loop-round.invariant next)
