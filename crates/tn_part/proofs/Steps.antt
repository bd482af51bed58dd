-- Turns of a number of steps.
use Rattle.std.proofs.Common.{◌≡◌, ◌∙◌, ℕ, zero, suc, ◌<◌, ◌≤◌, ◌&&◌, Bool, true, false, cond, None, Some, refl, ap, sym, arith, leb}
use Rattle.std.specs.declared.option.Option.{Option}
use Rattle.std.proofs.lemmas.Bool.Decides.{nat_tests}
use Rattle.tn_base.specs.Address.{place_in_tile}
use Rattle.tn_part.specs.Turning.{TileTurnsUpTo}
use Rattle.tn_tile.proofs.Steps.{steps_none, steps_stop}
use Rattle.tn_tile.specs.Rows.{can_count, is_here, turn_row}
use Rattle.tn_tile.specs.Step.{can_step, stepped, steps_of}
use Rattle.tn_tile.specs.declared.state.TileState.{TileState}
use Rattle.tn_tile.specs.TileView.{TilePlan, TileView, now_by, with_now}
use Rattle.tn_tile.specs.Turns.{StepsUpTo}
use Rattle.tn_tile.specs.declared.step.Turned.TheVariants as turned

at_least : (n m : ℕ) → n ≤ m → leb n m ≡ true
at_least n m h = grind (arith, nat_tests)

-- a turn of a number of steps that may be made
pub turn_row_is : (plan : TilePlan) (a n : ℕ) (s : TileState) → is_here plan a ≡ true → 1 ≤ n → n ≤ plan.shape.turn → can_count s ≡ true → turn_row plan a n s ≡ steps_of plan (place_in_tile plan.shape a) n s
turn_row_is plan a n s here low high counts = rw (here, at_least 1 n low, at_least n plan.shape.turn high, counts) refl

none_both : {A : Type 0} (b : Bool) (o : Option A) → o ≡ None → cond b o None ≡ None
none_both true o e = e
none_both false o e = refl

-- as many steps as can be made are fewer: there is no such turn
pub no_turn : (plan : TilePlan) (a n made : ℕ) (s t : TileState) → steps_of plan (place_in_tile plan.shape a) made s ≡ Some t → made < n → can_step plan.shape.fuel (place_in_tile plan.shape a) t ≡ false → turn_row plan a n s ≡ None
no_turn plan a n made s t e less stops = none_both _ _ (steps_stop plan (place_in_tile plan.shape a) made n s t e stops less)

-- all steps are made: there is this turn
pub turn_done : (plan : TilePlan) (a n made : ℕ) (s t : TileState) → is_here plan a ≡ true → 1 ≤ n → n ≤ plan.shape.turn → can_count s ≡ true → steps_of plan (place_in_tile plan.shape a) made s ≡ Some t → made ≡ n → turn_row plan a n s ≡ Some t
turn_done plan a n made s t here low high counts e all = rw (turn_row_is plan a n s here low high counts) (rw all at e)

all_four : (a b c d : Bool) → (a && b && c && d) ≡ true → (a ≡ true) × (b ≡ true) × (c ≡ true) × (d ≡ true)
all_four true true true true e = (refl, refl, refl, refl)
all_four true true true false e = cc e
all_four true true false d e = cc e
all_four true false c d e = cc e
all_four false b c d e = cc e

one_fits : (m turn : ℕ) → leb (suc m) turn ≡ true → leb 1 turn ≡ true
one_fits m turn e = grind (arith, nat_tests)

-- if the thread cannot make one step, it makes no turn
turn_one : (plan : TilePlan) (a : ℕ) (s : TileState) → is_here plan a ≡ true → leb 1 plan.shape.turn ≡ true → can_count s ≡ true → can_step plan.shape.fuel (place_in_tile plan.shape a) s ≡ true → turn_row plan a 1 s ≡ Some (stepped plan.code (place_in_tile plan.shape a) s)
unfolding steps_of
turn_one plan a s here fits counts can = rw (here, fits, counts, can) refl

by_tests : (plan : TilePlan) (a m : ℕ) (s : TileState) (b : Bool) → (is_here plan a && leb 1 (suc m) && leb (suc m) plan.shape.turn && can_count s) ≡ b → can_step plan.shape.fuel (place_in_tile plan.shape a) s ≡ true → turn_row plan a 1 s ≡ None → cond b (steps_of plan (place_in_tile plan.shape a) (suc m) s) None ≡ None
by_tests plan a m s false is can e = refl
by_tests plan a m s true is can e =
    let t = all_four (is_here plan a) (leb 1 (suc m)) (leb (suc m) plan.shape.turn) (can_count s) is in
    let one = turn_one plan a s t.0 (one_fits m plan.shape.turn t.2) t.3 can in
    cc (e, one)

by_can : (plan : TilePlan) (a m : ℕ) (s : TileState) (b : Bool) → can_step plan.shape.fuel (place_in_tile plan.shape a) s ≡ b → turn_row plan a 1 s ≡ None → turn_row plan a (suc m) s ≡ None
unfolding steps_of
by_can plan a m s false is e = none_both (is_here plan a && leb 1 (suc m) && leb (suc m) plan.shape.turn && can_count s) (steps_of plan (place_in_tile plan.shape a) (suc m) s) (rw is refl)
by_can plan a m s true is e = by_tests plan a m s (is_here plan a && leb 1 (suc m) && leb (suc m) plan.shape.turn && can_count s) refl is e

no_none : (h c : Bool) (turn : ℕ) (o : Option TileState) → cond (h && leb 1 0 && leb 0 turn && c) o None ≡ None
no_none true c turn o = refl
no_none false c turn o = refl

pub row_one : (plan : TilePlan) (a m : ℕ) (s : TileState) → turn_row plan a 1 s ≡ None → turn_row plan a m s ≡ None
row_one plan a zero s e = no_none (is_here plan a) (can_count s) plan.shape.turn (steps_of plan (place_in_tile plan.shape a) 0 s)
row_one plan a (suc m) s e = by_can plan a m s (can_step plan.shape.fuel (place_in_tile plan.shape a) s) refl e

-- as many of n steps as the thread can make, and at least one
pub up_to_some : (a n made : ℕ) (v w : TileView) → is_here v.plan a ≡ true → n ≤ v.plan.shape.turn → can_count v.now ≡ true → StepsUpTo v.plan (place_in_tile v.plan.shape a) n made v.now w.now → w.plan ≡ v.plan → 1 ≤ made → TileTurnsUpTo (turned.Moved made) a n v w
up_to_some a n made v w here high counts steps plan low =
    let is : with_now v w.now ≡ w = ap (λ (p : TilePlan). record { plan = p; now = w.now }) (sym plan) in
    let few : made ≤ v.plan.shape.turn = omega (arith, steps.few, high) in
    let row : turn_row v.plan a made v.now ≡ Some w.now = turn_done v.plan a made made v.now w.now here low few counts steps.steps refl in (
      ap (now_by v) row ∙ ap (λ (x : TileView). Some x) is,
      λ apart.
          let less : made < n = omega (arith, steps.few, apart) in
          no_turn v.plan a n made v.now w.now steps.steps less (steps.stops less),
    )

-- the thread can make no step of n
pub up_to_none : (a n made : ℕ) (v w : TileView) → StepsUpTo v.plan (place_in_tile v.plan.shape a) n made v.now w.now → w.plan ≡ v.plan → made ≡ 0 → 1 ≤ n → TileTurnsUpTo turned.Nothing a n v w
up_to_none a n made v w steps plan none low =
    let less : made < n = omega (arith, none, low) in
    let stays : Some w.now ≡ Some v.now = sym steps.steps ∙ rw none (steps_none v.plan (place_in_tile v.plan.shape a) v.now) in
    let now : w.now ≡ v.now = cc stays in
    (rw (plan, now) refl, no_turn v.plan a n made v.now w.now steps.steps less (steps.stops less))

-- a turn that no machine has: of no step, of too many, of a thread that is not here, or where letters can no longer be counted
pub up_to_refused : (a n : ℕ) (v : TileView) → turn_row v.plan a n v.now ≡ None → TileTurnsUpTo turned.Nothing a n v v
up_to_refused a n v none = (refl, none)
