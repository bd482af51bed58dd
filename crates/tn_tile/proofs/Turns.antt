-- Turns: the longest one, and none.
use Rattle.std.proofs.Common.{◌≡◌, ℕ, ◌+◌, ◌-◌, ◌<◌, ◌≤◌, ◌&&◌, zero, suc, Bool, true, false, cond, Some, None, is_some, refl, sym, ap, ◌∙◌, arith, inl, inr, leb}
use Rattle.std.specs.declared.option.Option.{Option}
use Rattle.std.proofs.lemmas.Bool.{and_left, and_parts, and_right, cases_lt, cond-false, le-leb, leb-true, lt-leb}
use Rattle.tn_base.specs.Address.{place_in_tile}
use Rattle.tn_tile.specs.Rows.{can_count, is_here, turn_row}
use Rattle.tn_tile.specs.Step.{can_step, stepped, steps_of}
use Rattle.tn_tile.specs.TileView.{TilePlan, TileState, TileView, now_by}
use Rattle.tn_tile.specs.Turns.{StepsUpTo}
use Rattle.tn_tile.proofs.Steps.{steps_fewer, steps_none, steps_stop, taken}

cond_some : {X : Type 0} (b : Bool) (x : X) → is_some (cond b (Some x) None) ≡ b
cond_some true x = refl
cond_some false x = refl

none_either : {X : Type 0} (b : Bool) (o : Option X) → o ≡ None → cond b o None ≡ None
none_either true o e = e
none_either false o e = refl

-- a turn of n steps, each of which can be made
pub turn_is : (plan : TilePlan) (a n : ℕ) (s t : TileState) → is_here plan a ≡ true → can_count s ≡ true → 1 ≤ n → n ≤ plan.shape.turn → steps_of plan (place_in_tile plan.shape a) n s ≡ Some t → turn_row plan a n s ≡ Some t
turn_is plan a n s t here counts low high steps = rw (here, counts, le-leb 1 n low, le-leb n plan.shape.turn high) steps

-- no turn of no step, and none of more than the machine's number
turn_zero : (plan : TilePlan) (a : ℕ) (s : TileState) → turn_row plan a 0 s ≡ None
turn_zero plan a s = cond-false _ _ _ (and_left _ _ (and_left _ _ (and_right (is_here plan a) _ refl)))

turn_long : (plan : TilePlan) (a m : ℕ) (s : TileState) → plan.shape.turn < m → turn_row plan a m s ≡ None
turn_long plan a m s h = cond-false _ _ _ (and_left _ _ (and_right (is_here plan a && leb 1 m) _ (lt-leb m plan.shape.turn h)))

-- if letters cannot be counted, there is no turn
pub turn_full : (plan : TilePlan) (a m : ℕ) (s : TileState) → can_count s ≡ false → turn_row plan a m s ≡ None
turn_full plan a m s full = cond-false _ _ _ (and_right (is_here plan a && leb 1 m && leb m plan.shape.turn) _ full)

-- a turn of more steps than the thread can make
pub turn_past : (plan : TilePlan) (a n m : ℕ) (s t : TileState) → StepsUpTo plan (place_in_tile plan.shape a) plan.shape.turn n s t → n < m → turn_row plan a m s ≡ None
turn_past plan a n m s t made h =
    elim (cases_lt n plan.shape.turn) [
      | inl early ↦ none_either _ _ (steps_stop plan (place_in_tile plan.shape a) n m s t made.steps (made.stops early) h)
      | inr late ↦ turn_long plan a m s (omega arith)
    ]

-- a thread that can make no step has no turn
pub no_turn : (plan : TilePlan) (a m n : ℕ) (s t : TileState) → n ≡ 0 → StepsUpTo plan (place_in_tile plan.shape a) plan.shape.turn n s t → turn_row plan a m s ≡ None
no_turn plan a zero n s t e made = turn_zero plan a s
no_turn plan a (suc m) n s t e made = turn_past plan a n (suc m) s t made (omega arith)

pub same_tile : (v w : TileView) (k n most : ℕ) → n ≡ 0 → w.plan ≡ v.plan → StepsUpTo v.plan k most n v.now w.now → w ≡ v
same_tile v w k n most e plan made =
    let none : steps_of v.plan k 0 v.now ≡ Some w.now = rw e at made.steps in
    let self : steps_of v.plan k 0 v.now ≡ Some v.now = steps_none v.plan k v.now in
    let now : w.now ≡ v.now = cc (none, self) in
    λ i. record { plan = plan i; now = now i }

-- a row of the state is a row of the tile
pub now_is : (v w : TileView) (o : Option TileState) → w.plan ≡ v.plan → o ≡ Some w.now → now_by v o ≡ Some w
now_is v w o plan e = ap (λ x. now_by v x) e ∙ ap (λ p. let x : TileView = record { plan = p; now = w.now } in Some x) (sym plan)

-- a thread can make a turn if it can make a step, and only then
one_step : (plan : TilePlan) (k : ℕ) (s : TileState) → is_some (steps_of plan k 1 s) ≡ can_step plan.shape.fuel k s
unfolding steps_of
one_step plan k s = cond_some (can_step plan.shape.fuel k s) (stepped plan.code k s)

pub one_turn : (plan : TilePlan) (a : ℕ) (s : TileState) → is_here plan a ≡ true → can_count s ≡ true → 1 ≤ plan.shape.turn → is_some (turn_row plan a 1 s) ≡ can_step plan.shape.fuel (place_in_tile plan.shape a) s
one_turn plan a s here counts turn = rw (here, counts, le-leb 1 plan.shape.turn turn) (one_step plan (place_in_tile plan.shape a) s)

some_is : {X : Type 0} (o : Option X) → is_some o ≡ true → (x : X) × (o ≡ Some x)
some_is None e = cc e
some_is (Some x) e = (x, refl)

-- what the tests of a turn tell
pub record TurnTests (plan : TilePlan) (a n : ℕ) (s t : TileState) : Type 0 where
  pub here : is_here plan a ≡ true
  pub low : 1 ≤ n
  pub high : n ≤ plan.shape.turn
  pub counts : can_count s ≡ true
  pub steps : steps_of plan (place_in_tile plan.shape a) n s ≡ Some t

pub turn_tests : (plan : TilePlan) (a n : ℕ) (s t : TileState) → turn_row plan a n s ≡ Some t → TurnTests plan a n s t
turn_tests plan a n s t e =
    let parts = taken (is_here plan a && leb 1 n && leb n plan.shape.turn && can_count s) (steps_of plan (place_in_tile plan.shape a) n s) t e in
    let tests = and_parts (is_here plan a && leb 1 n && leb n plan.shape.turn) (can_count s) parts.0 in
    let most = and_parts (is_here plan a && leb 1 n) (leb n plan.shape.turn) tests.0 in
    let here = and_parts (is_here plan a) (leb 1 n) most.0 in
    record { here = here.0; low = leb-true 1 n here.1; high = leb-true n plan.shape.turn most.1; counts = tests.1; steps = parts.1 }

-- if a turn is possible, each shorter one is
pub shorter_turn : (plan : TilePlan) (a n m : ℕ) (s : TileState) → is_some (turn_row plan a n s) ≡ true → 1 ≤ m → m ≤ n → is_some (turn_row plan a m s) ≡ true
shorter_turn plan a n m s some low high =
    let k = place_in_tile plan.shape a in
    let whole = some_is (turn_row plan a n s) some in
    let t = turn_tests plan a n s whole.0 whole.1 in
    let within = t.high in
    let count : (n - m) + m ≡ n = omega arith in
    let steps : steps_of plan k ((n - m) + m) s ≡ Some whole.0 = ap (λ i. steps_of plan k i s) count ∙ t.steps in
    let fewer = steps_fewer plan k m (n - m) s whole.0 steps in
    ap is_some (turn_is plan a m s fewer.0 t.here t.counts low (omega arith) fewer.1)
