-- Steps in a row.
use Rattle.std.proofs.Common.{◌≡◌, ℕ, ◌<◌, ◌+◌, zero, suc, Bool, true, false, cond, Some, None, refl, sym, subst, arith, add-suc, ap, ◌∙◌}
use Rattle.std.proofs.lemmas.Bool.{cond-true}
use Rattle.std.specs.declared.option.Option.{Option}
use Rattle.tn_tile.specs.Step.{can_step, stepped, steps_of}
use Rattle.tn_tile.specs.TileView.{TilePlan, TileState}

-- a choice that gave something took the first side
pub taken : {A : Type 0} (b : Bool) (o : Option A) (x : A) → cond b o None ≡ Some x → (b ≡ true) × (o ≡ Some x)
taken true o x e = (refl, e)
taken false o x e = cc e

-- no step at all
pub steps_none : (plan : TilePlan) (k : ℕ) (s : TileState) → steps_of plan k 0 s ≡ Some s
unfolding steps_of
steps_none plan k s = refl

-- one more step after the last
pub steps_more : (plan : TilePlan) (k n : ℕ) (s t : TileState) → steps_of plan k n s ≡ Some t → can_step plan.shape.fuel k t ≡ true → steps_of plan k (suc n) s ≡ Some (stepped plan.code k t)
unfolding steps_of
steps_more plan k zero s t e c =
    let same : s ≡ t = cc e in
    subst (λ (x : TileState). cond (can_step plan.shape.fuel k x) (Some (stepped plan.code k x)) None ≡ Some (stepped plan.code k t)) (sym same) (rw c refl)
steps_more plan k (suc n) s t e c =
    let first = taken (can_step plan.shape.fuel k s) (steps_of plan k n (stepped plan.code k s)) t e in
    rw first.0 (steps_more plan k n (stepped plan.code k s) t first.1 c)

-- if the thread stops, it makes no more steps
pub steps_stop : (plan : TilePlan) (k n m : ℕ) (s t : TileState) → steps_of plan k n s ≡ Some t → can_step plan.shape.fuel k t ≡ false → n < m → steps_of plan k m s ≡ None
unfolding steps_of
steps_stop plan k n zero s t e c h = absurd (omega arith)
steps_stop plan k zero (suc m) s t e c h =
    let same : s ≡ t = cc e in
    subst (λ (x : TileState). cond (can_step plan.shape.fuel k x) (steps_of plan k m (stepped plan.code k x)) None ≡ None) (sym same) (rw c refl)
steps_stop plan k (suc n) (suc m) s t e c h =
    let first = taken (can_step plan.shape.fuel k s) (steps_of plan k n (stepped plan.code k s)) t e in
    rw first.0 (steps_stop plan k n m (stepped plan.code k s) t first.1 c (omega arith))

-- fewer steps can be made too
pub steps_fewer : (plan : TilePlan) (k n d : ℕ) (s t : TileState) → steps_of plan k (d + n) s ≡ Some t → (u : TileState) × (steps_of plan k n s ≡ Some u)
unfolding steps_of
steps_fewer plan k zero d s t e = (s, refl)
steps_fewer plan k (suc n) d s t e =
    let more : steps_of plan k (suc (d + n)) s ≡ Some t = subst (λ m. steps_of plan k m s ≡ Some t) (add-suc d n) e in
    let first = taken (can_step plan.shape.fuel k s) (steps_of plan k (d + n) (stepped plan.code k s)) t more in
    let rest = steps_fewer plan k n d (stepped plan.code k s) t first.1 in
    (rest.0, cond-true (can_step plan.shape.fuel k s) (steps_of plan k n (stepped plan.code k s)) None first.0 ∙ rest.1)

-- steps after steps
pub steps_join : (n m : ℕ) (plan : TilePlan) (k : ℕ) (s t u : TileState) → steps_of plan k n s ≡ Some t → steps_of plan k m t ≡ Some u → steps_of plan k (n + m) s ≡ Some u
unfolding steps_of
steps_join zero m plan k s t u e f =
    let same : t ≡ s = cc e in
    let count : 0 + m ≡ m = omega arith in
    ap (λ i. steps_of plan k i s) count ∙ subst (λ (x : TileState). steps_of plan k m x ≡ Some u) same f
steps_join (suc n) m plan k s t u e f =
    let first = taken (can_step plan.shape.fuel k s) (steps_of plan k n (stepped plan.code k s)) t e in
    let count : suc (n + m) ≡ suc n + m = omega arith in
    ap (λ i. steps_of plan k i s) (sym count) ∙ rw first.0 (steps_join n m plan k (stepped plan.code k s) t u first.1 f)
