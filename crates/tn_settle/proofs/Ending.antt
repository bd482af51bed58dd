-- The last event of a list tells how a run ended.
use Rattle.std.proofs.Common.{◌≡◌, ℕ, ◌-◌, ◌<◌, List, [], ◌∷◌, length, refl, arith, zero, suc, Some, ◌∙◌}
use Rattle.std.specs.List.{slice_get}
use Rattle.tn_base.specs.declared.event.Event.{Event}
use Rattle.tn_rows.specs.Ends.{final_after, final_of, last_of}
use Rattle.tn_rows.specs.WorldView.{WorldView}

one_on : (e : Event) (es : List Event) (n : ℕ) → 0 < n → slice_get es (n - 1) ≡ slice_get (e ∷ es) (suc n - 1)
one_on e es zero h = absurd (omega arith)
one_on e es (suc n) h =
    let here : suc n - 1 ≡ n = omega arith in
    let next : suc (suc n) - 1 ≡ suc n = omega arith in
    rw (here, next) refl

-- the last event stands at the last place
pub last_is : (events : List Event) → last_of events ≡ slice_get events (length events - 1)
last_is [] = refl
last_is (e ∷ []) = refl
last_is (e ∷ f ∷ es) = last_is (f ∷ es) ∙ one_on e (f ∷ es) (length (f ∷ es)) (omega arith)

-- the last event tells how the run ended
pub final_at : (events : List Event) (e : Event) (w : WorldView) → slice_get events (length events - 1) ≡ Some e → final_after (last_of events) w ≡ final_of e w
final_at events e w h = rw (last_is events, h) refl
