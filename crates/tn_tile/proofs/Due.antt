-- When a dispatch is due, and that it is the next step then.
use Rattle.std.proofs.Common.{ℕ, ◌≡◌, ◌/◌, true, false, IfSome, List, refl, sym, ◌∙◌, ap, Option, Some, None, is_some, slice_get}
use Rattle.polite_switch.specs.SwitchModel.{SwitchModel}
use Rattle.rv_isa.specs.declared.instr.Instr.{Instr}
use Rattle.tn_thread.specs.declared.state.ThreadState.{ThreadState}
use Rattle.tn_thread.specs.declared.state.ThreadState.TheVariants as state
use Rattle.tn_thread.specs.declared.thread.Thread.{Thread}
use Rattle.tn_thread.specs.Alone.{Going}
use Rattle.tn_thread.specs.Dispatch.{at_firmware, dispatch}
use Rattle.tn_thread.specs.Sight.{Sight}
use Rattle.tn_thread.specs.Step.{Stepped}
use Rattle.tn_tile.specs.Alone.{alone_at}
use Rattle.tn_tile.specs.Step.{due_at, due_by, next_step, step_by}

-- of a thread that runs, and of a thread that does not run
pub due_runs : (s : ThreadState) (code : List (Option Instr)) (t : Thread) → s ≡ state.Run → due_by s code t ≡ due_at (slice_get code (t.pc / 4)) t
due_runs state.Run code t run = refl
due_runs (state.Wait waits) code t run = cc run
due_runs (state.Idle vote) code t run = cc run
due_runs (state.Answered value) code t run = cc run
due_runs (state.Dead value) code t run = cc run
due_runs (state.Trapped why) code t run = cc run

pub due_not : (s : ThreadState) (code : List (Option Instr)) (t : Thread) → (s ≡ state.Run → ⊥) → due_by s code t ≡ None
due_not state.Run code t not_run = absurd (not_run refl)
due_not (state.Wait waits) code t not_run = refl
due_not (state.Idle vote) code t not_run = refl
due_not (state.Answered value) code t not_run = refl
due_not (state.Dead value) code t not_run = refl
due_not (state.Trapped why) code t not_run = refl

-- where an instruction stands, no dispatch is due
pub alone_due : (o : Option (Option Instr)) (seen : Sight) (pc : ℕ) (t : Thread) (g : Going) → alone_at o seen pc t ≡ Some g → (u : Thread) → due_at o u ≡ None
alone_due None seen pc t g e u = cc e
alone_due (Some word) seen pc t g e u = refl

pub none_of : {A : Type 0} (o : Option A) → is_some o ≡ false → o ≡ None
none_of None e = refl
none_of (Some x) e = cc e

-- a dispatch is due only at the firmware's address
pub due_there : (o : Option (Option Instr)) (t : Thread) → is_some (due_at o t) ≡ true → is_some (at_firmware t) ≡ true
due_there None t e = e
due_there (Some word) t e = cc e

due_from : (o : Option (Option Instr)) (t : Thread) (P : SwitchModel → Type 0) → IfSome (at_firmware t) P → IfSome (due_at o t) P
due_from None t P h = h
due_from (Some word) t P h = tt

by_due : (d : Option SwitchModel) (code : List (Option Instr)) (seen : Sight) (t : Thread) (r : Stepped) → is_some d ≡ true → IfSome d (λ (s : SwitchModel). r ≡ dispatch s seen t) → r ≡ step_by d code seen t
by_due None code seen t r some e = cc some
by_due (Some s) code seen t r some e = e

-- where a dispatch is due, it is the next step
pub due_step : (code : List (Option Instr)) (seen : Sight) (t : Thread) (r : Stepped) → t.state ≡ state.Run → is_some (due_at (slice_get code (t.pc / 4)) t) ≡ true → IfSome (at_firmware t) (λ (s : SwitchModel). r ≡ dispatch s seen t) → r ≡ next_step code seen t
due_step code seen t r run due e =
    let d = due_at (slice_get code (t.pc / 4)) t in
    by_due d code seen t r due (due_from (slice_get code (t.pc / 4)) t (λ (s : SwitchModel). r ≡ dispatch s seen t) e)
    ∙ ap (λ o. step_by o code seen t) (sym (due_runs t.state code t run))

-- where no dispatch is due, a thread that runs executes the instruction at its pc
pub not_due : (code : List (Option Instr)) (seen : Sight) (t : Thread) → t.state ≡ state.Run → is_some (due_at (slice_get code (t.pc / 4)) t) ≡ false → next_step code seen t ≡ step_by None code seen t
not_due code seen t run none = ap (λ o. step_by o code seen t) (due_runs t.state code t run ∙ none_of (due_at (slice_get code (t.pc / 4)) t) none)
