-- A closure that answers for a service.
use Rattle.std.specs.Prelude.{◌≡◌, ℕ, ◌≤◌, true, List, IfOk, length}
use Rattle.std.specs.Borrow.{Bor}
use Rattle.std.specs.declared.alloc.AllocError.{AllocError}
use Rattle.std.specs.declared.result.Result.{Result}
use Rattle.tn_call.specs.Number.{tells}
use Rattle.tn_call.specs.Streams.{most_bytes}
use Rattle.tn_call.specs.declared.service.Answer.{Answer}
use Rattle.tn_call.specs.declared.status.Status.{Status}

-- the closure may be called on each command, with each input of at most the most bytes
abbrev pub TakesInputs : {C : Type 0} → (C → Bor (List ℕ) → Type 0) → Type 0
TakesInputs {C} pre = (command : C) (input : Bor (List ℕ)) → length input.now ≤ most_bytes → pre command input

-- what is answered is the command's answer to the input, with a status of the command's own
abbrev pub IsAnswer : {C K : Type 0} → (C → List ℕ → K → Status → List ℕ → Type 0) → C → List ℕ → Answer K → Type 0
IsAnswer answer command input a = answer command input a.kept a.status a.text.items × (tells a.status ≡ true)

-- whatever the closure gives to an input of at most the most bytes is such an answer
abbrev pub GivesAnswers : {C K : Type 0} → (C → List ℕ → K → Status → List ℕ → Type 0) → (C → Bor (List ℕ) → Result (Answer K) AllocError → Type 0) → Type 0
GivesAnswers {C} {K} answer post =
    (command : C) (input : Bor (List ℕ)) (result : Result (Answer K) AllocError) → length input.now ≤ most_bytes → post command input result
    → IfOk result (IsAnswer answer command input.now)
