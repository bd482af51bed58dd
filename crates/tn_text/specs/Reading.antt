-- A text that is read line by line.
use Rattle.std.specs.Prelude.{ℕ, ◌+◌, List, [], ◌∷◌, ◌++◌, if◌then◌else◌, Option, Some, None}
use Rattle.std.specs.declared.result.Result.{Result}
use Rattle.std.specs.declared.result.Result.TheVariants.{Ok, Err}
use Rattle.tn_text.specs.declared.stop.Fault.{Fault}
use Rattle.tn_text.specs.Content.{content_of, is_plain}
use Rattle.tn_text.specs.Gives.{fault_on}

abbrev pub some_said : {A K : Type 0} → Result A K → Result (Option A) K
some_said (Ok a) = Ok (Some a)
some_said (Err kind) = Err kind

abbrev pub content_says : {A K : Type 0} → (List ℕ → Result A K) → List ℕ → Result (Option A) K
content_says says [] = Ok None
content_says says (b ∷ bs) = some_said (says (b ∷ bs))

-- what a line says by its content; a blank one says nothing, and a byte that is not allowed is a fault of the kind `foreign`
abbrev pub line_says : {A K : Type 0} → K → (List ℕ → Result A K) → List ℕ → Result (Option A) K
line_says foreign says line = if is_plain line then content_says says (content_of line) else Err foreign

abbrev pub said_before : {A K : Type 0} → ℕ → Result (Option A) K → Result (List A) (Fault K) → Result (List A) (Fault K)
said_before number (Ok (Some a)) (Ok more) = Ok (a ∷ more)
said_before number (Ok (Some a)) (Err fault) = Err fault
said_before number (Ok None) more = more
said_before number (Err kind) more = Err (fault_on number kind)

-- what the lines say in order, the first of them having this number; the first line at fault refuses with its kind. A
-- grammar by whole lines is `says`, what a line says by its number and its bytes
abbrev pub read_from : {A K : Type 0} → (ℕ → List ℕ → Result (Option A) K) → ℕ → List (List ℕ) → Result (List A) (Fault K)
read_from says number [] = Ok []
read_from says number (l ∷ ls) = said_before number (says number l) (read_from says (number + 1) ls)

-- items, followed by what one more line says
abbrev pub said_onto : {A K : Type 0} → List A → Result (Option A) K → Result (List A) K
said_onto items (Ok (Some a)) = Ok (items ++ a ∷ [])
said_onto items (Ok None) = Ok items
said_onto items (Err kind) = Err kind

abbrev pub taken_by : {S A K : Type 0} → (ℕ → A → S → Result S K) → ℕ → S → Result (Option A) K → Result S K
taken_by takes number s (Ok (Some a)) = takes number a s
taken_by takes number s (Ok None) = Ok s
taken_by takes number s (Err kind) = Err kind

abbrev pub and_on : {S K : Type 0} → ℕ → Result S K → (S → Result S (Fault K)) → Result S (Fault K)
and_on number (Ok s) rest = rest s
and_on number (Err kind) rest = Err (fault_on number kind)

-- the same where a line may be at fault by what came before it: `takes` takes what a line says into the value so far,
-- and the first line that is at fault by itself or there refuses
abbrev pub built_from : {S A K : Type 0} → (List ℕ → Result (Option A) K) → (ℕ → A → S → Result S K) → ℕ → List (List ℕ) → S → Result S (Fault K)
built_from says takes number [] s = Ok s
built_from says takes number (l ∷ ls) s = and_on number (taken_by takes number s (says l)) (λ t. built_from says takes (number + 1) ls t)
