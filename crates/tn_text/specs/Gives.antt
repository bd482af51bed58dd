-- What a reader answers, where memory may be wanting.
use Rattle.std.specs.Prelude.{◌≡◌, ℕ, List, Option, Some, None}
use Rattle.std.specs.declared.result.Result.{Result}
use Rattle.std.specs.declared.result.Result.TheVariants.{Ok, Err}
use Rattle.std.specs.declared.vec.Vec.{Vec}
use Rattle.tn_text.specs.declared.stop.Fault.{Fault}
use Rattle.tn_text.specs.declared.stop.Stop.{Stop}
use Rattle.tn_text.specs.declared.stop.Stop.TheVariants as stops

-- the definition has this fault; without a fault memory ran out, which says nothing of the text
abbrev pub IsFault : {V F : Type 0} → Option F → Result V F → Type 0
IsFault (Some fault) read = read ≡ Err fault
IsFault None read = Unit {0}

-- the answer is what the definition reads, its value or its fault, unless memory ran out
abbrev pub GivesBy : {X V S F : Type 0} → (X → V) → (S → Option F) → Result X S → Result V F → Type 0
GivesBy value_of fault_of (Ok x) read = read ≡ Ok (value_of x)
GivesBy value_of fault_of (Err stop) read = IsFault (fault_of stop) read

abbrev pub fault_in : {F : Type 0} → Stop F → Option F
fault_in (stops.Fault fault) = Some fault
fault_in stops.Memory = None

-- the same of an answer whose value is seen as the definition's
abbrev pub Gives : {V F : Type 0} → Result V (Stop F) → Result V F → Type 0
Gives result read = GivesBy (λ x. x) fault_in result read

-- the same of an answer that is a vector
abbrev pub GivesItems : {X A F : Type 0} → Result (Vec X A) (Stop F) → Result (List X) F → Type 0
GivesItems result read = GivesBy (λ v. v.items) fault_in result read

-- a value became what the definition makes of it, unless memory ran out or it is refused
abbrev pub Becomes : {X V F : Type 0} → Result X (Stop F) → V → Result V F → Type 0
Becomes result new read = GivesBy (λ _. new) fault_in result read

abbrev pub fault_on : {K : Type 0} → ℕ → K → Fault K
fault_on line kind = record { line = line; kind = kind }

-- a kind of fault on this line
abbrev pub stop_at : {K : Type 0} → ℕ → Stop K → Stop (Fault K)
stop_at line (stops.Fault kind) = stops.Fault (fault_on line kind)
stop_at line stops.Memory = stops.Memory
