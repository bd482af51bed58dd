-- Lines that are read one after another into a list.
use Rattle.std.proofs.Common.{◌≡◌, ℕ, List, [], ◌∷◌, ◌++◌, Option, Some, None, refl, ap, append_assoc}
use Rattle.std.specs.declared.result.Result.{Result}
use Rattle.std.specs.declared.result.Result.TheVariants.{Ok, Err}
use Rattle.tn_text.specs.declared.stop.Fault.{Fault}
use Rattle.tn_text.specs.Gives.{fault_on}
use Rattle.tn_text.specs.Reading.{said_before, said_onto}

-- items that were read before, and what the other lines say
abbrev pub onto : {A K : Type 0} → List A → Result (List A) (Fault K) → Result (List A) (Fault K)
onto items (Ok more) = Ok (items ++ more)
onto items (Err fault) = Err fault

one_more : {A K : Type 0} (old new : List A) (a : A) (more : Result (List A) (Fault K)) (number : ℕ) → old ++ a ∷ [] ≡ new → onto new more ≡ onto old (said_before number (Ok (Some a)) more)
one_more {A = A} old new a (Ok more) number e = rw (← e) (ap (λ (xs : List A). Ok xs) (append_assoc old (a ∷ []) more))
one_more old new a (Err fault) number e = refl

-- one more line was read
pub onto_line : {A K : Type 0} (number : ℕ) (old new : List A) (said : Result (Option A) K) (more : Result (List A) (Fault K))
    → said_onto old said ≡ Ok new → onto new more ≡ onto old (said_before number said more)
onto_line number old new (Ok (Some a)) more e = let same : old ++ a ∷ [] ≡ new = cc in one_more old new a more number same
onto_line number old new (Ok None) more e = let same : old ≡ new = cc in rw same refl
onto_line number old new (Err kind) more e = cc

-- one more line was at fault
pub onto_fault : {A K : Type 0} (number : ℕ) (old : List A) (kind : K) (said : Result (Option A) K) (more : Result (List A) (Fault K))
    → said_onto old said ≡ Err kind → onto old (said_before number said more) ≡ Err (fault_on number kind)
onto_fault number old kind (Ok (Some a)) more e = cc
onto_fault number old kind (Ok None) more e = cc
onto_fault number old kind (Err k) more e = let same : k ≡ kind = cc in rw same refl
