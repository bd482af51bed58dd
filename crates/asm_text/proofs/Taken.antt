-- Arguments read one after another.
use Rattle.std.proofs.Common.{◌≡◌, Bool, true, false, List, [], ◌∷◌, ◌++◌, refl, sym, ap, ◌∙◌, subst, append_assoc}
use Rattle.std.specs.declared.result.Result.{Result}
use Rattle.std.specs.declared.result.Result.TheVariants.{Ok, Err}
use Rattle.std.specs.Result.{IsErrAnd}
use Rattle.tn_text.specs.declared.stop.Stop.{Stop}
use Rattle.tn_text.specs.declared.stop.Stop.TheVariants.{Fault, Memory}
use Rattle.tn_text.specs.Gives.{Gives, IsFault, fault_in}
use Rattle.asm_text.specs.declared.arguments.Reading.{Reading}
use Rattle.asm_text.specs.declared.fault.AsmKind.{AsmKind}
use Rattle.asm_text.specs.declared.fault.AsmKind.TheVariants.{BadNumber}
use Rattle.asm_text.specs.declared.line.Arg.{Arg}
use Rattle.asm_text.specs.Arguments.{arg_before}
use Rattle.asm_text.specs.Reading.{joined, taken}

joined-arg : (front : List Arg) (large : Bool) (arg : Arg) (more : Result (List Arg) AsmKind)
    → joined (front ++ arg ∷ []) large more ≡ joined front large (arg_before (Ok arg) more)
joined-arg front false arg (Ok args) = ap (λ (xs : List Arg). Ok xs) (append_assoc front (arg ∷ []) args)
joined-arg front true arg (Ok args) = refl
joined-arg front false arg (Err kind) = refl
joined-arg front true arg (Err kind) = refl

joined-large : (front rear : List Arg) (large : Bool) (more : Result (List Arg) AsmKind)
    → joined rear true more ≡ joined front large (arg_before (Err BadNumber) more)
joined-large front rear false (Ok args) = refl
joined-large front rear true (Ok args) = refl
joined-large front rear false (Err kind) = refl
joined-large front rear true (Err kind) = refl

-- one more argument was read
pub joined-taken : (old new : Reading) (read : Result Arg AsmKind) (more : Result (List Arg) AsmKind) → taken old read ≡ Ok new
    → joined new.args new.too_large more ≡ joined old.args old.too_large (arg_before read more)
joined-taken old new (Ok arg) more h =
    let e : record { args = old.args ++ arg ∷ []; too_large = old.too_large } ≡ new = cc in
    ap (λ (r : Reading). joined r.args r.too_large more) (sym e) ∙ joined-arg old.args old.too_large arg more
joined-taken old new (Err BadNumber) more h =
    let e : record { args = old.args; too_large = true } ≡ new = cc in
    ap (λ (r : Reading). joined r.args r.too_large more) (sym e) ∙ joined-large old.args old.args old.too_large more
joined-taken old new (Err _) more h = cc

joined-fault : (front : List Arg) (large : Bool) (kind : AsmKind) → joined front large (Err kind) ≡ Err kind
joined-fault front false kind = refl
joined-fault front true kind = refl

taken-fault : (old : Reading) (read : Result Arg AsmKind) (kind : AsmKind) (more : Result (List Arg) AsmKind) → taken old read ≡ Err kind
    → arg_before read more ≡ Err kind
taken-fault old (Ok arg) kind more h = cc
taken-fault old (Err BadNumber) kind more h = cc
taken-fault old (Err _) kind more h = let e = h in cc

stops : (stop : Stop AsmKind) (old : Reading) (read : Result Arg AsmKind) (more whole : Result (List Arg) AsmKind)
    → IsFault (fault_in stop) (taken old read) → joined old.args old.too_large (arg_before read more) ≡ whole → IsFault (fault_in stop) whole
stops Memory old read more whole h e = tt
stops (Fault kind) old read more whole h e =
    sym e ∙ ap (joined old.args old.too_large) (taken-fault old read kind more h) ∙ joined-fault old.args old.too_large kind

-- an argument is at fault, or memory ran out
pub stopped : (r : Result (List Arg) (Stop AsmKind)) (stop : Stop AsmKind) (old : Reading) (read : Result Arg AsmKind) (more whole : Result (List Arg) AsmKind)
    → IsErrAnd r (λ e. e ≡ stop) → IsFault (fault_in stop) (taken old read) → joined old.args old.too_large (arg_before read more) ≡ whole → Gives r whole
stopped (Err e) stop old read more whole is h k = subst (λ (s : Stop AsmKind). IsFault (fault_in s) whole) (sym is) (stops stop old read more whole h k)
stopped (Ok args) stop old read more whole is h k = absurd is
