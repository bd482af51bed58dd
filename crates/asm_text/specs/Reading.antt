-- Reading arguments one after another.
use Rattle.std.specs.Prelude.{Bool, true, false, List, [], ◌∷◌, ◌++◌}
use Rattle.std.specs.declared.result.Result.{Result}
use Rattle.std.specs.declared.result.Result.TheVariants.{Ok, Err}
use Rattle.asm_text.specs.declared.arguments.Reading.{Reading}
use Rattle.asm_text.specs.declared.fault.AsmKind.{AsmKind}
use Rattle.asm_text.specs.declared.fault.AsmKind.TheVariants.{BadNumber}
use Rattle.asm_text.specs.declared.line.Arg.{Arg}

-- arguments that were read before, and whether one had a number that is too large
abbrev pub joined : List Arg → Bool → Result (List Arg) AsmKind → Result (List Arg) AsmKind
joined front false (Ok args) = Ok (front ++ args)
joined front true (Ok args) = Err BadNumber
joined front large (Err kind) = Err kind

-- with one more argument. After a number that is too large the reading goes on, since another argument may be a worse fault
abbrev pub taken : Reading → Result Arg AsmKind → Result Reading AsmKind
taken r (Ok arg) = Ok (record { args = r.args ++ arg ∷ []; too_large = r.too_large })
taken r (Err BadNumber) = Ok (record { args = r.args; too_large = true })
taken r (Err kind) = Err kind
