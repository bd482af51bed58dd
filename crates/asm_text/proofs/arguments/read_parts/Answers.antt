use Rattle.std.proofs.Common.{◌≡◌, [], ◌∷◌, sym, ap, subst, ◌∙◌}
use Rattle.std.specs.declared.result.Result.TheVariants.{Ok}
use Rattle.tn_text.specs.Content.{trimmed}
use Rattle.tn_text.specs.Gives.{Gives}
use Rattle.tn_text.specs.Cut.{parts_at}
use Rattle.asm_text.specs.Arguments.{arg_of, args_of}
use Rattle.asm_text.specs.Reading.{joined}
use Rattle.asm_text.proofs.Taken.{joined-taken, stopped}
use Rattle.asm_text.proofs.arguments.read_parts.Goals as goal

pub loop-part-preserved : goal.loop-part-preserved
loop-part-preserved c =
    let h = c.in-Some.ensures.parts in
    let more = args_of (parts_at 44 c.in-Some.after.now) in
    let e = joined-taken c.loop-part.reading c.take.new.self (arg_of (trimmed c.in-Some.part.now)) more c.in_ok-take.ensures in
    e ∙ ap (λ parts. joined c.loop-part.reading.args c.loop-part.reading.too_large (args_of parts)) (sym h.parts) ∙ c.loop-part.invariant

pub returns : goal.returns
returns c =
    let old = c.loop-part.reading in
    let new = c.take-2.new.self in
    let rest = c.loop-part.rest.now in
    let e : joined new.args new.too_large (Ok []) ≡ joined old.args old.too_large (args_of (rest ∷ [])) =
    joined-taken old new (arg_of (trimmed rest)) (Ok []) c.in_ok-take-2.ensures in
    let f : joined old.args old.too_large (args_of (rest ∷ [])) ≡ joined old.args old.too_large (args_of (parts_at 44 rest)) =
    ap (λ parts. joined old.args old.too_large (args_of parts)) (sym c.in_default.ensures.parts.parts) in
    subst (λ read. Gives c.finish.result read) (e ∙ f ∙ c.loop-part.invariant) c.finish.ensures

pub returns-in_err-take : goal.returns-in_err-take
returns-in_err-take c =
    let h = c.in-Some.ensures.parts in
    let old = c.loop-part.reading in
    let here = ap (λ parts. joined old.args old.too_large (args_of parts)) (sym h.parts) ∙ c.loop-part.invariant in
    stopped c.from_residual.result c.in_err-take.field-0.0 old (arg_of (trimmed c.in-Some.part.now)) (args_of (parts_at 44 c.in-Some.after.now)) _
    c.from_residual.ensures.1 c.in_err-take.ensures here

pub returns-in_err-take-2 : goal.returns-in_err-take-2
returns-in_err-take-2 c =
    let rest = c.loop-part.rest.now in
    let old = c.loop-part.reading in
    let here : joined old.args old.too_large (args_of (rest ∷ [])) ≡ args_of (parts_at 44 c.args.text.now) =
    ap (λ parts. joined old.args old.too_large (args_of parts)) (sym c.in_default.ensures.parts.parts) ∙ c.loop-part.invariant in
    stopped c.from_residual-in_err-take-2.result c.in_err-take-2.field-0.0 old (arg_of (trimmed rest)) (Ok []) _
    c.from_residual-in_err-take-2.ensures.1 c.in_err-take-2.ensures here
