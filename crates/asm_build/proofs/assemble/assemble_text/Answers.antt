use Rattle.std.proofs.Common.{◌≡◌, List, ap, sym, subst}
use Rattle.std.specs.declared.result.Result.{Result}
use Rattle.std.specs.declared.result.Result.TheVariants.{Ok, Err}
use Rattle.std.specs.Result.{IsErrAnd}
use Rattle.tn_text.specs.declared.stop.Fault.{Fault}
use Rattle.tn_text.specs.declared.stop.Stop.{Stop}
use Rattle.tn_text.specs.declared.stop.Stop.TheVariants as stops
use Rattle.tn_text.specs.Gives.{Gives, IsFault, fault_in}
use Rattle.asm_text.specs.declared.fault.AsmKind.{AsmKind}
use Rattle.asm_text.specs.declared.line.Line.{Line}
use Rattle.asm_build.specs.declared.image.Image.{Image}
use Rattle.asm_build.specs.Image.{image_of}
use Rattle.asm_build.specs.Text.{assembled, image_by}
use Rattle.asm_build.proofs.assemble.assemble_text.Goals as goal

unread : (stop : Stop (Fault AsmKind)) (read : Result (List Line) (Fault AsmKind)) → IsFault (fault_in stop) read → IsFault (fault_in stop) (image_by read)
unread stops.Memory read h = tt
unread (stops.Fault fault) read h = ap image_by h

stopped : (r : Result Image (Stop (Fault AsmKind))) (stop : Stop (Fault AsmKind)) (read : Result (List Line) (Fault AsmKind)) → IsErrAnd r (λ e. e ≡ stop)
    → IsFault (fault_in stop) read → Gives r (image_by read)
stopped (Err e) stop read is h = subst (λ (s : Stop (Fault AsmKind)). IsFault (fault_in s) (image_by read)) (sym is) (unread stop read h)
stopped (Ok image) stop read is h = absurd is

pub returns-in_err-lines-clause-image : goal.returns-in_err-lines-clause-image
unfolding assembled
returns-in_err-lines-clause-image c = stopped c.from_residual.result c.in_err-lines.field-0.0 _ c.from_residual.ensures.1 c.in_err-lines.ensures.read

pub returns-clause-image : goal.returns-clause-image
unfolding assembled
returns-clause-image c =
    let built : Gives c.assemble.result (image_of c.in_ok-lines.lines.items) =
    subst (λ (lines : List Line). Gives c.assemble.result (image_of lines)) c.as_slice.ensures.value c.assemble.ensures.image in
    subst (λ (read : Result (List Line) (Fault AsmKind)). Gives c.assemble.result (image_by read)) (sym c.in_ok-lines.ensures.read) built
