use Rattle.std.proofs.Common.{◌∙◌, sym}
use Rattle.tn_base.specs.Shape.{first_fault}
use Rattle.job_faults.proofs.Faults.{no_number_fault, numbers_of_shape}
use Rattle.job_faults.proofs.numbers.shape_of.Goals as goal

pub returns-in-Ok : goal.returns-in-Ok
returns-in-Ok c =
    let both = numbers_of_shape c.args.job.now.numbers c.in-Ok.shape (first_fault c.args.job.now.numbers) (sym c.in-Ok.is ∙ c.of.ensures) in
    (both.0, no_number_fault c.args.job.now both.1)
