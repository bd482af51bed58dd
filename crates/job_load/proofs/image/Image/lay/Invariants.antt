use Rattle.std.proofs.Common.{drop}
use Rattle.job_load.specs.Groups.{fills_at}
use Rattle.job_load.proofs.Images.{Leads}
use Rattle.job_load.proofs.image.Image.lay.Given as goal

abbrev pub invariant-loop-place : goal.invariant-loop-place
invariant-loop-place l = Leads l._size (fills_at l.fills l.places) (fills_at l.fills (drop l.place-index l.places)) l.self
