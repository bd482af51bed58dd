-- A job without a fault: no test finds a fault.
use Rattle.std.proofs.Common.{ℕ, ◌≡◌, ◌≤◌, ◌<◌, ◌+◌, ◌||◌, Bool, true, false, IsTrue, Option, Some, None, option_map, inl, inr, zero, suc, refl, arith, if◌then◌else◌}
use Rattle.std.specs.List.{list_any, range_with_len}
use Rattle.std.proofs.lemmas.Bool.{cases_eq}
use Rattle.tn_base.specs.Shape.{WithinLimits, first_fault, is_shape}
use Rattle.tn_base.proofs.Limits.{within_limits}
use Rattle.job_text.specs.declared.job.Job.{Job}
use Rattle.job_faults.specs.declared.fault.LoadFault.{LoadFault}
use Rattle.job_faults.specs.Faults.{asm_fault, missing_fault, number_fault, section_fault}
use Rattle.job_faults.specs.Labels.{labels_fault}
use Rattle.job_faults.specs.Mapping.{graph_fault}
use Rattle.job_faults.specs.Mixed.{mixed_fault}
use Rattle.job_faults.specs.Order.{load_fault}
use Rattle.job_faults.specs.Room.{room_fault}
use Rattle.job_faults.specs.Routed.{routes_fault}
use Rattle.job_faults.specs.Tables.{table_fault}
use Rattle.job_faults.proofs.Faults.{or_neither}

-- where no test finds a fault, each one says so
pub record Faultless (job : Job) : Type 0 where
  pub numbers : number_fault job ≡ None
  pub mixed : mixed_fault job ≡ None
  pub assembly : asm_fault job ≡ None
  pub graph : graph_fault job ≡ None
  pub sections : section_fault job ≡ None
  pub missing : missing_fault job ≡ None
  pub labels : labels_fault job ≡ None
  pub room : room_fault job ≡ None
  pub tables : table_fault job ≡ None
  pub routes : routes_fault job ≡ None

pub each_none : (job : Job) → load_fault job ≡ None → Faultless job
each_none job e =
    let one = or_neither (number_fault job) _ e in
    let two = or_neither (mixed_fault job) _ one.1 in
    let three = or_neither (asm_fault job) _ two.1 in
    let four = or_neither (graph_fault job) _ three.1 in
    let five = or_neither (section_fault job) _ four.1 in
    let six = or_neither (missing_fault job) _ five.1 in
    let seven = or_neither (labels_fault job) _ six.1 in
    let eight = or_neither (room_fault job) _ seven.1 in
    let nine = or_neither (table_fault job) (routes_fault job) eight.1 in
    record { numbers = one.0; mixed = two.0; assembly = three.0; graph = four.0; sections = five.0; missing = six.0; labels = seven.0; room = eight.0; tables = nine.0; routes = nine.1 }

-- The numbers.

no_number : {X Y : Type 0} (g : X → Y) (f : Option X) → option_map g f ≡ None → f ≡ None
no_number g None e = refl
no_number g (Some f) e = absurd cc

pub in_limits : (job : Job) → number_fault job ≡ None → IsTrue (is_shape job.numbers)
in_limits job e = let none = no_number _ (first_fault job.numbers) e in rw none refl

pub limits_of : (job : Job) → number_fault job ≡ None → WithinLimits job.numbers
limits_of job e = within_limits job.numbers (in_limits job e)

-- A test that refuses a job.

pub no_code : (t : Bool) (f : LoadFault) → (if t then Some f else None) ≡ None → t ≡ false
no_code true f e = absurd cc
no_code false f e = refl

pub passed : (t : Bool) (f : LoadFault) → (if t then None else Some f) ≡ None → IsTrue t
passed true f e = refl
passed false f e = absurd cc

-- A test of each number of a range.

neither : (a b : Bool) → (a || b) ≡ false → (a ≡ false) × (b ≡ false)
neither true b e = absurd cc
neither false b e = (refl, e)

pub any_later : (test : ℕ → Bool) (first count i : ℕ) → list_any test (range_with_len first count) ≡ false → first ≤ i → i < first + count → test i ≡ false
any_later test first zero i e lo hi = absurd (omega arith)
any_later test first (suc count) i e lo hi =
    let both = neither (test first) (list_any test (range_with_len (first + 1) count)) e in
    elim (cases_eq first i) [
      | inl same ↦ rw (← same) both.0
      | inr other ↦ any_later test (first + 1) count i both.1 (omega arith) (omega arith)
    ]
