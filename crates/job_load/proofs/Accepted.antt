-- The start of a job that is accepted.
use Rattle.std.proofs.Common.{ℕ, ◌≡◌, ◌+◌, ◌∷◌, [], Bool, true, false, not, IsTrue, List, Option, Some, None, length, map, nat_lt, refl, sym, ap, subst, arith, if◌then◌else◌}
use Rattle.std.specs.List.{AllByRecursion, range_with_len}
use Rattle.std.specs.declared.result.Result.{Result}
use Rattle.std.specs.declared.result.Result.TheVariants.{Ok, Err}
use Rattle.std.proofs.lemmas.Bool.Decides.{nat_tests}
use Rattle.std.proofs.lemmas.List.FromFn.{fill_by_all}
use Rattle.std.proofs.lemmas.Nat.{div-add-mod'}
use Rattle.tn_base.specs.declared.part.Kind.{Kind}
use Rattle.tn_base.specs.declared.part.Kind.TheVariants as kind
use Rattle.tn_base.specs.declared.shape.ShapeNumbers.{ShapeNumbers}
use Rattle.tn_base.specs.Address.{has_thread, has_tile}
use Rattle.tn_base.specs.Parts.{board_at, board_count, parts, tile_at, tile_count}
use Rattle.tn_base.specs.Shape.{WithinLimits}
use Rattle.tn_base.proofs.Places.{orders_tiles}
use Rattle.tn_keys.specs.Accepted.{Accepted}
use Rattle.tn_keys.specs.Tables.{Table, table_at, table_of}
use Rattle.tn_rows.specs.WorldView.{WorldView}
use Rattle.job_text.specs.declared.job.FillLine.{FillLine}
use Rattle.job_text.specs.declared.job.Job.{Job}
use Rattle.job_text.specs.declared.job.TableSection.{TableSection}
use Rattle.job_faults.specs.declared.fault.FaultName.TheVariants as fault
use Rattle.job_faults.specs.declared.fault.LoadFault.{LoadFault}
use Rattle.job_faults.specs.declared.map.Mapped.{Mapped}
use Rattle.job_faults.specs.Code.{code_of, is_empty, lacks_code}
use Rattle.job_faults.specs.Assembly.{sections_of}
use Rattle.job_faults.specs.Faults.{beat_fault, beat_lines, fault_at, fill_fault, has_board, missing_fault, number_fault, place_fault, section_fault, send_fault, shape_line}
use Rattle.job_load.specs.Images.{IsWithin}
use Rattle.job_load.specs.Graph.{FitsGraph}
use Rattle.job_load.specs.Laws.{HasStarts, IsFreshPart, IsStart}
use Rattle.job_load.specs.Loaded.{loaded}
use Rattle.job_faults.specs.Mapping.{graph_mapped}
use Rattle.job_faults.specs.Order.{load_fault, unless}
use Rattle.job_load.specs.Start.{IsThere, by_address, part_start, start_of, start_tables, table_by, thread_start}
use Rattle.tn_tile.specs.Kept.{AreStarts}
use Rattle.job_faults.specs.Tables.{table_fault, tables_of}
use Rattle.job_faults.proofs.Boards.{faultless}
use Rattle.job_faults.proofs.Faultless.{any_later, each_none, in_limits, limits_of, no_code}
use Rattle.job_faults.proofs.Faults.{none_soonest}
use Rattle.job_load.proofs.Fits.{fits_graph}
use Rattle.job_load.proofs.Memory.{memory_is}
use Rattle.job_load.proofs.Named.{parts_named}
use Rattle.job_load.proofs.Starts.{fill_within, fills_within, nothing_found, start_is_world}
use Rattle.job_load.proofs.Fresh.{IsSized, threads_fresh, tile_starts}

passes : (f : Option LoadFault) (others : Result WorldView LoadFault) (w : WorldView) → unless f others ≡ Ok w → (f ≡ None) × (others ≡ Ok w)
passes None others w e = (refl, e)
passes (Some f) others w e = absurd cc

-- Fills.

there_by : (n : ShapeNumbers) (f : FillLine) (there past : Bool) →
    (if not there then Some (fault_at f.line fault.BadThread) else if past then Some (fault_at f.line fault.BadFill) else None) ≡ None → IsTrue there
there_by n f false past e = absurd cc
there_by n f true past e = refl

fills_there : (n : ShapeNumbers) (fills : List FillLine) → AllByRecursion (λ f. fill_fault n f ≡ None) fills → AllByRecursion (λ f. IsTrue (has_thread n f.thread) × IsWithin n.mem f) fills
fills_there n [] all = tt
fills_there n (f ∷ fs) all = ((there_by n f (has_thread n f.thread) (nat_lt n.mem (f.address + length f.bytes)) all.0, fill_within n f all.0), fills_there n fs all.1)

-- Tables.

board_there : (n : ShapeNumbers) (t : TableSection) (there : Bool) → (if there then None else Some (fault_at t.line fault.BadTable)) ≡ None → IsTrue there
board_there n t false e = absurd cc
board_there n t true e = refl

boards_there : (n : ShapeNumbers) (tables : List TableSection) → AllByRecursion (λ t. place_fault n t ≡ None) tables → AllByRecursion (λ t. IsTrue (has_board n t)) tables
boards_there n [] all = tt
boards_there n (t ∷ ts) all = (board_there n t (has_board n t) all.0, boards_there n ts all.1)

-- Parts.

starts_of : (job : Job) (k : Kind) → FitsGraph job (graph_mapped job) → IsSized job → WithinLimits job.numbers → IsThere job.numbers k → HasStarts job k
starts_of job (kind.Tile tile) fits sized l there = tile_starts job tile.0 fits sized l there
starts_of job kind.Host fits sized l there = tt
starts_of job (kind.Router board) fits sized l there = tt
starts_of job (kind.Link from onto) fits sized l there = tt
starts_of job kind.Detector fits sized l there = tt

all_starts : (job : Job) (kinds : List Kind) → FitsGraph job (graph_mapped job) → IsSized job → WithinLimits job.numbers → AllByRecursion (IsThere job.numbers) kinds → AllByRecursion (HasStarts job) kinds
all_starts job [] fits sized l there = tt
all_starts job (k ∷ ks) fits sized l there = (starts_of job k fits sized l there.0, all_starts job ks fits sized l there.1)

fresh_part : (job : Job) (k : Kind) → HasStarts job k → IsFreshPart (part_start job k)
fresh_part job (kind.Tile tile) starts = record { threads = threads_fresh job tile.0 starts; pending = refl; pool = refl; node = refl; dropped = refl; going = refl }
fresh_part job kind.Host starts = refl
fresh_part job (kind.Router board) starts = record { inputs = refl; node = refl; going = refl }
fresh_part job (kind.Link from onto) starts = refl
fresh_part job kind.Detector starts = refl

fresh_parts : (job : Job) (kinds : List Kind) → AllByRecursion (HasStarts job) kinds → AllByRecursion IsFreshPart (map (part_start job) kinds)
fresh_parts job [] starts = tt
fresh_parts job (k ∷ ks) starts = (fresh_part job k starts.0, fresh_parts job ks starts.1)

-- The tables at the start.

listed_tables : (n : ShapeNumbers) (tables : List Table) → length tables ≡ board_count n → map (λ i. table_of n tables (board_at n i)) (range_with_len 0 (board_count n)) ≡ tables
listed_tables n tables e = sym (fill_by_all (λ i. table_of n tables (board_at n i)) tables (board_count n) [] e (λ k h. ap (table_at tables) (sym (div-add-mod' k n.boards_x))))

tables_by : (job : Job) (mapped : Option Mapped) → FitsGraph job mapped → Accepted job.numbers (tables_of job) →
    Accepted job.numbers (map (λ i. table_by job mapped (board_at job.numbers i)) (range_with_len 0 (board_count job.numbers)))
unfolding tables_of
tables_by job None fits plain = plain
tables_by job (Some m) fits plain = subst (Accepted job.numbers) (sym (listed_tables job.numbers m.routes.tables fits.tables.count)) fits.tables

tables_start : (job : Job) → FitsGraph job (graph_mapped job) → Accepted job.numbers (tables_of job) → Accepted job.numbers (start_tables job)
unfolding start_tables
tables_start job fits plain = tables_by job (graph_mapped job) fits plain

-- The start.

pub sized : (job : Job) → section_fault job ≡ None → IsSized job
sized job sections = λ thread. (memory_is job.numbers.mem job.fills thread (fills_within job sections)).size_is

start_by : (job : Job) → FitsGraph job (graph_mapped job) → number_fault job ≡ None → section_fault job ≡ None → missing_fault job ≡ None → table_fault job ≡ None → IsStart job (start_of job)
start_by job fits numbers sections missing tables =
    let none = nothing_found job sections in
    let coded = no_code (lacks_code job.numbers (sections_of job)) (fault_at (shape_line job.number_lines) fault.NoCode) missing in
    let l = limits_of job numbers in
    let starts = all_starts job (parts job.numbers) fits (sized job sections) l (parts_named job.numbers (orders_tiles job.numbers l).there) in
    record {
      start = refl;
      world = start_is_world job;
      numbers = in_limits job numbers;
      code = λ i h. let e = any_later (λ k. is_empty (code_of (sections_of job) (tile_at job.numbers k))) 0 (tile_count job.numbers) i coded (omega arith) (omega arith) in grind (arith, nat_tests);
      fills = fills_there job.numbers job.fills (none_soonest (fill_fault job.numbers) job.fills none.second);
      boards = boards_there job.numbers job.tables (none_soonest (place_fault job.numbers) job.tables none.third);
      beats = none_soonest (beat_fault job.version) (beat_lines job.tables) none.fourth;
      sends = none_soonest (send_fault job.numbers) job.script none.fifth;
      graph = fits;
      tables = tables_start job fits (faultless job tables);
      threads = starts;
      fresh = fresh_parts job (parts job.numbers) starts;
    }

pub accepted : (job : Job) (w : WorldView) → loaded job ≡ Ok w → IsStart job w
accepted job w e =
    let one = passes (load_fault job) (Ok (start_of job)) w e in
    let none = each_none job one.0 in
    let same : start_of job ≡ w = cc in
    let P : WorldView → Type 0 = λ v. IsStart job v in
    subst P same (start_by job (fits_graph job (graph_mapped job) one.0 refl) none.numbers none.sections none.missing none.tables)

-- a job with a fault is refused by its first fault
pub fault_refuses : (job : Job) (f : LoadFault) → load_fault job ≡ Some f → loaded job ≡ Err f
fault_refuses job f e = rw e refl

-- a job without a fault is accepted
pub faultless_accepted : (job : Job) → load_fault job ≡ None → loaded job ≡ Ok (start_of job)
faultless_accepted job none = rw none refl

-- the threads of a tile of a job without a fault
pub starts_there : (job : Job) (n : ShapeNumbers) (tile : ℕ) → n ≡ job.numbers → load_fault job ≡ None → IsTrue (has_tile n tile) → AreStarts n tile (by_address (thread_start job) n tile)
starts_there job n tile e none there =
    let each = each_none job none in
    subst (λ (m : ShapeNumbers). IsTrue (has_tile m tile) → AreStarts m tile (by_address (thread_start job) m tile)) (sym e)
    (λ here. tile_starts job tile (fits_graph job (graph_mapped job) none refl) (sized job each.sections) (limits_of job each.numbers) here) there
