-- Threads and parts at the start.
use Rattle.std.proofs.Common.{ℕ, ◌≡◌, ◌≤◌, ◌+◌, ◌∷◌, ◌∙◌, [], Bool, true, false, not, List, Some, None, length, map, nat_lt, refl, sym, subst, ap, arith, IfOk, if◌then◌else◌}
use Rattle.std.specs.List.{AllByRecursion, range_with_len}
use Rattle.std.specs.declared.result.Result.{Result}
use Rattle.std.proofs.lemmas.Bool.Decides.{nat_tests}
use Rattle.std.proofs.lemmas.List.{get_or-map, length-map, length-replicate}
use Rattle.tn_base.specs.declared.ids.ThreadId.{ThreadId}
use Rattle.tn_base.specs.declared.part.Kind.{Kind}
use Rattle.tn_base.specs.declared.part.Kind.TheVariants as kind
use Rattle.tn_base.specs.declared.shape.ShapeNumbers.{ShapeNumbers}
use Rattle.tn_base.specs.Address.{has_thread, in_tile, tile_threads}
use Rattle.tn_base.specs.Parts.{kind_of, parts, visited}
use Rattle.tn_rows.specs.Events.{FitsKind, IsWorld}
use Rattle.tn_rows.specs.PartView.{PartView, AbsentV}
use Rattle.tn_rows.specs.WorldView.{WorldView}
use Rattle.tn_thread.specs.declared.thread.Thread.{Thread}
use Rattle.tn_thread.specs.Step.{started}
use Rattle.tn_tile.specs.Kept.{fresh_tile}
use Rattle.tn_tile.specs.TileView.{TileView}
use Rattle.job_text.specs.declared.job.FillLine.{FillLine}
use Rattle.job_text.specs.declared.job.Job.{Job}
use Rattle.job_faults.specs.declared.fault.FaultName.TheVariants as fault
use Rattle.job_faults.specs.Assembly.{sections_of}
use Rattle.job_faults.specs.Code.{code_of}
use Rattle.job_faults.specs.Faults.{beat_fault, beat_lines, code_fault, fault_at, fill_fault, place_fault, section_fault, send_fault, soonest}
use Rattle.job_load.specs.Groups.{AreGroups, fills_at, group_at}
use Rattle.job_load.specs.Images.{IsImage, IsWithin, fills_of, memory_of}
use Rattle.tn_pages.specs.Paged.{filled, started_with}
use Rattle.job_faults.specs.Mapping.{graph_mapped}
use Rattle.job_load.specs.Start.{by_address, filled_thread, part_start, start_of, thread_by, thread_start, tile_start}
use Rattle.job_faults.proofs.Faults.{NoneFound, none_of_five, none_soonest}
use Rattle.job_load.proofs.Images.{filled_long, filled_none}
use Rattle.job_faults.proofs.Ranges.{map_same}

-- Images and memories.

same_start : (n : ShapeNumbers) (id : ThreadId) (a b : List ℕ) → filled n.mem a ≡ filled n.mem b → started n id a None ≡ started n id b None
same_start n id a b e = ap (λ m. record (started n id [] None) { mem = started_with n.mem m }) e

-- a thread that was made of the image of its fills is the thread over the whole memory that the image stands for
thread_filled : (n : ShapeNumbers) (fills : List FillLine) (id : ThreadId) (image : List ℕ) → IsImage n.mem (fills_of id.0 fills) image → started n id image None ≡ filled_thread n fills id.0
thread_filled n fills id image is =
    let long : length (memory_of n.mem fills id.0) ≡ n.mem = ap length (sym is.memory) ∙ filled_long n.mem image is.few in
    let whole : filled n.mem (memory_of n.mem fills id.0) ≡ memory_of n.mem fills id.0 = filled_none n.mem (memory_of n.mem fills id.0) (omega arith) in
    same_start n id image (memory_of n.mem fills id.0) (is.memory ∙ sym whole)

pub thread_made : (n m : ShapeNumbers) (fills : List FillLine) (groups : List (List ℕ)) (id : ThreadId) (a : ℕ) (places image : List ℕ) (thread : Thread) →
    m ≡ n → AreGroups fills groups → id.0 ≡ a → places ≡ group_at groups id.0 → IsImage m.mem (fills_at fills places) image → thread ≡ started n id image None → thread ≡ filled_thread n fills a
thread_made n m fills groups id a places image thread e are f g is made =
    let fs : fills_at fills places ≡ fills_of id.0 fills = ap (fills_at fills) g ∙ are.each id.0 in
    let P : List FillLine → Type 0 = λ all. IsImage n.mem all image in
    let Q : ShapeNumbers → Type 0 = λ k. IsImage k.mem (fills_at fills places) image in
    made ∙ thread_filled n fills id image (subst P fs (subst Q e is)) ∙ ap (filled_thread n fills) f

-- the threads of a tile of a job without a graph
pub threads_same : (n : ShapeNumbers) (job : Job) (tile : ℕ) → n ≡ job.numbers → graph_mapped job ≡ None →
    by_address (filled_thread n job.fills) n tile ≡ by_address (thread_start job) n tile
threads_same n job tile e none =
    map_same (λ k. filled_thread n job.fills (in_tile n tile k)) (λ k. thread_start job (in_tile n tile k)) (range_with_len 0 (tile_threads n))
    (λ k. ap (λ m. filled_thread m job.fills (in_tile n tile k)) e ∙ sym (ap (λ m. thread_by job m (in_tile n tile k)) none))

-- a tile that was made is the one of the job
pub tile_made : (n : ShapeNumbers) (job : Job) (tile : ℕ) (words : List ℕ) (threads : List Thread) →
    n ≡ job.numbers → words ≡ code_of (sections_of job) tile → threads ≡ by_address (thread_start job) n tile → fresh_tile n tile words threads ≡ tile_start job tile
tile_made n job tile words threads e f g =
    let same : threads ≡ by_address (thread_start job) job.numbers tile = g ∙ ap (λ m. by_address (thread_start job) m tile) e in
    ap (λ m. fresh_tile m tile words threads) e ∙ ap (λ w. fresh_tile job.numbers tile w threads) f ∙ ap (λ all. fresh_tile job.numbers tile (code_of (sections_of job) tile) all) same

pub if_made : {E : Type 0} (result : Result TileView E) (made tile : TileView) → made ≡ tile → IfOk result (λ t. t ≡ made) → IfOk result (λ t. t ≡ tile)
if_made result made tile e h = let P : TileView → Type 0 = λ v. IfOk result (λ t. t ≡ v) in subst P e h

-- The machine.

fits_kind : (job : Job) (k : Kind) → FitsKind job.numbers k (part_start job k)
fits_kind job (kind.Tile tile) = (refl, refl)
fits_kind job kind.Host = tt
fits_kind job (kind.Router board) = (refl, refl)
fits_kind job (kind.Link from onto) = refl
fits_kind job kind.Detector = (refl, record { some = omega arith; places = length-replicate (visited job.numbers) None })

pub start_is_world : (job : Job) → IsWorld (start_of job)
start_is_world job = record {
  count = length-map (parts job.numbers) (part_start job);
  each = λ p h. let e = get_or-map (part_start job) (parts job.numbers) p kind.Detector AbsentV h in rw e (fits_kind job (kind_of job.numbers p));
}

abbrev world_of : ShapeNumbers → List PartView → WorldView
world_of n items = record { shape = n; parts = items }

pub world_made : (n : ShapeNumbers) (job : Job) (items : List PartView) → n ≡ job.numbers → items ≡ map (part_start job) (parts n) → IsWorld (record { shape = n; parts = items })
world_made n job items e f =
    let same : start_of job ≡ world_of n items = sym (ap (λ made. world_of n made) f ∙ ap (λ m. world_of m (map (part_start job) (parts m))) e) in
    let P : WorldView → Type 0 = λ w. IsWorld w in
    subst P same (start_is_world job)

-- A job whose sections are not at fault.

fits_by : (n : ShapeNumbers) (f : FillLine) (there past : Bool) → nat_lt n.mem (f.address + length f.bytes) ≡ past →
    (if not there then Some (fault_at f.line fault.BadThread) else if past then Some (fault_at f.line fault.BadFill) else None) ≡ None → f.address + length f.bytes ≤ n.mem
fits_by n f false past e none = absurd cc
fits_by n f true true e none = absurd cc
fits_by n f true false e none = grind (arith, nat_tests)

pub fill_within : (n : ShapeNumbers) (f : FillLine) → fill_fault n f ≡ None → IsWithin n.mem f
fill_within n f e = record { end = fits_by n f (has_thread n f.thread) (nat_lt n.mem (f.address + length f.bytes)) refl e }

fills_by : (n : ShapeNumbers) (fills : List FillLine) → AllByRecursion (λ f. fill_fault n f ≡ None) fills → AllByRecursion (IsWithin n.mem) fills
fills_by n [] all = tt
fills_by n (f ∷ fs) all = (fill_within n f all.0, fills_by n fs all.1)

pub nothing_found : (job : Job) → section_fault job ≡ None →
    NoneFound (soonest (code_fault job.numbers) (sections_of job)) (soonest (fill_fault job.numbers) job.fills) (soonest (place_fault job.numbers) job.tables) (soonest (beat_fault job.version) (beat_lines job.tables)) (soonest (send_fault job.numbers) job.script)
nothing_found job e =
    none_of_five (soonest (code_fault job.numbers) (sections_of job)) (soonest (fill_fault job.numbers) job.fills) (soonest (place_fault job.numbers) job.tables) (soonest (beat_fault job.version) (beat_lines job.tables)) (soonest (send_fault job.numbers) job.script) e

pub fills_within : (job : Job) → section_fault job ≡ None → AllByRecursion (IsWithin job.numbers.mem) job.fills
fills_within job e = fills_by job.numbers job.fills (none_soonest (fill_fault job.numbers) job.fills (nothing_found job e).second)
