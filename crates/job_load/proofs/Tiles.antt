-- The threads of a tile, by where the threads of a job's machine come from.
use Rattle.std.proofs.Common.{ℕ, ◌≡◌, ◌≤◌, ◌<◌, ◌+◌, ◌*◌, ◌∙◌, IsTrue, List, Some, length, map, sym, ap, subst, arith}
use Rattle.std.specs.List.{range_with_len}
use Rattle.std.proofs.lemmas.List.{length-map}
use Rattle.std.proofs.lemmas.List.FromFn.{get_or-map-range_with_len, length-map-range_with_len}
use Rattle.tn_base.specs.declared.shape.ShapeNumbers.{ShapeNumbers}
use Rattle.tn_base.specs.Address.{has_tile, in_tile, tile_place, tile_threads}
use Rattle.tn_base.specs.Shape.{WithinLimits, thread_count}
use Rattle.tn_keys.specs.Tables.{Table}
use Rattle.polite_switch.specs.SwitchModel.{SwitchModel}
use Rattle.tn_thread.specs.declared.thread.Thread.{Thread}
use Rattle.tn_tile.specs.Kept.{FitsFirmware, with_switches}
use Rattle.job_text.specs.declared.job.Job.{Job}
use Rattle.job_faults.specs.Mapping.{graph_mapped}
use Rattle.job_faults.proofs.Ranges.{map_same}
use Rattle.job_load.specs.Graph.{FitsGraph, bare_thread, no_seat, place_of, seat_in, seated_in, seats_on, thread_with}
use Rattle.job_load.specs.Origin.{ComesOfGraph}
use Rattle.job_load.specs.SeatedModel.{SeatedModel}
use Rattle.job_load.specs.Start.{by_address, thread_by, thread_start}
use Rattle.job_load.proofs.Seats.{seat_on, seats_count, tile_seated, tile_within}
use Rattle.job_load.proofs.Tables.{graph_fits}

-- the threads of a tile over the seats that a graph gives
pub record IsSeatedTile (job : Job) (n : ShapeNumbers) (flits : ℕ) (seats : List SeatedModel) (tile : ℕ) : Type 0 where
  pub whole : length seats ≡ thread_count n
  pub count : length (seats_on n seats tile) ≡ tile_threads n
  pub room : (k : ℕ) → k < length (seats_on n seats tile) → length (seat_in (seats_on n seats tile) k).image ≤ n.mem
  pub firmware : FitsFirmware n (Some flits)
  pub threads : with_switches (map (bare_thread n flits (seats_on n seats tile) tile) (range_with_len 0 (tile_threads n))) (map (λ (s : SeatedModel). s.switch) (seats_on n seats tile)) ≡ by_address (thread_start job) n tile

seated_by : (job : Job) (flits : ℕ) (seats : List SeatedModel) (tables : List Table) (tile : ℕ) → WithinLimits job.numbers → IsTrue (has_tile job.numbers tile) → ComesOfGraph job flits seats tables →
    FitsGraph job (graph_mapped job) → IsSeatedTile job job.numbers flits seats tile
seated_by job flits seats tables tile l there c fits =
    let n : ShapeNumbers = job.numbers in
    let fit = graph_fits job c.mapped c.graph_is fits in
    let within = tile_within n tile l there in
    let whole : length seats ≡ thread_count n = ap length c.threads_are ∙ length-map-range_with_len (seated_in job c.mapped) 0 (thread_count n) in
    let count : length (seats_on n seats tile) ≡ tile_threads n = seats_count n seats tile (omega arith) in
    let first : ℕ = tile_place n tile * tile_threads n in
    let seat : (k : ℕ) → k < tile_threads n → seat_in (seats_on n seats tile) k ≡ seated_in job c.mapped (first + k) = λ k less.
    seat_on n seats tile k less ∙ ap (λ (ss : List SeatedModel). seat_in ss (first + k)) c.threads_are
    ∙ get_or-map-range_with_len (seated_in job c.mapped) 0 (thread_count n) (first + k) (first + k) no_seat (omega arith) (omega arith) in
    let each : (a : ℕ) → thread_with n flits a (seated_in job c.mapped (place_of n a)) ≡ thread_start job a = λ a.
    ap (λ f. thread_with n f a (seated_in job c.mapped (place_of n a))) c.flits_are ∙ sym (ap (λ m. thread_by job m a) c.graph_is) in
    record {
      whole = whole;
      count = count;
      room = λ k less. let here = seat k (omega arith) in let room = fit.room (first + k) (omega arith) in rw here room;
      firmware = rw c.flits_are (fit.starts.graph_is.some_flits, fit.messages);
      threads =
          tile_seated n flits (seated_in job c.mapped) seats tile l there c.threads_are
          ∙ map_same (λ k. thread_with n flits (in_tile n tile k) (seated_in job c.mapped (place_of n (in_tile n tile k)))) (λ k. thread_start job (in_tile n tile k)) (range_with_len 0 (tile_threads n)) (λ k. each (in_tile n tile k));
    }

pub seated_tile : (job : Job) (n : ShapeNumbers) (flits : ℕ) (seats : List SeatedModel) (tables : List Table) (tile : ℕ) → n ≡ job.numbers → WithinLimits n → IsTrue (has_tile n tile) → ComesOfGraph job flits seats tables →
    FitsGraph job (graph_mapped job) → IsSeatedTile job n flits seats tile
seated_tile job n flits seats tables tile e l there c fits =
    subst (λ (k : ShapeNumbers). WithinLimits k → IsTrue (has_tile k tile) → IsSeatedTile job k flits seats tile) (sym e)
    (λ limits has. seated_by job flits seats tables tile limits has c fits) l there

-- fewer softswitches than threads, or as many
pub as_many : (job : Job) (n : ShapeNumbers) (flits : ℕ) (seats : List SeatedModel) (tile : ℕ) (threads : List Thread) (switches : List SwitchModel) → IsSeatedTile job n flits seats tile →
    threads ≡ map (bare_thread n flits (seats_on n seats tile) tile) (range_with_len 0 (tile_threads n)) → switches ≡ map (λ (s : SeatedModel). s.switch) (seats_on n seats tile) → length switches ≤ length threads
as_many job n flits seats tile threads switches s e f =
    let many : length switches ≡ tile_threads n = ap length f ∙ length-map (seats_on n seats tile) (λ (s : SeatedModel). s.switch) ∙ s.count in
    let count : length threads ≡ tile_threads n = ap length e ∙ length-map-range_with_len (bare_thread n flits (seats_on n seats tile) tile) 0 (tile_threads n) in
    omega arith
