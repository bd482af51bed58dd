-- The threads of a job's tiles at their start.
use Rattle.std.proofs.Common.{ℕ, ◌≡◌, ◌<◌, IsTrue, List, [], Option, Some, None, is_some, length, slice_index_or, refl, sym, subst, arith}
use Rattle.std.specs.Prelude.{MatchOption, ⊤}
use Rattle.std.specs.List.{AllByRecursion}
use Rattle.std.proofs.lemmas.List.FromFn.{get_or-map-range_with_len, length-map-range_with_len}
use Rattle.tn_base.specs.declared.shape.ShapeNumbers.{ShapeNumbers}
use Rattle.tn_base.specs.Address.{has_tile, in_tile, tile_threads}
use Rattle.tn_base.specs.Shape.{WithinLimits, thread_count}
use Rattle.polite_switch.specs.declared.device.InEdge.{InEdge}
use Rattle.polite_switch.specs.SwitchModel.{SwitchModel}
use Rattle.polite_place.specs.Outs.{outs_of}
use Rattle.polite_place.specs.Roster.{vertices_on}
use Rattle.polite_start.specs.Start.{devices_from}
use Rattle.polite_start.proofs.Devices.{aligned, long}
use Rattle.graph_text.specs.declared.graph.Graph.{Graph}
use Rattle.tn_thread.specs.declared.thread.Thread.{Thread}
use Rattle.tn_thread.specs.Step.{started}
use Rattle.tn_tile.specs.Kept.{AreStarts, IsFreshSwitch, StartsAt}
use Rattle.tn_tile.specs.Step.{no_thread}
use Rattle.job_text.specs.declared.job.Job.{Job}
use Rattle.job_faults.specs.declared.map.Mapped.{Mapped}
use Rattle.job_faults.specs.Assembly.{labels_of}
use Rattle.job_faults.specs.Labels.{entries_in}
use Rattle.job_faults.specs.Mapping.{graph_mapped}
use Rattle.job_load.specs.Graph.{FitsGraph, StartsFit, place_of, seated, seated_in}
use Rattle.job_load.specs.Images.{memory_of}
use Rattle.job_load.specs.Laws.{IsFreshThread}
use Rattle.job_load.specs.Start.{by_address, thread_by, thread_start}
use Rattle.job_faults.proofs.Ranges.{all_in_range}
use Rattle.job_load.proofs.Places.{place_within}

-- each thread's memory is as large as the machine says
abbrev pub IsSized : Job → Type 0
IsSized job = (thread : ℕ) → length (memory_of job.numbers.mem job.fills thread) ≡ job.numbers.mem

-- One thread.

-- the softswitch of a thread of a graph
switch_fresh : (n : ShapeNumbers) (graph : Graph) (keys : List (List (Option ℕ))) (entries : List (List ℕ)) (in_edges : List (List (List InEdge))) (i : ℕ) →
    StartsFit n graph entries in_edges → i < thread_count n → IsFreshSwitch (seated n graph keys entries in_edges i).switch
switch_fresh n graph keys entries in_edges i f h =
    let vs : List ℕ = vertices_on n (outs_of graph) i in
    record {
      devices = devices_from graph keys entries 0 vs;
      in_edges = slice_index_or in_edges i [];
      few = rw (long graph keys entries 0 vs) (f.few i h);
      aligned = aligned graph keys entries vs f.aligned;
      named = rw (long graph keys entries 0 vs) (f.named i h);
      start = refl;
    }

thread_starts : (job : Job) (mapped : Option Mapped) (a : ℕ) → FitsGraph job mapped → IsSized job → place_of job.numbers a < thread_count job.numbers → StartsAt job.numbers a (thread_by job mapped a)
thread_starts job None a fits sized h = record {
  image = memory_of job.numbers.mem job.fills a;
  firmware = None;
  switch = None;
  fits = let m = sized a in omega arith;
  messages = tt;
  fresh = tt;
  both = refl;
  start = refl;
}
thread_starts job (Some m) a fits sized h = record {
  image = (seated_in job m (place_of job.numbers a)).image;
  firmware = Some m.graph.flits;
  switch = Some (seated_in job m (place_of job.numbers a)).switch;
  fits = fits.room (place_of job.numbers a) h;
  messages = (fits.starts.graph_is.some_flits, fits.messages);
  fresh = switch_fresh job.numbers m.graph m.routes.keys (entries_in (labels_of job.asms) m.graph.kinds) m.routes.in_edges (place_of job.numbers a) fits.starts h;
  both = refl;
  start = refl;
}

-- The threads of a tile.

tile_starts_by : (job : Job) (mapped : Option Mapped) (tile : ℕ) → FitsGraph job mapped → IsSized job → WithinLimits job.numbers → IsTrue (has_tile job.numbers tile) →
    AreStarts job.numbers tile (by_address (thread_by job mapped) job.numbers tile)
tile_starts_by job mapped tile fits sized l there = record {
  count = length-map-range_with_len (λ k. thread_by job mapped (in_tile job.numbers tile k)) 0 (tile_threads job.numbers);
  each = λ k h.
      rw (get_or-map-range_with_len (λ j. thread_by job mapped (in_tile job.numbers tile j)) 0 (tile_threads job.numbers) k k no_thread h (omega arith))
      (thread_starts job mapped (in_tile job.numbers tile k) fits sized (place_within job.numbers tile k l there h));
}

pub tile_starts : (job : Job) (tile : ℕ) → FitsGraph job (graph_mapped job) → IsSized job → WithinLimits job.numbers → IsTrue (has_tile job.numbers tile) →
    AreStarts job.numbers tile (by_address (thread_start job) job.numbers tile)
tile_starts job tile = tile_starts_by job (graph_mapped job) tile

-- A thread at its start has done nothing.

started_fresh : (n : ShapeNumbers) (a : ℕ) (image : List ℕ) (firmware : Option ℕ) (switch : Option SwitchModel) → MatchOption switch ⊤ IsFreshSwitch → is_some switch ≡ is_some firmware →
    IsFreshThread (record (started n (record { 0 = a }) image firmware) { switch = switch })
started_fresh n a image None None fresh both = record { runs = refl; begins = (refl, refl); regs = refl; steps = refl; sends = refl; given = refl; hand = refl }
started_fresh n a image None (Some s) fresh both = absurd cc
started_fresh n a image (Some f) None fresh both = absurd cc
started_fresh n a image (Some f) (Some s) fresh both = record { runs = refl; begins = (refl, refl, fresh); regs = refl; steps = refl; sends = refl; given = refl; hand = refl }

starts_fresh : (n : ShapeNumbers) (a : ℕ) (t : Thread) → StartsAt n a t → IsFreshThread t
starts_fresh n a t s = subst IsFreshThread (sym s.start) (started_fresh n a s.image s.firmware s.switch s.fresh s.both)

pub threads_fresh : (job : Job) (tile : ℕ) → AreStarts job.numbers tile (by_address (thread_start job) job.numbers tile) → AllByRecursion IsFreshThread (by_address (thread_start job) job.numbers tile)
threads_fresh job tile starts =
    all_in_range IsFreshThread (λ k. thread_start job (in_tile job.numbers tile k)) 0 (tile_threads job.numbers)
    (λ k less. subst IsFreshThread (get_or-map-range_with_len (λ j. thread_start job (in_tile job.numbers tile j)) 0 (tile_threads job.numbers) k k no_thread (omega arith) (omega arith))
    (starts_fresh job.numbers (in_tile job.numbers tile k) _ (starts.each k (omega arith))))
