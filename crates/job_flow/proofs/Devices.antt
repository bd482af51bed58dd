-- The devices of a graph job's threads, and the pins of its graph. These lemmas are copies of lemmas of `job_edges`.
use Rattle.std.proofs.Common.{ℕ, ◌≡◌, ◌<◌, ◌+◌, ◌∷◌, ◌∙◌, [], IsTrue, List, zero, suc, get_or, length, map, refl, sym, ap, subst, arith, Option}
use Rattle.std.proofs.lemmas.List.FromFn.{get_or-map-range_with_len, length-map-range_with_len}
use Rattle.std.specs.List.{range_with_len}
use Rattle.tn_base.specs.declared.shape.ShapeNumbers.{ShapeNumbers}
use Rattle.tn_base.specs.Address.{has_thread, thread_at}
use Rattle.tn_base.specs.Shape.{WithinLimits, thread_count}
use Rattle.tn_base.proofs.Places.{orders_threads}
use Rattle.graph_text.specs.declared.graph.Graph.{Graph}
use Rattle.polite_place.specs.declared.placement.Seat.{Seat}
use Rattle.polite_place.specs.Outs.{outs_of}
use Rattle.polite_place.specs.Roster.{vertices_on}
use Rattle.polite_place.specs.Seats.{Seated, place_in, seat_of}
use Rattle.polite_place.proofs.Apart.{place_back}
use Rattle.polite_place.proofs.Rosters.{lists}
use Rattle.polite_place.proofs.Seating.{length_seats, seated}
use Rattle.polite_routes.specs.Answer.{thread_place}
use Rattle.polite_routes.specs.Routes.{PinsThere}
use Rattle.polite_routes.proofs.PinRows.{pins_there}
use Rattle.polite_routes.proofs.Serving.{made}
use Rattle.polite_start.specs.Start.{devices_from, keys_on, state_of}
use Rattle.polite_start.proofs.Devices.{long}
use Rattle.polite_switch.specs.Device.{device_at}
use Rattle.job_text.specs.declared.job.Job.{Job}
use Rattle.job_faults.specs.declared.map.Mapped.{Mapped}
use Rattle.job_faults.specs.Assembly.{labels_of}
use Rattle.job_faults.specs.Fits.{Fits}
use Rattle.job_faults.specs.Labels.{entries_in}
use Rattle.job_faults.proofs.Fits.{count_outs, edges_below, threads_of}
use Rattle.job_load.specs.Graph.{place_of}
use Rattle.job_load.proofs.Places.{place_of_below, place_there_at}
use Rattle.job_edges.specs.JobLayout.{pins_in, switch_at}

-- the place of a number in the rising numbers
place_again : (f : ℕ → ℕ) (count i : ℕ) → ((j k : ℕ) → j < k → k < count → f j < f k) → i < count → place_in (map f (range_with_len 0 count)) (f i) ≡ i
place_again f count i rising h =
    let xs : List ℕ = map f (range_with_len 0 count) in
    let long : length xs ≡ count = length-map-range_with_len f 0 count in
    let here : get_or xs i 0 ≡ f i = get_or-map-range_with_len f 0 count i i 0 h (omega arith) in
    ap (place_in xs) (sym here) ∙ place_back xs i (omega arith) (λ j less same.
    let there : get_or xs j 0 ≡ f j = get_or-map-range_with_len f 0 count j j 0 (omega arith) (omega arith) in
    let rises = rising j i less h in
    omega arith)

-- a thread has the same place by both definitions
place_is : (n : ShapeNumbers) (a : ℕ) → WithinLimits n → IsTrue (has_thread n a) → thread_place n a ≡ place_of n a
place_is n a l there =
    let o = orders_threads n l in
    ap (thread_place n) (sym (place_there_at n a l there)) ∙ place_again (thread_at n) (thread_count n) (place_of n a) o.rising (place_of_below n a l there)

-- a device, its vertex, and where the vertex has its seat
pub record DeviceIs (job : Job) (m : Mapped) (a d : ℕ) : Type 0 where
  pub vertex : ℕ
  pub there : vertex < length m.graph.vertices
  pub keys : (device_at (switch_at job m a).devices d).keys ≡ keys_on m.graph m.routes.keys vertex
  pub seat : (seat_of m.placement vertex).thread.0 ≡ a

keys_at : (graph : Graph) (keys : List (List (Option ℕ))) (entries : List (List ℕ)) (state : ℕ) (vs : List ℕ) (d : ℕ) → d < length vs → (device_at (devices_from graph keys entries state vs) d).keys ≡ keys_on graph keys (get_or vs d 0)
keys_at graph keys entries state [] d h = absurd (omega arith)
keys_at graph keys entries state (v ∷ vs) zero h = refl
keys_at graph keys entries state (v ∷ vs) (suc d) h = keys_at graph keys entries (state + length (state_of graph v)) vs d (omega arith)

pub device_is : (job : Job) (m : Mapped) (a d : ℕ) → Fits job m → IsTrue (has_thread job.numbers a) → d < length (switch_at job m a).devices → DeviceIs job m a d
device_is job m a d f h less =
    let n : ShapeNumbers = job.numbers in
    let outs : List (List ℕ) = outs_of m.graph in
    let i : ℕ = thread_place n a in
    let vs : List ℕ = vertices_on n outs i in
    let place : i ≡ place_of n a = place_is n a f.limits h in
    let below = place_of_below n a f.limits h in
    let many = long m.graph m.routes.keys (entries_in (labels_of job.asms) m.graph.kinds) 0 vs in
    let placing = made n m.graph.per_thread outs m.placement f.placement_is in
    let listing = lists n outs (threads_of n f.limits) (edges_below m.graph f.graph_is) in
    let all = count_outs m.graph in
    let inside = listing.there i d (omega arith) (omega arith) in
    record {
      vertex = get_or vs d 0;
      there = omega arith;
      keys = keys_at m.graph m.routes.keys (entries_in (labels_of job.asms) m.graph.kinds) 0 vs d (omega arith);
      seat = ap (λ (p : List Seat). (seat_of p (get_or vs d 0)).thread.0) placing.seated ∙ ap (λ (s : Seat). s.thread.0) (listing.seats i d (omega arith) (omega arith))
          ∙ ap (thread_at n) place ∙ place_there_at n a f.limits h;
    }

-- each vertex of a job's graph has a seat
pub all_seated : (job : Job) (m : Mapped) → Fits job m → (length m.placement ≡ length m.graph.vertices) × Seated job.numbers m.graph.per_thread m.placement
all_seated job m f =
    let n : ShapeNumbers = job.numbers in
    let outs : List (List ℕ) = outs_of m.graph in
    let placing = made n m.graph.per_thread outs m.placement f.placement_is in (
      ap length placing.seated ∙ length_seats n outs ∙ count_outs m.graph,
      subst (Seated n m.graph.per_thread) (sym placing.seated) (seated n outs m.graph.per_thread (threads_of n f.limits) (edges_below m.graph f.graph_is) placing.room),
    )

-- the pins of a job's graph are there
pub all_pins : (job : Job) (m : Mapped) → Fits job m → PinsThere job.numbers (pins_in m)
all_pins job m f =
    let seats = all_seated job m f in
    pins_there job.numbers m.graph m.placement f.graph_is seats.0 seats.1
