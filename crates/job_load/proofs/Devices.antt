-- Each vertex of a graph has its device on the thread of its seat.
use Rattle.std.proofs.Common.{ℕ, ◌≡◌, ◌<◌, ◌+◌, ◌-◌, ◌∷◌, ◌++◌, ◌∙◌, [], inl, inr, zero, suc, IsTrue, List, Option, Some, None, append_assoc, drop, get_or, length, length-append, option_map, replicate, take, sym, ap, subst, arith}
use Rattle.std.proofs.Math.Seq.{drop-append-add, take-append_seam}
use Rattle.std.proofs.lemmas.Bool.{cases_lt}
use Rattle.tn_base.specs.declared.shape.ShapeNumbers.{ShapeNumbers}
use Rattle.tn_base.specs.Address.{has_thread, thread_at}
use Rattle.tn_base.specs.Shape.{WithinLimits, thread_count}
use Rattle.tn_base.proofs.Places.{orders_threads}
use Rattle.polite_switch.specs.Device.{device_at}
use Rattle.polite_switch.specs.DeviceModel.{DeviceModel}
use Rattle.polite_switch.specs.SwitchModel.{SwitchModel}
use Rattle.tn_pages.specs.Paged.{filled}
use Rattle.graph_text.specs.declared.graph.Graph.{Graph}
use Rattle.polite_place.specs.declared.placement.Seat.{Seat}
use Rattle.polite_place.specs.Outs.{outs_of}
use Rattle.polite_place.specs.Roster.{Listed, Lists, vertices_on}
use Rattle.polite_place.specs.Seats.{devices_on, seat_of, seats}
use Rattle.polite_place.proofs.Devices.{devices_listed}
use Rattle.polite_place.proofs.Rosters.{lists}
use Rattle.polite_routes.proofs.Serving.{made}
use Rattle.polite_start.specs.Start.{device_of, devices_from, image_of, state_of}
use Rattle.polite_start.proofs.Devices.{long}
use Rattle.job_text.specs.declared.job.Job.{Job}
use Rattle.job_faults.specs.declared.map.Mapped.{Mapped}
use Rattle.job_faults.specs.Assembly.{labels_of}
use Rattle.job_faults.specs.Labels.{entries_in}
use Rattle.job_faults.specs.Mapping.{graph_mapped}
use Rattle.job_faults.specs.Order.{load_fault}
use Rattle.job_faults.proofs.Fits.{count_outs, edges_below, fits, threads_of}
use Rattle.job_load.specs.Graph.{place_of, seated_in}
use Rattle.job_load.specs.Laws.{AreSeated, HasDevice, HasVertex, device_count}
use Rattle.job_load.specs.Start.{thread_by, thread_start}
use Rattle.job_load.proofs.Places.{place_of_below, place_there_at}

-- Places by address.

-- where numbers rise with their places, equal numbers have one place
one_place : (f : ℕ → ℕ) (count i j : ℕ) → ((a b : ℕ) → a < b → b < count → f a < f b) → i < count → j < count → f i ≡ f j → i ≡ j
one_place f count i j rising hi hj e =
    elim (cases_lt i j) [
      | inl below ↦ let more = rising i j below hj in absurd (omega arith)
      | inr same_or_above ↦ elim (cases_lt j i) [
        | inl above ↦ let more = rising j i above hi in absurd (omega arith)
        | inr same ↦ omega arith
      ]
    ]

-- the place of the i-th thread is i
place_again : (n : ShapeNumbers) (i : ℕ) → WithinLimits n → i < thread_count n → place_of n (thread_at n i) ≡ i
place_again n i l h =
    let o = orders_threads n l in
    one_place (thread_at n) (thread_count n) (place_of n (thread_at n i)) i o.rising (place_of_below n (thread_at n i) l (o.there i h)) h (place_there_at n (thread_at n i) l (o.there i h))

-- Devices.

-- the device at a place, whose state begins behind the states of the devices before it
device_is : (graph : Graph) (keys : List (List (Option ℕ))) (entries : List (List ℕ)) (state : ℕ) (vs : List ℕ) (d : ℕ) → d < length vs →
    device_at (devices_from graph keys entries state vs) d ≡ device_of graph keys entries (state + length (image_of graph (take d vs))) (get_or vs d 0)
device_is graph keys entries state [] d h = absurd (omega arith)
device_is graph keys entries state (v ∷ vs) zero h = let e : state ≡ state + 0 = omega arith in ap (λ k. device_of graph keys entries k v) e
device_is graph keys entries state (v ∷ vs) (suc d) h =
    let long = length-append (state_of graph v) (image_of graph (take d vs)) in
    let e : state + length (state_of graph v) + length (image_of graph (take d vs)) ≡ state + length (state_of graph v ++ image_of graph (take d vs)) = omega arith in
    device_is graph keys entries (state + length (state_of graph v)) vs d (omega arith) ∙ ap (λ k. device_of graph keys entries k (get_or vs d 0)) e

-- the state at that place of an image
state_there : (graph : Graph) (vs : List ℕ) (d : ℕ) (rest : List ℕ) → d < length vs →
    take (length (state_of graph (get_or vs d 0))) (drop (length (image_of graph (take d vs))) (image_of graph vs ++ rest)) ≡ state_of graph (get_or vs d 0)
state_there graph [] d rest h = absurd (omega arith)
state_there graph (v ∷ vs) zero rest h =
    ap (take (length (state_of graph v))) (append_assoc (state_of graph v) (image_of graph vs) rest) ∙ take-append_seam (state_of graph v) (image_of graph vs ++ rest)
state_there graph (v ∷ vs) (suc d) rest h =
    let s : List ℕ = state_of graph v in
    let before : List ℕ = image_of graph (take d vs) in
    let e : drop (length (s ++ before)) ((s ++ image_of graph vs) ++ rest) ≡ drop (length before) (image_of graph vs ++ rest) =
    ap (λ k. drop k ((s ++ image_of graph vs) ++ rest)) (length-append s before) ∙ ap (drop (length s + length before)) (append_assoc s (image_of graph vs) rest)
    ∙ drop-append-add s (image_of graph vs ++ rest) (length before) in
    ap (take (length (state_of graph (get_or vs d 0)))) e ∙ state_there graph vs d rest (omega arith)

-- the thread at a place has the devices of its vertices
has_device : (job : Job) (m : Mapped) (i d v : ℕ) → d < length (vertices_on job.numbers (outs_of m.graph) i) → get_or (vertices_on job.numbers (outs_of m.graph) i) d 0 ≡ v →
    HasDevice job m d v (filled job.numbers.mem (seated_in job m i).image) (Some (seated_in job m i).switch)
has_device job m i d v h e =
    let vs : List ℕ = vertices_on job.numbers (outs_of m.graph) i in
    let entries : List (List ℕ) = entries_in (labels_of job.asms) m.graph.kinds in
    let rest : List ℕ = replicate (job.numbers.mem - length (image_of m.graph vs)) 0 in
    let is : device_at (devices_from m.graph m.routes.keys entries 0 vs) d ≡ device_of m.graph m.routes.keys entries (0 + length (image_of m.graph (take d vs))) v =
    device_is m.graph m.routes.keys entries 0 vs d h ∙ ap (device_of m.graph m.routes.keys entries (0 + length (image_of m.graph (take d vs)))) e in
    let at : (device_at (devices_from m.graph m.routes.keys entries 0 vs) d).state ≡ length (image_of m.graph (take d vs)) = ap (λ (x : DeviceModel). x.state) is ∙ omega arith in
    let there : take (length (state_of m.graph v)) (drop (length (image_of m.graph (take d vs))) (image_of m.graph vs ++ rest)) ≡ state_of m.graph v =
    subst (λ u. take (length (state_of m.graph u)) (drop (length (image_of m.graph (take d vs))) (image_of m.graph vs ++ rest)) ≡ state_of m.graph u) e (state_there m.graph vs d rest h) in (
      rw (long m.graph m.routes.keys entries 0 vs) h,
      record {
        vertex = ap (λ (x : DeviceModel). x.vertex) is;
        entries = ap (λ (x : DeviceModel). x.entries) is;
        keys = ap (λ (x : DeviceModel). x.keys) is;
        state = ap (λ k. take (length (state_of m.graph v)) (drop k (image_of m.graph vs ++ rest))) at ∙ there;
      },
    )

-- a vertex that is listed has its device at the address of its place
at_address : (job : Job) (m : Mapped) (i a d v : ℕ) → WithinLimits job.numbers → graph_mapped job ≡ Some m → i < thread_count job.numbers → thread_at job.numbers i ≡ a →
    d < length (vertices_on job.numbers (outs_of m.graph) i) → get_or (vertices_on job.numbers (outs_of m.graph) i) d 0 ≡ v →
    HasDevice job m d v (thread_start job a).mem.bytes (thread_start job a).switch
at_address job m i a d v l is h at less e =
    let place : i ≡ place_of job.numbers a = sym (place_again job.numbers i l h) ∙ ap (place_of job.numbers) at in
    let P : Option Mapped → Type 0 = λ o. HasDevice job m d v (thread_by job o a).mem.bytes (thread_by job o a).switch in
    let Q : ℕ → Type 0 = λ k. (d < length (vertices_on job.numbers (outs_of m.graph) k)) × (get_or (vertices_on job.numbers (outs_of m.graph) k) d 0 ≡ v) in
    let there = subst Q place (less, e) in
    subst P (sym is) (has_device job m (place_of job.numbers a) d v there.0 there.1)

seat_has : (job : Job) (m : Mapped) (v : ℕ) (seat : Seat) → WithinLimits job.numbers → graph_mapped job ≡ Some m → seat_of (seats job.numbers (outs_of m.graph)) v ≡ seat → Listed job.numbers (outs_of m.graph) v →
    HasVertex job m v seat
seat_has job m v seat l is e listed =
    let at : thread_at job.numbers listed.place ≡ seat.thread.0 = listed.address ∙ ap (λ (s : Seat). s.thread.0) e in
    let one = orders_threads job.numbers l in
    let device : (seat_of (seats job.numbers (outs_of m.graph)) v).device ≡ seat.device = ap (λ (s : Seat). s.device) e in
    let Q : ℕ → Type 0 = λ d. (d < length (vertices_on job.numbers (outs_of m.graph) listed.place)) × (get_or (vertices_on job.numbers (outs_of m.graph) listed.place) d 0 ≡ v) in
    let there = subst Q device (listed.has.device, listed.has.vertex) in
    record {
      there = subst (λ a. IsTrue (has_thread job.numbers a)) at (one.there listed.place listed.has.thread);
      device = at_address job m listed.place seat.thread.0 seat.device v l is listed.has.thread at there.0 there.1;
    }

-- a thread has as many devices as vertices have their seats there
counted : (job : Job) (m : Mapped) (a : ℕ) → WithinLimits job.numbers → graph_mapped job ≡ Some m → Lists job.numbers (outs_of m.graph) → IsTrue (has_thread job.numbers a) →
    device_count (thread_start job a).switch ≡ devices_on (seats job.numbers (outs_of m.graph)) a
counted job m a l is listing there =
    let i : ℕ = place_of job.numbers a in
    let vs : List ℕ = vertices_on job.numbers (outs_of m.graph) i in
    ap (λ o. device_count (thread_by job o a).switch) is
    ∙ long m.graph m.routes.keys (entries_in (labels_of job.asms) m.graph.kinds) 0 vs
    ∙ sym (devices_listed job.numbers (outs_of m.graph) i listing (place_of_below job.numbers a l there))
    ∙ ap (devices_on (seats job.numbers (outs_of m.graph))) (place_there_at job.numbers a l there)

-- the in-edges of the i-th thread
listed_edges : (job : Job) (m : Mapped) (i : ℕ) → WithinLimits job.numbers → graph_mapped job ≡ Some m → i < thread_count job.numbers →
    option_map (λ (s : SwitchModel). s.in_edges) (thread_start job (thread_at job.numbers i)).switch ≡ Some (get_or m.routes.in_edges i [])
listed_edges job m i l is h =
    ap (λ o. option_map (λ (s : SwitchModel). s.in_edges) (thread_by job o (thread_at job.numbers i)).switch) is
    ∙ ap (λ k. Some (get_or m.routes.in_edges k [])) (place_again job.numbers i l h)

pub are_seated : (job : Job) (m : Mapped) → load_fault job ≡ None → graph_mapped job ≡ Some m → AreSeated job m
are_seated job m none is =
    let f = fits job m none is in
    let outs : List (List ℕ) = outs_of m.graph in
    let placing = made job.numbers m.graph.per_thread outs m.placement f.placement_is in
    let listing = lists job.numbers outs (threads_of job.numbers f.limits) (edges_below m.graph f.graph_is) in
    let all = count_outs m.graph in
    record {
      each = λ v h. seat_has job m v (seat_of m.placement v) f.limits is (ap (λ (p : List Seat). seat_of p v) (sym placing.seated)) (listing.listed v (omega arith));
      count = λ a there. counted job m a f.limits is listing there ∙ ap (λ (p : List Seat). devices_on p a) (sym placing.seated);
      in_edges = λ i h. listed_edges job m i f.limits is h;
    }
