-- In the layout of a job's graph the key of each pin finds exactly the pin's edges.
use Rattle.std.proofs.Common.{ℕ, ◌≡◌, ◌<◌, ◌≤◌, ◌+◌, ◌/◌, ◌∷◌, ◌∙◌, [], inl, inr, IsTrue, List, zero, suc, get_or, length, map, refl, sym, ap, subst, arith, slice_get, Option, Some, None}
use Rattle.std.proofs.lemmas.Bool.{cases_lt}
use Rattle.std.specs.List.{AllByRecursion, range_with_len, sum_by}
use Rattle.tn_base.specs.declared.shape.ShapeNumbers.{ShapeNumbers}
use Rattle.tn_base.specs.Address.{has_thread, thread_at}
use Rattle.tn_keys.specs.Reach.{reach}
use Rattle.tn_letters.specs.Letters.{board_of}
use Rattle.graph_text.specs.declared.graph.Graph.{Graph}
use Rattle.graph_text.specs.Graph.{pins_at}
use Rattle.polite_place.specs.declared.placement.Seat.{Seat}
use Rattle.polite_place.specs.Outs.{outs_of}
use Rattle.polite_place.specs.Roster.{vertices_on}
use Rattle.polite_place.specs.Seats.{Seated, seat_of}
use Rattle.polite_place.proofs.Rosters.{lists}
use Rattle.polite_place.proofs.Seating.{length_seats, seated}
use Rattle.polite_routes.specs.Answer.{lists_in, pin_key, thread_place}
use Rattle.polite_routes.specs.Hops.{Hop, arrives}
use Rattle.polite_routes.specs.Pins.{edge_row, edges_of, pin_place, target_of}
use Rattle.polite_routes.specs.Routes.{PinsThere, local_of}
use Rattle.polite_routes.specs.declared.target.Target.{Target}
use Rattle.polite_routes.proofs.PinRows.{pins_there}
use Rattle.polite_routes.proofs.Serving.{all_keyed, made}
use Rattle.polite_start.specs.Start.{devices_from, keys_on, state_of}
use Rattle.polite_start.proofs.Devices.{long}
use Rattle.polite_switch.specs.Device.{device_at, joined_key, key_at}
use Rattle.polite_edges.specs.Layout.{IsKeyOf, IsRouted, found}
use Rattle.job_text.specs.declared.job.Job.{Job}
use Rattle.job_faults.specs.declared.map.Mapped.{Mapped}
use Rattle.job_faults.specs.Assembly.{labels_of}
use Rattle.job_faults.specs.Fits.{Fits}
use Rattle.job_faults.specs.Labels.{entries_in}
use Rattle.job_faults.proofs.Fits.{count_outs, edges_below, threads_of}
use Rattle.job_load.specs.Graph.{place_of}
use Rattle.job_load.proofs.Places.{place_of_below, place_there_at}
use Rattle.job_edges.specs.JobLayout.{hop_of, layout_of, local_key, pins_in, switch_at}
use Rattle.job_edges.proofs.Locals.{hops_back}
use Rattle.job_edges.proofs.Pins.{Reaches, no_pin_no_edges, pin_of, pin_reaches, sum_edges}
use Rattle.job_edges.proofs.Places.{place_is}

-- Keys of devices.

key_within : (f : ℕ → Option ℕ) (i n p : ℕ) → p < n → joined_key (slice_get (map f (range_with_len i n)) p) ≡ f (i + p)
key_within f i zero p h = absurd (omega arith)
key_within f i (suc n) zero h = let e : i ≡ i + 0 = omega arith in ap f e
key_within f i (suc n) (suc p) h = let e : i + 1 + p ≡ i + suc p = omega arith in key_within f (i + 1) n p (omega arith) ∙ ap f e

key_past : (f : ℕ → Option ℕ) (i n p : ℕ) → n ≤ p → joined_key (slice_get (map f (range_with_len i n)) p) ≡ None
key_past f i zero p h = refl
key_past f i (suc n) zero h = absurd (omega arith)
key_past f i (suc n) (suc p) h = key_past f (i + 1) n p (omega arith)

-- a device, its vertex, and where the vertex has its seat
pub record DeviceIs (job : Job) (m : Mapped) (a d : ℕ) : Type 0 where
  pub vertex : ℕ
  pub there : vertex < length m.graph.vertices
  pub is : (device_at (switch_at job m a).devices d).vertex ≡ vertex
  pub keys : (device_at (switch_at job m a).devices d).keys ≡ keys_on m.graph m.routes.keys vertex
  pub seat : (seat_of m.placement vertex).thread.0 ≡ a

vertex_at : (graph : Graph) (keys : List (List (Option ℕ))) (entries : List (List ℕ)) (state : ℕ) (vs : List ℕ) (d : ℕ) → d < length vs →
    ((device_at (devices_from graph keys entries state vs) d).vertex ≡ get_or vs d 0) × ((device_at (devices_from graph keys entries state vs) d).keys ≡ keys_on graph keys (get_or vs d 0))
vertex_at graph keys entries state [] d h = absurd (omega arith)
vertex_at graph keys entries state (v ∷ vs) zero h = (refl, refl)
vertex_at graph keys entries state (v ∷ vs) (suc d) h = vertex_at graph keys entries (state + length (state_of graph v)) vs d (omega arith)

pub device_is : (job : Job) (m : Mapped) (a d : ℕ) → Fits job m → IsTrue (has_thread job.numbers a) → d < length (switch_at job m a).devices → DeviceIs job m a d
device_is job m a d f h less =
    let n : ShapeNumbers = job.numbers in
    let outs : List (List ℕ) = outs_of m.graph in
    let i : ℕ = thread_place n a in
    let vs : List ℕ = vertices_on n outs i in
    let place : i ≡ place_of n a = place_is n a f.limits h in
    let below = place_of_below n a f.limits h in
    let many = long m.graph m.routes.keys (entries_in (labels_of job.asms) m.graph.kinds) 0 vs in
    let here = vertex_at m.graph m.routes.keys (entries_in (labels_of job.asms) m.graph.kinds) 0 vs d (omega arith) in
    let placing = made n m.graph.per_thread outs m.placement f.placement_is in
    let listing = lists n outs (threads_of n f.limits) (edges_below m.graph f.graph_is) in
    let all = count_outs m.graph in
    let inside = listing.there i d (omega arith) (omega arith) in
    record {
      vertex = get_or vs d 0;
      there = omega arith;
      is = here.0;
      keys = here.1;
      seat = ap (λ (p : List Seat). (seat_of p (get_or vs d 0)).thread.0) placing.seated ∙ ap (λ (s : Seat). s.thread.0) (listing.seats i d (omega arith) (omega arith))
          ∙ ap (thread_at n) place ∙ place_there_at n a f.limits h;
    }

-- What a key finds.

-- the pins of a job's graph are there
pub all_pins : (job : Job) (m : Mapped) → Fits job m → PinsThere job.numbers (pins_in m)
all_pins job m f =
    let n : ShapeNumbers = job.numbers in
    let outs : List (List ℕ) = outs_of m.graph in
    let placing = made n m.graph.per_thread outs m.placement f.placement_is in
    let count : length m.placement ≡ length m.graph.vertices = ap length placing.seated ∙ length_seats n outs ∙ count_outs m.graph in
    let seats_fit : Seated n m.graph.per_thread m.placement = subst (Seated n m.graph.per_thread) (sym placing.seated) (seated n outs m.graph.per_thread (threads_of n f.limits) (edges_below m.graph f.graph_is) placing.room) in
    pins_there n m.graph m.placement f.graph_is count seats_fit

-- what the key of a pin of a vertex reaches
abbrev ReachesPin : Job → Mapped → ℕ → ℕ → Option ℕ → Type 0
ReachesPin job m v p key = Reaches job.numbers m.routes.tables (lists_in job.numbers m.routes.in_edges) (local_of (pins_in m) (pin_place v p)) key (pin_of m.graph m.placement v p)

-- the hops of a layout are those of its tables
hops_are : (job : Job) (m : Mapped) (a v p key : ℕ) (r : ReachesPin job m v p (Some key)) → (seat_of m.placement v).thread.0 ≡ a → (layout_of job m).hops a key ≡ r.hops
hops_are job m a v p key r seat =
    let at : reach job.numbers m.routes.tables (board_of a) key [] ≡ map (arrives []) r.hops = ap (λ b. reach job.numbers m.routes.tables (board_of b) key []) (sym seat) ∙ r.reached [] in
    ap (map hop_of) at ∙ hops_back r.hops r.small

-- each edge of a pin has the local key of the pin's tree
same_key : (m : Mapped) (weight : ℕ → ℕ → ℕ) (v p k : ℕ) → (edge_row m.graph.edges k).from ≡ v → (edge_row m.graph.edges k).pin ≡ p →
    weight k (local_of (pins_in m) (pin_place v p) ((target_of m.graph.edges m.placement k).thread.0 / 64)) ≡ weight k (local_key m k)
same_key m weight v p k e f =
    let tile : ℕ = (target_of m.graph.edges m.placement k).thread.0 / 64 in
    ap (λ u. weight k (local_of (pins_in m) (pin_place u p) tile)) (sym e) ∙ ap (λ q. weight k (local_of (pins_in m) (pin_place (edge_row m.graph.edges k).from q) tile)) (sym f)

weighs : (job : Job) (m : Mapped) (v p key : ℕ) (r : ReachesPin job m v p (Some key)) (weight : ℕ → ℕ → ℕ) →
    sum_by (found (layout_of job m) weight) r.hops ≡ sum_by (λ (e : ℕ). weight e ((layout_of job m).local e)) ((layout_of job m).edges v p)
weighs job m v p key r weight =
    r.once.once (λ a e k. weight e.edge k)
    ∙ sum_edges m.graph.edges m.placement v p (λ (t : Target). weight t.edge.edge (local_of (pins_in m) (pin_place v p) (t.thread.0 / 64))) (λ e. weight e (local_key m e)) (range_with_len 0 (length m.graph.edges))
    (λ k e f. same_key m weight v p k e f)

routed_by : (job : Job) (m : Mapped) (a v p : ℕ) (key : Option ℕ) → (seat_of m.placement v).thread.0 ≡ a → ReachesPin job m v p key → (key ≡ None → edges_of m.graph.edges v p ≡ []) →
    IsRouted key (layout_of job m) a (edges_of m.graph.edges v p)
routed_by job m a v p None seat r none = none refl
routed_by job m a v p (Some key) seat r none =
    let hops : r.hops ≡ (layout_of job m).hops a key = sym (hops_are job m a v p key r seat) in
    let P : List Hop → Type 0 = λ hs. AllByRecursion (λ (h : Hop). h.local < 65536) hs × ((weight : ℕ → ℕ → ℕ) → sum_by (found (layout_of job m) weight) hs ≡ sum_by (λ (e : ℕ). weight e ((layout_of job m).local e)) (edges_of m.graph.edges v p)) in
    subst P hops (r.small, λ weight. weighs job m v p key r weight)

-- the key of a pin of a device
key_is : (job : Job) (m : Mapped) (a d p : ℕ) → Fits job m → (x : DeviceIs job m a d) → p < pins_at m.graph x.vertex → key_at (device_at (switch_at job m a).devices d) p ≡ pin_key m.routes.keys x.vertex p
key_is job m a d p f x h = ap (λ (ks : List (Option ℕ)). joined_key (slice_get ks p)) x.keys ∙ key_within (pin_key m.routes.keys x.vertex) 0 (pins_at m.graph x.vertex) p h ∙ ap (pin_key m.routes.keys x.vertex) (zero_more p) where
  zero_more : (k : ℕ) → 0 + k ≡ k
  zero_more k = omega arith

no_key : (job : Job) (m : Mapped) (a d p : ℕ) (x : DeviceIs job m a d) → pins_at m.graph x.vertex ≤ p → key_at (device_at (switch_at job m a).devices d) p ≡ None
no_key job m a d p x h = ap (λ (ks : List (Option ℕ)). joined_key (slice_get ks p)) x.keys ∙ key_past (pin_key m.routes.keys x.vertex) 0 (pins_at m.graph x.vertex) p h

-- the key of a pin that the vertex has
pub key_reaches : (job : Job) (m : Mapped) (a d p : ℕ) → Fits job m → (x : DeviceIs job m a d) → p < pins_at m.graph x.vertex → ReachesPin job m x.vertex p (key_at (device_at (switch_at job m a).devices d) p)
key_reaches job m a d p f x h =
    subst (ReachesPin job m x.vertex p) (sym (key_is job m a d p f x h)) (pin_reaches job.numbers m.graph m.placement m.routes x.vertex p f.limits f.graph_is (all_pins job m f) f.routes_are x.there h)

routed_at : (job : Job) (m : Mapped) (a d p : ℕ) → Fits job m → (x : DeviceIs job m a d) → IsRouted (key_at (device_at (switch_at job m a).devices d) p) (layout_of job m) a (edges_of m.graph.edges x.vertex p)
routed_at job m a d p f x = elim (cases_lt p (pins_at m.graph x.vertex)) [
  | inl has ↦
      routed_by job m a x.vertex p (key_at (device_at (switch_at job m a).devices d) p) x.seat (key_reaches job m a d p f x has)
      (λ none. ((all_keyed job.numbers m.graph m.placement m.routes f.limits f.graph_is (all_pins job m f) f.routes_are).none x.vertex p x.there has).0 (sym (key_is job m a d p f x has) ∙ none))
  | inr past ↦
      let P : Option ℕ → Type 0 = λ key. IsRouted key (layout_of job m) a (edges_of m.graph.edges x.vertex p) in
      subst P (sym (no_key job m a d p x past)) (no_pin_no_edges m.graph x.vertex p f.graph_is past)
]

pub pin_routed : (job : Job) (m : Mapped) (a d p : ℕ) → Fits job m → IsTrue (has_thread job.numbers a) → d < length (switch_at job m a).devices →
    IsRouted (key_at (device_at (switch_at job m a).devices d) p) (layout_of job m) a (edges_of m.graph.edges (device_at (switch_at job m a).devices d).vertex p)
pin_routed job m a d p f h less =
    let x = device_is job m a d f h less in
    subst (λ v. IsRouted (key_at (device_at (switch_at job m a).devices d) p) (layout_of job m) a (edges_of m.graph.edges v p)) (sym x.is) (routed_at job m a d p f x)

-- The copies of a message.

reached_by : (job : Job) (m : Mapped) (a v p key : ℕ) (bytes : List ℕ) (r : ReachesPin job m v p (Some key)) → (seat_of m.placement v).thread.0 ≡ a →
    reach job.numbers m.routes.tables (board_of a) key bytes ≡ map (arrives bytes) ((layout_of job m).hops a key)
reached_by job m a v p key bytes r seat =
    ap (λ b. reach job.numbers m.routes.tables (board_of b) key bytes) (sym seat) ∙ r.reached bytes ∙ ap (map (arrives bytes)) (sym (hops_are job m a v p key r seat))

pub key_leads : (job : Job) (m : Mapped) (a key : ℕ) (bytes : List ℕ) → Fits job m → IsTrue (has_thread job.numbers a) → IsKeyOf (layout_of job m) a key →
    reach job.numbers m.routes.tables (board_of a) key bytes ≡ map (arrives bytes) ((layout_of job m).hops a key)
key_leads job m a key bytes f h k =
    let x = device_is job m a k.device f h k.there in
    elim (cases_lt k.pin (pins_at m.graph x.vertex)) [
      | inl has ↦ reached_by job m a x.vertex k.pin key bytes (subst (ReachesPin job m x.vertex k.pin) k.is (key_reaches job m a k.device k.pin f x has)) x.seat
      | inr past ↦ let e : Some key ≡ None = sym k.is ∙ no_key job m a k.device k.pin x past in absurd (cc e)
    ]
