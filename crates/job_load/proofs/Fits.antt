-- A graph's job without a fault fits the machine.
use Rattle.std.proofs.Common.{ℕ, ◌≡◌, ◌≤◌, ◌<◌, ◌+◌, ◌*◌, ◌∙◌, ◌⊎◌, ◌∷◌, [], inl, inr, List, Option, Some, None, length, get_or, slice_get, zero, suc, refl, sym, ap, subst, arith}
use Rattle.std.specs.declared.result.Result.TheVariants.{Ok}
use Rattle.std.proofs.lemmas.List.{length-append}
use Rattle.std.proofs.lemmas.List.FromFn.{length-map-range_with_len}
use Rattle.tn_base.specs.declared.shape.ShapeNumbers.{ShapeNumbers}
use Rattle.tn_base.specs.Address.{thread_at}
use Rattle.tn_base.specs.Shape.{WithinLimits, thread_count}
use Rattle.tn_sums.specs.Totals.{total, weigh}
use Rattle.tn_sums.proofs.Laws.{total_same}
use Rattle.graph_text.specs.declared.graph.Graph.{Graph}
use Rattle.graph_text.specs.declared.graph.VertexRow.{VertexRow}
use Rattle.graph_text.specs.Graph.{IsGraph}
use Rattle.polite_switch.specs.Device.{AllNamed}
use Rattle.polite_place.specs.declared.placement.Seat.{Seat}
use Rattle.polite_place.specs.Outs.{outs_of}
use Rattle.polite_place.specs.Roster.{Lists, vertices_on, weight_on}
use Rattle.polite_place.specs.Seats.{Numbered, devices_on, seat_of, seats}
use Rattle.polite_place.proofs.Devices.{devices_listed, numbered}
use Rattle.polite_place.proofs.Rosters.{lists}
use Rattle.polite_place.proofs.Seating.{length_seats}
use Rattle.polite_routes.specs.declared.routes.RouteSet.{RouteSet}
use Rattle.polite_routes.specs.Answer.{routes_of}
use Rattle.polite_routes.specs.Pins.{pins_of}
use Rattle.polite_routes.specs.Routes.{lists_to}
use Rattle.polite_routes.proofs.Naming.{all_lead}
use Rattle.polite_routes.proofs.Serving.{Made, made, set_is}
use Rattle.polite_start.specs.Start.{AreVertices, image_of, state_of, words_in}
use Rattle.polite_start.proofs.Devices.{word_bytes}
use Rattle.job_text.specs.declared.job.Job.{Job}
use Rattle.job_faults.specs.declared.map.Mapped.{Mapped}
use Rattle.job_faults.specs.Fits.{Fits}
use Rattle.job_faults.specs.Mapping.{graph_mapped}
use Rattle.job_faults.specs.Order.{load_fault}
use Rattle.job_faults.specs.Room.{state_bytes, state_on, states_on, words_in as count_words}
use Rattle.job_faults.proofs.Fits.{count_outs, edges_below, fits, threads_of}
use Rattle.job_load.specs.Graph.{FitsGraph, FitsMachine}

-- The bytes of states.

words_same : (o : Option VertexRow) → length (words_in o) ≡ count_words o
words_same None = refl
words_same (Some vertex) = refl

state_same : (g : Graph) (v : ℕ) → length (state_of g v) ≡ state_bytes g v
unfolding state_bytes
state_same g v = word_bytes (words_in (slice_get g.vertices v)) ∙ ap (λ k. 4 * k) (words_same (slice_get g.vertices v))

image_weighs : (g : Graph) (vs : List ℕ) → length (image_of g vs) ≡ weigh (state_bytes g) vs
image_weighs g [] = refl
image_weighs g (v ∷ vs) = let e = length-append (state_of g v) (image_of g vs) in let s = state_same g v in let h = image_weighs g vs in omega arith

no_image : (g : Graph) (vs : List ℕ) → length vs ≡ 0 → length (image_of g vs) ≡ 0
no_image g [] e = refl
no_image g (v ∷ vs) e = absurd (omega arith)

-- The vertices of a thread.

all_vertices : (g : Graph) (vs : List ℕ) → ((d : ℕ) → d < length vs → get_or vs d 0 < length g.vertices) → AreVertices g vs
all_vertices g [] h = tt
all_vertices g (v ∷ vs) h = (h 0 (omega arith), all_vertices g vs (λ d l. h (suc d) (omega arith)))

none_or_some : (k : ℕ) → (k ≡ 0) ⊎ (0 < k)
none_or_some zero = inl refl
none_or_some (suc k) = inr (omega arith)

-- the roster of a placed graph, and its states
record IsSeated (n : ShapeNumbers) (g : Graph) (p : List Seat) : Type 0 where
  made : Made n g.per_thread (outs_of g) p
  lists : Lists n (outs_of g)
  count : length (outs_of g) ≡ length g.vertices
  room : (v : ℕ) → v < length g.vertices → states_on g p (seat_of p v).thread.0 + 256 ≤ n.mem

states_same : (n : ShapeNumbers) (g : Graph) (p : List Seat) (i : ℕ) → IsSeated n g p → i < thread_count n → length (image_of g (vertices_on n (outs_of g) i)) ≡ states_on g p (thread_at n i)
states_same n g p i s h =
    image_weighs g (vertices_on n (outs_of g) i)
    ∙ s.lists.weights (state_bytes g) i h
    ∙ ap (total (weight_on n (outs_of g) (state_bytes g) (thread_at n i))) s.count
    ∙ total_same (weight_on n (outs_of g) (state_bytes g) (thread_at n i)) (state_on g (seats n (outs_of g)) (thread_at n i)) (length g.vertices) (λ v less. refl)
    ∙ ap (λ (q : List Seat). states_on g q (thread_at n i)) (sym s.made.seated)

vertex_below : (n : ShapeNumbers) (g : Graph) (p : List Seat) (i d : ℕ) → IsSeated n g p → i < thread_count n → d < length (vertices_on n (outs_of g) i) → get_or (vertices_on n (outs_of g) i) d 0 < length g.vertices
vertex_below n g p i d s h l = let below = s.lists.there i d h l in let e = s.count in omega arith

room_by : (n : ShapeNumbers) (g : Graph) (p : List Seat) (i : ℕ) → IsSeated n g p → i < thread_count n → (length (vertices_on n (outs_of g) i) ≡ 0) ⊎ (0 < length (vertices_on n (outs_of g) i)) →
    length (image_of g (vertices_on n (outs_of g) i)) ≤ n.mem
room_by n g p i s h (inl none) = let e = no_image g (vertices_on n (outs_of g) i) none in omega arith
room_by n g p i s h (inr some) =
    let v : ℕ = get_or (vertices_on n (outs_of g) i) 0 0 in
    let at : (seat_of p v).thread.0 ≡ thread_at n i = ap (λ (q : List Seat). (seat_of q v).thread.0) s.made.seated ∙ ap (λ (t : Seat). t.thread.0) (s.lists.seats i 0 h some) in
    let free : states_on g p (thread_at n i) + 256 ≤ n.mem = subst (λ a. states_on g p a + 256 ≤ n.mem) at (s.room v (vertex_below n g p i 0 s h some)) in
    let e = states_same n g p i s h in
    omega arith

-- The in-edges of a thread.

in_edges_long : (n : ShapeNumbers) (g : Graph) (p : List Seat) (s : RouteSet) → Ok s ≡ routes_of n g p → length s.in_edges ≡ thread_count n
in_edges_long n g p s e =
    ap (λ (x : RouteSet). length x.in_edges) (set_is n g (pins_of g p) s e)
    ∙ length-map-range_with_len (λ i. lists_to (pins_of g p) (thread_at n i)) 0 (thread_count n)

all_named : (n : ShapeNumbers) (g : Graph) (p : List Seat) (s : RouteSet) (i : ℕ) → WithinLimits n → IsGraph g → IsSeated n g p → Ok s ≡ routes_of n g p → i < thread_count n →
    AllNamed (length (vertices_on n (outs_of g) i)) (get_or s.in_edges i [])
all_named n g p s i l ok d e h =
    let count : length p ≡ length g.vertices = ap length d.made.seated ∙ length_seats n (outs_of g) ∙ d.count in
    let each = subst (Numbered g.per_thread) (sym d.made.seated) (numbered n (outs_of g) g.per_thread (threads_of n l) (edges_below g ok) d.made.room) in
    subst (λ k. AllNamed k (get_or s.in_edges i []))
    (ap (λ (q : List Seat). devices_on q (thread_at n i)) d.made.seated ∙ devices_listed n (outs_of g) i d.lists h)
    ((all_lead n g.per_thread g p s ok count each e).named i h)

-- The whole.

fits_by : (job : Job) (m : Mapped) → Fits job m → FitsMachine job m
fits_by job m f =
    let n : ShapeNumbers = job.numbers in
    let g : Graph = m.graph in
    let placing = made n g.per_thread (outs_of g) m.placement f.placement_is in
    let listing = lists n (outs_of g) (threads_of n f.limits) (edges_below g f.graph_is) in
    let s : IsSeated n g m.placement = record { made = placing; lists = listing; count = count_outs g; room = f.room } in
    record {
      starts = record {
        graph_is = f.graph_is;
        aligned = record { each = f.at_words };
        count = in_edges_long n g m.placement m.routes f.routes_are;
        there = λ i h. all_vertices g (vertices_on n (outs_of g) i) (λ d l. vertex_below n g m.placement i d s h l);
        few = λ i h. let few = listing.few g.per_thread i placing.room in let most = f.graph_is.devices in omega arith;
        named = λ i h. all_named n g m.placement m.routes i f.limits f.graph_is s f.routes_are h;
      };
      messages = f.messages;
      room = λ i h. room_by n g m.placement i s h (none_or_some (length (vertices_on n (outs_of g) i)));
      tables = f.tables;
    }

pub fits_machine : (job : Job) (m : Mapped) → load_fault job ≡ None → graph_mapped job ≡ Some m → FitsMachine job m
fits_machine job m none is = fits_by job m (fits job m none is)

pub fits_graph : (job : Job) (o : Option Mapped) → load_fault job ≡ None → graph_mapped job ≡ o → FitsGraph job o
fits_graph job None none is = tt
fits_graph job (Some m) none is = fits_machine job m none is
