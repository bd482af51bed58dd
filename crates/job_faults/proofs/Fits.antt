-- What holds of the graph of a job without a fault.
use Rattle.std.proofs.Common.{ℕ, ◌≡◌, ◌≤◌, ◌<◌, ◌+◌, ◌∙◌, ◌∷◌, [], Bool, true, false, List, Option, Some, None, length, refl, sym, ap, subst, arith, if◌then◌else◌}
use Rattle.std.specs.List.{range_with_len}
use Rattle.std.specs.declared.result.Result.{Result}
use Rattle.std.specs.declared.result.Result.TheVariants.{Ok, Err}
use Rattle.std.proofs.lemmas.Bool.{ltb-false}
use Rattle.tn_base.specs.declared.shape.ShapeNumbers.{ShapeNumbers}
use Rattle.tn_base.specs.Message.{flits}
use Rattle.tn_base.specs.Parts.{board_at, board_count}
use Rattle.tn_base.specs.Shape.{WithinLimits}
use Rattle.tn_base.proofs.Places.{orders_threads}
use Rattle.tn_keys.specs.declared.fault.TableFault.{TableFault}
use Rattle.tn_keys.specs.Accepted.{board_fault}
use Rattle.tn_keys.specs.Tables.{Table}
use Rattle.tn_reach.specs.Check.{first_stop, stop_at, table_stop}
use Rattle.tn_reach.specs.declared.check.TableStop.{TableStop}
use Rattle.tn_reach.proofs.Stops.{accepted}
use Rattle.tn_text.specs.declared.stop.Fault.{Fault as At}
use Rattle.tn_text.specs.Lines.{lines_of}
use Rattle.graph_text.specs.declared.graph.Graph.{Graph}
use Rattle.graph_text.specs.declared.graph.GraphKind.{GraphKind}
use Rattle.graph_text.specs.Graph.{IsGraph}
use Rattle.graph_text.specs.Flits.{lines_flits}
use Rattle.graph_text.specs.Text.{graph_of}
use Rattle.graph_text.proofs.Flits.{flits_said}
use Rattle.graph_text.proofs.Sound.{gives_fits}
use Rattle.polite_place.specs.declared.placement.PlaceStop.{PlaceStop}
use Rattle.polite_place.specs.declared.placement.Seat.{Seat}
use Rattle.polite_place.specs.Order.{AllListsBelow}
use Rattle.polite_place.specs.Outs.{outs_of}
use Rattle.polite_place.specs.Seats.{Seated, placed, seat_of}
use Rattle.polite_place.proofs.Gathering.{joins, length_outs, outs_below}
use Rattle.polite_place.proofs.Seating.{Threads, length_seats, seated}
use Rattle.polite_place.proofs.Shares.{some_threads}
use Rattle.polite_routes.specs.declared.routes.RouteSet.{RouteSet}
use Rattle.polite_routes.specs.declared.target.RouteStop.{RouteStop}
use Rattle.polite_routes.specs.Answer.{routes_of}
use Rattle.polite_routes.proofs.PinRows.{pins_there}
use Rattle.polite_routes.proofs.Serving.{all_pass, made}
use Rattle.job_text.specs.declared.job.Job.{Job}
use Rattle.job_text.specs.declared.job.TextSection.{TextSection}
use Rattle.job_faults.specs.declared.fault.FaultName.TheVariants as fault
use Rattle.job_faults.specs.declared.fault.LoadFault.{LoadFault}
use Rattle.job_faults.specs.declared.map.Mapped.{Mapped}
use Rattle.job_faults.specs.Assembly.{LabelList, labels_of}
use Rattle.job_faults.specs.Faults.{fault_at}
use Rattle.job_faults.specs.Fits.{Fits}
use Rattle.job_faults.specs.Labels.{kinds_fault, labelled_fault}
use Rattle.job_faults.specs.Mapping.{graph_mapped, graph_said, is_long, mapped_by, placed_as, placed_on, read_as, routed_as, routed_on, section_mapped, text_graph, value_of_map, with_graph, with_places, with_routes}
use Rattle.job_faults.specs.Order.{load_fault}
use Rattle.job_faults.specs.Room.{any_lacks, lacks_room, room_by, states_on}
use Rattle.job_faults.specs.Routed.{routed_fault, tables_fault, told_on}
use Rattle.job_faults.proofs.AtWords.{all_labelled, kinds_words, labels_words}
use Rattle.job_faults.proofs.Faultless.{any_later, each_none, limits_of, no_code}
use Rattle.job_faults.proofs.Maps.{places_off}

-- The graph, its places and its routes.

said_ok : (long : Bool) (f : LoadFault) (r : Result Graph (At GraphKind)) (g : Graph) → (if long then Err f else read_as r) ≡ Ok g → (long ≡ false) × (r ≡ Ok g)
said_ok true f r g e = absurd cc
said_ok false f (Ok h) g e = let same : h ≡ g = cc in (refl, ap Ok same)
said_ok false f (Err found) g e = absurd cc

placed_ok : (line : ℕ) (r : Result (List Seat) PlaceStop) (p : List Seat) → placed_as line r ≡ Ok p → r ≡ Ok p
placed_ok line (Ok q) p e = let same : q ≡ p = cc in ap Ok same
placed_ok line (Err stop) p e = absurd cc

routed_ok : (line : ℕ) (r : Result RouteSet RouteStop) (s : RouteSet) → routed_as line r ≡ Ok s → r ≡ Ok s
routed_ok line (Ok t) s e = let same : t ≡ s = cc in ap Ok same
routed_ok line (Err stop) s e = absurd cc

record IsJoined (g : Graph) (p : List Seat) (r : Result RouteSet LoadFault) (m : Mapped) : Type 0 where
  graph_is : g ≡ m.graph
  placement_is : p ≡ m.placement
  routes_are : r ≡ Ok m.routes

with_routes_ok : (g : Graph) (p : List Seat) (r : Result RouteSet LoadFault) (m : Mapped) → with_routes g p r ≡ Ok m → IsJoined g p r m
with_routes_ok g p (Ok set) m e =
    let whole : Mapped = record { graph = g; placement = p; routes = set } in
    let same : whole ≡ m = cc in
    record { graph_is = ap (λ (x : Mapped). x.graph) same; placement_is = ap (λ (x : Mapped). x.placement) same; routes_are = ap (λ (x : Mapped). Ok x.routes) same }
with_routes_ok g p (Err found) m e = absurd cc

with_places_ok : (n : ShapeNumbers) (line : ℕ) (g : Graph) (r : Result (List Seat) LoadFault) (m : Mapped) → with_places n line g r ≡ Ok m →
    (r ≡ Ok m.placement) × (g ≡ m.graph) × (routed_on n g m.placement ≡ Ok m.routes)
with_places_ok n line g (Ok p) m e =
    let j = with_routes_ok g p (routed_as line (routed_on n g p)) m e in
    (ap Ok j.placement_is, j.graph_is, subst (λ (q : List Seat). routed_on n g q ≡ Ok m.routes) j.placement_is (routed_ok line (routed_on n g p) m.routes j.routes_are))
with_places_ok n line g (Err found) m e = absurd cc

-- a graph was read, placed and routed
record IsBuilt (n : ShapeNumbers) (r : Result Graph LoadFault) (m : Mapped) : Type 0 where
  said : r ≡ Ok m.graph
  places : placed_on n m.graph ≡ Ok m.placement
  routes : routed_on n m.graph m.placement ≡ Ok m.routes

with_graph_ok : (n : ShapeNumbers) (line : ℕ) (r : Result Graph LoadFault) (m : Mapped) → with_graph n line r ≡ Ok m → IsBuilt n r m
with_graph_ok n line (Ok g) m e =
    let w = with_places_ok n line g (placed_as line (placed_on n g)) m e in
    record {
      said = ap Ok w.1;
      places = subst (λ (h : Graph). placed_on n h ≡ Ok m.placement) w.1 (placed_ok line (placed_on n g) m.placement w.0);
      routes = subst (λ (h : Graph). routed_on n h m.placement ≡ Ok m.routes) w.1 w.2;
    }
with_graph_ok n line (Err found) m e = absurd cc

mapped_value : (r : Result Mapped LoadFault) (m : Mapped) → value_of_map (Some r) ≡ Some m → r ≡ Ok m
mapped_value (Ok k) m e = let same : k ≡ m = cc in ap Ok same
mapped_value (Err found) m e = absurd cc

record IsOfSection (n : ShapeNumbers) (o : Option TextSection) (m : Mapped) : Type 0 where
  section : TextSection
  given : o ≡ Some section
  mapped : section_mapped n section ≡ Ok m

of_section : (n : ShapeNumbers) (o : Option TextSection) (m : Mapped) → value_of_map (mapped_by n o) ≡ Some m → IsOfSection n o m
of_section n None m e = absurd cc
of_section n (Some s) m e = record { section = s; given = refl; mapped = mapped_value (section_mapped n s) m e }

routes_off : (s : RouteSet) (n : ShapeNumbers) (g : Graph) (p : List Seat) → Ok s ≡ routed_on n g p → Ok s ≡ routes_of n g p
unfolding routed_on
routes_off s n g p e = e

-- The text.

text_says : (s : TextSection) (g : Graph) → text_graph s ≡ Ok g → graph_of s.line (lines_of s.text) ≡ Ok g
unfolding text_graph
text_says s g e = e

few_flits : (n : ShapeNumbers) (s : TextSection) (g : Graph) → is_long n s ≡ false → graph_of s.line (lines_of s.text) ≡ Ok g → g.flits ≤ flits n
unfolding is_long
few_flits n s g short said =
    let most = ltb-false (flits n) (lines_flits (lines_of s.text)) short in
    let same = flits_said s.line (lines_of s.text) g said in
    omega arith

-- The places of vertices.

pub threads_of : (n : ShapeNumbers) → WithinLimits n → Threads n
threads_of n l = record { some = some_threads n l; listed = (orders_threads n l).there; ascending = (orders_threads n l).rising }

pub edges_below : (g : Graph) → IsGraph g → AllListsBelow (length (outs_of g)) (outs_of g)
edges_below g ok = outs_below (length g.vertices) g.edges (joins g ok)

pub count_outs : (g : Graph) → length (outs_of g) ≡ length g.vertices
count_outs g = length_outs (length g.vertices) g.edges

tables_long : (n : ShapeNumbers) (g : Graph) (p : List Seat) (s : RouteSet) → WithinLimits n → IsGraph g → Ok p ≡ placed n g.per_thread (outs_of g) → Ok s ≡ routes_of n g p → length s.tables ≡ board_count n
tables_long n g p s l ok placement routes =
    let m = made n g.per_thread (outs_of g) p placement in
    let count : length p ≡ length g.vertices = ap length m.seated ∙ length_seats n (outs_of g) ∙ count_outs g in
    let there = subst (Seated n g.per_thread) (sym m.seated) (seated n (outs_of g) g.per_thread (threads_of n l) (edges_below g ok) m.room) in
    (all_pass n g p s l (pins_there n g p ok count there) routes).count

-- Room.

room_free : (n : ShapeNumbers) (o : Option TextSection) (q : Option Mapped) (s : TextSection) (m : Mapped) → o ≡ Some s → q ≡ Some m → room_by n o q ≡ None → any_lacks n.mem m.graph m.placement ≡ false
room_free n None q s m given is e = absurd cc
room_free n (Some t) None s m given is e = absurd cc
room_free n (Some t) (Some k) s m given is e =
    let same : k ≡ m = cc in
    subst (λ (x : Mapped). any_lacks n.mem x.graph x.placement ≡ false) same (no_code (any_lacks n.mem k.graph k.placement) (fault_at t.line fault.NoRoom) e)

room_at : (mem : ℕ) (g : Graph) (p : List Seat) (v : ℕ) → any_lacks mem g p ≡ false → v < length g.vertices → states_on g p (seat_of p v).thread.0 + 256 ≤ mem
unfolding any_lacks
room_at mem g p v e h = ltb-false mem (states_on g p (seat_of p v).thread.0 + 256) (any_later (lacks_room mem g p) 0 (length g.vertices) v e (omega arith) (omega arith))

-- Tables.

told_none : (line i : ℕ) (o : Option TableFault) (others : Option TableStop) → told_on line (stop_at i o others) ≡ None → (told_on line others ≡ None → others ≡ None) → stop_at i o others ≡ None
told_none line i None others e more = more e
told_none line i (Some found) others e more = absurd cc

none_stops : (line : ℕ) (f : ℕ → Option TableFault) (is : List ℕ) → told_on line (first_stop f is) ≡ None → first_stop f is ≡ None
none_stops line f [] e = refl
none_stops line f (i ∷ is) e = told_none line i (f i) (first_stop f is) e (λ h. none_stops line f is h)

no_stop : (line : ℕ) (n : ShapeNumbers) (tables : List Table) → tables_fault line n tables ≡ None → table_stop n tables ≡ None
unfolding tables_fault
no_stop line n tables e = none_stops line (λ i. board_fault n tables (board_at n i)) (range_with_len 0 (board_count n)) e

routes_free : (n : ShapeNumbers) (o : Option TextSection) (q : Option Mapped) (s : TextSection) (m : Mapped) → o ≡ Some s → q ≡ Some m → routed_fault n o q ≡ None → table_stop n m.routes.tables ≡ None
routes_free n None q s m given is e = absurd cc
routes_free n (Some t) None s m given is e = absurd cc
routes_free n (Some t) (Some k) s m given is e =
    let same : k ≡ m = cc in
    subst (λ (x : Mapped). table_stop n x.routes.tables ≡ None) same (no_stop t.line n k.routes.tables e)

-- Labels.

labels_free : (labels : LabelList) (q : Option Mapped) (m : Mapped) → q ≡ Some m → labelled_fault labels q ≡ None → kinds_fault labels m.graph.kinds ≡ None
labels_free labels None m is e = absurd cc
labels_free labels (Some k) m is e =
    let same : k ≡ m = cc in
    subst (λ (x : Mapped). kinds_fault labels x.graph.kinds ≡ None) same e

-- The whole.

pub fits : (job : Job) (m : Mapped) → load_fault job ≡ None → graph_mapped job ≡ Some m → Fits job m
fits job m none is =
    let f = each_none job none in
    let n : ShapeNumbers = job.numbers in
    let limits = limits_of job f.numbers in
    let o = of_section n job.graph m is in
    let b = with_graph_ok n o.section.line (graph_said n o.section) m o.mapped in
    let s = said_ok (is_long n o.section) (fault_at o.section.line fault.BadNumber) (text_graph o.section) m.graph b.said in
    let said = text_says o.section m.graph s.1 in
    let ok = gives_fits o.section.line (lines_of o.section.text) (Ok m.graph) said in
    let placement = places_off m.placement n m.graph (sym b.places) in
    let routes = routes_off m.routes n m.graph m.placement (sym b.routes) in
    record {
      limits = limits;
      graph_is = ok;
      messages = few_flits n o.section m.graph s.0 said;
      placement_is = placement;
      routes_are = routes;
      room = λ v h. room_at n.mem m.graph m.placement v (room_free n job.graph (graph_mapped job) o.section m o.given is f.room) h;
      tables = accepted n m.routes.tables (tables_long n m.graph m.placement m.routes limits ok placement routes) (routes_free n job.graph (graph_mapped job) o.section m o.given is f.routes);
      labelled = all_labelled (labels_of job.asms) m.graph.kinds (labels_free (labels_of job.asms) (graph_mapped job) m is f.labels);
      at_words = λ kind handler. kinds_words (labels_of job.asms) m.graph.kinds kind handler (labels_words job.asms);
    }
