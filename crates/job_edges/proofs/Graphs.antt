-- The machine of an accepted job with a graph is that of the graph.
use Rattle.std.proofs.Common.{ℕ, ◌≡◌, ◌<◌, ◌||◌, ◌∙◌, Bool, true, false, not, IsTrue, List, length, nat_lt, refl, sym, ap, subst, arith, Option, Some, None, Ok, Err, Result}
use Rattle.tn_base.specs.declared.shape.ShapeNumbers.{ShapeNumbers}
use Rattle.tn_base.specs.Address.{has_thread}
use Rattle.tn_base.specs.Shape.{WithinLimits, thread_count}
use Rattle.tn_keys.specs.Reach.{reach}
use Rattle.tn_keys.specs.Tables.{Table}
use Rattle.tn_letters.specs.Letters.{board_of}
use Rattle.tn_letters.specs.Standing.{bag_at}
use Rattle.tn_letters.specs.Tiles.{program_of}
use Rattle.tn_rows.specs.WorldView.{WorldView}
use Rattle.job_text.specs.declared.job.Job.{Job}
use Rattle.job_text.specs.declared.job.TextSection.{TextSection}
use Rattle.job_faults.specs.declared.fault.LoadFault.{LoadFault}
use Rattle.job_faults.specs.declared.map.Mapped.{Mapped}
use Rattle.job_faults.specs.Assembly.{labels_of}
use Rattle.job_faults.specs.Fits.{Fits}
use Rattle.job_faults.specs.Labels.{entries_in}
use Rattle.job_faults.specs.Mapping.{fault_of_map, graph_mapped, mapped_by, section_mapped, value_of_map}
use Rattle.job_faults.specs.Mixed.{has_common, has_own, has_send, is_mixed, mixed_at}
use Rattle.job_faults.specs.Order.{load_fault, unless}
use Rattle.job_faults.proofs.Faultless.{each_none}
use Rattle.job_faults.proofs.Fits.{fits}
use Rattle.job_load.specs.Graph.{FitsMachine}
use Rattle.job_load.specs.Laws.{IsStart}
use Rattle.job_load.specs.Loaded.{loaded}
use Rattle.job_load.specs.Start.{start_of}
use Rattle.job_load.proofs.Accepted.{accepted}
use Rattle.job_load.proofs.Fits.{fits_machine}
use Rattle.job_load.proofs.Places.{place_of_below}
use Rattle.polite_edges.specs.Layout.{AllRouted, IsPlaced}
use Rattle.polite_edges.specs.Runs.{IsGraphStart}
use Rattle.polite_edges.specs.VertexLog.{EdgesApart}
use Rattle.polite_place.specs.Outs.{outs_of}
use Rattle.polite_place.specs.Roster.{vertices_on}
use Rattle.polite_routes.specs.Answer.{thread_place}
use Rattle.polite_start.proofs.Devices.{aligned, long}
use Rattle.polite_switch.specs.Device.{AllNamed}
use Rattle.job_edges.specs.JobLayout.{layout_of, switch_at}
use Rattle.job_edges.specs.Laws.{IsGraphJob, IsGraphMachine}
use Rattle.job_edges.proofs.Begins.{no_code_there, none_held, none_in_flight, script_awaits, tables_are, thread_begins}
use Rattle.job_edges.proofs.CodeWords.{few_code}
use Rattle.job_edges.proofs.Places.{no_host_place, none_past, place_is}
use Rattle.job_edges.proofs.Routing.{key_leads, pin_routed}

-- An accepted job with a graph.

no_fault : (f : Option LoadFault) (made w : WorldView) → unless f (Ok made) ≡ Ok w → (f ≡ None) × (made ≡ w)
no_fault None made w e = (refl, cc)
no_fault (Some f) made w e = absurd (cc e)

value_there : (r : Result Mapped LoadFault) → fault_of_map (Some r) ≡ None → (m : Mapped) × (value_of_map (Some r) ≡ Some m)
value_there (Ok m) e = (m, refl)
value_there (Err fault) e = absurd (cc e)

graph_there : (n : ShapeNumbers) (o : Option TextSection) (s : TextSection) → o ≡ Some s → fault_of_map (mapped_by n o) ≡ None → (m : Mapped) × (value_of_map (mapped_by n o) ≡ Some m)
graph_there n None s is e = absurd (cc is)
graph_there n (Some t) s is e = value_there (section_mapped n t) e

pub graph_job : (job : Job) (s : TextSection) (start : WorldView) → loaded job ≡ Ok start → job.graph ≡ Some s → (m : Mapped) × IsGraphJob job m start
graph_job job s start taken is =
    let none = no_fault (load_fault job) (start_of job) start taken in
    let found = graph_there job.numbers job.graph s is (each_none job none.0).graph in
    (found.0, record { accepted = taken; graph = found.1 })

not_mixed : (n : ShapeNumbers) (o : Option TextSection) (mixed : Bool) (m : Mapped) → value_of_map (mapped_by n o) ≡ Some m → mixed_at o mixed ≡ None → mixed ≡ false
not_mixed n None mixed m e f = absurd (cc e)
not_mixed n (Some s) false m e f = refl
not_mixed n (Some s) true m e f = absurd (cc f)

first_and_fifth : (a b c d e f : Bool) → (a || b || c || d || e || f) ≡ false → (a ≡ false) × (e ≡ false)
first_and_fifth false b c d false f h = (refl, refl)
first_and_fifth true b c d e f h = absurd (cc h)
first_and_fifth false true c d true f h = absurd (cc h)
first_and_fifth false false true d true f h = absurd (cc h)
first_and_fifth false false false true true f h = absurd (cc h)
first_and_fifth false false false false true f h = absurd (cc h)

-- the job gives no words of code itself, and its host sends nothing
not_given : (job : Job) (m : Mapped) → load_fault job ≡ None → graph_mapped job ≡ Some m → (nat_lt 0 (length job.codes) ≡ false) × (has_send job.script ≡ false)
not_given job m none is =
    first_and_fifth (nat_lt 0 (length job.codes)) (has_own job.asms) (nat_lt 0 (length job.fills)) (nat_lt 0 (length job.tables)) (has_send job.script) (not (has_common job.asms))
    (not_mixed job.numbers job.graph (is_mixed job) m is (each_none job none).mixed)

-- The devices.

below : (job : Job) (a : ℕ) → WithinLimits job.numbers → IsTrue (has_thread job.numbers a) → thread_place job.numbers a < thread_count job.numbers
below job a l h =
    let e = place_is job.numbers a l h in
    let less = place_of_below job.numbers a l h in
    omega arith

many : (job : Job) (m : Mapped) (a : ℕ) → length (switch_at job m a).devices ≡ length (vertices_on job.numbers (outs_of m.graph) (thread_place job.numbers a))
many job m a = long m.graph m.routes.keys (entries_in (labels_of job.asms) m.graph.kinds) 0 (vertices_on job.numbers (outs_of m.graph) (thread_place job.numbers a))

is_placed : (job : Job) (m : Mapped) → WithinLimits job.numbers → FitsMachine job m → IsPlaced (layout_of job m)
is_placed job m l f = record {
  few = λ a h. let e = many job m a in let few = f.starts.few (thread_place job.numbers a) (below job a l h) in omega arith;
  aligned = λ a h. aligned m.graph m.routes.keys (entries_in (labels_of job.asms) m.graph.kinds) (vertices_on job.numbers (outs_of m.graph) (thread_place job.numbers a)) f.starts.aligned;
  named = λ a h. subst (λ k. AllNamed k (switch_at job m a).in_edges) (sym (many job m a)) (f.starts.named (thread_place job.numbers a) (below job a l h));
}

all_routed : (job : Job) (m : Mapped) → Fits job m → AllRouted (layout_of job m)
all_routed job m f = record { pin = λ a d p h less. pin_routed job m a d p f h less }

-- The start.

begins : (job : Job) (m : Mapped) → Fits job m → FitsMachine job m → IsStart job (start_of job) → load_fault job ≡ None → graph_mapped job ≡ Some m →
    IsGraphStart (layout_of job m) (program_of (start_of job)) (bag_at (start_of job))
begins job m f fm s none is = record {
  shape = refl;
  machine = s.numbers;
  threads = λ a h. thread_begins job m a f.limits is h;
  held = λ a slot h. none_held job a slot f.limits h;
  flight = none_in_flight job;
  script = script_awaits job (not_given job m none is).1;
  code = λ a h. no_code_there job a f.limits (λ tile. let few = few_code job tile (not_given job m none is).0 in omega arith) h;
  reach = λ a key bytes h k. ap (λ (ts : List Table). reach job.numbers ts (board_of a) key bytes) (sym (tables_are job m is fm.tables.count)) ∙ key_leads job m a key bytes f h k;
  host = none_past m.routes.in_edges _ _ fm.starts.count (no_host_place job.numbers f.limits);
}

-- the whole
pub graph_machine : (job : Job) (m : Mapped) (start : WorldView) → EdgesApart (layout_of job m) → IsGraphJob job m start → IsGraphMachine (layout_of job m) start
graph_machine job m start apart j =
    let both = no_fault (load_fault job) (start_of job) start j.accepted in
    let f = fits job m both.0 j.graph in
    let fm = fits_machine job m both.0 j.graph in
    let here : IsGraphJob job m (start_of job) = subst (IsGraphJob job m) (sym both.1) j in
    subst (IsGraphMachine (layout_of job m)) both.1 (record {
      placed = is_placed job m f.limits fm;
      routed = all_routed job m f;
      apart = apart;
      begins = begins job m f fm (accepted job (start_of job) here.accepted) both.0 j.graph;
    })
