-- A job's graph, the places of its vertices, and its routes.
use Rattle.std.specs.Prelude.{ℕ, ◌≡◌, ◌<◌, Bool, length, nat_lt, List, MatchOption, Option, Some, None, if◌then◌else◌}
use Rattle.std.specs.declared.result.Result.{Result}
use Rattle.std.specs.declared.result.Result.TheVariants.{Ok, Err}
use Rattle.tn_base.specs.declared.shape.ShapeNumbers.{ShapeNumbers}
use Rattle.tn_base.specs.Message.{flits}
use Rattle.tn_text.specs.declared.stop.Fault.{Fault as At}
use Rattle.tn_text.specs.declared.stop.Stop.{Stop}
use Rattle.tn_text.specs.Lines.{lines_of}
use Rattle.graph_text.specs.declared.graph.Graph.{Graph}
use Rattle.graph_text.specs.declared.graph.GraphKind.{GraphKind}
use Rattle.graph_text.specs.Flits.{lines_flits}
use Rattle.graph_text.specs.Graph.{IsGraph}
use Rattle.graph_text.specs.Text.{graph_of}
use Rattle.polite_place.specs.declared.placement.PlaceStop.{PlaceStop}
use Rattle.polite_place.specs.declared.placement.Seat.{Seat}
use Rattle.polite_place.specs.Outs.{outs_of}
use Rattle.polite_place.specs.Seats.{placed, seat_of}
use Rattle.polite_routes.specs.declared.routes.RouteSet.{RouteSet}
use Rattle.polite_routes.specs.declared.target.RouteStop.{RouteStop}
use Rattle.polite_routes.specs.declared.target.RouteStop.TheVariants as route
use Rattle.polite_routes.specs.Answer.{routes_of}
use Rattle.job_text.specs.declared.job.Job.{Job}
use Rattle.job_text.specs.declared.job.TextSection.{TextSection}
use Rattle.job_faults.specs.declared.fault.FaultName.{FaultName}
use Rattle.job_faults.specs.declared.fault.FaultName.TheVariants as fault
use Rattle.job_faults.specs.declared.fault.LoadFault.{LoadFault}
use Rattle.job_faults.specs.declared.map.Mapped.{Mapped}
use Rattle.job_faults.specs.Assembly.{IsStop}
use Rattle.job_faults.specs.Faults.{fault_at}
use Rattle.job_faults.specs.Names.{fault_of_graph}

-- The graph.

-- a message of version 1 has at most 4 flits
unfoldable pub is_long : ShapeNumbers → TextSection → Bool
is_long n s = nat_lt (flits n) (lines_flits (lines_of s.text))

-- the text begins with the graph's line
unfoldable pub text_graph : TextSection → Result Graph (At GraphKind)
text_graph s = graph_of s.line (lines_of s.text)

abbrev pub read_as : Result Graph (At GraphKind) → Result Graph LoadFault
read_as (Ok graph) = Ok graph
read_as (Err found) = Err (fault_of_graph found)

-- the graph that a section says, or the first line at fault; before all that, messages that are too long for the version, at the
-- graph's line
abbrev pub graph_said : ShapeNumbers → TextSection → Result Graph LoadFault
graph_said n s =
    if is_long n s then Err (fault_at s.line fault.BadNumber)
    else read_as (text_graph s)

-- The places of its vertices.

unfoldable pub placed_on : ShapeNumbers → Graph → Result (List Seat) PlaceStop
placed_on n graph = placed n graph.per_thread (outs_of graph)

abbrev pub placed_as : ℕ → Result (List Seat) PlaceStop → Result (List Seat) LoadFault
placed_as line (Ok placement) = Ok placement
placed_as line (Err stop) = Err (fault_at line fault.TooMany)

-- Its routes.

unfoldable pub routed_on : ShapeNumbers → Graph → List Seat → Result RouteSet RouteStop
routed_on n graph placement = routes_of n graph placement

abbrev pub name_of_route : RouteStop → FaultName
name_of_route route.KeysFull = fault.KeysFull
name_of_route route.TableFull = fault.TableFull
-- no definition of routes gives this
name_of_route route.Memory = fault.TableFull

abbrev pub routed_as : ℕ → Result RouteSet RouteStop → Result RouteSet LoadFault
routed_as line (Ok set) = Ok set
routed_as line (Err stop) = Err (fault_at line (name_of_route stop))

-- All three.

abbrev pub with_routes : Graph → List Seat → Result RouteSet LoadFault → Result Mapped LoadFault
with_routes graph placement (Ok set) = Ok (record { graph = graph; placement = placement; routes = set })
with_routes graph placement (Err found) = Err found

abbrev pub with_places : ShapeNumbers → ℕ → Graph → Result (List Seat) LoadFault → Result Mapped LoadFault
with_places n line graph (Ok placement) = with_routes graph placement (routed_as line (routed_on n graph placement))
with_places n line graph (Err found) = Err found

abbrev pub with_graph : ShapeNumbers → ℕ → Result Graph LoadFault → Result Mapped LoadFault
with_graph n line (Ok graph) = with_places n line graph (placed_as line (placed_on n graph))
with_graph n line (Err found) = Err found

-- the graph of a section, its vertices placed and its pins routed on a machine of these numbers. The faults: of the graph, at its line at
-- fault; more vertices than the threads take, at the graph's line; then keys, then tables that are too many, at the graph's line
abbrev pub section_mapped : ShapeNumbers → TextSection → Result Mapped LoadFault
section_mapped n s = with_graph n s.line (graph_said n s)

-- the same of a job that has a graph
abbrev pub mapped_by : ShapeNumbers → Option TextSection → Option (Result Mapped LoadFault)
mapped_by n None = None
mapped_by n (Some s) = Some (section_mapped n s)

abbrev pub fault_of_map : Option (Result Mapped LoadFault) → Option LoadFault
fault_of_map None = None
fault_of_map (Some (Ok m)) = None
fault_of_map (Some (Err found)) = Some found

abbrev pub value_of_map : Option (Result Mapped LoadFault) → Option Mapped
value_of_map None = None
value_of_map (Some (Ok m)) = Some m
value_of_map (Some (Err found)) = None

-- why a job's graph has no routes
abbrev pub graph_fault : Job → Option LoadFault
graph_fault job = fault_of_map (mapped_by job.numbers job.graph)

-- a job's graph with its places and routes, if it has one, and if that is not at fault
abbrev pub graph_mapped : Job → Option Mapped
graph_mapped job = value_of_map (mapped_by job.numbers job.graph)

-- the graph is one that a text says, and each of its vertices has a place
pub record IsMapped (m : Mapped) : Type 0 where
  pub graph : IsGraph m.graph
  pub seats : length m.placement ≡ length m.graph.vertices
  pub low : (v : ℕ) → v < length m.placement → (seat_of m.placement v).thread.0 < 16384

abbrev pub AreMapped : Option Mapped → Type 0
AreMapped o = MatchOption o (Unit {0}) IsMapped

-- what a call answers, unless memory ran out: no fault, and the graph with its places and routes, or the fault
abbrev pub Maps : Result (Option Mapped) (Stop LoadFault) → Option (Result Mapped LoadFault) → Type 0
Maps (Ok m) map = (fault_of_map map ≡ None) × (m ≡ value_of_map map)
Maps (Err stop) map = IsStop stop (fault_of_map map)
