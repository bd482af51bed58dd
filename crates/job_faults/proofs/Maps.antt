-- A job's graph, its places and its routes.
use Rattle.std.proofs.Common.{ℕ, ◌≡◌, List, Some, None, IfOk, length, nat_lt, refl}
use Rattle.std.specs.declared.result.Result.{Result}
use Rattle.std.specs.declared.result.Result.TheVariants.{Ok, Err}
use Rattle.tn_base.specs.declared.shape.ShapeNumbers.{ShapeNumbers}
use Rattle.tn_keys.specs.declared.fault.TableFault.{TableFault}
use Rattle.tn_keys.specs.Tables.{Table}
use Rattle.tn_reach.specs.declared.check.TableStop.TheVariants.{Fault}
use Rattle.tn_reach.specs.Check.{table_stop}
use Rattle.job_faults.specs.Faults.{fault_at}
use Rattle.job_faults.specs.Names.{name_of_table}
use Rattle.job_faults.specs.Routed.{tables_fault}
use Rattle.tn_base.specs.Message.{flits}
use Rattle.tn_base.specs.Parts.{board_count}
use Rattle.tn_text.specs.declared.stop.Fault.{Fault as At}
use Rattle.tn_text.specs.declared.stop.Stop.{Stop}
use Rattle.tn_text.specs.Gives.{Gives}
use Rattle.tn_text.specs.Lines.{lines_of}
use Rattle.graph_text.specs.declared.graph.Graph.{Graph}
use Rattle.graph_text.specs.declared.graph.GraphKind.{GraphKind}
use Rattle.graph_text.specs.Flits.{lines_flits}
use Rattle.graph_text.specs.Text.{graph_of}
use Rattle.polite_place.specs.declared.placement.PlaceStop.{PlaceStop}
use Rattle.polite_place.specs.declared.placement.Seat.{Seat}
use Rattle.polite_place.specs.Outs.{outs_of}
use Rattle.polite_place.specs.Seats.{Places, placed}
use Rattle.polite_routes.specs.declared.routes.RouteSet.{RouteSet}
use Rattle.polite_routes.specs.declared.target.RouteStop.{RouteStop}
use Rattle.polite_routes.specs.Answer.{Routes, routes_of}
use Rattle.polite_routes.specs.Passes.{PassesButWidth}
use Rattle.job_text.specs.declared.job.TextSection.{TextSection}
use Rattle.job_faults.specs.Mapping.{is_long, placed_on, routed_on, text_graph}

pub text_read : (r : Result Graph (Stop (At GraphKind))) (s : TextSection) → Gives r (graph_of s.line (lines_of s.text)) → Gives r (text_graph s)
unfolding text_graph
text_read r s h = h

pub places_on : (r : Result (List Seat) PlaceStop) (n : ShapeNumbers) (graph : Graph) → Places r (placed n graph.per_thread (outs_of graph)) → Places r (placed_on n graph)
unfolding placed_on
places_on r n graph h = h

pub places_off : (p : List Seat) (n : ShapeNumbers) (graph : Graph) → Ok p ≡ placed_on n graph → Ok p ≡ placed n graph.per_thread (outs_of graph)
unfolding placed_on
places_off p n graph h = h

pub long_is : (n : ShapeNumbers) (s : TextSection) (k f : ℕ) → k ≡ lines_flits (lines_of s.text) → f ≡ flits n → nat_lt f k ≡ is_long n s
unfolding is_long
long_is n s k f e h = rw (e, h) refl

pub tables_long : (r : Result RouteSet RouteStop) (n : ShapeNumbers) → IfOk r (λ set. PassesButWidth n set.tables) → IfOk r (λ set. length set.tables ≡ board_count n)
tables_long (Ok set) n h = h.count
tables_long (Err stop) n h = tt

pub tables_told : (line : ℕ) (n : ShapeNumbers) (tables : List Table) (board : ℕ) (found : TableFault) → table_stop n tables ≡ Some (Fault board found) →
    Some (fault_at line (name_of_table found)) ≡ tables_fault line n tables
unfolding tables_fault
tables_told line n tables board found e = rw e refl

pub tables_untold : (line : ℕ) (n : ShapeNumbers) (tables : List Table) → table_stop n tables ≡ None → None ≡ tables_fault line n tables
unfolding tables_fault
tables_untold line n tables e = rw e refl

pub routes_on : (r : Result RouteSet RouteStop) (n : ShapeNumbers) (graph : Graph) (p : List Seat) → Routes r (routes_of n graph p) → Routes r (routed_on n graph p)
unfolding routed_on
routes_on r n graph p h = h
