-- The routes of a graph: each vertex may send by the keys of its pins.
use Rattle.std.proofs.Common.{ℕ, ◌≡◌, List, sym, ap, subst, arith, length}
use Rattle.std.specs.Prelude.{Ok, Some}
use Rattle.tn_base.specs.declared.shape.ShapeNumbers.{ShapeNumbers}
use Rattle.tn_base.specs.Shape.{WithinLimits}
use Rattle.graph_text.specs.declared.graph.Graph.{Graph}
use Rattle.polite_place.specs.declared.placement.Seat.{Seat}
use Rattle.polite_place.specs.Seats.{Seated, seat_of}
use Rattle.polite_routes.specs.declared.routes.RouteSet.{RouteSet}
use Rattle.polite_routes.specs.Answer.{AllServed, routes_of}
use Rattle.polite_routes.specs.Pins.{board_of, pins_of}
use Rattle.polite_routes.specs.Straight.{StraightFrom}
use Rattle.polite_routes.proofs.Each.{parts}
use Rattle.polite_routes.proofs.Serving.{set_is}
use Rattle.polite_flow.specs.Law.{AreRoutes}
use Rattle.polite_flow.specs.OnWay.{AreDirected}
use Rattle.polite_flow.proofs.Directed.{directed}

pub are_routes : (n : ShapeNumbers) (g : Graph) (placement : List Seat) (set : RouteSet) (per : ℕ) → WithinLimits n → Ok set ≡ routes_of n g placement → AllServed n g placement set → length placement ≡ length g.vertices → Seated n per placement → AreRoutes n g placement set
are_routes n g placement set per l e served count seated = record {
  has = record { limits = l; directed = subst (λ ts. AreDirected n ts) (sym (ap (λ (s : RouteSet). s.tables) (set_is n g (pins_of g placement) set e))) (directed n (pins_of g placement)) };
  sent = λ v pin key thread h f k.
      let p = parts n (seat_of placement v).thread.0 (seated.there v (omega arith)) in
      let s = (served.served v pin h f).routed.straight in
      let t = subst (λ o. StraightFrom 9 n set.tables 4 (Some (board_of (seat_of placement v).thread.0)) o) k s in
      (((p.board_x, p.board_y), record { most = 9; straight = t.straight }), (p.tile_x, p.tile_y));
}
