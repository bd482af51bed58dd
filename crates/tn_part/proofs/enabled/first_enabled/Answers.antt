use Rattle.std.proofs.Common.{◌∙◌, subst}
use Rattle.tn_rows.specs.WorldView.{WorldView}
use Rattle.tn_part.proofs.Rests.{Each, last_list, listed_arrival, listed_delivery, listed_departure, listed_of_host, listed_routing, listed_turn}
use Rattle.tn_part.proofs.enabled.first_enabled.Goals as goal

pub returns-in-Some : goal.returns-in-Some
returns-in-Some g c = listed_turn (g.M.HasParts.world c.args.machine.now) c.in-Some.e c.in-Some.ensures

pub returns-in-Some-first_delivery : goal.returns-in-Some-first_delivery
returns-in-Some-first_delivery g c = listed_delivery (g.M.HasParts.world c.args.machine.now) c.in-Some-first_delivery.e c.in_default.ensures c.in-Some-first_delivery.ensures

pub returns-in-Some-first_departure : goal.returns-in-Some-first_departure
returns-in-Some-first_departure g c = listed_departure (g.M.HasParts.world c.args.machine.now) c.in-Some-first_departure.e c.in_default.ensures c.in_default-first_delivery.ensures c.in-Some-first_departure.ensures

pub returns-in-Some-first_arrival : goal.returns-in-Some-first_arrival
returns-in-Some-first_arrival g c = listed_arrival (g.M.HasParts.world c.args.machine.now) c.in-Some-first_arrival.e c.in_default.ensures c.in_default-first_delivery.ensures c.in_default-first_departure.ensures c.in-Some-first_arrival.ensures

pub returns-in-Some-first_routing : goal.returns-in-Some-first_routing
returns-in-Some-first_routing g c = listed_routing (g.M.HasParts.world c.args.machine.now) c.in-Some-first_routing.e c.in_default.ensures c.in_default-first_delivery.ensures c.in_default-first_departure.ensures c.in_default-first_arrival.ensures c.in-Some-first_routing.ensures

pub returns-in-Some-first_of_host : goal.returns-in-Some-first_of_host
returns-in-Some-first_of_host g c = listed_of_host (g.M.HasParts.world c.args.machine.now) c.in-Some-first_of_host.e c.in_default.ensures c.in_default-first_delivery.ensures c.in_default-first_departure.ensures c.in_default-first_arrival.ensures c.in_default-first_routing.ensures c.in-Some-first_of_host.ensures

pub returns : goal.returns
returns g c =
    let w : WorldView = g.M.HasParts.world c.args.machine.now in
    let each = subst Each (c.shape.ensures ∙ c.sites.ensures) c.law_threads.ensures.each in
    last_list w c.first_of_detector.result c.requires.count each (record {
      turns = c.in_default.ensures;
      deliveries = c.in_default-first_delivery.ensures;
      departures = c.in_default-first_departure.ensures;
      arrivals = c.in_default-first_arrival.ensures;
      routings = c.in_default-first_routing.ensures;
      hosts = c.in_default-first_of_host.ensures;
    }) c.first_of_detector.ensures
