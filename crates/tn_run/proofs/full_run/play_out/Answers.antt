use Rattle.tn_run.proofs.full_run.play_out.Goals as goal

pub law_flight-requires-clause-run : goal.law_flight-requires-clause-run
law_flight-requires-clause-run g c = rw c.deref.ensures.value c.in_ok-start.ensures.run

pub returns-clause-full : goal.returns-clause-full
returns-clause-full g c = record {
  run = c.in_ok-start.ensures.run;
  means = rw c.deref.ensures.value at c.law_flight.ensures.letters;
  idle = rw c.deref.ensures.value at c.law_flight.ensures.rest;
  edges = λ job m is. c.law_graph_edges.ensures job m _ c.in_ok-start.field-0.end _ is c.in_ok-start.ensures.run;
  ended = rw c.deref-2.ensures.value at c.outcome_of-outcome.ensures;
}
