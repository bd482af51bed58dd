use Rattle.std.proofs.Common.{◌≡◌, ◌≤◌, ◌-◌, drop, false, length, not, true}
use Rattle.std.specs.List.{list_all}
use Rattle.tn_keys.specs.Beat.{chunks_of, lacks_ind}
use Rattle.tn_keys.specs.Read.{records_in}
use Rattle.tn_keys.specs.Record.{fits}
use Rattle.tn_keys.proofs.Reading.{joined}
use Rattle.tn_keys.proofs.read.read_records.Given as goal

abbrev pub invariant-loop-at : goal.invariant-loop-at
invariant-loop-at l = record {
  at_is : chunks_of l.beat ≡ l.at;
  within : l.at ≤ length l.chunks;
  fit : list_all fits l.beat ≡ true;
  ended_is : lacks_ind l.beat ≡ not l.ended;
  so_far : joined l.beat (records_in l.version l.ended (drop l.at l.chunks)) ≡ records_in l.version false l.chunks;
}

abbrev pub decreases-loop-at : goal.decreases-loop-at
decreases-loop-at l = length l.chunks - l.at
