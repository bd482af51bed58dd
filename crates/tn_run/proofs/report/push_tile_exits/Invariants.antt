use Rattle.std.proofs.Common.{◌≡◌, ◌++◌, drop}
use Rattle.tn_run.specs.Report.{exits_from}
use Rattle.tn_run.proofs.report.push_tile_exits.Given as goal

abbrev pub invariant-loop-thread : goal.invariant-loop-thread
invariant-loop-thread l = record {
  place : l.place ≡ l.thread-index;
  text : l.text.items ++ exits_from l.tile.plan.shape l.tile.plan.tile l.place (drop l.thread-index l.tile.now.threads) ≡ l.initial.text.items ++ exits_from l.tile.plan.shape l.tile.plan.tile 0 l.tile.now.threads;
}
