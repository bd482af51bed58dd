use Rattle.std.proofs.Common.{◌≡◌, ◌-◌, ◌++◌, map}
use Rattle.std.specs.List.{range_with_len}
use Rattle.tn_base.specs.Address.{tile_threads}
use Rattle.job_load.specs.Graph.{bare_thread}
use Rattle.job_load.proofs.threads.seated_threads.Given as goal

abbrev pub invariant-loop-place : goal.invariant-loop-place
invariant-loop-place l =
    l.threads.items ++ map (bare_thread l.shape l.flits l.seats l.tile.0) (range_with_len l.place (tile_threads l.shape - l.place))
    ≡ map (bare_thread l.shape l.flits l.seats l.tile.0) (range_with_len 0 (tile_threads l.shape))
