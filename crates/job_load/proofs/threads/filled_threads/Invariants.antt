use Rattle.std.proofs.Common.{◌≡◌, ◌-◌, ◌++◌, map}
use Rattle.std.specs.List.{range_with_len}
use Rattle.tn_base.specs.Address.{in_tile, tile_threads}
use Rattle.job_load.specs.Start.{by_address, filled_thread}
use Rattle.job_load.proofs.threads.filled_threads.Given as goal

abbrev pub invariant-loop-place : goal.invariant-loop-place
invariant-loop-place l =
    l.threads.items ++ map (λ k. filled_thread l.shape l.fills (in_tile l.shape l.tile.0 k)) (range_with_len l.place (tile_threads l.shape - l.place))
    ≡ by_address (filled_thread l.shape l.fills) l.shape l.tile.0
