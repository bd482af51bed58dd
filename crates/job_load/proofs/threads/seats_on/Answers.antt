use Rattle.std.proofs.Common.{◌≡◌, ◌≤◌, ◌∙◌, ◌+◌, ◌-◌, ◌*◌, length, ap, arith, rules}
use Rattle.tn_base.specs.Address.{tile_place, tile_threads}
use Rattle.tn_base.specs.Parts.{tile_count}
use Rattle.tn_base.specs.Shape.{thread_count}
use Rattle.job_load.proofs.Seats.{room_in}
use Rattle.job_load.proofs.threads.seats_on.Goals as goal

pub slice_bounds-result-end : goal.slice_bounds-result-end
slice_bounds-result-end c =
    let n = c.args.shape.now in
    let room = room_in (tile_place n c.args.tile.0) (tile_threads n) (tile_count n) (c.law_tile_parts.ensures.below c.args.tile.0 c.requires.tile) in
    let whole : tile_count n * tile_threads n ≡ thread_count n = grind arith in
    let place : c.tile_part.result.0 - 1 ≡ tile_place n c.args.tile.0 = omega (arith, c.tile_part.ensures) in
    let first : (c.tile_part.result.0 - 1) * c.tile_threads-count.result ≡ tile_place n c.args.tile.0 * tile_threads n = ap (λ p. p * c.tile_threads-count.result) place ∙ ap (λ k. tile_place n c.args.tile.0 * k) c.tile_threads-count.ensures.value in
    let within : (c.tile_part.result.0 - 1) * c.tile_threads-count.result + c.tile_threads-count.result ≤ length c.args.seats.now =
    rw (first, c.tile_threads-count.ensures.value, c.requires.seats, ← whole) room in
    search (rules, within)
