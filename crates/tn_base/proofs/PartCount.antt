-- How many parts there are, by kind.
use Rattle.std.proofs.Common.{◌≡◌, ◌+◌, List, length, map, arith, length-append}
use Rattle.std.specs.List.{range_with_len}
use Rattle.tn_base.specs.declared.shape.ShapeNumbers.{ShapeNumbers}
use Rattle.tn_base.specs.declared.part.Kind.{Kind}
use Rattle.tn_base.specs.declared.part.Kind.TheVariants.{Tile, Router}
use Rattle.tn_base.specs.Parts.{all_router_links, all_tile_links, board_at, board_count, from_host_links, from_router_links, from_routers, from_tile_links, from_tiles, part_count, tile_at, tile_count}
use Rattle.tn_base.proofs.Listing.{length_mapped}

from_router_links_long : (n : ShapeNumbers) → length (from_router_links n) ≡ length (all_router_links n) + 3
from_router_links_long n = length-append (all_router_links n) (from_host_links n)

from_tile_links_long : (n : ShapeNumbers) → length (from_tile_links n) ≡ length (all_tile_links n) + (length (all_router_links n) + 3)
from_tile_links_long n = omega (arith, length-append (all_tile_links n) (from_router_links n), from_router_links_long n)

from_routers_long : (n : ShapeNumbers) → length (from_routers n) ≡ board_count n + length (from_tile_links n)
from_routers_long n =
    let kinds : List Kind = map (λ i. Router (board_at n i)) (range_with_len 0 (board_count n)) in
    let long : length kinds ≡ board_count n = length_mapped (λ i. Router (board_at n i)) 0 (board_count n) in
    omega (arith, length-append kinds (from_tile_links n), long)

from_tiles_long : (n : ShapeNumbers) → length (from_tiles n) ≡ tile_count n + length (from_routers n)
from_tiles_long n =
    let kinds : List Kind = map (λ i. Tile (record { 0 = tile_at n i })) (range_with_len 0 (tile_count n)) in
    let long : length kinds ≡ tile_count n = length_mapped (λ i. Tile (record { 0 = tile_at n i })) 0 (tile_count n) in
    omega (arith, length-append kinds (from_routers n), long)

pub part_count_is : (n : ShapeNumbers) → part_count n ≡ 1 + tile_count n + board_count n + length (all_tile_links n) + length (all_router_links n) + 3
part_count_is n = omega (arith, from_tiles_long n, from_routers_long n, from_tile_links_long n)
