-- Where the links of the host are, behind all other links, and where the detector is, behind these.
use Rattle.std.proofs.Common.{ℕ, ◌≡◌, ◌≤◌, ◌-◌, ◌++◌, ◌∷◌, [], List, get_or, length, length-append, refl, ap, ◌∙◌, arith}
use Rattle.std.proofs.lemmas.List.{get_or-append_right}
use Rattle.tn_base.specs.declared.part.Kind.{Kind}
use Rattle.tn_base.specs.declared.part.Kind.TheVariants as kind
use Rattle.tn_base.specs.declared.shape.ShapeNumbers.{ShapeNumbers}
use Rattle.tn_base.specs.Parts.{all_router_links, all_tile_links, from_host_links, from_router_links, from_routers, from_tile_links, from_tiles, kind_of, link, part_count, router_part}

-- a place counted from the end of a list is in its tail, if the tail is so long
from_end : (xs ys : List Kind) (b : ℕ) → b ≤ length ys → get_or (xs ++ ys) (length (xs ++ ys) - b) kind.Detector ≡ get_or ys (length ys - b) kind.Detector
from_end xs ys b h =
    let long = length-append xs ys in
    get_or-append_right xs ys (length xs) (length (xs ++ ys) - b) kind.Detector refl (omega (arith, long, h))
    ∙ ap (λ k. get_or ys k kind.Detector) (omega (arith, long, h))

at_least : (xs ys : List Kind) (b : ℕ) → b ≤ length ys → b ≤ length (xs ++ ys)
at_least xs ys b h = omega (arith, length-append xs ys, h)

-- each list of parts from the tiles on ends with the last three
record Ends (n : ShapeNumbers) (b : ℕ) : Type 0 where
  routers : b ≤ length (from_router_links n)
  tiles : b ≤ length (from_tile_links n)
  boards : b ≤ length (from_routers n)
  all : b ≤ length (from_tiles n)

ends : (n : ShapeNumbers) (b : ℕ) → b ≤ 3 → Ends n b
ends n b h =
    let routers : b ≤ length (from_router_links n) = at_least (all_router_links n) (from_host_links n) b h in
    let tiles : b ≤ length (from_tile_links n) = at_least (all_tile_links n) (from_router_links n) b routers in
    let boards : b ≤ length (from_routers n) = at_least _ (from_tile_links n) b tiles in
    record { routers = routers; tiles = tiles; boards = boards; all = at_least _ (from_routers n) b boards }

-- the part at a place counted from the last part is one of the last three
last_parts : (n : ShapeNumbers) (b : ℕ) → b ≤ 3 → kind_of n (part_count n - b) ≡ get_or (from_host_links n) (3 - b) kind.Detector
last_parts n b h =
    let e : Ends n b = ends n b h in
    from_end (kind.Host ∷ []) (from_tiles n) b e.all
    ∙ from_end _ (from_routers n) b e.boards
    ∙ from_end _ (from_tile_links n) b e.tiles
    ∙ from_end (all_tile_links n) (from_router_links n) b e.routers
    ∙ from_end (all_router_links n) (from_host_links n) b h

-- the link from the host
pub link_from_host : (n : ShapeNumbers) → kind_of n (part_count n - 2) ≡ link 0 (router_part n 0)
link_from_host n = last_parts n 2 (omega arith)

-- the link to the host
pub link_to_host : (n : ShapeNumbers) → kind_of n (part_count n - 3) ≡ link (router_part n 0) 0
link_to_host n = last_parts n 3 (omega arith)

-- the detector is the last part
pub detector_last : (n : ShapeNumbers) → kind_of n (part_count n - 1) ≡ kind.Detector
detector_last n = last_parts n 1 (omega arith)

-- both are there, behind the host
pub host_links_there : (n : ShapeNumbers) → 4 ≤ part_count n
host_links_there n =
    let e : Ends n 3 = ends n 3 (omega arith) in
    omega (arith, e.all)
