use Rattle.std.proofs.Common.{◌<◌, ◌≤◌, ap, sym, ◌∙◌, arith}
use Rattle.tn_base.specs.Parts.{tile_count, tile_at, from_routers}
use Rattle.tn_base.specs.declared.part.Kind.TheVariants.{Tile, Detector}
use Rattle.tn_base.proofs.Listing.{front_at, behind_at}
use Rattle.tn_base.proofs.shape.Shape.from_tiles.Goals as goal

pub returns-then-i-count : goal.returns-then-i-count
returns-then-i-count c =
    let h : c.args.i < tile_count c.args.self.now = omega arith in
    ap (λ x. Tile (record { 0 = x })) c.tile_at.ensures ∙ sym (front_at (λ i. Tile (record { 0 = tile_at c.args.self.now i })) (tile_count c.args.self.now) c.args.i (from_routers c.args.self.now) Detector h)

pub returns-else-i-count : goal.returns-else-i-count
returns-else-i-count c =
    let h : tile_count c.args.self.now ≤ c.args.i = omega arith in
    rw c.tile_count-count.ensures.value at c.from_routers.ensures
    ∙ sym (behind_at (λ i. Tile (record { 0 = tile_at c.args.self.now i })) (tile_count c.args.self.now) c.args.i (from_routers c.args.self.now) Detector h)
