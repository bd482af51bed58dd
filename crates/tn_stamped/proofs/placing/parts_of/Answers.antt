use Rattle.std.proofs.Common.{◌≡◌, ◌∙◌, ◌<◌, ℕ, IsTrue, sym, subst}
use Rattle.tn_base.specs.Address.{has_thread, has_tile, tile_of, tile_place}
use Rattle.tn_base.specs.Parts.{kind_of, tile_at, tile_count, tile_part}
use Rattle.tn_base.specs.declared.part.Kind.TheVariants as kind
use Rattle.tn_base.specs.declared.shape.ShapeNumbers.{ShapeNumbers}
use Rattle.tn_rows.proofs.Ways.{Behind}
use Rattle.tn_stamped.proofs.Pairing.{Tiled, alone_is, nowhere_is, pair_is}
use Rattle.tn_stamped.proofs.placing.parts_of.Goals as goal

pub returns-in-Some : goal.returns-in-Some
returns-in-Some c =
    let tiled : Tiled c.args.sites.now = record {
      tile = subst (λ (n : ShapeNumbers). (a : ℕ) → IsTrue (has_thread n a) → IsTrue (has_tile n (tile_of a))) c.shape-2.ensures c.law_tile_threads.ensures.tile;
      below = subst (λ (n : ShapeNumbers). (a : ℕ) → IsTrue (has_tile n a) → tile_place n a < tile_count n) c.shape-3.ensures c.law_tile_parts.ensures.below;
      kind = subst (λ (n : ShapeNumbers). (i : ℕ) → i < tile_count n → kind_of n (tile_part i) ≡ kind.Tile (record { 0 = tile_at n i })) c.shape-3.ensures c.law_tile_parts.ensures.kind;
    } in
    alone_is c.args.sites.now c.args.e.now c.in-Some.p.0 tiled (sym c.in-Some.ensures)

pub returns-in_default-port_of : goal.returns-in_default-port_of
returns-in_default-port_of c = nowhere_is c.args.sites.now c.args.e.now (sym c.in_default.ensures) (sym c.in_default-port_of.ensures)

pub returns : goal.returns
returns c = rw (c.lesser_of.ensures, c.greater_of.ensures) (pair_is c.args.sites.now c.args.e.now c.in-Some-port_of.at (subst Behind c.shape.ensures c.law_links.ensures) (sym c.port_of.ensures ∙ c.in-Some-port_of.is))
