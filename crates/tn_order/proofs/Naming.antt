-- A destination without a key that names a receiver takes the receiver's ways.
use Rattle.std.proofs.Common.{ℕ, ◌≡◌, ◌<◌, ◌%◌, ◌==◌, ◌&&◌, true, cond, refl, sym, ◌∙◌, ap, subst, arith, IsTrue}
use Rattle.std.specs.Int.{bit_at}
use Rattle.std.proofs.lemmas.Bool.{and_parts, eqb-true}
use Rattle.std.proofs.lemmas.Bool.Decides.{nat_tests}
use Rattle.std.proofs.lemmas.Nat.Bits.{bit_at-pow_same}
use Rattle.tn_base.specs.declared.ids.Board.{Board}
use Rattle.tn_base.specs.declared.ids.ThreadId.{ThreadId}
use Rattle.tn_base.specs.declared.ids.TileId.{TileId}
use Rattle.tn_base.specs.declared.message.Dest.{Dest}
use Rattle.tn_base.specs.declared.message.Dest.TheVariants as dest
use Rattle.tn_base.specs.declared.part.Kind.{Kind}
use Rattle.tn_base.specs.declared.part.Kind.TheVariants as kind
use Rattle.tn_base.specs.declared.port.Port.TheVariants as port
use Rattle.tn_base.specs.declared.shape.ShapeNumbers.{ShapeNumbers}
use Rattle.tn_base.specs.Address.{has_thread, has_tile, place_in_tile, tile_of}
use Rattle.tn_base.specs.Message.{has_dest}
use Rattle.tn_base.specs.Ports.{board_x, board_y, port_from, tile_x, tile_y, to_board, to_router, to_tile, toward}
use Rattle.tn_base.specs.Shape.{WithinLimits}
use Rattle.tn_tile.proofs.Packed.{receiver_bit}
use Rattle.tn_letters.specs.Letters.{host_address}
use Rattle.tn_order.specs.Acts.{names}
use Rattle.tn_order.specs.History.{receiver_of}
use Rattle.tn_order.specs.Kept.{IsFor}
use Rattle.tn_order.specs.Moving.{IsReceiver}

-- a receiver's own destination
pub self_for : (n : ShapeNumbers) (goal : Dest) → IsReceiver n goal → IsFor n goal goal
self_for n (dest.Thread t) there = record { port = λ k. refl; unkeyed = refl; receiver = bit_at-pow_same (place_in_tile n t.0) }
self_for n dest.Host there = record { port = λ k. refl; unkeyed = refl; receiver = tt }
self_for n (dest.Mask tile mask) there = absurd there
self_for n (dest.Key key) there = absurd there

-- the way to a tile is the way to a thread on it
tile_ways : (x tile a : ℕ) → tile ≡ tile_of a → to_tile x tile ≡ to_tile x a
tile_ways x tile a e =
    let tx : tile_x tile ≡ tile_x a = omega arith in
    let ty : tile_y tile ≡ tile_y a = omega arith in
    let bx : board_x tile ≡ board_x a = omega arith in
    let by : board_y tile ≡ board_y a = omega arith in
    λ i. cond (board_x x == bx i && board_y x == by i) (toward (tile_x x) (tile_y x) (tx i) (ty i) port.Here) (to_router x)

board_ways : (b : Board) (tile a : ℕ) → tile ≡ tile_of a → to_board b tile ≡ to_board b a
board_ways b tile a e =
    let bx : board_x tile ≡ board_x a = omega arith in
    let by : board_y tile ≡ board_y a = omega arith in
    λ i. toward b.x b.y (bx i) (by i) port.Down

mask_port : (tile : TileId) (mask a : ℕ) (t : ThreadId) (k : Kind) → tile.0 ≡ tile_of t.0 → port_from k (dest.Mask tile mask) ≡ port_from k (dest.Thread t)
mask_port tile mask a t kind.Host e = refl
mask_port tile mask a t (kind.Tile x) e = tile_ways x.0 tile.0 t.0 e
mask_port tile mask a t (kind.Router b) e = board_ways b tile.0 t.0 e
mask_port tile mask a t (kind.Link from onto) e = refl
mask_port tile mask a t kind.Detector e = refl

no_host : {A : Type 0} (n : ShapeNumbers) (a : ℕ) → IsTrue (has_thread n a) → a ≡ host_address → A
no_host n a h e = let low : a < 16384 = grind (arith, nat_tests) in absurd (omega arith)

no_mask : {A : Type 0} (n : ShapeNumbers) (tile mask : ℕ) → has_tile n tile ≡ true → tile ≡ tile_of host_address → A
no_mask n tile mask h e = let low : tile < 16384 = grind (arith, nat_tests) in absurd (omega arith)

-- a destination of the machine that names the receiver is for the receiver
pub names_for : (n : ShapeNumbers) (goal d : Dest) → WithinLimits n → IsReceiver n goal → IsTrue (has_dest n d) → names d (receiver_of goal) ≡ true → IsFor n goal d
names_for n goal (dest.Key key) limits there fits e = cc e
names_for n dest.Host dest.Host limits there fits e = self_for n dest.Host tt
names_for n dest.Host (dest.Thread t) limits there fits e = no_host n t.0 fits (eqb-true t.0 host_address e)
names_for n dest.Host (dest.Mask tile mask) limits there fits e =
    let p = and_parts _ _ fits in
    let q = and_parts _ _ p.0 in
    no_mask n tile.0 mask q.0 (eqb-true tile.0 (tile_of host_address) (and_parts _ _ e).0)
names_for n (dest.Thread t) dest.Host limits there fits e = no_host n t.0 there (eqb-true t.0 host_address e)
names_for n (dest.Thread t) (dest.Thread u) limits there fits e =
    let same : u ≡ t = ap (λ x. record { 0 = x }) (eqb-true u.0 t.0 e) in
    subst (λ x. IsFor n (dest.Thread t) (dest.Thread x)) (sym same) (self_for n (dest.Thread t) there)
names_for n (dest.Thread t) (dest.Mask tile mask) limits there fits e =
    let p = and_parts _ _ e in
    let q = and_parts _ _ fits in
    let on : tile.0 ≡ tile_of t.0 = eqb-true tile.0 (tile_of t.0) p.0 in
    record {
      port = λ k. mask_port tile mask t.0 t k on;
      unkeyed = refl;
      receiver = receiver_bit n mask t.0 limits q.1 there ∙ eqb-true (bit_at mask (t.0 % 64)) 1 p.1;
    }
names_for n (dest.Mask tile mask) d limits there fits e = absurd there
names_for n (dest.Key key) d limits there fits e = absurd there
