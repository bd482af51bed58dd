-- A machine at its start: what holds of its tiles, and that no letter was dropped.
use Rattle.std.proofs.Common.{ℕ, ◌≡◌, ◌<◌, ◌≤◌, List, [], ◌∷◌, length, get_or, suc, refl, sym, ap, subst, ◌∙◌, ◌==◌, arith, IsTrue, sum_by, Bool, true, false, cond, zero, map, Option, None, MatchOption}
use Rattle.std.proofs.lemmas.List.Sums.{sum_by-cons}
use Rattle.tn_base.specs.declared.ids.TileId.{TileId}
use Rattle.tn_base.specs.declared.part.Kind.{Kind}
use Rattle.tn_base.specs.declared.part.Kind.TheVariants as kind
use Rattle.tn_base.specs.declared.shape.ShapeNumbers.{ShapeNumbers}
use Rattle.tn_base.specs.Address.{has_tile, tile_place, tile_threads}
use Rattle.tn_base.specs.Message.{slot_bytes}
use Rattle.tn_base.specs.Parts.{board_at, board_count, kind_of, router_part, tile_at, tile_part}
use Rattle.tn_base.specs.declared.ids.Board.{Board}
use Rattle.tn_base.specs.declared.message.Packet.{Packet}
use Rattle.tn_base.specs.declared.port.Port.{Port}
use Rattle.tn_base.specs.declared.port.Port.TheVariants as port
use Rattle.tn_base.proofs.Listing.{mapped_at}
use Rattle.tn_keys.specs.Tables.{HasBoard, Table, board_place, table_of}
use Rattle.tn_host.specs.HostView.{HostState}
use Rattle.tn_link.specs.LinkView.{LinkView}
use Rattle.tn_node.specs.PortRows.{at, no_values}
use Rattle.tn_router.specs.Kept.{FitsSide, FitsWay, WellShaped as RouterShaped, fresh_router}
use Rattle.tn_router.specs.RouterView.{RouterView}
use Rattle.tn_letters.specs.Letters.{board_of, link_board}
use Rattle.tn_letters.specs.Tiles.{beats_on, tables_of}
use Rattle.std.specs.List.{AllByRecursion, range_with_len}
use Rattle.std.specs.Prelude.{replicate}
use Rattle.std.proofs.lemmas.Nat.{div_below, div-add-mod', mod_below}
use Rattle.tn_base.specs.Shape.{WithinLimits}
use Rattle.tn_base.proofs.Limits.{within_limits}
use Rattle.tn_base.proofs.LinkEnds.{joins_visited}
use Rattle.tn_base.proofs.Places.{orders_tiles}
use Rattle.tn_base.proofs.TilePlaces.{tile_placed}
use Rattle.tn_slots.specs.WellKept.{WellKept}
use Rattle.tn_slots.proofs.Kept.{fresh_kept}
use Rattle.tn_tile.specs.Kept.{WellShaped}
use Rattle.tn_tile.specs.TileView.{TileView}
use Rattle.tn_tile.proofs.Fresh.{fresh_shaped}
use Rattle.tn_tile.proofs.Packed.{few_places}
use Rattle.tn_rows.specs.Events.{FitsKind}
use Rattle.tn_rows.specs.PartView.{PartView, TileV, RouterV, LinkV, HostV, DetectorV, AbsentV}
use Rattle.tn_rows.specs.WorldView.{WorldView}
use Rattle.tn_letters.specs.Law.{IsSendable, IsStart, StartsSo, dropped_on}
use Rattle.tn_letters.proofs.Lift.{Good, GoodPart, GoodRouter, GoodTile, HomeTile, Homed, HostWay, IsForHost, On, OnPart, StandsAt}
use Rattle.tn_letters.proofs.PartKinds.{RouterPart, TilePart, router_part_is, tile_part_is}

-- a tile that fits its part is the part's
fits_tile : (n : ShapeNumbers) (p : ℕ) (v : TileView) (k : Kind) → kind_of n p ≡ k → FitsKind n k (TileV v) → (tile : TileId) × (kind_of n p ≡ kind.Tile tile) × (v.plan.shape ≡ n) × (v.plan.tile ≡ tile.0)
fits_tile n p v (kind.Tile tile) e f = (tile, e, f.0, f.1)
fits_tile n p v kind.Host e f = absurd f
fits_tile n p v (kind.Router board) e f = absurd f
fits_tile n p v (kind.Link from onto) e f = absurd f
fits_tile n p v kind.Detector e f = absurd f

slot_room : (n : ShapeNumbers) → 16 ≤ slot_bytes n
slot_room n = by (n.version == 1)
  where
    by : (b : Bool) → 16 ≤ cond b 64 128
    by true = omega arith
    by false = omega arith

-- nothing waits on a tile at its start
abbrev no_packet : Option Packet
no_packet = None

none_there : (m k : ℕ) → get_or (replicate m no_packet) k no_packet ≡ no_packet
none_there zero k = refl
none_there (suc m) zero = refl
none_there (suc m) (suc k) = none_there m k

-- no port of fresh ports has a value
all_none : {X : Type 0} (P : Port → X → Type 0) (way : Port) → MatchOption (at way no_values) (Unit {0}) (P way)
all_none P port.East = tt
all_none P port.West = tt
all_none P port.South = tt
all_none P port.North = tt
all_none P port.Up = tt
all_none P port.Down = tt
all_none P port.HostPort = tt
all_none P port.Here = tt

none_to_host : HostWay no_values
none_to_host port.East = tt
none_to_host port.West = tt
none_to_host port.South = tt
none_to_host port.North = tt
none_to_host port.Up = tt
none_to_host port.Down = tt
none_to_host port.HostPort = tt
none_to_host port.Here = tt

nobody_home : (b : Board) (m : ℕ) → HomeTile b (replicate m None) no_values
nobody_home b m = record {
  sent = λ k. subst (λ (o : Option Packet). MatchOption o (Unit {0}) (Homed b)) (sym (none_there m k)) tt;
  goes_on = all_none (λ way. Homed b);
}

good_tile : (w : WorldView) (p : ℕ) (v : TileView) → IsStart w → WithinLimits w.shape → On w p v → GoodTile w.shape p v
good_tile w p v s limits on =
    let n : ShapeNumbers = w.shape in
    let within : p < length w.parts = on.within in
    let count = s.world.count in
    let f = fits_tile n p v (kind_of n p) refl (subst (FitsKind n (kind_of n p)) on.is (s.world.each p (omega arith))) in
    let t : TilePart n p f.0 = tile_part_is n p f.0 f.1 in
    let at : v.plan.tile ≡ tile_at n t.i = f.3 ∙ t.is in
    let there : IsTrue (has_tile n v.plan.tile) = subst (λ x. IsTrue (has_tile n x)) (sym at) ((orders_tiles n limits).there t.i t.below) in
    let fresh : StartsSo n (TileV v) = subst (StartsSo n) on.is (s.parts p within) in
    record {
      shape = f.2;
      shaped = subst (λ (x : TileView). WellShaped x) (sym fresh.3) (fresh_shaped n v.plan.tile fresh.0 fresh.1 there fresh.2);
      kept = subst (λ (x : TileView). WellKept x.now.pool) (sym fresh.3) (fresh_kept n.slots (tile_threads n) (slot_bytes n) (limits.slots.1) (few_places n limits) (slot_room n));
      part = ap (λ x. tile_part (tile_place n x)) at ∙ (ap tile_part (tile_placed n t.i limits t.below) ∙ t.part);
      home = subst (λ (x : TileView). HomeTile (board_of v.plan.tile) x.now.pending x.now.node.out) (sym fresh.3) (nobody_home (board_of v.plan.tile) (tile_threads n));
    }

-- a router that fits its part is that of the part's board
fits_router : (n : ShapeNumbers) (p : ℕ) (v : RouterView) (k : Kind) → kind_of n p ≡ k → FitsKind n k (RouterV v) → (kind_of n p ≡ kind.Router v.plan.board) × (v.plan.shape ≡ n)
fits_router n p v (kind.Router board) e f = (e ∙ ap kind.Router (sym f.1), f.0)
fits_router n p v kind.Host e f = absurd f
fits_router n p v (kind.Tile tile) e f = absurd f
fits_router n p v (kind.Link from onto) e f = absurd f
fits_router n p v kind.Detector e f = absurd f

-- a router at its start
fresh_shape : (n : ShapeNumbers) (b : Board) (beats : Table) → HasBoard n b → RouterShaped (fresh_router n b beats)
fresh_shape n b beats board = record {
  board = board;
  fits = record { works = all_none (FitsSide (fresh_router n b beats).plan); waits = all_none (λ way. FitsWay n b way) };
}

pub board_there : (n : ShapeNumbers) (i : ℕ) → WithinLimits n → i < board_count n → HasBoard n (board_at n i)
board_there n i limits h = (mod_below i n.boards_x limits.boards_x.0, div_below i n.boards_x n.boards_y limits.boards_x.0 (omega arith))

-- the table of a board is that of its router
table_there : (w : WorldView) (i : ℕ) → i < board_count w.shape → table_of w.shape (tables_of w) (board_at w.shape i) ≡ beats_on (get_or w.parts (router_part w.shape i) AbsentV)
unfolding tables_of
table_there w i h =
    let n : ShapeNumbers = w.shape in
    let at : board_place n (board_at n i) ≡ i = div-add-mod' i n.boards_x in
    let beats : ℕ → Table = λ j. beats_on (get_or w.parts (router_part n j) AbsentV) in
    ap (λ k. get_or (map beats (range_with_len 0 (board_count n))) k []) at
    ∙ (mapped_at beats 0 (board_count n) i [] h ∙ ap beats (omega arith))

good_router : (w : WorldView) (p : ℕ) (v : RouterView) → IsStart w → WithinLimits w.shape → OnPart w p (RouterV v) → GoodRouter w.shape (tables_of w) v
good_router w p v s limits on =
    let n : ShapeNumbers = w.shape in
    let within : p < length w.parts = on.within in
    let count = s.world.count in
    let f = fits_router n p v (kind_of n p) refl (subst (FitsKind n (kind_of n p)) on.is (s.world.each p (omega arith))) in
    let t : RouterPart n p v.plan.board = router_part_is n p v.plan.board f.0 in
    let fresh : StartsSo n (RouterV v) = subst (StartsSo n) on.is (s.parts p within) in
    let board : HasBoard n v.plan.board = subst (HasBoard n) t.is (board_there n t.i limits t.below) in
    record {
      shape = f.1;
      shaped = subst (λ (x : RouterView). RouterShaped x) (sym fresh.1) (fresh_shape n v.plan.board fresh.0 board);
      host = subst (λ (x : RouterView). HostWay x.now.node.out) (sym fresh.1) none_to_host;
      beats = sym (ap (table_of n (tables_of w)) (sym t.is) ∙ (table_there w t.i t.below ∙ (ap (λ i. beats_on (get_or w.parts i AbsentV)) t.part ∙ ap beats_on on.is)));
    }

good_part : (w : WorldView) (p : ℕ) (part : PartView) → IsStart w → WithinLimits w.shape → OnPart w p part → GoodPart w.shape (tables_of w) p part
good_part w p (TileV v) s limits on = good_tile w p v s limits on
good_part w p (RouterV v) s limits on = good_router w p v s limits on
good_part w p (LinkV x) s limits on =
    let fresh : StartsSo w.shape (LinkV x) = subst (StartsSo w.shape) on.is (s.parts p on.within) in
    record {
      home = λ leads. subst (λ (y : LinkView). AllByRecursion (Homed (link_board w.shape p)) y.packets) (sym fresh) tt;
      host = λ leads. subst (λ (y : LinkView). AllByRecursion (IsForHost w.shape) y.packets) (sym fresh) tt;
    }
good_part w p (HostV s) start limits on =
    let fresh : StartsSo w.shape (HostV s) = subst (StartsSo w.shape) on.is (start.parts p on.within) in
    subst (λ (x : HostState). AllByRecursion (IsSendable w.shape) x.script) (sym fresh.2) fresh.1
good_part w p (DetectorV v) s limits on = tt
good_part w p AbsentV s limits on = tt

fits_at : (n : ShapeNumbers) (k : Kind) (part : PartView) → FitsKind n k part → StandsAt k part
fits_at n (kind.Tile tile) (TileV v) f = f.1
fits_at n (kind.Tile tile) (RouterV v) f = f
fits_at n (kind.Tile tile) (LinkV x) f = f
fits_at n (kind.Tile tile) (HostV s) f = f
fits_at n (kind.Tile tile) (DetectorV v) f = f
fits_at n (kind.Tile tile) AbsentV f = f
fits_at n (kind.Router board) (TileV v) f = f
fits_at n (kind.Router board) (RouterV v) f = f.1
fits_at n (kind.Router board) (LinkV x) f = f
fits_at n (kind.Router board) (HostV s) f = f
fits_at n (kind.Router board) (DetectorV v) f = f
fits_at n (kind.Router board) AbsentV f = f
fits_at n (kind.Link from onto) (TileV v) f = f
fits_at n (kind.Link from onto) (RouterV v) f = f
fits_at n (kind.Link from onto) (LinkV x) f = tt
fits_at n (kind.Link from onto) (HostV s) f = f
fits_at n (kind.Link from onto) (DetectorV v) f = f
fits_at n (kind.Link from onto) AbsentV f = f
fits_at n kind.Host (TileV v) f = f
fits_at n kind.Host (RouterV v) f = f
fits_at n kind.Host (LinkV x) f = f
fits_at n kind.Host (HostV s) f = tt
fits_at n kind.Host (DetectorV v) f = f
fits_at n kind.Host AbsentV f = f
fits_at n kind.Detector (TileV v) f = f
fits_at n kind.Detector (RouterV v) f = f
fits_at n kind.Detector (LinkV x) f = f
fits_at n kind.Detector (HostV s) f = f
fits_at n kind.Detector (DetectorV v) f = tt
fits_at n kind.Detector AbsentV f = f

pub good_start : (w : WorldView) → IsStart w → Good w
good_start w s =
    let limits = within_limits w.shape s.shape in
    let count = s.world.count in
    record {
      count = s.world.count;
      limits = limits;
      leads = λ q from onto e. joins_visited w.shape q from onto limits e;
      accepted = s.tables;
      stands = λ q h. fits_at w.shape (kind_of w.shape q) (get_or w.parts q AbsentV) (s.world.each q h);
      each = λ q h. good_part w q (get_or w.parts q AbsentV) s limits (record { within = omega arith; below = h; is = refl });
    }

none_dropped : (n : ShapeNumbers) (part : PartView) → StartsSo n part → dropped_on part ≡ 0
none_dropped n (TileV v) s = ap (λ (x : TileView). x.now.dropped) s.3
none_dropped n (RouterV v) s = refl
none_dropped n (LinkV v) s = refl
none_dropped n (HostV h) s = refl
none_dropped n (DetectorV v) s = refl
none_dropped n AbsentV s = refl

pub sum_nothing : (n : ShapeNumbers) (parts : List PartView) → ((p : ℕ) → p < length parts → StartsSo n (get_or parts p AbsentV)) → sum_by dropped_on parts ≡ 0
sum_nothing n [] h = refl
sum_nothing n (x ∷ xs) h =
    let c = sum_by-cons dropped_on x xs in
    let a = none_dropped n x (h 0 (omega arith)) in
    let b = sum_nothing n xs (λ p below. h (suc p) (omega arith)) in
    omega arith
