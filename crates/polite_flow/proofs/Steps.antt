-- From each place a packet on its way goes to a place of smaller rank.
use Rattle.std.proofs.Common.{ℕ, ◌+◌, ◌<◌, ◌≤◌, ◌≡◌, refl, arith, false, List, [], ◌∷◌, length}
use Rattle.std.specs.Prelude.{nat_lt}
use Rattle.std.proofs.lemmas.Bool.{ltb-false}
use Rattle.tn_base.specs.declared.ids.Board.{Board}
use Rattle.tn_base.specs.declared.message.Dest.TheVariants as dest
use Rattle.tn_base.specs.declared.port.Port.{Port}
use Rattle.tn_base.specs.declared.port.Port.TheVariants as port
use Rattle.tn_base.specs.declared.shape.ShapeNumbers.{ShapeNumbers}
use Rattle.tn_base.specs.Shape.{WithinLimits}
use Rattle.tn_keys.specs.Tables.{Table}
use Rattle.polite_flow.specs.Flow.{To, AreOnWay, IsFree}
use Rattle.polite_flow.specs.Law.{Change, Go, Happens, HasRoutes, Leave, Send}
use Rattle.polite_flow.specs.OnWay.{Fits, GoesOn, RouterFits, TileFits, WorkFits}
use Rattle.polite_flow.specs.Places.{Item, Bound, Due, Tile, Place, Pending, RouterLink, RouterWaits, TileLink, TileWaits, Works, first_tile, next, opposite, room_at, router_way, tile_beyond}
use Rattle.polite_flow.specs.Ranks.{net_of, rank}
use Rattle.polite_flow.proofs.Descent.{Full, descent, enters_keeps, goes_keeps, leaves_keeps}
use Rattle.polite_flow.proofs.Routers.{beyond, comes_up, cross, due, home}
use Rattle.polite_flow.proofs.Tiles.{IsStep, land, moved, not_out, rise, rises_fact, some_left}

-- ---- the places of tiles

tile_waits : (n : ShapeNumbers) (tables : List Table) (t : Tile) (way : Port) (q : Place) (k : Item) → TileFits n tables t way k → To (TileLink t way) ≡ To q → IsStep n tables (TileWaits t way) q k
tile_waits n tables t port.West q k f h =
    let i = rises_fact n tables t.board ((0 < t.x) × (t.x < n.tiles_x) × (t.y < n.tiles_y)) k f in
    let some = i.0 in
    moved n tables (TileWaits t port.West) q (TileLink t port.West) k h (record { falls = omega arith; fits = (f, tt) })
tile_waits n tables t port.North q k f h =
    let i = rises_fact n tables t.board ((t.x ≡ 0) × (0 < t.y) × (t.y < n.tiles_y)) k f in
    let some = i.1 in
    moved n tables (TileWaits t port.North) q (TileLink t port.North) k h (record { falls = omega arith; fits = (f, tt) })
tile_waits n tables t port.Up q k f h = moved n tables (TileWaits t port.Up) q (TileLink t port.Up) k h (record { falls = omega arith; fits = (f, tt) })
tile_waits n tables t port.East q k f h =
    let some = some_left t.board (λ x y. (t.x < x) × (x < n.tiles_x) × (t.y ≤ y) × (y < n.tiles_y)) k (t.x + 1) n.tiles_x f (λ x y i. (let a = i.0 in let b = i.1 in omega arith)) in
    moved n tables (TileWaits t port.East) q (TileLink t port.East) k h (record { falls = omega arith; fits = (f, tt) })
tile_waits n tables t port.South q k f h =
    let some = some_left t.board (λ x y. (t.x ≡ x) × (x < n.tiles_x) × (t.y < y) × (y < n.tiles_y)) k (t.y + 1) n.tiles_y f (λ x y i. (let a = i.2 in let b = i.3 in omega arith)) in
    moved n tables (TileWaits t port.South) q (TileLink t port.South) k h (record { falls = omega arith; fits = (f, tt) })
tile_waits n tables t port.Down q k f h = absurd f
tile_waits n tables t port.HostPort q k f h = absurd f
tile_waits n tables t port.Here q k f h = absurd f

tile_link : (n : ShapeNumbers) (tables : List Table) (t : Tile) (way : Port) (q : Place) (k : Item) → HasRoutes n tables → TileFits n tables t way k → next n (TileLink t way) k ≡ To q → IsStep n tables (TileLink t way) q k
tile_link n tables t port.West q k g f h =
    let i = rises_fact n tables t.board ((0 < t.x) × (t.x < n.tiles_x) × (t.y < n.tiles_y)) k f in
    let some = i.0 in
    let lx = i.1 in
    let ly = i.2 in
    rise n tables (TileLink t port.West) q k (tile_beyond t port.West) ((0 < t.x) × (t.x < n.tiles_x) × (t.y < n.tiles_y)) f (omega arith) ly (λ l. omega arith) (λ e l. omega arith) (λ e z. omega arith) h
tile_link n tables t port.North q k g f h =
    let i = rises_fact n tables t.board ((t.x ≡ 0) × (0 < t.y) × (t.y < n.tiles_y)) k f in
    let at = i.0 in
    let some = i.1 in
    let ly = i.2 in
    let wide = g.limits.tiles_x.0 in
    rise n tables (TileLink t port.North) q k (tile_beyond t port.North) ((t.x ≡ 0) × (0 < t.y) × (t.y < n.tiles_y)) f (omega arith) (omega arith) (λ l. absurd (omega arith)) (λ e l. omega arith) (λ e z. omega arith) h
tile_link n tables t port.Up q k g f h =
    moved n tables (TileLink t port.Up) q (Works t.board port.Up) k h (record { falls = omega arith; fits = comes_up n tables t.board ((t.x ≡ 0) × (t.y ≡ 0)) k g.directed f })
tile_link n tables t port.East q k g f h =
    land n tables (TileLink t port.East) q (tile_beyond t port.East) (λ x y. (t.x < x) × (x < n.tiles_x) × (t.y ≤ y) × (y < n.tiles_y)) k f
    (λ x y i. (let a = i.0 in let b = i.1 in (i.1, i.3, omega arith, i.2, λ l. omega arith, λ e l. omega arith))) h
tile_link n tables t port.South q k g f h =
    land n tables (TileLink t port.South) q (tile_beyond t port.South) (λ x y. (t.x ≡ x) × (x < n.tiles_x) × (t.y < y) × (y < n.tiles_y)) k f
    (λ x y i. (let a = i.0 in let b = i.2 in let c = i.3 in (i.1, i.3, omega arith, omega arith, λ l. absurd (omega arith), λ e l. omega arith))) h
tile_link n tables t port.Down q k g f h = absurd f
tile_link n tables t port.HostPort q k g f h = absurd f
tile_link n tables t port.Here q k g f h = absurd f

-- ---- the places of routers

works : (n : ShapeNumbers) (tables : List Table) (b : Board) (side : Port) (q : Place) (k : Item) → WithinLimits n → WorkFits n tables b (opposite side) k → To (RouterWaits b (router_way b k)) ≡ To q → IsStep n tables (Works b side) q k
works n tables b side q (Bound (dest.Thread t)) limits f h = absurd f
works n tables b side q (Bound dest.Host) limits f h = home n tables b side q f.0 f.1 h
works n tables b side q (Bound (dest.Mask tile mask)) limits f h = absurd f
works n tables b side q (Bound (dest.Key key)) limits f h = absurd f
works n tables b side q (Due r) limits f h = due n tables b side q r limits f h

router_waits : (n : ShapeNumbers) (tables : List Table) (b : Board) (way : Port) (q : Place) (k : Item) → RouterFits n tables b way k → To (RouterLink b way) ≡ To q → IsStep n tables (RouterWaits b way) q k
router_waits n tables b port.East q k f h =
    let i = beyond n (GoesOn n tables port.East k) b port.East f in
    let less = i.ahead in
    moved n tables (RouterWaits b port.East) q (RouterLink b port.East) k h (record { falls = omega arith; fits = (f, tt) })
router_waits n tables b port.West q k f h =
    let i = beyond n (GoesOn n tables port.West k) b port.West f in
    let less = i.ahead in
    moved n tables (RouterWaits b port.West) q (RouterLink b port.West) k h (record { falls = omega arith; fits = (f, tt) })
router_waits n tables b port.South q k f h =
    let i = beyond n (GoesOn n tables port.South k) b port.South f in
    let less = i.ahead in
    moved n tables (RouterWaits b port.South) q (RouterLink b port.South) k h (record { falls = omega arith; fits = (f, tt) })
router_waits n tables b port.North q k f h =
    let i = beyond n (GoesOn n tables port.North k) b port.North f in
    let less = i.ahead in
    moved n tables (RouterWaits b port.North) q (RouterLink b port.North) k h (record { falls = omega arith; fits = (f, tt) })
router_waits n tables b port.Down q k f h = moved n tables (RouterWaits b port.Down) q (RouterLink b port.Down) k h (record { falls = omega arith; fits = (f, tt) })
router_waits n tables b port.HostPort q k f h = moved n tables (RouterWaits b port.HostPort) q (RouterLink b port.HostPort) k h (record { falls = omega arith; fits = (f, tt) })
router_waits n tables b port.Up q k f h = absurd f
router_waits n tables b port.Here q k f h = absurd f

router_link : (n : ShapeNumbers) (tables : List Table) (b : Board) (way : Port) (q : Place) (k : Item) → HasRoutes n tables → RouterFits n tables b way k → next n (RouterLink b way) k ≡ To q → IsStep n tables (RouterLink b way) q k
router_link n tables b port.East q k g f h =
    let i = beyond n (GoesOn n tables port.East k) b port.East f in
    let less = i.ahead in
    cross n tables (RouterLink b port.East) q b port.East port.West k g.directed i refl tt (omega arith) h
router_link n tables b port.West q k g f h =
    let i = beyond n (GoesOn n tables port.West k) b port.West f in
    let less = i.ahead in
    cross n tables (RouterLink b port.West) q b port.West port.East k g.directed i refl tt (omega arith) h
router_link n tables b port.South q k g f h =
    let i = beyond n (GoesOn n tables port.South k) b port.South f in
    let less = i.ahead in
    cross n tables (RouterLink b port.South) q b port.South port.North k g.directed i refl tt (omega arith) h
router_link n tables b port.North q k g f h =
    let i = beyond n (GoesOn n tables port.North k) b port.North f in
    let less = i.ahead in
    cross n tables (RouterLink b port.North) q b port.North port.South k g.directed i refl tt (omega arith) h
router_link n tables b port.Down q k g f h =
    land n tables (RouterLink b port.Down) q (first_tile b) (λ x y. (x < n.tiles_x) × (y < n.tiles_y)) k f
    (λ x y i. (i.0, i.1, omega arith, omega arith, λ l. omega arith, λ e l. omega arith)) h
router_link n tables b port.HostPort q k g f h = not_out q h
router_link n tables b port.Up q k g f h = absurd f
router_link n tables b port.Here q k g f h = absurd f

-- ---- every place

pub steps : (n : ShapeNumbers) (tables : List Table) (p q : Place) (k : Item) → HasRoutes n tables → Fits n tables p k → next n p k ≡ To q → IsStep n tables p q k
steps n tables (Pending t thread) q k g f h =
    let i = rises_fact n tables t.board ((t.x < n.tiles_x) × (t.y < n.tiles_y)) k f in
    let lx = i.0 in
    let ly = i.1 in
    rise n tables (Pending t thread) q k t ((t.x < n.tiles_x) × (t.y < n.tiles_y)) f lx ly (λ l. omega arith) (λ e l. omega arith) (λ e z. omega arith) h
steps n tables (TileWaits t way) q k g f h = tile_waits n tables t way q k f h
steps n tables (TileLink t way) q k g f h = tile_link n tables t way q k g f h
steps n tables (Works b side) q k g f h = works n tables b side q k g.limits f h
steps n tables (RouterWaits b way) q k g f h = router_waits n tables b way q k f h
steps n tables (RouterLink b way) q k g f h = router_link n tables b way q k g f h

-- ---- the laws

room_some : (n : ShapeNumbers) (p : Place) → WithinLimits n → 0 < room_at n p
room_some n (Pending t thread) l = omega arith
room_some n (TileWaits t way) l = omega arith
room_some n (TileLink t way) l = l.link.0
room_some n (Works b side) l = omega arith
room_some n (RouterWaits b way) l = omega arith
room_some n (RouterLink b way) l = l.link.0

-- a full place is not empty
full_of : (room : ℕ) (ks : List Item) → 0 < room → nat_lt (length ks) room ≡ false → Full ks
full_of room [] some h = let l = ltb-false 0 room h in absurd (omega arith)
full_of room (k ∷ ks) some h = record { first = k; rest = ks; is = refl }

pub keeps : (n : ShapeNumbers) (tables : List Table) (c : Change) (old new : Place → List Item) → HasRoutes n tables → AreOnWay (Fits n tables) old → Happens n tables c old new → AreOnWay (Fits n tables) new
keeps n tables (Send t thread k) old new g on h = enters_keeps (Fits n tables) (Pending t thread) k old new on h.1 h.0
keeps n tables (Leave p) old new g on h = leaves_keeps (net_of n tables) (Fits n tables) p old new on h
keeps n tables (Go p q) old new g on h = goes_keeps (net_of n tables) (Fits n tables) (λ p q k f w. (steps n tables p q k g f w).fits) p q old new on h

pub fall : (n : ShapeNumbers) (tables : List Table) (p q : Place) (k : Item) → HasRoutes n tables → Fits n tables p k → next n p k ≡ To q → rank n q < rank n p
fall n tables p q k g f h = (steps n tables p q k g f h).falls

pub free : (n : ShapeNumbers) (tables : List Table) (w : Place → List Item) (p : Place) (k : Item) (ks : List Item) → HasRoutes n tables → AreOnWay (Fits n tables) w → w p ≡ k ∷ ks → IsFree (net_of n tables) w
free n tables w p k ks g on is =
    descent (net_of n tables) (Fits n tables) w (λ q xs h. full_of (room_at n q) xs (room_some n q g.limits) h) (λ p q k f h. fall n tables p q k g f h) on (rank n p + 1) p k ks (omega arith) is
