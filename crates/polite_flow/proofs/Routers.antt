-- In routers and between them: along X first, then along Y.
use Rattle.std.proofs.Common.{ℕ, zero, suc, ◌+◌, ◌-◌, ◌*◌, ◌/◌, ◌%◌, ◌<◌, ◌≡◌, ◌≢◌, ◌==◌, ◌&&◌, Bool, true, false, refl, sym, ◌∙◌, ap, subst, arith, cond, List, [], ◌∷◌, map}
use Rattle.std.specs.Prelude.{nat_lt, Option, Some, None}
use Rattle.std.specs.List.{AllByRecursion}
use Rattle.std.proofs.lemmas.Bool.{and_parts, eq-eqb, lt-ltb, ltb-true}
use Rattle.tn_base.specs.declared.ids.Board.{Board}
use Rattle.tn_base.specs.declared.message.Dest.TheVariants as dest
use Rattle.tn_base.specs.declared.port.Port.{Port}
use Rattle.tn_base.specs.declared.port.Port.TheVariants as port
use Rattle.tn_base.specs.declared.shape.ShapeNumbers.{ShapeNumbers}
use Rattle.tn_base.specs.Ports.{board_x, board_y, tile_x, tile_y, toward}
use Rattle.tn_base.specs.Shape.{WithinLimits}
use Rattle.tn_keys.specs.declared.record.RouteRec.{RouteRec}
use Rattle.tn_keys.specs.declared.record.RouteRec.TheVariants.{Urm1, Urm2, Rr, Mrm, Ind}
use Rattle.tn_keys.specs.Copies.{neighbour, tile_address}
use Rattle.tn_keys.specs.Tables.{HasBoard, Table, records_of}
use Rattle.tn_router.specs.Left.{board_on}
use Rattle.tn_router.specs.Moves.{way_of}
use Rattle.polite_routes.specs.Straight.{At, Straight, StraightRecord, StraightRecords, may}
use Rattle.polite_flow.specs.Flow.{To}
use Rattle.polite_flow.specs.OnWay.{AreDirected, DueFits, GoesOn, IsDirected, IsHomeward, IsRouted, IsWorkWay, Rises, RouterFits, WorkFits, direction}
use Rattle.polite_flow.specs.Places.{Item, Bound, Due, Place, RouterWaits, Works, into, opposite, way_by, works_at}
use Rattle.polite_flow.specs.Ranks.{boards_ahead, rank, router_group, span}
use Rattle.polite_flow.proofs.Tiles.{IsStep, Rising, goes_north, goes_up, goes_west, moved, rising_of}

-- ---- boards beyond

-- the next board in a direction is there, and nearer to the end of the mesh
pub record IsBeyond (n : ShapeNumbers) (P : Board → Type 0) (b : Board) (way : Port) : Type 0 where
  pub board : Board
  pub is : board_on n b way ≡ Some board
  pub has : P board
  pub ahead : boards_ahead n board way + 1 ≡ boards_ahead n b way
  pub on : HasBoard n b → HasBoard n board

beyond_by : (n : ShapeNumbers) (P : Board → Type 0) (b : Board) (way : Port) (there : Bool) (c : Board) → board_on n b way ≡ cond there (Some c) None → (there ≡ true → boards_ahead n c way + 1 ≡ boards_ahead n b way)
    → (there ≡ true → HasBoard n b → HasBoard n c) → At P (cond there (Some c) None) → IsBeyond n P b way
beyond_by n P b way true c is ahead on a = record { board = c; is = is; has = a; ahead = ahead refl; on = on refl }
beyond_by n P b way false c is ahead on a = absurd a

pub beyond : (n : ShapeNumbers) (P : Board → Type 0) (b : Board) (way : Port) → At P (board_on n b way) → IsBeyond n P b way
beyond n P b port.East a = beyond_by n P b port.East (nat_lt (b.x + 1) n.boards_x) (record { x = b.x + 1; y = b.y }) refl
    (λ t. let l = ltb-true (b.x + 1) n.boards_x t in omega arith) (λ t h. (ltb-true (b.x + 1) n.boards_x t, h.1)) a
beyond n P b port.West a = beyond_by n P b port.West (nat_lt 0 b.x) (record { x = b.x - 1; y = b.y }) refl
    (λ t. let l = ltb-true 0 b.x t in omega arith) (λ t h. (let x = h.0 in omega arith, h.1)) a
beyond n P b port.South a = beyond_by n P b port.South (nat_lt (b.y + 1) n.boards_y) (record { x = b.x; y = b.y + 1 }) refl
    (λ t. let l = ltb-true (b.y + 1) n.boards_y t in omega arith) (λ t h. (h.0, ltb-true (b.y + 1) n.boards_y t)) a
beyond n P b port.North a = beyond_by n P b port.North (nat_lt 0 b.y) (record { x = b.x; y = b.y - 1 }) refl
    (λ t. let l = ltb-true 0 b.y t in omega arith) (λ t h. (h.0, let y = h.1 in omega arith)) a
beyond n P b port.Up a = absurd a
beyond n P b port.Down a = absurd a
beyond n P b port.HostPort a = absurd a
beyond n P b port.Here a = absurd a

at_with : (P Q : Board → Type 0) (o : Option Board) → ((c : Board) → P c → Q c) → At P o → At Q o
at_with P Q None f a = absurd a
at_with P Q (Some c) f a = f c a

at_is : (P : Board → Type 0) (o : Option Board) (c : Board) → o ≡ Some c → P c → At P o
at_is P o c e p = subst (λ x. At P x) (sym e) p

-- ---- into a router

record_with : (on with : ℕ → Board → ℕ → Type 0) (n : ShapeNumbers) (last : ℕ) (b : Board) (r : RouteRec) → ((dir : ℕ) (c : Board) (key : ℕ) → on dir c key → with dir c key) → StraightRecord on n last b r → StraightRecord with n last b r
record_with on with n last b (Urm1 tile thread key) f s = absurd s
record_with on with n last b (Urm2 tile thread key) f s = absurd s
record_with on with n last b (Rr dir key) f s = (s.0, at_with (λ c. on dir c key) (λ c. with dir c key) (neighbour n dir b) (λ c. f dir c key) s.1)
record_with on with n last b (Mrm tile key mask) f s = s
record_with on with n last b (Ind key) f s = absurd s

due_list : (n : ShapeNumbers) (tables : List Table) (way : Port) (b : Board) (on : ℕ → Board → ℕ → Type 0) (rs : List RouteRec) → ((dir : ℕ) (c : Board) (key : ℕ) → on dir c key → IsRouted n tables dir c key)
    → HasBoard n b → IsWorkWay way → AllByRecursion IsDirected rs → StraightRecords on n (direction way) b rs → AllByRecursion (WorkFits n tables b way) (map Due rs)
due_list n tables way b on [] f h work d s = tt
due_list n tables way b on (r ∷ rs) f h work d s = (
  record { on = h; work = work; directed = d.0; straight = record_with on (λ dir c key. IsRouted n tables dir c key) n (direction way) b r f s.0 },
  due_list n tables way b on rs f h work d.1 s.1,
)

due_by : (most : ℕ) (n : ShapeNumbers) (tables : List Table) (way : Port) (b : Board) (key : ℕ) → HasBoard n b → IsWorkWay way → AllByRecursion IsDirected (records_of n tables b key)
    → Straight most n tables (direction way) b key → AllByRecursion (WorkFits n tables b way) (map Due (records_of n tables b key))
due_by zero n tables way b key h work d s = due_list n tables way b (λ l c k. ⊥) (records_of n tables b key) (λ l c k x. absurd x) h work d s.1
due_by (suc m) n tables way b key h work d s = due_list n tables way b (Straight m n tables) (records_of n tables b key) (λ l c k x. record { most = m; straight = x }) h work d s.1

-- what comes to a router fits: each copy of a key, and a packet to the host
pub comes : (n : ShapeNumbers) (tables : List Table) (way : Port) (b : Board) (k : Item) → AreDirected n tables → IsWorkWay way → GoesOn n tables way k b → AllByRecursion (WorkFits n tables b way) (works_at n tables b k)
comes n tables way b (Bound (dest.Thread t)) d work g = absurd g
comes n tables way b (Bound dest.Host) d work g = (g, tt)
comes n tables way b (Bound (dest.Mask tile mask)) d work g = absurd g
comes n tables way b (Bound (dest.Key key)) d work g = due_by g.1.most n tables way b key g.0 work (d b key g.0) g.1.straight
comes n tables way b (Due r) d work g = absurd g

pub comes_up : (n : ShapeNumbers) (tables : List Table) (b : Board) (P : Type 0) (k : Item) → AreDirected n tables → Rises n tables b P k → AllByRecursion (WorkFits n tables b port.Up) (works_at n tables b k)
comes_up n tables b P (Bound (dest.Thread t)) d r = absurd r
comes_up n tables b P (Bound dest.Host) d r = ((r.0, tt), tt)
comes_up n tables b P (Bound (dest.Mask tile mask)) d r = absurd r
comes_up n tables b P (Bound (dest.Key key)) d r = due_by r.0.1.most n tables port.Up b key r.0.0 tt (d b key r.0.0) r.0.1.straight
comes_up n tables b P (Due r) d f = absurd f

-- the link between routers
pub cross : (n : ShapeNumbers) (tables : List Table) (p q : Place) (b : Board) (way side : Port) (k : Item) → AreDirected n tables → (i : IsBeyond n (GoesOn n tables way k) b way)
    → opposite side ≡ way → IsWorkWay way → router_group way * span n + (3 * boards_ahead n i.board way + 1) < rank n p → into side (board_on n b way) ≡ To q → IsStep n tables p q k
cross n tables p q b way side k d i e work less h =
    moved n tables p q (Works i.board side) k (sym (ap (λ o. into side o) i.is) ∙ h) (record {
      falls = subst (λ w. router_group w * span n + (3 * boards_ahead n i.board w + 1) < rank n p) (sym e) less;
      fits = subst (λ w. AllByRecursion (WorkFits n tables i.board w) (works_at n tables i.board k)) (sym e) (comes n tables way i.board k d work i.has);
    })

-- ---- out of a router

clash : {A : Type 0} → false ≡ true → A
clash h = cc

-- the way that a packet came allows the way on
pub turn_falls : (n : ShapeNumbers) (b : Board) (from way : Port) → HasBoard n b → IsWorkWay from → IsWorkWay way → may (direction from) (direction way) ≡ true → way ≢ port.Up
    → router_group way * span n + 3 * boards_ahead n b way < router_group from * span n + (3 * boards_ahead n b from + 1)
turn_falls n b port.Up port.East h f w m u = let x = h.0 in omega arith
turn_falls n b port.Up port.West h f w m u = let x = h.0 in omega arith
turn_falls n b port.Up port.South h f w m u = let y = h.1 in omega arith
turn_falls n b port.Up port.North h f w m u = let y = h.1 in omega arith
turn_falls n b port.East port.East h f w m u = omega arith
turn_falls n b port.East port.West h f w m u = clash m
turn_falls n b port.East port.South h f w m u = let y = h.1 in omega arith
turn_falls n b port.East port.North h f w m u = let y = h.1 in omega arith
turn_falls n b port.West port.East h f w m u = clash m
turn_falls n b port.West port.West h f w m u = omega arith
turn_falls n b port.West port.South h f w m u = let y = h.1 in omega arith
turn_falls n b port.West port.North h f w m u = let y = h.1 in omega arith
turn_falls n b port.South port.East h f w m u = clash m
turn_falls n b port.South port.West h f w m u = clash m
turn_falls n b port.South port.South h f w m u = omega arith
turn_falls n b port.South port.North h f w m u = clash m
turn_falls n b port.North port.East h f w m u = clash m
turn_falls n b port.North port.West h f w m u = clash m
turn_falls n b port.North port.South h f w m u = clash m
turn_falls n b port.North port.North h f w m u = omega arith
turn_falls n b from port.Up h f w m u = absurd (u refl)
turn_falls n b from port.Down h f w m u = absurd w
turn_falls n b from port.HostPort h f w m u = absurd w
turn_falls n b from port.Here h f w m u = absurd w
turn_falls n b port.Down way h f w m u = absurd f
turn_falls n b port.HostPort way h f w m u = absurd f
turn_falls n b port.Here way h f w m u = absurd f

pub last_falls : (n : ShapeNumbers) (b : Board) (from : Port) → IsWorkWay from → 3 * span n + 3 < router_group from * span n + (3 * boards_ahead n b from + 1)
last_falls n b port.Up f = omega arith
last_falls n b port.East f = omega arith
last_falls n b port.West f = omega arith
last_falls n b port.South f = omega arith
last_falls n b port.North f = omega arith
last_falls n b port.Down f = absurd f
last_falls n b port.HostPort f = absurd f
last_falls n b port.Here f = absurd f

home_work : (b : Board) (way : Port) → IsHomeward b way → IsWorkWay way
home_work b port.Up h = tt
home_work b port.West h = tt
home_work b port.North h = tt
home_work b port.East h = absurd h
home_work b port.South h = absurd h
home_work b port.Down h = absurd h
home_work b port.HostPort h = absurd h
home_work b port.Here h = absurd h

home_west : (b : Board) (way : Port) → 0 < b.x → IsHomeward b way → may (direction way) 1 ≡ true
home_west b port.Up some h = refl
home_west b port.West some h = refl
home_west b port.North some h = absurd (omega arith)
home_west b port.East some h = absurd h
home_west b port.South some h = absurd h
home_west b port.Down some h = absurd h
home_west b port.HostPort some h = absurd h
home_west b port.Here some h = absurd h

home_north : (b : Board) (way : Port) → IsHomeward b way → may (direction way) 3 ≡ true
home_north b port.Up h = refl
home_north b port.West h = refl
home_north b port.North h = refl
home_north b port.East h = absurd h
home_north b port.South h = absurd h
home_north b port.Down h = absurd h
home_north b port.HostPort h = absurd h
home_north b port.Here h = absurd h

-- a packet to the host leaves a router
pub home : (n : ShapeNumbers) (tables : List Table) (b : Board) (side : Port) (q : Place) → HasBoard n b → IsHomeward b (opposite side)
    → To (RouterWaits b (toward b.x b.y 0 0 port.HostPort)) ≡ To q → IsStep n tables (Works b side) q (Bound dest.Host)
home n tables b side q on h e = by (rising_of b.x b.y port.HostPort) where
  work : IsWorkWay (opposite side)
  work = home_work b (opposite side) h

  way : (w : Port) → toward b.x b.y 0 0 port.HostPort ≡ w → To (RouterWaits b w) ≡ To q
  way w is = sym (ap (λ v. To (RouterWaits b v)) is) ∙ e

  by : Rising b.x b.y port.HostPort → IsStep n tables (Works b side) q (Bound dest.Host)
  by (goes_west some is) =
      let c : Board = record { x = b.x - 1; y = b.y } in
      let there : board_on n b port.West ≡ Some c = ap (λ t. cond t (Some c) None) (lt-ltb 0 b.x some) in
      let x : b.x - 1 < n.boards_x = (let l = on.0 in omega arith) in
      moved n tables (Works b side) q (RouterWaits b port.West) (Bound dest.Host) (way port.West is) (record {
        falls = turn_falls n b (opposite side) port.West on work tt (home_west b (opposite side) some h) (λ u. cc);
        fits = (at_is (GoesOn n tables port.West (Bound dest.Host)) (board_on n b port.West) c there ((x, on.1), tt), tt);
      })
  by (goes_north at some is) =
      let c : Board = record { x = b.x; y = b.y - 1 } in
      let there : board_on n b port.North ≡ Some c = ap (λ t. cond t (Some c) None) (lt-ltb 0 b.y some) in
      let y : b.y - 1 < n.boards_y = (let l = on.1 in omega arith) in
      moved n tables (Works b side) q (RouterWaits b port.North) (Bound dest.Host) (way port.North is) (record {
        falls = turn_falls n b (opposite side) port.North on work tt (home_north b (opposite side) h) (λ u. cc);
        fits = (at_is (GoesOn n tables port.North (Bound dest.Host)) (board_on n b port.North) c there ((on.0, y), at), tt);
      })
  by (goes_up at too is) =
      moved n tables (Works b side) q (RouterWaits b port.HostPort) (Bound dest.Host) (way port.HostPort is) (record { falls = last_falls n b (opposite side) work; fits = (tt, tt) })

-- a copy for a neighbour leaves a router
by_way : (n : ShapeNumbers) (tables : List Table) (b : Board) (side : Port) (q : Place) (key dir : ℕ) (way : Port) → direction way ≡ dir → way_of dir ≡ way → neighbour n dir b ≡ board_on n b way → IsWorkWay way → way ≢ port.Up
    → (At (GoesOn n tables way (Bound (dest.Key key))) (board_on n b way) → RouterFits n tables b way (Bound (dest.Key key))) → DueFits n tables b (opposite side) (Rr dir key)
    → To (RouterWaits b (way_of dir)) ≡ To q → IsStep n tables (Works b side) q (Due (Rr dir key))
by_way n tables b side q key dir way named is same work none fits f h =
    let s : At (λ c. IsRouted n tables dir c key) (board_on n b way) = subst (λ o. At (λ c. IsRouted n tables dir c key) o) same f.straight.1 in
    let i = beyond n (λ c. IsRouted n tables dir c key) b way s in
    let routed : IsRouted n tables (direction way) i.board key = subst (λ d. IsRouted n tables d i.board key) (sym named) i.has in
    let turn : may (direction (opposite side)) (direction way) ≡ true = ap (λ d. may (direction (opposite side)) d) named ∙ f.straight.0 in
    moved n tables (Works b side) q (RouterWaits b way) (Due (Rr dir key)) (sym (ap (λ w. To (RouterWaits b w)) is) ∙ h) (record {
      falls = turn_falls n b (opposite side) way f.on f.work work turn none;
      fits = (fits (at_is (GoesOn n tables way (Bound (dest.Key key))) (board_on n b way) i.board i.is (i.on f.on, routed)), tt);
    })

four : (P : ℕ → Type 0) → P 0 → P 1 → P 2 → P 3 → (d : ℕ) → d < 4 → P d
four P a b c e zero l = a
four P a b c e (suc zero) l = b
four P a b c e (suc (suc zero)) l = c
four P a b c e (suc (suc (suc zero))) l = e
four P a b c e (suc (suc (suc (suc d)))) l = absurd (omega arith)

-- a copy for threads of the board leaves a router
tile_digits : (b : Board) (tile : ℕ) → b.x < 4 → b.y < 4 → tile < 16 → (board_x (tile_address b tile) ≡ b.x) × (board_y (tile_address b tile) ≡ b.y) × (tile_x (tile_address b tile) ≡ tile % 4) × (tile_y (tile_address b tile) ≡ tile / 4)
tile_digits b tile x y t = (omega arith, omega arith, omega arith, omega arith)

and_true : (x y u v : ℕ) → x ≡ u → y ≡ v → (x == u && y == v) ≡ true
and_true x y u v e f = rw (eq-eqb x u e, eq-eqb y v f) refl

pub down : (n : ShapeNumbers) (tables : List Table) (b : Board) (side : Port) (q : Place) (tile key mask : ℕ) → WithinLimits n → DueFits n tables b (opposite side) (Mrm tile key mask)
    → To (RouterWaits b port.Down) ≡ To q → IsStep n tables (Works b side) q (Due (Mrm tile key mask))
down n tables b side q tile key mask limits f h =
    let place = and_parts (nat_lt (tile % 4) n.tiles_x) (nat_lt (tile / 4) n.tiles_y) f.straight.0 in
    let x = ltb-true (tile % 4) n.tiles_x place.0 in
    let y = ltb-true (tile / 4) n.tiles_y place.1 in
    let bx = limits.boards_x.1 in
    let by = limits.boards_y.1 in
    let ty = limits.tiles_y.1 in
    let onx = f.on.0 in
    let ony = f.on.1 in
    let d = tile_digits b tile (omega arith) (omega arith) (omega arith) in
    let lx : tile_x (tile_address b tile) < n.tiles_x = (let e = d.2 in omega arith) in
    let ly : tile_y (tile_address b tile) < n.tiles_y = (let e = d.3 in omega arith) in
    moved n tables (Works b side) q (RouterWaits b port.Down) (Due (Mrm tile key mask)) h (record {
      falls = last_falls n b (opposite side) f.work;
      fits = ((and_true b.x b.y (board_x (tile_address b tile)) (board_y (tile_address b tile)) (sym d.0) (sym d.1), (lx, ly)), tt);
    })

-- a copy leaves a router
pub due : (n : ShapeNumbers) (tables : List Table) (b : Board) (side : Port) (q : Place) (r : RouteRec) → WithinLimits n → DueFits n tables b (opposite side) r → To (RouterWaits b (way_by r)) ≡ To q → IsStep n tables (Works b side) q (Due r)
due n tables b side q (Urm1 tile thread key) limits f h = absurd f.straight
due n tables b side q (Urm2 tile thread key) limits f h = absurd f.straight
due n tables b side q (Rr dir key) limits f h =
    four (λ d. DueFits n tables b (opposite side) (Rr d key) → To (RouterWaits b (way_of d)) ≡ To q → IsStep n tables (Works b side) q (Due (Rr d key)))
    (by_way n tables b side q key 0 port.East refl refl refl tt (λ u. cc) (λ a. a)) (by_way n tables b side q key 1 port.West refl refl refl tt (λ u. cc) (λ a. a))
    (by_way n tables b side q key 2 port.South refl refl refl tt (λ u. cc) (λ a. a)) (by_way n tables b side q key 3 port.North refl refl refl tt (λ u. cc) (λ a. a)) dir f.directed f h
due n tables b side q (Mrm tile key mask) limits f h = down n tables b side q tile key mask limits f h
due n tables b side q (Ind key) limits f h = absurd f.straight
