-- From place to place of tiles: along X first, then along Y.
use Rattle.std.proofs.Common.{ℕ, ◌+◌, ◌-◌, ◌*◌, ◌<◌, ◌≤◌, ◌≡◌, refl, sym, ◌∙◌, ap, subst, inl, inr, arith, cond, true, List}
use Rattle.std.specs.List.{AllByRecursion}
use Rattle.std.proofs.lemmas.Bool.{cases_lt, le-ltb}
use Rattle.tn_base.specs.declared.ids.Board.{Board}
use Rattle.tn_base.specs.declared.message.Dest.TheVariants as dest
use Rattle.tn_base.specs.declared.port.Port.{Port}
use Rattle.tn_base.specs.declared.port.Port.TheVariants as port
use Rattle.tn_base.specs.declared.shape.ShapeNumbers.{ShapeNumbers}
use Rattle.tn_base.specs.Ports.{tile_x, tile_y, toward}
use Rattle.tn_keys.specs.Tables.{Table}
use Rattle.tn_ways.proofs.Hops.{toward_east, toward_north, toward_south, toward_west}
use Rattle.polite_flow.specs.Flow.{Out, To}
use Rattle.polite_flow.specs.OnWay.{Fits, Lands, Rises}
use Rattle.polite_flow.specs.Places.{Item, Bound, Due, Tile, Place, TileWaits, becomes, is_board_of, landing, onward, out_by, rising, tile_way}
use Rattle.polite_flow.specs.Ranks.{rank, span}

-- the next place is of smaller rank, and takes what comes
pub record IsStep (n : ShapeNumbers) (tables : List Table) (p q : Place) (k : Item) : Type 0 where
  pub falls : rank n q < rank n p
  pub fits : AllByRecursion (Fits n tables q) (becomes n tables q k)

pub to_is : (p q : Place) → To p ≡ To q → q ≡ p
to_is p q e = cc

pub not_out : {A : Type 0} (q : Place) → Out ≡ To q → A
not_out q e = cc

pub moved : (n : ShapeNumbers) (tables : List Table) (p q z : Place) (k : Item) → To z ≡ To q → IsStep n tables p z k → IsStep n tables p q k
moved n tables p q z k e s = subst (λ x. IsStep n tables p x k) (sym (to_is z q e)) s

-- ---- toward the router

pub data Rising (x y : ℕ) (stop : Port) : Type 0 where
  goes_west : (left : 0 < x) (is : toward x y 0 0 stop ≡ port.West) → Rising x y stop
  goes_north : (at : x ≡ 0) (above : 0 < y) (is : toward x y 0 0 stop ≡ port.North) → Rising x y stop
  goes_up : (at : x ≡ 0) (too : y ≡ 0) (is : toward x y 0 0 stop ≡ stop) → Rising x y stop

toward_here : (x y u v : ℕ) (stop : Port) → x ≡ u → y ≡ v → toward x y u v stop ≡ stop
toward_here x y u v stop e f = rw (le-ltb x u (omega arith), le-ltb u x (omega arith), le-ltb y v (omega arith), le-ltb v y (omega arith)) refl

pub rising_of : (x y : ℕ) (stop : Port) → Rising x y stop
rising_of x y stop = elim (cases_lt 0 x) [
  | inl some ↦ goes_west some (toward_west x y 0 0 stop some)
  | inr none ↦ elim (cases_lt 0 y) [
    | inl some ↦ goes_north (omega arith) some (toward_north x y 0 0 stop (omega arith) some)
    | inr too ↦ goes_up (omega arith) (omega arith) (toward_here x y 0 0 stop (omega arith) (omega arith))
  ]
]

rises_way : (n : ShapeNumbers) (tables : List Table) (b : Board) (P : Type 0) (t : Tile) (k : Item) → Rises n tables b P k → tile_way t k ≡ rising t
rises_way n tables b P t (Bound (dest.Thread a)) r = absurd r
rises_way n tables b P t (Bound dest.Host) r = refl
rises_way n tables b P t (Bound (dest.Mask tile mask)) r = absurd r
rises_way n tables b P t (Bound (dest.Key key)) r = refl
rises_way n tables b P t (Due r) f = absurd f

pub rises_fact : (n : ShapeNumbers) (tables : List Table) (b : Board) (P : Type 0) (k : Item) → Rises n tables b P k → P
rises_fact n tables b P (Bound (dest.Thread a)) r = absurd r
rises_fact n tables b P (Bound dest.Host) r = r.1
rises_fact n tables b P (Bound (dest.Mask tile mask)) r = absurd r
rises_fact n tables b P (Bound (dest.Key key)) r = r.1
rises_fact n tables b P (Due r) f = absurd f

pub rises_with : (n : ShapeNumbers) (tables : List Table) (b : Board) (P Q : Type 0) (k : Item) → Rises n tables b P k → Q → Rises n tables b Q k
rises_with n tables b P Q (Bound (dest.Thread a)) r q = absurd r
rises_with n tables b P Q (Bound dest.Host) r q = (r.0, q)
rises_with n tables b P Q (Bound (dest.Mask tile mask)) r q = absurd r
rises_with n tables b P Q (Bound (dest.Key key)) r q = (r.0, q)
rises_with n tables b P Q (Due r) f q = absurd f

pub rise : (n : ShapeNumbers) (tables : List Table) (p q : Place) (k : Item) (t : Tile) (P : Type 0) → Rises n tables t.board P k → t.x < n.tiles_x → t.y < n.tiles_y
    → (0 < t.x → 9 * span n + 3 * t.x < rank n p) → (t.x ≡ 0 → 0 < t.y → 8 * span n + 3 * t.y < rank n p) → (t.x ≡ 0 → t.y ≡ 0 → 7 * span n + 3 < rank n p) → onward t k ≡ To q → IsStep n tables p q k
rise n tables p q k t P r lx ly west north up h = by (rising_of t.x t.y port.Up) where
  way : out_by t (rising t) ≡ To q
  way = ap (λ w. out_by t w) (sym (rises_way n tables t.board P t k r)) ∙ h

  by : Rising t.x t.y port.Up → IsStep n tables p q k
  by (goes_west some is) = moved n tables p q (TileWaits t port.West) k (sym (ap (λ w. out_by t w) is) ∙ way) (record { falls = west some; fits = (rises_with n tables t.board P _ k r (some, lx, ly), tt) })
  by (goes_north at some is) = moved n tables p q (TileWaits t port.North) k (sym (ap (λ w. out_by t w) is) ∙ way) (record { falls = north at some; fits = (rises_with n tables t.board P _ k r (at, some, ly), tt) })
  by (goes_up at too is) = moved n tables p q (TileWaits t port.Up) k (sym (ap (λ w. out_by t w) is) ∙ way) (record { falls = up at too; fits = (rises_with n tables t.board P _ k r (at, too), tt) })

-- ---- toward a tile

pub data Landing (x y u v : ℕ) : Type 0 where
  goes_east : (more : x < u) (is : toward x y u v port.Here ≡ port.East) → Landing x y u v
  goes_south : (at : x ≡ u) (more : y < v) (is : toward x y u v port.Here ≡ port.South) → Landing x y u v
  stays : (is : toward x y u v port.Here ≡ port.Here) → Landing x y u v

landing_of : (x y u v : ℕ) → x ≤ u → y ≤ v → Landing x y u v
landing_of x y u v lx ly = elim (cases_lt x u) [
  | inl more ↦ goes_east more (toward_east x y u v port.Here more)
  | inr none ↦ elim (cases_lt y v) [
    | inl more ↦ goes_south (omega arith) more (toward_south x y u v port.Here (omega arith) more)
    | inr too ↦ stays (toward_here x y u v port.Here (omega arith) (omega arith))
  ]
]

lands_fact : (b : Board) (Q : ℕ → ℕ → Type 0) (k : Item) (R : Type 0) → Lands b Q k → ((x y : ℕ) → Q x y → R) → R
lands_fact b Q (Bound (dest.Thread a)) R f use_it = absurd f
lands_fact b Q (Bound dest.Host) R f use_it = absurd f
lands_fact b Q (Bound (dest.Mask tile mask)) R f use_it = use_it (tile_x tile.0) (tile_y tile.0) f.1
lands_fact b Q (Bound (dest.Key key)) R f use_it = absurd f
lands_fact b Q (Due r) R f use_it = absurd f

pub some_left : (b : Board) (Q : ℕ → ℕ → Type 0) (k : Item) (lo hi : ℕ) → Lands b Q k → ((x y : ℕ) → Q x y → lo < hi) → lo < hi
some_left b Q k lo hi f e = lands_fact b Q k (lo < hi) f e

-- how a packet that is to land at x y lands from a tile
land_at : (n : ShapeNumbers) (tables : List Table) (p q : Place) (t : Tile) (tile : ℕ) (mask : ℕ) → is_board_of t.board tile ≡ true → tile_x tile < n.tiles_x → tile_y tile < n.tiles_y → t.x ≤ tile_x tile → t.y ≤ tile_y tile
    → (t.x < tile_x tile → 2 * span n + 3 * (n.tiles_x - 1 - t.x) < rank n p) → (t.x ≡ tile_x tile → t.y < tile_y tile → 1 * span n + 3 * (n.tiles_y - 1 - t.y) < rank n p)
    → out_by t (landing t tile) ≡ To q → IsStep n tables p q (Bound (dest.Mask (record { 0 = tile }) mask))
land_at n tables p q t tile mask on lu lv lx ly east south h = by (landing_of t.x t.y (tile_x tile) (tile_y tile) lx ly) where
  way : out_by t (toward t.x t.y (tile_x tile) (tile_y tile) port.Here) ≡ To q
  way = sym (ap (λ c. out_by t (cond c (toward t.x t.y (tile_x tile) (tile_y tile) port.Here) (rising t))) on) ∙ h

  by : Landing t.x t.y (tile_x tile) (tile_y tile) → IsStep n tables p q (Bound (dest.Mask (record { 0 = tile }) mask))
  by (goes_east more is) = moved n tables p q (TileWaits t port.East) _ (sym (ap (λ w. out_by t w) is) ∙ way) (record { falls = east more; fits = ((on, (more, lu, ly, lv)), tt) })
  by (goes_south at more is) = moved n tables p q (TileWaits t port.South) _ (sym (ap (λ w. out_by t w) is) ∙ way) (record { falls = south at more; fits = ((on, (at, lu, more, lv)), tt) })
  by (stays is) = not_out q (sym (ap (λ w. out_by t w) is) ∙ way)

pub land : (n : ShapeNumbers) (tables : List Table) (p q : Place) (t : Tile) (Q : ℕ → ℕ → Type 0) (k : Item) → Lands t.board Q k
    → ((x y : ℕ) → Q x y → (x < n.tiles_x) × (y < n.tiles_y) × (t.x ≤ x) × (t.y ≤ y) × (t.x < x → 2 * span n + 3 * (n.tiles_x - 1 - t.x) < rank n p) × (t.x ≡ x → t.y < y → 1 * span n + 3 * (n.tiles_y - 1 - t.y) < rank n p))
    → onward t k ≡ To q → IsStep n tables p q k
land n tables p q t Q (Bound (dest.Thread a)) f e h = absurd f
land n tables p q t Q (Bound dest.Host) f e h = absurd f
land n tables p q t Q (Bound (dest.Mask tile mask)) f e h =
    let i = e (tile_x tile.0) (tile_y tile.0) f.1 in
    land_at n tables p q t tile.0 mask f.0 i.0 i.1 i.2 i.3 i.4 i.5 h
land n tables p q t Q (Bound (dest.Key key)) f e h = absurd f
land n tables p q t Q (Due r) f e h = absurd f
