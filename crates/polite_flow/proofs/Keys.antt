-- No packet comes to a router by a bad key.
use Rattle.std.proofs.Common.{ℕ, zero, suc, ◌≡◌, false, sym, ◌∙◌, ap, subst, List, length}
use Rattle.tn_base.specs.declared.ids.Board.{Board}
use Rattle.tn_base.specs.declared.message.Dest.TheVariants as dest
use Rattle.tn_base.specs.declared.port.Port.{Port}
use Rattle.tn_base.specs.declared.port.Port.TheVariants as port
use Rattle.tn_base.specs.declared.shape.ShapeNumbers.{ShapeNumbers}
use Rattle.tn_keys.specs.Tables.{Table, is_bad_key, table_of}
use Rattle.tn_router.specs.Left.{board_on}
use Rattle.polite_routes.specs.Straight.{At, Straight}
use Rattle.polite_flow.specs.Flow.{To}
use Rattle.polite_flow.specs.OnWay.{Fits, GoesOn, IsRouted}
use Rattle.polite_flow.specs.Places.{Bound, Tile, Place, Pending, RouterLink, RouterWaits, TileLink, TileWaits, Works, into, next, out_by, rising, tile_beyond}
use Rattle.polite_flow.proofs.Routers.{beyond}

straight_good : (most : ℕ) (n : ShapeNumbers) (tables : List Table) (last : ℕ) (b : Board) (key : ℕ) → Straight most n tables last b key → is_bad_key (length (table_of n tables b)) key ≡ false
straight_good zero n tables last b key s = s.0
straight_good (suc m) n tables last b key s = s.0

good_at : (n : ShapeNumbers) (tables : List Table) (last : ℕ) (a b : Board) (key : ℕ) → a ≡ b → IsRouted n tables last a key → is_bad_key (length (table_of n tables b)) key ≡ false
good_at n tables last a b key e r = subst (λ c. is_bad_key (length (table_of n tables c)) key ≡ false) e (straight_good r.most n tables last a key r.straight)

not_works : {A : Type 0} (t : Tile) (way : Port) (b : Board) (side : Port) → out_by t way ≡ To (Works b side) → A
not_works t port.East b side e = cc
not_works t port.West b side e = cc
not_works t port.South b side e = cc
not_works t port.North b side e = cc
not_works t port.Up b side e = cc
not_works t port.Down b side e = cc
not_works t port.HostPort b side e = cc
not_works t port.Here b side e = cc

same_board : (a b : Board) (s t : Port) → To (Works a s) ≡ To (Works b t) → a ≡ b
same_board a b s t e = cc

crossed : (n : ShapeNumbers) (tables : List Table) (a b : Board) (way from side : Port) (key last : ℕ) → At (GoesOn n tables way (Bound (dest.Key key))) (board_on n a way) → into from (board_on n a way) ≡ To (Works b side) → is_bad_key (length (table_of n tables b)) key ≡ false
crossed n tables a b way from side key last f h =
    let i = beyond n (GoesOn n tables way (Bound (dest.Key key))) a way f in
    let g = i.has in
    good_at n tables _ i.board b key (same_board i.board b from side (sym (ap (λ o. into from o) i.is) ∙ h)) g.1

pub good : (n : ShapeNumbers) (tables : List Table) (p : Place) (b : Board) (side : Port) (key : ℕ) → Fits n tables p (Bound (dest.Key key)) → next n p (Bound (dest.Key key)) ≡ To (Works b side) → is_bad_key (length (table_of n tables b)) key ≡ false
good n tables (Pending t thread) b side key f h = not_works t (rising t) b side h
good n tables (TileWaits t way) b side key f h = cc
good n tables (TileLink t port.East) b side key f h = absurd f
good n tables (TileLink t port.West) b side key f h = not_works (tile_beyond t port.West) (rising (tile_beyond t port.West)) b side h
good n tables (TileLink t port.South) b side key f h = absurd f
good n tables (TileLink t port.North) b side key f h = not_works (tile_beyond t port.North) (rising (tile_beyond t port.North)) b side h
good n tables (TileLink t port.Up) b side key f h = good_at n tables 4 t.board b key (same_board t.board b port.Up side h) f.0.1
good n tables (TileLink t port.Down) b side key f h = absurd f
good n tables (TileLink t port.HostPort) b side key f h = absurd f
good n tables (TileLink t port.Here) b side key f h = absurd f
good n tables (Works a from) b side key f h = absurd f
good n tables (RouterWaits a way) b side key f h = cc
good n tables (RouterLink a port.East) b side key f h = crossed n tables a b port.East port.West side key 0 f h
good n tables (RouterLink a port.West) b side key f h = crossed n tables a b port.West port.East side key 0 f h
good n tables (RouterLink a port.South) b side key f h = crossed n tables a b port.South port.North side key 0 f h
good n tables (RouterLink a port.North) b side key f h = crossed n tables a b port.North port.South side key 0 f h
good n tables (RouterLink a port.Up) b side key f h = absurd f
good n tables (RouterLink a port.Down) b side key f h = absurd f
good n tables (RouterLink a port.HostPort) b side key f h = absurd f
good n tables (RouterLink a port.Here) b side key f h = absurd f
