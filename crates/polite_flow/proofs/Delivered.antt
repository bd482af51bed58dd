-- A packet that a thread sent is delivered, unless its way out is taken.
use Rattle.std.proofs.Common.{ℕ, zero, suc, ◌≡◌, ◌<◌, ◌==◌, ◌&&◌, true, cond, List, [], ◌∷◌, length, get_or, refl, sym, ap, ◌∙◌, subst, inl, inr, arith, Option, Some, None, is_some, IsTrue}
use Rattle.std.specs.Prelude.{slice_get, slice_set}
use Rattle.std.proofs.lemmas.Bool.{eq-eqb}
use Rattle.tn_base.specs.declared.event.Event.TheVariants as event
use Rattle.tn_base.specs.declared.message.Dest.{Dest}
use Rattle.tn_base.specs.declared.message.Dest.TheVariants as dest
use Rattle.tn_base.specs.declared.message.Packet.{Packet}
use Rattle.tn_base.specs.declared.port.Port.TheVariants as port
use Rattle.tn_base.specs.declared.shape.ShapeNumbers.{ShapeNumbers}
use Rattle.tn_base.specs.Address.{has_thread, has_tile, in_tile, place_in_tile, tile_of, tile_place, tile_threads}
use Rattle.tn_base.specs.Parts.{tile_part}
use Rattle.tn_base.specs.Ports.{toward}
use Rattle.tn_base.specs.Shape.{WithinLimits}
use Rattle.tn_base.proofs.TilePlaces.{place_back, place_there}
use Rattle.tn_keys.specs.Tables.{Table}
use Rattle.tn_rows.specs.Events.{happened_at}
use Rattle.tn_rows.specs.PartView.{TileV}
use Rattle.tn_rows.specs.Places.{at_part, part_of}
use Rattle.tn_rows.specs.WorldView.{WorldView}
use Rattle.tn_rows.proofs.Meeting.{some_now}
use Rattle.tn_tile.specs.declared.state.TileState.{TileState}
use Rattle.tn_tile.specs.Rows.{deliver_row, delivered_from, is_here, turn_row}
use Rattle.tn_tile.specs.Step.{can_step, pending_at}
use Rattle.tn_tile.specs.TileView.{TileView}
use Rattle.tn_tile.proofs.Packets.{delivers}
use Rattle.tn_tile.proofs.Turns.{one_turn}
use Rattle.polite_flow.specs.Able.{HasStep, CanFlow, PartAble, TileAble}
use Rattle.polite_flow.specs.Enabled.{PendingMoves}
use Rattle.polite_flow.specs.Flow.{Out}
use Rattle.polite_flow.specs.OnWay.{Fits, RisesFor}
use Rattle.polite_flow.specs.Places.{Bound, Pending, Tile, out_by, tile_named, way_for}
use Rattle.polite_flow.specs.Standing.{IsEnabled, MovesBy}
use Rattle.polite_flow.specs.Tiles.{StandsFit, TileOnWay}
use Rattle.polite_flow.specs.World.{PartOnWay}
use Rattle.polite_flow.proofs.Links.{named_way}
use Rattle.polite_flow.proofs.Onward.{GoesOn, goes_on}
use Rattle.polite_flow.proofs.PartsAt.{at_place, one_happens, tile_kind_at, tile_stands}
use Rattle.polite_flow.proofs.Tiles.{Rising, goes_north, goes_up, goes_west, rising_of}

-- ---- the thread at a place of a tile

within : {X : Type 0} (xs : List (Option X)) (k : ℕ) (x : X) → get_or xs k None ≡ Some x → k < length xs
within [] k x e = cc e
within (y ∷ ys) zero x e = omega arith
within (y ∷ ys) (suc k) x e = let less = within ys k x e in omega arith

-- the thread at a place of a tile that is part p of the machine
pub record ThreadHere (w : WorldView) (p : ℕ) (v : TileView) (a k : ℕ) : Type 0 where
  pub part : part_of w.shape (record { 0 = a }) ≡ Some p
  pub here : is_here v.plan a ≡ true
  pub place : k ≡ place_in_tile v.plan.shape a

pub thread_here : (w : WorldView) (p : ℕ) (v : TileView) (k : ℕ) (tables : List Table) → CanFlow tables w → slice_get w.parts p ≡ Some (TileV v) → TileAble v → k < tile_threads v.plan.shape → ThreadHere w p v (in_tile w.shape v.plan.tile k) k
thread_here w p v k tables g is able low =
    let n : ShapeNumbers = w.shape in
    let kinds = tile_kind_at w p v g.world is in
    let a = in_tile n v.plan.tile k in
    let limits : WithinLimits n = g.ready.routes.limits in
    let tile : IsTrue (has_tile n v.plan.tile) = subst (λ m. IsTrue (has_tile m v.plan.tile)) kinds.shape able.shaped.tile in
    let few : k < tile_threads n = subst (λ m. k < tile_threads m) kinds.shape low in
    let there : has_thread n a ≡ true = place_there n v.plan.tile k limits tile few in
    let back = place_back n v.plan.tile k limits tile few in
    let stands = tile_stands n p v.plan.tile limits kinds.is in
    record {
      part =
          ap (λ b. cond b (Some (tile_part (tile_place n (tile_of a)))) None) there
          ∙ ap (λ t. Some (tile_part (tile_place n t))) back.0
          ∙ ap (λ q. Some q) stands;
      here =
          ap (λ m. has_thread m a && tile_of a == v.plan.tile) kinds.shape
          ∙ ap (λ b. b && tile_of a == v.plan.tile) there
          ∙ eq-eqb (tile_of a) v.plan.tile back.0;
      place = subst (λ m. k ≡ place_in_tile m a) (sym kinds.shape) (sym back.1);
    }

-- a tile of which a thread can make a step has a turn
pub steps_on : (w : WorldView) (p : ℕ) (v : TileView) (tables : List Table) → CanFlow tables w → slice_get w.parts p ≡ Some (TileV v) → TileAble v → HasStep v → IsEnabled w
steps_on w p v tables g is able step =
    let k = step.0 in
    let a = in_tile w.shape v.plan.tile k in
    let t = thread_here w p v k tables g is able step.1 in
    let kinds = tile_kind_at w p v g.world is in
    let least = (subst WithinLimits (sym kinds.shape) g.ready.routes.limits).turn.0 in
    let row : is_some (turn_row v.plan a 1 v.now) ≡ true = one_turn v.plan a v.now t.here able.counts least ∙ (ap (λ i. can_step v.plan.shape.fuel i v.now) (sym t.place) ∙ step.2) in (
      event.Turn (record { 0 = a }) 1,
      ap (λ o. is_some (happened_at (event.Turn (record { 0 = a }) 1) w (at_part o))) t.part
          ∙ one_happens (event.Turn (record { 0 = a }) 1) w p (TileV v) is (some_now v (turn_row v.plan a 1 v.now) ∙ row),
    )

-- ---- a delivery

-- the way up to a router leads out of the tile
leaves_by : {A : Type 0} (t : Tile) → Rising t.x t.y port.Up → out_by t (toward t.x t.y 0 0 port.Up) ≡ Out → A
leaves_by t (goes_west left is) e = cc (ap (out_by t) is, e)
leaves_by t (goes_north at above is) e = cc (ap (out_by t) is, e)
leaves_by t (goes_up at too is) e = cc (ap (out_by t) is, e)

leaves : {A : Type 0} (n : ShapeNumbers) (tables : List Table) (t : Tile) (P : Type 0) (to : Dest) → RisesFor n tables t.board P to → out_by t (way_for t to) ≡ Out → A
leaves n tables t P (dest.Thread a) f e = absurd f
leaves n tables t P dest.Host f e = leaves_by t (rising_of t.x t.y port.Up) e
leaves n tables t P (dest.Mask tile mask) f e = absurd f
leaves n tables t P (dest.Key key) f e = leaves_by t (rising_of t.x t.y port.Up) e

delivered : (tables : List Table) (w : WorldView) (p : ℕ) (v : TileView) (k : ℕ) (packet : Packet) → CanFlow tables w → slice_get w.parts p ≡ Some (TileV v) → pending_at v.now k ≡ Some packet
    → MovesBy (event.Deliver (record { 0 = in_tile w.shape v.plan.tile k })) w (Pending (tile_named v.plan.tile) k) (Bound packet.dest)
delivered tables w p v k packet g is there =
    let n : ShapeNumbers = w.shape in
    let tile = tile_named v.plan.tile in
    let a = in_tile n v.plan.tile k in
    let able : TileAble v = at_place (λ _ x. PartAble n x) w p (TileV v) g.able is in
    let on : TileOnWay n tables v.plan.tile v.now = at_place (PartOnWay n tables) w p (TileV v) g.on_way is in
    let fits : Fits n tables (Pending tile k) (Bound packet.dest) = subst (StandsFit n tables (Pending tile k)) there (on.pending k) in
    let low : k < tile_threads v.plan.shape = subst (λ m. k < m) able.shaped.fits.pending.count (within v.now.pending k packet there) in
    let t = thread_here w p v k tables g is able low in
    let after_it : TileState = record v.now { pending = slice_set v.now.pending k None } in
    let go : GoesOn w (Pending tile k) packet v.plan after_it =
    goes_on tables w (Pending tile k) p v packet after_it g.ready.routes is refl fits (ap (out_by tile) (sym (named_way v.plan.tile packet.dest))) in
    elim go [
      | inl h ↦
          let row : is_some (deliver_row v.plan a v.now) ≡ true =
          ap (λ (o : Option TileState). is_some o) (delivers v.plan a k v.now t.here able.counts t.place)
          ∙ (ap (λ o. is_some (delivered_from v.plan k o v.now)) there ∙ h) in
          inl (
          ap (λ o. is_some (happened_at (event.Deliver (record { 0 = a })) w (at_part o))) t.part
          ∙ one_happens (event.Deliver (record { 0 = a })) w p (TileV v) is (some_now v (deliver_row v.plan a v.now) ∙ row)
          )
      | inr other ↦ elim other [
        | inl blocked ↦ inr blocked
        | inr full ↦ leaves n tables tile ((tile.x < n.tiles_x) × (tile.y < n.tiles_y)) packet.dest fits full.ends
      ]
    ]

pub pending_moves : PendingMoves
pending_moves tables w t thread g x =
    subst (λ (s : Tile). MovesBy (event.Deliver (record { 0 = in_tile w.shape x.view.plan.tile thread })) w (Pending s thread) (Bound x.packet.dest)) x.named (delivered tables w x.part x.view thread x.packet g x.is x.there)
