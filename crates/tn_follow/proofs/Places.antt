-- The letters that are listed on a part are in places on this part.
use Rattle.std.proofs.Common.{◌≡◌, ◌∙◌, ℕ, ◌+◌, ◌<◌, ◌==◌, zero, suc, IsTrue, Bool, true, false, cond, List, [], ◌∷◌, ◌++◌, length, get_or, map, filter, Option, Some, None, refl, ap, sym, subst, arith}
use Rattle.std.specs.Prelude.{slice_get}
use Rattle.std.specs.Int.{bit_at}
use Rattle.std.specs.List.{flat_map, range_with_len}
use Rattle.tn_base.proofs.Places.{orders_tiles}
use Rattle.tn_base.proofs.TilePlaces.{place_back, tile_placed}
use Rattle.tn_base.specs.Address.{has_tile, in_tile, tile_of, tile_place, tile_threads}
use Rattle.tn_base.specs.Parts.{kind_of, tile_at, tile_part}
use Rattle.tn_base.specs.Shape.{WithinLimits}
use Rattle.tn_base.specs.declared.ids.TileId.{TileId}
use Rattle.tn_base.specs.declared.message.Letter.{Letter}
use Rattle.tn_base.specs.declared.message.Packet.{Packet}
use Rattle.tn_base.specs.declared.part.Kind.{Kind}
use Rattle.tn_base.specs.declared.part.Kind.TheVariants as kind
use Rattle.tn_base.specs.declared.port.Port.{Port}
use Rattle.tn_base.specs.declared.shape.ShapeNumbers.{ShapeNumbers}
use Rattle.tn_keys.specs.Copies.{each_below, only_if}
use Rattle.tn_keys.specs.Reach.{Reach}
use Rattle.tn_letters.proofs.PartKinds.{tile_part_is}
use Rattle.tn_letters.specs.Letters.{letter_for, letters_to, link_board, packet_letters}
use Rattle.tn_letters.specs.Standing.{crossing_at, leaving_by, link_standing, out_by, out_standing, owed_standing, owed_to, part_standing, pending_of, pending_standing, ports, process_standing, router_standing, slots_standing, tile_standing, transit_by, transit_standing, waiting, work_by, works_from}
use Rattle.tn_letters.specs.Tiles.{letter_in, reach_of}
use Rattle.tn_letters.specs.declared.place.Place.{Place}
use Rattle.tn_letters.specs.declared.place.Place.TheVariants as place
use Rattle.tn_link.specs.LinkView.{LinkView}
use Rattle.tn_node.specs.PortRows.{at as waits_for}
use Rattle.tn_router.specs.RouterView.{RouterView}
use Rattle.tn_router.specs.Left.{copies_left, copies_out}
use Rattle.tn_router.specs.declared.work.Work.{Work}
use Rattle.tn_rows.specs.Events.{FitsKind}
use Rattle.tn_rows.specs.PartView.{PartView, TileV, RouterV, LinkV, HostV, DetectorV, AbsentV}
use Rattle.tn_slots.specs.Pool.{slot_at}
use Rattle.tn_tile.specs.Step.{pending_at}
use Rattle.tn_tile.specs.TileView.{TileView}
use Rattle.tn_follow.specs.Follow.{is_sent_by, spots_in}
use Rattle.tn_follow.specs.Parts.{AreOn, StandOnTheirPart, part_at}

-- each of these letters is in a place on this part
abbrev Stand : ShapeNumbers → ℕ → List (Place × Letter) → Type 0
Stand n p [] = Unit {0}
Stand n p (q ∷ qs) = (part_at n q.0 ≡ p) × Stand n p qs

stand_both : (n : ShapeNumbers) (p : ℕ) (xs ys : List (Place × Letter)) → Stand n p xs → Stand n p ys → Stand n p (xs ++ ys)
stand_both n p [] ys a b = b
stand_both n p (x ∷ xs) ys a b = (a.0, stand_both n p xs ys a.1 b)

stand_each : {X : Type 0} (n : ShapeNumbers) (p : ℕ) (f : X → List (Place × Letter)) (xs : List X) → ((x : X) → Stand n p (f x)) → Stand n p (flat_map f xs)
stand_each n p f [] h = tt
stand_each n p f (x ∷ xs) h = stand_both n p (f x) (flat_map f xs) (h x) (stand_each n p f xs h)

stand_from : (n : ShapeNumbers) (p : ℕ) (f : ℕ → List (Place × Letter)) (i m : ℕ) → ((k : ℕ) → k < i + m → Stand n p (f k)) → Stand n p (flat_map f (range_with_len i m))
stand_from n p f i zero h = tt
stand_from n p f i (suc m) h = stand_both n p (f i) (flat_map f (range_with_len (i + 1) m)) (h i (omega arith)) (stand_from n p f (i + 1) m (λ k less. h k (omega arith)))

stand_below : (n : ShapeNumbers) (p count : ℕ) (f : ℕ → List (Place × Letter)) → ((k : ℕ) → k < count → Stand n p (f k)) → Stand n p (each_below count f)
stand_below n p count f h = stand_from n p f 0 count (λ k less. h k (omega (arith, less)))

stand_map : {X : Type 0} (n : ShapeNumbers) (p : ℕ) (at : Place) (f : X → Letter) (xs : List X) → part_at n at ≡ p → Stand n p (map (λ x. (at, f x)) xs)
stand_map n p at f [] is = tt
stand_map n p at f (x ∷ xs) is = (is, stand_map n p at f xs is)

stand_if : (n : ShapeNumbers) (p : ℕ) (there : Bool) (at : Place) (l : Letter) → part_at n at ≡ p → Stand n p (only_if there (at, l))
stand_if n p true at l is = (is, tt)
stand_if n p false at l is = tt

-- ---- a tile

-- a tile is the part of its number, and so are its threads
record OnTile (n : ShapeNumbers) (p : ℕ) (v : TileView) : Type 0 where
  shape : v.plan.shape ≡ n
  tile : tile_part (tile_place n v.plan.tile) ≡ p
  threads : (k : ℕ) → k < tile_threads n → tile_part (tile_place n (tile_of (in_tile n v.plan.tile k))) ≡ p

on_tile : (n : ShapeNumbers) (p : ℕ) (tile : TileId) (v : TileView) → WithinLimits n → kind_of n p ≡ kind.Tile tile → FitsKind n (kind.Tile tile) (TileV v) → OnTile n p v
on_tile n p tile v limits is fits =
    let t = tile_part_is n p tile is in
    let at : v.plan.tile ≡ tile_at n t.i = fits.1 ∙ t.is in
    let has : IsTrue (has_tile n v.plan.tile) = subst (λ a. IsTrue (has_tile n a)) (sym at) ((orders_tiles n limits).there t.i t.below) in
    let here : tile_part (tile_place n v.plan.tile) ≡ p = ap (λ a. tile_part (tile_place n a)) at ∙ (ap tile_part (tile_placed n t.i limits t.below) ∙ t.part) in
    record {
      shape = fits.0;
      tile = here;
      threads = λ k less. ap (λ a. tile_part (tile_place n a)) (place_back n v.plan.tile k limits has less).0 ∙ here;
    }

stand_waiting : (n m : ShapeNumbers) (p : ℕ) (reach : Reach) (at : Place) (o : Option Packet) → part_at n at ≡ p → Stand n p (waiting m reach at o)
stand_waiting n m p reach at None is = tt
stand_waiting n m p reach at (Some k) is = stand_map n p at (λ l. l) (packet_letters m reach k) is

stand_tile : (n : ShapeNumbers) (p : ℕ) (reach : Reach) (v : TileView) → OnTile n p v → Stand n p (tile_standing reach p v)
stand_tile n p reach v on =
    stand_both n p (pending_standing reach v ++ transit_standing reach p v) (slots_standing v)
    (stand_both n p (pending_standing reach v) (transit_standing reach p v)
    (stand_below n p (tile_threads v.plan.shape) (pending_of reach v) (λ k less. stand_waiting n v.plan.shape p reach _ (pending_at v.now k)
    (ap (λ m. tile_part (tile_place n (tile_of (in_tile m v.plan.tile k)))) on.shape ∙ on.threads k (subst (λ m. k < tile_threads m) on.shape less))))
    (stand_each n p (transit_by reach p v) ports (λ way. stand_waiting n v.plan.shape p reach (place.Transit (record { 0 = p }) way) (waits_for way v.now.node.out) refl)))
    (stand_below n p (length v.now.pool.slots) (owed_standing v) (λ s some. stand_below n p (tile_threads v.plan.shape) (owed_to v s) (λ k less. stand_if n p (bit_at (slot_at v.now.pool s).owed k == 1) _ (letter_in v k s) on.tile)))

-- ---- a link and a router

stand_crossing : (n m : ShapeNumbers) (p : ℕ) (reach : Reach) (i : ℕ) (o : Option Packet) → Stand n p (crossing_at m reach p i o)
stand_crossing n m p reach i None = tt
stand_crossing n m p reach i (Some k) = stand_map n p (place.OnLink (record { 0 = p }) i) (λ l. l) (letters_to (link_board m p) m reach k) refl

stand_link : (n m : ShapeNumbers) (p : ℕ) (reach : Reach) (v : LinkView) → Stand n p (link_standing m reach p v)
stand_link n m p reach v = stand_below n p (length v.packets) (λ i. crossing_at m reach p i (slice_get v.packets i)) (λ i less. stand_crossing n m p reach i (slice_get v.packets i))

stand_leaving : (n : ShapeNumbers) (p : ℕ) (reach : Reach) (v : RouterView) (way : Port) (o : Option Packet) → Stand n p (leaving_by reach p v way o)
stand_leaving n p reach v way None = tt
stand_leaving n p reach v way (Some k) = stand_map n p (place.Transit (record { 0 = p }) way) (λ c. letter_for k.origin k.number c) (copies_out reach v.plan.shape v.plan.board way k) refl

stand_work : (n : ShapeNumbers) (p : ℕ) (reach : Reach) (v : RouterView) (side : Port) (o : Option Work) → Stand n p (works_from reach p v side o)
stand_work n p reach v side None = tt
stand_work n p reach v side (Some w) = stand_map n p (place.InProcess (record { 0 = p }) side) (λ c. letter_for w.packet.origin w.packet.number c) (copies_left reach v.plan.shape v.plan.board v.plan.beats w) refl

stand_router : (n : ShapeNumbers) (p : ℕ) (reach : Reach) (v : RouterView) → Stand n p (router_standing reach p v)
stand_router n p reach v =
    stand_both n p (out_standing reach p v) (process_standing reach p v)
    (stand_each n p (out_by reach p v) ports (λ way. stand_leaving n p reach v way (waits_for way v.now.node.out)))
    (stand_each n p (work_by reach p v) ports (λ side. stand_work n p reach v side (waits_for side v.now.inputs)))

-- ---- any part

stand_part : (n : ShapeNumbers) (p : ℕ) (reach : Reach) (k : Kind) (x : PartView) → WithinLimits n → kind_of n p ≡ k → FitsKind n k x → Stand n p (part_standing n reach p x)
stand_part n p reach (kind.Tile tile) (TileV v) limits is fits = stand_tile n p reach v (on_tile n p tile v limits is fits)
stand_part n p reach kind.Host (TileV v) limits is fits = absurd fits
stand_part n p reach (kind.Router board) (TileV v) limits is fits = absurd fits
stand_part n p reach (kind.Link from onto) (TileV v) limits is fits = absurd fits
stand_part n p reach kind.Detector (TileV v) limits is fits = absurd fits
stand_part n p reach k (RouterV v) limits is fits = stand_router n p reach v
stand_part n p reach k (LinkV v) limits is fits = stand_link n n p reach v
stand_part n p reach k (HostV s) limits is fits = tt
stand_part n p reach k (DetectorV v) limits is fits = tt
stand_part n p reach k AbsentV limits is fits = tt

-- ---- those of the send

on_by : (b : Bool) (n : ShapeNumbers) (p : ℕ) (q : Place × Letter) (qs : List (Place × Letter)) → part_at n q.0 ≡ p → AreOn n p (map (λ (q : Place × Letter). record { place = q.0; receiver = q.1.receiver }) qs)
    → AreOn n p (map (λ (q : Place × Letter). record { place = q.0; receiver = q.1.receiver }) (cond b (q ∷ qs) qs))
on_by true n p q qs is rest = (is, rest)
on_by false n p q qs is rest = rest

on_part : (origin number : ℕ) (n : ShapeNumbers) (p : ℕ) (qs : List (Place × Letter)) → Stand n p qs → AreOn n p (spots_in origin number qs)
on_part origin number n p [] h = tt
on_part origin number n p (q ∷ qs) h = on_by (is_sent_by origin number q.1) n p q (filter (λ (q : Place × Letter). is_sent_by origin number q.1) qs) h.0 (on_part origin number n p qs h.1)

pub stand_on_their_part : StandOnTheirPart
stand_on_their_part origin number w p limits world less =
    on_part origin number w.shape p (part_standing w.shape (reach_of w) p (get_or w.parts p AbsentV)) (stand_part w.shape p (reach_of w) (kind_of w.shape p) (get_or w.parts p AbsentV) limits refl (world.each p less))
