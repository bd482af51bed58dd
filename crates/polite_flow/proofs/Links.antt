-- The links of a machine lead on as the places say.
use Rattle.std.proofs.Common.{ℕ, zero, suc, ◌≡◌, ◌≤◌, ◌<◌, ◌+◌, ◌-◌, ◌*◌, ◌/◌, ◌%◌, ◌++◌, ◌∷◌, ◌==◌, [], List, Bool, cond, true, false, get_or, nat_lt, refl, arith, sym, ap, ◌∙◌, subst}
use Rattle.std.specs.Prelude.{Some, None}
use Rattle.std.specs.List.{flat_map, range_with_len}
use Rattle.std.proofs.Math.Nat.{div-div-eq-div-mul}
use Rattle.std.proofs.lemmas.Bool.{ltb-true}
use Rattle.std.proofs.lemmas.Nat.{div-add-mod', div-mul-add, mod-mul-add}
use Rattle.tn_base.specs.declared.ids.Board.{Board}
use Rattle.tn_base.specs.declared.message.Dest.{Dest}
use Rattle.tn_base.specs.declared.message.Dest.TheVariants as dest
use Rattle.tn_base.specs.declared.part.Kind.{Kind}
use Rattle.tn_base.specs.declared.part.Kind.TheVariants as kind
use Rattle.tn_base.specs.declared.port.Port.{Port}
use Rattle.tn_base.specs.declared.port.Port.TheVariants as port
use Rattle.tn_base.specs.declared.shape.ShapeNumbers.{ShapeNumbers}
use Rattle.tn_base.specs.Parts.{all_router_links, all_tile_links, board_at, board_count, board_tiles, from_host_links, from_router_links, from_routers, from_tile_links, kind_of, link, only_if, router_links, router_part, tile_at, tile_count, tile_links, tile_part, visited}
use Rattle.tn_base.specs.Ports.{board_x, board_y, tile_port, to_tile, toward}
use Rattle.tn_base.specs.Shape.{WithinLimits}
use Rattle.tn_base.proofs.LinkEnds.{joins_visited}
use Rattle.tn_base.proofs.Listing.{behind_at}
use Rattle.tn_base.proofs.TilePlaces.{tile_kind}
use Rattle.tn_router.specs.Left.{board_on}
use Rattle.tn_rows.specs.Places.{side_between, side_of_kind, way_between, way_of_kind}
use Rattle.tn_ways.proofs.Hops.{BoardHop, digits, east_board, east_hop, last_place, lower_row, next_place, north_board, north_hop, router_kind, south_board, south_hop, upper_row, west_board, west_hop}
use Rattle.tn_ways.proofs.Leaving.{board_of, first_of, north_back, router_north, router_west, some_of, west_back}
use Rattle.polite_flow.specs.Flow.{To}
use Rattle.polite_flow.specs.Machine.{LeadsOn, LinksLeadOn}
use Rattle.polite_flow.specs.Places.{Bound, RouterLink, Tile, TileLink, Works, first_tile, into, next, onward, out_by, tile_beyond, tile_named, way_for}

-- ---- lists of links

-- a link between parts of these kinds
abbrev Between : ShapeNumbers → Dest → Kind → Kind → Type 0
Between n to a b = LeadsOn n to (way_between a b) (side_between b a) a b

abbrev Ends : ShapeNumbers → Dest → Kind → Type 0
Ends n to (kind.Link from onto) = Between n to (kind_of n from.0) (kind_of n onto.0)
Ends n to kind.Host = Unit {0}
Ends n to (kind.Tile tile) = Unit {0}
Ends n to (kind.Router board) = Unit {0}
Ends n to kind.Detector = Unit {0}

abbrev AllLead : ShapeNumbers → Dest → List Kind → Type 0
AllLead n to kinds = (k : ℕ) → Ends n to (get_or kinds k kind.Detector)

lead_both : (n : ShapeNumbers) (to : Dest) (xs ys : List Kind) → AllLead n to xs → AllLead n to ys → AllLead n to (xs ++ ys)
lead_both n to [] ys p q k = q k
lead_both n to (x ∷ xs) ys p q zero = p zero
lead_both n to (x ∷ xs) ys p q (suc k) = lead_both n to xs ys (λ j. p (suc j)) q k

lead_one : (n : ShapeNumbers) (to : Dest) (from onto : ℕ) → Between n to (kind_of n from) (kind_of n onto) → AllLead n to (link from onto ∷ [])
lead_one n to from onto e zero = e
lead_one n to from onto e (suc k) = tt

lead_if : (n : ShapeNumbers) (to : Dest) (from onto : ℕ) (there : Bool) → (there ≡ true → Between n to (kind_of n from) (kind_of n onto)) → AllLead n to (only_if there (link from onto))
lead_if n to from onto true e = lead_one n to from onto (e refl)
lead_if n to from onto false e = λ k. tt

lead_each : (n : ShapeNumbers) (to : Dest) (f : ℕ → List Kind) (i count : ℕ) → ((j : ℕ) → j < i + count → AllLead n to (f j)) → AllLead n to (flat_map f (range_with_len i count))
lead_each n to f i zero each = λ k. tt
lead_each n to f i (suc count) each =
    lead_both n to (f i) (flat_map f (range_with_len (i + 1) count)) (each i (omega arith)) (lead_each n to f (i + 1) count (λ j h. each j (omega arith)))

lead_five : (n : ShapeNumbers) (to : Dest) (a b c d e : List Kind) → AllLead n to a → AllLead n to b → AllLead n to c → AllLead n to d → AllLead n to e → AllLead n to (a ++ b ++ c ++ d ++ e)
lead_five n to a b c d e p q r s t = lead_both n to (a ++ b ++ c ++ d) e (lead_both n to (a ++ b ++ c) d (lead_both n to (a ++ b) c (lead_both n to a b p q) r) s) t

kinds_lead : (n : ShapeNumbers) (to : Dest) (here there : ℕ) (a b : Kind) → kind_of n here ≡ a → kind_of n there ≡ b → Between n to a b → Between n to (kind_of n here) (kind_of n there)
kinds_lead n to here there a b e f l = subst (λ x. Between n to x (kind_of n there)) (sym e) (subst (λ y. Between n to a y) (sym f) l)

-- ---- tiles

abbrev tile_made : ℕ → ℕ → ℕ → ℕ → Tile
tile_made u v x y = record { board = record { x = u; y = v }; x = x; y = y }

same_tile : (u v x y a b c d : ℕ) → u ≡ a → v ≡ b → x ≡ c → y ≡ d → tile_made u v x y ≡ tile_made a b c d
same_tile u v x y a b c d e f g h = ap (λ k. tile_made k v x y) e ∙ ap (λ k. tile_made a k x y) f ∙ ap (λ k. tile_made a b k y) g ∙ ap (λ k. tile_made a b c k) h

-- the way that the machine's rows take
pub named_way : (a : ℕ) (to : Dest) → tile_port a to ≡ way_for (tile_named a) to
named_way a (dest.Thread t) = refl
named_way a dest.Host = refl
named_way a (dest.Mask tile mask) = refl
named_way a (dest.Key key) = refl

-- a tile that is the next tile
onto_tile : (t : Tile) (a : ℕ) (to : Dest) → tile_named a ≡ t → onward t (Bound to) ≡ out_by (tile_named a) (tile_port a to)
onto_tile t a to e = ap (λ s. onward s (Bound to)) (sym e) ∙ ap (out_by (tile_named a)) (sym (named_way a to))

tiles_lead : (n : ShapeNumbers) (to : Dest) (a b : ℕ) (way : Port) → to_tile a b ≡ way → next n (TileLink (tile_named a) way) (Bound to) ≡ out_by (tile_named b) (tile_port b to) → Between n to (kind.Tile (record { 0 = a })) (kind.Tile (record { 0 = b }))
tiles_lead n to a b way e l = subst (λ w. next n (TileLink (tile_named a) w) (Bound to) ≡ out_by (tile_named b) (tile_port b to)) (sym e) l

-- the tile of a place is that of these digits
tile_is : (n : ShapeNumbers) (i u v x y : ℕ) → WithinLimits n → i < tile_count n → i / n.tiles_x / n.tiles_y % n.boards_x ≡ u → i / n.tiles_x / n.tiles_y / n.boards_x ≡ v → i % n.tiles_x ≡ x → i / n.tiles_x % n.tiles_y ≡ y → tile_named (tile_at n i) ≡ tile_made u v x y
tile_is n i u v x y l h e f g k = let d = digits n i l h in same_tile _ _ _ _ u v x y (d.over_x ∙ e) (d.over_y ∙ f) (d.x ∙ g) (d.y ∙ k)

-- a tile of the same board, so many places on
beside : (n : ShapeNumbers) (i j x y : ℕ) → WithinLimits n → i < tile_count n → j < tile_count n → j / n.tiles_x / n.tiles_y ≡ i / n.tiles_x / n.tiles_y → j % n.tiles_x ≡ x → j / n.tiles_x % n.tiles_y ≡ y
    → tile_named (tile_at n j) ≡ tile_made (board_x (tile_at n i)) (board_y (tile_at n i)) x y
beside n i j x y l h k same e f =
    let d = digits n i l h in
    tile_is n j _ _ x y l k (ap (λ q. q % n.boards_x) same ∙ sym d.over_x) (ap (λ q. q / n.boards_x) same ∙ sym d.over_y) e f

east_lead : (n : ShapeNumbers) (to : Dest) (i : ℕ) → WithinLimits n → i < tile_count n → i % n.tiles_x + 1 < n.tiles_x → Between n to (kind.Tile (record { 0 = tile_at n i })) (kind.Tile (record { 0 = tile_at n (i + 1) }))
east_lead n to i l h inside =
    let hop = east_hop n i l h inside in
    let e = next_place i n.tiles_x inside in
    let d = digits n i l h in
    tiles_lead n to (tile_at n i) (tile_at n (i + 1)) port.East hop.leads
    (onto_tile (tile_beyond (tile_named (tile_at n i)) port.East) (tile_at n (i + 1)) to
    (beside n i (i + 1) _ _ l h hop.there (ap (λ k. k / n.tiles_y) e.0) (e.1 ∙ ap (λ k. k + 1) (sym d.x)) (ap (λ k. k % n.tiles_y) e.0 ∙ sym d.y)))

west_lead : (n : ShapeNumbers) (to : Dest) (i : ℕ) → WithinLimits n → i < tile_count n → 0 < i % n.tiles_x → Between n to (kind.Tile (record { 0 = tile_at n i })) (kind.Tile (record { 0 = tile_at n (i - 1) }))
west_lead n to i l h inside =
    let hop = west_hop n i l h inside in
    let e = last_place i n.tiles_x l.tiles_x.0 inside in
    let d = digits n i l h in
    tiles_lead n to (tile_at n i) (tile_at n (i - 1)) port.West hop.leads
    (onto_tile (tile_beyond (tile_named (tile_at n i)) port.West) (tile_at n (i - 1)) to
    (beside n i (i - 1) _ _ l h hop.there (ap (λ k. k / n.tiles_y) e.0) (e.1 ∙ ap (λ k. k - 1) (sym d.x)) (ap (λ k. k % n.tiles_y) e.0 ∙ sym d.y)))

south_lead : (n : ShapeNumbers) (to : Dest) (i : ℕ) → WithinLimits n → i < tile_count n → i / n.tiles_x % n.tiles_y + 1 < n.tiles_y → Between n to (kind.Tile (record { 0 = tile_at n i })) (kind.Tile (record { 0 = tile_at n (i + n.tiles_x) }))
south_lead n to i l h inside =
    let hop = south_hop n i l h inside in
    let e = lower_row i n.tiles_x l.tiles_x.0 in
    let f = next_place (i / n.tiles_x) n.tiles_y inside in
    let d = digits n i l h in
    tiles_lead n to (tile_at n i) (tile_at n (i + n.tiles_x)) port.South hop.leads
    (onto_tile (tile_beyond (tile_named (tile_at n i)) port.South) (tile_at n (i + n.tiles_x)) to
    (beside n i (i + n.tiles_x) _ _ l h hop.there (ap (λ k. k / n.tiles_y) e.0 ∙ f.0) (e.1 ∙ sym d.x) (ap (λ k. k % n.tiles_y) e.0 ∙ (f.1 ∙ ap (λ k. k + 1) (sym d.y)))))

north_lead : (n : ShapeNumbers) (to : Dest) (i : ℕ) → WithinLimits n → i < tile_count n → 0 < i / n.tiles_x % n.tiles_y → Between n to (kind.Tile (record { 0 = tile_at n i })) (kind.Tile (record { 0 = tile_at n (i - n.tiles_x) }))
north_lead n to i l h inside =
    let hop = north_hop n i l h inside in
    let whole : i / n.tiles_x / n.tiles_y * n.tiles_y + i / n.tiles_x % n.tiles_y ≡ i / n.tiles_x = div-add-mod' (i / n.tiles_x) n.tiles_y in
    let some : 0 < i / n.tiles_x = omega arith in
    let e = upper_row i n.tiles_x l.tiles_x.0 some in
    let f = last_place (i / n.tiles_x) n.tiles_y l.tiles_y.0 inside in
    let d = digits n i l h in
    tiles_lead n to (tile_at n i) (tile_at n (i - n.tiles_x)) port.North hop.leads
    (onto_tile (tile_beyond (tile_named (tile_at n i)) port.North) (tile_at n (i - n.tiles_x)) to
    (beside n i (i - n.tiles_x) _ _ l h hop.there (ap (λ k. k / n.tiles_y) e.0 ∙ f.0) (e.1 ∙ sym d.x) (ap (λ k. k % n.tiles_y) e.0 ∙ (f.1 ∙ ap (λ k. k - 1) (sym d.y)))))

-- up to the router of the tile's board
up_lead : (n : ShapeNumbers) (to : Dest) (i : ℕ) → WithinLimits n → i < tile_count n → Between n to (kind.Tile (record { 0 = tile_at n i })) (kind.Router (board_at n (i / board_tiles n)))
up_lead n to i l h =
    let d = digits n i l h in
    let whole : i / n.tiles_x / n.tiles_y ≡ i / board_tiles n = div-div-eq-div-mul i n.tiles_x n.tiles_y in
    ap (λ (b : Board). To (Works b port.Up))
    (ap (λ k. record { x = k; y = board_y (tile_at n i) }) (d.over_x ∙ ap (λ k. k % n.boards_x) whole) ∙ ap (λ k. record { x = i / board_tiles n % n.boards_x; y = k }) (d.over_y ∙ ap (λ k. k / n.boards_x) whole))

tile_links_lead : (n : ShapeNumbers) (to : Dest) (i : ℕ) → WithinLimits n → i < tile_count n → AllLead n to (tile_links n i)
tile_links_lead n to i l h =
    let x = i % n.tiles_x in
    let y = i / n.tiles_x % n.tiles_y in
    let here = tile_part i in
    let from : kind_of n here ≡ kind.Tile (record { 0 = tile_at n i }) = tile_kind n i h in
    lead_five n to _ _ _ _ _
    (lead_if n to here (here + 1) (nat_lt (x + 1) n.tiles_x)
    (λ east.
    let inside = ltb-true _ _ east in
    kinds_lead n to here (here + 1) _ _ from (other (i + 1) (here + 1) (east_hop n i l h inside).there (omega arith)) (east_lead n to i l h inside)))
    (lead_if n to here (here - 1) (nat_lt 0 x)
    (λ west.
    let inside = ltb-true _ _ west in
    kinds_lead n to here (here - 1) _ _ from (other (i - 1) (here - 1) (west_hop n i l h inside).there (west_back i n.tiles_x inside)) (west_lead n to i l h inside)))
    (lead_if n to here (here + n.tiles_x) (nat_lt (y + 1) n.tiles_y)
    (λ south.
    let inside = ltb-true _ _ south in
    kinds_lead n to here (here + n.tiles_x) _ _ from (other (i + n.tiles_x) (here + n.tiles_x) (south_hop n i l h inside).there (omega arith)) (south_lead n to i l h inside)))
    (lead_if n to here (here - n.tiles_x) (nat_lt 0 y)
    (λ north.
    let inside = ltb-true _ _ north in
    kinds_lead n to here (here - n.tiles_x) _ _ from (other (i - n.tiles_x) (here - n.tiles_x) (north_hop n i l h inside).there (north_back n i l inside)) (north_lead n to i l h inside)))
    (lead_if n to here (router_part n (i / board_tiles n)) (i % board_tiles n == 0)
    (λ up. kinds_lead n to here (router_part n (i / board_tiles n)) _ _ from (router_kind n (i / board_tiles n) (board_of n i l h)) (up_lead n to i l h))) where
      other : (j there : ℕ) → j < tile_count n → there ≡ tile_part j → kind_of n there ≡ kind.Tile (record { 0 = tile_at n j })
      other j there k e = ap (kind_of n) e ∙ tile_kind n j k

-- ---- routers

some_times : (k m : ℕ) → 0 < m → (k * m / m ≡ k) × (k * m % m ≡ 0)
some_times k m some =
    let e : k * m ≡ k * m + 0 = omega arith in
    (ap (λ j. j / m) e ∙ div-mul-add k m 0 some, ap (λ j. j % m) e ∙ mod-mul-add k m 0 some)

-- the first tile of a board
first_is : (n : ShapeNumbers) (i : ℕ) → WithinLimits n → i < board_count n → tile_named (tile_at n (i * board_tiles n)) ≡ first_tile (board_at n i)
first_is n i l h =
    let rows : i * board_tiles n ≡ i * n.tiles_y * n.tiles_x = grind arith in
    let p = some_times (i * n.tiles_y) n.tiles_x l.tiles_x.0 in
    let q = some_times i n.tiles_y l.tiles_y.0 in
    let row : i * board_tiles n / n.tiles_x ≡ i * n.tiles_y = ap (λ k. k / n.tiles_x) rows ∙ p.0 in
    let board : i * board_tiles n / n.tiles_x / n.tiles_y ≡ i = ap (λ k. k / n.tiles_y) row ∙ q.0 in
    tile_is n (i * board_tiles n) _ _ _ _ l (first_of n i l h) (ap (λ k. k % n.boards_x) board) (ap (λ k. k / n.boards_x) board) (ap (λ k. k % n.tiles_x) rows ∙ p.1) (ap (λ k. k % n.tiles_y) row ∙ q.1)

down_lead : (n : ShapeNumbers) (to : Dest) (i : ℕ) → WithinLimits n → i < board_count n → Between n to (kind.Router (board_at n i)) (kind.Tile (record { 0 = tile_at n (i * board_tiles n) }))
down_lead n to i l h = onto_tile (first_tile (board_at n i)) (tile_at n (i * board_tiles n)) to (first_is n i l h)

routers_lead : (n : ShapeNumbers) (to : Dest) (a b : Board) (way back : Port) → toward a.x a.y b.x b.y port.Here ≡ way → toward b.x b.y a.x a.y port.Here ≡ back → next n (RouterLink a way) (Bound to) ≡ To (Works b back) → Between n to (kind.Router a) (kind.Router b)
routers_lead n to a b way back e f l =
    subst (λ w. next n (RouterLink a w) (Bound to) ≡ To (Works b (toward b.x b.y a.x a.y port.Here))) (sym e) (subst (λ s. next n (RouterLink a way) (Bound to) ≡ To (Works b s)) (sym f) l)

abbrev board_made : ℕ → ℕ → Board
board_made x y = record { x = x; y = y }

same_made : (x y u v : ℕ) → x ≡ u → y ≡ v → board_made x y ≡ board_made u v
same_made x y u v e f = ap (λ z. board_made z y) e ∙ ap (board_made u) f

-- the next board is that of another router
onto_board : (n : ShapeNumbers) (to : Dest) (i j x y : ℕ) (way side : Port) (there : Bool) → BoardHop n i j way side → there ≡ true → board_on n (board_at n i) way ≡ cond there (Some (board_made x y)) None → j % n.boards_x ≡ x → j / n.boards_x ≡ y
    → (board_on n (board_at n i) way ≡ Some (board_at n j) → next n (RouterLink (board_at n i) way) (Bound to) ≡ To (Works (board_at n j) side)) → Between n to (kind.Router (board_at n i)) (kind.Router (board_at n j))
onto_board n to i j x y way side there hop is at e f leads =
    routers_lead n to (board_at n i) (board_at n j) way side hop.leads hop.returns (leads (at ∙ (ap (λ t. cond t (Some (board_made x y)) None) is ∙ ap Some (same_made _ _ _ _ (sym e) (sym f)))))

router_links_lead : (n : ShapeNumbers) (to : Dest) (i : ℕ) → WithinLimits n → i < board_count n → AllLead n to (router_links n i)
router_links_lead n to i l h =
    let x = i % n.boards_x in
    let y = i / n.boards_x in
    let here = router_part n i in
    let from : kind_of n here ≡ kind.Router (board_at n i) = router_kind n i h in
    lead_five n to (link here (tile_part (i * board_tiles n)) ∷ []) _ _ _ _
    (lead_one n to here (tile_part (i * board_tiles n)) (kinds_lead n to here (tile_part (i * board_tiles n)) _ _ from (tile_kind n (i * board_tiles n) (first_of n i l h)) (down_lead n to i l h)))
    (lead_if n to here (here + 1) (nat_lt (x + 1) n.boards_x)
    (λ east.
    let inside = ltb-true _ _ east in
    let hop = east_board n i l h inside in
    let e = next_place i n.boards_x inside in
    kinds_lead n to here (here + 1) _ _ from (other (i + 1) (here + 1) hop.there (omega arith))
    (onto_board n to i (i + 1) (x + 1) y port.East port.West (nat_lt (x + 1) n.boards_x) hop east refl e.1 e.0 (ap (into port.West)))))
    (lead_if n to here (here - 1) (nat_lt 0 x)
    (λ west.
    let inside = ltb-true _ _ west in
    let hop = west_board n i l h inside in
    let e = last_place i n.boards_x l.boards_x.0 inside in
    kinds_lead n to here (here - 1) _ _ from (other (i - 1) (here - 1) hop.there (router_west n i inside))
    (onto_board n to i (i - 1) (x - 1) y port.West port.East (nat_lt 0 x) hop west refl e.1 e.0 (ap (into port.East)))))
    (lead_if n to here (here + n.boards_x) (nat_lt (y + 1) n.boards_y)
    (λ south.
    let inside = ltb-true _ _ south in
    let hop = south_board n i l h inside in
    let e = lower_row i n.boards_x l.boards_x.0 in
    kinds_lead n to here (here + n.boards_x) _ _ from (other (i + n.boards_x) (here + n.boards_x) hop.there (omega arith))
    (onto_board n to i (i + n.boards_x) x (y + 1) port.South port.North (nat_lt (y + 1) n.boards_y) hop south refl e.1 e.0 (ap (into port.North)))))
    (lead_if n to here (here - n.boards_x) (nat_lt 0 y)
    (λ north.
    let inside = ltb-true _ _ north in
    let hop = north_board n i l h inside in
    let e = upper_row i n.boards_x l.boards_x.0 inside in
    kinds_lead n to here (here - n.boards_x) _ _ from (other (i - n.boards_x) (here - n.boards_x) hop.there (router_north n i l inside))
    (onto_board n to i (i - n.boards_x) x (y - 1) port.North port.South (nat_lt 0 y) hop north refl e.1 e.0 (ap (into port.South))))) where
      other : (j there : ℕ) → j < board_count n → there ≡ router_part n j → kind_of n there ≡ kind.Router (board_at n j)
      other j there k e = ap (kind_of n) e ∙ router_kind n j k

-- ---- all links

host_links_lead : (n : ShapeNumbers) (to : Dest) → 0 < board_count n → AllLead n to (from_host_links n)
host_links_lead n to some zero = subst (λ k. Between n to k kind.Host) (sym (router_kind n 0 some)) refl
host_links_lead n to some (suc zero) = tt
host_links_lead n to some (suc (suc zero)) = tt
host_links_lead n to some (suc (suc (suc k))) = tt

all_lead : (n : ShapeNumbers) (to : Dest) → WithinLimits n → AllLead n to (from_tile_links n)
all_lead n to l =
    lead_both n to (all_tile_links n) (from_router_links n)
    (lead_each n to (tile_links n) 0 (tile_count n) (λ i h. tile_links_lead n to i l (omega arith)))
    (lead_both n to (all_router_links n) (from_host_links n)
    (lead_each n to (router_links n) 0 (board_count n) (λ i h. router_links_lead n to i l (omega arith)))
    (host_links_lead n to (some_of n.boards_x n.boards_y l.boards_x.0 l.boards_y.0)))

kind_behind : (n : ShapeNumbers) (l : ℕ) → visited n ≤ l → kind_of n l ≡ get_or (from_tile_links n) (l - visited n) kind.Detector
kind_behind n zero h = absurd (omega arith)
kind_behind n (suc i) h =
    behind_at (λ i. kind.Tile (record { 0 = tile_at n i })) (tile_count n) i (from_routers n) kind.Detector (omega arith)
    ∙ behind_at (λ i. kind.Router (board_at n i)) (board_count n) (i - tile_count n) (from_tile_links n) kind.Detector (omega arith)
    ∙ ap (λ k. get_or (from_tile_links n) k kind.Detector) (omega arith)

pub links_lead : (n : ShapeNumbers) → WithinLimits n → LinksLeadOn n
links_lead n limits l from onto to e =
    let ends = joins_visited n l from onto limits e in
    let h : Between n to (kind_of n from.0) (kind_of n onto.0) = subst (Ends n to) (sym (kind_behind n l ends.behind) ∙ e) (all_lead n to limits (l - visited n)) in
    subst (λ k. LeadsOn n to (way_of_kind n k) (side_of_kind n k) (kind_of n from.0) (kind_of n onto.0)) (sym e) h
