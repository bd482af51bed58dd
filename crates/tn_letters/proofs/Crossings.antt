-- Events on a tile and a link: the letters of a packet move between them, and some are dropped where it arrives.
use Rattle.std.proofs.Common.{ℕ, ◌+◌, ◌≡◌, ◌++◌, Bool, true, false, cond, List, [], ◌∷◌, refl, sym, ◌∙◌, ap, subst, arith, Option, Some, None, option_map, unwrap_or, IsTrue, sum_by}
use Rattle.std.specs.Prelude.{pos, MatchOption}
use Rattle.std.proofs.lemmas.List.Sums.{sum_by-append, sum_by-cons}
use Rattle.tn_base.specs.declared.event.Event.TheVariants as event
use Rattle.tn_base.specs.declared.ids.PartId.{PartId}
use Rattle.tn_base.specs.declared.message.Letter.{Letter}
use Rattle.tn_base.specs.declared.message.Packet.{Packet}
use Rattle.tn_base.specs.declared.port.Port.{Port}
use Rattle.tn_base.specs.declared.shape.ShapeNumbers.{ShapeNumbers}
use Rattle.tn_base.specs.declared.ids.Board.{Board}
use Rattle.tn_base.specs.declared.message.Dest.{Dest}
use Rattle.tn_base.specs.declared.message.Dest.TheVariants as dest
use Rattle.tn_base.specs.Message.{has_packet}
use Rattle.tn_base.specs.Parts.{kind_of}
use Rattle.tn_router.specs.Kept.{is_keyed}
use Rattle.std.specs.List.{AllByRecursion}
use Rattle.tn_link.specs.LinkRows.{first_in, front_of, put_in, rest_in, take_from}
use Rattle.tn_link.specs.LinkView.{LinkView}
use Rattle.tn_stamp.specs.declared.entry.Crossing.TheVariants as crossing
use Rattle.tn_node.specs.declared.ports.Ports.{Ports}
use Rattle.std.specs.Prelude.{◌-ℤ◌, ◌^◌, int_lt}
use Rattle.tn_node.specs.declared.node.Node.{Node}
use Rattle.tn_node.specs.NodeRows.{depart_row as node_departs, departed, departed_with, give_row, offered}
use Rattle.tn_node.specs.PortRows.{at, with_at}
use Rattle.tn_node.proofs.Given.{given}
use Rattle.tn_tile.specs.Kept.{IsPacket, has_way}
use Rattle.tn_tile.specs.Rows.{accept_row, accepted, came, depart_row, passed, with_node}
use Rattle.tn_tile.specs.declared.state.TileState.{TileState}
use Rattle.tn_tile.specs.TileView.{TileView, now_by, with_now}
use Rattle.tn_letters.proofs.Fitting.{out_fit}
use Rattle.tn_tile.proofs.Steps.{taken}
use Rattle.tn_rows.proofs.Meeting.{mapped, met_rows}
use Rattle.tn_rows.specs.Events.{Met, met_by, met_with, with_both, with_part}
use Rattle.tn_rows.specs.PartView.{TileV, LinkV}
use Rattle.tn_rows.specs.Places.{link_way}
use Rattle.tn_node.specs.SamePacket.{is_packet}
use Rattle.tn_rows.specs.WorldView.{WorldView}
use Rattle.tn_letters.specs.declared.steps.BagStep.{BagStep}
use Rattle.tn_keys.specs.Reach.{Reach}
use Rattle.tn_letters.specs.Letters.{board_of, letters_from, link_board}
use Rattle.tn_letters.specs.Steps.{delivery_steps}
use Rattle.tn_letters.specs.Tiles.{reach_of}
use Rattle.tn_letters.proofs.Becomes.{Becomes, Drops, becomes_reached, nothing, of_packet, pair_becomes, threads_stay}
use Rattle.tn_letters.proofs.Delivery.{discards_are, dropped_letters, packet_passes}
use Rattle.tn_letters.proofs.Homes.{AtHome, home_way}
use Rattle.tn_letters.proofs.Lift.{Good, GoodLink, GoodTile, Homed, IsForHost, On, OnLink, leads_to_host, leads_to_tile, part_on, tile_on, with_tile}
use Rattle.tn_letters.proofs.Simulate.{Reached}
use Rattle.tn_letters.proofs.Weights.{buffers_w, crossing_w, link_w, packet_w, ports_set}

-- ---- rows of both parts

-- what the rows of a tile and a link gave
pub record Both (v : TileView) (t : Option TileState) (l : Option LinkView) (m : Met) : Type 0 where
  pub new : TileState
  pub next : LinkView
  pub tile : t ≡ Some new
  pub link : l ≡ Some next
  pub low : TileV (with_now v new) ≡ m.low
  pub high : LinkV next ≡ m.high

both_rows : (v : TileView) (t : Option TileState) (l : Option LinkView) (m : Met) → met_by (option_map TileV (now_by v t)) (option_map LinkV l) ≡ Some m → Both v t l m
both_rows v t l m e =
    let rows = met_rows (option_map TileV (now_by v t)) (option_map LinkV l) m e in
    let low = mapped TileV (now_by v t) m.low rows.0 in
    let now = mapped (with_now v) t low.0 low.1 in
    let high = mapped LinkV l m.high rows.1 in
    record { new = now.0; next = high.0; tile = now.1; link = high.1; low = ap TileV now.2 ∙ low.2; high = high.2 }

pair_is : (w : WorldView) (p q : ℕ) (new : TileView) (next : LinkView) (m : Met) → TileV new ≡ m.low → LinkV next ≡ m.high → with_part (with_tile w p new) q (LinkV next) ≡ with_both w p q m
pair_is w p q new next m low high = λ i. with_both w p q (record { low = low i; high = high i })

-- ---- links

-- a packet more at the end
pub put_is : (k : Packet) (x y : LinkView) → put_in k x ≡ Some y → y.packets ≡ x.packets ++ k ∷ []
put_is k x y e =
    let yes = taken _ (Some (record { packets = x.packets ++ k ∷ []; capacity = x.capacity })) y e in
    sym (ap (λ (o : Option LinkView). (unwrap_or o y).packets) yes.1)

pub put_more : (f : Letter → ℕ) (c : Board) (n : ShapeNumbers) (reach : Reach) (k : Packet) (x y : LinkView) → put_in k x ≡ Some y → link_w f c n reach y ≡ link_w f c n reach x + crossing_w f c n reach k
put_more f c n reach k x y e =
    let same : link_w f c n reach y ≡ sum_by (crossing_w f c n reach) (x.packets ++ k ∷ []) = ap (λ ps. sum_by (crossing_w f c n reach) ps) (put_is k x y e) in
    let a = sum_by-append (crossing_w f c n reach) x.packets (k ∷ []) in
    let b = sum_by-cons (crossing_w f c n reach) k [] in
    omega arith

-- the first one less
first_taken : (k : Packet) (ps : List Packet) (capacity : ℕ) (y : LinkView) → first_in ps ≡ Some k → rest_in capacity ps ≡ Some y → ps ≡ k ∷ y.packets
first_taken k [] capacity y front e = cc front
first_taken k (p ∷ ps) capacity y front e =
    let is : p ≡ k = ap (λ (o : Option Packet). unwrap_or o k) front in
    let rest : record { packets = ps; capacity = capacity } ≡ y = ap (λ (o : Option LinkView). unwrap_or o y) e in
    ap (λ a. a ∷ ps) is ∙ ap (λ (z : LinkView). k ∷ z.packets) rest

pub take_is : (k : Packet) (x y : LinkView) → front_of x ≡ Some k → take_from x ≡ Some y → x.packets ≡ k ∷ y.packets
take_is k x y front e = first_taken k x.packets x.capacity y front e

pub take_less : (f : Letter → ℕ) (c : Board) (n : ShapeNumbers) (reach : Reach) (k : Packet) (x y : LinkView) → front_of x ≡ Some k → take_from x ≡ Some y → link_w f c n reach x ≡ link_w f c n reach y + crossing_w f c n reach k
take_less f c n reach k x y front e =
    let a : link_w f c n reach x ≡ sum_by (crossing_w f c n reach) (k ∷ y.packets) = ap (λ ps. sum_by (crossing_w f c n reach) ps) (take_is k x y front e) in
    let b = sum_by-cons (crossing_w f c n reach) k y.packets in
    omega arith

-- ---- the boards of packets on links

home_joined : (b : Board) (ps qs : List Packet) → AllByRecursion (Homed b) ps → AllByRecursion (Homed b) qs → AllByRecursion (Homed b) (ps ++ qs)
home_joined b [] qs p q = q
home_joined b (k ∷ ps) qs p q = (p.0, home_joined b ps qs p.1 q)

for_host_joined : (n : ShapeNumbers) (ps qs : List Packet) → AllByRecursion (IsForHost n) ps → AllByRecursion (IsForHost n) qs → AllByRecursion (IsForHost n) (ps ++ qs)
for_host_joined n [] qs p q = q
for_host_joined n (k ∷ ps) qs p q = (p.0, for_host_joined n ps qs p.1 q)

pub home_put : (n : ShapeNumbers) (q : ℕ) (k : Packet) (x y : LinkView) → put_in k x ≡ Some y → GoodLink n q x → (leads_to_tile n (kind_of n q) ≡ true → Homed (link_board n q) k) → (leads_to_host n (kind_of n q) ≡ true → IsForHost n k) → GoodLink n q y
home_put n q k x y e good at for_host = record {
  home = λ leads. subst (AllByRecursion (Homed (link_board n q))) (sym (put_is k x y e)) (home_joined (link_board n q) x.packets (k ∷ []) (good.home leads) (at leads, tt));
  host = λ leads. subst (AllByRecursion (IsForHost n)) (sym (put_is k x y e)) (for_host_joined n x.packets (k ∷ []) (good.host leads) (for_host leads, tt));
}

-- what a link that loses its first packet tells of it, and what still holds of the link
pub record Taking (n : ShapeNumbers) (q : ℕ) (k : Packet) (y : LinkView) : Type 0 where
  pub homed : leads_to_tile n (kind_of n q) ≡ true → Homed (link_board n q) k
  pub for_host : leads_to_host n (kind_of n q) ≡ true → IsForHost n k
  pub good : GoodLink n q y

pub home_take : (n : ShapeNumbers) (q : ℕ) (k : Packet) (x y : LinkView) → front_of x ≡ Some k → take_from x ≡ Some y → GoodLink n q x → Taking n q k y
home_take n q k x y front e good =
    let all : leads_to_tile n (kind_of n q) ≡ true → AllByRecursion (Homed (link_board n q)) (k ∷ y.packets) = λ leads. subst (AllByRecursion (Homed (link_board n q))) (take_is k x y front e) (good.home leads) in
    let hosts : leads_to_host n (kind_of n q) ≡ true → AllByRecursion (IsForHost n) (k ∷ y.packets) = λ leads. subst (AllByRecursion (IsForHost n)) (take_is k x y front e) (good.host leads) in
    record { homed = λ leads. (all leads).0; for_host = λ leads. (hosts leads).0; good = record { home = λ leads. (all leads).1; host = λ leads. (hosts leads).1 } }

by_board : (f : Letter → ℕ) (b c : Board) (n : ShapeNumbers) (reach : Reach) (k : Packet) (d : Dest) → (is_keyed d ≡ true → b ≡ c) →
    sum_by f (letters_from b n reach k.origin k.number d k.bytes) ≡ sum_by f (letters_from c n reach k.origin k.number d k.bytes)
by_board f b c n reach k (dest.Thread t) h = refl
by_board f b c n reach k dest.Host h = refl
by_board f b c n reach k (dest.Mask tile mask) h = refl
by_board f b c n reach k (dest.Key key) h = ap (λ (x : Board). sum_by f (letters_from x n reach k.origin k.number (dest.Key key) k.bytes)) (h refl)

-- a packet of the machine weighs on a link what it weighs on a tile, where its key is looked up at one board
crossing_weighs : (f : Letter → ℕ) (c : Board) (n : ShapeNumbers) (reach : Reach) (k : Packet) → IsTrue (has_packet n k) → Homed c k → crossing_w f c n reach k ≡ packet_w f n reach (Some k)
crossing_weighs f c n reach k fits home =
    ap (λ b. cond b (sum_by f (letters_from c n reach k.origin k.number k.dest k.bytes)) 0) fits ∙ by_board f c (board_of k.origin) n reach k k.dest (λ keyed. sym (home keyed))

-- ---- a departure

not_held : (held : Bool) (o : Option Packet) (k : Packet) → cond held None o ≡ Some k → o ≡ Some k
not_held true o k e = cc e
not_held false o k e = e

out_less : (f : Letter → ℕ) (n : ShapeNumbers) (reach : Reach) (way : Port) (k : Packet) (out : Ports Packet) → at way out ≡ Some k → buffers_w f n reach out ≡ packet_w f n reach (Some k) + buffers_w f n reach (with_at way None out)
out_less f n reach way k out e =
    let a = ports_set (λ way. packet_w f n reach) way None out (λ here. let no : None ≡ Some k = sym (ap (λ x. at x out) here) ∙ e in cc no) in
    let z : packet_w f n reach (at way out) ≡ packet_w f n reach (Some k) = ap (packet_w f n reach) e in
    omega arith

-- the tile after its packet for this way is gone
abbrev pub sent_off : Port → TileState → TileState
sent_off way s = with_node s (departed way s.node)

off_drops : (w : WorldView) (v : TileView) (way : Port) (k : Packet) (p : ℕ) → GoodTile w.shape p v → at way v.now.node.out ≡ Some k → Drops w v (sent_off way v.now) [] nothing (of_packet v.plan.shape (reach_of w) k)
off_drops w v way k p t e = record {
  weighs = λ f. let b = out_less f v.plan.shape (reach_of w) way k v.now.node.out e in omega arith;
  holds = λ j. refl;
  threads = refl;
  fits = let f = out_fit v.plan v.now way None tt t.shaped.fits in record { threads = f.threads; pool = f.pool; pending = f.pending; out = f.out };
  kept = t.kept;
  dropped = omega arith;
  home = home_way (board_of v.plan.tile) v.now.pending v.now.node.out way None tt t.home;
}

departed_by : (o : Option Packet) (way : Port) (n new : Node) → departed_with o way n ≡ Some new → departed way n ≡ new
departed_by None way n new e = cc e
departed_by (Some p) way n new e =
    let yes = taken (int_lt n.counter (pos (2 ^ 63) -ℤ pos 1)) (Some (departed way n)) new e in
    ap (λ (o : Option Node). unwrap_or o new) yes.1

-- the tile's state after a departure
depart_is : (way : Port) (s : TileState) (new : TileState) → depart_row way s ≡ Some new → sent_off way s ≡ new
depart_is way s new e =
    let m = mapped (with_node s) (node_departs way s.node) new e in
    ap (with_node s) (departed_by (offered way s.node) way s.node m.0 m.1) ∙ m.2

depart_reached : (got : ℕ → List Letter) (dropped : List Letter) (w : WorldView) (p q : ℕ) (v : TileView) (new : TileState) (x y : LinkView) (way : Port) (k : Packet) → Good w → On w p v → OnLink w q x → link_board w.shape q ≡ board_of v.plan.tile → (leads_to_host w.shape (kind_of w.shape q) ≡ true → ⊥) →
    offered way v.now.node ≡ Some k → depart_row way v.now ≡ Some new → put_in k x ≡ Some y → Reached got dropped w [] (with_part (with_tile w p (with_now v new)) q (LinkV y))
depart_reached got dropped w p q v new x y way k good on off board elsewhere offer row put =
    let t = tile_on w p v good on in
    let there : at way v.now.node.out ≡ Some k = not_held v.now.node.held (at way v.now.node.out) k offer in
    let fits : IsTrue (has_packet v.plan.shape k) = (subst (λ (o : Option Packet). MatchOption o (Unit {0}) (λ p. IsPacket v.plan.shape p × IsTrue (has_way way))) there (t.shaped.fits.out way)).0 in
    let home : Homed (link_board w.shape q) k = λ keyed. subst (AtHome (board_of v.plan.tile)) there (t.home.goes_on way) keyed ∙ sym board in
    let d : Drops w v new [] nothing (of_packet v.plan.shape (reach_of w) k) = subst (λ z. Drops w v z [] nothing (of_packet v.plan.shape (reach_of w) k)) (depart_is way v.now new row) (off_drops w v way k p t there) in
    let b = pair_becomes w p q v new x y [] nothing (of_packet v.plan.shape (reach_of w) k) good on off d (home_put w.shape q k x y put (part_on w q (LinkV x) good off) (λ leads. home) (λ leads. absurd (elsewhere leads)))
    (λ f.
    let more = put_more f (link_board w.shape q) w.shape (reach_of w) k x y put in
    let weighs = crossing_weighs f (link_board w.shape q) v.plan.shape (reach_of w) k fits home in
    let same : crossing_w f (link_board w.shape q) v.plan.shape (reach_of w) k ≡ crossing_w f (link_board w.shape q) w.shape (reach_of w) k = ap (λ n. crossing_w f (link_board w.shape q) n (reach_of w) k) t.shape in
    omega arith) in
    becomes_reached got dropped w (with_part (with_tile w p (with_now v new)) q (LinkV y)) [] refl b tt

depart_by : (got : ℕ → List Letter) (dropped : List Letter) (w : WorldView) (p q : ℕ) (v : TileView) (x : LinkView) (m : Met) (here there : PartId) (o : Option Packet) → Good w → On w p v → OnLink w q x → link_board w.shape q ≡ board_of v.plan.tile → (leads_to_host w.shape (kind_of w.shape q) ≡ true → ⊥) → offered (link_way v.plan.shape there.0) v.now.node ≡ o →
    met_with (event.Depart here there) (TileV v) (LinkV x) (option_map crossing.Packet o) ≡ Some m → Reached got dropped w [] (with_both w p q m)
depart_by got dropped w p q v x m here there None good on off board elsewhere offer is = cc is
depart_by got dropped w p q v x m here there (Some k) good on off board elsewhere offer is =
    let way : Port = link_way v.plan.shape there.0 in
    let b = both_rows v (option_map (with_node v.now) (give_row way k v.now.node)) (put_in k x) m is in
    let row : depart_row way v.now ≡ Some b.new = sym (ap (λ o. option_map (with_node v.now) o) (given way k v.now.node offer)) ∙ b.tile in
    subst (λ (z : WorldView). Reached got dropped w [] z) (pair_is w p q (with_now v b.new) b.next m b.low b.high)
    (depart_reached got dropped w p q v b.new x b.next way k good on off board elsewhere offer row b.link)

pub departure_reached : (got : ℕ → List Letter) (dropped : List Letter) (w : WorldView) (p q : ℕ) (v : TileView) (x : LinkView) (m : Met) (here there : PartId) → Good w → On w p v → OnLink w q x → link_board w.shape q ≡ board_of v.plan.tile → (leads_to_host w.shape (kind_of w.shape q) ≡ true → ⊥) →
    met_with (event.Depart here there) (TileV v) (LinkV x) (option_map crossing.Packet (offered (link_way v.plan.shape there.0) v.now.node)) ≡ Some m → Reached got dropped w [] (with_both w p q m)
departure_reached got dropped w p q v x m here there good on off board elsewhere is = depart_by got dropped w p q v x m here there (offered (link_way v.plan.shape there.0) v.now.node) good on off board elsewhere refl is

-- ---- an arrival

-- the tile took the packet, and what it counts of links is another
pub record Taken (k : Packet) (v : TileView) (new : TileState) : Type 0 where
  pub fits : IsTrue (has_packet v.plan.shape k)
  pub mid : TileState
  pub passes : passed v.plan k v.now ≡ Some mid
  pub is : came mid ≡ new

accepted_is : (k : Packet) (v : TileView) (new : TileState) → accept_row v.plan k v.now ≡ Some new → Taken k v new
accepted_is k v new e =
    let yes = taken _ (option_map came (accepted v.plan k v.now)) new e in
    let some = mapped came (accepted v.plan k v.now) new yes.1 in
    let fits = taken (has_packet v.plan.shape k) (passed v.plan k v.now) some.0 some.1 in
    record { fits = fits.0; mid = some.0; passes = fits.1; is = some.2 }

arrived_drops : (w : WorldView) (v : TileView) (mid : TileState) (ls : List Letter) (came_in gone : (Letter → ℕ) → ℕ) → Drops w v mid ls came_in gone → Drops w v (came mid) ls came_in gone
arrived_drops w v mid ls came_in gone d = record {
  weighs = d.weighs;
  holds = d.holds;
  threads = d.threads;
  fits = record { threads = d.fits.threads; pool = d.fits.pool; pending = d.fits.pending; out = d.fits.out };
  kept = d.kept;
  dropped = d.dropped;
  home = d.home;
}

arrive_reached : (got : ℕ → List Letter) (dropped : List Letter) (w : WorldView) (p q : ℕ) (v : TileView) (new : TileState) (x y : LinkView) (k : Packet) → Good w → On w p v → OnLink w q x → link_board w.shape q ≡ board_of v.plan.tile → leads_to_tile w.shape (kind_of w.shape q) ≡ true →
    front_of x ≡ Some k → accept_row v.plan k v.now ≡ Some new → take_from x ≡ Some y → Reached got dropped w (delivery_steps (reach_of w) (Some k) v) (with_part (with_tile w p (with_now v new)) q (LinkV y))
arrive_reached got dropped w p q v new x y k good on off board leads front row take =
    let t = tile_on w p v good on in
    let ls : List Letter = dropped_letters w k v in
    let a = accepted_is k v new row in
    let homes = home_take w.shape q k x y front take (part_on w q (LinkV x) good off) in
    let home : Homed (link_board w.shape q) k = homes.homed leads in
    let passes = packet_passes w p v a.mid k good.limits t a.fits (λ keyed. home keyed ∙ board) a.passes in
    let d : Drops w v new ls (of_packet v.plan.shape (reach_of w) k) nothing = subst (λ z. Drops w v z ls (of_packet v.plan.shape (reach_of w) k) nothing) a.is (arrived_drops w v a.mid ls (of_packet v.plan.shape (reach_of w) k) nothing passes.drops) in
    let there : WorldView = with_part (with_tile w p (with_now v new)) q (LinkV y) in
    let b : Becomes w there ls = pair_becomes w p q v new x y ls (of_packet v.plan.shape (reach_of w) k) nothing good on off d homes.good
    (λ f.
    let less = take_less f (link_board w.shape q) w.shape (reach_of w) k x y front take in
    let weighs = crossing_weighs f (link_board w.shape q) v.plan.shape (reach_of w) k a.fits home in
    let same : crossing_w f (link_board w.shape q) v.plan.shape (reach_of w) k ≡ crossing_w f (link_board w.shape q) w.shape (reach_of w) k = ap (λ n. crossing_w f (link_board w.shape q) n (reach_of w) k) t.shape in
    omega arith) in
    subst (λ (steps : List BagStep). Reached got dropped w steps there) (discards_are w k v)
    (becomes_reached got dropped w there ls refl b (passes.dead got dropped there (threads_stay w there p v ls on b)))

arrive_by : (got : ℕ → List Letter) (dropped : List Letter) (w : WorldView) (p q : ℕ) (v : TileView) (x : LinkView) (m : Met) (there here : PartId) (o : Option Packet) → Good w → On w p v → OnLink w q x → link_board w.shape q ≡ board_of v.plan.tile → leads_to_tile w.shape (kind_of w.shape q) ≡ true → front_of x ≡ o →
    met_with (event.Arrive there here) (TileV v) (LinkV x) (option_map crossing.Packet o) ≡ Some m → Reached got dropped w (delivery_steps (reach_of w) o v) (with_both w p q m)
arrive_by got dropped w p q v x m there here None good on off board leads front is = cc is
arrive_by got dropped w p q v x m there here (Some k) good on off board leads front is =
    let b = both_rows v (accept_row v.plan k v.now) (cond (is_packet k (front_of x)) (take_from x) None) m is in
    let take = taken (is_packet k (front_of x)) (take_from x) b.next b.link in
    subst (λ (z : WorldView). Reached got dropped w (delivery_steps (reach_of w) (Some k) v) z) (pair_is w p q (with_now v b.new) b.next m b.low b.high)
    (arrive_reached got dropped w p q v b.new x b.next k good on off board leads front b.tile take.1)

pub arrival_reached : (got : ℕ → List Letter) (dropped : List Letter) (w : WorldView) (p q : ℕ) (v : TileView) (x : LinkView) (m : Met) (there here : PartId) → Good w → On w p v → OnLink w q x → link_board w.shape q ≡ board_of v.plan.tile → leads_to_tile w.shape (kind_of w.shape q) ≡ true →
    met_with (event.Arrive there here) (TileV v) (LinkV x) (option_map crossing.Packet (front_of x)) ≡ Some m → Reached got dropped w (delivery_steps (reach_of w) (front_of x) v) (with_both w p q m)
arrival_reached got dropped w p q v x m there here good on off board leads is = arrive_by got dropped w p q v x m there here (front_of x) good on off board leads refl is
