-- Events on two parts: what their rows give.
use Rattle.std.proofs.Common.{ℕ, ◌≡◌, ◌&&◌, Bool, true, false, cond, List, [], ◌∷◌, length, ltb, refl, sym, ap, ◌∙◌, Option, Some, None, is_some, option_map, unwrap_or}
use Rattle.tn_base.specs.declared.event.Event.{Event}
use Rattle.tn_base.specs.declared.event.Event.TheVariants as event
use Rattle.tn_base.specs.declared.ids.PartId.{PartId}
use Rattle.tn_base.specs.declared.message.Packet.{Packet}
use Rattle.tn_host.specs.HostView.{HostState}
use Rattle.tn_host.specs.Rows.{can_depart as can_put_at, departed as host_departed, offered as host_offers, take_row, took}
use Rattle.tn_host.proofs.Puts.{put_given}
use Rattle.tn_link.specs.LinkRows.{first_in, front_of, put_in, rest_in, take_from}
use Rattle.tn_link.specs.LinkView.{LinkView}
use Rattle.tn_stamp.specs.declared.entry.Crossing.{Crossing}
use Rattle.tn_stamp.specs.declared.entry.Crossing.TheVariants as crossing
use Rattle.tn_node.specs.NodeRows.{can_arrive as can_arrive_at, departed_with, offered}
use Rattle.tn_node.proofs.Given.{given, gives}
use Rattle.tn_tile.specs.Rows.{accept_row, depart_row, with_node}
use Rattle.tn_tile.specs.declared.state.TileState.{TileState}
use Rattle.tn_tile.specs.TileView.{TileView, now_by}
use Rattle.tn_router.specs.declared.state.RouterState.{RouterState}
use Rattle.tn_router.specs.RouterView.{RouterView, now_by as router_now_by}
use Rattle.tn_router.specs.Rows.{accept_row as router_accepts, depart_row as router_departs, with_node as router_with_node}
use Rattle.tn_rows.specs.Events.{Met, after, crossing_of, given_to, meets, met_by, met_with}
use Rattle.tn_rows.specs.PartView.{PartView, TileV, RouterV, LinkV, HostV}
use Rattle.tn_rows.specs.Places.{link_side, link_way}

-- ---- rows of both parts

pub none_is : {A : Type 0} (o : Option A) → is_some o ≡ false → o ≡ None
none_is None e = refl
none_is (Some x) e = cc e

-- what gives something after a function gave something before it
pub mapped : {A B : Type 0} (f : A → B) (o : Option A) (y : B) → option_map f o ≡ Some y → (x : A) × (o ≡ Some x) × (f x ≡ y)
mapped f None y e = cc e
mapped f (Some x) y e = (x, refl, ap (λ o. unwrap_or o y) e)

pub met_rows : (a b : Option PartView) (m : Met) → met_by a b ≡ Some m → (a ≡ Some m.low) × (b ≡ Some m.high)
met_rows (Some low) (Some high) m e =
    let is : record { low = low; high = high } ≡ m = ap (λ (o : Option Met). unwrap_or o m) e in
    (ap (λ (x : Met). Some x.low) is, ap (λ (x : Met). Some x.high) is)
met_rows (Some low) None m e = cc e
met_rows None b m e = cc e

-- an event on two parts is the row of each, with one crossing
pub record Meeting (e : Event) (low high : PartView) (m : Met) : Type 0 where
  pub crossing : Crossing
  pub low_row : after e crossing low ≡ Some m.low
  pub high_row : after e crossing high ≡ Some m.high

meeting_with : (e : Event) (low high : PartView) (o : Option Crossing) (m : Met) → met_with e low high o ≡ Some m → Meeting e low high m
meeting_with e low high None m h = cc h
meeting_with e low high (Some c) m h =
    let rows = met_rows (after e c low) (after e c high) m h in
    record { crossing = c; low_row = rows.0; high_row = rows.1 }

pub meeting : (e : Event) (low high : PartView) (m : Met) → meets e low high ≡ Some m → Meeting e low high m
meeting e low high m h = meeting_with e low high (crossing_of e low high) m h

-- where nothing crosses, nothing happens
pub no_crossing : (e : Event) (low high : PartView) → crossing_of e low high ≡ None → meets e low high ≡ None
no_crossing e low high h = ap (met_with e low high) h

pub some_mapped : {X Y : Type 0} (f : X → Y) (o : Option X) → is_some (option_map f o) ≡ is_some o
some_mapped f None = refl
some_mapped f (Some x) = refl

some_met : (a b : Option PartView) → is_some (met_by a b) ≡ (is_some a && is_some b)
some_met (Some a) (Some b) = refl
some_met (Some a) None = refl
some_met None b = refl

pub if_some : {X : Type 0} (b : Bool) (x : X) → is_some (cond b (Some x) None) ≡ b
if_some true x = refl
if_some false x = refl

pub and_true : (b : Bool) → (b && true) ≡ b
and_true true = refl
and_true false = refl

-- ---- a departure, by what the part gives and by its row

depart_meets : (p l : PartId) (low : PartView) (x : LinkView) (k : Packet) (row : Option PartView) → given_to l.0 low ≡ Some k → after (event.Depart p l) (crossing.Packet k) low ≡ row →
    meets (event.Depart p l) low (LinkV x) ≡ met_by row (option_map LinkV (put_in k x))
depart_meets p l low x k row e is =
    ap (λ o. met_with (event.Depart p l) low (LinkV x) (option_map crossing.Packet o)) e
    ∙ ap (λ o. met_by o (option_map LinkV (put_in k x))) is

departs : (p l : PartId) (low new : PartView) (x y : LinkView) (k : Packet) → given_to l.0 low ≡ Some k → after (event.Depart p l) (crossing.Packet k) low ≡ Some new → put_in k x ≡ Some y →
    meets (event.Depart p l) low (LinkV x) ≡ Some (record { low = new; high = LinkV y })
departs p l low new x y k e row put =
    depart_meets p l low x k (Some new) e row
    ∙ ap (λ o. met_by (Some new) (option_map LinkV o)) put

can_depart_by : (p l : PartId) (low : PartView) (x : LinkView) (row : Bool) (o : Option Packet) → given_to l.0 low ≡ o → ((k : Packet) → o ≡ Some k → is_some (after (event.Depart p l) (crossing.Packet k) low) ≡ row) → (o ≡ None → row ≡ false) →
    is_some (meets (event.Depart p l) low (LinkV x)) ≡ (row && ltb (length x.packets) x.capacity)
can_depart_by p l low x row None e some none =
    let low_not : is_some (meets (event.Depart p l) low (LinkV x)) ≡ false = ap (λ (o : Option Packet). is_some (met_with (event.Depart p l) low (LinkV x) (option_map crossing.Packet o))) e in
    let row_not : (row && ltb (length x.packets) x.capacity) ≡ false = ap (λ b. b && ltb (length x.packets) x.capacity) (none refl) in
    low_not ∙ sym row_not
can_depart_by p l low x row (Some k) e some none =
    ap (λ (m : Option Met). is_some m) (depart_meets p l low x k (after (event.Depart p l) (crossing.Packet k) low) e refl)
    ∙ some_met (after (event.Depart p l) (crossing.Packet k) low) (option_map LinkV (put_in k x))
    ∙ ap (λ b. b && is_some (option_map LinkV (put_in k x))) (some k refl)
    ∙ ap (λ b. row && b) (some_mapped LinkV (put_in k x))
    ∙ ap (λ b. row && b) (if_some (ltb (length x.packets) x.capacity) _)

-- ---- of a tile

tile_row_is : (p l : PartId) (v : TileView) (k : Packet) → offered (link_way v.plan.shape l.0) v.now.node ≡ Some k → after (event.Depart p l) (crossing.Packet k) (TileV v) ≡ option_map TileV (now_by v (depart_row (link_way v.plan.shape l.0) v.now))
tile_row_is p l v k e = ap (λ o. option_map TileV (now_by v (option_map (with_node v.now) o))) (given (link_way v.plan.shape l.0) k v.now.node e)

-- it happens
pub departed : (p l : PartId) (v w : TileView) (x y : LinkView) (k : Packet) → offered (link_way v.plan.shape l.0) v.now.node ≡ Some k → now_by v (depart_row (link_way v.plan.shape l.0) v.now) ≡ Some w → put_in k x ≡ Some y →
    meets (event.Depart p l) (TileV v) (LinkV x) ≡ Some (record { low = TileV w; high = LinkV y })
departed p l v w x y k e row put = departs p l (TileV v) (TileV w) x y k e (tile_row_is p l v k e ∙ ap (λ o. option_map TileV o) row) put

pub some_now : (v : TileView) (o : Option TileState) → is_some (option_map TileV (now_by v o)) ≡ is_some o
some_now v None = refl
some_now v (Some s) = refl

-- it can happen if the tile can give its packet and the link has room
pub can_depart : (p l : PartId) (v : TileView) (x : LinkView) →
    is_some (meets (event.Depart p l) (TileV v) (LinkV x)) ≡ (is_some (depart_row (link_way v.plan.shape l.0) v.now) && ltb (length x.packets) x.capacity)
can_depart p l v x =
    can_depart_by p l (TileV v) x (is_some (depart_row (link_way v.plan.shape l.0) v.now)) (offered (link_way v.plan.shape l.0) v.now.node) refl
    (λ k e. ap (λ (o : Option PartView). is_some o) (tile_row_is p l v k e) ∙ some_now v (depart_row (link_way v.plan.shape l.0) v.now))
    (λ e. ap (λ (o : Option Packet). is_some (option_map (with_node v.now) (departed_with o (link_way v.plan.shape l.0) v.now.node))) e)

-- ---- of a router

router_row_is : (p l : PartId) (v : RouterView) (k : Packet) → offered (link_way v.plan.shape l.0) v.now.node ≡ Some k → after (event.Depart p l) (crossing.Packet k) (RouterV v) ≡ option_map RouterV (router_now_by v (router_departs (link_way v.plan.shape l.0) v.now))
router_row_is p l v k e = ap (λ o. option_map RouterV (router_now_by v (option_map (router_with_node v.now) o))) (given (link_way v.plan.shape l.0) k v.now.node e)

pub router_departed : (p l : PartId) (v w : RouterView) (x y : LinkView) (k : Packet) → offered (link_way v.plan.shape l.0) v.now.node ≡ Some k → router_now_by v (router_departs (link_way v.plan.shape l.0) v.now) ≡ Some w → put_in k x ≡ Some y →
    meets (event.Depart p l) (RouterV v) (LinkV x) ≡ Some (record { low = RouterV w; high = LinkV y })
router_departed p l v w x y k e row put = departs p l (RouterV v) (RouterV w) x y k e (router_row_is p l v k e ∙ ap (λ o. option_map RouterV o) row) put

pub some_router : (v : RouterView) (o : Option RouterState) → is_some (option_map RouterV (router_now_by v o)) ≡ is_some o
some_router v None = refl
some_router v (Some s) = refl

pub router_can_depart : (p l : PartId) (v : RouterView) (x : LinkView) →
    is_some (meets (event.Depart p l) (RouterV v) (LinkV x)) ≡ (is_some (router_departs (link_way v.plan.shape l.0) v.now) && ltb (length x.packets) x.capacity)
router_can_depart p l v x =
    can_depart_by p l (RouterV v) x (is_some (router_departs (link_way v.plan.shape l.0) v.now)) (offered (link_way v.plan.shape l.0) v.now.node) refl
    (λ k e. ap (λ (o : Option PartView). is_some o) (router_row_is p l v k e) ∙ some_router v (router_departs (link_way v.plan.shape l.0) v.now))
    (λ e. ap (λ (o : Option Packet). is_some (option_map (router_with_node v.now) (departed_with o (link_way v.plan.shape l.0) v.now.node))) e)

-- ---- an arrival, by the row of the part that takes the packet

arrive_meets : (l p : PartId) (low : PartView) (x : LinkView) (k : Packet) → front_of x ≡ Some k →
    meets (event.Arrive l p) low (LinkV x) ≡ met_by (after (event.Arrive l p) (crossing.Packet k) low) (option_map LinkV (take_from x))
arrive_meets l p low x k e =
    ap (λ o. met_with (event.Arrive l p) low (LinkV x) (option_map crossing.Packet o)) e
    ∙ ap (λ o. met_by (after (event.Arrive l p) (crossing.Packet k) low) (option_map LinkV o)) (gives (front_of x) k (take_from x) e)

-- it happens
pub arrives : (l p : PartId) (low new : PartView) (x y : LinkView) (k : Packet) → front_of x ≡ Some k → after (event.Arrive l p) (crossing.Packet k) low ≡ Some new → take_from x ≡ Some y →
    meets (event.Arrive l p) low (LinkV x) ≡ Some (record { low = new; high = LinkV y })
arrives l p low new x y k e row taken =
    arrive_meets l p low x k e
    ∙ ap (λ o. met_by o (option_map LinkV (take_from x))) row
    ∙ ap (λ o. met_by (Some new) (option_map LinkV o)) taken

rest_some : (ps : List Packet) (k : Packet) (capacity : ℕ) → first_in ps ≡ Some k → is_some (rest_in capacity ps) ≡ true
rest_some [] k capacity e = cc e
rest_some (p ∷ ps) k capacity e = refl

-- and it can, where the part takes the link's first packet
can_arrive_by : (l p : PartId) (low : PartView) (x : LinkView) (k : Packet) → front_of x ≡ Some k →
    is_some (meets (event.Arrive l p) low (LinkV x)) ≡ is_some (after (event.Arrive l p) (crossing.Packet k) low)
can_arrive_by l p low x k e =
    ap (λ (m : Option Met). is_some m) (arrive_meets l p low x k e)
    ∙ some_met (after (event.Arrive l p) (crossing.Packet k) low) (option_map LinkV (take_from x))
    ∙ ap (λ b. is_some (after (event.Arrive l p) (crossing.Packet k) low) && b) (some_mapped LinkV (take_from x))
    ∙ ap (λ b. is_some (after (event.Arrive l p) (crossing.Packet k) low) && b) (rest_some x.packets k x.capacity e)
    ∙ and_true (is_some (after (event.Arrive l p) (crossing.Packet k) low))

-- ---- at a tile

pub can_arrive : (l p : PartId) (v : TileView) (x : LinkView) (k : Packet) → front_of x ≡ Some k →
    is_some (meets (event.Arrive l p) (TileV v) (LinkV x)) ≡ is_some (accept_row v.plan k v.now)
can_arrive l p v x k e = can_arrive_by l p (TileV v) x k e ∙ some_now v (accept_row v.plan k v.now)

pub cannot_arrive : (l p : PartId) (v : TileView) (x : LinkView) (k : Packet) → front_of x ≡ Some k → is_some (accept_row v.plan k v.now) ≡ false → meets (event.Arrive l p) (TileV v) (LinkV x) ≡ None
cannot_arrive l p v x k e not = none_is (meets (event.Arrive l p) (TileV v) (LinkV x)) (can_arrive l p v x k e ∙ not)

-- ---- at a router

pub router_can_arrive : (l p : PartId) (v : RouterView) (x : LinkView) (k : Packet) → front_of x ≡ Some k →
    is_some (meets (event.Arrive l p) (RouterV v) (LinkV x)) ≡ is_some (router_accepts v.plan (link_side v.plan.shape l.0) k v.now)
router_can_arrive l p v x k e = can_arrive_by l p (RouterV v) x k e ∙ some_router v (router_accepts v.plan (link_side v.plan.shape l.0) k v.now)

pub router_cannot_arrive : (l p : PartId) (v : RouterView) (x : LinkView) (k : Packet) → front_of x ≡ Some k → is_some (router_accepts v.plan (link_side v.plan.shape l.0) k v.now) ≡ false → meets (event.Arrive l p) (RouterV v) (LinkV x) ≡ None
router_cannot_arrive l p v x k e not = none_is (meets (event.Arrive l p) (RouterV v) (LinkV x)) (router_can_arrive l p v x k e ∙ not)

-- ---- the host puts a packet

host_row_is : (s : HostState) (k : Packet) → host_offers s ≡ Some k → after event.HostPut (crossing.Packet k) (HostV s) ≡ option_map HostV (cond (can_put_at s.node) (Some (host_departed s)) None)
host_row_is s k e = ap (λ o. option_map HostV o) (put_given k s e)

host_meets : (s : HostState) (x : LinkView) (k : Packet) → host_offers s ≡ Some k →
    meets event.HostPut (HostV s) (LinkV x) ≡ met_by (option_map HostV (cond (can_put_at s.node) (Some (host_departed s)) None)) (option_map LinkV (put_in k x))
host_meets s x k e =
    ap (λ o. met_with event.HostPut (HostV s) (LinkV x) (option_map crossing.Packet o)) e
    ∙ ap (λ o. met_by o (option_map LinkV (put_in k x))) (host_row_is s k e)

-- it happens
pub puts : (s : HostState) (x y : LinkView) (k : Packet) → host_offers s ≡ Some k → can_put_at s.node ≡ true → put_in k x ≡ Some y →
    meets event.HostPut (HostV s) (LinkV x) ≡ Some (record { low = HostV (host_departed s); high = LinkV y })
puts s x y k e counts put =
    host_meets s x k e
    ∙ ap (λ b. met_by (option_map HostV (cond b (Some (host_departed s)) None)) (option_map LinkV (put_in k x))) counts
    ∙ ap (λ o. met_by (Some (HostV (host_departed s))) (option_map LinkV o)) put

-- it can happen if the host offers a packet that can be counted, and the link has room
can_put_by : (s : HostState) (x : LinkView) (o : Option Packet) → host_offers s ≡ o →
    is_some (meets event.HostPut (HostV s) (LinkV x)) ≡ (is_some o && can_put_at s.node && ltb (length x.packets) x.capacity)
can_put_by s x None e = ap (λ (o : Option Packet). is_some (met_with event.HostPut (HostV s) (LinkV x) (option_map crossing.Packet o))) e
can_put_by s x (Some k) e =
    ap (λ (m : Option Met). is_some m) (host_meets s x k e)
    ∙ some_met (option_map HostV (cond (can_put_at s.node) (Some (host_departed s)) None)) (option_map LinkV (put_in k x))
    ∙ ap (λ b. b && is_some (option_map LinkV (put_in k x))) (some_mapped HostV (cond (can_put_at s.node) (Some (host_departed s)) None) ∙ if_some (can_put_at s.node) (host_departed s))
    ∙ ap (λ b. can_put_at s.node && b) (some_mapped LinkV (put_in k x) ∙ if_some (ltb (length x.packets) x.capacity) _)

pub can_put : (s : HostState) (x : LinkView) →
    is_some (meets event.HostPut (HostV s) (LinkV x)) ≡ (is_some (host_offers s) && can_put_at s.node && ltb (length x.packets) x.capacity)
can_put s x = can_put_by s x (host_offers s) refl

-- ---- the host takes a packet

take_meets : (s : HostState) (x : LinkView) (k : Packet) → front_of x ≡ Some k →
    meets event.HostTake (HostV s) (LinkV x) ≡ met_by (option_map HostV (take_row k s)) (option_map LinkV (take_from x))
take_meets s x k e =
    ap (λ o. met_with event.HostTake (HostV s) (LinkV x) (option_map crossing.Packet o)) e
    ∙ ap (λ o. met_by (option_map HostV (take_row k s)) (option_map LinkV o)) (gives (front_of x) k (take_from x) e)

-- it happens
pub takes : (s : HostState) (x y : LinkView) (k : Packet) → front_of x ≡ Some k → can_arrive_at s.node ≡ true → take_from x ≡ Some y →
    meets event.HostTake (HostV s) (LinkV x) ≡ Some (record { low = HostV (took k s); high = LinkV y })
takes s x y k e counts taken =
    take_meets s x k e
    ∙ ap (λ b. met_by (option_map HostV (cond b (Some (took k s)) None)) (option_map LinkV (take_from x))) counts
    ∙ ap (λ o. met_by (Some (HostV (took k s))) (option_map LinkV o)) taken

-- it can happen if the link has a packet, which can be counted
can_take_by : (s : HostState) (x : LinkView) (o : Option Packet) → front_of x ≡ o → is_some (meets event.HostTake (HostV s) (LinkV x)) ≡ (is_some o && can_arrive_at s.node)
can_take_by s x None e = ap (λ (o : Option Packet). is_some (met_with event.HostTake (HostV s) (LinkV x) (option_map crossing.Packet o))) e
can_take_by s x (Some k) e =
    ap (λ (m : Option Met). is_some m) (take_meets s x k e)
    ∙ some_met (option_map HostV (take_row k s)) (option_map LinkV (take_from x))
    ∙ ap (λ b. b && is_some (option_map LinkV (take_from x))) (some_mapped HostV (take_row k s) ∙ if_some (can_arrive_at s.node) (took k s))
    ∙ ap (λ b. can_arrive_at s.node && b) (some_mapped LinkV (take_from x) ∙ rest_some x.packets k x.capacity e)
    ∙ and_true (can_arrive_at s.node)

pub can_take : (s : HostState) (x : LinkView) → is_some (meets event.HostTake (HostV s) (LinkV x)) ≡ (is_some (front_of x) && can_arrive_at s.node)
can_take s x = can_take_by s x (front_of x) refl
