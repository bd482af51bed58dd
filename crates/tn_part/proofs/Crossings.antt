-- What calls on a tile or a router and a link leave.
use Rattle.std.proofs.Common.{◌≡◌, ◌∙◌, ℕ, Bool, true, false, None, Some, refl, ap, subst, sym, length, is_some, is_ok, is_err, ltb, option_map, ◌&&◌, ◌^◌}
use Rattle.std.specs.Int.{w64}
use Rattle.std.specs.Int.RustNames.{FitsSigned}
use Rattle.std.specs.Prelude.{ℤ, int_lt, neg_ℤ, pos}
use Rattle.std.proofs.lemmas.Bool.{and_parts}
use Rattle.std.proofs.lemmas.Int.{to_z-of_z}
use mir.Val.{of_z, to_z}
use Rattle.std.specs.declared.option.Option.{Option}
use Rattle.std.specs.declared.result.Result.{Result}
use Rattle.std.specs.declared.result.Result.TheVariants.{Ok, Err}
use Rattle.tn_base.specs.declared.event.Event.TheVariants as event
use Rattle.tn_base.specs.declared.ids.PartId.{PartId}
use Rattle.tn_base.specs.declared.port.Port.{Port}
use Rattle.tn_base.specs.Does.{Does}
use Rattle.tn_base.specs.declared.message.Packet.{Packet}
use Rattle.tn_link.specs.LinkRows.{front_of, put_in, take_from}
use Rattle.tn_link.specs.LinkView.{LinkView}
use Rattle.tn_host.specs.HostView.{HostState}
use Rattle.tn_host.specs.Rows.{can_depart as can_put_at, departed as host_departed, offered as host_offers, took}
use Rattle.tn_node.specs.NodeRows.{can_arrive as can_take_at, offered}
use Rattle.tn_router.specs.declared.state.RouterState.{RouterState}
use Rattle.tn_router.specs.RouterView.{RouterPlan, RouterView, now_by as router_now_by}
use Rattle.tn_router.specs.Rows.{accept_row as router_accepts, can_accept, depart_row as router_departs, received as router_received}
use Rattle.tn_rows.proofs.Meeting.{and_true, arrives, can_depart, can_put as host_can_put, can_take as host_can_take, departed, if_some, puts as host_puts, takes as host_takes, router_can_arrive, router_can_depart, router_cannot_arrive, router_departed, some_mapped}
use Rattle.tn_tile.specs.Rows.{accept_row, accepted, came, can_count, depart_row}
use Rattle.tn_tile.specs.declared.state.TileState.{TileState}
use Rattle.tn_tile.specs.TileView.{TilePlan, TileView, now_by}
use Rattle.tn_stamp.specs.declared.entry.Crossing.TheVariants as crossing
use Rattle.tn_rows.specs.Events.{Met, after, meets}
use Rattle.tn_rows.specs.PartView.{PartView, TileV, RouterV, LinkV, HostV}
use Rattle.tn_rows.specs.Places.{link_side, link_way}
use Rattle.tn_part.specs.Joint.{DoesBoth}

pub did_both : (row : Option Met) (low high low' high' : PartView) → row ≡ Some (record { low = low'; high = high' }) → DoesBoth true row low high low' high'
did_both row low high low' high' e = subst (λ o. DoesBoth true o low high low' high') (sym e) (refl, refl, refl)

pub did_nothing : (row : Option Met) (low high low' high' : PartView) → row ≡ None → low' ≡ low → high' ≡ high → DoesBoth false row low high low' high'
did_nothing row low high low' high' e a b = subst (λ o. DoesBoth false o low high low' high') (sym e) (refl, a, b)

pub does_some : {V : Type 0} (h : Bool) (row : Option V) (old new : V) → h ≡ true → Does h row old new → row ≡ Some new
does_some h None old new t d = let e : true ≡ false = sym t ∙ d.0 in cc e
does_some h (Some v) old new t d = ap (λ x. Some x) (sym d.1)

-- what a call does on what a part is, it does on the part
pub does_mapped : {A B : Type 0} (f : A → B) (h : Bool) (o : Option A) (old new : A) → Does h o old new → Does h (option_map f o) (f old) (f new)
does_mapped f h None old new d = (d.0, ap f d.1)
does_mapped f h (Some v) old new d = (d.0, ap f d.1)

pub ok_if : {A B : Type 0} (r : Result A B) → is_err r ≡ false → is_ok r ≡ true
ok_if (Ok x) e = refl
ok_if (Err x) e = cc e

-- a departure of a tile
pub departed_tile : (p l : PartId) (way : Port) (v w : TileView) (x y : LinkView) (k : Packet) (ok : Bool) → way ≡ link_way v.plan.shape l.0 → Some k ≡ offered way v.now.node → ok ≡ true → Does ok (put_in k x) x y → now_by v (depart_row way v.now) ≡ Some w →
    DoesBoth true (meets (event.Depart p l) (TileV v) (LinkV x)) (TileV v) (LinkV x) (TileV w) (LinkV y)
departed_tile p l way v w x y k ok is offer put does row =
    did_both (meets (event.Depart p l) (TileV v) (LinkV x)) (TileV v) (LinkV x) (TileV w) (LinkV y)
    (departed p l v w x y k (sym (subst (λ way. Some k ≡ offered way v.now.node) is offer)) (subst (λ way. now_by v (depart_row way v.now) ≡ Some w) is row) (does_some ok (put_in k x) x y put does))

pub departs_if : (p l : PartId) (way : Port) (v : TileView) (x : LinkView) (gives : Bool) (len most : ℕ) → way ≡ link_way v.plan.shape l.0 → gives ≡ is_some (depart_row way v.now) → gives ≡ true → len ≡ length x.packets → most ≡ x.capacity →
    ltb len most ≡ is_some (meets (event.Depart p l) (TileV v) (LinkV x))
departs_if p l way v x gives len most is row yes_gives long room =
    let some : is_some (depart_row (link_way v.plan.shape l.0) v.now) ≡ true = subst (λ way. is_some (depart_row way v.now) ≡ true) is (sym row ∙ yes_gives) in
    ap (λ n. ltb n most) long ∙ ap (λ n. ltb (length x.packets) n) room
    ∙ sym (can_depart p l v x ∙ ap (λ b. b && ltb (length x.packets) x.capacity) some)

pub departs_not : (p l : PartId) (way : Port) (v : TileView) (x : LinkView) (gives : Bool) → way ≡ link_way v.plan.shape l.0 → gives ≡ is_some (depart_row way v.now) → gives ≡ false →
    false ≡ is_some (meets (event.Depart p l) (TileV v) (LinkV x))
departs_not p l way v x gives is row not_gives =
    let some : is_some (depart_row (link_way v.plan.shape l.0) v.now) ≡ false = subst (λ way. is_some (depart_row way v.now) ≡ false) is (sym row ∙ not_gives) in
    sym (can_depart p l v x ∙ ap (λ b. b && ltb (length x.packets) x.capacity) some)

-- and of a router
pub departed_router : (p l : PartId) (way : Port) (v w : RouterView) (x y : LinkView) (k : Packet) (ok : Bool) → way ≡ link_way v.plan.shape l.0 → Some k ≡ offered way v.now.node → ok ≡ true → Does ok (put_in k x) x y → router_now_by v (router_departs way v.now) ≡ Some w →
    DoesBoth true (meets (event.Depart p l) (RouterV v) (LinkV x)) (RouterV v) (LinkV x) (RouterV w) (LinkV y)
departed_router p l way v w x y k ok is offer put does row =
    did_both (meets (event.Depart p l) (RouterV v) (LinkV x)) (RouterV v) (LinkV x) (RouterV w) (LinkV y)
    (router_departed p l v w x y k (sym (subst (λ way. Some k ≡ offered way v.now.node) is offer)) (subst (λ way. router_now_by v (router_departs way v.now) ≡ Some w) is row) (does_some ok (put_in k x) x y put does))

pub router_departs_if : (p l : PartId) (way : Port) (v : RouterView) (x : LinkView) (gives : Bool) (len most : ℕ) → way ≡ link_way v.plan.shape l.0 → gives ≡ is_some (router_departs way v.now) → gives ≡ true → len ≡ length x.packets → most ≡ x.capacity →
    ltb len most ≡ is_some (meets (event.Depart p l) (RouterV v) (LinkV x))
router_departs_if p l way v x gives len most is row yes_gives long room =
    let some : is_some (router_departs (link_way v.plan.shape l.0) v.now) ≡ true = subst (λ way. is_some (router_departs way v.now) ≡ true) is (sym row ∙ yes_gives) in
    ap (λ n. ltb n most) long ∙ ap (λ n. ltb (length x.packets) n) room
    ∙ sym (router_can_depart p l v x ∙ ap (λ b. b && ltb (length x.packets) x.capacity) some)

pub router_departs_not : (p l : PartId) (way : Port) (v : RouterView) (x : LinkView) (gives : Bool) → way ≡ link_way v.plan.shape l.0 → gives ≡ is_some (router_departs way v.now) → gives ≡ false →
    false ≡ is_some (meets (event.Depart p l) (RouterV v) (LinkV x))
router_departs_not p l way v x gives is row not_gives =
    let some : is_some (router_departs (link_way v.plan.shape l.0) v.now) ≡ false = subst (λ way. is_some (router_departs way v.now) ≡ false) is (sym row ∙ not_gives) in
    sym (router_can_depart p l v x ∙ ap (λ b. b && ltb (length x.packets) x.capacity) some)

-- an arrival, by the row of the part
arrived_part : (l p : PartId) (low new : PartView) (x y : LinkView) (k : Packet) (got : Option Packet) → Some k ≡ front_of x → after (event.Arrive l p) (crossing.Packet k) low ≡ Some new → got ≡ front_of x → Does (is_some got) (take_from x) x y →
    DoesBoth true (meets (event.Arrive l p) low (LinkV x)) low (LinkV x) new (LinkV y)
arrived_part l p low new x y k got front row is does =
    did_both (meets (event.Arrive l p) low (LinkV x)) low (LinkV x) new (LinkV y)
    (arrives l p low new x y k (sym front) row (does_some (is_some got) (take_from x) x y (ap (λ (o : Option Packet). is_some o) (is ∙ sym front)) does))

pub arrived_tile : (l p : PartId) (v w : TileView) (x y : LinkView) (k : Packet) (got : Option Packet) → Some k ≡ front_of x → now_by v (accept_row v.plan k v.now) ≡ Some w → got ≡ front_of x → Does (is_some got) (take_from x) x y →
    DoesBoth true (meets (event.Arrive l p) (TileV v) (LinkV x)) (TileV v) (LinkV x) (TileV w) (LinkV y)
arrived_tile l p v w x y k got front row is does = arrived_part l p (TileV v) (TileV w) x y k got front (ap (λ o. option_map TileV o) row) is does

pub arrived_router : (l p : PartId) (side : Port) (v w : RouterView) (x y : LinkView) (k : Packet) (got : Option Packet) → side ≡ link_side v.plan.shape l.0 → Some k ≡ front_of x → router_now_by v (router_accepts v.plan side k v.now) ≡ Some w → got ≡ front_of x → Does (is_some got) (take_from x) x y →
    DoesBoth true (meets (event.Arrive l p) (RouterV v) (LinkV x)) (RouterV v) (LinkV x) (RouterV w) (LinkV y)
arrived_router l p side v w x y k got at front row is does =
    arrived_part l p (RouterV v) (RouterV w) x y k got front (ap (λ o. option_map RouterV o) (subst (λ side. router_now_by v (router_accepts v.plan side k v.now) ≡ Some w) at row)) is does

pub router_arrives_if : (l p : PartId) (side : Port) (v : RouterView) (x : LinkView) (k : Packet) (takes : Bool) → side ≡ link_side v.plan.shape l.0 → Some k ≡ front_of x → takes ≡ is_some (router_accepts v.plan side k v.now) →
    takes ≡ is_some (meets (event.Arrive l p) (RouterV v) (LinkV x))
router_arrives_if l p side v x k takes at front row =
    subst (λ side. takes ≡ is_some (router_accepts v.plan side k v.now)) at row ∙ sym (router_can_arrive l p v x k (sym front))

pub router_arrives_not : (l p : PartId) (side : Port) (v : RouterView) (x : LinkView) (k : Packet) (takes : Bool) → side ≡ link_side v.plan.shape l.0 → Some k ≡ front_of x → takes ≡ is_some (router_accepts v.plan side k v.now) → takes ≡ false →
    meets (event.Arrive l p) (RouterV v) (LinkV x) ≡ None
router_arrives_not l p side v x k takes at front row not =
    router_cannot_arrive l p v x k (sym front) (sym (subst (λ side. takes ≡ is_some (router_accepts v.plan side k v.now)) at row) ∙ not)

-- a tile takes a packet
pub takes : (plan : TilePlan) (s : TileState) (k : Packet) (z : ℤ) (r : Bool) → can_count s ≡ true → z ≡ s.node.counter → FitsSigned w64 z → int_lt (neg_ℤ (pos (2 ^ 63))) (to_z w64 (of_z w64 z)) ≡ true → r ≡ is_some (accepted plan k s) → r ≡ is_some (accept_row plan k s)
takes plan s k z r counts is fits low some =
    let here : int_lt (neg_ℤ (pos (2 ^ 63))) s.node.counter ≡ true = subst (λ x. int_lt (neg_ℤ (pos (2 ^ 63))) x ≡ true) (to_z-of_z w64 z fits ∙ is) low in
    let same : is_some (accept_row plan k s) ≡ is_some (accepted plan k s) = rw (counts, here) (some_mapped came (accepted plan k s)) in
    some ∙ sym same

-- a router takes a packet
pub receives : (plan : RouterPlan) (s : RouterState) (side : Port) (k : Packet) (z : ℤ) (r : Bool) → z ≡ s.node.counter → FitsSigned w64 z → int_lt (neg_ℤ (pos (2 ^ 63))) (to_z w64 (of_z w64 z)) ≡ true → r ≡ can_accept plan side k s → r ≡ is_some (router_accepts plan side k s)
receives plan s side k z r is fits low some =
    let here : int_lt (neg_ℤ (pos (2 ^ 63))) s.node.counter ≡ true = subst (λ x. int_lt (neg_ℤ (pos (2 ^ 63))) x ≡ true) (to_z-of_z w64 z fits ∙ is) low in
    let both : (can_accept plan side k s && int_lt (neg_ℤ (pos (2 ^ 63))) s.node.counter) ≡ can_accept plan side k s = ap (λ b. can_accept plan side k s && b) here ∙ and_true (can_accept plan side k s) in
    some ∙ sym (if_some (can_accept plan side k s && int_lt (neg_ℤ (pos (2 ^ 63))) s.node.counter) (router_received plan side k s) ∙ both)

-- ---- of the host

-- it puts a message on its link
pub put_done : (s : HostState) (x y : LinkView) (k : Packet) (ok : Bool) → Some k ≡ host_offers s → can_put_at s.node ≡ true → ok ≡ true → Does ok (put_in k x) x y →
    DoesBoth true (meets event.HostPut (HostV s) (LinkV x)) (HostV s) (LinkV x) (HostV (host_departed s)) (LinkV y)
put_done s x y k ok offer counts put does =
    did_both (meets event.HostPut (HostV s) (LinkV x)) (HostV s) (LinkV x) (HostV (host_departed s)) (LinkV y)
    (host_puts s x y k (sym offer) counts (does_some ok (put_in k x) x y put does))

pub puts_if : (s : HostState) (x : LinkView) (sends : Bool) (len most : ℕ) → sends ≡ (is_some (host_offers s) && can_put_at s.node) → sends ≡ true → len ≡ length x.packets → most ≡ x.capacity →
    ltb len most ≡ is_some (meets event.HostPut (HostV s) (LinkV x))
puts_if s x sends len most is can long room =
    ap (λ n. ltb n most) long ∙ ap (λ n. ltb (length x.packets) n) room
    ∙ sym (host_can_put s x ∙ ap (λ b. b && ltb (length x.packets) x.capacity) (sym is ∙ can))

pub puts_not : (s : HostState) (x : LinkView) (sends : Bool) → sends ≡ (is_some (host_offers s) && can_put_at s.node) → sends ≡ false → false ≡ is_some (meets event.HostPut (HostV s) (LinkV x))
puts_not s x sends is cannot = sym (host_can_put s x ∙ ap (λ b. b && ltb (length x.packets) x.capacity) (sym is ∙ cannot))

-- it takes a packet from its link
pub taken_done : (s : HostState) (x y : LinkView) (k : Packet) (got : Option Packet) → Some k ≡ got → got ≡ front_of x → can_take_at s.node ≡ true → Does (is_some got) (take_from x) x y →
    DoesBoth true (meets event.HostTake (HostV s) (LinkV x)) (HostV s) (LinkV x) (HostV (took k s)) (LinkV y)
taken_done s x y k got one is counts does =
    did_both (meets event.HostTake (HostV s) (LinkV x)) (HostV s) (LinkV x) (HostV (took k s)) (LinkV y)
    (host_takes s x y k (sym (one ∙ is)) counts (does_some (is_some got) (take_from x) x y (ap (λ (o : Option Packet). is_some o) (sym one)) does))

pub takes_if : (s : HostState) (x : LinkView) (k : Packet) → Some k ≡ front_of x → can_take_at s.node ≡ is_some (meets event.HostTake (HostV s) (LinkV x))
takes_if s x k front = sym (host_can_take s x ∙ ap (λ (o : Option Packet). is_some o && can_take_at s.node) (sym front))

pub takes_none : (s : HostState) (x : LinkView) → None ≡ front_of x → false ≡ is_some (meets event.HostTake (HostV s) (LinkV x))
takes_none s x front = sym (host_can_take s x ∙ ap (λ (o : Option Packet). is_some o && can_take_at s.node) (sym front))

-- what it can take can be counted
pub takes_counts : (s : HostState) (x : LinkView) → is_some (meets event.HostTake (HostV s) (LinkV x)) ≡ true → can_take_at s.node ≡ true
takes_counts s x some = (and_parts (is_some (front_of x)) (can_take_at s.node) (sym (host_can_take s x) ∙ some)).1

pub counts_at : (s : HostState) (z : ℤ) → z ≡ s.node.counter → FitsSigned w64 z → int_lt (neg_ℤ (pos (2 ^ 63))) (to_z w64 (of_z w64 z)) ≡ can_take_at s.node
counts_at s z is fits = ap (int_lt (neg_ℤ (pos (2 ^ 63)))) (to_z-of_z w64 z fits ∙ is)
