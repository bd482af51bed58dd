-- Each row keeps what was received, flies or is in hand together with what is due.
use Rattle.std.proofs.Common.{ℕ, ◌+◌, ◌<◌, ◌≡◌, ◌∙◌, true, false, List, [], ◌∷◌, length, refl, sym, ap, subst, arith, sum_by, Option, Some, None}
use Rattle.std.specs.Prelude.{is_some, map, unwrap_or, option_map, slice_get}
use Rattle.std.specs.List.{AllByRecursion}
use Rattle.std.proofs.lemmas.List.Sums.{sum_by-append, sum_by-cons, sum_by-drop_more}
use Rattle.std.specs.Option.{ForSome}
use Rattle.polite_switch.proofs.Lists.{found, not_found}
use Rattle.polite_switch.specs.declared.action.Action.TheVariants as action
use Rattle.polite_switch.specs.declared.course.Call.{Call}
use Rattle.polite_switch.specs.declared.course.Hand.{Hand}
use Rattle.polite_switch.specs.declared.device.InEdge.{InEdge}
use Rattle.polite_switch.specs.declared.row.Row.{Row}
use Rattle.polite_switch.specs.declared.row.Row.TheVariants as row
use Rattle.polite_switch.specs.DeviceModel.{DeviceModel}
use Rattle.polite_switch.specs.Device.{device_at, edges_at, key_at, no_edge}
use Rattle.polite_switch.specs.Kept.{RowHolds}
use Rattle.polite_switch.specs.Table.{edge_after, recv_call, sent_key, served_more}
use Rattle.tn_base.specs.declared.message.Letter.{Letter}
use Rattle.tn_slots.specs.Pool.{key_in}
use Rattle.polite_routes.specs.Hops.{Hop}
use Rattle.polite_edges.specs.Layout.{AllRouted, IsRouted, Layout, found as found_by, vertex_in, with_key}
use Rattle.polite_edges.specs.Deeds.{Deed, Item, PinSend, added, deed_of, due, due_of, item_of, received, received_by, sent_by}
use Rattle.polite_edges.proofs.Fine.{HandFits, NodeFine, held, holding}
use Rattle.polite_edges.proofs.Nodes.{Dispatch, FlightAfter, Has, Node, TakesSeen, brings, doer, flying, letter_at, letters, node_after, view_of}
use Rattle.polite_edges.proofs.Rows.{out, taken_at}

pub sum_by-map : {X Y : Type 0} (w : Y → ℕ) (f : X → Y) (xs : List X) → sum_by w (map f xs) ≡ sum_by (λ x. w (f x)) xs
sum_by-map w f [] = refl
sum_by-map w f (x ∷ xs) =
    let r = sum_by-map w f xs in
    let a = sum_by-cons w (f x) (map f xs) in
    let b = sum_by-cons (λ y. w (f y)) x xs in
    omega arith

sum_by-same : {X : Type 0} (P : X → Type 0) (f g : X → ℕ) (xs : List X) → AllByRecursion P xs → ((x : X) → P x → f x ≡ g x) → sum_by f xs ≡ sum_by g xs
sum_by-same P f g [] all e = refl
sum_by-same P f g (x ∷ xs) all e =
    let r = sum_by-same P f g xs all.1 e in
    let a = sum_by-cons f x xs in
    let b = sum_by-cons g x xs in
    let h = e x all.0 in
    omega arith

key_back : (key : ℕ) (bytes : List ℕ) → key < 65536 → key_in (with_key key bytes) ≡ key
key_back key bytes small = omega arith

-- what the letters of a keyed send will bring
letters_weigh : (w : Item → ℕ) (g : Layout) (origin number key : ℕ) (bytes : List ℕ) → AllByRecursion (λ (h : Hop). h.local < 65536) (g.hops origin key) → flying w g (letters g origin number bytes key)
    ≡ sum_by (found_by g (λ e k. w (record { edge = e; origin = origin; number = number; bytes = with_key k bytes }))) (g.hops origin key)
letters_weigh w g origin number key bytes narrow =
    sum_by-map (brings w g) (letter_at origin number bytes) (g.hops origin key)
    ∙ sum_by-same (λ (h : Hop). h.local < 65536) _ _ (g.hops origin key) narrow (λ (h : Hop) small. ap (λ k. sum_by (λ (e : InEdge). w (item_of e.edge (letter_at origin number bytes h))) (edges_at (g.in_edges h.receiver) k)) (key_back h.local bytes small))

-- the weight of a list of letters and of the flight after it
abbrev Flown : (Item → ℕ) → Layout → Option ℕ → ℕ → ℕ → List ℕ → List Letter → List Letter → Type 0
Flown w g None origin number bytes old new = flying w g new ≡ flying w g old
Flown w g (Some key) origin number bytes old new = flying w g new ≡ flying w g (letters g origin number bytes key) + flying w g old

flown : (w : Item → ℕ) (key : Option ℕ) (g : Layout) (d : Dispatch) (n : Node) (old new : List Letter) → FlightAfter (action.KeySend key) g d n old new → Flown w g key d.thread n.sends d.bytes old new
flown w None g d n old new h = h w
flown w (Some key) g d n old new h = h w

-- what a send by a pin makes due is what its letters will bring
sent_weighs : (w : Item → ℕ) (g : Layout) (key : Option ℕ) (s : PinSend) (old new : List Letter) → IsRouted key g s.thread (g.edges s.vertex s.pin) → Flown w g key s.thread s.number s.bytes old new
    → flying w g new ≡ sum_by w (map (due_of g s) (g.edges s.vertex s.pin)) + flying w g old
sent_weighs w g None s old new routed f = let e = ap (λ es. sum_by w (map (due_of g s) es)) routed in omega arith
sent_weighs w g (Some key) s old new routed f =
    let a = letters_weigh w g s.thread s.number key s.bytes routed.0 in
    let b = routed.1 (λ e k. w (record { edge = e; origin = s.thread; number = s.number; bytes = with_key k s.bytes })) in
    let c = sum_by-map w (due_of g s) (g.edges s.vertex s.pin) in
    omega arith

-- the change of a dispatch
abbrev pub Weighs : (Item → ℕ) → Layout → Dispatch → Node → List Deed → List Letter → List Letter → Option Deed → Node → Type 0
Weighs w g d n log old new deed after =
    sum_by w (received (added deed log)) + flying w g new + holding w after + sum_by w (due g log) ≡ sum_by w (received log) + flying w g old + holding w n + sum_by w (due g (added deed log))

send_row : (w : Item → ℕ) (g : Layout) (d : Dispatch) (n : Node) (log : List Deed) (old new : List Letter) (call : Option Call) (after : Node) → AllRouted g → Has g d.thread → n.switch.devices ≡ g.devices d.thread → ForSome call (λ c. c.device < length n.switch.devices) → holding w after ≡ holding w n
    → FlightAfter (action.KeySend (sent_key n.switch.devices call)) g d n old new
    → Weighs w g d n log old new (deed_of (action.KeySend (sent_key n.switch.devices call)) call (doer d n)) after
send_row w g d n log old new None after once there devices fits same fl = let f = flown w None g d n old new fl in omega arith
send_row w g d n log old new (Some call) after once there devices fits same fl =
    let key = key_at (device_at n.switch.devices call.device) call.pin in
    let s = sent_by (doer d n) call in
    let routed : IsRouted key g d.thread (g.edges s.vertex s.pin) =
    subst (λ (ds : List DeviceModel). IsRouted (key_at (device_at ds call.device) call.pin) g d.thread (g.edges (vertex_in ds call.device) call.pin)) (sym devices)
    (once.pin d.thread call.device call.pin there (subst (λ (ds : List DeviceModel). call.device < length ds) devices (fits call refl))) in
    let e = sent_weighs w g key s old new routed (flown w key g d n old new fl) in
    let a = sum_by-append w (map (due_of g s) (g.edges s.vertex s.pin)) (due g log) in
    omega arith

recv_row : (w : Item → ℕ) (lists : List (List InEdge)) (t : ℕ) (log : List Deed) (l : Option Letter) (h : Option Hand) → HandFits l h → is_some (edge_after lists h) ≡ true
    → sum_by w (received (added (received_by t (recv_call (unwrap_or (edge_after lists h) no_edge)) l) log)) + held w lists l (served_more h) ≡ sum_by w (received log) + held w lists l h
recv_row w lists t log None None f some = absurd cc
recv_row w lists t log None (Some h) f some = absurd f
recv_row w lists t log (Some l) None f some = absurd f
recv_row w lists t log (Some l) (Some h) f some =
    let es = edges_at lists h.key in
    let e = unwrap_or (slice_get es h.served) no_edge in
    let there = found es h.served no_edge some in
    let a = sum_by-cons w (item_of e.edge l) (received log) in
    let b = sum_by-drop_more (λ (x : InEdge). w (item_of x.edge l)) es h.served no_edge there.0 in
    let c = ap (λ (x : InEdge). w (item_of x.edge l)) there.1 in
    omega arith

recv_due : (w : Item → ℕ) (g : Layout) (t : ℕ) (call : Call) (l : Option Letter) (log : List Deed) → sum_by w (due g (added (received_by t call l) log)) ≡ sum_by w (due g log)
recv_due w g t call None log = refl
recv_due w g t call (Some l) log = refl

free_row : (w : Item → ℕ) (lists : List (List InEdge)) (l : Option Letter) (h : Option Hand) → is_some (edge_after lists h) ≡ false → held w lists l h ≡ 0
free_row w lists None h none = refl
free_row w lists (Some l) None none = refl
free_row w lists (Some l) (Some h) none = ap (λ (es : List InEdge). sum_by (λ (e : InEdge). w (item_of e.edge l)) es) (not_found (edges_at lists h.key) h.served none)

-- what a letter that is taken will bring is in hand
take_row : (w : Item → ℕ) (g : Layout) (lists : List (List InEdge)) (t : ℕ) (seen : Option Letter) (old new : List Letter) → lists ≡ g.in_edges t → TakesSeen g t seen old new
    → flying w g new + held w lists seen (Some (record { key = unwrap_or (option_map (λ (l : Letter). key_in l.bytes) seen) 0; served = 0 })) ≡ flying w g old
take_row w g lists t None old new e h = absurd h
take_row w g lists t (Some l) old new e h =
    let a = h.0 w in
    let b = sum_by-cons (brings w g) l new in
    let c : sum_by (λ (x : InEdge). w (item_of x.edge l)) (edges_at lists (key_in l.bytes)) ≡ brings w g l = ap (λ (ls : List (List InEdge)). sum_by (λ (x : InEdge). w (item_of x.edge l)) (edges_at ls (key_in l.bytes))) (e ∙ ap g.in_edges (sym h.1)) in
    omega arith

pub no_hand : (w : Item → ℕ) (lists : List (List InEdge)) (l : Option Letter) (h : Option Hand) → h ≡ None → held w lists l h ≡ 0
no_hand w lists None h e = refl
no_hand w lists (Some l) None e = refl
no_hand w lists (Some l) (Some h) e = absurd cc

pub weigh_row : (r : Row) (w : Item → ℕ) (g : Layout) (d : Dispatch) (n : Node) (log : List Deed) (old new : List Letter) → AllRouted g → Has g d.thread → NodeFine g d.thread log n → RowHolds r (view_of d n) (taken_at d n)
    → FlightAfter (out r d n).action g d n old new → Weighs w g d n log old new (deed_of (out r d n).action (out r d n).switch.course.call (doer d n)) (node_after (out r d n) d n)
weigh_row row.KeySend w g d n log old new once there f h fl = send_row w g d n log old new n.switch.course.call (node_after (out row.KeySend d n) d n) once there f.devices f.kept.fits.course.call refl fl
weigh_row row.HostSend w g d n log old new once there f h fl = let e = fl w in omega arith
weigh_row row.HostWait w g d n log old new once there f h fl = let e = fl w in omega arith
weigh_row row.Init w g d n log old new once there f h fl = let e = fl w in omega arith
weigh_row row.Recv w g d n log old new once there f h fl =
    let e = fl w in
    let a = recv_row w n.switch.in_edges d.thread log n.hand n.switch.course.hand f.hand h in
    let b = recv_due w g d.thread (recv_call (unwrap_or (edge_after n.switch.in_edges n.switch.course.hand) no_edge)) n.hand log in
    omega arith
weigh_row row.Free w g d n log old new once there f h fl =
    let e = fl w in
    let a = free_row w n.switch.in_edges n.hand n.switch.course.hand h.0 in
    omega arith
weigh_row row.Step w g d n log old new once there f h fl = let e = fl w in omega arith
weigh_row row.Finish w g d n log old new once there f h fl = let e = fl w in omega arith
weigh_row row.Kill w g d n log old new once there f h fl = let e = fl w in omega arith
weigh_row row.Take w g d n log old new once there f h fl =
    let e = take_row w g n.switch.in_edges d.thread d.seen old new f.in_edges fl in
    let z = no_hand w n.switch.in_edges n.hand n.switch.course.hand h.0.hand in
    omega arith
weigh_row row.Send w g d n log old new once there f h fl = let e = fl w in omega arith
weigh_row row.Wait w g d n log old new once there f h fl = let e = fl w in omega arith
weigh_row row.Idle w g d n log old new once there f h fl = let e = fl w in omega arith
