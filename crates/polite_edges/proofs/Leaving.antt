-- What each row of the softswitch's table has its thread do, and what that is for the node.
use Rattle.std.proofs.Common.{ℕ, ◌+◌, ◌%◌, ◌^◌, ◌<◌, ◌≤◌, ◌≡◌, ◌==◌, ◌∙◌, cond, Bool, true, false, List, [], ◌∷◌, refl, sym, ap, subst, inl, inr, arith, sum_by, Option, Some, None}
use Rattle.std.specs.Prelude.{is_some, map, option_map, slice_index, unwrap_or}
use Rattle.std.proofs.lemmas.Bool.{eq-eqb}
use Rattle.std.proofs.lemmas.List.Sums.{sum_by-append, sum_by-cons}
use Rattle.polite_routes.specs.Hops.{arrives}
use Rattle.polite_switch.specs.declared.action.Action.TheVariants as action
use Rattle.polite_switch.specs.declared.action.Msg.{Msg}
use Rattle.polite_switch.specs.declared.course.Hand.{Hand}
use Rattle.polite_switch.specs.declared.device.InEdge.{InEdge}
use Rattle.polite_switch.specs.declared.row.Row.{Row}
use Rattle.polite_switch.specs.declared.row.Row.TheVariants as row
use Rattle.polite_switch.specs.Device.{edges_at}
use Rattle.polite_switch.specs.Kept.{RowHolds}
use Rattle.polite_switch.specs.SwitchModel.{SwitchModel}
use Rattle.polite_switch.specs.Table.{Dispatched, dispatched, fault_of, sent_key}
use Rattle.tn_base.specs.declared.event.Trap.{Trap}
use Rattle.tn_base.specs.declared.event.Trap.TheVariants as trap
use Rattle.tn_base.specs.declared.message.Dest.TheVariants as dest
use Rattle.tn_base.specs.declared.message.Letter.{Letter}
use Rattle.tn_base.specs.declared.op.Op.TheVariants as op
use Rattle.tn_base.specs.declared.shape.ShapeNumbers.{ShapeNumbers}
use Rattle.tn_keys.specs.Reach.{Reach}
use Rattle.tn_slots.specs.Pool.{key_in}
use Rattle.tn_thread.specs.declared.thread.Thread.{Thread}
use Rattle.tn_thread.specs.Command.{handed, stays}
use Rattle.tn_thread.specs.Dispatch.{does}
use Rattle.tn_thread.specs.Step.{Stepped, trapped}
use Rattle.tn_letters.specs.declared.steps.Seen.{Seen}
use Rattle.tn_letters.specs.Letters.{board_of, host_address, letter, letter_for, letters}
use Rattle.polite_edges.specs.Deeds.{Item, deed_of, item_of}
use Rattle.polite_edges.specs.Layout.{Layout}
use Rattle.polite_edges.specs.Runs.{doer_of, message_of, unless_trap}
use Rattle.polite_edges.proofs.Fine.{HandFits}
use Rattle.polite_edges.proofs.Handlers.{running}
use Rattle.polite_edges.proofs.Nodes.{Dispatch, FlightAfter, Going, Node, SameFlight, TakesSeen, brings, doer, flying, letters as node_letters, node_after, view_of}
use Rattle.polite_edges.proofs.Rows.{out, taken_at}
use Rattle.polite_edges.proofs.Shown.{Asked, Carries, Leaves, SeenIs, Shown, sight_with}

-- the dispatch that a thread makes
abbrev pub dispatch_at : ℕ → Seen → Option Letter → Thread → Dispatch
dispatch_at a seen o t = record { thread = a; can_send = seen.can_send; seen = o; a0 = slice_index t.regs 10; a1 = slice_index t.regs 11; bytes = message_of t }

-- a thread at the firmware's address that makes a dispatch, its node, and the machine around it
pub record Setting (g : Layout) (n : ShapeNumbers) (reach : Reach) (a : ℕ) (seen : Seen) (o : Option Letter) (t : Thread) (held : ℕ → Option Letter) (nd : Node) : Type 0 where
  pub carries : Carries t held nd
  pub going : nd.status ≡ Going
  pub given : nd.given ≡ t.given
  pub home : t.pc ≡ 0xFFFFFFF0
  pub seen_is : SeenIs seen o
  pub hand : HandFits nd.hand nd.switch.course.hand
  pub reach_is : (key : ℕ) (bytes : List ℕ) → sent_key nd.switch.devices nd.switch.course.call ≡ Some key → reach (board_of a) key bytes ≡ map (arrives bytes) (g.hops a key)
  pub host : g.in_edges host_address ≡ []
  pub few : t.steps + 1 < 2 ^ 32

at_hand : (k : ℕ) (o : Option Letter) → cond (k == k) o None ≡ o
at_hand k o = ap (λ b. cond b o None) (eq-eqb k k refl)

none_either : (b : Bool) → cond b (let x : Option Letter = None in x) None ≡ None
none_either true = refl
none_either false = refl

-- what is read for the deed is what the node has
doer_is : (g : Layout) (n : ShapeNumbers) (reach : Reach) (a : ℕ) (seen : Seen) (o : Option Letter) (t : Thread) (held : ℕ → Option Letter) (nd : Node) → Setting g n reach a seen o t held nd →
    doer_of a t nd.switch (held t.hand) ≡ doer (dispatch_at a seen o t) nd
doer_is g n reach a seen o t held nd s =
    let e : held t.hand ≡ nd.hand = s.carries.holds t.hand ∙ at_hand t.hand nd.hand in
    λ i. record { thread = a; devices = nd.switch.devices; sends = sym s.carries.sends i; message = message_of t; held = e i }

-- a dispatch that does not trap
made : (g : Layout) (n : ShapeNumbers) (reach : Reach) (a : ℕ) (seen : Seen) (o : Option Letter) (t : Thread) (held now : ℕ → Option Letter) (nd : Node) (old new : List Letter) (r : Dispatched) (u : Thread) → Setting g n reach a seen o t held nd →
    fault_of (view_of (dispatch_at a seen o t) nd) nd.switch ≡ None → r ≡ dispatched (view_of (dispatch_at a seen o t) nd) nd.switch → Shown u now (node_after r (dispatch_at a seen o t) nd) → FlightAfter r.action g (dispatch_at a seen o t) nd old new →
    Leaves g a nd u now old new (deed_of r.action r.switch.course.call (doer_of a t nd.switch (held t.hand)))
made g n reach a seen o t held now nd old new r u s safe is shown flight = record {
  node = node_after r (dispatch_at a seen o t) nd;
  shown = shown;
  local = inr (inr (record {
    dispatch = dispatch_at a seen o t;
    result = r;
    going = s.going;
    safe = safe;
    is = is;
    node = refl;
    flight = flight;
    deed_is = ap (deed_of r.action r.switch.course.call) (doer_is g n reach a seen o t held nd s);
  }));
}

-- a step that traps
pub traps : (g : Layout) (a : ℕ) (nd : Node) (now : ℕ → Option Letter) (old new : List Letter) (why : Trap) (u : Thread) → nd.status ≡ Going → SameFlight g old new →
    Leaves g a nd (trapped why u).thread now old new None
traps g a nd now old new why u going flight = record {
  node = nd;
  shown = record { state = going; carries = tt };
  local = inl (inl (record { node = refl; flight = flight; deed_is = refl }));
}

-- the result of a row, and what it has the thread do
abbrev pub does_of : Dispatched → Seen → (ℕ → Option Letter) → Thread → Stepped
does_of r seen held t = does r.action (sight_with seen held) (record (running t) { switch = Some r.switch })

abbrev pub LeavesBy : Layout → ShapeNumbers → Reach → ℕ → Seen → Option Letter → Thread → (ℕ → Option Letter) → Node → List Letter → List Letter → Dispatched → (ℕ → Option Letter) → Stepped → Type 0
LeavesBy g n reach a seen o t held nd old new r now s =
    Setting g n reach a seen o t held nd → fault_of (view_of (dispatch_at a seen o t) nd) nd.switch ≡ None → r ≡ dispatched (view_of (dispatch_at a seen o t) nd) nd.switch →
    Asked g n reach a t.sends seen o s.op held now old new → Leaves g a nd s.thread now old new (unless_trap s.op (deed_of r.action r.switch.course.call (doer_of a t nd.switch (held t.hand))))

held_same : (t : Thread) (held now : ℕ → Option Letter) (nd : Node) → Carries t held nd → now ≡ held → (slot : ℕ) → now slot ≡ cond (slot == t.hand) nd.hand None
held_same t held now nd c e slot = ap (λ (f : ℕ → Option Letter). f slot) e ∙ c.holds slot

-- a handler is entered
enters : (g : Layout) (n : ShapeNumbers) (reach : Reach) (a : ℕ) (seen : Seen) (o : Option Letter) (t : Thread) (held now : ℕ → Option Letter) (nd : Node) (old new : List Letter) (sw : SwitchModel) (entry state : ℕ) (message : Msg) (value vertex ready : ℕ) →
    let r : Dispatched = record { switch = sw; action = action.Handler entry state message value vertex ready } in LeavesBy g n reach a seen o t held nd old new r now (does_of r seen held t)
enters g n reach a seen o t held now nd old new sw entry state message value vertex ready s safe is h =
    let r : Dispatched = record { switch = sw; action = action.Handler entry state message value vertex ready } in
    let c = s.carries in
    made g n reach a seen o t held now nd old new r (does_of r seen held t).thread s safe is (record {
      state = (refl, refl, inl refl);
      carries = record { firmware = c.firmware; switch = refl; sends = c.sends; few = (let f = c.few in omega arith); holds = held_same t held now nd c h.1 };
    }) h.0

-- the thread waits
waits_on : (g : Layout) (n : ShapeNumbers) (reach : Reach) (a : ℕ) (seen : Seen) (o : Option Letter) (t : Thread) (held now : ℕ → Option Letter) (nd : Node) (old new : List Letter) (sw : SwitchModel) (waits : ℕ) →
    let r : Dispatched = record { switch = sw; action = action.Wait waits } in LeavesBy g n reach a seen o t held nd old new r now (does_of r seen held t)
waits_on g n reach a seen o t held now nd old new sw waits s safe is h =
    let r : Dispatched = record { switch = sw; action = action.Wait waits } in
    let c = s.carries in
    made g n reach a seen o t held now nd old new r (does_of r seen held t).thread s safe is (record {
      state = (refl, refl);
      carries = record { firmware = c.firmware; switch = refl; sends = c.sends; few = (let f = c.few in omega arith); holds = held_same t held now nd c h.1 };
    }) h.0

idles : (g : Layout) (n : ShapeNumbers) (reach : Reach) (a : ℕ) (seen : Seen) (o : Option Letter) (t : Thread) (held now : ℕ → Option Letter) (nd : Node) (old new : List Letter) (sw : SwitchModel) (vote : Bool) →
    let r : Dispatched = record { switch = sw; action = action.Idle vote } in LeavesBy g n reach a seen o t held nd old new r now (does_of r seen held t)
idles g n reach a seen o t held now nd old new sw vote s safe is h =
    let r : Dispatched = record { switch = sw; action = action.Idle vote } in
    let c = s.carries in
    made g n reach a seen o t held now nd old new r (does_of r seen held t).thread s safe is (record {
      state = (refl, s.home);
      carries = record { firmware = c.firmware; switch = refl; sends = c.sends; few = (let f = c.few in omega arith); holds = held_same t held now nd c h.1 };
    }) h.0

ends : (g : Layout) (n : ShapeNumbers) (reach : Reach) (a : ℕ) (seen : Seen) (o : Option Letter) (t : Thread) (held now : ℕ → Option Letter) (nd : Node) (old new : List Letter) (sw : SwitchModel) →
    let r : Dispatched = record { switch = sw; action = action.Kill } in LeavesBy g n reach a seen o t held nd old new r now (does_of r seen held t)
ends g n reach a seen o t held now nd old new sw s safe is h =
    let r : Dispatched = record { switch = sw; action = action.Kill } in
    made g n reach a seen o t held now nd old new r (does_of r seen held t).thread s safe is (record { state = refl; carries = tt }) h

-- no letter is in hand, so the thread holds nothing
no_letter : (l : Option Letter) (h : Option Hand) → HandFits l h → h ≡ None → l ≡ None
no_letter None h f e = refl
no_letter (Some l) None f e = absurd f
no_letter (Some l) (Some h) f e = absurd cc

some_is : (x y : ℕ) → (let p : Option ℕ = Some x in p) ≡ Some y → x ≡ y
some_is x y e = ap (λ o. unwrap_or o 0) e

takes_seen : (g : Layout) (a : ℕ) (o : Option Letter) (l : Letter) (old new : List Letter) → o ≡ Some l → ((w : Item → ℕ) → flying w g old ≡ flying w g (l ∷ new)) → l.receiver ≡ a → TakesSeen g a o old new
takes_seen g a o l old new e h r = subst (λ x. TakesSeen g a x old new) (sym e) (h, r)

-- the first letter is taken
takes_by : (g : Layout) (n : ShapeNumbers) (reach : Reach) (a : ℕ) (seen : Seen) (o : Option Letter) (t : Thread) (held now : ℕ → Option Letter) (nd : Node) (old new : List Letter) (sw : SwitchModel) (first : Option ℕ) → seen.first ≡ first → nd.switch.course.hand ≡ None →
    let r : Dispatched = record { switch = sw; action = action.Recv } in LeavesBy g n reach a seen o t held nd old new r now (handed first (record (running t) { switch = Some sw }))
takes_by g n reach a seen o t held now nd old new sw None at free s safe is h = traps g a nd now old new trap.RecvEmpty (record (running t) { switch = Some sw }) s.going h
takes_by g n reach a seen o t held now nd old new sw (Some slot) at free s safe is h =
    let r : Dispatched = record { switch = sw; action = action.Recv } in
    let c = s.carries in
    let slot_is : h.slot ≡ slot = some_is h.slot slot (sym h.first ∙ at) in
    let empty : nd.hand ≡ None = no_letter nd.hand nd.switch.course.hand s.hand free in
    made g n reach a seen o t held now nd old new r (handed (Some slot) (record (running t) { switch = Some sw })).thread s safe is (record {
      state = (refl, refl, inl refl);
      carries = record {
        firmware = c.firmware;
        switch = refl;
        sends = c.sends;
        few = (let f = c.few in omega arith);
        holds = λ k.
            let none : held k ≡ None = c.holds k ∙ (ap (λ x. cond (k == t.hand) x None) empty ∙ none_either (k == t.hand)) in
            ap (λ (f : ℕ → Option Letter). f k) h.after ∙ (ap (λ x. cond (k == h.slot) (Some h.letter) x) none ∙ (ap (λ j. cond (k == j) (Some h.letter) None) slot_is ∙ ap (λ x. cond (k == slot) x None) (sym h.is_seen)));
      };
    }) (takes_seen g a o h.letter old new h.is_seen h.flight h.receiver)

-- the letter in hand is given up
frees_by : (g : Layout) (n : ShapeNumbers) (reach : Reach) (a : ℕ) (seen : Seen) (o : Option Letter) (t : Thread) (held now : ℕ → Option Letter) (nd : Node) (old new : List Letter) (sw : SwitchModel) (holds : Bool) →
    let r : Dispatched = record { switch = sw; action = action.Free } in let u : Thread = record (running t) { switch = Some sw } in LeavesBy g n reach a seen o t held nd old new r now (cond holds (stays u (op.Free t.hand)) (trapped trap.BadFree u))
frees_by g n reach a seen o t held now nd old new sw false s safe is h = traps g a nd now old new trap.BadFree (record (running t) { switch = Some sw }) s.going h
frees_by g n reach a seen o t held now nd old new sw true s safe is h =
    let r : Dispatched = record { switch = sw; action = action.Free } in
    let c = s.carries in
    made g n reach a seen o t held now nd old new r (stays (record (running t) { switch = Some sw }) (op.Free t.hand)).thread s safe is (record {
      state = (refl, refl, inl refl);
      carries = record {
        firmware = c.firmware;
        switch = refl;
        sends = c.sends;
        few = (let f = c.few in omega arith);
        holds = λ k. ap (λ (f : ℕ → Option Letter). f k) h.1 ∙ (ap (λ x. cond (k == t.hand) None x) (c.holds k) ∙ gone (k == t.hand) nd.hand);
      };
    }) h.0
  where
    gone : (b : Bool) (x : Option Letter) → cond b None (cond b x None) ≡ cond b None None
    gone true x = refl
    gone false x = refl

-- the count of sends goes on
next_number : (t : Thread) (held : ℕ → Option Letter) (nd : Node) → Carries t held nd → t.steps + 1 < 2 ^ 32 → nd.sends + 1 ≡ (t.sends + 1) % 2 ^ 32
next_number t held nd c small = let e = c.sends in let f = c.few in omega arith

few_sends : (t : Thread) (held : ℕ → Option Letter) (nd : Node) → Carries t held nd → t.steps + 1 < 2 ^ 32 → (t.sends + 1) % 2 ^ 32 ≤ t.steps + 1
few_sends t held nd c small = let f = c.few in omega arith

map_twice : {A B C : Type 0} (f : B → C) (h : A → B) (xs : List A) → map f (map h xs) ≡ map (λ x. f (h x)) xs
map_twice f h [] = refl
map_twice f h (x ∷ xs) = ap (λ ys. f (h x) ∷ ys) (map_twice f h xs)

letters_are : (g : Layout) (n : ShapeNumbers) (reach : Reach) (a : ℕ) (seen : Seen) (o : Option Letter) (t : Thread) (held : ℕ → Option Letter) (nd : Node) (key : ℕ) → Setting g n reach a seen o t held nd → sent_key nd.switch.devices nd.switch.course.call ≡ Some key →
    letters n reach a t.sends (dest.Key key) (message_of t) ≡ node_letters g a nd.sends (message_of t) key
letters_are g n reach a seen o t held nd key s e =
    ap (map (letter_for a t.sends)) (s.reach_is key (message_of t) e)
    ∙ (map_twice (letter_for a t.sends) (arrives (message_of t)) (g.hops a key)
    ∙ ap (λ k. node_letters g a k (message_of t) key) (sym s.carries.sends))

-- the message is sent by the key of a pin
keys_by : (g : Layout) (n : ShapeNumbers) (reach : Reach) (a : ℕ) (seen : Seen) (o : Option Letter) (t : Thread) (held now : ℕ → Option Letter) (nd : Node) (old new : List Letter) (sw : SwitchModel) (key : ℕ) (can : Bool) → sent_key nd.switch.devices nd.switch.course.call ≡ Some key →
    let r : Dispatched = record { switch = sw; action = action.KeySend (Some key) } in let u : Thread = record (running t) { switch = Some sw } in
    LeavesBy g n reach a seen o t held nd old new r now (cond can (stays (record u { sends = (t.sends + 1) % 2 ^ 32 }) (op.Send (dest.Key key) (message_of t))) (trapped trap.SendBusy u))
keys_by g n reach a seen o t held now nd old new sw key false at s safe is h = traps g a nd now old new trap.SendBusy (record (running t) { switch = Some sw }) s.going h
keys_by g n reach a seen o t held now nd old new sw key true at s safe is h =
    let r : Dispatched = record { switch = sw; action = action.KeySend (Some key) } in
    let u : Thread = record (running t) { switch = Some sw } in
    let c = s.carries in
    made g n reach a seen o t held now nd old new r (stays (record u { sends = (t.sends + 1) % 2 ^ 32 }) (op.Send (dest.Key key) (message_of t))).thread s safe is (record {
      state = (refl, refl, inl refl);
      carries = record { firmware = c.firmware; switch = refl; sends = next_number t held nd c s.few; few = few_sends t held nd c s.few; holds = held_same t held now nd c h.1 };
    }) (λ w.
    let x = h.0 w in
    let y = sum_by-append (brings w g) (letters n reach a t.sends (dest.Key key) (message_of t)) old in
    let z = ap (λ ls. flying w g ls) (letters_are g n reach a seen o t held nd key s at) in
    omega arith)

key_leaves : (g : Layout) (n : ShapeNumbers) (reach : Reach) (a : ℕ) (seen : Seen) (o : Option Letter) (t : Thread) (held now : ℕ → Option Letter) (nd : Node) (old new : List Letter) (sw : SwitchModel) (key : Option ℕ) → sent_key nd.switch.devices nd.switch.course.call ≡ key →
    let r : Dispatched = record { switch = sw; action = action.KeySend key } in LeavesBy g n reach a seen o t held nd old new r now (does_of r seen held t)
key_leaves g n reach a seen o t held now nd old new sw None at s safe is h =
    let r : Dispatched = record { switch = sw; action = action.KeySend None } in
    let c = s.carries in
    made g n reach a seen o t held now nd old new r (does_of r seen held t).thread s safe is (record {
      state = (refl, refl, inl refl);
      carries = record { firmware = c.firmware; switch = refl; sends = c.sends; few = (let f = c.few in omega arith); holds = held_same t held now nd c h.1 };
    }) h.0
key_leaves g n reach a seen o t held now nd old new sw (Some key) at s safe is h = keys_by g n reach a seen o t held now nd old new sw key seen.can_send at s safe is h

no_edges : (key : ℕ) → edges_at [] key ≡ []
no_edges key = refl

-- a letter to the host brings nothing
pub host_brings : (w : Item → ℕ) (g : Layout) (l : Letter) → g.in_edges l.receiver ≡ [] → brings w g l ≡ 0
host_brings w g l e = ap (λ (ls : List (List InEdge)). sum_by (λ (x : InEdge). w (item_of x.edge l)) (edges_at ls (key_in l.bytes))) e

hosts_by : (g : Layout) (n : ShapeNumbers) (reach : Reach) (a : ℕ) (seen : Seen) (o : Option Letter) (t : Thread) (held now : ℕ → Option Letter) (nd : Node) (old new : List Letter) (sw : SwitchModel) (can : Bool) →
    let r : Dispatched = record { switch = sw; action = action.HostSend } in let u : Thread = record (running t) { switch = Some sw } in
    LeavesBy g n reach a seen o t held nd old new r now (cond can (stays (record u { sends = (t.sends + 1) % 2 ^ 32 }) (op.Send dest.Host (message_of t))) (trapped trap.SendBusy u))
hosts_by g n reach a seen o t held now nd old new sw false s safe is h = traps g a nd now old new trap.SendBusy (record (running t) { switch = Some sw }) s.going h
hosts_by g n reach a seen o t held now nd old new sw true s safe is h =
    let r : Dispatched = record { switch = sw; action = action.HostSend } in
    let u : Thread = record (running t) { switch = Some sw } in
    let c = s.carries in
    made g n reach a seen o t held now nd old new r (stays (record u { sends = (t.sends + 1) % 2 ^ 32 }) (op.Send dest.Host (message_of t))).thread s safe is (record {
      state = (refl, refl, inl refl);
      carries = record { firmware = c.firmware; switch = refl; sends = next_number t held nd c s.few; few = few_sends t held nd c s.few; holds = held_same t held now nd c h.1 };
    }) (λ w.
    let x = h.0 w in
    let y = sum_by-cons (brings w g) (letter a t.sends host_address (message_of t)) old in
    let z = host_brings w g (letter a t.sends host_address (message_of t)) s.host in
    omega arith)

pub row_leaves : (r : Row) (g : Layout) (n : ShapeNumbers) (reach : Reach) (a : ℕ) (seen : Seen) (o : Option Letter) (t : Thread) (held now : ℕ → Option Letter) (nd : Node) (old new : List Letter) → RowHolds r (view_of (dispatch_at a seen o t) nd) (taken_at (dispatch_at a seen o t) nd) →
    LeavesBy g n reach a seen o t held nd old new (out r (dispatch_at a seen o t) nd) now (does_of (out r (dispatch_at a seen o t) nd) seen held t)
row_leaves row.KeySend g n reach a seen o t held now nd old new holds s safe is h = key_leaves g n reach a seen o t held now nd old new _ (sent_key nd.switch.devices nd.switch.course.call) refl s safe is h
row_leaves row.HostSend g n reach a seen o t held now nd old new holds s safe is h = hosts_by g n reach a seen o t held now nd old new _ seen.can_send s safe is h
row_leaves row.HostWait g n reach a seen o t held now nd old new holds s safe is h = waits_on g n reach a seen o t held now nd old new _ 1 s safe is h
row_leaves row.Init g n reach a seen o t held now nd old new holds s safe is h = enters g n reach a seen o t held now nd old new _ _ _ _ _ _ _ s safe is h
row_leaves row.Recv g n reach a seen o t held now nd old new holds s safe is h = enters g n reach a seen o t held now nd old new _ _ _ _ _ _ _ s safe is h
row_leaves row.Free g n reach a seen o t held now nd old new holds s safe is h = frees_by g n reach a seen o t held now nd old new _ (is_some (option_map (λ (l : Letter). l.bytes) (held t.hand))) s safe is h
row_leaves row.Step g n reach a seen o t held now nd old new holds s safe is h = enters g n reach a seen o t held now nd old new _ _ _ _ _ _ _ s safe is h
row_leaves row.Finish g n reach a seen o t held now nd old new holds s safe is h = enters g n reach a seen o t held now nd old new _ _ _ _ _ _ _ s safe is h
row_leaves row.Kill g n reach a seen o t held now nd old new holds s safe is h = ends g n reach a seen o t held now nd old new _ s safe is h
row_leaves row.Take g n reach a seen o t held now nd old new holds s safe is h = takes_by g n reach a seen o t held now nd old new _ seen.first refl holds.0.hand s safe is h
row_leaves row.Send g n reach a seen o t held now nd old new holds s safe is h = enters g n reach a seen o t held now nd old new _ _ _ _ _ _ _ s safe is h
row_leaves row.Wait g n reach a seen o t held now nd old new holds s safe is h = waits_on g n reach a seen o t held now nd old new _ 3 s safe is h
row_leaves row.Idle g n reach a seen o t held now nd old new holds s safe is h = idles g n reach a seen o t held now nd old new _ _ s safe is h
