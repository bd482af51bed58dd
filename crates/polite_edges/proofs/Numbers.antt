-- The numbers that a vertex counts: the packet of a letter is found again among the sends.
use Rattle.std.proofs.Common.{ℕ, ◌<◌, ◌≤◌, ◌≡◌, ◌≢◌, ◌==◌, ◌&&◌, ◌∙◌, not, nat_lt, Bool, true, false, cond, List, [], ◌∷◌, ◌++◌, length, refl, sym, ap, subst, inl, inr, arith, Option, Some, None}
use Rattle.std.specs.Prelude.{count_by, map, unwrap_or}
use Rattle.std.proofs.lemmas.Bool.{cases_eq, eq-eqb, ne_eqb, lt-ltb}
use Rattle.std.proofs.lemmas.Bool.Decides.{nat_tests}
use Rattle.std.proofs.lemmas.List.{map-append}
use Rattle.std.proofs.lemmas.List.Sums.{sum_by-append, sum_by-cons}
use Rattle.polite_switch.specs.declared.action.Action.{Action}
use Rattle.polite_switch.specs.declared.action.Action.TheVariants as action
use Rattle.polite_switch.specs.declared.course.Call.{Call}
use Rattle.polite_switch.specs.declared.row.Row.{Row}
use Rattle.polite_switch.specs.declared.row.Row.TheVariants as row
use Rattle.polite_switch.specs.Device.{device_at, key_at, no_edge}
use Rattle.polite_switch.specs.DeviceModel.{DeviceModel}
use Rattle.polite_switch.specs.Table.{Dispatched, next_edge, recv_call, sent_key}
use Rattle.tn_base.specs.declared.message.Letter.{Letter}
use Rattle.tn_base.specs.Address.{has_thread}
use Rattle.polite_edges.specs.Deeds.{Deed, Finished, Inited, Item, Lawful, SameItems, PinSend, Sent, Stepped, WasDue, added, deed_of, due, due_of, received, received_by, sent_by}
use Rattle.polite_edges.specs.Layout.{AllRouted, IsRouted, Layout, device_count, vertex_in, with_key}
use Rattle.polite_edges.specs.VertexLog.{Arrival, EachArrived, EvenAtRest, arrival, arrived, number_at, owed, sends_of, vertex_log}
use Rattle.polite_edges.proofs.Fine.{Fine, NodeFine}
use Rattle.polite_edges.proofs.Keeps.{Starting, by_row, row_at, was_due}
use Rattle.polite_edges.proofs.Nodes.{Announces, Changed, Dispatch, Dispatches, Does, Drop, Event, Goes, Happens, Has, Node, Nothing, Rests, Sees, World, doer, sends_after}
use Rattle.polite_edges.proofs.Rows.{out, taken_at}
use Rattle.polite_edges.proofs.Weights.{sum_by-map}

-- an item by the number that its vertex counts
abbrev pub relabel : List Deed → Item → Arrival
relabel deeds i = record { edge = i.edge; number = number_at i.origin i.number deeds; bytes = i.bytes }

-- the packet of an item was sent already
abbrev is_sent : Layout → (ℕ → Node) → Item → Bool
is_sent g node i = has_thread g.shape i.origin && nat_lt i.number (node i.origin).sends

abbrev one : Bool → ℕ
one b = cond b 1 0

abbrev unsent : Layout → (ℕ → Node) → List Item → ℕ
unsent g node xs = count_by (λ i. not (is_sent g node i)) xs

both : (a b : Bool) → (a && b) ≡ true → (a ≡ true) × (b ≡ true)
both true b h = (refl, h)
both false b h = absurd cc

less_of : (m n : ℕ) → nat_lt m n ≡ true → m < n
less_of m n h = grind (arith, nat_tests)

-- no thread counts back
pub record Later (g : Layout) (old new : ℕ → Node) : Type 0 where
  pub each : (t : ℕ) → Has g t → (old t).sends ≤ (new t).sends

pub record Numbers (g : Layout) (node : ℕ → Node) (deeds : List Deed) : Type 0 where
  pub sent : unsent g node (due g deeds) ≡ 0
  pub received : map (relabel deeds) (received deeds) ≡ arrived (vertex_log deeds)
  pub due : map (relabel deeds) (due g deeds) ≡ owed g (vertex_log deeds)
  pub even : EvenAtRest g deeds

is_sent_later : (g : Layout) (old new : ℕ → Node) (i : Item) → Later g old new → is_sent g old i ≡ true → is_sent g new i ≡ true
is_sent_later g old new i l h =
    let p = both (has_thread g.shape i.origin) (nat_lt i.number (old i.origin).sends) h in
    let b = less_of i.number (old i.origin).sends p.1 in
    let e = l.each i.origin p.0 in
    let q : nat_lt i.number (new i.origin).sends ≡ true = lt-ltb i.number (new i.origin).sends (omega arith) in
    ap (λ x. x && nat_lt i.number (new i.origin).sends) p.0 ∙ q

-- what holds of all items of a list that count 0
none_unsent : (g : Layout) (node : ℕ → Node) (x : Item) (xs : List Item) → unsent g node (x ∷ xs) ≡ 0 → (is_sent g node x ≡ true) × (unsent g node xs ≡ 0)
none_unsent g node x xs h =
    let s = sum_by-cons (λ i. one (not (is_sent g node i))) x xs in
    (at (is_sent g node x) (omega arith), omega arith)
  where
    at : (b : Bool) → one (not b) ≡ 0 → b ≡ true
    at true e = refl
    at false e = absurd (omega arith)

still_sent : (g : Layout) (old new : ℕ → Node) (xs : List Item) → Later g old new → unsent g old xs ≡ 0 → unsent g new xs ≡ 0
still_sent g old new [] l h = refl
still_sent g old new (x ∷ xs) l h =
    let p = none_unsent g old x xs h in
    let r = still_sent g old new xs l p.1 in
    let s = sum_by-cons (λ i. one (not (is_sent g new i))) x xs in
    let e : one (not (is_sent g new x)) ≡ 0 = ap (λ b. one (not b)) (is_sent_later g old new x l p.0) in
    omega arith

same_labels : (g : Layout) (node : ℕ → Node) (f h : Item → Arrival) (xs : List Item) → unsent g node xs ≡ 0 → ((i : Item) → is_sent g node i ≡ true → f i ≡ h i) → map f xs ≡ map h xs
same_labels g node f h [] z e = refl
same_labels g node f h (x ∷ xs) z e =
    let p = none_unsent g node x xs z in
    ap (λ y. y ∷ map f xs) (e x p.0) ∙ ap (λ ys. h x ∷ ys) (same_labels g node f h xs p.1 e)

and_false : (b : Bool) → (b && false) ≡ false
and_false true = refl
and_false false = refl

-- a new send is not the packet of an item whose packet was sent
label_kept : (g : Layout) (node : ℕ → Node) (s : PinSend) (deeds : List Deed) (i : Item) → s.number ≡ (node s.thread).sends → is_sent g node i ≡ true → relabel (Sent s ∷ deeds) i ≡ relabel deeds i
label_kept g node s deeds i e h =
    ap (λ b. let a : Arrival = record { edge = i.edge; number = cond b (sends_of s.vertex deeds) (number_at i.origin i.number deeds); bytes = i.bytes } in a) apart
  where
    apart : (s.thread == i.origin && s.number == i.number) ≡ false
    apart = elim (cases_eq s.thread i.origin) [
      | inl o ↦
          let n : (node s.thread).sends ≡ (node i.origin).sends = ap (λ t. (node t).sends) o in
          let ne : s.number ≢ i.number = λ q. absurd (let less = less_of i.number (node i.origin).sends (both (has_thread g.shape i.origin) (nat_lt i.number (node i.origin).sends) h).1 in omega arith) in
          ap (λ b. s.thread == i.origin && b) (ne_eqb s.number i.number ne) ∙ and_false (s.thread == i.origin)
      | inr ne ↦ ap (λ b. b && s.number == i.number) (ne_eqb s.thread i.origin ne)
    ]

-- a new send gets the next number of its vertex
label_new : (g : Layout) (s : PinSend) (deeds : List Deed) (es : List ℕ) → map (relabel (Sent s ∷ deeds)) (map (due_of g s) es) ≡ map (arrival g (sends_of s.vertex deeds) s.bytes) es
label_new g s deeds [] = refl
label_new g s deeds (e ∷ es) =
    let here : number_at s.thread s.number (Sent s ∷ deeds) ≡ sends_of s.vertex deeds = ap (λ b. cond (b && s.number == s.number) (sends_of s.vertex deeds) (number_at s.thread s.number deeds)) (eq-eqb s.thread s.thread refl)
    ∙ ap (λ b. cond b (sends_of s.vertex deeds) (number_at s.thread s.number deeds)) (eq-eqb s.number s.number refl) in
    ap (λ k. let a : Arrival = record { edge = e; number = k; bytes = with_key (g.local e) s.bytes } in a ∷ map (relabel (Sent s ∷ deeds)) (map (due_of g s) es)) here
    ∙ ap (λ ys. arrival g (sends_of s.vertex deeds) s.bytes e ∷ ys) (label_new g s deeds es)

-- the new items are sent
new_sent : (g : Layout) (node : ℕ → Node) (s : PinSend) (es : List ℕ) → Has g s.thread → s.number < (node s.thread).sends → unsent g node (map (due_of g s) es) ≡ 0
new_sent g node s [] lt less = refl
new_sent g node s (e ∷ es) lt less =
    let r = new_sent g node s es lt less in
    let a = sum_by-cons (λ i. one (not (is_sent g node i))) (due_of g s e) (map (due_of g s) es) in
    let b : is_sent g node (due_of g s e) ≡ true = ap (λ x. x && nat_lt s.number (node s.thread).sends) lt ∙ lt-ltb s.number (node s.thread).sends less in
    let c : one (not (is_sent g node (due_of g s e))) ≡ 0 = ap (λ x. one (not x)) b in
    omega arith

-- the packet of a send by a key has its number below the next one
abbrev Counts : Option ℕ → PinSend → (ℕ → Node) → Type 0
Counts None s node = Unit {0}
Counts (Some key) s node = s.number < (node s.thread).sends

new_items : (key : Option ℕ) (g : Layout) (node : ℕ → Node) (s : PinSend) → Has g s.thread → IsRouted key g s.thread (g.edges s.vertex s.pin) → Counts key s node → unsent g node (map (due_of g s) (g.edges s.vertex s.pin)) ≡ 0
new_items None g node s lt routed c = ap (λ es. unsent g node (map (due_of g s) es)) routed
new_items (Some key) g node s lt routed c = new_sent g node s (g.edges s.vertex s.pin) lt c

unsent_received : (g : Layout) (node : ℕ → Node) (deeds : List Deed) → WasDue g deeds → unsent g node (due g deeds) ≡ 0 → unsent g node (received deeds) ≡ 0
unsent_received g node deeds w z = let e = w.each (λ i. not (is_sent g node i)) in omega arith

sent_numbers : (key : Option ℕ) (g : Layout) (old new : ℕ → Node) (s : PinSend) (deeds : List Deed) → Numbers g old deeds → WasDue g deeds → Later g old new → Has g s.thread → s.number ≡ (old s.thread).sends
    → IsRouted key g s.thread (g.edges s.vertex s.pin) → Counts key s new → Numbers g new (Sent s ∷ deeds)
sent_numbers key g old new s deeds b w later lt number routed c =
    let es = g.edges s.vertex s.pin in
    let kept = λ (i : Item) (h : is_sent g old i ≡ true). label_kept g old s deeds i number h in
    record {
      sent =
          let a = sum_by-append (λ i. one (not (is_sent g new i))) (map (due_of g s) es) (due g deeds) in
          let n = new_items key g new s lt routed c in
          let o = still_sent g old new (due g deeds) later b.sent in
          omega arith;
      received = same_labels g old (relabel (Sent s ∷ deeds)) (relabel deeds) (received deeds) (unsent_received g old deeds w b.sent) kept ∙ b.received;
      due =
          map-append (relabel (Sent s ∷ deeds)) (map (due_of g s) es) (due g deeds)
          ∙ (ap (λ xs. xs ++ map (relabel (Sent s ∷ deeds)) (due g deeds)) (label_new g s deeds es)
          ∙ ap (λ xs. map (arrival g (sends_of s.vertex deeds) s.bytes) es ++ xs) (same_labels g old (relabel (Sent s ∷ deeds)) (relabel deeds) (due g deeds) b.sent kept ∙ b.due));
      even = b.even;
    }

later_numbers : (g : Layout) (old new : ℕ → Node) (deeds : List Deed) → Numbers g old deeds → Later g old new → Numbers g new deeds
later_numbers g old new deeds b l = record { sent = still_sent g old new (due g deeds) l b.sent; received = b.received; due = b.due; even = b.even }

init_numbers : (g : Layout) (node : ℕ → Node) (t d v : ℕ) (deeds : List Deed) → Numbers g node deeds → Numbers g node (Inited t d v ∷ deeds)
init_numbers g node t d v deeds b = record { sent = b.sent; received = b.received; due = b.due; even = b.even }

step_numbers : (g : Layout) (node : ℕ → Node) (t d v : ℕ) (deeds : List Deed) → Numbers g node deeds → Numbers g node (Stepped t d v ∷ deeds)
step_numbers g node t d v deeds b = record { sent = b.sent; received = b.received; due = b.due; even = b.even }

finish_numbers : (g : Layout) (node : ℕ → Node) (t d v : ℕ) (deeds : List Deed) → Numbers g node deeds → Numbers g node (Finished t d v ∷ deeds)
finish_numbers g node t d v deeds b = record { sent = b.sent; received = b.received; due = b.due; even = b.even }

recv_numbers : (g : Layout) (node : ℕ → Node) (t : ℕ) (call : Call) (l : Option Letter) (deeds : List Deed) → Numbers g node deeds → Numbers g node (added (received_by t call l) deeds)
recv_numbers g node t call None deeds b = record { sent = b.sent; received = b.received; due = b.due; even = b.even }
recv_numbers g node t call (Some l) deeds b = record {
  sent = b.sent;
  received = ap (λ xs. let a : Arrival = record { edge = call.in_edge; number = number_at l.origin l.number deeds; bytes = l.bytes } in a ∷ xs) b.received;
  due = b.due;
  even = b.even;
}

send_row : (g : Layout) (d : Dispatch) (n : Node) (old new : ℕ → Node) (deeds : List Deed) (call : Option Call) → AllRouted g → Has g d.thread → NodeFine g d.thread deeds n → n ≡ old d.thread → n.switch.course.call ≡ call
    → Numbers g old deeds → WasDue g deeds → Later g old new → (new d.thread).sends ≡ sends_after (action.KeySend (sent_key n.switch.devices call)) n.sends
    → Numbers g new (added (deed_of (action.KeySend (sent_key n.switch.devices call)) call (doer d n)) deeds)
send_row g d n old new deeds None once there f is e b w later sends = later_numbers g old new deeds b later
send_row g d n old new deeds (Some call) once there f is e b w later sends =
    let within : call.device < device_count g d.thread = subst (λ (ds : List DeviceModel). call.device < length ds) f.devices (f.kept.fits.course.call call e) in
    let s = sent_by (doer d n) call in
    let routed : IsRouted (key_at (device_at n.switch.devices call.device) call.pin) g d.thread (g.edges s.vertex s.pin) =
    subst (λ (ds : List DeviceModel). IsRouted (key_at (device_at ds call.device) call.pin) g d.thread (g.edges (vertex_in ds call.device) call.pin)) (sym f.devices) (once.pin d.thread call.device call.pin there within) in
    sent_numbers (key_at (device_at n.switch.devices call.device) call.pin) g old new s deeds b w later there (ap (λ (x : Node). x.sends) is) routed (counts (key_at (device_at n.switch.devices call.device) call.pin) s sends refl)
  where
    counts : (key : Option ℕ) (s : PinSend) → (new d.thread).sends ≡ sends_after (action.KeySend key) n.sends → s ≡ sent_by (doer d n) call → Counts key s new
    counts None s h q = tt
    counts (Some key) s h q = subst (λ (x : PinSend). x.number < (new x.thread).sends) (sym q) (omega arith)

numbers_row : (r : Row) (g : Layout) (d : Dispatch) (n : Node) (old new : ℕ → Node) (deeds : List Deed) → AllRouted g → Has g d.thread → NodeFine g d.thread deeds n → n ≡ old d.thread
    → Numbers g old deeds → WasDue g deeds → Later g old new → (new d.thread).sends ≡ sends_after (out r d n).action n.sends
    → Numbers g new (added (deed_of (out r d n).action (out r d n).switch.course.call (doer d n)) deeds)
numbers_row row.KeySend g d n old new deeds once there f is b w l sends = send_row g d n old new deeds n.switch.course.call once there f is refl b w l sends
numbers_row row.HostSend g d n old new deeds once there f is b w l sends = later_numbers g old new deeds b l
numbers_row row.HostWait g d n old new deeds once there f is b w l sends = later_numbers g old new deeds b l
numbers_row row.Init g d n old new deeds once there f is b w l sends = init_numbers g new _ _ _ deeds (later_numbers g old new deeds b l)
numbers_row row.Recv g d n old new deeds once there f is b w l sends = recv_numbers g new d.thread (recv_call (unwrap_or (next_edge (taken_at d n)) no_edge)) n.hand deeds (later_numbers g old new deeds b l)
numbers_row row.Free g d n old new deeds once there f is b w l sends = later_numbers g old new deeds b l
numbers_row row.Step g d n old new deeds once there f is b w l sends = step_numbers g new _ _ _ deeds (later_numbers g old new deeds b l)
numbers_row row.Finish g d n old new deeds once there f is b w l sends = finish_numbers g new _ _ _ deeds (later_numbers g old new deeds b l)
numbers_row row.Kill g d n old new deeds once there f is b w l sends = later_numbers g old new deeds b l
numbers_row row.Take g d n old new deeds once there f is b w l sends = later_numbers g old new deeds b l
numbers_row row.Send g d n old new deeds once there f is b w l sends = later_numbers g old new deeds b l
numbers_row row.Wait g d n old new deeds once there f is b w l sends = later_numbers g old new deeds b l
numbers_row row.Idle g d n old new deeds once there f is b w l sends = later_numbers g old new deeds b l

sends_rise : (a : Action) (n : ℕ) → n ≤ sends_after a n
sends_rise (action.Handler e s m v x r) n = omega arith
sends_rise action.Recv n = omega arith
sends_rise (action.KeySend None) n = omega arith
sends_rise (action.KeySend (Some key)) n = omega arith
sends_rise action.HostSend n = omega arith
sends_rise action.Free n = omega arith
sends_rise (action.Wait waits) n = omega arith
sends_rise (action.Idle vote) n = omega arith
sends_rise action.Kill n = omega arith
sends_rise (action.Trap why) n = omega arith

one_later : (g : Layout) (t : ℕ) (old new : ℕ → Node) → Changed g old new t → (old t).sends ≤ (new t).sends → Later g old new
one_later g t old new c h = record {
  each = λ u lu. elim (cases_eq u t) [
    | inl e ↦ subst (λ v. (old v).sends ≤ (new v).sends) (sym e) h
    | inr ne ↦ let q = ap (λ (x : Node). x.sends) (c.other u lu ne) in omega arith
  ];
}

does_numbers : (g : Layout) (d : Dispatch) (r : Dispatched) (old new : World) → AllRouted g → Fine g old → Dispatches g d r old new → Numbers g old.node old.deeds → Numbers g new.node new.deeds
does_numbers g d r old new once f h b =
    let n = old.node d.thread in
    let e : r ≡ out (row_at d n) d n = h.result ∙ by_row d n h.safe in
    let s : (new.node d.thread).sends ≡ sends_after (out (row_at d n) d n).action n.sends = ap (λ (x : Node). x.sends) h.node ∙ ap (λ (x : Dispatched). sends_after x.action n.sends) e in
    let rise = sends_rise (out (row_at d n) d n).action n.sends in
    let later = one_later g d.thread old.node new.node h.others (omega arith) in
    subst (λ ds. Numbers g new.node ds) (sym (h.deeds ∙ ap (λ (x : Dispatched). added (deed_of x.action x.switch.course.call (doer d n)) old.deeds) e))
    (numbers_row (row_at d n) g d n old.node new.node old.deeds once h.thread (f.nodes d.thread h.thread) refl b (was_due g old f.balanced) later s)

-- what is even in packets is even in the numbers of the vertices
even_now : (g : Layout) (node : ℕ → Node) (deeds : List Deed) → Numbers g node deeds → SameItems (received deeds) (due g deeds) → EachArrived g (vertex_log deeds)
even_now g node deeds b same = record {
  each = λ test.
      let a = ap (λ xs. count_by test xs) b.received in
      let c = ap (λ xs. count_by test xs) b.due in
      let x = sum_by-map (λ y. cond (test y) 1 0) (relabel deeds) (received deeds) in
      let y = sum_by-map (λ z. cond (test z) 1 0) (relabel deeds) (due g deeds) in
      let s = same.each (λ i. test (relabel deeds i)) in
      omega arith;
}

rests_numbers : (g : Layout) (v : ℕ) (old new : World) → Fine g new → Announces g v old new → Numbers g old.node old.deeds → Numbers g new.node new.deeds
rests_numbers g v old new f h b =
    let later : Later g old.node new.node = record { each = λ t lt. let e = ap (λ (x : Node). x.sends) (h.nodes t lt) in omega arith } in
    let c = later_numbers g old.node new.node old.deeds b later in
    let lawful = subst (λ ds. Lawful g ds) h.deeds f.lawful in
    subst (λ ds. Numbers g new.node ds) (sym h.deeds) (record { sent = c.sent; received = c.received; due = c.due; even = (even_now g old.node old.deeds b lawful.0, c.even) })

one_numbers : (g : Layout) (t : ℕ) (old new : World) → Changed g old.node new.node t → (new.node t).sends ≡ (old.node t).sends → new.deeds ≡ old.deeds → Numbers g old.node old.deeds → Numbers g new.node new.deeds
one_numbers g t old new c e ds b = subst (λ xs. Numbers g new.node xs) (sym ds) (later_numbers g old.node new.node old.deeds b (one_later g t old.node new.node c (omega arith)))

stays_numbers : (g : Layout) (old new : World) → ((b : ℕ) → Has g b → new.node b ≡ old.node b) → new.deeds ≡ old.deeds → Numbers g old.node old.deeds → Numbers g new.node new.deeds
stays_numbers g old new nodes ds b =
    let later : Later g old.node new.node = record { each = λ t lt. let e = ap (λ (x : Node). x.sends) (nodes t lt) in omega arith } in
    subst (λ xs. Numbers g new.node xs) (sym ds) (later_numbers g old.node new.node old.deeds b later)

pub keeps_numbers : (g : Layout) (e : Event) (old new : World) → AllRouted g → Fine g old → Fine g new → Happens g e old new → Numbers g old.node old.deeds → Numbers g new.node new.deeds
keeps_numbers g (Does d r) old new once f k h b = does_numbers g d r old new once f h b
keeps_numbers g (Goes t) old new once f k h b = one_numbers g t old new h.others (ap (λ (x : Node). x.sends) h.node) h.deeds b
keeps_numbers g (Sees t v) old new once f k h b = one_numbers g t old new h.others (ap (λ (x : Node). x.sends) h.node) h.deeds b
keeps_numbers g (Rests v) old new once f k h b = rests_numbers g v old new k h b
keeps_numbers g (Drop a l) old new once f k h b = stays_numbers g old new h.nodes h.deeds b
keeps_numbers g Nothing old new once f k h b = stays_numbers g old new h.nodes h.deeds b

pub start_numbers : (g : Layout) (w : World) → Starting g w → Numbers g w.node w.deeds
start_numbers g w s = subst (λ ds. Numbers g w.node ds) (sym s.deeds) (record { sent = refl; received = refl; due = refl; even = tt })
