-- Each event keeps what holds of nodes, so the deeds of each run are lawful.
use Rattle.std.proofs.Common.{ℕ, ◌≤◌, ◌≡◌, ◌⊎◌, ◌∙◌, true, false, cond, List, [], ◌∷◌, length, refl, sym, ap, subst, inl, inr, arith, sum_by, Option, Some, None}
use Rattle.std.specs.Prelude.{is_some, unwrap_or}
use Rattle.polite_switch.specs.declared.course.Course.{Course}
use Rattle.polite_switch.specs.declared.course.Hand.{Hand}
use Rattle.polite_switch.specs.declared.device.InEdge.{InEdge}
use Rattle.std.proofs.lemmas.Bool.{cases_Bool, cases_eq}
use Rattle.std.proofs.lemmas.List.Sums.{sum_by-cons}
use Rattle.polite_switch.specs.declared.action.Action.TheVariants as action
use Rattle.polite_switch.specs.declared.row.Row.{Row}
use Rattle.polite_switch.specs.declared.row.Row.TheVariants as row
use Rattle.polite_switch.specs.declared.course.Call.{Call}
use Rattle.polite_switch.specs.Kept.{RowHolds}
use Rattle.polite_switch.specs.Table.{Dispatched, dispatched, edge_after, fault_of, fresh_switch, is_pin, next_edge, recv_call, row_of, sent_key, unless_fault}
use Rattle.polite_switch.specs.Device.{no_edge}
use Rattle.polite_switch.proofs.Dispatching.{start_kept}
use Rattle.polite_switch.proofs.Rows.{row_holds}
use Rattle.tn_base.specs.declared.message.Letter.{Letter}
use Rattle.polite_edges.specs.Deeds.{Announced, Deed, Item, Lawful, WasDue, added, deed_of, down, due, received, received_by, receives_on, steps_on, value_of}
use Rattle.polite_edges.specs.Layout.{AllRouted, IsPlaced, Layout, device_count}
use Rattle.polite_edges.proofs.Fine.{Balanced, Ended, Fine, HandFits, NodeFine, Phase, Resting, StatusFits, answer_of, finished_by, holding, stepped_by}
use Rattle.polite_edges.proofs.Late.{Late, NodeLate, Silent, going_late, late_row, quiet_row}
use Rattle.polite_edges.proofs.Nodes.{Announces, Answered, Changed, Completes, Dead, Dispatch, Dispatches, Does, Drop, Drops, Event, FlightAfter, Goes, Going, Happens, Has, Idling, Node, Nothing, Rests, SameFlight, Sees, Status, Wakes, World, brings, doer, flying, node_after, status_by, view_of}
use Rattle.polite_edges.proofs.Rows.{going_phase, node_row, out, phase_on, taken_at}
use Rattle.polite_edges.proofs.Scans.{deed_is_of, receives_kept, steps_kept, value_kept}
use Rattle.polite_edges.proofs.Threads.{Listed, changed_over, none_over, same_over}
use Rattle.polite_edges.proofs.Weights.{no_hand, weigh_row}

abbrev pub row_at : Dispatch → Node → Row
row_at d n = row_of (view_of d n) (taken_at d n)

-- a dispatch without a fault does its row
pub by_row : (d : Dispatch) (n : Node) → fault_of (view_of d n) n.switch ≡ None → dispatched (view_of d n) n.switch ≡ out (row_at d n) d n
by_row d n e = ap (λ f. unless_fault f (view_of d n) n.switch) e

status_on : (n : ℕ) (st : Status) (nd : Node) (log new : List Deed) → value_of new ≡ value_of log → StatusFits n st nd.switch.course log → StatusFits n st nd.switch.course new
status_on n Going nd log new v f = tt
status_on n Idling nd log new v f = f
status_on n (Answered a) nd log new v f = tt
status_on n Dead nd log new v f = record { two = v ∙ f.two; hand = f.hand }

node_on : (g : Layout) (t : ℕ) (log new : List Deed) (n : Node) → NodeFine g t log n → value_of new ≡ value_of log → steps_on t new ≡ steps_on t log → receives_on t new ≡ receives_on t log → NodeFine g t new n
node_on g t log new n f v s r = record {
  devices = f.devices;
  in_edges = f.in_edges;
  kept = f.kept;
  hand = f.hand;
  phase = phase_on _ _ log new _ _ _ f.phase v s r;
  status = status_on _ n.status n log new v f.status;
}

-- nothing is received that was not due
pub was_due : (g : Layout) (w : World) → Balanced g w → WasDue g w.deeds
was_due g w b = record { each = λ test. let e = b.each (λ i. cond (test i) 1 0) in omega arith }

-- a recv handler is called with a letter
received_lawful : (g : Layout) (t : ℕ) (lists : List (List InEdge)) (call : Call) (l : Option Letter) (h : Option Hand) (log : List Deed) → HandFits l h → is_some (edge_after lists h) ≡ true → WasDue g (added (received_by t call l) log) → Lawful g log → Lawful g (added (received_by t call l) log)
received_lawful g t lists call None None log f some w h = absurd cc
received_lawful g t lists call None (Some x) log f some w h = absurd f
received_lawful g t lists call (Some l) x log f some w h = (w, h)

sent_lawful : (g : Layout) (d : Dispatch) (n : Node) (key : Option ℕ) (call : Option Call) (log : List Deed) → Lawful g log → Lawful g (added (deed_of (action.KeySend key) call (doer d n)) log)
sent_lawful g d n key None log h = h
sent_lawful g d n key (Some call) log h = h

lawful_row : (r : Row) (g : Layout) (d : Dispatch) (n : Node) (log : List Deed) → NodeFine g d.thread log n → n.status ≡ Going → RowHolds r (view_of d n) (taken_at d n)
    → WasDue g (added (deed_of (out r d n).action (out r d n).switch.course.call (doer d n)) log) → Lawful g log → Lawful g (added (deed_of (out r d n).action (out r d n).switch.course.call (doer d n)) log)
lawful_row row.KeySend g d n log f go h w l = sent_lawful g d n (sent_key n.switch.devices n.switch.course.call) n.switch.course.call log l
lawful_row row.HostSend g d n log f go h w l = l
lawful_row row.HostWait g d n log f go h w l = l
lawful_row row.Init g d n log f go h w l = l
lawful_row row.Recv g d n log f go h w l = received_lawful g d.thread n.switch.in_edges (recv_call (unwrap_or (next_edge (taken_at d n)) no_edge)) n.hand n.switch.course.hand log f.hand h w l
lawful_row row.Free g d n log f go h w l = l
lawful_row row.Step g d n log f go h w l =
    let p = going_phase g d n log f go in
    let e = ap length f.devices in
    let early = p.early (let less = h.1 in omega arith) in
    (early.one, early.none, l)
lawful_row row.Finish g d n log f go h w l = ((going_phase g d n log f go).late h.1, l)
lawful_row row.Kill g d n log f go h w l = l
lawful_row row.Take g d n log f go h w l = l
lawful_row row.Send g d n log f go h w l = l
lawful_row row.Wait g d n log f go h w l = l
lawful_row row.Idle g d n log f go h w l = l

-- a dispatch by its row, at the result that the row gives
pub does_row : (g : Layout) (o : Listed g.shape) (d : Dispatch) (r : Row) (old new : World) → AllRouted g → Fine g old → Has g d.thread → (old.node d.thread).status ≡ Going → RowHolds r (view_of d (old.node d.thread)) (taken_at d (old.node d.thread))
    → new.node d.thread ≡ node_after (out r d (old.node d.thread)) d (old.node d.thread) → Changed g old.node new.node d.thread
    → FlightAfter (out r d (old.node d.thread)).action g d (old.node d.thread) old.flight new.flight
    → new.deeds ≡ added (deed_of (out r d (old.node d.thread)).action (out r d (old.node d.thread)).switch.course.call (doer d (old.node d.thread))) old.deeds → Fine g new
does_row g o d r old new once f there go h node others flight deeds =
    let t = d.thread in
    let n = old.node t in
    let deed = deed_of (out r d n).action (out r d n).switch.course.call (doer d n) in
    let mine = f.nodes t there in
    let of = deed_is_of (out r d n).action (out r d n).switch.course.call (doer d n) in
    let after = node_row r g d n old.deeds old.flight new.flight mine go h flight in
    let balanced : Balanced g new = record {
      each = λ w.
          let a = weigh_row r w g d n old.deeds old.flight new.flight once there mine h flight in
          let b = f.balanced.each w in
          let c = changed_over g.shape (λ u. holding w (old.node u)) (λ u. holding w (new.node u)) t o there (λ u has ne. ap (holding w) (others.other u has ne)) in
          let i = ap (holding w) node in
          let x = ap (λ ds. sum_by w (received ds)) deeds in
          let y = ap (λ ds. sum_by w (due g ds)) deeds in
          omega arith;
    } in
    record {
      nodes = λ u lu. elim (cases_eq u t) [
        | inl e ↦ subst (λ v. NodeFine g v new.deeds (new.node v)) (sym e) (subst (λ ds. NodeFine g t ds (new.node t)) (sym deeds) (subst (λ nd. NodeFine g t (added deed old.deeds) nd) (sym node) after))
        | inr ne ↦
            let kept = node_on g u old.deeds (added deed old.deeds) (old.node u) (f.nodes u lu) (value_kept t deed old.deeds of) (steps_kept t u deed old.deeds of ne) (receives_kept t u deed old.deeds of ne) in
            subst (λ ds. NodeFine g u ds (new.node u)) (sym deeds) (subst (λ nd. NodeFine g u (added deed old.deeds) nd) (sym (others.other u lu ne)) kept)
      ];
      balanced = balanced;
      lawful = subst (λ ds. Lawful g ds) (sym deeds) (lawful_row r g d n old.deeds mine go h (subst (λ ds. WasDue g ds) deeds (was_due g new balanced)) f.lawful);
    }

does : (g : Layout) (o : Listed g.shape) (d : Dispatch) (r : Dispatched) (old new : World) → AllRouted g → Fine g old → Dispatches g d r old new → Fine g new
does g o d r old new once f h =
    let n = old.node d.thread in
    let e : r ≡ out (row_at d n) d n = h.result ∙ by_row d n h.safe in
    does_row g o d (row_at d n) old new once f h.thread h.going (row_holds (view_of d n) (taken_at d n))
    (subst (λ x. new.node d.thread ≡ node_after x d n) e h.node) h.others
    (subst (λ (x : Dispatched). FlightAfter x.action g d n old.flight new.flight) e h.flight)
    (subst (λ (x : Dispatched). new.deeds ≡ added (deed_of x.action x.switch.course.call (doer d n)) old.deeds) e h.deeds)

-- an event that changes one thread's status alone
one_node : (g : Layout) (o : Listed g.shape) (t : ℕ) (old new : World) (n : Node) → Fine g old → Has g t → new.node t ≡ n → NodeFine g t old.deeds n → ((w : Item → ℕ) → holding w n ≡ holding w (old.node t)) → Changed g old.node new.node t → SameFlight g old.flight new.flight → new.deeds ≡ old.deeds → Fine g new
one_node g o t old new n f there node fine same others flight deeds = record {
  nodes = λ u lu. elim (cases_eq u t) [
    | inl e ↦ subst (λ v. NodeFine g v new.deeds (new.node v)) (sym e) (subst (λ ds. NodeFine g t ds (new.node t)) (sym deeds) (subst (λ nd. NodeFine g t old.deeds nd) (sym node) fine))
    | inr ne ↦ subst (λ ds. NodeFine g u ds (new.node u)) (sym deeds) (subst (λ nd. NodeFine g u old.deeds nd) (sym (others.other u lu ne)) (f.nodes u lu))
  ];
  balanced = record {
    each = λ w.
        let b = f.balanced.each w in
        let c = changed_over g.shape (λ u. holding w (old.node u)) (λ u. holding w (new.node u)) t o there (λ u has ne. ap (holding w) (others.other u has ne)) in
        let i = ap (holding w) node in
        let s = same w in
        let x = ap (λ ds. sum_by w (received ds)) deeds in
        let y = ap (λ ds. sum_by w (due g ds)) deeds in
        let z = flight w in
        omega arith;
  };
  lawful = subst (λ ds. Lawful g ds) (sym deeds) f.lawful;
}

wakes : (g : Layout) (o : Listed g.shape) (t : ℕ) (old new : World) → Fine g old → Wakes g t old new → Fine g new
wakes g o t old new f h =
    let mine = f.nodes t h.thread in
    let n = old.node t in
    one_node g o t old new (record n { status = Going; given = 0 }) f h.thread h.node
    (
    record {
      devices = mine.devices;
      kept = mine.kept;
      in_edges = mine.in_edges;
      hand = mine.hand;
      phase = subst (λ st. Phase (device_count g t) t old.deeds n.switch.course.hand (stepped_by (answer_of st n.given) n.switch.course.stepped) (finished_by (answer_of st n.given) n.switch.course.finished)) h.idle mine.phase;
      status = tt;
    }
    )
    (λ w. refl) h.others h.flight h.deeds

completes : (g : Layout) (o : Listed g.shape) (t v : ℕ) (old new : World) → Fine g old → Completes g t v old new → Fine g new
completes g o t v old new f h =
    let mine = f.nodes t h.thread in
    let n = old.node t in
    one_node g o t old new (record n { status = Going; given = v }) f h.thread h.node
    (
    record {
      devices = mine.devices;
      kept = mine.kept;
      in_edges = mine.in_edges;
      hand = mine.hand;
      phase = subst (λ st. Phase (device_count g t) t old.deeds n.switch.course.hand (stepped_by (answer_of st n.given) n.switch.course.stepped) (finished_by (answer_of st n.given) n.switch.course.finished)) h.answered mine.phase;
      status = tt;
    }
    )
    (λ w. refl) h.others h.flight h.deeds

resting_of : (g : Layout) (t : ℕ) (log : List Deed) (n : Node) → NodeFine g t log n → n.status ≡ Idling → Resting (device_count g t) n.switch.course
resting_of g t log n f e = subst (λ st. StatusFits (device_count g t) st n.switch.course log) e f.status

idle_phase : (g : Layout) (t : ℕ) (log : List Deed) (n : Node) → NodeFine g t log n → n.status ≡ Idling → Phase (device_count g t) t log n.switch.course.hand n.switch.course.stepped n.switch.course.finished
idle_phase g t log n f e = subst (λ st. Phase (device_count g t) t log n.switch.course.hand (stepped_by (answer_of st n.given) n.switch.course.stepped) (finished_by (answer_of st n.given) n.switch.course.finished)) e f.phase

-- an idle thread gets the answer
one_phase : (n t : ℕ) (log : List Deed) (c : Course) → Resting n c → Phase n t (Announced 1 ∷ log) c.hand 0 c.finished
one_phase n t log c r = record {
  within = omega arith;
  in_order = λ o. refl;
  early = λ l. record { one = refl; none = refl; hand = r.hand };
  late = λ x. absurd (let e = ap is_some r.finished in cc);
  not_late = λ x o. omega arith;
}

two_phase : (n t : ℕ) (log : List Deed) (c : Course) → Resting n c → c.stepped ≤ n → Phase n t (Announced 2 ∷ log) c.hand c.stepped (Some 0)
two_phase n t log c r less = record {
  within = less;
  in_order = λ o. absurd (omega arith);
  early = λ l. absurd (let e = r.stepped in omega arith);
  late = λ x. refl;
  not_late = λ x o. absurd cc;
}

answer_phase : (n t v : ℕ) (log : List Deed) (c : Course) → (v ≡ 1) ⊎ (v ≡ 2) → Resting n c → c.stepped ≤ n → Phase n t (Announced v ∷ log) c.hand (stepped_by v c.stepped) (finished_by v c.finished)
answer_phase n t v log c (inl e) r less = subst (λ a. Phase n t (Announced a ∷ log) c.hand (stepped_by a c.stepped) (finished_by a c.finished)) (sym e) (one_phase n t log c r)
answer_phase n t v log c (inr e) r less = subst (λ a. Phase n t (Announced a ∷ log) c.hand (stepped_by a c.stepped) (finished_by a c.finished)) (sym e) (two_phase n t log c r less)

ended_of : (g : Layout) (t : ℕ) (log : List Deed) (n : Node) → NodeFine g t log n → n.status ≡ Dead → Ended n.switch.course log
ended_of g t log n f e = subst (λ st. StatusFits (device_count g t) st n.switch.course log) e f.status

-- if one thread is idle, none is dead
idle_or_dead : (g : Layout) (some t : ℕ) (w : World) → Fine g w → Has g some → (w.node some).status ≡ Idling → Has g t → (w.node t).status ≡ Dead → ⊥
idle_or_dead g some t w f hs idle ht dead =
    let e = ended_of g t w.deeds (w.node t) (f.nodes t ht) dead in
    let live = f.nodes some hs in
    let r = resting_of g some w.deeds (w.node some) live idle in
    let p = idle_phase g some w.deeds (w.node some) live idle in
    p.not_late (ap is_some r.finished) e.two

node_answered : (g : Layout) (t v : ℕ) (log : List Deed) (n : Node) → (v ≡ 1) ⊎ (v ≡ 2) → NodeFine g t log n → n.status ≡ Idling → NodeFine g t (Announced v ∷ log) (record n { status = Answered v })
node_answered g t v log n a f e =
    let r = resting_of g t log n f e in
    let p = idle_phase g t log n f e in
    record { devices = f.devices; in_edges = f.in_edges; kept = f.kept; hand = f.hand; phase = answer_phase _ t v log n.switch.course a r p.within; status = tt }

-- a dead thread sees that the value is 2 again
node_dead : (g : Layout) (t v : ℕ) (log : List Deed) (n : Node) → v ≡ 2 → NodeFine g t log n → n.status ≡ Dead → NodeFine g t (Announced v ∷ log) n
node_dead g t v log n two f e =
    let d = ended_of g t log n f e in
    let p = f.phase in
    record {
      devices = f.devices;
      in_edges = f.in_edges;
      kept = f.kept;
      hand = f.hand;
      phase = record {
        within = p.within;
        in_order = λ o. absurd (omega arith);
        early = λ l. absurd (let x = (p.early l).one in let y = d.two in omega arith);
        late = λ x. two;
        not_late = λ x o. p.not_late x d.two;
      };
      status = subst (λ st. StatusFits (device_count g t) st n.switch.course (Announced v ∷ log)) (sym e) (record { two = two; hand = d.hand });
    }

one_or_two : (g : Layout) (v : ℕ) (old new : World) → Announces g v old new → (v ≡ 1) ⊎ (v ≡ 2)
one_or_two g v old new h = elim h.live [
  | inl two ↦ inr two
  | inr one ↦ inl one.0
]

-- a thread is dead only if the value is 2
dead_two : (g : Layout) (v t : ℕ) (old new : World) → Fine g old → Announces g v old new → Has g t → (old.node t).status ≡ Dead → v ≡ 2
dead_two g v t old new f h ht dead = elim h.live [
  | inl two ↦ two
  | inr one ↦ absurd (idle_or_dead g one.1.0 t old f one.1.1 one.1.2 ht dead)
]

node_rests : (g : Layout) (v t : ℕ) (old new : World) → Fine g old → Announces g v old new → Has g t → NodeFine g t (Announced v ∷ old.deeds) (record (old.node t) { status = status_by v (old.node t).status })
node_rests g v t old new f h ht = elim (h.idle t ht) [
  | inl e ↦ subst (λ st. NodeFine g t (Announced v ∷ old.deeds) (record (old.node t) { status = status_by v st })) (sym e) (node_answered g t v old.deeds (old.node t) (one_or_two g v old new h) (f.nodes t ht) e)
  | inr dead ↦
      let fine = node_dead g t v old.deeds (old.node t) (dead_two g v t old new f h ht dead) (f.nodes t ht) dead in
      subst (λ st. NodeFine g t (Announced v ∷ old.deeds) (record (old.node t) { status = st })) (dead ∙ ap (status_by v) (sym dead)) fine
]

no_hand_at : (g : Layout) (v t : ℕ) (old new : World) → Fine g old → Announces g v old new → Has g t → (old.node t).switch.course.hand ≡ None
no_hand_at g v t old new f h ht = elim (h.idle t ht) [
  | inl e ↦ (resting_of g t old.deeds (old.node t) (f.nodes t ht) e).hand
  | inr dead ↦ (ended_of g t old.deeds (old.node t) (f.nodes t ht) dead).hand
]

all_stepped : (g : Layout) (v t : ℕ) (old new : World) → Fine g old → Announces g v old new → value_of old.deeds ≡ 1 → Has g t → steps_on t old.deeds ≡ down (device_count g t)
all_stepped g v t old new f h one ht = elim (h.idle t ht) [
  | inl e ↦
      let r = resting_of g t old.deeds (old.node t) (f.nodes t ht) e in
      let p = idle_phase g t old.deeds (old.node t) (f.nodes t ht) e in
      let a = r.stepped in
      let b = p.within in
      p.in_order one ∙ ap down (let e : (old.node t).switch.course.stepped ≡ device_count g t = omega arith in e)
  | inr dead ↦ absurd (let d = (ended_of g t old.deeds (old.node t) (f.nodes t ht) dead).two in omega arith)
]

rests : (g : Layout) (o : Listed g.shape) (v : ℕ) (old new : World) → Fine g old → Announces g v old new → Fine g new
rests g o v old new f h =
    record {
      nodes = λ t lt. subst (λ ds. NodeFine g t ds (new.node t)) (sym h.deeds) (subst (λ nd. NodeFine g t (Announced v ∷ old.deeds) nd) (sym (h.nodes t lt)) (node_rests g v t old new f h lt));
      balanced = record {
        each = λ w.
            let b = f.balanced.each w in
            let c = same_over g.shape (λ t. holding w (old.node t)) (λ t. holding w (new.node t)) o (λ t lt. sym (ap (holding w) (h.nodes t lt))) in
            let x = ap (λ ds. sum_by w (received ds)) h.deeds in
            let y = ap (λ ds. sum_by w (due g ds)) h.deeds in
            let z = h.flight w in
            omega arith;
      };
      lawful = subst (λ ds. Lawful g ds) (sym h.deeds) (
        record {
          each = λ test.
              let w : Item → ℕ = λ i. cond (test i) 1 0 in
              let b = f.balanced.each w in
              let z = h.empty w in
              let c = none_over g.shape (λ t. holding w (old.node t)) o (λ t lt. no_hand w (old.node t).switch.in_edges (old.node t).hand (old.node t).switch.course.hand (no_hand_at g v t old new f h lt)) in
              omega arith;
        },
        record { each = λ one t lt. all_stepped g v t old new f h one lt },
        f.lawful,
      );
    }

-- nodes stay, and what flies brings as much
stays : (g : Layout) (o : Listed g.shape) (old new : World) → Fine g old → ((b : ℕ) → Has g b → new.node b ≡ old.node b) → SameFlight g old.flight new.flight → new.deeds ≡ old.deeds → Fine g new
stays g o old new f nodes flight deeds = record {
  nodes = λ t lt. subst (λ ds. NodeFine g t ds (new.node t)) (sym deeds) (subst (λ nd. NodeFine g t old.deeds nd) (sym (nodes t lt)) (f.nodes t lt));
  balanced = record {
    each = λ w.
        let b = f.balanced.each w in
        let c = same_over g.shape (λ t. holding w (old.node t)) (λ t. holding w (new.node t)) o (λ t lt. sym (ap (holding w) (nodes t lt))) in
        let x = ap (λ ds. sum_by w (received ds)) deeds in
        let y = ap (λ ds. sum_by w (due g ds)) deeds in
        let z = flight w in
        omega arith;
  };
  lawful = subst (λ ds. Lawful g ds) (sym deeds) f.lawful;
}

-- a letter is dropped only when no letter in flight brings anything
dropped_nothing : (g : Layout) (a : ℕ) (l : Letter) (old new : World) → Fine g old → Late g old → Drops g a l old new → SameFlight g old.flight new.flight
dropped_nothing g a l old new f late h w =
    let two = (ended_of g a old.deeds (old.node a) (f.nodes a h.thread) h.dead).two in
    let z = late.quiet two w in
    let e = h.flight w in
    let c = sum_by-cons (brings w g) l new.flight in
    omega arith

pub keeps : (g : Layout) (o : Listed g.shape) (e : Event) (old new : World) → AllRouted g → Fine g old → Late g old → Happens g e old new → Fine g new
keeps g o (Does d r) old new once f late h = does g o d r old new once f h
keeps g o (Goes t) old new once f late h = wakes g o t old new f h
keeps g o (Sees t v) old new once f late h = completes g o t v old new f h
keeps g o (Rests v) old new once f late h = rests g o v old new f h
keeps g o (Drop a l) old new once f late h = stays g o old new f h.nodes (dropped_nothing g a l old new f late h) h.deeds
keeps g o Nothing old new once f late h = stays g o old new f h.nodes h.flight h.deeds

-- nodes that stay are as they were
pub late_node : (g : Layout) (old new : World) (t : ℕ) → Late g old → Has g t → new.node t ≡ old.node t → NodeLate (new.node t)
late_node g old new t l ht e = subst NodeLate (sym e) (l.nodes t ht)

late_does : (g : Layout) (d : Dispatch) (r : Dispatched) (old new : World) → Fine g old → Late g old → Dispatches g d r old new → Late g new
late_does g d r old new f l h =
    let n = old.node d.thread in
    let e : r ≡ out (row_at d n) d n = h.result ∙ by_row d n h.safe in
    let mine = l.nodes d.thread h.thread in
    let holds = row_holds (view_of d n) (taken_at d n) in
    record {
      nodes = λ u hu. elim (cases_eq u d.thread) [
        | inl same ↦
            let at : new.node d.thread ≡ node_after (out (row_at d n) d n) d n = subst (λ x. new.node d.thread ≡ node_after x d n) e h.node in
            subst (λ v. NodeLate (new.node v)) (sym same) (subst NodeLate (sym at) (late_row (row_at d n) d n mine h.going holds))
        | inr ne ↦ late_node g old new u l hu (h.others.other u hu ne)
      ];
      quiet = λ two w.
          let of = deed_is_of r.action r.switch.course.call (doer d n) in
          let before : value_of old.deeds ≡ 2 = sym (value_kept d.thread (deed_of r.action r.switch.course.call (doer d n)) old.deeds of) ∙ (ap value_of (sym h.deeds) ∙ two) in
          let p = going_phase g d n old.deeds (f.nodes d.thread h.thread) h.going in
          let pin : is_pin (taken_at d n).course.due ≡ false = elim (cases_Bool (is_some (taken_at d n).course.finished)) [
            | inl some ↦ going_late d n mine h.going some
            | inr none ↦ absurd (p.not_late none before)
          ] in
          quiet_row (row_at d n) w g d n old.flight new.flight holds pin (subst (λ (x : Dispatched). FlightAfter x.action g d n old.flight new.flight) e h.flight) (l.quiet before w);
    }

late_one : (g : Layout) (t : ℕ) (old new : World) → Late g old → Has g t → NodeLate (new.node t) → Changed g old.node new.node t → SameFlight g old.flight new.flight → new.deeds ≡ old.deeds → Late g new
late_one g t old new l ht mine others flight deeds = record {
  nodes = λ u hu. elim (cases_eq u t) [
    | inl same ↦ subst (λ v. NodeLate (new.node v)) (sym same) mine
    | inr ne ↦ late_node g old new u l hu (others.other u hu ne)
  ];
  quiet = λ two w. flight w ∙ l.quiet (sym (ap value_of deeds) ∙ two) w;
}

late_wakes : (g : Layout) (t : ℕ) (old new : World) → Late g old → Wakes g t old new → Late g new
late_wakes g t old new l h =
    let mine = l.nodes t h.thread in
    late_one g t old new l h.thread (subst NodeLate (sym h.node) (record { silent = λ some. mine.idle h.idle; idle = λ e. mine.idle h.idle })) h.others h.flight h.deeds

late_completes : (g : Layout) (t v : ℕ) (old new : World) → Late g old → Completes g t v old new → Late g new
late_completes g t v old new l h =
    let mine = l.nodes t h.thread in
    let n = old.node t in
    let s = subst (λ st. is_some (finished_by (answer_of st n.given) n.switch.course.finished) ≡ true → Silent n.switch.course) h.answered mine.silent in
    late_one g t old new l h.thread (subst NodeLate (sym h.node) (record { silent = s; idle = λ e. absurd cc })) h.others h.flight h.deeds

late_rests : (g : Layout) (v : ℕ) (old new : World) → Late g old → Announces g v old new → Late g new
late_rests g v old new l h = record {
  nodes = λ t ht. subst NodeLate (sym (h.nodes t ht)) (elim (h.idle t ht) [
    | inl e ↦ record { silent = λ some. (l.nodes t ht).idle e; idle = λ x. (l.nodes t ht).idle e }
    | inr dead ↦ subst (λ st. NodeLate (record (old.node t) { status = st })) (dead ∙ ap (status_by v) (sym dead)) (l.nodes t ht)
  ]);
  quiet = λ two w. h.flight w ∙ h.empty w;
}

late_stays : (g : Layout) (old new : World) → Late g old → ((b : ℕ) → Has g b → new.node b ≡ old.node b) → SameFlight g old.flight new.flight → new.deeds ≡ old.deeds → Late g new
late_stays g old new l nodes flight deeds = record {
  nodes = λ t ht. late_node g old new t l ht (nodes t ht);
  quiet = λ two w. flight w ∙ l.quiet (sym (ap value_of deeds) ∙ two) w;
}

pub keeps_late : (g : Layout) (e : Event) (old new : World) → Fine g old → Late g old → Happens g e old new → Late g new
keeps_late g (Does d r) old new f l h = late_does g d r old new f l h
keeps_late g (Goes t) old new f l h = late_wakes g t old new l h
keeps_late g (Sees t v) old new f l h = late_completes g t v old new l h
keeps_late g (Rests v) old new f l h = late_rests g v old new l h
keeps_late g (Drop a letter) old new f l h = late_stays g old new l h.nodes (dropped_nothing g a letter old new f l h) h.deeds
keeps_late g Nothing old new f l h = late_stays g old new l h.nodes h.flight h.deeds

-- At the start.

pub record Fresh (g : Layout) (a : ℕ) (n : Node) : Type 0 where
  pub switch : n.switch ≡ fresh_switch (g.devices a) (g.in_edges a)
  pub status : n.status ≡ Going
  pub given : n.given ≡ 0
  pub hand : n.hand ≡ None

pub record Starting (g : Layout) (w : World) : Type 0 where
  pub flight : w.flight ≡ []
  pub nodes : (a : ℕ) → Has g a → Fresh g a (w.node a)
  pub deeds : w.deeds ≡ []

abbrev fresh_node : Layout → ℕ → ℕ → Node
fresh_node g a sends = record { switch = fresh_switch (g.devices a) (g.in_edges a); status = Going; given = 0; sends = sends; hand = None }

fresh_is : (g : Layout) (a : ℕ) (n : Node) → Fresh g a n → fresh_node g a n.sends ≡ n
fresh_is g a n f = λ i. record { switch = sym f.switch i; status = sym f.status i; given = sym f.given i; sends = n.sends; hand = sym f.hand i }

fresh_fine : (g : Layout) (t sends : ℕ) → IsPlaced g → Has g t → NodeFine g t [] (fresh_node g t sends)
fresh_fine g t sends p lt = record {
  devices = refl;
  in_edges = refl;
  kept = start_kept (g.devices t) (g.in_edges t) (p.few t lt) (p.aligned t lt) (p.named t lt);
  hand = tt;
  phase = record {
    within = omega arith;
    in_order = λ o. absurd (omega arith);
    early = λ l. absurd (omega arith);
    late = λ x. absurd cc;
    not_late = λ x o. omega arith;
  };
  status = tt;
}

pub starts : (g : Layout) (o : Listed g.shape) (w : World) → IsPlaced g → Starting g w → Fine g w
starts g o w p s = record {
  nodes = λ t lt. subst (λ ds. NodeFine g t ds (w.node t)) (sym s.deeds) (subst (λ nd. NodeFine g t [] nd) (fresh_is g t (w.node t) (s.nodes t lt)) (fresh_fine g t (w.node t).sends p lt));
  balanced = record {
    each = λ x.
        let z = ap (λ ls. flying x g ls) s.flight in
        let c = none_over g.shape (λ t. holding x (w.node t)) o (λ t lt. sym (ap (holding x) (fresh_is g t (w.node t) (s.nodes t lt)))) in
        let a = ap (λ ds. sum_by x (received ds)) s.deeds in
        let b = ap (λ ds. sum_by x (due g ds)) s.deeds in
        omega arith;
  };
  lawful = subst (λ ds. Lawful g ds) (sym s.deeds) tt;
}

pub starts_late : (g : Layout) (w : World) → Starting g w → Late g w
starts_late g w s = record {
  nodes = λ t lt. subst NodeLate (fresh_is g t (w.node t) (s.nodes t lt)) (record { silent = λ some. absurd cc; idle = λ e. absurd cc });
  quiet = λ two w. absurd (let e = ap value_of s.deeds in omega arith);
}
