-- Each row keeps what holds of its thread.
use Rattle.std.proofs.Common.{ℕ, suc, ◌+◌, ◌<◌, ◌≡◌, ◌∙◌, true, cond, List, ◌∷◌, length, refl, sym, ap, subst, arith, Option, Some, None}
use Rattle.std.specs.Prelude.{is_some, unwrap_or, option_map}
use Rattle.std.proofs.lemmas.Bool.{eq-eqb}
use Rattle.polite_switch.specs.declared.course.Hand.{Hand}
use Rattle.polite_switch.specs.declared.device.InEdge.{InEdge}
use Rattle.polite_switch.specs.declared.row.Row.{Row}
use Rattle.polite_switch.specs.declared.row.Row.TheVariants as row
use Rattle.polite_switch.specs.Course.{finished_after, stepped_after}
use Rattle.polite_switch.specs.Device.{no_edge}
use Rattle.polite_switch.specs.Kept.{RowHolds}
use Rattle.polite_switch.specs.SwitchModel.{SwitchModel}
use Rattle.polite_switch.specs.Table.{Dispatched, acted, done, edge_after, next_edge, recv_call, sent_key, served_more, taken}
use Rattle.polite_switch.proofs.Dispatching.{row_kept}
use Rattle.tn_base.specs.declared.message.Letter.{Letter}
use Rattle.tn_slots.specs.Pool.{key_in}
use Rattle.polite_edges.specs.Deeds.{Deed, Stepped, added, deed_of, down, receives_on, steps_on, value_of}
use Rattle.polite_edges.specs.Layout.{Layout, device_count}
use Rattle.polite_edges.proofs.Fine.{HandFits, NodeFine, Phase, answer_of, finished_by, stepped_by}
use Rattle.polite_edges.proofs.Nodes.{Dispatch, FlightAfter, Going, Node, TakesSeen, doer, node_after, view_of}
use Rattle.polite_edges.proofs.Scans.{receive_steps, receive_value, send_quiet}

-- the dispatch, if this is its row
abbrev pub taken_at : Dispatch → Node → SwitchModel
taken_at d n = taken (view_of d n) n.switch

abbrev pub out : Row → Dispatch → Node → Dispatched
out r d n = acted (done r (view_of d n) (taken_at d n)) (taken_at d n)

pub phase_on : (n t : ℕ) (log new : List Deed) (hand : Option Hand) (s : ℕ) (f : Option ℕ) → Phase n t log hand s f → value_of new ≡ value_of log → steps_on t new ≡ steps_on t log → receives_on t new ≡ receives_on t log → Phase n t new hand s f
phase_on n t log new hand s f p v a r = record {
  within = p.within;
  in_order = λ o. a ∙ p.in_order (sym v ∙ o);
  early = λ l. let e = p.early l in record { one = v ∙ e.one; none = r ∙ e.none; hand = e.hand };
  late = λ x. v ∙ p.late x;
  not_late = λ x o. p.not_late x (sym v ∙ o);
}

-- the phase as the dispatch sees it
abbrev pub PhaseOf : Layout → Dispatch → Node → List Deed → Type 0
PhaseOf g d n log = Phase (device_count g d.thread) d.thread log n.switch.course.hand (stepped_after (view_of d n) n.switch.course.stepped) (finished_after (view_of d n) n.switch.course.finished)

pub going_phase : (g : Layout) (d : Dispatch) (n : Node) (log : List Deed) → NodeFine g d.thread log n → n.status ≡ Going → PhaseOf g d n log
going_phase g d n log f e =
    subst (λ st. Phase (device_count g d.thread) d.thread log n.switch.course.hand (stepped_by (answer_of st n.given) n.switch.course.stepped) (finished_by (answer_of st n.given) n.switch.course.finished)) e f.phase

hand_served : (l : Option Letter) (h : Option Hand) → HandFits l h → HandFits l (served_more h)
hand_served None None f = tt
hand_served None (Some h) f = f
hand_served (Some l) None f = f
hand_served (Some l) (Some h) f = f

hand_taken : (g : Layout) (t : ℕ) (seen : Option Letter) (old new : List Letter) → TakesSeen g t seen old new → HandFits seen (Some (record { key = unwrap_or (option_map (λ (l : Letter). key_in l.bytes) seen) 0; served = 0 }))
hand_taken g t None old new h = absurd h
hand_taken g t (Some l) old new h = refl

no_edge_left : (lists : List (List InEdge)) (h : Option Hand) → h ≡ None → is_some (edge_after lists h) ≡ true → ⊥
no_edge_left lists None e h = absurd cc
no_edge_left lists (Some x) e h = absurd cc

-- a thread that steps_on its next device
step_phase : (n t v : ℕ) (log : List Deed) (hand : Option Hand) (s : ℕ) (f : Option ℕ) → Phase n t log hand s f → s < n → Phase n t (Stepped t s v ∷ log) hand (s + 1) f
step_phase n t v log hand s f p less = record {
  within = omega arith;
  in_order = λ o. ap (λ b. cond b (s ∷ steps_on t log) (steps_on t log)) (eq-eqb t t refl) ∙ (ap (λ ds. s ∷ ds) (p.in_order o) ∙ ap down (let e : suc s ≡ s + 1 = omega arith in e));
  early = λ l. let e = p.early less in record { one = e.one; none = e.none; hand = e.hand };
  late = λ x. p.late x;
  not_late = λ x o. p.not_late x o;
}

pub node_row : (r : Row) (g : Layout) (d : Dispatch) (n : Node) (log : List Deed) (old new : List Letter) → NodeFine g d.thread log n → n.status ≡ Going → RowHolds r (view_of d n) (taken_at d n) → FlightAfter (out r d n).action g d n old new
    → NodeFine g d.thread (added (deed_of (out r d n).action (out r d n).switch.course.call (doer d n)) log) (node_after (out r d n) d n)
node_row row.KeySend g d n log old new f go h fl =
    let q = send_quiet d.thread (sent_key n.switch.devices n.switch.course.call) n.switch.course.call (doer d n) log in
    record { devices = f.devices; in_edges = f.in_edges; kept = row_kept row.KeySend (view_of d n) n.switch f.kept h; hand = f.hand; phase = phase_on _ _ log _ _ _ _ (going_phase g d n log f go) q.same_value q.same_steps q.same_receives; status = tt }
node_row row.HostSend g d n log old new f go h fl = record { devices = f.devices; in_edges = f.in_edges; kept = row_kept row.HostSend (view_of d n) n.switch f.kept h; hand = f.hand; phase = going_phase g d n log f go; status = tt }
node_row row.HostWait g d n log old new f go h fl = record { devices = f.devices; in_edges = f.in_edges; kept = row_kept row.HostWait (view_of d n) n.switch f.kept h; hand = f.hand; phase = going_phase g d n log f go; status = tt }
node_row row.Init g d n log old new f go h fl = record { devices = f.devices; in_edges = f.in_edges; kept = row_kept row.Init (view_of d n) n.switch f.kept h; hand = f.hand; phase = phase_on _ _ log _ _ _ _ (going_phase g d n log f go) refl refl refl; status = tt }
node_row row.Recv g d n log old new f go h fl =
    let p = going_phase g d n log f go in
    let call = recv_call (unwrap_or (next_edge (taken_at d n)) no_edge) in
    let v = receive_value d.thread call n.hand log in
    let a = receive_steps d.thread call n.hand log in
    record {
      devices = f.devices;
      in_edges = f.in_edges;
      kept = row_kept row.Recv (view_of d n) n.switch f.kept h;
      hand = hand_served n.hand n.switch.course.hand f.hand;
      phase = record {
        within = p.within;
        in_order = λ o. a ∙ p.in_order (sym v ∙ o);
        early = λ l. absurd (no_edge_left n.switch.in_edges n.switch.course.hand (p.early l).hand h);
        late = λ x. v ∙ p.late x;
        not_late = λ x o. p.not_late x (sym v ∙ o);
      };
      status = tt;
    }
node_row row.Free g d n log old new f go h fl =
    let p = going_phase g d n log f go in
    record {
      devices = f.devices;
      in_edges = f.in_edges;
      kept = row_kept row.Free (view_of d n) n.switch f.kept h;
      hand = tt;
      phase = record {
        within = p.within;
        in_order = λ o. p.in_order o;
        early = λ l. let e = p.early l in record { one = e.one; none = e.none; hand = refl };
        late = λ x. p.late x;
        not_late = λ x o. p.not_late x o;
      };
      status = tt;
    }
node_row row.Step g d n log old new f go h fl =
    let l = ap length f.devices in
    record { devices = f.devices; in_edges = f.in_edges; kept = row_kept row.Step (view_of d n) n.switch f.kept h; hand = f.hand; phase = step_phase _ _ _ log _ _ _ (going_phase g d n log f go) (let less = h.1 in omega arith); status = tt }
node_row row.Finish g d n log old new f go h fl =
    let p = going_phase g d n log f go in
    record {
      devices = f.devices;
      in_edges = f.in_edges;
      kept = row_kept row.Finish (view_of d n) n.switch f.kept h;
      hand = f.hand;
      phase = record {
        within = p.within;
        in_order = λ o. p.in_order o;
        early = λ l. let e = p.early l in record { one = e.one; none = e.none; hand = e.hand };
        late = λ x. p.late h.1;
        not_late = λ x o. absurd cc;
      };
      status = tt;
    }
node_row row.Kill g d n log old new f go h fl =
    let p = going_phase g d n log f go in
    record { devices = f.devices; in_edges = f.in_edges; kept = row_kept row.Kill (view_of d n) n.switch f.kept h; hand = f.hand; phase = p; status = record { two = p.late h.1; hand = h.0 } }
node_row row.Take g d n log old new f go h fl =
    let p = going_phase g d n log f go in
    let l = ap length f.devices in
    let c = h.0.stepped in
    record {
      devices = f.devices;
      in_edges = f.in_edges;
      kept = row_kept row.Take (view_of d n) n.switch f.kept h;
      hand = hand_taken g d.thread d.seen old new fl;
      phase = record {
        within = p.within;
        in_order = λ o. p.in_order o;
        early = λ less. absurd (omega arith);
        late = λ x. p.late x;
        not_late = λ x o. p.not_late x o;
      };
      status = tt;
    }
node_row row.Send g d n log old new f go h fl = record { devices = f.devices; in_edges = f.in_edges; kept = row_kept row.Send (view_of d n) n.switch f.kept h; hand = f.hand; phase = going_phase g d n log f go; status = tt }
node_row row.Wait g d n log old new f go h fl = record { devices = f.devices; in_edges = f.in_edges; kept = row_kept row.Wait (view_of d n) n.switch f.kept h; hand = f.hand; phase = going_phase g d n log f go; status = tt }
node_row row.Idle g d n log old new f go h fl =
    let l = ap length f.devices in
    let c = h.0.stepped in
    record {
      devices = f.devices;
      in_edges = f.in_edges;
      kept = row_kept row.Idle (view_of d n) n.switch f.kept h;
      hand = f.hand;
      phase = going_phase g d n log f go;
      status = record { hand = h.0.hand; stepped = omega arith; finished = h.0.finished };
    }
