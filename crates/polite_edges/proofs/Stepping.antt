-- Each step of a thread with a softswitch is an event of the thread's node.
use Rattle.std.proofs.Common.{ℕ, ◌+◌, ◌/◌, ◌^◌, ◌<◌, ◌≡◌, ◌⊎◌, ◌==◌, ◌∙◌, cond, Bool, true, false, List, [], refl, sym, ap, subst, inl, inr, arith, Option, Some, None}
use Rattle.std.specs.Prelude.{map, slice_get, unwrap_or}
use Rattle.std.proofs.lemmas.Bool.{eq-eqb, eqb-true}
use Rattle.polite_routes.specs.Hops.{arrives}
use Rattle.polite_switch.specs.declared.action.SwitchView.{SwitchView}
use Rattle.polite_switch.specs.SwitchModel.{SwitchModel}
use Rattle.polite_switch.specs.Table.{Dispatched, dispatched, fault_of, sent_key, unless_fault}
use Rattle.polite_switch.proofs.Rows.{row_holds}
use Rattle.rv_isa.specs.declared.instr.Instr.{Instr}
use Rattle.tn_base.specs.declared.event.Trap.{Trap}
use Rattle.tn_base.specs.declared.message.Letter.{Letter}
use Rattle.tn_base.specs.declared.op.Op.{Op}
use Rattle.tn_base.specs.declared.op.Op.TheVariants as op
use Rattle.tn_base.specs.declared.shape.ShapeNumbers.{ShapeNumbers}
use Rattle.tn_keys.specs.Reach.{Reach}
use Rattle.tn_thread.specs.declared.state.ThreadState.{ThreadState}
use Rattle.tn_thread.specs.declared.state.ThreadState.TheVariants as state
use Rattle.tn_thread.specs.declared.thread.Thread.{Thread}
use Rattle.tn_thread.specs.Dispatch.{view_of as thread_view}
use Rattle.tn_thread.specs.Step.{runnable, told}
use Rattle.tn_tile.specs.Handlers.{LeavesSwitch}
use Rattle.tn_tile.specs.Step.{due_at, due_by, next_step, step_by}
use Rattle.tn_tile.proofs.Handlers.{handlers_private}
use Rattle.tn_letters.specs.declared.steps.Seen.{Seen}
use Rattle.tn_letters.specs.Letters.{board_of, host_address}
use Rattle.polite_edges.specs.Deeds.{deed_of}
use Rattle.polite_edges.specs.Layout.{Layout}
use Rattle.polite_edges.specs.Runs.{dispatch_deed, doer_of, unless_trap}
use Rattle.polite_edges.proofs.Fine.{HandFits}
use Rattle.polite_edges.proofs.Handlers.{RunsBy, handler_runs, running}
use Rattle.polite_edges.proofs.Keeps.{by_row, row_at}
use Rattle.polite_edges.proofs.Leaving.{Setting, dispatch_at, does_of, row_leaves, traps}
use Rattle.polite_edges.proofs.Nodes.{Going, Node, view_of}
use Rattle.polite_edges.proofs.Rows.{taken_at}
use Rattle.polite_edges.proofs.Shown.{Asked, Carries, CarriedBy, Leaves, SeenIs, Shown, StateShown, sight_with}

-- what surrounds a step of a thread
pub record Around (g : Layout) (n : ShapeNumbers) (reach : Reach) (code : List (Option Instr)) (a : ℕ) (seen : Seen) (o : Option Letter) (nd : Node) : Type 0 where
  pub seen_is : SeenIs seen o
  pub hand : HandFits nd.hand nd.switch.course.hand
  pub reach_is : (key : ℕ) (bytes : List ℕ) → sent_key nd.switch.devices nd.switch.course.call ≡ Some key → reach (board_of a) key bytes ≡ map (arrives bytes) (g.hops a key)
  pub host : g.in_edges host_address ≡ []
  pub code_ends : slice_get code (0xFFFFFFF0 / 4) ≡ None

-- the switch sees the same of the thread and of the node
view_same : (a : ℕ) (seen : Seen) (o : Option Letter) (t : Thread) (held : ℕ → Option Letter) (nd : Node) → SeenIs seen o → nd.given ≡ t.given → thread_view (sight_with seen held) (running t) ≡ view_of (dispatch_at a seen o t) nd
view_same a seen o t held nd s given = λ i. record {
  can_send = seen.can_send;
  can_recv = s.first i;
  key = s.key i;
  answer = sym given i;
  a0 = (dispatch_at a seen o t).a0;
  a1 = (dispatch_at a seen o t).a1;
}

-- what a dispatch leaves, if r is its result
abbrev ByResult : Layout → ShapeNumbers → Reach → ℕ → Seen → Option Letter → Thread → (ℕ → Option Letter) → (ℕ → Option Letter) → Node → List Letter → List Letter → Dispatched → Type 0
ByResult g n reach a seen o t held now nd old new r =
    Asked g n reach a t.sends seen o (does_of r seen held t).op held now old new
    → Leaves g a nd (does_of r seen held t).thread now old new (unless_trap (does_of r seen held t).op (deed_of r.action r.switch.course.call (doer_of a t nd.switch (held t.hand))))

-- a dispatch that traps, or does its row
by_fault : (g : Layout) (n : ShapeNumbers) (reach : Reach) (a : ℕ) (seen : Seen) (o : Option Letter) (t : Thread) (held now : ℕ → Option Letter) (nd : Node) (old new : List Letter) (fault : Option Trap) → Setting g n reach a seen o t held nd →
    fault_of (view_of (dispatch_at a seen o t) nd) nd.switch ≡ fault → ByResult g n reach a seen o t held now nd old new (unless_fault fault (view_of (dispatch_at a seen o t) nd) nd.switch)
by_fault g n reach a seen o t held now nd old new (Some why) s e h = traps g a nd now old new why (record (running t) { switch = Some nd.switch }) s.going h
by_fault g n reach a seen o t held now nd old new None s e h =
    let d = dispatch_at a seen o t in
    row_leaves (row_at d nd) g n reach a seen o t held now nd old new (row_holds (view_of d nd) (taken_at d nd)) s e (sym (by_row d nd e)) h

-- a dispatch of the thread's switch
dispatches : (g : Layout) (n : ShapeNumbers) (reach : Reach) (a : ℕ) (seen : Seen) (o : Option Letter) (t : Thread) (held now : ℕ → Option Letter) (nd : Node) (old new : List Letter) → Setting g n reach a seen o t held nd →
    ByResult g n reach a seen o t held now nd old new (dispatched (thread_view (sight_with seen held) (running t)) nd.switch)
dispatches g n reach a seen o t held now nd old new s =
    subst (λ (v : SwitchView). ByResult g n reach a seen o t held now nd old new (dispatched v nd.switch)) (sym (view_same a seen o t held nd s.seen_is s.given))
    (by_fault g n reach a seen o t held now nd old new (fault_of (view_of (dispatch_at a seen o t) nd) nd.switch) s refl)

-- what a step of a thread leaves, if a dispatch of this switch is due
abbrev ByDue : Layout → ShapeNumbers → Reach → List (Option Instr) → ℕ → Seen → Option Letter → Thread → (ℕ → Option Letter) → (ℕ → Option Letter) → Node → List Letter → List Letter → Option SwitchModel → Type 0
ByDue g n reach code a seen o t held now nd old new due =
    let r = step_by due code (sight_with seen held) t in
    Asked g n reach a t.sends seen o r.op held now old new → Leaves g a nd r.thread now old new (dispatch_deed due a t (held t.hand) (sight_with seen held) r.op)

-- a switch is due only at the firmware's address, and it is the thread's
pub record IsDue (t : Thread) (s : SwitchModel) : Type 0 where
  pub home : t.pc ≡ 0xFFFFFFF0
  pub switch : t.switch ≡ Some s

firmware_due : (b : Bool) (x : Option SwitchModel) (s : SwitchModel) → cond b x None ≡ Some s → (b ≡ true) × (x ≡ Some s)
firmware_due true x s e = (refl, e)
firmware_due false x s e = absurd cc

due_is : (word : Option (Option Instr)) (t : Thread) (s : SwitchModel) → due_at word t ≡ Some s → IsDue t s
due_is None t s e =
    let f = firmware_due (t.pc == 0xFFFFFFF0) t.switch s e in
    record { home = eqb-true t.pc 0xFFFFFFF0 f.0; switch = f.1 }
due_is (Some word) t s e = absurd cc

-- at the firmware's address a dispatch is due
home_due : (code : List (Option Instr)) (t : Thread) (s : SwitchModel) → slice_get code (0xFFFFFFF0 / 4) ≡ None → t.pc ≡ 0xFFFFFFF0 → t.switch ≡ Some s → due_at (slice_get code (t.pc / 4)) t ≡ Some s
home_due code t s none home switch =
    ap (λ pc. due_at (slice_get code (pc / 4)) t) home ∙ (ap (λ w. due_at w t) none ∙ (ap (λ b. cond b t.switch None) (eq-eqb t.pc 0xFFFFFFF0 home) ∙ switch))

-- a handler runs on or traps
handler_by : (g : Layout) (n : ShapeNumbers) (reach : Reach) (a : ℕ) (seen : Seen) (o : Option Letter) (t : Thread) (held now : ℕ → Option Letter) (nd : Node) (old new : List Letter) (asked : Op) (u : Thread) → Carries t held nd → nd.status ≡ Going → nd.given ≡ 0 →
    RunsBy asked u → u.firmware ≡ true → u.switch ≡ t.switch → u.hand ≡ t.hand → u.sends ≡ t.sends → u.steps ≡ t.steps + 1 → Asked g n reach a t.sends seen o asked held now old new → Leaves g a nd u now old new None
handler_by g n reach a seen o t held now nd old new op.None u c going given runs firm switch hand sends steps h = record {
  node = nd;
  shown = record {
    state = subst (λ st. StateShown st u nd) (sym runs.0) (going, given ∙ sym runs.1, inl runs.1);
    carries = subst (λ st. CarriedBy st u now nd) (sym runs.0) (record {
      firmware = firm;
      switch = switch ∙ c.switch;
      sends = c.sends ∙ sym sends;
      few = (let f = c.few in omega arith);
      holds = λ slot. ap (λ (f : ℕ → Option Letter). f slot) h.1 ∙ (c.holds slot ∙ ap (λ k. cond (slot == k) nd.hand None) (sym hand));
    });
  };
  local = inl (inl (record { node = refl; flight = h.0; deed_is = refl }));
}
handler_by g n reach a seen o t held now nd old new (op.Send to bytes) u c going given runs firm switch hand sends steps h = absurd runs
handler_by g n reach a seen o t held now nd old new op.Hand u c going given runs firm switch hand sends steps h = absurd runs
handler_by g n reach a seen o t held now nd old new (op.Free slot) u c going given runs firm switch hand sends steps h = absurd runs
handler_by g n reach a seen o t held now nd old new (op.Idle vote) u c going given runs firm switch hand sends steps h = absurd runs
handler_by g n reach a seen o t held now nd old new (op.Kill value) u c going given runs firm switch hand sends steps h = absurd runs
handler_by g n reach a seen o t held now nd old new (op.Trap why) u c going given runs firm switch hand sends steps h = record {
  node = nd;
  shown = record { state = subst (λ st. StateShown st u nd) (sym runs) going; carries = subst (λ st. CarriedBy st u now nd) (sym runs) tt };
  local = inl (inl (record { node = refl; flight = h; deed_is = refl }));
}

-- a step that counts one and keeps the firmware
pub record Counts (t u : Thread) : Type 0 where
  pub firmware : u.firmware ≡ t.firmware
  pub steps : u.steps ≡ t.steps + 1

-- a thread that runs
run_by : (g : Layout) (n : ShapeNumbers) (reach : Reach) (code : List (Option Instr)) (a : ℕ) (seen : Seen) (o : Option Letter) (t : Thread) (held now : ℕ → Option Letter) (nd : Node) (old new : List Letter) (due : Option SwitchModel) → Around g n reach code a seen o nd → Shown (running t) held nd →
    due_at (slice_get code (t.pc / 4)) (running t) ≡ due → Counts (running t) (step_by due code (sight_with seen held) (running t)).thread → t.steps + 1 < 2 ^ 32 → ByDue g n reach code a seen o (running t) held now nd old new due
run_by g n reach code a seen o t held now nd old new None x sh e counts few h =
    let seeing = sight_with seen held in
    let c = sh.carries in
    let same : next_step code seeing (running t) ≡ step_by None code seeing (running t) = ap (λ d. step_by d code seeing (running t)) e in
    let l = subst (LeavesSwitch (running t)) same (handlers_private code seeing (running t) c.firmware e) in
    let none : t.given ≡ 0 = elim sh.state.2 [
      | inl zero ↦ zero
      | inr home ↦ absurd (let d = sym (home_due code (running t) nd.switch x.code_ends home c.switch) ∙ e in cc)
    ] in
    handler_by g n reach a seen o (running t) held now nd old new (step_by None code seeing (running t)).op (step_by None code seeing (running t)).thread c sh.state.0 (sh.state.1 ∙ none)
    (handler_runs code seeing t c.firmware) (counts.firmware ∙ c.firmware) l.switch l.hand l.sends counts.steps h
run_by g n reach code a seen o t held now nd old new (Some s) x sh e counts few h =
    let c = sh.carries in
    let is = due_is (slice_get code (t.pc / 4)) (running t) s e in
    let same : nd.switch ≡ s = ap (λ y. unwrap_or y nd.switch) (sym c.switch ∙ is.switch) in
    let setting : Setting g n reach a seen o t held nd = record {
      carries = record { firmware = c.firmware; switch = c.switch; sends = c.sends; few = c.few; holds = c.holds };
      going = sh.state.0;
      given = sh.state.1;
      home = is.home;
      seen_is = x.seen_is;
      hand = x.hand;
      reach_is = x.reach_is;
      host = x.host;
      few = few;
    } in
    subst (λ (y : SwitchModel). ByDue g n reach code a seen o (running t) held now nd old new (Some y)) same (dispatches g n reach a seen o t held now nd old new setting) h

told_is : (v : ℕ) → (v ≡ 1) ⊎ (v ≡ 2) → told v ≡ v
told_is v (inl e) = subst (λ x. told x ≡ x) (sym e) refl
told_is v (inr e) = subst (λ x. told x ≡ x) (sym e) refl

-- the thread in a state
abbrev pub in_state : ThreadState → Thread → Thread
in_state st t = record t { state = st }

abbrev pub ByState : Layout → ShapeNumbers → Reach → List (Option Instr) → ℕ → Seen → Option Letter → Thread → (ℕ → Option Letter) → (ℕ → Option Letter) → Node → List Letter → List Letter → Type 0
ByState g n reach code a seen o t held now nd old new =
    let r = next_step code (sight_with seen held) t in
    Around g n reach code a seen o nd → Shown t held nd → runnable (sight_with seen held) t.state ≡ true → Counts t r.thread → t.steps + 1 < 2 ^ 32 → Asked g n reach a t.sends seen o r.op held now old new →
    Leaves g a nd r.thread now old new (dispatch_deed (due_by t.state code t) a t (held t.hand) (sight_with seen held) r.op)

in_each : (st : ThreadState) (g : Layout) (n : ShapeNumbers) (reach : Reach) (code : List (Option Instr)) (a : ℕ) (seen : Seen) (o : Option Letter) (t : Thread) (held now : ℕ → Option Letter) (nd : Node) (old new : List Letter) → ByState g n reach code a seen o (in_state st t) held now nd old new
in_each state.Run g n reach code a seen o t held now nd old new x sh can counts few h =
    run_by g n reach code a seen o t held now nd old new (due_at (slice_get code (t.pc / 4)) (running t)) x sh refl counts few h
in_each (state.Wait waits) g n reach code a seen o t held now nd old new x sh can counts few h =
    let c = sh.carries in
    record {
      node = nd;
      shown = record {
        state = (sh.state.0, sh.state.1, inl refl);
        carries = record { firmware = c.firmware; switch = c.switch; sends = c.sends; few = (let f = c.few in omega arith); holds = λ slot. ap (λ (f : ℕ → Option Letter). f slot) h.1 ∙ c.holds slot };
      };
      local = inl (inl (record { node = refl; flight = h.0; deed_is = refl }));
    }
in_each (state.Idle vote) g n reach code a seen o t held now nd old new x sh can counts few h =
    let c = sh.carries in
    record {
      node = record nd { status = Going; given = 0 };
      shown = record {
        state = (refl, refl, inl refl);
        carries = record { firmware = c.firmware; switch = c.switch; sends = c.sends; few = (let f = c.few in omega arith); holds = λ slot. ap (λ (f : ℕ → Option Letter). f slot) h.1 ∙ c.holds slot };
      };
      local = inl (inr (record { idle = sh.state.0; node = refl; flight = h.0; deed_is = refl }));
    }
in_each (state.Answered value) g n reach code a seen o t held now nd old new x sh can counts few h =
    let c = sh.carries in
    record {
      node = record nd { status = Going; given = value };
      shown = record {
        state = (refl, sym (told_is value sh.state.2), inr sh.state.1);
        carries = record { firmware = c.firmware; switch = c.switch; sends = c.sends; few = (let f = c.few in omega arith); holds = λ slot. ap (λ (f : ℕ → Option Letter). f slot) h.1 ∙ c.holds slot };
      };
      local = inr (inl (record { value = value; answered = sh.state.0; node = refl; flight = h.0; deed_is = refl }));
    }
in_each (state.Dead value) g n reach code a seen o t held now nd old new x sh can counts few h = absurd cc
in_each (state.Trapped why) g n reach code a seen o t held now nd old new x sh can counts few h = absurd cc

-- a step of a thread is an event of its node
pub step_leaves : (g : Layout) (n : ShapeNumbers) (reach : Reach) (code : List (Option Instr)) (a : ℕ) (seen : Seen) (o : Option Letter) (t : Thread) (held now : ℕ → Option Letter) (nd : Node) (old new : List Letter) → ByState g n reach code a seen o t held now nd old new
step_leaves g n reach code a seen o t held now nd old new = in_each t.state g n reach code a seen o t held now nd old new
