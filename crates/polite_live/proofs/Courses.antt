-- A send to the host is due, or a finish handler is running, only with no letter in hand and after an announcement of 2.
use Rattle.std.proofs.Common.{ℕ, ◌≡◌, ◌⊎◌, ◌==◌, ◌∙◌, Bool, true, false, cond, refl, sym, ap, subst, inl, inr, Option, Some, None, is_some}
use Rattle.std.proofs.lemmas.Bool.{cases_eq}
use Rattle.polite_switch.specs.declared.action.SwitchView.{SwitchView}
use Rattle.polite_switch.specs.declared.course.Call.{Call}
use Rattle.polite_switch.specs.declared.course.Course.{Course}
use Rattle.polite_switch.specs.declared.course.Due.{Due}
use Rattle.polite_switch.specs.declared.course.Due.TheVariants as due
use Rattle.polite_switch.specs.declared.course.Entry.{Entry}
use Rattle.polite_switch.specs.declared.course.Entry.TheVariants as entry
use Rattle.polite_switch.specs.declared.row.Row.{Row}
use Rattle.polite_switch.specs.declared.row.Row.TheVariants as row
use Rattle.polite_switch.specs.Course.{back_of, due_after, due_by, taken_course}
use Rattle.polite_switch.specs.Kept.{RowHolds}
use Rattle.polite_switch.specs.Table.{Dispatched, is_host, served_more}
use Rattle.polite_switch.proofs.Rows.{row_holds}
use Rattle.polite_edges.specs.Layout.{Layout}
use Rattle.polite_edges.proofs.Fine.{Fine}
use Rattle.polite_edges.proofs.Keeps.{by_row, row_at}
use Rattle.polite_edges.proofs.Nodes.{Announces, Answered, Changed, Dead, Dispatch, Dispatches, Does, Drop, Event, Goes, Going, Happens, Has, Node, Nothing, Rests, Sees, World, node_after, status_by, view_of}
use Rattle.polite_edges.proofs.Rows.{out, taken_at}
use Rattle.polite_edges.proofs.Fine.{Resting, StatusFits}
use Rattle.polite_edges.specs.Layout.{device_count}

abbrev is_finish : Entry → Bool
is_finish entry.Init = false
is_finish entry.Send = false
is_finish entry.Recv = false
is_finish entry.Step = false
is_finish entry.Finish = true

abbrev is_finishing : Option Call → Bool
is_finishing None = false
is_finishing (Some call) = is_finish call.entry

-- the devices are being finished, and no letter is in hand
pub record Closing (c : Course) : Type 0 where
  pub hand : c.hand ≡ None
  pub some : is_some c.finished ≡ true

pub record NodeCloses (n : Node) : Type 0 where
  pub host : is_host n.switch.course.due ≡ true → Closing n.switch.course
  pub back : is_finishing (back_of n.switch.course) ≡ true → Closing n.switch.course
  pub answered : (v : ℕ) → n.status ≡ Answered v → n.switch.course.hand ≡ None

-- ---- what was returned is taken

finish_due : (e : Entry) (a0 : ℕ) → is_host (due_by e a0) ≡ true → is_finish e ≡ true
finish_due entry.Init a0 h = absurd cc
finish_due entry.Send a0 h = absurd cc
finish_due entry.Recv a0 h = absurd cc
finish_due entry.Step a0 h = absurd cc
finish_due entry.Finish a0 h = refl

host_from : (call : Option Call) (v : SwitchView) (now : Due) → is_host (due_after call v now) ≡ true → (is_host now ≡ true) ⊎ (is_finishing call ≡ true)
host_from None v now h = inl h
host_from (Some call) v now h = inr (finish_due call.entry v.a0 h)

pub some_either : (b : Bool) (o : Option ℕ) → is_some o ≡ true → is_some (cond b (Some 0) o) ≡ true
some_either true o h = refl
some_either false o h = h

taken_closing : (v : SwitchView) (c : Course) → Closing c → Closing (taken_course v c)
taken_closing v c k = record { hand = k.hand; some = some_either (v.answer == 2) c.finished k.some }

taken_host : (d : Dispatch) (n : Node) → NodeCloses n → is_host (taken_at d n).course.due ≡ true → Closing (taken_at d n).course
taken_host d n k h = elim (host_from (back_of n.switch.course) (view_of d n) n.switch.course.due h) [
  | inl now ↦ taken_closing (view_of d n) n.switch.course (k.host now)
  | inr back ↦ taken_closing (view_of d n) n.switch.course (k.back back)
]

not_due : (x : Due) → x ≡ due.Nothing → is_host x ≡ true → ⊥
not_due x e h = let y = ap is_host e in absurd cc

-- ---- each row

closes_row : (r : Row) (d : Dispatch) (n : Node) → NodeCloses n → RowHolds r (view_of d n) (taken_at d n) → NodeCloses (node_after (out r d n) d n)
closes_row row.KeySend d n k h = record { host = λ e. absurd cc; back = λ e. absurd cc; answered = λ v e. absurd cc }
closes_row row.HostSend d n k h = record { host = λ e. absurd cc; back = λ e. absurd cc; answered = λ v e. absurd cc }
closes_row row.HostWait d n k h = record { host = λ e. taken_host d n k e; back = λ e. absurd cc; answered = λ v e. absurd cc }
closes_row row.Init d n k h = record { host = λ e. let c = taken_host d n k e in record { hand = c.hand; some = c.some }; back = λ e. absurd cc; answered = λ v e. absurd cc }
closes_row row.Recv d n k h = record { host = λ e. let c = taken_host d n k e in record { hand = ap served_more c.hand; some = c.some }; back = λ e. absurd cc; answered = λ v e. absurd cc }
closes_row row.Free d n k h = record { host = λ e. let c = taken_host d n k e in record { hand = refl; some = c.some }; back = λ e. absurd cc; answered = λ v e. absurd cc }
closes_row row.Step d n k h = record { host = λ e. let c = taken_host d n k e in record { hand = c.hand; some = c.some }; back = λ e. absurd cc; answered = λ v e. absurd cc }
closes_row row.Finish d n k h = record { host = λ e. record { hand = h.0; some = refl }; back = λ e. record { hand = h.0; some = refl }; answered = λ v e. absurd cc }
closes_row row.Kill d n k h = record { host = λ e. taken_host d n k e; back = λ e. absurd cc; answered = λ v e. absurd cc }
closes_row row.Take d n k h = record { host = λ e. absurd (not_due (taken_at d n).course.due h.0.due e); back = λ e. absurd cc; answered = λ v e. absurd cc }
closes_row row.Send d n k h = record { host = λ e. absurd (not_due (taken_at d n).course.due h.0.due e); back = λ e. absurd cc; answered = λ v e. absurd cc }
closes_row row.Wait d n k h = record { host = λ e. taken_host d n k e; back = λ e. absurd cc; answered = λ v e. absurd cc }
closes_row row.Idle d n k h = record { host = λ e. taken_host d n k e; back = λ e. absurd cc; answered = λ v e. absurd cc }

-- ---- each event

abbrev pub AllClose : Layout → (ℕ → Node) → Type 0
AllClose g node = (a : ℕ) → Has g a → NodeCloses (node a)

-- one node is another one
one_closes : (g : Layout) (a : ℕ) (old new : ℕ → Node) (n : Node) → AllClose g old → Changed g old new a → new a ≡ n → NodeCloses n → AllClose g new
one_closes g a old new n all others is mine = λ b has. elim (cases_eq b a) [
  | inl same ↦ subst (λ c. NodeCloses (new c)) (sym same) (subst NodeCloses (sym is) mine)
  | inr ne ↦ subst NodeCloses (sym (others.other b has ne)) (all b has)
]

-- a node that goes on
goes_on : (n : Node) (given : ℕ) → NodeCloses n → NodeCloses (record n { status = Going; given = given })
goes_on n given k = record { host = k.host; back = k.back; answered = λ v e. absurd cc }

does_closes : (g : Layout) (d : Dispatch) (r : Dispatched) (old new : World) → AllClose g old.node → Dispatches g d r old new → AllClose g new.node
does_closes g d r old new all h =
    let n = old.node d.thread in
    let e : r ≡ out (row_at d n) d n = h.result ∙ by_row d n h.safe in
    one_closes g d.thread old.node new.node (node_after (out (row_at d n) d n) d n) all h.others (subst (λ x. new.node d.thread ≡ node_after x d n) e h.node)
    (closes_row (row_at d n) d n (all d.thread h.thread) (row_holds (view_of d n) (taken_at d n)))

-- an idle thread that gets an answer has no letter in hand
told_closes : (g : Layout) (v : ℕ) (old new : World) → Fine g old → AllClose g old.node → Announces g v old new → AllClose g new.node
told_closes g v old new f all h = λ a has. subst NodeCloses (sym (h.nodes a has)) (elim (h.idle a has) [
  | inl idle ↦
      let r : Resting (device_count g a) (old.node a).switch.course = subst (λ st. StatusFits (device_count g a) st (old.node a).switch.course old.deeds) idle (f.nodes a has).status in
      record { host = (all a has).host; back = (all a has).back; answered = λ u e. r.hand }
  | inr dead ↦ record {
    host = (all a has).host;
    back = (all a has).back;
    answered = λ u e. absurd (let x : Dead ≡ Answered u = sym (ap (status_by v) dead) ∙ e in cc);
  }
])

same_closes : (g : Layout) (old new : ℕ → Node) → AllClose g old → ((b : ℕ) → Has g b → new b ≡ old b) → AllClose g new
same_closes g old new all same = λ b has. subst NodeCloses (sym (same b has)) (all b has)

pub event_closes : (g : Layout) (e : Event) (old new : World) → Fine g old → AllClose g old.node → Happens g e old new → AllClose g new.node
event_closes g (Does d r) old new f all h = does_closes g d r old new all h
event_closes g (Goes a) old new f all h = one_closes g a old.node new.node _ all h.others h.node (goes_on (old.node a) 0 (all a h.thread))
event_closes g (Sees a v) old new f all h = one_closes g a old.node new.node _ all h.others h.node (goes_on (old.node a) v (all a h.thread))
event_closes g (Rests v) old new f all h = told_closes g v old new f all h
event_closes g (Drop a l) old new f all h = same_closes g old.node new.node all h.nodes
event_closes g Nothing old new f all h = same_closes g old.node new.node all h.nodes
