-- After an announcement of 2 nothing is sent by a key, so no letter for a thread is in flight.
use Rattle.std.proofs.Common.{ℕ, ◌≡◌, ◌∙◌, cond, Bool, true, false, List, refl, ap, subst, arith, Option, Some, None}
use Rattle.std.specs.Prelude.{is_some}
use Rattle.std.proofs.lemmas.List.Sums.{sum_by-cons}
use Rattle.polite_switch.specs.declared.action.SwitchView.{SwitchView}
use Rattle.polite_switch.specs.declared.course.Call.{Call}
use Rattle.polite_switch.specs.declared.course.Course.{Course}
use Rattle.polite_switch.specs.declared.course.Due.{Due}
use Rattle.polite_switch.specs.declared.course.Due.TheVariants as due
use Rattle.polite_switch.specs.declared.course.Entry.{Entry}
use Rattle.polite_switch.specs.declared.course.Entry.TheVariants as entry
use Rattle.polite_switch.specs.declared.row.Row.{Row}
use Rattle.polite_switch.specs.declared.row.Row.TheVariants as row
use Rattle.polite_switch.specs.Course.{back_of, due_after, due_by}
use Rattle.polite_switch.specs.Kept.{RowHolds}
use Rattle.polite_switch.specs.Table.{is_pin}
use Rattle.tn_base.specs.declared.message.Letter.{Letter}
use Rattle.polite_edges.specs.Deeds.{Item, value_of}
use Rattle.polite_edges.specs.Layout.{Layout}
use Rattle.polite_edges.proofs.Fine.{answer_of, finished_by}
use Rattle.polite_edges.proofs.Nodes.{Dispatch, FlightAfter, Going, Has, Idling, Node, TakesSeen, World, brings, flying, node_after, view_of}
use Rattle.polite_edges.proofs.Rows.{out, taken_at}

abbrev pub is_send : Entry → Bool
is_send entry.Init = false
is_send entry.Send = true
is_send entry.Recv = false
is_send entry.Step = false
is_send entry.Finish = false

abbrev pub is_sending : Option Call → Bool
is_sending None = false
is_sending (Some call) = is_send call.entry

-- the next dispatch sends nothing by a key
pub record Silent (c : Course) : Type 0 where
  pub due : is_pin c.due ≡ false
  pub call : is_sending (back_of c) ≡ false

pub record NodeLate (n : Node) : Type 0 where
  pub silent : is_some (finished_by (answer_of n.status n.given) n.switch.course.finished) ≡ true → Silent n.switch.course
  pub idle : n.status ≡ Idling → Silent n.switch.course

pub record Late (g : Layout) (w : World) : Type 0 where
  pub nodes : (a : ℕ) → Has g a → NodeLate (w.node a)
  pub quiet : value_of w.deeds ≡ 2 → (weight : Item → ℕ) → flying weight g w.flight ≡ 0

either : (b : Bool) (x y : Due) → is_pin x ≡ false → is_pin y ≡ false → is_pin (cond b x y) ≡ false
either true x y h k = h
either false x y h k = k

by_entry : (e : Entry) (a0 : ℕ) → is_send e ≡ false → is_pin (due_by e a0) ≡ false
by_entry entry.Init a0 h = refl
by_entry entry.Send a0 h = absurd cc
by_entry entry.Recv a0 h = refl
by_entry entry.Step a0 h = refl
by_entry entry.Finish a0 h = either _ due.Nothing due.Host refl refl

by_call : (call : Option Call) (v : SwitchView) (now : Due) → is_pin now ≡ false → is_sending call ≡ false → is_pin (due_after call v now) ≡ false
by_call None v now h k = h
by_call (Some call) v now h k = by_entry call.entry v.a0 k

-- the dispatch takes what was returned, and no send by a key is due then
pub taken_silent : (d : Dispatch) (n : Node) → Silent n.switch.course → is_pin (taken_at d n).course.due ≡ false
taken_silent d n s = by_call (back_of n.switch.course) (view_of d n) n.switch.course.due s.due s.call

pub going_late : (d : Dispatch) (n : Node) → NodeLate n → n.status ≡ Going → is_some (taken_at d n).course.finished ≡ true → is_pin (taken_at d n).course.due ≡ false
going_late d n l go some =
    let s = subst (λ st. is_some (finished_by (answer_of st n.given) n.switch.course.finished) ≡ true → Silent n.switch.course) go l.silent in
    taken_silent d n (s some)

pub late_row : (r : Row) (d : Dispatch) (n : Node) → NodeLate n → n.status ≡ Going → RowHolds r (view_of d n) (taken_at d n) → NodeLate (node_after (out r d n) d n)
late_row row.KeySend d n l go h = record { silent = λ some. record { due = refl; call = refl }; idle = λ e. absurd cc }
late_row row.HostSend d n l go h = record { silent = λ some. record { due = refl; call = refl }; idle = λ e. absurd cc }
late_row row.HostWait d n l go h = record { silent = λ some. record { due = going_late d n l go some; call = refl }; idle = λ e. absurd cc }
late_row row.Init d n l go h = record { silent = λ some. record { due = going_late d n l go some; call = refl }; idle = λ e. absurd cc }
late_row row.Recv d n l go h = record { silent = λ some. record { due = going_late d n l go some; call = refl }; idle = λ e. absurd cc }
late_row row.Free d n l go h = record { silent = λ some. record { due = going_late d n l go some; call = refl }; idle = λ e. absurd cc }
late_row row.Step d n l go h = record { silent = λ some. record { due = going_late d n l go some; call = refl }; idle = λ e. absurd cc }
late_row row.Finish d n l go h = record { silent = λ some. record { due = going_late d n l go h.1; call = refl }; idle = λ e. absurd cc }
late_row row.Kill d n l go h = record { silent = λ some. record { due = going_late d n l go some; call = refl }; idle = λ e. absurd cc }
late_row row.Take d n l go h = record { silent = λ some. record { due = ap is_pin h.0.due; call = refl }; idle = λ e. absurd cc }
late_row row.Send d n l go h = record { silent = λ some. absurd (let e = ap is_some h.0.finished in cc); idle = λ e. absurd cc }
late_row row.Wait d n l go h = record { silent = λ some. record { due = ap is_pin h.0.due; call = refl }; idle = λ e. absurd cc }
late_row row.Idle d n l go h = record { silent = λ some. record { due = ap is_pin h.0.due; call = refl }; idle = λ e. record { due = ap is_pin h.0.due; call = refl } }

take_quiet : (w : Item → ℕ) (g : Layout) (a : ℕ) (seen : Option Letter) (old new : List Letter) → TakesSeen g a seen old new → flying w g old ≡ 0 → flying w g new ≡ 0
take_quiet w g a None old new h z = absurd h
take_quiet w g a (Some l) old new h z =
    let e = h.0 w in
    let c = sum_by-cons (brings w g) l new in
    omega arith

no_pin : (s : Due) → s ≡ due.Pin → is_pin s ≡ false → ⊥
no_pin s e h = let x = ap is_pin e in absurd cc

-- a row that sends nothing by a key leaves no more in flight than there was
pub quiet_row : (r : Row) (w : Item → ℕ) (g : Layout) (d : Dispatch) (n : Node) (old new : List Letter) → RowHolds r (view_of d n) (taken_at d n) → is_pin (taken_at d n).course.due ≡ false
    → FlightAfter (out r d n).action g d n old new → flying w g old ≡ 0 → flying w g new ≡ 0
quiet_row row.KeySend w g d n old new h pin fl z = absurd (no_pin (taken_at d n).course.due h pin)
quiet_row row.HostSend w g d n old new h pin fl z = fl w ∙ z
quiet_row row.HostWait w g d n old new h pin fl z = fl w ∙ z
quiet_row row.Init w g d n old new h pin fl z = fl w ∙ z
quiet_row row.Recv w g d n old new h pin fl z = fl w ∙ z
quiet_row row.Free w g d n old new h pin fl z = fl w ∙ z
quiet_row row.Step w g d n old new h pin fl z = fl w ∙ z
quiet_row row.Finish w g d n old new h pin fl z = fl w ∙ z
quiet_row row.Kill w g d n old new h pin fl z = fl w ∙ z
quiet_row row.Take w g d n old new h pin fl z = take_quiet w g d.thread d.seen old new fl z
quiet_row row.Send w g d n old new h pin fl z = fl w ∙ z
quiet_row row.Wait w g d n old new h pin fl z = fl w ∙ z
quiet_row row.Idle w g d n old new h pin fl z = fl w ∙ z
