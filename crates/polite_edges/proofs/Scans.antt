-- What a deed changes of what is read off the deeds.
use Rattle.std.proofs.Common.{ℕ, ◌+◌, ◌≡◌, ◌≢◌, ◌∙◌, cond, List, ◌∷◌, refl, sym, ap, Option, Some, None}
use Rattle.std.proofs.lemmas.Bool.{ne_eqb}
use Rattle.polite_switch.specs.declared.action.Action.{Action}
use Rattle.polite_switch.specs.declared.action.Action.TheVariants as action
use Rattle.polite_switch.specs.declared.course.Call.{Call}
use Rattle.polite_switch.specs.declared.course.Entry.{Entry}
use Rattle.polite_switch.specs.declared.course.Entry.TheVariants as entry
use Rattle.tn_base.specs.declared.message.Letter.{Letter}
use Rattle.polite_edges.specs.Deeds.{Announced, Deed, Doer, Finished, Inited, Missed, Received, Sent, Stepped, added, begun_by, deed_of, received_by, receives_on, steps_on, value_of}

-- the deed is one of thread a
abbrev pub IsOf : ℕ → Deed → Type 0
IsOf a (Inited u d v) = u ≡ a
IsOf a (Sent s) = s.thread ≡ a
IsOf a (Received u d e l) = u ≡ a
IsOf a (Missed u d e) = u ≡ a
IsOf a (Stepped u d v) = u ≡ a
IsOf a (Finished u d v) = u ≡ a
IsOf a (Announced v) = ⊥

abbrev pub IfOf : ℕ → Option Deed → Type 0
IfOf a None = Unit {0}
IfOf a (Some deed) = IsOf a deed

received_of : (a : ℕ) (call : Call) (held : Option Letter) → IfOf a (received_by a call held)
received_of a call None = refl
received_of a call (Some l) = refl

begun_of : (e : Entry) (a : ℕ) (call : Call) (vertex : ℕ) (held : Option Letter) → IfOf a (begun_by e a call vertex held)
begun_of entry.Init a call vertex held = refl
begun_of entry.Send a call vertex held = tt
begun_of entry.Recv a call vertex held = received_of a call held
begun_of entry.Step a call vertex held = refl
begun_of entry.Finish a call vertex held = refl

-- a dispatch adds a deed of its own thread, or none
pub deed_is_of : (o : Action) (call : Option Call) (x : Doer) → IfOf x.thread (deed_of o call x)
deed_is_of (action.Handler e s m v y r) None x = tt
deed_is_of (action.Handler e s m v y r) (Some call) x = begun_of call.entry x.thread call _ x.held
deed_is_of action.Recv call x = tt
deed_is_of (action.KeySend key) None x = tt
deed_is_of (action.KeySend key) (Some call) x = refl
deed_is_of action.HostSend call x = tt
deed_is_of action.Free call x = tt
deed_is_of (action.Wait waits) call x = tt
deed_is_of (action.Idle vote) call x = tt
deed_is_of action.Kill call x = tt
deed_is_of (action.Trap why) call x = tt

value_one : (a : ℕ) (deed : Deed) (log : List Deed) → IsOf a deed → value_of (deed ∷ log) ≡ value_of log
value_one a (Inited u d v) log h = refl
value_one a (Sent s) log h = refl
value_one a (Received u d e l) log h = refl
value_one a (Missed u d e) log h = refl
value_one a (Stepped u d v) log h = refl
value_one a (Finished u d v) log h = refl
value_one a (Announced v) log h = absurd h

pub value_kept : (a : ℕ) (o : Option Deed) (log : List Deed) → IfOf a o → value_of (added o log) ≡ value_of log
value_kept a None log h = refl
value_kept a (Some deed) log h = value_one a deed log h

steps_one : (a u : ℕ) (deed : Deed) (log : List Deed) → IsOf a deed → u ≢ a → steps_on u (deed ∷ log) ≡ steps_on u log
steps_one a u (Inited x d v) log h ne = refl
steps_one a u (Sent s) log h ne = refl
steps_one a u (Received x d e l) log h ne = refl
steps_one a u (Missed x d e) log h ne = refl
steps_one a u (Stepped x d v) log h ne = ap (λ b. cond b (d ∷ steps_on u log) (steps_on u log)) (ne_eqb x u (λ e. ne (sym e ∙ h)))
steps_one a u (Finished x d v) log h ne = refl
steps_one a u (Announced v) log h ne = absurd h

pub steps_kept : (a u : ℕ) (o : Option Deed) (log : List Deed) → IfOf a o → u ≢ a → steps_on u (added o log) ≡ steps_on u log
steps_kept a u None log h ne = refl
steps_kept a u (Some deed) log h ne = steps_one a u deed log h ne

receives_one : (a u : ℕ) (deed : Deed) (log : List Deed) → IsOf a deed → u ≢ a → receives_on u (deed ∷ log) ≡ receives_on u log
receives_one a u (Inited x d v) log h ne = refl
receives_one a u (Sent s) log h ne = refl
receives_one a u (Received x d e l) log h ne = ap (λ b. cond b (1 + receives_on u log) (receives_on u log)) (ne_eqb x u (λ e. ne (sym e ∙ h)))
receives_one a u (Missed x d e) log h ne = refl
receives_one a u (Stepped x d v) log h ne = refl
receives_one a u (Finished x d v) log h ne = refl
receives_one a u (Announced v) log h ne = absurd h

pub receives_kept : (a u : ℕ) (o : Option Deed) (log : List Deed) → IfOf a o → u ≢ a → receives_on u (added o log) ≡ receives_on u log
receives_kept a u None log h ne = refl
receives_kept a u (Some deed) log h ne = receives_one a u deed log h ne

-- a send changes none of them
pub record Quiet (a : ℕ) (o : Option Deed) (log : List Deed) : Type 0 where
  pub same_value : value_of (added o log) ≡ value_of log
  pub same_steps : steps_on a (added o log) ≡ steps_on a log
  pub same_receives : receives_on a (added o log) ≡ receives_on a log

pub send_quiet : (a : ℕ) (key : Option ℕ) (call : Option Call) (x : Doer) (log : List Deed) → Quiet a (deed_of (action.KeySend key) call x) log
send_quiet a key None x log = record { same_value = refl; same_steps = refl; same_receives = refl }
send_quiet a key (Some call) x log = record { same_value = refl; same_steps = refl; same_receives = refl }

-- what a receive changes is how many there were
pub receive_value : (a : ℕ) (call : Call) (held : Option Letter) (log : List Deed) → value_of (added (received_by a call held) log) ≡ value_of log
receive_value a call None log = refl
receive_value a call (Some l) log = refl

pub receive_steps : (a : ℕ) (call : Call) (held : Option Letter) (log : List Deed) → steps_on a (added (received_by a call held) log) ≡ steps_on a log
receive_steps a call None log = refl
receive_steps a call (Some l) log = refl
