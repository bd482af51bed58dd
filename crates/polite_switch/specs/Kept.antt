-- What holds of every softswitch, and of every action of one.
use Rattle.std.specs.Prelude.{ℕ, ◌≡◌, ◌%◌, ◌<◌, ◌≤◌, is_some, length, None, true, false, unwrap_or}
use Rattle.std.specs.Option.{ForSome}
use Rattle.polite_switch.specs.declared.action.Action.{Action}
use Rattle.polite_switch.specs.declared.action.Action.TheVariants as action
use Rattle.polite_switch.specs.declared.action.SwitchView.{SwitchView}
use Rattle.polite_switch.specs.declared.course.Course.{Course}
use Rattle.polite_switch.specs.declared.course.Due.TheVariants as due
use Rattle.polite_switch.specs.declared.row.Acted.{Acted}
use Rattle.polite_switch.specs.declared.row.Row.{Row}
use Rattle.polite_switch.specs.declared.row.Row.TheVariants as row
use Rattle.polite_switch.specs.Device.{AllAligned, AllNamed}
use Rattle.polite_switch.specs.Ready.{WellQueued}
use Rattle.polite_switch.specs.SwitchModel.{SwitchModel}
use Rattle.polite_switch.specs.Table.{done, next_edge}

-- how far it has come fits n devices
pub record CourseFits (n : ℕ) (c : Course) : Type 0 where
  pub call : ForSome c.call (λ call. call.device < n)
  pub begun : c.begun ≤ n
  pub stepped : c.stepped ≤ n
  pub finished : ForSome c.finished (λ k. k ≤ n)

pub record WellKept (s : SwitchModel) : Type 0 where
  pub few : length s.devices ≤ 64
  pub marks : length s.ready.marks ≡ length s.devices
  pub aligned : AllAligned s.devices
  pub named : AllNamed (length s.devices) s.in_edges
  pub course : CourseFits (length s.devices) s.course

-- a softswitch as each one is
pub record IsKept (s : SwitchModel) : Type 0 where
  pub fits : WellKept s
  pub queued : WellQueued s.ready

-- a handler is called only at an address that four divides, and a wait names conditions that are there
abbrev pub FitsAction : Action → Type 0
FitsAction (action.Handler entry state message value vertex ready) = entry % 4 ≡ 0
FitsAction action.Recv = Unit {0}
FitsAction (action.KeySend key) = Unit {0}
FitsAction action.HostSend = Unit {0}
FitsAction action.Free = Unit {0}
FitsAction (action.Wait waits) = waits < 4
FitsAction (action.Idle vote) = Unit {0}
FitsAction action.Kill = Unit {0}
FitsAction (action.Trap why) = Unit {0}

-- rows 1 to 7 have nothing to do
pub record IsCalm (s : SwitchModel) : Type 0 where
  pub due : s.course.due ≡ due.Nothing
  pub begun : length s.devices ≤ s.course.begun
  pub hand : s.course.hand ≡ None
  pub stepped : length s.devices ≤ s.course.stepped
  pub finished : s.course.finished ≡ None

-- what the choice of a row tells
abbrev pub RowHolds : Row → SwitchView → SwitchModel → Type 0
RowHolds row.KeySend v s = s.course.due ≡ due.Pin
RowHolds row.HostSend v s = (s.course.due ≡ due.Host) × (v.can_send ≡ true)
RowHolds row.HostWait v s = (s.course.due ≡ due.Host) × (v.can_send ≡ false)
RowHolds row.Init v s = s.course.begun < length s.devices
RowHolds row.Recv v s = is_some (next_edge s) ≡ true
RowHolds row.Free v s = (is_some (next_edge s) ≡ false) × (is_some s.course.hand ≡ true)
RowHolds row.Step v s = (s.course.hand ≡ None) × (s.course.stepped < length s.devices)
RowHolds row.Finish v s = (s.course.hand ≡ None) × (is_some s.course.finished ≡ true) × (unwrap_or s.course.finished 0 < length s.devices)
RowHolds row.Kill v s = (s.course.hand ≡ None) × (is_some s.course.finished ≡ true) × (length s.devices ≤ unwrap_or s.course.finished 0)
RowHolds row.Take v s = IsCalm s × (v.can_recv ≡ true)
RowHolds row.Send v s = IsCalm s × (0 < length s.ready.queue) × (v.can_send ≡ true)
RowHolds row.Wait v s = IsCalm s × (0 < length s.ready.queue) × (v.can_send ≡ false)
RowHolds row.Idle v s = IsCalm s × (length s.ready.queue ≡ 0)

-- what a row makes: what the table says, and what fits
pub record Makes (r : Row) (v : SwitchView) (s : SwitchModel) (a : Acted) : Type 0 where
  pub made : a ≡ done r v s
  pub course : CourseFits (length s.devices) a.course
  pub action : FitsAction a.action

-- a view that a row does not look at
abbrev pub no_view : SwitchView
no_view = record { can_send = false; can_recv = false; key = None; answer = 0; a0 = 0; a1 = 0 }
