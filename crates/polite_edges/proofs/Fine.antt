-- What holds of nodes at each moment of a run.
use Rattle.std.proofs.Common.{ℕ, ◌+◌, ◌<◌, ◌≤◌, ◌≡◌, ◌≢◌, ◌==◌, List, drop, true, false, sum_by, Option, Some, None}
use Rattle.std.specs.Prelude.{is_some, if◌then◌else◌}
use Rattle.polite_switch.specs.declared.course.Course.{Course}
use Rattle.polite_switch.specs.declared.course.Hand.{Hand}
use Rattle.polite_switch.specs.declared.device.InEdge.{InEdge}
use Rattle.polite_switch.specs.Device.{edges_at}
use Rattle.polite_switch.specs.Kept.{IsKept}
use Rattle.tn_base.specs.declared.message.Letter.{Letter}
use Rattle.tn_slots.specs.Pool.{key_in}
use Rattle.polite_edges.specs.Deeds.{Deed, Item, Lawful, down, due, item_of, received, receives_on, steps_on, value_of}
use Rattle.polite_edges.specs.Layout.{Layout, device_count}
use Rattle.polite_edges.proofs.Nodes.{Answered, Dead, Going, Has, Idling, Node, Status, World, flying}
use Rattle.polite_edges.proofs.Threads.{over_threads}

-- before its last step a thread has no letter in hand, and has received none since the announcement
pub record Early (a : ℕ) (log : List Deed) (h : Option Hand) : Type 0 where
  pub one : value_of log ≡ 1
  pub none : receives_on a log ≡ 0
  pub hand : h ≡ None

-- how far thread a, of n devices, has come since the last announcement
pub record Phase (n a : ℕ) (log : List Deed) (hand : Option Hand) (stepped : ℕ) (finished : Option ℕ) : Type 0 where
  pub within : stepped ≤ n
  pub in_order : value_of log ≡ 1 → steps_on a log ≡ down stepped
  pub early : stepped < n → Early a log hand
  pub late : is_some finished ≡ true → value_of log ≡ 2
  pub not_late : is_some finished ≡ false → value_of log ≢ 2

-- the letter that the thread holds is the one that its switch has in hand
abbrev pub HandFits : Option Letter → Option Hand → Type 0
HandFits None None = Unit {0}
HandFits None (Some h) = ⊥
HandFits (Some l) None = ⊥
HandFits (Some l) (Some h) = h.key ≡ key_in l.bytes

-- the answer that comes to the thread, 0 where none does
abbrev pub answer_of : Status → ℕ → ℕ
answer_of Going given = given
answer_of Idling given = 0
answer_of (Answered v) given = v
answer_of Dead given = 0

abbrev pub stepped_by : ℕ → ℕ → ℕ
stepped_by answer n = if answer == 1 then 0 else n

abbrev pub finished_by : ℕ → Option ℕ → Option ℕ
finished_by answer n = if answer == 2 then Some 0 else n

pub record Resting (n : ℕ) (c : Course) : Type 0 where
  pub hand : c.hand ≡ None
  pub stepped : n ≤ c.stepped
  pub finished : c.finished ≡ None

pub record Ended (c : Course) (log : List Deed) : Type 0 where
  pub two : value_of log ≡ 2
  pub hand : c.hand ≡ None

abbrev pub StatusFits : ℕ → Status → Course → List Deed → Type 0
StatusFits n Going c log = Unit {0}
StatusFits n Idling c log = Resting n c
StatusFits n (Answered v) c log = Unit {0}
StatusFits n Dead c log = Ended c log

pub record NodeFine (g : Layout) (a : ℕ) (log : List Deed) (n : Node) : Type 0 where
  pub devices : n.switch.devices ≡ g.devices a
  pub in_edges : n.switch.in_edges ≡ g.in_edges a
  pub kept : IsKept n.switch
  pub hand : HandFits n.hand n.switch.course.hand
  pub phase : Phase (device_count g a) a log n.switch.course.hand (stepped_by (answer_of n.status n.given) n.switch.course.stepped) (finished_by (answer_of n.status n.given) n.switch.course.finished)
  pub status : StatusFits (device_count g a) n.status n.switch.course log

-- what a letter in hand will still bring
abbrev pub held : (Item → ℕ) → List (List InEdge) → Option Letter → Option Hand → ℕ
held w lists None hand = 0
held w lists (Some l) None = 0
held w lists (Some l) (Some h) = sum_by (λ (e : InEdge). w (item_of e.edge l)) (drop h.served (edges_at lists h.key))

abbrev pub holding : (Item → ℕ) → Node → ℕ
holding w n = held w n.switch.in_edges n.hand n.switch.course.hand

-- what was received, flies or is in hand is what was due
pub record Balanced (g : Layout) (w : World) : Type 0 where
  pub each : (weight : Item → ℕ) → sum_by weight (received w.deeds) + flying weight g w.flight + over_threads g.shape (λ a. holding weight (w.node a)) ≡ sum_by weight (due g w.deeds)

pub record Fine (g : Layout) (w : World) : Type 0 where
  pub nodes : (a : ℕ) → Has g a → NodeFine g a w.deeds (w.node a)
  pub balanced : Balanced g w
  pub lawful : Lawful g w.deeds
