-- The states of the bag machine: threads by address, and one bag of letters in flight.
use Rattle.std.specs.Prelude.{ℕ, ◌≡◌, ◌==◌, IsTrue, List, Option, if◌then◌else◌}
use Rattle.rv_isa.specs.declared.instr.Instr.{Instr}
use Rattle.tn_base.specs.declared.message.Letter.{Letter}
use Rattle.tn_base.specs.declared.shape.ShapeNumbers.{ShapeNumbers}
use Rattle.tn_base.specs.Address.{has_thread}
use Rattle.tn_host.specs.declared.script.ScriptItem.{ScriptItem}
use Rattle.tn_thread.specs.declared.thread.Thread.{Thread}
use Rattle.tn_keys.specs.Reach.{Reach}
use Rattle.tn_letters.specs.Letters.{SameBag}

-- what no step changes
pub record Program : Type 0 where
  -- the machine's numbers
  pub shape : ShapeNumbers
  -- by a thread's address the code of its tile
  pub code : ℕ → List (Option Instr)
  -- where the keys of the routers' tables lead
  pub reach : Reach

pub record BagState : Type 0 where
  -- by address
  pub threads : ℕ → Thread
  -- the letters that were sent and are neither handed nor dropped, in no order
  pub flight : List Letter
  -- by address the letters that the thread was handed, the first one first
  pub got : ℕ → List Letter
  -- by address and slot the letter that the thread took there and did not free
  pub held : ℕ → ℕ → Option Letter
  -- the letters that were dropped for dead receivers
  pub dropped : List Letter
  -- the letters that the host took, the first one first
  pub host : List Letter
  -- the rest of the host's script
  pub script : List ScriptItem
  -- how many letters the host sent
  pub host_sends : ℕ
  -- how often the machine's rest was announced
  pub announcements : ℕ

-- a function with another value at one place
abbrev pub put : {A : Type 0} → (ℕ → A) → ℕ → A → ℕ → A
put f a x b = if b == a then x else f b

-- two functions agree at the addresses of the machine's threads
abbrev pub Agree : {A : Type 0} → ShapeNumbers → (ℕ → A) → (ℕ → A) → Type 0
Agree n f g = (a : ℕ) → IsTrue (has_thread n a) → f a ≡ g a

-- the machine does not tell two states apart: letters in flight have no order, and only its threads count
pub record Same (n : ShapeNumbers) (s t : BagState) : Type 0 where
  pub threads : Agree n s.threads t.threads
  pub flight : SameBag s.flight t.flight
  pub got : Agree n s.got t.got
  pub held : (a slot : ℕ) → IsTrue (has_thread n a) → s.held a slot ≡ t.held a slot
  pub dropped : s.dropped ≡ t.dropped
  pub host : s.host ≡ t.host
  pub script : s.script ≡ t.script
  pub host_sends : s.host_sends ≡ t.host_sends
  pub announcements : s.announcements ≡ t.announcements
