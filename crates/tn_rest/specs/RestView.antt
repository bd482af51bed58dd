-- What the laws of rest read of a machine, and what an event does to a part.
use Rattle.std.specs.Prelude.{ℕ, ◌≡◌, ◌≢◌, Bool, true, false, pos, ◌+ℤ◌}
use Rattle.tn_detect.specs.declared.state.DetectorState.{DetectorState}
use Rattle.tn_rest.specs.declared.facts.Facts.{Facts}

-- the visited parts, how many packets are on each link, and the detector
pub record RestView : Type 0 where
  pub part : ℕ → Facts
  pub link : ℕ → ℕ
  pub detector : DetectorState

-- ---- what an event does to a part

-- the part does something by itself: a turn, a delivery, a routing
pub record Works (p q : Facts) : Type 0 where
  pub busy : p.view.still ≡ false
  pub counter : q.view.counter ≡ p.view.counter
  pub black : q.view.black ≡ p.view.black
  pub held : q.held ≡ p.held

-- the part puts a packet on a link
pub record Sends (p q : Facts) : Type 0 where
  pub busy : p.view.still ≡ false
  pub free : p.held ≡ false
  pub counter : q.view.counter ≡ p.view.counter +ℤ pos 1
  pub black : q.view.black ≡ p.view.black
  pub held : q.held ≡ p.held

-- the part takes a packet from a link
pub record Gets (p q : Facts) : Type 0 where
  pub counter : q.view.counter +ℤ pos 1 ≡ p.view.counter
  pub black : q.view.black ≡ true
  pub held : q.held ≡ p.held

-- the part has reported
pub record Whitens (p q : Facts) : Type 0 where
  pub white : q.view.black ≡ false
  pub still : q.view.still ≡ p.view.still
  pub counter : q.view.counter ≡ p.view.counter
  pub held : q.held ≡ p.held

-- the part is held from now on, or it is no longer held. A release lets idle threads go on
pub record Turns (to : Bool) (p q : Facts) : Type 0 where
  pub held : q.held ≡ to
  pub counter : q.view.counter ≡ p.view.counter
  pub black : q.view.black ≡ p.view.black

-- ---- functions of a number that change at one number, or nowhere

pub record Changed {A : Type 0} (old new : ℕ → A) (at : ℕ) : Type 0 where
  pub other : (k : ℕ) → k ≢ at → new k ≡ old k

abbrev pub Same : {A : Type 0} → (ℕ → A) → (ℕ → A) → Type 0
Same old new = (k : ℕ) → new k ≡ old k
