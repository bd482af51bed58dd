-- What the events of a machine do, as far as the laws of rest see it. A machine has n visited parts and m links.
use Rattle.std.specs.Prelude.{ℕ, ◌+◌, ◌<◌, ◌≡◌, true, false, List, [], ◌∷◌, Some}
use Rattle.tn_detect.specs.declared.phase.Phase.TheVariants as phase
use Rattle.tn_detect.specs.Rows.{announce_row, begin_row, confirm_row, go_row, release_row, report_row}
use Rattle.tn_rest.specs.RestView.{Changed, Gets, RestView, Same, Sends, Turns, Whitens, Works}

pub data RestEvent : Type 0 where
  -- a part does something by itself
  Work : (part : ℕ) → RestEvent
  -- a part puts a packet on a link, and takes a packet from a link
  Depart : (part link : ℕ) → RestEvent
  Arrive : (link part : ℕ) → RestEvent
  -- the detector's events
  Report : (part : ℕ) → RestEvent
  Begin : RestEvent
  Confirm : (part : ℕ) → RestEvent
  Announce : RestEvent
  Release : (part : ℕ) → RestEvent
  Go : (part : ℕ) → RestEvent

-- part j alone may change
pub record OnPart (n j : ℕ) (old new : RestView) : Type 0 where
  pub inside : j < n
  pub part : Changed old.part new.part j

-- link l has a packet more, or a packet less, and no other link changes
pub record Fills (m l : ℕ) (old new : RestView) : Type 0 where
  pub inside : l < m
  pub other : Changed old.link new.link l
  pub more : new.link l ≡ old.link l + 1

pub record Empties (m l : ℕ) (old new : RestView) : Type 0 where
  pub inside : l < m
  pub other : Changed old.link new.link l
  pub less : old.link l ≡ new.link l + 1

-- no part changes and no link
pub record OnDetector (old new : RestView) : Type 0 where
  pub part : Same old.part new.part
  pub link : Same old.link new.link

-- the event is enabled in the old machine and makes the new one of it
abbrev pub Happens : ℕ → ℕ → RestEvent → RestView → RestView → Type 0
Happens n m (Work j) old new = OnPart n j old new × Works (old.part j) (new.part j) × Same old.link new.link × (new.detector ≡ old.detector)
Happens n m (Depart j l) old new = OnPart n j old new × Sends (old.part j) (new.part j) × Fills m l old new × (new.detector ≡ old.detector)
Happens n m (Arrive l j) old new = OnPart n j old new × Gets (old.part j) (new.part j) × Empties m l old new × (new.detector ≡ old.detector)
Happens n m (Report j) old new = OnPart n j old new × Whitens (old.part j) (new.part j) × Same old.link new.link × (report_row j (old.part j).view old.detector ≡ Some new.detector)
Happens n m Begin old new = OnDetector old new × (begin_row old.detector ≡ Some new.detector)
Happens n m (Confirm j) old new = OnDetector old new × (old.detector.phase ≡ phase.Confirm j) × (confirm_row n (old.part j).view old.detector ≡ Some new.detector)
Happens n m Announce old new = OnDetector old new × (announce_row n old.detector ≡ Some new.detector)
Happens n m (Release j) old new = OnPart n j old new × Turns true (old.part j) (new.part j) × Same old.link new.link × (old.detector.phase ≡ phase.Release j) × (release_row n old.detector ≡ Some new.detector)
Happens n m (Go j) old new = OnPart n j old new × Turns false (old.part j) (new.part j) × Same old.link new.link × (old.detector.phase ≡ phase.Go j) × (go_row n old.detector ≡ Some new.detector)

-- the events happen one after the other
abbrev pub Run : ℕ → ℕ → RestView → List RestEvent → RestView → Type 0
Run n m old [] new = new ≡ old
Run n m old (e ∷ es) new = (next : RestView) × Happens n m e old next × Run n m next es new
