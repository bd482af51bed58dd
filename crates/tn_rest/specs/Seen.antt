-- A machine whose parts are a list: n visited parts, then m links, then the detector. What a part shows is all that is seen of it.
use Rattle.std.specs.Prelude.{ℕ, ◌+◌, ◌<◌, ◌≡◌, ◌≢◌, true, false, pos, nat_lt, List, [], ◌∷◌, Option, Some, None, slice_get, if◌then◌else◌}
use Rattle.tn_detect.specs.declared.phase.Phase.TheVariants as phase
use Rattle.tn_detect.specs.declared.state.DetectorState.{DetectorState}
use Rattle.tn_detect.specs.DetectorView.{fresh_state}
use Rattle.tn_detect.specs.Rows.{announce_row, begin_row, confirm_row, go_row, release_row, report_row}
use Rattle.tn_rest.specs.declared.facts.Facts.{Facts}
use Rattle.tn_rest.specs.Happens.{Announce, Arrive, Begin, Confirm, Depart, Go, Release, Report, RestEvent, Work}
use Rattle.tn_rest.specs.RestView.{Gets, RestView, Sends, Turns, Whitens, Works}

pub data SeenPart : Type 0 where
  Visited : Facts → SeenPart
  Link : (packets : ℕ) → SeenPart
  Detector : DetectorState → SeenPart

-- what is seen where no visited part is
abbrev pub no_facts : Facts
no_facts = record { view = record { still = true; black = false; counter = pos 0; live = false; votes = true; at_end = false }; held = false }

abbrev pub facts_of : Option SeenPart → Facts
facts_of None = no_facts
facts_of (Some (Visited f)) = f
facts_of (Some (Link k)) = no_facts
facts_of (Some (Detector d)) = no_facts

abbrev pub packets_of : Option SeenPart → ℕ
packets_of None = 0
packets_of (Some (Visited f)) = 0
packets_of (Some (Link k)) = k
packets_of (Some (Detector d)) = 0

abbrev pub detector_of : Option SeenPart → DetectorState
detector_of None = fresh_state 0
detector_of (Some (Visited f)) = fresh_state 0
detector_of (Some (Link k)) = fresh_state 0
detector_of (Some (Detector d)) = d

-- the machine as the laws of rest see it
abbrev pub seen : ℕ → ℕ → List SeenPart → RestView
seen n m parts = record {
  part = λ k. if nat_lt k n then facts_of (slice_get parts k) else no_facts;
  link = λ l. if nat_lt l m then packets_of (slice_get parts (n + l)) else 0;
  detector = detector_of (slice_get parts (n + m));
}

-- part p shows a before, and b behind
pub record Becomes (p : ℕ) (a b : SeenPart) (old new : List SeenPart) : Type 0 where
  pub was : slice_get old p ≡ Some a
  pub is : slice_get new p ≡ Some b

-- no part but p and q changes
pub record OnlyAt (p q : ℕ) (old new : List SeenPart) : Type 0 where
  pub others : (i : ℕ) → i ≢ p → i ≢ q → slice_get new i ≡ slice_get old i

-- a visited part does something, alone or beside part q
pub record PartSteps (n p q : ℕ) (old new : List SeenPart) : Type 0 where
  pub inside : p < n
  pub before : Facts
  pub behind : Facts
  pub becomes : Becomes p (Visited before) (Visited behind) old new
  pub only : OnlyAt p q old new

-- the detector does something
pub record DetectorSteps (at : ℕ) (old new : List SeenPart) : Type 0 where
  pub before : DetectorState
  pub behind : DetectorState
  pub becomes : Becomes at (Detector before) (Detector behind) old new

-- what an event does to the list
abbrev pub Steps : ℕ → ℕ → RestEvent → List SeenPart → List SeenPart → Type 0
Steps n m (Work p) old new = (s : PartSteps n p p old new) × Works s.before s.behind
Steps n m (Depart p l) old new = (s : PartSteps n p (n + l) old new) × Sends s.before s.behind × (l < m) × (k : ℕ) × Becomes (n + l) (Link k) (Link (k + 1)) old new
Steps n m (Arrive l p) old new = (s : PartSteps n p (n + l) old new) × Gets s.before s.behind × (l < m) × (k : ℕ) × Becomes (n + l) (Link (k + 1)) (Link k) old new
Steps n m (Report p) old new = (s : PartSteps n p (n + m) old new) × (d : DetectorSteps (n + m) old new) × Whitens s.before s.behind × (report_row p s.before.view d.before ≡ Some d.behind)
Steps n m Begin old new = OnlyAt (n + m) (n + m) old new × (d : DetectorSteps (n + m) old new) × (begin_row d.before ≡ Some d.behind)
Steps n m (Confirm p) old new = (s : PartSteps n p (n + m) old new) × (d : DetectorSteps (n + m) old new) × (s.behind ≡ s.before) × (d.before.phase ≡ phase.Confirm p) × (confirm_row n s.before.view d.before ≡ Some d.behind)
Steps n m Announce old new = OnlyAt (n + m) (n + m) old new × (d : DetectorSteps (n + m) old new) × (announce_row n d.before ≡ Some d.behind)
Steps n m (Release p) old new = (s : PartSteps n p (n + m) old new) × (d : DetectorSteps (n + m) old new) × Turns true s.before s.behind × (d.before.phase ≡ phase.Release p) × (release_row n d.before ≡ Some d.behind)
Steps n m (Go p) old new = (s : PartSteps n p (n + m) old new) × (d : DetectorSteps (n + m) old new) × Turns false s.before s.behind × (d.before.phase ≡ phase.Go p) × (go_row n d.before ≡ Some d.behind)

-- one event after the other
abbrev pub Walk : ℕ → ℕ → List SeenPart → List RestEvent → List SeenPart → Type 0
Walk n m old [] new = new ≡ old
Walk n m old (e ∷ es) new = (next : List SeenPart) × Steps n m e old next × Walk n m next es new
