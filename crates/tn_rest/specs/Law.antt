-- The laws of rest. A machine has n visited parts and m links.
use Rattle.std.specs.Prelude.{ℕ, ◌<◌, ◌≤◌, ◌≡◌, ◌≢◌, ◌⊎◌, false, pos, length, List, Some, None, IsSome}
use Rattle.std.specs.List.{All}
use Rattle.tn_detect.specs.declared.phase.Phase.TheVariants as phase
use Rattle.tn_detect.specs.Notes.{answer_of}
use Rattle.tn_detect.specs.Rows.{announce_row, begin_row, confirm_row, go_row, release_row, report_row}
use Rattle.tn_rest.specs.RestView.{RestView}
use Rattle.tn_rest.specs.Seen.{SeenPart, Steps, Walk, seen}
use Rattle.tn_rest.specs.Happens.{Announce, Arrive, Begin, Confirm, Depart, Go, Happens, Release, Report, RestEvent, Run, Work}
use Rattle.tn_rest.specs.Quiet.{IsAtRest, IsQuiet, notes_of, report_of}

-- a machine at its start
pub record IsStart (n : ℕ) (w : RestView) : Type 0 where
  pub counters : (k : ℕ) → (w.part k).view.counter ≡ pos 0
  pub free : (k : ℕ) → (w.part k).held ≡ false
  pub links : (l : ℕ) → w.link l ≡ 0
  pub phase : w.detector.phase ≡ phase.Collect
  pub places : length w.detector.reports ≡ n
  pub reports : (k : ℕ) → report_of w k ≡ None

abbrev pub StartsAreQuiet : Type 0
StartsAreQuiet = (n m : ℕ) (w : RestView) → IsStart n w → IsQuiet n m w

abbrev pub EachEventKeepsQuiet : Type 0
EachEventKeepsQuiet = (n m : ℕ) (e : RestEvent) (old new : RestView) → 0 < n → IsQuiet n m old → Happens n m e old new → IsQuiet n m new

abbrev pub RunsAreQuiet : Type 0
RunsAreQuiet = (n m : ℕ) (events : List RestEvent) (start end : RestView) → 0 < n → IsStart n start → Run n m start events end → IsQuiet n m end

-- an announcement comes at rest, and its answer is that of all parts
pub record Announces (n m : ℕ) (old new : RestView) : Type 0 where
  pub rest : IsAtRest n m old
  pub answer : new.detector.answer ≡ Some (answer_of (notes_of old.part n))

abbrev pub AnnouncesAtRest : Type 0
AnnouncesAtRest = (n m : ℕ) (events : List RestEvent) (start old new : RestView) → 0 < n → IsStart n start → Run n m start events old → Happens n m Announce old new → Announces n m old new

-- while part i comes next to be released, the parts from i on change by that release alone
abbrev pub OnlyReleasesChange : Type 0
OnlyReleasesChange = (n m i j : ℕ) (e : RestEvent) (old new : RestView) → IsQuiet n m old → old.detector.phase ≡ phase.Release i → i ≤ j → j < n → Happens n m e old new → ((e ≡ Release i) × (j ≡ i)) ⊎ (new.part j ≡ old.part j)

-- part j shows what it showed before, and comes to be released still
pub record Waits (j : ℕ) (old new : RestView) : Type 0 where
  pub part : new.part j ≡ old.part j
  pub next : ℕ
  pub before : next ≤ j
  pub phase : new.detector.phase ≡ phase.Release next

-- from an announcement until the release of part j, part j does not change
abbrev pub WaitsForRelease : Type 0
WaitsForRelease = (n m i j : ℕ) (events : List RestEvent) (old new : RestView) → 0 < n → IsQuiet n m old → old.detector.phase ≡ phase.Release i → i ≤ j → j < n → All (λ e. e ≢ Release j) events → Run n m old events new → Waits j old new

-- the detector's side of an event is enabled
abbrev pub Can : ℕ → RestEvent → RestView → Type 0
Can n (Report j) w = (j < n) × IsSome (report_row j (w.part j).view w.detector)
Can n Begin w = IsSome (begin_row w.detector)
Can n (Confirm j) w = (j < n) × (w.detector.phase ≡ phase.Confirm j) × IsSome (confirm_row n (w.part j).view w.detector)
Can n Announce w = IsSome (announce_row n w.detector)
Can n (Release j) w = (j < n) × (w.detector.phase ≡ phase.Release j) × IsSome (release_row n w.detector)
Can n (Go j) w = (j < n) × (w.detector.phase ≡ phase.Go j) × IsSome (go_row n w.detector)
Can n (Work j) w = ⊥
Can n (Depart j l) w = ⊥
Can n (Arrive l j) w = ⊥

abbrev pub OpenAtRest : Type 0
OpenAtRest = (n m : ℕ) (w : RestView) → IsQuiet n m w → IsAtRest n m w → (e : RestEvent) × Can n e w

abbrev pub OpenOutsideCollect : Type 0
OpenOutsideCollect = (n m : ℕ) (w : RestView) → IsQuiet n m w → w.detector.phase ≢ phase.Collect → (e : RestEvent) × Can n e w

-- ---- a machine whose parts are a list

abbrev pub EachStepHappens : Type 0
EachStepHappens = (n m : ℕ) (e : RestEvent) (old new : List SeenPart) → Steps n m e old new → Happens n m e (seen n m old) (seen n m new)

abbrev pub WalksAreQuiet : Type 0
WalksAreQuiet = (n m : ℕ) (events : List RestEvent) (start end : List SeenPart) → 0 < n → IsStart n (seen n m start) → Walk n m start events end → IsQuiet n m (seen n m end)

abbrev pub WalksAnnounceAtRest : Type 0
WalksAnnounceAtRest = (n m : ℕ) (events : List RestEvent) (start old new : List SeenPart) → 0 < n → IsStart n (seen n m start) → Walk n m start events old → Steps n m Announce old new → Announces n m (seen n m old) (seen n m new)
