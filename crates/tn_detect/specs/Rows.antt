-- What each event makes of a detector's state, if the event is enabled. `visited` is how many parts the detector visits.
use Rattle.std.specs.Prelude.{ℕ, ◌+◌, ◌==◌, ◌&&◌, ◌||◌, Bool, true, false, not, Option, Some, None, is_none, length, nat_lt, replicate, slice_set, if◌then◌else◌}
use Rattle.tn_detect.specs.declared.facts.Confirmed.{Confirmed}
use Rattle.tn_detect.specs.declared.facts.Confirmed.TheVariants.{Passed, Failed}
use Rattle.tn_detect.specs.declared.facts.PartView.{PartView}
use Rattle.tn_detect.specs.declared.phase.Phase.{Phase}
use Rattle.tn_detect.specs.declared.phase.Phase.TheVariants.{Collect, Confirm, Release, Go}
use Rattle.tn_detect.specs.declared.state.DetectorState.{DetectorState}
use Rattle.tn_detect.specs.Notes.{answer_of, note, nothing_noted}
use Rattle.tn_detect.specs.Reports.{are_balanced, report_at}

abbrev pub is_collect : Phase → Bool
is_collect Collect = true
is_collect (Confirm i) = false
is_collect (Release i) = false
is_collect (Go i) = false

-- part i reports while reports are taken, if it is still, and has no report or is black
abbrev pub can_report : ℕ → PartView → DetectorState → Bool
can_report i v s = is_collect s.phase && v.still && (is_none (report_at s.reports i) || v.black)

abbrev pub report_row : ℕ → PartView → DetectorState → Option DetectorState
report_row i v s = if can_report i v s then Some (record s { reports = slice_set s.reports i (Some v.counter) }) else None

-- the detector begins to confirm if all parts have reports and these sum to 0. It forgets what it noted
abbrev pub can_begin : DetectorState → Bool
can_begin s = is_collect s.phase && are_balanced s.reports

abbrev pub begin_row : DetectorState → Option DetectorState
begin_row s = if can_begin s then Some (record s { phase = Confirm 0; noted = nothing_noted }) else None

-- what a part that is looked at a second time shows
abbrev pub judged : PartView → Confirmed
judged v = if v.still && not v.black then Passed else Failed

-- part i passes and is noted; or it fails, and its report alone is dropped
abbrev pub passed : ℕ → PartView → DetectorState → DetectorState
passed i v s = record s { phase = Confirm (i + 1); noted = note v s.noted }

abbrev pub failed : ℕ → DetectorState → DetectorState
failed i s = record s { phase = Collect; reports = slice_set s.reports i None }

abbrev pub confirmed : ℕ → PartView → DetectorState → DetectorState
confirmed i v s = if v.still && not v.black then passed i v s else failed i s

abbrev pub confirm_in : ℕ → Phase → PartView → DetectorState → Option DetectorState
confirm_in visited Collect v s = None
confirm_in visited (Confirm i) v s = if nat_lt i visited then Some (confirmed i v s) else None
confirm_in visited (Release i) v s = None
confirm_in visited (Go i) v s = None

-- the next part is looked at a second time
abbrev pub confirm_row : ℕ → PartView → DetectorState → Option DetectorState
confirm_row visited v s = confirm_in visited s.phase v s

-- the detector answers what it noted, and forgets the reports
abbrev pub announced : DetectorState → DetectorState
announced s = record s { phase = Release 0; reports = replicate (length s.reports) None; answer = Some (answer_of s.noted) }

abbrev pub announce_in : ℕ → Phase → DetectorState → Option DetectorState
announce_in visited Collect s = None
announce_in visited (Confirm i) s = if i == visited then Some (announced s) else None
announce_in visited (Release i) s = None
announce_in visited (Go i) s = None

-- the detector announces if all parts are confirmed
abbrev pub announce_row : ℕ → DetectorState → Option DetectorState
announce_row visited s = announce_in visited s.phase s

-- the phase after the release of part i, and after part i went on
abbrev pub behind_release : ℕ → ℕ → Phase
behind_release visited i = if i + 1 == visited then Go 0 else Release (i + 1)

abbrev pub behind_go : ℕ → ℕ → Phase
behind_go visited i = if i + 1 == visited then Collect else Go (i + 1)

abbrev pub release_in : ℕ → Phase → DetectorState → Option DetectorState
release_in visited Collect s = None
release_in visited (Confirm i) s = None
release_in visited (Release i) s = if nat_lt i visited then Some (record s { phase = behind_release visited i }) else None
release_in visited (Go i) s = None

-- the next part is released
abbrev pub release_row : ℕ → DetectorState → Option DetectorState
release_row visited s = release_in visited s.phase s

abbrev pub go_in : ℕ → Phase → DetectorState → Option DetectorState
go_in visited Collect s = None
go_in visited (Confirm i) s = None
go_in visited (Release i) s = None
go_in visited (Go i) s = if nat_lt i visited then Some (record s { phase = behind_go visited i }) else None

-- the next part goes on
abbrev pub go_row : ℕ → DetectorState → Option DetectorState
go_row visited s = go_in visited s.phase s
