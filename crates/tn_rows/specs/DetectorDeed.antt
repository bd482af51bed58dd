-- What a deed makes of a detector of n parts, if the detector can do it. The facts that cross have the detector's answer.
use Rattle.std.specs.Prelude.{ℕ, ◌≡◌, ◌==◌, ◌<◌, ◌&&◌, Bool, false, Option, Some, None, nat_lt, if◌then◌else◌}
use Rattle.tn_detect.specs.declared.facts.PartView.{PartView}
use Rattle.tn_detect.specs.declared.phase.Phase.{Phase}
use Rattle.tn_detect.specs.declared.phase.Phase.TheVariants as phase
use Rattle.tn_detect.specs.declared.state.DetectorState.{DetectorState}
use Rattle.tn_detect.specs.Notes.{value_of}
use Rattle.tn_detect.specs.Rows.{announce_row, begin_row, confirm_row, go_row, release_row, report_row}
use Rattle.tn_node.specs.declared.facts.PartFacts.{PartFacts}
use Rattle.tn_node.specs.Deed.{Deed}
use Rattle.tn_node.specs.Deed as deed

-- what a part tells the detector, without the detector's answer
abbrev pub view_of : PartFacts → PartView
view_of f = record { still = f.still; black = f.black; counter = f.counter; live = f.live; votes = f.votes; at_end = f.at_end }

-- part i comes next to be confirmed, to be released, and to go on
abbrev pub confirms : ℕ → Phase → Bool
confirms i phase.Collect = false
confirms i (phase.Confirm k) = k == i
confirms i (phase.Release k) = false
confirms i (phase.Go k) = false

abbrev pub releases : ℕ → Phase → Bool
releases i phase.Collect = false
releases i (phase.Confirm k) = false
releases i (phase.Release k) = k == i
releases i (phase.Go k) = false

abbrev pub lets_go : ℕ → Phase → Bool
lets_go i phase.Collect = false
lets_go i (phase.Confirm k) = false
lets_go i (phase.Release k) = false
lets_go i (phase.Go k) = k == i

-- the answer that crosses is the detector's
abbrev pub answers : PartFacts → DetectorState → Bool
answers f s = f.value == value_of s.answer

abbrev pub detector_deed : ℕ → Deed → DetectorState → Option DetectorState
detector_deed n (deed.Turn t k) s = None
detector_deed n (deed.Deliver t) s = None
detector_deed n (deed.Give way k) s = None
detector_deed n (deed.Take side k) s = None
detector_deed n deed.Route s = None
detector_deed n (deed.HostPut k) s = None
detector_deed n (deed.HostTake k) s = None
detector_deed n (deed.Report i f) s = if nat_lt i n && answers f s then report_row i (view_of f) s else None
detector_deed n deed.Begin s = begin_row s
detector_deed n (deed.Confirm i f) s = if confirms i s.phase && answers f s then confirm_row n (view_of f) s else None
detector_deed n deed.Announce s = announce_row n s
detector_deed n (deed.Release i f) s = if releases i s.phase && answers f s then release_row n s else None
detector_deed n (deed.Go i f) s = if lets_go i s.phase && answers f s then go_row n s else None

-- what each deed of a detector tells
abbrev pub DetectorDoes : ℕ → Deed → DetectorState → DetectorState → Type 0
DetectorDoes n (deed.Report i f) s t = (i < n) × (f.value ≡ value_of s.answer) × (report_row i (view_of f) s ≡ Some t)
DetectorDoes n deed.Begin s t = begin_row s ≡ Some t
DetectorDoes n (deed.Confirm i f) s t = (s.phase ≡ phase.Confirm i) × (f.value ≡ value_of s.answer) × (confirm_row n (view_of f) s ≡ Some t)
DetectorDoes n deed.Announce s t = announce_row n s ≡ Some t
DetectorDoes n (deed.Release i f) s t = (s.phase ≡ phase.Release i) × (f.value ≡ value_of s.answer) × (release_row n s ≡ Some t)
DetectorDoes n (deed.Go i f) s t = (s.phase ≡ phase.Go i) × (f.value ≡ value_of s.answer) × (go_row n s ≡ Some t)
DetectorDoes n _ s t = ⊥
