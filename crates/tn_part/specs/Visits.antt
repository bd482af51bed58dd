-- Events between the detector and the parts that it visits.
use Rattle.std.specs.Prelude.{ℕ, Option, None, if◌then◌else◌}
use Rattle.tn_base.specs.declared.event.Event.{Event}
use Rattle.tn_base.specs.declared.event.Event.TheVariants as event
use Rattle.tn_base.specs.declared.ids.PartId.{PartId}
use Rattle.tn_detect.specs.declared.facts.PartView.{PartView as Shown}
use Rattle.tn_detect.specs.declared.state.DetectorState.{DetectorState}
use Rattle.tn_detect.specs.Rows.{confirm_row, go_row, release_row, report_row}
use Rattle.tn_rows.specs.DetectorDeed.{confirms, lets_go, releases}
use Rattle.tn_rows.specs.PartView.{PartView}
use Rattle.tn_rows.specs.Visited.{going_part, released_part, whitened_part}
use Rattle.tn_part.specs.declared.visit.Visit.{Visit}
use Rattle.tn_part.specs.declared.visit.Visit.TheVariants as visit

-- the event of a visit to part p
abbrev pub visit_event : Visit → PartId → Event
visit_event visit.Report p = event.Report p
visit_event visit.Confirm p = event.Confirm p
visit_event visit.Release p = event.Release p
visit_event visit.Go p = event.Go p

-- a part after a visit, given the detector's answer
abbrev pub visited_by : Visit → ℕ → PartView → PartView
visited_by visit.Report value part = whitened_part part
visited_by visit.Confirm value part = part
visited_by visit.Release value part = released_part value part
visited_by visit.Go value part = going_part part

-- a detector of n parts after a visit to part i, which shows this, if the detector can visit it so
abbrev pub visit_row : Visit → ℕ → ℕ → Shown → DetectorState → Option DetectorState
visit_row visit.Report n i v s = report_row i v s
visit_row visit.Confirm n i v s = if confirms i s.phase then confirm_row n v s else None
visit_row visit.Release n i v s = if releases i s.phase then release_row n s else None
visit_row visit.Go n i v s = if lets_go i s.phase then go_row n s else None
