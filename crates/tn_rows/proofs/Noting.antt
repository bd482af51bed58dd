-- A detector keeps a place for the report of each part.
use Rattle.std.proofs.Common.{◌≡◌, ◌∙◌, ◌&&◌, ℕ, Bool, true, false, cond, None, Some, refl, ap, sym, length, not, unwrap_or, nat_lt, set, ◌==◌}
use Rattle.std.specs.declared.option.Option.{Option}
use Rattle.std.proofs.lemmas.List.{length-replicate, length-set}
use Rattle.tn_detect.specs.declared.facts.PartView.{PartView as Shown}
use Rattle.tn_detect.specs.declared.phase.Phase.{Phase}
use Rattle.tn_detect.specs.declared.phase.Phase.TheVariants as phase
use Rattle.tn_detect.specs.declared.state.DetectorState.{DetectorState}
use Rattle.tn_detect.specs.Notes.{nothing_noted}
use Rattle.tn_detect.specs.Rows.{announce_in, announced, behind_go, behind_release, begin_row, can_begin, can_report, confirm_in, confirm_row, confirmed, failed, go_in, go_row, passed, release_in, release_row, report_row}
use Rattle.tn_node.specs.Deed.{Deed}
use Rattle.tn_node.specs.Deed as deed
use Rattle.tn_rows.specs.DetectorDeed.{answers, confirms, detector_deed, lets_go, releases, view_of}
use Rattle.tn_rows.specs.Events.{detector_did}
use Rattle.tn_tile.proofs.Steps.{taken}

-- a state behind a test is this one
behind : (test : Bool) (s t new : DetectorState) → length new.reports ≡ length s.reports → cond test (Some new) None ≡ Some t → length t.reports ≡ length s.reports
behind test s t new same e = ap (λ (o : Option DetectorState). length (unwrap_or o t).reports) (sym (taken test (Some new) t e).1) ∙ same

report_keeps : (i : ℕ) (v : Shown) (s t : DetectorState) → report_row i v s ≡ Some t → length t.reports ≡ length s.reports
report_keeps i v s t e = behind (can_report i v s) s t (record s { reports = set s.reports i (Some v.counter) }) (length-set s.reports i (Some v.counter)) e

begin_keeps : (s t : DetectorState) → begin_row s ≡ Some t → length t.reports ≡ length s.reports
begin_keeps s t e = behind (can_begin s) s t (record s { phase = phase.Confirm 0; noted = nothing_noted }) refl e

confirmed_by : (b : Bool) (i : ℕ) (v : Shown) (s : DetectorState) → length (cond b (passed i v s) (failed i s)).reports ≡ length s.reports
confirmed_by true i v s = refl
confirmed_by false i v s = length-set s.reports i None

confirm_keeps : (n : ℕ) (p : Phase) (v : Shown) (s t : DetectorState) → confirm_in n p v s ≡ Some t → length t.reports ≡ length s.reports
confirm_keeps n phase.Collect v s t e = cc e
confirm_keeps n (phase.Confirm i) v s t e = behind (nat_lt i n) s t (confirmed i v s) (confirmed_by (v.still && not v.black) i v s) e
confirm_keeps n (phase.Release i) v s t e = cc e
confirm_keeps n (phase.Go i) v s t e = cc e

announce_keeps : (n : ℕ) (p : Phase) (s t : DetectorState) → announce_in n p s ≡ Some t → length t.reports ≡ length s.reports
announce_keeps n phase.Collect s t e = cc e
announce_keeps n (phase.Confirm i) s t e = behind (i == n) s t (announced s) (length-replicate (length s.reports) None) e
announce_keeps n (phase.Release i) s t e = cc e
announce_keeps n (phase.Go i) s t e = cc e

release_keeps : (n : ℕ) (p : Phase) (s t : DetectorState) → release_in n p s ≡ Some t → length t.reports ≡ length s.reports
release_keeps n phase.Collect s t e = cc e
release_keeps n (phase.Confirm i) s t e = cc e
release_keeps n (phase.Release i) s t e = behind (nat_lt i n) s t (record s { phase = behind_release n i }) refl e
release_keeps n (phase.Go i) s t e = cc e

go_keeps : (n : ℕ) (p : Phase) (s t : DetectorState) → go_in n p s ≡ Some t → length t.reports ≡ length s.reports
go_keeps n phase.Collect s t e = cc e
go_keeps n (phase.Confirm i) s t e = cc e
go_keeps n (phase.Release i) s t e = cc e
go_keeps n (phase.Go i) s t e = behind (nat_lt i n) s t (record s { phase = behind_go n i }) refl e

deed_keeps : (n : ℕ) (d : Deed) (s t : DetectorState) → detector_deed n d s ≡ Some t → length t.reports ≡ length s.reports
deed_keeps n (deed.Turn a k) s t e = cc e
deed_keeps n (deed.Deliver a) s t e = cc e
deed_keeps n (deed.Give way k) s t e = cc e
deed_keeps n (deed.Take side k) s t e = cc e
deed_keeps n deed.Route s t e = cc e
deed_keeps n (deed.HostPut k) s t e = cc e
deed_keeps n (deed.HostTake k) s t e = cc e
deed_keeps n (deed.Report i f) s t e = report_keeps i (view_of f) s t (taken (nat_lt i n && answers f s) (report_row i (view_of f) s) t e).1
deed_keeps n deed.Begin s t e = begin_keeps s t e
deed_keeps n (deed.Confirm i f) s t e = confirm_keeps n s.phase (view_of f) s t (taken (confirms i s.phase && answers f s) (confirm_row n (view_of f) s) t e).1
deed_keeps n deed.Announce s t e = announce_keeps n s.phase s t e
deed_keeps n (deed.Release i f) s t e = release_keeps n s.phase s t (taken (releases i s.phase && answers f s) (release_row n s) t e).1
deed_keeps n (deed.Go i f) s t e = go_keeps n s.phase s t (taken (lets_go i s.phase && answers f s) (go_row n s) t e).1

pub did_keeps : (n : ℕ) (d : Option Deed) (s t : DetectorState) → detector_did n s d ≡ Some t → length t.reports ≡ length s.reports
did_keeps n None s t e = cc e
did_keeps n (Some d) s t e = deed_keeps n d s t e
