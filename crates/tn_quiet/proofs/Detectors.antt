-- What a deed of a detector tells.
use Rattle.std.proofs.Common.{ℕ, ◌≡◌, ◌&&◌, cond, refl, ◌∙◌, ap, Bool, true, false, Option, Some, None}
use Rattle.std.specs.Prelude.{nat_lt}
use Rattle.std.proofs.lemmas.Bool.{and_parts, eq-eqb, eqb-true, lt-ltb, ltb-true}
use Rattle.tn_detect.specs.declared.phase.Phase.{Phase}
use Rattle.tn_detect.specs.declared.phase.Phase.TheVariants as phase
use Rattle.tn_detect.specs.declared.state.DetectorState.{DetectorState}
use Rattle.tn_detect.specs.Notes.{value_of}
use Rattle.tn_detect.specs.Rows.{confirm_row, go_row, release_row, report_row}
use Rattle.tn_node.specs.declared.facts.PartFacts.{PartFacts}
use Rattle.tn_node.specs.Deed.{Deed}
use Rattle.tn_node.specs.Deed as deed
use Rattle.tn_tile.proofs.Steps.{taken}
use Rattle.tn_rows.specs.DetectorDeed.{DetectorDoes, answers, confirms, detector_deed, lets_go, releases}
use Rattle.tn_rows.specs.DetectorDeed.{view_of}

is_confirming : (i : ℕ) (p : Phase) → confirms i p ≡ true → p ≡ phase.Confirm i
is_confirming i phase.Collect h = cc
is_confirming i (phase.Confirm k) h = ap phase.Confirm (eqb-true k i h)
is_confirming i (phase.Release k) h = cc
is_confirming i (phase.Go k) h = cc

is_releasing : (i : ℕ) (p : Phase) → releases i p ≡ true → p ≡ phase.Release i
is_releasing i phase.Collect h = cc
is_releasing i (phase.Confirm k) h = cc
is_releasing i (phase.Release k) h = ap phase.Release (eqb-true k i h)
is_releasing i (phase.Go k) h = cc

is_going : (i : ℕ) (p : Phase) → lets_go i p ≡ true → p ≡ phase.Go i
is_going i phase.Collect h = cc
is_going i (phase.Confirm k) h = cc
is_going i (phase.Release k) h = cc
is_going i (phase.Go k) h = ap phase.Go (eqb-true k i h)

same_answer : (f : PartFacts) (s : DetectorState) → answers f s ≡ true → f.value ≡ value_of s.answer
same_answer f s h = eqb-true f.value (value_of s.answer) h

pub detector_does : (n : ℕ) (d : Deed) (s t : DetectorState) → detector_deed n d s ≡ Some t → DetectorDoes n d s t
detector_does n (deed.Turn a k) s t e = cc e
detector_does n (deed.Deliver a) s t e = cc e
detector_does n (deed.Give way k) s t e = cc e
detector_does n (deed.Take side k) s t e = cc e
detector_does n deed.Route s t e = cc e
detector_does n (deed.HostPut k) s t e = cc e
detector_does n (deed.HostTake k) s t e = cc e
detector_does n (deed.Report i f) s t e =
    let x = taken (nat_lt i n && answers f s) (report_row i (view_of f) s) t e in
    let p = and_parts (nat_lt i n) (answers f s) x.0 in
    (ltb-true i n p.0, same_answer f s p.1, x.1)
detector_does n deed.Begin s t e = e
detector_does n (deed.Confirm i f) s t e =
    let x = taken (confirms i s.phase && answers f s) (confirm_row n (view_of f) s) t e in
    let p = and_parts (confirms i s.phase) (answers f s) x.0 in
    (is_confirming i s.phase p.0, same_answer f s p.1, x.1)
detector_does n deed.Announce s t e = e
detector_does n (deed.Release i f) s t e =
    let x = taken (releases i s.phase && answers f s) (release_row n s) t e in
    let p = and_parts (releases i s.phase) (answers f s) x.0 in
    (is_releasing i s.phase p.0, same_answer f s p.1, x.1)
detector_does n (deed.Go i f) s t e =
    let x = taken (lets_go i s.phase && answers f s) (go_row n s) t e in
    let p = and_parts (lets_go i s.phase) (answers f s) x.0 in
    (is_going i s.phase p.0, same_answer f s p.1, x.1)

-- ---- and the other way round

given : {A : Type 0} (a b : Bool) (o : Option A) (y : A) → a ≡ true → b ≡ true → o ≡ Some y → cond (a && b) o None ≡ Some y
given true true o y a b e = e
given true false o y a b e = cc b
given false b o y a c e = cc a

crosses : (f : PartFacts) (s : DetectorState) → f.value ≡ value_of s.answer → answers f s ≡ true
crosses f s e = eq-eqb f.value (value_of s.answer) e

pub detector_can : (n : ℕ) (d : Deed) (s t : DetectorState) → DetectorDoes n d s t → detector_deed n d s ≡ Some t
detector_can n (deed.Turn a k) s t h = absurd h
detector_can n (deed.Deliver a) s t h = absurd h
detector_can n (deed.Give way k) s t h = absurd h
detector_can n (deed.Take side k) s t h = absurd h
detector_can n deed.Route s t h = absurd h
detector_can n (deed.HostPut k) s t h = absurd h
detector_can n (deed.HostTake k) s t h = absurd h
detector_can n (deed.Report i f) s t h = given (nat_lt i n) (answers f s) (report_row i (view_of f) s) t (lt-ltb i n h.0) (crosses f s h.1) h.2
detector_can n deed.Begin s t h = h
detector_can n (deed.Confirm i f) s t h = given (confirms i s.phase) (answers f s) (confirm_row n (view_of f) s) t (ap (confirms i) h.0 ∙ eq-eqb i i refl) (crosses f s h.1) h.2
detector_can n deed.Announce s t h = h
detector_can n (deed.Release i f) s t h = given (releases i s.phase) (answers f s) (release_row n s) t (ap (releases i) h.0 ∙ eq-eqb i i refl) (crosses f s h.1) h.2
detector_can n (deed.Go i f) s t h = given (lets_go i s.phase) (answers f s) (go_row n s) t (ap (lets_go i) h.0 ∙ eq-eqb i i refl) (crosses f s h.1) h.2
