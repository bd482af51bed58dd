-- The events of the detector, but for the announcement, are no step of the bag machine.
use Rattle.std.proofs.Common.{ℕ, ◌≡◌, ◌≢◌, ◌<◌, ◌≤◌, ◌+◌, ◌==◌, List, length, get_or, set, cond, Bool, true, false, refl, sym, ◌∙◌, ap, subst, arith, inl, inr}
use Rattle.std.proofs.lemmas.Bool.{cases_eq, cases_lt, eqb-true}
use Rattle.std.proofs.lemmas.List.{get_or-set_other, get_or-set_same, get_or_past, length-set}
use Rattle.tn_base.specs.declared.part.Kind.{Kind}
use Rattle.tn_base.specs.declared.part.Kind.TheVariants as kind
use Rattle.tn_base.specs.Parts.{kind_of, part_count, visited}
use Rattle.tn_detect.specs.declared.phase.Phase.{Phase}
use Rattle.tn_detect.specs.declared.phase.Phase.TheVariants as phase
use Rattle.tn_detect.specs.declared.facts.PartView.{PartView as Told}
use Rattle.tn_detect.specs.declared.state.DetectorState.{DetectorState}
use Rattle.tn_detect.specs.DetectorView.{DetectorView, with_now as detector_with_now}
use Rattle.tn_detect.specs.Notes.{value_of}
use Rattle.tn_detect.specs.Rows.{behind_release, failed, passed}
use Rattle.tn_node.specs.declared.facts.PartFacts.{PartFacts}
use Rattle.tn_node.specs.Deed.{Deed}
use Rattle.tn_node.specs.Deed as deed
use Rattle.tn_quiet.specs.Law.{IsQuietWorld}
use Rattle.tn_rows.proofs.HostLinks.{detector_last}
use Rattle.tn_rows.proofs.PartKinds.{IsBehind, behind_kind}
use Rattle.tn_rest.proofs.RowsTell.{begin_tells, confirm_tells, go_tells, release_tells, report_tells}
use Rattle.tn_rows.specs.DetectorDeed.{view_of}
use Rattle.tn_rows.specs.Events.{FitsKind}
use Rattle.tn_rows.specs.PartView.{PartView, TileV, RouterV, LinkV, HostV, DetectorV, AbsentV}
use Rattle.tn_rows.specs.Places.{detector_part}
use Rattle.tn_rows.specs.WorldView.{WorldView}
use Rattle.tn_rows.specs.Visited.{going_part, released_part, whitened_part}
use Rattle.tn_letters.specs.Settled.{detector_in, detector_on, released_from, settled, settled_in}
use Rattle.tn_letters.proofs.Bare.{Alike, bare, with_parts}
use Rattle.tn_letters.proofs.Detected.{Alone, Paired}
use Rattle.tn_letters.proofs.Lift.{Good, OnPart, StandsAt}
use Rattle.tn_letters.proofs.Settling.{released_before, released_behind, released_length}

-- ---- a phase without a release

abbrev pub NoRelease : Phase → Type 0
NoRelease phase.Collect = Unit {0}
NoRelease (phase.Confirm i) = Unit {0}
NoRelease (phase.Release i) = ⊥
NoRelease (phase.Go i) = Unit {0}

settled_same : (ph : Phase) (value : ℕ) (xs : List PartView) → NoRelease ph → settled_in ph value xs ≡ xs
settled_same phase.Collect value xs calm = refl
settled_same (phase.Confirm i) value xs calm = refl
settled_same (phase.Release i) value xs calm = absurd calm
settled_same (phase.Go i) value xs calm = refl

pub settled_now : (w : WorldView) → NoRelease (detector_on w).phase → settled w ≡ w
settled_now w calm = ap (with_parts w) (settled_same (detector_on w).phase (value_of (detector_on w).answer) w.parts calm)

-- ---- parts after an event

-- the machine with another part p and another detector
abbrev pub both_set : WorldView → ℕ → PartView → DetectorView → List PartView
both_set w p y t = set (set w.parts p y) (detector_part w.shape) (DetectorV t)

pub at_detector : (w : WorldView) (p : ℕ) (x y : PartView) (v t : DetectorView) → OnPart w p x → OnPart w (detector_part w.shape) (DetectorV v) → get_or (both_set w p y t) (detector_part w.shape) AbsentV ≡ DetectorV t
at_detector w p x y v t on off = let l = length-set w.parts p y in let h = off.within in get_or-set_same (set w.parts p y) (detector_part w.shape) (DetectorV t) AbsentV (omega arith)

pub at_part : (w : WorldView) (p : ℕ) (x y : PartView) (t : DetectorView) → OnPart w p x → p ≢ detector_part w.shape → get_or (both_set w p y t) p AbsentV ≡ y
at_part w p x y t on ne = get_or-set_other (set w.parts p y) (detector_part w.shape) p (DetectorV t) AbsentV ne ∙ get_or-set_same w.parts p y AbsentV on.within

pub at_other : (w : WorldView) (p j : ℕ) (y : PartView) (t : DetectorView) → j ≢ p → j ≢ detector_part w.shape → get_or (both_set w p y t) j AbsentV ≡ get_or w.parts j AbsentV
at_other w p j y t np nq = get_or-set_other (set w.parts p y) (detector_part w.shape) j (DetectorV t) AbsentV nq ∙ get_or-set_other w.parts p j y AbsentV np

both_count : (w : WorldView) (p : ℕ) (y : PartView) (t : DetectorView) → length (both_set w p y t) ≡ length w.parts
both_count w p y t = length-set (set w.parts p y) (detector_part w.shape) (DetectorV t) ∙ length-set w.parts p y

pair_alike : (w : WorldView) (p : ℕ) (x y : PartView) (v t : DetectorView) → OnPart w p x → OnPart w (detector_part w.shape) (DetectorV v) → p ≢ detector_part w.shape → bare y ≡ bare x → Alike w.parts (both_set w p y t)
pair_alike w p x y v t on off ne e = record {
  count = both_count w p y t;
  each = λ j. elim (cases_eq j (detector_part w.shape)) [
    | inl last ↦ ap (λ i. bare (get_or (both_set w p y t) i AbsentV)) last ∙ (ap bare (at_detector w p x y v t on off) ∙ sym (ap (λ i. bare (get_or w.parts i AbsentV)) last ∙ ap bare off.is))
    | inr nq ↦ elim (cases_eq j p) [
      | inl here ↦ ap (λ i. bare (get_or (both_set w p y t) i AbsentV)) here ∙ (ap bare (at_part w p x y t on ne) ∙ (e ∙ sym (ap (λ i. bare (get_or w.parts i AbsentV)) here ∙ ap bare on.is)))
      | inr np ↦ ap bare (at_other w p j y t np nq)
    ]
  ];
}

-- ---- what an event of the detector leaves

-- with the release carried through the machines differ in what the detector asks of parts alone
pub record Silent (w new : WorldView) : Type 0 where
  pub parts : List PartView
  pub is : new ≡ with_parts w parts
  pub alike : Alike (settled w).parts (settled (with_parts w parts)).parts

pub detector_is : (w : WorldView) (v : DetectorView) → OnPart w (detector_part w.shape) (DetectorV v) → detector_on w ≡ v.now
detector_is w v on = ap detector_in on.is

no_release_at : (w : WorldView) (ph : Phase) → (detector_on w).phase ≡ ph → NoRelease ph → NoRelease (detector_on w).phase
no_release_at w ph e calm = subst NoRelease (sym e) calm

plain_silent : (w new : WorldView) (parts : List PartView) → new ≡ with_parts w parts → NoRelease (detector_on w).phase → NoRelease (detector_on (with_parts w parts)).phase → Alike w.parts parts → Silent w new
plain_silent w new parts is calm then_ alike = record {
  parts = parts;
  is = is;
  alike = subst (λ xs. Alike xs (settled (with_parts w parts)).parts) (sym (ap (λ (x : WorldView). x.parts) (settled_now w calm)))
      (subst (λ ys. Alike w.parts ys) (sym (ap (λ (x : WorldView). x.parts) (settled_now (with_parts w parts) then_))) alike);
}

not_last : (w new : WorldView) (p : ℕ) (made : ℕ → PartView → PartView) (d : PartFacts → Deed) → Paired w new p made d → p ≢ detector_part w.shape
not_last w new p made d r = let a = r.inside in let b = r.last in λ (e : p ≡ detector_part w.shape). absurd (omega arith)

paired_silent : (w new : WorldView) (p : ℕ) (made : ℕ → PartView → PartView) (d : PartFacts → Deed) → (r : Paired w new p made d) → ((value : ℕ) (x : PartView) → bare (made value x) ≡ bare x) → NoRelease r.detector.now.phase → NoRelease r.behind.phase → Silent w new
paired_silent w new p made d r deep calm then_ =
    let ne = not_last w new p made d r in
    let y = made r.facts.value r.low in
    let t = detector_with_now r.detector r.behind in
    plain_silent w new (both_set w p y t) r.is
    (subst NoRelease (sym (ap (λ (s : DetectorState). s.phase) (detector_is w r.detector r.detector_on))) calm)
    (subst NoRelease (sym (ap (λ x. (detector_in x).phase) (at_detector w p r.low y r.detector t r.low_on r.detector_on))) then_)
    (pair_alike w p r.low y r.detector t r.low_on r.detector_on ne (deep r.facts.value r.low))

whitened_bare : (x : PartView) → bare (whitened_part x) ≡ bare x
whitened_bare (TileV v) = refl
whitened_bare (RouterV v) = refl
whitened_bare (LinkV v) = refl
whitened_bare (HostV s) = refl
whitened_bare (DetectorV v) = refl
whitened_bare AbsentV = refl

going_bare : (x : PartView) → bare (going_part x) ≡ bare x
going_bare (TileV v) = refl
going_bare (RouterV v) = refl
going_bare (LinkV v) = refl
going_bare (HostV s) = refl
going_bare (DetectorV v) = refl
going_bare AbsentV = refl

phase_of : (s t : DetectorState) (ph : Phase) → t ≡ s → s.phase ≡ ph → NoRelease ph → NoRelease t.phase
phase_of s t ph e f calm = subst NoRelease (sym (ap (λ (x : DetectorState). x.phase) e ∙ f)) calm

go_phase : (b : Bool) (i : ℕ) → NoRelease (cond b phase.Collect (phase.Go i))
go_phase true i = tt
go_phase false i = tt

confirm_phase : (b : Bool) (i : ℕ) (v : Told) (s : DetectorState) → NoRelease (cond b (passed i v s) (failed i s)).phase
confirm_phase true i v s = tt
confirm_phase false i v s = tt

pub report_silent : (w new : WorldView) (p : ℕ) → Paired w new p (λ value. whitened_part) (deed.Report p) → Silent w new
report_silent w new p r =
    let t = report_tells p (view_of r.facts) r.detector.now r.behind r.does.2 in
    paired_silent w new p (λ value. whitened_part) (deed.Report p) r (λ value. whitened_bare) (subst NoRelease (sym t.phase) tt) (phase_of _ r.behind phase.Collect t.is t.phase tt)

pub confirm_silent : (w new : WorldView) (p : ℕ) → Paired w new p (λ value x. x) (deed.Confirm p) → Silent w new
confirm_silent w new p r =
    let t = confirm_tells r.detector.visited p (view_of r.facts) r.detector.now r.behind r.does.0 r.does.2 in
    paired_silent w new p (λ value x. x) (deed.Confirm p) r (λ value x. refl) (subst NoRelease (sym r.does.0) tt) (subst (λ (s : DetectorState). NoRelease s.phase) (sym t.is) (confirm_phase _ p (view_of r.facts) r.detector.now))

pub go_silent : (w new : WorldView) (p : ℕ) → Paired w new p (λ value. going_part) (deed.Go p) → Silent w new
go_silent w new p r =
    let t = go_tells r.detector.visited p r.detector.now r.behind r.does.0 r.does.2 in
    paired_silent w new p (λ value. going_part) (deed.Go p) r (λ value. going_bare) (subst NoRelease (sym r.does.0) tt) (subst (λ (s : DetectorState). NoRelease s.phase) (sym t.is) (go_phase (p + 1 == r.detector.visited) (p + 1)))

-- the detector alone
pub one_alike : (w : WorldView) (v t : DetectorView) → OnPart w (detector_part w.shape) (DetectorV v) → Alike w.parts (set w.parts (detector_part w.shape) (DetectorV t))
one_alike w v t on = record {
  count = length-set w.parts (detector_part w.shape) (DetectorV t);
  each = λ j. elim (cases_eq j (detector_part w.shape)) [
    | inl last ↦
        ap (λ i. bare (get_or (set w.parts (detector_part w.shape) (DetectorV t)) i AbsentV)) last
        ∙ (ap bare (get_or-set_same w.parts (detector_part w.shape) (DetectorV t) AbsentV on.within) ∙ sym (ap (λ i. bare (get_or w.parts i AbsentV)) last ∙ ap bare on.is))
    | inr ne ↦ ap bare (get_or-set_other w.parts (detector_part w.shape) j (DetectorV t) AbsentV ne)
  ];
}

pub begin_silent : (w new : WorldView) → Alone w new deed.Begin → Silent w new
begin_silent w new r =
    let t = begin_tells r.detector.now r.behind r.does in
    let next = detector_with_now r.detector r.behind in
    plain_silent w new (set w.parts (detector_part w.shape) (DetectorV next)) r.is
    (subst NoRelease (sym (ap (λ (s : DetectorState). s.phase) (detector_is w r.detector r.detector_on) ∙ t.phase)) tt)
    (subst NoRelease (sym (ap (λ x. (detector_in x).phase) (get_or-set_same w.parts (detector_part w.shape) (DetectorV next) AbsentV r.detector_on.within) ∙ ap (λ (s : DetectorState). s.phase) t.is)) tt)
    (one_alike w r.detector next r.detector_on)

-- ---- a release

-- a part behind the visited ones is not changed by a release
unreleased : (k : Kind) (value : ℕ) (x : PartView) → IsBehind k → StandsAt k x → released_part value x ≡ x
unreleased (kind.Link from onto) value (LinkV x) behind stands = refl
unreleased (kind.Link from onto) value (TileV v) behind stands = absurd stands
unreleased (kind.Link from onto) value (RouterV v) behind stands = absurd stands
unreleased (kind.Link from onto) value (HostV s) behind stands = absurd stands
unreleased (kind.Link from onto) value (DetectorV v) behind stands = absurd stands
unreleased (kind.Link from onto) value AbsentV behind stands = absurd stands
unreleased kind.Detector value (DetectorV v) behind stands = refl
unreleased kind.Detector value (LinkV x) behind stands = absurd stands
unreleased kind.Detector value (TileV v) behind stands = absurd stands
unreleased kind.Detector value (RouterV v) behind stands = absurd stands
unreleased kind.Detector value (HostV s) behind stands = absurd stands
unreleased kind.Detector value AbsentV behind stands = absurd stands
unreleased (kind.Tile tile) value x behind stands = absurd behind
unreleased (kind.Router board) value x behind stands = absurd behind
unreleased kind.Host value x behind stands = absurd behind

unreleased_at : (w : WorldView) (value j : ℕ) → Good w → visited w.shape ≤ j → released_part value (get_or w.parts j AbsentV) ≡ get_or w.parts j AbsentV
unreleased_at w value j good h = elim (cases_lt j (part_count w.shape)) [
  | inl below ↦ unreleased (kind_of w.shape j) value (get_or w.parts j AbsentV) (behind_kind w.shape j h) (good.stands j below)
  | inr past ↦
      (let count = good.count in
      let none : get_or w.parts j AbsentV ≡ AbsentV = get_or_past w.parts j AbsentV (omega arith) in
      ap (released_part value) none ∙ sym none)
]

-- the parts once part p is released, and those behind it too or no more
release_each : (w : WorldView) (p value : ℕ) (x : PartView) (v t : DetectorView) (j : ℕ) → Good w → OnPart w p x → OnPart w (detector_part w.shape) (DetectorV v) → p < visited w.shape → visited w.shape ≤ detector_part w.shape →
    bare (get_or (released_from (p + 1) value (both_set w p (released_part value x) t)) j AbsentV) ≡ bare (get_or (released_from p value w.parts) j AbsentV)
release_each w p value x v t j good on off inside last =
    let q = detector_part w.shape in
    let ys = both_set w p (released_part value x) t in
    elim (cases_lt j p) [
      | inl before ↦
          ap bare (released_before (p + 1) value ys j (omega arith) ∙ (at_other w p j (released_part value x) t (λ (e : j ≡ p). absurd (omega arith)) (λ (e : j ≡ q). absurd (omega arith)) ∙ sym (released_before p value w.parts j before)))
      | inr behind ↦ elim (cases_eq j p) [
        | inl here ↦
            ap bare (released_before (p + 1) value ys j (omega arith) ∙ (ap (λ i. get_or ys i AbsentV) here ∙ at_part w p x (released_part value x) t on (λ (e : p ≡ q). absurd (omega arith))))
            ∙ sym (ap bare (released_behind p value w.parts j behind ∙ ap (released_part value) (ap (λ i. get_or w.parts i AbsentV) here ∙ on.is)))
        | inr ne ↦
            ap bare (released_behind (p + 1) value ys j (omega arith)) ∙ (elim (cases_eq j q) [
              | inl end ↦
                  ap (λ y. bare (released_part value y)) (ap (λ i. get_or ys i AbsentV) end ∙ at_detector w p x (released_part value x) v t on off)
                  ∙ sym (ap (λ y. bare (released_part value y)) (ap (λ i. get_or w.parts i AbsentV) end ∙ off.is))
              | inr nq ↦ ap (λ y. bare (released_part value y)) (at_other w p j (released_part value x) t ne nq)
            ] ∙ sym (ap bare (released_behind p value w.parts j behind)))
      ]
    ]

-- the last part was released
last_each : (w : WorldView) (p value : ℕ) (x : PartView) (v t : DetectorView) (j : ℕ) → Good w → OnPart w p x → OnPart w (detector_part w.shape) (DetectorV v) → p + 1 ≡ visited w.shape → visited w.shape ≤ detector_part w.shape →
    bare (get_or (both_set w p (released_part value x) t) j AbsentV) ≡ bare (get_or (released_from p value w.parts) j AbsentV)
last_each w p value x v t j good on off inside last =
    let q = detector_part w.shape in
    let ys = both_set w p (released_part value x) t in
    elim (cases_lt j p) [
      | inl before ↦
          ap bare (at_other w p j (released_part value x) t (λ (e : j ≡ p). absurd (omega arith)) (λ (e : j ≡ q). absurd (omega arith)) ∙ sym (released_before p value w.parts j before))
      | inr behind ↦ elim (cases_eq j p) [
        | inl here ↦
            ap bare (ap (λ i. get_or ys i AbsentV) here ∙ at_part w p x (released_part value x) t on (λ (e : p ≡ q). absurd (omega arith)))
            ∙ sym (ap bare (released_behind p value w.parts j behind ∙ ap (released_part value) (ap (λ i. get_or w.parts i AbsentV) here ∙ on.is)))
        | inr ne ↦ elim (cases_eq j q) [
          | inl end ↦
              ap bare (ap (λ i. get_or ys i AbsentV) end ∙ at_detector w p x (released_part value x) v t on off)
              ∙ sym (ap bare (released_behind p value w.parts j behind) ∙ ap (λ y. bare (released_part value y)) (ap (λ i. get_or w.parts i AbsentV) end ∙ off.is))
          | inr nq ↦ ap bare (at_other w p j (released_part value x) t ne nq ∙ (sym (unreleased_at w value j good (omega arith)) ∙ sym (released_behind p value w.parts j behind)))
        ]
      ]
    ]

release_alike : (w : WorldView) (p value n : ℕ) (x : PartView) (v t : DetectorView) (b : Bool) → Good w → OnPart w p x → OnPart w (detector_part w.shape) (DetectorV v) → p < visited w.shape → visited w.shape ≤ detector_part w.shape → n ≡ visited w.shape → (p + 1 == n) ≡ b →
    Alike (released_from p value w.parts) (settled_in (cond b (phase.Go 0) (phase.Release (p + 1))) value (both_set w p (released_part value x) t))
release_alike w p value n x v t true good on off inside last all e =
    let done = eqb-true (p + 1) n e in
    record { count = both_count w p (released_part value x) t ∙ sym (released_length p value w.parts); each = λ j. last_each w p value x v t j good on off (done ∙ all) last }
release_alike w p value n x v t false good on off inside last all e =
    record {
      count = released_length (p + 1) value (both_set w p (released_part value x) t) ∙ (both_count w p (released_part value x) t ∙ sym (released_length p value w.parts));
      each = λ j. release_each w p value x v t j good on off inside last;
    }

pub detector_visits : (w : WorldView) (v : DetectorView) → IsQuietWorld w → Good w → OnPart w (detector_part w.shape) (DetectorV v) → v.visited ≡ visited w.shape
detector_visits w v quiet good on =
    (subst (λ k. FitsKind w.shape k (DetectorV v)) (detector_last w.shape) (subst (FitsKind w.shape (kind_of w.shape (detector_part w.shape))) on.is (quiet.world.each (detector_part w.shape) on.below))).0

pub release_silent : (w new : WorldView) (p : ℕ) → Good w → IsQuietWorld w → Paired w new p released_part (deed.Release p) → Silent w new
release_silent w new p good quiet r =
    let s = r.detector.now in
    let u = release_tells r.detector.visited p s r.behind r.does.0 r.does.2 in
    let value = value_of s.answer in
    let t = detector_with_now r.detector r.behind in
    let now : detector_on w ≡ s = detector_is w r.detector r.detector_on in
    let parts = both_set w p (released_part value r.low) t in
    let next : detector_on (with_parts w parts) ≡ r.behind = ap detector_in (at_detector w p r.low (released_part value r.low) r.detector t r.low_on r.detector_on) in
    let here : (settled w).parts ≡ released_from p value w.parts = ap (λ (d : DetectorState). settled_in d.phase (value_of d.answer) w.parts) now ∙ ap (λ ph. settled_in ph value w.parts) r.does.0 in
    let there : (settled (with_parts w parts)).parts ≡ settled_in (behind_release r.detector.visited p) value parts = ap (λ (d : DetectorState). settled_in d.phase (value_of d.answer) parts) (next ∙ u.is) in
    let last = r.last in
    record {
      parts = parts;
      is = r.is ∙ ap (λ k. with_parts w (both_set w p (released_part k r.low) t)) r.does.1;
      alike = subst (λ xs. Alike xs (settled (with_parts w parts)).parts) (sym here) (subst (λ ys. Alike (released_from p value w.parts) ys) (sym there)
          (release_alike w p value r.detector.visited r.low r.detector t (p + 1 == r.detector.visited) good r.low_on r.detector_on r.inside (omega arith) (detector_visits w r.detector quiet good r.detector_on) refl));
    }
