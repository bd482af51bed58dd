-- Each event of a machine is an event of the laws of rest, on what the machine's parts show.
use Rattle.std.proofs.Common.{ℕ, ◌≡◌, ◌≢◌, ◌≤◌, ◌<◌, ◌+◌, ◌-◌, refl, sym, ap, subst, ◌∙◌, arith, inl, inr, Bool, true, false, Option, Some, None, option_map, slice_get, get_or, unwrap_or, List}
use Rattle.std.specs.Prelude.{nat_lt, option_and_then, ◌⊎◌}
use Rattle.std.proofs.lemmas.Bool.{cases_eq, cases_lt, eqb-true, ltb-true}
use Rattle.std.proofs.lemmas.Option.{slice_get_within, unwrap_or-slice_get}
use Rattle.tn_base.specs.declared.event.Event.{Event}
use Rattle.tn_base.specs.declared.event.Event.TheVariants as event
use Rattle.tn_base.specs.declared.ids.PartId.{PartId}
use Rattle.tn_base.specs.declared.ids.ThreadId.{ThreadId}
use Rattle.tn_base.specs.declared.part.Kind.{Kind}
use Rattle.tn_base.specs.declared.part.Kind.TheVariants as kind
use Rattle.tn_base.specs.declared.shape.ShapeNumbers.{ShapeNumbers}
use Rattle.tn_base.specs.Address.{has_thread, tile_of, tile_place}
use Rattle.tn_base.specs.Parts.{JoinsVisited, kind_of, part_count, router_part, tile_part, visited}
use Rattle.tn_base.specs.Shape.{WithinLimits}
use Rattle.tn_base.proofs.LinkEnds.{joins_visited}
use Rattle.tn_base.proofs.TilePlaces.{fields, tile_found}
use Rattle.tn_detect.specs.declared.phase.Phase.TheVariants as phase
use Rattle.tn_detect.specs.declared.state.DetectorState.{DetectorState}
use Rattle.tn_detect.specs.Rows.{announce_row, begin_row, confirm_row, go_row, release_row, report_row}
use Rattle.tn_rest.specs.declared.facts.Facts.{Facts}
use Rattle.tn_rows.specs.DetectorDeed.{view_of}
use Rattle.tn_rest.specs.Happens.{Announce, Arrive, Begin, Confirm, Depart, Go, Release, Report, Work}
use Rattle.tn_rest.specs.RestView.{Gets, Sends, Turns, Whitens, Works}
use Rattle.tn_rest.specs.Seen.{Becomes, Detector, DetectorSteps, Link, OnlyAt, PartSteps, SeenPart, Steps, Visited}
use Rattle.tn_rest.proofs.RowsTell.{taken}
use Rattle.tn_rows.specs.Events.{FitsKind, IsWorld, Met, after, happened, happened_at, meets, meets_at, with_both, with_part}
use Rattle.tn_rows.specs.PartView.{PartView, TileV, RouterV, LinkV, HostV, DetectorV, AbsentV}
use Rattle.tn_rows.specs.Places.{One, Two, at_part, detector_part, is_router, leads_from, leads_to, one_if, part_of, two_if}
use Rattle.tn_rows.specs.WorldView.{WorldView}
use Rattle.tn_rows.proofs.HostLinks.{link_from_host, link_to_host}
use Rattle.tn_rows.proofs.Meeting.{meeting}
use Rattle.tn_stamp.specs.declared.entry.Crossing.TheVariants as crossing
use Rattle.tn_quiet.specs.Law.{IsStep}
use Rattle.tn_quiet.specs.Machine.{link_count, link_number, shown, shows}
use Rattle.tn_quiet.proofs.Lists.{both_only, high_becomes, low_becomes, one_becomes, one_only}
use Rattle.tn_rows.proofs.HostLinks.{detector_last}
use Rattle.tn_rows.proofs.PartKinds.{IsBehind, IsVisited, behind_kind, visited_kind}
use Rattle.tn_quiet.proofs.Parts.{Did, Emptier, Fuller, IsDetectorPart, IsLink, IsVisitedPart, announce_did, arrive_emptier, begin_did, confirm_detector, confirm_part, deliver_did, depart_fuller, give_did, go_detector, go_part, host_put_did, host_take_did, put_fuller_link, release_detector, release_part, report_detector, report_part, route_did, take_did, take_emptier_link, turn_did}
use Rattle.tn_quiet.proofs.Tiles.{kept_by}

-- ---- an event on one part, and on two

pub record AtOne (e : Event) (w new : WorldView) (p : ℕ) : Type 0 where
  pub before : PartView
  pub behind : PartView
  pub was : slice_get w.parts p ≡ Some before
  pub row : after e crossing.None before ≡ Some behind
  pub is : new ≡ with_part w p behind

pub at_one : (e : Event) (w new : WorldView) (p : ℕ) → happened_at e w (One p) ≡ Some new → AtOne e w new p
at_one e w new p h = by (slice_get w.parts p) refl h where
  by : (o : Option PartView) → slice_get w.parts p ≡ o → option_map (with_part w p) (option_and_then (after e crossing.None) o) ≡ Some new → AtOne e w new p
  by None is q = cc q
  by (Some x) is q = let m = kept_by (with_part w p) (after e crossing.None x) new q in record { before = x; behind = m.0; was = is; row = m.1; is = m.2 }

pub record AtTwo (e : Event) (w new : WorldView) (p q : ℕ) : Type 0 where
  pub low : PartView
  pub high : PartView
  pub met : Met
  pub low_was : slice_get w.parts p ≡ Some low
  pub high_was : slice_get w.parts q ≡ Some high
  pub row : meets e low high ≡ Some met
  pub is : new ≡ with_both w p q met

pub at_two : (e : Event) (w new : WorldView) (p q : ℕ) → happened_at e w (Two p q) ≡ Some new → AtTwo e w new p q
at_two e w new p q h = by (slice_get w.parts p) (slice_get w.parts q) refl refl h where
  by : (a b : Option PartView) → slice_get w.parts p ≡ a → slice_get w.parts q ≡ b → option_map (with_both w p q) (meets_at e a b) ≡ Some new → AtTwo e w new p q
  by None b f g r = cc r
  by (Some x) None f g r = cc r
  by (Some x) (Some y) f g r = let m = kept_by (with_both w p q) (meets e x y) new r in record { low = x; high = y; met = m.0; low_was = f; high_was = g; row = m.1; is = m.2 }

-- ---- what is at a place

pub fits_at : (w : WorldView) (p : ℕ) (x : PartView) → IsWorld w → slice_get w.parts p ≡ Some x → FitsKind w.shape (kind_of w.shape p) x
fits_at w p x made e =
    let l = slice_get_within w.parts p x e in
    let count = made.count in
    let is : get_or w.parts p AbsentV ≡ x = sym (unwrap_or-slice_get w.parts p AbsentV) ∙ ap (λ o. unwrap_or o AbsentV) e in
    subst (FitsKind w.shape (kind_of w.shape p)) is (made.each p (omega arith))

pub visited_is_visited : (n : ShapeNumbers) (k : Kind) (x : PartView) → FitsKind n k x → IsVisited k → IsVisitedPart x
visited_is_visited n k (TileV v) f i = tt
visited_is_visited n k (RouterV v) f i = tt
visited_is_visited n k (HostV s) f i = tt
visited_is_visited n (kind.Tile a) (LinkV v) f i = absurd f
visited_is_visited n (kind.Router b) (LinkV v) f i = absurd f
visited_is_visited n kind.Host (LinkV v) f i = absurd f
visited_is_visited n (kind.Link a b) (LinkV v) f i = absurd i
visited_is_visited n kind.Detector (LinkV v) f i = absurd i
visited_is_visited n (kind.Tile a) (DetectorV v) f i = absurd f
visited_is_visited n (kind.Router b) (DetectorV v) f i = absurd f
visited_is_visited n kind.Host (DetectorV v) f i = absurd f
visited_is_visited n (kind.Link a b) (DetectorV v) f i = absurd i
visited_is_visited n kind.Detector (DetectorV v) f i = absurd i
visited_is_visited n (kind.Tile a) AbsentV f i = absurd f
visited_is_visited n (kind.Router b) AbsentV f i = absurd f
visited_is_visited n kind.Host AbsentV f i = absurd f
visited_is_visited n (kind.Link a b) AbsentV f i = absurd i
visited_is_visited n kind.Detector AbsentV f i = absurd i

abbrev IsLinkKind : Kind → Type 0
IsLinkKind (kind.Tile a) = ⊥
IsLinkKind (kind.Router b) = ⊥
IsLinkKind kind.Host = ⊥
IsLinkKind (kind.Link a b) = Unit {0}
IsLinkKind kind.Detector = ⊥

link_is_link : (n : ShapeNumbers) (k : Kind) (x : PartView) → FitsKind n k x → IsLinkKind k → IsLink x
link_is_link n (kind.Tile a) x f i = absurd i
link_is_link n (kind.Router b) x f i = absurd i
link_is_link n kind.Host x f i = absurd i
link_is_link n kind.Detector x f i = absurd i
link_is_link n (kind.Link a b) (TileV v) f i = absurd f
link_is_link n (kind.Link a b) (RouterV v) f i = absurd f
link_is_link n (kind.Link a b) (LinkV v) f i = tt
link_is_link n (kind.Link a b) (HostV s) f i = absurd f
link_is_link n (kind.Link a b) (DetectorV v) f i = absurd f
link_is_link n (kind.Link a b) AbsentV f i = absurd f

-- ---- the places of an event

-- part p is a visited part, and part l is a link that is joined to it
record Joined (n : ShapeNumbers) (p l : ℕ) : Type 0 where
  inside : p < visited n
  behind : visited n ≤ l
  before : l < part_count n - 1
  link : IsLinkKind (kind_of n l)

not_last : (n : ShapeNumbers) (l : ℕ) → IsLinkKind (kind_of n l) → l < part_count n → l < part_count n - 1
not_last n l k there = elim (cases_eq l (part_count n - 1)) [
  | inl e ↦ absurd (subst IsLinkKind (ap (kind_of n) e ∙ detector_last n) k)
  | inr ne ↦ omega arith
]

joined_by : (n : ShapeNumbers) (l : ℕ) (from onto : PartId) (p : ℕ) → WithinLimits n → kind_of n l ≡ kind.Link from onto → (from.0 ≡ p) ⊎ (onto.0 ≡ p) → Joined n p l
joined_by n l from onto p limits e side =
    let j = joins_visited n l from onto limits e in
    let k : IsLinkKind (kind_of n l) = subst IsLinkKind (sym e) tt in
    record { inside = by j side; behind = j.behind; before = not_last n l k j.there; link = k }
  where
    by : JoinsVisited n l from.0 onto.0 → (from.0 ≡ p) ⊎ (onto.0 ≡ p) → p < visited n
    by j (inl e) = subst (λ x. x < visited n) e j.from_visited
    by j (inr e) = subst (λ x. x < visited n) e j.onto_visited

from_joined : (n : ShapeNumbers) (p l : ℕ) (k : Kind) → WithinLimits n → kind_of n l ≡ k → leads_from p k ≡ true → Joined n p l
from_joined n p l kind.Host limits e h = cc h
from_joined n p l (kind.Tile a) limits e h = cc h
from_joined n p l (kind.Router b) limits e h = cc h
from_joined n p l (kind.Link from onto) limits e h = joined_by n l from onto p limits e (inl (eqb-true from.0 p h))
from_joined n p l kind.Detector limits e h = cc h

to_joined : (n : ShapeNumbers) (p l : ℕ) (k : Kind) → WithinLimits n → kind_of n l ≡ k → leads_to p k ≡ true → Joined n p l
to_joined n p l kind.Host limits e h = cc h
to_joined n p l (kind.Tile a) limits e h = cc h
to_joined n p l (kind.Router b) limits e h = cc h
to_joined n p l (kind.Link from onto) limits e h = joined_by n l from onto p limits e (inr (eqb-true onto.0 p h))
to_joined n p l kind.Detector limits e h = cc h

thread_part : (n : ShapeNumbers) (t : ThreadId) (p : ℕ) → WithinLimits n → part_of n t ≡ Some p → p < visited n
thread_part n t p limits e =
    let b = taken (has_thread n t.0) (tile_part (tile_place n (tile_of t.0))) p e in
    let f = (tile_found n (tile_of t.0) limits (fields n t.0 b.0).tile).0 in
    let is = b.1 in
    omega arith

router_visited : (n : ShapeNumbers) (p : ℕ) → is_router (kind_of n p) ≡ true → p < visited n
router_visited n p h = elim (cases_lt p (visited n)) [
  | inl l ↦ l
  | inr past ↦ absurd (by (kind_of n p) (behind_kind n p past) h)
]
  where
    by : (k : Kind) → IsBehind k → is_router k ≡ true → ⊥
    by kind.Host i r = cc r
    by (kind.Tile a) i r = cc r
    by (kind.Router b) i r = i
    by (kind.Link from onto) i r = cc r
    by kind.Detector i r = cc r

-- ---- steps

-- the visited part of an event shows what it does
part_steps : (n p q : ℕ) (R : Facts → Facts → Type 0) (x y : PartView) (old new : List SeenPart) → p < n → (d : Did R x y) → Becomes p (shows x) (shows y) old new → OnlyAt p q old new → (s : PartSteps n p q old new) × R s.before s.behind
part_steps n p q R x y old new l d b o = (
  record {
    inside = l;
    before = d.before;
    behind = d.behind;
    becomes = record { was = b.was ∙ ap Some d.was; is = b.is ∙ ap Some d.is };
    only = o;
  },
  d.does,
)

work_step : (w : WorldView) (e : Event) (new : WorldView) (p : ℕ) → p < visited w.shape → (a : AtOne e w new p) → Did Works a.before a.behind → Steps (visited w.shape) (link_count w.shape) (Work p) (shown w) (shown new)
work_step w e new p l a d =
    subst (λ x. Steps (visited w.shape) (link_count w.shape) (Work p) (shown w) (shown x)) (sym a.is)
    (part_steps (visited w.shape) p p Works a.before a.behind (shown w) (shown (with_part w p a.behind)) l d (one_becomes w p a.before a.behind a.was) (one_only w p a.behind))

at_link : (n : ShapeNumbers) (p l : ℕ) → Joined n p l → visited n + link_number n l ≡ l
at_link n p l j = let b = j.behind in omega arith

in_links : (n : ShapeNumbers) (p l : ℕ) → Joined n p l → link_number n l < link_count n
in_links n p l j = let b = j.behind in let c = j.before in omega arith

apart : (n : ShapeNumbers) (p l : ℕ) → Joined n p l → p ≢ l
apart n p l j = let a = j.inside in let b = j.behind in λ e. omega arith

depart_step : (w : WorldView) (e : Event) (new : WorldView) (p l : ℕ) → Joined w.shape p l → (a : AtTwo e w new p l) → Did Sends a.low a.met.low → Fuller a.high a.met.high → Steps (visited w.shape) (link_count w.shape) (Depart p (link_number w.shape l)) (shown w) (shown new)
depart_step w e new p l j a d f =
    let n = visited w.shape in
    let next = with_both w p l a.met in
    let ne = apart w.shape p l j in
    let s = part_steps n p l Sends a.low a.met.low (shown w) (shown next) j.inside d (low_becomes w p l a.low a.met ne a.low_was) (both_only w p l a.met) in
    let b = high_becomes w p l a.high a.met (λ e. ne (sym e)) a.high_was in
    subst (λ x. Steps n (link_count w.shape) (Depart p (link_number w.shape l)) (shown w) (shown x)) (sym a.is)
    (subst (λ q. (s : PartSteps n p q (shown w) (shown next)) × Sends s.before s.behind × (link_number w.shape l < link_count w.shape) × (k : ℕ) × Becomes q (Link k) (Link (k + 1)) (shown w) (shown next)) (sym (at_link w.shape p l j))
    (s.0, s.1, in_links w.shape p l j, f.count, record { was = b.was ∙ ap Some f.was; is = b.is ∙ ap Some f.is }))

arrive_step : (w : WorldView) (e : Event) (new : WorldView) (p l : ℕ) → Joined w.shape p l → (a : AtTwo e w new p l) → Did Gets a.low a.met.low → Emptier a.high a.met.high → Steps (visited w.shape) (link_count w.shape) (Arrive (link_number w.shape l) p) (shown w) (shown new)
arrive_step w e new p l j a d f =
    let n = visited w.shape in
    let next = with_both w p l a.met in
    let ne = apart w.shape p l j in
    let s = part_steps n p l Gets a.low a.met.low (shown w) (shown next) j.inside d (low_becomes w p l a.low a.met ne a.low_was) (both_only w p l a.met) in
    let b = high_becomes w p l a.high a.met (λ e. ne (sym e)) a.high_was in
    subst (λ x. Steps n (link_count w.shape) (Arrive (link_number w.shape l) p) (shown w) (shown x)) (sym a.is)
    (subst (λ q. (s : PartSteps n p q (shown w) (shown next)) × Gets s.before s.behind × (link_number w.shape l < link_count w.shape) × (k : ℕ) × Becomes q (Link (k + 1)) (Link k) (shown w) (shown next)) (sym (at_link w.shape p l j))
    (s.0, s.1, in_links w.shape p l j, f.count, record { was = b.was ∙ ap Some f.was; is = b.is ∙ ap Some f.is }))

-- ---- events by their places

-- an event on the part of a thread
pub by_thread : (e : Event) (w new : WorldView) (o : Option ℕ) → happened_at e w (at_part o) ≡ Some new → (p : ℕ) × (o ≡ Some p) × AtOne e w new p
by_thread e w new None h = cc h
by_thread e w new (Some p) h = (p, refl, at_one e w new p h)

pub by_test : (e : Event) (w new : WorldView) (b : Bool) (p : ℕ) → happened_at e w (one_if b p) ≡ Some new → (b ≡ true) × AtOne e w new p
by_test e w new false p h = cc h
by_test e w new true p h = (refl, at_one e w new p h)

pub by_tests : (e : Event) (w new : WorldView) (b : Bool) (p q : ℕ) → happened_at e w (two_if b p q) ≡ Some new → (b ≡ true) × AtTwo e w new p q
by_tests e w new false p q h = cc h
by_tests e w new true p q h = (refl, at_two e w new p q h)

low_fits : (e : Event) (w new : WorldView) (p l : ℕ) → IsWorld w → Joined w.shape p l → (a : AtTwo e w new p l) → IsVisitedPart a.low
low_fits e w new p l made j a = visited_is_visited w.shape (kind_of w.shape p) a.low (fits_at w p a.low made a.low_was) (visited_kind w.shape p j.inside)

high_fits : (e : Event) (w new : WorldView) (p l : ℕ) → IsWorld w → Joined w.shape p l → (a : AtTwo e w new p l) → IsLink a.high
high_fits e w new p l made j a = link_is_link w.shape (kind_of w.shape l) a.high (fits_at w l a.high made a.high_was) j.link

host_joined_from : (n : ShapeNumbers) → WithinLimits n → Joined n 0 (part_count n - 2)
host_joined_from n limits = joined_by n (part_count n - 2) (record { 0 = 0 }) (record { 0 = router_part n 0 }) 0 limits (link_from_host n) (inl refl)

host_joined_to : (n : ShapeNumbers) → WithinLimits n → Joined n 0 (part_count n - 3)
host_joined_to n limits = joined_by n (part_count n - 3) (record { 0 = router_part n 0 }) (record { 0 = 0 }) 0 limits (link_to_host n) (inr refl)

-- ---- events of the detector

pub at_last : (n : ShapeNumbers) → WithinLimits n → visited n + link_count n ≡ detector_part n
at_last n limits = let j = (host_joined_from n limits).behind in let k = (host_joined_from n limits).before in omega arith

detector_is_detector : (n : ShapeNumbers) (k : Kind) (x : PartView) → FitsKind n k x → k ≡ kind.Detector → IsDetectorPart x
detector_is_detector n k x f e = by x (subst (λ z. FitsKind n z x) e f) where
  by : (x : PartView) → FitsKind n kind.Detector x → IsDetectorPart x
  by (TileV v) g = g
  by (RouterV v) g = g
  by (LinkV v) g = g
  by (HostV s) g = g
  by (DetectorV v) g = tt
  by AbsentV g = g

-- an event on part p and the detector
pub record WithDetector (e : Event) (w new : WorldView) (p : ℕ) : Type 0 where
  pub inside : p < visited w.shape
  pub two : AtTwo e w new p (detector_part w.shape)
  pub low : IsVisitedPart two.low
  pub high : IsDetectorPart two.high
  pub fits : FitsKind w.shape kind.Detector two.high
  pub last : visited w.shape + link_count w.shape ≡ detector_part w.shape

pub by_detector : (e : Event) (w new : WorldView) (p : ℕ) → WithinLimits w.shape → IsWorld w → happened_at e w (two_if (nat_lt p (visited w.shape)) p (detector_part w.shape)) ≡ Some new → WithDetector e w new p
by_detector e w new p limits made h =
    let x = by_tests e w new (nat_lt p (visited w.shape)) p (detector_part w.shape) h in
    let l = ltb-true p (visited w.shape) x.0 in
    let a = x.1 in
    record {
      inside = l;
      two = a;
      low = visited_is_visited w.shape (kind_of w.shape p) a.low (fits_at w p a.low made a.low_was) (visited_kind w.shape p l);
      high = detector_is_detector w.shape (kind_of w.shape (detector_part w.shape)) a.high (fits_at w (detector_part w.shape) a.high made a.high_was) (detector_last w.shape);
      fits = subst (λ z. FitsKind w.shape z a.high) (detector_last w.shape) (fits_at w (detector_part w.shape) a.high made a.high_was);
      last = at_last w.shape limits;
    }

-- both show what they do
pair : (e : Event) (w new : WorldView) (p : ℕ) (R : Facts → Facts → DetectorState → DetectorState → Type 0) (b : WithDetector e w new p) (before behind : Facts) (old next : DetectorState)
    → shows b.two.low ≡ Visited before → shows b.two.met.low ≡ Visited behind → shows b.two.high ≡ Detector old → shows b.two.met.high ≡ Detector next → R before behind old next
    → (s : PartSteps (visited w.shape) p (visited w.shape + link_count w.shape) (shown w) (shown new)) × (d : DetectorSteps (visited w.shape + link_count w.shape) (shown w) (shown new)) × R s.before s.behind d.before d.behind
pair e w new p R b before behind old next x y z u r =
    let n = visited w.shape in
    let q = detector_part w.shape in
    let a = b.two in
    let after_both = with_both w p q a.met in
    let last = b.last in let inside = b.inside in
    let ne : p ≢ q = λ (e : p ≡ q). omega arith in
    let low = low_becomes w p q a.low a.met ne a.low_was in
    let high = high_becomes w p q a.high a.met (λ e. ne (sym e)) a.high_was in
    subst (λ v. (s : PartSteps n p (n + link_count w.shape) (shown w) (shown v)) × (d : DetectorSteps (n + link_count w.shape) (shown w) (shown v)) × R s.before s.behind d.before d.behind) (sym a.is)
    (subst (λ k. (s : PartSteps n p k (shown w) (shown after_both)) × (d : DetectorSteps k (shown w) (shown after_both)) × R s.before s.behind d.before d.behind) (sym b.last) (
      record { inside = b.inside; before = before; behind = behind; becomes = record { was = low.was ∙ ap Some x; is = low.is ∙ ap Some y }; only = both_only w p q a.met },
      record { before = old; behind = next; becomes = record { was = high.was ∙ ap Some z; is = high.is ∙ ap Some u } },
      r,
    ))

-- the detector alone shows what it does
alone : (e : Event) (w new : WorldView) (R : DetectorState → DetectorState → Type 0) → visited w.shape + link_count w.shape ≡ detector_part w.shape → (a : AtOne e w new (detector_part w.shape)) (old next : DetectorState)
    → shows a.before ≡ Detector old → shows a.behind ≡ Detector next → R old next
    → (o : OnlyAt (visited w.shape + link_count w.shape) (visited w.shape + link_count w.shape) (shown w) (shown new)) × (d : DetectorSteps (visited w.shape + link_count w.shape) (shown w) (shown new)) × R d.before d.behind
alone e w new R last a old next x y r =
    let q = detector_part w.shape in
    let n = visited w.shape in
    let then_ = with_part w q a.behind in
    let b = one_becomes w q a.before a.behind a.was in
    subst (λ v. (o : OnlyAt (n + link_count w.shape) (n + link_count w.shape) (shown w) (shown v)) × (d : DetectorSteps (n + link_count w.shape) (shown w) (shown v)) × R d.before d.behind) (sym a.is)
    (subst (λ k. (o : OnlyAt k k (shown w) (shown then_)) × (d : DetectorSteps k (shown w) (shown then_)) × R d.before d.behind) (sym last)
    (one_only w q a.behind, record { before = old; behind = next; becomes = record { was = b.was ∙ ap Some x; is = b.is ∙ ap Some y } }, r))

-- the detector of a machine visits the machine's parts
visits : (n : ShapeNumbers) (k : ℕ) (x : PartView) (s : DetectorState) → FitsKind n kind.Detector x → x ≡ DetectorV (record { visited = k; now = s }) → k ≡ visited n
visits n k x s f e = (subst (FitsKind n kind.Detector) e f).0

pub steps : (e : Event) (w new : WorldView) → WithinLimits w.shape → IsWorld w → happened e w ≡ Some new → IsStep e w new
steps (event.Turn t k) w new limits made h =
    let x = by_thread (event.Turn t k) w new (part_of w.shape t) h in
    record { event = Work x.0; is = ap (option_map Work) x.1; steps = work_step w (event.Turn t k) new x.0 (thread_part w.shape t x.0 limits x.1) x.2 (turn_did t k x.2.before x.2.behind x.2.row) }
steps (event.Deliver t) w new limits made h =
    let x = by_thread (event.Deliver t) w new (part_of w.shape t) h in
    record { event = Work x.0; is = ap (option_map Work) x.1; steps = work_step w (event.Deliver t) new x.0 (thread_part w.shape t x.0 limits x.1) x.2 (deliver_did t x.2.before x.2.behind x.2.row) }
steps (event.Depart p l) w new limits made h =
    let x = by_tests (event.Depart p l) w new (leads_from p.0 (kind_of w.shape l.0)) p.0 l.0 h in
    let j = from_joined w.shape p.0 l.0 (kind_of w.shape l.0) limits refl x.0 in
    let a = x.1 in
    let m = meeting (event.Depart p l) a.low a.high a.met a.row in
    record { event = Depart p.0 (link_number w.shape l.0); is = refl; steps = depart_step w (event.Depart p l) new p.0 l.0 j a (give_did p l m.crossing a.low a.met.low (low_fits (event.Depart p l) w new p.0 l.0 made j a) m.low_row) (depart_fuller p l m.crossing a.high a.met.high (high_fits (event.Depart p l) w new p.0 l.0 made j a) m.high_row) }
steps (event.Arrive l p) w new limits made h =
    let x = by_tests (event.Arrive l p) w new (leads_to p.0 (kind_of w.shape l.0)) p.0 l.0 h in
    let j = to_joined w.shape p.0 l.0 (kind_of w.shape l.0) limits refl x.0 in
    let a = x.1 in
    let m = meeting (event.Arrive l p) a.low a.high a.met a.row in
    record { event = Arrive (link_number w.shape l.0) p.0; is = refl; steps = arrive_step w (event.Arrive l p) new p.0 l.0 j a (take_did l p m.crossing a.low a.met.low (low_fits (event.Arrive l p) w new p.0 l.0 made j a) m.low_row) (arrive_emptier l p m.crossing a.high a.met.high (high_fits (event.Arrive l p) w new p.0 l.0 made j a) m.high_row) }
steps (event.Route p) w new limits made h =
    let x = by_test (event.Route p) w new (is_router (kind_of w.shape p.0)) p.0 h in
    record { event = Work p.0; is = refl; steps = work_step w (event.Route p) new p.0 (router_visited w.shape p.0 x.0) x.1 (route_did p x.1.before x.1.behind x.1.row) }
steps event.HostPut w new limits made h =
    let q = part_count w.shape - 2 in
    let j = host_joined_from w.shape limits in
    let a = at_two event.HostPut w new 0 q h in
    let m = meeting event.HostPut a.low a.high a.met a.row in
    record { event = Depart 0 (link_number w.shape q); is = refl; steps = depart_step w event.HostPut new 0 q j a (host_put_did m.crossing a.low a.met.low (low_fits event.HostPut w new 0 q made j a) m.low_row) (put_fuller_link m.crossing a.high a.met.high (high_fits event.HostPut w new 0 q made j a) m.high_row) }
steps event.HostTake w new limits made h =
    let q = part_count w.shape - 3 in
    let j = host_joined_to w.shape limits in
    let a = at_two event.HostTake w new 0 q h in
    let m = meeting event.HostTake a.low a.high a.met a.row in
    record { event = Arrive (link_number w.shape q) 0; is = refl; steps = arrive_step w event.HostTake new 0 q j a (host_take_did m.crossing a.low a.met.low (low_fits event.HostTake w new 0 q made j a) m.low_row) (take_emptier_link m.crossing a.high a.met.high (high_fits event.HostTake w new 0 q made j a) m.high_row) }
steps (event.Report p) w new limits made h =
    let b = by_detector (event.Report p) w new p.0 limits made h in
    let a = b.two in
    let m = meeting (event.Report p) a.low a.high a.met a.row in
    let x = report_part p m.crossing a.low a.met.low b.low m.low_row in
    let y = report_detector p x.0 a.high a.met.high b.high (subst (λ c. after (event.Report p) c a.high ≡ Some a.met.high) x.1 m.high_row) in
    let d = x.2 in
    let all = visits w.shape y.visited a.high y.before b.fits y.part in
    let row = subst (λ v. report_row p.0 v y.before ≡ Some y.behind) d.does.0 y.does.2 in
    let t = pair (event.Report p) w new p.0 (λ f g r s. Whitens f g × (report_row p.0 f.view r ≡ Some s)) b d.before d.behind y.before y.behind d.was d.is y.was y.is (d.does.2, row) in
    record { event = Report p.0; is = refl; steps = (t.0, t.1, t.2.0, t.2.1) }
steps event.Begin w new limits made h =
    let a = at_one event.Begin w new (detector_part w.shape) h in
    let y = begin_did a.before a.behind a.row in
    let t = alone event.Begin w new (λ r s. begin_row r ≡ Some s) (at_last w.shape limits) a y.before y.behind y.was y.is y.does in
    record { event = Begin; is = refl; steps = (t.0, t.1, t.2) }
steps (event.Confirm p) w new limits made h =
    let b = by_detector (event.Confirm p) w new p.0 limits made h in
    let a = b.two in
    let m = meeting (event.Confirm p) a.low a.high a.met a.row in
    let x = confirm_part p m.crossing a.low a.met.low b.low m.low_row in
    let y = confirm_detector p x.0 a.high a.met.high b.high (subst (λ c. after (event.Confirm p) c a.high ≡ Some a.met.high) x.1 m.high_row) in
    let d = x.2 in
    let all = visits w.shape y.visited a.high y.before b.fits y.part in
    let n = visited w.shape in
    let row = subst (λ v. confirm_row n v y.before ≡ Some y.behind) d.does.0 (subst (λ k. confirm_row k (view_of x.0) y.before ≡ Some y.behind) all y.does.2) in
    let t = pair (event.Confirm p) w new p.0 (λ f g r s. (g ≡ f) × (r.phase ≡ phase.Confirm p.0) × (confirm_row n f.view r ≡ Some s)) b d.before d.behind y.before y.behind d.was d.is y.was y.is (d.does.1, y.does.0, row) in
    record { event = Confirm p.0; is = refl; steps = (t.0, t.1, t.2.0, t.2.1, t.2.2) }
steps event.Announce w new limits made h =
    let a = at_one event.Announce w new (detector_part w.shape) h in
    let y = announce_did a.before a.behind a.row in
    let n = visited w.shape in
    let fits = subst (λ z. FitsKind w.shape z a.before) (detector_last w.shape) (fits_at w (detector_part w.shape) a.before made a.was) in
    let all = visits w.shape y.visited a.before y.before fits y.part in
    let t = alone event.Announce w new (λ r s. announce_row n r ≡ Some s) (at_last w.shape limits) a y.before y.behind y.was y.is (subst (λ k. announce_row k y.before ≡ Some y.behind) all y.does) in
    record { event = Announce; is = refl; steps = (t.0, t.1, t.2) }
steps (event.Release p) w new limits made h =
    let b = by_detector (event.Release p) w new p.0 limits made h in
    let a = b.two in
    let m = meeting (event.Release p) a.low a.high a.met a.row in
    let x = release_part p m.crossing a.low a.met.low b.low m.low_row in
    let y = release_detector p x.0 a.high a.met.high b.high (subst (λ c. after (event.Release p) c a.high ≡ Some a.met.high) x.1 m.high_row) in
    let d = x.2 in
    let all = visits w.shape y.visited a.high y.before b.fits y.part in
    let n = visited w.shape in
    let row = subst (λ k. release_row k y.before ≡ Some y.behind) all y.does.2 in
    let t = pair (event.Release p) w new p.0 (λ f g r s. Turns true f g × (r.phase ≡ phase.Release p.0) × (release_row n r ≡ Some s)) b d.before d.behind y.before y.behind d.was d.is y.was y.is (d.does.1, y.does.0, row) in
    record { event = Release p.0; is = refl; steps = (t.0, t.1, t.2.0, t.2.1, t.2.2) }
steps (event.Go p) w new limits made h =
    let b = by_detector (event.Go p) w new p.0 limits made h in
    let a = b.two in
    let m = meeting (event.Go p) a.low a.high a.met a.row in
    let x = go_part p m.crossing a.low a.met.low b.low m.low_row in
    let y = go_detector p x.0 a.high a.met.high b.high (subst (λ c. after (event.Go p) c a.high ≡ Some a.met.high) x.1 m.high_row) in
    let d = x.2 in
    let all = visits w.shape y.visited a.high y.before b.fits y.part in
    let n = visited w.shape in
    let row = subst (λ k. go_row k y.before ≡ Some y.behind) all y.does.2 in
    let t = pair (event.Go p) w new p.0 (λ f g r s. Turns false f g × (r.phase ≡ phase.Go p.0) × (go_row n r ≡ Some s)) b d.before d.behind y.before y.behind d.was d.is y.was y.is (d.does.1, y.does.0, row) in
    record { event = Go p.0; is = refl; steps = (t.0, t.1, t.2.0, t.2.1, t.2.2) }
