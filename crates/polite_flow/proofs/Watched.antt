-- If the detector does not collect reports, it has an event; if it collects reports, it holds no part.
use Rattle.std.proofs.Common.{ℕ, ◌≡◌, ◌<◌, false, cond, refl, sym, ap, ◌∙◌, subst, List, length, get_or, inl, inr, Some}
use Rattle.std.specs.Prelude.{slice_get}
use Rattle.std.proofs.lemmas.Bool.{cases_lt, lt-ltb}
use Rattle.std.proofs.lemmas.List.{get_or_past}
use Rattle.std.proofs.lemmas.Option.{slice_get-get_or}
use Rattle.tn_base.specs.declared.part.Kind.{Kind}
use Rattle.tn_base.specs.declared.part.Kind.TheVariants as kind
use Rattle.tn_base.specs.declared.shape.ShapeNumbers.{ShapeNumbers}
use Rattle.tn_base.specs.Parts.{kind_of, visited}
use Rattle.tn_base.specs.Shape.{WithinLimits}
use Rattle.tn_detect.specs.declared.phase.Phase.{Phase}
use Rattle.tn_detect.specs.declared.phase.Phase.TheVariants as phase
use Rattle.tn_keys.specs.Tables.{Table}
use Rattle.tn_quiet.specs.Law.{IsQuietWorld}
use Rattle.tn_quiet.specs.Machine.{link_count, rest_of, shown, shows}
use Rattle.tn_quiet.proofs.Lists.{shown_at}
use Rattle.tn_quiet.proofs.OpenMachines.{open_elsewhere}
use Rattle.tn_rest.specs.Quiet.{InPhase}
use Rattle.tn_rest.specs.Seen.{facts_of, no_facts}
use Rattle.tn_rows.specs.PartView.{PartView, TileV, RouterV, LinkV, HostV, DetectorV, AbsentV}
use Rattle.tn_rows.specs.WorldView.{WorldView}
use Rattle.tn_rows.proofs.PartKinds.{IsBehind, behind_kind}
use Rattle.polite_flow.specs.Able.{CanFlow, IsLetGo, IsWatched}
use Rattle.polite_flow.specs.Enabled.{SomeEventAtEachPhase}
use Rattle.polite_flow.specs.Standing.{IsEnabled}
use Rattle.polite_flow.proofs.Enabling.{some_event}
use Rattle.polite_flow.proofs.PartsAt.{router_kind_at, tile_kind_at}

-- ---- what the laws of rest see of a part

-- a part of a kind that the detector visits is a visited part
pub below : (n : ShapeNumbers) (p : ℕ) (k : Kind) → kind_of n p ≡ k → (IsBehind k → ⊥) → p < visited n
below n p k e not = elim (cases_lt p (visited n)) [
  | inl low ↦ low
  | inr past ↦ absurd (not (subst IsBehind e (behind_kind n p past)))
]

pub seen_part : (w : WorldView) (p : ℕ) (x : PartView) → p < visited w.shape → slice_get w.parts p ≡ Some x → (rest_of w).part p ≡ facts_of (Some (shows x))
seen_part w p x low e =
    ap (λ b. cond b (facts_of (slice_get (shown w) p)) no_facts) (lt-ltb p (visited w.shape) low)
    ∙ ap (λ o. facts_of o) (shown_at w p x e)

-- ---- while the detector collects reports, no part is held

let_go : (tables : List Table) (w : WorldView) (p : ℕ) (x : PartView) → IsWatched tables w → ((k : ℕ) → k < visited w.shape → ((rest_of w).part k).held ≡ false) → slice_get w.parts p ≡ Some x → IsLetGo x
let_go tables w p (TileV v) g free e =
    let kinds = tile_kind_at w p v g.quiet.world e in
    let low = below w.shape p (kind.Tile (record { 0 = v.plan.tile })) kinds.is (λ f. f) in
    sym (ap (λ f. f.held) (seen_part w p (TileV v) low e)) ∙ free p low
let_go tables w p (RouterV v) g free e =
    let kinds = router_kind_at w p v g.quiet.world e in
    let low = below w.shape p (kind.Router v.plan.board) kinds.is (λ f. f) in
    sym (ap (λ f. f.held) (seen_part w p (RouterV v) low e)) ∙ free p low
let_go tables w p (LinkV v) g free e = tt
let_go tables w p (HostV s) g free e = tt
let_go tables w p (DetectorV v) g free e = tt
let_go tables w p AbsentV g free e = tt

all_let_go : (tables : List Table) (w : WorldView) → IsWatched tables w → ((k : ℕ) → k < visited w.shape → ((rest_of w).part k).held ≡ false) → (p : ℕ) → IsLetGo (get_or w.parts p AbsentV)
all_let_go tables w g free p = elim (cases_lt p (length w.parts)) [
  | inl within ↦ let_go tables w p (get_or w.parts p AbsentV) g free (slice_get-get_or w.parts p AbsentV within)
  | inr past ↦ subst IsLetGo (sym (get_or_past w.parts p AbsentV past)) tt
]

flowing : (tables : List Table) (w : WorldView) → IsWatched tables w → (rest_of w).detector.phase ≡ phase.Collect → CanFlow tables w
flowing tables w g e =
    let n = visited w.shape in
    let m = link_count w.shape in
    let collecting : InPhase phase.Collect n m (rest_of w) = subst (λ q. InPhase q n m (rest_of w)) e g.quiet.quiet.phase in
    record { world = g.quiet.world; ready = g.ready; on_way = g.on_way; able = g.able; free = all_let_go tables w g collecting.free }

-- ---- at each phase

-- if an event is enabled while the detector collects reports, an event is enabled at each phase
at_phase : (w : WorldView) (q : Phase) → WithinLimits w.shape → IsQuietWorld w → ((rest_of w).detector.phase ≡ phase.Collect → IsEnabled w) → (rest_of w).detector.phase ≡ q → IsEnabled w
at_phase w phase.Collect limits quiet collect e = collect e
at_phase w (phase.Confirm i) limits quiet collect e = open_elsewhere w limits quiet (λ c. (let d : phase.Confirm i ≡ phase.Collect = sym e ∙ c in absurd (cc)))
at_phase w (phase.Release i) limits quiet collect e = open_elsewhere w limits quiet (λ c. (let d : phase.Release i ≡ phase.Collect = sym e ∙ c in absurd (cc)))
at_phase w (phase.Go i) limits quiet collect e = open_elsewhere w limits quiet (λ c. (let d : phase.Go i ≡ phase.Collect = sym e ∙ c in absurd (cc)))

pub at_each_phase : (tables : List Table) (w : WorldView) → IsWatched tables w → (CanFlow tables w → IsEnabled w) → IsEnabled w
at_each_phase tables w g collect = at_phase w (rest_of w).detector.phase g.ready.routes.limits g.quiet (λ e. collect (flowing tables w g e)) refl

pub watched_event : SomeEventAtEachPhase
watched_event tables w g has = at_each_phase tables w g (λ f. some_event tables w f has)
