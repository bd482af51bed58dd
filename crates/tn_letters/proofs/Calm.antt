-- A machine at its start is one of which the detector's invariant holds.
use Rattle.std.proofs.Common.{ℕ, zero, suc, ◌≡◌, ◌+◌, length, refl, sym, ◌∙◌, ap, subst, pos, cond, Bool, true, false, Option, Some, None, option_map, slice_get}
use Rattle.std.specs.Prelude.{nat_lt}
use Rattle.std.proofs.lemmas.List.{length-replicate}
use Rattle.std.proofs.lemmas.Option.{get_or_from_slice_get, slice_get_within, slice_get-map}
use Rattle.tn_base.specs.declared.shape.ShapeNumbers.{ShapeNumbers}
use Rattle.tn_base.specs.Parts.{visited}
use Rattle.tn_detect.specs.declared.state.DetectorState.{DetectorState}
use Rattle.tn_detect.specs.DetectorView.{DetectorView, fresh_state}
use Rattle.tn_detect.specs.Reports.{report_at}
use Rattle.tn_host.specs.HostView.{HostState}
use Rattle.tn_link.specs.LinkView.{LinkView}
use Rattle.tn_quiet.specs.Law.{IsQuietWorld}
use Rattle.tn_quiet.specs.Machine.{link_count, rest_of, shown as shown_parts, shows}
use Rattle.tn_quiet.proofs.Machines.{at_last}
use Rattle.tn_quiet.proofs.Runs.{start_quiet}
use Rattle.tn_rest.specs.declared.facts.Facts.{Facts}
use Rattle.tn_rest.specs.Law.{IsStart as IsRestStart}
use Rattle.tn_rest.specs.Seen.{SeenPart, detector_of, facts_of, no_facts, packets_of}
use Rattle.tn_router.specs.RouterView.{RouterView}
use Rattle.tn_rows.specs.PartView.{PartView, TileV, RouterV, LinkV, HostV, DetectorV, AbsentV}
use Rattle.tn_rows.specs.Places.{detector_part}
use Rattle.tn_rows.specs.WorldView.{WorldView}
use Rattle.tn_tile.specs.TileView.{TileView}
use Rattle.tn_letters.specs.Law.{IsStart, StartsSo}
use Rattle.tn_letters.proofs.Detected.{last_part}
use Rattle.tn_letters.proofs.Lift.{Good}

-- what is shown of a part at its start
abbrev FreshFacts : Facts → Type 0
FreshFacts f = (f.view.counter ≡ pos 0) × (f.held ≡ false)

fresh_facts : (n : ShapeNumbers) (x : PartView) → StartsSo n x → FreshFacts (facts_of (Some (shows x)))
fresh_facts n (TileV v) s = (ap (λ (x : TileView). x.now.node.counter) s.3, ap (λ (x : TileView). x.now.node.held) s.3)
fresh_facts n (RouterV v) s = (ap (λ (x : RouterView). x.now.node.counter) s.1, ap (λ (x : RouterView). x.now.node.held) s.1)
fresh_facts n (LinkV v) s = (refl, refl)
fresh_facts n (HostV h) s = (ap (λ (x : HostState). x.node.counter) s.2, ap (λ (x : HostState). x.node.held) s.2)
fresh_facts n (DetectorV v) s = (refl, refl)
fresh_facts n AbsentV s = (refl, refl)

fresh_packets : (n : ShapeNumbers) (x : PartView) → StartsSo n x → packets_of (Some (shows x)) ≡ 0
fresh_packets n (TileV v) s = refl
fresh_packets n (RouterV v) s = refl
fresh_packets n (LinkV v) s = ap (λ (x : LinkView). length x.packets) s
fresh_packets n (HostV h) s = refl
fresh_packets n (DetectorV v) s = refl
fresh_packets n AbsentV s = refl

-- what holds of each part at its start holds of what is shown at a place
at_place : (P : Option SeenPart → Type 0) (w : WorldView) (k : ℕ) → P None → ((x : PartView) → StartsSo w.shape x → P (Some (shows x))) → IsStart w → P (slice_get (shown_parts w) k)
at_place P w k none some s = subst P (sym (slice_get-map shows w.parts k)) (by (slice_get w.parts k) refl)
  where
    by : (o : Option PartView) → slice_get w.parts k ≡ o → P (option_map shows o)
    by None e = none
    by (Some x) e = some x (subst (StartsSo w.shape) (get_or_from_slice_get w.parts k x AbsentV e) (s.parts k (slice_get_within w.parts k x e)))

under : {A : Type 0} (P : A → Type 0) (b : Bool) (x y : A) → P x → P y → P (cond b x y)
under P true x y p q = p
under P false x y p q = q

none_reported : (n k : ℕ) → report_at (fresh_state n).reports k ≡ None
none_reported n k = by n k
  where
    by : (n k : ℕ) → report_at (fresh_state n).reports k ≡ None
    by zero k = refl
    by (suc n) zero = refl
    by (suc n) (suc k) = by n k

pub rest_start : (w : WorldView) → IsStart w → Good w → IsRestStart (visited w.shape) (rest_of w)
rest_start w s g =
    let n : ShapeNumbers = w.shape in
    let last = last_part w g in
    let fresh : last.0 ≡ _ = subst (StartsSo n) (get_or_from_slice_get w.parts (detector_part n) (DetectorV last.0) AbsentV last.1) (s.parts (detector_part n) (slice_get_within w.parts (detector_part n) (DetectorV last.0) last.1)) in
    let read : (rest_of w).detector ≡ fresh_state (visited n) =
    ap (λ q. detector_of (slice_get (shown_parts w) q)) (at_last n g.limits) ∙ (ap detector_of (slice_get-map shows w.parts (detector_part n) ∙ ap (option_map shows) last.1) ∙ ap (λ (v : DetectorView). v.now) fresh) in
    record {
      counters = λ k. (under FreshFacts (nat_lt k (visited n)) _ no_facts (at_place (λ o. FreshFacts (facts_of o)) w k (refl, refl) (fresh_facts n) s) (refl, refl)).0;
      free = λ k. (under FreshFacts (nat_lt k (visited n)) _ no_facts (at_place (λ o. FreshFacts (facts_of o)) w k (refl, refl) (fresh_facts n) s) (refl, refl)).1;
      links = λ l. under (λ m. m ≡ 0) (nat_lt l (link_count n)) _ 0 (at_place (λ o. packets_of o ≡ 0) w (visited n + l) refl (fresh_packets n) s) refl;
      phase = ap (λ (d : DetectorState). d.phase) read;
      places = ap (λ (d : DetectorState). length d.reports) read ∙ length-replicate (visited n) None;
      reports = λ k. ap (λ (d : DetectorState). report_at d.reports k) read ∙ none_reported (visited n) k;
    }

pub quiet_start : (w : WorldView) → IsStart w → Good w → IsQuietWorld w
quiet_start w s g = start_quiet w s.world (rest_start w s g)
