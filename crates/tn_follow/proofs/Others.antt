-- The parts that an event is not on.
use Rattle.std.proofs.Common.{◌≡◌, ◌∙◌, ℕ, ◌||◌, Bool, true, false, eqb, get_or, set, [], Option, Some, option_map, refl, ap, sym, subst}
use Rattle.std.specs.Prelude.{option_and_then}
use Rattle.std.specs.List.{slice_get}
use Rattle.std.proofs.lemmas.Bool.{eq-eqb}
use Rattle.std.proofs.lemmas.List.{get_or-set_other}
use Rattle.tn_base.specs.declared.event.Event.{Event}
use Rattle.tn_follow.specs.Elsewhere.{LeavesOthers}
use Rattle.tn_letters.proofs.Bare.{Match, reach_match, with_parts}
use Rattle.tn_letters.proofs.EventParts.{event_parts}
use Rattle.tn_letters.specs.Standing.{part_standing}
use Rattle.tn_letters.specs.Tiles.{beats_on, reach_of}
use Rattle.tn_router.specs.RouterView.{RouterView, with_now}
use Rattle.tn_rows.proofs.Meeting.{mapped}
use Rattle.tn_rows.specs.Events.{Met, after, detector_row, happened, happened_at, host_row, link_row, meets_at, router_did, router_row, tile_row, with_both, with_part, deed_of}
use Rattle.tn_rows.specs.PartView.{PartView, TileV, RouterV, LinkV, HostV, DetectorV, AbsentV}
use Rattle.tn_rows.specs.Places.{Places, Nowhere, One, Two, places}
use Rattle.tn_rows.specs.Stamped.{touches}
use Rattle.tn_rows.specs.WorldView.{WorldView}
use Rattle.tn_stamp.specs.declared.entry.Crossing.{Crossing}
use Rattle.tn_stamp.specs.declared.entry.Crossing.TheVariants as crossing

-- no event changes a router's table
beats_after : (e : Event) (c : Crossing) (a b : PartView) → after e c a ≡ Some b → beats_on b ≡ beats_on a
beats_after e c (TileV v) b is = let m = mapped TileV (tile_row e c v) b is in subst (λ x. beats_on x ≡ []) m.2 refl
beats_after e c (RouterV v) b is =
    let m = mapped RouterV (router_row e c v) b is in
    let n = mapped (with_now v) (router_did v.plan v.now (deed_of v.plan.shape e c)) m.0 m.1 in
    subst (λ x. beats_on x ≡ v.plan.beats) m.2 (subst (λ (x : RouterView). x.plan.beats ≡ v.plan.beats) n.2 refl)
beats_after e c (LinkV v) b is = let m = mapped LinkV (link_row e c v) b is in subst (λ x. beats_on x ≡ []) m.2 refl
beats_after e c (HostV s) b is = let m = mapped HostV (host_row e c s) b is in subst (λ x. beats_on x ≡ []) m.2 refl
beats_after e c (DetectorV v) b is = let m = mapped DetectorV (detector_row e c v) b is in subst (λ x. beats_on x ≡ []) m.2 refl
beats_after e c AbsentV b is = cc is

-- each part but those of the event is the same, and the shape is
abbrev Stays : WorldView → WorldView → ℕ → Type 0
Stays old new r = (get_or new.parts r AbsentV ≡ get_or old.parts r AbsentV) × (new.shape ≡ old.shape)

apart_one : (p r : ℕ) → eqb p r ≡ false → r ≡ p → ⊥
apart_one p r e same = let clash : true ≡ false = sym (eq-eqb p r (sym same)) ∙ e in cc clash

apart_two : (a b : Bool) → (a || b) ≡ false → (a ≡ false) × (b ≡ false)
apart_two true b e = cc e
apart_two false b e = (refl, e)

stays_one : (old new : WorldView) (p r : ℕ) (o : Option PartView) → option_map (with_part old p) o ≡ Some new → (r ≡ p → ⊥) → Stays old new r
stays_one old new p r o is apart =
    let m = mapped (with_part old p) o new is in
    subst (λ (n : WorldView). Stays old n r) m.2 (get_or-set_other old.parts p r m.0 AbsentV apart, refl)

stays_two : (old new : WorldView) (p q r : ℕ) (o : Option Met) → option_map (with_both old p q) o ≡ Some new → (r ≡ p → ⊥) → (r ≡ q → ⊥) → Stays old new r
stays_two old new p q r o is low high =
    let m = mapped (with_both old p q) o new is in
    subst (λ (n : WorldView). Stays old n r) m.2 (get_or-set_other (set old.parts p m.0.low) q r m.0.high AbsentV high ∙ get_or-set_other old.parts p r m.0.low AbsentV low, refl)

stays_at : (e : Event) (old new : WorldView) (r : ℕ) (at : Places) → happened_at e old at ≡ Some new → touches at r ≡ false → Stays old new r
stays_at e old new r Nowhere is apart = cc is
stays_at e old new r (One p) is apart = stays_one old new p r (option_and_then (after e crossing.None) (slice_get old.parts p)) is (apart_one p r apart)
stays_at e old new r (Two p q) is apart =
    let both = apart_two (eqb p r) (eqb q r) apart in
    stays_two old new p q r (meets_at e (slice_get old.parts p) (slice_get old.parts q)) is (apart_one p r both.0) (apart_one q r both.1)

-- the shape stays
shape_at : (e : Event) (old new : WorldView) (at : Places) → happened_at e old at ≡ Some new → new.shape ≡ old.shape
shape_at e old new Nowhere is = cc is
shape_at e old new (One p) is = let m = mapped (with_part old p) (option_and_then (after e crossing.None) (slice_get old.parts p)) new is in subst (λ (n : WorldView). n.shape ≡ old.shape) m.2 refl
shape_at e old new (Two p q) is = let m = mapped (with_both old p q) (meets_at e (slice_get old.parts p) (slice_get old.parts q)) new is in subst (λ (n : WorldView). n.shape ≡ old.shape) m.2 refl

beats_match : (e : Event) (old new : WorldView) → happened e old ≡ Some new → Match beats_on old.parts new.parts
beats_match e old new is = event_parts (λ i a b. beats_on b ≡ beats_on a) (λ i x. refl) e old new (λ c crosses i a b read row. beats_after e c a b row) is

reach_after : (e : Event) (old new : WorldView) → happened e old ≡ Some new → reach_of new ≡ reach_of old
reach_after e old new is =
    let shape : new.shape ≡ old.shape = shape_at e old new (places old.shape e) is in
    let same : new ≡ with_parts old new.parts = ap (λ n. record { shape = n; parts = new.parts }) shape in
    ap reach_of same ∙ reach_match old new.parts (beats_match e old new is)

pub leaves_others : LeavesOthers
leaves_others e old new p is apart =
    let stays = stays_at e old new p (places old.shape e) is apart in
    let reach = reach_after e old new is in
    ap (λ n. part_standing n (reach_of new) p (get_or new.parts p AbsentV)) stays.1
    ∙ (ap (λ r. part_standing old.shape r p (get_or new.parts p AbsentV)) reach ∙ ap (λ part. part_standing old.shape (reach_of old) p part) stays.0)
