-- Events of a machine by the parts that stand at their places.
use Rattle.std.proofs.Common.{◌≡◌, ◌∙◌, ℕ, ◌<◌, Bool, true, false, List, None, Some, refl, ap, subst, sym, get_or, is_some, option_and_then, option_map, slice_get}
use Rattle.std.specs.declared.option.Option.{Option}
use Rattle.std.proofs.lemmas.Option.{get_or_from_slice_get, slice_get_within}
use Rattle.tn_base.specs.declared.event.Event.{Event}
use Rattle.tn_base.specs.declared.event.Event.TheVariants as event
use Rattle.tn_base.specs.declared.ids.PartId.{PartId}
use Rattle.tn_base.specs.declared.part.Kind.{Kind}
use Rattle.tn_base.specs.declared.part.Kind.TheVariants as kind
use Rattle.tn_base.specs.declared.shape.ShapeNumbers.{ShapeNumbers}
use Rattle.tn_base.specs.Parts.{kind_of, part_count}
use Rattle.tn_rows.proofs.Meeting.{some_mapped}
use Rattle.tn_rows.specs.Events.{FitsKind, IsWorld, after, happened, happened_at, meets, meets_at, with_both, with_part}
use Rattle.tn_rows.specs.PartView.{PartView, TileV, RouterV, LinkV, HostV, DetectorV, AbsentV}
use Rattle.tn_rows.specs.Places.{One, is_router, one_if, places, two_if}
use Rattle.tn_rows.specs.WorldView.{WorldView}
use Rattle.tn_stamp.specs.declared.entry.Crossing.TheVariants as crossing

-- what stands at a place is what a look-up sees there
pub seen : (xs : List PartView) (k : ℕ) (x : PartView) → slice_get xs k ≡ Some x → get_or xs k AbsentV ≡ x
seen xs k x h = get_or_from_slice_get xs k x AbsentV h

-- a part fits its place
pub fits_at : (w : WorldView) (p : ℕ) (part : PartView) → slice_get w.parts p ≡ Some part → IsWorld w → FitsKind w.shape (kind_of w.shape p) part
fits_at w p part a i =
    let within : p < part_count w.shape = subst (λ m. p < m) i.count (slice_get_within w.parts p part a) in
    subst (FitsKind w.shape (kind_of w.shape p)) (seen w.parts p part a) (i.each p within)

-- ---- events on one part

pub placed : (w : WorldView) (e : Event) (p : ℕ) (part : PartView) → places w.shape e ≡ One p → slice_get w.parts p ≡ Some part → happened e w ≡ option_map (with_part w p) (after e crossing.None part)
placed w e p part here a =
    ap (λ q. happened_at e w q) here
    ∙ ap (λ (o : Option PartView). option_map (with_part w p) (option_and_then (after e crossing.None) o)) a

pub can_one : (w : WorldView) (e : Event) (p : ℕ) (part : PartView) → places w.shape e ≡ One p → slice_get w.parts p ≡ Some part → is_some (happened e w) ≡ is_some (after e crossing.None part)
can_one w e p part here a = ap (λ (o : Option WorldView). is_some o) (placed w e p part here a) ∙ some_mapped (with_part w p) (after e crossing.None part)

-- ---- routings: a part that is a router stands where the shape names one

only_routers : (n : ShapeNumbers) (k : Kind) (p : PartId) (part : PartView) → is_router k ≡ false → FitsKind n k part → after (event.Route p) crossing.None part ≡ None
only_routers n k p (TileV v) e f = refl
only_routers n kind.Host p (RouterV v) e f = absurd f
only_routers n (kind.Tile tile) p (RouterV v) e f = absurd f
only_routers n (kind.Router board) p (RouterV v) e f = cc e
only_routers n (kind.Link from onto) p (RouterV v) e f = absurd f
only_routers n kind.Detector p (RouterV v) e f = absurd f
only_routers n k p (LinkV v) e f = refl
only_routers n k p (HostV s) e f = refl
only_routers n k p (DetectorV v) e f = refl
only_routers n k p AbsentV e f = refl

routed_if : (w : WorldView) (e : Event) (there : Bool) (p : ℕ) (part : PartView) → slice_get w.parts p ≡ Some part → (there ≡ false → after e crossing.None part ≡ None) →
    happened_at e w (one_if there p) ≡ option_map (with_part w p) (after e crossing.None part)
routed_if w e true p part a none = ap (λ (o : Option PartView). option_map (with_part w p) (option_and_then (after e crossing.None) o)) a
routed_if w e false p part a none = sym (ap (λ o. option_map (with_part w p) o) (none refl))

-- a routing by its part
pub routed : (w : WorldView) (p : PartId) (part : PartView) → slice_get w.parts p.0 ≡ Some part → IsWorld w → happened (event.Route p) w ≡ option_map (with_part w p.0) (after (event.Route p) crossing.None part)
routed w p part a i =
    routed_if w (event.Route p) (is_router (kind_of w.shape p.0)) p.0 part a
    (λ e. only_routers w.shape (kind_of w.shape p.0) p part e (fits_at w p.0 part a i))

pub can_route_at : (w : WorldView) (p : PartId) (part : PartView) → slice_get w.parts p.0 ≡ Some part → IsWorld w → is_some (happened (event.Route p) w) ≡ is_some (after (event.Route p) crossing.None part)
can_route_at w p part a i = ap (λ (o : Option WorldView). is_some o) (routed w p part a i) ∙ some_mapped (with_part w p.0) (after (event.Route p) crossing.None part)

-- no part, no routing
no_one : (w : WorldView) (e : Event) (there : Bool) (p : ℕ) → slice_get w.parts p ≡ None → happened_at e w (one_if there p) ≡ None
no_one w e true p a = ap (λ (o : Option PartView). option_map (with_part w p) (option_and_then (after e crossing.None) o)) a
no_one w e false p a = refl

pub no_route : (w : WorldView) (p : PartId) → slice_get w.parts p.0 ≡ None → happened (event.Route p) w ≡ None
no_route w p a = no_one w (event.Route p) (is_router (kind_of w.shape p.0)) p.0 a

-- ---- events on two parts

pub can_both : (w : WorldView) (e : Event) (there : Bool) (p q : ℕ) (low high : PartView) → there ≡ true → slice_get w.parts p ≡ Some low → slice_get w.parts q ≡ Some high → is_some (happened_at e w (two_if there p q)) ≡ is_some (meets e low high)
can_both w e there p q low high is a b =
    ap (λ there. is_some (happened_at e w (two_if there p q))) is
    ∙ ap (λ o. is_some (option_map (with_both w p q) (meets_at e o (slice_get w.parts q)))) a
    ∙ ap (λ o. is_some (option_map (with_both w p q) (meets_at e (Some low) o))) b
    ∙ some_mapped (with_both w p q) (meets e low high)
