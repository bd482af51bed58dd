-- Events that are never enabled: those whose parts are not there, and those in which a part gives nothing.
use Rattle.std.proofs.Common.{◌≡◌, ◌∙◌, ℕ, ◌≤◌, Bool, true, false, cond, None, Some, refl, ap, sym, is_some, option_and_then, option_map, slice_get, length}
use Rattle.std.specs.declared.option.Option.{Option}
use Rattle.std.proofs.lemmas.Option.{slice_get_past}
use Rattle.tn_base.specs.declared.event.Event.{Event}
use Rattle.tn_base.specs.declared.event.Event.TheVariants as event
use Rattle.tn_base.specs.declared.ids.PartId.{PartId}
use Rattle.tn_base.specs.declared.message.Packet.{Packet}
use Rattle.tn_base.specs.Parts.{kind_of}
use Rattle.tn_node.proofs.PortLaws.{empty_at, not_false}
use Rattle.tn_node.specs.PortRows.{all_empty, at}
use Rattle.tn_rows.proofs.Meeting.{no_crossing, none_is}
use Rattle.tn_rows.specs.Events.{after, carried, crossing_of, given_to, happened, happened_at, meets_at, with_both, with_part}
use Rattle.tn_rows.specs.PartView.{PartView, TileV, RouterV, LinkV, HostV, DetectorV, AbsentV}
use Rattle.tn_rows.specs.Places.{leads_from, leads_to, link_way, one_if, two_if}
use Rattle.tn_rows.specs.WorldView.{WorldView}
use Rattle.tn_stamp.specs.declared.entry.Crossing.TheVariants as crossing
use Rattle.tn_rows.specs.Roles.{offers}

-- an event in which nothing crosses
met_none : (e : Event) (w : WorldView) (a b : Option PartView) (p q : ℕ) → ((x y : PartView) → a ≡ Some x → b ≡ Some y → crossing_of e x y ≡ None) → option_map (with_both w p q) (meets_at e a b) ≡ None
met_none e w None b p q none = refl
met_none e w (Some x) None p q none = refl
met_none e w (Some x) (Some y) p q none = ap (λ o. option_map (with_both w p q) o) (no_crossing e x y (none x y refl refl))

pub no_two : (e : Event) (w : WorldView) (there : Bool) (p q : ℕ) → ((x y : PartView) → slice_get w.parts p ≡ Some x → slice_get w.parts q ≡ Some y → crossing_of e x y ≡ None) → happened_at e w (two_if there p q) ≡ None
no_two e w true p q none = met_none e w (slice_get w.parts p) (slice_get w.parts q) p q none
no_two e w false p q none = refl

-- ---- parts past the last one

past_low : (e : Event) (w : WorldView) (p q : ℕ) → slice_get w.parts p ≡ None → option_map (with_both w p q) (meets_at e (slice_get w.parts p) (slice_get w.parts q)) ≡ None
past_low e w p q a = ap (λ o. option_map (with_both w p q) (meets_at e o (slice_get w.parts q))) a

high_none : (e : Event) (a : Option PartView) → meets_at e a None ≡ None
high_none e None = refl
high_none e (Some x) = refl

past_high : (e : Event) (w : WorldView) (p q : ℕ) → slice_get w.parts q ≡ None → option_map (with_both w p q) (meets_at e (slice_get w.parts p) (slice_get w.parts q)) ≡ None
past_high e w p q b =
    ap (λ o. option_map (with_both w p q) (meets_at e (slice_get w.parts p) o)) b
    ∙ ap (λ o. option_map (with_both w p q) o) (high_none e (slice_get w.parts p))

one_past : (e : Event) (w : WorldView) (p : ℕ) → slice_get w.parts p ≡ None → option_map (with_part w p) (option_and_then (after e crossing.None) (slice_get w.parts p)) ≡ None
one_past e w p a = ap (λ (o : Option PartView). option_map (with_part w p) (option_and_then (after e crossing.None) o)) a

pub part_past : (e : Event) (w : WorldView) (there : Bool) (p : ℕ) → length w.parts ≤ p → happened_at e w (one_if there p) ≡ None
part_past e w true p h = one_past e w p (slice_get_past w.parts p h)
part_past e w false p h = refl

pub low_past : (e : Event) (w : WorldView) (there : Bool) (p q : ℕ) → length w.parts ≤ p → happened_at e w (two_if there p q) ≡ None
low_past e w true p q h = past_low e w p q (slice_get_past w.parts p h)
low_past e w false p q h = refl

pub high_past : (e : Event) (w : WorldView) (there : Bool) (p q : ℕ) → length w.parts ≤ q → happened_at e w (two_if there p q) ≡ None
high_past e w true p q h = past_high e w p q (slice_get_past w.parts q h)
high_past e w false p q h = refl

-- ---- parts that give nothing

unless_held : (held : Bool) (o : Option Packet) → o ≡ None → cond held None o ≡ None
unless_held true o e = refl
unless_held false o e = e

gives_none : (l : ℕ) (x : PartView) → offers x ≡ false → given_to l x ≡ None
gives_none l (TileV v) e = unless_held v.now.node.held (at (link_way v.plan.shape l) v.now.node.out) (empty_at (link_way v.plan.shape l) v.now.node.out (not_false (all_empty v.now.node.out) e))
gives_none l (RouterV v) e = unless_held v.now.node.held (at (link_way v.plan.shape l) v.now.node.out) (empty_at (link_way v.plan.shape l) v.now.node.out (not_false (all_empty v.now.node.out) e))
gives_none l (LinkV v) e = refl
gives_none l (HostV s) e = refl
gives_none l (DetectorV v) e = refl
gives_none l AbsentV e = refl

same_part : (o : Option PartView) (x y : PartView) → o ≡ Some x → o ≡ Some y → x ≡ y
same_part o x y a b = let e : Some x ≡ Some y = sym a ∙ b in cc e

-- no packet leaves a part on which none waits
pub none_departs : (w : WorldView) (p l : PartId) (x : PartView) → slice_get w.parts p.0 ≡ Some x → offers x ≡ false → happened (event.Depart p l) w ≡ None
none_departs w p l x here e = no_two (event.Depart p l) w (leads_from p.0 (kind_of w.shape l.0)) p.0 l.0
    (λ low high a b. ap (λ o. option_map crossing.Packet o) (ap (given_to l.0) (same_part (slice_get w.parts p.0) low x a here) ∙ gives_none l.0 x e))

-- and none arrives from a link that has none
pub none_arrives : (w : WorldView) (l p : PartId) (x : PartView) → slice_get w.parts l.0 ≡ Some x → is_some (carried x) ≡ false → happened (event.Arrive l p) w ≡ None
none_arrives w l p x here e = no_two (event.Arrive l p) w (leads_to p.0 (kind_of w.shape l.0)) p.0 l.0
    (λ low high a b. ap (λ o. option_map crossing.Packet o) (ap carried (same_part (slice_get w.parts l.0) high x b here) ∙ none_is (carried x) e))

-- an event that is enabled is on parts that are joined so
pub joined : (e : Event) (w : WorldView) (there : Bool) (p q : ℕ) → is_some (happened_at e w (two_if there p q)) ≡ true → there ≡ true
joined e w true p q h = refl
joined e w false p q h = cc h

-- an event that is enabled is on a part of its kind
pub stands : (e : Event) (w : WorldView) (there : Bool) (p : ℕ) → is_some (happened_at e w (one_if there p)) ≡ true → there ≡ true
stands e w true p h = refl
stands e w false p h = cc h
