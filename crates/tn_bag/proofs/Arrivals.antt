-- What the calls that spell a history read of a machine whose next event is enabled.
use Rattle.std.specs.Prelude.{MatchOption, option_and_then, option_copied}
use Rattle.std.specs.List.{slice_get}
use Rattle.std.specs.Prelude.{OnOk}
use Rattle.std.specs.declared.result.Result.{Result}
use Rattle.std.specs.declared.result.Result.TheVariants.{Ok, Err}
use Rattle.std.proofs.Common.{[], ◌∷◌, cond, ℕ, ◌≡◌, Bool, Bor, true, false, refl, sym, ◌∙◌, ap, Option, Some, None, is_some, option_map, unwrap_or}
use Rattle.tn_base.specs.declared.event.Event.{Event}
use Rattle.tn_base.specs.declared.event.Event.TheVariants as event
use Rattle.tn_base.specs.declared.ids.PartId.{PartId}
use Rattle.tn_base.specs.declared.message.Packet.{Packet}
use Rattle.tn_base.specs.Message.{has_packet}
use Rattle.tn_base.specs.Parts.{kind_of}
use Rattle.tn_stamp.specs.declared.entry.Crossing.TheVariants as crossing
use Rattle.tn_tile.specs.declared.state.TileState.{TileState}
use Rattle.tn_tile.specs.Rows.{accept_row, accepted, came, passed}
use Rattle.tn_tile.specs.TileView.{TilePlan, TileView, now_by, with_now}
use Rattle.tn_rows.specs.Events.{after, carried, happened, happened_at, met_by, met_with, meets, meets_at, with_both, with_part}
use Rattle.tn_rows.specs.PartView.{PartView, TileV, RouterV, LinkV, HostV, DetectorV, AbsentV, tile_of}
use Rattle.tn_rows.specs.Places.{detector_part, leads_to, two_if}
use Rattle.tn_rows.specs.WorldView.{WorldView}
use Rattle.tn_keys.specs.Reach.{Reach}
use Rattle.tn_letters.specs.declared.steps.BagStep.TheVariants as bag
use Rattle.tn_letters.specs.Steps.{arrival_steps, delivery_steps, event_steps, part_steps, steps_at}
use Rattle.tn_letters.specs.Tiles.{reach_of}

-- ---- a packet that arrives

some_of : {A B : Type 0} (f : A → B) (o : Option A) → is_some (option_map f o) ≡ true → is_some o ≡ true
some_of f None e = cc e
some_of f (Some x) e = refl

met_low : (a b : Option PartView) → is_some (met_by a b) ≡ true → is_some a ≡ true
met_low (Some low) (Some high) e = refl
met_low (Some low) None e = cc e
met_low None b e = cc e

-- the tile at a part, as it was read
read_tile : (o : Option PartView) (v : TileView) → option_and_then tile_of o ≡ Some v → o ≡ Some (TileV v)
read_tile None v e = cc e
read_tile (Some (TileV u)) v e = ap (λ (x : Option TileView). Some (TileV (unwrap_or x v))) e
read_tile (Some (RouterV x)) v e = cc e
read_tile (Some (LinkV x)) v e = cc e
read_tile (Some (HostV h)) v e = cc e
read_tile (Some (DetectorV d)) v e = cc e
read_tile (Some AbsentV) v e = cc e

some_taken : {X : Type 0} (b : Bool) (o : Option X) → is_some (cond b o None) ≡ true → (b ≡ true) × (is_some o ≡ true)
some_taken true o e = (refl, e)
some_taken false o e = cc e

-- a packet that a tile takes is one of the machine
taken_fits : (plan : TilePlan) (k : Packet) (s : TileState) → is_some (accept_row plan k s) ≡ true → has_packet plan.shape k ≡ true
taken_fits plan k s e =
    let came_in : is_some (option_map came (accepted plan k s)) ≡ true = (some_taken _ (option_map came (accepted plan k s)) e).1 in
    (some_taken (has_packet plan.shape k) (passed plan k s) (some_of came (accepted plan k s) came_in)).0

arrival_fits : (l p : PartId) (v : TileView) (high : PartView) (k : Packet) → carried high ≡ Some k → is_some (meets (event.Arrive l p) (TileV v) high) ≡ true → has_packet v.plan.shape k ≡ true
arrival_fits l p v high k e some =
    let both : is_some (met_by (after (event.Arrive l p) (crossing.Packet k) (TileV v)) (after (event.Arrive l p) (crossing.Packet k) high)) ≡ true = sym (ap (λ (o : Option Packet). is_some (met_with (event.Arrive l p) (TileV v) high (option_map crossing.Packet o))) e) ∙ some in
    let low : is_some (option_map TileV (now_by v (accept_row v.plan k v.now))) ≡ true = met_low (option_map TileV (now_by v (accept_row v.plan k v.now))) (after (event.Arrive l p) (crossing.Packet k) high) both in
    taken_fits v.plan k v.now (some_of (with_now v) (accept_row v.plan k v.now) (some_of TileV (now_by v (accept_row v.plan k v.now)) low))

high_there : (l p : PartId) (v : TileView) (high : Option PartView) (k : Packet) → option_and_then carried high ≡ Some k → is_some (meets_at (event.Arrive l p) (Some (TileV v)) high) ≡ true → has_packet v.plan.shape k ≡ true
high_there l p v None k e some = cc e
high_there l p v (Some high) k e some = arrival_fits l p v high k e some

-- the event is enabled, so the link leads to the part
leads_so : (w : WorldView) (e : Event) (p q : ℕ) (b : Bool) → is_some (happened_at e w (two_if b p q)) ≡ true → b ≡ true
leads_so w e p q true some = refl
leads_so w e p q false some = cc some

pub record Arrives (w : WorldView) (l p : PartId) (v : TileView) : Type 0 where
  pub leads : leads_to p.0 (kind_of w.shape l.0) ≡ true
  pub low : slice_get w.parts p.0 ≡ Some (TileV v)
  pub meets : is_some (meets_at (event.Arrive l p) (Some (TileV v)) (slice_get w.parts l.0)) ≡ true

pub arrives : (w : WorldView) (l p : PartId) (v : TileView) → is_some (happened (event.Arrive l p) w) ≡ true → option_and_then tile_of (slice_get w.parts p.0) ≡ Some v → Arrives w l p v
arrives w l p v some at =
    let leads = leads_so w (event.Arrive l p) p.0 l.0 (leads_to p.0 (kind_of w.shape l.0)) some in
    let low = read_tile (slice_get w.parts p.0) v at in
    let both : is_some (meets_at (event.Arrive l p) (slice_get w.parts p.0) (slice_get w.parts l.0)) ≡ true =
    some_of (with_both w p.0 l.0) (meets_at (event.Arrive l p) (slice_get w.parts p.0) (slice_get w.parts l.0)) (sym (ap (λ b. is_some (happened_at (event.Arrive l p) w (two_if b p.0 l.0))) leads) ∙ some) in
    record { leads = leads; low = low; meets = sym (ap (λ o. is_some (meets_at (event.Arrive l p) o (slice_get w.parts l.0))) low) ∙ both }

pub front_fits : (w : WorldView) (l p : PartId) (v : TileView) (r : Option (Bor Packet)) → Arrives w l p v → option_copied r ≡ option_and_then carried (slice_get w.parts l.0) → MatchOption r (Unit {0}) (λ k. has_packet v.plan.shape k.now ≡ true)
front_fits w l p v None a e = tt
front_fits w l p v (Some k) a e = high_there l p v (slice_get w.parts l.0) k.now (sym e) a.meets

pub arrival_is : (w : WorldView) (l p : PartId) (v : TileView) (o : Option Packet) → Arrives w l p v → o ≡ option_and_then carried (slice_get w.parts l.0) → delivery_steps (reach_of w) o v ≡ event_steps (event.Arrive l p) w
arrival_is w l p v o a e =
    ap (λ x. delivery_steps (reach_of w) x v) e
    ∙ (ap (λ low. arrival_steps (reach_of w) (option_and_then carried (slice_get w.parts l.0)) low) (sym a.low)
    ∙ ap (λ b. steps_at (event.Arrive l p) w (two_if b p.0 l.0)) (sym a.leads))

-- if no tile is there, nothing is dropped
no_taking : (reach : Reach) (k : Option Packet) (x : Option PartView) → option_and_then tile_of x ≡ None → arrival_steps reach k x ≡ []
no_taking reach k None e = refl
no_taking reach k (Some (TileV v)) e = cc e
no_taking reach k (Some (RouterV v)) e = refl
no_taking reach k (Some (LinkV v)) e = refl
no_taking reach k (Some (HostV h)) e = refl
no_taking reach k (Some (DetectorV d)) e = refl
no_taking reach k (Some AbsentV) e = refl

none_dropped : (w : WorldView) (l p : PartId) (b : Bool) → option_and_then tile_of (slice_get w.parts p.0) ≡ None → steps_at (event.Arrive l p) w (two_if b p.0 l.0) ≡ []
none_dropped w l p true e = no_taking (reach_of w) (option_and_then carried (slice_get w.parts l.0)) (slice_get w.parts p.0) e
none_dropped w l p false e = refl

pub arrival_not : (w : WorldView) (l p : PartId) → option_and_then tile_of (slice_get w.parts p.0) ≡ None → event_steps (event.Arrive l p) w ≡ []
arrival_not w l p e = none_dropped w l p (leads_to p.0 (kind_of w.shape l.0)) e

-- ---- memory

-- what a call that had memory did, read otherwise
pub on_ok : {T E P Q : Type 0} (r : Result T E) → (P → Q) → OnOk r P → OnOk r Q
on_ok (Ok x) f h = f h
on_ok (Err e) f h = h
