-- If a thread becomes owed a slot, the event put the packet that it brought into the slot: each row of a tile, each event and each walk.
use Rattle.std.proofs.Common.{ℕ, ◌<◌, ◌≤◌, ◌≡◌, ◌⊎◌, Bool, true, false, List, length, refl, sym, ◌∙◌, ap, subst, inl, inr, arith, MatchOption, Option, Some, None, option_map}
use Rattle.std.specs.Int.{bit_at}
use Rattle.std.specs.List.{slice_get}
use Rattle.std.specs.Prelude.{option_and_then}
use Rattle.std.proofs.lemmas.Bool.{cases_lt}
use Rattle.std.proofs.lemmas.List.{get_or_past}
use Rattle.std.proofs.lemmas.Option.{get_or_from_slice_get}
use Rattle.tn_base.specs.declared.event.Event.{Event}
use Rattle.tn_base.specs.declared.event.Event.TheVariants as event
use Rattle.tn_base.specs.declared.ids.PartId.{PartId}
use Rattle.tn_base.specs.declared.message.Packet.{Packet}
use Rattle.tn_base.specs.Parts.{kind_of}
use Rattle.tn_node.specs.Deed.{Deed}
use Rattle.tn_node.specs.Deed as deed
use Rattle.tn_rows.specs.Events.{after, carried, deed_of, detector_row, happened, host_row, link_row, router_row, tile_did, tile_row}
use Rattle.tn_rows.specs.PartView.{PartView, TileV, RouterV, LinkV, HostV, DetectorV, AbsentV}
use Rattle.tn_rows.specs.Places.{leads_to, two_if}
use Rattle.tn_rows.specs.Runs.{Walk}
use Rattle.tn_rows.specs.WorldView.{WorldView}
use Rattle.tn_rows.proofs.Meeting.{mapped}
use Rattle.tn_slots.specs.declared.slot.Slot.{Slot}
use Rattle.tn_slots.specs.Pool.{slot_at}
use Rattle.tn_stamp.specs.declared.entry.Crossing.{Crossing}
use Rattle.tn_stamp.specs.declared.entry.Crossing.TheVariants as crossing
use Rattle.tn_tile.specs.declared.state.TileState.{TileState}
use Rattle.tn_tile.specs.TileView.{TilePlan, TileView, with_now}
use Rattle.tn_letters.specs.Law.{IsStart}
use Rattle.tn_letters.specs.SlotLaw.{HasMessage, brought, tile_on}
use Rattle.tn_letters.specs.Tiles.{tile_in}
use Rattle.tn_letters.proofs.EventParts.{Crosses, CrossesAt, event_parts, part_at}
use Rattle.tn_letters.proofs.Lift.{Good, tile_on as good_tile}
use Rattle.tn_letters.proofs.SlotChanges.{IsPut, IsUntouched, by_deed, deed_changed, packet_by}
use Rattle.tn_letters.proofs.SlotLaw.{turn_kept}
use Rattle.tn_letters.proofs.Starts.{good_start}
use Rattle.tn_letters.proofs.Calm.{quiet_start}
use Rattle.tn_letters.proofs.GoodParts.{walk_good}

-- ---- a deed of a tile

-- the thread at place k becomes owed slot j
abbrev Rises : ℕ → ℕ → TileView → TileView → Type 0
Rises j k old new = bit_at (slot_at old.now.pool j).owed k < bit_at (slot_at new.now.pool j).owed k

abbrev at_state : TilePlan → TileState → TileView
at_state plan s = record { plan = plan; now = s }

no_rise : (plan : TilePlan) (j k : ℕ) (old new : TileState) → bit_at (slot_at new.pool j).owed k ≤ bit_at (slot_at old.pool j).owed k → Rises j k (at_state plan old) (at_state plan new) → ⊥
no_rise plan j k old new h rise = absurd (omega arith)

untouched_low : (j k : ℕ) (old new : TileState) → IsUntouched j old new → bit_at (slot_at new.pool j).owed k ≤ bit_at (slot_at old.pool j).owed k
untouched_low j k old new u = let b = ap (λ (x : Slot). bit_at x.owed k) u.slot in omega arith

-- a packet that was put into slot j, where each slot has a sender
abbrev Brings : TilePlan → ℕ → TileState → TileState → Option Packet → Type 0
Brings plan j old new o = MatchOption o ⊥ (IsPut plan j old new)

deed_puts : (plan : TilePlan) (j k : ℕ) (d : Deed) (old new : TileState) → tile_did plan old (Some d) ≡ Some new → Rises j k (at_state plan old) (at_state plan new) → Brings plan j old new (packet_by plan d old)
deed_puts plan j k d old new e rise = by_deed (λ d. tile_did plan old (Some d) ≡ Some new → Brings plan j old new (packet_by plan d old))
    (λ t n e. absurd (no_rise plan j k old new ((turn_kept plan j t n old new e).owed k) rise))
    (λ d quiet e. elim (deed_changed plan j d old new quiet e) [
      | inl u ↦ absurd (no_rise plan j k old new (untouched_low j k old new u) rise)
      | inr p ↦ p
    ]) d e

-- ---- an event on a tile

-- the packet that comes to a tile in an event with this crossing
abbrev comes : TileView → Option Deed → Option Packet
comes v None = None
comes v (Some d) = packet_by v.plan d v.now

did_put : (v : TileView) (j k : ℕ) (d : Option Deed) (new : TileState) → tile_did v.plan v.now d ≡ Some new → Rises j k v (with_now v new) → Brings v.plan j v.now new (comes v d)
did_put v j k None new e rise = cc e
did_put v j k (Some d) new e rise = deed_puts v.plan j k d v.now new e rise

-- the message of a packet that was put
message : (v : TileView) (j : ℕ) (new : TileState) (o : Option Packet) → length v.now.senders ≡ length v.now.pool.slots → Brings v.plan j v.now new o → MatchOption o ⊥ (λ q. HasMessage j q v (with_now v new))
message v j new None long p = absurd p
message v j new (Some q) long p = record { slot = p.slot; sender = p.sender long }

-- what an arrival gives is what the link carries
arrives : (l q : PartId) (w : WorldView) (there : Bool) (k : Packet) → CrossesAt (event.Arrive l q) w (crossing.Packet k) (two_if there q.0 l.0) → option_and_then carried (slice_get w.parts l.0) ≡ Some k
arrives l q w false k c = absurd c
arrives l q w true k c = ap (option_and_then carried) c.2 ∙ gives (carried c.1) k c.3
  where
    gives : (o : Option Packet) (k : Packet) → option_map crossing.Packet o ≡ Some (crossing.Packet k) → o ≡ Some k
    gives None k e = cc e
    gives (Some p) k e = ap Some (cc e)

-- the packet of the deed is the packet that the event brings
from_event : (e : Event) (c : Crossing) (w : WorldView) (i : ℕ) (v : TileView) (P : Packet → Type 0) → tile_on w i ≡ v → Crosses e w c → MatchOption (comes v (deed_of v.plan.shape e c)) ⊥ P → MatchOption (brought e w i) ⊥ P
from_event (event.Turn t n) crossing.None w i v P at crosses p = absurd p
from_event (event.Turn t n) (crossing.Packet x) w i v P at crosses p = absurd p
from_event (event.Turn t n) (crossing.View f) w i v P at crosses p = absurd p
from_event (event.Deliver t) crossing.None w i v P at crosses p = subst (λ u. MatchOption (packet_by u.plan (deed.Deliver t) u.now) ⊥ P) (sym at) p
from_event (event.Deliver t) (crossing.Packet x) w i v P at crosses p = absurd p
from_event (event.Deliver t) (crossing.View f) w i v P at crosses p = absurd p
from_event (event.Depart q l) crossing.None w i v P at crosses p = absurd p
from_event (event.Depart q l) (crossing.Packet x) w i v P at crosses p = absurd p
from_event (event.Depart q l) (crossing.View f) w i v P at crosses p = absurd p
from_event (event.Arrive l q) crossing.None w i v P at crosses p = absurd p
from_event (event.Arrive l q) (crossing.Packet x) w i v P at crosses p =
    subst (λ (o : Option Packet). MatchOption o ⊥ P) (sym (arrives l q w (leads_to q.0 (kind_of w.shape l.0)) x crosses)) p
from_event (event.Arrive l q) (crossing.View f) w i v P at crosses p = absurd p
from_event (event.Route q) crossing.None w i v P at crosses p = absurd p
from_event (event.Route q) (crossing.Packet x) w i v P at crosses p = absurd p
from_event (event.Route q) (crossing.View f) w i v P at crosses p = absurd p
from_event event.HostPut crossing.None w i v P at crosses p = absurd p
from_event event.HostPut (crossing.Packet x) w i v P at crosses p = absurd p
from_event event.HostPut (crossing.View f) w i v P at crosses p = absurd p
from_event event.HostTake crossing.None w i v P at crosses p = absurd p
from_event event.HostTake (crossing.Packet x) w i v P at crosses p = absurd p
from_event event.HostTake (crossing.View f) w i v P at crosses p = absurd p
from_event (event.Report q) crossing.None w i v P at crosses p = absurd p
from_event (event.Report q) (crossing.Packet x) w i v P at crosses p = absurd p
from_event (event.Report q) (crossing.View f) w i v P at crosses p = absurd p
from_event event.Begin crossing.None w i v P at crosses p = absurd p
from_event event.Begin (crossing.Packet x) w i v P at crosses p = absurd p
from_event event.Begin (crossing.View f) w i v P at crosses p = absurd p
from_event (event.Confirm q) crossing.None w i v P at crosses p = absurd p
from_event (event.Confirm q) (crossing.Packet x) w i v P at crosses p = absurd p
from_event (event.Confirm q) (crossing.View f) w i v P at crosses p = absurd p
from_event event.Announce crossing.None w i v P at crosses p = absurd p
from_event event.Announce (crossing.Packet x) w i v P at crosses p = absurd p
from_event event.Announce (crossing.View f) w i v P at crosses p = absurd p
from_event (event.Release q) crossing.None w i v P at crosses p = absurd p
from_event (event.Release q) (crossing.Packet x) w i v P at crosses p = absurd p
from_event (event.Release q) (crossing.View f) w i v P at crosses p = absurd p
from_event (event.Go q) crossing.None w i v P at crosses p = absurd p
from_event (event.Go q) (crossing.Packet x) w i v P at crosses p = absurd p
from_event (event.Go q) (crossing.View f) w i v P at crosses p = absurd p

-- ---- an event on a machine

-- each slot of a tile has a sender
abbrev HasSenders : TileView → Type 0
HasSenders v = length v.now.senders ≡ length v.now.pool.slots

-- what the law says of a part of a machine
abbrev PutsOn : Event → WorldView → ℕ → ℕ → ℕ → PartView → PartView → Type 0
PutsOn e w j k i old new = HasSenders (tile_in old) → Rises j k (tile_in old) (tile_in new) → MatchOption (brought e w i) ⊥ (λ q. HasMessage j q (tile_in old) (tile_in new))

stays_low : (v : TileView) (j k : ℕ) → Rises j k v v → ⊥
stays_low v j k rise = absurd (omega arith)

after_puts : (e : Event) (c : Crossing) (w : WorldView) (i j k : ℕ) (old new : PartView) → slice_get w.parts i ≡ Some old → Crosses e w c → after e c old ≡ Some new → PutsOn e w j k i old new
after_puts e c w i j k (TileV v) new read crosses h =
    let m = mapped TileV (tile_row e c v) new h in
    let now = mapped (with_now v) (tile_did v.plan v.now (deed_of v.plan.shape e c)) m.0 m.1 in
    let at : tile_on w i ≡ v = ap tile_in (get_or_from_slice_get w.parts i (TileV v) AbsentV read) in
    subst (λ (x : PartView). PutsOn e w j k i (TileV v) x) (ap TileV now.2 ∙ m.2)
    (λ long rise. from_event e c w i v (λ q. HasMessage j q v (with_now v now.0)) at crosses
    (message v j now.0 (comes v (deed_of v.plan.shape e c)) long (did_put v j k (deed_of v.plan.shape e c) now.0 now.1 rise)))
after_puts e c w i j k (RouterV v) new read crosses h =
    let m = mapped RouterV (router_row e c v) new h in
    subst (λ (x : PartView). PutsOn e w j k i (RouterV v) x) m.2 (λ long rise. absurd (stays_low (tile_in (RouterV v)) j k rise))
after_puts e c w i j k (LinkV v) new read crosses h =
    let m = mapped LinkV (link_row e c v) new h in
    subst (λ (x : PartView). PutsOn e w j k i (LinkV v) x) m.2 (λ long rise. absurd (stays_low (tile_in (LinkV v)) j k rise))
after_puts e c w i j k (DetectorV v) new read crosses h =
    let m = mapped DetectorV (detector_row e c v) new h in
    subst (λ (x : PartView). PutsOn e w j k i (DetectorV v) x) m.2 (λ long rise. absurd (stays_low (tile_in (DetectorV v)) j k rise))
after_puts e c w i j k (HostV s) new read crosses h =
    let m = mapped HostV (host_row e c s) new h in
    subst (λ (x : PartView). PutsOn e w j k i (HostV s) x) m.2 (λ long rise. absurd (stays_low (tile_in (HostV s)) j k rise))
after_puts e c w i j k AbsentV new read crosses h = cc h

event_puts : (e : Event) (old new : WorldView) (p j k : ℕ) → happened e old ≡ Some new → HasSenders (tile_on old p) → Rises j k (tile_on old p) (tile_on new p) → MatchOption (brought e old p) ⊥ (λ q. HasMessage j q (tile_on old p) (tile_on new p))
event_puts e old new p j k is long rise =
    event_parts (λ i a b. PutsOn e old j k i a b) (λ i x l r. absurd (stays_low (tile_in x) j k r)) e old new (λ c crosses i a b read row. after_puts e c old i j k a b read crosses row) is p long rise

-- ---- a walk

-- each tile of a machine has a sender for each slot
has_senders : (w : WorldView) (p : ℕ) (part : PartView) → Good w → part_at w.parts p ≡ part → HasSenders (tile_in part)
has_senders w p (TileV v) good e = senders_at w p v good e (cases_lt p (length w.parts))
  where
    senders_at : (w : WorldView) (p : ℕ) (v : TileView) → Good w → part_at w.parts p ≡ TileV v → (p < length w.parts) ⊎ (length w.parts ≤ p) → HasSenders v
    senders_at w p v good e (inl h) =
        let n = good.count in
        let t = good_tile w p v good (record { within = h; below = omega arith; is = e }) in
        t.shaped.fits.pool.senders ∙ sym t.shaped.fits.pool.slots
    senders_at w p v good e (inr past) = let no : AbsentV ≡ TileV v = sym (get_or_past w.parts p AbsentV past) ∙ e in cc no
has_senders w p (RouterV v) good e = refl
has_senders w p (LinkV v) good e = refl
has_senders w p (HostV s) good e = refl
has_senders w p (DetectorV v) good e = refl
has_senders w p AbsentV good e = refl

pub put_is_of_packet : (start old new : WorldView) (history : List Event) (e : Event) (p s k : ℕ) → IsStart start → Walk start history old → happened e old ≡ Some new →
    bit_at (slot_at (tile_on old p).now.pool s).owed k < bit_at (slot_at (tile_on new p).now.pool s).owed k → MatchOption (brought e old p) ⊥ (λ q. HasMessage s q (tile_on old p) (tile_on new p))
put_is_of_packet start old new history e p s k begins walk is rise =
    event_puts e old new p s k is (has_senders old p (part_at old.parts p) (walk_good history start old (good_start start begins) (quiet_start start begins (good_start start begins)) walk) refl) rise
