-- What one slot of a tile becomes: a deed that is no turn leaves the slot as it was, or puts the packet that it brings into the slot,
-- which was free.
use Rattle.std.proofs.Common.{ℕ, ◌≡◌, ◌⊎◌, ◌==◌, Bool, true, false, cond, List, length, get_or, set, map, refl, sym, ◌∙◌, ap, subst, inl, inr, arith, MatchOption, Option, Some, None, option_map, unwrap_or, length-set}
use Rattle.std.proofs.lemmas.Bool.{cases_eq, cases_lt}
use Rattle.std.proofs.lemmas.Grind.{get_or-set_at}
use Rattle.std.proofs.lemmas.List.{get_or-map, get_or-set_other, get_or_past, length-map}
use Rattle.tn_base.specs.declared.ids.ThreadId.{ThreadId}
use Rattle.tn_base.specs.declared.message.Packet.{Packet}
use Rattle.tn_base.specs.declared.port.Port.{Port}
use Rattle.tn_base.specs.declared.port.Port.TheVariants as port
use Rattle.tn_base.specs.Address.{place_in_tile}
use Rattle.tn_base.specs.Message.{has_packet}
use Rattle.tn_base.specs.Ports.{tile_port}
use Rattle.tn_node.specs.declared.node.Node.{Node}
use Rattle.tn_node.specs.Deed.{Deed}
use Rattle.tn_node.specs.Deed as deed
use Rattle.tn_node.specs.NodeRows.{give_row, waits}
use Rattle.tn_rows.specs.Events.{tile_did}
use Rattle.tn_rows.proofs.Meeting.{mapped}
use Rattle.tn_slots.specs.declared.slot.Slot.{Slot}
use Rattle.tn_slots.specs.PoolModel.{PoolModel}
use Rattle.tn_slots.specs.Pool.{first_free, put_at, slot_at}
use Rattle.tn_slots.specs.Slot.{empty_slot, is_free}
use Rattle.tn_slots.proofs.Kept.{first_free_is}
use Rattle.tn_tile.specs.declared.sender.Sender.{Sender}
use Rattle.tn_tile.specs.declared.state.TileState.{TileState}
use Rattle.tn_tile.specs.Receivers.{alive_of, receivers}
use Rattle.tn_tile.specs.Rows.{accepted, came, delivered_from, gone_on, passed, passed_by, received, released, stored, stored_at, tile_whitened, with_node}
use Rattle.tn_tile.specs.Step.{pending_at}
use Rattle.tn_tile.specs.TileView.{TilePlan}
use Rattle.tn_tile.proofs.Deeds.{confirm_deed, go_deed, release_deed, report_deed}
use Rattle.tn_tile.proofs.Steps.{taken}

-- ---- slots in a list

-- slot s becomes x. What holds of slot s and x, and of each slot and itself, then holds of each slot
pub set_each : (P : Slot → Slot → Type 0) → ((x : Slot) → P x x) → (xs : List Slot) (s j : ℕ) (x : Slot) → P (get_or xs s empty_slot) x → P (get_or xs j empty_slot) (get_or (set xs s x) j empty_slot)
set_each P same xs s j x here =
    elim (cases_eq j s) [
      | inr ne ↦ subst (P (get_or xs j empty_slot)) (sym (get_or-set_other xs s j x empty_slot ne)) (same (get_or xs j empty_slot))
      | inl e ↦
          elim (cases_lt s (length xs)) [
            | inl h ↦ subst (λ y. P (get_or xs j empty_slot) y) (sym (get_or-set_at xs s j x empty_slot e h)) (subst (λ i. P (get_or xs i empty_slot) x) (sym e) here)
            | inr past ↦
                let size = length-set xs s x in
                let old : get_or xs j empty_slot ≡ empty_slot = get_or_past xs j empty_slot (omega arith) in
                let new : get_or (set xs s x) j empty_slot ≡ empty_slot = get_or_past (set xs s x) j empty_slot (omega arith) in
                subst (P (get_or xs j empty_slot)) (old ∙ sym new) (same (get_or xs j empty_slot))
          ]
    ]

-- each slot is changed alike
pub map_each : (P : Slot → Slot → Type 0) → ((x : Slot) → P x x) → (f : Slot → Slot) → ((x : Slot) → P x (f x)) → (j : ℕ) (xs : List Slot) → P (get_or xs j empty_slot) (get_or (map f xs) j empty_slot)
map_each P same f each j xs =
    elim (cases_lt j (length xs)) [
      | inl h ↦ subst (P (get_or xs j empty_slot)) (sym (get_or-map f xs j empty_slot empty_slot h)) (each (get_or xs j empty_slot))
      | inr past ↦
          let size = length-map xs f in
          let old : get_or xs j empty_slot ≡ empty_slot = get_or_past xs j empty_slot past in
          let new : get_or (map f xs) j empty_slot ≡ empty_slot = get_or_past (map f xs) j empty_slot (omega arith) in
          subst (P (get_or xs j empty_slot)) (old ∙ sym new) (same (get_or xs j empty_slot))
    ]

-- ---- what a slot becomes

abbrev pub nobody : Sender
nobody = record { origin = 0; number = 0 }

-- slot j and its sender are as they were
pub record Untouched (j : ℕ) (old new : PoolModel) (was is : List Sender) : Type 0 where
  pub slot : slot_at new j ≡ slot_at old j
  pub sender : get_or is j nobody ≡ get_or was j nobody

-- slot j was free and has packet q now, which these threads are owed
pub record Put (j : ℕ) (q : Packet) (owed : ℕ) (old new : PoolModel) (was is : List Sender) : Type 0 where
  pub free : is_free (slot_at old j) ≡ true
  pub slot : slot_at new j ≡ record { bytes = q.bytes; owed = owed; holders = 0 }
  pub sender : length was ≡ length old.slots → get_or is j nobody ≡ record { origin = q.origin; number = q.number }

abbrev pub IsUntouched : ℕ → TileState → TileState → Type 0
IsUntouched j old new = Untouched j old.pool new.pool old.senders new.senders

abbrev pub IsPut : TilePlan → ℕ → TileState → TileState → Packet → Type 0
IsPut plan j old new q = Put j q (alive_of old.threads (receivers plan.shape q.dest)) old.pool new.pool old.senders new.senders

abbrev Changed : TilePlan → ℕ → Packet → TileState → TileState → Type 0
Changed plan j q old new = IsUntouched j old new ⊎ IsPut plan j old new q

same : (j : ℕ) (pool : PoolModel) (senders : List Sender) → Untouched j pool pool senders senders
same j pool senders = record { slot = refl; sender = refl }

-- ---- a packet comes to a tile

put_into : (plan : TilePlan) (s j : ℕ) (q : Packet) (old : TileState) → first_free old.pool ≡ Some s →
    Changed plan j q old (record old { pool = put_at s q.bytes (alive_of old.threads (receivers plan.shape q.dest)) old.pool; senders = set old.senders s (record { origin = q.origin; number = q.number }) })
put_into plan s j q old first =
    let x : Slot = record { bytes = q.bytes; owed = alive_of old.threads (receivers plan.shape q.dest); holders = 0 } in
    let from : Sender = record { origin = q.origin; number = q.number } in
    let free = first_free_is old.pool s first in
    elim (cases_eq j s) [
      | inr ne ↦ inl (record { slot = get_or-set_other old.pool.slots s j x empty_slot ne; sender = get_or-set_other old.senders s j from nobody ne })
      | inl e ↦ inr (record {
        free = ap (λ i. is_free (slot_at old.pool i)) e ∙ free.1;
        slot = get_or-set_at old.pool.slots s j x empty_slot e free.0;
        sender = λ long. get_or-set_at old.senders s j from nobody e (let h = free.0 in omega arith);
      })
    ]

put_changed : (plan : TilePlan) (j : ℕ) (q : Packet) (o : Option ℕ) (old new : TileState) → first_free old.pool ≡ o → stored_at o (alive_of old.threads (receivers plan.shape q.dest)) q old ≡ Some new → Changed plan j q old new
put_changed plan j q None old new first e = cc e
put_changed plan j q (Some s) old new first e = subst (λ (x : TileState). Changed plan j q old x) (ap (λ o. unwrap_or o new) e) (put_into plan s j q old first)

stored_changed : (plan : TilePlan) (b : Bool) (j : ℕ) (q : Packet) (old new : TileState) → cond b (Some old) (stored_at (first_free old.pool) (alive_of old.threads (receivers plan.shape q.dest)) q old) ≡ Some new → Changed plan j q old new
stored_changed plan true j q old new e = subst (λ (x : TileState). Changed plan j q old x) (ap (λ o. unwrap_or o new) e) (inl (same j old.pool old.senders))
stored_changed plan false j q old new e = put_changed plan j q (first_free old.pool) old new refl e

received_changed : (plan : TilePlan) (j : ℕ) (q : Packet) (old new : TileState) → received plan q old ≡ Some new → Changed plan j q old new
received_changed plan j q old new e =
    let all = alive_of old.threads (receivers plan.shape q.dest) in
    let m = mapped _ (stored all q old) new e in
    subst (λ (x : TileState). Changed plan j q old x) m.2 (stored_changed plan (all == 0) j q old m.0 m.1)

-- a change of the node leaves the slots
node_untouched : (j : ℕ) (o : Option Node) (old new : TileState) → option_map (with_node old) o ≡ Some new → IsUntouched j old new
node_untouched j o old new e =
    let m = mapped (with_node old) o new e in
    subst (λ (x : TileState). IsUntouched j old x) m.2 (same j old.pool old.senders)

port_changed : (plan : TilePlan) (j : ℕ) (way : Port) (q : Packet) (old new : TileState) → passed_by plan way q old ≡ Some new → Changed plan j q old new
port_changed plan j port.Here q old new e = received_changed plan j q old new e
port_changed plan j port.East q old new e = inl (node_untouched j (waits port.East q old.node) old new e)
port_changed plan j port.West q old new e = inl (node_untouched j (waits port.West q old.node) old new e)
port_changed plan j port.South q old new e = inl (node_untouched j (waits port.South q old.node) old new e)
port_changed plan j port.North q old new e = inl (node_untouched j (waits port.North q old.node) old new e)
port_changed plan j port.Up q old new e = inl (node_untouched j (waits port.Up q old.node) old new e)
port_changed plan j port.Down q old new e = cc e
port_changed plan j port.HostPort q old new e = cc e

passed_changed : (plan : TilePlan) (j : ℕ) (q : Packet) (old new : TileState) → passed plan q old ≡ Some new → Changed plan j q old new
passed_changed plan j q old new e = port_changed plan j (tile_port plan.tile q.dest) q old new e

-- ---- a deed that is no turn

-- the packet that a deed brings to the tile
abbrev pub packet_by : TilePlan → Deed → TileState → Option Packet
packet_by plan (deed.Turn t n) s = None
packet_by plan (deed.Deliver t) s = pending_at s (place_in_tile plan.shape t.0)
packet_by plan (deed.Give way k) s = None
packet_by plan (deed.Take side k) s = Some k
packet_by plan deed.Route s = None
packet_by plan (deed.HostPut k) s = None
packet_by plan (deed.HostTake k) s = None
packet_by plan (deed.Report i f) s = None
packet_by plan deed.Begin s = None
packet_by plan (deed.Confirm i f) s = None
packet_by plan deed.Announce s = None
packet_by plan (deed.Release i f) s = None
packet_by plan (deed.Go i f) s = None

-- the slot is as it was, or a packet was put into it
abbrev PutBy : TilePlan → ℕ → TileState → TileState → Option Packet → Type 0
PutBy plan j old new o = IsUntouched j old new ⊎ MatchOption o ⊥ (IsPut plan j old new)

delivered_changed : (plan : TilePlan) (k j : ℕ) (o : Option Packet) (old new : TileState) → delivered_from plan k o old ≡ Some new → PutBy plan j old new o
delivered_changed plan k j None old new e = cc e
delivered_changed plan k j (Some q) old new e = passed_changed plan j q (record old { pending = set old.pending k None }) new e

accepted_changed : (plan : TilePlan) (j : ℕ) (q : Packet) (old new : TileState) → option_map came (accepted plan q old) ≡ Some new → Changed plan j q old new
accepted_changed plan j q old new e =
    let m = mapped came (accepted plan q old) new e in
    let yes = taken (has_packet plan.shape q) (passed plan q old) m.0 m.1 in
    subst (λ (x : TileState). Changed plan j q old x) m.2 (passed_changed plan j q old m.0 yes.1)

becomes : (j : ℕ) (old made new : TileState) → new ≡ made → IsUntouched j old made → IsUntouched j old new
becomes j old made new is u = subst (λ (x : TileState). IsUntouched j old x) (sym is) u

abbrev pub IsTurn : Deed → Type 0
IsTurn (deed.Turn t n) = Unit {0}
IsTurn (deed.Deliver t) = ⊥
IsTurn (deed.Give way k) = ⊥
IsTurn (deed.Take side k) = ⊥
IsTurn deed.Route = ⊥
IsTurn (deed.HostPut k) = ⊥
IsTurn (deed.HostTake k) = ⊥
IsTurn (deed.Report i f) = ⊥
IsTurn deed.Begin = ⊥
IsTurn (deed.Confirm i f) = ⊥
IsTurn deed.Announce = ⊥
IsTurn (deed.Release i f) = ⊥
IsTurn (deed.Go i f) = ⊥

pub deed_changed : (plan : TilePlan) (j : ℕ) (d : Deed) (old new : TileState) → (IsTurn d → ⊥) → tile_did plan old (Some d) ≡ Some new → PutBy plan j old new (packet_by plan d old)
deed_changed plan j (deed.Turn t n) old new quiet e = absurd (quiet tt)
deed_changed plan j (deed.Deliver t) old new quiet e = delivered_changed plan _ j _ old new (taken _ (delivered_from plan _ _ old) new e).1
deed_changed plan j (deed.Give way k) old new quiet e = inl (node_untouched j (give_row way k old.node) old new e)
deed_changed plan j (deed.Take side k) old new quiet e = accepted_changed plan j k old new (taken _ (option_map came (accepted plan k old)) new e).1
deed_changed plan j deed.Route old new quiet e = cc e
deed_changed plan j (deed.HostPut k) old new quiet e = cc e
deed_changed plan j (deed.HostTake k) old new quiet e = cc e
deed_changed plan j (deed.Report i f) old new quiet e = inl (becomes j old (tile_whitened old) new (report_deed plan i f old new e).is (same j old.pool old.senders))
deed_changed plan j deed.Begin old new quiet e = cc e
deed_changed plan j (deed.Confirm i f) old new quiet e = inl (becomes j old old new (confirm_deed plan i f old new e).is (same j old.pool old.senders))
deed_changed plan j deed.Announce old new quiet e = cc e
deed_changed plan j (deed.Release i f) old new quiet e = inl (becomes j old (released f.value old) new (release_deed plan i f old new e).is (same j old.pool old.senders))
deed_changed plan j (deed.Go i f) old new quiet e = inl (becomes j old (gone_on old) new (go_deed plan i f old new e).is (same j old.pool old.senders))

put_free : (plan : TilePlan) (j : ℕ) (old new : TileState) (o : Option Packet) → MatchOption o ⊥ (IsPut plan j old new) → is_free (slot_at old.pool j) ≡ true
put_free plan j old new None p = absurd p
put_free plan j old new (Some q) p = p.free

-- a used slot is left as it was
pub used_untouched : (plan : TilePlan) (j : ℕ) (d : Deed) (old new : TileState) → (IsTurn d → ⊥) → is_free (slot_at old.pool j) ≡ false → tile_did plan old (Some d) ≡ Some new → IsUntouched j old new
used_untouched plan j d old new quiet used e = elim (deed_changed plan j d old new quiet e) [
  | inl u ↦ u
  | inr p ↦ cc (sym used ∙ put_free plan j old new (packet_by plan d old) p)
]

-- a deed is a turn, or it is none
pub by_deed : (P : Deed → Type 0) → ((t : ThreadId) (n : ℕ) → P (deed.Turn t n)) → ((d : Deed) → (IsTurn d → ⊥) → P d) → (d : Deed) → P d
by_deed P turn other (deed.Turn t n) = turn t n
by_deed P turn other (deed.Deliver t) = other (deed.Deliver t) (λ h. h)
by_deed P turn other (deed.Give way k) = other (deed.Give way k) (λ h. h)
by_deed P turn other (deed.Take side k) = other (deed.Take side k) (λ h. h)
by_deed P turn other deed.Route = other deed.Route (λ h. h)
by_deed P turn other (deed.HostPut k) = other (deed.HostPut k) (λ h. h)
by_deed P turn other (deed.HostTake k) = other (deed.HostTake k) (λ h. h)
by_deed P turn other (deed.Report i f) = other (deed.Report i f) (λ h. h)
by_deed P turn other deed.Begin = other deed.Begin (λ h. h)
by_deed P turn other (deed.Confirm i f) = other (deed.Confirm i f) (λ h. h)
by_deed P turn other deed.Announce = other deed.Announce (λ h. h)
by_deed P turn other (deed.Release i f) = other (deed.Release i f) (λ h. h)
by_deed P turn other (deed.Go i f) = other (deed.Go i f) (λ h. h)
