-- A packet at a tile goes on, unless its way out is taken or no slot is free for it.
use Rattle.std.proofs.Common.{ℕ, ◌≡◌, ◌==◌, Bool, true, false, cond, List, refl, ap, ◌∙◌, inl, inr, Option, Some, None, is_some, is_none, option_map}
use Rattle.std.specs.Prelude.{◌⊎◌, slice_get, count_ones}
use Rattle.tn_base.specs.declared.message.Packet.{Packet}
use Rattle.tn_base.specs.declared.port.Port.{Port}
use Rattle.tn_base.specs.declared.port.Port.TheVariants as port
use Rattle.tn_base.specs.Ports.{tile_port}
use Rattle.tn_keys.specs.Tables.{Table}
use Rattle.tn_node.specs.declared.ports.Ports.{Ports}
use Rattle.tn_node.specs.PortRows.{at, with_at}
use Rattle.tn_rows.specs.PartView.{TileV}
use Rattle.tn_rows.specs.WorldView.{WorldView}
use Rattle.tn_slots.specs.Pool.{first_free}
use Rattle.tn_tile.specs.declared.state.TileState.{TileState}
use Rattle.tn_tile.specs.Receivers.{alive_of, dead_of, receivers}
use Rattle.tn_tile.specs.Rows.{counted, passed, passed_by, received, sent_on, stored, stored_at, with_node}
use Rattle.tn_tile.specs.TileView.{TilePlan, TileView}
use Rattle.polite_flow.specs.Flow.{Out, To}
use Rattle.polite_flow.specs.Law.{HasRoutes}
use Rattle.polite_flow.specs.OnWay.{Fits}
use Rattle.polite_flow.specs.Places.{Bound, Place, TileWaits, next, out_by, tile_named}
use Rattle.polite_flow.specs.Standing.{IsBlocked}
use Rattle.polite_flow.proofs.Steps.{steps}

-- a packet that is not taken at a tile waits for one for which no slot is free
pub record IsFull (w : WorldView) (p : Place) (k : Packet) (s : TileState) : Type 0 where
  pub ends : next w.shape p (Bound k.dest) ≡ Out
  pub full : first_free s.pool ≡ None

-- the tile takes the packet that comes from a place, or the packet is blocked, or it finds no slot
abbrev pub GoesOn : WorldView → Place → Packet → TilePlan → TileState → Type 0
GoesOn w p k plan s = (is_some (passed plan k s) ≡ true) ⊎ (IsBlocked w p (Bound k.dest) ⊎ IsFull w p k s)

-- ---- into slots

some_counted : (n : ℕ) (o : Option TileState) → is_some (counted n o) ≡ is_some o
some_counted n None = refl
some_counted n (Some s) = refl

some_stored : (set : ℕ) (k : Packet) (s : TileState) (nobody : Bool) (slot : ℕ) → is_some (cond nobody (Some s) (stored_at (Some slot) set k s)) ≡ true
some_stored set k s true slot = refl
some_stored set k s false slot = refl

some_received : (plan : TilePlan) (k : Packet) (s : TileState) (slot : ℕ) → first_free s.pool ≡ Some slot → is_some (received plan k s) ≡ true
some_received plan k s slot e =
    let set = alive_of s.threads (receivers plan.shape k.dest) in
    some_counted (count_ones (dead_of s.threads (receivers plan.shape k.dest))) (stored set k s)
    ∙ (ap (λ o. is_some (cond (set == 0) (Some s) (stored_at o set k s))) e ∙ some_stored set k s (set == 0) slot)

-- ---- on to a link

some_sent : (k : Packet) (way : Port) (s : TileState) (free : Bool) → is_some (option_map (with_node s) (cond free (Some (record s.node { out = with_at way (Some k) s.node.out })) None)) ≡ free
some_sent k way s true = refl
some_sent k way s false = refl

sends : (w : WorldView) (p : Place) (part : ℕ) (v : TileView) (k : Packet) (s : TileState) (way : Port) (o : Option Packet) → slice_get w.parts part ≡ Some (TileV v) → next w.shape p (Bound k.dest) ≡ out_by (tile_named v.plan.tile) way → out_by (tile_named v.plan.tile) way ≡ To (TileWaits (tile_named v.plan.tile) way)
    → s.node.out ≡ v.now.node.out → at way v.now.node.out ≡ o → (is_some (sent_on way k s) ≡ true) ⊎ (IsBlocked w p (Bound k.dest) ⊎ IsFull w p k s)
sends w p part v k s way None is leads out same e =
    let free : is_none (at way s.node.out) ≡ true = ap (λ (x : Ports Packet). is_none (at way x)) same ∙ ap (λ (x : Option Packet). is_none x) e in
    inl (some_sent k way s (is_none (at way s.node.out)) ∙ free)
sends w p part v k s way (Some q) is leads out same e =
    inr (inl (record { onto = TileWaits (tile_named v.plan.tile) way; leads = leads ∙ out; taken = record { part = part; view = v; packet = q; is = is; named = refl; there = e } }))

-- ---- either

ends_here : (w : WorldView) (p : Place) (plan : TilePlan) (k : Packet) (s : TileState) (o : Option ℕ) → next w.shape p (Bound k.dest) ≡ Out → first_free s.pool ≡ o → (is_some (received plan k s) ≡ true) ⊎ (IsBlocked w p (Bound k.dest) ⊎ IsFull w p k s)
ends_here w p plan k s None leads e = inr (inr (record { ends = leads; full = e }))
ends_here w p plan k s (Some slot) leads e = inl (some_received plan k s slot e)

by_way : (tables : List Table) (w : WorldView) (p : Place) (part : ℕ) (v : TileView) (k : Packet) (s : TileState) (way : Port) → HasRoutes w.shape tables → slice_get w.parts part ≡ Some (TileV v) → s.node.out ≡ v.now.node.out
    → Fits w.shape tables p (Bound k.dest) → next w.shape p (Bound k.dest) ≡ out_by (tile_named v.plan.tile) way → (is_some (passed_by v.plan way k s) ≡ true) ⊎ (IsBlocked w p (Bound k.dest) ⊎ IsFull w p k s)
by_way tables w p part v k s port.East g is same fits leads = sends w p part v k s port.East (at port.East v.now.node.out) is leads refl same refl
by_way tables w p part v k s port.West g is same fits leads = sends w p part v k s port.West (at port.West v.now.node.out) is leads refl same refl
by_way tables w p part v k s port.South g is same fits leads = sends w p part v k s port.South (at port.South v.now.node.out) is leads refl same refl
by_way tables w p part v k s port.North g is same fits leads = sends w p part v k s port.North (at port.North v.now.node.out) is leads refl same refl
by_way tables w p part v k s port.Up g is same fits leads = sends w p part v k s port.Up (at port.Up v.now.node.out) is leads refl same refl
by_way tables w p part v k s port.Down g is same fits leads = absurd ((steps w.shape tables p (TileWaits (tile_named v.plan.tile) port.Down) (Bound k.dest) g fits leads).fits.0)
by_way tables w p part v k s port.HostPort g is same fits leads = absurd ((steps w.shape tables p (TileWaits (tile_named v.plan.tile) port.HostPort) (Bound k.dest) g fits leads).fits.0)
by_way tables w p part v k s port.Here g is same fits leads = ends_here w p v.plan k s (first_free s.pool) leads refl

-- a packet comes to a tile from a place at which it is on its way
pub goes_on : (tables : List Table) (w : WorldView) (p : Place) (part : ℕ) (v : TileView) (k : Packet) (s : TileState) → HasRoutes w.shape tables → slice_get w.parts part ≡ Some (TileV v) → s.node.out ≡ v.now.node.out
    → Fits w.shape tables p (Bound k.dest) → next w.shape p (Bound k.dest) ≡ out_by (tile_named v.plan.tile) (tile_port v.plan.tile k.dest) → GoesOn w p k v.plan s
goes_on tables w p part v k s g is same fits leads = by_way tables w p part v k s (tile_port v.plan.tile k.dest) g is same fits leads
