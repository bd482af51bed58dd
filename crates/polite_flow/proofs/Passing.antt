-- Tiles keep their packets on their way.
use Rattle.std.proofs.Common.{ℕ, zero, suc, ◌+◌, ◌≡◌, ◌==◌, Bool, true, false, cond, refl, sym, ◌∙◌, ap, subst, List, [], ◌∷◌, Option, Some, None, is_none, option_map}
use Rattle.std.specs.Prelude.{count_ones, slice_index_or, slice_set, ◌&&◌}
use Rattle.tn_base.specs.declared.message.Packet.{Packet}
use Rattle.tn_base.specs.declared.port.Port.{Port}
use Rattle.tn_base.specs.declared.port.Port.TheVariants as port
use Rattle.tn_base.specs.declared.shape.ShapeNumbers.{ShapeNumbers}
use Rattle.tn_base.specs.Address.{place_in_tile}
use Rattle.tn_base.specs.Message.{has_packet}
use Rattle.tn_base.specs.Ports.{tile_port}
use Rattle.tn_keys.specs.Tables.{Table}
use Rattle.tn_node.specs.declared.node.Node.{Node}
use Rattle.tn_node.specs.declared.ports.Ports.{Ports}
use Rattle.tn_node.specs.Deed.{Deed}
use Rattle.tn_node.specs.Deed as deed
use Rattle.tn_node.specs.NodeRows.{can_arrive, depart_row as node_departs, offered}
use Rattle.tn_node.specs.PortRows.{at, with_at}
use Rattle.tn_node.specs.SamePacket.{is_packet}
use Rattle.tn_node.proofs.PortLaws.{each_set}
use Rattle.tn_rows.proofs.Packets.{packet_is}
use Rattle.tn_slots.specs.Pool.{first_free}
use Rattle.tn_tile.specs.declared.state.TileState.{TileState}
use Rattle.tn_tile.specs.Receivers.{alive_of, dead_of, receivers}
use Rattle.tn_tile.specs.Rows.{accepted, came, can_count, counted, delivered_from, depart_row, gone_on, is_here, passed, passed_by, received, released, sent_on, stored, stored_at, tile_deed, tile_whitened, with_node}
use Rattle.tn_tile.specs.Step.{pending_at}
use Rattle.tn_tile.specs.TileView.{TilePlan}
use Rattle.tn_tile.proofs.Deeds.{confirm_deed, depart_deed, go_deed, release_deed, report_deed, turn_deed}
use Rattle.polite_flow.specs.Flow.{To}
use Rattle.polite_flow.specs.Law.{HasRoutes}
use Rattle.polite_flow.specs.OnWay.{Fits}
use Rattle.polite_flow.specs.Places.{Bound, Pending, TileLink, TileWaits, next, out_by, tile_named}
use Rattle.polite_flow.specs.Tiles.{ComesToTile, StandsFit, TileDeedFits, TileOnWay}
use Rattle.polite_flow.proofs.Links.{named_way}
use Rattle.polite_flow.proofs.Steps.{steps}

-- ---- another state

abbrev Waits : ShapeNumbers → List Table → ℕ → Ports Packet → Type 0
Waits n tables tile out = (way : Port) → StandsFit n tables (TileWaits (tile_named tile) way) (at way out)

abbrev Pends : ShapeNumbers → List Table → ℕ → List (Option Packet) → Type 0
Pends n tables tile pending = (k : ℕ) → StandsFit n tables (Pending (tile_named tile) k) (slice_index_or pending k None)

on_way : (n : ShapeNumbers) (tables : List Table) (tile : ℕ) (t : TileState) (pending : List (Option Packet)) (out : Ports Packet) → Pends n tables tile pending → Waits n tables tile out → t.pending ≡ pending → t.node.out ≡ out → TileOnWay n tables tile t
on_way n tables tile t pending out p w e f = record { pending = subst (Pends n tables tile) (sym e) p; waits = subst (Waits n tables tile) (sym f) w }

put_waits : (n : ShapeNumbers) (tables : List Table) (tile : ℕ) (way : Port) (o : Option Packet) (out : Ports Packet) → StandsFit n tables (TileWaits (tile_named tile) way) o → Waits n tables tile out → Waits n tables tile (with_at way o out)
put_waits n tables tile way o out new all = λ p. each_set (λ q x. StandsFit n tables (TileWaits (tile_named tile) q) x) way p o out new all

none_set : {X : Type 0} (P : ℕ → Option X → Type 0) (xs : List (Option X)) (k j i : ℕ) → ((m : ℕ) → P m None) → P i (slice_index_or xs j None) → P i (slice_index_or (slice_set xs k None) j None)
none_set P [] k j i none a = a
none_set P (x ∷ xs) zero zero i none a = none i
none_set P (x ∷ xs) zero (suc j) i none a = a
none_set P (x ∷ xs) (suc k) zero i none a = a
none_set P (x ∷ xs) (suc k) (suc j) i none a = none_set P xs k j i none a

-- ---- a packet comes to a tile

-- the state changes in what is not of packets that go on
record SamePackets (s t : TileState) : Type 0 where
  pub pending : t.pending ≡ s.pending
  pub out : t.node.out ≡ s.node.out

some_is : {X : Type 0} (x y : X) → Some x ≡ Some y → x ≡ y
some_is x y e = cc e

counted_same : (s t : TileState) (c : ℕ) (o : Option TileState) → ((u : TileState) → o ≡ Some u → SamePackets s u) → counted c o ≡ Some t → SamePackets s t
counted_same s t c None f h = cc h
counted_same s t c (Some u) f h =
    let is : record u { dropped = u.dropped + c } ≡ t = cc h in
    let same = f u refl in
    subst (SamePackets s) is (record { pending = same.pending; out = same.out })

stored_same : (s t : TileState) (set : ℕ) (p : Packet) (nobody : Bool) (free : Option ℕ) → cond nobody (Some s) (stored_at free set p s) ≡ Some t → SamePackets s t
stored_same s t set p true free h = let is : s ≡ t = cc h in subst (SamePackets s) is (record { pending = refl; out = refl })
stored_same s t set p false None h = cc h
stored_same s t set p false (Some slot) h = subst (SamePackets s) (some_is _ t h) (record { pending = refl; out = refl })

received_same : (plan : TilePlan) (p : Packet) (s t : TileState) → received plan p s ≡ Some t → SamePackets s t
received_same plan p s t h =
    let set = receivers plan.shape p.dest in
    counted_same s t (count_ones (dead_of s.threads set)) (stored (alive_of s.threads set) p s) (λ u e. stored_same s u (alive_of s.threads set) p (alive_of s.threads set == 0) (first_free s.pool) e) h

same_on_way : (n : ShapeNumbers) (tables : List Table) (tile : ℕ) (s t : TileState) → SamePackets s t → TileOnWay n tables tile s → TileOnWay n tables tile t
same_on_way n tables tile s t e r = on_way n tables tile t s.pending s.node.out r.pending r.waits e.pending e.out

-- a packet goes on by a way
sent_waits : (n : ShapeNumbers) (tables : List Table) (tile : ℕ) (way : Port) (p : Packet) (s t : TileState) (free : Bool) → StandsFit n tables (TileWaits (tile_named tile) way) (Some p) → TileOnWay n tables tile s
    → option_map (with_node s) (cond free (Some (record s.node { out = with_at way (Some p) s.node.out })) None) ≡ Some t → TileOnWay n tables tile t
sent_waits n tables tile way p s t false f r h = cc h
sent_waits n tables tile way p s t true f r h =
    subst (TileOnWay n tables tile) (some_is _ t h) (record { pending = r.pending; waits = put_waits n tables tile way (Some p) s.node.out f r.waits })

goes_on : (n : ShapeNumbers) (tables : List Table) (tile : ℕ) (way : Port) (p : Packet) (s t : TileState) → HasRoutes n tables → (c : ComesToTile n tables tile p.dest) → out_by (tile_named tile) way ≡ To (TileWaits (tile_named tile) way) → tile_port tile p.dest ≡ way → TileOnWay n tables tile s → sent_on way p s ≡ Some t → TileOnWay n tables tile t
goes_on n tables tile way p s t g c out e r h =
    let leads : next n c.from (Bound p.dest) ≡ To (TileWaits (tile_named tile) way) = c.leads ∙ (ap (out_by (tile_named tile)) e ∙ out) in
    sent_waits n tables tile way p s t (is_none (at way s.node.out)) (steps n tables c.from (TileWaits (tile_named tile) way) (Bound p.dest) g c.fits leads).fits.0 r h

passed_way : (n : ShapeNumbers) (tables : List Table) (plan : TilePlan) (way : Port) (p : Packet) (s t : TileState) → HasRoutes n tables → ComesToTile n tables plan.tile p.dest → tile_port plan.tile p.dest ≡ way → TileOnWay n tables plan.tile s → passed_by plan way p s ≡ Some t → TileOnWay n tables plan.tile t
passed_way n tables plan port.Here p s t g c e r h = same_on_way n tables plan.tile s t (received_same plan p s t h) r
passed_way n tables plan port.East p s t g c e r h = goes_on n tables plan.tile port.East p s t g c refl e r h
passed_way n tables plan port.West p s t g c e r h = goes_on n tables plan.tile port.West p s t g c refl e r h
passed_way n tables plan port.South p s t g c e r h = goes_on n tables plan.tile port.South p s t g c refl e r h
passed_way n tables plan port.North p s t g c e r h = goes_on n tables plan.tile port.North p s t g c refl e r h
passed_way n tables plan port.Up p s t g c e r h = goes_on n tables plan.tile port.Up p s t g c refl e r h
passed_way n tables plan port.Down p s t g c e r h = cc h
passed_way n tables plan port.HostPort p s t g c e r h = cc h

passed_on_way : (n : ShapeNumbers) (tables : List Table) (plan : TilePlan) (p : Packet) (s t : TileState) → HasRoutes n tables → ComesToTile n tables plan.tile p.dest → TileOnWay n tables plan.tile s → passed plan p s ≡ Some t → TileOnWay n tables plan.tile t
passed_on_way n tables plan p s t g c r h = passed_way n tables plan (tile_port plan.tile p.dest) p s t g c refl r h

-- ---- deliveries and arrivals

taken_if : {X : Type 0} (b : Bool) (o : Option X) (y : X) → cond b o None ≡ Some y → o ≡ Some y
taken_if true o y h = h
taken_if false o y h = cc h

delivered : (n : ShapeNumbers) (tables : List Table) (plan : TilePlan) (k : ℕ) (o : Option Packet) (s t : TileState) → HasRoutes n tables → pending_at s k ≡ o → TileOnWay n tables plan.tile s → delivered_from plan k o s ≡ Some t → TileOnWay n tables plan.tile t
delivered n tables plan k None s t g e r h = cc h
delivered n tables plan k (Some p) s t g e r h =
    let fits : Fits n tables (Pending (tile_named plan.tile) k) (Bound p.dest) = subst (StandsFit n tables (Pending (tile_named plan.tile) k)) e (r.pending k) in
    passed_on_way n tables plan p (record s { pending = slice_set s.pending k None }) t g
    (record { from = Pending (tile_named plan.tile) k; fits = fits; leads = ap (out_by (tile_named plan.tile)) (sym (named_way plan.tile p.dest)) })
    (record { pending = λ j. none_set (λ i x. StandsFit n tables (Pending (tile_named plan.tile) i) x) s.pending k j j (λ m. tt) (r.pending j); waits = r.waits }) h

came_by : (n : ShapeNumbers) (tables : List Table) (tile : ℕ) (o : Option TileState) (t : TileState) → ((u : TileState) → o ≡ Some u → TileOnWay n tables tile u) → option_map came o ≡ Some t → TileOnWay n tables tile t
came_by n tables tile None t f h = cc h
came_by n tables tile (Some u) t f h = let r = f u refl in subst (TileOnWay n tables tile) (some_is _ t h) (record { pending = r.pending; waits = r.waits })

-- ---- every deed

given : {X Y : Type 0} (b : Bool) (o : Option X) (f : X → Y) (y : Y) → option_map f (cond b o None) ≡ Some y → option_map f o ≡ Some y
given true o f y h = h
given false o f y h = cc h

gate : {X Y : Type 0} (b : Bool) (o : Option X) (f : X → Y) (y : Y) → option_map f (cond b o None) ≡ Some y → b ≡ true
gate true o f y h = refl
gate false o f y h = cc h

departs : (n : ShapeNumbers) (tables : List Table) (tile : ℕ) (way : Port) (s t : TileState) → TileOnWay n tables tile s → depart_row way s ≡ Some t → TileOnWay n tables tile t
departs n tables tile way s t r h =
    subst (TileOnWay n tables tile) (sym (depart_deed way s t h).is) (record { pending = r.pending; waits = put_waits n tables tile way None s.node.out tt r.waits })

still : (n : ShapeNumbers) (tables : List Table) (tile : ℕ) (s t u : TileState) → t ≡ u → SamePackets s u → TileOnWay n tables tile s → TileOnWay n tables tile t
still n tables tile s t u is same r = subst (TileOnWay n tables tile) (sym is) (same_on_way n tables tile s u same r)

pub keeps_ways : (n : ShapeNumbers) (tables : List Table) (plan : TilePlan) (d : Deed) (s t : TileState) → HasRoutes n tables → TileDeedFits n tables plan.tile d t → TileOnWay n tables plan.tile s → tile_deed plan d s ≡ Some t → TileOnWay n tables plan.tile t
keeps_ways n tables plan (deed.Turn u k) s t g f r h =
    record { pending = f; waits = subst (Waits n tables plan.tile) (sym (ap (λ (x : Node). x.out) (turn_deed plan u.0 k s t h).node)) r.waits }
keeps_ways n tables plan (deed.Deliver u) s t g f r h =
    delivered n tables plan (place_in_tile plan.shape u.0) (pending_at s (place_in_tile plan.shape u.0)) s t g refl r (taken_if (is_here plan u.0 && can_count s) _ t h)
keeps_ways n tables plan (deed.Give way k) s t g f r h = departs n tables plan.tile way s t r (given (is_packet k (offered way s.node)) (node_departs way s.node) (with_node s) t h)
keeps_ways n tables plan (deed.Take side k) s t g f r h =
    came_by n tables plan.tile (accepted plan k s) t (λ u e. passed_on_way n tables plan k s u g f r (taken_if (has_packet plan.shape k) (passed plan k s) u e)) (taken_if (can_count s && can_arrive s.node) (option_map came (accepted plan k s)) t h)
keeps_ways n tables plan deed.Route s t g f r h = cc h
keeps_ways n tables plan (deed.HostPut k) s t g f r h = cc h
keeps_ways n tables plan (deed.HostTake k) s t g f r h = cc h
keeps_ways n tables plan (deed.Report i x) s t g f r h = still n tables plan.tile s t (tile_whitened s) (report_deed plan i x s t h).is (record { pending = refl; out = refl }) r
keeps_ways n tables plan deed.Begin s t g f r h = cc h
keeps_ways n tables plan (deed.Confirm i x) s t g f r h = still n tables plan.tile s t s (confirm_deed plan i x s t h).is (record { pending = refl; out = refl }) r
keeps_ways n tables plan deed.Announce s t g f r h = cc h
keeps_ways n tables plan (deed.Release i x) s t g f r h = still n tables plan.tile s t (released x.value s) (release_deed plan i x s t h).is (record { pending = refl; out = refl }) r
keeps_ways n tables plan (deed.Go i x) s t g f r h = still n tables plan.tile s t (gone_on s) (go_deed plan i x s t h).is (record { pending = refl; out = refl }) r

-- ---- what a tile gives

offered_is : (held : Bool) (o : Option Packet) (k : Packet) → cond held None o ≡ Some k → o ≡ Some k
offered_is true o k h = cc h
offered_is false o k h = h

pub gives_ways : (n : ShapeNumbers) (tables : List Table) (plan : TilePlan) (way : Port) (k : Packet) (s t : TileState) → TileOnWay n tables plan.tile s → tile_deed plan (deed.Give way k) s ≡ Some t → Fits n tables (TileLink (tile_named plan.tile) way) (Bound k.dest)
gives_ways n tables plan way k s t r h =
    let same = packet_is k (offered way s.node) (gate (is_packet k (offered way s.node)) (node_departs way s.node) (with_node s) t h) in
    subst (StandsFit n tables (TileWaits (tile_named plan.tile) way)) (offered_is s.node.held (at way s.node.out) k same) (r.waits way)
