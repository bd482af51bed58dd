-- Packets that are delivered, sent on, and taken from links.
use Rattle.std.proofs.Common.{ℕ, ◌≡◌, ◌<◌, ◌≤◌, ◌+◌, ◌^◌, ◌==◌, ◌&&◌, Bool, true, false, cond, List, [], ◌∷◌, length, get_or, set, zero, suc, refl, sym, ap, subst, ◌∙◌, arith, inl, inr, ltb, Option, Some, None, is_some, is_none, option_map, MatchOption, IsTrue}
use Rattle.std.specs.Int.RustNames.{count_ones}
use Rattle.std.proofs.lemmas.Bool.{and_parts, cases_lt, cond_both, eqb-true}
use Rattle.std.proofs.lemmas.List.{get_or_past}
use Rattle.std.proofs.lemmas.Nat.{and_le_r, ones-le}
use Rattle.std.proofs.lemmas.Nat.Bits.{bit_at-zero, bit_at_above}
use Rattle.std.proofs.Math.Nat.{pow-le-pow_right}
use Rattle.tn_base.specs.declared.message.Dest.{Dest}
use Rattle.tn_base.specs.declared.message.Dest.TheVariants as dest
use Rattle.tn_base.specs.declared.message.Packet.{Packet}
use Rattle.tn_base.specs.declared.port.Port.{Port}
use Rattle.tn_base.specs.declared.port.Port.TheVariants as port
use Rattle.tn_base.specs.Address.{place_in_tile}
use Rattle.tn_base.specs.Does.{Does}
use Rattle.tn_base.specs.Message.{has_packet}
use Rattle.tn_base.specs.Ports.{same_board, tile_port, tile_x, tile_y, to_router, to_tile, toward}
use Rattle.tn_node.specs.NodeRows.{can_arrive, waits}
use Rattle.tn_node.specs.PortRows.{at}
use Rattle.tn_slots.specs.Pool.{first_free, put_at}
use Rattle.tn_slots.specs.PoolModel.{PoolModel}
use Rattle.tn_slots.proofs.Owed.{appended_no, length-appended}
use Rattle.tn_thread.specs.declared.thread.Thread.{Thread}
use Rattle.tn_tile.specs.Kept.{IsFit, has_way}
use Rattle.tn_tile.specs.Passes.{Wakes}
use Rattle.tn_tile.specs.Receivers.{alive_of, dead_in, dead_of, receivers}
use Rattle.tn_tile.specs.Rows.{accept_row, accepted, came, can_count, counted, deliver_row, delivered_from, is_here, passed, passed_by, received, sent_on, stored, stored_at, with_node}
use Rattle.tn_tile.specs.Step.{pending_at}
use Rattle.tn_tile.specs.TileView.{TilePlan, TileState}
use Rattle.tn_tile.proofs.Dead.{dead_below}
use Rattle.tn_tile.proofs.Shaped.{FitsIn, out_set, pending_set, pool_put}

-- a packet takes one of a tile's five ways out, or stays
abbrev pub IsWay : Port → Type 0
IsWay port.East = Unit {0}
IsWay port.West = Unit {0}
IsWay port.South = Unit {0}
IsWay port.North = Unit {0}
IsWay port.Up = Unit {0}
IsWay port.Down = ⊥
IsWay port.HostPort = ⊥
IsWay port.Here = Unit {0}

toward_way : (x y to_x to_y : ℕ) (end : Port) → IsWay end → IsWay (toward x y to_x to_y end)
toward_way x y to_x to_y end h =
    cond_both (ltb x to_x) _ _ IsWay (λ _. tt)
    (λ _. cond_both (ltb to_x x) _ _ IsWay (λ _. tt)
    (λ _. cond_both (ltb y to_y) _ _ IsWay (λ _. tt)
    (λ _. cond_both (ltb to_y y) _ _ IsWay (λ _. tt) (λ _. h))))

router_way : (a : ℕ) → IsWay (to_router a)
router_way a = toward_way (tile_x a) (tile_y a) 0 0 port.Up tt

tile_way : (a b : ℕ) → IsWay (to_tile a b)
tile_way a b = cond_both (same_board a b) _ _ IsWay (λ _. toward_way (tile_x a) (tile_y a) (tile_x b) (tile_y b) port.Here tt) (λ _. router_way a)

pub is_way : (a : ℕ) (to : Dest) → IsWay (tile_port a to)
is_way a (dest.Thread t) = tile_way a t.0
is_way a dest.Host = router_way a
is_way a (dest.Mask tile mask) = tile_way a tile.0
is_way a (dest.Key key) = router_way a

some_if : {X : Type 0} (b : Bool) (x : X) → is_some (cond b (Some x) None) ≡ b
some_if true x = refl
some_if false x = refl

mapped_some : {X Y : Type 0} (f : X → Y) (o : Option X) → is_some (option_map f o) ≡ is_some o
mapped_some f None = refl
mapped_some f (Some x) = refl

-- a packet that goes on is taken if no packet waits for its way out, and only then
on_room : (way : Port) (p : Packet) (s : TileState) → is_some (sent_on way p s) ≡ is_none (at way s.node.out)
on_room way p s = mapped_some (with_node s) (waits way p s.node) ∙ some_if (is_none (at way s.node.out)) _

by_way : (plan : TilePlan) (way : Port) (p : Packet) (s : TileState) → IsWay way → (way ≡ port.Here → ⊥) → is_none (at way s.node.out) ≡ is_some (passed_by plan way p s)
by_way plan port.East p s h away = sym (on_room port.East p s)
by_way plan port.West p s h away = sym (on_room port.West p s)
by_way plan port.South p s h away = sym (on_room port.South p s)
by_way plan port.North p s h away = sym (on_room port.North p s)
by_way plan port.Up p s h away = sym (on_room port.Up p s)
by_way plan port.Down p s h away = absurd h
by_way plan port.HostPort p s h away = absurd h
by_way plan port.Here p s h away = absurd (away refl)

pub takes_on : (plan : TilePlan) (p : Packet) (s : TileState) → (tile_port plan.tile p.dest ≡ port.Here → ⊥) → is_none (at (tile_port plan.tile p.dest) s.node.out) ≡ is_some (passed plan p s)
takes_on plan p s away = by_way plan (tile_port plan.tile p.dest) p s (is_way plan.tile p.dest) away

-- if a packet can be passed on does not hang on what is pending
slot_room : (slot : Option ℕ) (alive : ℕ) (p : Packet) (s t : TileState) → is_some (stored_at slot alive p s) ≡ is_some (stored_at slot alive p t)
slot_room None alive p s t = refl
slot_room (Some k) alive p s t = refl

alive_room : (b : Bool) (slot : Option ℕ) (alive : ℕ) (p : Packet) (s t : TileState) → is_some (cond b (Some s) (stored_at slot alive p s)) ≡ is_some (cond b (Some t) (stored_at slot alive p t))
alive_room true slot alive p s t = refl
alive_room false slot alive p s t = slot_room slot alive p s t

received_room : (plan : TilePlan) (p : Packet) (s : TileState) (ps : List (Option Packet)) → is_some (received plan p (record s { pending = ps })) ≡ is_some (received plan p s)
received_room plan p s ps =
    let set = receivers plan.shape p.dest in
    let alive = alive_of s.threads set in
    let t : TileState = record s { pending = ps } in
    mapped_some (λ (x : TileState). record x { dropped = x.dropped + count_ones (dead_of s.threads set) }) (stored alive p t)
    ∙ alive_room (alive == 0) (first_free s.pool) alive p t s
    ∙ sym (mapped_some (λ (x : TileState). record x { dropped = x.dropped + count_ones (dead_of s.threads set) }) (stored alive p s))

away_room : (way : Port) (p : Packet) (s : TileState) (ps : List (Option Packet)) → is_some (sent_on way p (record s { pending = ps })) ≡ is_some (sent_on way p s)
away_room way p s ps = on_room way p (record s { pending = ps }) ∙ sym (on_room way p s)

by_room : (plan : TilePlan) (way : Port) (p : Packet) (s : TileState) (ps : List (Option Packet)) → is_some (passed_by plan way p (record s { pending = ps })) ≡ is_some (passed_by plan way p s)
by_room plan port.Here p s ps = received_room plan p s ps
by_room plan port.East p s ps = away_room port.East p s ps
by_room plan port.West p s ps = away_room port.West p s ps
by_room plan port.South p s ps = away_room port.South p s ps
by_room plan port.North p s ps = away_room port.North p s ps
by_room plan port.Up p s ps = away_room port.Up p s ps
by_room plan port.Down p s ps = refl
by_room plan port.HostPort p s ps = refl

pub passed_room : (plan : TilePlan) (p : Packet) (s : TileState) (ps : List (Option Packet)) → is_some (passed plan p (record s { pending = ps })) ≡ is_some (passed plan p s)
passed_room plan p s ps = by_room plan (tile_port plan.tile p.dest) p s ps

-- what a packet that is passed on leaves as it is
pub record PassedOn (old new : TileState) : Type 0 where
  pub threads : new.threads ≡ old.threads
  pub pending : new.pending ≡ old.pending
  pub counter : new.node.counter ≡ old.node.counter
  pub black : new.node.black ≡ old.node.black
  pub held : new.node.held ≡ old.node.held
  pub ended : new.ended ≡ old.ended

abbrev PassedIn : TileState → Option TileState → Type 0
PassedIn old o = MatchOption o (Unit {0}) (PassedOn old)

same_on : (s : TileState) → PassedOn s s
same_on s = record { threads = refl; pending = refl; counter = refl; black = refl; held = refl; ended = refl }

stored_at_on : (slot : Option ℕ) (alive : ℕ) (p : Packet) (s : TileState) → PassedIn s (stored_at slot alive p s)
stored_at_on None alive p s = tt
stored_at_on (Some k) alive p s = record { threads = refl; pending = refl; counter = refl; black = refl; held = refl; ended = refl }

stored_on : (alive : ℕ) (p : Packet) (s : TileState) → PassedIn s (stored alive p s)
stored_on alive p s = cond_both (alive == 0) _ _ (PassedIn s) (λ _. same_on s) (λ _. stored_at_on (first_free s.pool) alive p s)

counted_on : (n : ℕ) (s : TileState) (o : Option TileState) → PassedIn s o → PassedIn s (counted n o)
counted_on n s None c = tt
counted_on n s (Some t) c = record { threads = c.threads; pending = c.pending; counter = c.counter; black = c.black; held = c.held; ended = c.ended }

received_on : (plan : TilePlan) (p : Packet) (s : TileState) → PassedIn s (received plan p s)
received_on plan p s = counted_on (count_ones (dead_of s.threads (receivers plan.shape p.dest))) s (stored (alive_of s.threads (receivers plan.shape p.dest)) p s) (stored_on (alive_of s.threads (receivers plan.shape p.dest)) p s)

waits_on : (b : Bool) (way : Port) (p : Packet) (s : TileState) → is_none (at way s.node.out) ≡ b → PassedIn s (sent_on way p s)
waits_on true way p s e = rw e (record { threads = refl; pending = refl; counter = refl; black = refl; held = refl; ended = refl })
waits_on false way p s e = rw e tt

away_on : (way : Port) (p : Packet) (s : TileState) → PassedIn s (sent_on way p s)
away_on way p s = waits_on (is_none (at way s.node.out)) way p s refl

by_on : (plan : TilePlan) (way : Port) (p : Packet) (s : TileState) → PassedIn s (passed_by plan way p s)
by_on plan port.Here p s = received_on plan p s
by_on plan port.East p s = away_on port.East p s
by_on plan port.West p s = away_on port.West p s
by_on plan port.South p s = away_on port.South p s
by_on plan port.North p s = away_on port.North p s
by_on plan port.Up p s = away_on port.Up p s
by_on plan port.Down p s = tt
by_on plan port.HostPort p s = tt

pub passed_on : (plan : TilePlan) (p : Packet) (s t : TileState) → passed plan p s ≡ Some t → PassedOn s t
passed_on plan p s t e = subst (PassedIn s) e (by_on plan (tile_port plan.tile p.dest) p s)

-- how many letters it drops: at most 64
pub record Drops (old new : TileState) : Type 0 where
  pub more : old.dropped ≤ new.dropped
  pub few : new.dropped ≤ old.dropped + 64

abbrev DropsIn : TileState → Option TileState → Type 0
DropsIn old o = MatchOption o (Unit {0}) (Drops old)

no_drops : (s t : TileState) → t.dropped ≡ s.dropped → Drops s t
no_drops s t e = record { more = omega arith; few = omega arith }

stored_at_drops : (slot : Option ℕ) (alive : ℕ) (p : Packet) (s : TileState) → MatchOption (stored_at slot alive p s) (Unit {0}) (λ t. t.dropped ≡ s.dropped)
stored_at_drops None alive p s = tt
stored_at_drops (Some k) alive p s = refl

counted_drops : (n : ℕ) (s : TileState) (o : Option TileState) → n ≤ 64 → MatchOption o (Unit {0}) (λ (t : TileState). t.dropped ≡ s.dropped) → DropsIn s (counted n o)
counted_drops n s None h e = tt
counted_drops n s (Some t) h e = record { more = omega arith; few = omega arith }

few_dead : (ts : List Thread) (set : ℕ) → length ts ≤ 64 → count_ones (dead_of ts set) ≤ 64
few_dead ts set h =
    let below = dead_below ts in
    let part = and_le_r set (dead_in ts) in
    let most : 2 ^ length ts ≤ 2 ^ 64 = pow-le-pow_right (omega arith) h in
    ones-le 64 (dead_of ts set) (omega arith)

received_drops : (plan : TilePlan) (p : Packet) (s : TileState) → length s.threads ≤ 64 → DropsIn s (received plan p s)
received_drops plan p s h =
    let set = receivers plan.shape p.dest in
    let alive = alive_of s.threads set in
    counted_drops (count_ones (dead_of s.threads set)) s (stored alive p s) (few_dead s.threads set h)
    (cond_both (alive == 0) _ _ (λ o. MatchOption o (Unit {0}) (λ (t : TileState). t.dropped ≡ s.dropped)) (λ _. refl) (λ _. stored_at_drops (first_free s.pool) alive p s))

waits_drops : (b : Bool) (way : Port) (p : Packet) (s : TileState) → is_none (at way s.node.out) ≡ b → DropsIn s (sent_on way p s)
waits_drops true way p s e = rw e (record { more = omega arith; few = omega arith })
waits_drops false way p s e = rw e tt

away_drops : (way : Port) (p : Packet) (s : TileState) → DropsIn s (sent_on way p s)
away_drops way p s = waits_drops (is_none (at way s.node.out)) way p s refl

by_drops : (plan : TilePlan) (way : Port) (p : Packet) (s : TileState) → length s.threads ≤ 64 → DropsIn s (passed_by plan way p s)
by_drops plan port.Here p s h = received_drops plan p s h
by_drops plan port.East p s h = away_drops port.East p s
by_drops plan port.West p s h = away_drops port.West p s
by_drops plan port.South p s h = away_drops port.South p s
by_drops plan port.North p s h = away_drops port.North p s
by_drops plan port.Up p s h = away_drops port.Up p s
by_drops plan port.Down p s h = tt
by_drops plan port.HostPort p s h = tt

pub passed_drops : (plan : TilePlan) (p : Packet) (s t : TileState) → length s.threads ≤ 64 → passed plan p s ≡ Some t → Drops s t
passed_drops plan p s t h e = subst (DropsIn s) e (by_drops plan (tile_port plan.tile p.dest) p s h)

-- what holds of every tile's state holds after a packet is passed on
abbrev FitIn : TilePlan → Option TileState → Type 0
FitIn plan o = MatchOption o (Unit {0}) (IsFit plan)

stored_at_fits : (plan : TilePlan) (slot : Option ℕ) (alive : ℕ) (p : Packet) (s : TileState) → IsFit plan s → FitIn plan (stored_at slot alive p s)
stored_at_fits plan None alive p s w = tt
stored_at_fits plan (Some k) alive p s w =
    record { threads = w.threads; pool = pool_put plan.shape s.pool s.senders k alive p.bytes (record { origin = p.origin; number = p.number }) w.pool; pending = w.pending; out = w.out }

counted_fits : (plan : TilePlan) (n : ℕ) (o : Option TileState) → FitIn plan o → FitIn plan (counted n o)
counted_fits plan n None w = tt
counted_fits plan n (Some t) w = record { threads = w.threads; pool = w.pool; pending = w.pending; out = w.out }

received_fits : (plan : TilePlan) (p : Packet) (s : TileState) → IsFit plan s → FitIn plan (received plan p s)
received_fits plan p s w =
    let set = receivers plan.shape p.dest in
    let alive = alive_of s.threads set in
    counted_fits plan (count_ones (dead_of s.threads set)) (stored alive p s) (cond_both (alive == 0) _ _ (FitIn plan) (λ _. w) (λ _. stored_at_fits plan (first_free s.pool) alive p s w))

waits_fits : (b : Bool) (plan : TilePlan) (way : Port) (p : Packet) (s : TileState) → is_none (at way s.node.out) ≡ b → IsTrue (has_packet plan.shape p) → IsTrue (has_way way) → IsFit plan s → FitIn plan (sent_on way p s)
waits_fits true plan way p s e fits has w = rw e (record { threads = w.threads; pool = w.pool; pending = w.pending; out = out_set plan.shape way (Some p) s.node.out (fits, has) w.out })
waits_fits false plan way p s e fits has w = rw e tt

away_fits : (plan : TilePlan) (way : Port) (p : Packet) (s : TileState) → IsTrue (has_packet plan.shape p) → IsTrue (has_way way) → IsFit plan s → FitIn plan (sent_on way p s)
away_fits plan way p s fits has w = waits_fits (is_none (at way s.node.out)) plan way p s refl fits has w

by_fits : (plan : TilePlan) (way : Port) (p : Packet) (s : TileState) → IsTrue (has_packet plan.shape p) → IsFit plan s → FitIn plan (passed_by plan way p s)
by_fits plan port.Here p s fits w = received_fits plan p s w
by_fits plan port.East p s fits w = away_fits plan port.East p s fits refl w
by_fits plan port.West p s fits w = away_fits plan port.West p s fits refl w
by_fits plan port.South p s fits w = away_fits plan port.South p s fits refl w
by_fits plan port.North p s fits w = away_fits plan port.North p s fits refl w
by_fits plan port.Up p s fits w = away_fits plan port.Up p s fits refl w
by_fits plan port.Down p s fits w = tt
by_fits plan port.HostPort p s fits w = tt

pub passed_fits : (plan : TilePlan) (p : Packet) (s t : TileState) → IsTrue (has_packet plan.shape p) → passed plan p s ≡ Some t → IsFit plan s → IsFit plan t
passed_fits plan p s t fits e w = subst (FitIn plan) e (by_fits plan (tile_port plan.tile p.dest) p s fits w)

-- the queues that a packet in a slot grows
none_wake : (p : PoolModel) → Wakes 0 p p
none_wake p = record { within = λ k h one. absurd (cc (one, bit_at-zero k)); kept = λ k h none. refl }

pub no_wakes : (set : ℕ) (old new : PoolModel) → set ≡ 0 → new ≡ old → Wakes set old new
no_wakes set old new e f = rw (e, f) (none_wake old)

put_wakes : (p : PoolModel) (slot set : ℕ) (bytes : List ℕ) → set < 2 ^ length p.queues → Wakes set p (put_at slot bytes set p)
put_wakes p slot set bytes below = record {
  within = λ k h one. elim (cases_lt k (length p.queues)) [
    | inl there ↦ there
    | inr past ↦ absurd (cc (one, bit_at_above set (length p.queues) k below past))
  ];
  kept = λ k h none. elim (cases_lt k (length p.queues)) [
    | inl there ↦ appended_no set slot p.queues k there none
    | inr past ↦ let long = length-appended set slot p.queues in get_or_past _ k [] (omega arith) ∙ sym (get_or_past p.queues k [] past)
  ];
}

stored_at_wakes : (slot : Option ℕ) (set : ℕ) (p : Packet) (s t : TileState) → set < 2 ^ length s.pool.queues → stored_at slot set p s ≡ Some t → Wakes set s.pool t.pool
stored_at_wakes None set p s t below e = cc e
stored_at_wakes (Some k) set p s t below e =
    let is : put_at k p.bytes set s.pool ≡ t.pool = ap (λ o. pool_of o) e in
    subst (Wakes set s.pool) is (put_wakes s.pool k set p.bytes below) where
      pool_of : Option TileState → PoolModel
      pool_of None = s.pool
      pool_of (Some x) = x.pool

pub stored_wakes : (set : ℕ) (p : Packet) (s t : TileState) → set < 2 ^ length s.pool.queues → stored set p s ≡ Some t → Wakes set s.pool t.pool
stored_wakes set p s t below e = by (set == 0) refl e where
  by : (b : Bool) → (set == 0) ≡ b → cond b (Some s) (stored_at (first_free s.pool) set p s) ≡ Some t → Wakes set s.pool t.pool
  by true is q =
      let same : s ≡ t = cc q in
      no_wakes set s.pool t.pool (eqb-true set 0 is) (ap (λ (x : TileState). x.pool) (sym same))
  by false is q = stored_at_wakes (first_free s.pool) set p s t below q

-- a packet is received
pub received_is : (plan : TilePlan) (p : Packet) (s t : TileState) → stored (alive_of s.threads (receivers plan.shape p.dest)) p s ≡ Some t → received plan p s ≡ Some (record t { dropped = t.dropped + count_ones (dead_of s.threads (receivers plan.shape p.dest)) })
received_is plan p s t e = ap (counted (count_ones (dead_of s.threads (receivers plan.shape p.dest)))) e

pub received_none : (plan : TilePlan) (p : Packet) (s : TileState) → stored (alive_of s.threads (receivers plan.shape p.dest)) p s ≡ None → received plan p s ≡ None
received_none plan p s e = ap (counted (count_ones (dead_of s.threads (receivers plan.shape p.dest)))) e

pub stored_dropped : (alive : ℕ) (p : Packet) (s t : TileState) → stored alive p s ≡ Some t → t.dropped ≡ s.dropped
stored_dropped alive p s t e = subst (λ o. MatchOption o (Unit {0}) (λ (x : TileState). x.dropped ≡ s.dropped)) e
    (cond_both (alive == 0) _ _ (λ o. MatchOption o (Unit {0}) (λ (x : TileState). x.dropped ≡ s.dropped)) (λ _. refl) (λ _. stored_at_drops (first_free s.pool) alive p s))

-- a call that tells by a test if its row gave something
pub did_some : {V : Type 0} (b : Bool) (row : Option V) (old new : V) → b ≡ true → Does b row old new → row ≡ Some new
did_some b None old new e d = cc (e, d.0)
did_some b (Some w) old new e d = ap (λ x. Some x) (sym d.1)

pub did_none : {V : Type 0} (b : Bool) (row : Option V) (old new : V) → b ≡ false → Does b row old new → (row ≡ None) × (new ≡ old)
did_none b None old new e d = (refl, d.1)
did_none b (Some w) old new e d = cc (e, d.0)

-- a packet is taken from a link
pub record Accepts (plan : TilePlan) (p : Packet) (s : TileState) : Type 0 where
  pub counts : can_count s ≡ true
  pub arrives : can_arrive s.node ≡ true
  pub fits : IsTrue (has_packet plan.shape p)
  pub some : is_some (passed plan p s) ≡ true

some_taken : {X : Type 0} (b : Bool) (o : Option X) → is_some (cond b o None) ≡ true → (b ≡ true) × (is_some o ≡ true)
some_taken true o e = (refl, e)
some_taken false o e = cc e

pub accepts : (plan : TilePlan) (p : Packet) (s : TileState) → is_some (accept_row plan p s) ≡ true → Accepts plan p s
accepts plan p s h =
    let first = some_taken (can_count s && can_arrive s.node) (option_map came (accepted plan p s)) h in
    let tests = and_parts (can_count s) (can_arrive s.node) first.0 in
    let second = some_taken (has_packet plan.shape p) (passed plan p s) (sym (mapped_some came (accepted plan p s)) ∙ first.1) in
    record { counts = tests.0; arrives = tests.1; fits = second.0; some = second.1 }

-- a tile that takes the packet takes it, if it can count
pub accept_can : (plan : TilePlan) (p : Packet) (s : TileState) → can_count s ≡ true → can_arrive s.node ≡ true → is_some (accepted plan p s) ≡ true → is_some (accept_row plan p s) ≡ true
accept_can plan p s counts low takes = rw (counts, low) (mapped_some came (accepted plan p s) ∙ takes)

pub accept_is : (plan : TilePlan) (p : Packet) (s t : TileState) → Accepts plan p s → passed plan p s ≡ Some t → accept_row plan p s ≡ Some (came t)
accept_is plan p s t a e = rw (a.counts, a.arrives, a.fits, e) refl

-- a delivery
pub packet_fits : (plan : TilePlan) (k : ℕ) (p : Packet) (s : TileState) → IsFit plan s → pending_at s k ≡ Some p → IsTrue (has_packet plan.shape p)
packet_fits plan k p s w e = subst (FitsIn plan.shape) e (w.pending.each k)

pub delivers : (plan : TilePlan) (a k : ℕ) (s : TileState) → is_here plan a ≡ true → can_count s ≡ true → k ≡ place_in_tile plan.shape a → deliver_row plan a s ≡ delivered_from plan k (pending_at s k) s
delivers plan a k s here counts place = rw (here, counts) (ap (λ i. delivered_from plan i (pending_at s i) s) (sym place))

pub delivered_fits : (plan : TilePlan) (k : ℕ) (o : Option Packet) (s t : TileState) → pending_at s k ≡ o → delivered_from plan k o s ≡ Some t → IsFit plan s → IsFit plan t
delivered_fits plan k None s t e h w = cc h
delivered_fits plan k (Some p) s t e h w =
    passed_fits plan p (record s { pending = set s.pending k None }) t (packet_fits plan k p s w e) h
    (record { threads = w.threads; pool = w.pool; pending = pending_set plan.shape s.pending k None tt w.pending; out = w.out })

pub set_back : {X : Type 0} (xs : List X) (k : ℕ) (x y d : X) → get_or xs k d ≡ x → set (set xs k y) k x ≡ xs
set_back [] k x y d e = refl
set_back (z ∷ zs) zero x y d e = ap (λ w. w ∷ zs) (sym e)
set_back (z ∷ zs) (suc k) x y d e = ap (λ ws. z ∷ ws) (set_back zs k x y d e)

-- a packet that was not passed on is put back
pub put_back : (s t : TileState) (k : ℕ) (p q : Packet) → pending_at s k ≡ Some p → t ≡ record s { pending = set s.pending k None } → q ≡ p → record t { pending = set t.pending k (Some q) } ≡ s
put_back s t k p q read same is =
    ap (λ (x : TileState). record x { pending = set x.pending k (Some q) }) same
    ∙ ap (λ r. record s { pending = set (set s.pending k None) k (Some r) }) is
    ∙ ap (λ ps. record s { pending = ps }) (set_back s.pending k (Some p) None None read)
