-- What each event of a tile leaves as it is, what the detector sees of it, and what keeps a tile still.
use Rattle.std.proofs.Common.{ℕ, ◌≡◌, ◌≤◌, ◌-ℤ◌, ◌&&◌, zero, suc, Bool, true, false, cond, List, [], ◌∷◌, get_or, refl, sym, ap, subst, ◌∙◌, arith, inl, inr, option_map, pos, Option, Some, None, is_none, is_some}
use Rattle.std.specs.List.{list_all}
use Rattle.std.proofs.lemmas.Bool.{and_parts, cases_Bool}
use Rattle.rv_isa.specs.declared.instr.Instr.{Instr}
use Rattle.tn_base.specs.declared.message.Packet.{Packet}
use Rattle.tn_base.specs.declared.op.Op.{Op}
use Rattle.tn_base.specs.declared.op.Op.TheVariants as op
use Rattle.tn_base.specs.declared.port.Port.{Port}
use Rattle.tn_base.specs.declared.port.Port.TheVariants as port
use Rattle.tn_base.specs.Address.{has_thread, place_in_tile}
use Rattle.tn_base.proofs.TilePlaces.{place_below}
use Rattle.tn_node.specs.declared.facts.PartFacts.{PartFacts}
use Rattle.tn_node.specs.declared.node.Node.{Node}
use Rattle.tn_node.specs.declared.ports.Ports.{Ports}
use Rattle.tn_node.specs.Deed.{Deed}
use Rattle.tn_node.specs.Deed as deed
use Rattle.tn_node.specs.Facts.{with_value}
use Rattle.tn_node.specs.NodeRows.{depart_row as node_departs, departed, departed_with, give_row, held_back, offered}
use Rattle.tn_node.specs.PortRows.{all_empty, at}
use Rattle.tn_node.specs.SamePacket.{is_packet}
use Rattle.tn_node.proofs.Agreed.{Own, own_given, own_taken, still_given, still_taken}
use Rattle.tn_slots.specs.Pool.{queue_at}
use Rattle.tn_slots.specs.Queues.{first_of}
use Rattle.tn_thread.specs.declared.state.ThreadState.{ThreadState}
use Rattle.tn_thread.specs.declared.state.ThreadState.TheVariants as state
use Rattle.tn_thread.specs.declared.thread.Thread.{Thread}
use Rattle.tn_thread.specs.Sight.{Sight}
use Rattle.tn_thread.specs.Step.{runnable}
use Rattle.tn_tile.specs.Kept.{IsFit}
use Rattle.tn_tile.specs.Rows.{accept_row, can_count, deliver_row, delivered_from, depart_row, gone_on, is_here, released, tile_deed, tile_facts, tile_whitened, turn_row, with_node}
use Rattle.tn_tile.specs.Step.{acted, can_step, no_thread, pending_at, sight_at, step_at_place, stepped, steps_of, thread_at, with_thread}
use Rattle.tn_tile.specs.Still.{does_nothing, is_nil, is_still}
use Rattle.tn_tile.specs.TileView.{TilePlan, TileState}
use Rattle.tn_tile.proofs.Known.{Came, accepted_fits, came_by, delivered_on, departed_is, departed_out, told_fits}
use Rattle.tn_tile.proofs.Moved.{steps_fit}
use Rattle.tn_tile.proofs.Packets.{PassedOn, delivered_fits, passed_on}
use Rattle.tn_tile.proofs.Steps.{taken}
use Rattle.tn_tile.proofs.Turns.{TurnTests, turn_tests}

-- what holds of each item of a list holds at each place
each_at : {X : Type 0} (f : X → Bool) (xs : List X) (k : ℕ) (d : X) → list_all f xs ≡ true → f d ≡ true → f (get_or xs k d) ≡ true
each_at f [] k d all past = past
each_at f (x ∷ xs) zero d all past = (and_parts (f x) (list_all f xs) all).0
each_at f (x ∷ xs) (suc k) d all past = each_at f xs k d (and_parts (f x) (list_all f xs) all).1 past

-- what is_still says
pub record StillParts (s : TileState) : Type 0 where
  pub threads : list_all (λ (t : Thread). does_nothing t.state) s.threads ≡ true
  pub queues : list_all (is_nil {X = ℕ}) s.pool.queues ≡ true
  pub pending : list_all is_none s.pending ≡ true
  pub out : all_empty s.node.out ≡ true

pub still_parts : (s : TileState) → is_still s ≡ true → StillParts s
still_parts s still =
    let a = and_parts _ (all_empty s.node.out) still in
    let b = and_parts _ (list_all is_none s.pending) a.0 in
    let c = and_parts (list_all (λ (t : Thread). does_nothing t.state) s.threads) (list_all (is_nil {X = ℕ}) s.pool.queues) b.0 in
    record { threads = c.0; queues = c.1; pending = b.1; out = a.1 }

-- on a tile that is still no thread can make a step
nil_is : (queue : List ℕ) → is_nil queue ≡ true → queue ≡ []
nil_is [] e = refl
nil_is (x ∷ xs) e = cc e

rests : (seen : Sight) (s : ThreadState) → does_nothing s ≡ true → is_some seen.first ≡ false → runnable seen s ≡ false
rests seen state.Run e none = cc e
rests seen (state.Wait waits) e none = cc e
rests seen (state.Idle vote) e none = none
rests seen (state.Answered value) e none = cc e
rests seen (state.Dead value) e none = refl
rests seen (state.Trapped why) e none = cc e

first_none : (queue : List ℕ) → queue ≡ [] → is_some (first_of queue) ≡ false
first_none [] e = refl
first_none (x ∷ xs) e = cc e

no_step : (b c : Bool) → b ≡ false → (b && c) ≡ false
no_step true c e = cc e
no_step false c e = refl

pub still_steps : (fuel k : ℕ) (s : TileState) → is_still s ≡ true → can_step fuel k s ≡ false
still_steps fuel k s still =
    let parts = still_parts s still in
    let idle : does_nothing (thread_at s k).state ≡ true = each_at (λ (t : Thread). does_nothing t.state) s.threads k no_thread parts.threads refl in
    let empty : queue_at s.pool k ≡ [] = nil_is (queue_at s.pool k) (each_at (is_nil {X = ℕ}) s.pool.queues k [] parts.queues refl) in
    no_step (runnable (sight_at s k) (thread_at s k).state) _ (rests (sight_at s k) (thread_at s k).state idle (first_none (queue_at s.pool k) empty))

-- a step leaves the node as it is
acted_node : (k : ℕ) (t : Thread) (o : Op) (s : TileState) → (acted k t o s).node ≡ s.node
acted_node k t op.None s = refl
acted_node k t (op.Send to bytes) s = refl
acted_node k t op.Hand s = refl
acted_node k t (op.Free slot) s = refl
acted_node k t (op.Idle vote) s = refl
acted_node k t (op.Kill value) s = refl
acted_node k t (op.Trap why) s = refl

stepped_node : (code : List (Option Instr)) (k : ℕ) (s : TileState) → (stepped code k s).node ≡ s.node
stepped_node code k s = acted_node k (thread_at s k) (step_at_place code k s).op (with_thread k (step_at_place code k s).thread s)

pub steps_node : (n : ℕ) (plan : TilePlan) (k : ℕ) (s t : TileState) → steps_of plan k n s ≡ Some t → t.node ≡ s.node
unfolding steps_of
steps_node zero plan k s t e = let same : s ≡ t = cc e in ap (λ (x : TileState). x.node) (sym same)
steps_node (suc n) plan k s t e =
    let first = taken (can_step plan.shape.fuel k s) (steps_of plan k n (stepped plan.code k s)) t e in
    steps_node n plan k (stepped plan.code k s) t first.1 ∙ stepped_node plan.code k s

-- a Turn happens only on a tile that is not still, and leaves its node as it is
pub record TurnDeed (old new : TileState) : Type 0 where
  pub active : is_still old ≡ false
  pub node : new.node ≡ old.node

first_step : (n : ℕ) (plan : TilePlan) (k : ℕ) (s t : TileState) → 1 ≤ n → steps_of plan k n s ≡ Some t → can_step plan.shape.fuel k s ≡ true
unfolding steps_of
first_step zero plan k s t low e = absurd (omega arith)
first_step (suc n) plan k s t low e = (taken (can_step plan.shape.fuel k s) (steps_of plan k n (stepped plan.code k s)) t e).0

active_by : (s : TileState) (b : Bool) → b ≡ true → (is_still s ≡ true → b ≡ false) → is_still s ≡ false
active_by s b holds fails = elim (cases_Bool (is_still s)) [
  | inl still ↦ let never = fails still in cc (never, holds)
  | inr active ↦ active
]

pub turn_deed : (plan : TilePlan) (a n : ℕ) (s t : TileState) → turn_row plan a n s ≡ Some t → TurnDeed s t
turn_deed plan a n s t e =
    let tests : TurnTests plan a n s t = turn_tests plan a n s t e in
    let k = place_in_tile plan.shape a in
    record {
      active = active_by s (can_step plan.shape.fuel k s) (first_step n plan k s t tests.low tests.steps) (still_steps plan.shape.fuel k s);
      node = steps_node n plan k s t tests.steps;
    }

-- what the tests of a delivery tell
pub record DeliverTests (plan : TilePlan) (a : ℕ) (s t : TileState) : Type 0 where
  pub here : is_here plan a ≡ true
  pub counts : can_count s ≡ true
  pub row : delivered_from plan (place_in_tile plan.shape a) (pending_at s (place_in_tile plan.shape a)) s ≡ Some t

pub deliver_tests : (plan : TilePlan) (a : ℕ) (s t : TileState) → deliver_row plan a s ≡ Some t → DeliverTests plan a s t
deliver_tests plan a s t e =
    let k = place_in_tile plan.shape a in
    let parts = taken (is_here plan a && can_count s) (delivered_from plan k (pending_at s k) s) t e in
    let tests = and_parts (is_here plan a) (can_count s) parts.0 in
    record { here = tests.0; counts = tests.1; row = parts.1 }

-- a Deliver happens only on a tile that is not still, and leaves counter, colour, hold and threads as they are
pub record DeliverDeed (old new : TileState) : Type 0 where
  pub active : is_still old ≡ false
  pub counter : new.node.counter ≡ old.node.counter
  pub black : new.node.black ≡ old.node.black
  pub held : new.node.held ≡ old.node.held
  pub threads : new.threads ≡ old.threads

some_sent : (plan : TilePlan) (k : ℕ) (o : Option Packet) (s t : TileState) → delivered_from plan k o s ≡ Some t → is_none o ≡ false
some_sent plan k None s t e = cc e
some_sent plan k (Some p) s t e = refl

opposite : (b : Bool) → b ≡ false → (b ≡ true → ⊥)
opposite b fails holds = cc (fails, holds)

still_pending : (s : TileState) (k : ℕ) → is_still s ≡ true → is_none (pending_at s k) ≡ true
still_pending s k still = each_at is_none s.pending k None (still_parts s still).pending refl

pub deliver_deed : (plan : TilePlan) (a : ℕ) (s t : TileState) → deliver_row plan a s ≡ Some t → DeliverDeed s t
deliver_deed plan a s t e =
    let tests : DeliverTests plan a s t = deliver_tests plan a s t e in
    let k = place_in_tile plan.shape a in
    let on = delivered_on plan k (pending_at s k) s t tests.row in
    record {
      active = elim (cases_Bool (is_still s)) [
        | inl still ↦ absurd (opposite _ (some_sent plan k (pending_at s k) s t tests.row) (still_pending s k still))
        | inr active ↦ active
      ];
      counter = on.counter;
      black = on.black;
      held = on.held;
      threads = on.threads;
    }

-- a Depart happens only on a tile that is neither still nor held; its node alone changes
pub record DepartDeed (way : Port) (old new : TileState) : Type 0 where
  pub active : is_still old ≡ false
  pub free : old.node.held ≡ false
  pub departs : node_departs way old.node ≡ Some (departed way old.node)
  pub is : new ≡ with_node old (departed way old.node)

empty_at : (out : Ports Packet) (way : Port) → all_empty out ≡ true → is_none (at way out) ≡ true
empty_at out way h =
    let a = and_parts _ (is_none out.host) h in
    let b = and_parts _ (is_none out.down) a.0 in
    let c = and_parts _ (is_none out.up) b.0 in
    let d = and_parts _ (is_none out.north) c.0 in
    let e = and_parts _ (is_none out.south) d.0 in
    let f = and_parts (is_none out.east) (is_none out.west) e.0 in
    by way f.0 f.1 e.1 d.1 c.1 b.1 a.1 where
      by : (way : Port) → is_none out.east ≡ true → is_none out.west ≡ true → is_none out.south ≡ true → is_none out.north ≡ true → is_none out.up ≡ true → is_none out.down ≡ true → is_none out.host ≡ true → is_none (at way out) ≡ true
      by port.East e w s n u d h = e
      by port.West e w s n u d h = w
      by port.South e w s n u d h = s
      by port.North e w s n u d h = n
      by port.Up e w s n u d h = u
      by port.Down e w s n u d h = d
      by port.HostPort e w s n u d h = h
      by port.Here e w s n u d h = refl

some_offered : (o : Option Packet) (way : Port) (n m : Node) → departed_with o way n ≡ Some m → is_none o ≡ false
some_offered None way n m e = cc e
some_offered (Some p) way n m e = refl

held_none : (b : Bool) (o : Option Packet) → is_none (cond b None o) ≡ false → (b ≡ false) × (is_none o ≡ false)
held_none true o e = cc e
held_none false o e = (refl, e)

mapped : {X Y : Type 0} (f : X → Y) (o : Option X) (y : Y) → option_map f o ≡ Some y → (x : X) × (o ≡ Some x) × (y ≡ f x)
mapped f None y e = cc e
mapped f (Some x) y e = (x, refl, cc e)

departs_deed : (way : Port) (s t : TileState) (node : Node) → node_departs way s.node ≡ Some node → t ≡ with_node s node → DepartDeed way s t
departs_deed way s t node row is =
    let waits = held_none s.node.held (at way s.node.out) (some_offered (offered way s.node) way s.node node row) in
    let same : departed way s.node ≡ node = departed_is way s.node node row in
    record {
      active = elim (cases_Bool (is_still s)) [
        | inl still ↦ absurd (opposite _ waits.1 (empty_at s.node.out way (still_parts s still).out))
        | inr active ↦ active
      ];
      free = waits.0;
      departs = row ∙ ap (λ (n : Node). Some n) (sym same);
      is = is ∙ ap (with_node s) (sym same);
    }

pub depart_deed : (way : Port) (s t : TileState) → depart_row way s ≡ Some t → DepartDeed way s t
depart_deed way s t e =
    let m = mapped (with_node s) (node_departs way s.node) t e in
    departs_deed way s t m.0 m.1 m.2

-- a packet that comes from a link lowers the counter by one and blackens the tile; no thread changes
pub record AcceptDeed (old new : TileState) : Type 0 where
  pub counter : new.node.counter ≡ old.node.counter -ℤ pos 1
  pub black : new.node.black ≡ true
  pub held : new.node.held ≡ old.node.held
  pub threads : new.threads ≡ old.threads
  pub pending : new.pending ≡ old.pending

pub accept_deed : (plan : TilePlan) (p : Packet) (s t : TileState) → accept_row plan p s ≡ Some t → AcceptDeed s t
accept_deed plan p s t e =
    let c : Came plan p s t = came_by plan p s t e in
    let on : PassedOn s c.mid = passed_on plan p s c.mid c.row in
    subst (AcceptDeed s) (sym c.is) (record {
      counter = ap (λ z. z -ℤ pos 1) on.counter;
      black = refl;
      held = on.held;
      threads = on.threads;
      pending = on.pending;
    })

-- a tile that is still does nothing by itself: no Turn, no Deliver and no Depart
pub record StillStops (plan : TilePlan) (s : TileState) : Type 0 where
  pub turns : (a n : ℕ) → turn_row plan a n s ≡ None
  pub delivers : (a : ℕ) → deliver_row plan a s ≡ None
  pub departs : (way : Port) → depart_row way s ≡ None

none_by : {X : Type 0} (o : Option X) → ((x : X) → o ≡ Some x → ⊥) → o ≡ None
none_by None h = refl
none_by (Some x) h = absurd (h x refl)

pub still_stops : (plan : TilePlan) (s : TileState) → is_still s ≡ true → StillStops plan s
still_stops plan s still = record {
  turns = λ a n. none_by (turn_row plan a n s) (λ t e. opposite _ (turn_deed plan a n s t e).active still);
  delivers = λ a. none_by (deliver_row plan a s) (λ t e. opposite _ (deliver_deed plan a s t e).active still);
  departs = λ way. none_by (depart_row way s) (λ t e. opposite _ (depart_deed way s t e).active still);
}

-- what the detector's deeds make of a tile: the facts are the tile's own, and the tile becomes what the call of this name says
pub record ReportDeed (f : PartFacts) (old new : TileState) : Type 0 where
  pub facts : f ≡ with_value (tile_facts old) f
  pub still : is_still old ≡ true
  pub is : new ≡ tile_whitened old

pub record ConfirmDeed (f : PartFacts) (old new : TileState) : Type 0 where
  pub facts : f ≡ with_value (tile_facts old) f
  pub is : new ≡ old

pub record ReleaseDeed (f : PartFacts) (old new : TileState) : Type 0 where
  pub facts : f ≡ with_value (tile_facts old) f
  pub is : new ≡ released f.value old

pub record GoDeed (f : PartFacts) (old new : TileState) : Type 0 where
  pub facts : f ≡ with_value (tile_facts old) f
  pub is : new ≡ gone_on old

pub report_deed : (plan : TilePlan) (i : ℕ) (f : PartFacts) (s t : TileState) → tile_deed plan (deed.Report i f) s ≡ Some t → ReportDeed f s t
report_deed plan i f s t e =
    let o = still_taken (tile_facts s) f (tile_whitened s) t e in
    record { facts = o.0.facts; still = o.1; is = sym o.0.is }

pub confirm_deed : (plan : TilePlan) (i : ℕ) (f : PartFacts) (s t : TileState) → tile_deed plan (deed.Confirm i f) s ≡ Some t → ConfirmDeed f s t
confirm_deed plan i f s t e =
    let o : Own (tile_facts s) f s t = own_taken (tile_facts s) f s t e in
    record { facts = o.facts; is = sym o.is }

pub release_deed : (plan : TilePlan) (i : ℕ) (f : PartFacts) (s t : TileState) → tile_deed plan (deed.Release i f) s ≡ Some t → ReleaseDeed f s t
release_deed plan i f s t e =
    let o : Own (tile_facts s) f (released f.value s) t = own_taken (tile_facts s) f (released f.value s) t e in
    record { facts = o.facts; is = sym o.is }

pub go_deed : (plan : TilePlan) (i : ℕ) (f : PartFacts) (s t : TileState) → tile_deed plan (deed.Go i f) s ≡ Some t → GoDeed f s t
go_deed plan i f s t e =
    let o : Own (tile_facts s) f (gone_on s) t = own_taken (tile_facts s) f (gone_on s) t e in
    record { facts = o.facts; is = sym o.is }

-- a tile can do each of them with its own facts, whatever the detector's answer is; it reports only if it is still
pub record TellsOwn (plan : TilePlan) (s : TileState) : Type 0 where
  pub reports : (i value : ℕ) → is_still s ≡ true → tile_deed plan (deed.Report i (record (tile_facts s) { value = value })) s ≡ Some (tile_whitened s)
  pub confirms : (i value : ℕ) → tile_deed plan (deed.Confirm i (record (tile_facts s) { value = value })) s ≡ Some s
  pub releases : (i value : ℕ) → tile_deed plan (deed.Release i (record (tile_facts s) { value = value })) s ≡ Some (released value s)
  pub goes : (i value : ℕ) → tile_deed plan (deed.Go i (record (tile_facts s) { value = value })) s ≡ Some (gone_on s)

pub tells_own : (plan : TilePlan) (s : TileState) → TellsOwn plan s
tells_own plan s = record {
  reports = λ i value still. still_given (tile_facts s) value (tile_whitened s) still;
  confirms = λ i value. own_given (tile_facts s) value s;
  releases = λ i value. own_given (tile_facts s) value (released value s);
  goes = λ i value. own_given (tile_facts s) value (gone_on s);
}

-- each event keeps what holds of every tile's state
pub turn_fits : (plan : TilePlan) (a n : ℕ) (s t : TileState) → turn_row plan a n s ≡ Some t → IsFit plan s → IsFit plan t
turn_fits plan a n s t e w =
    let tests : TurnTests plan a n s t = turn_tests plan a n s t e in
    let named = and_parts (has_thread plan.shape a) _ tests.here in
    steps_fit n plan (place_in_tile plan.shape a) s t (place_below plan.shape a named.0) tests.steps w

pub deliver_fits : (plan : TilePlan) (a : ℕ) (s t : TileState) → deliver_row plan a s ≡ Some t → IsFit plan s → IsFit plan t
deliver_fits plan a s t e w = let k = place_in_tile plan.shape a in delivered_fits plan k (pending_at s k) s t refl (deliver_tests plan a s t e).row w

pub depart_fits : (plan : TilePlan) (way : Port) (s t : TileState) → depart_row way s ≡ Some t → IsFit plan s → IsFit plan t
depart_fits plan way s t e w =
    let d : DepartDeed way s t = depart_deed way s t e in
    subst (IsFit plan) (sym d.is) (record { threads = w.threads; pool = w.pool; pending = w.pending; out = departed_out plan.shape way s.node (departed way s.node) d.departs w.out })

given_departs : (way : Port) (k : Packet) (n m : Node) → give_row way k n ≡ Some m → node_departs way n ≡ Some m
given_departs way k n m e = (taken (is_packet k (offered way n)) (node_departs way n) m e).1

report_fits : (plan : TilePlan) (s t : TileState) → t ≡ tile_whitened s → IsFit plan s → IsFit plan t
report_fits plan s t is w = subst (IsFit plan) (sym is) (record { threads = w.threads; pool = w.pool; pending = w.pending; out = w.out })

release_fits : (plan : TilePlan) (value : ℕ) (s t : TileState) → t ≡ released value s → IsFit plan s → IsFit plan t
release_fits plan value s t is w = subst (IsFit plan) (sym is) (told_fits plan value (held_back s.node) s refl w)

go_fits : (plan : TilePlan) (s t : TileState) → t ≡ gone_on s → IsFit plan s → IsFit plan t
go_fits plan s t is w = subst (IsFit plan) (sym is) (record { threads = w.threads; pool = w.pool; pending = w.pending; out = w.out })

pub deed_fits : (plan : TilePlan) (d : Deed) (s t : TileState) → tile_deed plan d s ≡ Some t → IsFit plan s → IsFit plan t
deed_fits plan (deed.Turn a n) s t e w = turn_fits plan a.0 n s t e w
deed_fits plan (deed.Deliver a) s t e w = deliver_fits plan a.0 s t e w
deed_fits plan (deed.Give way k) s t e w =
    let m = mapped (with_node s) (give_row way k s.node) t e in
    depart_fits plan way s t (ap (λ o. option_map (with_node s) o) (given_departs way k s.node m.0 m.1) ∙ ap (λ (x : TileState). Some x) (sym m.2)) w
deed_fits plan (deed.Take side k) s t e w = accepted_fits plan k s t e w
deed_fits plan deed.Route s t e w = cc e
deed_fits plan (deed.HostPut k) s t e w = cc e
deed_fits plan (deed.HostTake k) s t e w = cc e
deed_fits plan (deed.Report i f) s t e w = report_fits plan s t (report_deed plan i f s t e).is w
deed_fits plan deed.Begin s t e w = cc e
deed_fits plan (deed.Confirm i f) s t e w = subst (IsFit plan) (sym (confirm_deed plan i f s t e).is) w
deed_fits plan deed.Announce s t e w = cc e
deed_fits plan (deed.Release i f) s t e w = release_fits plan f.value s t (release_deed plan i f s t e).is w
deed_fits plan (deed.Go i f) s t e w = go_fits plan s t (go_deed plan i f s t e).is w
