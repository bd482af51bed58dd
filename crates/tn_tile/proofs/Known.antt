-- What holds inside of every tile holds after each event: the word says which threads can make a step.
use Rattle.std.proofs.Common.{ℕ, ◌≡◌, ◌≢◌, ◌<◌, ◌≤◌, ◌==◌, Bool, true, false, get_or, length, map, slice_set, refl, sym, ap, subst, ◌∙◌, inl, inr, Option, Some, None, IsTrue, is_some, cond, ◌^◌, pos, ◌-ℤ◌}
use Rattle.std.specs.Int.{bit_at}
use Rattle.std.specs.Prelude.{int_lt}
use Rattle.std.proofs.lemmas.Bool.{cases_eq}
use Rattle.std.proofs.lemmas.List.{get_or-set_other}
use Rattle.tn_base.specs.declared.message.Packet.{Packet}
use Rattle.tn_base.specs.declared.port.Port.{Port}
use Rattle.tn_base.specs.Address.{tile_threads}
use Rattle.tn_base.specs.declared.shape.ShapeNumbers.{ShapeNumbers}
use Rattle.tn_base.specs.Mask.{with_bit}
use Rattle.tn_base.specs.Message.{has_packet}
use Rattle.tn_base.proofs.Masks.{with_other, with_same}
use Rattle.tn_node.specs.declared.node.Node.{Node}
use Rattle.tn_node.specs.NodeRows.{depart_row as node_departs, departed, departed_with, offered}
use Rattle.tn_tile.specs.Inside.{KnowsReady}
use Rattle.tn_tile.specs.Kept.{HasPlace, IsFit, OutFits}
use Rattle.tn_tile.specs.Passes.{Wakes}
use Rattle.tn_tile.specs.Ready.{LooksAt}
use Rattle.tn_tile.specs.Receivers.{dead_in, is_dead}
use Rattle.tn_tile.specs.Rows.{accept_row, came, delivered_from, passed, told, with_node}
use Rattle.tn_tile.specs.Step.{can_step, no_thread, pending_at, steps_of, thread_at}
use Rattle.tn_tile.specs.TileView.{TilePlan, TileState, TileView, with_now}
use Rattle.tn_tile.proofs.Ended.{turned_dead}
use Rattle.tn_tile.proofs.Elsewhere.{same_step, steps_other}
use Rattle.tn_tile.proofs.Marked.{marks_look, marks_write}
use Rattle.tn_tile.proofs.Moved.{steps_fit}
use Rattle.tn_tile.proofs.Packets.{Accepts, Drops, PassedOn, accept_is, accepts, delivered_fits, passed_drops, passed_fits, passed_on}
use Rattle.tn_tile.proofs.Shaped.{has_place, out_set, threads_told}

-- after steps of the thread at a place its bit alone is written
pub turned_known : (v : TileView) (k n word new dead new_dead : ℕ) (t : TileState) → k < tile_threads v.plan.shape → KnowsReady v word dead → steps_of v.plan k n v.now ≡ Some t → (bit_at new k == 1) ≡ can_step v.plan.shape.fuel k t
    → ((i : ℕ) → i < 64 → i ≢ k → bit_at new i ≡ bit_at word i) → new_dead ≡ cond (is_dead (thread_at t k).state) (with_bit dead k) dead → KnowsReady (with_now v t) new new_dead
turned_known v k n word new dead new_dead t h w steps written others ends = record {
  shaped = record { tile = w.shaped.tile; fits = steps_fit n v.plan k v.now t h steps w.shaped.fits };
  few = w.few;
  ready = marks_write (λ j. can_step v.plan.shape.fuel j v.now) (λ j. can_step v.plan.shape.fuel j t) word new k w.ready written others
      (λ j ne. same_step v.plan.shape.fuel j v.now t (steps_other n v.plan k j v.now t ne steps));
  dead = ends ∙ turned_dead (is_dead (thread_at t k).state) n v.plan k dead v.now t (rw w.shaped.fits.threads.count h) (rw w.shaped.fits.threads.count w.few) w.dead steps refl;
}

-- a delivery takes the packet from its place, and passes it on
pub delivered_on : (plan : TilePlan) (k : ℕ) (o : Option Packet) (s t : TileState) → delivered_from plan k o s ≡ Some t → PassedOn (record s { pending = slice_set s.pending k None }) t
delivered_on plan k None s t e = cc e
delivered_on plan k (Some p) s t e = passed_on plan p (record s { pending = slice_set s.pending k None }) t e

not_named : (places set k j : ℕ) → k < 64 → places ≡ with_bit set k → bit_at places j ≡ 0 → (j ≡ k → ⊥)
not_named places set k j h is none e =
    let one : bit_at places j ≡ 1 = rw (is, e) (with_same set k h) in
    cc (one, none)

-- after a delivery the bits of the sender and of the receivers are looked at
pub delivered_known : (v : TileView) (k word new dead set places : ℕ) (t : TileState) → k < tile_threads v.plan.shape → k < 64 → KnowsReady v word dead → delivered_from v.plan k (pending_at v.now k) v.now ≡ Some t → Wakes set v.now.pool t.pool → places ≡ with_bit set k
    → LooksAt word new places (λ j. can_step v.plan.shape.fuel j t) → KnowsReady (with_now v t) new dead
delivered_known v k word new dead set places t h few w row wakes is looks =
    let on : PassedOn (record v.now { pending = slice_set v.now.pending k None }) t = delivered_on v.plan k (pending_at v.now k) v.now t row in
    record {
      shaped = record { tile = w.shaped.tile; fits = delivered_fits v.plan k (pending_at v.now k) v.now t refl row w.shaped.fits };
      few = w.few;
      ready = marks_look (λ j. can_step v.plan.shape.fuel j v.now) (λ j. can_step v.plan.shape.fuel j t) word new places w.ready looks
          (λ j small none.
          let ne = not_named places set k j few is none in
          let out : bit_at set j ≡ 0 = sym (with_other set k j few ne) ∙ ap (λ m. bit_at m j) (sym is) ∙ none in
          same_step v.plan.shape.fuel j v.now t (record {
            thread = ap (λ ts. get_or ts j no_thread) on.threads;
            pending = ap (λ ps. get_or ps j None) on.pending ∙ get_or-set_other v.now.pending k j None None ne;
            queue = wakes.kept j small out;
          }));
      dead = w.dead ∙ ap dead_in (sym on.threads);
    }

-- a packet that is taken from a link is passed on, and counted
pub record Came (plan : TilePlan) (p : Packet) (s t : TileState) : Type 0 where
  pub mid : TileState
  pub fits : IsTrue (has_packet plan.shape p)
  pub row : passed plan p s ≡ Some mid
  pub is : t ≡ came mid

accepted_by : (plan : TilePlan) (p : Packet) (s t : TileState) (o : Option TileState) → Accepts plan p s → passed plan p s ≡ o → accept_row plan p s ≡ Some t → Came plan p s t
accepted_by plan p s t None a e h = let some = a.some in cc (e, some)
accepted_by plan p s t (Some m) a e h = record { mid = m; fits = a.fits; row = e; is = let row = accept_is plan p s m a e in cc (row, h) }

pub came_by : (plan : TilePlan) (p : Packet) (s t : TileState) → accept_row plan p s ≡ Some t → Came plan p s t
came_by plan p s t h = accepted_by plan p s t (passed plan p s) (accepts plan p s (ap is_some h)) refl h

pub accepted_fits : (plan : TilePlan) (p : Packet) (s t : TileState) → accept_row plan p s ≡ Some t → IsFit plan s → IsFit plan t
accepted_fits plan p s t h w =
    let c : Came plan p s t = came_by plan p s t h in
    let mid : IsFit plan c.mid = passed_fits plan p s c.mid c.fits c.row w in
    subst (IsFit plan) (sym c.is) (record { threads = mid.threads; pool = mid.pool; pending = mid.pending; out = mid.out })

pub accepted_drops : (plan : TilePlan) (p : Packet) (s t : TileState) → length s.threads ≤ 64 → accept_row plan p s ≡ Some t → Drops s t
accepted_drops plan p s t few h =
    let c : Came plan p s t = came_by plan p s t h in
    let d : Drops s c.mid = passed_drops plan p s c.mid few c.row in
    subst (Drops s) (sym c.is) (record { more = d.more; few = d.few })

-- after a packet came from a link the bits of its receivers are looked at
pub accepted_known : (v : TileView) (p : Packet) (word new dead set : ℕ) (t : TileState) → KnowsReady v word dead → accept_row v.plan p v.now ≡ Some t → Wakes set v.now.pool t.pool → LooksAt word new set (λ j. can_step v.plan.shape.fuel j t) → KnowsReady (with_now v t) new dead
accepted_known v p word new dead set t w row wakes looks =
    let c : Came v.plan p v.now t = came_by v.plan p v.now t row in
    let on : PassedOn v.now c.mid = passed_on v.plan p v.now c.mid c.row in
    let threads : t.threads ≡ v.now.threads = ap (λ (x : TileState). x.threads) c.is ∙ on.threads in
    let pending : t.pending ≡ v.now.pending = ap (λ (x : TileState). x.pending) c.is ∙ on.pending in
    record {
      shaped = record { tile = w.shaped.tile; fits = accepted_fits v.plan p v.now t row w.shaped.fits };
      few = w.few;
      ready = marks_look (λ j. can_step v.plan.shape.fuel j v.now) (λ j. can_step v.plan.shape.fuel j t) word new set w.ready looks
          (λ j small none. same_step v.plan.shape.fuel j v.now t (record {
            thread = ap (λ ts. get_or ts j no_thread) threads;
            pending = ap (λ ps. get_or ps j None) pending;
            queue = wakes.kept j small none;
          }));
      dead = w.dead ∙ ap dead_in (sym threads);
    }

-- the places of a set have what a look needs
pub has_places : (plan : TilePlan) (set : ℕ) (s t : TileState) → IsFit plan s → IsFit plan t → Wakes set s.pool t.pool → (k : ℕ) → k < 64 → bit_at set k ≡ 1 → HasPlace k t
has_places plan set s t old new wakes k small one = has_place plan k t (rw (← old.pool.queues) (wakes.within k small one)) new

-- the same, where one more place is named
pub named_places : (plan : TilePlan) (places set at : ℕ) (s t : TileState) → at < tile_threads plan.shape → at < 64 → places ≡ with_bit set at → IsFit plan s → IsFit plan t → Wakes set s.pool t.pool → (k : ℕ) → k < 64 → bit_at places k ≡ 1 → HasPlace k t
named_places plan places set at s t h small is old new wakes k below one = elim (cases_eq k at) [
  | inl e ↦ rw e (has_place plan at t h new)
  | inr ne ↦ has_places plan set s t old new wakes k below (sym (with_other set at k small ne) ∙ ap (λ m. bit_at m k) (sym is) ∙ one)
]

-- another node: its packets are those of the machine, on ways that a tile has
pub node_known : (v : TileView) (word dead : ℕ) (node : Node) → OutFits v.plan.shape node.out → KnowsReady v word dead → KnowsReady (with_now v (with_node v.now node)) word dead
node_known v word dead node fits w =
    let f = w.shaped.fits in
    record { shaped = record { tile = w.shaped.tile; fits = record { threads = f.threads; pool = f.pool; pending = f.pending; out = fits } }; few = w.few; ready = record { each = w.ready.each }; dead = w.dead }

departed_by : (o : Option Packet) (way : Port) (n m : Node) → departed_with o way n ≡ Some m → departed way n ≡ m
departed_by None way n m e = cc e
departed_by (Some p) way n m e = by (int_lt n.counter (pos (2 ^ 63) -ℤ pos 1)) e where
  by : (b : Bool) → cond b (Some (departed way n)) None ≡ Some m → departed way n ≡ m
  by true q = cc q
  by false q = cc q

pub departed_is : (way : Port) (n m : Node) → node_departs way n ≡ Some m → departed way n ≡ m
departed_is way n m e = departed_by (offered way n) way n m e

pub departed_out : (n : ShapeNumbers) (way : Port) (old new : Node) → node_departs way old ≡ Some new → OutFits n old.out → OutFits n new.out
departed_out n way old new e w = subst (λ (m : Node). OutFits n m.out) (departed_is way old new e) (out_set n way None old.out tt w)

pub departed_known : (v : TileView) (way : Port) (word dead : ℕ) (node : Node) → node_departs way v.now.node ≡ Some node → KnowsReady v word dead → KnowsReady (with_now v (with_node v.now node)) word dead
departed_known v way word dead node e w = node_known v word dead node (departed_out v.plan.shape way v.now.node node e w.shaped.fits.out) w

-- after a release all bits are looked at
pub told_fits : (plan : TilePlan) (value : ℕ) (node : Node) (s : TileState) → node.out ≡ s.node.out → IsFit plan s → IsFit plan (record s { threads = map (told value) s.threads; node = node })
told_fits plan value node s e w = record {
  threads = threads_told plan.shape plan.tile s.threads value w.threads;
  pool = w.pool;
  pending = w.pending;
  out = subst (OutFits plan.shape) (sym e) w.out;
}
