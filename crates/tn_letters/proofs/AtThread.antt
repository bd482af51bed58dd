-- Bag states that agree at one thread: what the steps of the thread make of them.
use Rattle.std.proofs.Common.{ℕ, ◌≡◌, ◌∙◌, List, [], ◌∷◌, refl, sym, ap, subst, Option, Some, None}
use Rattle.std.specs.Prelude.{map, unwrap_or}
use Rattle.tn_base.specs.declared.message.Letter.{Letter}
use Rattle.tn_base.specs.declared.op.Op.{Op}
use Rattle.tn_base.specs.declared.op.Op.TheVariants as op
use Rattle.tn_thread.specs.Step.{Stepped}
use Rattle.tn_tile.specs.Step.{next_step, step_at_place}
use Rattle.tn_tile.specs.TileView.{TileView}
use Rattle.tn_rows.specs.WorldView.{WorldView}
use Rattle.tn_letters.specs.declared.steps.BagStep.{BagStep}
use Rattle.tn_letters.specs.declared.steps.BagStep.TheVariants as bag
use Rattle.tn_letters.specs.declared.steps.Seen.{Seen}
use Rattle.tn_letters.specs.Machine.{ended_by, own_step, with_own_step}
use Rattle.tn_letters.specs.Moved.{moved}
use Rattle.tn_letters.specs.State.{BagState, Program, put}
use Rattle.tn_letters.specs.Steps.{dropped_by, first_letter, queued, seen_at, step_by, thread_step}
use Rattle.tn_letters.specs.Tiles.{program_of}
use Rattle.tn_letters.proofs.Agreeing.{Listed, agrees_refl, all_moved, put_agrees, run_moves, sight_with}
use Rattle.tn_letters.proofs.Simulate.{Place, Reached, shown}

-- two states have the same thread at an address, which holds the same
pub record At (a : ℕ) (s t : BagState) : Type 0 where
  pub thread : s.threads a ≡ t.threads a
  pub held : s.held a ≡ t.held a

pub own_at : (m : Program) (a : ℕ) (seen : Seen) (s t : BagState) → At a s t → own_step m a seen s ≡ own_step m a seen t
own_at m a seen s t x = λ i. next_step (m.code a) (sight_with seen (x.held i)) (x.thread i)

with_own_at : (m : Program) (a : ℕ) (seen : Seen) (s t : BagState) → At a s t → At a (with_own_step m a seen s) (with_own_step m a seen t)
with_own_at m a seen s t x = record {
  thread = put_agrees s.threads t.threads a a (own_step m a seen s).thread (own_step m a seen t).thread (ap (λ (r : Stepped). r.thread) (own_at m a seen s t x)) x.thread;
  held = x.held;
}

ended_at : (o : Op) (a : ℕ) (s t : BagState) → At a s t → At a (ended_by o a s) (ended_by o a t)
ended_at op.None a s t x = x
ended_at (op.Send to bytes) a s t x = x
ended_at op.Hand a s t x = x
ended_at (op.Free slot) a s t x = x
ended_at (op.Idle vote) a s t x = x
ended_at (op.Kill value) a s t x = record { thread = x.thread; held = put_agrees s.held t.held a a (λ slot. None) (λ slot. None) refl x.held }
ended_at (op.Trap why) a s t x = x

private_at : (m : Program) (a : ℕ) (seen : Seen) (s t : BagState) → At a s t → At a (moved m (bag.Private a seen) s) (moved m (bag.Private a seen) t)
private_at m a seen s t x =
    let one = ended_at (own_step m a seen s).op a (with_own_step m a seen s) (with_own_step m a seen t) (with_own_at m a seen s t x) in
    subst (λ q. At a (ended_by (own_step m a seen s).op a (with_own_step m a seen s)) (ended_by q a (with_own_step m a seen t))) (ap (λ (r : Stepped). r.op) (own_at m a seen s t x)) one

slot_at_same : (a slot : ℕ) (l : Option Letter) (s t : BagState) → At a s t → put s.held a (put (s.held a) slot l) a ≡ put t.held a (put (t.held a) slot l) a
slot_at_same a slot l s t x = put_agrees s.held t.held a a (put (s.held a) slot l) (put (t.held a) slot l) (ap (λ (f : ℕ → Option Letter). put f slot l) x.held) x.held

-- a step of a thread keeps this
pub moved_at : (m : Program) (a : ℕ) (seen : Seen) (l : Letter) (o : Op) (s t : BagState) → At a s t → At a (moved m (step_by a seen l o) s) (moved m (step_by a seen l o) t)
moved_at m a seen l op.None s t x = private_at m a seen s t x
moved_at m a seen l (op.Send to bytes) s t x = with_own_at m a seen s t x
moved_at m a seen l op.Hand s t x = record { thread = (with_own_at m a seen s t x).thread; held = slot_at_same a (unwrap_or seen.first 0) (Some l) s t x }
moved_at m a seen l (op.Free slot) s t x = record { thread = (with_own_at m a seen s t x).thread; held = slot_at_same a slot None s t x }
moved_at m a seen l (op.Idle vote) s t x = with_own_at m a seen s t x
moved_at m a seen l (op.Kill value) s t x = private_at m a seen s t x
moved_at m a seen l (op.Trap why) s t x = private_at m a seen s t x

-- letters that are dropped move nothing
drops_move : (m : Program) (s : BagState) (ls : List Letter) → all_moved m s (map bag.Discard ls) ≡ s
drops_move m s [] = refl
drops_move m s (l ∷ ls) = drops_move m s ls

dropped_moves : (m : Program) (s : BagState) (ls : List Letter) (o : Op) → all_moved m s (dropped_by ls o) ≡ s
dropped_moves m s ls op.None = refl
dropped_moves m s ls (op.Send to bytes) = refl
dropped_moves m s ls op.Hand = refl
dropped_moves m s ls (op.Free slot) = refl
dropped_moves m s ls (op.Idle vote) = refl
dropped_moves m s ls (op.Kill value) = drops_move m s ls
dropped_moves m s ls (op.Trap why) = refl

-- what the thread at a place asks for
abbrev pub own_op : ℕ → TileView → Op
own_op k v = (step_at_place v.plan.code k v.now).op

-- what the machine shows of the thread after one step
pub step_shows : (got : ℕ → List Letter) (gone : List Letter) (w mid : WorldView) (p a k : ℕ) (v : TileView) → Listed w.shape → Place w p v a k → (r : Reached got gone w (thread_step a k v) mid) →
    At a (moved (program_of w) (step_by a (seen_at v k) (first_letter v k) (own_op k v)) (shown got gone w)) (shown r.now r.gone mid)
step_shows got gone w mid p a k v o c r =
    let m : Program = program_of w in
    let step : BagStep = step_by a (seen_at v k) (first_letter v k) (own_op k v) in
    let e = run_moves m (thread_step a k v) (shown got gone w) (shown got gone w) (shown r.now r.gone mid) o (agrees_refl m.shape (shown got gone w)) r.run in
    let same : all_moved m (shown got gone w) (thread_step a k v) ≡ moved m step (shown got gone w) = dropped_moves m (moved m step (shown got gone w)) (queued v k) (own_op k v) in
    record {
      thread = ap (λ (s : BagState). s.threads a) (sym same) ∙ e.threads a c.stands.there;
      held = ap (λ (s : BagState). s.held a) (sym same) ∙ e.held a c.stands.there;
    }

pub at_then : (a : ℕ) (s t u : BagState) → At a s t → At a t u → At a s u
at_then a s t u x y = record { thread = x.thread ∙ y.thread; held = x.held ∙ y.held }
