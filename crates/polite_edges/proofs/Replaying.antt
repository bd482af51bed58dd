-- The deeds of a run of the bag machine are those of its steps, from its start.
use Rattle.std.proofs.Common.{ℕ, ◌≡◌, ◌∙◌, true, List, [], ◌∷◌, refl, sym, ap, Option, Some}
use Rattle.tn_base.specs.declared.message.Letter.{Letter}
use Rattle.tn_base.specs.Address.{has_thread}
use Rattle.tn_thread.specs.declared.thread.Thread.{Thread}
use Rattle.tn_tile.specs.Step.{due_by, next_step}
use Rattle.tn_letters.specs.declared.steps.BagStep.{BagStep}
use Rattle.tn_letters.specs.declared.steps.BagStep.TheVariants as bag
use Rattle.tn_letters.specs.declared.steps.Seen.{Seen}
use Rattle.tn_letters.specs.Machine.{BagRun, Happens}
use Rattle.tn_letters.specs.State.{BagState, Program}
pub use Rattle.tn_letters.proofs.Agreeing.{Agrees, agrees_refl, answer_same, moved_agrees, of_same, put_agrees, step_moves, then}
use Rattle.polite_edges.specs.Deeds.{Announced, Deed, added}
use Rattle.polite_edges.specs.Histories.{moved, replayed}
use Rattle.polite_edges.specs.Runs.{deed_at, deeds_after, dispatch_deed, thread_deed}
use Rattle.polite_edges.proofs.Shown.{sight_with}
use Rattle.polite_edges.proofs.Threads.{Listed}

deed_same : (m : Program) (a : ℕ) (seen : Seen) (s t : BagState) → Agrees m.shape s t → has_thread m.shape a ≡ true → thread_deed m a seen s ≡ thread_deed m a seen t
deed_same m a seen s t x has = λ i.
    let u : Thread = x.threads a has i in
    let h : ℕ → Option Letter = x.held a has i in
    dispatch_deed (due_by u.state (m.code a) u) a u (h u.hand) (sight_with seen h) (next_step (m.code a) (sight_with seen h) u).op

at_same : (m : Program) (step : BagStep) (x s new : BagState) → Listed m.shape → Happens m step s new → Agrees m.shape x s → deed_at m step x ≡ deed_at m step s
at_same m (bag.Private a seen) x s new o h e = deed_same m a seen x s e h.0.there
at_same m (bag.Send a seen) x s new o h e = deed_same m a seen x s e h.0.there
at_same m (bag.Hand a seen l) x s new o h e = deed_same m a seen x s e h.0.there
at_same m (bag.Free a seen slot) x s new o h e = deed_same m a seen x s e h.0.there
at_same m (bag.Idle a seen vote) x s new o h e = deed_same m a seen x s e h.0.there
at_same m bag.Announce x s new o h e = ap (λ v. Some (Announced v)) (answer_same m.shape x s o e)
at_same m (bag.HostSend l) x s new o h e = refl
at_same m (bag.HostHand l) x s new o h e = refl
at_same m (bag.Discard l) x s new o h e = refl

pub run_replays : (m : Program) (steps : List BagStep) (x s end : BagState) (deeds : List Deed) → Listed m.shape → Agrees m.shape x s → (run : BagRun m s steps end) → deeds_after deeds m s steps end run ≡ replayed deeds m x steps
run_replays m [] x s end deeds o e run = refl
run_replays m (step ∷ steps) x s end deeds o e run =
    let before = then m.shape x s run.0 e (of_same m.shape s run.0 run.2) in
    let after = then m.shape (moved m step x) (moved m step run.0) run.1 (moved_agrees m step x run.0 run.1 o run.3 before) (step_moves m step run.0 run.1 run.3) in
    run_replays m steps (moved m step x) run.1 end (added (deed_at m step run.0) deeds) o after run.4
    ∙ ap (λ d. replayed (added d deeds) m (moved m step x) steps) (sym (at_same m step x run.0 run.1 o run.3 before))
