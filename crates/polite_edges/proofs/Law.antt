-- The law of edges.
use Rattle.std.proofs.Common.{ℕ, ◌≡◌, true, false, cond, Bool, List, [], refl, sym, ◌∙◌, subst, inl, arith, Option, None}
use Rattle.rv_isa.specs.declared.instr.Instr.{Instr}
use Rattle.polite_switch.specs.Table.{fresh_switch}
use Rattle.tn_base.specs.declared.message.Letter.{Letter}
use Rattle.tn_base.proofs.Limits.{within_limits}
use Rattle.tn_base.proofs.Places.{orders_threads}
use Rattle.tn_keys.specs.Reach.{Reach}
use Rattle.tn_thread.specs.declared.thread.Thread.{Thread}
use Rattle.tn_letters.specs.declared.steps.BagStep.{BagStep}
use Rattle.tn_letters.specs.Machine.{BagRun}
use Rattle.tn_letters.specs.State.{BagState, Program}
use Rattle.polite_edges.specs.Layout.{AllRouted, IsPlaced, Layout}
use Rattle.polite_edges.specs.Runs.{EveryEdgeHasEachSendOnce, EveryLogIsEven, EveryRunIsLawful, FewSteps, GraphRun, IsFreshThread, IsGraphStart, deeds_in, deeds_of}
use Rattle.polite_edges.proofs.Joining.{Ended, Inv, Premises, Shows, program, run_ends, world}
use Rattle.polite_edges.proofs.Keeps.{Starting, starts, starts_late}
use Rattle.polite_edges.proofs.Nodes.{Going, Node}
use Rattle.polite_edges.proofs.Numbers.{start_numbers}
use Rattle.polite_edges.proofs.Once.{once_at_rest}
use Rattle.polite_edges.proofs.Shown.{CarriedBy, Carries, Shown, StateShown}
use Rattle.polite_edges.proofs.Threads.{Listed}

-- the nodes at the start
abbrev first_node : Layout → ℕ → Node
first_node g a = record { switch = fresh_switch (g.devices a) (g.in_edges a); status = Going; given = 0; sends = 0; hand = None }

none_either : (b : Bool) → cond b (let x : Option Letter = None in x) None ≡ None
none_either true = refl
none_either false = refl

fresh_shown : (g : Layout) (a : ℕ) (t : Thread) (held : ℕ → Option Letter) → IsFreshThread g a t → ((slot : ℕ) → held slot ≡ None) → Shown t held (first_node g a)
fresh_shown g a t held f none =
    let c : Carries t held (first_node g a) = record { firmware = f.firmware; switch = f.switch; sends = sym f.sends; few = (let e = f.sends in omega arith); holds = λ slot. none slot ∙ sym (none_either _) } in
    record {
      state = subst (λ st. StateShown st t (first_node g a)) (sym f.state) (refl, sym f.given, inl f.given);
      carries = subst (λ st. CarriedBy st t held (first_node g a)) (sym f.state) c;
    }

-- a run of a machine whose numbers are those of the layout
pub record RunOver (g : Layout) (m : Program) (start end : BagState) (steps : List BagStep) (run : BagRun m start steps end) : Type 0 where
  pub ends : Ended g (deeds_in m start steps end run)

over_program : (g : Layout) (code : ℕ → List (Option Instr)) (reach : Reach) (start end : BagState) (steps : List BagStep) (run : BagRun (program g code reach) start steps end) →
    IsPlaced g → AllRouted g → IsGraphStart g (program g code reach) start → FewSteps g end → RunOver g (program g code reach) start end steps run
over_program g code reach start end steps run placed all begins few =
    let listed : Listed g.shape = orders_threads g.shape (within_limits g.shape begins.machine) in
    let p : Premises g code reach = record { routed = all; listed = listed; code_ends = begins.code; reach_is = begins.reach; host = begins.host } in
    let w = world start.flight (first_node g) [] in
    let s : Starting g w = record { flight = begins.flight; nodes = λ a has. record { switch = refl; status = refl; given = refl; hand = refl }; deeds = refl } in
    let i : Inv g w = record { fine = starts g listed w placed s; late = starts_late g w s; numbers = start_numbers g w s } in
    let sh : Shows g start (first_node g) = record { nodes = λ a has. fresh_shown g a (start.threads a) (start.held a) (begins.threads a has) (λ slot. begins.held a slot has); script = begins.script } in
    record { ends = run_ends g code reach steps start end (first_node g) [] p few i sh run }

program_is : (g : Layout) (m : Program) → m.shape ≡ g.shape → program g m.code m.reach ≡ m
program_is g m e = λ i. record { shape = sym e i; code = m.code; reach = m.reach }

run_over : (g : Layout) (m : Program) (start end : BagState) (steps : List BagStep) (r : GraphRun g m start end steps) → Ended g (deeds_of g m start end steps r)
run_over g m start end steps r =
    (subst (λ (x : Program). (run : BagRun x start steps end) → IsGraphStart g x start → RunOver g x start end steps run) (program_is g m r.begins.shape)
    (λ run begins. over_program g m.code m.reach start end steps run r.placed r.routed begins r.few) r.run r.begins).ends

pub every_run_is_lawful : EveryRunIsLawful
every_run_is_lawful g m start end steps r = (run_over g m start end steps r).inv.fine.lawful

pub every_log_is_even : EveryLogIsEven
every_log_is_even g m start end steps r = (run_over g m start end steps r).inv.numbers.even

pub every_edge_once : EveryEdgeHasEachSendOnce
every_edge_once g m start end steps r apart = once_at_rest g apart (deeds_of g m start end steps r) (every_log_is_even g m start end steps r)
