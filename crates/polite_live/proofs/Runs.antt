-- The end of a run of the machine of a graph: what the bag machine's run says holds of it.
use Rattle.std.proofs.Common.{ℕ, zero, suc, ◌≤◌, ◌≡◌, ◌∙◌, true, false, cond, Bool, List, [], ◌∷◌, get_or, map, refl, sym, ap, subst, inl, arith, IsTrue, Option, None}
use Rattle.std.proofs.lemmas.Bool.{cond_both}
use Rattle.polite_switch.specs.Table.{fresh_switch}
use Rattle.rv_isa.specs.declared.instr.Instr.{Instr}
use Rattle.tn_base.specs.declared.event.Event.{Event}
use Rattle.tn_base.specs.declared.message.Letter.{Letter}
use Rattle.tn_base.specs.declared.shape.ShapeNumbers.{ShapeNumbers}
use Rattle.tn_base.specs.Address.{has_thread, place_in_tile, tile_threads}
use Rattle.tn_base.proofs.Limits.{within_limits}
use Rattle.tn_base.proofs.Places.{orders_threads}
use Rattle.tn_base.proofs.TilePlaces.{place_below}
use Rattle.tn_detect.specs.Notes.{value_of}
use Rattle.tn_keys.specs.Reach.{Reach}
use Rattle.tn_quiet.specs.Law.{IsQuietWorld}
use Rattle.tn_quiet.proofs.Runs.{event_quiet}
use Rattle.tn_rows.specs.PartView.{PartView, TileV, RouterV, LinkV, HostV, DetectorV, AbsentV}
use Rattle.tn_rows.specs.Runs.{Walk}
use Rattle.tn_rows.specs.Visited.{released_part}
use Rattle.tn_rows.specs.WorldView.{WorldView}
use Rattle.tn_thread.specs.declared.thread.Thread.{Thread}
use Rattle.tn_thread.specs.Step.{is_idle}
use Rattle.tn_tile.specs.Rows.{told}
use Rattle.tn_tile.specs.Step.{no_thread}
use Rattle.tn_letters.specs.declared.steps.BagStep.{BagStep}
use Rattle.tn_letters.specs.Law.{IsBagRun}
use Rattle.tn_letters.specs.Machine.{BagRun}
use Rattle.tn_letters.specs.Settled.{detector_on, settled}
use Rattle.tn_letters.specs.Standing.{bag_at}
use Rattle.tn_letters.specs.State.{BagState, Program}
use Rattle.tn_letters.specs.Steps.{bag_of}
use Rattle.tn_letters.specs.Tiles.{part_for, program_of, thread_in, thread_of, tile_in}
use Rattle.tn_letters.proofs.Calm.{quiet_start}
use Rattle.tn_letters.proofs.Empty.{seat}
use Rattle.tn_letters.proofs.GoodParts.{event_good, walk_good}
use Rattle.tn_letters.proofs.Lift.{Good, GoodTile, tile_on}
use Rattle.tn_letters.proofs.Meaning.{bag_run, event_arrives}
use Rattle.tn_letters.proofs.Settling.{settled_stays}
use Rattle.tn_letters.proofs.Starts.{good_start}
use Rattle.tn_letters.proofs.Walks.{run_walk}
use Rattle.polite_edges.specs.Histories.{GraphHistory, history_deeds}
use Rattle.polite_edges.specs.Layout.{AllRouted, IsPlaced, Layout}
use Rattle.polite_edges.specs.Runs.{FewSteps, GraphRun, IsFreshThread, IsGraphStart, deeds_in, deeds_of}
use Rattle.polite_edges.proofs.Joining.{Inv, Premises, Shows, program, world}
use Rattle.polite_edges.proofs.Keeps.{Starting, starts, starts_late}
use Rattle.polite_edges.proofs.Nodes.{Going, Node}
use Rattle.polite_edges.proofs.Numbers.{start_numbers}
use Rattle.polite_edges.proofs.Replaying.{agrees_refl, run_replays}
use Rattle.polite_edges.proofs.Shown.{CarriedBy, Carries, Shown, StateShown}
use Rattle.polite_edges.proofs.Threads.{Listed}
use Rattle.polite_live.proofs.Echo.{Echo, EndsWith, HoldsNothing, ThreadKept, run_echo}
use Rattle.polite_live.proofs.Steps.{WaitsSo}

-- ---- the start. The first three are private in `polite_edges` (`Law`)

-- the nodes at the start
abbrev first_node : Layout → ℕ → Node
first_node g a = record { switch = fresh_switch (g.devices a) (g.in_edges a); status = Going; given = 0; sends = 0; hand = None }

none_either : (b : Bool) → cond b (let x : Option Letter = None in x) None ≡ None
none_either true = refl
none_either false = refl

fresh_shown : (g : Layout) (a : ℕ) (t : Thread) (held : ℕ → Option Letter) → IsFreshThread g a t → ((slot : ℕ) → held slot ≡ None) → Shown t held (first_node g a)
fresh_shown g a t held f none =
    let c : Carries t held (first_node g a) = record { firmware = f.firmware; switch = f.switch; sends = sym f.sends; few = (let e = f.sends in omega arith); holds = λ slot. none slot ∙ sym (none_either _) } in
    record {
      state = subst (λ st. StateShown st t (first_node g a)) (sym f.state) (refl, sym f.given, inl f.given);
      carries = subst (λ st. CarriedBy st t held (first_node g a)) (sym f.state) c;
    }

fresh_kept : (g : Layout) (a : ℕ) (t : Thread) (held : ℕ → Option Letter) → IsFreshThread g a t → ThreadKept t held
fresh_kept g a t held f = record { waits = subst (λ st. WaitsSo st t.switch) (sym f.state) tt; ended = subst (λ st. HoldsNothing st held) (sym f.state) tt }

-- ---- a run of the bag machine

-- a run of a machine whose numbers are those of the layout
pub record RunOver (g : Layout) (m : Program) (start end : BagState) (steps : List BagStep) (run : BagRun m start steps end) : Type 0 where
  pub ends : EndsWith g end (deeds_in m start steps end run)

over_program : (g : Layout) (code : ℕ → List (Option Instr)) (reach : Reach) (start end : BagState) (steps : List BagStep) (run : BagRun (program g code reach) start steps end) →
    IsPlaced g → AllRouted g → IsGraphStart g (program g code reach) start → FewSteps g end → RunOver g (program g code reach) start end steps run
over_program g code reach start end steps run placed all begins few =
    let listed : Listed g.shape = orders_threads g.shape (within_limits g.shape begins.machine) in
    let p : Premises g code reach = record { routed = all; listed = listed; code_ends = begins.code; reach_is = begins.reach; host = begins.host } in
    let w = world start.flight (first_node g) [] in
    let s : Starting g w = record { flight = begins.flight; nodes = λ a has. record { switch = refl; status = refl; given = refl; hand = refl }; deeds = refl } in
    let i : Inv g w = record { fine = starts g listed w placed s; late = starts_late g w s; numbers = start_numbers g w s } in
    let sh : Shows g start (first_node g) = record { nodes = λ a has. fresh_shown g a (start.threads a) (start.held a) (begins.threads a has) (λ slot. begins.held a slot has); script = begins.script } in
    let e : Echo g start (first_node g) [] = record {
      closes = λ a has. record { host = λ e. absurd cc; back = λ e. absurd cc; answered = λ v e. absurd cc };
      kept = record { threads = λ a has. fresh_kept g a (start.threads a) (start.held a) (begins.threads a has); quiet = λ two. absurd (omega arith) };
    } in
    record { ends = run_echo g code reach steps start end (first_node g) [] p few i sh e run }

program_is : (g : Layout) (m : Program) → m.shape ≡ g.shape → program g m.code m.reach ≡ m
program_is g m e = λ i. record { shape = sym e i; code = m.code; reach = m.reach }

run_over : (g : Layout) (m : Program) (start end : BagState) (steps : List BagStep) (r : GraphRun g m start end steps) → EndsWith g end (deeds_of g m start end steps r)
run_over g m start end steps r =
    (subst (λ (x : Program). (run : BagRun x start steps end) → IsGraphStart g x start → RunOver g x start end steps run) (program_is g m r.begins.shape)
    (λ run begins. over_program g m.code m.reach start end steps run r.placed r.routed begins r.few) r.run r.begins).ends

-- ---- a run of the machine. These are private in `polite_edges` (`Machines`)

-- a release leaves what a thread counted
pub map_told : (value : ℕ) (ts : List Thread) (k : ℕ) → get_or (map (told value) ts) k no_thread ≡ told value (get_or ts k no_thread)
map_told value [] k = refl
map_told value (t ∷ ts) zero = refl
map_told value (t ∷ ts) (suc k) = map_told value ts k

told_steps : (value : ℕ) (t : Thread) → (told value t).steps ≡ t.steps
told_steps value t = cond_both (is_idle t.state) _ _ (λ (u : Thread). u.steps ≡ t.steps) (λ e. refl) (λ e. refl)

part_steps : (k value : ℕ) (x : PartView) → (thread_in (tile_in (released_part value x)) k).steps ≡ (thread_in (tile_in x) k).steps
part_steps k value (TileV v) = ap (λ (t : Thread). t.steps) (map_told value v.now.threads k) ∙ told_steps value (get_or v.now.threads k no_thread)
part_steps k value (RouterV v) = refl
part_steps k value (LinkV v) = refl
part_steps k value (HostV s) = refl
part_steps k value (DetectorV v) = refl
part_steps k value AbsentV = refl

settled_steps : (w : WorldView) (a : ℕ) → (thread_of (settled w) a).steps ≡ (thread_of w a).steps
settled_steps w a = settled_stays (λ x. (thread_in (tile_in x) (place_in_tile w.shape a)).steps) (detector_on w).phase (value_of (detector_on w).answer) w.parts (part_for w a) (part_steps (place_in_tile w.shape a))

-- each thread made no more steps than its fuel
few_steps : (w : WorldView) (a : ℕ) → Good w → IsTrue (has_thread w.shape a) → (thread_of w a).steps ≤ w.shape.fuel
few_steps w a g there =
    let t = seat w a g there in
    let good : GoodTile w.shape (part_for w a) t.tile = tile_on w (part_for w a) t.tile g t.on in
    let is = good.shaped.fits.threads.each (place_in_tile w.shape a) (subst (λ (n : ShapeNumbers). suc (place_in_tile w.shape a) ≤ tile_threads n) (sym good.shape) (place_below w.shape a there)) in
    let steps = is.steps in
    let same = ap (λ (x : Thread). x.steps) t.thread in
    let fuel = ap (λ (n : ShapeNumbers). n.fuel) good.shape in
    omega arith

-- no event changes the shape
walk_shape : (es : List Event) (w end : WorldView) → Good w → IsQuietWorld w → Walk w es end → end.shape ≡ w.shape
walk_shape [] w end g q walk = ap (λ (x : WorldView). x.shape) (sym walk)
walk_shape (e ∷ es) w end g q walk =
    walk_shape es walk.0 end (event_good e w walk.0 g q walk.1) (event_quiet e w walk.0 g.limits q walk.1) walk.2
    ∙ ap (λ (m : Program). m.shape) (event_arrives (λ b. []) [] 0 e w walk.0 g q walk.1).program

-- the end of a run: its parts are good, and a state of the bag machine that it shows
pub record AtEnd (g : Layout) (start end : WorldView) (history : List Event) : Type 0 where
  pub good : Good end
  pub shape : g.shape ≡ end.shape
  pub bag : IsBagRun start history end
  pub ends : EndsWith g bag.state (history_deeds start history)

graph_run : (g : Layout) (start end : WorldView) (history : List Event) → GraphHistory g start end history → Good end → g.shape ≡ end.shape → (b : IsBagRun start history end) → GraphRun g (program_of start) (bag_at start) b.state (bag_of start history)
graph_run g start end history h good shape b = record {
  placed = h.placed;
  routed = h.routed;
  begins = h.begins;
  run = b.run;
  few = record {
    few = λ a has.
        let there = subst (λ (n : ShapeNumbers). IsTrue (has_thread n a)) shape has in
        let x = few_steps end a good there in
        let y = settled_steps end a in
        let z = ap (λ (t : Thread). t.steps) (b.shows.threads a there) in
        let f = good.limits.fuel in
        omega arith;
  };
}

deeds_are : (g : Layout) (start end : WorldView) (history : List Event) → (h : GraphHistory g start end history) → (good : Good end) (shape : g.shape ≡ end.shape) (b : IsBagRun start history end) → deeds_of g (program_of start) (bag_at start) b.state (bag_of start history) (graph_run g start end history h good shape b) ≡ history_deeds start history
unfolding graph_run
deeds_are g start end history h good shape b = run_replays (program_of start) (bag_of start history) (bag_at start) (bag_at start) b.state [] (orders_threads start.shape (within_limits start.shape h.start_is.shape)) (agrees_refl start.shape (bag_at start)) b.run

pub at_end : (g : Layout) (start end : WorldView) (history : List Event) → GraphHistory g start end history → AtEnd g start end history
at_end g start end history h =
    let first = good_start start h.start_is in
    let quiet = quiet_start start h.start_is first in
    let walk = run_walk start end history h.run in
    let good = walk_good history start end first quiet walk in
    let shape : g.shape ≡ end.shape = sym h.begins.shape ∙ sym (walk_shape history start end first quiet walk) in
    let b = bag_run start history end h.start_is h.run in
    record {
      good = good;
      shape = shape;
      bag = b;
      ends = subst (λ ds. EndsWith g b.state ds) (deeds_are g start end history h good shape b) (run_over g (program_of start) (bag_at start) b.state (bag_of start history) (graph_run g start end history h good shape b));
    }
