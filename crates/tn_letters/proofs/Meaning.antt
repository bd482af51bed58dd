-- Each run of a machine from its start is a run of the bag machine.
use Rattle.std.proofs.Common.{ℕ, ◌≡◌, ◌++◌, List, [], ◌∷◌, refl, sym, ap, subst, arith, Bool, true, false, Option, Some, option_map, unwrap_or}
use Rattle.std.specs.Prelude.{count_by, nat_lt}
use Rattle.tn_base.specs.declared.event.Event.{Event}
use Rattle.tn_base.specs.declared.event.Event.TheVariants as event
use Rattle.tn_base.specs.declared.message.Letter.{Letter}
use Rattle.tn_base.specs.Parts.{visited}
use Rattle.tn_node.specs.Deed as deed
use Rattle.tn_quiet.specs.Law.{IsQuietWorld}
use Rattle.tn_quiet.proofs.Runs.{event_quiet}
use Rattle.tn_rows.specs.Events.{happened}
use Rattle.tn_rows.specs.PartView.{PartView}
use Rattle.tn_rows.specs.Places.{detector_part, two_if}
use Rattle.tn_rows.specs.Runs.{Run, Walk}
use Rattle.tn_rows.specs.WorldView.{WorldView}
use Rattle.tn_letters.specs.declared.steps.BagStep.{BagStep}
use Rattle.tn_letters.specs.Law.{IsBagRun, IsStart}
use Rattle.tn_letters.specs.Machine.{BagRun}
use Rattle.tn_letters.specs.State.{BagState, Program}
use Rattle.tn_letters.specs.Steps.{bag_of, event_steps, meeting_steps, part_steps, steps_at}
use Rattle.tn_letters.specs.Tiles.{program_of, reach_of}
use Rattle.tn_letters.proofs.Announced.{announce_arrives}
use Rattle.tn_letters.proofs.Arrives.{Arrives, arrives_join, arrives_none, arrives_reached, arrives_silent, later, state}
use Rattle.tn_letters.proofs.Calm.{quiet_start}
use Rattle.tn_letters.proofs.Carried.{plain_reached}
use Rattle.tn_letters.proofs.Detected.{alone, confirm_paired, go_paired, release_paired, report_paired}
use Rattle.tn_letters.proofs.GoodParts.{event_good}
use Rattle.tn_letters.proofs.Lift.{Good}
use Rattle.tn_letters.proofs.Settling.{bag_is}
use Rattle.tn_letters.proofs.Silent.{Silent, begin_silent, confirm_silent, go_silent, release_silent, report_silent}
use Rattle.tn_letters.proofs.Starts.{good_start, sum_nothing}
use Rattle.tn_letters.proofs.Walks.{Plain, run_walk}

plain_arrives : (got : ℕ → List Letter) (dropped : List Letter) (k : ℕ) (e : Event) (w new : WorldView) → Plain e → Good w → IsQuietWorld w → happened e w ≡ Some new → Arrives got dropped k w (event_steps e w) new
plain_arrives got dropped k e w new plain g q h = arrives_reached got dropped k w new (event_steps e w) (plain_reached got dropped e w new plain g q (event_good e w new g q h) h)

-- an event on a part and the detector is no step
no_steps : (e : Event) (w : WorldView) (b : Bool) (p : ℕ) → ((low high : Option PartView) → meeting_steps (reach_of w) e low high ≡ []) → steps_at e w (two_if b p (detector_part w.shape)) ≡ []
no_steps e w true p none = none _ _
no_steps e w false p none = refl

silent_arrives : (got : ℕ → List Letter) (dropped : List Letter) (k : ℕ) (w new : WorldView) (steps : List BagStep) → steps ≡ [] → Silent w new → Arrives got dropped k w steps new
silent_arrives got dropped k w new steps none s = subst (λ (x : List BagStep). Arrives got dropped k w x new) (sym none) (arrives_silent got dropped k w new s)

pub event_arrives : (got : ℕ → List Letter) (dropped : List Letter) (k : ℕ) (e : Event) (w new : WorldView) → Good w → IsQuietWorld w → happened e w ≡ Some new → Arrives got dropped k w (event_steps e w) new
event_arrives got dropped k (event.Turn t n) w new g q h = plain_arrives got dropped k (event.Turn t n) w new tt g q h
event_arrives got dropped k (event.Deliver t) w new g q h = plain_arrives got dropped k (event.Deliver t) w new tt g q h
event_arrives got dropped k (event.Depart p l) w new g q h = plain_arrives got dropped k (event.Depart p l) w new tt g q h
event_arrives got dropped k (event.Arrive l p) w new g q h = plain_arrives got dropped k (event.Arrive l p) w new tt g q h
event_arrives got dropped k (event.Route p) w new g q h = plain_arrives got dropped k (event.Route p) w new tt g q h
event_arrives got dropped k event.HostPut w new g q h = plain_arrives got dropped k event.HostPut w new tt g q h
event_arrives got dropped k event.HostTake w new g q h = plain_arrives got dropped k event.HostTake w new tt g q h
event_arrives got dropped k (event.Report p) w new g q h =
    silent_arrives got dropped k w new _ (no_steps (event.Report p) w (nat_lt p.0 (visited w.shape)) p.0 (λ low high. refl)) (report_silent w new p.0 (report_paired p w new g q h))
event_arrives got dropped k event.Begin w new g q h =
    let a = alone event.Begin deed.Begin w new g h refl in
    silent_arrives got dropped k w new _ (ap (part_steps (reach_of w) event.Begin) a.read) (begin_silent w new a)
event_arrives got dropped k (event.Confirm p) w new g q h =
    silent_arrives got dropped k w new _ (no_steps (event.Confirm p) w (nat_lt p.0 (visited w.shape)) p.0 (λ low high. refl)) (confirm_silent w new p.0 (confirm_paired p w new g q h))
event_arrives got dropped k event.Announce w new g q h = announce_arrives got dropped k w new g q h
event_arrives got dropped k (event.Release p) w new g q h =
    silent_arrives got dropped k w new _ (no_steps (event.Release p) w (nat_lt p.0 (visited w.shape)) p.0 (λ low high. refl)) (release_silent w new p.0 g q (release_paired p w new g q h))
event_arrives got dropped k (event.Go p) w new g q h =
    silent_arrives got dropped k w new _ (no_steps (event.Go p) w (nat_lt p.0 (visited w.shape)) p.0 (λ low high. refl)) (go_silent w new p.0 (go_paired p w new g q h))

walk_arrives : (got : ℕ → List Letter) (dropped : List Letter) (k : ℕ) (es : List Event) (w end : WorldView) → Good w → IsQuietWorld w → Walk w es end → Arrives got dropped k w (bag_of w es) end
walk_arrives got dropped k [] w end g q walk = subst (λ (x : WorldView). Arrives got dropped k w [] x) walk (arrives_none got dropped k w)
walk_arrives got dropped k (e ∷ es) w end g q walk =
    let one = event_arrives got dropped k e w walk.0 g q walk.1 in
    let rest = walk_arrives one.now one.gone one.more es walk.0 end (event_good e w walk.0 g q walk.1) (event_quiet e w walk.0 g.limits q walk.1) walk.2 in
    subst (λ (steps : List BagStep). Arrives got dropped k w (event_steps e w ++ steps) end) (sym (ap (λ (o : Option WorldView). unwrap_or (option_map (λ mid. bag_of mid es) o) []) walk.1))
    (arrives_join got dropped k w walk.0 end (event_steps e w) (bag_of walk.0 es) one rest)

pub bag_run : (start : WorldView) (history : List Event) (end : WorldView) → IsStart start → Run start history end → IsBagRun start history end
bag_run start history end s run =
    let g = good_start start s in
    let r = walk_arrives (λ a. []) [] 0 history start end g (quiet_start start s g) (run_walk start end history run) in
    let same : end.shape ≡ start.shape = ap (λ (m : Program). m.shape) r.program in
    let none = sum_nothing start.shape start.parts s.parts in
    let is = bag_is end in
    record {
      state = state r.now r.gone r.more end;
      run = subst (λ (b : BagState). BagRun (program_of start) b (bag_of start history) (state r.now r.gone r.more end)) (ap (later 0) (bag_is start)) r.run;
      shows = record {
        threads = λ a h. ap (λ (b : BagState). b.threads a) is;
        held = λ a slot h. ap (λ (b : BagState). b.held a slot) is;
        flight = record { each = λ test. ap (λ (b : BagState). count_by test b.flight) is };
        host = ap (λ (b : BagState). b.host) is;
        script = ap (λ (b : BagState). b.script) is;
        host_sends = ap (λ (b : BagState). b.host_sends) is;
        dropped = let c = r.count in omega arith;
      };
    }
