-- Along walks of a graph's job an event is enabled, if each tile serves; and a run that is not over goes on.
use Rattle.std.proofs.Common.{ℕ, ◌≡◌, ◌<◌, ◌^◌, refl, sym, subst, arith, List, length, get_or, inl, inr, Option, Some, None}
use Rattle.std.specs.Prelude.{◌⊎◌, IsSome}
use Rattle.std.proofs.lemmas.Bool.{cases_lt}
use Rattle.std.proofs.lemmas.List.{get_or_past}
use Rattle.tn_base.specs.declared.event.Event.{Event}
use Rattle.tn_base.specs.declared.event.Outcome.{Outcome}
use Rattle.tn_base.specs.declared.shape.ShapeNumbers.{ShapeNumbers}
use Rattle.tn_base.specs.Address.{tile_threads}
use Rattle.tn_keys.specs.Tables.{Table}
use Rattle.tn_letters.specs.Law.{IsStart}
use Rattle.tn_letters.specs.Tiles.{tables_of}
use Rattle.tn_letters.proofs.Calm.{quiet_start}
use Rattle.tn_letters.proofs.GoodParts.{walk_good}
use Rattle.tn_letters.proofs.Lift.{Good, GoodPart}
use Rattle.tn_letters.proofs.Starts.{good_start}
use Rattle.tn_letters.proofs.Walks.{run_walk}
use Rattle.tn_rows.specs.Ends.{final_after, last_of}
use Rattle.tn_rows.specs.PartView.{PartView, TileV, RouterV, LinkV, HostV, DetectorV, AbsentV}
use Rattle.tn_rows.specs.Runs.{Run, Walk}
use Rattle.tn_rows.specs.WorldView.{WorldView}
use Rattle.tn_slots.specs.Pool.{first_free}
use Rattle.tn_tile.specs.TileView.{TileView}
use Rattle.polite_flow.specs.Able.{HasStep}
use Rattle.polite_flow.specs.Always.{PartGoesOn}
use Rattle.polite_flow.specs.Flowing.{IsFlowStart}
use Rattle.polite_flow.specs.Sending.{AreSenders}
use Rattle.polite_flow.specs.Standing.{IsEnabled}
use Rattle.polite_flow.specs.Threads.{ThreadGoesOn}
use Rattle.polite_flow.proofs.Walked.{walks_go_on}
use Rattle.job_flow.specs.Serves.{PartServes}
use Rattle.job_flow.proofs.Carried.{walks_carry}
use Rattle.job_flow.proofs.Fuel.{AllFuel}
use Rattle.job_flow.proofs.Keeping.{TileKeeps}
use Rattle.job_flow.proofs.Whole.{AllFuels, AllKeep, PartFuels, PartKeeps, part_goes_on, run_fuels, start_fuels, start_keeps, thread_goes_on, walk_keeps}

-- ---- walks

-- what holds of each part at the end of a walk, and where no part is
at_each : (P : PartView → Type 0) (w : WorldView) → Good w → P AbsentV → ((p : ℕ) → GoodPart w.shape (tables_of w) p (get_or w.parts p AbsentV) → P (get_or w.parts p AbsentV)) → (p : ℕ) → P (get_or w.parts p AbsentV)
at_each P w good past each p = elim (cases_lt p (length w.parts)) [
  | inl within ↦ let count = good.count in each p (good.each p (omega arith))
  | inr behind ↦ subst P (sym (get_or_past w.parts p AbsentV behind)) past
]

pub goes_on : (start end : WorldView) (history : List Event) → IsFlowStart start → AreSenders (tables_of start) start → Walk start history end → length history < 2 ^ 50 → ((p : ℕ) → PartServes (get_or end.parts p AbsentV)) → IsEnabled end
goes_on start end history begins senders walk few serves =
    let good = good_start start begins.begins in
    let quiet = quiet_start start begins.begins good in
    let there : Good end = walk_good history start end good quiet walk in
    let keep : AllKeep end = walk_keeps history start end good quiet (start_keeps (tables_of start) start begins.begins senders) walk in
    walks_go_on start end history begins senders walk few
    (at_each (PartGoesOn end.shape) end there tt (λ p g. part_goes_on end.shape (tables_of end) p (length history) (get_or end.parts p AbsentV) few g (walks_carry start end history p begins.begins walk) (keep p) (serves p)))

-- ---- runs that are not over

-- what holds of a tile there: each thread waits so and has steps left
record Lives (v : TileView) : Type 0 where
  pub keeps : TileKeeps v.now
  pub fuel : AllFuel v.plan.shape.fuel v.now
  pub count : length v.now.threads ≡ tile_threads v.plan.shape

abbrev PartLives : PartView → Type 0
PartLives (TileV v) = Lives v
PartLives (RouterV v) = Unit {0}
PartLives (LinkV v) = Unit {0}
PartLives (HostV s) = Unit {0}
PartLives (DetectorV v) = Unit {0}
PartLives AbsentV = Unit {0}

lives : (p : ℕ) (n : ShapeNumbers) (tables : List Table) (x : PartView) → GoodPart n tables p x → PartKeeps x → PartFuels x → PartLives x
lives p n tables (TileV v) g k f = record { keeps = k; fuel = f; count = g.shaped.fits.threads.count }
lives p n tables (RouterV v) g k f = tt
lives p n tables (LinkV v) g k f = tt
lives p n tables (HostV s) g k f = tt
lives p n tables (DetectorV v) g k f = tt
lives p n tables AbsentV g k f = tt

run_lives : (start end : WorldView) (history : List Event) → IsStart start → AreSenders (tables_of start) start → Run start history end → final_after (last_of history) end ≡ None → (p : ℕ) → PartLives (get_or end.parts p AbsentV)
run_lives start end history begins senders run over =
    let good = good_start start begins in
    let quiet = quiet_start start begins good in
    let walk = run_walk start end history run in
    let there : Good end = walk_good history start end good quiet walk in
    let keep : AllKeep end = walk_keeps history start end good quiet (start_keeps (tables_of start) start begins senders) walk in
    let fuels : AllFuels end = run_fuels history start end good quiet (start_fuels start good.limits begins) run over in
    at_each PartLives end there tt (λ p g. lives p end.shape (tables_of end) (get_or end.parts p AbsentV) g (keep p) (fuels p))

pub each_thread : (start end : WorldView) (history : List Event) (p k : ℕ) (v : TileView) → IsStart start → AreSenders (tables_of start) start → Run start history end → final_after (last_of history) end ≡ None → get_or end.parts p AbsentV ≡ TileV v → k < tile_threads v.plan.shape → ThreadGoesOn v.plan.shape.fuel k v.now
each_thread start end history p k v begins senders run over is low =
    let l : Lives v = subst PartLives is (run_lives start end history begins senders run over p) in
    let count = l.count in
    thread_goes_on v.plan.shape.fuel k v.now l.keeps (omega arith) (l.fuel k (omega arith))

-- a tile without a free slot has a thread that can make a step, if each thread goes on
abbrev pub IsServed : TileView → Type 0
IsServed v = ((k : ℕ) → k < tile_threads v.plan.shape → ThreadGoesOn v.plan.shape.fuel k v.now) → first_free v.now.pool ≡ None → HasStep v

serves : (x : PartView) → PartLives x → ((v : TileView) → x ≡ TileV v → IsServed v) → PartServes x
serves (TileV v) l s =
    let count = l.count in
    record {
      threads = λ k low. l.fuel k (omega (arith, count, low));
      served = s v refl (λ k low. thread_goes_on v.plan.shape.fuel k v.now l.keeps (omega (arith, count, low)) (l.fuel k (omega (arith, count, low))));
    }
serves (RouterV v) l s = tt
serves (LinkV v) l s = tt
serves (HostV h) l s = tt
serves (DetectorV v) l s = tt
serves AbsentV l s = tt

-- a run that is not over goes on
pub run_goes_on : (start end : WorldView) (history : List Event) → IsFlowStart start → AreSenders (tables_of start) start → Run start history end → length history < 2 ^ 50 → ((p : ℕ) (v : TileView) → get_or end.parts p AbsentV ≡ TileV v → IsServed v) → final_after (last_of history) end ≡ None → IsEnabled end
run_goes_on start end history begins senders run few served over =
    goes_on start end history begins senders (run_walk start end history run) few (λ p. serves (get_or end.parts p AbsentV) (run_lives start end history begins.begins senders run over p) (served p))

pub ends_or_goes_on : (o : Option Outcome) (w : WorldView) → (o ≡ None → IsEnabled w) → IsSome o ⊎ IsEnabled w
ends_or_goes_on (Some outcome) w goes = inl refl
ends_or_goes_on None w goes = inr (goes refl)
