-- What holds of each tile of a graph's job along walks, and along runs that are not over.
use Rattle.std.proofs.Common.{ℕ, zero, suc, ◌≡◌, ◌≤◌, ◌<◌, ◌^◌, refl, sym, ap, ◌∙◌, subst, arith, List, [], ◌∷◌, length, get_or, Option, Some, None, option_map}
use Rattle.std.specs.Prelude.{option_and_then, slice_get}
use Rattle.std.specs.List.{AllByRecursion}
use Rattle.std.proofs.lemmas.Bool.{lt-ltb}
use Rattle.tn_base.specs.declared.event.Event.{Event}
use Rattle.tn_base.specs.declared.event.Event.TheVariants as event
use Rattle.tn_base.specs.declared.ids.ThreadId.{ThreadId}
use Rattle.tn_base.specs.declared.shape.ShapeNumbers.{ShapeNumbers}
use Rattle.tn_base.specs.Address.{tile_threads}
use Rattle.tn_base.specs.Shape.{WithinLimits}
use Rattle.tn_keys.specs.Tables.{Table}
use Rattle.tn_letters.specs.Law.{IsStart, StartsSo}
use Rattle.tn_letters.specs.Tiles.{tables_of}
use Rattle.tn_letters.proofs.GoodParts.{event_good}
use Rattle.tn_letters.proofs.Lift.{Good, GoodPart}
use Rattle.tn_node.specs.Deed.{Deed}
use Rattle.tn_quiet.specs.Law.{IsQuietWorld}
use Rattle.tn_quiet.proofs.Runs.{event_quiet, kept_at}
use Rattle.tn_rows.specs.Ends.{final_after, final_of, final_on, last_of}
use Rattle.tn_rows.specs.Events.{after, deed_of, detector_row, happened, host_row, link_row, router_row, tile_did}
use Rattle.tn_rows.specs.PartView.{PartView, TileV, RouterV, LinkV, HostV, DetectorV, AbsentV}
use Rattle.tn_rows.specs.Places.{at_part, part_of, places}
use Rattle.tn_rows.specs.Runs.{Run, Walk}
use Rattle.tn_rows.specs.WorldView.{WorldView}
use Rattle.tn_rows.proofs.Meeting.{mapped}
use Rattle.tn_stamp.specs.declared.entry.Crossing.{Crossing}
use Rattle.tn_thread.specs.declared.state.ThreadState.{ThreadState}
use Rattle.tn_thread.specs.declared.state.ThreadState.TheVariants as state
use Rattle.tn_thread.specs.declared.thread.Thread.{Thread}
use Rattle.tn_slots.specs.Pool.{queue_at}
use Rattle.tn_tile.specs.declared.state.TileState.{TileState}
use Rattle.tn_tile.specs.Rows.{tile_deed}
use Rattle.tn_tile.specs.Step.{no_thread, thread_at}
use Rattle.tn_tile.specs.TileView.{TileView, now_by}
use Rattle.tn_tile.proofs.Deeds.{deed_fits}
use Rattle.tn_tile.proofs.Packed.{few_places}
use Rattle.polite_flow.specs.Always.{PartGoesOn}
use Rattle.polite_flow.specs.Sending.{AreSenders, PartSends, ThreadSends}
use Rattle.polite_flow.specs.Threads.{GoesOn, ThreadGoesOn}
use Rattle.polite_flow.proofs.Starting.{each_place}
use Rattle.job_flow.specs.Carried.{Carries}
use Rattle.job_flow.specs.Serves.{HasFuel, IsWhole, PartServes}
use Rattle.job_flow.proofs.Carried.{good_at}
use Rattle.job_flow.proofs.Crossed.{IsNow, each_row}
use Rattle.job_flow.proofs.Fuel.{AllFuel, TurnEnds, deed_ends, deed_fuels}
use Rattle.job_flow.proofs.Keeping.{EmptyIfDead, TileKeeps, deed_keeps}
use Rattle.job_flow.proofs.Waiting.{Waits, WaitsWell}

-- ---- each part

abbrev pub PartKeeps : PartView → Type 0
PartKeeps (TileV v) = TileKeeps v.now
PartKeeps (RouterV v) = Unit {0}
PartKeeps (LinkV v) = Unit {0}
PartKeeps (HostV s) = Unit {0}
PartKeeps (DetectorV v) = Unit {0}
PartKeeps AbsentV = Unit {0}

abbrev pub PartFuels : PartView → Type 0
PartFuels (TileV v) = AllFuel v.plan.shape.fuel v.now
PartFuels (RouterV v) = Unit {0}
PartFuels (LinkV v) = Unit {0}
PartFuels (HostV s) = Unit {0}
PartFuels (DetectorV v) = Unit {0}
PartFuels AbsentV = Unit {0}

-- a tile after a deed of the tile
record Made (v : TileView) (o : Option Deed) (y : PartView) : Type 0 where
  pub does : Deed
  pub is : o ≡ Some does
  pub now : TileState
  pub row : tile_deed v.plan does v.now ≡ Some now
  pub same : TileV (record v { now = now }) ≡ y

made_tile : (v : TileView) (o : Option Deed) (y : PartView) → option_map TileV (now_by v (tile_did v.plan v.now o)) ≡ Some y → Made v o y
made_tile v None y h = cc h
made_tile v (Some d) y h =
    let a = mapped TileV (now_by v (tile_did v.plan v.now (Some d))) y h in
    let b = mapped (λ (t : TileState). record v { now = t }) (tile_did v.plan v.now (Some d)) a.0 a.1 in
    record { does = d; is = refl; now = b.0; row = b.1; same = ap TileV b.2 ∙ a.2 }

part_keeps : (n : ShapeNumbers) (tables : List Table) (p : ℕ) (e : Event) (c : Crossing) (x y : PartView) → WithinLimits n → GoodPart n tables p x → PartKeeps x → after e c x ≡ Some y → PartKeeps y
part_keeps n tables p e c (TileV v) y limits g f h =
    let m = made_tile v (deed_of v.plan.shape e c) y h in
    let count = g.shaped.fits.threads.count in
    let queues = g.shaped.fits.pool.queues in
    let few : tile_threads v.plan.shape ≤ 64 = subst (λ s. tile_threads s ≤ 64) (sym g.shape) (few_places n limits) in
    subst PartKeeps m.same (deed_keeps v.plan m.does v.now m.now (omega (arith, count, few)) (queues ∙ sym count) f m.row)
part_keeps n tables p e c (RouterV v) y limits g f h = let m = mapped RouterV (router_row e c v) y h in subst PartKeeps m.2 tt
part_keeps n tables p e c (LinkV v) y limits g f h = let m = mapped LinkV (link_row e c v) y h in subst PartKeeps m.2 tt
part_keeps n tables p e c (HostV s) y limits g f h = let m = mapped HostV (host_row e c s) y h in subst PartKeeps m.2 tt
part_keeps n tables p e c (DetectorV v) y limits g f h = let m = mapped DetectorV (detector_row e c v) y h in subst PartKeeps m.2 tt
part_keeps n tables p e c AbsentV y limits g f h = cc h

part_fuels : (n : ShapeNumbers) (tables : List Table) (p : ℕ) (e : Event) (c : Crossing) (x y : PartView) → GoodPart n tables p x → TurnEnds e y → PartFuels x → after e c x ≡ Some y → PartFuels y
part_fuels n tables p e c (TileV v) y g ends f h =
    let m = made_tile v (deed_of v.plan.shape e c) y h in
    let last = deed_ends v.plan.shape e c m.does v m.now (subst (TurnEnds e) (sym m.same) ends) m.is m.row in
    subst PartFuels m.same (deed_fuels v.plan m.does v.now m.now g.shaped.fits (deed_fits v.plan m.does v.now m.now m.row g.shaped.fits) last f m.row)
part_fuels n tables p e c (RouterV v) y g ends f h = let m = mapped RouterV (router_row e c v) y h in subst PartFuels m.2 tt
part_fuels n tables p e c (LinkV v) y g ends f h = let m = mapped LinkV (link_row e c v) y h in subst PartFuels m.2 tt
part_fuels n tables p e c (HostV s) y g ends f h = let m = mapped HostV (host_row e c s) y h in subst PartFuels m.2 tt
part_fuels n tables p e c (DetectorV v) y g ends f h = let m = mapped DetectorV (detector_row e c v) y h in subst PartFuels m.2 tt
part_fuels n tables p e c AbsentV y g ends f h = cc h

-- ---- events

abbrev pub AllKeep : WorldView → Type 0
AllKeep w = (p : ℕ) → PartKeeps (get_or w.parts p AbsentV)

abbrev pub AllFuels : WorldView → Type 0
AllFuels w = (p : ℕ) → PartFuels (get_or w.parts p AbsentV)

event_keeps : (e : Event) (w new : WorldView) → Good w → AllKeep w → happened e w ≡ Some new → AllKeep new
event_keeps e w new good f h =
    let each = each_row (λ i a b. PartKeeps a → PartKeeps b) (λ i x k. k) e w new (λ c crosses i a b read row now k. part_keeps w.shape (tables_of w) i e c a b good.limits (good_at w i a good read) k row) h in
    λ p. each p (f p)

turn_ends : (o : Option ℕ) (who : ThreadId) (m : ℕ) (w new : WorldView) (i : ℕ) (b : PartView) → part_of w.shape who ≡ o → IsNow (at_part o) new i b → new.shape ≡ w.shape → final_of (event.Turn who m) new ≡ None → final_on (event.Turn who m) b ≡ None
turn_ends None who m w new i b at x shape over = absurd x
turn_ends (Some p) who m w new i b at x shape over =
    let here : slice_get new.parts p ≡ Some b = ap (slice_get new.parts) (sym x.0) ∙ x.1 in
    let place : part_of new.shape who ≡ Some p = ap (λ s. part_of s who) shape ∙ at in
    sym (ap (λ o. option_and_then (final_on (event.Turn who m)) (option_and_then (slice_get new.parts) o)) place ∙ ap (λ o. option_and_then (final_on (event.Turn who m)) o) here) ∙ over

event_ends : (e : Event) (w new : WorldView) (i : ℕ) (b : PartView) → IsNow (places w.shape e) new i b → new.shape ≡ w.shape → final_of e new ≡ None → TurnEnds e b
event_ends (event.Turn who m) w new i b x shape over = turn_ends (part_of w.shape who) who m w new i b refl x shape over
event_ends (event.Deliver who) w new i b x shape over = tt
event_ends (event.Depart p l) w new i b x shape over = tt
event_ends (event.Arrive l p) w new i b x shape over = tt
event_ends (event.Route p) w new i b x shape over = tt
event_ends event.HostPut w new i b x shape over = tt
event_ends event.HostTake w new i b x shape over = tt
event_ends (event.Report p) w new i b x shape over = tt
event_ends event.Begin w new i b x shape over = tt
event_ends (event.Confirm p) w new i b x shape over = tt
event_ends event.Announce w new i b x shape over = tt
event_ends (event.Release p) w new i b x shape over = tt
event_ends (event.Go p) w new i b x shape over = tt

event_fuels : (e : Event) (w new : WorldView) → Good w → IsQuietWorld w → final_of e new ≡ None → AllFuels w → happened e w ≡ Some new → AllFuels new
event_fuels e w new good quiet over f h =
    let same = (kept_at e w new (places w.shape e) quiet.world h).1 in
    let each = each_row (λ i a b. PartFuels a → PartFuels b) (λ i x k. k) e w new (λ c crosses i a b read row now k. part_fuels w.shape (tables_of w) i e c a b (good_at w i a good read) (event_ends e w new i b now same over) k row) h in
    λ p. each p (f p)

-- ---- walks and runs

pub walk_keeps : (es : List Event) (w end : WorldView) → Good w → IsQuietWorld w → AllKeep w → Walk w es end → AllKeep end
walk_keeps [] w end good quiet f walk = subst AllKeep walk f
walk_keeps (e ∷ es) w end good quiet f walk = walk_keeps es walk.0 end (event_good e w walk.0 good quiet walk.1) (event_quiet e w walk.0 good.limits quiet walk.1) (event_keeps e w walk.0 good f walk.1) walk.2

-- a run whose last event was not final
pub run_fuels : (es : List Event) (w end : WorldView) → Good w → IsQuietWorld w → AllFuels w → Run w es end → final_after (last_of es) end ≡ None → AllFuels end
run_fuels [] w end good quiet f run over = subst AllFuels run f
run_fuels (e ∷ []) w end good quiet f run over =
    let last : final_of e run.0 ≡ None = subst (λ (x : WorldView). final_of e x ≡ None) (sym run.3) over in
    subst AllFuels run.3 (event_fuels e w run.0 good quiet last f run.1)
run_fuels (e ∷ g ∷ es) w end good quiet f run over =
    run_fuels (g ∷ es) run.0 end (event_good e w run.0 good quiet run.1) (event_quiet e w run.0 good.limits quiet run.1) (event_fuels e w run.0 good quiet (run.2 (λ none. cc none)) f run.1) run.3 over

-- ---- the start

all_from : {X : Type 0} (P : X → Type 0) (xs : List X) (d : X) → ((k : ℕ) → k < length xs → P (get_or xs k d)) → AllByRecursion P xs
all_from P [] d each = tt
all_from P (x ∷ xs) d each = (each 0 (omega arith), all_from P xs d (λ k h. each (suc k) (omega arith)))

all_at : {X : Type 0} (P : X → Type 0) (xs : List X) (k : ℕ) (d : X) → AllByRecursion P xs → k < length xs → P (get_or xs k d)
all_at P [] k d all h = absurd (omega arith)
all_at P (x ∷ xs) zero d all h = all.0
all_at P (x ∷ xs) (suc k) d all h = all_at P xs k d all.1 (omega arith)

-- a thread of a tile at the start
record Begins (t : Thread) : Type 0 where
  pub state : t.state ≡ state.Run
  pub steps : t.steps ≡ 0

begins_at : (n : ShapeNumbers) (v : TileView) (k : ℕ) → StartsSo n (TileV v) → k < length v.now.threads → Begins (thread_at v.now k)
begins_at n v k s h =
    let threads = s.1 in
    let same : v.now.threads ≡ threads = ap (λ (y : TileView). y.now.threads) s.3 in
    let long = ap (λ (ts : List Thread). length ts) same in
    let count = s.2.count in
    let start = (s.2.each k (omega arith)).start in
    subst (λ ts. Begins (get_or ts k no_thread)) (sym same) (record { state = ap (λ (t : Thread). t.state) start; steps = ap (λ (t : Thread). t.steps) start })

start_keeps_part : (n : ShapeNumbers) (tables : List Table) (x : PartView) → StartsSo n x → PartSends n tables x → PartKeeps x
start_keeps_part n tables (TileV v) s f = record {
  threads = all_from Waits v.now.threads no_thread (λ k h. record {
    firmware = (all_at (ThreadSends _) v.now.threads k no_thread f.threads h).firmware;
    waits = subst WaitsWell (sym (begins_at n v k s h).state) tt;
  });
  dead = λ k h. subst (λ q. EmptyIfDead q (queue_at v.now.pool k)) (sym (begins_at n v k s h).state) tt;
}
start_keeps_part n tables (RouterV v) s f = tt
start_keeps_part n tables (LinkV v) s f = tt
start_keeps_part n tables (HostV h) s f = tt
start_keeps_part n tables (DetectorV v) s f = tt
start_keeps_part n tables AbsentV s f = tt

pub start_keeps : (tables : List Table) (start : WorldView) → IsStart start → AreSenders tables start → AllKeep start
start_keeps tables w s f = each_place (λ p x. PartKeeps x) w.parts (λ p. tt) (λ p h. start_keeps_part w.shape tables (get_or w.parts p AbsentV) (s.parts p h) (f p))

start_fuels_part : (n : ShapeNumbers) (x : PartView) → WithinLimits n → StartsSo n x → PartFuels x
start_fuels_part n (TileV v) limits s = λ k h.
    let b = begins_at n v k s h in
    let shape : v.plan.shape ≡ n = ap (λ (y : TileView). y.plan.shape) s.3 in
    let fuel = ap (λ (m : ShapeNumbers). m.fuel) shape in
    let none = b.steps in
    let some = limits.fuel.0 in
    record { whole = subst IsWhole (sym b.state) tt; left = omega arith }
start_fuels_part n (RouterV v) limits s = tt
start_fuels_part n (LinkV v) limits s = tt
start_fuels_part n (HostV h) limits s = tt
start_fuels_part n (DetectorV v) limits s = tt
start_fuels_part n AbsentV limits s = tt

pub start_fuels : (start : WorldView) → WithinLimits start.shape → IsStart start → AllFuels start
start_fuels w limits s = each_place (λ p x. PartFuels x) w.parts (λ p. tt) (λ p h. start_fuels_part w.shape (get_or w.parts p AbsentV) limits (s.parts p h))

-- ---- what each part needs to go on

goes_on : (q : ThreadState) (queue : List ℕ) → IsWhole q → WaitsWell q → EmptyIfDead q queue → GoesOn q queue
goes_on state.Run queue whole waits dead = tt
goes_on (state.Wait w) queue whole waits dead = waits
goes_on (state.Idle vote) queue whole waits dead = tt
goes_on (state.Answered value) queue whole waits dead = tt
goes_on (state.Dead value) queue whole waits dead = dead
goes_on (state.Trapped why) queue whole waits dead = whole

pub thread_goes_on : (fuel k : ℕ) (s : TileState) → TileKeeps s → k < length s.threads → HasFuel fuel k s → ThreadGoesOn fuel k s
thread_goes_on fuel k s f low has = record {
  state = goes_on (thread_at s k).state (queue_at s.pool k) has.whole (all_at Waits s.threads k no_thread f.threads low).waits (f.dead k low);
  left = λ runs. has.left;
}

pub part_goes_on : (n : ShapeNumbers) (tables : List Table) (p events : ℕ) (x : PartView) → events < 2 ^ 50 → GoodPart n tables p x → Carries n events x → PartKeeps x → PartServes x → PartGoesOn n x
part_goes_on n tables p events (TileV v) few g carries f s =
    let count = g.shaped.fits.threads.count in
    record {
      counts = lt-ltb v.now.dropped (2 ^ 63) (omega (arith, few, carries));
      served = s.served;
      threads = λ k low. thread_goes_on v.plan.shape.fuel k v.now f (omega (arith, count, low)) (s.threads k low);
    }
part_goes_on n tables p events (RouterV v) few g carries f s = tt
part_goes_on n tables p events (LinkV v) few g carries f s = carries
part_goes_on n tables p events (HostV h) few g carries f s = tt
part_goes_on n tables p events (DetectorV v) few g carries f s = tt
part_goes_on n tables p events AbsentV few g carries f s = tt
