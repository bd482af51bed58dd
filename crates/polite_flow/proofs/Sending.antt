-- The threads of a graph's job stay senders, and what their turns leave to be sent is on its way.
use Rattle.std.proofs.Common.{ℕ, zero, suc, ◌≡◌, Bool, true, false, cond, refl, sym, ap, ◌∙◌, subst, List, [], ◌∷◌, get_or, map, Option, Some, None, option_map}
use Rattle.std.specs.List.{AllByRecursion}
use Rattle.std.specs.Prelude.{slice_index_or, slice_set}
use Rattle.std.proofs.lemmas.Bool.{and_parts}
use Rattle.rv_isa.specs.declared.instr.Instr.{Instr}
use Rattle.tn_base.specs.declared.event.Event.{Event}
use Rattle.tn_base.specs.declared.event.Event.TheVariants as event
use Rattle.tn_base.specs.declared.ids.ThreadId.{ThreadId}
use Rattle.tn_base.specs.declared.message.Dest.{Dest}
use Rattle.tn_base.specs.declared.message.Dest.TheVariants as dest
use Rattle.tn_base.specs.declared.op.Op.{Op}
use Rattle.tn_base.specs.declared.op.Op.TheVariants as op
use Rattle.tn_base.specs.declared.shape.ShapeNumbers.{ShapeNumbers}
use Rattle.tn_base.specs.Address.{place_in_tile}
use Rattle.tn_keys.specs.Tables.{Table}
use Rattle.tn_letters.proofs.EventParts.{event_parts}
use Rattle.tn_letters.specs.Tiles.{tables_of}
use Rattle.tn_node.specs.Deed.{Deed}
use Rattle.tn_node.specs.Deed as deed
use Rattle.tn_node.specs.NodeRows.{give_row}
use Rattle.tn_quiet.proofs.Runs.{kept_at}
use Rattle.tn_rows.specs.Events.{IsWorld, after, deed_of, happened, host_row, link_row, router_row, detector_row, tile_did}
use Rattle.tn_rows.specs.PartView.{PartView, TileV, RouterV, LinkV, HostV, DetectorV, AbsentV}
use Rattle.tn_rows.specs.Places.{places}
use Rattle.tn_rows.specs.Runs.{Walk}
use Rattle.tn_rows.specs.WorldView.{WorldView}
use Rattle.tn_rows.proofs.Meeting.{mapped}
use Rattle.tn_stamp.specs.declared.entry.Crossing.{Crossing}
use Rattle.tn_stamp.specs.declared.entry.Crossing.TheVariants as crossing
use Rattle.tn_thread.specs.declared.thread.Thread.{Thread}
use Rattle.tn_thread.specs.Sight.{Sight}
use Rattle.tn_thread.specs.Step.{answered, is_idle, runnable}
use Rattle.tn_tile.specs.declared.state.TileState.{TileState}
use Rattle.tn_tile.specs.Rows.{tile_deed, told, turn_row, with_node}
use Rattle.tn_tile.specs.Step.{acted, can_step, no_thread, sight_at, step_at_place, stepped, steps_of, thread_at, with_thread}
use Rattle.tn_tile.specs.TileView.{TilePlan, TileView, now_by}
use Rattle.tn_tile.proofs.Deeds.{accept_deed, confirm_deed, deliver_deed, go_deed, release_deed, report_deed}
use Rattle.tn_tile.proofs.Steps.{taken}
use Rattle.tn_tile.proofs.Turns.{turn_tests}
use Rattle.polite_flow.specs.Flowing.{IsFlowing, IsFlowStart, TurnFits}
use Rattle.polite_flow.specs.Places.{Pending, tile_named}
use Rattle.polite_flow.specs.Sending.{AreSenders, MaySend, PartSends, ThreadSends, TileSends}
use Rattle.polite_flow.specs.Tiles.{PendingFit, StandsFit}
use Rattle.polite_flow.specs.World.{PartOnWay, SentFits, WorldOnWay}
use Rattle.polite_flow.proofs.Directed.{all_set}
use Rattle.polite_flow.proofs.Dispatches.{OpSends, next_sends}
use Rattle.polite_flow.proofs.Flowing.{event_flows}
use Rattle.polite_flow.proofs.Meetings.{some_is}
use Rattle.polite_flow.proofs.Starting.{start_flows}

-- ---- lists

-- a place of a list after another item was put into the list
either_set : {X : Type 0} (P : X → Type 0) (xs : List X) (k j : ℕ) (d y : X) → P (slice_index_or xs j d) → P y → P (slice_index_or (slice_set xs k y) j d)
either_set P [] k j d y old new = old
either_set P (x ∷ xs) zero zero d y old new = new
either_set P (x ∷ xs) zero (suc j) d y old new = old
either_set P (x ∷ xs) (suc k) zero d y old new = old
either_set P (x ∷ xs) (suc k) (suc j) d y old new = either_set P xs k j d y old new

all_mapped : {X : Type 0} (P : X → Type 0) (f : X → X) (xs : List X) → ((x : X) → P x → P (f x)) → AllByRecursion P xs → AllByRecursion P (map f xs)
all_mapped P f [] each all = tt
all_mapped P f (x ∷ xs) each all = (each x all.0, all_mapped P f xs each all.1)

-- a thread that can make a step is one of the list
runs_there : (P : Thread → Type 0) (seen : Sight) (threads : List Thread) (k : ℕ) → AllByRecursion P threads → runnable seen (slice_index_or threads k no_thread).state ≡ true → P (slice_index_or threads k no_thread)
runs_there P seen [] k all runs = cc runs
runs_there P seen (t ∷ ts) zero all runs = all.0
runs_there P seen (t ∷ ts) (suc k) all runs = runs_there P seen ts k all.1 runs

-- ---- a step of a tile

threads_acted : (k : ℕ) (t : Thread) (o : Op) (s : TileState) → (acted k t o s).threads ≡ s.threads
threads_acted k t op.None s = refl
threads_acted k t (op.Send to bytes) s = refl
threads_acted k t op.Hand s = refl
threads_acted k t (op.Free slot) s = refl
threads_acted k t (op.Idle vote) s = refl
threads_acted k t (op.Kill value) s = refl
threads_acted k t (op.Trap why) s = refl

abbrev Key : ShapeNumbers → List Table → ℕ → ℕ → Type 0
Key n tables tile key = MaySend n tables tile (dest.Key key)

sent_fits : (n : ShapeNumbers) (tables : List Table) (tile k : ℕ) (t : Thread) (to : Dest) (bytes : List ℕ) (s : TileState) → MaySend n tables tile to → PendingFit n tables tile s → PendingFit n tables tile (acted k t (op.Send to bytes) s)
sent_fits n tables tile k t to bytes s may fits = λ j. either_set (StandsFit n tables (Pending (tile_named tile) j)) s.pending k j None _ (fits j) (may j)

pending_acted : (n : ShapeNumbers) (tables : List Table) (tile k : ℕ) (t : Thread) (o : Op) (s : TileState) → MaySend n tables tile dest.Host → OpSends (Key n tables tile) o → PendingFit n tables tile s → PendingFit n tables tile (acted k t o s)
pending_acted n tables tile k t op.None s host asks fits = fits
pending_acted n tables tile k t (op.Send (dest.Thread a) bytes) s host asks fits = absurd asks
pending_acted n tables tile k t (op.Send dest.Host bytes) s host asks fits = sent_fits n tables tile k t dest.Host bytes s host fits
pending_acted n tables tile k t (op.Send (dest.Mask a mask) bytes) s host asks fits = absurd asks
pending_acted n tables tile k t (op.Send (dest.Key key) bytes) s host asks fits = sent_fits n tables tile k t (dest.Key key) bytes s asks fits
pending_acted n tables tile k t op.Hand s host asks fits = fits
pending_acted n tables tile k t (op.Free slot) s host asks fits = fits
pending_acted n tables tile k t (op.Idle vote) s host asks fits = fits
pending_acted n tables tile k t (op.Kill value) s host asks fits = fits
pending_acted n tables tile k t (op.Trap why) s host asks fits = fits

-- what steps leave: the threads are senders, and what was sent is on its way, if it was before
record Sent (n : ShapeNumbers) (tables : List Table) (tile : ℕ) (s t : TileState) : Type 0 where
  sends : TileSends n tables tile t
  fits : PendingFit n tables tile s → PendingFit n tables tile t

step_sent : (n : ShapeNumbers) (tables : List Table) (tile fuel k : ℕ) (code : List (Option Instr)) (s : TileState) → can_step fuel k s ≡ true → TileSends n tables tile s → Sent n tables tile s (stepped code k s)
step_sent n tables tile fuel k code s can f =
    let P = Key n tables tile in
    let runs = (and_parts (runnable (sight_at s k) (thread_at s k).state) _ can).0 in
    let made = step_at_place code k s in
    let one = next_sends P code (sight_at s k) (thread_at s k) runs (runs_there (ThreadSends P) (sight_at s k) s.threads k f.threads runs) in
    let threads = all_set (ThreadSends P) s.threads k made.thread f.threads one.thread in
    record {
      sends = record {
        host = f.host;
        threads = subst (AllByRecursion (ThreadSends P)) (sym (threads_acted k (thread_at s k) made.op (with_thread k made.thread s))) threads;
      };
      fits = pending_acted n tables tile k (thread_at s k) made.op (with_thread k made.thread s) f.host one.asks;
    }

steps_sent : (m : ℕ) (n : ShapeNumbers) (tables : List Table) (plan : TilePlan) (k : ℕ) (s t : TileState) → steps_of plan k m s ≡ Some t → TileSends n tables plan.tile s → Sent n tables plan.tile s t
unfolding steps_of
steps_sent zero n tables plan k s t e f = subst (Sent n tables plan.tile s) (some_is s t e) (record { sends = f; fits = λ old. old })
steps_sent (suc m) n tables plan k s t e f =
    let first = taken (can_step plan.shape.fuel k s) (steps_of plan k m (stepped plan.code k s)) t e in
    let one = step_sent n tables plan.tile plan.shape.fuel k plan.code s first.0 f in
    let rest = steps_sent m n tables plan k (stepped plan.code k s) t first.1 one.sends in
    record { sends = rest.sends; fits = λ old. rest.fits (one.fits old) }

turn_sent : (n : ShapeNumbers) (tables : List Table) (plan : TilePlan) (a m : ℕ) (s t : TileState) → turn_row plan a m s ≡ Some t → TileSends n tables plan.tile s → Sent n tables plan.tile s t
turn_sent n tables plan a m s t e f = steps_sent m n tables plan (place_in_tile plan.shape a) s t (turn_tests plan a m s t e).steps f

-- ---- each deed of a tile

told_sends : (P : ℕ → Type 0) (value : ℕ) (t : Thread) → ThreadSends P t → ThreadSends P (told value t)
told_sends P value t f = by (is_idle t.state) where
  by : (b : Bool) → ThreadSends P (cond b (answered value t) t)
  by true = record { firmware = f.firmware; keys = f.keys }
  by false = f

same_threads : (n : ShapeNumbers) (tables : List Table) (tile : ℕ) (s t : TileState) → t.threads ≡ s.threads → TileSends n tables tile s → TileSends n tables tile t
same_threads n tables tile s t e f = record { host = f.host; threads = subst (AllByRecursion (ThreadSends (Key n tables tile))) (sym e) f.threads }

abbrev threads_of : TileState → List Thread
threads_of s = s.threads

deed_sends : (n : ShapeNumbers) (tables : List Table) (plan : TilePlan) (d : Deed) (s t : TileState) → TileSends n tables plan.tile s → tile_deed plan d s ≡ Some t → TileSends n tables plan.tile t
deed_sends n tables plan (deed.Turn a m) s t f h = (turn_sent n tables plan a.0 m s t h f).sends
deed_sends n tables plan (deed.Deliver a) s t f h = same_threads n tables plan.tile s t (deliver_deed plan a.0 s t h).threads f
deed_sends n tables plan (deed.Give way k) s t f h =
    let m = mapped (with_node s) (give_row way k s.node) t h in
    same_threads n tables plan.tile s t (ap threads_of (sym m.2)) f
deed_sends n tables plan (deed.Take side k) s t f h = same_threads n tables plan.tile s t (accept_deed plan k s t h).threads f
deed_sends n tables plan deed.Route s t f h = cc h
deed_sends n tables plan (deed.HostPut k) s t f h = cc h
deed_sends n tables plan (deed.HostTake k) s t f h = cc h
deed_sends n tables plan (deed.Report i g) s t f h = same_threads n tables plan.tile s t (ap threads_of (report_deed plan i g s t h).is) f
deed_sends n tables plan deed.Begin s t f h = cc h
deed_sends n tables plan (deed.Confirm i g) s t f h = same_threads n tables plan.tile s t (ap threads_of (confirm_deed plan i g s t h).is) f
deed_sends n tables plan deed.Announce s t f h = cc h
deed_sends n tables plan (deed.Release i g) s t f h =
    let P = ThreadSends (Key n tables plan.tile) in
    record { host = f.host; threads = subst (AllByRecursion P) (sym (ap threads_of (release_deed plan i g s t h).is)) (all_mapped P (told g.value) s.threads (told_sends (Key n tables plan.tile) g.value) f.threads) }
deed_sends n tables plan (deed.Go i g) s t f h = same_threads n tables plan.tile s t (ap threads_of (go_deed plan i g s t h).is) f

-- ---- each part

tile_sends : (n : ShapeNumbers) (tables : List Table) (v : TileView) (o : Option Deed) (y : PartView) → TileSends n tables v.plan.tile v.now → option_map TileV (now_by v (tile_did v.plan v.now o)) ≡ Some y → PartSends n tables y
tile_sends n tables v None y f h = cc h
tile_sends n tables v (Some d) y f h =
    let a = mapped TileV (now_by v (tile_did v.plan v.now (Some d))) y h in
    let b = mapped (λ (t : TileState). record v { now = t }) (tile_did v.plan v.now (Some d)) a.0 a.1 in
    subst (PartSends n tables) (ap TileV b.2 ∙ a.2) (deed_sends n tables v.plan d v.now b.0 f b.1)

sends_after : (n : ShapeNumbers) (tables : List Table) (e : Event) (c : Crossing) (x y : PartView) → PartSends n tables x → after e c x ≡ Some y → PartSends n tables y
sends_after n tables e c (TileV v) y f h = tile_sends n tables v (deed_of v.plan.shape e c) y f h
sends_after n tables e c (RouterV v) y f h = let m = mapped RouterV (router_row e c v) y h in subst (PartSends n tables) m.2 tt
sends_after n tables e c (LinkV v) y f h = let m = mapped LinkV (link_row e c v) y h in subst (PartSends n tables) m.2 tt
sends_after n tables e c (HostV s) y f h = let m = mapped HostV (host_row e c s) y h in subst (PartSends n tables) m.2 tt
sends_after n tables e c (DetectorV v) y f h = let m = mapped DetectorV (detector_row e c v) y h in subst (PartSends n tables) m.2 tt
sends_after n tables e c AbsentV y f h = cc h

pub events_keep_senders : (tables : List Table) (e : Event) (w new : WorldView) → IsWorld w → AreSenders tables w → happened e w ≡ Some new → AreSenders tables new
events_keep_senders tables e w new i f h =
    let k = kept_at e w new (places w.shape e) i h in
    let each = event_parts (λ i a b. PartSends w.shape tables a → PartSends w.shape tables b) (λ i x r. r) e w new (λ c crosses i a b read row r. sends_after w.shape tables e c a b r row) h in
    subst (λ s. (p : ℕ) → PartSends s tables (get_or new.parts p AbsentV)) (sym k.1) (λ p. each p (f p))

-- ---- turns

-- a part whose packets are on their way, and whose threads are senders
record FitPart (n : ShapeNumbers) (tables : List Table) (p : ℕ) (x : PartView) : Type 0 where
  ways : PartOnWay n tables p x
  sends : PartSends n tables x

fit_sent : (n : ShapeNumbers) (tables : List Table) (p : ℕ) (x : PartView) → FitPart n tables p x → SentFits n tables x
fit_sent n tables p (TileV v) f = f.ways.pending
fit_sent n tables p (RouterV v) f = tt
fit_sent n tables p (LinkV v) f = tt
fit_sent n tables p (HostV s) f = tt
fit_sent n tables p (DetectorV v) f = tt
fit_sent n tables p AbsentV f = tt

tile_turned : (n : ShapeNumbers) (tables : List Table) (p : ℕ) (who : ThreadId) (m : ℕ) (c : Crossing) (v : TileView) (y : PartView) → FitPart n tables p (TileV v) → after (event.Turn who m) c (TileV v) ≡ Some y → SentFits n tables y
tile_turned n tables p who m crossing.None v y f h =
    let a = mapped TileV (now_by v (tile_deed v.plan (deed.Turn who m) v.now)) y h in
    let b = mapped (λ (t : TileState). record v { now = t }) (tile_deed v.plan (deed.Turn who m) v.now) a.0 a.1 in
    subst (SentFits n tables) (ap TileV b.2 ∙ a.2) ((turn_sent n tables v.plan who.0 m v.now b.0 b.1 f.sends).fits f.ways.pending)
tile_turned n tables p who m (crossing.Packet k) v y f h = cc h
tile_turned n tables p who m (crossing.View k) v y f h = cc h

turned : (n : ShapeNumbers) (tables : List Table) (p : ℕ) (who : ThreadId) (m : ℕ) (c : Crossing) (x y : PartView) → FitPart n tables p x → after (event.Turn who m) c x ≡ Some y → SentFits n tables y
turned n tables p who m c (TileV v) y f h = tile_turned n tables p who m c v y f h
turned n tables p who m c (RouterV v) y f h = let a = mapped RouterV (router_row (event.Turn who m) c v) y h in subst (SentFits n tables) a.2 tt
turned n tables p who m c (LinkV v) y f h = let a = mapped LinkV (link_row (event.Turn who m) c v) y h in subst (SentFits n tables) a.2 tt
turned n tables p who m c (HostV s) y f h = let a = mapped HostV (host_row (event.Turn who m) c s) y h in subst (SentFits n tables) a.2 tt
turned n tables p who m c (DetectorV v) y f h = let a = mapped DetectorV (detector_row (event.Turn who m) c v) y h in subst (SentFits n tables) a.2 tt
turned n tables p who m c AbsentV y f h = cc h

pub turns_fit : (tables : List Table) (e : Event) (w new : WorldView) → WorldOnWay tables w → AreSenders tables w → happened e w ≡ Some new → TurnFits w.shape tables e new
turns_fit tables (event.Turn who m) w new r f h =
    let each = event_parts (λ i a b. FitPart w.shape tables i a → SentFits w.shape tables b) (λ i x. fit_sent w.shape tables i x) (event.Turn who m) w new (λ c crosses i a b read row g. turned w.shape tables i who m c a b g row) h in
    λ p. each p (record { ways = r p; sends = f p })
turns_fit tables (event.Deliver who) w new r f h = tt
turns_fit tables (event.Depart p l) w new r f h = tt
turns_fit tables (event.Arrive l p) w new r f h = tt
turns_fit tables (event.Route p) w new r f h = tt
turns_fit tables event.HostPut w new r f h = tt
turns_fit tables event.HostTake w new r f h = tt
turns_fit tables (event.Report p) w new r f h = tt
turns_fit tables event.Begin w new r f h = tt
turns_fit tables (event.Confirm p) w new r f h = tt
turns_fit tables event.Announce w new r f h = tt
turns_fit tables (event.Release p) w new r f h = tt
turns_fit tables (event.Go p) w new r f h = tt

-- ---- walks

walks_on : (tables : List Table) (start end : WorldView) (history : List Event) → IsFlowing tables start → AreSenders tables start → Walk start history end → IsFlowing tables end × AreSenders tables end
walks_on tables start end [] f s walk = (subst (IsFlowing tables) walk f, subst (AreSenders tables) walk s)
walks_on tables start end (e ∷ es) f s walk =
    let turn = turns_fit tables e start walk.0 f.ways s walk.1 in
    walks_on tables walk.0 end es (event_flows tables e start walk.0 f turn walk.1) (events_keep_senders tables e start walk.0 f.world s walk.1) walk.2

pub walks_flow : (start end : WorldView) (history : List Event) → IsFlowStart start → AreSenders (tables_of start) start → Walk start history end → IsFlowing (tables_of start) end × AreSenders (tables_of start) end
walks_flow start end history f s walk = walks_on (tables_of start) start end history (start_flows start f) s walk
