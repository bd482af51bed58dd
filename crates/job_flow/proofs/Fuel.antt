-- If a run is not over, each thread of its tiles has not trapped and has steps left.
use Rattle.std.proofs.Common.{ℕ, ◌≡◌, ◌≤◌, ◌<◌, ◌==◌, Bool, true, false, cond, refl, sym, ap, subst, arith, List, length, get_or, inl, inr, Option, Some, None}
use Rattle.std.proofs.lemmas.Bool.{cases_eq, eq-eqb}
use Rattle.std.proofs.lemmas.List.{get_or-map, length-map}
use Rattle.tn_base.specs.declared.event.Event.{Event}
use Rattle.tn_base.specs.declared.event.Event.TheVariants as event
use Rattle.tn_base.specs.declared.event.Outcome.{Outcome}
use Rattle.tn_base.specs.declared.ids.ThreadId.{ThreadId}
use Rattle.tn_base.specs.declared.shape.ShapeNumbers.{ShapeNumbers}
use Rattle.tn_base.specs.Address.{place_in_tile, tile_threads}
use Rattle.tn_node.specs.Deed.{Deed}
use Rattle.tn_node.specs.Deed as deed
use Rattle.tn_node.specs.NodeRows.{give_row}
use Rattle.tn_rows.specs.Ends.{ended_by, ended_with, final_on, spent_by}
use Rattle.tn_rows.specs.Events.{deed_of}
use Rattle.tn_rows.specs.PartView.{PartView, TileV}
use Rattle.tn_rows.proofs.Meeting.{mapped}
use Rattle.tn_stamp.specs.declared.entry.Crossing.{Crossing}
use Rattle.tn_stamp.specs.declared.entry.Crossing.TheVariants as crossing
use Rattle.tn_thread.specs.declared.state.ThreadState.{ThreadState}
use Rattle.tn_thread.specs.declared.state.ThreadState.TheVariants as state
use Rattle.tn_thread.specs.declared.thread.Thread.{Thread}
use Rattle.tn_thread.specs.Step.{answered, is_idle}
use Rattle.tn_tile.specs.declared.state.TileState.{TileState}
use Rattle.tn_tile.specs.Kept.{IsFit}
use Rattle.tn_tile.specs.Rows.{is_here, released, tile_deed, told, with_node}
use Rattle.tn_tile.specs.Step.{no_thread, thread_at}
use Rattle.tn_tile.specs.TileView.{TilePlan, TileView}
use Rattle.tn_tile.proofs.Deeds.{accept_deed, confirm_deed, deliver_deed, go_deed, release_deed, report_deed}
use Rattle.tn_tile.proofs.Elsewhere.{steps_other}
use Rattle.tn_tile.proofs.Turns.{turn_tests}
use Rattle.job_flow.specs.Serves.{HasFuel, IsWhole}

-- each thread of a tile has not trapped and has steps left
abbrev pub AllFuel : ℕ → TileState → Type 0
AllFuel fuel s = (k : ℕ) → k < length s.threads → HasFuel fuel k s

-- ---- the end of a turn

-- a turn was not the last event of a run
abbrev pub DeedEnds : TilePlan → Deed → TileState → Type 0
DeedEnds plan (deed.Turn a m) t = ended_with plan.shape.fuel a (thread_at t (place_in_tile plan.shape a.0)) ≡ None
DeedEnds plan (deed.Deliver a) t = Unit {0}
DeedEnds plan (deed.Give way k) t = Unit {0}
DeedEnds plan (deed.Take side k) t = Unit {0}
DeedEnds plan deed.Route t = Unit {0}
DeedEnds plan (deed.HostPut k) t = Unit {0}
DeedEnds plan (deed.HostTake k) t = Unit {0}
DeedEnds plan (deed.Report i g) t = Unit {0}
DeedEnds plan deed.Begin t = Unit {0}
DeedEnds plan (deed.Confirm i g) t = Unit {0}
DeedEnds plan deed.Announce t = Unit {0}
DeedEnds plan (deed.Release i g) t = Unit {0}
DeedEnds plan (deed.Go i g) t = Unit {0}

not_spent : (who : ThreadId) (used : Bool) → spent_by who used ≡ None → used ≡ false
not_spent who true e = cc e
not_spent who false e = refl

goes_on : (who : ThreadId) (q : ThreadState) (used : Bool) → ended_by who q used ≡ None → IsWhole q × (used ≡ false)
goes_on who state.Run used e = (tt, not_spent who used e)
goes_on who (state.Wait waits) used e = (tt, not_spent who used e)
goes_on who (state.Idle vote) used e = (tt, not_spent who used e)
goes_on who (state.Answered value) used e = (tt, not_spent who used e)
goes_on who (state.Dead value) used e = (tt, not_spent who used e)
goes_on who (state.Trapped why) used e = cc e

less_by : (a b : ℕ) → a ≤ b → (a == b) ≡ false → a < b
less_by a b most differ = elim (cases_eq a b) [
  | inl e ↦ let same = eq-eqb a b e in cc (same, differ)
  | inr ne ↦ omega arith
]

-- ---- deeds

same_thread : (fuel k : ℕ) (s t : TileState) → thread_at t k ≡ thread_at s k → HasFuel fuel k s → HasFuel fuel k t
same_thread fuel k s t e f = record {
  whole = subst (λ (x : Thread). IsWhole x.state) (sym e) f.whole;
  left = subst (λ (x : Thread). x.steps < fuel) (sym e) f.left;
}

same_threads : (fuel : ℕ) (s t : TileState) → t.threads ≡ s.threads → AllFuel fuel s → AllFuel fuel t
same_threads fuel s t e f = λ k h.
    let long = ap (λ (ts : List Thread). length ts) e in
    same_thread fuel k s t (ap (λ ts. get_or ts k no_thread) e) (f k (omega arith))

turn_fuels : (plan : TilePlan) (a : ThreadId) (m : ℕ) (s t : TileState) → IsFit plan s → IsFit plan t → DeedEnds plan (deed.Turn a m) t → AllFuel plan.shape.fuel s → tile_deed plan (deed.Turn a m) s ≡ Some t → AllFuel plan.shape.fuel t
turn_fuels plan a m s t old new ends f h = λ k low.
    let place = place_in_tile plan.shape a.0 in
    let count = old.threads.count in
    let now = new.threads.count in
    elim (cases_eq k place) [
      | inr ne ↦ same_thread plan.shape.fuel k s t (steps_other m plan place k s t ne (turn_tests plan a.0 m s t h).steps).thread (f k (omega arith))
      | inl e ↦
          let both = goes_on a (thread_at t place).state ((thread_at t place).steps == plan.shape.fuel) ends in
          let there : place < tile_threads plan.shape = omega arith in
          subst (λ i. HasFuel plan.shape.fuel i t) (sym e) (record { whole = both.0; left = less_by (thread_at t place).steps plan.shape.fuel (new.threads.each place there).steps both.1 })
    ]

told_whole : (value : ℕ) (t : Thread) → IsWhole t.state → IsWhole (told value t).state
told_whole value t f = by (is_idle t.state) where
  by : (b : Bool) → IsWhole (cond b (answered value t) t).state
  by true = tt
  by false = f

told_left : (value fuel : ℕ) (t : Thread) → t.steps < fuel → (told value t).steps < fuel
told_left value fuel t f = by (is_idle t.state) where
  by : (b : Bool) → (cond b (answered value t) t).steps < fuel
  by true = f
  by false = f

released_fuels : (value fuel : ℕ) (s : TileState) → AllFuel fuel s → AllFuel fuel (released value s)
released_fuels value fuel s f = λ k h.
    let long = length-map s.threads (told value) in
    let low : k < length s.threads = omega arith in
    let now : thread_at (released value s) k ≡ told value (thread_at s k) = get_or-map (told value) s.threads k no_thread no_thread low in
    let old = f k low in
    record {
      whole = subst (λ (x : Thread). IsWhole x.state) (sym now) (told_whole value (thread_at s k) old.whole);
      left = subst (λ (x : Thread). x.steps < fuel) (sym now) (told_left value fuel (thread_at s k) old.left);
    }

abbrev threads_of : TileState → List Thread
threads_of s = s.threads

pub deed_fuels : (plan : TilePlan) (d : Deed) (s t : TileState) → IsFit plan s → IsFit plan t → DeedEnds plan d t → AllFuel plan.shape.fuel s → tile_deed plan d s ≡ Some t → AllFuel plan.shape.fuel t
deed_fuels plan (deed.Turn a m) s t old new ends f h = turn_fuels plan a m s t old new ends f h
deed_fuels plan (deed.Deliver a) s t old new ends f h = same_threads plan.shape.fuel s t (deliver_deed plan a.0 s t h).threads f
deed_fuels plan (deed.Give way k) s t old new ends f h = let m = mapped (with_node s) (give_row way k s.node) t h in same_threads plan.shape.fuel s t (ap threads_of (sym m.2)) f
deed_fuels plan (deed.Take side k) s t old new ends f h = same_threads plan.shape.fuel s t (accept_deed plan k s t h).threads f
deed_fuels plan deed.Route s t old new ends f h = cc h
deed_fuels plan (deed.HostPut k) s t old new ends f h = cc h
deed_fuels plan (deed.HostTake k) s t old new ends f h = cc h
deed_fuels plan (deed.Report i g) s t old new ends f h = same_threads plan.shape.fuel s t (ap threads_of (report_deed plan i g s t h).is) f
deed_fuels plan deed.Begin s t old new ends f h = cc h
deed_fuels plan (deed.Confirm i g) s t old new ends f h = same_threads plan.shape.fuel s t (ap threads_of (confirm_deed plan i g s t h).is) f
deed_fuels plan deed.Announce s t old new ends f h = cc h
deed_fuels plan (deed.Release i g) s t old new ends f h = subst (AllFuel plan.shape.fuel) (sym (release_deed plan i g s t h).is) (released_fuels g.value plan.shape.fuel s f)
deed_fuels plan (deed.Go i g) s t old new ends f h = same_threads plan.shape.fuel s t (ap threads_of (go_deed plan i g s t h).is) f

-- ---- events

-- an event that is a turn was not the last event of a run, as the part of the turn tells
abbrev pub TurnEnds : Event → PartView → Type 0
TurnEnds (event.Turn who m) y = final_on (event.Turn who m) y ≡ None
TurnEnds (event.Deliver who) y = Unit {0}
TurnEnds (event.Depart p l) y = Unit {0}
TurnEnds (event.Arrive l p) y = Unit {0}
TurnEnds (event.Route p) y = Unit {0}
TurnEnds event.HostPut y = Unit {0}
TurnEnds event.HostTake y = Unit {0}
TurnEnds (event.Report p) y = Unit {0}
TurnEnds event.Begin y = Unit {0}
TurnEnds (event.Confirm p) y = Unit {0}
TurnEnds event.Announce y = Unit {0}
TurnEnds (event.Release p) y = Unit {0}
TurnEnds (event.Go p) y = Unit {0}

some_is : {X : Type 0} (x y : X) → Some x ≡ Some y → x ≡ y
some_is x y e = cc e

if_here : (b : Bool) (o : Option Outcome) → b ≡ true → cond b o None ≡ None → o ≡ None
if_here true o h e = e
if_here false o h e = cc h

pub deed_ends : (n : ShapeNumbers) (e : Event) (c : Crossing) (d : Deed) (v : TileView) (t : TileState) → TurnEnds e (TileV (record v { now = t })) → deed_of n e c ≡ Some d → tile_deed v.plan d v.now ≡ Some t → DeedEnds v.plan d t
deed_ends n (event.Turn who m) crossing.None d v t f h row =
    let is : deed.Turn who m ≡ d = some_is (deed.Turn who m) d h in
    let turn : tile_deed v.plan (deed.Turn who m) v.now ≡ Some t = subst (λ z. tile_deed v.plan z v.now ≡ Some t) (sym is) row in
    subst (λ z. DeedEnds v.plan z t) is (if_here (is_here v.plan who.0) (ended_with v.plan.shape.fuel who (thread_at t (place_in_tile v.plan.shape who.0))) (turn_tests v.plan who.0 m v.now t turn).here f)
deed_ends n (event.Turn who m) (crossing.Packet u) d v t f h row = cc h
deed_ends n (event.Turn who m) (crossing.View u) d v t f h row = cc h
deed_ends n (event.Deliver who) crossing.None d v t f h row = subst (λ z. DeedEnds v.plan z t) (some_is _ d h) tt
deed_ends n (event.Deliver who) (crossing.Packet u) d v t f h row = cc h
deed_ends n (event.Deliver who) (crossing.View u) d v t f h row = cc h
deed_ends n (event.Depart p l) crossing.None d v t f h row = cc h
deed_ends n (event.Depart p l) (crossing.Packet u) d v t f h row = subst (λ z. DeedEnds v.plan z t) (some_is _ d h) tt
deed_ends n (event.Depart p l) (crossing.View u) d v t f h row = cc h
deed_ends n (event.Arrive l p) crossing.None d v t f h row = cc h
deed_ends n (event.Arrive l p) (crossing.Packet u) d v t f h row = subst (λ z. DeedEnds v.plan z t) (some_is _ d h) tt
deed_ends n (event.Arrive l p) (crossing.View u) d v t f h row = cc h
deed_ends n (event.Route p) crossing.None d v t f h row = subst (λ z. DeedEnds v.plan z t) (some_is _ d h) tt
deed_ends n (event.Route p) (crossing.Packet u) d v t f h row = cc h
deed_ends n (event.Route p) (crossing.View u) d v t f h row = cc h
deed_ends n event.HostPut crossing.None d v t f h row = cc h
deed_ends n event.HostPut (crossing.Packet u) d v t f h row = subst (λ z. DeedEnds v.plan z t) (some_is _ d h) tt
deed_ends n event.HostPut (crossing.View u) d v t f h row = cc h
deed_ends n event.HostTake crossing.None d v t f h row = cc h
deed_ends n event.HostTake (crossing.Packet u) d v t f h row = subst (λ z. DeedEnds v.plan z t) (some_is _ d h) tt
deed_ends n event.HostTake (crossing.View u) d v t f h row = cc h
deed_ends n (event.Report p) crossing.None d v t f h row = cc h
deed_ends n (event.Report p) (crossing.Packet u) d v t f h row = cc h
deed_ends n (event.Report p) (crossing.View u) d v t f h row = subst (λ z. DeedEnds v.plan z t) (some_is _ d h) tt
deed_ends n event.Begin crossing.None d v t f h row = subst (λ z. DeedEnds v.plan z t) (some_is _ d h) tt
deed_ends n event.Begin (crossing.Packet u) d v t f h row = cc h
deed_ends n event.Begin (crossing.View u) d v t f h row = cc h
deed_ends n (event.Confirm p) crossing.None d v t f h row = cc h
deed_ends n (event.Confirm p) (crossing.Packet u) d v t f h row = cc h
deed_ends n (event.Confirm p) (crossing.View u) d v t f h row = subst (λ z. DeedEnds v.plan z t) (some_is _ d h) tt
deed_ends n event.Announce crossing.None d v t f h row = subst (λ z. DeedEnds v.plan z t) (some_is _ d h) tt
deed_ends n event.Announce (crossing.Packet u) d v t f h row = cc h
deed_ends n event.Announce (crossing.View u) d v t f h row = cc h
deed_ends n (event.Release p) crossing.None d v t f h row = cc h
deed_ends n (event.Release p) (crossing.Packet u) d v t f h row = cc h
deed_ends n (event.Release p) (crossing.View u) d v t f h row = subst (λ z. DeedEnds v.plan z t) (some_is _ d h) tt
deed_ends n (event.Go p) crossing.None d v t f h row = cc h
deed_ends n (event.Go p) (crossing.Packet u) d v t f h row = cc h
deed_ends n (event.Go p) (crossing.View u) d v t f h row = subst (λ z. DeedEnds v.plan z t) (some_is _ d h) tt
