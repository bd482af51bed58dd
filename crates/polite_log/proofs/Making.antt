-- A turn that is made step by step, and the deeds of its steps.
use Rattle.std.proofs.Common.{ℕ, zero, suc, ◌+◌, ◌-◌, ◌^◌, ◌≡◌, ◌<◌, ◌≤◌, ◌∙◌, nat_lt, true, cond, List, length, set, refl, sym, ap, subst, arith, Option, Some, None, is_some, option_map, unwrap_or}
use Rattle.std.specs.Prelude.{option_and_then, slice_get}
use Rattle.std.proofs.lemmas.List.{get_or-set_same}
use Rattle.std.proofs.lemmas.Option.{slice_get-get_or, slice_get_within}
use Rattle.std.proofs.Common.{length-set}
use Rattle.tn_base.specs.declared.event.Event.TheVariants as event
use Rattle.tn_base.specs.declared.ids.ThreadId.{ThreadId}
use Rattle.tn_base.specs.Address.{place_in_tile}
use Rattle.tn_stamp.specs.declared.entry.Crossing.TheVariants as crossing
use Rattle.tn_tile.specs.declared.state.TileState.{TileState}
use Rattle.tn_tile.specs.Rows.{can_count, is_here, turn_row}
use Rattle.tn_tile.specs.Step.{can_step, step_at_place, stepped, steps_of, thread_at}
use Rattle.tn_tile.specs.TileView.{TilePlan, TileView, now_by, with_now}
use Rattle.tn_tile.proofs.Steps.{steps_more, steps_none, taken}
use Rattle.tn_tile.proofs.Turned.{set_twice}
use Rattle.tn_tile.proofs.Turns.{turn_is, turn_tests}
use Rattle.tn_rows.specs.Events.{after, happened, happened_at, with_part}
use Rattle.tn_rows.specs.PartView.{PartView, TileV, RouterV, LinkV, HostV, DetectorV, AbsentV, tile_of}
use Rattle.tn_rows.specs.Places.{at_part, part_of}
use Rattle.tn_rows.specs.WorldView.{WorldView}
use Rattle.tn_letters.specs.Steps.{after_step}
use Rattle.polite_edges.specs.declared.deed.Deed.{Deed}
use Rattle.polite_edges.specs.Deeds.{added}
use Rattle.polite_log.specs.Reading.{before_at, before_in, deed_read, home, if_here, next_deed, read_after}
use Rattle.polite_log.specs.TileDeeds.{deeds_on, part_deeds, step_deed, turn_deeds}
use Rattle.polite_log.proofs.Counted.{counted_on}
use Rattle.polite_log.proofs.Dispatches.{step_is_read, thread_after, thread_there}

-- ---- the tile that makes a turn

pub record TurnAt (t : ThreadId) (n : ℕ) (w end : WorldView) : Type 0 where
  pub part : ℕ
  pub tile : TileView
  pub made : TileState
  pub part_is : part_of w.shape t ≡ Some part
  pub tile_is : slice_get w.parts part ≡ Some (TileV tile)
  pub row : turn_row tile.plan t.0 n tile.now ≡ Some made
  pub end_is : end ≡ with_part w part (TileV (with_now tile made))

row_made : (v : TileView) (f : PartView → WorldView) (o : Option TileState) (end : WorldView) → option_map f (option_map TileV (now_by v o)) ≡ Some end → (s : TileState) × (o ≡ Some s) × (end ≡ f (TileV (with_now v s)))
row_made v f None end e = cc e
row_made v f (Some s) end e = (s, refl, sym (ap (λ (o : Option WorldView). unwrap_or o end) e))

at_read : (t : ThreadId) (n : ℕ) (w end : WorldView) (p : ℕ) (o : Option PartView) → part_of w.shape t ≡ Some p → slice_get w.parts p ≡ o → option_map (with_part w p) (option_and_then (after (event.Turn t n) crossing.None) o) ≡ Some end → TurnAt t n w end
at_read t n w end p None e f h = cc h
at_read t n w end p (Some (TileV v)) e f h =
    let m = row_made v (with_part w p) (turn_row v.plan t.0 n v.now) end h in
    record { part = p; tile = v; made = m.0; part_is = e; tile_is = f; row = m.1; end_is = m.2 }
at_read t n w end p (Some (RouterV v)) e f h = cc h
at_read t n w end p (Some (LinkV v)) e f h = cc h
at_read t n w end p (Some (HostV s)) e f h = cc h
at_read t n w end p (Some (DetectorV v)) e f h = cc h
at_read t n w end p (Some AbsentV) e f h = cc h

at_place : (t : ThreadId) (n : ℕ) (w end : WorldView) (o : Option ℕ) → part_of w.shape t ≡ o → happened_at (event.Turn t n) w (at_part o) ≡ Some end → TurnAt t n w end
at_place t n w end None e h = cc h
at_place t n w end (Some p) e h = at_read t n w end p (slice_get w.parts p) e refl h

pub turn_at : (t : ThreadId) (n : ℕ) (w end : WorldView) → happened (event.Turn t n) w ≡ Some end → TurnAt t n w end
turn_at t n w end h = at_place t n w end (part_of w.shape t) refl h

-- such a turn happens
happens : (t : ThreadId) (n : ℕ) (w : WorldView) (p : ℕ) (v : TileView) (s : TileState) → part_of w.shape t ≡ Some p → slice_get w.parts p ≡ Some (TileV v) → turn_row v.plan t.0 n v.now ≡ Some s → happened (event.Turn t n) w ≡ Some (with_part w p (TileV (with_now v s)))
happens t n w p v s e f row =
    ap (λ o. happened_at (event.Turn t n) w (at_part o)) e
    ∙ (ap (λ (o : Option PartView). option_map (with_part w p) (option_and_then (after (event.Turn t n) crossing.None) o)) f
    ∙ ap (λ (o : Option TileState). option_map (with_part w p) (option_map TileV (now_by v o))) row)

pub home_is : (t : ThreadId) (w : WorldView) (p : ℕ) (v : TileView) → part_of w.shape t ≡ Some p → slice_get w.parts p ≡ Some (TileV v) → is_here v.plan t.0 ≡ true → home w t ≡ Some v
home_is t w p v e f here =
    ap (λ (o : Option ℕ). option_and_then (if_here t) (option_and_then tile_of (option_and_then (slice_get w.parts) o))) e
    ∙ (ap (λ (o : Option PartView). option_and_then (if_here t) (option_and_then tile_of o)) f
    ∙ ap (λ b. cond b (Some v) None) here)

-- the part that was written
pub put_there : (w : WorldView) (p : ℕ) (x y : PartView) → slice_get w.parts p ≡ Some x → slice_get (with_part w p y).parts p ≡ Some y
put_there w p x y e =
    let within = slice_get_within w.parts p x e in
    let long : length (set w.parts p y) ≡ length w.parts = length-set w.parts p y in
    slice_get-get_or (set w.parts p y) p AbsentV (omega arith) ∙ ap Some (get_or-set_same w.parts p y AbsentV within)

-- ---- one step of a turn

pub record FirstStep (plan : TilePlan) (a m : ℕ) (s u : TileState) : Type 0 where
  pub here : is_here plan a ≡ true
  pub can : can_step plan.shape.fuel (place_in_tile plan.shape a) s ≡ true
  pub row : turn_row plan a 1 s ≡ Some (stepped plan.code (place_in_tile plan.shape a) s)
  pub rest : steps_of plan (place_in_tile plan.shape a) m (stepped plan.code (place_in_tile plan.shape a) s) ≡ Some u

first_step : (plan : TilePlan) (a m : ℕ) (s u : TileState) → turn_row plan a (suc m) s ≡ Some u → FirstStep plan a m s u
unfolding steps_of
first_step plan a m s u row =
    let t = turn_tests plan a (suc m) s u row in
    let k : ℕ = place_in_tile plan.shape a in
    let parts = taken (can_step plan.shape.fuel k s) (steps_of plan k m (stepped plan.code k s)) u t.steps in
    let high = t.high in
    record {
      here = t.here;
      can = parts.0;
      row = turn_is plan a 1 s (stepped plan.code k s) t.here t.counts (omega arith) (omega arith) (steps_more plan k 0 s s (steps_none plan k s) parts.0);
      rest = parts.1;
    }

-- the steps that are left are a turn
next_row : (v : TileView) (a m : ℕ) (u : TileState) → turn_row v.plan a (suc (suc m)) v.now ≡ Some u → turn_row v.plan a (suc m) (stepped v.plan.code (place_in_tile v.plan.shape a) v.now) ≡ Some u
unfolding steps_of
next_row v a m u row =
    let t = turn_tests v.plan a (suc (suc m)) v.now u row in
    let first = first_step v.plan a (suc m) v.now u row in
    let k : ℕ = place_in_tile v.plan.shape a in
    let s : TileState = stepped v.plan.code k v.now in
    let more = taken (can_step v.plan.shape.fuel k s) (steps_of v.plan k m (stepped v.plan.code k s)) u first.rest in
    let counts : can_count s ≡ true = ap (λ d. nat_lt d (2 ^ 63)) (counted_on k v (thread_there v.plan.shape.fuel k v.now first.can) first.can more.0) ∙ t.counts in
    let high = t.high in
    turn_is v.plan a (suc m) s u t.here counts (omega arith) (omega arith) first.rest

-- what is left of a turn of a machine: no step, or a turn
abbrev pub Left : ℕ → ThreadId → WorldView → WorldView → Type 0
Left zero t now end = now ≡ end
Left (suc m) t now end = happened (event.Turn t (suc m)) now ≡ Some end

pub record OneStep (t : ThreadId) (m : ℕ) (w end : WorldView) : Type 0 where
  pub mid : WorldView
  pub first : happened (event.Turn t 1) w ≡ Some mid
  pub rest : Left m t mid end
  pub deeds : (ds : List Deed) → deeds_on ds t (suc m) w (part_of w.shape t) ≡ deeds_on (added (next_deed t w) ds) t m mid (part_of mid.shape t)

rest_of : (m : ℕ) (t : ThreadId) (w end : WorldView) (a : TurnAt t (suc m) w end) → Left m t (with_part w a.part (TileV (after_step (place_in_tile a.tile.plan.shape t.0) a.tile))) end
unfolding steps_of
rest_of zero t w end a =
    let first = first_step a.tile.plan t.0 0 a.tile.now a.made a.row in
    let same : stepped a.tile.plan.code (place_in_tile a.tile.plan.shape t.0) a.tile.now ≡ a.made = ap (λ (o : Option TileState). unwrap_or o a.made) first.rest in
    ap (λ s. with_part w a.part (TileV (with_now a.tile s))) same ∙ sym a.end_is
rest_of (suc m) t w end a =
    let x : TileView = after_step (place_in_tile a.tile.plan.shape t.0) a.tile in
    let mid : WorldView = with_part w a.part (TileV x) in
    let there = put_there w a.part (TileV a.tile) (TileV x) a.tile_is in
    let next = happens t (suc m) mid a.part x a.made a.part_is there (next_row a.tile t.0 m a.made a.row) in
    next ∙ ap Some (ap (λ (ps : List PartView). record w { parts = ps }) (set_twice w.parts a.part (TileV x) (TileV (with_now a.tile a.made))) ∙ sym a.end_is)

deed_next : (t : ThreadId) (w : WorldView) (v : TileView) → home w t ≡ Some v → next_deed t w ≡ step_deed t.0 (place_in_tile v.plan.shape t.0) v
deed_next t w v e = ap (λ (o : Option TileView). option_and_then (λ (x : TileView). step_deed t.0 (place_in_tile x.plan.shape t.0) x) o) e

turn_more : (ds : List Deed) (a k m : ℕ) (v : TileView) → turn_deeds ds a k (suc m) v ≡ turn_deeds (added (step_deed a k v) ds) a k m (after_step k v)
unfolding turn_deeds
turn_more ds a k m v = refl

on_is : (ds : List Deed) (t : ThreadId) (n : ℕ) (w : WorldView) (p : ℕ) (v : TileView) → part_of w.shape t ≡ Some p → slice_get w.parts p ≡ Some (TileV v) → deeds_on ds t n w (part_of w.shape t) ≡ turn_deeds ds t.0 (place_in_tile v.plan.shape t.0) n v
on_is ds t n w p v e f = ap (deeds_on ds t n w) e ∙ ap (part_deeds ds t n) f

pub one_step : (t : ThreadId) (m : ℕ) (w end : WorldView) → happened (event.Turn t (suc m)) w ≡ Some end → OneStep t m w end
one_step t m w end h =
    let a = turn_at t (suc m) w end h in
    let k : ℕ = place_in_tile a.tile.plan.shape t.0 in
    let x : TileView = after_step k a.tile in
    let mid : WorldView = with_part w a.part (TileV x) in
    let first = first_step a.tile.plan t.0 m a.tile.now a.made a.row in
    let there = put_there w a.part (TileV a.tile) (TileV x) a.tile_is in
    record {
      mid = mid;
      first = happens t 1 w a.part a.tile (stepped a.tile.plan.code k a.tile.now) a.part_is a.tile_is first.row;
      rest = rest_of m t w end a;
      deeds = λ ds. on_is ds t (suc m) w a.part a.tile a.part_is a.tile_is
          ∙ (turn_more ds t.0 k m a.tile
          ∙ (ap (λ d. turn_deeds (added d ds) t.0 k m x) (sym (deed_next t w a.tile (home_is t w a.part a.tile a.part_is a.tile_is first.here)))
          ∙ sym (on_is (added (next_deed t w) ds) t m mid a.part x a.part_is there)));
    }

-- the deed that is read before and after a step is the step's deed
pub step_read : (t : ThreadId) (w new : WorldView) → happened (event.Turn t 1) w ≡ Some new → read_after t (before_in t w) new ≡ next_deed t w
step_read t w new h =
    let a = turn_at t 1 w new h in
    let k : ℕ = place_in_tile a.tile.plan.shape t.0 in
    let x : TileView = after_step k a.tile in
    let first = first_step a.tile.plan t.0 0 a.tile.now a.made a.row in
    let one = one_step t 0 w new h in
    let there = put_there w a.part (TileV a.tile) (TileV x) a.tile_is in
    let mid : WorldView = with_part w a.part (TileV x) in
    let is : mid ≡ new = rest_of 0 t w new a in
    let before = home_is t w a.part a.tile a.part_is a.tile_is first.here in
    let later : home new t ≡ Some x = ap (λ u. home u t) (sym is) ∙ home_is t mid a.part x a.part_is there first.here in
    let made = step_at_place a.tile.plan.code k a.tile.now in
    ap (λ (o : Option TileView). option_and_then (λ b. option_and_then (λ (v : TileView). deed_read t.0 b (thread_at v.now (place_in_tile v.plan.shape t.0))) o) (before_in t w)) later
    ∙ (ap (λ (o : Option TileView). option_and_then (λ b. deed_read t.0 b (thread_at x.now k)) (option_and_then (λ (v : TileView). before_at (place_in_tile v.plan.shape t.0) v) o)) before
    ∙ (ap (λ u. option_and_then (λ b. deed_read t.0 b u) (before_at k a.tile)) (thread_after k a.tile first.can)
    ∙ (sym (step_is_read t.0 k a.tile) ∙ sym (deed_next t w a.tile before))))

-- ---- the loop over the steps

pub record TurnGoes (t : ThreadId) (n made : ℕ) (start now : WorldView) (old ds : List Deed) : Type 0 where
  pub end : WorldView
  pub whole : happened (event.Turn t n) start ≡ Some end
  pub rest : Left (n - made) t now end
  pub deeds : deeds_on ds t (n - made) now (part_of now.shape t) ≡ deeds_on old t n start (part_of start.shape t)

left_now : (n made : ℕ) → made < n → n - made ≡ suc (n - (made + 1))
left_now n made h = omega arith

step_of : (t : ThreadId) (n made : ℕ) (start now : WorldView) (old ds : List Deed) (g : TurnGoes t n made start now old ds) → made < n → OneStep t (n - (made + 1)) now g.end
step_of t n made start now old ds g less = one_step t (n - (made + 1)) now g.end (subst (λ m. Left m t now g.end) (left_now n made less) g.rest)

pub turn_can : (t : ThreadId) (n made : ℕ) (start now : WorldView) (old ds : List Deed) → TurnGoes t n made start now old ds → made < n → is_some (happened (event.Turn t 1) now) ≡ true
turn_can t n made start now old ds g less = ap is_some (step_of t n made start now old ds g less).first

same_some : {X : Type 0} (x y : X) → Some x ≡ Some y → x ≡ y
same_some x y e = ap (λ o. unwrap_or o x) e

pub turn_goes : (t : ThreadId) (n made : ℕ) (start now new : WorldView) (old ds more : List Deed) → TurnGoes t n made start now old ds → made < n → happened (event.Turn t 1) now ≡ Some new → more ≡ added (next_deed t now) ds → TurnGoes t n (made + 1) start new old more
turn_goes t n made start now new old ds more g less h is =
    let one = step_of t n made start now old ds g less in
    let same : one.mid ≡ new = same_some one.mid new (sym one.first ∙ h) in
    let m : ℕ = n - (made + 1) in
    record {
      end = g.end;
      whole = g.whole;
      rest = subst (λ u. Left m t u g.end) same one.rest;
      deeds = ap (λ x. deeds_on x t m new (part_of new.shape t)) is
          ∙ (ap (λ u. deeds_on (added (next_deed t now) ds) t m u (part_of u.shape t)) (sym same)
          ∙ (sym (one.deeds ds)
          ∙ (ap (λ j. deeds_on ds t j now (part_of now.shape t)) (sym (left_now n made less)) ∙ g.deeds)));
    }

turn_none : (ds : List Deed) (a k : ℕ) (v : TileView) → turn_deeds ds a k 0 v ≡ ds
unfolding turn_deeds
turn_none ds a k v = refl

part_none : (ds : List Deed) (t : ThreadId) (o : Option PartView) → part_deeds ds t 0 o ≡ ds
part_none ds t None = refl
part_none ds t (Some (TileV v)) = turn_none ds t.0 (place_in_tile v.plan.shape t.0) v
part_none ds t (Some (RouterV v)) = refl
part_none ds t (Some (LinkV v)) = refl
part_none ds t (Some (HostV s)) = refl
part_none ds t (Some (DetectorV v)) = refl
part_none ds t (Some AbsentV) = refl

on_none : (ds : List Deed) (t : ThreadId) (w : WorldView) (o : Option ℕ) → deeds_on ds t 0 w o ≡ ds
on_none ds t w None = refl
on_none ds t w (Some p) = part_none ds t (slice_get w.parts p)

pub turn_done : (t : ThreadId) (n made : ℕ) (start now : WorldView) (old ds : List Deed) → TurnGoes t n made start now old ds → n ≤ made → (happened (event.Turn t n) start ≡ Some now) × (ds ≡ deeds_on old t n start (part_of start.shape t))
turn_done t n made start now old ds g all =
    let none : n - made ≡ 0 = omega arith in
    let same : now ≡ g.end = subst (λ m. Left m t now g.end) none g.rest in (
      g.whole ∙ ap Some (sym same),
      sym (ap (λ m. deeds_on ds t m now (part_of now.shape t)) none ∙ on_none ds t now (part_of now.shape t)) ∙ g.deeds,
    )
