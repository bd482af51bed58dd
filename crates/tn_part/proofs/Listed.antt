-- The first event of a list that is enabled, and machines in which none is.
use Rattle.std.proofs.Common.{◌≡◌, ℕ, zero, suc, ◌+◌, ◌<◌, ◌≤◌, ◌++◌, [], ◌∷◌, Bool, true, false, cond, IsSome, List, map, None, Some, refl, sym, subst, ap, arith, inl, inr, is_some, rules, option_and_then, option_map}
use Rattle.std.specs.declared.option.Option.{Option}
use Rattle.std.specs.List.{flat_map, range_with_len, slice_get}
use Rattle.std.proofs.lemmas.Bool.{cases_order}
use Rattle.tn_base.specs.declared.event.Event.{Event}
use Rattle.tn_base.specs.declared.event.Event.TheVariants as event
use Rattle.tn_base.specs.declared.ids.PartId.{PartId}
use Rattle.tn_base.specs.declared.ids.ThreadId.{ThreadId}
use Rattle.tn_base.specs.declared.shape.ShapeNumbers.{ShapeNumbers}
use Rattle.tn_base.specs.Address.{has_thread, thread_at, tile_of, tile_place}
use Rattle.tn_base.specs.Parts.{kind_of, part_count, tile_part}
use Rattle.tn_base.specs.Shape.{thread_count}
use Rattle.tn_rows.proofs.Meeting.{none_is}
use Rattle.tn_rows.specs.Events.{after, happened, happened_at, with_part}
use Rattle.tn_rows.specs.Listed.{arrivals, arrivals_from, deliveries, departures, departures_from, event_if, nth_thread, of_host, part_id, routings, turns}
use Rattle.tn_rows.specs.PartView.{PartView, TileV, RouterV, LinkV, HostV, DetectorV, AbsentV}
use Rattle.tn_rows.specs.Places.{at_part, is_router, leads_from, leads_to, part_of}
use Rattle.tn_rows.specs.WorldView.{WorldView}
use Rattle.tn_stamp.specs.declared.entry.Crossing.TheVariants as crossing
use Rattle.tn_tile.specs.Rows.{turn_row}
use Rattle.tn_tile.specs.declared.state.TileState.{TileState}
use Rattle.tn_tile.specs.TileView.{TileView, now_by}
use Rattle.tn_rows.proofs.Others.{joined, stands}
use Rattle.tn_part.proofs.Steps.{row_one}
use Rattle.tn_part.specs.First.{First, NoneOf}

-- ---- turns of one step stand for all

none_mapped : (v : TileView) (o : Option TileState) → option_map TileV (now_by v o) ≡ None → o ≡ None
none_mapped v None e = refl
none_mapped v (Some s) e = cc e

none_placed : (w : WorldView) (p : ℕ) (o : Option PartView) → option_map (with_part w p) o ≡ None → o ≡ None
none_placed w p None e = refl
none_placed w p (Some v) e = cc e

part_one : (t : ThreadId) (m : ℕ) (o : Option PartView) → option_and_then (after (event.Turn t 1) crossing.None) o ≡ None → option_and_then (after (event.Turn t m) crossing.None) o ≡ None
part_one t m None e = refl
part_one t m (Some (TileV v)) e = ap (λ o. option_map TileV (now_by v o)) (row_one v.plan t.0 m v.now (none_mapped v (turn_row v.plan t.0 1 v.now) e))
part_one t m (Some (RouterV v)) e = refl
part_one t m (Some (LinkV v)) e = refl
part_one t m (Some (HostV s)) e = refl
part_one t m (Some (DetectorV v)) e = refl
part_one t m (Some AbsentV) e = refl

at_one : (w : WorldView) (t : ThreadId) (m : ℕ) (o : Option ℕ) → happened_at (event.Turn t 1) w (at_part o) ≡ None → happened_at (event.Turn t m) w (at_part o) ≡ None
at_one w t m None e = refl
at_one w t m (Some p) e = ap (λ o. option_map (with_part w p) o) (part_one t m (slice_get w.parts p) (none_placed w p _ e))

-- a thread that cannot make one step makes no turn
pub no_turns : (w : WorldView) (t : ThreadId) (m : ℕ) → happened (event.Turn t 1) w ≡ None → happened (event.Turn t m) w ≡ None
no_turns w t m e = at_one w t m (part_of w.shape t) e

-- a thread that the machine has not makes nothing
pub no_thread : (w : WorldView) (e : Event) (t : ThreadId) → has_thread w.shape t.0 ≡ false → happened_at e w (at_part (part_of w.shape t)) ≡ None
no_thread w e t h = ap (λ b. happened_at e w (at_part (cond b (Some (tile_part (tile_place w.shape (tile_of t.0)))) None))) h

-- ---- lists of events

pub none_append : (w : WorldView) (xs ys : List Event) → NoneOf w xs → NoneOf w ys → NoneOf w (xs ++ ys)
none_append w [] ys a b = b
none_append w (x ∷ xs) ys a b = (a.0, none_append w xs ys a.1 b)

pub none_left : (w : WorldView) (xs ys : List Event) → NoneOf w (xs ++ ys) → NoneOf w xs
none_left w [] ys a = tt
none_left w (x ∷ xs) ys a = (a.0, none_left w xs ys a.1)

pub none_right : (w : WorldView) (xs ys : List Event) → NoneOf w (xs ++ ys) → NoneOf w ys
none_right w [] ys a = a
none_right w (x ∷ xs) ys a = none_right w xs ys a.1

pub first_left : (w : WorldView) (xs ys : List Event) (e : Event) → First w xs e → First w (xs ++ ys) e
first_left w [] ys e a = absurd a
first_left w (x ∷ xs) ys e (inl a) = inl a
first_left w (x ∷ xs) ys e (inr a) = inr (a.0, first_left w xs ys e a.1)

pub first_right : (w : WorldView) (xs ys : List Event) (e : Event) → NoneOf w xs → First w ys e → First w (xs ++ ys) e
first_right w [] ys e a f = f
first_right w (x ∷ xs) ys e a f = inr (a.0, first_right w xs ys e a.1 f)

-- the first event that is enabled is enabled
pub first_some : (w : WorldView) (xs : List Event) (e : Event) → First w xs e → IsSome (happened e w)
first_some w [] e f = absurd f
first_some w (x ∷ xs) e (inl a) = subst (λ x. IsSome (happened x w)) a.0 a.1
first_some w (x ∷ xs) e (inr a) = first_some w xs e a.1

-- an event for each number
pub none_mapped_all : (w : WorldView) (f : ℕ → Event) (i n : ℕ) → ((k : ℕ) → i ≤ k → k < i + n → happened (f k) w ≡ None) → NoneOf w (map f (range_with_len i n))
none_mapped_all w f i zero all = tt
none_mapped_all w f i (suc n) all = (all i (omega arith) (omega arith), none_mapped_all w f (i + 1) n (λ k low high. all k (omega arith) (omega arith)))

pub mapped_none : (w : WorldView) (f : ℕ → Event) (i n k : ℕ) → NoneOf w (map f (range_with_len i n)) → i ≤ k → k < i + n → happened (f k) w ≡ None
mapped_none w f i zero k none low high = absurd (omega arith)
mapped_none w f i (suc n) k none low high = elim (cases_order i k) [
  | inl e ↦ subst (λ j. happened (f j) w ≡ None) e none.0
  | inr less ↦ elim less [
    | inl up ↦ mapped_none w f (i + 1) n k none.1 (omega arith) (omega arith)
    | inr down ↦ absurd (omega arith)
  ]
]

pub first_mapped : (w : WorldView) (f : ℕ → Event) (i n j : ℕ) → i ≤ j → j < i + n → ((k : ℕ) → k < j → happened (f k) w ≡ None) → IsSome (happened (f j) w) → First w (map f (range_with_len i n)) (f j)
first_mapped w f i zero j low high none some = absurd (omega arith)
first_mapped w f i (suc n) j low high none some = elim (cases_order i j) [
  | inl e ↦ inl (ap f e, subst (λ j. IsSome (happened (f j) w)) (sym e) some)
  | inr less ↦ elim less [
    | inl up ↦ inr (none i up, first_mapped w f (i + 1) n j (omega arith) (omega arith) none some)
    | inr down ↦ absurd (omega arith)
  ]
]

-- a list of events for each number
none_flat : (w : WorldView) (f : ℕ → List Event) (i n : ℕ) → ((k : ℕ) → i ≤ k → k < i + n → NoneOf w (f k)) → NoneOf w (flat_map f (range_with_len i n))
none_flat w f i zero all = tt
none_flat w f i (suc n) all = none_append w (f i) (flat_map f (range_with_len (i + 1) n)) (all i (omega arith) (omega arith)) (none_flat w f (i + 1) n (λ k low high. all k (omega arith) (omega arith)))

pub flat_none : (w : WorldView) (f : ℕ → List Event) (i n k : ℕ) → NoneOf w (flat_map f (range_with_len i n)) → i ≤ k → k < i + n → NoneOf w (f k)
flat_none w f i zero k none low high = absurd (omega arith)
flat_none w f i (suc n) k none low high = elim (cases_order i k) [
  | inl e ↦ subst (λ j. NoneOf w (f j)) e (none_left w (f i) (flat_map f (range_with_len (i + 1) n)) none)
  | inr less ↦ elim less [
    | inl up ↦ flat_none w f (i + 1) n k (none_right w (f i) (flat_map f (range_with_len (i + 1) n)) none) (omega arith) (omega arith)
    | inr down ↦ absurd (omega arith)
  ]
]

first_flat : (w : WorldView) (f : ℕ → List Event) (i n j : ℕ) (e : Event) → i ≤ j → j < i + n → ((k : ℕ) → k < j → NoneOf w (f k)) → First w (f j) e → First w (flat_map f (range_with_len i n)) e
first_flat w f i zero j e low high none first = absurd (omega arith)
first_flat w f i (suc n) j e low high none first = elim (cases_order i j) [
  | inl is ↦ first_left w (f i) (flat_map f (range_with_len (i + 1) n)) e (subst (λ j. First w (f j) e) (sym is) first)
  | inr less ↦ elim less [
    | inl up ↦ first_right w (f i) (flat_map f (range_with_len (i + 1) n)) e (none i up) (first_flat w f (i + 1) n j e (omega arith) (omega arith) none first)
    | inr down ↦ absurd (omega arith)
  ]
]

none_if : (w : WorldView) (there : Bool) (e : Event) → happened e w ≡ None → NoneOf w (event_if there e)
none_if w true e h = (h, tt)
none_if w false e h = tt

pub if_none : (w : WorldView) (there : Bool) (e : Event) → NoneOf w (event_if there e) → there ≡ true → happened e w ≡ None
if_none w true e h is = h.0
if_none w false e h is = cc is

first_if : (w : WorldView) (there : Bool) (e : Event) → there ≡ true → IsSome (happened e w) → First w (event_if there e) e
first_if w true e is some = inl (refl, some)
first_if w false e is some = cc is

-- one number more
pub more : (P : ℕ → Type 0) (i : ℕ) → ((k : ℕ) → k < i → P k) → P i → (k : ℕ) → k < i + 1 → P k
more P i all here k h = elim (cases_order k i) [
  | inl e ↦ subst P (sym e) here
  | inr less ↦ elim less [ inl down ↦ all k down | inr up ↦ absurd (omega arith) ]
]

pub some_is : {A : Type 0} (o : Option A) → is_some o ≡ true → IsSome o
some_is None e = cc e
some_is (Some x) e = search rules

pub is_here : {A : Type 0} (o : Option A) → IsSome o → is_some o ≡ true
is_here None e = search rules
is_here (Some x) e = refl

-- ---- turns and deliveries, by thread

pub named : (n : ShapeNumbers) (t : ThreadId) (i : ℕ) → t.0 ≡ thread_at n i → nth_thread n i ≡ t
named n t i e = ap (λ (a : ℕ). record { 0 = a }) (sym e)

abbrev pub NoTurn : WorldView → ℕ → Type 0
NoTurn w k = happened (event.Turn (nth_thread w.shape k) 1) w ≡ None

abbrev pub NoDelivery : WorldView → ℕ → Type 0
NoDelivery w k = happened (event.Deliver (nth_thread w.shape k)) w ≡ None

pub turn_none : (w : WorldView) (t : ThreadId) (i : ℕ) → t.0 ≡ thread_at w.shape i → is_some (happened (event.Turn t 1) w) ≡ false → NoTurn w i
turn_none w t i e not = subst (λ (t : ThreadId). happened (event.Turn t 1) w ≡ None) (sym (named w.shape t i e)) (none_is (happened (event.Turn t 1) w) not)

pub delivery_none : (w : WorldView) (t : ThreadId) (i : ℕ) → t.0 ≡ thread_at w.shape i → is_some (happened (event.Deliver t) w) ≡ false → NoDelivery w i
delivery_none w t i e not = subst (λ (t : ThreadId). happened (event.Deliver t) w ≡ None) (sym (named w.shape t i e)) (none_is (happened (event.Deliver t) w) not)

pub first_turn : (w : WorldView) (t : ThreadId) (i : ℕ) → t.0 ≡ thread_at w.shape i → i < thread_count w.shape → ((k : ℕ) → k < i → NoTurn w k) → is_some (happened (event.Turn t 1) w) ≡ true → First w (turns w.shape) (event.Turn t 1)
first_turn w t i e h none some = subst (λ (t : ThreadId). First w (turns w.shape) (event.Turn t 1)) (named w.shape t i e)
    (first_mapped w (λ i. event.Turn (nth_thread w.shape i) 1) 0 (thread_count w.shape) i (omega arith) (omega arith) none
    (subst (λ (t : ThreadId). IsSome (happened (event.Turn t 1) w)) (sym (named w.shape t i e)) (some_is (happened (event.Turn t 1) w) some)))

pub first_delivery : (w : WorldView) (t : ThreadId) (i : ℕ) → t.0 ≡ thread_at w.shape i → i < thread_count w.shape → ((k : ℕ) → k < i → NoDelivery w k) → is_some (happened (event.Deliver t) w) ≡ true → First w (deliveries w.shape) (event.Deliver t)
first_delivery w t i e h none some = subst (λ (t : ThreadId). First w (deliveries w.shape) (event.Deliver t)) (named w.shape t i e)
    (first_mapped w (λ i. event.Deliver (nth_thread w.shape i)) 0 (thread_count w.shape) i (omega arith) (omega arith) none
    (subst (λ (t : ThreadId). IsSome (happened (event.Deliver t) w)) (sym (named w.shape t i e)) (some_is (happened (event.Deliver t) w) some)))

pub no_turn : (w : WorldView) (n : ℕ) → thread_count w.shape ≤ n → ((k : ℕ) → k < n → NoTurn w k) → NoneOf w (turns w.shape)
no_turn w n past none = none_mapped_all w (λ i. event.Turn (nth_thread w.shape i) 1) 0 (thread_count w.shape) (λ k low high. none k (omega arith))

pub no_delivery : (w : WorldView) (n : ℕ) → thread_count w.shape ≤ n → ((k : ℕ) → k < n → NoDelivery w k) → NoneOf w (deliveries w.shape)
no_delivery w n past none = none_mapped_all w (λ i. event.Deliver (nth_thread w.shape i)) 0 (thread_count w.shape) (λ k low high. none k (omega arith))

-- ---- departures and arrivals, by part

abbrev pub NoDeparture : WorldView → PartId → ℕ → Type 0
NoDeparture w p l = happened (event.Depart p (part_id l)) w ≡ None

abbrev pub NoArrival : WorldView → PartId → ℕ → Type 0
NoArrival w l p = happened (event.Arrive l (part_id p)) w ≡ None

pub first_departure_from : (w : WorldView) (p : PartId) (l : ℕ) → l < part_count w.shape → ((k : ℕ) → k < l → NoDeparture w p k) → is_some (happened (event.Depart p (part_id l)) w) ≡ true → First w (departures_from w.shape p.0) (event.Depart p (part_id l))
first_departure_from w p l h none some =
    let there : leads_from p.0 (kind_of w.shape l) ≡ true = joined (event.Depart p (part_id l)) w (leads_from p.0 (kind_of w.shape l)) p.0 l some in
    first_flat w (λ l. event_if (leads_from p.0 (kind_of w.shape l)) (event.Depart p (part_id l))) 0 (part_count w.shape) l (event.Depart p (part_id l)) (omega arith) (omega arith)
    (λ k less. none_if w (leads_from p.0 (kind_of w.shape k)) (event.Depart p (part_id k)) (none k less))
    (first_if w (leads_from p.0 (kind_of w.shape l)) (event.Depart p (part_id l)) there (some_is (happened (event.Depart p (part_id l)) w) some))

pub no_departure_from : (w : WorldView) (p : PartId) (n : ℕ) → part_count w.shape ≤ n → ((k : ℕ) → k < n → NoDeparture w p k) → NoneOf w (departures_from w.shape p.0)
no_departure_from w p n past none =
    none_flat w (λ l. event_if (leads_from p.0 (kind_of w.shape l)) (event.Depart p (part_id l))) 0 (part_count w.shape)
    (λ k low high. none_if w (leads_from p.0 (kind_of w.shape k)) (event.Depart p (part_id k)) (none k (omega arith)))

pub first_arrival_from : (w : WorldView) (l : PartId) (p : ℕ) → p < part_count w.shape → ((k : ℕ) → k < p → NoArrival w l k) → is_some (happened (event.Arrive l (part_id p)) w) ≡ true → First w (arrivals_from w.shape l.0) (event.Arrive l (part_id p))
first_arrival_from w l p h none some =
    let there : leads_to p (kind_of w.shape l.0) ≡ true = joined (event.Arrive l (part_id p)) w (leads_to p (kind_of w.shape l.0)) p l.0 some in
    first_flat w (λ p. event_if (leads_to p (kind_of w.shape l.0)) (event.Arrive l (part_id p))) 0 (part_count w.shape) p (event.Arrive l (part_id p)) (omega arith) (omega arith)
    (λ k less. none_if w (leads_to k (kind_of w.shape l.0)) (event.Arrive l (part_id k)) (none k less))
    (first_if w (leads_to p (kind_of w.shape l.0)) (event.Arrive l (part_id p)) there (some_is (happened (event.Arrive l (part_id p)) w) some))

pub no_arrival_from : (w : WorldView) (l : PartId) (n : ℕ) → part_count w.shape ≤ n → ((k : ℕ) → k < n → NoArrival w l k) → NoneOf w (arrivals_from w.shape l.0)
no_arrival_from w l n past none =
    none_flat w (λ p. event_if (leads_to p (kind_of w.shape l.0)) (event.Arrive l (part_id p))) 0 (part_count w.shape)
    (λ k low high. none_if w (leads_to k (kind_of w.shape l.0)) (event.Arrive l (part_id k)) (none k (omega arith)))

pub first_departure : (w : WorldView) (p : ℕ) (e : Event) → p < part_count w.shape → ((k : ℕ) → k < p → NoneOf w (departures_from w.shape k)) → First w (departures_from w.shape p) e → First w (departures w.shape) e
first_departure w p e h none first = first_flat w (departures_from w.shape) 0 (part_count w.shape) p e (omega arith) (omega arith) none first

pub no_departure : (w : WorldView) (n : ℕ) → part_count w.shape ≤ n → ((k : ℕ) → k < n → NoneOf w (departures_from w.shape k)) → NoneOf w (departures w.shape)
no_departure w n past none = none_flat w (departures_from w.shape) 0 (part_count w.shape) (λ k low high. none k (omega arith))

pub first_arrival : (w : WorldView) (l : ℕ) (e : Event) → l < part_count w.shape → ((k : ℕ) → k < l → NoneOf w (arrivals_from w.shape k)) → First w (arrivals_from w.shape l) e → First w (arrivals w.shape) e
first_arrival w l e h none first = first_flat w (arrivals_from w.shape) 0 (part_count w.shape) l e (omega arith) (omega arith) none first

pub no_arrival : (w : WorldView) (n : ℕ) → part_count w.shape ≤ n → ((k : ℕ) → k < n → NoneOf w (arrivals_from w.shape k)) → NoneOf w (arrivals w.shape)
no_arrival w n past none = none_flat w (arrivals_from w.shape) 0 (part_count w.shape) (λ k low high. none k (omega arith))

-- ---- routings, by router

abbrev pub NoRouting : WorldView → ℕ → Type 0
NoRouting w p = happened (event.Route (part_id p)) w ≡ None

pub first_routing : (w : WorldView) (p : ℕ) → p < part_count w.shape → ((k : ℕ) → k < p → NoRouting w k) → is_some (happened (event.Route (part_id p)) w) ≡ true → First w (routings w.shape) (event.Route (part_id p))
first_routing w p h none some =
    let there : is_router (kind_of w.shape p) ≡ true = stands (event.Route (part_id p)) w (is_router (kind_of w.shape p)) p some in
    first_flat w (λ p. event_if (is_router (kind_of w.shape p)) (event.Route (part_id p))) 0 (part_count w.shape) p (event.Route (part_id p)) (omega arith) (omega arith)
    (λ k less. none_if w (is_router (kind_of w.shape k)) (event.Route (part_id k)) (none k less))
    (first_if w (is_router (kind_of w.shape p)) (event.Route (part_id p)) there (some_is (happened (event.Route (part_id p)) w) some))

pub no_routing : (w : WorldView) (n : ℕ) → part_count w.shape ≤ n → ((k : ℕ) → k < n → NoRouting w k) → NoneOf w (routings w.shape)
no_routing w n past none =
    none_flat w (λ p. event_if (is_router (kind_of w.shape p)) (event.Route (part_id p))) 0 (part_count w.shape)
    (λ k low high. none_if w (is_router (kind_of w.shape k)) (event.Route (part_id k)) (none k (omega arith)))

-- ---- the host's events

pub first_put : (w : WorldView) → is_some (happened event.HostPut w) ≡ true → First w of_host event.HostPut
first_put w some = inl (refl, some_is (happened event.HostPut w) some)

pub first_take : (w : WorldView) → is_some (happened event.HostPut w) ≡ false → is_some (happened event.HostTake w) ≡ true → First w of_host event.HostTake
first_take w not some = inr (none_is (happened event.HostPut w) not, inl (refl, some_is (happened event.HostTake w) some))

pub none_of_host : (w : WorldView) → is_some (happened event.HostPut w) ≡ false → is_some (happened event.HostTake w) ≡ false → NoneOf w of_host
none_of_host w not none = (none_is (happened event.HostPut w) not, (none_is (happened event.HostTake w) none, tt))
