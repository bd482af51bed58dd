-- All events of a machine, list by list, and machines in which none is enabled.
use Rattle.std.proofs.Common.{◌≡◌, ◌∙◌, ℕ, ◌<◌, ◌≤◌, ◌++◌, [], ◌∷◌, Bool, true, false, IsTrue, List, None, Some, refl, sym, subst, arith, inl, inr, ◌⊎◌, is_some, length, ltb, MatchOption}
use Rattle.std.specs.declared.option.Option.{Option}
use Rattle.std.proofs.lemmas.Bool.{cases_order, ltb-true}
use Rattle.tn_base.specs.declared.event.Event.{Event}
use Rattle.tn_base.specs.declared.event.Event.TheVariants as event
use Rattle.tn_base.specs.declared.ids.PartId.{PartId}
use Rattle.tn_base.specs.declared.ids.ThreadId.{ThreadId}
use Rattle.tn_base.specs.declared.shape.ShapeNumbers.{ShapeNumbers}
use Rattle.tn_base.specs.Address.{has_thread, thread_at}
use Rattle.tn_base.specs.Parts.{kind_of, part_count, visited}
use Rattle.tn_base.specs.Shape.{thread_count}
use Rattle.tn_rows.proofs.Meeting.{none_is}
use Rattle.tn_rows.specs.Events.{happened, happened_at, Rests}
use Rattle.tn_rows.specs.Listed.{arrivals, arrivals_from, by_part, confirmations, deliveries, departures, departures_from, event_if, goings, listed, nth_thread, of_detector, of_host, part_id, releases, reports, routings, turns}
use Rattle.tn_rows.specs.Places.{detector_part, is_router, leads_from, leads_to, one_if, two_if}
use Rattle.tn_rows.specs.WorldView.{WorldView}
use Rattle.tn_part.proofs.Listed.{first_left, first_mapped, first_right, flat_none, if_none, mapped_none, named, no_thread, no_turns, none_append, none_left, none_mapped_all, none_right, some_is}
use Rattle.tn_rows.proofs.Others.{high_past, low_past, part_past}
use Rattle.tn_part.proofs.Visits.{visit_is}
use Rattle.tn_part.specs.declared.visit.Visit.{Visit}
use Rattle.tn_part.specs.declared.visit.Visit.TheVariants as visit
use Rattle.tn_part.specs.First.{First, NoneOf}
use Rattle.tn_part.specs.Visits.{visit_event}

-- ---- visits, by part

abbrev pub NoVisit : WorldView → Visit → ℕ → Type 0
NoVisit w v p = happened (visit_event v (part_id p)) w ≡ None

pub first_visit : (w : WorldView) (v : Visit) (p : ℕ) → p < visited w.shape → ((k : ℕ) → k < p → NoVisit w v k) → is_some (happened (visit_event v (part_id p)) w) ≡ true → First w (by_part (visit_event v) w.shape) (visit_event v (part_id p))
first_visit w v p h none some =
    first_mapped w (λ i. visit_event v (part_id i)) 0 (visited w.shape) p (omega arith) (omega arith) none (some_is (happened (visit_event v (part_id p)) w) some)

pub no_visit : (w : WorldView) (v : Visit) (n : ℕ) → visited w.shape ≤ n → ((k : ℕ) → k < n → NoVisit w v k) → NoneOf w (by_part (visit_event v) w.shape)
no_visit w v n past none = none_mapped_all w (λ i. visit_event v (part_id i)) 0 (visited w.shape) (λ k low high. none k (omega arith))

-- ---- the detector's events

-- reports and Begin, these and confirmations, these and Announce, and these and releases
abbrev two_kinds : ShapeNumbers → List Event
two_kinds n = reports n ++ (event.Begin ∷ [])

abbrev three_kinds : ShapeNumbers → List Event
three_kinds n = two_kinds n ++ confirmations n

abbrev four_kinds : ShapeNumbers → List Event
four_kinds n = three_kinds n ++ (event.Announce ∷ [])

abbrev five_kinds : ShapeNumbers → List Event
five_kinds n = four_kinds n ++ releases n

behind_five : (w : WorldView) (e : Event) → First w (five_kinds w.shape) e → First w (of_detector w.shape) e
behind_five w e f = first_left w (five_kinds w.shape) (goings w.shape) e f

behind_four : (w : WorldView) (e : Event) → First w (four_kinds w.shape) e → First w (of_detector w.shape) e
behind_four w e f = behind_five w e (first_left w (four_kinds w.shape) (releases w.shape) e f)

behind_three : (w : WorldView) (e : Event) → First w (three_kinds w.shape) e → First w (of_detector w.shape) e
behind_three w e f = behind_four w e (first_left w (three_kinds w.shape) (event.Announce ∷ []) e f)

behind_two : (w : WorldView) (e : Event) → First w (two_kinds w.shape) e → First w (of_detector w.shape) e
behind_two w e f = behind_three w e (first_left w (two_kinds w.shape) (confirmations w.shape) e f)

-- none of the first kinds is enabled
none_two : (w : WorldView) → NoneOf w (reports w.shape) → is_some (happened event.Begin w) ≡ false → NoneOf w (two_kinds w.shape)
none_two w reported begun = none_append w (reports w.shape) (event.Begin ∷ []) reported (none_is (happened event.Begin w) begun, tt)

none_three : (w : WorldView) → NoneOf w (reports w.shape) → is_some (happened event.Begin w) ≡ false → NoneOf w (confirmations w.shape) → NoneOf w (three_kinds w.shape)
none_three w reported begun confirmed = none_append w (two_kinds w.shape) (confirmations w.shape) (none_two w reported begun) confirmed

none_four : (w : WorldView) → NoneOf w (reports w.shape) → is_some (happened event.Begin w) ≡ false → NoneOf w (confirmations w.shape) → is_some (happened event.Announce w) ≡ false → NoneOf w (four_kinds w.shape)
none_four w reported begun confirmed announced = none_append w (three_kinds w.shape) (event.Announce ∷ []) (none_three w reported begun confirmed) (none_is (happened event.Announce w) announced, tt)

pub detector_reports : (w : WorldView) (e : Event) → First w (reports w.shape) e → First w (of_detector w.shape) e
detector_reports w e f = behind_two w e (first_left w (reports w.shape) (event.Begin ∷ []) e f)

pub detector_begins : (w : WorldView) → NoneOf w (reports w.shape) → is_some (happened event.Begin w) ≡ true → First w (of_detector w.shape) event.Begin
detector_begins w reported some = behind_two w event.Begin (first_right w (reports w.shape) (event.Begin ∷ []) event.Begin reported (inl (refl, some_is (happened event.Begin w) some)))

pub detector_confirms : (w : WorldView) (e : Event) → NoneOf w (reports w.shape) → is_some (happened event.Begin w) ≡ false → First w (confirmations w.shape) e → First w (of_detector w.shape) e
detector_confirms w e reported begun f = behind_three w e (first_right w (two_kinds w.shape) (confirmations w.shape) e (none_two w reported begun) f)

pub detector_announces : (w : WorldView) → NoneOf w (reports w.shape) → is_some (happened event.Begin w) ≡ false → NoneOf w (confirmations w.shape) → is_some (happened event.Announce w) ≡ true → First w (of_detector w.shape) event.Announce
detector_announces w reported begun confirmed some =
    behind_four w event.Announce (first_right w (three_kinds w.shape) (event.Announce ∷ []) event.Announce (none_three w reported begun confirmed) (inl (refl, some_is (happened event.Announce w) some)))

pub detector_releases : (w : WorldView) (e : Event) → NoneOf w (reports w.shape) → is_some (happened event.Begin w) ≡ false → NoneOf w (confirmations w.shape) → is_some (happened event.Announce w) ≡ false → First w (releases w.shape) e → First w (of_detector w.shape) e
detector_releases w e reported begun confirmed announced f = behind_five w e (first_right w (four_kinds w.shape) (releases w.shape) e (none_four w reported begun confirmed announced) f)

-- the first event of a list, or none, behind a list in which none is enabled
join_lists : (w : WorldView) (xs ys : List Event) (r : Option Event) → NoneOf w xs → MatchOption r (NoneOf w ys) (First w ys) → MatchOption r (NoneOf w (xs ++ ys)) (First w (xs ++ ys))
join_lists w xs ys None none h = none_append w xs ys none h
join_lists w xs ys (Some e) none h = first_right w xs ys e none h

pub detector_lets_go : (w : WorldView) (r : Option Event) → NoneOf w (reports w.shape) → is_some (happened event.Begin w) ≡ false → NoneOf w (confirmations w.shape) → is_some (happened event.Announce w) ≡ false → NoneOf w (releases w.shape) →
    MatchOption r (NoneOf w (goings w.shape)) (First w (goings w.shape)) → MatchOption r (NoneOf w (of_detector w.shape)) (First w (of_detector w.shape))
detector_lets_go w r reported begun confirmed announced released h =
    join_lists w (five_kinds w.shape) (goings w.shape) r (none_append w (four_kinds w.shape) (releases w.shape) (none_four w reported begun confirmed announced) released) h

-- ---- all seven lists

-- turns and deliveries, these and departures, these and arrivals, these and routings, and these and the host's events
abbrev two_lists : ShapeNumbers → List Event
two_lists n = turns n ++ deliveries n

abbrev three_lists : ShapeNumbers → List Event
three_lists n = two_lists n ++ departures n

abbrev four_lists : ShapeNumbers → List Event
four_lists n = three_lists n ++ arrivals n

abbrev five_lists : ShapeNumbers → List Event
five_lists n = four_lists n ++ routings n

abbrev six_lists : ShapeNumbers → List Event
six_lists n = five_lists n ++ of_host

in_front : (w : WorldView) (e : Event) → First w (six_lists w.shape) e → First w (listed w.shape) e
in_front w e f = first_left w (six_lists w.shape) (of_detector w.shape) e f

pub listed_turn : (w : WorldView) (e : Event) → First w (turns w.shape) e → First w (listed w.shape) e
listed_turn w e f =
    in_front w e (first_left w (five_lists w.shape) of_host e
    (first_left w (four_lists w.shape) (routings w.shape) e
    (first_left w (three_lists w.shape) (arrivals w.shape) e
    (first_left w (two_lists w.shape) (departures w.shape) e
    (first_left w (turns w.shape) (deliveries w.shape) e f)))))

pub listed_delivery : (w : WorldView) (e : Event) → NoneOf w (turns w.shape) → First w (deliveries w.shape) e → First w (listed w.shape) e
listed_delivery w e turned f =
    in_front w e (first_left w (five_lists w.shape) of_host e
    (first_left w (four_lists w.shape) (routings w.shape) e
    (first_left w (three_lists w.shape) (arrivals w.shape) e
    (first_left w (two_lists w.shape) (departures w.shape) e
    (first_right w (turns w.shape) (deliveries w.shape) e turned f)))))

pub listed_departure : (w : WorldView) (e : Event) → NoneOf w (turns w.shape) → NoneOf w (deliveries w.shape) → First w (departures w.shape) e → First w (listed w.shape) e
listed_departure w e turned delivered f =
    in_front w e (first_left w (five_lists w.shape) of_host e
    (first_left w (four_lists w.shape) (routings w.shape) e
    (first_left w (three_lists w.shape) (arrivals w.shape) e
    (first_right w (two_lists w.shape) (departures w.shape) e
    (none_append w (turns w.shape) (deliveries w.shape) turned delivered) f))))

pub listed_arrival : (w : WorldView) (e : Event) → NoneOf w (turns w.shape) → NoneOf w (deliveries w.shape) → NoneOf w (departures w.shape) → First w (arrivals w.shape) e → First w (listed w.shape) e
listed_arrival w e turned delivered departed f =
    in_front w e (first_left w (five_lists w.shape) of_host e
    (first_left w (four_lists w.shape) (routings w.shape) e
    (first_right w (three_lists w.shape) (arrivals w.shape) e
    (none_append w (two_lists w.shape) (departures w.shape) (none_append w (turns w.shape) (deliveries w.shape) turned delivered) departed) f)))

-- none of the first four lists is enabled
none_of_four : (w : WorldView) → NoneOf w (turns w.shape) → NoneOf w (deliveries w.shape) → NoneOf w (departures w.shape) → NoneOf w (arrivals w.shape) → NoneOf w (four_lists w.shape)
none_of_four w turned delivered departed arrived =
    none_append w (three_lists w.shape) (arrivals w.shape)
    (none_append w (two_lists w.shape) (departures w.shape) (none_append w (turns w.shape) (deliveries w.shape) turned delivered) departed) arrived

pub listed_routing : (w : WorldView) (e : Event) → NoneOf w (turns w.shape) → NoneOf w (deliveries w.shape) → NoneOf w (departures w.shape) → NoneOf w (arrivals w.shape) → First w (routings w.shape) e → First w (listed w.shape) e
listed_routing w e turned delivered departed arrived f =
    in_front w e (first_left w (five_lists w.shape) of_host e
    (first_right w (four_lists w.shape) (routings w.shape) e (none_of_four w turned delivered departed arrived) f))

pub listed_of_host : (w : WorldView) (e : Event) → NoneOf w (turns w.shape) → NoneOf w (deliveries w.shape) → NoneOf w (departures w.shape) → NoneOf w (arrivals w.shape) → NoneOf w (routings w.shape) → First w of_host e → First w (listed w.shape) e
listed_of_host w e turned delivered departed arrived routed f =
    in_front w e (first_right w (five_lists w.shape) of_host e
    (none_append w (four_lists w.shape) (routings w.shape) (none_of_four w turned delivered departed arrived) routed) f)

-- each thread of the machine stands in the list
abbrev pub Each : ShapeNumbers → Type 0
Each n = (a : ℕ) → IsTrue (has_thread n a) → (i : ℕ) × (i < thread_count n) × (thread_at n i ≡ a)

turn_rests : (w : WorldView) (t : ThreadId) (m : ℕ) (b : Bool) → has_thread w.shape t.0 ≡ b → Each w.shape → NoneOf w (turns w.shape) → happened (event.Turn t m) w ≡ None
turn_rests w t m true is each none =
    let got = each t.0 is in
    let same : nth_thread w.shape got.0 ≡ t = named w.shape t got.0 (sym got.2) in
    no_turns w t m (subst (λ (t : ThreadId). happened (event.Turn t 1) w ≡ None) same (mapped_none w (λ i. event.Turn (nth_thread w.shape i) 1) 0 (thread_count w.shape) got.0 none (omega arith) (omega (arith, got.1))))
turn_rests w t m false is each none = no_thread w (event.Turn t m) t is

delivery_rests : (w : WorldView) (t : ThreadId) (b : Bool) → has_thread w.shape t.0 ≡ b → Each w.shape → NoneOf w (deliveries w.shape) → happened (event.Deliver t) w ≡ None
delivery_rests w t true is each none =
    let got = each t.0 is in
    let same : nth_thread w.shape got.0 ≡ t = named w.shape t got.0 (sym got.2) in
    subst (λ (t : ThreadId). happened (event.Deliver t) w ≡ None) same (mapped_none w (λ i. event.Deliver (nth_thread w.shape i)) 0 (thread_count w.shape) got.0 none (omega arith) (omega (arith, got.1)))
delivery_rests w t false is each none = no_thread w (event.Deliver t) t is

-- two parts of a machine, or one of them past its last part
within : (n p q : ℕ) → ((p < n) × (q < n)) ⊎ ((n ≤ p) ⊎ (n ≤ q))
within n p q = elim (cases_order p n) [
  | inl e ↦ inr (inl (omega arith))
  | inr less ↦ elim less [
    | inr up ↦ inr (inl (omega arith))
    | inl low ↦ elim (cases_order q n) [
      | inl e ↦ inr (inr (omega arith))
      | inr less ↦ elim less [ inl high ↦ inl (low, high) | inr up ↦ inr (inr (omega arith)) ]
    ]
  ]
]

there_or : (w : WorldView) (e : Event) (there : Bool) (p q : ℕ) → (there ≡ true → happened_at e w (two_if there p q) ≡ None) → happened_at e w (two_if there p q) ≡ None
there_or w e true p q h = h refl
there_or w e false p q h = refl

departure_rests : (w : WorldView) (p l : PartId) → length w.parts ≡ part_count w.shape → NoneOf w (departures w.shape) → happened (event.Depart p l) w ≡ None
departure_rests w p l count none = elim (within (part_count w.shape) p.0 l.0) [
  | inl both ↦ there_or w (event.Depart p l) (leads_from p.0 (kind_of w.shape l.0)) p.0 l.0 (if_none w (leads_from p.0 (kind_of w.shape l.0)) (event.Depart p l)
      (flat_none w (λ k. event_if (leads_from p.0 (kind_of w.shape k)) (event.Depart p (part_id k))) 0 (part_count w.shape) l.0
      (flat_none w (departures_from w.shape) 0 (part_count w.shape) p.0 none (omega arith) (omega (arith, both.0))) (omega arith) (omega (arith, both.1))))
  | inr past ↦ elim past [
    | inl low ↦ low_past (event.Depart p l) w (leads_from p.0 (kind_of w.shape l.0)) p.0 l.0 (omega (arith, low, count))
    | inr high ↦ high_past (event.Depart p l) w (leads_from p.0 (kind_of w.shape l.0)) p.0 l.0 (omega (arith, high, count))
  ]
]

arrival_rests : (w : WorldView) (l p : PartId) → length w.parts ≡ part_count w.shape → NoneOf w (arrivals w.shape) → happened (event.Arrive l p) w ≡ None
arrival_rests w l p count none = elim (within (part_count w.shape) p.0 l.0) [
  | inl both ↦ there_or w (event.Arrive l p) (leads_to p.0 (kind_of w.shape l.0)) p.0 l.0 (if_none w (leads_to p.0 (kind_of w.shape l.0)) (event.Arrive l p)
      (flat_none w (λ k. event_if (leads_to k (kind_of w.shape l.0)) (event.Arrive l (part_id k))) 0 (part_count w.shape) p.0
      (flat_none w (arrivals_from w.shape) 0 (part_count w.shape) l.0 none (omega arith) (omega (arith, both.1))) (omega arith) (omega (arith, both.0))))
  | inr past ↦ elim past [
    | inl low ↦ low_past (event.Arrive l p) w (leads_to p.0 (kind_of w.shape l.0)) p.0 l.0 (omega (arith, low, count))
    | inr high ↦ high_past (event.Arrive l p) w (leads_to p.0 (kind_of w.shape l.0)) p.0 l.0 (omega (arith, high, count))
  ]
]

one_or : (w : WorldView) (e : Event) (there : Bool) (p : ℕ) → (there ≡ true → happened_at e w (one_if there p) ≡ None) → happened_at e w (one_if there p) ≡ None
one_or w e true p h = h refl
one_or w e false p h = refl

routing_rests : (w : WorldView) (p : PartId) → length w.parts ≡ part_count w.shape → NoneOf w (routings w.shape) → happened (event.Route p) w ≡ None
routing_rests w p count none = elim (within (part_count w.shape) p.0 p.0) [
  | inl both ↦ one_or w (event.Route p) (is_router (kind_of w.shape p.0)) p.0 (if_none w (is_router (kind_of w.shape p.0)) (event.Route p)
      (flat_none w (λ k. event_if (is_router (kind_of w.shape k)) (event.Route (part_id k))) 0 (part_count w.shape) p.0 none (omega arith) (omega (arith, both.0))))
  | inr past ↦ elim past [
    | inl low ↦ part_past (event.Route p) w (is_router (kind_of w.shape p.0)) p.0 (omega (arith, low, count))
    | inr high ↦ part_past (event.Route p) w (is_router (kind_of w.shape p.0)) p.0 (omega (arith, high, count))
  ]
]

visit_rests : (w : WorldView) (v : Visit) (p : PartId) → NoneOf w (by_part (visit_event v) w.shape) → happened (visit_event v p) w ≡ None
visit_rests w v p none =
    visit_is w v p
    ∙ there_or w (visit_event v p) (ltb p.0 (visited w.shape)) p.0 (detector_part w.shape)
    (λ is. let less : p.0 < visited w.shape = ltb-true p.0 (visited w.shape) is in
    sym (visit_is w v p) ∙ mapped_none w (λ i. visit_event v (part_id i)) 0 (visited w.shape) p.0 none (omega arith) (omega (arith, less)))

-- what the detector's list says of its kinds
record Quiet (w : WorldView) : Type 0 where
  reported : NoneOf w (reports w.shape)
  begun : happened event.Begin w ≡ None
  confirmed : NoneOf w (confirmations w.shape)
  announced : happened event.Announce w ≡ None
  released : NoneOf w (releases w.shape)
  gone : NoneOf w (goings w.shape)

quiet : (w : WorldView) → NoneOf w (of_detector w.shape) → Quiet w
quiet w none =
    let five = none_left w (five_kinds w.shape) (goings w.shape) none in
    let four = none_left w (four_kinds w.shape) (releases w.shape) five in
    let three = none_left w (three_kinds w.shape) (event.Announce ∷ []) four in
    let two = none_left w (two_kinds w.shape) (confirmations w.shape) three in
    record {
      reported = none_left w (reports w.shape) (event.Begin ∷ []) two;
      begun = (none_right w (reports w.shape) (event.Begin ∷ []) two).0;
      confirmed = none_right w (two_kinds w.shape) (confirmations w.shape) three;
      announced = (none_right w (three_kinds w.shape) (event.Announce ∷ []) four).0;
      released = none_right w (four_kinds w.shape) (releases w.shape) five;
      gone = none_right w (five_kinds w.shape) (goings w.shape) none;
    }

-- none of the first six lists is enabled
pub record Still (w : WorldView) : Type 0 where
  pub turns : NoneOf w (turns w.shape)
  pub deliveries : NoneOf w (deliveries w.shape)
  pub departures : NoneOf w (departures w.shape)
  pub arrivals : NoneOf w (arrivals w.shape)
  pub routings : NoneOf w (routings w.shape)
  pub hosts : NoneOf w of_host

-- if none of all lists is enabled, no event is
rests : (w : WorldView) → length w.parts ≡ part_count w.shape → Each w.shape → Still w → Quiet w → Rests w
rests w count each s q (event.Turn t n) = turn_rests w t n (has_thread w.shape t.0) refl each s.turns
rests w count each s q (event.Deliver t) = delivery_rests w t (has_thread w.shape t.0) refl each s.deliveries
rests w count each s q (event.Depart p l) = departure_rests w p l count s.departures
rests w count each s q (event.Arrive l p) = arrival_rests w l p count s.arrivals
rests w count each s q (event.Route p) = routing_rests w p count s.routings
rests w count each s q event.HostPut = s.hosts.0
rests w count each s q event.HostTake = s.hosts.1.0
rests w count each s q (event.Report p) = visit_rests w visit.Report p q.reported
rests w count each s q event.Begin = q.begun
rests w count each s q (event.Confirm p) = visit_rests w visit.Confirm p q.confirmed
rests w count each s q event.Announce = q.announced
rests w count each s q (event.Release p) = visit_rests w visit.Release p q.released
rests w count each s q (event.Go p) = visit_rests w visit.Go p q.gone

listed_of_detector : (w : WorldView) (e : Event) → Still w → First w (of_detector w.shape) e → First w (listed w.shape) e
listed_of_detector w e s f =
    first_right w (six_lists w.shape) (of_detector w.shape) e
    (none_append w (five_lists w.shape) of_host
    (none_append w (four_lists w.shape) (routings w.shape) (none_of_four w s.turns s.deliveries s.departures s.arrivals) s.routings) s.hosts) f

-- what is left after the first six lists
pub last_list : (w : WorldView) (r : Option Event) → length w.parts ≡ part_count w.shape → Each w.shape → Still w → MatchOption r (NoneOf w (of_detector w.shape)) (First w (of_detector w.shape)) → MatchOption r (Rests w) (First w (listed w.shape))
last_list w None count each s h = rests w count each s (quiet w h)
last_list w (Some e) count each s h = listed_of_detector w e s h
