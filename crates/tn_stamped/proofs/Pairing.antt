-- Which parts an event is on.
use Rattle.std.proofs.Common.{List, [], ◌∷◌, zero, suc, ◌≡◌, ◌≢◌, ◌∙◌, ◌<◌, ◌≤◌, ◌-◌, ℕ, Bool, true, false, cond, Some, None, refl, ap, sym, subst, nat_lt, get_or, length, IsTrue, arith}
use Rattle.std.specs.declared.option.Option.{Option}
use Rattle.std.proofs.lemmas.Bool.{ltb-true}
use Rattle.tn_base.specs.Address.{has_thread, has_tile, tile_of, tile_place}
use Rattle.tn_base.specs.declared.event.Event.{Event}
use Rattle.tn_base.specs.declared.event.Event.TheVariants as event
use Rattle.tn_base.specs.declared.ids.PartId.{PartId}
use Rattle.tn_base.specs.declared.part.Kind.{Kind}
use Rattle.tn_base.specs.declared.part.Kind.TheVariants as kind
use Rattle.tn_base.specs.declared.port.Port.{Port}
use Rattle.tn_base.specs.declared.shape.ShapeNumbers.{ShapeNumbers}
use Rattle.tn_base.specs.Parts.{JoinsVisited, kind_of, part_count, parts, router_part, tile_at, tile_count, tile_part, visited}
use Rattle.tn_part.specs.Meeting.{one_place, port_if, port_of}
use Rattle.tn_rows.proofs.HostLinks.{host_links_there, link_from_host}
use Rattle.tn_rows.proofs.Ways.{Behind, leads_by, leads_on}
use Rattle.tn_rows.specs.Places.{Nowhere, One, Places, Two, at_part, detector_part, is_router, leads_from, leads_to, one_if, part_of, places, two_if}
use Rattle.tn_stamped.specs.Placing.{IsPair, greater_of, lesser_of}

port_there : (there : Bool) (at is : Port) → port_if there is ≡ Some at → there ≡ true
port_there true at is e = refl
port_there false at is e = cc e

-- where an event is by its port

two_there : (there : Bool) (p q : ℕ) → there ≡ true → two_if there p q ≡ Two p q
two_there true p q e = refl
two_there false p q e = cc e

-- a link's part, behind it
leads_order : (n : ShapeNumbers) (p l : ℕ) → Behind n → leads_from p (kind_of n l) ≡ true → (p < l) × (l < part_count n)
leads_order n p l behind there =
    let joins = (leads_by (kind_of n l) p there).1 in
    let j : JoinsVisited n l joins.low.0 joins.high.0 = behind l joins.low joins.high joins.is in
    let low : p < visited n = subst (λ x. x < visited n) joins.from_is j.from_visited in
    let past : visited n ≤ l = j.behind in
    (omega (arith, low, past), j.there)

onto_order : (n : ShapeNumbers) (p l : ℕ) → Behind n → leads_to p (kind_of n l) ≡ true → (p < l) × (l < part_count n)
onto_order n p l behind there =
    let joins = (leads_on (kind_of n l) p there).1 in
    let j : JoinsVisited n l joins.low.0 joins.high.0 = behind l joins.low joins.high joins.is in
    let low : p < visited n = subst (λ x. x < visited n) joins.onto_is j.onto_visited in
    let past : visited n ≤ l = j.behind in
    (omega (arith, low, past), j.there)

visit_order : (n : ShapeNumbers) (p : ℕ) → Behind n → p < visited n → (p < part_count n - 1) × (part_count n - 1 < part_count n)
visit_order n p behind low =
    let j : JoinsVisited n (part_count n - 2) 0 (router_part n 0) = behind (part_count n - 2) _ _ (link_from_host n) in
    let past : visited n ≤ part_count n - 2 = j.behind in
    let many = host_links_there n in
    (omega (arith, low, past, many), omega (arith, many))

depart_pair : (n : ShapeNumbers) (p l : PartId) (at : Port) → Behind n → port_of n (event.Depart p l) ≡ Some at → IsPair n (event.Depart p l) p.0 l.0 at
depart_pair n p l at behind e =
    let there = port_there (leads_from p.0 (kind_of n l.0)) at _ e in
    let o = leads_order n p.0 l.0 behind there in
    record { here = two_there _ p.0 l.0 there; order = o.0; within = o.1; port = e }

arrive_pair : (n : ShapeNumbers) (l p : PartId) (at : Port) → Behind n → port_of n (event.Arrive l p) ≡ Some at → IsPair n (event.Arrive l p) p.0 l.0 at
arrive_pair n l p at behind e =
    let there = port_there (leads_to p.0 (kind_of n l.0)) at _ e in
    let o = onto_order n p.0 l.0 behind there in
    record { here = two_there _ p.0 l.0 there; order = o.0; within = o.1; port = e }

host_order : (n : ShapeNumbers) → ((0 < part_count n - 2) × (part_count n - 2 < part_count n)) × ((0 < part_count n - 3) × (part_count n - 3 < part_count n))
host_order n = let many = host_links_there n in ((omega (arith, many), omega (arith, many)), (omega (arith, many), omega (arith, many)))

visit_pair : (n : ShapeNumbers) (e : Event) (p : PartId) (at is : Port) → Behind n → places n e ≡ two_if (nat_lt p.0 (visited n)) p.0 (detector_part n) → port_of n e ≡ port_if (nat_lt p.0 (visited n)) is → port_of n e ≡ Some at → IsPair n e p.0 (part_count n - 1) at
visit_pair n e p at is behind here port found =
    let there = port_there (nat_lt p.0 (visited n)) at is (sym port ∙ found) in
    let o = visit_order n p.0 behind (ltb-true p.0 (visited n) there) in
    record { here = here ∙ two_there _ p.0 (detector_part n) there; order = o.0; within = o.1; port = found }

pub pair_is : (n : ShapeNumbers) (e : Event) (at : Port) → Behind n → port_of n e ≡ Some at → IsPair n e (lesser_of e) (greater_of n e) at
pair_is n (event.Turn t k) at behind e = cc e
pair_is n (event.Deliver t) at behind e = cc e
pair_is n (event.Depart p l) at behind e = depart_pair n p l at behind e
pair_is n (event.Arrive l p) at behind e = arrive_pair n l p at behind e
pair_is n (event.Route p) at behind e = cc e
pair_is n event.HostPut at behind e = record { here = refl; order = (host_order n).0.0; within = (host_order n).0.1; port = e }
pair_is n event.HostTake at behind e = record { here = refl; order = (host_order n).1.0; within = (host_order n).1.1; port = e }
pair_is n (event.Report p) at behind e = visit_pair n (event.Report p) p at _ behind refl refl e
pair_is n event.Begin at behind e = cc e
pair_is n (event.Confirm p) at behind e = visit_pair n (event.Confirm p) p at _ behind refl refl e
pair_is n event.Announce at behind e = cc e
pair_is n (event.Release p) at behind e = visit_pair n (event.Release p) p at _ behind refl refl e
pair_is n (event.Go p) at behind e = visit_pair n (event.Go p) p at _ behind refl refl e

-- where an event is that has no port and is not on one part

no_two : (there : Bool) (p q : ℕ) (is : Port) → port_if there is ≡ None → two_if there p q ≡ Nowhere
no_two true p q is e = cc e
no_two false p q is e = refl

no_one : (o : Option ℕ) → one_place (at_part o) ≡ None → at_part o ≡ Nowhere
no_one None e = refl
no_one (Some p) e = cc e

not_one : (there : Bool) (p : ℕ) → one_place (one_if there p) ≡ None → one_if there p ≡ Nowhere
not_one true p e = cc e
not_one false p e = refl

pub nowhere_is : (n : ShapeNumbers) (e : Event) → one_place (places n e) ≡ None → port_of n e ≡ None → places n e ≡ Nowhere
nowhere_is n (event.Turn t k) e none = no_one (part_of n t) e
nowhere_is n (event.Deliver t) e none = no_one (part_of n t) e
nowhere_is n (event.Depart p l) e none = no_two (leads_from p.0 (kind_of n l.0)) p.0 l.0 _ none
nowhere_is n (event.Arrive l p) e none = no_two (leads_to p.0 (kind_of n l.0)) p.0 l.0 _ none
nowhere_is n (event.Route p) e none = not_one (is_router (kind_of n p.0)) p.0 e
nowhere_is n event.HostPut e none = cc none
nowhere_is n event.HostTake e none = cc none
nowhere_is n (event.Report p) e none = no_two (nat_lt p.0 (visited n)) p.0 (detector_part n) _ none
nowhere_is n event.Begin e none = cc e
nowhere_is n (event.Confirm p) e none = no_two (nat_lt p.0 (visited n)) p.0 (detector_part n) _ none
nowhere_is n event.Announce e none = cc e
nowhere_is n (event.Release p) e none = no_two (nat_lt p.0 (visited n)) p.0 (detector_part n) _ none
nowhere_is n (event.Go p) e none = no_two (nat_lt p.0 (visited n)) p.0 (detector_part n) _ none

-- an event on one part

pub one_is : (here : Places) (p : ℕ) → one_place here ≡ Some p → here ≡ One p
one_is Nowhere p e = cc e
one_is (One q) p e = ap One (cc e)
one_is (Two q r) p e = cc e

-- past the last part the shape names a detector
past_all : (ks : List Kind) (p : ℕ) → get_or ks p kind.Detector ≢ kind.Detector → p < length ks
past_all [] p e = absurd (e refl)
past_all (k ∷ ks) zero e = omega arith
past_all (k ∷ ks) (suc p) e = let less = past_all ks p e in omega (arith, less)

-- the machine's threads are on tiles of the machine
pub record Tiled (n : ShapeNumbers) : Type 0 where
  pub tile : (a : ℕ) → IsTrue (has_thread n a) → IsTrue (has_tile n (tile_of a))
  pub below : (a : ℕ) → IsTrue (has_tile n a) → tile_place n a < tile_count n
  pub kind : (i : ℕ) → i < tile_count n → kind_of n (tile_part i) ≡ kind.Tile (record { 0 = tile_at n i })

one_same : (p q : ℕ) → One p ≡ One q → p ≡ q
one_same p q e = cc e

tile_within : (n : ShapeNumbers) (a : ℕ) → Tiled n → IsTrue (has_thread n a) → tile_part (tile_place n (tile_of a)) < part_count n
tile_within n a tiled there =
    let i : ℕ = tile_place n (tile_of a) in
    let is : kind_of n (tile_part i) ≡ kind.Tile (record { 0 = tile_at n i }) = tiled.kind i (tiled.below (tile_of a) (tiled.tile a there)) in
    past_all (parts n) (tile_part i) (λ e. cc (sym is ∙ e))

thread_within : (n : ShapeNumbers) (a p : ℕ) (b : Bool) → Tiled n → has_thread n a ≡ b → at_part (cond b (Some (tile_part (tile_place n (tile_of a)))) None) ≡ One p → p < part_count n
thread_within n a p true tiled there e = subst (λ k. k < part_count n) (one_same (tile_part (tile_place n (tile_of a))) p e) (tile_within n a tiled there)
thread_within n a p false tiled there e = cc e

router_within : (n : ShapeNumbers) (p q : ℕ) (b : Bool) → is_router (kind_of n p) ≡ b → one_if b p ≡ One q → q < part_count n
router_within n p q true there e = subst (λ k. k < part_count n) (one_same p q e) (past_all (parts n) p (λ d. cc (sym there ∙ ap is_router d)))
router_within n p q false there e = cc e

last_within : (n : ShapeNumbers) (q : ℕ) → One (part_count n - 1) ≡ One q → q < part_count n
last_within n q e = let same = one_same (part_count n - 1) q e in let many = host_links_there n in omega (arith, same, many)

no_pair : (n : ShapeNumbers) (b : Bool) (i j q : ℕ) → two_if b i j ≡ One q → q < part_count n
no_pair n true i j q e = cc e
no_pair n false i j q e = cc e

one_within : (n : ShapeNumbers) (e : Event) (q : ℕ) → Tiled n → places n e ≡ One q → q < part_count n
one_within n (event.Turn t k) q tiled e = thread_within n t.0 q (has_thread n t.0) tiled refl e
one_within n (event.Deliver t) q tiled e = thread_within n t.0 q (has_thread n t.0) tiled refl e
one_within n (event.Depart p l) q tiled e = no_pair n (leads_from p.0 (kind_of n l.0)) p.0 l.0 q e
one_within n (event.Arrive l p) q tiled e = no_pair n (leads_to p.0 (kind_of n l.0)) p.0 l.0 q e
one_within n (event.Route p) q tiled e = router_within n p.0 q (is_router (kind_of n p.0)) refl e
one_within n event.HostPut q tiled e = cc e
one_within n event.HostTake q tiled e = cc e
one_within n (event.Report p) q tiled e = no_pair n (nat_lt p.0 (visited n)) p.0 (detector_part n) q e
one_within n event.Begin q tiled e = last_within n q e
one_within n (event.Confirm p) q tiled e = no_pair n (nat_lt p.0 (visited n)) p.0 (detector_part n) q e
one_within n event.Announce q tiled e = last_within n q e
one_within n (event.Release p) q tiled e = no_pair n (nat_lt p.0 (visited n)) p.0 (detector_part n) q e
one_within n (event.Go p) q tiled e = no_pair n (nat_lt p.0 (visited n)) p.0 (detector_part n) q e

pub alone_is : (n : ShapeNumbers) (e : Event) (p : ℕ) → Tiled n → one_place (places n e) ≡ Some p → (places n e ≡ One p) × (p < part_count n)
alone_is n e p tiled found = let here = one_is (places n e) p found in (here, one_within n e p tiled here)
