-- The parts of an event, by the shape and by the number of parts.
use Rattle.std.proofs.Common.{◌≡◌, ◌∙◌, ℕ, ◌-◌, ◌<◌, ◌≤◌, Bool, true, false, None, Some, refl, sym, ap, subst, arith, nat_lt}
use Rattle.std.specs.declared.option.Option.{Option}
use Rattle.std.proofs.lemmas.Bool.{eqb-true, ltb-true}
use Rattle.tn_base.specs.declared.event.Event.{Event}
use Rattle.tn_base.specs.declared.event.Event.TheVariants as event
use Rattle.tn_base.specs.declared.part.Kind.{Kind}
use Rattle.tn_base.specs.declared.part.Kind.TheVariants as kind
use Rattle.tn_base.specs.declared.shape.ShapeNumbers.{ShapeNumbers}
use Rattle.tn_base.specs.Parts.{JoinsVisited, kind_of, part_count, router_part, visited}
use Rattle.tn_rows.specs.Events.{FitsKind}
use Rattle.tn_rows.specs.PartView.{PartView, TileV, RouterV, LinkV, HostV, DetectorV, AbsentV}
use Rattle.tn_rows.specs.Places.{Places, Nowhere, One, Two, at_part, detector_part, leads_from, leads_to, one_if, part_of, places, two_if}
use Rattle.tn_rows.specs.Stamped.{touches}
use Rattle.tn_rows.proofs.Crossed.{IsHigh, IsLow}
use Rattle.tn_rows.proofs.HostLinks.{host_links_there, link_from_host, link_to_host}
use Rattle.tn_rows.proofs.PartKinds.{IsBehind, IsVisited, behind_kind, visited_kind}
use Rattle.tn_rows.proofs.Ways.{Behind, leads_by, leads_on}
use Rattle.tn_stamp.specs.Merging.{is_least}
use Rattle.tn_stamp.specs.Pairs.{Pair, pair, pair_of}

abbrev pub places_at : Option Pair → ℕ → Places
places_at None part = One part
places_at (Some p) part = Two p.low p.high

abbrev pub Agree : Option Pair → Places → Type 0
Agree o Nowhere = Unit {0}
Agree o (One p) = o ≡ None
Agree o (Two p q) = o ≡ pair p q

one_agrees : (b : Bool) (p : ℕ) → Agree None (one_if b p)
one_agrees true p = refl
one_agrees false p = tt

two_agree : (b : Bool) (p q : ℕ) → Agree (pair p q) (two_if b p q)
two_agree true p q = refl
two_agree false p q = tt

part_agrees : (o : Option ℕ) → Agree None (at_part o)
part_agrees None = tt
part_agrees (Some p) = refl

pub agree : (n : ShapeNumbers) (e : Event) → Agree (pair_of (part_count n) e) (places n e)
agree n (event.Turn t k) = part_agrees (part_of n t)
agree n (event.Deliver t) = part_agrees (part_of n t)
agree n (event.Depart p l) = two_agree _ p.0 l.0
agree n (event.Arrive l p) = two_agree _ p.0 l.0
agree n (event.Route p) = one_agrees _ p.0
agree n event.HostPut = refl
agree n event.HostTake = refl
agree n (event.Report p) = two_agree _ p.0 (part_count n - 1)
agree n event.Begin = refl
agree n (event.Confirm p) = two_agree _ p.0 (part_count n - 1)
agree n event.Announce = refl
agree n (event.Release p) = two_agree _ p.0 (part_count n - 1)
agree n (event.Go p) = two_agree _ p.0 (part_count n - 1)

pub is_placed : (o : Option Pair) (here : Places) (part : ℕ) → Agree o here → is_least o part ≡ true → touches here part ≡ true → here ≡ places_at o part
is_placed None Nowhere part a l t = cc
is_placed None (One p) part a l t = ap One (eqb-true p part t)
is_placed None (Two p q) part a l t = cc
is_placed (Some x) Nowhere part a l t = cc
is_placed (Some x) (One p) part a l t = cc
is_placed (Some x) (Two p q) part a l t =
    let e : x ≡ record { low = p; high = q } = cc in
    ap (λ (z : Pair). Two z.low z.high) (sym e)

-- an event on two parts has these two for its pair, and an event on one part has none
pub pair_at : (n : ShapeNumbers) (e : Event) (i j : ℕ) → places n e ≡ Two i j → pair_of (part_count n) e ≡ pair i j
pair_at n e i j two = subst (Agree (pair_of (part_count n) e)) two (agree n e)

pub single_at : (n : ShapeNumbers) (e : Event) (i : ℕ) → places n e ≡ One i → pair_of (part_count n) e ≡ None
single_at n e i one = subst (Agree (pair_of (part_count n) e)) one (agree n e)

-- ---- the low part of an event on two parts is a visited part, and the high part is a link or the detector

pub record Sides (low high : PartView) : Type 0 where
  pub low_is : IsLow low
  pub high_is : IsHigh high

low_fits : (n : ShapeNumbers) (k : Kind) (part : PartView) → IsVisited k → FitsKind n k part → IsLow part
low_fits n k (TileV v) is f = tt
low_fits n k (RouterV v) is f = tt
low_fits n k (HostV s) is f = tt
low_fits n kind.Host (LinkV v) is f = f
low_fits n (kind.Tile tile) (LinkV v) is f = f
low_fits n (kind.Router board) (LinkV v) is f = f
low_fits n (kind.Link from onto) (LinkV v) is f = is
low_fits n kind.Detector (LinkV v) is f = is
low_fits n kind.Host (DetectorV v) is f = f
low_fits n (kind.Tile tile) (DetectorV v) is f = f
low_fits n (kind.Router board) (DetectorV v) is f = f
low_fits n (kind.Link from onto) (DetectorV v) is f = is
low_fits n kind.Detector (DetectorV v) is f = is
low_fits n kind.Host AbsentV is f = f
low_fits n (kind.Tile tile) AbsentV is f = f
low_fits n (kind.Router board) AbsentV is f = f
low_fits n (kind.Link from onto) AbsentV is f = f
low_fits n kind.Detector AbsentV is f = f

high_fits : (n : ShapeNumbers) (k : Kind) (part : PartView) → IsBehind k → FitsKind n k part → IsHigh part
high_fits n k (LinkV v) is f = tt
high_fits n k (DetectorV v) is f = tt
high_fits n kind.Host (TileV v) is f = is
high_fits n (kind.Tile tile) (TileV v) is f = is
high_fits n (kind.Router board) (TileV v) is f = is
high_fits n (kind.Link from onto) (TileV v) is f = f
high_fits n kind.Detector (TileV v) is f = f
high_fits n kind.Host (RouterV v) is f = is
high_fits n (kind.Tile tile) (RouterV v) is f = is
high_fits n (kind.Router board) (RouterV v) is f = is
high_fits n (kind.Link from onto) (RouterV v) is f = f
high_fits n kind.Detector (RouterV v) is f = f
high_fits n kind.Host (HostV s) is f = is
high_fits n (kind.Tile tile) (HostV s) is f = is
high_fits n (kind.Router board) (HostV s) is f = is
high_fits n (kind.Link from onto) (HostV s) is f = f
high_fits n kind.Detector (HostV s) is f = f
high_fits n kind.Host AbsentV is f = is
high_fits n (kind.Tile tile) AbsentV is f = is
high_fits n (kind.Router board) AbsentV is f = is
high_fits n (kind.Link from onto) AbsentV is f = f
high_fits n kind.Detector AbsentV is f = f

-- where both stand
record Stand (n : ShapeNumbers) (p q : ℕ) : Type 0 where
  low : p < visited n
  high : visited n ≤ q

same_two : (a b p q : ℕ) → Two a b ≡ Two p q → (a ≡ p) × (b ≡ q)
same_two a b p q e = (cc e, cc e)

stand_by : (n : ShapeNumbers) (a b p q : ℕ) → a < visited n → visited n ≤ b → Two a b ≡ Two p q → Stand n p q
stand_by n a b p q low high two = let s = same_two a b p q two in record { low = subst (λ x. x < visited n) s.0 low; high = subst (λ x. visited n ≤ x) s.1 high }

from_stand : (n : ShapeNumbers) (there : Bool) (x y p q : ℕ) → Behind n → leads_from x (kind_of n y) ≡ there → two_if there x y ≡ Two p q → Stand n p q
from_stand n false x y p q behind leads two = cc two
from_stand n true x y p q behind leads two =
    let joins = (leads_by (kind_of n y) x leads).1 in
    let j : JoinsVisited n y joins.low.0 joins.high.0 = behind y joins.low joins.high joins.is in
    stand_by n x y p q (subst (λ z. z < visited n) joins.from_is j.from_visited) j.behind two

onto_stand : (n : ShapeNumbers) (there : Bool) (x y p q : ℕ) → Behind n → leads_to x (kind_of n y) ≡ there → two_if there x y ≡ Two p q → Stand n p q
onto_stand n false x y p q behind leads two = cc two
onto_stand n true x y p q behind leads two =
    let joins = (leads_on (kind_of n y) x leads).1 in
    let j : JoinsVisited n y joins.low.0 joins.high.0 = behind y joins.low joins.high joins.is in
    stand_by n x y p q (subst (λ z. z < visited n) joins.onto_is j.onto_visited) j.behind two

host_stand : (n : ShapeNumbers) (l p q from onto : ℕ) → Behind n → kind_of n l ≡ kind.Link (record { 0 = from }) (record { 0 = onto }) → Two 0 l ≡ Two p q → Stand n p q
host_stand n l p q from onto behind is two =
    let j : JoinsVisited n l from onto = behind l _ _ is in
    stand_by n 0 l p q (omega arith) j.behind two

-- the detector stands behind the links of the host
detector_behind : (n : ShapeNumbers) → Behind n → visited n ≤ detector_part n
detector_behind n behind =
    let j : JoinsVisited n (part_count n - 2) 0 (router_part n 0) = behind (part_count n - 2) _ _ (link_from_host n) in
    let past : visited n ≤ part_count n - 2 = j.behind in
    let many = host_links_there n in
    omega (arith, past, many)

visit_stand : (n : ShapeNumbers) (there : Bool) (x p q : ℕ) → Behind n → nat_lt x (visited n) ≡ there → two_if there x (detector_part n) ≡ Two p q → Stand n p q
visit_stand n false x p q behind is two = cc two
visit_stand n true x p q behind is two = stand_by n x (detector_part n) p q (ltb-true x (visited n) is) (detector_behind n behind) two

-- an event on one part is not on two
not_two : (n : ShapeNumbers) (e : Event) (p q : ℕ) → pair_of (part_count n) e ≡ None → places n e ≡ Two p q → ⊥
not_two n e p q one two = let b : pair p q ≡ None = sym (pair_at n e p q two) ∙ one in cc b

stand : (n : ShapeNumbers) (e : Event) (p q : ℕ) → Behind n → places n e ≡ Two p q → Stand n p q
stand n (event.Turn t k) p q behind two = absurd (not_two n (event.Turn t k) p q refl two)
stand n (event.Deliver t) p q behind two = absurd (not_two n (event.Deliver t) p q refl two)
stand n (event.Depart x y) p q behind two = from_stand n (leads_from x.0 (kind_of n y.0)) x.0 y.0 p q behind refl two
stand n (event.Arrive y x) p q behind two = onto_stand n (leads_to x.0 (kind_of n y.0)) x.0 y.0 p q behind refl two
stand n (event.Route x) p q behind two = absurd (not_two n (event.Route x) p q refl two)
stand n event.HostPut p q behind two = host_stand n (part_count n - 2) p q 0 (router_part n 0) behind (link_from_host n) two
stand n event.HostTake p q behind two = host_stand n (part_count n - 3) p q (router_part n 0) 0 behind (link_to_host n) two
stand n (event.Report x) p q behind two = visit_stand n (nat_lt x.0 (visited n)) x.0 p q behind refl two
stand n event.Begin p q behind two = absurd (not_two n event.Begin p q refl two)
stand n (event.Confirm x) p q behind two = visit_stand n (nat_lt x.0 (visited n)) x.0 p q behind refl two
stand n event.Announce p q behind two = absurd (not_two n event.Announce p q refl two)
stand n (event.Release x) p q behind two = visit_stand n (nat_lt x.0 (visited n)) x.0 p q behind refl two
stand n (event.Go x) p q behind two = visit_stand n (nat_lt x.0 (visited n)) x.0 p q behind refl two

pub event_sides : (n : ShapeNumbers) (e : Event) (p q : ℕ) (low high : PartView) → Behind n → places n e ≡ Two p q → FitsKind n (kind_of n p) low → FitsKind n (kind_of n q) high → Sides low high
event_sides n e p q low high behind two f g =
    let s = stand n e p q behind two in
    record { low_is = low_fits n (kind_of n p) low (visited_kind n p s.low) f; high_is = high_fits n (kind_of n q) high (behind_kind n q s.high) g }
