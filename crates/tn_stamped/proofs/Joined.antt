-- The parts of an event on two parts are joined so, if each is what the shape names at its place.
use Rattle.std.proofs.Common.{◌≡◌, ◌<◌, ◌≤◌, ◌-◌, ℕ, Bool, true, false, Some, refl, subst, nat_lt, arith}
use Rattle.std.proofs.lemmas.Bool.{ltb-true}
use Rattle.tn_base.specs.declared.event.Event.{Event}
use Rattle.tn_base.specs.declared.event.Event.TheVariants as event
use Rattle.tn_base.specs.declared.ids.PartId.{PartId}
use Rattle.tn_base.specs.declared.part.Kind.TheVariants as kind
use Rattle.tn_base.specs.declared.port.Port.{Port}
use Rattle.tn_base.specs.declared.shape.ShapeNumbers.{ShapeNumbers}
use Rattle.tn_base.specs.Parts.{JoinsVisited, kind_of, part_count, visited}
use Rattle.tn_rows.specs.Events.{FitsKind}
use Rattle.tn_rows.specs.PartView.{PartView}
use Rattle.tn_rows.specs.Places.{detector_part, leads_from, leads_to, link_side, link_way, places, two_if}
use Rattle.tn_rows.specs.Roles.{IsLink, IsSide, IsWay, NoLink, Visits}
use Rattle.tn_rows.proofs.HostLinks.{detector_last, link_from_host, link_to_host}
use Rattle.tn_rows.proofs.Ways.{Behind, fits_host, fits_link, fits_other, fits_side, fits_visits, fits_way, leads_by, leads_on}
use Rattle.tn_part.specs.Meeting.{FitTwo, IsJoined, port_if, port_of}

port_is : (there : Bool) (at is : Port) → Some at ≡ port_if there is → (there ≡ true) × (at ≡ is)
port_is true at is e = (refl, cc e)
port_is false at is e = cc e

not_link : (n : ShapeNumbers) (p : ℕ) → Behind n → p < visited n → (from onto : PartId) → kind_of n p ≡ kind.Link from onto → ⊥
not_link n p behind low from onto is = let j : JoinsVisited n p from.0 onto.0 = behind p from onto is in let past : visited n ≤ p = j.behind in omega (arith, low, past)

departs : (n : ShapeNumbers) (p l : PartId) (at : Port) (low high : PartView) → Some at ≡ port_of n (event.Depart p l) → FitTwo n (places n (event.Depart p l)) low high → IsWay low l.0 at × IsLink high
departs n p l at low high e fit =
    let found = port_is (leads_from p.0 (kind_of n l.0)) at (link_way n l.0) e in
    let joins = (leads_by (kind_of n l.0) p.0 found.0).1 in
    let both = subst (λ b. FitTwo n (two_if b p.0 l.0) low high) found.0 fit in
    (fits_way n (kind_of n p.0) low l.0 at found.1 both.0, fits_link n (kind_of n l.0) joins.low joins.high high joins.is both.1)

arrives : (n : ShapeNumbers) (l p : PartId) (at : Port) (low high : PartView) → Behind n → Some at ≡ port_of n (event.Arrive l p) → FitTwo n (places n (event.Arrive l p)) low high → IsSide low l.0 at × NoLink low
arrives n l p at low high behind e fit =
    let found = port_is (leads_to p.0 (kind_of n l.0)) at (link_side n l.0) e in
    let joins = (leads_on (kind_of n l.0) p.0 found.0).1 in
    let j : JoinsVisited n l.0 joins.low.0 joins.high.0 = behind l.0 joins.low joins.high joins.is in
    let less : p.0 < visited n = subst (λ z. z < visited n) joins.onto_is j.onto_visited in
    let both = subst (λ b. FitTwo n (two_if b p.0 l.0) low high) found.0 fit in
    (fits_side n (kind_of n p.0) low l.0 at found.1 both.0, fits_other n (kind_of n p.0) low (not_link n p.0 behind less) both.0)

visits : (n : ShapeNumbers) (p : ℕ) (at is : Port) (low high : PartView) → Some at ≡ port_if (nat_lt p (visited n)) is → FitTwo n (two_if (nat_lt p (visited n)) p (detector_part n)) low high → Visits p high
visits n p at is low high e fit =
    let found = port_is (nat_lt p (visited n)) at is e in
    let both = subst (λ b. FitTwo n (two_if b p (detector_part n)) low high) found.0 fit in
    fits_visits n p high (ltb-true p (visited n) found.0) (subst (λ k. FitsKind n k high) (detector_last n) both.1)

pub joined : (n : ShapeNumbers) (e : Event) (at : Port) (low high : PartView) → Behind n → Some at ≡ port_of n e → FitTwo n (places n e) low high → IsJoined e low high at
joined n (event.Turn t k) at low high behind e fit = tt
joined n (event.Deliver t) at low high behind e fit = tt
joined n (event.Depart p l) at low high behind e fit = departs n p l at low high e fit
joined n (event.Arrive l p) at low high behind e fit = arrives n l p at low high behind e fit
joined n (event.Route p) at low high behind e fit = tt
joined n event.HostPut at low high behind e fit = (fits_host n low fit.0, fits_link n (kind_of n (part_count n - 2)) _ _ high (link_from_host n) fit.1)
joined n event.HostTake at low high behind e fit = (fits_host n low fit.0, fits_link n (kind_of n (part_count n - 3)) _ _ high (link_to_host n) fit.1)
joined n (event.Report p) at low high behind e fit = visits n p.0 at _ low high e fit
joined n event.Begin at low high behind e fit = tt
joined n (event.Confirm p) at low high behind e fit = visits n p.0 at _ low high e fit
joined n event.Announce at low high behind e fit = tt
joined n (event.Release p) at low high behind e fit = visits n p.0 at _ low high e fit
joined n (event.Go p) at low high behind e fit = visits n p.0 at _ low high e fit
