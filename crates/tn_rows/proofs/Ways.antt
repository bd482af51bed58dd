-- Links of a machine: where they stand, which way they lead, and from which side.
use Rattle.std.proofs.Common.{◌≡◌, ◌∙◌, ◌==◌, ◌-◌, ℕ, ◌<◌, ◌≤◌, Bool, true, false, cond, None, Some, refl, ap, subst, sym, get_or, length, arith}
use Rattle.std.specs.declared.option.Option.{Option}
use Rattle.std.proofs.lemmas.Bool.{eqb-true}
use Rattle.tn_base.specs.declared.ids.PartId.{PartId}
use Rattle.tn_base.specs.declared.part.Kind.{Kind}
use Rattle.tn_base.specs.declared.part.Kind.TheVariants as kind
use Rattle.tn_base.specs.declared.port.Port.{Port}
use Rattle.tn_base.specs.declared.shape.ShapeNumbers.{ShapeNumbers}
use Rattle.tn_base.specs.Parts.{JoinsVisited, kind_of, part_count, router_part, visited}
use Rattle.tn_rows.proofs.HostLinks.{detector_last, host_links_there, link_from_host, link_to_host}
use Rattle.tn_rows.specs.Events.{FitsKind, IsWorld}
use Rattle.tn_rows.specs.PartView.{PartView, TileV, RouterV, LinkV, HostV, DetectorV, AbsentV}
use Rattle.tn_rows.specs.Places.{detector_part, leads_from, leads_to, link_side, link_way}
use Rattle.tn_rows.specs.WorldView.{WorldView}
use Rattle.tn_rows.specs.Roles.{IsHost, IsLink, IsSide, IsWay, NoLink}
use Rattle.tn_rows.specs.Roles.{Visits}

-- a part is a link between these
pub record Joins (k : Kind) (from onto : ℕ) : Type 0 where
  pub low : PartId
  pub high : PartId
  pub is : k ≡ kind.Link low high
  pub from_is : low.0 ≡ from
  pub onto_is : high.0 ≡ onto

equal : (a b : ℕ) → (a == b) ≡ true → a ≡ b
equal a b e = eqb-true a b e

pub leads_by : (k : Kind) (p : ℕ) → leads_from p k ≡ true → (onto : ℕ) × Joins k p onto
leads_by kind.Host p e = cc e
leads_by (kind.Tile tile) p e = cc e
leads_by (kind.Router board) p e = cc e
leads_by (kind.Link from onto) p e = (onto.0, record { low = from; high = onto; is = refl; from_is = equal from.0 p e; onto_is = refl })
leads_by kind.Detector p e = cc e

pub leads_on : (k : Kind) (p : ℕ) → leads_to p k ≡ true → (from : ℕ) × Joins k from p
leads_on kind.Host p e = cc e
leads_on (kind.Tile tile) p e = cc e
leads_on (kind.Router board) p e = cc e
leads_on (kind.Link from onto) p e = (from.0, record { low = from; high = onto; is = refl; from_is = refl; onto_is = equal onto.0 p e })
leads_on kind.Detector p e = cc e

-- each link of a machine stands behind the parts that it joins
abbrev pub Behind : ShapeNumbers → Type 0
Behind n = (l : ℕ) (from onto : PartId) → kind_of n l ≡ kind.Link from onto → JoinsVisited n l from.0 onto.0

pub fits_link : (n : ShapeNumbers) (k : Kind) (from onto : PartId) (part : PartView) → k ≡ kind.Link from onto → FitsKind n k part → IsLink part
fits_link n k from onto (TileV v) e f = subst (λ k. FitsKind n k (TileV v)) e f
fits_link n k from onto (RouterV v) e f = subst (λ k. FitsKind n k (RouterV v)) e f
fits_link n k from onto (LinkV v) e f = tt
fits_link n k from onto (HostV s) e f = subst (λ k. FitsKind n k (HostV s)) e f
fits_link n k from onto (DetectorV v) e f = subst (λ k. FitsKind n k (DetectorV v)) e f
fits_link n k from onto AbsentV e f = subst (λ k. FitsKind n k AbsentV) e f

-- a part that is no link is none
pub fits_other : (n : ShapeNumbers) (k : Kind) (part : PartView) → ((from onto : PartId) → k ≡ kind.Link from onto → ⊥) → FitsKind n k part → NoLink part
fits_other n k (TileV v) not f = tt
fits_other n k (RouterV v) not f = tt
fits_other n kind.Host (LinkV v) not f = f
fits_other n (kind.Tile tile) (LinkV v) not f = f
fits_other n (kind.Router board) (LinkV v) not f = f
fits_other n (kind.Link from onto) (LinkV v) not f = absurd (not from onto refl)
fits_other n kind.Detector (LinkV v) not f = f
fits_other n k (HostV s) not f = tt
fits_other n k (DetectorV v) not f = tt
fits_other n k AbsentV not f = tt

pub fits_way : (n : ShapeNumbers) (k : Kind) (part : PartView) (l : ℕ) (way : Port) → way ≡ link_way n l → FitsKind n k part → IsWay part l way
fits_way n kind.Host (TileV v) l way e f = absurd f
fits_way n (kind.Tile tile) (TileV v) l way e f = e ∙ ap (λ m. link_way m l) (sym f.0)
fits_way n (kind.Router board) (TileV v) l way e f = absurd f
fits_way n (kind.Link from onto) (TileV v) l way e f = absurd f
fits_way n kind.Detector (TileV v) l way e f = absurd f
fits_way n kind.Host (RouterV v) l way e f = absurd f
fits_way n (kind.Tile tile) (RouterV v) l way e f = absurd f
fits_way n (kind.Router board) (RouterV v) l way e f = e ∙ ap (λ m. link_way m l) (sym f.0)
fits_way n (kind.Link from onto) (RouterV v) l way e f = absurd f
fits_way n kind.Detector (RouterV v) l way e f = absurd f
fits_way n k (LinkV v) l way e f = tt
fits_way n k (HostV s) l way e f = tt
fits_way n k (DetectorV v) l way e f = tt
fits_way n k AbsentV l way e f = tt

pub fits_side : (n : ShapeNumbers) (k : Kind) (part : PartView) (l : ℕ) (side : Port) → side ≡ link_side n l → FitsKind n k part → IsSide part l side
fits_side n k (TileV v) l side e f = tt
fits_side n kind.Host (RouterV v) l side e f = absurd f
fits_side n (kind.Tile tile) (RouterV v) l side e f = absurd f
fits_side n (kind.Router board) (RouterV v) l side e f = e ∙ ap (λ m. link_side m l) (sym f.0)
fits_side n (kind.Link from onto) (RouterV v) l side e f = absurd f
fits_side n kind.Detector (RouterV v) l side e f = absurd f
fits_side n k (LinkV v) l side e f = tt
fits_side n k (HostV s) l side e f = tt
fits_side n k (DetectorV v) l side e f = tt
fits_side n k AbsentV l side e f = tt

-- a part and a link behind it
pub record Pair (w : WorldView) (p l : ℕ) : Type 0 where
  pub less : p < l
  pub high : l < length w.parts
  pub low : p < length w.parts
  pub link : IsLink (get_or w.parts l AbsentV)
  pub part : NoLink (get_or w.parts p AbsentV)
  pub way : (way : Port) → way ≡ link_way w.shape l → IsWay (get_or w.parts p AbsentV) l way
  pub side : (side : Port) → side ≡ link_side w.shape l → IsSide (get_or w.parts p AbsentV) l side

pair_of : (w : WorldView) (p l : ℕ) (from onto : PartId) → kind_of w.shape l ≡ kind.Link from onto → p < visited w.shape → Behind w.shape → IsWorld w → Pair w p l
pair_of w p l from onto e low behind i =
    let joins : JoinsVisited w.shape l from.0 onto.0 = behind l from onto e in
    let past : visited w.shape ≤ l = joins.behind in
    let there : l < part_count w.shape = joins.there in
    let count : length w.parts ≡ part_count w.shape = i.count in
    let here : p < part_count w.shape = omega (arith, low, past, there) in
    record {
      less = omega (arith, low, past);
      high = omega (arith, there, count);
      low = omega (arith, here, count);
      link = fits_link w.shape (kind_of w.shape l) from onto (get_or w.parts l AbsentV) e (i.each l there);
      part = fits_other w.shape (kind_of w.shape p) (get_or w.parts p AbsentV) (λ a b k. let j : JoinsVisited w.shape p a.0 b.0 = behind p a b k in let at : visited w.shape ≤ p = j.behind in omega (arith, low, at)) (i.each p here);
      way = λ way is. fits_way w.shape (kind_of w.shape p) (get_or w.parts p AbsentV) l way is (i.each p here);
      side = λ side is. fits_side w.shape (kind_of w.shape p) (get_or w.parts p AbsentV) l side is (i.each p here);
    }

pub from_pair : (w : WorldView) (p l : ℕ) → leads_from p (kind_of w.shape l) ≡ true → Behind w.shape → IsWorld w → Pair w p l
from_pair w p l e behind i =
    let joins = (leads_by (kind_of w.shape l) p e).1 in
    let low : joins.low.0 < visited w.shape = (behind l joins.low joins.high joins.is).from_visited in
    pair_of w p l joins.low joins.high joins.is (subst (λ x. x < visited w.shape) joins.from_is low) behind i

pub onto_pair : (w : WorldView) (p l : ℕ) → leads_to p (kind_of w.shape l) ≡ true → Behind w.shape → IsWorld w → Pair w p l
onto_pair w p l e behind i =
    let joins = (leads_on (kind_of w.shape l) p e).1 in
    let low : joins.high.0 < visited w.shape = (behind l joins.low joins.high joins.is).onto_visited in
    pair_of w p l joins.low joins.high joins.is (subst (λ x. x < visited w.shape) joins.onto_is low) behind i

-- the way of a link that leads away from the part, or its side, where it does
pub way_given : (there : Bool) (o : Option Port) (is way : Port) → o ≡ cond there (Some is) None → o ≡ Some way → (there ≡ true) × (way ≡ is)
way_given true o is way e f = let g : Some way ≡ Some is = sym f ∙ e in (refl, cc g)
way_given false o is way e f = let g : Some way ≡ None = sym f ∙ e in cc g

-- a link that leads away from a part by this way
pub record Leads (w : WorldView) (p l : ℕ) (way : Port) : Type 0 where
  pub there : leads_from p (kind_of w.shape l) ≡ true
  pub pair : Pair w p l
  pub way_is : IsWay (get_or w.parts p AbsentV) l way

pub leads : (w : WorldView) (n : ShapeNumbers) (p l : ℕ) (way : Port) → w.shape ≡ n → Some way ≡ cond (leads_from p (kind_of n l)) (Some (link_way n l)) None → Behind w.shape → IsWorld w → Leads w p l way
leads w n p l way same e behind i =
    let here = subst (λ (n : ShapeNumbers). Some way ≡ cond (leads_from p (kind_of n l)) (Some (link_way n l)) None) (sym same) e in
    let given = way_given (leads_from p (kind_of w.shape l)) (Some way) (link_way w.shape l) way here refl in
    let pair : Pair w p l = from_pair w p l given.0 behind i in
    record { there = given.0; pair = pair; way_is = pair.way way given.1 }

-- a link that leads to a part from this side
pub record LeadsTo (w : WorldView) (p l : ℕ) (side : Port) : Type 0 where
  pub there : leads_to p (kind_of w.shape l) ≡ true
  pub pair : Pair w p l
  pub side_is : IsSide (get_or w.parts p AbsentV) l side

pub leads_onto : (w : WorldView) (n : ShapeNumbers) (p l : ℕ) (side : Port) → w.shape ≡ n → Some side ≡ cond (leads_to p (kind_of n l)) (Some (link_side n l)) None → Behind w.shape → IsWorld w → LeadsTo w p l side
leads_onto w n p l side same e behind i =
    let here = subst (λ (n : ShapeNumbers). Some side ≡ cond (leads_to p (kind_of n l)) (Some (link_side n l)) None) (sym same) e in
    let given = way_given (leads_to p (kind_of w.shape l)) (Some side) (link_side w.shape l) side here refl in
    let pair : Pair w p l = onto_pair w p l given.0 behind i in
    record { there = given.0; pair = pair; side_is = pair.side side given.1 }

-- ---- the host and its links

pub fits_host : (n : ShapeNumbers) (part : PartView) → FitsKind n kind.Host part → IsHost part
fits_host n (TileV v) f = f
fits_host n (RouterV v) f = f
fits_host n (LinkV v) f = f
fits_host n (HostV s) f = f
fits_host n (DetectorV v) f = f
fits_host n AbsentV f = f

-- the host, and a link of its that stands so far before the end of the parts
pub record HostPair (w : WorldView) (l : ℕ) : Type 0 where
  pub less : 0 < l
  pub low : 0 < length w.parts
  pub high : l < length w.parts
  pub host : IsHost (get_or w.parts 0 AbsentV)
  pub link : IsLink (get_or w.parts l AbsentV)

host_pair : (w : WorldView) (l : ℕ) (from onto : PartId) → 0 < l → l < part_count w.shape → kind_of w.shape l ≡ kind.Link from onto → IsWorld w → HostPair w l
host_pair w l from onto some below is i =
    let count : length w.parts ≡ part_count w.shape = i.count in
    let low : 0 < part_count w.shape = omega (arith, some, below) in
    record {
      less = some;
      low = omega (arith, low, count);
      high = omega (arith, below, count);
      host = fits_host w.shape (get_or w.parts 0 AbsentV) (i.each 0 low);
      link = fits_link w.shape (kind_of w.shape l) from onto (get_or w.parts l AbsentV) is (i.each l below);
    }

pub from_host_pair : (w : WorldView) → IsWorld w → HostPair w (part_count w.shape - 2)
from_host_pair w i = let many = host_links_there w.shape in host_pair w (part_count w.shape - 2) _ _ (omega (arith, many)) (omega (arith, many)) (link_from_host w.shape) i

pub to_host_pair : (w : WorldView) → IsWorld w → HostPair w (part_count w.shape - 3)
to_host_pair w i = let many = host_links_there w.shape in host_pair w (part_count w.shape - 3) _ _ (omega (arith, many)) (omega (arith, many)) (link_to_host w.shape) i

-- ---- the detector and the parts that it visits

pub fits_visits : (n : ShapeNumbers) (p : ℕ) (part : PartView) → p < visited n → FitsKind n kind.Detector part → Visits p part
fits_visits n p (TileV v) h f = f
fits_visits n p (RouterV v) h f = f
fits_visits n p (LinkV v) h f = f
fits_visits n p (HostV s) h f = f
fits_visits n p (DetectorV v) h f = subst (λ m. p < m) (sym f.0) h
fits_visits n p AbsentV h f = f

-- the detector is there
pub detector_there : (w : WorldView) → IsWorld w → detector_part w.shape < length w.parts
detector_there w i =
    let many = host_links_there w.shape in
    let count : length w.parts ≡ part_count w.shape = i.count in
    omega (arith, many, count)

-- a part that the detector visits, and the detector at place d behind it
pub record VisitPair (w : WorldView) (p d : ℕ) : Type 0 where
  pub less : p < d
  pub low : p < length w.parts
  pub high : d < length w.parts
  pub visits : Visits p (get_or w.parts d AbsentV)

pub visit_pair : (w : WorldView) (p : ℕ) → p < visited w.shape → Behind w.shape → IsWorld w → VisitPair w p (detector_part w.shape)
visit_pair w p h behind i =
    let joins : JoinsVisited w.shape (part_count w.shape - 2) 0 (router_part w.shape 0) = behind (part_count w.shape - 2) _ _ (link_from_host w.shape) in
    let past : visited w.shape ≤ part_count w.shape - 2 = joins.behind in
    let many = host_links_there w.shape in
    let count : length w.parts ≡ part_count w.shape = i.count in
    let there : detector_part w.shape < part_count w.shape = omega (arith, many) in
    record {
      less = omega (arith, h, past, many);
      low = omega (arith, h, past, many, count);
      high = detector_there w i;
      visits = fits_visits w.shape p (get_or w.parts (detector_part w.shape) AbsentV) h (subst (λ k. FitsKind w.shape k (get_or w.parts (detector_part w.shape) AbsentV)) (detector_last w.shape) (i.each (detector_part w.shape) there));
    }
