-- The law of ways.
use Rattle.std.proofs.Common.{ℕ, ◌≡◌, ◌≤◌, ◌<◌, ◌+◌, ◌-◌, ◌&&◌, ◌⊎◌, Bool, true, false, get_or, suc, zero, refl, arith, inl, inr, sym, ap, ◌∙◌, subst}
use Rattle.std.proofs.lemmas.Bool.{and_parts, cases_lt, eqb-true}
use Rattle.tn_base.specs.declared.ids.Board.{Board}
use Rattle.tn_base.specs.declared.message.Dest.{Dest}
use Rattle.tn_base.specs.declared.part.Kind.{Kind}
use Rattle.tn_base.specs.declared.part.Kind.TheVariants as kind
use Rattle.tn_base.specs.declared.port.Port.{Port}
use Rattle.tn_base.specs.declared.port.Port.TheVariants as port
use Rattle.tn_base.specs.declared.shape.ShapeNumbers.{ShapeNumbers}
use Rattle.tn_base.specs.Message.{has_dest}
use Rattle.tn_base.specs.Parts.{board_at, board_count, from_routers, from_tile_links, kind_of, parts, router_part, tile_at, tile_count, tile_part, visited}
use Rattle.tn_base.specs.Ports.{port_from}
use Rattle.tn_base.specs.Shape.{WithinLimits}
use Rattle.tn_base.proofs.LinkEnds.{joins_visited}
use Rattle.tn_base.proofs.Listing.{behind_at}
use Rattle.tn_base.proofs.TilePlaces.{tile_kind}
use Rattle.tn_router.specs.Places.{has_side, has_way}
use Rattle.tn_rows.specs.Places.{leads_from, link_side, link_way}
use Rattle.tn_ways.specs.Ways.{ComesFrom, ExactlyOne, LeadsBy, Ways, has_tile_way, has_way_out}
use Rattle.tn_ways.proofs.Coming.{router_sided}
use Rattle.tn_ways.proofs.Counting.{at_place, count, links_counted, none_at, of_router, of_tile, one, same_place, some_place, total, total_none}
use Rattle.tn_ways.proofs.Hops.{router_kind}
use Rattle.tn_ways.proofs.Leaving.{host_leaves, router_leaves, tile_leaves}
use Rattle.tn_ways.proofs.Taken.{router_taken, tile_taken}
use Rattle.tn_ways.proofs.Tests.{comes, is_port, leaves, one_few, port_is, port_same, true_of_one}

-- ---- the parts

abbrev is_site : Kind → Bool
is_site kind.Host = false
is_site (kind.Tile tile) = true
is_site (kind.Router board) = true
is_site (kind.Link from onto) = false
is_site kind.Detector = false

none_of : (there : Bool) → one (there && false) ≡ 0
none_of true = refl
none_of false = refl

five_none : (a b c d e : ℕ) → a ≡ 0 → b ≡ 0 → c ≡ 0 → d ≡ 0 → e ≡ 0 → a + b + c + d + e ≡ 0
five_none a b c d e p q r s t = omega arith

-- no link is a tile or a router
no_sites : (n : ShapeNumbers) → count is_site (from_tile_links n) ≡ 0
no_sites n =
    let all = links_counted is_site n refl in
    let tiles : total (of_tile is_site n) 0 (tile_count n) ≡ 0 = total_none (of_tile is_site n) 0 (tile_count n) (λ j low h. five_none _ _ _ _ _ (none_of _) (none_of _) (none_of _) (none_of _) (none_of _)) in
    let routers : total (of_router is_site n) 0 (board_count n) ≡ 0 = total_none (of_router is_site n) 0 (board_count n) (λ j low h. five_none _ _ _ _ _ refl (none_of _) (none_of _) (none_of _) (none_of _)) in
    all ∙ sum _ _ tiles routers where
      sum : (a b : ℕ) → a ≡ 0 → b ≡ 0 → a + b + (0 + 0) ≡ 0
      sum a b p q = omega arith

kind_behind : (n : ShapeNumbers) (l : ℕ) → visited n ≤ l → kind_of n l ≡ get_or (from_tile_links n) (l - visited n) kind.Detector
kind_behind n zero h = absurd (omega arith)
kind_behind n (suc i) h =
    behind_at (λ i. kind.Tile (record { 0 = tile_at n i })) (tile_count n) i (from_routers n) kind.Detector (omega arith)
    ∙ behind_at (λ i. kind.Router (board_at n i)) (board_count n) (i - tile_count n) (from_tile_links n) kind.Detector (omega arith)
    ∙ ap (λ k. get_or (from_tile_links n) k kind.Detector) (omega arith)

-- what a part may be
data Part (n : ShapeNumbers) : ℕ → Type 0 where
  TheHost : Part n 0
  ATile : (i : ℕ) → i < tile_count n → Part n (tile_part i)
  ARouter : (i : ℕ) → i < board_count n → Part n (router_part n i)
  Behind : (p : ℕ) → visited n ≤ p → is_site (kind_of n p) ≡ false → Part n p

part_of : (n : ShapeNumbers) (p : ℕ) → Part n p
part_of n zero = TheHost
part_of n (suc k) =
    elim (cases_lt k (tile_count n)) [
      | inl tile ↦ let e : tile_part k ≡ suc k = omega arith in subst (Part n) e (ATile k tile)
      | inr past ↦ elim (cases_lt k (tile_count n + board_count n)) [
        | inl router ↦
            let e : router_part n (k - tile_count n) ≡ suc k = omega arith in
            subst (Part n) e (ARouter (k - tile_count n) (omega arith))
        | inr behind ↦
            let low : visited n ≤ suc k = omega arith in
            Behind (suc k) low (ap is_site (kind_behind n (suc k) low) ∙ none_at is_site (from_tile_links n) (suc k - visited n) refl (no_sites n))
      ]
    ]

-- ---- links by their tests

to_leaves : (n : ShapeNumbers) (p l : ℕ) (way : Port) → LeadsBy n p way l → leaves n p way (kind_of n l) ≡ true
to_leaves n p l way h = ap (λ t. t && is_port (link_way n l) way) h.from ∙ port_is (link_way n l) way h.by

of_leaves : (n : ShapeNumbers) (p l : ℕ) (way : Port) → leaves n p way (kind_of n l) ≡ true → LeadsBy n p way l
of_leaves n p l way h = let both = and_parts _ _ h in record { from = both.0; by = port_same (link_way n l) way both.1 }

to_comes : (n : ShapeNumbers) (p l : ℕ) (side : Port) → ComesFrom n p side l → comes n p side (kind_of n l) ≡ true
to_comes n p l side h = ap (λ t. t && is_port (link_side n l) side) h.onto ∙ port_is (link_side n l) side h.beside

of_comes : (n : ShapeNumbers) (p l : ℕ) (side : Port) → comes n p side (kind_of n l) ≡ true → ComesFrom n p side l
of_comes n p l side h = let both = and_parts _ _ h in record { onto = both.0; beside = port_same (link_side n l) side both.1 }

one_leaves : (n : ShapeNumbers) (p : ℕ) (way : Port) (there : Bool) → count (leaves n p way) (parts n) ≡ one there → there ≡ true → ExactlyOne (LeadsBy n p way)
one_leaves n p way there e t =
    let single : count (leaves n p way) (parts n) ≡ 1 = e ∙ ap one t in
    let got = some_place (leaves n p way) (parts n) (omega arith) in
    record {
      link = got.0;
      has = of_leaves n p got.0 way got.1;
      alone = λ other h. same_place (leaves n p way) (parts n) other got.0 refl (omega arith) (to_leaves n p other way h) got.1;
    }

one_comes : (n : ShapeNumbers) (p : ℕ) (side : Port) (there : Bool) → count (comes n p side) (parts n) ≡ one there → there ≡ true → ExactlyOne (ComesFrom n p side)
one_comes n p side there e t =
    let single : count (comes n p side) (parts n) ≡ 1 = e ∙ ap one t in
    let got = some_place (comes n p side) (parts n) (omega arith) in
    record {
      link = got.0;
      has = of_comes n p got.0 side got.1;
      alone = λ other h. same_place (comes n p side) (parts n) other got.0 refl (omega arith) (to_comes n p other side h) got.1;
    }

there_leaves : (n : ShapeNumbers) (p l : ℕ) (way : Port) (there : Bool) → count (leaves n p way) (parts n) ≡ one there → LeadsBy n p way l → there ≡ true
there_leaves n p l way there e h = let some = at_place (leaves n p way) (parts n) l refl (to_leaves n p l way h) in true_of_one there (omega arith)

there_comes : (n : ShapeNumbers) (p l : ℕ) (side : Port) (there : Bool) → count (comes n p side) (parts n) ≡ one there → ComesFrom n p side l → there ≡ true
there_comes n p l side there e h = let some = at_place (comes n p side) (parts n) l refl (to_comes n p l side h) in true_of_one there (omega arith)

few_leave : (n : ShapeNumbers) (p : ℕ) (way : Port) (there : Bool) → count (leaves n p way) (parts n) ≡ one there → count (leaves n p way) (parts n) ≤ 1
few_leave n p way there e = let few = one_few there in omega arith

-- ---- the clauses

abbrev Takes : ShapeNumbers → Dest → Kind → Type 0
Takes n to k = (port_from k to ≡ port.Here) ⊎ (has_way_out n k (port_from k to) ≡ true)

stays : (n : ShapeNumbers) (to : Dest) (k : Kind) → is_site k ≡ false → Takes n to k
stays n to kind.Host h = inl refl
stays n to (kind.Tile tile) h = absurd (cc)
stays n to (kind.Router board) h = absurd (cc)
stays n to (kind.Link from onto) h = inl refl
stays n to kind.Detector h = inl refl

taken : (n : ShapeNumbers) (p : ℕ) (to : Dest) → WithinLimits n → has_dest n to ≡ true → Takes n to (kind_of n p)
taken n p to l h = by p (part_of n p) where
  by : (p : ℕ) → Part n p → Takes n to (kind_of n p)
  by _ TheHost = inl refl
  by _ (ATile i k) = subst (Takes n to) (sym (tile_kind n i k)) (tile_taken n (tile_at n i) to l h)
  by _ (ARouter i k) = subst (Takes n to) (sym (router_kind n i k)) (router_taken n (board_at n i) to l h)
  by _ (Behind p low none) = stays n to (kind_of n p) none

no_way : (n : ShapeNumbers) (k : Kind) (way : Port) → is_site k ≡ false → has_way_out n k way ≡ true → ⊥
no_way n kind.Host way h e = cc
no_way n (kind.Tile tile) way h e = cc
no_way n (kind.Router board) way h e = cc
no_way n (kind.Link from onto) way h e = cc
no_way n kind.Detector way h e = cc

out : (n : ShapeNumbers) (p : ℕ) (way : Port) → WithinLimits n → has_way_out n (kind_of n p) way ≡ true → ExactlyOne (LeadsBy n p way)
out n p way l h = by p (part_of n p) h where
  by : (p : ℕ) → Part n p → has_way_out n (kind_of n p) way ≡ true → ExactlyOne (LeadsBy n p way)
  by _ TheHost g = absurd (no_way n kind.Host way refl g)
  by _ (ATile i k) g = one_leaves n (tile_part i) way (has_tile_way n (tile_at n i) way) (tile_leaves n i way l k) (let P = λ (x : Kind). has_way_out n x way ≡ true in subst P (tile_kind n i k) g)
  by _ (ARouter i k) g = one_leaves n (router_part n i) way (has_way n (board_at n i) way) (router_leaves n i way l k) (let P = λ (x : Kind). has_way_out n x way ≡ true in subst P (router_kind n i k) g)
  by _ (Behind p low none) g = absurd (no_way n (kind_of n p) way none g)

from_tile : (n : ShapeNumbers) (p l : ℕ) (way : Port) (a : ℕ) → WithinLimits n → kind_of n p ≡ kind.Tile (record { 0 = a }) → LeadsBy n p way l → has_tile_way n a way ≡ true
from_tile n p l way a lim e h = by p (part_of n p) e h where
  by : (p : ℕ) → Part n p → kind_of n p ≡ kind.Tile (record { 0 = a }) → LeadsBy n p way l → has_tile_way n a way ≡ true
  by _ TheHost e h = let d : kind.Host ≡ kind.Tile (record { 0 = a }) = e in absurd (cc)
  by _ (ATile i k) e h =
      let same : kind.Tile (record { 0 = tile_at n i }) ≡ kind.Tile (record { 0 = a }) = sym (tile_kind n i k) ∙ e in
      ap (λ x. has_way_out n x way) (sym same) ∙ there_leaves n (tile_part i) l way (has_tile_way n (tile_at n i) way) (tile_leaves n i way lim k) h
  by _ (ARouter i k) e h = let d : kind.Router (board_at n i) ≡ kind.Tile (record { 0 = a }) = sym (router_kind n i k) ∙ e in absurd (cc)
  by _ (Behind p low none) e h = let d : true ≡ false = sym (ap is_site e) ∙ none in absurd (cc)

-- a router's part, by its board
router_by_board : (n : ShapeNumbers) (p : ℕ) (b : Board) → kind_of n p ≡ kind.Router b → (i : ℕ) × (i < board_count n) × (router_part n i ≡ p) × (kind.Router (board_at n i) ≡ kind.Router b)
router_by_board n p b e = by p (part_of n p) e where
  by : (p : ℕ) → Part n p → kind_of n p ≡ kind.Router b → (i : ℕ) × (i < board_count n) × (router_part n i ≡ p) × (kind.Router (board_at n i) ≡ kind.Router b)
  by _ TheHost e = let d : kind.Host ≡ kind.Router b = e in absurd (cc)
  by _ (ATile i k) e = let d : kind.Tile (record { 0 = tile_at n i }) ≡ kind.Router b = sym (tile_kind n i k) ∙ e in absurd (cc)
  by _ (ARouter i k) e = (i, k, refl, sym (router_kind n i k) ∙ e)
  by _ (Behind p low none) e = let d : true ≡ false = sym (ap is_site e) ∙ none in absurd (cc)

from_router : (n : ShapeNumbers) (p l : ℕ) (way : Port) (b : Board) → WithinLimits n → kind_of n p ≡ kind.Router b → LeadsBy n p way l → has_way n b way ≡ true
from_router n p l way b lim e h =
    let r = router_by_board n p b e in
    let P = λ (q : ℕ). LeadsBy n q way l in
    ap (λ x. has_way_out n x way) (sym r.3) ∙ there_leaves n (router_part n r.0) l way (has_way n (board_at n r.0) way) (router_leaves n r.0 way lim r.1) (subst P (sym r.2) h)

-- a part from which a link leads is the host, a tile or a router
from_visited : (n : ShapeNumbers) (p l : ℕ) (k : Kind) → WithinLimits n → kind_of n l ≡ k → leads_from p k ≡ true → p < visited n
from_visited n p l kind.Host lim e h = absurd (cc)
from_visited n p l (kind.Tile tile) lim e h = absurd (cc)
from_visited n p l (kind.Router board) lim e h = absurd (cc)
from_visited n p l (kind.Link from onto) lim e h =
    let ends = joins_visited n l from onto lim e in
    let same : from.0 ≡ p = eqb-true from.0 p h in
    let low = ends.from_visited in
    omega arith
from_visited n p l kind.Detector lim e h = absurd (cc)

apart : (n : ShapeNumbers) (p l k : ℕ) (way : Port) → WithinLimits n → LeadsBy n p way l → LeadsBy n p way k → l ≡ k
apart n p l k way lim g h = same_place (leaves n p way) (parts n) l k refl (by p (part_of n p) (from_visited n p l (kind_of n l) lim refl g.from)) (to_leaves n p l way g) (to_leaves n p k way h) where
  by : (p : ℕ) → Part n p → p < visited n → count (leaves n p way) (parts n) ≤ 1
  by _ TheHost low = host_leaves n way
  by _ (ATile i k) low = few_leave n (tile_part i) way (has_tile_way n (tile_at n i) way) (tile_leaves n i way lim k)
  by _ (ARouter i k) low = few_leave n (router_part n i) way (has_way n (board_at n i) way) (router_leaves n i way lim k)
  by _ (Behind p past none) low = absurd (omega arith)

sides : (n : ShapeNumbers) (p : ℕ) (side : Port) (b : Board) → WithinLimits n → kind_of n p ≡ kind.Router b → has_side n b side ≡ true → ExactlyOne (ComesFrom n p side)
sides n p side b lim e h =
    let r = router_by_board n p b e in
    let P = λ (q : ℕ). ExactlyOne (ComesFrom n q side) in
    let board : board_at n r.0 ≡ b = cc (r.3) in
    subst P r.2 (one_comes n (router_part n r.0) side (has_side n (board_at n r.0) side) (router_sided n r.0 side lim r.1) (ap (λ c. has_side n c side) board ∙ h))

to_router : (n : ShapeNumbers) (p l : ℕ) (side : Port) (b : Board) → WithinLimits n → kind_of n p ≡ kind.Router b → ComesFrom n p side l → has_side n b side ≡ true
to_router n p l side b lim e h =
    let r = router_by_board n p b e in
    let P = λ (q : ℕ). ComesFrom n q side l in
    let board : board_at n r.0 ≡ b = cc (r.3) in
    ap (λ c. has_side n c side) (sym board) ∙ there_comes n (router_part n r.0) l side (has_side n (board_at n r.0) side) (router_sided n r.0 side lim r.1) (subst P (sym r.2) h)

own : (n : ShapeNumbers) (p l k : ℕ) (side : Port) (b : Board) → WithinLimits n → kind_of n p ≡ kind.Router b → ComesFrom n p side l → ComesFrom n p side k → l ≡ k
own n p l k side b lim e g h =
    let one = sides n p side b lim e (to_router n p l side b lim e g) in
    one.alone l g ∙ sym (one.alone k h)

pub ways : (n : ShapeNumbers) → WithinLimits n → Ways n
ways n l = record {
  taken = λ p to h. taken n p to l h;
  out = λ p way h. out n p way l h;
  from_tile = λ p k way a e h. from_tile n p k way a l e h;
  from_router = λ p k way b e h. from_router n p k way b l e h;
  apart = λ p k j way g h. apart n p k j way l g h;
  sides = λ p side b e h. sides n p side b l e h;
  to_router = λ p k side b e h. to_router n p k side b l e h;
  own = λ p k j side b e g h. own n p k j side b l e g h;
}
