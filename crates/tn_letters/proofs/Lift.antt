-- From one tile of a machine to the whole machine.
use Rattle.std.proofs.Common.{ℕ, ◌+◌, ◌<◌, ◌≡◌, ◌≢◌, Bool, true, false, cond, List, [], ◌∷◌, length, get_or, map, set, zero, suc, refl, sym, ◌∙◌, ap, subst, inl, inr, arith, length-set, IsTrue, sum_by, Option, None, MatchOption}
use Rattle.std.specs.List.{AllByRecursion, range_with_len}
use Rattle.std.proofs.lemmas.Bool.{cases_eq, eq-eqb, ne_eqb}
use Rattle.std.proofs.lemmas.List.{get_or-set_same, get_or-set_other}
use Rattle.tn_base.specs.declared.message.Letter.{Letter}
use Rattle.tn_base.specs.declared.shape.ShapeNumbers.{ShapeNumbers}
use Rattle.tn_base.specs.Address.{has_thread, has_tile, in_tile, place_in_tile, tile_of, tile_place, tile_threads}
use Rattle.tn_base.specs.Parts.{JoinsVisited, board_count, kind_of, part_count, router_part, tile_at, tile_part}
use Rattle.tn_base.specs.declared.ids.Board.{Board}
use Rattle.tn_base.specs.declared.message.Packet.{Packet}
use Rattle.tn_base.specs.declared.port.Port.{Port}
use Rattle.tn_base.specs.declared.port.Port.TheVariants as port
use Rattle.tn_base.specs.declared.message.Dest.TheVariants as dest
use Rattle.tn_base.specs.Message.{has_packet}
use Rattle.tn_keys.specs.Accepted.{Accepted}
use Rattle.tn_keys.specs.Reach.{Reach, reach}
use Rattle.tn_keys.specs.Tables.{Table, table_of}
use Rattle.tn_router.specs.Kept.{WellShaped as RouterShaped, is_keyed}
use Rattle.tn_router.specs.RouterView.{RouterView}
use Rattle.tn_node.specs.declared.ports.Ports.{Ports}
use Rattle.tn_node.specs.PortRows.{at}
use Rattle.tn_letters.specs.Letters.{board_of, link_board}
use Rattle.tn_base.specs.Shape.{WithinLimits}
use Rattle.tn_base.proofs.TilePlaces.{fields, place_below, place_named, tile_found}
use Rattle.tn_slots.specs.WellKept.{WellKept}
use Rattle.tn_tile.specs.Kept.{IsFit, WellShaped}
use Rattle.tn_tile.specs.declared.state.TileState.{TileState}
use Rattle.tn_tile.specs.TileView.{TileView, with_now}
use Rattle.tn_base.specs.declared.ids.PartId.{PartId}
use Rattle.tn_base.specs.declared.part.Kind.{Kind}
use Rattle.tn_base.specs.declared.part.Kind.TheVariants as kind
use Rattle.tn_link.specs.LinkView.{LinkView}
use Rattle.tn_rows.specs.Events.{with_part}
use Rattle.tn_rows.specs.PartView.{PartView, TileV, RouterV, LinkV, HostV, DetectorV, AbsentV}
use Rattle.tn_rows.specs.WorldView.{WorldView}
use Rattle.tn_letters.specs.Law.{IsSendable}
use Rattle.tn_letters.specs.Standing.{standing_letters}
use Rattle.tn_letters.specs.State.{put}
use Rattle.tn_letters.specs.Tiles.{beats_on, host_in, host_on, part_for, program_of, reach_of, tables_of, tile_for, tile_in}
use Rattle.tn_letters.proofs.Sums.{sum_one}
use Rattle.tn_letters.proofs.Weights.{part_w, standing_is, tile_w}

-- a packet with a key comes from a part of this board
abbrev pub Homed : Board → Packet → Type 0
Homed b k = is_keyed k.dest ≡ true → board_of k.origin ≡ b

-- so do those that the threads of a tile sent, and those that go on from it
pub record HomeTile (b : Board) (pending : List (Option Packet)) (transit : Ports Packet) : Type 0 where
  pub sent : (k : ℕ) → MatchOption (get_or pending k None) (Unit {0}) (Homed b)
  pub goes_on : (way : Port) → MatchOption (at way transit) (Unit {0}) (Homed b)

-- what holds of each tile of a machine, which is its part p
pub record GoodTile (n : ShapeNumbers) (p : ℕ) (v : TileView) : Type 0 where
  pub shape : v.plan.shape ≡ n
  pub shaped : WellShaped v
  pub kept : WellKept v.now.pool
  pub part : tile_part (tile_place n v.plan.tile) ≡ p
  pub home : HomeTile (board_of v.plan.tile) v.now.pending v.now.node.out

-- another state of the tile
pub good_now : (n : ShapeNumbers) (p : ℕ) (v : TileView) (s : TileState) → GoodTile n p v → IsFit v.plan s → WellKept s.pool → HomeTile (board_of v.plan.tile) s.pending s.node.out → GoodTile n p (with_now v s)
good_now n p v s t fit kept home = record { shape = t.shape; shaped = record { tile = t.shaped.tile; fits = fit }; kept = kept; part = t.part; home = home }

-- by the way to the host only packets for the host go
abbrev pub ForHost : Port → Option Packet → Type 0
ForHost port.East o = Unit {0}
ForHost port.West o = Unit {0}
ForHost port.South o = Unit {0}
ForHost port.North o = Unit {0}
ForHost port.Up o = Unit {0}
ForHost port.Down o = Unit {0}
ForHost port.HostPort o = MatchOption o (Unit {0}) (λ k. k.dest ≡ dest.Host)
ForHost port.Here o = Unit {0}

abbrev pub HostWay : Ports Packet → Type 0
HostWay out = (way : Port) → ForHost way (at way out)

-- what holds of each router of a machine with these tables
pub record GoodRouter (n : ShapeNumbers) (tables : List Table) (v : RouterView) : Type 0 where
  pub shape : v.plan.shape ≡ n
  pub shaped : RouterShaped v
  pub beats : v.plan.beats ≡ table_of n tables v.plan.board
  pub host : HostWay v.now.node.out

abbrev pub is_tile : Kind → Bool
is_tile kind.Host = false
is_tile (kind.Tile tile) = true
is_tile (kind.Router board) = false
is_tile (kind.Link from onto) = false
is_tile kind.Detector = false

-- a part is a link that leads to a tile
abbrev pub leads_to_tile : ShapeNumbers → Kind → Bool
leads_to_tile n kind.Host = false
leads_to_tile n (kind.Tile tile) = false
leads_to_tile n (kind.Router board) = false
leads_to_tile n (kind.Link from onto) = is_tile (kind_of n onto.0)
leads_to_tile n kind.Detector = false

-- what holds of each link of a machine, which is its part q: to a tile it carries packets with keys of the tile's board alone
abbrev pub HomeLink : ShapeNumbers → ℕ → LinkView → Type 0
HomeLink n q x = leads_to_tile n (kind_of n q) ≡ true → AllByRecursion (Homed (link_board n q)) x.packets

abbrev pub is_host : Kind → Bool
is_host kind.Host = true
is_host (kind.Tile tile) = false
is_host (kind.Router board) = false
is_host (kind.Link from onto) = false
is_host kind.Detector = false

-- a part is a link that leads to the host
abbrev pub leads_to_host : ShapeNumbers → Kind → Bool
leads_to_host n kind.Host = false
leads_to_host n (kind.Tile tile) = false
leads_to_host n (kind.Router board) = false
leads_to_host n (kind.Link from onto) = is_host (kind_of n onto.0)
leads_to_host n kind.Detector = false

-- a packet of the machine for the host
abbrev pub IsForHost : ShapeNumbers → Packet → Type 0
IsForHost n k = IsTrue (has_packet n k) × (k.dest ≡ dest.Host)

-- what holds of each link: to the host it carries packets for the host alone
pub record GoodLink (n : ShapeNumbers) (q : ℕ) (x : LinkView) : Type 0 where
  pub home : HomeLink n q x
  pub host : leads_to_host n (kind_of n q) ≡ true → AllByRecursion (IsForHost n) x.packets

-- what holds of each part, which has this number
abbrev pub GoodPart : ShapeNumbers → List Table → ℕ → PartView → Type 0
GoodPart n tables p (TileV v) = GoodTile n p v
GoodPart n tables p (RouterV v) = GoodRouter n tables v
GoodPart n tables p (LinkV x) = GoodLink n p x
GoodPart n tables p (HostV s) = AllByRecursion (IsSendable n) s.script
GoodPart n tables p (DetectorV v) = Unit {0}
GoodPart n tables p AbsentV = Unit {0}

-- a part stands at a place of its kind
abbrev pub StandsAt : Kind → PartView → Type 0
StandsAt (kind.Tile tile) (TileV v) = v.plan.tile ≡ tile.0
StandsAt (kind.Tile tile) (RouterV v) = ⊥
StandsAt (kind.Tile tile) (LinkV x) = ⊥
StandsAt (kind.Tile tile) (HostV s) = ⊥
StandsAt (kind.Tile tile) (DetectorV v) = ⊥
StandsAt (kind.Tile tile) AbsentV = ⊥
StandsAt (kind.Router board) (TileV v) = ⊥
StandsAt (kind.Router board) (RouterV v) = v.plan.board ≡ board
StandsAt (kind.Router board) (LinkV x) = ⊥
StandsAt (kind.Router board) (HostV s) = ⊥
StandsAt (kind.Router board) (DetectorV v) = ⊥
StandsAt (kind.Router board) AbsentV = ⊥
StandsAt (kind.Link from onto) (TileV v) = ⊥
StandsAt (kind.Link from onto) (RouterV v) = ⊥
StandsAt (kind.Link from onto) (LinkV x) = Unit {0}
StandsAt (kind.Link from onto) (HostV s) = ⊥
StandsAt (kind.Link from onto) (DetectorV v) = ⊥
StandsAt (kind.Link from onto) AbsentV = ⊥
StandsAt kind.Host (TileV v) = ⊥
StandsAt kind.Host (RouterV v) = ⊥
StandsAt kind.Host (LinkV x) = ⊥
StandsAt kind.Host (HostV s) = Unit {0}
StandsAt kind.Host (DetectorV v) = ⊥
StandsAt kind.Host AbsentV = ⊥
StandsAt kind.Detector (TileV v) = ⊥
StandsAt kind.Detector (RouterV v) = ⊥
StandsAt kind.Detector (LinkV x) = ⊥
StandsAt kind.Detector (HostV s) = ⊥
StandsAt kind.Detector (DetectorV v) = Unit {0}
StandsAt kind.Detector AbsentV = ⊥

-- part p of the machine is this one
pub record OnPart (w : WorldView) (p : ℕ) (part : PartView) : Type 0 where
  pub within : p < length w.parts
  pub below : p < part_count w.shape
  pub is : get_or w.parts p AbsentV ≡ part

abbrev pub On : WorldView → ℕ → TileView → Type 0
On w p v = OnPart w p (TileV v)

abbrev pub OnRouter : WorldView → ℕ → RouterView → Type 0
OnRouter w p v = OnPart w p (RouterV v)

abbrev pub OnLink : WorldView → ℕ → LinkView → Type 0
OnLink w q x = OnPart w q (LinkV x)

-- links lead from visited parts to others
abbrev pub LeadsOn : ShapeNumbers → Type 0
LeadsOn n = (q : ℕ) (from onto : PartId) → kind_of n q ≡ kind.Link from onto → JoinsVisited n q from.0 onto.0

pub record Good (w : WorldView) : Type 0 where
  pub count : length w.parts ≡ part_count w.shape
  pub limits : WithinLimits w.shape
  pub leads : LeadsOn w.shape
  pub accepted : Accepted w.shape (tables_of w)
  pub stands : (p : ℕ) → p < part_count w.shape → StandsAt (kind_of w.shape p) (get_or w.parts p AbsentV)
  pub each : (p : ℕ) → p < part_count w.shape → GoodPart w.shape (tables_of w) p (get_or w.parts p AbsentV)

-- the part that stands there
pub part_on : (w : WorldView) (p : ℕ) (part : PartView) → Good w → OnPart w p part → GoodPart w.shape (tables_of w) p part
part_on w p part g on = subst (GoodPart w.shape (tables_of w) p) on.is (g.each p on.below)

pub stands_on : (w : WorldView) (p : ℕ) (part : PartView) → Good w → OnPart w p part → StandsAt (kind_of w.shape p) part
stands_on w p part g on = subst (StandsAt (kind_of w.shape p)) on.is (g.stands p on.below)

pub tile_on : (w : WorldView) (p : ℕ) (v : TileView) → Good w → On w p v → GoodTile w.shape p v
tile_on w p v g on = part_on w p (TileV v) g on

-- the thread at an address is on the tile, at place k
pub record Stands (n : ShapeNumbers) (v : TileView) (a k : ℕ) : Type 0 where
  pub there : IsTrue (has_thread n a)
  pub tile : tile_of a ≡ v.plan.tile
  pub place : place_in_tile n a ≡ k

abbrev pub with_tile : WorldView → ℕ → TileView → WorldView
with_tile w p v = record w { parts = set w.parts p (TileV v) }

pub tile_here : (w : WorldView) (p : ℕ) (v : TileView) (b : ℕ) → p < length w.parts → part_for w b ≡ p → tile_for (with_tile w p v) b ≡ v
tile_here w p v b h e = ap (λ i. tile_in (get_or (set w.parts p (TileV v)) i AbsentV)) e ∙ ap tile_in (get_or-set_same w.parts p (TileV v) AbsentV h)

pub tile_other : (w : WorldView) (p : ℕ) (v : TileView) (b : ℕ) → part_for w b ≢ p → tile_for (with_tile w p v) b ≡ tile_for w b
tile_other w p v b ne = ap tile_in (get_or-set_other w.parts p (part_for w b) (TileV v) AbsentV ne)

pub tile_is : (w : WorldView) (p : ℕ) (v : TileView) (b : ℕ) → On w p v → part_for w b ≡ p → tile_for w b ≡ v
tile_is w p v b on e = ap (λ i. tile_in (get_or w.parts i AbsentV)) e ∙ ap tile_in on.is

pub part_is : (w : WorldView) (p a k : ℕ) (v : TileView) → Good w → On w p v → Stands w.shape v a k → part_for w a ≡ p
part_is w p a k v g on s = ap (λ t. tile_part (tile_place w.shape t)) s.tile ∙ (tile_on w p v g on).part

-- the threads of one part are on one tile
pub on_tile : (w : WorldView) (p b : ℕ) (v : TileView) → Good w → On w p v → IsTrue (has_thread w.shape b) → part_for w b ≡ p → tile_of b ≡ v.plan.tile
on_tile w p b v g on h e =
    let t = tile_on w p v g on in
    let there : IsTrue (has_tile w.shape v.plan.tile) = subst (λ n. IsTrue (has_tile n v.plan.tile)) t.shape t.shaped.tile in
    let same : tile_place w.shape (tile_of b) ≡ tile_place w.shape v.plan.tile = let part = t.part in omega arith in
    sym ((tile_found w.shape (tile_of b) g.limits (fields w.shape b h).tile).1) ∙ (ap (tile_at w.shape) same ∙ (tile_found w.shape v.plan.tile g.limits there).1)

-- and at different places
pub other_place : (w : WorldView) (p a k b : ℕ) (v : TileView) → Good w → On w p v → Stands w.shape v a k → IsTrue (has_thread w.shape b) → part_for w b ≡ p → b ≢ a → place_in_tile w.shape b ≢ k
other_place w p a k b v g on s h e ne = λ same.
    ne (sym (place_named w.shape b h)
    ∙ (ap (λ t. in_tile w.shape t (place_in_tile w.shape b)) (on_tile w p b v g on h e ∙ sym s.tile)
    ∙ (ap (in_tile w.shape (tile_of a)) (same ∙ sym s.place) ∙ place_named w.shape a s.there)))

pub place_within : (n : ShapeNumbers) (v : TileView) (a k : ℕ) → Stands n v a k → k < tile_threads n
place_within n v a k s = let h = place_below n a s.there in let e = s.place in omega arith

-- a fact of each thread's tile and place
abbrev pub of : {A : Type 0} → (TileView → ℕ → A) → WorldView → ℕ → A
of g w b = g (tile_for w b) (place_in_tile w.shape b)

put_here : {A : Type 0} (f : ℕ → A) (a : ℕ) (x : A) (b : ℕ) → b ≡ a → put f a x b ≡ x
put_here f a x b e = ap (λ c. cond c x (f b)) (eq-eqb b a e)

put_other : {A : Type 0} (f : ℕ → A) (a : ℕ) (x : A) (b : ℕ) → b ≢ a → put f a x b ≡ f b
put_other f a x b ne = ap (λ c. cond c x (f b)) (ne_eqb b a ne)

-- it changes at one thread of a tile
pub lift_put : {A : Type 0} (g : TileView → ℕ → A) (w : WorldView) (p a k : ℕ) (v new : TileView) (x : A) → Good w → On w p v → Stands w.shape v a k →
    g new k ≡ x → ((j : ℕ) → j < tile_threads w.shape → j ≢ k → g new j ≡ g v j) → (b : ℕ) → IsTrue (has_thread w.shape b) → put (of g w) a x b ≡ of g (with_tile w p new) b
lift_put g w p a k v new x good on s here others b h = elim (cases_eq b a) [
  | inl e ↦
      put_here (of g w) a x b e ∙ sym (
      ap (λ t. g t (place_in_tile w.shape b)) (tile_here w p new b on.within (ap (part_for w) e ∙ part_is w p a k v good on s))
      ∙ (ap (λ c. g new (place_in_tile w.shape c)) e ∙ (ap (g new) s.place ∙ here)))
  | inr ne ↦
      put_other (of g w) a x b ne ∙ elim (cases_eq (part_for w b) p) [
        | inr far ↦ sym (ap (λ t. g t (place_in_tile w.shape b)) (tile_other w p new b far))
        | inl near ↦
            ap (λ t. g t (place_in_tile w.shape b)) (tile_is w p v b on near)
            ∙ (sym (others (place_in_tile w.shape b) (place_below w.shape b h) (other_place w p a k b v good on s h near ne))
            ∙ sym (ap (λ t. g t (place_in_tile w.shape b)) (tile_here w p new b on.within near)))
      ]
]

-- it changes at no thread of a tile
pub lift_same : {A : Type 0} (g : TileView → ℕ → A) (w : WorldView) (p : ℕ) (v new : TileView) → On w p v →
    ((j : ℕ) → j < tile_threads w.shape → g new j ≡ g v j) → (b : ℕ) → IsTrue (has_thread w.shape b) → of g w b ≡ of g (with_tile w p new) b
lift_same g w p v new on all b h = elim (cases_eq (part_for w b) p) [
  | inr far ↦ sym (ap (λ t. g t (place_in_tile w.shape b)) (tile_other w p new b far))
  | inl near ↦
      ap (λ t. g t (place_in_tile w.shape b)) (tile_is w p v b on near)
      ∙ (sym (all (place_in_tile w.shape b) (place_below w.shape b h))
      ∙ sym (ap (λ t. g t (place_in_tile w.shape b)) (tile_here w p new b on.within near)))
]

-- the code stays, so the program does
code_stays : (w : WorldView) (p : ℕ) (v new : TileView) → On w p v → new.plan.code ≡ v.plan.code → (b : ℕ) → (tile_for (with_tile w p new) b).plan.code ≡ (tile_for w b).plan.code
code_stays w p v new on e b = elim (cases_eq (part_for w b) p) [
  | inr far ↦ ap (λ (t : TileView). t.plan.code) (tile_other w p new b far)
  | inl near ↦ ap (λ (t : TileView). t.plan.code) (tile_here w p new b on.within near) ∙ (e ∙ sym (ap (λ (t : TileView). t.plan.code) (tile_is w p v b on near)))
]

-- the host stays where another part changes, and where a part that is no host does
pub host_stays : (w : WorldView) (p : ℕ) (old new : PartView) → OnPart w p old → host_in new ≡ host_in old → host_on (with_part w p new) ≡ host_on w
host_stays w p old new on same = elim (cases_eq 0 p) [
  | inl e ↦
      ap (λ i. host_in (get_or (set w.parts p new) i AbsentV)) e
      ∙ (ap host_in (get_or-set_same w.parts p new AbsentV on.within) ∙ (same ∙ sym (ap (λ i. host_in (get_or w.parts i AbsentV)) e ∙ ap host_in on.is)))
  | inr ne ↦ ap host_in (get_or-set_other w.parts p 0 new AbsentV ne)
]

pub host_beside : (w : WorldView) (p : ℕ) (v new : TileView) → On w p v → host_on w ≡ host_on (with_tile w p new)
host_beside w p v new on = sym (host_stays w p (TileV v) (TileV new) on refl)

-- ---- another part in a place

here_at : (parts : List PartView) (p q : ℕ) (new : PartView) → p < length parts → q ≡ p → get_or (set parts p new) q AbsentV ≡ new
here_at parts p q new h e = ap (λ i. get_or (set parts p new) i AbsentV) e ∙ get_or-set_same parts p new AbsentV h

beats_stay : (parts : List PartView) (p q : ℕ) (new : PartView) → p < length parts → beats_on new ≡ beats_on (get_or parts p AbsentV) → beats_on (get_or (set parts p new) q AbsentV) ≡ beats_on (get_or parts q AbsentV)
beats_stay parts p q new h same = elim (cases_eq q p) [
  | inl e ↦ ap beats_on (here_at parts p q new h e) ∙ (same ∙ ap (λ i. beats_on (get_or parts i AbsentV)) (sym e))
  | inr ne ↦ ap beats_on (get_or-set_other parts p q new AbsentV ne)
]

-- the tables stay where a router keeps its own
pub tables_stay : (w : WorldView) (p : ℕ) (new : PartView) → p < length w.parts → beats_on new ≡ beats_on (get_or w.parts p AbsentV) → tables_of (with_part w p new) ≡ tables_of w
unfolding tables_of
tables_stay w p new h same = λ i. map (λ j. beats_stay w.parts p (router_part w.shape j) new h same i) (range_with_len 0 (board_count w.shape))

pub reach_stays : (w : WorldView) (p : ℕ) (new : PartView) → p < length w.parts → beats_on new ≡ beats_on (get_or w.parts p AbsentV) → reach_of (with_part w p new) ≡ reach_of w
reach_stays w p new h same = ap (reach w.shape) (tables_stay w p new h same)

pub good_with : (w : WorldView) (p : ℕ) (new : PartView) → Good w → p < length w.parts → beats_on new ≡ beats_on (get_or w.parts p AbsentV) → StandsAt (kind_of w.shape p) new → GoodPart w.shape (tables_of w) p new → Good (with_part w p new)
good_with w p new g h beats stands part =
    let same : tables_of (with_part w p new) ≡ tables_of w = tables_stay w p new h beats in
    record {
      count = length-set w.parts p new ∙ g.count;
      limits = g.limits;
      leads = g.leads;
      accepted = subst (Accepted w.shape) (sym same) g.accepted;
      stands = λ q below. elim (cases_eq q p) [
        | inl e ↦ subst (StandsAt (kind_of w.shape q)) (sym (here_at w.parts p q new h e)) (subst (λ i. StandsAt (kind_of w.shape i) new) (sym e) stands)
        | inr ne ↦ subst (StandsAt (kind_of w.shape q)) (sym (get_or-set_other w.parts p q new AbsentV ne)) (g.stands q below)
      ];
      each = λ q below. subst (λ tables. GoodPart w.shape tables q (get_or (set w.parts p new) q AbsentV)) (sym same) (elim (cases_eq q p) [
        | inl e ↦ subst (GoodPart w.shape (tables_of w) q) (sym (here_at w.parts p q new h e)) (subst (λ i. GoodPart w.shape (tables_of w) i new) (sym e) part)
        | inr ne ↦ subst (GoodPart w.shape (tables_of w) q) (sym (get_or-set_other w.parts p q new AbsentV ne)) (g.each q below)
      ]);
    }

-- what one part's letters lose or gain, the machine's do
pub part_changes : (f : Letter → ℕ) (w : WorldView) (p : ℕ) (part : PartView) (on : Reach) → p < length w.parts → p < part_count w.shape → beats_on part ≡ beats_on (get_or w.parts p AbsentV) → reach_of w ≡ on →
    sum_by f (standing_letters (with_part w p part)) + part_w f w.shape on p (get_or w.parts p AbsentV) ≡ sum_by f (standing_letters w) + part_w f w.shape on p part
part_changes f w p part on within below beats leads =
    let parts = set w.parts p part in
    let a = standing_is f w on leads in
    let b = standing_is f (with_part w p part) on (reach_stays w p part within beats ∙ leads) in
    let c = sum_one (λ q. part_w f w.shape on q (get_or parts q AbsentV)) (λ q. part_w f w.shape on q (get_or w.parts q AbsentV)) 0 (part_count w.shape) p (omega arith) (omega arith)
    (λ q h ne. ap (part_w f w.shape on q) (get_or-set_other w.parts p q part AbsentV ne)) in
    let here : part_w f w.shape on p (get_or parts p AbsentV) ≡ part_w f w.shape on p part = ap (part_w f w.shape on p) (get_or-set_same w.parts p part AbsentV within) in
    omega arith

-- ---- another tile

-- where no table stood
pub no_beats : (w : WorldView) (p : ℕ) (v new : TileView) → On w p v → beats_on (TileV new) ≡ beats_on (get_or w.parts p AbsentV)
no_beats w p v new on = sym (ap beats_on on.is)

pub tile_reach : (w : WorldView) (p : ℕ) (v new : TileView) → On w p v → reach_of (with_tile w p new) ≡ reach_of w
tile_reach w p v new on = reach_stays w p (TileV new) on.within (no_beats w p v new on)

pub program_stays : (w : WorldView) (p : ℕ) (v new : TileView) → On w p v → new.plan.code ≡ v.plan.code → program_of (with_tile w p new) ≡ program_of w
program_stays w p v new on e = λ i. record { shape = w.shape; code = λ b. code_stays w p v new on e b i; reach = tile_reach w p v new on i }

pub tile_stands : (f : Letter → ℕ) (w : WorldView) (p : ℕ) (v new : TileView) (x y : ℕ) → On w p v →
    x + tile_w f (reach_of w) new ≡ y + tile_w f (reach_of w) v → x + sum_by f (standing_letters (with_tile w p new)) ≡ y + sum_by f (standing_letters w)
tile_stands f w p v new x y on e =
    let c = part_changes f w p (TileV new) (reach_of w) on.within on.below (no_beats w p v new on) refl in
    let here : part_w f w.shape (reach_of w) p (TileV new) ≡ tile_w f (reach_of w) new = refl in
    let was : part_w f w.shape (reach_of w) p (get_or w.parts p AbsentV) ≡ tile_w f (reach_of w) v = ap (part_w f w.shape (reach_of w) p) on.is in
    omega arith

pub on_new : (w : WorldView) (p : ℕ) (v new : TileView) → On w p v → On (with_tile w p new) p new
on_new w p v new on = record { within = let l = length-set w.parts p (TileV new) in let h = on.within in omega arith; below = on.below; is = get_or-set_same w.parts p (TileV new) AbsentV on.within }

-- two tiles of one part are the same one
same_tile : (n : ShapeNumbers) (p : ℕ) (v u : TileView) → WithinLimits n → GoodTile n p v → GoodTile n p u → u.plan.tile ≡ v.plan.tile
same_tile n p v u limits t s =
    let here : IsTrue (has_tile n v.plan.tile) = subst (λ m. IsTrue (has_tile m v.plan.tile)) t.shape t.shaped.tile in
    let there : IsTrue (has_tile n u.plan.tile) = subst (λ m. IsTrue (has_tile m u.plan.tile)) s.shape s.shaped.tile in
    let same : tile_place n u.plan.tile ≡ tile_place n v.plan.tile = let a = t.part in let b = s.part in omega arith in
    sym ((tile_found n u.plan.tile limits there).1) ∙ (ap (tile_at n) same ∙ (tile_found n v.plan.tile limits here).1)

pub still_tile : (k : Kind) (v new : TileView) → new.plan.tile ≡ v.plan.tile → StandsAt k (TileV v) → StandsAt k (TileV new)
still_tile kind.Host v new e h = absurd h
still_tile (kind.Tile tile) v new e h = e ∙ h
still_tile (kind.Router board) v new e h = absurd h
still_tile (kind.Link from onto) v new e h = absurd h
still_tile kind.Detector v new e h = absurd h

pub good_lift : (w : WorldView) (p : ℕ) (v new : TileView) → Good w → On w p v → GoodTile w.shape p new → Good (with_tile w p new)
good_lift w p v new g on t =
    good_with w p (TileV new) g on.within (no_beats w p v new on)
    (still_tile (kind_of w.shape p) v new (same_tile w.shape p v new g.limits (tile_on w p v g on) t) (stands_on w p (TileV v) g on)) t

set_twice : {X : Type 0} (xs : List X) (i : ℕ) (x y : X) → set (set xs i x) i y ≡ set xs i y
set_twice [] i x y = refl
set_twice (z ∷ zs) zero x y = refl
set_twice (z ∷ zs) (suc i) x y = ap (λ r. z ∷ r) (set_twice zs i x y)

pub twice : (w : WorldView) (p : ℕ) (v new : TileView) → with_tile (with_tile w p v) p new ≡ with_tile w p new
twice w p v new = ap (λ ps. record w { parts = ps }) (set_twice w.parts p (TileV v) (TileV new))
