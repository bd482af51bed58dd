-- What the calls that list the letters of routers and of links read.
use Rattle.std.proofs.Common.{ℕ, ◌≡◌, ◌≤◌, ◌<◌, ◌+◌, ◌-◌, ◌++◌, true, false, cond, List, [], ◌∷◌, drop, take, length, map, min, refl, sym, ◌∙◌, ap, subst, arith, Option, Some, None, ltb, unwrap_or}
use Rattle.std.specs.Prelude.{◌||◌}
use Rattle.std.proofs.lemmas.Bool.{ne_eqb, le-ltb}
use Rattle.std.proofs.lemmas.List.{drop_min, length-drop, take_all}
use Rattle.tn_base.specs.declared.ids.Board.{Board}
use Rattle.tn_base.specs.declared.message.Dest.TheVariants as dest
use Rattle.tn_base.specs.declared.message.Letter.{Letter}
use Rattle.tn_base.specs.declared.message.Packet.{Packet}
use Rattle.tn_base.specs.declared.part.Kind.TheVariants as kind
use Rattle.tn_base.specs.declared.port.Port.{Port}
use Rattle.tn_base.specs.declared.shape.ShapeNumbers.{ShapeNumbers}
use Rattle.tn_base.specs.Message.{has_packet}
use Rattle.tn_base.specs.Parts.{kind_of}
use Rattle.tn_base.specs.Shape.{WithinLimits}
use Rattle.tn_keys.specs.declared.record.RouteRec.{RouteRec}
use Rattle.tn_keys.specs.Copies.{Copy}
use Rattle.tn_keys.specs.Key.{key_count, key_first}
use Rattle.tn_keys.specs.Reach.{Reach, reach, reach_by, walk}
use Rattle.tn_keys.specs.Tables.{HasBoard, Table, is_bad_key, joined}
use Rattle.tn_router.specs.declared.work.Work.{Work}
use Rattle.tn_router.specs.Left.{board_on, copies_left, copies_out}
use Rattle.tn_router.specs.Rest.{beats_from, rest_by}
use Rattle.tn_router.specs.RouterView.{RouterView}
use Rattle.tn_rows.specs.PartView.{PartView, TileV, RouterV, LinkV, HostV, DetectorV, AbsentV, router_of}
use Rattle.tn_rows.specs.WorldView.{WorldView}
use Rattle.tn_letters.specs.declared.place.Place.{Place}
use Rattle.tn_letters.specs.declared.place.Place.TheVariants as place
use Rattle.tn_letters.specs.Letters.{letter_for, letters_from, letters_to, link_board}
use Rattle.tn_letters.specs.Standing.{copied, crossing_at, leaving_by, part_standing, router_standing, works_from}
use Rattle.tn_letters.specs.Tiles.{reach_of, tables_of}
use Rattle.tn_letters.proofs.PartKinds.{RouterPart, router_part_is}
use Rattle.tn_letters.proofs.Starts.{board_there}

-- the board of a router that is a part
pub router_board : (n : ShapeNumbers) (p : ℕ) (b : Board) → kind_of n p ≡ kind.Router b → WithinLimits n → (b.x < 4) × (b.y < 4)
router_board n p b e limits =
    let t : RouterPart n p b = router_part_is n p b e in
    let there : HasBoard n b = subst (HasBoard n) t.is (board_there n t.i limits t.below) in
    let x = there.0 in
    let y = there.1 in
    let few_x = limits.boards_x.1 in
    let few_y = limits.boards_y.1 in
    (omega arith, omega arith)

-- the records of a key from one on
pub found_rest : (t : Table) (w : Work) (key first count : ℕ) (xs : List RouteRec) → first ≡ key_first key → count ≡ key_count key → (count ≡ 0 → ⊥) → first ≤ w.beat → first + count ≤ length t → xs ≡ joined (drop w.beat (take (first + count) t)) → drop (min w.at (length xs)) xs ≡ rest_by t w key
found_rest t w key first count xs f c some from h is =
    let end : first + count ≡ key_first key + key_count key = omega arith in
    let known : (key_count key ≡ 0 → ⊥) = λ z. some (c ∙ z) in
    let good : is_bad_key (length t) key ≡ false = ap (λ b. b || ltb (length t) (key_first key + key_count key)) (ne_eqb (key_count key) 0 known) ∙ le-ltb (length t) (key_first key + key_count key) (omega arith) in
    let behind : ltb w.beat (key_first key) ≡ false = le-ltb w.beat (key_first key) (omega arith) in
    let all : List RouteRec = drop w.at (joined (beats_from t key w.beat)) in
    drop_min w.at xs
    ∙ (ap (drop w.at) (is ∙ ap (λ k. joined (drop w.beat (take k t))) end)
    ∙ sym (ap (λ b. cond (b || ltb w.beat (key_first key)) [] all) good ∙ ap (λ b. cond b [] all) behind))

-- a slice behind nothing, from a place to the end
pub sliced : (none xs ys rest : List RouteRec) (m at : ℕ) → none ≡ [] → ys ≡ xs → m ≡ min at (length xs) → drop (min at (length xs)) xs ≡ rest → none ++ take (length ys - m) (drop m ys) ≡ rest
sliced none xs ys rest m at e y k is =
    let tail : List RouteRec = drop m ys in
    let long : length tail ≡ length ys - m = length-drop m ys in
    ap (λ zs. zs ++ take (length ys - m) tail) e
    ∙ (take_all (length ys - m) tail (omega arith) ∙ (ap (drop m) y ∙ (ap (λ i. drop i xs) k ∙ is)))

-- the letters of the copies that a key leads to
pub walked : (f : Copy → Letter) (w : WorldView) (n m : ShapeNumbers) (b at : Board) (t : Table) (work : Work) (key : ℕ) (rs : List RouteRec) → work.packet.dest ≡ dest.Key key → m ≡ n → at ≡ b → rs ≡ rest_by t work key →
    map f (walk (reach_by 65 w.shape (tables_of w) work.packet.bytes) m at work.packet.bytes rs) ≡ map f (copies_left (reach_of w) n b t work)
unfolding reach
walked f w n m b at t work key rs d s same is = rw (d, s, same, is) refl

pub led_on : (f : Copy → Letter) (w : WorldView) (n : ShapeNumbers) (b next : Board) (way : Port) (p : Packet) (key : ℕ) → p.dest ≡ dest.Key key → board_on n b way ≡ Some next →
    map f (reach_by 65 w.shape (tables_of w) p.bytes next key) ≡ map f (copies_out (reach_of w) n b way p)
unfolding reach
led_on f w n b next way p key d s = rw (d, s) refl

pub led_off : (f : Copy → Letter) (w : WorldView) (n : ShapeNumbers) (b : Board) (way : Port) (p : Packet) (key : ℕ) → p.dest ≡ dest.Key key → board_on n b way ≡ None → [] ≡ map f (copies_out (reach_of w) n b way p)
led_off f w n b way p key d s = rw (d, s) refl

-- letters at a place
pub copied_at : (at : Place) (p : Packet) (copies : List Copy) → map (λ l. (at, l)) (map (letter_for p.origin p.number) copies) ≡ copied at p copies
copied_at at p [] = refl
copied_at at p (c ∷ cs) = ap (λ (xs : List (Place × Letter)). (at, letter_for p.origin p.number c) ∷ xs) (copied_at at p cs)

-- letters behind none
pub from_none : (now before xs ys : List Letter) → before ≡ [] → now ≡ before ++ xs → xs ≡ ys → now ≡ ys
from_none now before xs ys e is same = is ∙ (ap (λ zs. zs ++ xs) e ∙ same)

pub leaving_letters : (on : Reach) (p : ℕ) (v : RouterView) (way : Port) (k : Packet) (o : Option Packet) (ls : List Letter) → o ≡ Some k → ls ≡ map (letter_for k.origin k.number) (copies_out on v.plan.shape v.plan.board way k) →
    map (λ l. (place.Transit (record { 0 = p }) way, l)) ls ≡ leaving_by on p v way o
leaving_letters on p v way k o ls e is =
    ap (map (λ l. (place.Transit (record { 0 = p }) way, l))) is
    ∙ (copied_at (place.Transit (record { 0 = p }) way) k (copies_out on v.plan.shape v.plan.board way k) ∙ ap (leaving_by on p v way) (sym e))

pub work_letters : (on : Reach) (p : ℕ) (v : RouterView) (side : Port) (w : Work) (o : Option Work) (ls : List Letter) → o ≡ Some w → ls ≡ map (letter_for w.packet.origin w.packet.number) (copies_left on v.plan.shape v.plan.board v.plan.beats w) →
    map (λ l. (place.InProcess (record { 0 = p }) side, l)) ls ≡ works_from on p v side o
work_letters on p v side w o ls e is =
    ap (map (λ l. (place.InProcess (record { 0 = p }) side, l))) is
    ∙ (copied_at (place.InProcess (record { 0 = p }) side) w.packet (copies_left on v.plan.shape v.plan.board v.plan.beats w) ∙ ap (works_from on p v side) (sym e))

pub crossing_letters : (n m : ShapeNumbers) (on : Reach) (p i : ℕ) (k : Packet) (o : Option Packet) (b : Board) (ls : List Letter) → m ≡ n → o ≡ Some k → has_packet m k ≡ true → b ≡ link_board m p →
    ls ≡ letters_from b m on k.origin k.number k.dest k.bytes → map (λ l. (place.OnLink (record { 0 = p }) i, l)) ls ≡ crossing_at n on p i o
crossing_letters n m on p i k o b ls s e fits at is =
    let all : List Letter = letters_from (link_board m p) m on k.origin k.number k.dest k.bytes in
    let here : ls ≡ letters_to (link_board m p) m on k = is ∙ (ap (λ x. letters_from x m on k.origin k.number k.dest k.bytes) at ∙ sym (ap (λ h. cond h all []) fits)) in
    ap (map (λ l. (place.OnLink (record { 0 = p }) i, l))) here
    ∙ (ap (λ x. crossing_at x on p i (Some k)) s ∙ ap (crossing_at n on p i) (sym e))

-- the letters of a part that is a router
pub router_letters : (n : ShapeNumbers) (on : Reach) (p : ℕ) (part : PartView) (v : RouterView) → Some v ≡ router_of part → router_standing on p v ≡ part_standing n on p part
router_letters n on p (TileV t) v e = cc e
router_letters n on p (RouterV r) v e = ap (λ (o : Option RouterView). router_standing on p (unwrap_or o v)) e
router_letters n on p (LinkV l) v e = cc e
router_letters n on p (HostV h) v e = cc e
router_letters n on p (DetectorV d) v e = cc e
router_letters n on p AbsentV v e = cc e
