-- The ways that packets take from a router are there.
use Rattle.std.proofs.Common.{ℕ, ◌≡◌, ◌<◌, ◌+◌, ◌/◌, ◌%◌, ◌==◌, true, refl, arith, inl, inr, ltb, is_some}
use Rattle.std.proofs.lemmas.Bool.{and_from, and_parts, cases_Bool, cond_both, eq-eqb, lt-ltb, ltb-false, ltb-true}
use Rattle.tn_base.specs.declared.ids.Board.{Board}
use Rattle.tn_base.specs.declared.message.Dest.{Dest}
use Rattle.tn_base.specs.declared.message.Dest.TheVariants as dest
use Rattle.tn_base.specs.declared.port.Port.{Port}
use Rattle.tn_base.specs.declared.port.Port.TheVariants as port
use Rattle.tn_base.specs.declared.shape.ShapeNumbers.{ShapeNumbers}
use Rattle.tn_base.specs.Address.{names_tile}
use Rattle.tn_base.specs.Message.{has_dest}
use Rattle.tn_base.specs.Ports.{board_x, board_y, router_port, to_board, toward}
use Rattle.tn_keys.specs.Copies.{neighbour}
use Rattle.tn_keys.specs.Tables.{HasBoard}
use Rattle.tn_router.specs.Moves.{way_of}
use Rattle.tn_router.specs.Places.{has_way}

-- the way of an RR is there where the neighbour is
pub way_there : (n : ShapeNumbers) (b : Board) (dir : ℕ) → has_way n b (way_of dir) ≡ is_some (neighbour n dir b)
way_there n b dir = elim (cases_Bool (dir == 0)) [
  | inl e ↦ rw e refl
  | inr e ↦ elim (cases_Bool (dir == 1)) [
    | inl f ↦ rw (e, f) refl
    | inr f ↦ elim (cases_Bool (dir == 2)) [ inl g ↦ rw (e, f, g) refl | inr g ↦ rw (e, f, g) refl ]
  ]
]

-- the way toward a board of the machine is there
toward_there : (n : ShapeNumbers) (b : Board) (x y : ℕ) (last : Port) → HasBoard n b → x < n.boards_x → y < n.boards_y → (b.x ≡ x → b.y ≡ y → has_way n b last ≡ true) → has_way n b (toward b.x b.y x y last) ≡ true
toward_there n b x y last h in_x in_y end =
    cond_both (ltb b.x x) port.East _ (λ w. has_way n b w ≡ true)
    (λ e. let less = ltb-true b.x x e in let there : ltb (b.x + 1) n.boards_x ≡ true = lt-ltb (b.x + 1) n.boards_x (omega arith) in rw there refl)
    (λ e. cond_both (ltb x b.x) port.West _ (λ w. has_way n b w ≡ true)
    (λ f. let less = ltb-true x b.x f in let there : ltb 0 b.x ≡ true = lt-ltb 0 b.x (omega arith) in rw there refl)
    (λ f. cond_both (ltb b.y y) port.South _ (λ w. has_way n b w ≡ true)
    (λ g. let less = ltb-true b.y y g in let there : ltb (b.y + 1) n.boards_y ≡ true = lt-ltb (b.y + 1) n.boards_y (omega arith) in rw there refl)
    (λ g. cond_both (ltb y b.y) port.North last (λ w. has_way n b w ≡ true)
    (λ k. let less = ltb-true y b.y k in let there : ltb 0 b.y ≡ true = lt-ltb 0 b.y (omega arith) in rw there refl)
    (λ k.
    let a = ltb-false b.x x e in let c = ltb-false x b.x f in
    let d = ltb-false b.y y g in let q = ltb-false y b.y k in
    end (omega arith) (omega arith)))))

board_of : (n : ShapeNumbers) (a : ℕ) → names_tile n a ≡ true → (board_x a < n.boards_x) × (board_y a < n.boards_y)
board_of n a h =
    let p = and_parts _ (ltb (a / 4096 % 4) n.boards_y) h in
    let q = and_parts _ (ltb (a / 1024 % 4) n.boards_x) p.0 in
    (ltb-true (a / 1024 % 4) n.boards_x q.1, ltb-true (a / 4096 % 4) n.boards_y p.1)

named_there : (n : ShapeNumbers) (b : Board) (a : ℕ) → HasBoard n b → names_tile n a ≡ true → has_way n b (to_board b a) ≡ true
named_there n b a h named = let at = board_of n a named in toward_there n b (board_x a) (board_y a) port.Down h at.0 at.1 (λ _ _. refl)

-- the way of a packet without a key is there
pub port_there : (n : ShapeNumbers) (b : Board) (d : Dest) → HasBoard n b → has_dest n d ≡ true → has_way n b (router_port b d) ≡ true
port_there n b (dest.Thread t) h fits = named_there n b t.0 h (and_parts _ _ (and_parts _ _ fits).0).0
port_there n b dest.Host h fits =
    let x = h.0 in let y = h.1 in
    toward_there n b 0 0 port.HostPort h (omega arith) (omega arith) (λ e f. and_from (b.x == 0) (b.y == 0) (eq-eqb b.x 0 e) (eq-eqb b.y 0 f))
port_there n b (dest.Mask tile mask) h fits = named_there n b tile.0 h (and_parts _ _ (and_parts _ _ (and_parts _ _ fits).0).0).0
port_there n b (dest.Key key) h fits = refl
