-- Boards and their places.
use Rattle.std.proofs.Common.{ℕ, ◌≡◌, ◌≤◌, ◌<◌, ◌+◌, ◌-◌, ◌*◌, Bool, true, false, cond, ltb, eqb, refl, ap, sym, ◌∙◌, arith, subst}
use Rattle.std.specs.declared.option.Option.{Option}
use Rattle.std.specs.declared.option.Option.TheVariants.{Some, None}
use Rattle.std.specs.Option.{IfSome}
use Rattle.std.proofs.lemmas.Bool.{ltb-true}
use Rattle.std.proofs.lemmas.Nat.{div_below, mod_below}
use Rattle.tn_base.specs.declared.ids.Board.{Board}
use Rattle.tn_base.specs.declared.shape.ShapeNumbers.{ShapeNumbers}
use Rattle.tn_base.specs.Parts.{board_at, board_count}
use Rattle.tn_keys.specs.declared.record.RouteRec.{RouteRec}
use Rattle.tn_keys.specs.declared.record.RouteRec.TheVariants.{Urm1, Urm2, Rr, Mrm, Ind}
use Rattle.tn_keys.specs.Copies.{neighbour, onto, onward}
use Rattle.tn_keys.specs.Tables.{HasBoard}

pub has_board_at : (n : ShapeNumbers) (i : ℕ) → 1 ≤ n.boards_x → i < board_count n → HasBoard n (board_at n i)
has_board_at n i some l = (mod_below i n.boards_x some, div_below i n.boards_x n.boards_y some (turned n.boards_x n.boards_y i l)) where
  turned : (a b i : ℕ) → i < a * b → i < b * a
  turned a b i l = grind arith

neighbour_has : (n : ShapeNumbers) (dir : ℕ) (b c : Board) → HasBoard n b → neighbour n dir b ≡ Some c → HasBoard n c
neighbour_has n dir b c h e = by (eqb dir 0) (eqb dir 1) (eqb dir 2) (ltb (b.x + 1) n.boards_x) (ltb 0 b.x) (ltb (b.y + 1) n.boards_y) (ltb 0 b.y) refl refl refl refl e where
  if_some : (v : Bool) (d : Board) → (v ≡ true → HasBoard n d) → cond v (Some d) None ≡ Some c → HasBoard n c
  if_some true d k q = let same : d ≡ c = cc in subst (HasBoard n) same (k refl)
  if_some false d k q = absurd (cc)

  by : (p q r s t u v : Bool) → s ≡ ltb (b.x + 1) n.boards_x → t ≡ ltb 0 b.x → u ≡ ltb (b.y + 1) n.boards_y → v ≡ ltb 0 b.y
      → cond p (cond s (Some (record { x = b.x + 1; y = b.y })) None) (cond q (cond t (Some (record { x = b.x - 1; y = b.y })) None) (cond r (cond u (Some (record { x = b.x; y = b.y + 1 })) None) (cond v (Some (record { x = b.x; y = b.y - 1 })) None))) ≡ Some c → HasBoard n c
  by true q r s t u v es et eu ev g = if_some s (record { x = b.x + 1; y = b.y }) (λ y. (ltb-true _ _ (sym es ∙ y), h.1)) g
  by false true r s t u v es et eu ev g = if_some t (record { x = b.x - 1; y = b.y }) (λ y. (let hx = h.0 in omega arith, h.1)) g
  by false false true s t u v es et eu ev g = if_some u (record { x = b.x; y = b.y + 1 }) (λ y. (h.0, ltb-true _ _ (sym eu ∙ y))) g
  by false false false s t u v es et eu ev g = if_some v (record { x = b.x; y = b.y - 1 }) (λ y. (h.0, let hy = h.1 in omega arith)) g

-- where a record leads is a board of the machine
pub onward_has : (n : ShapeNumbers) (b : Board) (r : RouteRec) → HasBoard n b → IfSome (onward n b r) (λ o. HasBoard n o.board)
onward_has n b (Urm1 tile thread key) h = tt
onward_has n b (Urm2 tile thread key) h = tt
onward_has n b (Rr dir key) h = by (neighbour n dir b) refl where
  by : (c : Option Board) → neighbour n dir b ≡ c → IfSome (onto key c) (λ o. HasBoard n o.board)
  by None e = tt
  by (Some c) e = neighbour_has n dir b c h e
onward_has n b (Mrm tile key mask) h = tt
onward_has n b (Ind key) h = h
