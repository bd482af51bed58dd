-- Tables that are too long, and those that are not.
use Rattle.std.proofs.Common.{◌≡◌, ◌<◌, ◌≤◌, ℕ, suc, zero, Bool, true, false, ltb, ◌||◌, List, [], ◌∷◌, ◌++◌, length, get_or, set, refl, sym, ◌∙◌, ap, arith, Option, Result, Ok, Err, IfOk, length-set, length-append, subst}
use Rattle.std.specs.Result.{IsErrAnd}
use Rattle.std.proofs.lemmas.Bool.{le-ltb, lt-ltb, ltb-false, ltb-true, or_parts}
use Rattle.std.proofs.lemmas.List.{get_or_default}
use Rattle.tn_base.specs.declared.ids.Board.{Board}
use Rattle.tn_base.specs.declared.shape.ShapeNumbers.{ShapeNumbers}
use Rattle.tn_keys.specs.declared.record.RouteRec.{RouteRec}
use Rattle.tn_keys.specs.Tables.{Table, board_place, table_at, table_of}
use Rattle.polite_routes.specs.declared.target.RouteStop.{RouteStop}
use Rattle.polite_routes.specs.declared.target.RouteStop.TheVariants.{KeysFull, Memory, TableFull}
use Rattle.polite_routes.specs.Full.{Gives, GivesTable, is_full}
use Rattle.polite_routes.specs.Pack.{key_for, key_in, pack, with_records}

pub join_false : (a b : Bool) → a ≡ false → b ≡ false → (a || b) ≡ false
join_false a b p q = rw (p, q) refl

pub or_true : (a b : Bool) → b ≡ true → (a || b) ≡ true
or_true true b h = refl
or_true false b h = h

or_step : (a b c : Bool) → (a || b) ≡ true → (b ≡ true → c ≡ true) → (a || c) ≡ true
or_step true b c h f = refl
or_step false b c h f = f h

pub full_at : (ts : List Table) (i : ℕ) → is_full ts ≡ false → length (table_at ts i) ≤ 65536
full_at [] i h = omega arith
full_at (t ∷ ts) zero h = ltb-false 65536 (length t) (or_parts _ _ h).0
full_at (t ∷ ts) (suc i) h = full_at ts i (or_parts _ _ h).1

pub full_set : (ts : List Table) (p : ℕ) (t : Table) → length t ≤ 65536 → is_full ts ≡ false → is_full (set ts p t) ≡ false
full_set [] p t l h = h
full_set (x ∷ ts) zero t l h = join_false (ltb 65536 (length t)) (is_full ts) (le-ltb 65536 (length t) l) (or_parts _ _ h).1
full_set (x ∷ ts) (suc p) t l h = join_false (ltb 65536 (length x)) (is_full (set ts p t)) (or_parts _ _ h).0 (full_set ts p t l (or_parts _ _ h).1)

pub full_put : (ts : List Table) (p : ℕ) (t : Table) → p < length ts → 65536 < length t → is_full (set ts p t) ≡ true
full_put [] p t h l = absurd (omega arith)
full_put (x ∷ ts) zero t h l = ap (λ b. b || is_full ts) (lt-ltb 65536 (length t) l)
full_put (x ∷ ts) (suc p) t h l = or_true (ltb 65536 (length x)) (is_full (set ts p t)) (full_put ts p t (omega arith) l)

-- a board of which one table is
pub gives : (n : ShapeNumbers) (b : Board) (rs : List RouteRec) (ts inside : List Table) (p : ℕ) (old new : Table) (r : Result (Option ℕ) RouteStop) → inside ≡ ts → p ≡ board_place n b → p < length ts → old ≡ table_at ts p → is_full ts ≡ false
    → GivesTable r new (old ++ pack rs) (key_in old rs) → Gives r (set inside p new) (with_records n b rs ts) (key_for n b rs ts)
unfolding with_records key_for
gives n b rs ts inside p old new (Ok k) e i h o f g =
    let j : old ≡ table_of n ts b = o ∙ ap (table_at ts) i in
    let w : set inside p new ≡ set ts (board_place n b) (table_of n ts b ++ pack rs) = rw (e, i, g.1, j) refl in
    let s : is_full (set ts p (old ++ pack rs)) ≡ false = full_set ts p (old ++ pack rs) g.2 f in
    (g.0 ∙ ap (λ t. key_in t rs) j, w, ap (λ q. is_full (set ts q (table_of n ts b ++ pack rs))) (sym i) ∙ ap (λ t. is_full (set ts p (t ++ pack rs))) (sym j) ∙ s)
gives n b rs ts inside p old new (Err TableFull) e i h o f g =
    let j : old ≡ table_of n ts b = o ∙ ap (table_at ts) i in
    ap (λ q. is_full (set ts q (table_of n ts b ++ pack rs))) (sym i) ∙ ap (λ t. is_full (set ts p (t ++ pack rs))) (sym j) ∙ full_put ts p (old ++ pack rs) h g
gives n b rs ts inside p old new (Err KeysFull) e i h o f g = absurd g
gives n b rs ts inside p old new (Err Memory) e i h o f g = tt

pub table_now : (ts inside : List Table) (p : ℕ) (old : Table) → inside ≡ ts → p < length ts → old ≡ get_or inside p old → old ≡ table_at ts p
table_now ts inside p old e h is = is ∙ ap (λ xs. get_or xs p old) e ∙ get_or_default ts p old [] h

pub kept_count : (ts inside : List Table) (p : ℕ) (new : Table) (r : Result (Option ℕ) RouteStop) → inside ≡ ts → IfOk r (λ _. length (set inside p new) ≡ length ts)
kept_count ts inside p new (Ok k) e = length-set inside p new ∙ ap length e
kept_count ts inside p new (Err e2) e = tt

grown : (ts : List Table) (p : ℕ) (more : Table) → is_full ts ≡ true → is_full (set ts p (table_at ts p ++ more)) ≡ true
grown [] p more h = h
grown (t ∷ ts) zero more h = here (ltb 65536 (length t)) refl h where
  here : (b : Bool) → b ≡ ltb 65536 (length t) → (b || is_full ts) ≡ true → (ltb 65536 (length (t ++ more)) || is_full ts) ≡ true
  here true e h = let a = ltb-true 65536 (length t) (sym e) in let l = length-append t more in ap (λ b. b || is_full ts) (lt-ltb 65536 (length (t ++ more)) (omega arith))
  here false e h = or_true (ltb 65536 (length (t ++ more))) (is_full ts) h
grown (t ∷ ts) (suc p) more h = or_step (ltb 65536 (length t)) (is_full ts) (is_full (set ts p (table_at ts p ++ more))) h (grown ts p more)

-- giving out beats keeps a table that is too long
pub full_grows : (n : ShapeNumbers) (b : Board) (rs : List RouteRec) (ts : List Table) → is_full ts ≡ true → is_full (with_records n b rs ts) ≡ true
unfolding with_records
full_grows n b rs ts h = grown ts (board_place n b) (pack rs) h

-- a stop in a part is one of the whole
pub stops : (e : RouteStop) (x y ts us : List Table) (k l : Option ℕ) → (is_full ts ≡ true → is_full us ≡ true) → Gives (Err e) x ts k → Gives (Err e) y us l
stops TableFull x y ts us k l f g = f g
stops KeysFull x y ts us k l f g = absurd g
stops Memory x y ts us k l f g = tt

pub stopped : (r : Result (Option ℕ) RouteStop) (e : RouteStop) (x y ts us : List Table) (k l : Option ℕ) → IsErrAnd r (λ z. z ≡ e) → Gives (Err e) x ts k → (is_full ts ≡ true → is_full us ≡ true) → Gives r y us l
stopped (Err z) e x y ts us k l i g f = subst (λ (w : RouteStop). Gives (Err w) y us l) (sym i) (stops e x y ts us k l f g)
stopped (Ok z) e x y ts us k l i g f = absurd i

pub stopped_count : (r : Result (Option ℕ) RouteStop) (e : RouteStop) (x ts : List Table) → IsErrAnd r (λ z. z ≡ e) → IfOk r (λ _. length x ≡ length ts)
stopped_count (Err z) e x ts i = tt
stopped_count (Ok z) e x ts i = absurd i

-- tables that are not full: each is short
pub short_at : (ts us : List Table) → us ≡ ts → is_full ts ≡ false → (i : ℕ) → length (table_at us i) ≤ 65536
short_at ts us e h i = subst (λ (xs : List Table). length (table_at xs i) ≤ 65536) (sym e) (full_at ts i h)
