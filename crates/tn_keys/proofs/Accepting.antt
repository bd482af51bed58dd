-- Accepted tables have no long chains and no wide beats.
use Rattle.std.proofs.Common.{ℕ, zero, suc, ◌≡◌, ◌≤◌, ◌<◌, ◌+◌, ◌*◌, ◌/◌, ◌%◌, Bool, true, false, ltb, List, [], ◌∷◌, drop, get_or, length, refl, ap, sym, ◌∙◌, arith}
use Rattle.std.specs.List.{list_any, sum_by}
use Rattle.std.specs.declared.option.Option.{Option}
use Rattle.std.specs.declared.option.Option.TheVariants.{None}
use Rattle.std.proofs.lemmas.Bool.{ltb-false, or_parts}
use Rattle.std.proofs.lemmas.List.Sums.{sum_by-cons, sum_by-take-drop, sum_by-take-le}
use Rattle.std.proofs.lemmas.Nat.{div-mul-add, mod-mul-add, mul-add-lt}
use Rattle.tn_base.specs.declared.ids.Board.{Board}
use Rattle.tn_base.specs.declared.shape.ShapeNumbers.{ShapeNumbers}
use Rattle.tn_base.specs.Parts.{board_at, board_count}
use Rattle.tn_keys.specs.declared.fault.TableFault.{TableFault}
use Rattle.tn_keys.specs.declared.record.RouteRec.{RouteRec}
use Rattle.tn_keys.specs.Accepted.{Accepted, bad_range, bad_thread, board_fault, chains, empty_mask, loops, off_machine, too_wide, unless, weight}
use Rattle.tn_keys.specs.Reach.{reach, reach_by, walk}
use Rattle.tn_keys.specs.Tables.{HasBoard, Table, beats_in, board_place, joined, records_of, table_of}
use Rattle.tn_keys.proofs.Reaching.{reach_more, reach_walk, records_le, sum_joined, walk_up}
use Rattle.tn_keys.proofs.Widths.{width}

pub board_back : (n : ShapeNumbers) (b : Board) → HasBoard n b → board_at n (board_place n b) ≡ b
board_back n b h =
    let x : (b.y * n.boards_x + b.x) % n.boards_x ≡ b.x = mod-mul-add b.y n.boards_x b.x h.0 in
    let y : (b.y * n.boards_x + b.x) / n.boards_x ≡ b.y = div-mul-add b.y n.boards_x b.x h.0 in
    both b _ _ x y where
      both : (b : Board) (x y : ℕ) → x ≡ b.x → y ≡ b.y → record { x = x; y = y } ≡ b
      both b x y p q = ap (λ z. made z y) p ∙ ap (made b.x) q where
        made : ℕ → ℕ → Board
        made x y = record { x = x; y = y }

pub place_below : (n : ShapeNumbers) (b : Board) → HasBoard n b → board_place n b < board_count n
place_below n b h = mul-add-lt b.y n.boards_x b.x n.boards_y h.1 h.0

unless_none : (there : Bool) (f : TableFault) (others : Option TableFault) → unless there f others ≡ None → (there ≡ false) × (others ≡ None)
unless_none true f others h = absurd (cc)
unless_none false f others h = (refl, h)

-- what a board without a fault tells
pub record Faultless (n : ShapeNumbers) (ts : List Table) (b : Board) : Type 0 where
  pub on : list_any (off_machine n b) (joined (table_of n ts b)) ≡ false
  pub threads : list_any (bad_thread n) (joined (table_of n ts b)) ≡ false
  pub masks : list_any empty_mask (joined (table_of n ts b)) ≡ false
  pub ranges : list_any (bad_range n ts b) (joined (table_of n ts b)) ≡ false
  pub short : list_any (loops n ts b) (joined (table_of n ts b)) ≡ false
  pub narrow : list_any (too_wide n ts b) (table_of n ts b) ≡ false

pub faultless : (n : ShapeNumbers) (ts : List Table) (b : Board) → board_fault n ts b ≡ None → Faultless n ts b
faultless n ts b h =
    let a = unless_none _ _ _ h in
    let c = unless_none _ _ _ a.1 in
    let d = unless_none _ _ _ c.1 in
    let e = unless_none _ _ _ d.1 in
    let f = unless_none _ _ _ e.1 in
    let g = unless_none _ _ _ f.1 in
    record { on = a.0; threads = c.0; masks = d.0; ranges = e.0; short = f.0; narrow = g.0 }

pub accepted_board : (n : ShapeNumbers) (ts : List Table) (b : Board) → Accepted n ts → HasBoard n b → Faultless n ts b
accepted_board n ts b a h = faultless n ts b (ap (board_fault n ts) (sym (board_back n b h)) ∙ a.faultless (board_place n b) (place_below n b h))

none_above : (f : RouteRec → ℕ) (rs : List RouteRec) → list_any (λ r. ltb 0 (f r)) rs ≡ false → sum_by f rs ≡ 0
none_above f [] h = refl
none_above f (r ∷ rs) h =
    let p = or_parts _ _ h in
    let here = ltb-false 0 (f r) p.0 in
    let rest = none_above f rs p.1 in
    let e = sum_by-cons f r rs in omega arith

-- the beats of a key gather at most what the whole table does
part_le : (g : List RouteRec → ℕ) (table : Table) (key : ℕ) → sum_by g (beats_in table key) ≤ sum_by g table
part_le g table key =
    let part = sum_by-take-le g (drop (key / 256) table) (key % 256) in
    let whole = sum_by-take-drop g table (key / 256) in omega arith

pub no_chain : (n : ShapeNumbers) (ts : List Table) (b : Board) → Accepted n ts → HasBoard n b → sum_by (λ beat. sum_by (chains 64 n ts b) beat) (table_of n ts b) ≡ 0
no_chain n ts b a h =
    sym (sum_joined (chains 64 n ts b) (table_of n ts b)) ∙ none_above (chains 64 n ts b) (joined (table_of n ts b)) (accepted_board n ts b a h).short

key_free : (n : ShapeNumbers) (ts : List Table) (b : Board) (key : ℕ) → Accepted n ts → HasBoard n b → sum_by (chains 64 n ts b) (records_of n ts b key) ≡ 0
key_free n ts b key a h =
    let none = no_chain n ts b a h in
    let le = records_le (chains 64 n ts b) (table_of n ts b) key in
    let part = part_le (λ beat. sum_by (chains 64 n ts b) beat) (table_of n ts b) key in omega arith

pub reach_is : (n : ShapeNumbers) (ts : List Table) (b : Board) (key : ℕ) (bytes : List ℕ) → Accepted n ts → HasBoard n b → reach n ts b key bytes ≡ walk (λ c k. reach n ts c k bytes) n b bytes (records_of n ts b key)
unfolding reach
reach_is n ts b key bytes a h = reach_walk 64 n ts bytes b key (key_free n ts b key a h)

pub reach_enough : (n : ShapeNumbers) (ts : List Table) (b : Board) (key : ℕ) (bytes : List ℕ) (keys : ℕ) → Accepted n ts → HasBoard n b → 65 ≤ keys → reach_by keys n ts bytes b key ≡ reach n ts b key bytes
unfolding reach
reach_enough n ts b key bytes zero a h l = absurd (omega arith)
reach_enough n ts b key bytes (suc keys) a h l = reach_more 64 keys n ts bytes b key (omega arith) (key_free n ts b key a h)

-- each beat of accepted tables
beat_le : (g : List RouteRec → ℕ) (table : Table) (i : ℕ) → i < length table → g (get_or table i []) ≤ sum_by g table
beat_le g [] i l = absurd (omega arith)
beat_le g (beat ∷ beats) zero l = let e = sum_by-cons g beat beats in omega arith
beat_le g (beat ∷ beats) (suc i) l = let e = sum_by-cons g beat beats in let rest = beat_le g beats i (omega arith) in omega arith

any_at : (p : List RouteRec → Bool) (table : Table) (i : ℕ) → i < length table → list_any p table ≡ false → p (get_or table i []) ≡ false
any_at p [] i l h = absurd (omega arith)
any_at p (beat ∷ beats) zero l h = (or_parts _ _ h).0
any_at p (beat ∷ beats) (suc i) l h = any_at p beats i (omega arith) (or_parts _ _ h).1

pub beat_narrow : (n : ShapeNumbers) (ts : List Table) (b : Board) (i : ℕ) (bytes : List ℕ) → Accepted n ts → HasBoard n b → i < length (table_of n ts b) → length (walk (λ c k. reach n ts c k bytes) n b bytes (get_or (table_of n ts b) i [])) ≤ 65536
unfolding reach
beat_narrow n ts b i bytes a h l =
    let none = no_chain n ts b a h in
    let le = beat_le (λ beat. sum_by (chains 64 n ts b) beat) (table_of n ts b) i l in
    let free : sum_by (chains 64 n ts b) (get_or (table_of n ts b) i []) ≡ 0 = omega arith in
    let same = walk_up 64 65 n ts bytes b (get_or (table_of n ts b) i []) (omega arith) free in
    let wide = width 64 n ts bytes b (get_or (table_of n ts b) i []) in
    let narrow = ltb-false 65536 (sum_by (weight 64 n ts b) (get_or (table_of n ts b) i [])) (any_at (too_wide n ts b) (table_of n ts b) i l (accepted_board n ts b a h).narrow) in
    let long = ap length same in
    omega arith
