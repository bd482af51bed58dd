-- A round leads from the marks over m records to those over one more.
use Rattle.std.proofs.Common.{ℕ, zero, suc, ◌≡◌, ◌≤◌, ◌+◌, ◌-◌, ◌/◌, ◌%◌, sum, List, [], ◌∷◌, drop, take, map, get_or, length, refl, ap, sym, ◌∙◌, arith, subst}
use Rattle.std.specs.List.{sum_by}
use Rattle.std.specs.Option.{IfSome}
use Rattle.std.specs.declared.option.Option.{Option}
use Rattle.std.specs.declared.option.Option.TheVariants.{Some, None}
use Rattle.std.proofs.lemmas.List.{drop-map, take-map}
use Rattle.std.proofs.lemmas.List.Sums.{sum-map, sum_by-cons}
use Rattle.tn_base.specs.declared.ids.Board.{Board}
use Rattle.tn_base.specs.declared.shape.ShapeNumbers.{ShapeNumbers}
use Rattle.tn_base.specs.Parts.{board_at, board_count}
use Rattle.tn_keys.specs.declared.onward.Onward.{Onward}
use Rattle.tn_keys.specs.declared.record.RouteRec.{RouteRec}
use Rattle.tn_keys.specs.Accepted.{beyond, gathered}
use Rattle.tn_keys.specs.Copies.{onward}
use Rattle.tn_keys.specs.Tables.{HasBoard, Table, beats_in, board_place, table_at, table_of}
use Rattle.tn_reach.specs.declared.measure.Measure.{Measure}
use Rattle.tn_reach.specs.Marks.{First, Marked, Next, capped, first_mark, last_of, mark, marks_beyond, next_mark, own_of}
use Rattle.tn_keys.proofs.Accepting.{board_back, place_below}
use Rattle.tn_keys.proofs.Reaching.{gathered-suc, gathered-zero}
use Rattle.tn_reach.proofs.Boards.{has_board_at, onward_has}

map_same : {A B : Type 0} (f g : A → B) (xs : List A) → ((x : A) → f x ≡ g x) → map f xs ≡ map g xs
map_same f g [] e = refl
map_same f g (x ∷ xs) e = ap (λ y. y ∷ map f xs) (e x) ∙ ap (λ ys. g x ∷ ys) (map_same f g xs e)

-- numbers that are the same once they are capped have such sums
cap_add : (x y u v : ℕ) → capped x ≡ capped y → capped u ≡ capped v → capped (x + u) ≡ capped (y + v)
cap_add x y u v p q = omega arith

cap_sum : {A : Type 0} (f g : A → ℕ) (xs : List A) → ((x : A) → capped (f x) ≡ capped (g x)) → capped (sum_by f xs) ≡ capped (sum_by g xs)
cap_sum f g [] e = refl
cap_sum f g (x ∷ xs) e =
    ap capped (sum_by-cons f x xs) ∙ cap_add (f x) (g x) (sum_by f xs) (sum_by g xs) (e x) (cap_sum f g xs e) ∙ ap capped (sym (sum_by-cons g x xs))

cap_cap : (v : ℕ) → capped (capped v) ≡ capped v
cap_cap v = omega arith

-- the sum of a key's marks is that of the marks of its beats
marks_sum : (g : List RouteRec → ℕ) (table : Table) (key : ℕ) → sum (take (key % 256) (drop (key / 256) (map g table))) ≡ sum_by g (beats_in table key)
marks_sum g table key =
    ap (λ xs. sum (take (key % 256) xs)) (drop-map g (key / 256) table) ∙ ap sum (take-map g (key % 256) (drop (key / 256) table)) ∙ sum-map g (take (key % 256) (drop (key / 256) table))

beyond_is : (e : Measure) (m : ℕ) (n : ShapeNumbers) (ts : List Table) (ms : List (List ℕ)) (o : Option Onward) → length ts ≡ board_count n → Marked e m n ts ms → IfSome o (λ p. HasBoard n p.board)
    → capped (marks_beyond n ms o) ≡ capped (beyond n ts (gathered (last_of e) (own_of e) m n ts) o)
beyond_is e m n ts ms None c k h = refl
beyond_is e m n ts ms (Some o) c k h =
    let below = place_below n o.board h in
    let here : get_or ms (board_place n o.board) [] ≡ map (mark e m n ts o.board) (table_of n ts o.board) =
    k.each (board_place n o.board) (omega arith) ∙ ap (λ b. map (mark e m n ts b) (table_of n ts o.board)) (board_back n o.board h) in
    ap (λ xs. capped (sum (take (o.key % 256) (drop (o.key / 256) xs)))) here ∙ ap capped (marks_sum (mark e m n ts o.board) (table_of n ts o.board) o.key)
    ∙ cap_sum (mark e m n ts o.board) (λ beat. sum_by (gathered (last_of e) (own_of e) m n ts o.board) beat) (beats_in (table_of n ts o.board) o.key) (λ beat. cap_cap (sum_by (gathered (last_of e) (own_of e) m n ts o.board) beat))

next_is : (e : Measure) (m : ℕ) (n : ShapeNumbers) (ts : List Table) (ms : List (List ℕ)) (b : Board) (beat : List RouteRec) → length ts ≡ board_count n → Marked e m n ts ms → HasBoard n b → next_mark e n ms b beat ≡ mark e (suc m) n ts b beat
next_is e m n ts ms b beat c k h =
    cap_sum (λ r. own_of e r + marks_beyond n ms (onward n b r)) (gathered (last_of e) (own_of e) (suc m) n ts b) beat
    (λ r. cap_add (own_of e r) (own_of e r) (marks_beyond n ms (onward n b r)) (beyond n ts (gathered (last_of e) (own_of e) m n ts) (onward n b r)) refl (beyond_is e m n ts ms (onward n b r) c k (onward_has n b r h))
    ∙ ap capped (sym (gathered-suc (last_of e) (own_of e) m n ts b r)))

pub marked_first : (e : Measure) (n : ShapeNumbers) (ts : List Table) (ms : List (List ℕ)) → First e ts ms → Marked e 0 n ts ms
marked_first e n ts ms f = record {
  count = f.count;
  each = λ i l. f.each i l ∙ map_same (first_mark e) (mark e 0 n ts (board_at n i)) (table_at ts i)
      (λ beat. cap_sum (last_of e) (gathered (last_of e) (own_of e) 0 n ts (board_at n i)) beat (λ r. ap capped (sym (gathered-zero (last_of e) (own_of e) n ts (board_at n i) r))));
}

pub marked_next : (e : Measure) (m : ℕ) (n : ShapeNumbers) (ts : List Table) (ms next : List (List ℕ)) → 1 ≤ n.boards_x → length ts ≡ board_count n → Marked e m n ts ms → Next e n ts ms next → Marked e (suc m) n ts next
marked_next e m n ts ms next some c k x = record {
  count = x.count;
  each = λ i l. x.each i l ∙ map_same (next_mark e n ms (board_at n i)) (mark e (suc m) n ts (board_at n i)) (table_at ts i)
      (λ beat. next_is e m n ts ms (board_at n i) beat c k (has_board_at n i some (omega arith)));
}

-- a round that changes nothing is followed by others that do not
stays : (e : Measure) (m k : ℕ) (n : ShapeNumbers) (ts : List Table) (ms : List (List ℕ)) → 1 ≤ n.boards_x → length ts ≡ board_count n → Marked e m n ts ms → Next e n ts ms ms → Marked e (m + k) n ts ms
stays e m zero n ts ms some c q x = let same : m + zero ≡ m = omega arith in rw same q
stays e m (suc k) n ts ms some c q x = let same : m + suc k ≡ suc (m + k) = omega arith in rw same (marked_next e (m + k) n ts ms ms some c (stays e m k n ts ms some c q x) x)

pub marked_last : (e : Measure) (m most : ℕ) (n : ShapeNumbers) (ts : List Table) (ms next : List (List ℕ)) → 1 ≤ n.boards_x → length ts ≡ board_count n → m ≤ most → Marked e m n ts ms → Next e n ts ms next → next ≡ ms → Marked e most n ts next
marked_last e m most n ts ms next some c l q x same =
    let all : m + (most - m) ≡ most = omega arith in
    let fixed : Next e n ts ms ms = subst (Next e n ts ms) same x in
    let stay : Marked e (m + (most - m)) n ts ms = stays e m (most - m) n ts ms some c q fixed in
    subst (Marked e most n ts) (sym same) (rw all at stay)
