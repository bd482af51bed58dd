-- The tables of trees pass each test but that of width.
use Rattle.std.proofs.Common.{◌≡◌, ◌≢◌, ◌<◌, ℕ, suc, zero, ◌+◌, ◌*◌, ◌/◌, ◌%◌, eqb, Bool, true, false, not, ◌||◌, List, [], ◌∷◌, ◌++◌, length, refl, sym, ◌∙◌, ap, arith, Option, Some, None, subst}
use Rattle.std.proofs.lemmas.Bool.Decides.{nat_tests}
use Rattle.std.proofs.lemmas.Bool.{le-ltb}
use Rattle.std.proofs.lemmas.List.Sums.{sum_by-append, sum_by-cons}
use Rattle.std.proofs.lemmas.Nat.{div-mul-add, mod-mul-add}
use Rattle.std.proofs.Math.Nat.{div-lt_iff_lt-mul, mul_comm}
use Rattle.std.proofs.lemmas.List.{get_or-set_other}
use Rattle.std.specs.Prelude.{is_none}
use Rattle.std.specs.List.{list_any, sum_by}
use Rattle.tn_base.specs.declared.ids.Board.{Board}
use Rattle.tn_base.specs.declared.shape.ShapeNumbers.{ShapeNumbers}
use Rattle.tn_base.specs.Parts.{board_at, board_count}
use Rattle.tn_keys.specs.declared.fault.TableFault.TheVariants as fault
use Rattle.tn_keys.specs.declared.record.RouteRec.{RouteRec}
use Rattle.tn_keys.specs.declared.record.RouteRec.TheVariants.{Urm1, Urm2, Rr, Mrm, Ind}
use Rattle.tn_keys.specs.Accepted.{bad_onward, bad_range, bad_thread, beyond, board_fault, chains, empty_mask, gathered, loops, off_machine, too_wide, unless}
use Rattle.tn_keys.specs.Copies.{neighbour, onto, onward}
use Rattle.tn_keys.specs.Tables.{HasBoard, Table, beats_in, board_place, is_bad_key, joined, records_of, table_of}
use Rattle.polite_routes.specs.Pack.{pack, with_records}
use Rattle.polite_routes.specs.Passes.{IsWidth, PassesButWidth}
use Rattle.polite_routes.specs.Straight.{At, Straight, StraightRecord, StraightRecords}
use Rattle.polite_routes.proofs.Grows.{Grows, grows_with, joined_pack, records_good, table_here}
use Rattle.polite_routes.proofs.Walks.{straight_append, straight_back, straight_front, straight_grows, straight_map}

-- each record of some beats is one of a tree
abbrev pub BeatsStraight : ℕ → ShapeNumbers → List Table → Board → Table → Type 0
BeatsStraight m n ts b [] = Unit {0}
BeatsStraight m n ts b (beat ∷ beats) = StraightRecords (Straight m n ts) n 4 b beat × BeatsStraight m n ts b beats

-- each record of the tables is
pub record AllStraight (m : ℕ) (n : ShapeNumbers) (ts : List Table) : Type 0 where
  pub beats : (b : Board) → HasBoard n b → BeatsStraight m n ts b (table_of n ts b)

beats_grow : (m : ℕ) (n : ShapeNumbers) (ts us : List Table) (b : Board) (beats : Table) → Grows n ts us → BeatsStraight m n ts b beats → BeatsStraight m n us b beats
beats_grow m n ts us b [] g h = tt
beats_grow m n ts us b (beat ∷ beats) g h = (straight_map (Straight m n ts) (Straight m n us) n 4 b beat (λ d c q f. straight_grows m n ts us d c q g f) h.0, beats_grow m n ts us b beats g h.1)

beats_append : (m : ℕ) (n : ShapeNumbers) (ts : List Table) (b : Board) (xs ys : Table) → BeatsStraight m n ts b xs → BeatsStraight m n ts b ys → BeatsStraight m n ts b (xs ++ ys)
beats_append m n ts b [] ys g h = h
beats_append m n ts b (x ∷ xs) ys g h = (g.0, beats_append m n ts b xs ys g.1 h)

beats_from : (m : ℕ) (n : ShapeNumbers) (ts : List Table) (b : Board) (beats : Table) → StraightRecords (Straight m n ts) n 4 b (joined beats) → BeatsStraight m n ts b beats
beats_from m n ts b [] h = tt
beats_from m n ts b (beat ∷ beats) h = (straight_front (Straight m n ts) n 4 b beat (joined beats) h, beats_from m n ts b beats (straight_back (Straight m n ts) n 4 b beat (joined beats) h))

made : ℕ → ℕ → Board
made x y = record { x = x; y = y }

-- a place is that of one board
pub same_board : (n : ShapeNumbers) (b c : Board) → HasBoard n b → HasBoard n c → board_place n c ≡ board_place n b → c ≡ b
unfolding made
same_board n b c h k e =
    let x : c.x ≡ b.x = sym (mod-mul-add c.y n.boards_x c.x k.0) ∙ ap (λ p. p % n.boards_x) e ∙ mod-mul-add b.y n.boards_x b.x h.0 in
    let y : c.y ≡ b.y = sym (div-mul-add c.y n.boards_x c.x k.0) ∙ ap (λ p. p / n.boards_x) e ∙ div-mul-add b.y n.boards_x b.x h.0 in
    ap (λ z. made z c.y) x ∙ ap (made b.x) y

other_table : (n : ShapeNumbers) (b c : Board) (rs : List RouteRec) (ts : List Table) → board_place n c ≢ board_place n b → table_of n (with_records n b rs ts) c ≡ table_of n ts c
unfolding with_records
other_table n b c rs ts h = get_or-set_other ts (board_place n b) (board_place n c) (table_of n ts b ++ pack rs) [] h

straight_by : (m : ℕ) (n : ShapeNumbers) (b c : Board) (rs : List RouteRec) (ts : List Table) (v : Bool) → v ≡ eqb (board_place n c) (board_place n b) → board_place n b < length ts → HasBoard n b → HasBoard n c → AllStraight m n ts
    → StraightRecords (Straight m n ts) n 4 b rs → BeatsStraight m n (with_records n b rs ts) c (table_of n (with_records n b rs ts) c)
straight_by m n b c rs ts true e p h k a s =
    let us : List Table = with_records n b rs ts in
    let i : board_place n c ≡ board_place n b = grind (arith, nat_tests) in
    let same : c ≡ b = same_board n b c h k i in
    let g = grows_with n b rs ts p in
    let new : BeatsStraight m n us b (pack rs) = beats_from m n us b (pack rs) (subst (λ (xs : List RouteRec). StraightRecords (Straight m n us) n 4 b xs) (sym (joined_pack rs)) (straight_map (Straight m n ts) (Straight m n us) n 4 b rs (λ d q j f. straight_grows m n ts us d q j g f) s)) in
    let all : BeatsStraight m n us b (table_of n ts b ++ pack rs) = beats_append m n us b (table_of n ts b) (pack rs) (beats_grow m n ts us b (table_of n ts b) g (a.beats b h)) new in
    subst (λ (q : Board). BeatsStraight m n us q (table_of n us q)) (sym same) (subst (λ (t : Table). BeatsStraight m n us b t) (sym (table_here n b rs ts p)) all)
straight_by m n b c rs ts false e p h k a s =
    let i : board_place n c ≢ board_place n b = grind (arith, nat_tests) in
    subst (λ (t : Table). BeatsStraight m n (with_records n b rs ts) c t) (sym (other_table n b c rs ts i)) (beats_grow m n ts (with_records n b rs ts) c (table_of n ts c) (grows_with n b rs ts p) (a.beats c k))

pub all_with : (m : ℕ) (n : ShapeNumbers) (b : Board) (rs : List RouteRec) (ts : List Table) → board_place n b < length ts → HasBoard n b → AllStraight m n ts → StraightRecords (Straight m n ts) n 4 b rs → AllStraight m n (with_records n b rs ts)
all_with m n b rs ts p h a s = record { beats = λ c k. straight_by m n b c rs ts (eqb (board_place n c) (board_place n b)) refl p h k a s }

-- the tests, record by record
at_some : (P : Board → Type 0) (at : Option Board) → At P at → is_none at ≡ false
at_some P None h = absurd h
at_some P (Some b) h = refl

any_none : (m : ℕ) (n : ShapeNumbers) (ts : List Table) (b : Board) (p : RouteRec → Bool) (rs : List RouteRec) → ((r : RouteRec) → StraightRecord (Straight m n ts) n 4 b r → p r ≡ false) → StraightRecords (Straight m n ts) n 4 b rs → list_any p rs ≡ false
any_none m n ts b p [] f h = refl
any_none m n ts b p (r ∷ rs) f h = ap (λ v. v || list_any p rs) (f r h.0) ∙ any_none m n ts b p rs f h.1

any_joined : (m : ℕ) (n : ShapeNumbers) (ts : List Table) (b : Board) (beats : Table) → BeatsStraight m n ts b beats → StraightRecords (Straight m n ts) n 4 b (joined beats)
any_joined m n ts b [] h = tt
any_joined m n ts b (beat ∷ beats) h = straight_append (Straight m n ts) n 4 b beat (joined beats) h.0 (any_joined m n ts b beats h.1)

on_machine : (P : ℕ → Board → ℕ → Type 0) (n : ShapeNumbers) (b : Board) (r : RouteRec) → StraightRecord P n 4 b r → off_machine n b r ≡ false
on_machine P n b (Urm1 t q k) h = absurd h
on_machine P n b (Urm2 t q k) h = absurd h
on_machine P n b (Rr d k) h = at_some (λ c. P d c k) (neighbour n d b) h.1
on_machine P n b (Mrm t k m) h = ap not h.0
on_machine P n b (Ind k) h = absurd h

good_threads : (P : ℕ → Board → ℕ → Type 0) (n : ShapeNumbers) (b : Board) (r : RouteRec) → StraightRecord P n 4 b r → bad_thread n r ≡ false
good_threads P n b (Urm1 t q k) h = absurd h
good_threads P n b (Urm2 t q k) h = absurd h
good_threads P n b (Rr d k) h = refl
good_threads P n b (Mrm t k m) h = ap not h.1
good_threads P n b (Ind k) h = absurd h

some_mask : (P : ℕ → Board → ℕ → Type 0) (n : ShapeNumbers) (b : Board) (r : RouteRec) → StraightRecord P n 4 b r → empty_mask r ≡ false
some_mask P n b (Urm1 t q k) h = absurd h
some_mask P n b (Urm2 t q k) h = absurd h
some_mask P n b (Rr d k) h = refl
some_mask P n b (Mrm t k m) h = h.2
some_mask P n b (Ind k) h = absurd h

pub straight_good : (m : ℕ) (n : ShapeNumbers) (ts : List Table) (last : ℕ) (b : Board) (key : ℕ) → Straight m n ts last b key → is_bad_key (length (table_of n ts b)) key ≡ false
straight_good zero n ts last b key h = h.0
straight_good (suc m) n ts last b key h = h.0

good_onward : (m : ℕ) (n : ShapeNumbers) (ts : List Table) (d k : ℕ) (at : Option Board) → At (λ c. Straight m n ts d c k) at → bad_onward n ts (onto k at) ≡ false
good_onward m n ts d k None h = absurd h
good_onward m n ts d k (Some c) h = straight_good m n ts d c k h

good_range : (m : ℕ) (n : ShapeNumbers) (ts : List Table) (b : Board) (r : RouteRec) → StraightRecord (Straight m n ts) n 4 b r → bad_range n ts b r ≡ false
good_range m n ts b (Urm1 t q k) h = absurd h
good_range m n ts b (Urm2 t q k) h = absurd h
good_range m n ts b (Rr d k) h = good_onward m n ts d k (neighbour n d b) h.1
good_range m n ts b (Mrm t k j) h = refl
good_range m n ts b (Ind k) h = absurd h

-- no long chains
abbrev Free : ℕ → ShapeNumbers → List Table → Board → ℕ → Type 0
Free k n ts c q = beyond n ts (chains k n ts) (Some (record { board = c; key = q })) ≡ 0

free_at : (P : Board → Type 0) (k : ℕ) (n : ShapeNumbers) (ts : List Table) (q : ℕ) (at : Option Board) → ((c : Board) → P c → Free k n ts c q) → At P at → beyond n ts (chains k n ts) (onto q at) ≡ 0
free_at P k n ts q None f h = absurd h
free_at P k n ts q (Some c) f h = f c h

chain_suc : (k : ℕ) (n : ShapeNumbers) (ts : List Table) (b : Board) (r : RouteRec) → chains (suc k) n ts b r ≡ 0 + beyond n ts (chains k n ts) (onward n b r)
unfolding gathered
chain_suc k n ts b r = refl

chain_record : (P : ℕ → Board → ℕ → Type 0) (k : ℕ) (n : ShapeNumbers) (ts : List Table) (last : ℕ) (b : Board) (r : RouteRec) → ((d : ℕ) (c : Board) (q : ℕ) → P d c q → Free k n ts c q) → StraightRecord P n last b r → chains (suc k) n ts b r ≡ 0
chain_record P k n ts last b (Urm1 t q j) f h = absurd h
chain_record P k n ts last b (Urm2 t q j) f h = absurd h
chain_record P k n ts last b (Rr d q) f h = let e = chain_suc k n ts b (Rr d q) in let z = free_at (λ c. P d c q) k n ts q (neighbour n d b) (λ c p. f d c q p) h.1 in omega arith
chain_record P k n ts last b (Mrm t q j) f h = let e = chain_suc k n ts b (Mrm t q j) in omega arith
chain_record P k n ts last b (Ind q) f h = absurd h

chain_sum : (P : ℕ → Board → ℕ → Type 0) (k : ℕ) (n : ShapeNumbers) (ts : List Table) (last : ℕ) (b : Board) (rs : List RouteRec) → ((d : ℕ) (c : Board) (q : ℕ) → P d c q → Free k n ts c q) → StraightRecords P n last b rs → sum_by (chains (suc k) n ts b) rs ≡ 0
chain_sum P k n ts last b [] f h = refl
chain_sum P k n ts last b (r ∷ rs) f h =
    let e = sum_by-cons (chains (suc k) n ts b) r rs in let a = chain_record P k n ts last b r f h.0 in let z = chain_sum P k n ts last b rs f h.1 in omega arith

sum_joined : (f : RouteRec → ℕ) (beats : Table) → sum_by f (joined beats) ≡ sum_by (λ beat. sum_by f beat) beats
sum_joined f [] = refl
sum_joined f (beat ∷ beats) =
    let rest = sum_joined f beats in let split = sum_by-append f beat (joined beats) in let cons = sum_by-cons (λ bs. sum_by f bs) beat beats in omega arith

free_key : (k : ℕ) (n : ShapeNumbers) (ts : List Table) (b : Board) (q : ℕ) → is_bad_key (length (table_of n ts b)) q ≡ false → sum_by (chains k n ts b) (records_of n ts b q) ≡ 0 → Free k n ts b q
free_key k n ts b q g h = sym (sum_joined (chains k n ts b) (beats_in (table_of n ts b) q)) ∙ ap (sum_by (chains k n ts b)) (sym (records_good (table_of n ts b) q g)) ∙ h

straight_free : (m k : ℕ) (n : ShapeNumbers) (ts : List Table) (last : ℕ) (b : Board) (q : ℕ) → m < k → Straight m n ts last b q → Free k n ts b q
straight_free m zero n ts last b q l h = absurd (omega arith)
straight_free zero (suc k) n ts last b q l h = free_key (suc k) n ts b q h.0 (chain_sum (λ d c j. ⊥) k n ts last b (records_of n ts b q) (λ d c j f. absurd f) h.1)
straight_free (suc m) (suc k) n ts last b q l h =
    free_key (suc k) n ts b q h.0 (chain_sum (Straight m n ts) k n ts last b (records_of n ts b q) (λ d c j f. straight_free m k n ts d c j (omega arith) f) h.1)

no_loop : (m : ℕ) (n : ShapeNumbers) (ts : List Table) (b : Board) (r : RouteRec) → m < 63 → StraightRecord (Straight m n ts) n 4 b r → loops n ts b r ≡ false
no_loop m n ts b r l h =
    let z : chains 64 n ts b r ≡ 0 = chain_record (Straight m n ts) 63 n ts 4 b r (λ d c q f. straight_free m 63 n ts d c q l f) h in
    le-ltb 0 (chains 64 n ts b r) (omega arith)

width_only : (v : Bool) → IsWidth (unless v fault.TooWide None)
width_only true = tt
width_only false = tt

passes_board : (m : ℕ) (n : ShapeNumbers) (ts : List Table) (b : Board) → m < 63 → HasBoard n b → AllStraight m n ts → IsWidth (board_fault n ts b)
passes_board m n ts b l h a =
    let all = any_joined m n ts b (table_of n ts b) (a.beats b h) in
    let e1 = any_none m n ts b (off_machine n b) (joined (table_of n ts b)) (λ r s. on_machine (Straight m n ts) n b r s) all in
    let e2 = any_none m n ts b (bad_thread n) (joined (table_of n ts b)) (λ r s. good_threads (Straight m n ts) n b r s) all in
    let e3 = any_none m n ts b empty_mask (joined (table_of n ts b)) (λ r s. some_mask (Straight m n ts) n b r s) all in
    let e4 = any_none m n ts b (bad_range n ts b) (joined (table_of n ts b)) (λ r s. good_range m n ts b r s) all in
    let e5 = any_none m n ts b (loops n ts b) (joined (table_of n ts b)) (λ r s. no_loop m n ts b r l s) all in
    rw (e1, e2, e3, e4, e5) (width_only (list_any (too_wide n ts b) (table_of n ts b)))

board_there : (n : ShapeNumbers) (i : ℕ) → 0 < n.boards_x → i < board_count n → HasBoard n (board_at n i)
board_there n i h l =
    let c : n.boards_x * n.boards_y ≡ n.boards_y * n.boards_x = mul_comm n.boards_x n.boards_y in
    let y : i / n.boards_x < n.boards_y = (div-lt_iff_lt-mul h).1 (omega arith) in
    let x : i % n.boards_x < n.boards_x = omega arith in
    (x, y)

pub passes : (m : ℕ) (n : ShapeNumbers) (ts : List Table) → m < 63 → 0 < n.boards_x → length ts ≡ board_count n → AllStraight m n ts → PassesButWidth n ts
passes m n ts l p e a = record { count = e; faults = λ i h. passes_board m n ts (board_at n i) l (board_there n i p h) a }
