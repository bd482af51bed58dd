-- A beat gives at most as many copies as its weight is.
use Rattle.std.proofs.Common.{ℕ, zero, suc, ◌≡◌, ◌≤◌, ◌<◌, ◌+◌, ◌*◌, ◌/◌, ◌%◌, ◌^◌, Bool, true, false, cond, eqb, List, [], ◌∷◌, length, refl, ap, ◌∙◌, arith}
use Rattle.std.specs.Int.{bit_at}
use Rattle.std.specs.Int.RustNames.{count_ones}
use Rattle.std.specs.List.{flat_map, range_with_len, sum_by}
use Rattle.std.specs.declared.option.Option.{Option}
use Rattle.std.specs.declared.option.Option.TheVariants.{Some, None}
use Rattle.std.proofs.lemmas.List.{length-append}
use Rattle.std.proofs.lemmas.List.Sums.{sum_by-cons}
use Rattle.std.proofs.lemmas.Nat.{ones_cat, zero_from_ones}
use Rattle.std.proofs.lemmas.Nat.Bits.{bit_at-suc, bit_at_lowest}
use Rattle.tn_base.specs.declared.ids.Board.{Board}
use Rattle.tn_base.specs.declared.shape.ShapeNumbers.{ShapeNumbers}
use Rattle.tn_keys.specs.declared.record.RouteRec.{RouteRec}
use Rattle.tn_keys.specs.declared.record.RouteRec.TheVariants.{Urm1, Urm2, Rr, Mrm, Ind}
use Rattle.tn_keys.specs.Accepted.{beyond, own_weight, weight}
use Rattle.tn_keys.specs.declared.onward.Onward.{Onward}
use Rattle.tn_keys.specs.Copies.{Copy, copies_of, copy_to, keyed, led, masked_copies, only_if, onward, tile_address}
use Rattle.tn_keys.specs.Reach.{reach_by, walk}
use Rattle.tn_keys.specs.Tables.{Table, records_of, table_of}
use Rattle.tn_keys.proofs.Reaching.{gathered-suc, gathered-zero, reach_by-suc, records_le}

-- how many of the bits from a place on are set
count : ℕ → ℕ → ℕ → ℕ
count mask i zero = 0
count mask i (suc k) = cond (eqb (bit_at mask i) 1) 1 0 + count mask (i + 1) k

copies_count : (mask tile : ℕ) (bytes : List ℕ) (i k : ℕ) → length (flat_map (λ j. only_if (eqb (bit_at mask j) 1) (copy_to (tile + j) bytes)) (range_with_len i k)) ≡ count mask i k
unfolding count
copies_count mask tile bytes i zero = refl
copies_count mask tile bytes i (suc k) =
    length-append (only_if (eqb (bit_at mask i) 1) (copy_to (tile + i) bytes)) (flat_map (λ j. only_if (eqb (bit_at mask j) 1) (copy_to (tile + j) bytes)) (range_with_len (i + 1) k))
    ∙ ap (λ x. x + length (flat_map (λ j. only_if (eqb (bit_at mask j) 1) (copy_to (tile + j) bytes)) (range_with_len (i + 1) k))) (one (eqb (bit_at mask i) 1))
    ∙ ap (λ x. cond (eqb (bit_at mask i) 1) 1 0 + x) (copies_count mask tile bytes (i + 1) k) where
      one : (b : Bool) → length (only_if b (copy_to (tile + i) bytes)) ≡ cond b 1 0
      one true = refl
      one false = refl

count_shift : (mask i k : ℕ) → count mask (suc i) k ≡ count (mask / 2) i k
unfolding count
count_shift mask i zero = refl
count_shift mask i (suc k) =
    let here : bit_at mask (suc i) ≡ bit_at (mask / 2) i = bit_at-suc mask i in
    let e : suc i + 1 ≡ suc (i + 1) = omega arith in
    ap (λ x. cond (eqb x 1) 1 0 + count mask (suc i + 1) k) here ∙ ap (λ j. cond (eqb (bit_at (mask / 2) i) 1) 1 0 + count mask j k) e ∙ ap (λ x. cond (eqb (bit_at (mask / 2) i) 1) 1 0 + x) (count_shift mask (i + 1) k)

count_le : (k mask : ℕ) → count mask 0 k ≤ count_ones mask
unfolding count
count_le zero mask = omega arith
count_le (suc k) mask =
    let rest = count_le k (mask / 2) in
    let shift = count_shift mask 0 k in
    let whole : count_ones mask ≡ count_ones (mask / 2) + count_ones (mask % 2) = ap count_ones (split mask) ∙ ones_cat 1 (mask / 2) (mask % 2) (omega arith) in
    let low = low_bit (mask % 2) (omega arith) in
    let bit : bit_at mask 0 ≡ mask % 2 = bit_at_lowest mask in
    let first : cond {A = ℕ} (eqb (bit_at mask 0) 1) 1 0 ≡ cond {A = ℕ} (eqb (mask % 2) 1) 1 0 = ap (λ x. cond {A = ℕ} (eqb x 1) 1 0) bit in
    omega arith where
      split : (m : ℕ) → m ≡ m / 2 * 2 ^ 1 + m % 2
      split m = omega arith

      low_bit : (r : ℕ) → r < 2 → cond (eqb r 1) 1 0 ≤ count_ones r
      low_bit zero l = omega arith
      low_bit (suc zero) l = let some = zero_from_ones 1 in grind arith
      low_bit (suc (suc r)) l = absurd (omega arith)

masked_le : (tile mask : ℕ) (bytes : List ℕ) → length (masked_copies tile mask bytes) ≤ count_ones mask
unfolding masked_copies
masked_le tile mask bytes = let e = copies_count mask tile bytes 0 64 in let le = count_le 64 mask in omega arith

-- one record gives at most its own weight, and what its key does
led_le : (on : Board → ℕ → List Copy) (w : Option Onward → ℕ) (o : Option Onward) → ((q : Onward) → length (on q.board q.key) ≤ w (Some q)) → length (led on o) ≤ w o
led_le on w None h = omega arith
led_le on w (Some q) h = h q

copies_le : (on : Board → ℕ → List Copy) (w : Option Onward → ℕ) (n : ShapeNumbers) (b : Board) (bytes : List ℕ) (r : RouteRec) → ((q : Onward) → length (on q.board q.key) ≤ w (Some q)) → length (copies_of on n b bytes r) ≤ own_weight r + w (onward n b r)
copies_le on w n b bytes (Urm1 tile thread key) h = omega arith
copies_le on w n b bytes (Urm2 tile thread key) h = omega arith
copies_le on w n b bytes (Rr dir key) h = let le = led_le on w (onward n b (Rr dir key)) h in omega arith
copies_le on w n b bytes (Mrm tile key mask) h = let le = masked_le (tile_address b tile) mask (keyed 2 key bytes) in omega arith
copies_le on w n b bytes (Ind key) h = let le = led_le on w (onward n b (Ind key)) h in omega arith

-- the copies that records make, given what each weighs
walk_le : (on : Board → ℕ → List Copy) (f : RouteRec → ℕ) (n : ShapeNumbers) (b : Board) (bytes : List ℕ) (rs : List RouteRec) → ((r : RouteRec) → length (copies_of on n b bytes r) ≤ f r) → length (walk on n b bytes rs) ≤ sum_by f rs
walk_le on f n b bytes [] h = omega arith
walk_le on f n b bytes (r ∷ rs) h =
    let here = h r in
    let rest = walk_le on f n b bytes rs h in
    let sum = sum_by-cons f r rs in
    let more = walk_more on n b bytes r rs in
    omega arith where
      walk_more : (on : Board → ℕ → List Copy) (n : ShapeNumbers) (b : Board) (bytes : List ℕ) (r : RouteRec) (rs : List RouteRec) → length (walk on n b bytes (r ∷ rs)) ≤ length (copies_of on n b bytes r) + length (walk on n b bytes rs)
      walk_more on n b bytes (Urm1 tile thread key) rs = let e = length-append (copies_of on n b bytes (Urm1 tile thread key)) (walk on n b bytes rs) in omega arith
      walk_more on n b bytes (Urm2 tile thread key) rs = let e = length-append (copies_of on n b bytes (Urm2 tile thread key)) (walk on n b bytes rs) in omega arith
      walk_more on n b bytes (Rr dir key) rs = let e = length-append (copies_of on n b bytes (Rr dir key)) (walk on n b bytes rs) in omega arith
      walk_more on n b bytes (Mrm tile key mask) rs = let e = length-append (copies_of on n b bytes (Mrm tile key mask)) (walk on n b bytes rs) in omega arith
      walk_more on n b bytes (Ind key) rs = omega arith

none_reached : (n : ShapeNumbers) (ts : List Table) (bytes : List ℕ) (c : Board) (key : ℕ) → length (reach_by zero n ts bytes c key) ≤ 0
unfolding reach_by
none_reached n ts bytes c key = omega arith

-- over m records that lead on, records give at most as many copies as they weigh
pub width : (m : ℕ) (n : ShapeNumbers) (ts : List Table) (bytes : List ℕ) (b : Board) (rs : List RouteRec) → length (walk (reach_by m n ts bytes) n b bytes rs) ≤ sum_by (weight m n ts b) rs
width zero n ts bytes b rs =
    walk_le (reach_by zero n ts bytes) (weight zero n ts b) n b bytes rs
    (λ r. let e = gathered-zero own_weight own_weight n ts b r in
    let le = copies_le (reach_by zero n ts bytes) (λ o. 0) n b bytes r (λ q. none_reached n ts bytes q.board q.key) in omega arith)
width (suc m) n ts bytes b rs =
    walk_le (reach_by (suc m) n ts bytes) (weight (suc m) n ts b) n b bytes rs
    (λ r. let e = gathered-suc own_weight own_weight m n ts b r in
    let le = copies_le (reach_by (suc m) n ts bytes) (beyond n ts (weight m n ts)) n b bytes r
    (λ q. let s = ap length (reach_by-suc m n ts bytes q.board q.key) in
    let le = width m n ts bytes q.board (records_of n ts q.board q.key) in
    let few = records_le (weight m n ts q.board) (table_of n ts q.board) q.key in omega arith) in
    omega arith)
