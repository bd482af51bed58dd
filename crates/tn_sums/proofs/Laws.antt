-- Laws of sums.
use Rattle.std.proofs.Common.{◌≡◌, ◌≢◌, ◌<◌, ◌≤◌, ℕ, suc, zero, ◌+◌, ◌*◌, eqb, ltb, cond, Bool, true, false, List, [], ◌∷◌, ◌++◌, refl, sym, ◌∙◌, ap, arith}
use Rattle.std.proofs.lemmas.Bool.Decides.{nat_tests}
use Rattle.std.proofs.lemmas.List.Sums.{sum_by-cons}
use Rattle.std.specs.List.{sum_by}
use Rattle.tn_sums.specs.Totals.{total, weigh}

pub weigh-append : {X : Type 0} (f : X → ℕ) (xs ys : List X) → weigh f (xs ++ ys) ≡ weigh f xs + weigh f ys
weigh-append f [] ys = omega arith
weigh-append f (x ∷ xs) ys = let h = weigh-append f xs ys in omega arith

pub total_same : (f g : ℕ → ℕ) (n : ℕ) → ((i : ℕ) → i < n → f i ≡ g i) → total f n ≡ total g n
unfolding total
total_same f g zero e = refl
total_same f g (suc n) e = let h = total_same f g n (λ i lt. e i (omega arith)) in let k = e n (omega arith) in omega arith

pub total_zero : (n : ℕ) → total (λ _. 0) n ≡ 0
unfolding total
total_zero zero = refl
total_zero (suc n) = let h = total_zero n in omega arith

pub total-plus : (f g : ℕ → ℕ) (n : ℕ) → total (λ i. f i + g i) n ≡ total f n + total g n
unfolding total
total-plus f g zero = refl
total-plus f g (suc n) = let h = total-plus f g n in omega arith

pub total-front : (f : ℕ → ℕ) (n : ℕ) → total f (suc n) ≡ f 0 + total (λ i. f (suc i)) n
unfolding total
total-front f zero = omega arith
total-front f (suc n) = let h = total-front f n in omega arith

pub total-add : (f : ℕ → ℕ) (m n : ℕ) → total f (m + n) ≡ total f m + total (λ i. f (m + i)) n
unfolding total
total-add f m zero = let e : m + zero ≡ m = omega arith in rw e (omega arith)
total-add f m (suc n) = let e : m + suc n ≡ suc (m + n) = omega arith in let h = total-add f m n in rw e (omega arith)

one_of : (k c i : ℕ) → k ≢ i → cond (eqb k i) c 0 ≡ 0
one_of k c i h = grind (arith, nat_tests)

one_at : (k c i : ℕ) → k ≡ i → cond (eqb k i) c 0 ≡ c
one_at k c i h = grind (arith, nat_tests)

before : (k n : ℕ) → true ≡ ltb k n → k < n
before k n h = grind (arith, nat_tests)

after : (k n : ℕ) → false ≡ ltb k n → n ≤ k
after k n h = grind (arith, nat_tests)

pub total_none : (k c n : ℕ) → n ≤ k → total (λ i. cond (eqb k i) c 0) n ≡ 0
unfolding total
total_none k c n h = total_same (λ i. cond (eqb k i) c 0) (λ _. 0) n (λ i lt. one_of k c i (omega arith)) ∙ total_zero n

one_more : (k c n : ℕ) (v : Bool) → v ≡ ltb k n → k < suc n → (k < n → total (λ i. cond (eqb k i) c 0) n ≡ c) → total (λ i. cond (eqb k i) c 0) n + cond (eqb k n) c 0 ≡ c
unfolding total
one_more k c n true e h r = let lt = before k n e in let a = r lt in let b = one_of k c n (omega arith) in omega arith
one_more k c n false e h r = let ge = after k n e in let a = total_none k c n ge in let b = one_at k c n (omega arith) in omega arith

-- one number alone has a weight
pub total_one : (k c n : ℕ) → k < n → total (λ i. cond (eqb k i) c 0) n ≡ c
unfolding total
total_one k c zero h = absurd (omega arith)
total_one k c (suc n) h = one_more k c n (ltb k n) refl h (λ lt. total_one k c n lt)

pub total-suc : (f : ℕ → ℕ) (n : ℕ) → total f (suc n) ≡ total f n + f n
unfolding total
total-suc f n = refl

-- a grid, row by row and column by column
pub total_grid : (f : ℕ → ℕ) (w h : ℕ) → total (λ x. total (λ y. f (y * w + x)) h) w ≡ total f (h * w)
unfolding total
total_grid f w zero = let e : zero * w ≡ zero = omega arith in rw e (total_zero w)
total_grid f w (suc h) =
    let e : suc h * w ≡ h * w + w = omega arith in
    let a = total-plus (λ x. total (λ y. f (y * w + x)) h) (λ x. f (h * w + x)) w in
    let b = total_grid f w h in
    let c = total-add f (h * w) w in
    rw e (omega arith)

-- a line of places, from a place on and back to the first
pub line_up : (g : ℕ → ℕ) (a : ℕ → ℕ → ℕ) (n p : ℕ) → ((p : ℕ) → a 0 p ≡ 0) → ((n p : ℕ) → a (suc n) p ≡ g (suc p) + a n (suc p)) → total g (suc p) + a n p ≡ total g (suc p + n)
unfolding total
line_up g a zero p z s = let h = z p in let e : suc p + zero ≡ suc p = omega arith in rw e (omega arith)
line_up g a (suc n) p z s = let h = s n p in let k = line_up g a n (suc p) z s in let e : suc p + suc n ≡ suc (suc p) + n = omega arith in rw e (omega arith)

pub line_down : (g : ℕ → ℕ) (a : ℕ → ℕ → ℕ) (p : ℕ) → ((p : ℕ) → a 0 p ≡ 0) → ((n p : ℕ) → a (suc n) (suc p) ≡ g p + a n p) → a p p ≡ total g p
unfolding total
line_down g a zero z s = z 0
line_down g a (suc p) z s = let h = s p p in let k = line_down g a p z s in omega arith

pub total_shift : (g : ℕ → ℕ) (i n : ℕ) → g i + total (λ j. g (suc i + j)) n ≡ total (λ j. g (i + j)) (suc n)
total_shift g i n =
    let front = total-front (λ j. g (i + j)) n in
    let shift = total_same (λ j. g (suc i + j)) (λ j. g (i + suc j)) n (λ j lt. let e : suc i + j ≡ i + suc j = omega arith in ap g e) in
    let z : i + 0 ≡ i = omega arith in
    let first = ap g z in
    omega arith

pub total_nothing : (f : ℕ → ℕ) → total f 0 ≡ 0
unfolding total
total_nothing f = refl

-- blocks of n in a row
pub total_blocks : (f : ℕ → ℕ) (n m : ℕ) → total (λ k. total (λ i. f (k * n + i)) n) m ≡ total f (m * n)
total_blocks f n zero = let e : zero * n ≡ zero = omega arith in rw (e, total_nothing) (sym (total_nothing f))
total_blocks f n (suc m) =
    let e : suc m * n ≡ m * n + n = omega arith in
    let a = total_blocks f n m in
    let b = total-add f (m * n) n in
    rw (total-suc, e) (omega arith)

-- the same sum in std's words
pub weigh_is : {X : Type 0} (f : X → ℕ) (xs : List X) → weigh f xs ≡ sum_by f xs
weigh_is f [] = refl
weigh_is f (x ∷ xs) = let h = weigh_is f xs in let e = sum_by-cons f x xs in omega arith
