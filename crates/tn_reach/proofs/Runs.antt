-- Numbers and the sums of the first of them.
use Rattle.std.proofs.Common.{ℕ, zero, suc, ◌≡◌, ◌≤◌, ◌<◌, ◌+◌, ◌-◌, ◌*◌, min, sum, Bool, true, false, ◌||◌, List, [], ◌∷◌, ◌++◌, drop, take, get_or, length, refl, ap, sym, ◌∙◌, arith, ◌⊎◌, inl, inr}
use Rattle.std.specs.Prelude.{slice_index}
use Rattle.std.specs.List.{list_any}
use Rattle.std.proofs.lemmas.List.{drop-take, drop_all, drop_more, get_or_append_left, get_or_past, get_or_push, length_push, take-take, take_min}
use Rattle.std.proofs.lemmas.List.Sums.{sum_by-cons, sum_by-take-drop}
use Rattle.tn_reach.specs.Running.{Rising, steps}

pub length_steps : (xs : List ℕ) → 0 < length xs → length (steps xs) + 1 ≡ length xs
length_steps [] l = absurd (omega arith)
length_steps (a ∷ []) l = refl
length_steps (a ∷ b ∷ xs) l = let rest = length_steps (b ∷ xs) (omega arith) in omega arith

pub sum_steps : (xs : List ℕ) (i : ℕ) → Rising xs → i < length xs → sum (take i (steps xs)) + get_or xs 0 0 ≡ get_or xs i 0
sum_steps [] i r l = absurd (omega arith)
sum_steps (a ∷ []) zero r l = omega arith
sum_steps (a ∷ []) (suc i) r l = absurd (omega arith)
sum_steps (a ∷ b ∷ xs) zero r l = omega arith
sum_steps (a ∷ b ∷ xs) (suc i) r l =
    let rest = sum_steps (b ∷ xs) i r.1 (omega arith) in
    let cons = sum_by-cons (λ x. x) (b - a) (take i (steps (b ∷ xs))) in
    let up = r.0 in omega arith

last_of : List ℕ → ℕ
last_of xs = get_or xs (length xs - 1) 0

last_cons : (a b : ℕ) (xs : List ℕ) → get_or (a ∷ b ∷ xs) (length (a ∷ b ∷ xs) - 1) 0 ≡ get_or (b ∷ xs) (length (b ∷ xs) - 1) 0
last_cons a b xs = let e : length (a ∷ b ∷ xs) - 1 ≡ suc (length (b ∷ xs) - 1) = omega arith in rw e refl

pub steps_push : (xs : List ℕ) (v : ℕ) → 0 < length xs → steps (xs ++ v ∷ []) ≡ steps xs ++ (v - get_or xs (length xs - 1) 0) ∷ []
steps_push [] v l = absurd (omega arith)
steps_push (a ∷ []) v l = refl
steps_push (a ∷ b ∷ xs) v l = ap (λ ys. (b - a) ∷ ys) (steps_push (b ∷ xs) v (omega arith)) ∙ ap (λ x. ((b - a) ∷ steps (b ∷ xs)) ++ (v - x) ∷ []) (sym (last_cons a b xs))

pub rising_push : (xs : List ℕ) (v : ℕ) → 0 < length xs → Rising xs → get_or xs (length xs - 1) 0 ≤ v → Rising (xs ++ v ∷ [])
rising_push [] v l r h = absurd (omega arith)
rising_push (a ∷ []) v l r h = (h, tt)
rising_push (a ∷ b ∷ xs) v l r h = (r.0, rising_push (b ∷ xs) v (omega arith) r.1 (rw (last_cons a b xs) at h))

pub step_at : (xs : List ℕ) (i : ℕ) → i + 1 < length xs → get_or (steps xs) i 0 ≡ get_or xs (i + 1) 0 - get_or xs i 0
step_at [] i l = absurd (omega arith)
step_at (a ∷ []) i l = absurd (omega arith)
step_at (a ∷ b ∷ xs) zero l = refl
step_at (a ∷ b ∷ xs) (suc i) l = let e : suc i + 1 ≡ suc (i + 1) = omega arith in rw e (step_at (b ∷ xs) i (omega arith))

pub rising_at : (xs : List ℕ) (i : ℕ) → Rising xs → i + 1 < length xs → get_or xs i 0 ≤ get_or xs (i + 1) 0
rising_at [] i r l = absurd (omega arith)
rising_at (a ∷ []) i r l = absurd (omega arith)
rising_at (a ∷ b ∷ xs) zero r l = r.0
rising_at (a ∷ b ∷ xs) (suc i) r l = let e : suc i + 1 ≡ suc (i + 1) = omega arith in rw e (rising_at (b ∷ xs) i r.1 (omega arith))

-- the sum of a part, by those of two fronts
parts : (xs : List ℕ) (f c : ℕ) → sum (take f xs) + sum (take c (drop f xs)) ≡ sum (take (f + c) xs)
parts xs f c =
    let whole = sum_by-take-drop (λ x. x) (take (f + c) xs) f in
    let front : sum (take f (take (f + c) xs)) ≡ sum (take f xs) = ap sum (take-take f (f + c) xs (omega arith)) in
    let back : sum (drop f (take (f + c) xs)) ≡ sum (take c (drop f xs)) = ap sum (drop-take f c xs) in
    omega arith

pub part_is : (xs : List ℕ) (f c len low high : ℕ) → Rising xs → 0 < length xs → get_or xs 0 0 ≡ 0 → len + 1 ≡ length xs → low ≡ min f len → high ≡ min (f + c) len
    → (get_or xs low 0 ≤ get_or xs high 0) × (get_or xs high 0 - get_or xs low 0 ≡ sum (take c (drop f (steps xs))))
part_is xs f c len low high r some z e l h =
    let long = length_steps xs some in
    let el : low ≡ min f (length (steps xs)) = omega arith in
    let eh : high ≡ min (f + c) (length (steps xs)) = omega arith in
    let sl = sum_steps xs low r (omega arith) in
    let sh = sum_steps xs high r (omega arith) in
    let fl : sum (take low (steps xs)) ≡ sum (take f (steps xs)) = ap (λ k. sum (take k (steps xs))) el ∙ ap sum (take_min f (steps xs)) in
    let fh : sum (take high (steps xs)) ≡ sum (take (f + c) (steps xs)) = ap (λ k. sum (take k (steps xs))) eh ∙ ap sum (take_min (f + c) (steps xs)) in
    let p = parts (steps xs) f c in
    (omega arith, omega arith)

-- one number more
pub push_is : (xs : List ℕ) (v : ℕ) → 0 < length xs → steps (xs ++ (get_or xs (length xs - 1) 0 + v) ∷ []) ≡ steps xs ++ v ∷ []
push_is xs v some = let e : get_or xs (length xs - 1) 0 + v - get_or xs (length xs - 1) 0 ≡ v = omega arith in steps_push xs (get_or xs (length xs - 1) 0 + v) some ∙ ap (λ x. steps xs ++ x ∷ []) e

pub push_bound : (xs : List ℕ) (v i : ℕ) → v ≤ 65537 * length xs → ((j : ℕ) → get_or xs j 0 ≤ 65537 * j) → get_or (xs ++ v ∷ []) i 0 ≤ 65537 * i
push_bound [] v zero h b = h
push_bound [] v (suc i) h b = omega arith
push_bound (x ∷ xs) v i h b = by i (order i (length (x ∷ xs))) where
  order : (i n : ℕ) → (i < n) ⊎ ((i ≡ n) ⊎ (n < i))
  order i n = grind arith

  by : (i : ℕ) → (i < length (x ∷ xs)) ⊎ ((i ≡ length (x ∷ xs)) ⊎ (length (x ∷ xs) < i)) → get_or ((x ∷ xs) ++ v ∷ []) i 0 ≤ 65537 * i
  by i (inl low) = rw (get_or_append_left (x ∷ xs) (v ∷ []) 0 i low) (b i)
  by i (inr (inl same)) = let e = get_or_push (x ∷ xs) v 0 i (sym same) in omega arith
  by i (inr (inr past)) = let e = get_or_past ((x ∷ xs) ++ v ∷ []) i 0 (omega (arith, length_push (x ∷ xs) v)) in omega arith

-- looking for a number step by step
pub any_past : (p : ℕ → Bool) (xs : List ℕ) (i : ℕ) → i + 1 < length xs → p (get_or xs (i + 1) 0 - get_or xs i 0) ≡ false → list_any p (drop i (steps xs)) ≡ list_any p (drop (i + 1) (steps xs))
any_past p xs i l h =
    let long = length_steps xs (omega arith) in
    let here : p (get_or (steps xs) i 0) ≡ false = ap p (step_at xs i l) ∙ h in
    ap (list_any p) (drop_more (steps xs) i 0 (omega arith)) ∙ ap (λ b. b || list_any p (drop (i + 1) (steps xs))) here

pub any_here : (p : ℕ → Bool) (xs : List ℕ) (i : ℕ) → i + 1 < length xs → p (get_or xs (i + 1) 0 - get_or xs i 0) ≡ true → list_any p (drop i (steps xs)) ≡ true
any_here p xs i l h =
    let long = length_steps xs (omega arith) in
    let here : p (get_or (steps xs) i 0) ≡ true = ap p (step_at xs i l) ∙ h in
    ap (list_any p) (drop_more (steps xs) i 0 (omega arith)) ∙ ap (λ b. b || list_any p (drop (i + 1) (steps xs))) here

pub any_none : (p : ℕ → Bool) (xs : List ℕ) (i : ℕ) → 0 < length xs → length xs ≤ i + 1 → list_any p (drop i (steps xs)) ≡ false
any_none p xs i some l = ap (list_any p) (drop_all i (steps xs) (let long = length_steps xs some in omega arith))

-- what is kept of the sums where a number is pushed
pub pushed : (xs ys new : List ℕ) (v : ℕ) → ys ≡ xs → new ≡ xs ++ (get_or ys (length ys - 1) 0 + v) ∷ [] → v ≤ 65537 → 0 < length xs → length xs ≤ 65536 → Rising xs → get_or xs 0 0 ≡ 0 → ((i : ℕ) → get_or xs i 0 ≤ 65537 * i)
    → (0 < length new) × (length new ≤ 65537) × Rising new × (slice_index new 0 ≡ 0) × ((i : ℕ) → slice_index new i ≤ 65537 * i)
pushed xs ys new v e n small some long r z b =
    let same : new ≡ xs ++ (get_or xs (length xs - 1) 0 + v) ∷ [] = n ∙ ap (λ zs. xs ++ (get_or zs (length zs - 1) 0 + v) ∷ []) e in
    let more = length_push xs (get_or xs (length xs - 1) 0 + v) in
    let count = ap length same in
    let last = b (length xs - 1) in (
      omega arith,
      omega arith,
      rw same (rising_push xs (get_or xs (length xs - 1) 0 + v) some r (omega arith)),
      rw same (get_or_append_left xs ((get_or xs (length xs - 1) 0 + v) ∷ []) 0 0 some ∙ z),
      λ i. rw same (push_bound xs (get_or xs (length xs - 1) 0 + v) i (omega arith) b),
    )
