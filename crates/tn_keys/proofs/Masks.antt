-- The copies of a mask are one for each thread of the tile that it names, by ascending address.
use Rattle.std.proofs.Common.{ℕ, zero, suc, ◌≡◌, ◌≤◌, ◌<◌, ◌+◌, ◌-◌, ◌*◌, ◌/◌, ◌%◌, eqb, List, [], ◌++◌, refl, ap, sym, ◌∙◌, arith, append_assoc}
use Rattle.std.proofs.lemmas.List.{append-nil}
use Rattle.std.specs.Int.{bit_at}
use Rattle.std.specs.List.{flat_map, range_with_len}
use Rattle.std.proofs.lemmas.Bool.{ne_eqb}
use Rattle.std.proofs.lemmas.Nat.{div-mul-add, mod-mul-add}
use Rattle.std.proofs.Math.Nat.{suc-mul}
use Rattle.tn_base.specs.declared.shape.ShapeNumbers.{ShapeNumbers}
use Rattle.tn_base.specs.Address.{in_tile, tile_threads}
use Rattle.tn_keys.specs.Copies.{Copy, copy_to, each_below, masked_copies, only_if}

-- the lists of two ranges, one behind the other
two_ranges : {A : Type 0} (g : ℕ → List A) (k a l : ℕ) → flat_map g (range_with_len a (k + l)) ≡ flat_map g (range_with_len a k) ++ flat_map g (range_with_len (a + k) l)
two_ranges g zero a l = let e : zero + l ≡ l = omega arith in let f : a + zero ≡ a = omega arith in rw (e, f) refl
two_ranges g (suc k) a l =
    let e : suc k + l ≡ suc (k + l) = omega arith in
    let f : a + 1 + k ≡ a + suc k = omega arith in
    rw e (ap (λ xs. g a ++ xs) (two_ranges g k (a + 1) l) ∙ sym (append_assoc (g a) (flat_map g (range_with_len (a + 1) k)) (flat_map g (range_with_len (a + 1 + k) l)))
    ∙ ap (λ b. (g a ++ flat_map g (range_with_len (a + 1) k)) ++ flat_map g (range_with_len b l)) f)

no_range : {A : Type 0} (g : ℕ → List A) (k a : ℕ) → ((i : ℕ) → i < k → g (a + i) ≡ []) → flat_map g (range_with_len a k) ≡ []
no_range g zero a h = refl
no_range g (suc k) a h =
    let z : a + 0 ≡ a = omega arith in
    let here : g a ≡ [] = ap g (sym z) ∙ h 0 (omega arith) in
    rw here (no_range g k (a + 1) (λ i l. let e : a + 1 + i ≡ a + suc i = omega arith in ap g e ∙ h (suc i) (omega arith)))

same_range : {A : Type 0} (g h : ℕ → List A) (k a b : ℕ) → ((i : ℕ) → i < k → g (a + i) ≡ h (b + i)) → flat_map g (range_with_len a k) ≡ flat_map h (range_with_len b k)
same_range g h zero a b e = refl
same_range g h (suc k) a b e =
    let za : a + 0 ≡ a = omega arith in
    let zb : b + 0 ≡ b = omega arith in
    let here : g a ≡ h b = ap g (sym za) ∙ e 0 (omega arith) ∙ ap h zb in
    let rest = same_range g h k (a + 1) (b + 1)
    (λ i l. let ea : a + 1 + i ≡ a + suc i = omega arith in let eb : b + 1 + i ≡ b + suc i = omega arith in ap g ea ∙ e (suc i) (omega arith) ∙ ap h (sym eb)) in
    ap (λ xs. xs ++ flat_map g (range_with_len (a + 1) k)) here ∙ ap (λ xs. h b ++ xs) rest

-- each bit of a mask is a thread of so many of so many cores
abbrev pub Names : ℕ → ℕ → ℕ → Type 0
Names threads cores mask = (b : ℕ) → b < 64 → bit_at mask b ≡ 1 → (b % 16 < threads) × (b / 16 < cores)

unnamed : (threads cores mask b : ℕ) (f : Copy) → Names threads cores mask → b < 64 → ((b % 16 < threads) × (b / 16 < cores) → ⊥) → only_if (eqb (bit_at mask b) 1) f ≡ []
unnamed threads cores mask b f names l outside = rw (ne_eqb (bit_at mask b) 1 (λ e. outside (names b l e))) refl

at_bit : ℕ → ℕ → List ℕ → ℕ → List Copy
at_bit tile mask bytes b = only_if (eqb (bit_at mask b) 1) (copy_to (tile + b) bytes)

at_place : ShapeNumbers → ℕ → ℕ → List ℕ → ℕ → List Copy
at_place n tile mask bytes k = only_if (eqb (bit_at mask (in_tile n tile k % 64)) 1) (copy_to (in_tile n tile k) bytes)

-- one thread, by its bit and by its place
one_place : (n : ShapeNumbers) (tile mask : ℕ) (bytes : List ℕ) (c t : ℕ) → tile % 64 ≡ 0 → c < 4 → t < 16 → t < n.threads → at_bit tile mask bytes (c * 16 + t) ≡ at_place n tile mask bytes (c * n.threads + t)
unfolding at_bit at_place
one_place n tile mask bytes c t low few small l =
    let core : (c * n.threads + t) / n.threads ≡ c = div-mul-add c n.threads t l in
    let thread : (c * n.threads + t) % n.threads ≡ t = mod-mul-add c n.threads t l in
    let place : in_tile n tile (c * n.threads + t) ≡ tile + (c * 16 + t) = omega arith in
    let bit : (tile + (c * 16 + t)) % 64 ≡ c * 16 + t = omega arith in
    rw (place, bit) refl

one_core : (n : ShapeNumbers) (tile mask : ℕ) (bytes : List ℕ) (c : ℕ) → tile % 64 ≡ 0 → Names n.threads n.cores mask → n.threads ≤ 16 → c < 4
    → flat_map (at_bit tile mask bytes) (range_with_len (c * 16) 16) ≡ flat_map (at_place n tile mask bytes) (range_with_len (c * n.threads) n.threads)
unfolding at_bit
one_core n tile mask bytes c low names few small =
    let e : 16 ≡ n.threads + (16 - n.threads) = omega arith in
    let none : flat_map (at_bit tile mask bytes) (range_with_len (c * 16 + n.threads) (16 - n.threads)) ≡ [] =
    no_range (at_bit tile mask bytes) (16 - n.threads) (c * 16 + n.threads)
    (λ i l. unnamed n.threads n.cores mask (c * 16 + n.threads + i) (copy_to (tile + (c * 16 + n.threads + i)) bytes) names (omega arith) (λ h. let h0 = h.0 in absurd (omega arith))) in
    ap (λ k. flat_map (at_bit tile mask bytes) (range_with_len (c * 16) k)) e ∙ two_ranges (at_bit tile mask bytes) n.threads (c * 16) (16 - n.threads)
    ∙ ap (λ xs. flat_map (at_bit tile mask bytes) (range_with_len (c * 16) n.threads) ++ xs) none ∙ append-nil (flat_map (at_bit tile mask bytes) (range_with_len (c * 16) n.threads))
    ∙ same_range (at_bit tile mask bytes) (at_place n tile mask bytes) n.threads (c * 16) (c * n.threads) (λ i l. one_place n tile mask bytes c i low small (omega arith) l)

cores_of : (n : ShapeNumbers) (tile mask : ℕ) (bytes : List ℕ) (k : ℕ) → tile % 64 ≡ 0 → Names n.threads n.cores mask → n.threads ≤ 16 → k ≤ 4
    → flat_map (at_bit tile mask bytes) (range_with_len 0 (k * 16)) ≡ flat_map (at_place n tile mask bytes) (range_with_len 0 (k * n.threads))
cores_of n tile mask bytes zero low names few l = let e : zero * n.threads ≡ 0 = omega arith in rw e refl
cores_of n tile mask bytes (suc k) low names few l =
    let a : suc k * 16 ≡ k * 16 + 16 = omega arith in
    let b : suc k * n.threads ≡ k * n.threads + n.threads = suc-mul k n.threads in
    rw (a, b) (two_ranges (at_bit tile mask bytes) (k * 16) 0 16
    ∙ ap (λ xs. xs ++ flat_map (at_bit tile mask bytes) (range_with_len (0 + k * 16) 16)) (cores_of n tile mask bytes k low names few (omega arith))
    ∙ ap (λ xs. flat_map (at_place n tile mask bytes) (range_with_len 0 (k * n.threads)) ++ xs) (shifted k ∙ one_core n tile mask bytes k low names few (omega arith) ∙ back k)
    ∙ sym (two_ranges (at_place n tile mask bytes) (k * n.threads) 0 n.threads)) where
      shifted : (k : ℕ) → flat_map (at_bit tile mask bytes) (range_with_len (0 + k * 16) 16) ≡ flat_map (at_bit tile mask bytes) (range_with_len (k * 16) 16)
      shifted k = let e : 0 + k * 16 ≡ k * 16 = omega arith in rw e refl

      back : (k : ℕ) → flat_map (at_place n tile mask bytes) (range_with_len (k * n.threads) n.threads) ≡ flat_map (at_place n tile mask bytes) (range_with_len (0 + k * n.threads) n.threads)
      back k = let e : 0 + k * n.threads ≡ k * n.threads = omega arith in rw e refl

pub masked_is : (n : ShapeNumbers) (tile mask : ℕ) (bytes : List ℕ) → tile % 64 ≡ 0 → Names n.threads n.cores mask → n.threads ≤ 16 → n.cores ≤ 4
    → masked_copies tile mask bytes ≡ each_below (tile_threads n) (λ k. only_if (eqb (bit_at mask (in_tile n tile k % 64)) 1) (copy_to (in_tile n tile k) bytes))
unfolding masked_copies at_bit at_place
masked_is n tile mask bytes low names few cores =
    let e : 64 ≡ n.cores * 16 + (64 - n.cores * 16) = omega arith in
    let none : flat_map (at_bit tile mask bytes) (range_with_len (0 + n.cores * 16) (64 - n.cores * 16)) ≡ [] =
    no_range (at_bit tile mask bytes) (64 - n.cores * 16) (0 + n.cores * 16)
    (λ i l. unnamed n.threads n.cores mask (0 + n.cores * 16 + i) (copy_to (tile + (0 + n.cores * 16 + i)) bytes) names (omega arith) (λ h. let h1 = h.1 in absurd (omega arith))) in
    ap (λ k. flat_map (at_bit tile mask bytes) (range_with_len 0 k)) e ∙ two_ranges (at_bit tile mask bytes) (n.cores * 16) 0 (64 - n.cores * 16)
    ∙ ap (λ xs. flat_map (at_bit tile mask bytes) (range_with_len 0 (n.cores * 16)) ++ xs) none ∙ append-nil (flat_map (at_bit tile mask bytes) (range_with_len 0 (n.cores * 16)))
    ∙ cores_of n tile mask bytes n.cores low names few cores
