-- The spots of a tree, edge by edge.
use Rattle.std.proofs.Common.{◌≡◌, ◌≢◌, ◌<◌, ◌≤◌, ℕ, suc, zero, ◌+◌, ◌/◌, ◌%◌, eqb, ltb, cond, Bool, true, false, ◌||◌, List, [], ◌∷◌, ◌++◌, length, get_or, set, take, replicate, refl, sym, ◌∙◌, ap, arith}
use Rattle.std.proofs.lemmas.Bool.Decides.{nat_tests}
use Rattle.std.proofs.lemmas.List.{get_or-set_other, get_or-set_same, get_or_past, length-replicate}
use Rattle.std.proofs.lemmas.List.FromFn.{fill_by_all}
use Rattle.tn_base.specs.Mask.{with_bit}
use Rattle.polite_routes.specs.declared.target.Spot.{Spot}
use Rattle.polite_routes.specs.declared.target.Target.{Target}
use Rattle.polite_routes.specs.Targets.{Blank, leads_to, mask_of, one_more, reaches, spot, spot_at, spot_for, spots_for}
use Rattle.polite_routes.proofs.Marking.{mask_push, mask_some, no_mask, no_target, take_one}
use Rattle.polite_routes.proofs.Tallies.{reaches_more}

mask_more : (ts : List Target) (m : ℕ) (t : Target) (i : ℕ) → m < length ts → t ≡ get_or ts m no_target → mask_of (take (m + 1) ts) i ≡ cond (leads_to i t) (with_bit (mask_of (take m ts) i) (t.thread.0 % 64)) (mask_of (take m ts) i)
mask_more ts m t i h is = ap (λ xs. mask_of xs i) (take_one ts m h ∙ ap (λ x. take m ts ++ x ∷ []) (sym is)) ∙ mask_push (take m ts) t 0 i

or_true : (b : Bool) → (b || true) ≡ true
or_true true = refl
or_true false = refl

-- the mask of a tile to which an edge leads has a thread
mask_there : (ts : List Target) (m : ℕ) (t : Target) (i : ℕ) → m < length ts → t ≡ get_or ts m no_target → leads_to i t ≡ true → eqb (mask_of (take (m + 1) ts) i) 0 ≡ false
mask_there ts m t i h is l =
    mask_some (take (m + 1) ts) i (eqb (mask_of (take (m + 1) ts) i) 0) refl (reaches_more ts m t i h is ∙ ap (λ b. reaches (take m ts) i || b) l ∙ or_true (reaches (take m ts) i))

-- one more edge is marked
marked_by : (ts : List Target) (m : ℕ) (t : Target) (f : ℕ → ℕ) (ss : List Spot) (new : Spot) (i : ℕ) (v : Bool) → v ≡ leads_to i t → m < length ts → t ≡ get_or ts m no_target → length ss ≡ 256 → i < 256 → spot_at ss i ≡ spot_for (take m ts) f i
    → new ≡ spot (with_bit (spot_at ss (t.thread.0 / 64)).mask (t.thread.0 % 64)) (f (t.thread.0 / 64)) → spot_at (set ss (t.thread.0 / 64) new) i ≡ spot_for (take (m + 1) ts) f i
marked_by ts m t f ss new i true e h is l q old w =
    let j : t.thread.0 / 64 ≡ i = grind (arith, nat_tests) in
    let k : t.thread.0 / 64 < length ss = omega arith in
    let mask : mask_of (take (m + 1) ts) i ≡ with_bit (mask_of (take m ts) i) (t.thread.0 % 64) = mask_more ts m t i h is ∙ ap (λ b. cond b (with_bit (mask_of (take m ts) i) (t.thread.0 % 64)) (mask_of (take m ts) i)) (sym e) in
    let local : cond (eqb (mask_of (take (m + 1) ts) i) 0) 0 (f i) ≡ f i = ap (λ b. cond b 0 (f i)) (mask_there ts m t i h is (sym e)) in
    ap (λ p. spot_at (set ss (t.thread.0 / 64) new) p) (sym j) ∙ get_or-set_same ss (t.thread.0 / 64) new (spot 0 0) k ∙ w
    ∙ ap (λ p. spot (with_bit (spot_at ss p).mask (t.thread.0 % 64)) (f p)) j ∙ ap (λ (s : Spot). spot (with_bit s.mask (t.thread.0 % 64)) (f i)) old
    ∙ ap (λ x. spot x (f i)) (sym mask) ∙ ap (spot (mask_of (take (m + 1) ts) i)) (sym local)
marked_by ts m t f ss new i false e h is l q old w =
    let j : i ≢ t.thread.0 / 64 = grind (arith, nat_tests) in
    let mask : mask_of (take (m + 1) ts) i ≡ mask_of (take m ts) i = mask_more ts m t i h is ∙ ap (λ b. cond b (with_bit (mask_of (take m ts) i) (t.thread.0 % 64)) (mask_of (take m ts) i)) (sym e) in
    get_or-set_other ss (t.thread.0 / 64) i new (spot 0 0) j ∙ old ∙ ap (λ x. spot x (cond (eqb x 0) 0 (f i))) (sym mask)

pub marked : (ts : List Target) (m : ℕ) (t : Target) (f : ℕ → ℕ) (ss : List Spot) (new : Spot) (i : ℕ) → m < length ts → t ≡ get_or ts m no_target → length ss ≡ 256 → i < 256 → spot_at ss i ≡ spot_for (take m ts) f i
    → new ≡ spot (with_bit (spot_at ss (t.thread.0 / 64)).mask (t.thread.0 % 64)) (f (t.thread.0 / 64)) → spot_at (set ss (t.thread.0 / 64) new) i ≡ spot_for (take (m + 1) ts) f i
marked ts m t f ss new i h is l q old w = marked_by ts m t f ss new i (leads_to i t) refl h is l q old w

pub all_marked : (ts : List Target) (f : ℕ → ℕ) (ss : List Spot) → length ss ≡ 256 → ((i : ℕ) → i < 256 → spot_at ss i ≡ spot_for ts f i) → ss ≡ spots_for ts f
unfolding spots_for
all_marked ts f ss l h = fill_by_all (spot_for ts f) ss 256 (spot 0 0) l h

-- one more edge is cleared: the spot, and the count
pub cleared : (ts : List Target) (m : ℕ) (t : Target) (i : ℕ) (old new whole : Spot) → m < length ts → t ≡ get_or ts m no_target → old ≡ cond (reaches (take m ts) i) (spot 0 0) whole → new ≡ cond (eqb i (t.thread.0 / 64)) (spot 0 0) old
    → new ≡ cond (reaches (take (m + 1) ts) i) (spot 0 0) whole
cleared ts m t i old new whole h is o w =
    w ∙ ap (λ x. cond (eqb i (t.thread.0 / 64)) (spot 0 0) x) o ∙ both (eqb i (t.thread.0 / 64)) (reaches (take m ts) i)
    ∙ ap (λ b. cond b (spot 0 0) whole) (ap (λ b. reaches (take m ts) i || b) (turn i (t.thread.0 / 64)) ∙ sym (reaches_more ts m t i h is)) where
      both : (a r : Bool) → cond a (spot 0 0) (cond r (spot 0 0) whole) ≡ cond (r || a) (spot 0 0) whole
      both true true = refl
      both true false = refl
      both false true = refl
      both false false = refl

      turn : (a b : ℕ) → eqb a b ≡ eqb b a
      turn a b = grind (arith, nat_tests)

pub recounted : (ts : List Target) (m : ℕ) (t : Target) (i c d first : ℕ) (old whole : Spot) → m < length ts → t ≡ get_or ts m no_target → old ≡ cond (reaches (take m ts) i) (spot 0 0) whole → c ≡ cond (reaches (take m ts) i) (one_more whole.mask first) first
    → d ≡ cond (eqb i (t.thread.0 / 64)) (one_more old.mask c) c → d ≡ cond (reaches (take (m + 1) ts) i) (one_more whole.mask first) first
recounted ts m t i c d first old whole h is o e w =
    w ∙ ap (λ (x : Spot). cond (eqb i (t.thread.0 / 64)) (one_more x.mask c) c) o ∙ both (eqb i (t.thread.0 / 64)) (reaches (take m ts) i) e
    ∙ ap (λ b. cond b (one_more whole.mask first) first) (ap (λ b. reaches (take m ts) i || b) (turn i (t.thread.0 / 64)) ∙ sym (reaches_more ts m t i h is)) where
      both : (a r : Bool) → c ≡ cond r (one_more whole.mask first) first → cond a (one_more (cond r (spot 0 0) whole).mask c) c ≡ cond (r || a) (one_more whole.mask first) first
      both true true q = q
      both true false q = ap (one_more whole.mask) q
      both false true q = q
      both false false q = q

      turn : (a b : ℕ) → eqb a b ≡ eqb b a
      turn a b = grind (arith, nat_tests)

-- behind all edges nothing is left
blank_by : (ts : List Target) (f : ℕ → ℕ) (i : ℕ) (r : Bool) → r ≡ reaches ts i → cond r (spot 0 0) (spot_for ts f i) ≡ spot 0 0
blank_by ts f i true e = refl
blank_by ts f i false e = ap (λ m. spot m (cond (eqb m 0) 0 (f i))) (no_mask ts 0 i (sym e))

pub all_cleared : (ts : List Target) (f : ℕ → ℕ) (ss : List Spot) → length ss ≡ 256 → ((i : ℕ) → i < 256 → spot_at ss i ≡ cond (reaches ts i) (spot 0 0) (spot_for ts f i)) → Blank ss
all_cleared ts f ss l h = record { all = l; blank = λ i. by i (ltb i 256) refl } where
  by : (i : ℕ) (v : Bool) → v ≡ ltb i 256 → spot_at ss i ≡ spot 0 0
  by i true e = h i (grind (arith, nat_tests)) ∙ blank_by ts f i (reaches ts i) refl
  by i false e = let g : 256 ≤ i = grind (arith, nat_tests) in get_or_past ss i (spot 0 0) (omega arith)

count_by : (ts : List Target) (i c : ℕ) (r : Bool) → r ≡ reaches ts i → cond r (one_more (mask_of ts i) c) c ≡ one_more (mask_of ts i) c
count_by ts i c true e = refl
count_by ts i c false e = ap (λ m. one_more m c) (sym (no_mask ts 0 i (sym e)))

pub all_counted : (ts : List Target) (i c d : ℕ) → d ≡ cond (reaches ts i) (one_more (mask_of ts i) c) c → d ≡ one_more (mask_of ts i) c
all_counted ts i c d e = e ∙ count_by ts i c (reaches ts i) refl

blank_spot : (n i : ℕ) → get_or (replicate n (spot 0 0)) i (spot 0 0) ≡ spot 0 0
blank_spot zero i = refl
blank_spot (suc n) zero = refl
blank_spot (suc n) (suc i) = blank_spot n i

pub blank_spots : (ss : List Spot) → ss ≡ replicate 256 (spot 0 0) → Blank ss
blank_spots ss e = record { all = ap length e ∙ length-replicate {A = Spot} 256 (spot 0 0); blank = λ i. ap (λ xs. spot_at xs i) e ∙ blank_spot 256 i }
