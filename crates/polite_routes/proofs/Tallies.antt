-- Counts of trees, edge by edge and pin by pin.
use Rattle.std.proofs.Common.{◌≡◌, ◌<◌, ◌≤◌, ℕ, suc, zero, ◌+◌, ◌/◌, ◌^◌, eqb, ltb, cond, Bool, true, false, ◌||◌, List, [], ◌∷◌, ◌++◌, length, get_or, take, refl, sym, ◌∙◌, ap, arith}
use Rattle.std.proofs.lemmas.Bool.Decides.{nat_tests}
use Rattle.std.proofs.lemmas.List.{get_or_past}
use Rattle.polite_routes.specs.declared.target.Pin.{Pin}
use Rattle.polite_routes.specs.declared.target.Target.{Target}
use Rattle.polite_routes.specs.Routes.{trees_to}
use Rattle.polite_routes.specs.Targets.{count_in, leads_to, reaches}
use Rattle.polite_routes.proofs.Marking.{no_pin, no_target, pins_one, take_one, trees_few, trees_push}

or_false : (b : Bool) → (b || false) ≡ b
or_false true = refl
or_false false = refl

or_true : (b : Bool) → (b || true) ≡ true
or_true true = refl
or_true false = refl

pub reaches_push : (ts : List Target) (t : Target) (i : ℕ) → reaches (ts ++ t ∷ []) i ≡ (reaches ts i || leads_to i t)
reaches_push [] t i = or_false (leads_to i t)
reaches_push (s ∷ ts) t i = ap (λ b. leads_to i s || b) (reaches_push ts t i) ∙ swap (leads_to i s) (reaches ts i) (leads_to i t) where
  swap : (a b c : Bool) → (a || (b || c)) ≡ ((a || b) || c)
  swap true b c = refl
  swap false b c = refl

pub reaches_more : (ts : List Target) (m : ℕ) (t : Target) (i : ℕ) → m < length ts → t ≡ get_or ts m no_target → reaches (take (m + 1) ts) i ≡ (reaches (take m ts) i || leads_to i t)
reaches_more ts m t i h is =
    ap (λ xs. reaches xs i) (take_one ts m h ∙ ap (λ x. take m ts ++ x ∷ []) (sym is)) ∙ reaches_push (take m ts) t i

-- one edge more: the count and the number of the last tree
count_by : (old c m tree i tile : ℕ) (r a : Bool) → a ≡ eqb i tile → r ≡ eqb m tree → c ≡ old + cond r 1 0
    → cond (eqb i tile) (cond (eqb m tree) c (c + 1)) c ≡ old + cond (r || a) 1 0
count_by old c m tree i tile true true e f g = rw (← e, ← f) g
count_by old c m tree i tile false true e f g = rw (← e, ← f) (omega arith)
count_by old c m tree i tile true false e f g = rw (← e) g
count_by old c m tree i tile false false e f g = rw (← e) g

pub count_more : (ts : List Target) (m : ℕ) (t : Target) (i old c new met tree : ℕ) → m < length ts → t ≡ get_or ts m no_target → eqb met tree ≡ reaches (take m ts) i → c ≡ old + cond (reaches (take m ts) i) 1 0
    → new ≡ cond (eqb i (t.thread.0 / 64)) (cond (eqb met tree) c (c + 1)) c → new ≡ old + cond (reaches (take (m + 1) ts) i) 1 0
count_more ts m t i old c new met tree h is e f g =
    g ∙ count_by old c met tree i (t.thread.0 / 64) (reaches (take m ts) i) (eqb i (t.thread.0 / 64)) refl (sym e) f
    ∙ ap (λ b. old + cond b 1 0) (ap (λ b. reaches (take m ts) i || b) (turn i (t.thread.0 / 64)) ∙ sym (reaches_more ts m t i h is)) where
      turn : (a b : ℕ) → eqb a b ≡ eqb b a
      turn a b = grind (arith, nat_tests)

met_by : (m tree i tile : ℕ) (r a : Bool) → a ≡ eqb i tile → r ≡ eqb m tree → eqb (cond (eqb i tile) tree m) tree ≡ (r || a)
met_by m tree i tile r true e f = rw (← e) (grind (arith, nat_tests)) ∙ sym (or_true r)
met_by m tree i tile r false e f = rw (← e) (sym f) ∙ sym (or_false r)

pub met_more : (ts : List Target) (m : ℕ) (t : Target) (i met new tree : ℕ) → m < length ts → t ≡ get_or ts m no_target → eqb met tree ≡ reaches (take m ts) i
    → new ≡ cond (eqb i (t.thread.0 / 64)) tree met → eqb new tree ≡ reaches (take (m + 1) ts) i
met_more ts m t i met new tree h is e g =
    ap (λ x. eqb x tree) g ∙ met_by met tree i (t.thread.0 / 64) (reaches (take m ts) i) (eqb i (t.thread.0 / 64)) refl (sym e)
    ∙ ap (λ b. reaches (take m ts) i || b) (turn i (t.thread.0 / 64)) ∙ sym (reaches_more ts m t i h is) where
      turn : (a b : ℕ) → eqb a b ≡ eqb b a
      turn a b = grind (arith, nat_tests)

pub met_bound : (i tile met new tree : ℕ) → met ≤ tree → new ≡ cond (eqb i tile) tree met → new ≤ tree
met_bound i tile met new tree h g = by (eqb i tile) g where
  by : (b : Bool) → new ≡ cond b tree met → new ≤ tree
  by true e = omega arith
  by false e = omega arith

-- the trees of one pin more
pub trees_more : (ps : List Pin) (j i c d : ℕ) (p : Pin) → j < length ps → p ≡ get_or ps j no_pin → c ≡ trees_to (take j ps) i → d ≡ c + cond (reaches p.targets i) 1 0 → d ≡ trees_to (take (j + 1) ps) i
trees_more ps j i c d p h is e f =
    let t = trees_push (take j ps) p i in
    let s : trees_to (take (j + 1) ps) i ≡ trees_to (take j ps ++ p ∷ []) i = ap (λ xs. trees_to xs i) (pins_one ps j h ∙ ap (λ x. take j ps ++ x ∷ []) (sym is)) in
    omega arith

trees_le : (ps : List Pin) (j i : ℕ) → trees_to (take j ps) i ≤ trees_to ps i
trees_le [] zero i = omega arith
trees_le [] (suc j) i = omega arith
trees_le (p ∷ ps) zero i = omega arith
trees_le (p ∷ ps) (suc j) i = let r = trees_le ps j i in omega arith

-- a tree that reaches a tile has a local key below the number of all trees there
pub local_below : (ps : List Pin) (j i : ℕ) (p : Pin) → j < length ps → p ≡ get_or ps j no_pin → reaches p.targets i ≡ true → trees_to (take j ps) i < trees_to ps i
local_below ps j i p h is r =
    let t = trees_push (take j ps) p i in
    let one : cond {A = ℕ} (reaches p.targets i) 1 0 ≡ 1 = ap (λ b. cond {A = ℕ} b 1 0) r in
    let s : trees_to (take (j + 1) ps) i ≡ trees_to (take j ps ++ p ∷ []) i = ap (λ xs. trees_to xs i) (pins_one ps j h ∙ ap (λ x. take j ps ++ x ∷ []) (sym is)) in
    let le = trees_le ps (j + 1) i in
    omega arith

-- counts that are small, also past their end
pub small_counts : (counts : List ℕ) (ps : List Pin) → length counts ≡ 256 → ((i : ℕ) → i < 256 → count_in counts i ≡ trees_to ps i) → length ps ≤ 262144 → (i : ℕ) → count_in counts i < 2 ^ 30
small_counts counts ps l h m i = by (ltb i 256) refl where
  by : (v : Bool) → v ≡ ltb i 256 → count_in counts i < 2 ^ 30
  by true e = let lt : i < 256 = grind (arith, nat_tests) in let c = h i lt in let t = trees_few ps i in omega arith
  by false e = let ge : 256 ≤ i = grind (arith, nat_tests) in let z = get_or_past counts i 0 (omega arith) in omega arith
