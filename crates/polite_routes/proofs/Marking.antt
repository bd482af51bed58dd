-- Masks and counts, edge by edge and tree by tree.
use Rattle.std.proofs.Common.{◌≡◌, ◌<◌, ◌≤◌, ℕ, ◌+◌, ◌*◌, ◌/◌, ◌%◌, eqb, cond, Bool, true, false, ◌||◌, List, [], ◌∷◌, ◌++◌, length, get_or, take, refl, sym, ◌∙◌, ap, arith}
use Rattle.std.proofs.lemmas.Bool.Decides.{nat_tests}
use Rattle.std.proofs.lemmas.Bool.{or_parts}
use Rattle.std.proofs.lemmas.Grind.{common_steps}
use Rattle.std.specs.List.{list_any}
use Rattle.tn_base.specs.Mask.{with_bit}
use Rattle.polite_routes.specs.declared.target.Pin.{Pin}
use Rattle.polite_routes.specs.declared.target.Target.{Target}
use Rattle.polite_routes.specs.Routes.{trees_to}
use Rattle.polite_routes.specs.Targets.{AllLow, leads_to, mask_of, mask_with, one_more, reaches}
use Rattle.polite_routes.proofs.Marks.{no_bits, to}

abbrev pub no_target : Target
no_target = record { thread = record { 0 = 0 }; edge = record { device = 0; value = 0; edge = 0 } }

pub mask_push : (ts : List Target) (t : Target) (m i : ℕ) → mask_with m (ts ++ t ∷ []) i ≡ cond (leads_to i t) (with_bit (mask_with m ts i) (t.thread.0 % 64)) (mask_with m ts i)
mask_push [] t m i = refl
mask_push (s ∷ ts) t m i = mask_push ts t (cond (leads_to i s) (with_bit m (s.thread.0 % 64)) m) i

pub take_one : (ts : List Target) (i : ℕ) → i < length ts → take (i + 1) ts ≡ take i ts ++ get_or ts i no_target ∷ []
take_one ts i h = grind (arith, common_steps)

pub low_tile : (ts : List Target) (j : ℕ) → AllLow ts → j < length ts → (get_or ts j no_target).thread.0 / 64 < 256
low_tile ts j a h = let l = a.low j no_target h in omega arith

-- a tile without targets has no mask
pub no_mask : (ts : List Target) (m i : ℕ) → reaches ts i ≡ false → mask_with m ts i ≡ m
no_mask [] m i h = refl
no_mask (t ∷ ts) m i h =
    let p = or_parts (leads_to i t) (reaches ts i) h in
    ap (λ b. mask_with (cond b (with_bit m (t.thread.0 % 64)) m) ts i) p.0 ∙ no_mask ts m i p.1

-- a tile has a mask exactly where an edge leads to it
masked : (ts : List Target) (i : ℕ) → reaches ts i ≡ true → (a : ℕ) × (a / 64 ≡ i) × (list_any (to a) ts ≡ true)
masked [] i r = absurd (cc)
masked (t ∷ ts) i r = by (eqb (t.thread.0 / 64) i) refl r (masked ts i) where
  by : (v : Bool) → v ≡ eqb (t.thread.0 / 64) i → (v || reaches ts i) ≡ true → (reaches ts i ≡ true → (a : ℕ) × (a / 64 ≡ i) × (list_any (to a) ts ≡ true)) → (a : ℕ) × (a / 64 ≡ i) × ((eqb t.thread.0 a || list_any (to a) ts) ≡ true)
  by true e q f = let j : t.thread.0 / 64 ≡ i = grind (arith, nat_tests) in let s : eqb t.thread.0 t.thread.0 ≡ true = grind (arith, nat_tests) in (t.thread.0, j, ap (λ b. b || list_any (to t.thread.0) ts) s)
  by false e q f = let g = f q in (g.0, g.1, ap (λ b. eqb t.thread.0 g.0 || b) g.2 ∙ any (eqb t.thread.0 g.0)) where
    any : (b : Bool) → (b || true) ≡ true
    any true = refl
    any false = refl

pub mask_some : (ts : List Target) (i : ℕ) (v : Bool) → v ≡ eqb (mask_of ts i) 0 → reaches ts i ≡ true → v ≡ false
mask_some ts i false e r = refl
mask_some ts i true e r =
    let g = masked ts i r in
    let j : i * 64 + g.0 % 64 ≡ g.0 = let d = g.1 in omega arith in
    let n = no_bits ts i (g.0 % 64) (omega arith) (sym e) in
    let y : list_any (to (i * 64 + g.0 % 64)) ts ≡ true = ap (λ a. list_any (to a) ts) j ∙ g.2 in
    absurd (cc)

counted_by : (ts : List Target) (i c : ℕ) (v : Bool) → v ≡ reaches ts i → one_more (mask_of ts i) c ≡ c + cond v 1 0
counted_by ts i c true e = ap (λ b. cond b c (c + 1)) (mask_some ts i (eqb (mask_of ts i) 0) refl (sym e))
counted_by ts i c false e = ap (λ m. one_more m c) (no_mask ts 0 i (sym e)) ∙ omega arith

pub trees_push : (ps : List Pin) (p : Pin) (i : ℕ) → trees_to (ps ++ p ∷ []) i ≡ trees_to ps i + cond (reaches p.targets i) 1 0
trees_push [] p i = omega arith
trees_push (q ∷ ps) p i = let r = trees_push ps p i in omega arith

abbrev pub no_pin : Pin
no_pin = record { board = record { x = 0; y = 0 }; targets = [] }

pub pins_one : (ps : List Pin) (j : ℕ) → j < length ps → take (j + 1) ps ≡ take j ps ++ get_or ps j no_pin ∷ []
pins_one ps j h = grind (arith, common_steps)

-- one tree more is counted
pub counted : (ps : List Pin) (j i c d : ℕ) (p : Pin) → j < length ps → p ≡ get_or ps j no_pin → c ≡ trees_to (take j ps) i → d ≡ one_more (mask_of p.targets i) c → d ≡ trees_to (take (j + 1) ps) i
counted ps j i c d p h is e f =
    let a = counted_by p.targets i c (reaches p.targets i) refl in
    let t = trees_push (take j ps) p i in
    let s : trees_to (take (j + 1) ps) i ≡ trees_to (take j ps ++ p ∷ []) i = ap (λ xs. trees_to xs i) (pins_one ps j h ∙ ap (λ x. take j ps ++ x ∷ []) (sym is)) in
    omega arith

pub trees_few : (ps : List Pin) (i : ℕ) → trees_to ps i ≤ length ps
trees_few [] i = omega arith
trees_few (p ∷ ps) i = let r = trees_few ps i in let o = one (reaches p.targets i) in omega arith where
  one : (b : Bool) → cond b 1 0 ≤ 1
  one true = omega arith
  one false = omega arith

pub mask_reached : (ts : List Target) (i : ℕ) → eqb (mask_of ts i) 0 ≡ false → reaches ts i ≡ true
mask_reached ts i h = by (reaches ts i) refl where
  by : (v : Bool) → v ≡ reaches ts i → v ≡ true
  by true e = refl
  by false e = let z = no_mask ts 0 i (sym e) in let t = ap (λ m. eqb m 0) z in absurd (cc)
