-- Tests of links: by the part that they join, and by their way or side.
use Rattle.std.proofs.Common.{ℕ, ◌≡◌, ◌≢◌, ◌≤◌, ◌<◌, ◌+◌, ◌&&◌, Bool, true, false, cond, eqb, refl, arith, sym, ap, ◌∙◌}
use Rattle.std.proofs.lemmas.Bool.{eq-eqb, eqb-true}
use Rattle.tn_base.specs.declared.part.Kind.{Kind}
use Rattle.tn_base.specs.declared.port.Port.{Port}
use Rattle.tn_base.specs.declared.port.Port.TheVariants as port
use Rattle.tn_base.specs.declared.shape.ShapeNumbers.{ShapeNumbers}
use Rattle.tn_rows.specs.Places.{leads_from, leads_to, side_of_kind, way_of_kind}
use Rattle.tn_ways.proofs.Counting.{OfLinks, one, total, total_none, total_one}

-- ---- ports

abbrev code : Port → ℕ
code port.East = 0
code port.West = 1
code port.South = 2
code port.North = 3
code port.Up = 4
code port.Down = 5
code port.HostPort = 6
code port.Here = 7

abbrev coded : ℕ → Port
coded k = cond (eqb k 0) port.East (cond (eqb k 1) port.West (cond (eqb k 2) port.South (cond (eqb k 3) port.North (cond (eqb k 4) port.Up (cond (eqb k 5) port.Down (cond (eqb k 6) port.HostPort port.Here))))))

abbrev pub is_port : Port → Port → Bool
is_port p q = eqb (code p) (code q)

code_back : (p : Port) → coded (code p) ≡ p
code_back port.East = refl
code_back port.West = refl
code_back port.South = refl
code_back port.North = refl
code_back port.Up = refl
code_back port.Down = refl
code_back port.HostPort = refl
code_back port.Here = refl

pub port_same : (p q : Port) → is_port p q ≡ true → p ≡ q
port_same p q h = sym (code_back p) ∙ ap coded (eqb-true (code p) (code q) h) ∙ code_back q

pub port_is : (p q : Port) → p ≡ q → is_port p q ≡ true
port_is p q e = eq-eqb (code p) (code q) (ap code e)

-- ---- a way or side by its test

abbrev pub by_way : Bool → Bool → Bool → Bool → Bool → Bool → Bool → Port → Bool
by_way east west south north up down host port.East = east
by_way east west south north up down host port.West = west
by_way east west south north up down host port.South = south
by_way east west south north up down host port.North = north
by_way east west south north up down host port.Up = up
by_way east west south north up down host port.Down = down
by_way east west south north up down host port.HostPort = host
by_way east west south north up down host port.Here = false

keep : (b : Bool) → one (b && true) ≡ one b
keep true = refl
keep false = refl

drop : (b : Bool) → one (b && false) ≡ 0
drop true = refl
drop false = refl

abbrev pub seven : Bool → Bool → Bool → Bool → Bool → Bool → Bool → Port → ℕ
seven e w s n u d h way =
    one (e && is_port port.East way) + one (w && is_port port.West way) + one (s && is_port port.South way) + one (n && is_port port.North way)
    + one (u && is_port port.Up way) + one (d && is_port port.Down way) + one (h && is_port port.HostPort way)

pub of_seven : (e w s n u d h : Bool) (way : Port) → seven e w s n u d h way ≡ one (by_way e w s n u d h way)
of_seven e w s n u d h port.East = omega (arith, keep e, drop w, drop s, drop n, drop u, drop d, drop h)
of_seven e w s n u d h port.West = omega (arith, drop e, keep w, drop s, drop n, drop u, drop d, drop h)
of_seven e w s n u d h port.South = omega (arith, drop e, drop w, keep s, drop n, drop u, drop d, drop h)
of_seven e w s n u d h port.North = omega (arith, drop e, drop w, drop s, keep n, drop u, drop d, drop h)
of_seven e w s n u d h port.Up = omega (arith, drop e, drop w, drop s, drop n, keep u, drop d, drop h)
of_seven e w s n u d h port.Down = omega (arith, drop e, drop w, drop s, drop n, drop u, keep d, drop h)
of_seven e w s n u d h port.HostPort = omega (arith, drop e, drop w, drop s, drop n, drop u, drop d, keep h)
of_seven e w s n u d h port.Here = omega (arith, drop e, drop w, drop s, drop n, drop u, drop d, drop h)

pub by_same : (e w s n u d h a b c f g i j : Bool) (way : Port) → e ≡ a → w ≡ b → s ≡ c → n ≡ f → u ≡ g → d ≡ i → h ≡ j → by_way e w s n u d h way ≡ by_way a b c f g i j way
by_same e w s n u d h a b c f g i j port.East p q r t x y z = p
by_same e w s n u d h a b c f g i j port.West p q r t x y z = q
by_same e w s n u d h a b c f g i j port.South p q r t x y z = r
by_same e w s n u d h a b c f g i j port.North p q r t x y z = t
by_same e w s n u d h a b c f g i j port.Up p q r t x y z = x
by_same e w s n u d h a b c f g i j port.Down p q r t x y z = y
by_same e w s n u d h a b c f g i j port.HostPort p q r t x y z = z
by_same e w s n u d h a b c f g i j port.Here p q r t x y z = refl

-- ---- links by way and by side

-- a link that leads away from part p by a way, and one that leads to part p from a side
abbrev pub leaves : ShapeNumbers → ℕ → Port → Kind → Bool
leaves n p way k = leads_from p k && is_port (way_of_kind n k) way

abbrev pub comes : ShapeNumbers → ℕ → Port → Kind → Bool
comes n p side k = leads_to p k && is_port (side_of_kind n k) side

pub leaves_links : (n : ShapeNumbers) (p : ℕ) (way : Port) → OfLinks (leaves n p way)
leaves_links n p way = record { host = refl; tile = λ a. refl; router = λ b. refl; detector = refl }

pub comes_links : (n : ShapeNumbers) (p : ℕ) (side : Port) → OfLinks (comes n p side)
comes_links n p side = record { host = refl; tile = λ a. refl; router = λ b. refl; detector = refl }

-- ---- one term of a sum

pub one_few : (b : Bool) → one b ≤ 1
one_few true = omega arith
one_few false = omega arith

pub true_of_one : (b : Bool) → 0 < one b → b ≡ true
true_of_one true h = refl
true_of_one false h = absurd (omega arith)

pub no_test : (a b : ℕ) → a ≢ b → eqb a b ≡ false
no_test a b h = by (eqb a b) refl where
  by : (t : Bool) → eqb a b ≡ t → t ≡ false
  by false e = refl
  by true e = absurd (h (eqb-true a b e))

pub same_test : (a b c d : ℕ) → (a ≡ b → c ≡ d) → (c ≡ d → a ≡ b) → eqb a b ≡ eqb c d
same_test a b c d f g = by (eqb a b) (eqb c d) refl refl where
  by : (s t : Bool) → eqb a b ≡ s → eqb c d ≡ t → s ≡ t
  by true true p q = refl
  by false false p q = refl
  by true false p q = let e : eqb c d ≡ true = eq-eqb c d (f (eqb-true a b p)) in cc
  by false true p q = let e : eqb a b ≡ true = eq-eqb a b (g (eqb-true c d q)) in cc

-- no link, or a link of another part
pub no_term : (there x y : Bool) → (there ≡ true → x ≡ true → ⊥) → one (there && (x && y)) ≡ 0
no_term false x y h = refl
no_term true false y h = refl
no_term true true y h = absurd (h refl refl)

-- a link of this part
pub way_term : (there x : Bool) (got want way : Port) → (there ≡ true → x ≡ true) → (there ≡ true → got ≡ want) → one (there && (x && is_port got way)) ≡ one (there && is_port want way)
way_term false x got want way h e = refl
way_term true x got want way h e = ap (λ t. one (t && is_port got way)) (h refl) ∙ ap (λ p. one (is_port p way)) (e refl)

-- at most the number `at` has a link to the part
pub single : (there : ℕ → Bool) (onto : ℕ → ℕ) (got : ℕ → Port) (part m at : ℕ) (here : Bool) (want side : Port) →
    ((j : ℕ) → j < m → there j ≡ true → onto j ≡ part → (j ≡ at) × (here ≡ true)) →
    (here ≡ true → (at < m) × (there at ≡ true) × (onto at ≡ part) × (got at ≡ want)) →
    total (λ j. one (there j && (eqb (onto j) part && is_port (got j) side))) 0 m ≡ one (here && is_port want side)
single there onto got part m at here want side back forth = by here refl where
  by : (h : Bool) → here ≡ h → total (λ j. one (there j && (eqb (onto j) part && is_port (got j) side))) 0 m ≡ one (h && is_port want side)
  by false e =
      total_none (λ j. one (there j && (eqb (onto j) part && is_port (got j) side))) 0 m
      (λ j low l. no_term (there j) (eqb (onto j) part) (is_port (got j) side) (λ t x. let b = (back j (omega arith) t (eqb-true (onto j) part x)).1 in let d : true ≡ false = sym b ∙ e in cc))
  by true e =
      let f = forth e in
      total_one (λ j. one (there j && (eqb (onto j) part && is_port (got j) side))) at m f.0
      (λ j l other. no_term (there j) (eqb (onto j) part) (is_port (got j) side) (λ t x. other (back j l t (eqb-true (onto j) part x)).0))
      ∙ way_term (there at) (eqb (onto at) part) (got at) want side (λ t. eq-eqb (onto at) part f.2) (λ t. f.3)
      ∙ ap (λ t. one (t && is_port want side)) f.1
