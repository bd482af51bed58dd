-- Events on two parts of a machine.
use Rattle.std.proofs.Common.{◌≡◌, ◌∙◌, ℕ, zero, suc, ◌<◌, ◌≢◌, ◌++◌, Bool, true, false, List, [], ◌∷◌, None, Some, refl, ap, subst, sym, get_or, set, length, take, drop, option_map, append-nil, arith, slice_get}
use Rattle.std.specs.declared.option.Option.{Option}
use Rattle.std.specs.declared.result.Result.{Result}
use Rattle.std.specs.declared.result.Result.TheVariants.{Ok, Err}
use Rattle.std.specs.declared.alloc.AllocError.{AllocError}
use Rattle.std.specs.Prelude.{MatchResult}
use Rattle.std.proofs.lemmas.List.{drop_all, length-set, set-append_left, set-get_or, take_all}
use Rattle.std.proofs.lemmas.Option.{get_or_from_slice_get}
use Rattle.tn_base.specs.declared.event.Event.{Event}
use Rattle.tn_base.specs.Does.{Does}
use Rattle.tn_rows.specs.Events.{IsWorld, Met, happened_at, meets, meets_at, with_both}
use Rattle.tn_rows.specs.PartView.{PartView}
use Rattle.tn_rows.specs.Places.{two_if}
use Rattle.tn_rows.specs.WorldView.{WorldView}
use Rattle.tn_tile.specs.declared.deliver.Did.{Did}
use Rattle.tn_tile.specs.Turns.{moved}
use Rattle.tn_part.specs.Joint.{DoesBoth, DoesBothOr}
use Rattle.tn_world.specs.Joint.{set_both}
use Rattle.tn_rows.proofs.Keeping.{apart, both_keep}

-- ---- two parts of one list

get_left : (front back : List PartView) (i : ℕ) (v : PartView) → i < length front → slice_get (front ++ back) i ≡ Some (get_or front i v)
get_left [] back i v h = absurd (omega arith)
get_left (x ∷ front) back zero v h = refl
get_left (x ∷ front) back (suc i) v h = get_left front back i v (omega arith)

get_right : (front back : List PartView) (w : PartView) → 0 < length back → slice_get (front ++ back) (length front) ≡ Some (get_or back 0 w)
get_right [] [] w h = absurd (omega arith)
get_right [] (y ∷ back) w h = refl
get_right (x ∷ front) back w h = get_right front back w h

set_right : (front back : List PartView) (b : PartView) → set (front ++ back) (length front) b ≡ front ++ set back 0 b
set_right [] back b = refl
set_right (x ∷ front) back b = ap (λ ys. x ∷ ys) (set_right front back b)

-- a write of what stands there
pub set_here : (xs : List PartView) (i : ℕ) (v : PartView) → slice_get xs i ≡ Some v → set xs i v ≡ xs
set_here xs i v h = ap (λ y. set xs i y) (sym (get_or_from_slice_get xs i v v h)) ∙ set-get_or xs i v

-- a list of parts that was parted before place n, and what a call on the part at i and the one at n leaves
module _ (front back xs : List PartView) (i n : ℕ) (v w : PartView) (joined : xs ≡ front ++ back) (size : length front ≡ n) (within : i < n) (some : 0 < length back) where
  low_is : slice_get xs i ≡ Some (get_or front i v)
  low_is = ap (λ ys. slice_get ys i) joined ∙ get_left front back i v (omega (arith, size, within))

  high_is : slice_get xs n ≡ Some (get_or back 0 w)
  high_is = ap (λ ys. slice_get ys n) joined ∙ ap (λ k. slice_get (front ++ back) k) (sym size) ∙ get_right front back w some

  both_set : (a b : PartView) → set front i a ++ set back 0 b ≡ set (set xs i a) n b
  both_set a b =
      let here : i < length front = omega (arith, size, within) in
      let long : length (set front i a) ≡ n = length-set front i a ∙ size in
      sym (ap (λ ys. set (set ys i a) n b) joined
      ∙ ap (λ ys. set ys n b) (set-append_left front back i a here)
      ∙ ap (λ k. set (set front i a ++ back) k b) (sym long)
      ∙ set_right (set front i a) back b)

  placed_by : (h : Bool) (a b : PartView) (o : Option Met) → DoesBoth h o (get_or front i v) (get_or back 0 w) a b → Does h (option_map (set_both xs i n) o) xs (set front i a ++ set back 0 b)
  placed_by h a b None d =
      let low : set xs i a ≡ xs = ap (λ y. set xs i y) d.1 ∙ set_here xs i (get_or front i v) low_is in
      let high : set xs n b ≡ xs = ap (λ y. set xs n y) d.2 ∙ set_here xs n (get_or back 0 w) high_is in
      (d.0, both_set a b ∙ ap (λ ys. set ys n b) low ∙ high)
  placed_by h a b (Some m) d = (d.0, both_set a b ∙ ap (λ y. set (set xs i y) n b) d.1 ∙ ap (λ y. set (set xs i m.low) n y) d.2)

  pub both_placed : (e : Event) (h : Bool) (a b : PartView) → DoesBoth h (meets e (get_or front i v) (get_or back 0 w)) (get_or front i v) (get_or back 0 w) a b →
      Does h (option_map (set_both xs i n) (meets_at e (slice_get xs i) (slice_get xs n))) xs (set front i a ++ set back 0 b)
  both_placed e h a b d =
      subst (λ o. Does h (option_map (set_both xs i n) (meets_at e o (slice_get xs n))) xs (set front i a ++ set back 0 b)) (sym low_is)
      (subst (λ o. Does h (option_map (set_both xs i n) (meets_at e (Some (get_or front i v)) o)) xs (set front i a ++ set back 0 b)) (sym high_is)
      (placed_by h a b (meets e (get_or front i v) (get_or back 0 w)) d))

  -- if the call changed nothing, the list is as it was
  both_kept : (a b : PartView) → a ≡ get_or front i v → b ≡ get_or back 0 w → set front i a ++ set back 0 b ≡ xs
  both_kept a b low high = (placed_by false a b None (refl, low, high)).1

  -- the same of a call that may want memory
  pub both_or : (e : Event) (r : Result Did AllocError) (a b : PartView) → DoesBothOr r (meets e (get_or front i v) (get_or back 0 w)) (get_or front i v) (get_or back 0 w) a b →
      MatchResult r (λ did. Does (moved did) (option_map (set_both xs i n) (meets_at e (slice_get xs i) (slice_get xs n))) xs (set front i a ++ set back 0 b)) (λ _. set front i a ++ set back 0 b ≡ xs)
  both_or e (Ok did) a b d = both_placed e (moved did) a b d
  both_or e (Err x) a b d = both_kept a b d.0 d.1

  pub parts_long : (a b : PartView) → length (set front i a ++ set back 0 b) ≡ length xs
  parts_long a b = ap (λ ys. length ys) (both_set a b) ∙ length-set (set xs i a) n b ∙ length-set xs i a

-- a list that was written whole
pub written : (now items : List PartView) (n : ℕ) → length now ≡ length items → n ≡ length items → take n (now ++ drop (length now) items) ≡ now
written now items n long is =
    ap (λ ys. take n (now ++ ys)) (drop_all (length now) items (omega (arith, long)))
    ∙ ap (λ ys. take n ys) (append-nil now)
    ∙ take_all n now (omega (arith, long, is))

-- ---- the same of a machine

lifted_by : (w : WorldView) (p q : ℕ) (new : List PartView) (h : Bool) (o : Option Met) → Does h (option_map (set_both w.parts p q) o) w.parts new → Does h (option_map (with_both w p q) o) w (record w { parts = new })
lifted_by w p q new h None d = (d.0, ap (λ ps. record w { parts = ps }) d.1)
lifted_by w p q new h (Some m) d = (d.0, ap (λ ps. record w { parts = ps }) d.1)

-- an event that is on two parts
pub both_world : (w : WorldView) (e : Event) (there : Bool) (p q : ℕ) (new : List PartView) (h : Bool) → there ≡ true →
    Does h (option_map (set_both w.parts p q) (meets_at e (slice_get w.parts p) (slice_get w.parts q))) w.parts new → Does h (happened_at e w (two_if there p q)) w (record w { parts = new })
both_world w e there p q new h is d =
    subst (λ b. Does h (happened_at e w (two_if b p q)) w (record w { parts = new })) (sym is)
    (lifted_by w p q new h (meets_at e (slice_get w.parts p) (slice_get w.parts q)) d)

kept_by : (w : WorldView) (e : Event) (p q : ℕ) (new : List PartView) (h : Bool) (low high : PartView) (o : Option Met) → q ≢ p → slice_get w.parts p ≡ Some low → slice_get w.parts q ≡ Some high → meets e low high ≡ o →
    Does h (option_map (set_both w.parts p q) o) w.parts new → IsWorld w → IsWorld (record w { parts = new })
kept_by w e p q new h low high None apart a b is d i = subst (λ ps. IsWorld (record w { parts = ps })) (sym d.1) i
kept_by w e p q new h low high (Some m) apart a b is d i = subst (λ ps. IsWorld (record w { parts = ps })) (sym d.1) (both_keep e w p q low high m apart a b is i)

kept_at : (w : WorldView) (e : Event) (p q : ℕ) (new : List PartView) (h : Bool) (low high : Option PartView) → q ≢ p → slice_get w.parts p ≡ low → slice_get w.parts q ≡ high →
    Does h (option_map (set_both w.parts p q) (meets_at e low high)) w.parts new → IsWorld w → IsWorld (record w { parts = new })
kept_at w e p q new h None high apart a b d i = subst (λ ps. IsWorld (record w { parts = ps })) (sym d.1) i
kept_at w e p q new h (Some low) None apart a b d i = subst (λ ps. IsWorld (record w { parts = ps })) (sym d.1) i
kept_at w e p q new h (Some low) (Some high) apart a b d i = kept_by w e p q new h low high (meets e low high) apart a b refl d i

-- the machine stays one
pub both_keeps : (w : WorldView) (e : Event) (p q : ℕ) (new : List PartView) (h : Bool) → p < q →
    Does h (option_map (set_both w.parts p q) (meets_at e (slice_get w.parts p) (slice_get w.parts q))) w.parts new → IsWorld w → IsWorld (record w { parts = new })
both_keeps w e p q new h less d i = kept_at w e p q new h (slice_get w.parts p) (slice_get w.parts q) (λ same. omega (arith, less, same)) refl refl d i

-- the same of a call that may want memory
pub both_world_or : (w : WorldView) (e : Event) (p q : ℕ) (new : List PartView) (r : Result Did AllocError) →
    MatchResult r (λ did. Does (moved did) (option_map (set_both w.parts p q) (meets_at e (slice_get w.parts p) (slice_get w.parts q))) w.parts new) (λ _. new ≡ w.parts) →
    MatchResult r (λ did. Does (moved did) (happened_at e w (two_if true p q)) w (record w { parts = new })) (λ _. record w { parts = new } ≡ w)
both_world_or w e p q new (Ok did) d = both_world w e true p q new (moved did) refl d
both_world_or w e p q new (Err x) d = ap (λ ps. record w { parts = ps }) d

pub both_keeps_or : (w : WorldView) (e : Event) (p q : ℕ) (new : List PartView) (r : Result Did AllocError) → p < q →
    MatchResult r (λ did. Does (moved did) (option_map (set_both w.parts p q) (meets_at e (slice_get w.parts p) (slice_get w.parts q))) w.parts new) (λ _. new ≡ w.parts) → IsWorld w → IsWorld (record w { parts = new })
both_keeps_or w e p q new (Ok did) less d i = both_keeps w e p q new (moved did) less d i
both_keeps_or w e p q new (Err x) less d i = subst (λ ps. IsWorld (record w { parts = ps })) (sym d) i
