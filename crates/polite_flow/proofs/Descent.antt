-- If the first item of each place waits only for full places of smaller rank, some first item can move.
use Rattle.std.proofs.Common.{ℕ, zero, suc, ◌<◌, ◌≡◌, refl, sym, ◌∙◌, subst, inl, inr, arith, true, false, List, [], ◌∷◌, ◌++◌}
use Rattle.std.specs.Prelude.{◌⊎◌}
use Rattle.std.specs.List.{AllByRecursion}
use Rattle.std.proofs.lemmas.Bool.{cases_Bool}
use Rattle.polite_flow.specs.Flow.{Way, Out, To, AreOnWay, Enters, Goes, IsFree, Leaves, Net}

first_of : {A : Type 0} (Q : A → Type 0) (xs : List A) (x : A) (rest : List A) → xs ≡ x ∷ rest → AllByRecursion Q xs → Q x × AllByRecursion Q rest
first_of Q xs x rest e a = subst (λ ys. AllByRecursion Q ys) e a

ways : {P : Type 0} (w : Way P) → (w ≡ Out) ⊎ ((q : P) × (w ≡ To q))
ways Out = inl refl
ways (To q) = inr (q, refl)

same_way : {P : Type 0} (p q : P) → To p ≡ To q → p ≡ q
same_way p q e = cc

out_or_to : {A P : Type 0} (w : Way P) (q : P) → w ≡ Out → w ≡ To q → A
out_or_to w q a b = cc

pub record Full {K : Type 0} (ks : List K) : Type 0 where
  pub first : K
  pub rest : List K
  pub is : ks ≡ first ∷ rest

pub descent : {P K : Type 0} (net : Net P K) (Fits : P → K → Type 0) (w : P → List K)
    (full : (q : P) (ks : List K) → net.has_room q ks ≡ false → Full ks)
    (falls : (p q : P) (k : K) → Fits p k → net.next p k ≡ To q → net.rank q < net.rank p)
    (on : AreOnWay Fits w) (n : ℕ) (p : P) (k : K) (ks : List K) → net.rank p < n → w p ≡ k ∷ ks → IsFree net w
descent net Fits w full falls on zero p k ks less is = absurd (omega arith)
descent net Fits w full falls on (suc n) p k ks less is = elim (ways (net.next p k)) [
  | inl out ↦ record { at = p; first = k; rest = ks; is = is; free = λ q to. out_or_to (net.next p k) q out to }
  | inr to ↦ elim (cases_Bool (net.has_room to.0 (w to.0))) [
    | inl room ↦ record {
      at = p;
      first = k;
      rest = ks;
      is = is;
      free = λ q e. subst (λ x. net.has_room x (w x) ≡ true) (same_way to.0 q (sym to.1 ∙ e)) room;
    }
    | inr none ↦
        let f = full to.0 (w to.0) none in
        let l = falls p to.0 k (first_of (Fits p) (w p) k ks is (on p)).0 to.1 in
        descent net Fits w full falls on n to.0 f.first f.rest (omega arith) f.is
  ]
]

all_append : {A : Type 0} (Q : A → Type 0) (xs ys : List A) → AllByRecursion Q xs → AllByRecursion Q ys → AllByRecursion Q (xs ++ ys)
all_append Q [] ys a b = b
all_append Q (x ∷ xs) ys a b = (a.0, all_append Q xs ys a.1 b)

pub leaves_keeps : {P K : Type 0} (net : Net P K) (Fits : P → K → Type 0) (p : P) (old new : P → List K)
    → AreOnWay Fits old → Leaves net p old new → AreOnWay Fits new
leaves_keeps net Fits p old new on s = λ r. elim (s.each r) [
  | inl e ↦ subst (λ x. AllByRecursion (Fits x) (new x)) (sym e) (first_of (Fits p) (old p) s.first (new p) s.is (on p)).1
  | inr same ↦ subst (λ ks. AllByRecursion (Fits r) ks) (sym same) (on r)
]

pub goes_keeps : {P K : Type 0} (net : Net P K) (Fits : P → K → Type 0)
    (arrives : (p q : P) (k : K) → Fits p k → net.next p k ≡ To q → AllByRecursion (Fits q) (net.becomes q k)) (p q : P) (old new : P → List K)
    → AreOnWay Fits old → Goes net p q old new → AreOnWay Fits new
goes_keeps net Fits arrives p q old new on s =
    let f = first_of (Fits p) (old p) s.first (new p) s.is (on p) in
    λ r. elim (s.each r) [
      | inl e ↦ subst (λ x. AllByRecursion (Fits x) (new x)) (sym e) (subst (λ ks. AllByRecursion (Fits q) ks) (sym s.put) (all_append (Fits q) (old q) (net.becomes q s.first) (on q) (arrives p q s.first f.0 s.way)))
      | inr far ↦ elim far [
        | inl e ↦ subst (λ x. AllByRecursion (Fits x) (new x)) (sym e) f.1
        | inr same ↦ subst (λ ks. AllByRecursion (Fits r) ks) (sym same) (on r)
      ]
    ]

pub enters_keeps : {P K : Type 0} (Fits : P → K → Type 0) (p : P) (k : K) (old new : P → List K)
    → AreOnWay Fits old → Fits p k → Enters p k old new → AreOnWay Fits new
enters_keeps Fits p k old new on fits s = λ r. elim (s.each r) [
  | inl e ↦ subst (λ x. AllByRecursion (Fits x) (new x)) (sym e) (subst (λ ks. AllByRecursion (Fits p) ks) (sym s.put) (all_append (Fits p) (old p) (k ∷ []) (on p) (fits, tt)))
  | inr same ↦ subst (λ ks. AllByRecursion (Fits r) ks) (sym same) (on r)
]
