-- Each change of what stands at the spots keeps the order.
use Rattle.std.proofs.Common.{ℕ, ◌<◌, ◌≡◌, ◌≢◌, Bool, true, false, refl, sym, ◌∙◌, ap, subst, inl, inr, List, [], ◌∷◌, ◌++◌, append-nil}
use Rattle.std.proofs.lemmas.Bool.{cases_Bool}
use Rattle.tn_base.specs.declared.message.Dest.{Dest}
use Rattle.tn_base.specs.declared.shape.ShapeNumbers.{ShapeNumbers}
use Rattle.tn_order.specs.Kept.{AllFor, IsFor, Kept, world_of}
use Rattle.tn_order.specs.Net.{Net, IsNet, In, Move, Leave, Rest, Send, Clear}
use Rattle.tn_order.specs.Order.{Ordered}
use Rattle.tn_order.specs.Spots.{Item, Spot, numbers}
use Rattle.tn_order.specs.Views.{Takes, Puts}
use Rattle.tn_order.proofs.Keeps.{keeps}
use Rattle.tn_order.proofs.Views.{leaves, moves, number_no, number_yes, puts_none, puts_numbers, rests, sends, takes_none, takes_numbers, view}

-- ---- what is for the receiver

all_append : (n : ShapeNumbers) (goal : Dest) (mine : ℕ → ℕ → Bool) (xs ys : List Item) → AllFor n goal mine xs → AllFor n goal mine ys → AllFor n goal mine (xs ++ ys)
all_append n goal mine [] ys a b = b
all_append n goal mine (x ∷ xs) ys a b = (a.0, all_append n goal mine xs ys a.1 b)

all_behind : (n : ShapeNumbers) (goal : Dest) (mine : ℕ → ℕ → Bool) (xs ys : List Item) → AllFor n goal mine (xs ++ ys) → AllFor n goal mine ys
all_behind n goal mine [] ys a = a
all_behind n goal mine (x ∷ xs) ys a = all_behind n goal mine xs ys a.1

abbrev pub AllAt : ShapeNumbers → Dest → (ℕ → ℕ → Bool) → (Spot → List Item) → Type 0
AllAt n goal mine f = (r : Spot) → AllFor n goal mine (f r)

all_same : (n : ShapeNumbers) (goal : Dest) (mine : ℕ → ℕ → Bool) (xs ys : List Item) → ys ≡ xs → AllFor n goal mine xs → AllFor n goal mine ys
all_same n goal mine xs ys e a = subst (λ l. AllFor n goal mine l) (sym e) a

pub all_taken : (n : ShapeNumbers) (goal : Dest) (mine : ℕ → ℕ → Bool) (x : Spot) (gone : List Item) (f g : Spot → List Item) → Takes x gone f g → AllAt n goal mine f → AllAt n goal mine g
all_taken n goal mine x gone f g t all r = elim (t.others r) [
  | inr e ↦ all_same n goal mine (f r) (g r) e (all r)
  | inl e ↦ all_same n goal mine (g x) (g r) (ap g e) (all_behind n goal mine gone (g x) (subst (λ l. AllFor n goal mine l) t.first (all x)))
]

pub all_put : (n : ShapeNumbers) (goal : Dest) (mine : ℕ → ℕ → Bool) (x : Spot) (come : List Item) (f g : Spot → List Item) → Puts x come f g → AllFor n goal mine come → AllAt n goal mine f → AllAt n goal mine g
all_put n goal mine x come f g t new all r = elim (t.others r) [
  | inr e ↦ all_same n goal mine (f r) (g r) e (all r)
  | inl e ↦ all_same n goal mine (g x) (g r) (ap g e) (subst (λ l. AllFor n goal mine l) (sym t.last) (all_append n goal mine (f x) come (all x) new))
]

-- the first item of a spot is for the receiver, if it is meant
pub first_for : (n : ShapeNumbers) (goal : Dest) (mine : ℕ → ℕ → Bool) (x : Spot) (i : Item) (f g : Spot → List Item) → Takes x (i ∷ []) f g → AllAt n goal mine f → mine i.origin i.number ≡ true → IsFor n goal i.to
first_for n goal mine x i f g t all h = (subst (λ l. AllFor n goal mine l) t.first (all x)).0 h

-- ---- changes

-- a packet goes on from a spot to the next one, and stays the packet of its origin and number
pub pass : (n : ShapeNumbers) (net : Net Spot) (goal : Dest) (mine : ℕ → ℕ → Bool) (x y : Spot) (i j : Item) (f h g : Spot → List Item) (sent gone : List ℕ) → IsNet net → x ≢ y → j.origin ≡ i.origin → j.number ≡ i.number →
    Takes x (i ∷ []) f h → Puts y (j ∷ []) h g → (mine i.origin i.number ≡ true → IsFor n goal i.to → net.Next x y) → (mine i.origin i.number ≡ true → IsFor n goal i.to → IsFor n goal j.to) → Kept n net goal mine f sent gone → Kept n net goal mine g sent gone
pass n net goal mine x y i j f h g sent gone is apart origin number t u next for k =
    let same : mine j.origin j.number ≡ mine i.origin i.number = ap (λ o. mine o j.number) origin ∙ ap (mine i.origin) number in
    let first = first_for n goal mine x i f h t k.all in
    record {
      order = elim (cases_Bool (mine i.origin i.number)) [
        | inl meant ↦
            let a : Takes x (i.number ∷ []) (view mine f) (view mine h) = subst (λ l. Takes x l (view mine f) (view mine h)) (number_yes mine i meant) (takes_numbers mine x (i ∷ []) f h t) in
            let b : Puts y (i.number ∷ []) (view mine h) (view mine g) = subst (λ l. Puts y l (view mine h) (view mine g)) (number_yes mine j (same ∙ meant) ∙ ap (λ m. m ∷ []) number) (puts_numbers mine y (j ∷ []) h g u) in
            keeps net (Move x y) (world_of mine f sent gone) (world_of mine g sent gone) is k.order (moves net x y i.number (view mine f) (view mine h) (view mine g) sent gone apart (next meant (first meant)) a b)
        | inr other ↦
            let a : Takes x [] (view mine f) (view mine h) = subst (λ l. Takes x l (view mine f) (view mine h)) (number_no mine i other) (takes_numbers mine x (i ∷ []) f h t) in
            let b : Puts y [] (view mine h) (view mine g) = subst (λ l. Puts y l (view mine h) (view mine g)) (number_no mine j (same ∙ other)) (puts_numbers mine y (j ∷ []) h g u) in
            keeps net Rest (world_of mine f sent gone) (world_of mine g sent gone) is k.order (rests (view mine f) (view mine g) sent gone (λ r. puts_none y (view mine h) (view mine g) b r ∙ takes_none x (view mine f) (view mine h) a r))
      ];
      all = all_put n goal mine y (j ∷ []) h g u (λ meant. let m = sym same ∙ meant in for m (first m), tt) (all_taken n goal mine x (i ∷ []) f h t k.all);
    }

-- a packet leaves: it is handed or dropped
pub part_with : (n : ShapeNumbers) (net : Net Spot) (goal : Dest) (mine : ℕ → ℕ → Bool) (x : Spot) (i : Item) (f g : Spot → List Item) (sent gone left : List ℕ) → IsNet net → Takes x (i ∷ []) f g →
    (mine i.origin i.number ≡ true → left ≡ i.number ∷ gone) → (mine i.origin i.number ≡ false → left ≡ gone) → Kept n net goal mine f sent gone → Kept n net goal mine g sent left
part_with n net goal mine x i f g sent gone left is t ends stays k = record {
  order = elim (cases_Bool (mine i.origin i.number)) [
    | inl meant ↦
        let a : Takes x (i.number ∷ []) (view mine f) (view mine g) = subst (λ l. Takes x l (view mine f) (view mine g)) (number_yes mine i meant) (takes_numbers mine x (i ∷ []) f g t) in
        subst (λ l. Ordered net (world_of mine g sent l)) (sym (ends meant)) (keeps net (Leave x i.number) (world_of mine f sent gone) (world_of mine g sent (i.number ∷ gone)) is k.order (leaves x i.number (view mine f) (view mine g) sent gone a))
    | inr other ↦
        let a : Takes x [] (view mine f) (view mine g) = subst (λ l. Takes x l (view mine f) (view mine g)) (number_no mine i other) (takes_numbers mine x (i ∷ []) f g t) in
        subst (λ l. Ordered net (world_of mine g sent l)) (sym (stays other)) (keeps net Rest (world_of mine f sent gone) (world_of mine g sent gone) is k.order (rests (view mine f) (view mine g) sent gone (takes_none x (view mine f) (view mine g) a)))
  ];
  all = all_taken n goal mine x (i ∷ []) f g t k.all;
}

-- a packet is sent
pub begin : (n : ShapeNumbers) (net : Net Spot) (goal : Dest) (mine : ℕ → ℕ → Bool) (x : Spot) (i : Item) (f g : Spot → List Item) (sent more gone : List ℕ) → IsNet net → Puts x (i ∷ []) f g → (mine i.origin i.number ≡ true → x ≡ net.start) →
    (mine i.origin i.number ≡ true → IsFor n goal i.to) → (mine i.origin i.number ≡ true → more ≡ i.number ∷ sent) → (mine i.origin i.number ≡ false → more ≡ sent) → (mine i.origin i.number ≡ true → (m : ℕ) → In m sent → m < i.number) →
    Kept n net goal mine f sent gone → Kept n net goal mine g more gone
begin n net goal mine x i f g sent more gone is u start for adds stays above k = record {
  order = elim (cases_Bool (mine i.origin i.number)) [
    | inl meant ↦
        let a : Puts x (i.number ∷ []) (view mine f) (view mine g) = subst (λ l. Puts x l (view mine f) (view mine g)) (number_yes mine i meant) (puts_numbers mine x (i ∷ []) f g u) in
        let b : Puts net.start (i.number ∷ []) (view mine f) (view mine g) = subst (λ s. Puts s (i.number ∷ []) (view mine f) (view mine g)) (start meant) a in
        subst (λ l. Ordered net (world_of mine g l gone)) (sym (adds meant)) (keeps net (Send i.number) (world_of mine f sent gone) (world_of mine g (i.number ∷ sent) gone) is k.order (sends net i.number (view mine f) (view mine g) sent gone (above meant) b))
    | inr other ↦
        let a : Puts x [] (view mine f) (view mine g) = subst (λ l. Puts x l (view mine f) (view mine g)) (number_no mine i other) (puts_numbers mine x (i ∷ []) f g u) in
        subst (λ l. Ordered net (world_of mine g l gone)) (sym (stays other)) (keeps net Rest (world_of mine f sent gone) (world_of mine g sent gone) is k.order (rests (view mine f) (view mine g) sent gone (puts_none x (view mine f) (view mine g) a)))
  ];
  all = all_put n goal mine x (i ∷ []) f g u (for, tt) k.all;
}

-- nothing that is meant changes
pub stay : (n : ShapeNumbers) (net : Net Spot) (goal : Dest) (mine : ℕ → ℕ → Bool) (f g : Spot → List Item) (sent gone : List ℕ) → IsNet net → ((r : Spot) → g r ≡ f r) → Kept n net goal mine f sent gone → Kept n net goal mine g sent gone
stay n net goal mine f g sent gone is same k = record {
  order = keeps net Rest (world_of mine f sent gone) (world_of mine g sent gone) is k.order (rests (view mine f) (view mine g) sent gone (λ r. ap (numbers mine) (same r)));
  all = λ r. all_same n goal mine (f r) (g r) (same r) (k.all r);
}

-- the whole of a spot is dropped
pub clear : (n : ShapeNumbers) (net : Net Spot) (goal : Dest) (mine : ℕ → ℕ → Bool) (x : Spot) (all : List Item) (f g : Spot → List Item) (sent gone left : List ℕ) → IsNet net → Takes x all f g → g x ≡ [] →
    ((m : ℕ) → In m (numbers mine all) → In m left) → ((m : ℕ) → In m gone → In m left) → Kept n net goal mine f sent gone → Kept n net goal mine g sent left
clear n net goal mine x all f g sent gone left is t none dropped before k = record {
  order = keeps net (Clear x) (world_of mine f sent gone) (world_of mine g sent left) is k.order (record {
    none = ap (numbers mine) none;
    each = λ r. elim (t.others r) [ inl e ↦ inl e | inr e ↦ inr (ap (numbers mine) e) ];
    sent = refl;
    gone = λ m i. elim i [
      | inr j ↦ before m j
      | inl j ↦ dropped m (subst (λ l. In m l) (ap (numbers mine) (t.first ∙ ap (λ l. all ++ l) none ∙ append-nil all)) j)
    ];
  });
  all = all_taken n goal mine x all f g t k.all;
}
