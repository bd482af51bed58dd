-- Changes of spots as changes of the world of one sender and one receiver.
use Rattle.std.proofs.Common.{ℕ, ◌<◌, ◌≡◌, ◌≢◌, Bool, true, false, cond, refl, sym, ◌∙◌, ap, inl, inr, arith, List, [], ◌∷◌, ◌++◌, length, get_or, set, append-nil}
use Rattle.std.specs.Prelude.{◌⊎◌}
use Rattle.std.proofs.lemmas.Bool.{cases_eq}
use Rattle.std.proofs.lemmas.List.{get_or-set_same, get_or-set_other}
use Rattle.tn_base.specs.declared.message.Dest.{Dest}
use Rattle.tn_rows.specs.Events.{with_part}
use Rattle.tn_rows.specs.PartView.{PartView, AbsentV}
use Rattle.tn_rows.specs.WorldView.{WorldView}
use Rattle.tn_order.specs.Net.{Net, In, World, Sends, Moves, Leaves, Rests}
use Rattle.tn_order.specs.Spots.{Item, Spot, numbers, spot_part, standing_at, stands_in}
use Rattle.tn_order.specs.Views.{Takes, Puts}

-- ---- numbers

by_test : (b : Bool) (n : ℕ) (xs ys : List ℕ) → cond b (n ∷ xs ++ ys) (xs ++ ys) ≡ cond b (n ∷ xs) xs ++ ys
by_test true n xs ys = refl
by_test false n xs ys = refl

pub numbers_append : (mine : ℕ → ℕ → Bool) (xs ys : List Item) → numbers mine (xs ++ ys) ≡ numbers mine xs ++ numbers mine ys
numbers_append mine [] ys = refl
numbers_append mine (x ∷ xs) ys = ap (λ l. cond (mine x.origin x.number) (x.number ∷ l) l) (numbers_append mine xs ys) ∙ by_test (mine x.origin x.number) x.number (numbers mine xs) (numbers mine ys)

pub number_yes : (mine : ℕ → ℕ → Bool) (x : Item) → mine x.origin x.number ≡ true → numbers mine (x ∷ []) ≡ x.number ∷ []
number_yes mine x h = ap (λ b. cond b (x.number ∷ []) []) h

pub number_no : (mine : ℕ → ℕ → Bool) (x : Item) → mine x.origin x.number ≡ false → numbers mine (x ∷ []) ≡ []
number_no mine x h = ap (λ b. cond b (x.number ∷ []) []) h

abbrev pub view : (ℕ → ℕ → Bool) → (Spot → List Item) → Spot → List ℕ
view mine f r = numbers mine (f r)

pub takes_numbers : (mine : ℕ → ℕ → Bool) (x : Spot) (gone : List Item) (f g : Spot → List Item) → Takes x gone f g → Takes x (numbers mine gone) (view mine f) (view mine g)
takes_numbers mine x gone f g t = record {
  first = ap (numbers mine) t.first ∙ numbers_append mine gone (g x);
  others = λ r. elim (t.others r) [ inl e ↦ inl e | inr e ↦ inr (ap (numbers mine) e) ];
}

pub puts_numbers : (mine : ℕ → ℕ → Bool) (x : Spot) (come : List Item) (f g : Spot → List Item) → Puts x come f g → Puts x (numbers mine come) (view mine f) (view mine g)
puts_numbers mine x come f g t = record {
  last = ap (numbers mine) t.last ∙ numbers_append mine (f x) come;
  others = λ r. elim (t.others r) [ inl e ↦ inl e | inr e ↦ inr (ap (numbers mine) e) ];
}

-- nothing is taken, and nothing is put
pub takes_none : {A : Type 0} (x : Spot) (f g : Spot → List A) → Takes x [] f g → (r : Spot) → g r ≡ f r
takes_none x f g t r = elim (t.others r) [ inl e ↦ ap g e ∙ sym t.first ∙ ap f (sym e) | inr e ↦ e ]

pub puts_none : {A : Type 0} (x : Spot) (f g : Spot → List A) → Puts x [] f g → (r : Spot) → g r ≡ f r
puts_none x f g t r = elim (t.others r) [ inl e ↦ ap g e ∙ t.last ∙ append-nil (f x) ∙ ap f (sym e) | inr e ↦ e ]

-- a spot that lost its first letter is not as it was
longer : (n : ℕ) (xs : List ℕ) → xs ≡ n ∷ xs → ⊥
longer n xs e = let l = ap length e in omega arith

not_taken : (x r : Spot) (n : ℕ) (f g : Spot → List ℕ) → f x ≡ n ∷ g x → g r ≡ f r → r ≢ x
not_taken x r n f g first same e = longer n (g x) (ap g (sym e) ∙ (same ∙ (ap f e ∙ first)))

taken_each : (x : Spot) (n : ℕ) (f g : Spot → List ℕ) → Takes x (n ∷ []) f g → (r : Spot) → (r ≡ x) ⊎ ((r ≢ x) × (g r ≡ f r))
taken_each x n f g t r = elim (t.others r) [ inl e ↦ inl e | inr e ↦ inr (not_taken x r n f g t.first e, e) ]

-- ---- changes of the world

abbrev pub world : (Spot → List ℕ) → List ℕ → List ℕ → World Spot
world f sent gone = record { place = f; sent = sent; gone = gone }

-- a letter is taken at one spot and put at the next
pub moves : (net : Net Spot) (x y : Spot) (n : ℕ) (f h g : Spot → List ℕ) (sent gone : List ℕ) → x ≢ y → net.Next x y → Takes x (n ∷ []) f h → Puts y (n ∷ []) h g → Moves net x y (world f sent gone) (world g sent gone)
moves net x y n f h g sent gone apart way t u = record {
  first = n;
  is = t.first ∙ ap (λ l. n ∷ l) (elim (u.others x) [ inl e ↦ absurd (apart e) | inr e ↦ sym e ]);
  way = way;
  put = u.last ∙ ap (λ l. l ++ n ∷ []) (elim (t.others y) [ inl e ↦ absurd (apart (sym e)) | inr e ↦ e ]);
  each = λ r. elim (u.others r) [
    | inl e ↦ inl e
    | inr e ↦ elim (taken_each x n f h t r) [
      | inl d ↦ inr (inl d)
      | inr d ↦ inr (inr (d.0, e ∙ d.1))
    ]
  ];
  sent = refl;
  gone = refl;
}

pub rests : (f g : Spot → List ℕ) (sent gone : List ℕ) → ((r : Spot) → g r ≡ f r) → Rests (world f sent gone) (world g sent gone)
rests f g sent gone each = record { each = each; sent = refl; gone = refl }

pub leaves : (x : Spot) (n : ℕ) (f g : Spot → List ℕ) (sent gone : List ℕ) → Takes x (n ∷ []) f g → Leaves x n (world f sent gone) (world g sent (n ∷ gone))
leaves x n f g sent gone t = record { is = t.first; each = taken_each x n f g t; sent = refl; gone = refl }

pub sends : (net : Net Spot) (n : ℕ) (f g : Spot → List ℕ) (sent gone : List ℕ) → ((m : ℕ) → In m sent → m < n) → Puts net.start (n ∷ []) f g → Sends net n (world f sent gone) (world g (n ∷ sent) gone)
sends net n f g sent gone above u = record { above = above; put = u.last; each = u.others; sent = refl; gone = refl }

-- ---- a part of a machine becomes another part

pub at_part : (goal : Dest) (w : WorldView) (p : ℕ) (b : PartView) (r : Spot) → p < length w.parts → spot_part w.shape goal r ≡ p → standing_at goal (with_part w p b) r ≡ stands_in goal b r
at_part goal w p b r within here = ap (λ i. stands_in goal (get_or (set w.parts p b) i AbsentV) r) here ∙ ap (λ x. stands_in goal x r) (get_or-set_same w.parts p b AbsentV within)

pub was_part : (goal : Dest) (w : WorldView) (p : ℕ) (a : PartView) (r : Spot) → get_or w.parts p AbsentV ≡ a → spot_part w.shape goal r ≡ p → standing_at goal w r ≡ stands_in goal a r
was_part goal w p a r is here = ap (λ i. stands_in goal (get_or w.parts i AbsentV) r) here ∙ ap (λ x. stands_in goal x r) is

pub beside : (goal : Dest) (w : WorldView) (p : ℕ) (b : PartView) (r : Spot) → spot_part w.shape goal r ≢ p → standing_at goal (with_part w p b) r ≡ standing_at goal w r
beside goal w p b r ne = ap (λ x. stands_in goal x r) (get_or-set_other w.parts p (spot_part w.shape goal r) b AbsentV ne)

-- the spots of part p but for one are as they were
abbrev pub OthersOn : Dest → WorldView → ℕ → PartView → PartView → Spot → Type 0
OthersOn goal w p a b x = (r : Spot) → spot_part w.shape goal r ≡ p → (r ≡ x) ⊎ (stands_in goal b r ≡ stands_in goal a r)

lift_others : (goal : Dest) (w : WorldView) (p : ℕ) (a b : PartView) (x : Spot) → p < length w.parts → get_or w.parts p AbsentV ≡ a → OthersOn goal w p a b x → (r : Spot) → (r ≡ x) ⊎ (standing_at goal (with_part w p b) r ≡ standing_at goal w r)
lift_others goal w p a b x within is others r = elim (cases_eq (spot_part w.shape goal r) p) [
  | inr ne ↦ inr (beside goal w p b r ne)
  | inl here ↦ elim (others r here) [
    | inl e ↦ inl e
    | inr e ↦ inr (at_part goal w p b r within here ∙ (e ∙ sym (was_part goal w p a r is here)))
  ]
]

pub lift_takes : (goal : Dest) (w : WorldView) (p : ℕ) (a b : PartView) (x : Spot) (gone : List Item) → p < length w.parts → get_or w.parts p AbsentV ≡ a → spot_part w.shape goal x ≡ p → stands_in goal a x ≡ gone ++ stands_in goal b x → OthersOn goal w p a b x →
    Takes x gone (standing_at goal w) (standing_at goal (with_part w p b))
lift_takes goal w p a b x gone within is here first others = record {
  first = was_part goal w p a x is here ∙ (first ∙ ap (λ l. gone ++ l) (sym (at_part goal w p b x within here)));
  others = lift_others goal w p a b x within is others;
}

pub lift_puts : (goal : Dest) (w : WorldView) (p : ℕ) (a b : PartView) (x : Spot) (come : List Item) → p < length w.parts → get_or w.parts p AbsentV ≡ a → spot_part w.shape goal x ≡ p → stands_in goal b x ≡ stands_in goal a x ++ come → OthersOn goal w p a b x →
    Puts x come (standing_at goal w) (standing_at goal (with_part w p b))
lift_puts goal w p a b x come within is here last others = record {
  last = at_part goal w p b x within here ∙ (last ∙ ap (λ l. l ++ come) (sym (was_part goal w p a x is here)));
  others = lift_others goal w p a b x within is others;
}

-- no spot of part p changes
pub lift_same : (goal : Dest) (w : WorldView) (p : ℕ) (a b : PartView) → p < length w.parts → get_or w.parts p AbsentV ≡ a → ((r : Spot) → stands_in goal b r ≡ stands_in goal a r) → (r : Spot) → standing_at goal (with_part w p b) r ≡ standing_at goal w r
lift_same goal w p a b within is same r = elim (cases_eq (spot_part w.shape goal r) p) [
  | inr ne ↦ beside goal w p b r ne
  | inl here ↦ at_part goal w p b r within here ∙ (same r ∙ sym (was_part goal w p a r is here))
]
