-- Each change keeps the order, so the first letter at the end of the way has the least number of all that stand.
use Rattle.std.proofs.Common.{ℕ, zero, suc, ◌+◌, ◌<◌, ◌≤◌, ◌≡◌, ◌≢◌, refl, sym, ◌∙◌, ap, subst, inl, inr, arith, List, [], ◌∷◌, ◌++◌, map}
use Rattle.std.specs.Prelude.{◌⊎◌}
use Rattle.std.proofs.lemmas.Bool.{cases_lt}
use Rattle.tn_order.specs.Net.{Net, IsNet, In, World, Sends, Moves, Leaves, Clears, Rests, Change, Send, Move, Leave, Clear, Rest, Does}
use Rattle.tn_order.specs.Order.{Leads, Aged, number_of, Among, InTurn, Ordered}

-- ---- ways

one_more : (k : ℕ) → suc k ≡ k + 1
one_more k = omega arith

farther : {P : Type 0} (net : Net P) (k : ℕ) (p q r : P) → Leads net k p q → net.Next q r → Leads net (suc k) p r
farther net zero p q r l e = (r, subst (λ x. net.Next x r) (sym l) e, refl)
farther net (suc k) p q r l e = (l.0, l.1, farther net k l.0 q r l.2 e)

-- as many steps lead to one place
one_place : {P : Type 0} (net : Net P) (k : ℕ) (p q r : P) → IsNet net → Leads net k p q → Leads net k p r → q ≡ r
one_place net zero p q r is a b = sym a ∙ b
one_place net (suc k) p q r is a b = one_place net k a.0 q r is a.2 (subst (λ x. Leads net k x r) (is.one p b.0 a.0 b.1 a.1) b.2)

-- a way that is over is no longer
no_longer : {P : Type 0} (net : Net P) (j k : ℕ) (s p q : P) → IsNet net → Leads net j s p → ((r : P) → net.Next p r → ⊥) → Leads net k s q → k ≤ j
no_longer net j zero s p q is a o b = omega arith
no_longer net zero (suc k) s p q is a o b = absurd (o b.0 (subst (λ x. net.Next x b.0) a b.1))
no_longer net (suc j) (suc k) s p q is a o b = let l = no_longer net j k a.0 p q is a.2 o (subst (λ x. Leads net k x q) (is.one s b.0 a.0 b.1 a.1) b.2) in omega arith

-- ---- members

pub cast : {xs ys : List ℕ} (n : ℕ) → xs ≡ ys → In n xs → In n ys
cast n e h = subst (λ l. In n l) e h

pub in_append : (n : ℕ) (xs : List ℕ) (c : ℕ) → In n (xs ++ c ∷ []) → In n xs ⊎ (n ≡ c)
in_append n [] c h = elim h [ inl e ↦ inr e | inr z ↦ absurd z ]
in_append n (x ∷ xs) c h = elim h [
  | inl e ↦ inl (inl e)
  | inr i ↦ elim (in_append n xs c i) [ inl j ↦ inl (inr j) | inr e ↦ inr e ]
]

in_front : (n : ℕ) (xs : List ℕ) (c : ℕ) → In n xs → In n (xs ++ c ∷ [])
in_front n [] c h = absurd h
in_front n (x ∷ xs) c h = elim h [ inl e ↦ inl e | inr i ↦ inr (in_front n xs c i) ]

in_last : (xs : List ℕ) (c : ℕ) → In c (xs ++ c ∷ [])
in_last [] c = inl refl
in_last (x ∷ xs) c = inr (in_last xs c)

recast : {xs ys : List Aged} (x : Aged) → xs ≡ ys → Among x xs → Among x ys
recast x e h = subst (λ l. Among x l) e h

among_append : (x : Aged) (xs : List Aged) (c : Aged) → Among x (xs ++ c ∷ []) → Among x xs ⊎ (x ≡ c)
among_append x [] c h = elim h [ inl e ↦ inr e | inr z ↦ absurd z ]
among_append x (y ∷ ys) c h = elim h [
  | inl e ↦ inl (inl e)
  | inr i ↦ elim (among_append x ys c i) [ inl j ↦ inl (inr j) | inr e ↦ inr e ]
]

turn_append : (xs : List Aged) (c : Aged) → InTurn xs → ((y : Aged) → Among y xs → y.age ≡ c.age → y.number < c.number) → InTurn (xs ++ c ∷ [])
turn_append [] c r b = (λ y i. absurd i, tt)
turn_append (x ∷ xs) c r b = (
  λ y i same. elim (among_append y xs c i) [
    | inl j ↦ r.0 y j same
    | inr e ↦ subst (λ (z : Aged). x.number < z.number) (sym e) (b x (inl refl) (same ∙ ap (λ (z : Aged). z.age) e))
  ],
  turn_append xs c r.1 (λ y i. b y (inr i)),
)

number_last : (xs : List Aged) (c : Aged) → map number_of (xs ++ c ∷ []) ≡ map number_of xs ++ c.number ∷ []
number_last [] c = refl
number_last (x ∷ xs) c = ap (λ l. x.number ∷ l) (number_last xs c)

-- a number of a place is that of a letter there
aged_of : (xs : List Aged) (n : ℕ) → In n (map number_of xs) → (x : Aged) × Among x xs × (x.number ≡ n)
aged_of [] n i = absurd i
aged_of (x ∷ xs) n i = elim i [
  | inl e ↦ (x, inl refl, sym e)
  | inr j ↦ let r = aged_of xs n j in (r.0, inr r.1, r.2)
]

number_in : (xs : List Aged) (x : Aged) → Among x xs → In x.number (map number_of xs)
number_in [] x i = absurd i
number_in (y ∷ ys) x i = elim i [
  | inl e ↦ inl (ap (λ (z : Aged). z.number) e)
  | inr j ↦ inr (number_in ys x j)
]

-- the first letter of a place
record First (xs : List Aged) (n : ℕ) (ns : List ℕ) : Type 0 where
  pub first : Aged
  pub rest : List Aged
  pub is : xs ≡ first ∷ rest
  pub number : first.number ≡ n
  pub others : map number_of rest ≡ ns

first_of : (xs : List Aged) (n : ℕ) (ns : List ℕ) → map number_of xs ≡ n ∷ ns → First xs n ns
first_of [] n ns e = cc
first_of (x ∷ xs) n ns e = record { first = x; rest = xs; is = refl; number = cc; others = cc }

-- a letter that stands is known by its number
letter_known : {P : Type 0} (net : Net P) (w : World P) (o : Ordered net w) (p : P) (x : Aged) → Among x (o.letters p) → In x.number w.sent
letter_known net w o p x i = o.known p x.number (cast x.number (o.shows p) (number_in (o.letters p) x i))

-- ---- a letter moves

abbrev older : Aged → Aged
older x = record { number = x.number; age = x.age + 1 }

-- what stays stood there, and at the place that is left behind the letter that moved
record Stays {P : Type 0} (p : P) (c : Aged) (old : P → List Aged) (r : P) (x : Aged) : Type 0 where
  pub in_old : Among x (old r)
  pub later : r ≡ p → c.age ≡ x.age → c.number < x.number

behind : {P : Type 0} (p r : P) (c x : Aged) (old : P → List Aged) (rest : List Aged) → ((z : P) → InTurn (old z)) → old p ≡ c ∷ rest → r ≡ p → Among x rest → Stays p c old r x
behind p r c x old rest turn is e i = record {
  in_old = subst (λ z. Among x (old z)) (sym e) (recast x (sym is) (inr i));
  later = λ z. (subst (λ l. InTurn l) is (turn p)).0 x i;
}

module _ {P : Type 0} (net : Net P) (is_net : IsNet net) (p q : P) (old new : World P) (o : Ordered net old) (s : Moves net p q old new) where
  f : First (o.letters p) s.first (new.place p)
  f = first_of (o.letters p) s.first (new.place p) (o.shows p ∙ s.is)

  abbrev Where : P → Type 0
  Where r = (r ≡ q) ⊎ ((r ≡ p) ⊎ ((r ≢ p) × (new.place r ≡ old.place r)))

  moved : (r : P) → Where r → List Aged
  moved r (inl e) = o.letters q ++ older f.first ∷ []
  moved r (inr (inl e)) = f.rest
  moved r (inr (inr e)) = o.letters r

  moved_shows : (r : P) (e : Where r) → map number_of (moved r e) ≡ new.place r
  unfolding moved
  moved_shows r (inl e) = number_last (o.letters q) (older f.first) ∙ ap (λ l. l ++ f.first.number ∷ []) (o.shows q) ∙ ap (λ n. old.place q ++ n ∷ []) f.number ∙ sym s.put ∙ ap new.place (sym e)
  moved_shows r (inr (inl e)) = f.others ∙ ap new.place (sym e)
  moved_shows r (inr (inr e)) = o.shows r ∙ sym e.1

  stays_or_moved : (r : P) (e : Where r) (x : Aged) → Among x (moved r e) → ((r ≡ q) × (x ≡ older f.first)) ⊎ Stays p f.first o.letters r x
  unfolding moved
  stays_or_moved r (inl e) x i = elim (among_append x (o.letters q) (older f.first) i) [
    | inr c ↦ inl (e, c)
    | inl j ↦ inr (record { in_old = subst (λ z. Among x (o.letters z)) (sym e) j; later = λ z. absurd (is_net.onward p q s.way (sym e ∙ z)) })
  ]
  stays_or_moved r (inr (inl e)) x i = inr (behind p r f.first x o.letters f.rest o.in_turn f.is e i)
  stays_or_moved r (inr (inr e)) x i = inr (record { in_old = i; later = λ z. absurd (e.0 z) })

  here : Among f.first (o.letters p)
  here = recast f.first (sym f.is) (inl refl)

  moved_ahead : (a b : P) (u : Where a) (v : Where b) (x y : Aged) → Among x (moved a u) → Among y (moved b v) → x.number ≤ y.number → y.age ≤ x.age
  moved_ahead a b u v x y i j le = elim (stays_or_moved a u x i) [
    | inl k ↦ elim (stays_or_moved b v y j) [
      | inl l ↦ (let e = ap (λ (z : Aged). z.age) k.1 in let g = ap (λ (z : Aged). z.age) l.1 in omega arith)
      | inr l ↦ (let e = ap (λ (z : Aged). z.age) k.1 in let g = ap (λ (z : Aged). z.number) k.1 in
          let m = o.ahead p b f.first y here l.in_old (omega arith) in omega arith)
    ]
    | inr k ↦ elim (stays_or_moved b v y j) [
      | inr l ↦ o.ahead a b x y k.in_old l.in_old le
      | inl l ↦ (let e = ap (λ (z : Aged). z.age) l.1 in let g = ap (λ (z : Aged). z.number) l.1 in
          let m = o.ahead a p x f.first k.in_old here (omega arith) in
          elim (cases_lt f.first.age x.age) [
            | inl less ↦ omega arith
            | inr more ↦ (let same : f.first.age ≡ x.age = omega arith in
                let there = one_place net x.age net.start a p is_net (o.on_way a x k.in_old) (subst (λ n. Leads net n net.start p) same (o.on_way p f.first here)) in
                let after = k.later there same in absurd (omega arith))
          ])
    ]
  ]

  moved_turn : (r : P) (e : Where r) → InTurn (moved r e)
  unfolding moved
  moved_turn r (inl e) = turn_append (o.letters q) (older f.first) (o.in_turn q) (λ y i same. elim (cases_lt y.number f.first.number) [
    | inl l ↦ l
    | inr ge ↦ (let l = o.ahead p q f.first y here i ge in absurd (omega arith))
  ])
  moved_turn r (inr (inl e)) = (subst (λ l. InTurn l) f.is (o.in_turn p)).1
  moved_turn r (inr (inr e)) = o.in_turn r

  from_old : (r : P) (e : Where r) (n : ℕ) → In n (new.place r) → In n old.sent
  from_old r (inl e) n i = elim (in_append n (old.place q) s.first (cast n (ap new.place e ∙ s.put) i)) [
    | inl j ↦ o.known q n j
    | inr c ↦ o.known p n (cast n (sym s.is) (inl c))
  ]
  from_old r (inr (inl e)) n i = o.known p n (cast n (sym s.is) (inr (cast n (ap new.place e) i)))
  from_old r (inr (inr e)) n i = o.known r n (cast n e.1 i)

  stands : (r : P) (e : Where r) (n : ℕ) → In n (old.place r) → (x : P) × In n (new.place x)
  stands r (inl e) n i = (q, cast n (sym s.put) (in_front n (old.place q) s.first (cast n (ap old.place e) i)))
  stands r (inr (inl e)) n i = elim (cast n (ap old.place e ∙ s.is) i) [
    | inl c ↦ (q, cast n (sym s.put) (subst (λ z. In z (old.place q ++ s.first ∷ [])) (sym c) (in_last (old.place q) s.first)))
    | inr j ↦ (p, j)
  ]
  stands r (inr (inr e)) n i = (r, cast n (sym e.1) i)

  moves_keep : Ordered net new
  moves_keep = record {
    letters = λ r. moved r (s.each r);
    shows = λ r. moved_shows r (s.each r);
    on_way = λ r x i. elim (stays_or_moved r (s.each r) x i) [
      | inl u ↦ subst (λ (z : Aged). Leads net z.age net.start r) (sym u.1) (subst (λ z. Leads net (f.first.age + 1) net.start z) (sym u.0)
          (subst (λ k. Leads net k net.start q) (one_more f.first.age) (farther net f.first.age net.start p q (o.on_way p f.first here) s.way)))
      | inr u ↦ o.on_way r x u.in_old
    ];
    ahead = λ a b x y i j le. moved_ahead a b (s.each a) (s.each b) x y i j le;
    in_turn = λ r. moved_turn r (s.each r);
    known = λ r n i. cast n (sym s.sent) (from_old r (s.each r) n i);
    kept = λ n i. elim (o.kept n (cast n s.sent i)) [
      | inl g ↦ inl (cast n (sym s.gone) g)
      | inr h ↦ inr (stands h.0 (s.each h.0) n h.1)
    ];
  }

-- ---- a letter leaves

module _ {P : Type 0} (net : Net P) (p : P) (c : ℕ) (old new : World P) (o : Ordered net old) (s : Leaves p c old new) where
  fl : First (o.letters p) c (new.place p)
  fl = first_of (o.letters p) c (new.place p) (o.shows p ∙ s.is)

  abbrev WhereLeft : P → Type 0
  WhereLeft r = (r ≡ p) ⊎ ((r ≢ p) × (new.place r ≡ old.place r))

  left : (r : P) → WhereLeft r → List Aged
  left r (inl e) = fl.rest
  left r (inr e) = o.letters r

  left_shows : (r : P) (e : WhereLeft r) → map number_of (left r e) ≡ new.place r
  unfolding left
  left_shows r (inl e) = fl.others ∙ ap new.place (sym e)
  left_shows r (inr e) = o.shows r ∙ sym e.1

  left_old : (r : P) (e : WhereLeft r) (x : Aged) → Among x (left r e) → Among x (o.letters r)
  unfolding left
  left_old r (inl e) x i = subst (λ z. Among x (o.letters z)) (sym e) (recast x (sym fl.is) (inr i))
  left_old r (inr e) x i = i

  left_turn : (r : P) (e : WhereLeft r) → InTurn (left r e)
  unfolding left
  left_turn r (inl e) = (subst (λ l. InTurn l) fl.is (o.in_turn p)).1
  left_turn r (inr e) = o.in_turn r

  left_known : (r : P) (e : WhereLeft r) (n : ℕ) → In n (new.place r) → In n old.sent
  left_known r (inl e) n i = o.known p n (cast n (sym s.is) (inr (cast n (ap new.place e) i)))
  left_known r (inr e) n i = o.known r n (cast n e.1 i)

  left_stands : (r : P) (e : WhereLeft r) (n : ℕ) → In n (old.place r) → In n new.gone ⊎ ((x : P) × In n (new.place x))
  left_stands r (inl e) n i = elim (cast n (ap old.place e ∙ s.is) i) [
    | inl x ↦ inl (cast n (sym s.gone) (inl x))
    | inr j ↦ inr (p, j)
  ]
  left_stands r (inr e) n i = inr (r, cast n (sym e.1) i)

  leaves_keep : Ordered net new
  leaves_keep = record {
    letters = λ r. left r (s.each r);
    shows = λ r. left_shows r (s.each r);
    on_way = λ r x i. o.on_way r x (left_old r (s.each r) x i);
    ahead = λ a b x y i j le. o.ahead a b x y (left_old a (s.each a) x i) (left_old b (s.each b) y j) le;
    in_turn = λ r. left_turn r (s.each r);
    known = λ r n i. cast n (sym s.sent) (left_known r (s.each r) n i);
    kept = λ n i. elim (o.kept n (cast n s.sent i)) [
      | inl g ↦ inl (cast n (sym s.gone) (inr g))
      | inr h ↦ left_stands h.0 (s.each h.0) n h.1
    ];
  }

-- ---- a letter is sent

abbrev fresh : ℕ → Aged
fresh n = record { number = n; age = 0 }

module _ {P : Type 0} (net : Net P) (c : ℕ) (old new : World P) (o : Ordered net old) (s : Sends net c old new) where
  abbrev WhereSent : P → Type 0
  WhereSent r = (r ≡ net.start) ⊎ (new.place r ≡ old.place r)

  put : (r : P) → WhereSent r → List Aged
  put r (inl e) = o.letters net.start ++ fresh c ∷ []
  put r (inr e) = o.letters r

  put_shows : (r : P) (e : WhereSent r) → map number_of (put r e) ≡ new.place r
  unfolding put
  put_shows r (inl e) = number_last (o.letters net.start) (fresh c) ∙ ap (λ l. l ++ c ∷ []) (o.shows net.start) ∙ sym s.put ∙ ap new.place (sym e)
  put_shows r (inr e) = o.shows r ∙ sym e

  put_or_old : (r : P) (e : WhereSent r) (x : Aged) → Among x (put r e) → ((r ≡ net.start) × (x ≡ fresh c)) ⊎ Among x (o.letters r)
  unfolding put
  put_or_old r (inl e) x i = elim (among_append x (o.letters net.start) (fresh c) i) [
    | inr z ↦ inl (e, z)
    | inl j ↦ inr (subst (λ z. Among x (o.letters z)) (sym e) j)
  ]
  put_or_old r (inr e) x i = inr i

  put_ahead : (a b : P) (u : WhereSent a) (v : WhereSent b) (x y : Aged) → Among x (put a u) → Among y (put b v) → x.number ≤ y.number → y.age ≤ x.age
  put_ahead a b u v x y i j le = elim (put_or_old b v y j) [
    | inl l ↦ (let e = ap (λ (z : Aged). z.age) l.1 in omega arith)
    | inr l ↦ elim (put_or_old a u x i) [
      | inl k ↦ (let e = ap (λ (z : Aged). z.number) k.1 in let m = s.above y.number (letter_known net old o b y l) in absurd (omega arith))
      | inr k ↦ o.ahead a b x y k l le
    ]
  ]

  put_turn : (r : P) (e : WhereSent r) → InTurn (put r e)
  unfolding put
  put_turn r (inl e) = turn_append (o.letters net.start) (fresh c) (o.in_turn net.start) (λ y i same. s.above y.number (letter_known net old o net.start y i))
  put_turn r (inr e) = o.in_turn r

  put_known : (r : P) (e : WhereSent r) (n : ℕ) → In n (new.place r) → In n (c ∷ old.sent)
  put_known r (inl e) n i = elim (in_append n (old.place net.start) c (cast n (ap new.place e ∙ s.put) i)) [
    | inl j ↦ inr (o.known net.start n j)
    | inr z ↦ inl z
  ]
  put_known r (inr e) n i = inr (o.known r n (cast n e i))

  put_stands : (r : P) (e : WhereSent r) (n : ℕ) → In n (old.place r) → (x : P) × In n (new.place x)
  put_stands r (inl e) n i = (net.start, cast n (sym s.put) (in_front n (old.place net.start) c (cast n (ap old.place e) i)))
  put_stands r (inr e) n i = (r, cast n (sym e) i)

  sends_keep : Ordered net new
  sends_keep = record {
    letters = λ r. put r (s.each r);
    shows = λ r. put_shows r (s.each r);
    on_way = λ r x i. elim (put_or_old r (s.each r) x i) [
      | inl u ↦ subst (λ (z : Aged). Leads net z.age net.start r) (sym u.1) (sym u.0)
      | inr j ↦ o.on_way r x j
    ];
    ahead = λ a b x y i j le. put_ahead a b (s.each a) (s.each b) x y i j le;
    in_turn = λ r. put_turn r (s.each r);
    known = λ r n i. cast n (sym s.sent) (put_known r (s.each r) n i);
    kept = λ n i. elim (cast n s.sent i) [
      | inl e ↦ inr (net.start, cast n (sym s.put) (subst (λ z. In z (old.place net.start ++ c ∷ [])) (sym e) (in_last (old.place net.start) c)))
      | inr j ↦ elim (o.kept n j) [
        | inl g ↦ inl (cast n (sym s.gone) g)
        | inr h ↦ inr (put_stands h.0 (s.each h.0) n h.1)
      ]
    ];
  }

-- ---- a place is cleared

module _ {P : Type 0} (net : Net P) (p : P) (old new : World P) (o : Ordered net old) (s : Clears p old new) where
  abbrev WhereCleared : P → Type 0
  WhereCleared r = (r ≡ p) ⊎ (new.place r ≡ old.place r)

  kept_at : (r : P) → WhereCleared r → List Aged
  kept_at r (inl e) = []
  kept_at r (inr e) = o.letters r

  kept_shows : (r : P) (e : WhereCleared r) → map number_of (kept_at r e) ≡ new.place r
  unfolding kept_at
  kept_shows r (inl e) = sym s.none ∙ ap new.place (sym e)
  kept_shows r (inr e) = o.shows r ∙ sym e

  kept_old : (r : P) (e : WhereCleared r) (x : Aged) → Among x (kept_at r e) → Among x (o.letters r)
  unfolding kept_at
  kept_old r (inl e) x i = absurd i
  kept_old r (inr e) x i = i

  kept_turn : (r : P) (e : WhereCleared r) → InTurn (kept_at r e)
  unfolding kept_at
  kept_turn r (inl e) = tt
  kept_turn r (inr e) = o.in_turn r

  kept_known : (r : P) (e : WhereCleared r) (n : ℕ) → In n (new.place r) → In n old.sent
  kept_known r (inl e) n i = absurd (cast n (ap new.place e ∙ s.none) i)
  kept_known r (inr e) n i = o.known r n (cast n e i)

  kept_stands : (r : P) (e : WhereCleared r) (n : ℕ) → In n (old.place r) → In n new.gone ⊎ ((x : P) × In n (new.place x))
  kept_stands r (inl e) n i = inl (s.gone n (inl (cast n (ap old.place e) i)))
  kept_stands r (inr e) n i = inr (r, cast n (sym e) i)

  clears_keep : Ordered net new
  clears_keep = record {
    letters = λ r. kept_at r (s.each r);
    shows = λ r. kept_shows r (s.each r);
    on_way = λ r x i. o.on_way r x (kept_old r (s.each r) x i);
    ahead = λ a b x y i j le. o.ahead a b x y (kept_old a (s.each a) x i) (kept_old b (s.each b) y j) le;
    in_turn = λ r. kept_turn r (s.each r);
    known = λ r n i. cast n (sym s.sent) (kept_known r (s.each r) n i);
    kept = λ n i. elim (o.kept n (cast n s.sent i)) [
      | inl g ↦ inl (s.gone n (inr g))
      | inr h ↦ kept_stands h.0 (s.each h.0) n h.1
    ];
  }

rests_keep : {P : Type 0} (net : Net P) (old new : World P) → Ordered net old → Rests old new → Ordered net new
rests_keep net old new o s = record {
  letters = o.letters;
  shows = λ r. o.shows r ∙ sym (s.each r);
  on_way = o.on_way;
  ahead = o.ahead;
  in_turn = o.in_turn;
  known = λ r n i. cast n (sym s.sent) (o.known r n (cast n (s.each r) i));
  kept = λ n i. elim (o.kept n (cast n s.sent i)) [
    | inl g ↦ inl (cast n (sym s.gone) g)
    | inr h ↦ inr (h.0, cast n (sym (s.each h.0)) h.1)
  ];
}

pub keeps : {P : Type 0} (net : Net P) (c : Change P) (old new : World P) → IsNet net → Ordered net old → Does net c old new → Ordered net new
keeps net (Send n) old new is o s = sends_keep net n old new o s
keeps net (Move p q) old new is o s = moves_keep net is p q old new o s
keeps net (Leave p n) old new is o s = leaves_keep net p n old new o s
keeps net (Clear p) old new is o s = clears_keep net p old new o s
keeps net Rest old new is o s = rests_keep net old new o s

-- ---- the law

pub starts : {P : Type 0} (net : Net P) (w : World P) → ((p : P) → w.place p ≡ []) → w.sent ≡ [] → Ordered net w
starts net w places sent = record {
  letters = λ p. [];
  shows = λ p. sym (places p);
  on_way = λ p x i. absurd i;
  ahead = λ p q x y i j le. absurd i;
  in_turn = λ p. tt;
  known = λ p n i. absurd (cast n (places p) i);
  kept = λ n i. absurd (cast n sent i);
}

-- the first letter of a place from which no way leads on has the least number of all that stand
first_is_least : {P : Type 0} (net : Net P) (w : World P) (p r : P) (m n : ℕ) (rest : List ℕ) → IsNet net → (o : Ordered net w) → ((q : P) → net.Next p q → ⊥) → w.place p ≡ n ∷ rest → In m (w.place r) → n ≤ m
first_is_least net w p r m n rest is o out at i = elim (cases_lt m n) [
  | inr ge ↦ ge
  | inl less ↦
      let y = first_of (o.letters p) n rest (o.shows p ∙ at) in
      let x = aged_of (o.letters r) m (cast m (sym (o.shows r)) i) in
      let here : Among y.first (o.letters p) = recast y.first (sym y.is) (inl refl) in
      let ny = y.number in
      let nx = x.2 in
      let a = o.ahead r p x.0 y.first x.1 here (omega arith) in
      let b = no_longer net y.first.age x.0.age net.start p r is (o.on_way p y.first here) out (o.on_way r x.0 x.1) in
      let same : y.first.age ≡ x.0.age = omega arith in
      let there = one_place net x.0.age net.start r p is (o.on_way r x.0 x.1) (subst (λ k. Leads net k net.start p) same (o.on_way p y.first here)) in
      elim (recast x.0 y.is (subst (λ z. Among x.0 (o.letters z)) there x.1)) [
        | inl e ↦ (let g = ap (λ (z : Aged). z.number) e in absurd (omega arith))
        | inr j ↦ (let l = (subst (λ k. InTurn k) y.is (o.in_turn p)).0 x.0 j same in absurd (omega arith))
      ]
]

-- if the first letter of such a place leaves, each letter of a smaller number was handed or dropped
pub earlier_is_gone : {P : Type 0} (net : Net P) (w : World P) (p : P) (m n : ℕ) (rest : List ℕ) → IsNet net → (o : Ordered net w) → ((q : P) → net.Next p q → ⊥) → w.place p ≡ n ∷ rest → In m w.sent → m < n → In m w.gone
earlier_is_gone net w p m n rest is o out at i less = elim (o.kept m i) [
  | inl g ↦ g
  | inr h ↦ (let l = first_is_least net w p h.0 m n rest is o out at h.1 in absurd (omega arith))
]
