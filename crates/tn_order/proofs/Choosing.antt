-- Which numbers are meant: those of the sends that name the receiver, by all that is ever done.
use Rattle.std.proofs.Common.{ℕ, ◌≡◌, ◌==◌, ◌&&◌, Bool, true, false, cond, refl, sym, ◌∙◌, ap, subst, inl, inr, arith, List, [], ◌∷◌, ◌++◌}
use Rattle.std.proofs.lemmas.Bool.{and_parts, cases_Bool, eq-eqb, eqb-true}
use Rattle.tn_base.specs.declared.message.Dest.{Dest}
use Rattle.tn_base.specs.declared.message.Dest.TheVariants as dest
use Rattle.tn_base.specs.declared.shape.ShapeNumbers.{ShapeNumbers}
use Rattle.tn_base.specs.Shape.{WithinLimits}
use Rattle.tn_order.specs.Acting.{ActsFit}
use Rattle.tn_order.specs.Acts.{Act, Sent, Handed, Dropped, AmongActs, HasEnded, InOrder, Rises, names}
use Rattle.tn_order.specs.History.{behind, gone_of, receiver_of, sent_of}
use Rattle.tn_order.specs.Moving.{IsReceiver}
use Rattle.tn_order.specs.Net.{In}
use Rattle.tn_order.proofs.Naming.{names_for}
use Rattle.tn_order.proofs.Sending.{AreGood, IsGoodAct}

-- where the send of an origin and a number went; a key, if there was no such send
abbrev pub dest_of : ℕ → ℕ → List Act → Dest
dest_of s n [] = dest.Key 0
dest_of s n (Sent t k to ∷ past) = cond (t == s && k == n) to (dest_of s n past)
dest_of s n (Handed t k a ∷ past) = dest_of s n past
dest_of s n (Dropped t k a ∷ past) = dest_of s n past

abbrev pub chosen : ℕ → ℕ → List Act → ℕ → ℕ → Bool
chosen s receiver all t n = t == s && names (dest_of t n all) receiver

pub own_chosen : (s receiver : ℕ) (all : List Act) (t n : ℕ) → chosen s receiver all t n ≡ true → t ≡ s
own_chosen s receiver all t n e = eqb-true t s (and_parts _ _ e).0

-- each send has a greater number than those before it, the last one first
abbrev pub Tidy : List Act → Type 0
Tidy [] = Unit {0}
Tidy (x ∷ past) = Rises past x × Tidy past

pub good_rises : (n : ShapeNumbers) (past : List Act) (x : Act) → IsGoodAct n past x → Rises past x
good_rises n past (Sent t k to) g = g.1
good_rises n past (Handed t k a) g = tt
good_rises n past (Dropped t k a) g = tt

pub tidy_good : (n : ShapeNumbers) (xs past : List Act) → AreGood n past xs → Tidy past → Tidy (behind xs past)
tidy_good n [] past g t = t
tidy_good n (x ∷ xs) past g t = tidy_good n xs (x ∷ past) g.1 (good_rises n past x g.0, t)

pub among_later : (x : Act) (xs past : List Act) → AmongActs x past → AmongActs x (behind xs past)
among_later x [] past i = i
among_later x (y ∷ xs) past i = among_later x xs (y ∷ past) (inr i)

same_dest : (a b k l : ℕ) (d e : Dest) → Sent a k d ≡ Sent b l e → d ≡ e
same_dest a b k l d e h = cc h

same_from : (a b k l : ℕ) (d e : Dest) → Sent a k d ≡ Sent b l e → (a ≡ b) × (k ≡ l)
same_from a b k l d e h = (cc h, cc h)

pub dest_is : (all : List Act) (s n : ℕ) (d : Dest) → Tidy all → AmongActs (Sent s n d) all → dest_of s n all ≡ d
dest_is [] s n d t i = absurd i
dest_is (Handed x k a ∷ past) s n d t i = elim i [ inl e ↦ cc e | inr j ↦ dest_is past s n d t.1 j ]
dest_is (Dropped x k a ∷ past) s n d t i = elim i [ inl e ↦ cc e | inr j ↦ dest_is past s n d t.1 j ]
dest_is (Sent x k to ∷ past) s n d t i = elim (cases_Bool (x == s && k == n)) [
  | inl yes_ ↦
      let p = and_parts _ _ yes_ in
      ap (λ b. cond b to (dest_of s n past)) yes_ ∙ elim i [
        | inl e ↦ sym (same_dest s x n k d to e)
        | inr j ↦ (let a = eqb-true x s p.0 in let b = eqb-true k n p.1 in let l = t.0 n d (subst (λ z. AmongActs (Sent z n d) past) (sym a) j) in absurd (omega arith))
      ]
  | inr not_ ↦ ap (λ b. cond b to (dest_of s n past)) not_ ∙ elim i [
    | inl e ↦ (let f = same_from s x n k d to e in let g : (x == s && k == n) ≡ true = ap (λ b. b && k == n) (eq-eqb x s (sym f.0)) ∙ eq-eqb k n (sym f.1) in let h : true ≡ false = sym g ∙ not_ in cc h)
    | inr j ↦ dest_is past s n d t.1 j
  ]
]

pub is_chosen : (s receiver n : ℕ) (d : Dest) (all : List Act) → Tidy all → AmongActs (Sent s n d) all → names d receiver ≡ true → chosen s receiver all s n ≡ true
is_chosen s receiver n d all t i e = ap (λ b. b && names (dest_of s n all) receiver) (eq-eqb s s refl) ∙ (ap (λ x. names x receiver) (dest_is all s n d t i) ∙ e)

-- what was sent and is meant is a send of the past
pub sent_among : (mine : ℕ → ℕ → Bool) (past : List Act) (m : ℕ) → In m (sent_of mine past) → (t : ℕ) × (d : Dest) × (mine t m ≡ true) × AmongActs (Sent t m d) past
sent_among mine [] m i = absurd i
sent_among mine (Handed t k a ∷ past) m i = let r = sent_among mine past m i in (r.0, r.1, r.2, inr r.3)
sent_among mine (Dropped t k a ∷ past) m i = let r = sent_among mine past m i in (r.0, r.1, r.2, inr r.3)
sent_among mine (Sent t k to ∷ past) m i = elim (cases_Bool (mine t k)) [
  | inr other ↦ (let r = sent_among mine past m (subst (λ l. In m l) (ap (λ b. cond b (k ∷ sent_of mine past) (sent_of mine past)) other) i) in (r.0, r.1, r.2, inr r.3))
  | inl meant ↦ elim (subst (λ l. In m l) (ap (λ b. cond b (k ∷ sent_of mine past) (sent_of mine past)) meant) i) [
    | inl e ↦ (t, to, ap (mine t) e ∙ meant, inl (ap (λ z. Sent t z to) e))
    | inr j ↦ (let r = sent_among mine past m j in (r.0, r.1, r.2, inr r.3))
  ]
]

-- and the other way round
pub among_sent : (mine : ℕ → ℕ → Bool) (past : List Act) (s m : ℕ) (d : Dest) → mine s m ≡ true → AmongActs (Sent s m d) past → In m (sent_of mine past)
among_sent mine [] s m d meant i = absurd i
among_sent mine (Handed t k a ∷ past) s m d meant i = elim i [ inl e ↦ cc e | inr j ↦ among_sent mine past s m d meant j ]
among_sent mine (Dropped t k a ∷ past) s m d meant i = elim i [ inl e ↦ cc e | inr j ↦ among_sent mine past s m d meant j ]
among_sent mine (Sent t k to ∷ past) s m d meant i = elim (cases_Bool (mine t k)) [
  | inl yes_ ↦ subst (λ l. In m l) (sym (ap (λ b. cond b (k ∷ sent_of mine past) (sent_of mine past)) yes_)) (elim i [ inl e ↦ inl (same_from s t m k d to e).1 | inr j ↦ inr (among_sent mine past s m d meant j) ])
  | inr other ↦ elim i [
    | inl e ↦ (let f = same_from s t m k d to e in let g : mine t k ≡ true = ap (λ z. mine z k) (sym f.0) ∙ (ap (mine s) (sym f.1) ∙ meant) in let h : true ≡ false = sym g ∙ other in cc h)
    | inr j ↦ subst (λ l. In m l) (sym (ap (λ b. cond b (k ∷ sent_of mine past) (sent_of mine past)) other)) (among_sent mine past s m d meant j)
  ]
]

-- what is gone was handed or dropped
pub gone_ended : (mine : ℕ → ℕ → Bool) (receiver s m : ℕ) (past : List Act) → ((t k : ℕ) → mine t k ≡ true → t ≡ s) → In m (gone_of mine receiver past) → HasEnded s m receiver past
gone_ended mine receiver s m [] own i = absurd i
gone_ended mine receiver s m (Sent t k to ∷ past) own i = elim (gone_ended mine receiver s m past own i) [ inl e ↦ inl (inr e) | inr e ↦ inr (inr e) ]
gone_ended mine receiver s m (Handed t k a ∷ past) own i = elim (cases_Bool (mine t k && a == receiver)) [
  | inr other ↦ elim (gone_ended mine receiver s m past own (subst (λ l. In m l) (ap (λ b. cond b (k ∷ gone_of mine receiver past) (gone_of mine receiver past)) other) i)) [ inl e ↦ inl (inr e) | inr e ↦ inr (inr e) ]
  | inl meant ↦ elim (subst (λ l. In m l) (ap (λ b. cond b (k ∷ gone_of mine receiver past) (gone_of mine receiver past)) meant) i) [
    | inr j ↦ elim (gone_ended mine receiver s m past own j) [ inl e ↦ inl (inr e) | inr e ↦ inr (inr e) ]
    | inl e ↦ (let p = and_parts _ _ meant in let o = own t k p.0 in let r = eqb-true a receiver p.1 in inl (inl (λ z. Handed (sym o z) (e z) (sym r z))))
  ]
]
gone_ended mine receiver s m (Dropped t k a ∷ past) own i = elim (cases_Bool (mine t k && a == receiver)) [
  | inr other ↦ elim (gone_ended mine receiver s m past own (subst (λ l. In m l) (ap (λ b. cond b (k ∷ gone_of mine receiver past) (gone_of mine receiver past)) other) i)) [ inl e ↦ inl (inr e) | inr e ↦ inr (inr e) ]
  | inl meant ↦ elim (subst (λ l. In m l) (ap (λ b. cond b (k ∷ gone_of mine receiver past) (gone_of mine receiver past)) meant) i) [
    | inr j ↦ elim (gone_ended mine receiver s m past own j) [ inl e ↦ inl (inr e) | inr e ↦ inr (inr e) ]
    | inl e ↦ (let p = and_parts _ _ meant in let o = own t k p.0 in let r = eqb-true a receiver p.1 in inr (inl (λ z. Dropped (sym o z) (e z) (sym r z))))
  ]
]

-- the sends of some acts fit, if all that is ever done is known
pub acts_fit : (n : ShapeNumbers) (goal : Dest) (s : ℕ) (xs rest past all : List Act) → WithinLimits n → IsReceiver n goal → Tidy all → all ≡ behind rest (behind xs past) → AreGood n past xs → ActsFit n goal (chosen s (receiver_of goal) all) past xs
acts_fit n goal s [] rest past all limits there tidy is good = tt
acts_fit n goal s (Handed t k a ∷ xs) rest past all limits there tidy is good = (tt, acts_fit n goal s xs rest (Handed t k a ∷ past) all limits there tidy is good.1)
acts_fit n goal s (Dropped t k a ∷ xs) rest past all limits there tidy is good = (tt, acts_fit n goal s xs rest (Dropped t k a ∷ past) all limits there tidy is good.1)
acts_fit n goal s (Sent t k to ∷ xs) rest past all limits there tidy is good =
    let in_all : AmongActs (Sent t k to) all = subst (AmongActs (Sent t k to)) (sym is) (among_later (Sent t k to) rest (behind xs (Sent t k to ∷ past)) (among_later (Sent t k to) xs (Sent t k to ∷ past) (inl refl))) in (
      λ meant.
          let p = and_parts _ _ meant in
          record {
            for = names_for n goal to limits there good.0.0 (sym (ap (λ d. names d (receiver_of goal)) (dest_is all t k to tidy in_all)) ∙ p.1);
            above = λ m i.
                let r = sent_among (chosen s (receiver_of goal) all) past m i in
                let from : r.0 ≡ t = own_chosen s (receiver_of goal) all r.0 m r.2 ∙ sym (eqb-true t s p.0) in
                good.0.1 m r.1 (subst (λ z. AmongActs (Sent z m r.1) past) from r.3);
          },
      acts_fit n goal s xs rest (Sent t k to ∷ past) all limits there tidy is good.1,
    )

pub order_join : (xs ys past : List Act) → InOrder past xs → InOrder (behind xs past) ys → InOrder past (xs ++ ys)
order_join [] ys past a b = b
order_join (x ∷ xs) ys past a b = (a.0, order_join xs ys (x ∷ past) a.1 b)
