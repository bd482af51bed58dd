-- Journals grow, and still agree on every pair.
use Rattle.std.proofs.Common.{◌≡◌, ◌≢◌, ◌⊎◌, ℕ, zero, suc, ◌<◌, List, [], ◌∷◌, ◌++◌, length, map, cond, Bool, true, false, ◌&&◌, eqb, sym, refl, ap, ◌∙◌, subst, inl, inr, arith, Option, None, ne_eqb, set, append-nil, length-set}
use mathlib.Core.Logic.{dite}
use mathlib.Core.Option.{some, some-injective, some-ne-none}
use native.Mathlib.Decide.{ℕ_discrete}
use lib.ListN.{get_elem?, length-map}
use lib.Seq.{map-set}
use Rattle.atomic_table.proofs.Lists.{set_again, at_map}
use Rattle.std.proofs.lemmas.List.Elements.{All-nil, All-head, All-tail, All-append, All-weaker, filter-append}
use Rattle.tn_stamp.specs.declared.entry.Entry.{Entry}
use Rattle.tn_stamp.specs.Merging.{ArePaired, entries_at}
use Rattle.tn_stamp.specs.Pairs.{Pair, pair, pair_of, is_pair, pairing, IsOwn, AllOwn, AllSingle, AllBetween}
use Rattle.tn_turns.specs.Faithful.{IsFaithful}
use Rattle.tn_turns.proofs.ByIndex.{at_within}

-- ---- entries by place

here_now : (js : List (List Entry)) (i : ℕ) (v : List Entry) → i < length js → entries_at (set js i v) i ≡ v
here_now [] i v l = absurd (omega arith)
here_now (x ∷ js) zero v l = refl
here_now (x ∷ js) (suc i) v l = here_now js i v (omega arith)

else_same : (js : List (List Entry)) (i k : ℕ) (v : List Entry) → k ≢ i → entries_at (set js i v) k ≡ entries_at js k
else_same [] i k v n = refl
else_same (x ∷ js) zero zero v n = absurd (n refl)
else_same (x ∷ js) zero (suc k) v n = refl
else_same (x ∷ js) (suc i) zero v n = refl
else_same (x ∷ js) (suc i) (suc k) v n = else_same js i k v (λ e. n (ap suc e))

pub journal_at : {T : Type 0} (journal : T → List Entry) (xs : List T) (k : ℕ) (x : T) → get_elem? xs k ≡ some x → entries_at (map journal xs) k ≡ journal x
journal_at journal [] k x e = absurd (some-ne-none x (sym e))
journal_at journal (y ∷ ys) zero x e = ap journal (some-injective y x e)
journal_at journal (y ∷ ys) (suc k) x e = journal_at journal ys k x e

-- ---- entries on pairs

-- entries on one item or on the pair of i and j are on no other pair
is_off : (i j low high : ℕ) → (low ≢ i) ⊎ (high ≢ j) → (o : Option Pair) → (o ≡ None) ⊎ (o ≡ pair i j) → is_pair o low high ≡ false
is_off i j low high n o (inl e) = ap (λ z. is_pair z low high) e
is_off i j low high (inl n) o (inr e) = ap (λ z. is_pair z low high) e ∙ (λ t. ne_eqb i low (λ q. n (sym q)) t && eqb j high)
is_off i j low high (inr n) o (inr e) = ap (λ z. is_pair z low high) e ∙ and_false (eqb i low) (eqb j high) (ne_eqb j high (λ q. n (sym q)))
  where
    and_false : (a b : Bool) → b ≡ false → (a && b) ≡ false
    and_false true b e = e
    and_false false b e = refl

pairing_off : (n i j low high : ℕ) (es : List Entry) → (low ≢ i) ⊎ (high ≢ j) → AllBetween n i j es → pairing n low high es ≡ []
pairing_off n i j low high [] off h = refl
pairing_off n i j low high (e ∷ es) off h =
    let P : Entry → Type 0 = λ x. (pair_of n x.event ≡ None) ⊎ (pair_of n x.event ≡ pair i j) in
    let rest : List Entry = pairing n low high es in
    (λ t. cond (is_off i j low high off (pair_of n e.event) (All-head P e es h) t) (e ∷ rest) rest) ∙ pairing_off n i j low high es off (All-tail P e es h)

single_between : (n i j : ℕ) (es : List Entry) → AllSingle n es → AllBetween n i j es
single_between n i j es h = All-weaker (λ e. pair_of n e.event ≡ None) (λ e. (pair_of n e.event ≡ None) ⊎ (pair_of n e.event ≡ pair i j)) (λ e p. inl p) es h

-- ---- growing

-- journals that grow, each by entries on itself, the two of each pair alike
grows : (js js' : List (List Entry)) → length js' ≡ length js
    → (more : (k : ℕ) → (ds : List Entry) × (entries_at js' k ≡ entries_at js k ++ ds) × AllOwn (length js) k ds)
    → ((low high : ℕ) → pairing (length js) low high (more low).0 ≡ pairing (length js) low high (more high).0)
    → ArePaired js → ArePaired js'
grows js js' size more alike p = let n : ℕ = length js in record {
  own = λ k. let m = more k in subst (λ z. AllOwn z k (entries_at js' k)) (sym size) (subst (AllOwn n k) (sym m.1) (All-append (λ e. IsOwn n k (pair_of n e.event)) (entries_at js k) m.0 (p.own k) m.2));
  paired = λ low high. subst (λ z. pairing z low high (entries_at js' low) ≡ pairing z low high (entries_at js' high)) (sym size)
      (ap (pairing n low high) (more low).1 ∙ (filter-append _ (entries_at js low) (more low).0 ∙ ((λ t. p.paired low high t ++ alike low high t) ∙ (sym (filter-append _ (entries_at js high) (more high).0) ∙ sym (ap (pairing n low high) (more high).1)))));
}

module _ (js : List (List Entry)) (i j : ℕ) (es fs : List Entry) (order : i < j) (inside : j < length js)
    (first : AllBetween (length js) i j es) (second : AllBetween (length js) i j fs) (alike : pairing (length js) i j es ≡ pairing (length js) i j fs) where
  -- what journal k grows by
  abbrev Grown : ℕ → List Entry → Type 0
  Grown k ds = ((k ≡ i) × (ds ≡ es)) ⊎ (((k ≡ j) × (ds ≡ fs)) ⊎ ((k ≢ i) × (k ≢ j) × (ds ≡ [])))

  between : (k : ℕ) (ds : List Entry) → Grown k ds → AllBetween (length js) i j ds
  between k ds (inl a) = subst (AllBetween (length js) i j) (sym a.1) first
  between k ds (inr (inl a)) = subst (AllBetween (length js) i j) (sym a.1) second
  between k ds (inr (inr a)) = subst (AllBetween (length js) i j) (sym a.2) (All-nil _)

  at_first : (k : ℕ) (ds : List Entry) → k ≡ i → Grown k ds → ds ≡ es
  at_first k ds e (inl a) = a.1
  at_first k ds e (inr (inl a)) = let q = a.0 in absurd (omega arith)
  at_first k ds e (inr (inr a)) = absurd (a.0 e)

  at_second : (k : ℕ) (ds : List Entry) → k ≡ j → Grown k ds → ds ≡ fs
  at_second k ds e (inl a) = let q = a.0 in absurd (omega arith)
  at_second k ds e (inr (inl a)) = a.1
  at_second k ds e (inr (inr a)) = absurd (a.1 e)

  grown_alike : (low high : ℕ) (ds gs : List Entry) → Grown low ds → Grown high gs → pairing (length js) low high ds ≡ pairing (length js) low high gs
  grown_alike low high ds gs a b = let n : ℕ = length js in
      dite (ℕ_discrete low i) (λ l. dite (ℕ_discrete high j)
      (λ h. ap (pairing n low high) (at_first low ds l a) ∙ ((λ t. pairing n (l t) (h t) es) ∙ (alike ∙ ((λ t. pairing n (sym l t) (sym h t) fs) ∙ ap (pairing n low high) (sym (at_second high gs h b))))))
      (λ h. pairing_off n i j low high ds (inr h) (between low ds a) ∙ sym (pairing_off n i j low high gs (inr h) (between high gs b))))
      (λ l. pairing_off n i j low high ds (inl l) (between low ds a) ∙ sym (pairing_off n i j low high gs (inl l) (between high gs b)))

  owned : (k : ℕ) → (i ≡ k) ⊎ (j ≡ k) → (gs : List Entry) → AllBetween (length js) i j gs → AllOwn (length js) k gs
  owned k here gs h = All-weaker _ (λ e. IsOwn (length js) k (pair_of (length js) e.event)) (λ e. each (pair_of (length js) e.event)) gs h
    where
      each : (o : Option Pair) → (o ≡ None) ⊎ (o ≡ pair i j) → IsOwn (length js) k o
      each o (inl p) = subst (IsOwn (length js) k) (sym p) tt
      each o (inr p) = subst (IsOwn (length js) k) (sym p) (order, inside, here)

  grown_owned : (k : ℕ) (ds : List Entry) → Grown k ds → AllOwn (length js) k ds
  grown_owned k ds (inl a) = subst (AllOwn (length js) k) (sym a.1) (owned k (inl (sym a.0)) es first)
  grown_owned k ds (inr (inl a)) = subst (AllOwn (length js) k) (sym a.1) (owned k (inr (sym a.0)) fs second)
  grown_owned k ds (inr (inr a)) = subst (AllOwn (length js) k) (sym a.2) (All-nil _)

  grown_at : (k : ℕ) → (ds : List Entry) × (entries_at (set (set js j (entries_at js j ++ fs)) i (entries_at js i ++ es)) k ≡ entries_at js k ++ ds) × Grown k ds
  grown_at k = let mid : List (List Entry) = set js j (entries_at js j ++ fs) in let v : List Entry = entries_at js i ++ es in
      let long : length mid ≡ length js = length-set js j (entries_at js j ++ fs) in
      dite (ℕ_discrete k i)
      (λ h. (es, subst (λ z. entries_at (set mid i v) z ≡ entries_at js z ++ es) (sym h) (here_now mid i v (omega arith)), inl (h, refl)))
      (λ n. dite (ℕ_discrete k j)
      (λ h. (fs, else_same mid i k v n ∙ subst (λ z. entries_at mid z ≡ entries_at js z ++ fs) (sym h) (here_now js j (entries_at js j ++ fs) inside), inr (inl (h, refl))))
      (λ m. ([], else_same mid i k v n ∙ (else_same js j k (entries_at js j ++ fs) m ∙ sym (append-nil (entries_at js k))), inr (inr (n, m, refl)))))

  pub paired_two : ArePaired js → ArePaired (set (set js j (entries_at js j ++ fs)) i (entries_at js i ++ es))
  paired_two p = grows js (set (set js j (entries_at js j ++ fs)) i (entries_at js i ++ es))
      (length-set (set js j (entries_at js j ++ fs)) i (entries_at js i ++ es) ∙ length-set js j (entries_at js j ++ fs))
      (λ k. let g = grown_at k in (g.0, g.1, grown_owned k g.0 g.2))
      (λ low high. let a = grown_at low in let b = grown_at high in grown_alike low high a.0 b.0 a.2 b.2) p

-- one journal grows by entries on one item
module _ (js : List (List Entry)) (i : ℕ) (es : List Entry) (inside : i < length js) (single : AllSingle (length js) es) where
  abbrev Added : ℕ → List Entry → Type 0
  Added k ds = (entries_at (set js i (entries_at js i ++ es)) k ≡ entries_at js k ++ ds) × AllSingle (length js) ds

  added_at : (k : ℕ) → (ds : List Entry) × Added k ds
  added_at k = let v : List Entry = entries_at js i ++ es in
      dite (ℕ_discrete k i)
      (λ h. (es, (subst (λ z. entries_at (set js i v) z ≡ entries_at js z ++ es) (sym h) (here_now js i v inside), single)))
      (λ n. ([], (else_same js i k v n ∙ sym (append-nil (entries_at js k)), All-nil _)))

  single_off : (low high : ℕ) (ds : List Entry) → AllSingle (length js) ds → pairing (length js) low high ds ≡ []
  single_off low high ds h = pairing_off (length js) (suc low) high low high ds (inl (λ e. omega arith)) (single_between (length js) (suc low) high ds h)

  single_own : (k : ℕ) (ds : List Entry) → AllSingle (length js) ds → AllOwn (length js) k ds
  single_own k ds h = All-weaker (λ e. pair_of (length js) e.event ≡ None) (λ e. IsOwn (length js) k (pair_of (length js) e.event)) (λ e p. subst (IsOwn (length js) k) (sym p) tt) ds h

  pub paired_one : ArePaired js → ArePaired (set js i (entries_at js i ++ es))
  paired_one p = grows js (set js i (entries_at js i ++ es)) (length-set js i (entries_at js i ++ es))
      (λ k. let a = added_at k in (a.0, a.1.0, single_own k a.0 a.1.1))
      (λ low high. let a = added_at low in let b = added_at high in single_off low high a.0 a.1.1 ∙ sym (single_off low high b.0 b.1.1)) p

-- ---- items

module _ {T St : Type 0} (start : T → St) (journal : T → List Entry) (firsts shown : List T) where
  starts_set : (i : ℕ) (x a : T) → get_elem? shown i ≡ some x → start a ≡ start x → map start (set shown i a) ≡ map start shown
  starts_set i x a at e = map-set start shown i a ∙ set_again (map start shown) i (start a) (at_map start shown i x at ∙ ap (λ z. some z) (sym e))

  journal_set : (i : ℕ) (x a : T) (es : List Entry) → get_elem? shown i ≡ some x → journal a ≡ journal x ++ es → map journal (set shown i a) ≡ set (map journal shown) i (entries_at (map journal shown) i ++ es)
  journal_set i x a es at grown = map-set journal shown i a ∙ ap (set (map journal shown) i) (grown ∙ ap (λ js. js ++ es) (sym (journal_at journal shown i x at)))

  counted : IsFaithful start journal firsts shown → length (map journal shown) ≡ length firsts
  counted f = length-map shown journal ∙ (sym (length-map shown start) ∙ (ap length f.starts ∙ length-map firsts start))

  -- the item i grows by es
  pub grown_one : (i : ℕ) (x a : T) (es : List Entry) → get_elem? shown i ≡ some x → start a ≡ start x → journal a ≡ journal x ++ es → AllSingle (length firsts) es
      → IsFaithful start journal firsts shown → IsFaithful start journal firsts (set shown i a)
  grown_one i x a es at same grown single f = let js : List (List Entry) = map journal shown in let n = counted f in
      let inside : i < length js = let l = length-map shown journal in let h = at_within shown i x at in omega arith in record {
        starts = starts_set i x a at same ∙ f.starts;
        paired = subst ArePaired (sym (journal_set i x a es at grown)) (paired_one js i es inside (subst (λ z. AllSingle z es) (sym n) single) f.paired);
      }

module _ {T St : Type 0} (start : T → St) (journal : T → List Entry) (firsts shown : List T) where
  -- i grows by es, and j by fs, alike on their pair
  pub grown_two : (i j : ℕ) (x a y b : T) (es fs : List Entry) → i < j → get_elem? shown i ≡ some x → get_elem? (set shown j b) i ≡ some x → get_elem? shown j ≡ some y → start a ≡ start x → start b ≡ start y
      → journal a ≡ journal x ++ es → journal b ≡ journal y ++ fs → AllBetween (length firsts) i j es → AllBetween (length firsts) i j fs → pairing (length firsts) i j es ≡ pairing (length firsts) i j fs
      → IsFaithful start journal firsts shown → IsFaithful start journal firsts (set (set shown j b) i a)
  grown_two i j x a y b es fs order at_i at_i' at_j same_i same_j grown_i grown_j first second alike f =
      let js : List (List Entry) = map journal shown in let mid : List T = set shown j b in let n = counted start journal firsts shown f in
      let inside : j < length js = let l = length-map shown journal in let h = at_within shown j y at_j in omega arith in
      let now : map journal (set mid i a) ≡ set (set js j (entries_at js j ++ fs)) i (entries_at js i ++ es) =
      map-set journal mid i a ∙ ((λ t. set (journal_set start journal firsts shown j y b fs at_j grown_j t) i (journal a)) ∙ ap (set (set js j (entries_at js j ++ fs)) i) (grown_i ∙ ap (λ z. z ++ es) (sym (journal_at journal shown i x at_i)))) in record {
        starts = starts_set start journal firsts mid i x a at_i' same_i ∙ (starts_set start journal firsts shown j y b at_j same_j ∙ f.starts);
        paired = subst ArePaired (sym now) (paired_two js i j es fs order inside (subst (λ z. AllBetween z i j es) (sym n) first) (subst (λ z. AllBetween z i j fs) (sym n) second)
            (subst (λ z. pairing z i j es ≡ pairing z i j fs) (sym n) alike) f.paired);
      }
