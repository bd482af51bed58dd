-- Taking the entries of all journals in order, by a heap of the next ones.
use Rattle.std.proofs.Common.{◌≡◌, ◌≢◌, ℕ, suc, zero, ◌+◌, ◌-◌, ◌*◌, ◌<◌, ◌≤◌, ◌⊎◌, inl, inr, List, [], ◌∷◌, ◌++◌, length, filter, refl, Bool, true, false, cond, ◌==◌, eqb, Option, Some, None, slice_get, slice_index, get_or, replicate, set, ltb, add-one, take, drop, sym, ◌∙◌, ap, subst, arith, append-nil}
use Rattle.std.specs.BinaryHeap.{IsHeap, IsUpperBound}
use Rattle.std.specs.List.{All, AllByRecursion, Contains}
use Rattle.std.specs.Ordering.{is_lt, ordering_then}
use Rattle.std.specs.declared.cmp.Ordering.TheVariants.{Less, Equal, Greater}
use Rattle.std.specs.List.Sorted.{IsPermutation}
use Rattle.std.proofs.lemmas.List.{get_or-set_same, get_or-set_other, length-map, length-replicate, length-set, map-append}
use Rattle.std.proofs.lemmas.List.Elements.{All-push, All-nil, All-head, All-tail, filter-append}
use Rattle.std.proofs.lemmas.List.Sorted.{Contains-permutation}
use Rattle.std.proofs.lemmas.Bool.{cases_lt}
use Rattle.std.proofs.lemmas.Bool.Decides.{nat_tests}
use Rattle.std.proofs.lemmas.Option.{slice_get_past, slice_get_within}
use Rattle.tn_base.specs.declared.event.Event.{Event}
use Rattle.tn_stamp.specs.declared.entry.Entry.{Entry}
use Rattle.tn_stamp.specs.Heads.{AllRise, AreHeads, Head, IsNext, TakesNext, head_key, head_order}
use Rattle.tn_stamp.specs.Journals.{JournalView, Rises}
use Rattle.tn_stamp.specs.Pairs.{pair_of}
use Rattle.tn_stamp.specs.Merging.{Placed, ArePaired, IsBefore, IsInOrder, IsMerge, entries_at, entries_of, entries_or_none, events_of, head_at, is_least}
use Rattle.tn_stamp.proofs.Merged.{IsOrder, entries, least_in, merge_of, of_journal}
use Rattle.tn_stamp.proofs.Rising.{IsIn, above_low}

-- ---- lists

contains_cases : {X : Type 0} (x y : X) (xs : List X) → Contains (x ∷ xs) y → (x ≡ y) ⊎ Contains xs y
contains_cases x y xs (zero, h, e) = inl e
contains_cases x y xs (suc k, h, e) = inr (k, omega arith, e)

contains_first : {X : Type 0} (x : X) (xs : List X) → Contains (x ∷ xs) x
contains_first x xs = (0, omega arith, refl)

contains_more : {X : Type 0} (x y : X) (xs : List X) → Contains xs y → Contains (x ∷ xs) y
contains_more x y xs (k, h, e) = (suc k, omega arith, e)

-- after a push
pub push_holds : {X : Type 0} (x : X) (xs ys : List X) → IsPermutation (x ∷ xs) ys → Contains ys x × ((y : X) → Contains xs y → Contains ys y)
push_holds x xs ys p = (Contains-permutation (x ∷ xs) ys x p (contains_first x xs), λ y h. Contains-permutation (x ∷ xs) ys y p (contains_more x y xs h))

in_drop : (n : ℕ) (es : List Entry) (x : Entry) → IsIn x (drop n es) → IsIn x es
in_drop zero es x h = h
in_drop (suc n) [] x h = absurd h
in_drop (suc n) (y ∷ es) x h = inr (in_drop n es x h)

in_drop_more : (n : ℕ) (es : List Entry) (x : Entry) → IsIn x (drop (suc n) es) → IsIn x (drop n es)
in_drop_more zero [] x h = absurd h
in_drop_more zero (y ∷ es) x h = inr h
in_drop_more (suc n) [] x h = absurd h
in_drop_more (suc n) (y ∷ es) x h = in_drop_more n es x h

-- what is left begins with its least stamp
head_least : (low n : ℕ) (es : List Entry) (x : Entry) → Rises low es → IsIn x (drop n es) → (h : Entry) × (slice_get es n ≡ Some h) × ((x ≡ h) ⊎ (h.stamp < x.stamp))
head_least low n [] x r i = absurd (in_drop n [] x i)
head_least low zero (y ∷ es) x r (inl i) = (y, refl, inl i)
head_least low zero (y ∷ es) x r (inr i) = (y, refl, inr (above_low y.stamp es x r.1 i))
head_least low (suc n) (y ∷ es) x r i = head_least y.stamp n es x r.1 i

head_strict : (low n : ℕ) (es : List Entry) (h x : Entry) → Rises low es → slice_get es n ≡ Some h → IsIn x (drop (suc n) es) → h.stamp < x.stamp
head_strict low n [] h x r g i = absurd (in_drop (suc n) [] x i)
head_strict low zero (y ∷ es) h x r g i = let s : y ≡ h = cc in rw (← s) (above_low y.stamp es x r.1 i)
head_strict low (suc n) (y ∷ es) h x r g i = head_strict y.stamp n es h x r.1 g i

head_in : (n : ℕ) (es : List Entry) (h : Entry) → slice_get es n ≡ Some h → IsIn h (drop n es)
head_in n [] h g = cc
head_in zero (y ∷ es) h g = inl (let s : h ≡ y = cc in s)
head_in (suc n) (y ∷ es) h g = head_in n es h g

take_head : (n : ℕ) (es : List Entry) (h : Entry) → slice_get es n ≡ Some h → take (suc n) es ≡ take n es ++ h ∷ []
take_head n [] h g = cc
take_head zero (y ∷ es) h g = let s : y ≡ h = cc in rw s refl
take_head (suc n) (y ∷ es) h g = ap (λ zs. y ∷ zs) (take_head n es h g)

take_all : (n : ℕ) (es : List Entry) → slice_get es n ≡ None → take n es ≡ es
take_all zero [] h = refl
take_all (suc n) [] h = refl
take_all zero (y ∷ es) h = cc
take_all (suc n) (y ∷ es) h = ap (λ zs. y ∷ zs) (take_all n es h)

at_most : (x h : Entry) → (x ≡ h) ⊎ (h.stamp < x.stamp) → h.stamp ≤ x.stamp
at_most x h (inl e) = let k = ap (λ (y : Entry). y.stamp) e in omega arith
at_most x h (inr l) = omega arith

in_order_push : (m : List Placed) (e : Placed) → IsInOrder m → All (λ y. IsBefore y e) m → IsInOrder (m ++ e ∷ [])
in_order_push [] e o a = (All-nil (IsBefore e), tt)
in_order_push (x ∷ m) e o a = (All-push (IsBefore x) m e o.0 (All-head (λ y. IsBefore y e) x m a), in_order_push m e o.1 (All-tail (λ y. IsBefore y e) x m a))

eqb_true : (a b : ℕ) → eqb a b ≡ true → a ≡ b
eqb_true a b h = grind (arith, nat_tests)

eqb_false : (a b : ℕ) → eqb a b ≡ false → a ≢ b
eqb_false a b h = λ e. grind (arith, nat_tests)

eqb_self : (a : ℕ) → eqb a a ≡ true
eqb_self a = grind (arith, nat_tests)

-- ---- how far a merge has come

abbrev pub from : ℕ → Entry → Placed
from i e = record { part = i; entry = e }

-- ns i entries of journal i are out, and the heap has the key of each next one
pub record IsMerging {K : Type 0} (key : ℕ → ℕ → K) (js : List (List Entry)) (ns : ℕ → ℕ) (heap : List K) (out : List Placed) : Type 0 where
  pub in_order : IsInOrder out
  pub each : (i : ℕ) → of_journal i out ≡ take (ns i) (entries_at js i)
  pub later : (i : ℕ) (x : Entry) → IsIn x (drop (ns i) (entries_at js i)) → All (λ y. IsBefore y (from i x)) out
  pub heads : (i : ℕ) (x : Entry) → head_at js ns i ≡ Some x → Contains heap (key x.stamp i)

-- one more of part i
abbrev pub moved_on : (ℕ → ℕ) → ℕ → ℕ → ℕ
moved_on ns i j = cond (i == j) (suc (ns j)) (ns j)

-- it starts with nothing out
pub merge_start : {K : Type 0} (key : ℕ → ℕ → K) (js : List (List Entry)) (ns : ℕ → ℕ) (heap : List K) → ((i : ℕ) → ns i ≡ 0) → ((i : ℕ) (x : Entry) → slice_get (entries_at js i) 0 ≡ Some x → Contains heap (key x.stamp i)) → IsMerging key js ns heap []
merge_start key js ns heap none first = record {
  in_order = tt;
  each = λ i. ap (λ k. take k (entries_at js i)) (sym (none i));
  later = λ i x h. All-nil (λ y. IsBefore y (from i x));
  heads = λ i x h. first i x (rw none at h);
}

past_none : (js : List (List Entry)) (ns : ℕ → ℕ) (j : ℕ) → length js ≤ j → head_at js ns j ≡ None
past_none js ns j h = ap (λ o. slice_get (entries_or_none o) (ns j)) (slice_get_past js j h)

none_of : (o : Option Entry) → ((x : Entry) → o ≡ Some x → ⊥) → o ≡ None
none_of None f = refl
none_of (Some x) f = absurd (f x refl)

-- where the heap is empty all entries are out
pub merge_end : {K : Type 0} (key : ℕ → ℕ → K) (js : List (List Entry)) (ns : ℕ → ℕ) (out : List Placed) → IsMerging key js ns [] out → IsOrder js out
merge_end key js ns out m = record {
  in_order = m.in_order;
  each = λ i. m.each i ∙ take_all (ns i) (entries_at js i) (none_of (head_at js ns i) (λ x h. let k = (m.heads i x h).1 in absurd (omega arith)));
}

module _ {K : Type 0} (key : ℕ → ℕ → K) (js : List (List Entry)) (ns : ℕ → ℕ) (heap rest : List K) (out : List Placed) (s i : ℕ) (m : IsMerging key js ns heap out) (popped : IsPermutation heap (key s i ∷ rest)) where
  -- a key of the heap is the one that came out, or it is still there
  still : (y : K) → Contains heap y → (key s i ≡ y) ⊎ Contains rest y
  still y h = contains_cases (key s i) y rest (Contains-permutation heap (key s i ∷ rest) y popped h)

  -- a key that is not that of the journal's next entry counts for nothing
  pub merge_skip : ((x : Entry) → head_at js ns i ≡ Some x → x.stamp ≢ s) → ((t j : ℕ) → key s i ≡ key t j → (s ≡ t) × (i ≡ j)) → IsMerging key js ns rest out
  merge_skip stale apart = record {
    in_order = m.in_order;
    each = m.each;
    later = m.later;
    heads = λ j x h. elim (still (key x.stamp j) (m.heads j x h)) [
      | inl e ↦ let k = apart x.stamp j e in absurd (stale x (rw k.1 h) (sym k.0))
      | inr there ↦ there
    ];
  }

  module _ (ns' : ℕ → ℕ) (heap' : List K) (e : Entry) (rises : (j : ℕ) → Rises 0 (entries_at js j)) (here : head_at js ns i ≡ Some e) (stamp : e.stamp ≡ s)
      (least : (t j : ℕ) → Contains rest (key t j) → (s < t) ⊎ ((s ≡ t) × (i ≤ j)))
      (moved : (j : ℕ) → ns' j ≡ moved_on ns i j)
      (apart : (t j : ℕ) → key s i ≡ key t j → (s ≡ t) × (i ≡ j))
      (kept : (y : K) → Contains rest y → Contains heap' y)
      (pushed : (x : Entry) → slice_get (entries_at js i) (suc (ns i)) ≡ Some x → Contains heap' (key x.stamp i)) where
    out' : List Placed
    out' = out ++ from i e ∷ []

    at_journal : (j : ℕ) (b : Bool) → (i == j) ≡ b → of_journal j (out ++ from i e ∷ []) ≡ take (cond b (suc (ns j)) (ns j)) (entries_at js j)
    at_journal j true t =
        let same : i ≡ j = eqb_true i j t in
        let head : slice_get (entries_at js j) (ns j) ≡ Some e = rw (← same) here in
        ap entries (filter-append (λ (x : Placed). x.part == j) out (from i e ∷ [])) ∙ map-append (λ (x : Placed). x.entry) (filter (λ x. x.part == j) out) (filter (λ x. x.part == j) (from i e ∷ []))
        ∙ ap (λ b. of_journal j out ++ entries (cond b (from i e ∷ []) [])) t
        ∙ ap (λ xs. xs ++ e ∷ []) (m.each j) ∙ sym (take_head (ns j) (entries_at js j) e head)
    at_journal j false t =
        ap entries (filter-append (λ (x : Placed). x.part == j) out (from i e ∷ [])) ∙ map-append (λ (x : Placed). x.entry) (filter (λ x. x.part == j) out) (filter (λ x. x.part == j) (from i e ∷ []))
        ∙ ap (λ b. of_journal j out ++ entries (cond b (from i e ∷ []) [])) t
        ∙ append-nil (of_journal j out) ∙ m.each j

    left_at : (j : ℕ) (x : Entry) (b : Bool) → (i == j) ≡ b → IsIn x (drop (cond b (suc (ns j)) (ns j)) (entries_at js j)) → IsIn x (drop (ns j) (entries_at js j)) × IsBefore (from i e) (from j x)
    left_at j x true t h =
        let same : i ≡ j = eqb_true i j t in
        let head : slice_get (entries_at js j) (ns j) ≡ Some e = rw (← same) here in
        (in_drop_more (ns j) (entries_at js j) x h, inl (head_strict 0 (ns j) (entries_at js j) e x (rises j) head h))
    left_at j x false t h =
        let head = head_least 0 (ns j) (entries_at js j) x (rises j) h in
        let le : head.0.stamp ≤ x.stamp = at_most x head.0 head.2 in
        let other : i ≢ j = eqb_false i j t in (
          h,
          before head.0.stamp le other (elim (still (key head.0.stamp j) (m.heads j head.0 head.1)) [
            | inl k ↦ absurd (other (apart head.0.stamp j k).1)
            | inr there ↦ least head.0.stamp j there
          ]),
        )
      where
        before : (t' : ℕ) → t' ≤ x.stamp → i ≢ j → (s < t') ⊎ ((s ≡ t') × (i ≤ j)) → IsBefore (from i e) (from j x)
        before t' le other (inl l) = inl (omega arith)
        before t' le other (inr k) = elim (cases_lt e.stamp x.stamp) [
          | inl l ↦ inl l
          | inr ge ↦
              let a = k.0 in let b = k.1 in
              inr (omega arith, elim (cases_lt i j) [ inl l ↦ l | inr g ↦ absurd (other (omega arith)) ])
        ]

    head_of : (j : ℕ) (x : Entry) (b : Bool) → (i == j) ≡ b → slice_get (entries_at js j) (cond b (suc (ns j)) (ns j)) ≡ Some x → Contains heap' (key x.stamp j)
    head_of j x true t h = let same : i ≡ j = eqb_true i j t in rw (← same) (pushed x (rw same h))
    head_of j x false t h = elim (still (key x.stamp j) (m.heads j x h)) [
      | inl k ↦ absurd (eqb_false i j t (apart x.stamp j k).1)
      | inr there ↦ kept (key x.stamp j) there
    ]

    -- the next entry comes out
    pub merge_take : IsMerging key js ns' heap' (out ++ from i e ∷ [])
    merge_take = record {
      in_order = in_order_push out (from i e) m.in_order (m.later i e (head_in (ns i) (entries_at js i) e here));
      each = λ j. rw moved (at_journal j (i == j) refl);
      later = λ j x h. let k = left_at j x (i == j) refl (rw moved at h) in All-push (λ y. IsBefore y (from j x)) out (from i e) (m.later j x k.0) k.1;
      heads = λ j x h. head_of j x (i == j) refl (rw moved at h);
    }

-- the events of what is out
pub events_more : (n : ℕ) (out : List Placed) (x : Placed) (es es' : List Event) → es ≡ events_of (filter (least_in n) out) → es' ≡ es ++ cond (least_in n x) (x.entry.event ∷ []) [] → es' ≡ events_of (filter (least_in n) (out ++ x ∷ []))
events_more n out x es es' was now =
    now ∙ ap (λ zs. zs ++ cond (least_in n x) (x.entry.event ∷ []) []) was
    ∙ sym (ap events_of (filter-append (least_in n) out (x ∷ [])) ∙ map-append (λ (y : Placed). y.entry.event) (filter (least_in n) out) (filter (least_in n) (x ∷ [])) ∙ one (least_in n x))
  where
    one : (b : Bool) → events_of (filter (least_in n) out) ++ events_of (cond b (x ∷ []) []) ≡ events_of (filter (least_in n) out) ++ cond b (x.entry.event ∷ []) []
    one true = refl
    one false = refl

-- how many entries are left
abbrev pub left : List (List Entry) → (ℕ → ℕ) → ℕ
left [] ns = 0
left (j ∷ js) ns = (length j - ns 0) + left js (λ k. ns (suc k))

left_no_more : (js : List (List Entry)) (ns ns' : ℕ → ℕ) → ((k : ℕ) → ns k ≤ ns' k) → left js ns' ≤ left js ns
left_no_more [] ns ns' h = omega arith
left_no_more (j ∷ js) ns ns' h = omega (arith, h 0, left_no_more js (λ k. ns (suc k)) (λ k. ns' (suc k)) (λ k. h (suc k)))

left_fewer : (js : List (List Entry)) (ns ns' : ℕ → ℕ) (i : ℕ) (e : Entry) → ((k : ℕ) → ns k ≤ ns' k) → head_at js ns i ≡ Some e → ns i < ns' i → left js ns' < left js ns
left_fewer [] ns ns' i e h g lt = cc
left_fewer (j ∷ js) ns ns' zero e h g lt = omega (arith, slice_get_within j (ns 0) e g, left_no_more js (λ k. ns (suc k)) (λ k. ns' (suc k)) (λ k. h (suc k)))
left_fewer (j ∷ js) ns ns' (suc i) e h g lt = omega (arith, h 0, left_fewer js (λ k. ns (suc k)) (λ k. ns' (suc k)) i e (λ k. h (suc k)) g lt)

up_by : (ns ns' : ℕ → ℕ) (i k : ℕ) (b : Bool) → ns' k ≡ cond b (suc (ns k)) (ns k) → ns k ≤ ns' k
up_by ns ns' i k true e = omega arith
up_by ns ns' i k false e = omega arith

pub left_less : (js : List (List Entry)) (ns ns' : ℕ → ℕ) (i : ℕ) (e : Entry) → head_at js ns i ≡ Some e → ((j : ℕ) → ns' j ≡ moved_on ns i j) → left js ns' < left js ns
left_less js ns ns' i e here moved =
    let more : ns' i ≡ suc (ns i) = moved i ∙ ap (λ b. cond b (suc (ns i)) (ns i)) (eqb_self i) in
    left_fewer js ns ns' i e (λ k. up_by ns ns' i k (i == k) (moved k)) here (omega arith)

-- the next entry of a journal that is there
pub head_within : (js : List (List Entry)) (ns : ℕ → ℕ) (i : ℕ) (e : Entry) → head_at js ns i ≡ Some e → i < length js
head_within [] ns i e h = cc
head_within (j ∷ js) ns zero e h = omega arith
head_within (j ∷ js) ns (suc i) e h = let k = head_within js (λ n. ns (suc n)) i e h in omega arith

-- the events of all that came out are the merge
pub merged : {K : Type 0} (key : ℕ → ℕ → K) (js : List (List Entry)) (ns : ℕ → ℕ) (out : List Placed) (es : List Event) → ArePaired js → ((i : ℕ) → Rises 0 (entries_at js i)) → IsMerging key js ns [] out → es ≡ events_of (filter (least_in (length js)) out) → IsMerge js es
merged key js ns out es fine rises m is = (filter (least_in (length js)) out, merge_of js fine rises out (merge_end key js ns out m), is)

below_or : {X : Type 0} (j n : ℕ) → j < n + 1 → (j < n → X) → (j ≡ n → X) → X
below_or j n lt f g = elim (cases_lt j n) [ inl l ↦ f l | inr ge ↦ g (omega arith) ]

-- the next entry of one more journal goes into the heap, if it has one
pub heads_none : (js : List (List Entry)) (ns : ℕ → ℕ) (n : ℕ) (heap : List Head) → head_at js ns n ≡ None → AreHeads js ns n heap → AreHeads js ns (n + 1) heap
heads_none js ns n heap none are i e lt h = below_or i n lt (λ l. are i e l h) (λ s. let k : head_at js ns n ≡ Some e = rw s at h in cc)

pub heads_some : (js : List (List Entry)) (ns : ℕ → ℕ) (n : ℕ) (heap heap' : List Head) (x : Entry) → head_at js ns n ≡ Some x → IsPermutation (head_key x.stamp n ∷ heap) heap' → AreHeads js ns n heap → AreHeads js ns (n + 1) heap'
heads_some js ns n heap heap' x some p are i e lt h =
    let holds = push_holds (head_key x.stamp n) heap heap' p in
    below_or i n lt (λ l. holds.1 (head_key e.stamp i) (are i e l h))
    (λ s.
    let k : head_at js ns n ≡ Some e = rw s at h in
    let same : Some x ≡ Some e = sym some ∙ k in
    let is : x ≡ e = cc in
    rw (s, ← is) holds.0)

pub heads_next : (js : List (List Entry)) (ns : ℕ → ℕ) (n : ℕ) (heap heap' : List Head) (t : ℕ) (v : Event) → IsNext (head_at js ns n) (Some (t, v)) → IsPermutation (head_key t n ∷ heap) heap' → AreHeads js ns n heap → AreHeads js ns (n + 1) heap'
heads_next js ns n heap heap' t v next p are = heads_some js ns n heap heap' next.0 next.1 (subst (λ k. IsPermutation (head_key k n ∷ heap) heap') (ap (λ q. q.0) next.2) p) are

pub rise_more : (js : List (List Entry)) (n : ℕ) → Rises 0 (entries_at js n) → AllRise js n → AllRise js (n + 1)
rise_more js n r all i lt = below_or i n lt (λ l. all i l) (λ s. rw s r)

-- past the last journal there is nothing
pub rise_all : (js : List (List Entry)) (n : ℕ) → n ≡ length js → AllRise js n → (i : ℕ) → Rises 0 (entries_at js i)
rise_all js n size all i = elim (cases_lt i n) [ inl l ↦ all i l | inr ge ↦ let past : entries_at js i ≡ [] = ap entries_or_none (slice_get_past js i (omega arith)) in rw past tt ]

-- ---- the loop

all_at : {X : Type 0} (P : X → Type 0) (xs : List X) (y : X) → AllByRecursion P xs → Contains xs y → P y
all_at P [] y a (k, h, e) = absurd (omega arith)
all_at P (x ∷ xs) y a (zero, h, e) = subst P e a.0
all_at P (x ∷ xs) y a (suc k, h, e) = all_at P xs y a.1 (k, omega arith, e)

order_first : (t s j i : ℕ) (a b c : Bool) → ltb t s ≡ a → eqb t s ≡ b → ltb j i ≡ c → is_lt (ordering_then (cond a Less (cond b Equal Greater)) (cond c Less (cond (eqb j i) Equal Greater))) ≡ false → (s < t) ⊎ ((s ≡ t) × (i ≤ j))
order_first t s j i true b c p q r h = cc
order_first t s j i false true true p q r h = cc
order_first t s j i false true false p q r h = inr (sym (eqb_true t s q), grind (arith, nat_tests))
order_first t s j i false false c p q r h = inl (let e = eqb_false t s q in let l : s ≤ t = grind (arith, nat_tests) in above l (λ x. e (sym x)))
  where
    above : s ≤ t → (s ≡ t → ⊥) → s < t
    above l e = elim (cases_lt s t) [ inl k ↦ k | inr ge ↦ absurd (e (omega arith)) ]

pub least_of : (s i : ℕ) (rest : List Head) → AllByRecursion (λ y. is_lt (head_order (head_key s i) y) ≡ false) rest → (t j : ℕ) → Contains rest (head_key t j) → (s < t) ⊎ ((s ≡ t) × (i ≤ j))
least_of s i rest all t j h = order_first t s j i (ltb t s) (eqb t s) (ltb j i) refl refl refl (all_at (λ (y : Head). is_lt (head_order (head_key s i) y) ≡ false) rest (head_key t j) all h)

key_apart : (s i t j : ℕ) → head_key s i ≡ head_key t j → (s ≡ t) × (i ≡ j)
key_apart s i t j e = (ap (λ (h : Head). h.0.0) e, ap (λ (h : Head). h.0.1) e)

-- what the loop keeps
pub record IsTaking (js : List (List Entry)) (next : List ℕ) (heap : List Head) (events : List Event) : Type 0 where
  pub out : List Placed
  pub merging : IsMerging head_key js (slice_index next) heap out
  pub events_are : events ≡ events_of (filter (least_in (length js)) out)
  pub size : length next ≡ length js
  pub heaped : IsHeap head_order heap
  pub rises : (i : ℕ) → Rises 0 (entries_at js i)

moved_at : (next : List ℕ) (i j : ℕ) (b : Bool) → (i == j) ≡ b → i < length next → slice_index (set next i (slice_index next i + 1)) j ≡ cond b (suc (slice_index next j)) (slice_index next j)
moved_at next i j true t h = let e = eqb_true i j t in rw (← e) (get_or-set_same next i (slice_index next i + 1) 0 h ∙ add-one (slice_index next i))
moved_at next i j false t h = get_or-set_other next i j (slice_index next i + 1) 0 (λ e. eqb_false i j t (sym e))

module _ (js : List (List Entry)) (next : List ℕ) (heap rest : List Head) (events : List Event) (s i : ℕ) (was : IsTaking js next heap events)
    (popped : IsPermutation heap (head_key s i ∷ rest)) (order : IsHeap head_order heap → IsHeap head_order rest × IsUpperBound head_order (head_key s i) heap) (below : IsHeap head_order heap → IsUpperBound head_order (head_key s i) rest) where
  skipped : ((x : Entry) → head_at js (slice_index next) i ≡ Some x → x.stamp ≢ s) → IsTaking js next rest events
  skipped stale = record {
    out = was.out;
    merging = merge_skip head_key js (slice_index next) heap rest was.out s i was.merging popped stale (λ t j e. key_apart s i t j e);
    events_are = was.events_are;
    size = was.size;
    heaped = (order was.heaped).0;
    rises = was.rises;
  }

  -- the journal has no next entry, or one with another stamp
  pub skip_none : head_at js (slice_index next) i ≡ None → IsTaking js next rest events
  skip_none none = skipped (λ x h. let no : Some x ≡ None = sym h ∙ none in cc)

  pub skip_other : (e : Entry) → head_at js (slice_index next) i ≡ Some e → e.stamp ≢ s → IsTaking js next rest events
  skip_other e some other = skipped (λ x h t. let same : Some e ≡ Some x = sym some ∙ h in let is : e ≡ x = cc in other (ap (λ (z : Entry). z.stamp) is ∙ t))

  pub skip_next : (t : ℕ) (v : Event) → IsNext (head_at js (slice_index next) i) (Some (t, v)) → t ≢ s → IsTaking js next rest events
  skip_next t v n other = skip_other n.0 n.1 (λ e. other (ap (λ q. q.0) n.2 ∙ e))

  -- the next entry is taken
  pub taken : (e : Entry) (heap' : List Head) (events' : List Event) (next' : List ℕ)
      → head_at js (slice_index next) i ≡ Some e → e.stamp ≡ s
      → next' ≡ set next i (slice_index next i + 1)
      → events' ≡ events ++ cond (is_least (pair_of (length js) e.event) i) (e.event ∷ []) []
      → IsHeap head_order heap' → ((y : Head) → Contains rest y → Contains heap' y)
      → ((x : Entry) → head_at js (slice_index next') i ≡ Some x → Contains heap' (head_key x.stamp i))
      → IsTaking js next' heap' events' × (left js (slice_index next') < left js (slice_index next))
  taken e heap' events' next' here stamp next_is events_is heaped kept pushed =
      let there : i < length next = let k = head_within js (slice_index next) i e here in let z = was.size in omega arith in
      let moved : (j : ℕ) → slice_index next' j ≡ moved_on (slice_index next) i j = λ j. rw next_is (moved_at next i j (i == j) refl there) in
      let at_i : slice_index next' i ≡ suc (slice_index next i) = moved i ∙ ap (λ b. cond b (suc (slice_index next i)) (slice_index next i)) (eqb_self i) in (
        record {
          out = was.out ++ from i e ∷ [];
          merging = merge_take head_key js (slice_index next) heap rest was.out s i was.merging popped (slice_index next') heap' e was.rises here stamp
              (least_of s i rest (below was.heaped)) moved (λ t j k. key_apart s i t j k) kept (λ x h. pushed x (rw at_i h));
          events_are = events_more (length js) was.out (from i e) events events' was.events_are events_is;
          size = rw next_is (length-set next i (slice_index next i + 1)) ∙ was.size;
          heaped = heaped;
          rises = was.rises;
        },
        left_less js (slice_index next) (slice_index next') i e here moved,
      )

  pub taken_next : (t : ℕ) (v : Event) (heap' : List Head) (events' : List Event) (next' : List ℕ)
      → IsNext (head_at js (slice_index next) i) (Some (t, v)) → t ≡ s
      → next' ≡ set next i (slice_index next i + 1)
      → events' ≡ events ++ cond (is_least (pair_of (length js) v) i) (v ∷ []) []
      → IsHeap head_order heap' → ((y : Head) → Contains rest y → Contains heap' y)
      → ((x : Entry) → head_at js (slice_index next') i ≡ Some x → Contains heap' (head_key x.stamp i))
      → IsTaking js next' heap' events' × (left js (slice_index next') < left js (slice_index next))
  taken_next t v heap' events' next' n stamp next_is events_is heaped kept pushed =
      taken n.0 heap' events' next' n.1 (sym (ap (λ q. q.0) n.2) ∙ stamp) next_is
      (events_is ∙ ap (λ q. events ++ cond (is_least (pair_of (length js) q.1) i) (q.1 ∷ []) []) n.2) heaped kept pushed

pub takes_none : (js : List (List Entry)) (ns : ℕ → ℕ) (part : ℕ) (heap : List Head) → head_at js ns part ≡ None → TakesNext js ns part heap heap
takes_none js ns part heap none = record { ordered = λ h. h; kept = λ y h. h; there = λ x h. let no : Some x ≡ None = sym h ∙ none in cc }

pub takes_some : (js : List (List Entry)) (ns : ℕ → ℕ) (part : ℕ) (heap heap' : List Head) (e : Entry) → head_at js ns part ≡ Some e → IsPermutation (head_key e.stamp part ∷ heap) heap' → (IsHeap head_order heap → IsHeap head_order heap') → TakesNext js ns part heap heap'
takes_some js ns part heap heap' e some p keeps =
    let holds = push_holds (head_key e.stamp part) heap heap' p in
    record { ordered = keeps; kept = holds.1; there = λ x h. let same : Some e ≡ Some x = sym some ∙ h in let is : e ≡ x = cc in rw (← is) holds.0 }

pub takes_next : (js : List (List Entry)) (ns : ℕ → ℕ) (part : ℕ) (heap heap' : List Head) (t : ℕ) (v : Event) → IsNext (head_at js ns part) (Some (t, v)) → IsPermutation (head_key t part ∷ heap) heap' → (IsHeap head_order heap → IsHeap head_order heap') → TakesNext js ns part heap heap'
takes_next js ns part heap heap' t v n p keeps = takes_some js ns part heap heap' n.0 n.1 (subst (λ k. IsPermutation (head_key k part ∷ heap) heap') (ap (λ q. q.0) n.2) p) keeps

-- it starts
pub taking : (js : List (List Entry)) (next : List ℕ) (heap : List Head) (n k : ℕ) → n ≡ length js → next ≡ replicate k 0 → k ≡ n → AreHeads js (slice_index next) n heap → IsHeap head_order heap → AllRise js n → IsTaking js next heap []
taking js next heap n k size zeros len heads heaped rise = record {
  out = [];
  merging = merge_start head_key js (slice_index next) heap zero_at (λ i x h. heads i x (lt i x h) (subst (λ m. slice_get (entries_at js i) m ≡ Some x) (sym (zero_at i)) h));
  events_are = refl;
  size = rw zeros (length-replicate k 0) ∙ len ∙ size;
  heaped = heaped;
  rises = rise_all js n size rise;
}
  where
    none : (m i : ℕ) → slice_index (replicate m 0) i ≡ 0
    none zero i = refl
    none (suc m) zero = refl
    none (suc m) (suc i) = none m i

    zero_at : (i : ℕ) → slice_index next i ≡ 0
    zero_at i = ap (λ xs. slice_index xs i) zeros ∙ none k i

    lt : (i : ℕ) (x : Entry) → slice_get (entries_at js i) 0 ≡ Some x → i < n
    lt i x h = let k = head_within js (λ j. 0) i x h in omega arith

pub count_of : (js : List JournalView) → length js ≡ length (entries_of js)
count_of js = sym (length-map js (λ (j : JournalView). j.entries))

pub empty_of : {X : Type 0} {n : ℕ} (xs : List X) → n ≡ length xs → n ≡ 0 → xs ≡ []
empty_of [] size none = refl
empty_of (x ∷ xs) size none = absurd (omega arith)

pub index_is : (xs : List ℕ) (i v : ℕ) → i < length xs → v ≡ get_or xs i v → v ≡ slice_index xs i
index_is [] i v h e = absurd (omega arith)
index_is (x ∷ xs) zero v h e = e
index_is (x ∷ xs) (suc i) v h e = index_is xs i v (omega arith) e

-- the journal whose entry is next is there
pub head_there : (js : List (List Entry)) (next : List ℕ) (heap : List Head) (events : List Event) (i : ℕ) (e : Entry) → IsTaking js next heap events → head_at js (slice_index next) i ≡ Some e → i < length next
head_there js next heap events i e was here = let k = head_within js (slice_index next) i e here in let z = was.size in omega arith

pub next_there : (js : List (List Entry)) (next : List ℕ) (heap : List Head) (events : List Event) (i t : ℕ) (v : Event) → IsTaking js next heap events → IsNext (head_at js (slice_index next) i) (Some (t, v)) → i < length next
next_there js next heap events i t v was n = head_there js next heap events i n.0 was n.1

pub less_left : (a b m n k : ℕ) → a < b → k ≤ m + 1 → m + 1 ≡ n → 2 * a + k < 2 * b + n
less_left a b m n k h f e = omega arith

pub events_is : (es es' : List Event) (e : Event) (b : Bool) (count n part : ℕ) → es' ≡ es ++ cond b (e ∷ []) [] → b ≡ is_least (pair_of count e) part → count ≡ n → es' ≡ es ++ cond (is_least (pair_of n e) part) (e ∷ []) []
events_is es es' e b count n part now test same = now ∙ ap (λ t. es ++ cond t (e ∷ []) []) test ∙ ap (λ m. es ++ cond (is_least (pair_of m e) part) (e ∷ []) []) same
