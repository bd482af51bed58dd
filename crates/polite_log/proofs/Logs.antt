-- How many items of a list pass a test, counted from either end.
use Rattle.std.proofs.Common.{ℕ, ◌+◌, ◌≡◌, ◌∙◌, Bool, true, false, cond, List, [], ◌∷◌, ◌++◌, refl, sym, ap, arith}
use Rattle.std.specs.Prelude.{count_by, reverse}
use Rattle.std.proofs.lemmas.List.{reverse-append}
use Rattle.std.proofs.lemmas.List.Sums.{sum_by-append}
use Rattle.polite_edges.specs.declared.deed.Deed.{Deed}
use Rattle.polite_edges.specs.declared.deed.Deed.TheVariants.{Announced, Finished, Inited, Missed, Received, Sent, Stepped}
use Rattle.polite_edges.specs.VertexLog.{sends_of}
use Rattle.polite_log.specs.Log.{is_send_of}

-- ---- counts of a list the other way round

none_more : (a n : ℕ) → 0 + a + n ≡ a + n
none_more a n = omega arith

none_last : (n a : ℕ) → n + (0 + a) ≡ n + a
none_last n a = omega arith

count_cons : {X : Type 0} (p : X → Bool) (x : X) (xs : List X) → count_by p (x ∷ xs) ≡ cond (p x) 1 0 + count_by p xs
count_cons p x xs = sum_by-append (λ y. cond (p y) 1 0) (x ∷ []) xs ∙ none_more (cond (p x) 1 0) (count_by p xs)

count_end : {X : Type 0} (p : X → Bool) (x : X) (xs : List X) → count_by p (xs ++ x ∷ []) ≡ count_by p xs + cond (p x) 1 0
count_end p x xs = sum_by-append (λ y. cond (p y) 1 0) xs (x ∷ []) ∙ none_last (count_by p xs) (cond (p x) 1 0)

add_one : (n m a : ℕ) → n ≡ m → n + a ≡ a + m
add_one n m a e = omega (arith, e)

pub count_reverse : {X : Type 0} (p : X → Bool) (xs : List X) → count_by p (reverse xs) ≡ count_by p xs
count_reverse p [] = refl
count_reverse p (x ∷ xs) =
    ap (count_by p) (reverse-append (x ∷ []) xs)
    ∙ (count_end p x (reverse xs)
    ∙ (add_one (count_by p (reverse xs)) (count_by p xs) (cond (p x) 1 0) (count_reverse p xs) ∙ sym (count_cons p x xs)))

-- ---- how often a vertex has sent

sends_cons : (u : ℕ) (d : Deed) (older : List Deed) → sends_of u (d ∷ older) ≡ cond (is_send_of u d) (1 + sends_of u older) (sends_of u older)
sends_cons u (Inited a d v) older = refl
sends_cons u (Sent s) older = refl
sends_cons u (Received a d e l) older = refl
sends_cons u (Missed a d e) older = refl
sends_cons u (Stepped a d v) older = refl
sends_cons u (Finished a d v) older = refl
sends_cons u (Announced value) older = refl

add_if : (b : Bool) (n : ℕ) → cond b (1 + n) n ≡ cond b 1 0 + n
add_if true n = refl
add_if false n = omega arith

sends_count : (u : ℕ) (ds : List Deed) → sends_of u ds ≡ count_by (is_send_of u) ds
sends_count u [] = refl
sends_count u (d ∷ ds) =
    sends_cons u d ds
    ∙ (add_if (is_send_of u d) (sends_of u ds)
    ∙ (ap (λ n. cond (is_send_of u d) 1 0 + n) (sends_count u ds) ∙ sym (count_cons (is_send_of u) d ds)))

pub sends_counted : (u : ℕ) (ds : List Deed) → count_by (is_send_of u) ds ≡ sends_of u (reverse ds)
sends_counted u ds = sym (sends_count u (reverse ds) ∙ count_reverse (is_send_of u) ds)
