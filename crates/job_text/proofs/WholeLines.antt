-- Text that is whole lines.
use Rattle.std.proofs.Common.{◌≡◌, ℕ, ◌+◌, ◌≤◌, false, List, [], ◌∷◌, ◌++◌, length, flat_map, refl, sym, ap, subst, ◌∙◌, ⊎_elim, append-nil, append_assoc, arith}
use Rattle.std.specs.List.{AllByRecursion, list_any}
use Rattle.std.proofs.lemmas.Bool.{cases_Bool, or_parts}
use Rattle.tn_text.specs.Lines.{is_feed, lines_of, onto_line, feed}
use Rattle.job_text.specs.WellFormed.{IsTextLine, fed, IsText}
use Rattle.job_text.proofs.Sections.{all_push}

pub lines_of-unbroken : (l rest : List ℕ) → list_any is_feed l ≡ false → lines_of (l ++ 10 ∷ rest) ≡ l ∷ lines_of rest
lines_of-unbroken [] rest h = refl
lines_of-unbroken (b ∷ bs) rest h =
    let both = or_parts (is_feed b) (list_any is_feed bs) h in
    let e = both.0 in
    let more = lines_of-unbroken bs rest both.1 in
    rw (e, more) refl

lines_flat : (ls : List (List ℕ)) (rest : List ℕ) → AllByRecursion IsTextLine ls → lines_of (flat_map fed ls ++ rest) ≡ ls ++ lines_of rest
lines_flat [] rest h = refl
lines_flat (l ∷ ls) rest h =
    ap lines_of (append_assoc (l ++ feed) (flat_map fed ls) rest ∙ append_assoc l feed (flat_map fed ls ++ rest))
    ∙ lines_of-unbroken l (flat_map fed ls ++ rest) h.0.one_line ∙ ap (λ (xs : List (List ℕ)). l ∷ xs) (lines_flat ls rest h.1)

lines_push : (text l : List ℕ) → IsText text → IsTextLine l → lines_of (text ++ l ++ feed) ≡ lines_of text ++ l ∷ []
lines_push text l h line =
    let ls = lines_of text in
    ap (λ (t : List ℕ). lines_of (t ++ l ++ feed)) (sym h.whole) ∙ ap lines_of (append_assoc (flat_map fed ls) l feed)
    ∙ lines_flat ls (l ++ feed) h.lines ∙ ap (λ (x : List (List ℕ)). ls ++ x) (lines_of-unbroken l [] line.one_line)

flat_push : (ls : List (List ℕ)) (l : List ℕ) → flat_map fed (ls ++ l ∷ []) ≡ flat_map fed ls ++ (l ++ feed)
flat_push [] l = append-nil (l ++ feed)
flat_push (k ∷ ks) l = ap (λ (t : List ℕ). k ++ feed ++ t) (flat_push ks l) ∙ sym (append_assoc (k ++ feed) (flat_map fed ks) (l ++ feed))

pub no_text : IsText []
no_text = record { whole = refl; lines = tt }

pub text_push : (text l : List ℕ) → IsText text → IsTextLine l → IsText (text ++ l ++ feed)
text_push text l h line =
    let rest : lines_of (text ++ l ++ feed) ≡ lines_of text ++ l ∷ [] = lines_push text l h line in
    record {
      whole = ap (flat_map fed) rest ∙ flat_push (lines_of text) l ∙ ap (λ (t : List ℕ). t ++ (l ++ feed)) h.whole ∙ sym (append_assoc text l feed);
      lines = subst (λ (ls : List (List ℕ)). AllByRecursion IsTextLine ls) (sym rest) (all_push IsTextLine (lines_of text) l h.lines line);
    }

-- How many lines a text has.

onto_most : (b : ℕ) (ls : List (List ℕ)) (n : ℕ) → 1 ≤ n → length ls ≤ n → length (onto_line b ls) ≤ n
onto_most b [] n one h = one
onto_most b (l ∷ ls) n one h = h

onto_least : (b : ℕ) (ls : List (List ℕ)) → (1 ≤ length (onto_line b ls)) × (length ls ≤ length (onto_line b ls))
onto_least b [] = (omega arith, omega arith)
onto_least b (l ∷ ls) = (omega arith, omega arith)

more_lines : (xs ys : List ℕ) → length (lines_of (xs ++ ys)) ≤ length (lines_of xs) + length (lines_of ys)
more_lines [] ys = omega arith
more_lines (b ∷ xs) ys =
    let more = more_lines xs ys in
    let least = onto_least b (lines_of xs) in
    ⊎_elim (λ e. rw e (omega (arith, more)))
    (λ e. rw e (onto_most b (lines_of (xs ++ ys)) (length (onto_line b (lines_of xs)) + length (lines_of ys)) (omega (arith, least.0)) (omega (arith, more, least.1))))
    (cases_Bool (is_feed b))

pub one_more : (text l : List ℕ) (n : ℕ) → IsTextLine l → length (lines_of text) ≤ n → length (lines_of (text ++ l ++ 10 ∷ [])) ≤ n + 1
one_more text l n line h = rw (append_assoc text l (10 ∷ [])) (omega (arith, more_lines text (l ++ 10 ∷ []), ap length (lines_of-unbroken l [] line.one_line)))
