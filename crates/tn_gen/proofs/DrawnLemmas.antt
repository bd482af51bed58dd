-- Words that are drawn.
use Rattle.std.proofs.Common.{◌≡◌, ◌∙◌, ℕ, length, ◌+◌, ◌-◌, ◌<◌, zero, suc, List, [], ◌∷◌, ◌++◌, refl, ap, sym, append_assoc, append-nil, arith}
use Rattle.rand_core.specs.Stream.{Stream, next_u32}
use Rattle.rand_core.specs.Steps.{first_words, steps_u32, stream_of}
use Rattle.rand_core.proofs.StepsLemmas.{next_u32-stream_of}
use Rattle.tn_gen.specs.Drawn.{next_words}

pub words-none : (s : Stream) → next_words 0 s ≡ []
unfolding next_words
words-none s = refl

pub words-more : (n : ℕ) (s t : Stream) (x : ℕ) → (x, t) ≡ next_u32 s → next_words (suc n) s ≡ x ∷ next_words n t
unfolding next_words
words-more n s t x h = ap (λ (p : ℕ × Stream). p.0 ∷ next_words n p.1) (sym h)

pub length-next_words : (n : ℕ) (s : Stream) → length (next_words n s) ≡ n
unfolding next_words
length-next_words zero s = refl
length-next_words (suc n) s = let rest = length-next_words n (next_u32 s).1 in omega (arith, rest)

-- one more word was drawn
pub one_drawn : (count i : ℕ) (words : List ℕ) (s t : Stream) (x : ℕ) (all : List ℕ) → i < count → (x, t) ≡ next_u32 s
    → words ++ next_words (count - i) s ≡ all → (words ++ x ∷ []) ++ next_words (count - (i + 1)) t ≡ all
one_drawn count i words s t x all h step old =
    let left : count - i ≡ suc (count - (i + 1)) = omega arith in
    let more = words-more (count - (i + 1)) s t x step in
    append_assoc words (x ∷ []) (next_words (count - (i + 1)) t) ∙ (ap (λ (ws : List ℕ). words ++ ws) (sym more) ∙ (ap (λ (n : ℕ). words ++ next_words n s) (sym left) ∙ old))

-- all were drawn
pub all_drawn : (count i : ℕ) (words : List ℕ) (s : Stream) (all : List ℕ) → count ≡ i → words ++ next_words (count - i) s ≡ all → words ≡ all
all_drawn count i words s all h old =
    let none : count - i ≡ 0 = omega arith in
    sym (append-nil words) ∙ (ap (λ (ws : List ℕ). words ++ ws) (sym (words-none s)) ∙ (ap (λ (n : ℕ). words ++ next_words n s) (sym none) ∙ old))

-- the words of a generator of words are those of its steps
pub words-steps : {S : Type 0} (step : S → ℕ × S) (n : ℕ) (g : S) → next_words n (stream_of (steps_u32 step) g) ≡ first_words step n g
unfolding next_words first_words
words-steps step zero g = refl
words-steps step (suc n) g =
    rw (next_u32-stream_of (steps_u32 step) g) (ap (λ (ws : List ℕ). (step g).0 ∷ ws) (words-steps step n (step g).1))
