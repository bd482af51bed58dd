-- Lines of a name and arguments, and what reading makes of them.
use Rattle.std.proofs.Common.{◌≡◌, ℕ, Bool, true, not, ◌&&◌, eqb, List, [], ◌∷◌, ◌++◌, None, flat_map, refl, sym, ap, ◌∙◌, subst, arith, append-nil, append_assoc}
use Rattle.std.specs.List.{list_all, onto_first}
use Rattle.std.proofs.lemmas.Bool.{and_from}
use Rattle.std.proofs.lemmas.Bool.Decides.{nat_tests}
use Rattle.std.proofs.lemmas.List.Folds.{list_all-append}
use Rattle.tn_text.specs.Content.{trimmed}
use Rattle.tn_text.specs.Words.{is_some_text, words_of, spaced}
use Rattle.tn_text.specs.Cut.{lacks, cut_at, parts_at}
use Rattle.tn_text.proofs.Clean.{clean, IsLine, IsWord, AreWords, all_pass, line_of_words, trimmed_behind, trimmed_line, word_line, words_of-line}
use Rattle.tn_text.proofs.Parts.{lacks_both, cut_none, part_whole, part_first}
use Rattle.asm_build.specs.Shown.{more_operands, operand_text, text_of}

-- a byte of a name or an argument: neither a comma nor a colon
abbrev pub tight : ℕ → Bool
tight b = clean b && not (eqb b 44) && not (eqb b 58)

pub record IsTight (w : List ℕ) : Type 0 where
  pub bytes : list_all tight w ≡ true
  pub some : is_some_text w ≡ true

abbrev pub AreTight : List (List ℕ) → Type 0
AreTight [] = Unit {0}
AreTight (w ∷ ws) = IsTight w × AreTight ws

tight-clean : (b : ℕ) → tight b ≡ true → clean b ≡ true
tight-clean b h = grind (arith, nat_tests)

tight-comma : (b : ℕ) → tight b ≡ true → not (eqb b 44) ≡ true
tight-comma b h = grind (arith, nat_tests)

tight-colon : (b : ℕ) → tight b ≡ true → not (eqb b 58) ≡ true
tight-colon b h = grind (arith, nat_tests)

lacks_comma : (w : List ℕ) → IsTight w → lacks 44 w ≡ true
lacks_comma w h = all_pass tight (λ b. not (eqb b 44)) tight-comma w h.bytes

lacks_colon : (w : List ℕ) → IsTight w → lacks 58 w ≡ true
lacks_colon w h = all_pass tight (λ b. not (eqb b 58)) tight-colon w h.bytes

-- Words.

-- a word, with its comma where more of them follow
abbrev pub with_comma : List ℕ → List (List ℕ) → List ℕ
with_comma w [] = w
with_comma w (v ∷ vs) = w ++ 44 ∷ []

abbrev pub operand_words : List (List ℕ) → List (List ℕ)
operand_words [] = []
operand_words (w ∷ ws) = with_comma w ws ∷ operand_words ws

more_is : (w : List ℕ) (ws : List (List ℕ)) → w ++ more_operands ws ≡ with_comma w ws ++ flat_map spaced (operand_words ws)
more_is w [] = refl
more_is w (v ∷ vs) =
    ap (λ (l : List ℕ). w ++ 44 ∷ 32 ∷ l) (more_is v vs)
    ∙ sym (append_assoc w (44 ∷ []) (32 ∷ with_comma v vs ++ flat_map spaced (operand_words vs)))

operand_is : (ws : List (List ℕ)) → operand_text ws ≡ flat_map spaced (operand_words ws)
operand_is [] = refl
operand_is (w ∷ ws) = ap (λ (l : List ℕ). 32 ∷ l) (more_is w ws)

text_is : (w : List ℕ) (ws : List (List ℕ)) → text_of w ws ≡ w ++ flat_map spaced (operand_words ws)
text_is w ws = ap (λ (l : List ℕ). w ++ l) (operand_is ws)

word_of_tight : (w : List ℕ) → IsTight w → IsWord w
word_of_tight w h = record { bytes = all_pass tight clean tight-clean w h.bytes; some = h.some }

some_joined : (xs ys : List ℕ) → is_some_text xs ≡ true → is_some_text (xs ++ ys) ≡ true
some_joined [] ys h = cc
some_joined (x ∷ xs) ys h = refl

comma_word : (w : List ℕ) (ws : List (List ℕ)) → IsTight w → IsWord (with_comma w ws)
comma_word w [] h = word_of_tight w h
comma_word w (v ∷ vs) h = record {
  bytes = list_all-append clean w (44 ∷ []) ∙ and_from (list_all clean w) true (word_of_tight w h).bytes refl;
  some = some_joined w (44 ∷ []) h.some;
}

operands_are : (ws : List (List ℕ)) → AreTight ws → AreWords (operand_words ws)
operands_are [] hs = tt
operands_are (w ∷ ws) hs = (comma_word w ws hs.0, operands_are ws hs.1)

-- Lines.

pub text_line : (w : List ℕ) (ws : List (List ℕ)) → IsTight w → AreTight ws → IsLine (text_of w ws)
text_line w ws h hs = subst IsLine (sym (text_is w ws)) (line_of_words w (operand_words ws) (word_of_tight w h) (operands_are ws hs))

pub text_words : (w : List ℕ) (ws : List (List ℕ)) → IsTight w → AreTight ws → words_of (text_of w ws) ≡ w ∷ operand_words ws
text_words w ws h hs = ap words_of (text_is w ws) ∙ words_of-line w (operand_words ws) (word_of_tight w h) (operands_are ws hs)

pub more_line : (w : List ℕ) (ws : List (List ℕ)) → IsTight w → AreTight ws → IsLine (w ++ more_operands ws)
more_line w ws h hs = subst IsLine (sym (more_is w ws)) (line_of_words (with_comma w ws) (operand_words ws) (comma_word w ws h) (operands_are ws hs))

lacks_more : (ws : List (List ℕ)) → AreTight ws → lacks 58 (more_operands ws) ≡ true
lacks_more [] hs = refl
lacks_more (w ∷ ws) hs = lacks_both 58 w (more_operands ws) (lacks_colon w hs.0) (lacks_more ws hs.1)

lacks_operands : (ws : List (List ℕ)) → AreTight ws → lacks 58 (operand_text ws) ≡ true
lacks_operands [] hs = refl
lacks_operands (w ∷ ws) hs = lacks_both 58 w (more_operands ws) (lacks_colon w hs.0) (lacks_more ws hs.1)

pub no_label : (w : List ℕ) (ws : List (List ℕ)) → IsTight w → AreTight ws → cut_at 58 (text_of w ws) ≡ None
no_label w ws h hs = cut_none 58 (text_of w ws) (lacks_both 58 w (operand_text ws) (lacks_colon w h) (lacks_operands ws hs))

-- Ends.

pub word_trimmed : (w : List ℕ) → IsTight w → trimmed w ≡ w
word_trimmed w h = trimmed_line w (word_line w (word_of_tight w h))

pub word_trimmed_behind : (w : List ℕ) → IsTight w → trimmed (32 ∷ w) ≡ w
word_trimmed_behind w h = trimmed_behind w (word_line w (word_of_tight w h))

-- Parts.

abbrev pub behind_space : List (List ℕ) → List (List ℕ)
behind_space [] = []
behind_space (w ∷ ws) = (32 ∷ w) ∷ behind_space ws

pub parts_are : (w : List ℕ) (ws : List (List ℕ)) → IsTight w → AreTight ws → parts_at 44 (w ++ more_operands ws) ≡ w ∷ behind_space ws
parts_are w [] h hs = ap (parts_at 44) (append-nil w) ∙ part_whole 44 w (lacks_comma w h)
parts_are w (v ∷ vs) h hs =
    part_first 44 w (32 ∷ v ++ more_operands vs) (lacks_comma w h)
    ∙ ap (λ (parts : List (List ℕ)). w ∷ onto_first 32 parts) (parts_are v vs hs.0 hs.1)
