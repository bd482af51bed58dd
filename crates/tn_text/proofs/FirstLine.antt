-- The lines of a text.
use Rattle.std.proofs.Common.{◌≡◌, ℕ, suc, ◌≤◌, ◌+◌, ◌<◌, true, false, List, [], ◌∷◌, length, refl, ap, ⊎_elim, one-add, add-one, arith, length-drop}
use Rattle.std.specs.List.{before_first, after_first, position_or_len}
use Rattle.std.proofs.lemmas.Bool.{cases_Bool, cond_both}
use Rattle.tn_text.specs.Lines.{is_feed, onto_line, lines_of, StartsLine}

-- the first line, and the lines of what stands behind it
abbrev pub parted : List ℕ → List (List ℕ)
parted text = before_first is_feed text ∷ lines_of (after_first is_feed text)

parted_feed : (b : ℕ) (bs : List ℕ) → is_feed b ≡ true → lines_of (b ∷ bs) ≡ parted (b ∷ bs)
parted_feed b bs e = rw e refl

parted_byte : (b : ℕ) (bs : List ℕ) → is_feed b ≡ false → onto_line b (lines_of bs) ≡ onto_line b (parted bs) → lines_of (b ∷ bs) ≡ parted (b ∷ bs)
parted_byte b bs e more = rw (e, one-add, add-one) (rw add-one at more)

pub lines_of-parted : (text : List ℕ) → 0 < length text → lines_of text ≡ parted text
lines_of-parted [] some = absurd (omega arith)
lines_of-parted (b ∷ []) some =
    ⊎_elim (λ e. parted_feed b [] e) (λ e. parted_byte b [] e refl) (cases_Bool (is_feed b))
lines_of-parted (b ∷ c ∷ cs) some =
    ⊎_elim (λ e. parted_feed b (c ∷ cs) e)
    (λ e. parted_byte b (c ∷ cs) e (ap (onto_line b) (lines_of-parted (c ∷ cs) (omega arith)))) (cases_Bool (is_feed b))

pub starts_line : (text line rest : List ℕ) → 0 < length text → line ≡ before_first is_feed text → rest ≡ after_first is_feed text → StartsLine text line rest
starts_line text line rest some e f = record {
  line_is = e;
  rest_is = f;
  lines = rw (e, f) (lines_of-parted text some);
  shorter = omega (arith, ap length f, length-drop (position_or_len is_feed text + 1) text);
}

onto_line-count : (b : ℕ) (ls : List (List ℕ)) (n : ℕ) → length ls ≤ n → length (onto_line b ls) ≤ suc n
onto_line-count b [] n h = omega arith
onto_line-count b (l ∷ ls) n h = omega arith

pub line_count : (text : List ℕ) → length (lines_of text) ≤ length text
line_count [] = omega arith
line_count (b ∷ bs) =
    let more = line_count bs in
    cond_both (is_feed b) ([] ∷ lines_of bs) (onto_line b (lines_of bs)) (λ (ls : List (List ℕ)). length ls ≤ suc (length bs))
    (λ e. omega arith) (λ e. onto_line-count b (lines_of bs) (length bs) more)
