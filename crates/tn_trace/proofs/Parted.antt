-- Looking for the first line that parts a text.
use Rattle.std.proofs.Common.{◌≡◌, ◌≢◌, ◌∙◌, ℕ, ◌+◌, ◌-◌, ◌<◌, Bool, true, false, List, [], ◌∷◌, ◌++◌, length, take, Some, None, refl, sym, ap, ⊎_elim, append_assoc, append-nil, length-append, one-add, add-one, arith}
use Rattle.std.specs.List.{after_first, before_first, list_any}
use Rattle.std.proofs.lemmas.Bool.{cases_Bool, eqb-true}
use Rattle.std.proofs.lemmas.List.{take_at}
use Rattle.std.proofs.lemmas.List.Folds.{list_any-append}
use Rattle.tn_text.specs.Lines.{StartsLine, is_feed, lines_of}
use Rattle.tn_trace.specs.Parting.{Parts, is_parting}

line_then_feed : (b : ℕ) (bs more : List ℕ) → is_feed b ≡ true → lines_of (before_first is_feed (b ∷ bs) ++ 10 ∷ more) ≡ before_first is_feed (b ∷ bs) ∷ lines_of more
line_then_feed b bs more e = rw e refl

line_then_byte : (b : ℕ) (bs more : List ℕ) → is_feed b ≡ false → lines_of (before_first is_feed bs ++ 10 ∷ more) ≡ before_first is_feed bs ∷ lines_of more → lines_of (before_first is_feed (b ∷ bs) ++ 10 ∷ more) ≡ before_first is_feed (b ∷ bs) ∷ lines_of more
line_then_byte b bs more e rest = rw (e, one-add, e, rest) refl

-- a line with its line feed, before a text
line_then : (text more : List ℕ) → lines_of (before_first is_feed text ++ 10 ∷ more) ≡ before_first is_feed text ∷ lines_of more
line_then [] more = refl
line_then (b ∷ bs) more = ⊎_elim (λ e. line_then_feed b bs more e) (λ e. line_then_byte b bs more e (line_then bs more)) (cases_Bool (is_feed b))

line_ends_feed : (b : ℕ) (bs : List ℕ) → is_feed b ≡ true → b ∷ bs ≡ before_first is_feed (b ∷ bs) ++ 10 ∷ after_first is_feed (b ∷ bs)
line_ends_feed b bs e = rw e (ap (λ (c : ℕ). c ∷ bs) (eqb-true b 10 e))

after_byte : (b : ℕ) (bs : List ℕ) → is_feed b ≡ false → after_first is_feed (b ∷ bs) ≡ after_first is_feed bs
after_byte b bs e = rw (e, one-add, add-one, add-one) refl

before_byte : (b : ℕ) (bs : List ℕ) → is_feed b ≡ false → before_first is_feed (b ∷ bs) ≡ b ∷ before_first is_feed bs
before_byte b bs e = rw (e, one-add) refl

line_ends_byte : (b : ℕ) (bs : List ℕ) → is_feed b ≡ false → after_first is_feed (b ∷ bs) ≢ [] → (after_first is_feed bs ≢ [] → bs ≡ before_first is_feed bs ++ 10 ∷ after_first is_feed bs) → b ∷ bs ≡ before_first is_feed (b ∷ bs) ++ 10 ∷ after_first is_feed (b ∷ bs)
line_ends_byte b bs e more rest =
    let same = after_byte b bs e in
    ap (λ (cs : List ℕ). b ∷ cs) (rest (λ none. more (same ∙ none)))
    ∙ (ap (λ (cs : List ℕ). cs ++ 10 ∷ after_first is_feed bs) (sym (before_byte b bs e)) ∙ ap (λ (cs : List ℕ). before_first is_feed (b ∷ bs) ++ 10 ∷ cs) (sym same))

-- what stands behind a line has its line feed before it
line_ends : (text : List ℕ) → after_first is_feed text ≢ [] → text ≡ before_first is_feed text ++ 10 ∷ after_first is_feed text
line_ends [] more = absurd (more refl)
line_ends (b ∷ bs) more = ⊎_elim (λ e. line_ends_feed b bs e) (λ e. line_ends_byte b bs e more (line_ends bs)) (cases_Bool (is_feed b))

cut_here-passes : {X : Type 0} (p : X → Bool) (x : X) (xs : List X) (y : X) (ys : List X) → list_any p (x ∷ xs) ≡ false → p x ≡ true → (before_first p ((x ∷ xs) ++ y ∷ ys) ≡ x ∷ xs) × (after_first p ((x ∷ xs) ++ y ∷ ys) ≡ ys)
cut_here-passes p x xs y ys none e = let clash : true ≡ false = rw e at none in cc clash

cut_here-later : {X : Type 0} (p : X → Bool) (x : X) (xs : List X) → list_any p (x ∷ xs) ≡ false → p x ≡ false → list_any p xs ≡ false
cut_here-later p x xs none e = rw e at none

cut_here-fails : {X : Type 0} (p : X → Bool) (x : X) (xs : List X) (y : X) (ys : List X) → p x ≡ false → (before_first p (xs ++ y ∷ ys) ≡ xs) × (after_first p (xs ++ y ∷ ys) ≡ ys) → (before_first p ((x ∷ xs) ++ y ∷ ys) ≡ x ∷ xs) × (after_first p ((x ∷ xs) ++ y ∷ ys) ≡ ys)
cut_here-fails p x xs y ys e rest = (rw (e, one-add) (ap (λ zs. x ∷ zs) rest.0), rw (e, one-add, add-one) (rw add-one at rest.1))

-- the first item that cut_here-passes cuts a list
cut_here : {X : Type 0} (p : X → Bool) (xs : List X) (y : X) (ys : List X) → list_any p xs ≡ false → p y ≡ true → (before_first p (xs ++ y ∷ ys) ≡ xs) × (after_first p (xs ++ y ∷ ys) ≡ ys)
cut_here p [] y ys none is = (rw is refl, rw is refl)
cut_here p (x ∷ xs) y ys none is = ⊎_elim (λ e. cut_here-passes p x xs y ys none e) (λ e. cut_here-fails p x xs y ys e (cut_here p xs y ys (cut_here-later p x xs none e) is)) (cases_Bool (p x))

uncut-rest : {X : Type 0} (p : X → Bool) (x : X) (xs : List X) → p x ≡ false → before_first p xs ≡ xs → before_first p (x ∷ xs) ≡ x ∷ xs
uncut-rest p x xs e more = rw (e, one-add) (ap (λ zs. x ∷ zs) more)

uncut : {X : Type 0} (p : X → Bool) (xs : List X) → list_any p xs ≡ false → before_first p xs ≡ xs
uncut p [] none = refl
uncut p (x ∷ xs) none = ⊎_elim (λ e. let clash : true ≡ false = rw e at none in cc clash) (λ e. uncut-rest p x xs e (uncut p xs (rw e at none))) (cases_Bool (p x))

-- the lines before the rest of a text were looked at, and none of them parts the text
pub record Passed (text rest : List ℕ) (number : ℕ) : Type 0 where
  pub front : List ℕ
  pub seen : List (List ℕ)
  pub split : text ≡ front ++ rest
  pub none : list_any is_parting seen ≡ false
  pub count : number ≡ length seen
  pub lines : lines_of text ≡ seen ++ lines_of rest
  pub whole : rest ≢ [] → (more : List ℕ) → lines_of (front ++ more) ≡ seen ++ lines_of more

pub passed_none : (text : List ℕ) → Passed text text 0
passed_none text = record { front = []; seen = []; split = refl; none = refl; count = refl; lines = refl; whole = λ some more. refl }

none_more : (seen : List (List ℕ)) (line : List ℕ) → list_any is_parting seen ≡ false → is_parting line ≡ false → list_any is_parting (seen ++ line ∷ []) ≡ false
none_more seen line none is = list_any-append is_parting seen (line ∷ []) ∙ rw (none, is) refl

lines_more : (text rest line after : List ℕ) (seen : List (List ℕ)) → lines_of text ≡ seen ++ lines_of rest → StartsLine rest line after → lines_of text ≡ (seen ++ line ∷ []) ++ lines_of after
lines_more text rest line after seen lines s = lines ∙ (ap (λ ls. seen ++ ls) s.lines ∙ sym (append_assoc seen (line ∷ []) (lines_of after)))

passed_by-line_is : (line more rest : List ℕ) → line ≡ before_first is_feed rest → lines_of (line ++ 10 ∷ more) ≡ line ∷ lines_of more
passed_by-line_is line more rest e = rw e (line_then rest more)

-- one line more: it ends with a line feed, or it is the last
passed_by : (text rest line : List ℕ) (number : ℕ) (after : List ℕ) → Passed text rest number → rest ≢ [] → StartsLine rest line after → is_parting line ≡ false → Passed text after (number + 1)
passed_by text rest line number [] p some s is = record {
  front = text;
  seen = p.seen ++ line ∷ [];
  split = sym (append-nil text);
  none = none_more p.seen line p.none is;
  count = omega (arith, p.count, length-append p.seen (line ∷ []));
  lines = lines_more text rest line [] p.seen p.lines s;
  whole = λ more. absurd (more refl);
}
passed_by text rest line number (a ∷ more_bytes) p some s is =
    let ends : rest ≡ line ++ 10 ∷ a ∷ more_bytes = rw (s.line_is, s.rest_is) (line_ends rest (λ none. let e : a ∷ more_bytes ≡ [] = s.rest_is ∙ none in cc e)) in
    record {
      front = p.front ++ (line ++ 10 ∷ []);
      seen = p.seen ++ line ∷ [];
      split = p.split ∙ (ap (λ (xs : List ℕ). p.front ++ xs) (ends ∙ sym (append_assoc line (10 ∷ []) (a ∷ more_bytes))) ∙ sym (append_assoc p.front (line ++ 10 ∷ []) (a ∷ more_bytes)));
      none = none_more p.seen line p.none is;
      count = omega (arith, p.count, length-append p.seen (line ∷ []));
      lines = lines_more text rest line (a ∷ more_bytes) p.seen p.lines s;
      whole = λ _ more.
          ap lines_of (append_assoc p.front (line ++ 10 ∷ []) more ∙ ap (λ (xs : List ℕ). p.front ++ xs) (append_assoc line (10 ∷ []) more))
          ∙ (p.whole some (line ++ 10 ∷ more) ∙ (ap (λ ls. p.seen ++ ls) (passed_by-line_is line more rest s.line_is) ∙ sym (append_assoc p.seen (line ∷ []) (lines_of more))));
    }

not_empty : (rest : List ℕ) (n : ℕ) → n < length rest → rest ≢ []
not_empty [] n less = absurd (omega (arith, less))
not_empty (b ∷ bs) n less = λ e. cc e

pub passed_more : (text rest line after : List ℕ) (number : ℕ) → Passed text rest number → StartsLine rest line after → is_parting line ≡ false → Passed text after (number + 1)
passed_more text rest line after number p s is = passed_by text rest line number after p (not_empty rest (length after) s.shorter) s is

front_taken : (text front rest : List ℕ) → text ≡ front ++ rest → take (length text - length rest) text ≡ front
front_taken text front rest split =
    let long : length text ≡ length front + length rest = ap length split ∙ length-append front rest in
    let place : length front ≡ length text - length rest = omega (arith, long) in
    ap (λ (xs : List ℕ). take (length text - length rest) xs) split ∙ take_at front rest (length text - length rest) place

-- the next line parts the text
pub parted_here : (text rest line after : List ℕ) (number : ℕ) → Passed text rest number → StartsLine rest line after → is_parting line ≡ true → Parts (lines_of text) (take (length text - length rest) text) (number + 1) (Some after)
parted_here text rest line after number p s is =
    let lines : lines_of text ≡ p.seen ++ line ∷ lines_of after = p.lines ∙ ap (λ ls. p.seen ++ ls) s.lines in
    let cut = cut_here is_parting p.seen line (lines_of after) p.none is in
    let front : lines_of p.front ≡ p.seen = ap lines_of (sym (append-nil p.front)) ∙ (p.whole (not_empty rest (length after) s.shorter) [] ∙ append-nil p.seen) in
    let before : before_first is_parting (lines_of text) ≡ p.seen = ap (before_first is_parting) lines ∙ cut.0 in
    let there : list_any is_parting (lines_of text) ≡ true = ap (list_any is_parting) lines ∙ (list_any-append is_parting p.seen (line ∷ lines_of after) ∙ rw (p.none, is) refl) in
    record {
      front_is = ap lines_of (front_taken text p.front rest p.split) ∙ (front ∙ sym before);
      line_is = rw there (omega (arith, p.count, ap length before));
      rest_is = rw there (ap (λ (ls : List (List ℕ)). Some ls) (sym (ap (after_first is_parting) lines ∙ cut.1)));
    }

-- no line parts the text
pub not_parted : (text rest : List ℕ) (number : ℕ) → Passed text rest number → rest ≡ [] → Parts (lines_of text) text number None
not_parted text rest number p end =
    let lines : lines_of text ≡ p.seen = p.lines ∙ (ap (λ (xs : List ℕ). p.seen ++ lines_of xs) end ∙ append-nil p.seen) in
    let none : list_any is_parting (lines_of text) ≡ false = ap (list_any is_parting) lines ∙ p.none in
    record {
      front_is = sym (uncut is_parting (lines_of text) none);
      line_is = rw none (p.count ∙ ap length (sym lines));
      rest_is = rw none refl;
    }
