-- Comments and outer spaces do not count.
use Rattle.std.proofs.Common.{◌≡◌, ℕ, ◌+◌, ◌-◌, suc, true, false, ◌&&◌, Bool, cond, List, [], ◌∷◌, ◌++◌, Option, Some, None, map, length, take, reverse, refl, sym, ap, ◌∙◌, ◌⊎◌, inl, inr, ⊎_elim, arith, one-add, append-nil, append_assoc, length-append}
use Rattle.std.specs.declared.result.Result.{Result}
use Rattle.std.specs.declared.result.Result.TheVariants.{Ok, Err}
use Rattle.std.specs.List.{list_all, suffix_len}
use Rattle.std.proofs.lemmas.Bool.{cases_Bool, and_parts}
use Rattle.std.proofs.lemmas.Bool.Decides.{nat_tests}
use Rattle.std.proofs.lemmas.List.{length-map, reverse-append, take-append-le}
use Rattle.std.proofs.lemmas.List.Folds.{list_all-append}
use Rattle.tn_text.specs.Content.{is_space, is_hash, may_stand, before_comment, trimmed, without_front_spaces, without_back_spaces}
use Rattle.tn_text.specs.declared.stop.Fault.{Fault}
use Rattle.tn_text.specs.Reading.{and_on}
use Rattle.job_text.specs.declared.job.JobKind.{JobKind}
use Rattle.job_text.specs.declared.draft.Draft.{Draft}
use Rattle.job_text.specs.Contents.{commented}
use Rattle.job_text.specs.Text.{bare, drafted, job_by, job_of, start, step}

-- Whole texts.

same_on : (n : ℕ) (r : Result Draft JobKind) (f g : Draft → Result Draft (Fault JobKind)) → ((d : Draft) → f d ≡ g d) → and_on n r f ≡ and_on n r g
same_on n (Ok d) f g h = h d
same_on n (Err kind) f g h = refl

same_drafted : (ls ms : List (List ℕ)) (n : ℕ) (d : Draft) → map bare ls ≡ map bare ms → drafted n ls d ≡ drafted n ms d
same_drafted [] [] n d e = refl
same_drafted [] (m ∷ ms) n d e = cc
same_drafted (l ∷ ls) [] n d e = cc
same_drafted (l ∷ ls) (m ∷ ms) n d e =
    let first : bare l ≡ bare m = cc in
    let others : map bare ls ≡ map bare ms = cc in
    ap (λ (b : Option (List ℕ)). and_on n (step n b d) (λ x. drafted (n + 1) ls x)) first
    ∙ same_on n (step n (bare m) d) (λ x. drafted (n + 1) ls x) (λ x. drafted (n + 1) ms x) (λ x. same_drafted ls ms (n + 1) x others)

pub same_job : (ls ms : List (List ℕ)) → map bare ls ≡ map bare ms → job_of ls ≡ job_of ms
same_job ls ms e =
    let long : length ls ≡ length ms = sym (length-map ls bare) ∙ ap length e ∙ length-map ms bare in
    ap (λ (n : ℕ). job_by n (drafted 1 ls start)) long ∙ ap (job_by (length ms)) (same_drafted ls ms 1 start e)

-- One line.

space_hash : (b : ℕ) → is_space b ≡ true → is_hash b ≡ false
space_hash b h = grind (arith, nat_tests)

space_may : (b : ℕ) → is_space b ≡ true → may_stand b ≡ true
space_may b h = rw h refl

before_hash : (b : ℕ) (bs : List ℕ) → is_hash b ≡ true → before_comment (b ∷ bs) ≡ []
before_hash b bs e = rw e refl

before_other : (b : ℕ) (bs : List ℕ) → is_hash b ≡ false → before_comment (b ∷ bs) ≡ b ∷ before_comment bs
before_other b bs e = rw (e, one-add) refl

behind_hash : (xs comment : List ℕ) → before_comment (xs ++ 35 ∷ comment) ≡ before_comment xs
behind_hash [] comment = refl
behind_hash (x ∷ xs) comment =
    ⊎_elim (λ e. before_hash x (xs ++ 35 ∷ comment) e ∙ sym (before_hash x xs e))
    (λ e. before_other x (xs ++ 35 ∷ comment) e ∙ ap (λ (ys : List ℕ). x ∷ ys) (behind_hash xs comment) ∙ sym (before_other x xs e)) (cases_Bool (is_hash x))

behind_front : (front xs : List ℕ) → list_all is_space front ≡ true → before_comment (front ++ xs) ≡ front ++ before_comment xs
behind_front [] xs h = refl
behind_front (b ∷ bs) xs h =
    let both = and_parts (is_space b) (list_all is_space bs) h in
    before_other b (bs ++ xs) (space_hash b both.0) ∙ ap (λ (ys : List ℕ). b ∷ ys) (behind_front bs xs both.1)

-- spaces after a line are in its comment, or after its content
behind_back : (xs back : List ℕ) → list_all is_space back ≡ true
    → (before_comment (xs ++ back) ≡ before_comment xs) ⊎ (before_comment (xs ++ back) ≡ before_comment xs ++ back)
behind_back [] back h =
    inr (ap before_comment (sym (append-nil back)) ∙ behind_front back [] h ∙ append-nil back)
behind_back (x ∷ xs) back h =
    ⊎_elim (λ e. inl (before_hash x (xs ++ back) e ∙ sym (before_hash x xs e)))
    (λ e.
    ⊎_elim (λ f. inl (before_other x (xs ++ back) e ∙ ap (λ (ys : List ℕ). x ∷ ys) f ∙ sym (before_other x xs e)))
    (λ f. inr (before_other x (xs ++ back) e ∙ ap (λ (ys : List ℕ). x ∷ ys) f ∙ ap (λ (ys : List ℕ). ys ++ back) (sym (before_other x xs e))))
    (behind_back xs back h))
    (cases_Bool (is_hash x))

-- Spaces at the ends.

front_space : (b : ℕ) (bs : List ℕ) → is_space b ≡ true → without_front_spaces (b ∷ bs) ≡ without_front_spaces bs
front_space b bs e = rw (e, one-add) refl

front_byte : (b : ℕ) (bs : List ℕ) → is_space b ≡ false → without_front_spaces (b ∷ bs) ≡ b ∷ bs
front_byte b bs e = rw e refl

trimmed_front : (front xs : List ℕ) → list_all is_space front ≡ true → trimmed (front ++ xs) ≡ trimmed xs
trimmed_front [] xs h = refl
trimmed_front (b ∷ bs) xs h =
    let both = and_parts (is_space b) (list_all is_space bs) h in
    ap without_back_spaces (front_space b (bs ++ xs) both.0) ∙ trimmed_front bs xs both.1

suffix_space : (b : ℕ) (xs : List ℕ) → is_space b ≡ true → suffix_len is_space (xs ++ b ∷ []) ≡ suc (suffix_len is_space xs)
suffix_space b xs e =
    let r : reverse (xs ++ b ∷ []) ≡ b ∷ reverse xs = reverse-append xs (b ∷ []) in
    rw (r, e, one-add) refl

take_front : (xs ys : List ℕ) (k : ℕ) → take (length xs - k) (xs ++ ys) ≡ take (length xs - k) xs
take_front xs ys k = take-append-le (length xs - k) xs ys (omega arith)

back_space : (b : ℕ) (xs : List ℕ) → is_space b ≡ true → without_back_spaces (xs ++ b ∷ []) ≡ without_back_spaces xs
back_space b xs e =
    let k = suffix_len is_space xs in
    let long : length (xs ++ b ∷ []) - suffix_len is_space (xs ++ b ∷ []) ≡ length xs - k = omega (arith, suffix_space b xs e, length-append xs (b ∷ [])) in
    ap (λ (n : ℕ). take n (xs ++ b ∷ [])) long ∙ take_front xs (b ∷ []) k

back_spaces : (back xs : List ℕ) → list_all is_space back ≡ true → without_back_spaces (xs ++ back) ≡ without_back_spaces xs
back_spaces [] xs h = ap without_back_spaces (append-nil xs)
back_spaces (b ∷ bs) xs h =
    let both = and_parts (is_space b) (list_all is_space bs) h in
    ap without_back_spaces (sym (append_assoc xs (b ∷ []) bs)) ∙ back_spaces bs (xs ++ b ∷ []) both.1 ∙ back_space b xs both.0

trimmed_back : (xs back : List ℕ) → list_all is_space back ≡ true → trimmed (xs ++ back) ≡ trimmed xs
trimmed_back [] back h = ap trimmed (sym (append-nil back)) ∙ trimmed_front back [] h
trimmed_back (x ∷ xs) back h =
    ⊎_elim (λ e. ap without_back_spaces (front_space x (xs ++ back) e) ∙ trimmed_back xs back h ∙ ap without_back_spaces (sym (front_space x xs e)))
    (λ e. ap without_back_spaces (front_byte x (xs ++ back) e) ∙ back_spaces back (x ∷ xs) h ∙ ap without_back_spaces (sym (front_byte x xs e)))
    (cases_Bool (is_space x))

may_spaces : (bs : List ℕ) → list_all is_space bs ≡ true → list_all may_stand bs ≡ true
may_spaces [] h = refl
may_spaces (b ∷ bs) h =
    let both = and_parts (is_space b) (list_all is_space bs) h in
    let first = space_may b both.0 in
    let more = may_spaces bs both.1 in
    rw (first, more) refl

may_front : (front xs : List ℕ) → list_all is_space front ≡ true → list_all may_stand (front ++ xs) ≡ list_all may_stand xs
may_front front xs h = let f = may_spaces front h in list_all-append may_stand front xs ∙ rw f refl

and_true : (b : Bool) → (b && true) ≡ b
and_true true = refl
and_true false = refl

may_back : (xs back : List ℕ) → list_all is_space back ≡ true → list_all may_stand (xs ++ back) ≡ list_all may_stand xs
may_back xs back h = let f = may_spaces back h in list_all-append may_stand xs back ∙ rw f (and_true (list_all may_stand xs))

-- what counts of a line whose bytes before the comment are these
abbrev bare_of : List ℕ → Option (List ℕ)
bare_of bs = cond (list_all may_stand bs) (Some (trimmed bs)) None

bare_front : (front xs : List ℕ) → list_all is_space front ≡ true → bare_of (front ++ xs) ≡ bare_of xs
bare_front front xs h = let m = may_front front xs h in let t = trimmed_front front xs h in rw (m, t) refl

bare_back : (xs back : List ℕ) → list_all is_space back ≡ true → bare_of (xs ++ back) ≡ bare_of xs
bare_back xs back h = let m = may_back xs back h in let t = trimmed_back xs back h in rw (m, t) refl

spaces_front : (front l : List ℕ) → list_all is_space front ≡ true → bare (front ++ l) ≡ bare l
spaces_front front l h = ap bare_of (behind_front front l h) ∙ bare_front front (before_comment l) h

spaces_back : (l back : List ℕ) → list_all is_space back ≡ true → bare (l ++ back) ≡ bare l
spaces_back l back h = ⊎_elim (λ e. ap bare_of e) (λ e. ap bare_of e ∙ bare_back (before_comment l) back h) (behind_back l back h)

pub bare_spaces : (front l back : List ℕ) → list_all is_space front ≡ true → list_all is_space back ≡ true → bare (front ++ l ++ back) ≡ bare l
bare_spaces front l back f b = spaces_back (front ++ l) back b ∙ spaces_front front l f

pub bare_commented : (front l back comment : List ℕ) → list_all is_space front ≡ true → list_all is_space back ≡ true → bare (commented front l back comment) ≡ bare l
bare_commented front l back comment f b = ap bare_of (behind_hash (front ++ l ++ back) comment) ∙ bare_spaces front l back f b
