-- One more step that hands or drops a letter.
use Rattle.std.proofs.Common.{◌≡◌, ◌∙◌, ℕ, ◌<◌, ◌+◌, Bool, true, false, cond, List, [], ◌∷◌, ◌++◌, length, take, get_or, map, filter, Option, Some, None, refl, ap, sym, append_assoc, append-nil}
use Rattle.std.specs.List.{filter_map}
use Rattle.std.proofs.lemmas.List.{take_more}
use Rattle.tn_base.specs.declared.message.Letter.{Letter}
use Rattle.tn_letters.specs.declared.steps.BagStep.{BagStep}
use Rattle.tn_follow.specs.Follow.{is_sent_by, received_by, receivers}

kept_by : (b : Bool) (l : Letter) (ls : List Letter) → map (λ (l : Letter). l.receiver) (cond b (l ∷ ls) ls) ≡ cond b (l.receiver ∷ []) [] ++ map (λ (l : Letter). l.receiver) ls
kept_by true l ls = refl
kept_by false l ls = refl

given_by : (f : BagStep → Option Letter) (origin number : ℕ) (x : BagStep) (xs : List BagStep) (o : Option Letter) → f x ≡ o → receivers origin number (filter_map f (x ∷ xs)) ≡ received_by origin number o ++ receivers origin number (filter_map f xs)
given_by f origin number x xs None is = rw is refl
given_by f origin number x xs (Some l) is = rw is (kept_by (is_sent_by origin number l) l (filter (is_sent_by origin number) (filter_map f xs)))

received_alone : (f : BagStep → Option Letter) (origin number : ℕ) (x : BagStep) → receivers origin number (filter_map f (x ∷ [])) ≡ received_by origin number (f x)
received_alone f origin number x = given_by f origin number x [] (f x) refl ∙ append-nil (received_by origin number (f x))

received_append : (f : BagStep → Option Letter) (origin number : ℕ) (xs : List BagStep) (x : BagStep) → receivers origin number (filter_map f (xs ++ x ∷ [])) ≡ receivers origin number (filter_map f xs) ++ received_by origin number (f x)
received_append f origin number [] x = received_alone f origin number x
received_append f origin number (y ∷ ys) x =
    given_by f origin number y (ys ++ x ∷ []) (f y) refl
    ∙ (ap (λ (zs : List ℕ). received_by origin number (f y) ++ zs) (received_append f origin number ys x)
    ∙ (sym (append_assoc (received_by origin number (f y)) (receivers origin number (filter_map f ys)) (received_by origin number (f x)))
    ∙ ap (λ (zs : List ℕ). zs ++ received_by origin number (f x)) (sym (given_by f origin number y ys (f y) refl))))

-- one step more
pub received_more : (f : BagStep → Option Letter) (origin number : ℕ) (steps : List BagStep) (i : ℕ) (d : BagStep) (o : Option Letter) (old new : List ℕ) → old ≡ receivers origin number (filter_map f (take i steps)) → i < length steps → o ≡ f (get_or steps i d) → new ≡ old ++ received_by origin number o
    → new ≡ receivers origin number (filter_map f (take (i + 1) steps))
received_more f origin number steps i d o old new so_far less is more =
    more ∙ (ap (λ (xs : List ℕ). xs ++ received_by origin number o) so_far
    ∙ (ap (λ (q : Option Letter). receivers origin number (filter_map f (take i steps)) ++ received_by origin number q) is
    ∙ (sym (received_append f origin number (take i steps) (get_or steps i d)) ∙ ap (λ (xs : List BagStep). receivers origin number (filter_map f xs)) (sym (take_more steps i d less)))))
