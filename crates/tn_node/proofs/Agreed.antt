-- Facts that agree with what a part tells.
use Rattle.std.proofs.Common.{ℕ, ◌≡◌, ◌&&◌, Bool, true, false, cond, Some, None, unwrap_or, refl, ap, ◌∙◌}
use Rattle.std.specs.Ordering.{int_eq}
use Rattle.std.proofs.lemmas.Bool.{and_parts}
use Rattle.std.proofs.lemmas.Bool.Decides.{Decides-int_eq}
use Rattle.tn_node.specs.declared.facts.PartFacts.{PartFacts}
use Rattle.tn_node.specs.Facts.{agree, if_own, if_still, same_mark, with_value}

mark_is : (a b : Bool) → same_mark a b ≡ true → a ≡ b
mark_is true true e = refl
mark_is true false e = cc e
mark_is false true e = cc e
mark_is false false e = refl

mark_itself : (a : Bool) → same_mark a a ≡ true
mark_itself true = refl
mark_itself false = refl

both : (a b : Bool) → a ≡ true → b ≡ true → (a && b) ≡ true
both true b e f = f
both false b e f = e

-- facts that agree with others are these, but for the detector's answer
pub agreed : (f own : PartFacts) → agree f own ≡ true → f ≡ with_value own f
agreed f own h =
    let last = and_parts (same_mark f.still own.still && same_mark f.black own.black && int_eq f.counter own.counter && same_mark f.live own.live && same_mark f.votes own.votes) (same_mark f.at_end own.at_end) h in
    let fifth = and_parts (same_mark f.still own.still && same_mark f.black own.black && int_eq f.counter own.counter && same_mark f.live own.live) (same_mark f.votes own.votes) last.0 in
    let fourth = and_parts (same_mark f.still own.still && same_mark f.black own.black && int_eq f.counter own.counter) (same_mark f.live own.live) fifth.0 in
    let third = and_parts (same_mark f.still own.still && same_mark f.black own.black) (int_eq f.counter own.counter) fourth.0 in
    let second = and_parts (same_mark f.still own.still) (same_mark f.black own.black) third.0 in
    let still = mark_is f.still own.still second.0 in
    let black = mark_is f.black own.black second.1 in
    let counter = (Decides-int_eq f.counter own.counter).0 third.1 in
    let live = mark_is f.live own.live fourth.1 in
    let votes = mark_is f.votes own.votes fifth.1 in
    let at_end = mark_is f.at_end own.at_end last.1 in
    ap (λ b. record f { still = b }) still
    ∙ ap (λ b. record f { still = own.still; black = b }) black
    ∙ ap (λ z. record f { still = own.still; black = own.black; counter = z }) counter
    ∙ ap (λ b. record f { still = own.still; black = own.black; counter = own.counter; live = b }) live
    ∙ ap (λ b. record f { still = own.still; black = own.black; counter = own.counter; live = own.live; votes = b }) votes
    ∙ ap (λ b. record f { still = own.still; black = own.black; counter = own.counter; live = own.live; votes = own.votes; at_end = b }) at_end

-- facts agree with themselves, whatever the detector's answer is
pub agrees : (own : PartFacts) (value : ℕ) → agree (record own { value = value }) own ≡ true
agrees own value =
    both (same_mark own.still own.still && same_mark own.black own.black && int_eq own.counter own.counter && same_mark own.live own.live && same_mark own.votes own.votes) (same_mark own.at_end own.at_end)
    (both (same_mark own.still own.still && same_mark own.black own.black && int_eq own.counter own.counter && same_mark own.live own.live) (same_mark own.votes own.votes)
    (both (same_mark own.still own.still && same_mark own.black own.black && int_eq own.counter own.counter) (same_mark own.live own.live)
    (both (same_mark own.still own.still && same_mark own.black own.black) (int_eq own.counter own.counter)
    (both (same_mark own.still own.still) (same_mark own.black own.black) (mark_itself own.still) (mark_itself own.black))
    ((Decides-int_eq own.counter own.counter).1 refl))
    (mark_itself own.live)) (mark_itself own.votes)) (mark_itself own.at_end)

-- the facts that cross are a part's own, and what becomes of the part is this
pub record Own {S : Type 0} (own f : PartFacts) (new t : S) : Type 0 where
  pub facts : f ≡ with_value own f
  pub is : new ≡ t

own_by : {S : Type 0} (own f : PartFacts) (b : Bool) (new t : S) → agree f own ≡ b → cond b (Some new) None ≡ Some t → Own own f new t
own_by own f true new t e h = record { facts = agreed f own e; is = ap (λ o. unwrap_or o t) h }
own_by own f false new t e h = cc h

pub own_taken : {S : Type 0} (own f : PartFacts) (new t : S) → if_own own f new ≡ Some t → Own own f new t
own_taken own f new t h = own_by own f (agree f own) new t refl h

still_by : {S : Type 0} (own f : PartFacts) (a b : Bool) (new t : S) → agree f own ≡ a → own.still ≡ b → cond (a && b) (Some new) None ≡ Some t → Own own f new t × (own.still ≡ true)
still_by own f true true new t e g h = (record { facts = agreed f own e; is = ap (λ o. unwrap_or o t) h }, g)
still_by own f true false new t e g h = cc h
still_by own f false b new t e g h = cc h

pub still_taken : {S : Type 0} (own f : PartFacts) (new t : S) → if_still own f new ≡ Some t → Own own f new t × (own.still ≡ true)
still_taken own f new t h = still_by own f (agree f own) own.still new t refl refl h

-- a part that tells its own facts can do so, whatever the detector's answer is
pub own_given : {S : Type 0} (own : PartFacts) (value : ℕ) (new : S) → if_own own (record own { value = value }) new ≡ Some new
own_given own value new = ap (λ b. cond b (Some new) None) (agrees own value)

pub still_given : {S : Type 0} (own : PartFacts) (value : ℕ) (new : S) → own.still ≡ true → if_still own (record own { value = value }) new ≡ Some new
still_given own value new h = ap (λ b. cond b (Some new) None) (both (agree (record own { value = value }) own) own.still (agrees own value) h)
