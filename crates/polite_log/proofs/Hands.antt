-- How many letters are handed in a history, event by event.
use Rattle.std.proofs.Common.{ℕ, ◌+◌, ◌≡◌, ◌<◌, ◌∙◌, List, [], ◌∷◌, length, drop, get_or, sym, ap, subst, arith, Option, Some, option_map, unwrap_or, cond}
use Rattle.std.specs.Prelude.{count_by}
use Rattle.std.proofs.lemmas.List.{drop_more}
use Rattle.std.proofs.lemmas.List.Sums.{sum_by-append}
use Rattle.tn_base.specs.declared.event.Event.{Event}
use Rattle.tn_rows.specs.Events.{happened}
use Rattle.tn_rows.specs.Runs.{Run}
use Rattle.tn_rows.specs.WorldView.{WorldView}
use Rattle.tn_letters.specs.declared.steps.BagStep.{BagStep}
use Rattle.tn_letters.specs.Steps.{bag_of, event_steps}
use Rattle.polite_log.specs.Summary.{is_hand, letters_in}

-- the events so far were made, and so many letters were handed; the others are left
pub record Counting (start now : WorldView) (history others : List Event) (n : ℕ) : Type 0 where
  pub run : (end : WorldView) × Run now others end
  pub count : n + letters_in now others ≡ letters_in start history

letters_next : (e : Event) (es : List Event) (w new : WorldView) → happened e w ≡ Some new → letters_in w (e ∷ es) ≡ count_by is_hand (event_steps e w) + letters_in new es
letters_next e es w new h =
    sum_by-append (λ (s : BagStep). cond (is_hand s) 1 0) (event_steps e w) (unwrap_or (option_map (λ mid. bag_of mid es) (happened e w)) [])
    ∙ ap (λ (o : Option WorldView). count_by is_hand (event_steps e w) + count_by is_hand (unwrap_or (option_map (λ mid. bag_of mid es) o) [])) h

sum_next : (n k more rest all : ℕ) → n + all ≡ more → all ≡ k + rest → (n + k) + rest ≡ more
sum_next n k more rest all e f = omega (arith, e, f)

next : (start now new : WorldView) (history : List Event) (e : Event) (es : List Event) (n k : ℕ) → Counting start now history (e ∷ es) n → happened e now ≡ Some new → k ≡ count_by is_hand (event_steps e now) → Counting start new history es (n + k)
next start now new history e es n k c h is =
    let mid : WorldView = c.run.1.0 in
    let same : mid ≡ new = ap (λ (o : Option WorldView). unwrap_or o mid) (sym c.run.1.1 ∙ h) in
    record {
      run = (c.run.0, subst (λ (w : WorldView). Run w es c.run.0) same c.run.1.3);
      count = sum_next n k (letters_in start history) (letters_in new es) (letters_in now (e ∷ es)) c.count (letters_next e es now new h ∙ ap (λ j. j + letters_in new es) (sym is));
    }

split : (start now : WorldView) (history : List Event) (i : ℕ) (d : Event) (n : ℕ) → Counting start now history (drop i history) n → i < length history → Counting start now history (get_or history i d ∷ drop (i + 1) history) n
split start now history i d n c less = subst (λ es. Counting start now history es n) (drop_more history i d less) c

pub counting_next : (start now new : WorldView) (history : List Event) (i : ℕ) (d : Event) (n k more : ℕ) → Counting start now history (drop i history) n → i < length history → happened (get_or history i d) now ≡ Some new → k ≡ count_by is_hand (event_steps (get_or history i d) now) → more ≡ n + k → Counting start new history (drop (i + 1) history) more
counting_next start now new history i d n k more c less h is sum =
    subst (λ m. Counting start new history (drop (i + 1) history) m) (sym sum)
    (next start now new history (get_or history i d) (drop (i + 1) history) n k (split start now history i d n c less) h is)
