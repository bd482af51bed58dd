-- What the rule says of seats, in its own words.
use Rattle.std.proofs.Common.{◌≡◌, ◌≢◌, ◌⊎◌, ℕ, ◌+◌, ◌<◌, ◌∙◌, List, length, true, false, Option, ap, sym, subst, inl, inr, arith, true≢false}
use mathlib.Core.Option.{some}
use lib.ListN.{get_elem?}
use Rattle.atomic_table.specs.Table.{State}
use Rattle.tn_turns.specs.declared.view.SeatView.{SeatView}
use Rattle.tn_turns.specs.declared.view.View.{View}
use Rattle.tn_turns.specs.declared.view.View.TheVariants.{Kept, Given, Spent}
use Rattle.tn_turns.specs.Outs.{LacksTurn}
use Rattle.tn_turns.specs.Rule.{among, IsHome, IsOut, Stands, SeatOk}
use Rattle.tn_turns.specs.Numbers.{IsOnly, IsOutWith, InWords, WordsKept}
use Rattle.tn_turns.proofs.ByIndex.{at_within, one_at, there}

module _ {T : Type 0} (shown : List T) (s : State (Option T) (View T)) (r : Stands shown s) where
  number : (m : ℕ) → m < r.desk.given → (v : View T) → get_elem? s.views (m + 1) ≡ some v → SeatOk r.desk (m + 1) v
      → ((among m r.desk.joined ≡ true) × ((k : ℕ) (h : SeatView T) → get_elem? s.views k ≡ some (Given h) → h.number ≢ m)) ⊎ ((among m r.desk.joined ≡ false) × ((k : ℕ) × IsOnly s.views m k))
  number m l (Kept d) at ok = let z = ok.0 in absurd (omega arith)
  number m l (Given h) at ok = let z = ok.0 in let same : h.number ≡ m = omega arith in
      inr ((λ t. among (sym same t) r.desk.joined) ∙ ok.1, (m + 1, ((h, at, same), λ j g e n. (r.seats j (Given g) e).0 ∙ ap (λ (k : ℕ). k + 1) n)))
  number m l Spent at ok = let z = ok.1 in let same : ok.0 ≡ m = omega arith in let gone : among m r.desk.joined ≡ true = (λ t. among (sym same t) r.desk.joined) ∙ ok.2 in
      inl (gone, λ k h e n. true≢false (sym gone ∙ ((λ t. among (sym n t) r.desk.joined) ∙ (r.seats k (Given h) e).1)))

  word : (i k : ℕ) → get_elem? s.words i ≡ some k → (x : T) → IsHome s.words s.homes i x ⊎ IsOut s.words s.homes s.views i x
      → ((k ≡ 0) × ((j : ℕ) (h : SeatView T) → get_elem? s.views j ≡ some (Given h) → LacksTurn h.outs i)) ⊎ IsOutWith s.views i k
  word i k at x (inl home) =
      let none : k ≡ 0 = one_at s.words i k 0 at home.word in
      inl (none, λ j h is y rec. let same : j ≡ k = one_at s.words i j k (r.outs j i h y is rec) at in let above = (r.seats j (Given h) is).0 in absurd (omega arith))
  word i k at x (inr out) =
      let same : out.seat ≡ k = one_at s.words i out.seat k out.word at in
      inr record {
        hold = out.hold;
        view = subst (λ (z : ℕ). get_elem? s.views z ≡ some (Given out.hold)) same out.view;
        number = sym same ∙ (r.seats out.seat (Given out.hold) out.view).0;
        item = x;
        has = out.recorded;
        only = λ j h y is rec. one_at s.words i j k (r.outs j i h y is rec) at;
      }

  words_kept : WordsKept s.words s.views
  words_kept i k at =
      let inside : i < length shown = (let a = r.words_size in let b = r.size in let c = at_within s.words i k at in omega arith) in
      let item = there shown i inside in
      word i k at item.0 (r.items i item.0 item.1)

  pub in_words : InWords shown s
  in_words = (r.desk, (r.kept, λ k e at. (r.seats k (Kept e) at).0), (r.once, λ m l. let inside : m + 1 < length s.views = (let c = r.count in omega arith) in let v = there s.views (m + 1) inside in number m l v.0 v.1 (r.seats (m + 1) v.0 v.1)), words_kept)
