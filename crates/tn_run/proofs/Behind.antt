-- The lines behind a job are few.
use Rattle.std.proofs.Common.{◌≡◌, ℕ, ◌+◌, ◌^◌, ◌<◌, ◌≤◌, true, List, length, Option, Some, None, sym, ap, ⊎_elim, arith, length-drop}
use Rattle.std.specs.List.{after_first, before_first, list_any, position_or_len}
use Rattle.std.proofs.lemmas.Bool.{cases_Bool}
use Rattle.std.proofs.lemmas.List.{length-take}
use Rattle.tn_text.specs.Lines.{lines_of}
use Rattle.tn_trace.specs.Parting.{Parts, is_parting, lines_behind, parting_line}

front_few : (lines : List (List ℕ)) → length (before_first is_parting lines) ≤ length lines
front_few lines = omega (arith, length-take (position_or_len is_parting lines) lines)

line_few : (lines : List (List ℕ)) → parting_line lines ≤ length lines + 1
line_few lines = ⊎_elim (λ e. rw e (omega (arith, front_few lines))) (λ e. rw e (omega arith)) (cases_Bool (list_any is_parting lines))

lines_few : (lines ls : List (List ℕ)) → lines_behind lines ≡ Some ls → list_any is_parting lines ≡ true → length ls ≤ length lines
lines_few lines ls is e =
    let some : Some (after_first is_parting lines) ≡ Some ls = rw e at is in
    let same : after_first is_parting lines ≡ ls = cc some in
    omega (arith, ap length same, length-drop (position_or_len is_parting lines + 1) lines)

behind_few : (lines ls : List (List ℕ)) → lines_behind lines ≡ Some ls → length ls ≤ length lines
behind_few lines ls is = ⊎_elim (λ e. lines_few lines ls is e) (λ e. let clash : None ≡ Some ls = rw e at is in cc clash) (cases_Bool (list_any is_parting lines))

-- the lines behind the line that parts a text have numbers of 32 bits
pub fits_behind : (lines : List (List ℕ)) (front : List ℕ) (line : ℕ) (rest : Option (List ℕ)) (behind : List ℕ) → Parts lines front line rest → rest ≡ Some behind → length lines ≤ 16777216 → line + 1 + length (lines_of behind) < 2 ^ 32
fits_behind lines front line rest behind p is few =
    let some : Some (lines_of behind) ≡ lines_behind lines = rw is at p.rest_is in
    let more : length (lines_of behind) ≤ length lines = behind_few lines (lines_of behind) (sym some) in
    let number : line ≤ length lines + 1 = rw (sym p.line_is) at (line_few lines) in
    omega (arith, more, number, few)
