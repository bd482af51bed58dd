-- Reading on from a draft.
use Rattle.std.proofs.Common.{◌≡◌, ◌⊎◌, ℕ, ◌+◌, true, List, [], ◌∷◌, ◌++◌, flat_map, refl, ap, ◌∙◌, ⊎_elim, append_assoc}
use Rattle.std.specs.declared.result.Result.{Result}
use Rattle.std.specs.declared.result.Result.TheVariants.{Ok}
use Rattle.tn_text.specs.Lines.{lines_of, feed}
use Rattle.tn_text.specs.Reading.{and_on}
use Rattle.tn_text.specs.Words.{words_of, spaced}
use Rattle.tn_text.specs.Content.{content_of, is_plain}
use Rattle.job_text.specs.declared.job.JobKind.{JobKind}
use Rattle.job_text.specs.declared.draft.Place.{Place}
use Rattle.job_text.specs.declared.draft.Place.TheVariants.{AtSettings, AtSections}
use Rattle.job_text.specs.declared.draft.Draft.{Draft}
use Rattle.job_text.specs.Text.{bare, drafted, step, content_line, entry_line}
use Rattle.tn_text.proofs.Clean.{IsLine, IsWord, AreWords, lines_of-line, plain_line, content_line_is, line_of_words, words_of-line}

-- behind n lines, this text makes of the draft d the draft e behind m lines, whatever follows
pub record Leads (d : Draft) (n : ℕ) (text : List ℕ) (e : Draft) (m : ℕ) : Type 0 where
  pub reads : (rest : List ℕ) → drafted (n + 1) (lines_of (text ++ rest)) d ≡ drafted (m + 1) (lines_of rest) e

pub leads_none : (d : Draft) (n : ℕ) → Leads d n [] d n
leads_none d n = record { reads = λ rest. refl }

pub leads_then : (d : Draft) (n : ℕ) (s : List ℕ) (e : Draft) (m : ℕ) (t : List ℕ) (f : Draft) (k : ℕ) → Leads d n s e m → Leads e m t f k → Leads d n (s ++ t) f k
leads_then d n s e m t f k p q = record {
  reads = λ rest. ap (λ (xs : List ℕ). drafted (n + 1) (lines_of xs) d) (append_assoc s t rest) ∙ p.reads (t ++ rest) ∙ q.reads rest;
}

-- a line of this content
pub leads_content : (d : Draft) (n : ℕ) (l : List ℕ) (e : Draft) → ((rest : List ℕ) → lines_of (l ++ 10 ∷ rest) ≡ l ∷ lines_of rest)
    → is_plain l ≡ true → content_of l ≡ l → content_line d.place d (n + 1) l ≡ Ok e → Leads d n (l ++ feed) e (n + 1)
leads_content d n l e line plain content taken = record {
  reads = λ rest.
      let stepped : step (n + 1) (bare l) d ≡ Ok e = rw (plain, content) taken in
      ap (λ (xs : List ℕ). drafted (n + 1) (lines_of xs) d) (append_assoc l feed rest)
      ∙ ap (λ (ls : List (List ℕ)). drafted (n + 1) ls d) (line rest)
      ∙ ap (λ (r : Result Draft JobKind). and_on (n + 1) r (λ f. drafted (n + 1 + 1) (lines_of rest) f)) stepped;
}

pub leads_line : (d : Draft) (n : ℕ) (l : List ℕ) (e : Draft) → IsLine l → content_line d.place d (n + 1) l ≡ Ok e → Leads d n (l ++ feed) e (n + 1)
leads_line d n l e h taken = leads_content d n l e (λ rest. lines_of-line l rest h.bytes) (plain_line l h) (content_line_is l h) taken

-- outside sections, behind the shape
abbrev pub IsOutside : Place → Type 0
IsOutside place = (place ≡ AtSettings) ⊎ (place ≡ AtSections)

pub entry_content : (d : Draft) (n : ℕ) (l : List ℕ) → IsOutside d.place → content_line d.place d n l ≡ entry_line d n l (words_of l)
entry_content d n l h = ⊎_elim (λ e. rw e refl) (λ e. rw e refl) h

-- a line of words outside sections
pub leads_entry : (d : Draft) (n : ℕ) (w : List ℕ) (ws : List (List ℕ)) (e : Draft) → IsOutside d.place → IsWord w → AreWords ws
    → entry_line d (n + 1) (w ++ flat_map spaced ws) (w ∷ ws) ≡ Ok e → Leads d n (w ++ flat_map spaced ws ++ feed) e (n + 1)
leads_entry d n w ws e out h hs taken =
    let l = w ++ flat_map spaced ws in
    leads_line d n l e (line_of_words w ws h hs)
    (entry_content d (n + 1) l out ∙ ap (entry_line d (n + 1) l) (words_of-line w ws h hs) ∙ taken)
