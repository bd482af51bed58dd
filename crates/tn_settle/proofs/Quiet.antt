-- Walks in which no event is final.
use Rattle.std.proofs.Common.{◌≡◌, ◌≢◌, ◌∙◌, ◌++◌, ◌∷◌, [], List, None, Some, refl, sym, subst}
use Rattle.tn_base.specs.declared.event.Event.{Event}
use Rattle.tn_rows.proofs.Cutting.{cut_whole}
use Rattle.tn_rows.specs.Cuts.{IsCut}
use Rattle.tn_rows.specs.Ends.{final_after, final_of, last_of}
use Rattle.tn_rows.specs.Events.{happened}
use Rattle.tn_rows.specs.Runs.{Run, Walk}
use Rattle.tn_rows.specs.WorldView.{WorldView}

-- no event of these is final, as long as each is enabled in turn
abbrev pub Quiet : WorldView → List Event → Type 0
Quiet start [] = Unit {0}
Quiet start (e ∷ es) = (mid : WorldView) → happened e start ≡ Some mid → (final_of e mid ≡ None) × Quiet mid es

one_end : (e : Event) (start a b : WorldView) → happened e start ≡ Some a → happened e start ≡ Some b → a ≡ b
one_end e start a b h k = let is : Some a ≡ Some b = sym h ∙ k in cc is

-- a cut of such a walk does not end with a final event
quiet_last : (start : WorldView) (cut rest : List Event) (end : WorldView) → Run start cut end → Quiet start (cut ++ rest) → final_after (last_of cut) end ≡ None
quiet_last start [] rest end run quiet = refl
quiet_last start (e ∷ []) rest end run quiet = subst (λ (w : WorldView). final_of e w ≡ None) run.3 (quiet run.0 run.1).0
quiet_last start (e ∷ f ∷ fs) rest end run quiet = quiet_last run.0 (f ∷ fs) rest end run.3 (quiet run.0 run.1).1

pub quiet_cut : (start : WorldView) (whole cut : List Event) (end : WorldView) → IsCut start whole cut end → Quiet start whole → final_after (last_of cut) end ≡ None
quiet_cut start whole cut end c quiet = quiet_last start cut c.rest end c.run (subst (Quiet start) (sym c.begins) quiet)

-- no event of a run is final if the last event is not final
quiet_run : (start : WorldView) (es : List Event) (end : WorldView) → Run start es end → final_after (last_of es) end ≡ None → Quiet start es
quiet_run start [] end run none = tt
quiet_run start (e ∷ []) end run none = λ mid h.
    let same : end ≡ mid = sym run.3 ∙ one_end e start run.0 mid run.1 h in
    (subst (λ (w : WorldView). final_of e w ≡ None) same none, tt)
quiet_run start (e ∷ f ∷ fs) end run none = λ mid h.
    let same : run.0 ≡ mid = one_end e start run.0 mid run.1 h in
    let more : f ∷ fs ≢ [] = λ is. cc is in (
      subst (λ (w : WorldView). final_of e w ≡ None) same (run.2 more),
      subst (λ (w : WorldView). Quiet w (f ∷ fs)) same (quiet_run run.0 (f ∷ fs) end run.3 none),
    )

-- if the cut does not end with a final event, no event of the walk is final
pub cut_quiet : (start : WorldView) (whole cut : List Event) (end last : WorldView) → IsCut start whole cut end → Walk start whole last → final_after (last_of cut) end ≡ None → Quiet start whole
cut_quiet start whole cut end last c walk none =
    let all = cut_whole start whole cut end last c walk none in
    subst (Quiet start) all.0 (quiet_run start cut end c.run none)
