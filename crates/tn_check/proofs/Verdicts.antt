-- Events have at most one verdict.
use Rattle.std.proofs.Common.{◌≡◌, ◌≢◌, ◌∙◌, ◌⊎◌, inl, inr, ⊎_elim, ℕ, List, [], ◌∷◌, ◌++◌, length, ◌<◌, Option, Some, None, refl, sym, ap, subst, arith}
use Rattle.std.proofs.lemmas.Bool.{cases_lt}
use Rattle.std.specs.Prelude.{IsSome}
use Rattle.tn_base.specs.declared.event.Event.{Event}
use Rattle.tn_check.specs.Checks.{FaultAt, IsRun, OneVerdict}
use Rattle.tn_check.specs.declared.check.Verdict.TheVariants as verdict
use Rattle.tn_rows.specs.Ends.{final_after, final_of, last_of}
use Rattle.tn_rows.specs.Events.{happened}
use Rattle.tn_rows.specs.Runs.{Run}
use Rattle.tn_rows.specs.WorldView.{WorldView}

-- an event is at fault after a run
abbrev pub Fault : Event → List Event → WorldView → Type 0
Fault e before end = (happened e end ≡ None) ⊎ IsSome (final_after (last_of before) end)

one_end : (e : Event) (w a b : WorldView) → happened e w ≡ Some a → happened e w ≡ Some b → a ≡ b
one_end e w a b h k = let is : Some a ≡ Some b = sym h ∙ k in cc is

some_none : {A : Type 0} (o : Option A) → IsSome o → o ≡ None → ⊥
some_none None some is = cc some
some_none (Some x) some is = cc is

past_one : (start mid end : WorldView) (f e : Event) (others : List Event) (next : WorldView) → next ≡ mid → Fault e (f ∷ []) mid → ((e ∷ others) ≢ [] → final_of f next ≡ None) → Run next (e ∷ others) end → ⊥
past_one start mid end f e others next same (inl none) not more =
    let clash : None ≡ Some more.0 = sym (subst (λ (w : WorldView). happened e w ≡ None) (sym same) none) ∙ more.1 in cc clash
past_one start mid end f e others next same (inr final) not more =
    some_none (final_of f mid) final (subst (λ (w : WorldView). final_of f w ≡ None) same (not (λ is. cc is)))

-- a run cannot go on with an event that is at fault after its front
goes_past : (start mid end : WorldView) (before : List Event) (e : Event) (others : List Event) → Run start before mid → Fault e before mid → Run start (before ++ e ∷ others) end → ⊥
goes_past start mid end [] e others run (inl none) whole =
    let clash : None ≡ Some whole.0 = sym (subst (λ (w : WorldView). happened e w ≡ None) (sym run) none) ∙ whole.1 in cc clash
goes_past start mid end [] e others run (inr final) whole = cc final
goes_past start mid end (f ∷ []) e others run fault whole =
    let same : whole.0 ≡ mid = one_end f start whole.0 run.0 whole.1 run.1 ∙ run.3 in
    past_one start mid end f e others whole.0 same fault whole.2 whole.3
goes_past start mid end (f ∷ g ∷ gs) e others run fault whole =
    let same : whole.0 ≡ run.0 = one_end f start whole.0 run.0 whole.1 run.1 in
    goes_past run.0 mid end (g ∷ gs) e others run.3 fault (subst (λ (w : WorldView). Run w ((g ∷ gs) ++ e ∷ others) end) same whole.3)

-- of two fronts of one list, each followed by one item, the longer one has the shorter and its item
longer_front : (a b : List Event) (e f : Event) (xs ys : List Event) → a ++ e ∷ xs ≡ b ++ f ∷ ys → length a < length b → (rest : List Event) × (b ≡ a ++ e ∷ rest)
longer_front [] [] e f xs ys same less = absurd (omega (arith, less))
longer_front [] (g ∷ gs) e f xs ys same less = let first : e ≡ g = cc same in (gs, ap (λ (x : Event). x ∷ gs) (sym first))
longer_front (h ∷ hs) [] e f xs ys same less = absurd (omega (arith, less))
longer_front (h ∷ hs) (g ∷ gs) e f xs ys same less =
    let first : h ≡ g = cc same in
    let others : hs ++ e ∷ xs ≡ gs ++ f ∷ ys = cc same in
    let rest = longer_front hs gs e f xs ys others (omega (arith, less)) in
    (rest.0, ap (λ (x : Event). x ∷ gs) (sym first) ∙ ap (λ (ts : List Event). h ∷ ts) rest.1)

-- a run is not refused
not_both : (at : ℕ) (start : WorldView) (events : List Event) → IsRun start events → FaultAt at start events → ⊥
not_both at start events whole f = goes_past start f.end whole.0 f.before f.event f.others f.run f.fault (subst (λ (es : List Event). Run start es whole.0) f.split whole.1)

-- no event is at fault before another
not_before : (a b : ℕ) (start : WorldView) (events : List Event) → FaultAt a start events → FaultAt b start events → a < b → ⊥
not_before a b start events f g less =
    let shorter : length f.before < length g.before = omega (arith, f.place, g.place, less) in
    let rest = longer_front f.before g.before f.event g.event f.others g.others (sym f.split ∙ g.split) shorter in
    goes_past start f.end g.end f.before f.event rest.0 f.run f.fault (subst (λ (es : List Event). Run start es g.end) rest.1 g.run)

same_place : (a b : ℕ) (start : WorldView) (events : List Event) → FaultAt a start events → FaultAt b start events → a ≡ b
same_place a b start events f g =
    ⊎_elim (λ less. absurd (not_before a b start events f g less))
    (λ least. ⊎_elim (λ less. absurd (not_before b a start events g f less)) (λ most. omega (arith, least, most)) (cases_lt b a))
    (cases_lt a b)

pub one_verdict : OneVerdict
one_verdict verdict.Run verdict.Run start events f g = refl
one_verdict verdict.Run (verdict.Refused at) start events f g = absurd (not_both at start events f g)
one_verdict (verdict.Refused at) verdict.Run start events f g = absurd (not_both at start events g f)
one_verdict (verdict.Refused a) (verdict.Refused b) start events f g = ap verdict.Refused (same_place a b start events f g)
