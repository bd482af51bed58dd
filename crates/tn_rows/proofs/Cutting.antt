-- Walks cut after their first final event.
use Rattle.std.proofs.Common.{◌≡◌, ◌∙◌, ◌∷◌, [], ◌⊎◌, inl, inr, Bool, true, false, List, None, Some, refl, sym, ap, subst, is_some, MatchOption, IsSome}
use Rattle.std.specs.declared.option.Option.{Option}
use Rattle.tn_base.specs.declared.event.Event.{Event}
use Rattle.tn_base.specs.declared.event.Outcome.{Outcome}
use Rattle.tn_rows.specs.Cuts.{IsCut, IsOver}
use Rattle.tn_rows.specs.Ends.{final_after, final_of, last_of}
use Rattle.tn_rows.specs.Events.{Rests, happened}
use Rattle.tn_rows.specs.Runs.{Run, Walk}
use Rattle.tn_rows.specs.WorldView.{WorldView}

-- events from one machine have one end
pub same_end : (start : WorldView) (es : List Event) (a b : WorldView) → Walk start es a → Walk start es b → a ≡ b
same_end start [] a b p q = sym p ∙ q
same_end start (e ∷ es) a b p q =
    let same : Some p.0 ≡ Some q.0 = sym p.1 ∙ q.1 in
    let is : p.0 ≡ q.0 = cc in
    same_end q.0 es a b (subst (λ m. Walk m es a) is p.2) q.2

pub walk_from_run : (start : WorldView) (es : List Event) (end : WorldView) → Run start es end → Walk start es end
walk_from_run start [] end r = r
walk_from_run start (e ∷ es) end r = (r.0, r.1, walk_from_run r.0 es end r.3)

-- what a cut has after a first event that is not final
cut_more : (start mid end : WorldView) (e : Event) (whole cut : List Event) → happened e start ≡ Some mid → final_of e mid ≡ None → IsCut mid whole cut end → IsCut start (e ∷ whole) (e ∷ cut) end
cut_more start mid end e whole cut h calm c = record {
  rest = c.rest;
  begins = ap (λ es. e ∷ es) c.begins;
  run = (mid, h, (λ n. calm), c.run);
  ends = by cut c.run c.ends;
}
  where
    by : (cut : List Event) → Run mid cut end → IsSome (final_after (last_of cut) end) ⊎ (cut ≡ whole) → IsSome (final_after (last_of (e ∷ cut)) end) ⊎ (e ∷ cut ≡ e ∷ whole)
    by cut r (inr same) = inr (ap (λ es. e ∷ es) same)
    by [] r (inl final) = cc final
    by (f ∷ fs) r (inl final) = inl final

-- a first event that is final is the whole cut
cut_here : (start mid : WorldView) (e : Event) (es : List Event) (o : Outcome) → happened e start ≡ Some mid → final_of e mid ≡ Some o → IsCut start (e ∷ es) (e ∷ []) mid
cut_here start mid e es o h final = record {
  rest = es;
  begins = refl;
  run = (mid, h, (λ n. absurd (n refl)), refl);
  ends = inl (some_is (final_of e mid) final);
}
  where
    some_is : (x : Option Outcome) → x ≡ Some o → IsSome x
    some_is None p = cc
    some_is (Some y) p = refl

-- a cut of a walk
pub record Cut (start : WorldView) (whole : List Event) : Type 0 where
  pub history : List Event
  pub end : WorldView
  pub is : IsCut start whole history end

-- each walk has a cut, which is a run
pub cut_of : (start : WorldView) (es : List Event) (end : WorldView) → Walk start es end → Cut start es
cut_of start [] end w = record { history = []; end = start; is = record { rest = []; begins = refl; run = refl; ends = inr refl } }
cut_of start (e ∷ es) end w = by (final_of e w.0) refl (cut_of w.0 es end w.2)
  where
    by : (o : Option Outcome) → final_of e w.0 ≡ o → Cut w.0 es → Cut start (e ∷ es)
    by None calm c = record { history = e ∷ c.history; end = c.end; is = cut_more start w.0 c.end e es c.history w.1 calm c.is }
    by (Some o) final c = record { history = e ∷ []; end = w.0; is = cut_here start w.0 e es o w.1 final }

not_both : (b : Bool) → b ≡ true → b ≡ false → ⊥
not_both b p q = cc

-- where the cut's last event is not final, nothing was cut off
pub cut_whole : (start : WorldView) (whole cut : List Event) (end last : WorldView) → IsCut start whole cut end → Walk start whole last → final_after (last_of cut) end ≡ None → (cut ≡ whole) × (end ≡ last)
cut_whole start whole cut end last c w none = by c.ends
  where
    by : IsSome (final_after (last_of cut) end) ⊎ (cut ≡ whole) → (cut ≡ whole) × (end ≡ last)
    by (inl final) = let bad : is_some (final_after (last_of cut) end) ≡ false = ap (λ (o : Option Outcome). is_some o) none in absurd (not_both (is_some (final_after (last_of cut) end)) final bad)
    by (inr same) = (same, same_end start cut end last (walk_from_run start cut end c.run) (subst (λ es. Walk start es last) (sym same) w))

-- where nothing is enabled after the whole walk, its cut is over
pub cut_over : (start : WorldView) (whole cut : List Event) (end last : WorldView) → IsCut start whole cut end → Walk start whole last → Rests last → IsOver cut end
cut_over start whole cut end last c w rests = by (final_after (last_of cut) end) refl
  where
    by : (o : Option Outcome) → final_after (last_of cut) end ≡ o → MatchOption o (Rests end) (λ o. Unit {0})
    by None none = let k = cut_whole start whole cut end last c w none in subst Rests (sym k.1) rests
    by (Some o) final = tt
