-- If no fault rose and memory was there, a call answers for its input: once for all commands.
use Rattle.std.proofs.Common.{◌≡◌, ◌≢◌, ℕ, ◌≤◌, Bool, true, false, List, ◌++◌, length, Option, None, Some, inl, inr, refl, sym, ap, subst, ◌∙◌, append-nil, length-append, arith}
use Rattle.std.specs.Bool.{MatchBool}
use Rattle.std.specs.Io.KnownBytes.{Consumes}
use Rattle.tn_io.specs.Whole.{IsWhole}
use Rattle.tn_call.specs.declared.status.Status.{Status}
use Rattle.tn_call.specs.declared.status.Status.TheVariants.{Done, Usage, Refused, Trapped, BadKey, Spent, Jammed, ReadFault, WriteFault, Memory, TooLong}
use Rattle.tn_call.specs.Answers.{Answers, Completes, Finishes, IsCalm, Takes}
use Rattle.tn_call.specs.Streams.{Leaves, Reads, Streams, most_bytes}

-- all that was left is all that is told
whole_is : (input bytes : List ℕ) (old new : Option (List ℕ)) → old ≡ Some bytes → IsWhole input most_bytes old new → input ≡ bytes
whole_is input bytes None new told h = cc told
whole_is input bytes (Some left) None told h = absurd h.all
whole_is input bytes (Some left) (Some rest) told h =
    let same : left ≡ bytes = cc told in
    sym (sym same ∙ h.all ∙ ap (λ (r : List ℕ). input ++ r) h.ended ∙ append-nil input)

-- what was taken is no longer than what is told
taken_fits : (taken bytes : List ℕ) (old new : Option (List ℕ)) → old ≡ Some bytes → Consumes old new taken → length taken ≤ length bytes
taken_fits taken bytes None new told h = cc told
taken_fits taken bytes (Some left) None told h = absurd h
taken_fits taken bytes (Some left) (Some rest) told h =
    let same : left ≡ bytes = cc told in
    omega (arith, ap length same, ap length h, length-append taken rest)

-- an input is short
short_by : (b : Bool) (input : List ℕ) (s : Streams) → MatchBool b (Reads input s) (Leaves input s) → length input ≤ most_bytes
short_by true input s t = t.whole.short
short_by false input s t = omega (arith, ap length t.none)

-- the input of a source that tells its bytes
told_by : (b : Bool) (input : List ℕ) (s : Streams) → MatchBool b (Reads input s) (Leaves input s)
    → b ≡ true → (bytes : List ℕ) → s.source.bytes ≡ Some bytes → input ≡ bytes
told_by true input s t reads bytes told = whole_is input bytes s.source.bytes s.source'.bytes told t.whole
told_by false input s t reads bytes told = cc reads

one_command : {C : Type 0} (form : Option C) (a b : C) → form ≡ Some a → form ≡ Some b → a ≡ b
one_command form a b h k = cc

module _ {C K : Type 0} (reads : C → Bool) (answer : C → List ℕ → K → Status → List ℕ → Type 0) (fresh : K → Type 0) where
  finishes : (status : Status) (form : Option C) (s : Streams) (kept : K) (command : C) → Finishes reads answer fresh status form s kept
      → IsCalm reads answer fresh command form s → Completes reads answer fresh command status s kept
  finishes status form s kept command f calm =
      let one = one_command form f.command command f.is_form calm.is_form in
      let takes = subst (λ (c : C). Takes reads answer fresh c f.input s) one f.takes in
      inr (record {
        input = f.input;
        takes = takes;
        short = short_by (reads command) f.input s takes;
        told = told_by (reads command) f.input s takes;
        text = f.text;
        answers = subst (λ (c : C). answer c f.input kept status f.text) one f.answers;
        writes = f.writes;
      })

  pub completes : (status : Status) (form : Option C) (s : Streams) (kept : K) (command : C) → Answers reads answer fresh status form s kept
      → IsCalm reads answer fresh command form s → status ≢ Memory → Completes reads answer fresh command status s kept
  completes Usage form s kept command a calm ne = let h = calm.is_form in let k = a.no_form in cc
  completes ReadFault form s kept command a calm ne = absurd (calm.read a.rose)
  completes TooLong form s kept command a calm ne =
      let one = one_command form a.command command a.is_form calm.is_form in
      inl (record {
        is_reader = subst (λ (c : C). reads c ≡ true) one a.is_reader;
        status_is = refl;
        taken = a.taken;
        consumed = a.consumed;
        long = a.long;
        told = λ bytes told. omega (arith, taken_fits a.taken bytes s.source.bytes s.source'.bytes told a.consumed, a.long);
      })
  completes Memory form s kept command a calm ne = absurd (ne refl)
  completes WriteFault form s kept command a calm ne = absurd (calm.written a.breaks.rose)
  completes Refused form s kept command a calm ne = finishes Refused form s kept command a calm
  completes Done form s kept command a calm ne = finishes Done form s kept command a calm
  completes Trapped form s kept command a calm ne = finishes Trapped form s kept command a calm
  completes BadKey form s kept command a calm ne = finishes BadKey form s kept command a calm
  completes Spent form s kept command a calm ne = finishes Spent form s kept command a calm
  completes Jammed form s kept command a calm ne = finishes Jammed form s kept command a calm
