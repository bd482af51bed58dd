-- One more entry of a journal.
use Rattle.std.proofs.Common.{◌≡◌, ◌∙◌, ◌++◌, ◌∷◌, [], ℕ, Bool, true, false, cond, is_some, List, None, Some, refl, ap, sym, option_and_then}
use Rattle.std.specs.declared.option.Option.{Option}
use Rattle.std.specs.Option.{option_or}
use Rattle.tn_base.specs.declared.event.Event.{Event}
use Rattle.tn_base.specs.declared.event.Event.TheVariants as event
use Rattle.tn_base.specs.Does.{Does}
use Rattle.tn_stamp.specs.declared.entry.Entry.{Entry}
use Rattle.tn_stamped.specs.Doing.{BothGrown}
use Rattle.tn_part.specs.Joint.{DoesBoth}
use Rattle.tn_base.specs.declared.event.Outcome.{Outcome}
use Rattle.tn_rows.specs.Ends.{final_on}
use Rattle.tn_rows.specs.Stamped.{StampedView, first_by, first_final}
use Rattle.tn_stamp.specs.Journals.{double_entry}
use Rattle.tn_stamp.specs.declared.entry.Crossing.{Crossing}
use Rattle.tn_rows.proofs.Meeting.{met_rows}
use Rattle.tn_rows.specs.Events.{Met, after, crossing_of, meets, met_by, met_with, replay}
use Rattle.tn_rows.specs.PartView.{PartView}

and_then_push : (o : Option PartView) (es : List Entry) (e : Entry) (m t : PartView) → ((w : PartView) → replay es w ≡ Some m → replay (es ++ e ∷ []) w ≡ Some t) → option_and_then (replay es) o ≡ Some m → option_and_then (replay (es ++ e ∷ [])) o ≡ Some t
and_then_push None es e m t push h = cc
and_then_push (Some w) es e m t push h = push w h

-- one more entry
pub replay_push : (es : List Entry) (e : Entry) (s m t : PartView) → replay es s ≡ Some m → after e.event e.crossing m ≡ Some t → replay (es ++ e ∷ []) s ≡ Some t
replay_push [] e s m t h row = let same : s ≡ m = cc in rw (same, row) refl
replay_push (x ∷ es) e s m t h row = and_then_push (after x.event x.crossing s) es e m t (λ w k. replay_push es e w m t k row) h

-- the same, of a journal that is known to be longer by one entry
pub replay_more : (js es : List Entry) (e : Entry) (s m t : PartView) → js ≡ es ++ e ∷ [] → replay es s ≡ Some m → after e.event e.crossing m ≡ Some t → replay js s ≡ Some t
replay_more js es e s m t same h row = rw same (replay_push es e s m t h row)

-- what a call that happened did
pub row_of : {V : Type 0} (o : Option V) (old new : V) → Does true o old new → o ≡ Some new
row_of None old new d = cc (d.0)
row_of (Some v) old new d = ap (λ x. Some x) (sym d.1)

pub none_of : {V : Type 0} (o : Option V) (old new : V) → Does false o old new → o ≡ None
none_of None old new d = refl
none_of (Some v) old new d = cc (d.0)

both_by : (o : Option Met) (v w v' w' : PartView) → DoesBoth true o v w v' w' → o ≡ Some (record { low = v'; high = w' })
both_by None v w v' w' d = cc (d.0)
both_by (Some m) v w v' w' d = ap (λ (x : PartView). Some (record { low = x; high = m.high })) (sym d.1) ∙ ap (λ (x : PartView). Some (record { low = v'; high = x })) (sym d.2)

-- both rows of an event on two parts that happened
pub both_rows : (e : Event) (c : Crossing) (v w v' w' : PartView) → crossing_of e v w ≡ Some c → DoesBoth true (meets e v w) v w v' w' → (after e c v ≡ Some v') × (after e c w ≡ Some w')
both_rows e c v w v' w' crosses does =
    let met : meets e v w ≡ Some (record { low = v'; high = w' }) = both_by (meets e v w) v w v' w' does in
    let by : met_by (after e c v) (after e c w) ≡ Some (record { low = v'; high = w' }) = ap (met_with e v w) (sym crosses) ∙ met in
    met_rows (after e c v) (after e c w) (record { low = v'; high = w' }) by

-- an event on two parts that did not happen
pub both_none : (o : Option Met) (v w v' w' : PartView) → DoesBoth false o v w v' w' → (o ≡ None) × (v' ≡ v) × (w' ≡ w)
both_none None v w v' w' d = (refl, d.1, d.2)
both_none (Some m) v w v' w' d = cc (d.0)

pub replay_same : (es : List Entry) (s m t : PartView) → replay es s ≡ Some m → t ≡ m → replay es s ≡ Some t
replay_same es s m t h e = rw e h

pub both_grown : (e : Event) (c : Crossing) (low high low' high' : StampedView)
    → crossing_of e low.present high.present ≡ Some c
    → low'.start ≡ low.start → high'.start ≡ high.start
    → low'.entries ≡ low.entries ++ double_entry low.entries high.entries e c ∷ []
    → high'.entries ≡ high.entries ++ double_entry low.entries high.entries e c ∷ []
    → DoesBoth true (meets e low.present high.present) low.present high.present low'.present high'.present
    → BothGrown e low high low' high'
both_grown e c low high low' high' crosses a b es fs does =
    let rows = both_rows e c low.present high.present low'.present high'.present crosses does in
    record {
      crossing = c;
      crosses = crosses;
      low_grown = record { start = a; entries = es; row = rows.0 };
      high_grown = record { start = b; entries = fs; row = rows.1 };
    }

-- and one that did not, by what passes and by the call
pub two_same : (e : Event) (low high low' high' : StampedView) (v w : PartView)
    → low' ≡ record low { present = v } → high' ≡ record high { present = w }
    → DoesBoth false (meets e low.present high.present) low.present high.present v w
    → (low' ≡ low) × (high' ≡ high) × (meets e low.present high.present ≡ None)
two_same e low high low' high' v w a b does =
    let n = both_none (meets e low.present high.present) low.present high.present v w does in
    (a ∙ ap (λ (x : PartView). record low { present = x }) n.1, b ∙ ap (λ (x : PartView). record high { present = x }) n.2, n.0)

-- ---- the first final event

final_push : (o : Option PartView) (es : List Entry) (e : Entry) (x : Entry) (m t : PartView) (more : Option ℕ) → ((w : PartView) → replay es w ≡ Some m → first_final (es ++ e ∷ []) w ≡ option_or (first_final es w) more) → option_and_then (replay es) o ≡ Some m →
    option_and_then (λ next. first_by (final_on x.event next) x.stamp (first_final (es ++ e ∷ []) next)) o ≡ option_or (option_and_then (λ next. first_by (final_on x.event next) x.stamp (first_final es next)) o) more
final_push None es e x m t more push h = cc h
final_push (Some w) es e x m t more push h = by (final_on x.event w) (push w h)
  where
    by : (f : Option Outcome) → first_final (es ++ e ∷ []) w ≡ option_or (first_final es w) more → first_by f x.stamp (first_final (es ++ e ∷ []) w) ≡ option_or (first_by f x.stamp (first_final es w)) more
    by None is = is
    by (Some o) is = refl

first_push : (es : List Entry) (e : Entry) (s m t : PartView) → replay es s ≡ Some m → after e.event e.crossing m ≡ Some t → first_final (es ++ e ∷ []) s ≡ option_or (first_final es s) (first_by (final_on e.event t) e.stamp None)
first_push [] e s m t h row = let same : s ≡ m = cc in rw (same, row) refl
first_push (x ∷ es) e s m t h row = final_push (after x.event x.crossing s) es e x m t (first_by (final_on e.event t) e.stamp None) (λ w k. first_push es e w m t k row) h

-- whether the next entry is final, as a test
first_if : (o : Option Outcome) (b : Bool) (stamp : ℕ) → b ≡ is_some o → first_by o stamp None ≡ cond b (Some stamp) None
first_if None b stamp e = ap (λ b. cond b (Some stamp) None) (sym e)
first_if (Some o) b stamp e = ap (λ b. cond b (Some stamp) None) (sym e)

-- what is noted of the first final event after one entry more
pub noted : (js es : List Entry) (e : Entry) (s m t : PartView) (b : Bool) (first first' : Option ℕ) → js ≡ es ++ e ∷ [] → replay es s ≡ Some m → after e.event e.crossing m ≡ Some t → first ≡ first_final es s → b ≡ is_some (final_on e.event t) →
    first' ≡ option_or first (cond b (Some e.stamp) None) → first' ≡ first_final js s
noted js es e s m t b first first' same h row was ends is =
    is ∙ ap (λ o. option_or o (cond b (Some e.stamp) None)) was ∙ ap (option_or (first_final es s)) (sym (first_if (final_on e.event t) b e.stamp ends))
    ∙ sym (first_push es e s m t h row) ∙ ap (λ xs. first_final xs s) (sym same)

or_none : (o : Option ℕ) → option_or o None ≡ o
or_none None = refl
or_none (Some x) = refl

-- an event on two parts is not final
never_final : (e : Event) (low high : PartView) (c : Crossing) → crossing_of e low high ≡ Some c → (part : PartView) → final_on e part ≡ None
never_final (event.Turn t n) low high c is part = cc is
never_final (event.Deliver t) low high c is part = refl
never_final (event.Depart p l) low high c is part = refl
never_final (event.Arrive l p) low high c is part = refl
never_final (event.Route p) low high c is part = cc is
never_final event.HostPut low high c is part = refl
never_final event.HostTake low high c is part = refl
never_final (event.Report p) low high c is part = refl
never_final event.Begin low high c is part = refl
never_final (event.Confirm p) low high c is part = refl
never_final event.Announce low high c is part = cc is
never_final (event.Release p) low high c is part = refl
never_final (event.Go p) low high c is part = refl

pub noted_two : (js es : List Entry) (e : Entry) (s m t low high : PartView) (first : Option ℕ) → js ≡ es ++ e ∷ [] → replay es s ≡ Some m → after e.event e.crossing m ≡ Some t → first ≡ first_final es s → crossing_of e.event low high ≡ Some e.crossing → first ≡ first_final js s
noted_two js es e s m t low high first same h row was crosses =
    was ∙ sym (or_none (first_final es s)) ∙ ap (λ o. option_or (first_final es s) (first_by o e.stamp None)) (sym (never_final e.event low high e.crossing crosses t))
    ∙ sym (first_push es e s m t h row) ∙ ap (λ xs. first_final xs s) (sym same)
