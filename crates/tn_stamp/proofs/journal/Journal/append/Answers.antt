use Rattle.std.proofs.Common.{◌-◌, ◌^◌, ◌<◌, ◌++◌, ◌∷◌, [], length, ◌∙◌, ap, arith}
use Rattle.tn_stamp.proofs.Shorts.{appended, few_kept, last_kept, places_kept, rises_kept}
use Rattle.tn_stamp.proofs.journal.Journal.append.Goals as goal

pub invariant_of-self : goal.invariant_of-self
invariant_of-self c =
    let i = c.self.invariant in let s = c.self.inside in let e = c.args.e in let k = c.keep-place.ensures.place in
    let later = rw (← c.self.view_is) at c.requires.later in
    let room = rw (← c.self.view_is) at c.requires.room in
    let few : length s.crossings.items < 2 ^ 32 - 1 = omega arith in
    rw c.push_reserved.ensures.items (record {
      rises = rises_kept _ _ s.entries.items e.stamp e.event e.crossing c.keep-place.result i.places k few i.rises later;
      last = last_kept _ _ s.entries.items e.stamp e.event e.crossing c.keep-place.result i.places k few;
      places = places_kept _ _ s.entries.items e.stamp e.event e.crossing c.keep-place.result i.places k few;
      few = few_kept _ _ s.entries.items e.stamp e.event e.crossing c.keep-place.result i.places k few;
      none = i.none;
    })

pub returns-clause-entries : goal.returns-clause-entries
returns-clause-entries c =
    let i = c.self.invariant in let s = c.self.inside in let e = c.args.e in let k = c.keep-place.ensures.place in
    let room = rw (← c.self.view_is) at c.requires.room in
    let few : length s.crossings.items < 2 ^ 32 - 1 = omega arith in
    rw c.push_reserved.ensures.items (appended _ _ s.entries.items e.stamp e.event e.crossing c.keep-place.result i.places k few
    ∙ ap (λ v. v.entries ++ e ∷ []) c.self.view_is)
