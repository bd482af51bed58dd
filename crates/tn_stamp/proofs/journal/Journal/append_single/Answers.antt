use Rattle.std.proofs.Common.{◌+◌, ◌-◌, ◌^◌, ◌<◌, ◌++◌, ◌∷◌, [], length, ◌∙◌, ap, sym, arith}
use Rattle.tn_stamp.specs.declared.entry.Crossing.TheVariants as crossing
use Rattle.tn_stamp.specs.Journals.{entries_with, last_stamp, single_entry}
use Rattle.tn_stamp.proofs.Shorts.{appended, keeps_none, last_kept, places_kept, rises_kept}
use Rattle.tn_stamp.proofs.journal.Journal.append_single.Goals as goal

pub invariant_of-self : goal.invariant_of-self
invariant_of-self c =
    let i = c.self.invariant in let s = c.self.inside in let k = keeps_none s.crossings.items i.few in
    let room = rw (← c.self.view_is) at c.requires.room in
    let few : length s.crossings.items < 2 ^ 32 - 1 = omega arith in
    let stamp = s.last + 1 in
    let last = i.last in
    let later : last_stamp 0 (entries_with s.crossings.items s.entries.items) < s.last + 1 = omega arith in
    rw c.push_reserved.ensures.items (record {
      rises = rises_kept _ _ s.entries.items stamp c.args.event crossing.None (2 ^ 32 - 1) i.places k few i.rises later;
      last = last_kept _ _ s.entries.items stamp c.args.event crossing.None (2 ^ 32 - 1) i.places k few;
      places = places_kept _ _ s.entries.items stamp c.args.event crossing.None (2 ^ 32 - 1) i.places k few;
      few = i.few;
      none = i.none;
    })

pub returns-clause-entries : goal.returns-clause-entries
returns-clause-entries c =
    let i = c.self.invariant in let s = c.self.inside in let k = keeps_none s.crossings.items i.few in
    let room = rw (← c.self.view_is) at c.requires.room in
    let few : length s.crossings.items < 2 ^ 32 - 1 = omega arith in
    rw c.push_reserved.ensures.items (appended _ _ s.entries.items (s.last + 1) c.args.event crossing.None (2 ^ 32 - 1) i.places k few
    ∙ ap (λ m. entries_with s.crossings.items s.entries.items ++ record { stamp = m + 1; event = c.args.event; crossing = crossing.None } ∷ []) (sym i.last)
    ∙ ap (λ v. v.entries ++ single_entry v.entries c.args.event ∷ []) c.self.view_is)
