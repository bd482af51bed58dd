use Rattle.std.proofs.Common.{◌<◌, ◌≤◌, ◌∙◌, length, sym, arith}
use Rattle.std.proofs.lemmas.List.{get_or_past, get_or_read}
use Rattle.tn_stamp.specs.declared.entry.Crossing.TheVariants as crossing
use Rattle.tn_stamp.specs.Journals.{entry_with}
use Rattle.tn_stamp.proofs.Shorts.{at_entry, within}
use Rattle.tn_stamp.proofs.journal.Journal.crossing_at.Goals as goal

pub returns-then-place-len : goal.returns-then-place-len
returns-then-place-len c =
    let s = c.self.inside in let x = c.index.result.now in
    let here = within _ _ _ (rw (← c.self.view_is) at c.requires) in
    let l = s.crossings.ok.0 in
    let inside : x.place < length s.crossings.items = let t = c.if-place-len.true in let n = c.len.ensures in omega arith in
    rw (← c.self.view_is) (
      entry_with s.crossings.items x,
      at_entry _ _ _ _ here c.index.ensures,
      get_or_read s.crossings.items x.place _ inside c.index-then-place-len.ensures crossing.None,
    )

pub returns-else-place-len : goal.returns-else-place-len
returns-else-place-len c =
    let s = c.self.inside in let x = c.index.result.now in
    let here = within _ _ _ (rw (← c.self.view_is) at c.requires) in
    let l = s.crossings.ok.0 in
    let past : length s.crossings.items ≤ x.place = let t = c.if-place-len.false in let n = c.len.ensures in omega arith in
    rw (← c.self.view_is) (
      entry_with s.crossings.items x,
      at_entry _ _ _ _ here c.index.ensures,
      c.self.invariant.none ∙ sym (get_or_past s.crossings.items x.place crossing.None past),
    )
