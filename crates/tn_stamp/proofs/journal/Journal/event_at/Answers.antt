use Rattle.std.proofs.Common.{refl}
use Rattle.tn_stamp.specs.Journals.{entry_with}
use Rattle.tn_stamp.proofs.Shorts.{at_entry, within}
use Rattle.tn_stamp.proofs.journal.Journal.event_at.Goals as goal

pub returns : goal.returns
returns c =
    let s = c.self.inside in
    let here = within _ _ _ (rw (← c.self.view_is) at c.requires) in
    rw (← c.self.view_is) (entry_with s.crossings.items c.index.result.now, at_entry _ _ _ _ here c.index.ensures, refl)
