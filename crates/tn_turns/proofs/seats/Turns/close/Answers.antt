use Rattle.std.proofs.Common.{◌∙◌, ap, sym, subst}
use Rattle.tn_turns.specs.Rule.{kept_of}
use Rattle.tn_turns.specs.Faithful.{IsFaithful}
use Rattle.tn_turns.proofs.ByIndex.{same_somes}
use Rattle.tn_turns.proofs.Kept.{all_home}
use Rattle.tn_turns.proofs.seats.Turns.close.Goals as goal

pub take_all-requires-clause-items : goal.take_all-requires-clause-items
take_all-requires-clause-items g c = let k = c.join_all.new.kept in let held = c.join_all.ensures.held in
    let end = all_home g.T.Item.start g.T.Item.journal c.args.self.board.table.shared.key.value.items _ _ _ _ (kept_of k.me.0) (ap (λ m. m.0) held.0) held.1 c.close_with-closed.ensures.values.2 in (end.0, end.1)

pub returns : goal.returns
returns g c = let k = c.join_all.new.kept in let held = c.join_all.ensures.held in let firsts = c.args.self.board.table.shared.key.value.items in
    let end = all_home g.T.Item.start g.T.Item.journal firsts _ _ _ _ (kept_of k.me.0) (ap (λ m. m.0) held.0) held.1 c.close_with-closed.ensures.values.2 in
    subst (λ xs. IsFaithful g.T.Item.start g.T.Item.journal firsts xs) (same_somes end.0 c.take_all.new.room.items (sym end.1 ∙ c.take_all.ensures.items)) end.2
