use Rattle.std.proofs.Common.{rules, arith, ◌∙◌, sym, subst, List, [], ◌∷◌, ◌++◌}
use Rattle.std.proofs.lemmas.Grind.{common_steps}
use Rattle.tn_crew.proofs.team.seats_of.Goals as goal
use Rattle.tn_turns.proofs.Freeing.{none_out, one_more}
use Rattle.tn_turns.specs.Outs.{LacksAll}
use Rattle.tn_turns.specs.Returned.{AllReturned}
use Rattle.tn_turns.specs.Words.{board_of, board_table}

pub loop-preserved : goal.loop-preserved
loop-preserved c = let inv = c.loop.invariant in let s = c.seat.result in let same = c.seat.ensures.board in let was = c.seat.ensures in let id = board_table (board_of c.loop.turns) in record {
  table = same ∙ inv.table;
  seats = subst (λ (xs : List _). AllReturned (board_table (board_of c.seat.new.self)) xs) (sym c.push_reserved.ensures.items)
      (subst (λ z. AllReturned (board_table z) (c.loop.seats.items ++ s ∷ [])) (sym same)
      (one_more id c.loop.seats.items s was.table (was.number ∙ (inv.given ∙ sym inv.count)) (subst LacksAll (sym was.turns) (none_out _)) inv.seats));
  count = first_of (search rules, grind (arith, common_steps));
  given = first_of (search rules, grind (arith, common_steps));
  room = search rules;
}
