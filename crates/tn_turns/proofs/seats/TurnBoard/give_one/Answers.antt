use Rattle.std.proofs.Common.{rules, ◌≡◌, ◌<◌, ◌∙◌, ap, refl, subst, ℕ, Some, [], ◌∷◌}
use Rattle.tn_turns.specs.Rule.{seat_of, with_hand}
use Rattle.tn_turns.specs.declared.view.SeatView.{SeatView}
use Rattle.tn_turns.specs.declared.view.View.TheVariants.{Given}
use Rattle.tn_turns.proofs.ByIndex.{at_within}
use Rattle.tn_turns.proofs.Kept.{gives_one}
use Rattle.tn_turns.proofs.seats.TurnBoard.give_one.Goals as goal

pub put-requires-clause-within : goal.put-requires-clause-within
put-requires-clause-within g c = let it = c.args.seat.now in let r = c.requires.item in
    subst (λ (k : ℕ). c.args.i < k) (it.wide ∙ ap (λ z. z.words) c.requires.table) (at_within (seat_of it.seat.me.0).outs c.args.i (Some r.0) r.1)

pub swap-requires : goal.swap-requires
swap-requires g c = let it = c.args.seat.now in let r = c.requires.item in let i : ℕ = c.args.i in let h : SeatView g.row.T.Denot = seat_of it.seat.me.0 in let h' : SeatView g.row.T.Denot = with_hand h i in
    let bare = ap (λ m. m.1) it.held in
    let is : c.put.new.seat.me ≡ (Given h', (i, Some c.args.item) ∷ []) = c.put.ensures.held ∙ ap (λ cs. (Given h', (i, Some c.args.item) ∷ cs)) bare in
    (search rules, (subst (λ (k : ℕ). c.args.i < k) (it.wide ∙ ap (λ z. z.words) c.requires.table) (at_within (seat_of it.seat.me.0).outs c.args.i (Some r.0) r.1)), gives_one g.T.Item.start g.T.Item.journal _ _ _ _ _ h' h.hands r.0 c.args.item r.3.0 is refl r.1 r.2 r.3.1 r.3.2)
