use Rattle.std.proofs.Common.{List, Option, MatchOption, set, subst, rules, ◌≡◌, ◌+◌, ap, ◌∙◌, sym, refl, Some, None, [], ◌∷◌, ℕ, ◌<◌, length}
use mathlib.Core.Option.{some}
use lib.ListN.{get_elem?}
use Rattle.atomic_table.specs.Table.{rest}
use Rattle.tn_turns.specs.Rule.{seat_of, with_turn}
use Rattle.tn_turns.specs.declared.view.View.TheVariants.{Given}
use Rattle.tn_turns.specs.declared.view.SeatView.{SeatView}
use Rattle.atomic_table.proofs.Lists.{set_here}
use Rattle.tn_turns.proofs.Kept.{takes_turn, lays}
use Rattle.tn_turns.proofs.seats.TurnBoard.take.Goals as goal

pub compare_exchange-found-requires : goal.compare_exchange-found-requires
compare_exchange-found-requires g c = let it = c.args.seat.now in
    (search rules, search rules, takes_turn g.T.Item.start g.T.Item.journal _ _ _ _ _ _ (seat_of it.seat.me.0) it.held (ap (λ k. k + 1) it.numbered) (search rules) c.requires.free)

pub exchange-item-requires : goal.exchange-item-requires
exchange-item-requires g c = let took = c.compare_exchange-found.ensures.2.0 c.if-found-eq0.true in let me = ap (λ m. m.1) took.1 in
    (search rules, (Some took.0, me ∙ ap (λ cs. (c.args.i, Some took.0) ∷ rest cs) (sym me)))

pub load-requires : goal.load-requires
load-requires g c = let it = c.args.seat.now in let i : ℕ = c.args.i in let h : SeatView g.row.T.Denot = seat_of it.seat.me.0 in
    let took = c.compare_exchange-found.ensures.2.0 c.if-found-eq0.true in let x : g.row.T.Denot = took.0 in let h' : SeatView g.row.T.Denot = with_turn h i x in
    let now = c.exchange-item.ensures.3 in let bare = ap (λ m. m.1) it.held in let same = c.compare_exchange-found.ensures.0 in
    let inside : i < length h.outs = search (rules, it.wide, c.requires.within) in
    let is : c.exchange-item.new.seat.me ≡ (Given h', (i, None) ∷ []) = now ∙ ((λ t. (c.compare_exchange-found.new.seat.me.0, (i, c.of.ensures t) ∷ rest c.compare_exchange-found.new.seat.me.1)) ∙ (ap (λ m. (m.0, (i, None) ∷ rest m.1)) took.1 ∙ ap (λ cs. (Given h', (i, None) ∷ cs)) bare)) in
    (search rules, search rules, lays g.T.Item.start g.T.Item.journal _ _ _ _ _ h' h.hands x [] is refl (set_here h.outs i (Some x) inside))

abbrev first_value : {X : Type 0} → List (ℕ × Option X) → Option X
first_value [] = None
first_value (x ∷ xs) = x.1

pub returns-then-found-eq0-clause-held : goal.returns-then-found-eq0-clause-held
returns-then-found-eq0-clause-held g c =
    let it = c.args.seat.now in
    let i : ℕ = c.args.i in
    let h : SeatView g.row.T.Denot = seat_of it.seat.me.0 in
    let took = c.compare_exchange-found.ensures.2.0 c.if-found-eq0.true in
    let x : g.row.T.Denot = took.0 in
    let inside : i < length h.outs = search (rules, it.wide, c.requires.within) in
    let given : c.into_inner.result ≡ Some x = c.into_inner.ensures ∙ ap first_value (sym c.exchange-item.ensures.2 ∙ ap (λ m. m.1) took.1) in
    let outs : (seat_of c.load.new.seat.me.0).outs ≡ set h.outs i (Some x) = search rules in
    subst (λ (o : Option g.row.T.Denot). MatchOption o (Unit {0}) (λ y. get_elem? (seat_of c.load.new.seat.me.0).outs i ≡ some (Some y))) (sym given) ((λ t. get_elem? (outs t) i) ∙ set_here h.outs i (Some x) inside)
