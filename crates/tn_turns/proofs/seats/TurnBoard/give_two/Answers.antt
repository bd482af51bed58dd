use Rattle.std.proofs.Common.{rules, arith, ◌≡◌, ◌≢◌, ◌<◌, ◌∙◌, ap, refl, sym, subst, ℕ, List, set, Option, Some, None, [], ◌∷◌, append-nil}
use Rattle.std.proofs.lemmas.List.Elements.{All-nil}
use mathlib.Core.Option.{some}
use lib.ListN.{get_elem?}
use Rattle.atomic_table.specs.Table.{rest}
use Rattle.atomic_table.proofs.Lists.{set_here, set_else}
use Rattle.tn_turns.specs.Rule.{seat_of, with_hand, after_give}
use Rattle.tn_turns.specs.declared.view.SeatView.{SeatView}
use Rattle.tn_turns.specs.declared.view.View.TheVariants.{Given}
use Rattle.tn_turns.proofs.ByIndex.{at_within, set_over}
use Rattle.tn_turns.proofs.Kept.{gives_one, gives_first}
use Rattle.tn_turns.proofs.seats.TurnBoard.give_two.Goals as goal

pub put-requires-clause-within : goal.put-requires-clause-within
put-requires-clause-within g c = let it = c.args.seat.now in let r = c.requires.items in
    subst (λ (k : ℕ). c.args.j < k) (it.wide ∙ ap (λ z. z.words) c.requires.table) (at_within (seat_of it.seat.me.0).outs c.args.j (Some r.1) r.3)

pub put-requires-2-clause-within : goal.put-requires-2-clause-within
put-requires-2-clause-within g c = let it = c.args.seat.now in let r = c.requires.items in
    subst (λ (k : ℕ). c.args.i < k) (it.wide ∙ ap (λ z. z.words) c.requires.table) (at_within (seat_of it.seat.me.0).outs c.args.i (Some r.0) r.2)

pub swap-requires : goal.swap-requires
swap-requires g c = let it = c.args.seat.now in let r = c.requires.items in let q = r.6 in let i : ℕ = c.args.i in let j : ℕ = c.args.j in
    let h : SeatView g.row.T.Denot = seat_of it.seat.me.0 in let h' : SeatView g.row.T.Denot = with_hand (with_hand h j) i in let bare = ap (λ m. m.1) it.held in
    let one : c.put.new.seat.me ≡ (Given (with_hand h j), (j, Some c.args.b) ∷ []) = c.put.ensures.held ∙ ap (λ cs. (Given (with_hand h j), (j, Some c.args.b) ∷ cs)) bare in
    let is : c.put-2.new.seat.me ≡ (Given h', (i, Some c.args.a) ∷ (j, Some c.args.b) ∷ []) = c.put-2.ensures.held ∙ ap (λ m. (Given (with_hand (seat_of m.0) i), (i, Some c.args.a) ∷ m.1)) one in
    (search rules, (subst (λ (k : ℕ). c.args.i < k) (it.wide ∙ ap (λ z. z.words) c.requires.table) (at_within (seat_of it.seat.me.0).outs c.args.i (Some r.0) r.2)), gives_first g.T.Item.start g.T.Item.journal _ _ _ _ j _ h' (j ∷ h.hands) r.0 c.args.a r.1 c.args.b q.0 q.1 is refl c.requires.order r.2 r.3 r.4 r.5 q.2 q.3 q.4 q.5 q.6)

pub swap-requires-2 : goal.swap-requires-2
swap-requires-2 g c = let it = c.args.seat.now in let r = c.requires.items in let i : ℕ = c.args.i in let j : ℕ = c.args.j in let b : g.row.T.Denot = c.args.b in
    let h : SeatView g.row.T.Denot = seat_of it.seat.me.0 in let bare = ap (λ m. m.1) it.held in
    let one : c.put.new.seat.me ≡ (Given (with_hand h j), (j, Some b) ∷ []) = c.put.ensures.held ∙ ap (λ cs. (Given (with_hand h j), (j, Some b) ∷ cs)) bare in
    let two : c.put-2.new.seat.me ≡ (Given (with_hand (with_hand h j) i), (i, Some c.args.a) ∷ (j, Some b) ∷ []) = c.put-2.ensures.held ∙ ap (λ m. (Given (with_hand (seat_of m.0) i), (i, Some c.args.a) ∷ m.1)) one in
    let mid : List (Option g.row.T.Denot) = set h.outs j (Some b) in let h'' : SeatView g.row.T.Denot = record h { hands = j ∷ h.hands; outs = set mid i None } in
    let is : c.swap.new.seat.me ≡ (Given h'', (j, Some b) ∷ []) = c.swap.ensures.2 ∙ ap (λ m. (Given (after_give (seat_of m.0) i m.1), rest m.1)) two in
    let less = c.requires.order in let apart : j ≢ i = λ e. omega arith in
    let rec : get_elem? h''.outs j ≡ some (Some b) = set_else mid i j None apart ∙ set_here h.outs j (Some b) (at_within h.outs j (Some r.1) r.3) in
    (search rules, (subst (λ (k : ℕ). c.args.j < k) (it.wide ∙ ap (λ z. z.words) c.requires.table) (at_within (seat_of it.seat.me.0).outs c.args.j (Some r.1) r.3)), gives_one g.T.Item.start g.T.Item.journal _ _ _ _ _ h'' h.hands b b [] is refl rec refl (sym (append-nil (g.T.Item.journal b))) (All-nil _))

pub returns-clause-turns : goal.returns-clause-turns
returns-clause-turns g c =
    let outs : List (Option g.row.T.Denot) = (seat_of c.args.seat.now.seat.me.0).outs in
    let now : (seat_of c.swap-2.new.seat.me.0).outs ≡ set (set (set outs c.args.j (Some c.args.b)) c.args.i None) c.args.j None = search rules in
    let less = c.requires.order in
    now ∙ set_over outs c.args.i c.args.j (Some c.args.b) None None (λ e. omega arith)
