use Rattle.std.proofs.Common.{rules, arith, ◌≡◌, ℕ, ◌<◌, ◌∙◌, ◌||◌, ap, sym, refl, subst, [], ◌∷◌, ◌++◌, length, eqb, eq-eqb, length-append}
use mathlib.Core.Logic.{dite}
use native.Mathlib.Decide.{ℕ_discrete}
use mathlib.Core.Option.{some}
use lib.ListN.{get_elem?}
use Rattle.atomic_table.proofs.Lists.{at_last, at_longer}
use Rattle.tn_turns.specs.declared.view.KeptView.{KeptView}
use Rattle.tn_turns.specs.declared.view.SeatView.{SeatView}
use Rattle.tn_turns.specs.declared.view.View.TheVariants.{Kept}
use Rattle.tn_turns.specs.Rule.{seat_of, kept_of, among, seat_joined}
use Rattle.tn_turns.proofs.Kept.{joins, or_true}
use Rattle.tn_turns.proofs.closing.join_all.Goals as goal

pub join_seat-requires : goal.join_seat-requires
join_seat-requires g c = let inv = c.loop-it.invariant in let it = c.in-Some.it in let n : ℕ = length c.pop.new.self.items in
    let popped : get_elem? c.loop-it.seats.items n ≡ some it = (λ t. get_elem? (c.in-Some.ensures.items t) n) ∙ at_last c.pop.new.self.items it n refl in
    let fits = inv.seats n it popped in (
      search rules,
      fits.0 ∙ c.requires.here.0,
      ap (λ m. m.1) it.held,
      c.requires.here.1,
      joins g.T.Item.start g.T.Item.journal _ _ _ _ _ (kept_of c.loop-it.kept.me.0) (seat_of it.seat.me.0) (ap (λ m. m.0) inv.held) (ap (λ m. m.0) it.held) fits.2,
    )

pub loop-it-preserved : goal.loop-it-preserved
loop-it-preserved g c = let inv = c.loop-it.invariant in let it = c.in-Some.it in let n : ℕ = length c.pop.new.self.items in
    let popped : get_elem? c.loop-it.seats.items n ≡ some it = (λ t. get_elem? (c.in-Some.ensures.items t) n) ∙ at_last c.pop.new.self.items it n refl in
    let fits = inv.seats n it popped in let d : KeptView = kept_of c.loop-it.kept.me.0 in let h : SeatView g.row.T.Denot = seat_of it.seat.me.0 in
    let d' : KeptView = record d { joined = h.number ∷ d.joined } in
    let now : c.join_seat.new.seat.me ≡ (Kept d', []) = c.join_seat.ensures.2 ∙ (λ t. (seat_joined (inv.held t).0 (it.held t).0, (inv.held t).1)) in
    let desk_is : kept_of c.join_seat.new.seat.me.0 ≡ d' = ap (λ m. kept_of m.0) now in record {
      table = search rules;
      id = search rules;
      held = now ∙ sym (ap (λ m. (Kept (kept_of m.0), [])) now);
      given = ap (λ (e : KeptView). e.given) desk_is ∙ inv.given;
      seats = λ k s e. inv.seats k s ((λ t. get_elem? (c.in-Some.ensures.items t) k) ∙ at_longer c.pop.new.self.items (it ∷ []) k s e);
      joined = λ m l b. (λ t. among m (desk_is t).joined) ∙ dite (ℕ_discrete m h.number) (λ e. (λ t. eq-eqb m h.number e t || among m d.joined))
          (λ other. or_true (eqb m h.number) (among m d.joined) (inv.joined m
          (let long : length c.loop-it.seats.items ≡ length (c.pop.new.self.items ++ it ∷ []) = ap length c.in-Some.ensures.items in let longer = length-append c.pop.new.self.items (it ∷ []) in
          let a : n ≡ h.number = sym fits.1 ∙ it.numbered in omega arith)
          (subst (λ (e : KeptView). m < e.given) desk_is b)));
    }
