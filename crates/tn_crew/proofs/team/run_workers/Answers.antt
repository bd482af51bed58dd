use Rattle.std.proofs.Common.{rules, arith, ◌≡◌, ◌<◌, ◌∙◌, sym, subst, ap, length, get_or}
use mathlib.Core.Option.{some}
use lib.ListN.{get_elem?}
use Rattle.atomic_table.proofs.Lists.{at_index}
use Rattle.tn_crew.proofs.Slices.{whole, read_at, at_or}
use Rattle.tn_crew.proofs.team.run_workers.Goals as goal
use Rattle.tn_turns.specs.Outs.{LacksAll}
use Rattle.tn_turns.specs.Words.{board_table, number_of, outs_of, seat_table}

pub for_each_mut-requires-clause-accepts : goal.for_each_mut-requires-clause-accepts
for_each_mut-requires-clause-accepts g c κs within = λ i p l e.
    let xs = c.as_mut_slice.ensures.value in
    let fits = c.requires.seats i p.now ((λ t. get_elem? (sym xs t) i) ∙ at_index c.as_mut_slice.result.now i p.now l e) in
    let less = subst (λ ys. i < length ys) xs l in
    let count = c.requires.count in
    ((fits.0, fits.2), c.requires.parts, subst (λ k. i < k) count less, c.requires.few)

pub returns-clause-seats : goal.returns-clause-seats
returns-clause-seats g c = λ k s e.
    let ys = c.for_each_mut.new.s in
    let xs = c.as_mut_slice.result.now in
    let items = c.args.seats.now.items in
    let long : length ys ≡ length items = search rules in
    let len : length items ≡ c.args.seats.now.len = search rules in
    let at : get_elem? ys k ≡ some s = (λ t. get_elem? (sym (whole c.args.seats.now.len ys items (long ∙ len) len) t) k) ∙ e in
    let read = read_at ys k s at in
    let same : length xs ≡ length items = search rules in
    let l₀ = read.0 in
    let l : k < length xs = omega arith in
    let ch = (c.for_each_mut.ensures k s l).1 in
    let id = board_table c.args.board.now in
    let post : ((seat_table ch.after_call.now ≡ id) × LacksAll (outs_of ch.after_call.now)) × (number_of ch.after_call.now ≡ number_of ch.argument.now) = search (rules, ch.call) in
    let was : get_elem? items k ≡ some (get_or xs k s) = (λ t. get_elem? (sym c.as_mut_slice.ensures.value t) k) ∙ at_or xs k s l in
    let fits = c.requires.seats k (get_or xs k s) was in
    let now : ch.after_call.now ≡ s = ch.left ∙ sym read.1 in
    ((ap (λ z. seat_table z) (sym now) ∙ post.0.0), (ap (λ z. number_of z) (sym now) ∙ (post.1 ∙ (ap (λ z. number_of z) ch.argument_is ∙ fits.1))), subst (λ z. LacksAll (outs_of z)) now post.0.1)
