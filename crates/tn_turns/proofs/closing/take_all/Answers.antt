use Rattle.std.proofs.Common.{rules, arith, ◌≡◌, ℕ, suc, ◌+◌, ◌∙◌, ap, sym, [], ◌∷◌, ◌++◌, map, take, Some}
use Rattle.std.proofs.lemmas.Grind.{common_steps}
use mathlib.Core.Option.{some}
use mathlib.Core.List.{map-append}
use lib.ListN.{get_elem?}
use Rattle.std.specs.Slots.{slots_items}
use Rattle.tn_turns.proofs.ByIndex.{no_none, take_next}
use Rattle.tn_turns.proofs.closing.take_all.Goals as goal

pub unreachable-requires : goal.unreachable-requires
unreachable-requires g c = let items = c.requires.items in let i : ℕ = c.loop-i.i in
    no_none items.0 i ((λ t. get_elem? (sym (c.loop-i.invariant.items ∙ items.1) t) i) ∙ (c.take-item.ensures.value ∙ ap (λ z. some z) (sym c.into_inner-item.ensures ∙ c.in_default.is)))

pub loop-i-preserved : goal.loop-i-preserved
loop-i-preserved g c = let inv = c.loop-i.invariant in let i : ℕ = c.loop-i.i in let x : g.row.T.Denot = c.in-Some.x in let items = slots_items c.args.closed.now.slots in
    let at : get_elem? items i ≡ some (Some x) = (λ t. get_elem? (sym inv.items t) i) ∙ (c.take-item.ensures.value ∙ ap (λ z. some z) (sym c.into_inner-item.ensures ∙ c.in-Some.is)) in
    let next : suc i ≡ i + 1 = omega arith in record {
      items = search rules;
      len = search rules;
      full = λ k a b. first_of (search rules, grind (arith, common_steps));
      taken = λ k a. first_of (search rules, grind (arith, common_steps));
      room = ap (map (λ z. Some z)) c.push_reserved.ensures.items ∙ (map-append (λ z. Some z) c.loop-i.room.items (x ∷ []) ∙ ((λ t. inv.room t ++ Some x ∷ []) ∙ (sym (take_next items i (Some x) at) ∙ (λ t. take (next t) items))));
      count = first_of (search rules, grind (arith, common_steps));
      capacity = search rules;
    }
