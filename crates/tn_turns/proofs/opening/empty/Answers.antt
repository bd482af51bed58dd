use Rattle.std.proofs.Common.{◌≡◌, ℕ, ◌∙◌, ap, sym, refl, [], ◌∷◌, ◌++◌, length, map, reverse, Some}
use mathlib.Core.Option.{some}
use lib.ListN.{get_elem?}
use Rattle.atomic_table.proofs.Lists.{at_last, at_longer}
use Rattle.tn_turns.proofs.ByIndex.{no_none}
use Rattle.tn_turns.proofs.opening.empty.Goals as goal

pub unreachable-requires : goal.unreachable-requires
unreachable-requires g c = let was = c.requires.all in let left = c.pop.new.self.items in let n : ℕ = length left in let slot = c.in-Some.slot in let back = map (λ x. Some x) (reverse c.loop-slot.items.items) in
    let all : (left ++ slot ∷ []) ++ back ≡ map (λ x. Some x) was.0 = (λ t. sym c.in-Some.ensures.items t ++ back) ∙ (c.loop-slot.invariant.moved ∙ was.1) in
    no_none was.0 n ((λ t. get_elem? (sym all t) n) ∙ (at_longer (left ++ slot ∷ []) back n slot (at_last left slot n refl) ∙ ap (λ z. some z) (sym c.into_inner-slot.ensures ∙ c.in_default-slot.is)))
