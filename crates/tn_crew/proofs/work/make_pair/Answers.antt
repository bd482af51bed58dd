use Rattle.std.proofs.Common.{rules, arith, ◌≡◌, ◌≢◌, ◌<◌, ◌∙◌, ℕ, Some, None, refl, set, subst, sym}
use lib.ListN.{get_elem?}
use Rattle.atomic_table.proofs.Lists.{set_else}
use Rattle.tn_crew.proofs.work.make_pair.Goals as goal
use Rattle.tn_stamp.specs.Pairs.{AllBetween}
use Rattle.tn_turns.proofs.Freeing.{free_one, free_two, other_free}
use Rattle.tn_turns.specs.Outs.{LacksAll}
use Rattle.tn_turns.specs.Words.{outs_of}

pub returns-in_default-clause-ready : goal.returns-in_default-clause-ready
returns-in_default-clause-ready g c = (search rules, subst LacksAll (sym c.in_default.ensures.turns) c.requires.ready.1)

pub take-requires-2-clause-free : goal.take-requires-2-clause-free
take-requires-2-clause-free g c = let l : c.args.pair.low.0 < c.args.pair.high.0 = c.requires.pair.order in other_free c.args.pair.low.0 c.args.pair.high.0 _ _ _ (λ e. omega arith) c.requires.ready.1 c.in-Some.ensures.turns

pub returns-in_default-take-clause-ready : goal.returns-in_default-take-clause-ready
returns-in_default-take-clause-ready g c = (search rules, free_one c.args.pair.low.0 _ _ _ _ c.requires.ready.1 (c.in_default-take.ensures.turns ∙ c.in-Some.ensures.turns) c.give_one.ensures.turns)

pub give_two-requires-clause-items : goal.give_two-requires-clause-items
give_two-requires-clause-items g c =
    let i : ℕ = c.args.pair.low.0 in
    let j : ℕ = c.args.pair.high.0 in
    let l : i < j = c.requires.pair.order in
    let apart : i ≢ j = λ e. omega arith in
    let outs₁ = outs_of c.take.new.seat in
    let grow = c.make_on_both-tried.ensures.grow in
    let between = subst (λ (n : ℕ). AllBetween n i j grow.grows.0) (sym c.requires.parts) grow.grows.3 in (
      c.in-Some.low,
      c.in-Some-take.high,
      (λ t. get_elem? (c.in-Some-take.ensures.turns t) i) ∙ (set_else outs₁ j i (Some c.in-Some-take.high) apart ∙ c.in-Some.ensures.held),
      c.in-Some-take.ensures.held,
      grow.low_stays,
      grow.high_stays,
      (grow.grows.0, grow.grows.0, grow.grows.1, grow.grows.2, between, between, refl),
    )

pub returns-clause-ready : goal.returns-clause-ready
returns-clause-ready g c =
    let i : ℕ = c.args.pair.low.0 in
    let j : ℕ = c.args.pair.high.0 in
    let outs = outs_of c.args.seat.now in
    let a = Some c.in-Some.low in
    let b = Some c.in-Some-take.high in
    let is : outs_of c.give_two.new.seat ≡ set (set (set (set outs i a) j b) i None) j None =
    c.give_two.ensures.turns ∙ (λ t. set (set (c.in-Some-take.ensures.turns t) i None) j None) ∙ (λ t. set (set (set (c.in-Some.ensures.turns t) j b) i None) j None) in
    (search rules, subst LacksAll (sym is) (free_two i j a b outs c.requires.ready.1))
