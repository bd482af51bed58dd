use Rattle.std.proofs.Common.{◌≤◌, ◌∙◌, [], ap, arith, slice_get}
use Rattle.std.proofs.lemmas.List.{get_or_default}
use Rattle.tn_keys.specs.Key.{key_first}
use Rattle.tn_router.proofs.Firsts.{stands}
use Rattle.tn_router.proofs.places.next_record.Goals as goal

pub returns-clause-value : goal.returns-clause-value
returns-clause-value c =
    let is = c.first.ensures.value in
    let late : key_first c.args.key.0 ≤ c.args.work.now.beat = omega (arith, c.if-work-first.false) in
    let s = stands c.args.beats.now c.args.key.0 c.args.work.now c.requires.good c.requires.key late c.requires.placed in
    c.get.ensures ∙ ap (λ b. slice_get b c.args.work.now.at) (c.index-beats-work.is ∙ get_or_default c.args.beats.now c.args.work.now.beat c.index-beats-work.result [] s.within) ∙ s.value
