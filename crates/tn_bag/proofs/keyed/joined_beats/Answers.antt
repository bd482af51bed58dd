use Rattle.std.proofs.Common.{rules, ◌∙◌, ◌≡◌, [], ap, sym, subst, get_or, MatchOption}
use Rattle.std.proofs.lemmas.List.{append-nil}
use Rattle.tn_bag.proofs.Copying.{beat_read, more_beats}
use Rattle.tn_bag.proofs.keyed.joined_beats.Goals as goal
use Rattle.tn_bag.proofs.keyed.joined_beats.Goals.{in-Some+in_ok-extend_from_slice, in_default}

pub loop-i-preserved : goal.loop-i-preserved
loop-i-preserved c =
    let t = c.args.router.now.plan.beats in
    let i = c.loop-i.i in
    let read = beat_read t i c.beat.result c.beat.ensures in
    elim c.match-beat.branch [
      | in-Some+in_ok-extend_from_slice w ↦
          more_beats t i c.args.end c.loop-i.all.items c.match-beat.all.items w.records.result.now (search rules) c.requires
          (ap (λ v. v.items) w.all-is ∙ w.in_ok-extend_from_slice.ensures.items)
          (w.records.ensures.value ∙ subst (λ o. MatchOption o (get_or t i [] ≡ []) (λ r. r.now ≡ get_or t i [])) w.in-Some.is read)
          ∙ c.loop-i.invariant
      | in_default w ↦
          more_beats t i c.args.end c.loop-i.all.items c.match-beat.all.items [] (search rules) c.requires
          (ap (λ v. v.items) w.all-is ∙ sym (append-nil c.loop-i.all.items))
          (sym (subst (λ o. MatchOption o (get_or t i [] ≡ []) (λ r. r.now ≡ get_or t i [])) w.in_default.is read))
          ∙ c.loop-i.invariant
    ]
