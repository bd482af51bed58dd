use Rattle.std.proofs.Common.{◌≡◌, ◌∙◌, ap, subst, Some}
use Rattle.std.specs.Prelude.{OnOk, reverse}
use Rattle.tn_base.specs.declared.event.Event.TheVariants as event
use Rattle.tn_rows.specs.Events.{happened}
use Rattle.polite_edges.specs.Deeds.{added}
use Rattle.polite_log.specs.Reading.{next_deed, read_after}
use Rattle.polite_log.proofs.Making.{step_read}
use Rattle.polite_log.proofs.Sights.{redone}
use Rattle.polite_log.proofs.reading.push_step.Goals as goal

pub returns-clause-deeds : goal.returns-clause-deeds
returns-clause-deeds g c =
    let w = c.args.world.now in
    let new = c.redo.new.world in
    let made : happened (event.Turn c.args.t 1) w ≡ Some new = redone c.in_ok-_did._did (happened (event.Turn c.args.t 1) w) new c.in_ok-_did.ensures c.requires in
    let read : c.read_after.result ≡ next_deed c.args.t w = c.read_after.ensures ∙ (ap (λ b. read_after c.args.t b new) c.before_in-before.ensures ∙ step_read c.args.t w new made) in
    subst (λ d. OnOk c.push_read.result (reverse c.push_read.new.deeds.items ≡ added d (reverse c.args.deeds.now.items))) read c.push_read.ensures
