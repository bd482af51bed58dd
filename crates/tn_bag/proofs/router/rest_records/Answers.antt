use Rattle.std.proofs.Common.{rules, ◌∙◌, ◌≤◌, ◌≢◌}
use Rattle.tn_router.specs.declared.work.Work.{Work}
use Rattle.tn_bag.proofs.Copying.{within_key}
use Rattle.tn_bag.proofs.Waits.{found_rest, sliced}
use Rattle.tn_bag.proofs.router.rest_records.Goals as goal

pub returns : goal.returns
returns c =
    let t = c.args.router.now.plan.beats in
    let work : Work = record { packet = c.args.packet.now; beat = c.args.beat; at = c.args.at } in
    let some : c.count-count.result ≢ 0 = search rules in
    let from : c.first-first.result ≤ c.args.beat = search rules in
    let within = within_key t c.first-first.result c.count-count.result c.beat.result some c.beat.ensures (search rules) in
    let found = found_rest t work c.args.key.0 c.first-first.result c.count-count.result c.in_ok-joined.joined.items c.first-first.ensures.value c.count-count.ensures.value some from within c.in_ok-joined.ensures in
    c.in_ok-extend_from_slice.ensures.items
    ∙ sliced c.new-all.result.items c.in_ok-joined.joined.items c.deref.result.now _ c.min-skipped.result c.args.at c.new-all.ensures.items c.deref.ensures.value (search rules) found
