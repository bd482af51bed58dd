-- In each run of a machine from its start the sends of each origin have rising numbers.
use Rattle.std.proofs.Common.{[], sym, ap, subst, arith, IsTrue}
use Rattle.tn_base.specs.Address.{has_thread}
use Rattle.tn_thread.specs.declared.thread.Thread.{Thread}
use Rattle.tn_letters.specs.Steps.{bag_of}
use Rattle.tn_letters.specs.Standing.{bag_at}
use Rattle.tn_letters.specs.Tiles.{program_of}
use Rattle.tn_letters.proofs.Calm.{quiet_start}
use Rattle.tn_letters.proofs.GoodParts.{walk_good}
use Rattle.tn_letters.proofs.Lift.{Good}
use Rattle.tn_letters.proofs.Starts.{good_start}
use Rattle.tn_letters.proofs.Walks.{run_walk}
use Rattle.tn_order.specs.Acts.{EveryRunNumbersRise}
use Rattle.tn_order.proofs.Counted.{few_steps, settled_sends, settled_steps, start_enough, walk_shape}
use Rattle.tn_order.proofs.Rising.{run_rises}

pub every_run_numbers_rise : EveryRunNumbersRise
every_run_numbers_rise start end history b s run =
    let g = good_start start s in
    let q = quiet_start start s g in
    let walk = run_walk start end history run in
    let good : Good end = walk_good history start end g q walk in
    let shape = walk_shape history start end g q walk in
    run_rises (program_of start) (bag_of start history) [] (bag_at start) b.state b.run
    (λ a there. let i = settled_sends start a in let j = settled_steps start a in let k = start_enough start s g a there in omega arith)
    (λ a there.
    let here : IsTrue (has_thread end.shape a) = subst (λ n. IsTrue (has_thread n a)) (sym shape) there in
    let low = few_steps end a good here in
    let fuel = good.limits.fuel in
    let same = ap (λ (t : Thread). t.steps) (b.shows.threads a here) in
    let j = settled_steps end a in
    omega arith)
    (λ a k d i. absurd i)
