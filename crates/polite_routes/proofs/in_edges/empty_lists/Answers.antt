use Rattle.std.proofs.Common.{[], ◌+◌, ◌/◌, ◌∙◌, ap, length, replicate}
use Rattle.std.proofs.lemmas.List.{length_push}
use Rattle.tn_base.specs.Address.{thread_at}
use Rattle.polite_routes.specs.Targets.{count_in}
use Rattle.polite_routes.proofs.Entries.{thread_added}
use Rattle.polite_routes.proofs.in_edges.empty_lists.Goals as goal

pub loop-thread-preserved : goal.loop-thread-preserved
loop-thread-preserved c = record {
  count = ap length c.in_ok-push.ensures.items ∙ length_push c.loop-thread.lists.items c.in_ok-empty.field-0 ∙ ap (λ k. k + 1) c.loop-thread.invariant.count;
  each = λ i h. thread_added c.loop-thread.lists.items c.push.new.self.items c.in_ok-empty.field-0 (λ j. replicate (count_in c.args.counts.now (thread_at c.args.shape.now j / 64)) []) c.loop-thread.thread i
      c.in_ok-push.ensures.items c.loop-thread.invariant.count (c.in_ok-empty.ensures ∙ ap (λ a. replicate (count_in c.args.counts.now (a / 64)) []) c.thread_at-address.ensures) (c.loop-thread.invariant.each i) h;
}
