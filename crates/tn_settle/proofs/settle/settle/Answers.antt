use Rattle.std.proofs.Common.{◌≡◌, ◌∙◌, ap, length, filter, subst, sym}
use Rattle.std.specs.List.{list_all}
use Rattle.tn_rows.specs.Events.{IsWorld}
use Rattle.tn_rows.specs.Runs.{Run}
use Rattle.tn_rows.specs.Stamped.{journals_of, machine, presents_of, starts_of}
use Rattle.tn_settle.proofs.Presents.{presents_are}
use Rattle.tn_settle.proofs.Settling.{can_replay, settled_by, whole_by}
use Rattle.tn_settle.specs.Settles.{IsHistory, ended_here, last_here}
use Rattle.tn_stamp.specs.Merging.{entries_of as journals_in}
use Rattle.tn_stamped.specs.Placed.{stamped_of}
use Rattle.tn_settle.proofs.settle.settle.Goals as goal

pub of-requires-2 : goal.of-requires-2
of-requires-2 g c =
    let all = c.deref.ensures.value in
    let world = presents_are c.args.shape (stamped_of c.deref.result.now) c.law_placed_merge.ensures.stamped c.law_placed_merge.ensures.journals in
    let is : presents_of (stamped_of c.deref.result.now) ≡ c.in_ok-starts.field-0.presents.items = cc (all, c.in_ok-starts.ensures.presents) in
    subst (λ vs. IsWorld (machine c.args.shape vs)) is world

pub returns-then-is_whole-clause-run : goal.returns-then-is_whole-clause-run
returns-then-is_whole-clause-run g c =
    let all = c.deref.ensures.value in
    let journals : journals_in c.deref-4.result.now ≡ journals_of (stamped_of c.deref.result.now) = cc (all, c.deref-4.ensures.value, c.in_ok-starts.ensures.journals) in
    let start : c.in_ok-start.start ≡ machine c.args.shape (starts_of (stamped_of c.args.parts.items)) = cc (c.in_ok-start.ensures, c.in_ok-starts.ensures.starts) in
    let end : c.in_ok-end.end ≡ machine c.args.shape (presents_of (stamped_of c.deref.result.now)) = cc (all, c.in_ok-end.ensures, c.in_ok-starts.ensures.presents) in
    let ended : c.ended_count-ended.result ≡ length (filter ended_here c.deref.result.now) = cc (all, c.deref-2.ensures.value, c.ended_count-ended.ensures) in
    let last : c.all_end_last-last.result ≡ list_all last_here c.deref.result.now = cc (all, c.deref-3.ensures.value, c.all_end_last-last.ensures) in
    let test = sym (rw c.deref-5.ensures.value at c.is_whole.ensures) ∙ c.if-is_whole.true in
    let settled = whole_by c.args.shape c.deref.result.now c.args.parts.items (journals_in c.deref-4.result.now) c.in_ok-history.history.items c.in_ok-start.start c.in_ok-end.end c.ended_count-ended.result c.all_end_last-last.result
    c.law_links.ensures all c.law_placed_merge.ensures.stamped c.law_placed_merge.ensures.journals journals c.in_ok-history.ensures end ended last test in
    subst (λ w. Run w c.in_ok-history.history.items c.in_ok-end.end) (sym start) settled.run

pub returns-then-is_whole-clause-history : goal.returns-then-is_whole-clause-history
returns-then-is_whole-clause-history g c =
    let all = c.deref.ensures.value in
    let journals : journals_in c.deref-4.result.now ≡ journals_of (stamped_of c.deref.result.now) = cc (all, c.deref-4.ensures.value, c.in_ok-starts.ensures.journals) in
    let start : c.in_ok-start.start ≡ machine c.args.shape (starts_of (stamped_of c.args.parts.items)) = cc (c.in_ok-start.ensures, c.in_ok-starts.ensures.starts) in
    let end : c.in_ok-end.end ≡ machine c.args.shape (presents_of (stamped_of c.deref.result.now)) = cc (all, c.in_ok-end.ensures, c.in_ok-starts.ensures.presents) in
    let ended : c.ended_count-ended.result ≡ length (filter ended_here c.deref.result.now) = cc (all, c.deref-2.ensures.value, c.ended_count-ended.ensures) in
    let last : c.all_end_last-last.result ≡ list_all last_here c.deref.result.now = cc (all, c.deref-3.ensures.value, c.all_end_last-last.ensures) in
    let test = sym (rw c.deref-5.ensures.value at c.is_whole.ensures) ∙ c.if-is_whole.true in
    let settled = whole_by c.args.shape c.deref.result.now c.args.parts.items (journals_in c.deref-4.result.now) c.in_ok-history.history.items c.in_ok-start.start c.in_ok-end.end c.ended_count-ended.result c.all_end_last-last.result
    c.law_links.ensures all c.law_placed_merge.ensures.stamped c.law_placed_merge.ensures.journals journals c.in_ok-history.ensures end ended last test in
    subst (λ w. IsHistory (stamped_of c.args.parts.items) w c.in_ok-history.history.items c.in_ok-end.end) (sym start) settled.history

pub returns-then-is_whole-clause-ended : goal.returns-then-is_whole-clause-ended
returns-then-is_whole-clause-ended g c =
    let all = c.deref.ensures.value in
    let journals : journals_in c.deref-4.result.now ≡ journals_of (stamped_of c.deref.result.now) = cc (all, c.deref-4.ensures.value, c.in_ok-starts.ensures.journals) in
    let start : c.in_ok-start.start ≡ machine c.args.shape (starts_of (stamped_of c.args.parts.items)) = cc (c.in_ok-start.ensures, c.in_ok-starts.ensures.starts) in
    let end : c.in_ok-end.end ≡ machine c.args.shape (presents_of (stamped_of c.deref.result.now)) = cc (all, c.in_ok-end.ensures, c.in_ok-starts.ensures.presents) in
    let ended : c.ended_count-ended.result ≡ length (filter ended_here c.deref.result.now) = cc (all, c.deref-2.ensures.value, c.ended_count-ended.ensures) in
    let last : c.all_end_last-last.result ≡ list_all last_here c.deref.result.now = cc (all, c.deref-3.ensures.value, c.all_end_last-last.ensures) in
    let test = sym (rw c.deref-5.ensures.value at c.is_whole.ensures) ∙ c.if-is_whole.true in
    let settled = whole_by c.args.shape c.deref.result.now c.args.parts.items (journals_in c.deref-4.result.now) c.in_ok-history.history.items c.in_ok-start.start c.in_ok-end.end c.ended_count-ended.result c.all_end_last-last.result
    c.law_links.ensures all c.law_placed_merge.ensures.stamped c.law_placed_merge.ensures.journals journals c.in_ok-history.ensures end ended last test in
    settled.ended

pub returns-then-is_whole-clause-over : goal.returns-then-is_whole-clause-over
returns-then-is_whole-clause-over g c =
    let all = c.deref.ensures.value in
    let journals : journals_in c.deref-4.result.now ≡ journals_of (stamped_of c.deref.result.now) = cc (all, c.deref-4.ensures.value, c.in_ok-starts.ensures.journals) in
    let start : c.in_ok-start.start ≡ machine c.args.shape (starts_of (stamped_of c.args.parts.items)) = cc (c.in_ok-start.ensures, c.in_ok-starts.ensures.starts) in
    let end : c.in_ok-end.end ≡ machine c.args.shape (presents_of (stamped_of c.deref.result.now)) = cc (all, c.in_ok-end.ensures, c.in_ok-starts.ensures.presents) in
    let ended : c.ended_count-ended.result ≡ length (filter ended_here c.deref.result.now) = cc (all, c.deref-2.ensures.value, c.ended_count-ended.ensures) in
    let last : c.all_end_last-last.result ≡ list_all last_here c.deref.result.now = cc (all, c.deref-3.ensures.value, c.all_end_last-last.ensures) in
    let test = sym (rw c.deref-5.ensures.value at c.is_whole.ensures) ∙ c.if-is_whole.true in
    let settled = whole_by c.args.shape c.deref.result.now c.args.parts.items (journals_in c.deref-4.result.now) c.in_ok-history.history.items c.in_ok-start.start c.in_ok-end.end c.ended_count-ended.result c.all_end_last-last.result
    c.law_links.ensures all c.law_placed_merge.ensures.stamped c.law_placed_merge.ensures.journals journals c.in_ok-history.ensures end ended last test in
    settled.over

pub replay-requires : goal.replay-requires
replay-requires g c =
    let all = c.deref.ensures.value in
    let journals : journals_in c.deref-4.result.now ≡ journals_of (stamped_of c.deref.result.now) = cc (all, c.deref-4.ensures.value, c.in_ok-starts.ensures.journals) in
    let start : c.in_ok-end-2.end ≡ machine c.args.shape (starts_of (stamped_of c.deref.result.now)) = cc (all, c.in_ok-end-2.ensures, c.in_ok-start.ensures, c.in_ok-starts.ensures.starts) in
    can_replay c.args.shape (stamped_of c.deref.result.now) (journals_in c.deref-4.result.now) c.in_ok-history.history.items c.deref-6.result.now c.in_ok-end-2.end c.law_placed_merge.ensures.walk journals c.in_ok-history.ensures c.deref-6.ensures.value start

pub returns-clause-ended : goal.returns-clause-ended
returns-clause-ended g c =
    let all = c.deref.ensures.value in
    let journals : journals_in c.deref-4.result.now ≡ journals_of (stamped_of c.deref.result.now) = cc (all, c.deref-4.ensures.value, c.in_ok-starts.ensures.journals) in
    let start : c.in_ok-end-2.end ≡ machine c.args.shape (starts_of (stamped_of c.deref.result.now)) = cc (all, c.in_ok-end-2.ensures, c.in_ok-start.ensures, c.in_ok-starts.ensures.starts) in
    let settled = settled_by c.args.shape (stamped_of c.deref.result.now) (stamped_of c.args.parts.items) (journals_in c.deref-4.result.now) c.in_ok-history.history.items c.deref-6.result.now c.truncate.new.self.items c.in_ok-count.count c.in_ok-end-2.end c.replay.new.world
    c.law_links.ensures (ap stamped_of all) c.law_placed_merge.ensures.stamped c.law_placed_merge.ensures.journals journals c.in_ok-history.ensures c.deref-6.ensures.value start c.in_ok-count.ensures c.truncate.ensures.items in
    settled.ended

pub returns-clause-whole : goal.returns-clause-whole
returns-clause-whole g c =
    let all = c.deref.ensures.value in
    let journals : journals_in c.deref-4.result.now ≡ journals_of (stamped_of c.deref.result.now) = cc (all, c.deref-4.ensures.value, c.in_ok-starts.ensures.journals) in
    let start : c.in_ok-end-2.end ≡ machine c.args.shape (starts_of (stamped_of c.deref.result.now)) = cc (all, c.in_ok-end-2.ensures, c.in_ok-start.ensures, c.in_ok-starts.ensures.starts) in
    let settled = settled_by c.args.shape (stamped_of c.deref.result.now) (stamped_of c.args.parts.items) (journals_in c.deref-4.result.now) c.in_ok-history.history.items c.deref-6.result.now c.truncate.new.self.items c.in_ok-count.count c.in_ok-end-2.end c.replay.new.world
    c.law_links.ensures (ap stamped_of all) c.law_placed_merge.ensures.stamped c.law_placed_merge.ensures.journals journals c.in_ok-history.ensures c.deref-6.ensures.value start c.in_ok-count.ensures c.truncate.ensures.items in
    settled.whole

pub returns-clause-over : goal.returns-clause-over
returns-clause-over g c =
    let all = c.deref.ensures.value in
    let journals : journals_in c.deref-4.result.now ≡ journals_of (stamped_of c.deref.result.now) = cc (all, c.deref-4.ensures.value, c.in_ok-starts.ensures.journals) in
    let start : c.in_ok-end-2.end ≡ machine c.args.shape (starts_of (stamped_of c.deref.result.now)) = cc (all, c.in_ok-end-2.ensures, c.in_ok-start.ensures, c.in_ok-starts.ensures.starts) in
    let settled = settled_by c.args.shape (stamped_of c.deref.result.now) (stamped_of c.args.parts.items) (journals_in c.deref-4.result.now) c.in_ok-history.history.items c.deref-6.result.now c.truncate.new.self.items c.in_ok-count.count c.in_ok-end-2.end c.replay.new.world
    c.law_links.ensures (ap stamped_of all) c.law_placed_merge.ensures.stamped c.law_placed_merge.ensures.journals journals c.in_ok-history.ensures c.deref-6.ensures.value start c.in_ok-count.ensures c.truncate.ensures.items in
    settled.over
