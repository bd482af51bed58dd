use Rattle.std.proofs.Common.{◌≡◌, ◌<◌, ◌+◌, Some, refl, ap, set, length, vec_len, arith, slice_index, heap_items}
use Rattle.tn_stamp.specs.Heads.{IsNext}
use Rattle.tn_stamp.specs.Merging.{entries_of, head_at}
use Rattle.tn_stamp.proofs.Taking.{count_of, empty_of, events_is, taking, skip_none, skip_next, taken_next, next_there, index_is, less_left, merged}
use Rattle.tn_stamp.proofs.merge.merge.Goals as goal

pub loop-stamp-init : goal.loop-stamp-init
loop-stamp-init c =
    rw c.new-events.ensures.items
    (taking (entries_of c.args.journals.now) c.in_ok-next.next.items (heap_items c.in_ok-heads.heads) (length c.args.journals.now) (length c.args.journals.now)
    (count_of c.args.journals.now) (c.in_ok-next.ensures.items_if_clones_equal (λ y h. h)) refl (rw c.deref.ensures.value at c.in_ok-heads.ensures.each) c.in_ok-heads.ensures.heap c.in_ok-heads.ensures.rises)

pub loop-stamp-preserved-in_default-next_of : goal.loop-stamp-preserved-in_default-next_of
loop-stamp-preserved-in_default-next_of c =
    let p = c.in-Some.ensures in
    skip_none _ _ _ _ _ _ _ c.loop-stamp.invariant p.permutation p.heap_order p.below_top (rw c.deref-in-Some.ensures.value at c.in_default-next_of.ensures.entry)

pub loop-stamp-preserved-then-first-stamp : goal.loop-stamp-preserved-then-first-stamp
loop-stamp-preserved-then-first-stamp c =
    let p = c.in-Some.ensures in
    skip_next _ _ _ _ _ _ _ c.loop-stamp.invariant p.permutation p.heap_order p.below_top _ _ (rw c.deref-in-Some.ensures.value at c.in-Some-next_of.ensures.entry) c.if-first-stamp.true

pub index_mut-requires : goal.index_mut-requires
index_mut-requires c =
    let k : c.in-Some.field-0.0.1 < length c.loop-stamp.next.items = next_there _ _ _ _ _ _ _ c.loop-stamp.invariant (rw c.deref-in-Some.ensures.value at c.in-Some-next_of.ensures.entry) in
    let v : vec_len c.loop-stamp.next ≡ length c.loop-stamp.next.items = c.loop-stamp.next.ok.0 in
    omega arith

pub overflow_add-index_mut : goal.overflow_add-index_mut
overflow_add-index_mut c =
    let k : c.in-Some.field-0.0.1 < length c.loop-stamp.next.items = next_there _ _ _ _ _ _ _ c.loop-stamp.invariant (rw c.deref-in-Some.ensures.value at c.in-Some-next_of.ensures.entry) in
    let v : c.index_mut.result.now ≡ slice_index c.loop-stamp.next.items c.in-Some.field-0.0.1 = index_is _ _ _ k c.index_mut.ensures.value in
    let few = rw c.deref-in-Some.ensures.value at c.in-Some-next_of.ensures.few in
    omega (arith, few)

pub loop-stamp-smaller : goal.loop-stamp-smaller
loop-stamp-smaller c =
    let p = c.in-Some.ensures in
    let t = c.in_ok-push_next.ensures.next in
    let here : IsNext (head_at (entries_of c.args.journals.now) (slice_index c.loop-stamp.next.items) c.in-Some.field-0.0.1) (Some (c.in-Some-next_of.first, c.in-Some-next_of.event)) = rw c.deref-in-Some.ensures.value at c.in-Some-next_of.ensures.entry in
    let k : c.in-Some.field-0.0.1 < length c.loop-stamp.next.items = next_there _ _ _ _ _ _ _ c.loop-stamp.invariant here in
    let v : c.index_mut.result.now ≡ slice_index c.loop-stamp.next.items c.in-Some.field-0.0.1 = index_is _ _ _ k c.index_mut.ensures.value in
    less_left _ _ _ _ _ (taken_next _ _ _ _ _ _ _ c.loop-stamp.invariant p.permutation p.heap_order p.below_top c.in-Some-next_of.first c.in-Some-next_of.event (heap_items c.push_next.new.heads) c.push_if.new.events.items
    (set c.loop-stamp.next.items c.in-Some.field-0.0.1 (c.index_mut.result.now + 1)) here c.if-first-stamp.false
    (ap (λ n. set c.loop-stamp.next.items c.in-Some.field-0.0.1 (n + 1)) v)
    (events_is _ _ _ _ _ _ _ c.in_ok-push_if.ensures c.is_least.ensures (count_of c.args.journals.now))
    (t.ordered (p.heap_order c.loop-stamp.invariant.heaped).0) t.kept (rw c.deref-in-Some-2.ensures.value at t.there)).1 c.in_ok-push_next.ensures.len p.len

pub loop-stamp-preserved : goal.loop-stamp-preserved
loop-stamp-preserved c =
    let p = c.in-Some.ensures in
    let t = c.in_ok-push_next.ensures.next in
    let here : IsNext (head_at (entries_of c.args.journals.now) (slice_index c.loop-stamp.next.items) c.in-Some.field-0.0.1) (Some (c.in-Some-next_of.first, c.in-Some-next_of.event)) = rw c.deref-in-Some.ensures.value at c.in-Some-next_of.ensures.entry in
    let k : c.in-Some.field-0.0.1 < length c.loop-stamp.next.items = next_there _ _ _ _ _ _ _ c.loop-stamp.invariant here in
    let v : c.index_mut.result.now ≡ slice_index c.loop-stamp.next.items c.in-Some.field-0.0.1 = index_is _ _ _ k c.index_mut.ensures.value in
    (taken_next _ _ _ _ _ _ _ c.loop-stamp.invariant p.permutation p.heap_order p.below_top c.in-Some-next_of.first c.in-Some-next_of.event (heap_items c.push_next.new.heads) c.push_if.new.events.items
    (set c.loop-stamp.next.items c.in-Some.field-0.0.1 (c.index_mut.result.now + 1)) here c.if-first-stamp.false
    (ap (λ n. set c.loop-stamp.next.items c.in-Some.field-0.0.1 (n + 1)) v)
    (events_is _ _ _ _ _ _ _ c.in_ok-push_if.ensures c.is_least.ensures (count_of c.args.journals.now))
    (t.ordered (p.heap_order c.loop-stamp.invariant.heaped).0) t.kept (rw c.deref-in-Some-2.ensures.value at t.there)).0

pub returns : goal.returns
returns c =
    let i = c.loop-stamp.invariant in
    merged _ _ _ i.out _ c.requires i.rises (rw (empty_of (heap_items c.loop-stamp.heads) c.loop-stamp.heads.data.ok.0 c.in_default.ensures.none) at i.merging) i.events_are
