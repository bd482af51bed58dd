use Rattle.std.proofs.Common.{◌+◌, ◌*◌, slice_index}
use Rattle.std.specs.BinaryHeap.{heap_items, heap_len}
use Rattle.tn_stamp.specs.Merging.{entries_of}
use Rattle.tn_stamp.proofs.Taking.{IsTaking, left}
use Rattle.tn_stamp.proofs.merge.merge.Given as goal

abbrev pub invariant-loop-stamp : goal.invariant-loop-stamp
invariant-loop-stamp l = IsTaking (entries_of l.journals) l.next.items (heap_items l.heads) l.events.items

abbrev pub decreases-loop-stamp : goal.decreases-loop-stamp
decreases-loop-stamp l = 2 * left (entries_of l.journals) (slice_index l.next.items) + heap_len l.heads
