use Rattle.std.proofs.Common.{◌≡◌, ◌≤◌, ◌<◌, ◌^◌, arith, true, rules, length, Some}
use Rattle.std.proofs.lemmas.Nat.{and_le_l}
use Rattle.std.specs.Int.RustNames.{count_ones}
use Rattle.tn_tile.specs.Receivers.{alive_of, dead_of, receivers}
use Rattle.tn_tile.specs.Rows.{stored}
use Rattle.tn_tile.proofs.Packets.{did_some, received_is, stored_wakes}
use Rattle.tn_tile.proofs.state.TileState.receive.Goals as goal

pub returns : goal.returns
returns c =
    let p = c.args.plan.now in
    let s = c.args.self.now in
    let set = receivers p.shape c.args.p.dest in
    let alive : c.of-alive.result ≡ alive_of s.threads set = search rules in
    let ones : c.from.result ≡ count_ones (dead_of s.threads set) = search rules in
    let did : c.store.result ≡ true = search rules in
    let row : stored c.of-alive.result c.args.p s ≡ Some c.store.new.self = did_some c.store.result (stored c.of-alive.result c.args.p s) s c.store.new.self did c.store.ensures in
    let part : c.of-alive.result ≤ c.receivers-all.result = rw (c.of-alive.ensures, c.bits.ensures) (and_le_l _ _) in
    let few = c.receivers-all.ensures.below in
    let below : c.of-alive.result < 2 ^ length s.pool.queues = rw c.requires.pool.queues (omega arith) in
    (rw ones (received_is p c.args.p s c.store.new.self (rw alive at row)), stored_wakes c.of-alive.result c.args.p s c.store.new.self below row)
