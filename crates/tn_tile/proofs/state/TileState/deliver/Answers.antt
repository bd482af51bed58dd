use Rattle.std.proofs.Common.{◌≡◌, ◌∙◌, ap, sym, slice_set, Some, None}
use Rattle.tn_tile.specs.Rows.{delivered_from, passed}
use Rattle.tn_tile.specs.Step.{pending_at}
use Rattle.tn_tile.proofs.Packets.{put_back}
use Rattle.tn_tile.proofs.state.TileState.deliver.Goals as goal

pub returns-in-Err : goal.returns-in-Err
returns-in-Err c =
    let p = c.args.plan.now in
    let k = c.args.place in
    let s = c.args.self.now in
    let read : pending_at s k ≡ Some c.in_ok-packet.packet = sym c.in_ok-packet.ensures.packet in
    let none : passed p c.in_ok-packet.packet (record s { pending = slice_set s.pending k None }) ≡ None = rw c.take.ensures.after at c.in-Err.ensures.0 in
    let same : c.pass.new.self ≡ record s { pending = slice_set s.pending k None } = rw c.take.ensures.after at c.in-Err.ensures.1 in
    (ap (λ o. delivered_from p k o s) read ∙ none, rw c.put.ensures (put_back s c.pass.new.self k c.in_ok-packet.packet c.in-Err.packet read same c.in-Err.ensures.2))
