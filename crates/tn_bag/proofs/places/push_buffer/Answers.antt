use Rattle.tn_node.specs.PortRows.{at}
use Rattle.tn_bag.proofs.Made.{packet_read, waits_fit}
use Rattle.tn_bag.proofs.places.push_buffer.Goals as goal

pub push_packet-requires : goal.push_packet-requires
push_packet-requires g c =
    let v = c.args.tile.now in
    packet_read v.plan.shape c.buffer.result (at c.args.way v.now.node.out) c.buffer.ensures (waits_fit v.plan.shape c.args.way (at c.args.way v.now.node.out) (c.kept.ensures.fits.out c.args.way))
