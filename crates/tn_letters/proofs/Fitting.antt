-- What holds of a tile's state holds after a change of one of its fields.
use Rattle.std.proofs.Common.{ℕ, List, Option, set}
use Rattle.tn_base.specs.declared.message.Packet.{Packet}
use Rattle.tn_base.specs.declared.port.Port.{Port}
use Rattle.tn_node.specs.PortRows.{with_at}
use Rattle.tn_slots.specs.Pool.{put_at}
use Rattle.tn_tile.specs.declared.sender.Sender.{Sender}
use Rattle.tn_tile.specs.declared.state.TileState.{TileState}
use Rattle.tn_tile.specs.Kept.{IsFit}
use Rattle.tn_tile.specs.Rows.{with_node}
use Rattle.tn_tile.specs.TileView.{TilePlan}
use Rattle.tn_tile.proofs.Shaped.{FitsIn, FitsWay, out_set, pending_set, pool_put}

-- another packet, or none, waits for a way out
pub out_fit : (plan : TilePlan) (s : TileState) (way : Port) (o : Option Packet) → FitsWay plan.shape way o → IsFit plan s → IsFit plan (with_node s (record s.node { out = with_at way o s.node.out }))
out_fit plan s way o fits f = record { threads = f.threads; pool = f.pool; pending = f.pending; out = out_set plan.shape way o s.node.out fits f.out }

-- another packet, or none, is pending at a thread
pub pending_fit : (plan : TilePlan) (s : TileState) (k : ℕ) (o : Option Packet) → FitsIn plan.shape o → IsFit plan s → IsFit plan (record s { pending = set s.pending k o })
pending_fit plan s k o fits f = record { threads = f.threads; pool = f.pool; pending = pending_set plan.shape s.pending k o fits f.pending; out = f.out }

-- a message is put into a slot
pub put_fit : (plan : TilePlan) (s : TileState) (slot mask : ℕ) (bytes : List ℕ) (from : Sender) → IsFit plan s → IsFit plan (record s { pool = put_at slot bytes mask s.pool; senders = set s.senders slot from })
put_fit plan s slot mask bytes from f = record { threads = f.threads; pool = pool_put plan.shape s.pool s.senders slot mask bytes from f.pool; pending = f.pending; out = f.out }
