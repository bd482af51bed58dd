-- What the host puts on its link, and what each event of the host leaves.
use Rattle.std.proofs.Common.{◌≡◌, ◌&&◌, cond, ap, ◌∙◌, Some, None}
use Rattle.tn_base.specs.declared.message.Packet.{Packet}
use Rattle.tn_host.specs.HostView.{HostState}
use Rattle.tn_host.specs.Rows.{can_depart, departed, offered, put_row}
use Rattle.tn_node.specs.SamePacket.{is_packet}
use Rattle.tn_node.proofs.Given.{packet_itself}

-- the host gives the packet that it offers, if the packet can be counted
pub put_given : (k : Packet) (s : HostState) → offered s ≡ Some k → put_row k s ≡ cond (can_depart s.node) (Some (departed s)) None
put_given k s e =
    ap (λ o. cond (is_packet k o && can_depart s.node) (Some (departed s)) None) e
    ∙ ap (λ b. cond (b && can_depart s.node) (Some (departed s)) None) (packet_itself k)
