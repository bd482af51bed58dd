use Rattle.std.specs.Prelude.{ℕ, List}
use Rattle.tn_base.specs.declared.message.Packet.{Packet}

-- what a link holds, the oldest packet first, and how many it may hold
pub record LinkView : Type 0 where
  pub packets : List Packet
  pub capacity : ℕ
