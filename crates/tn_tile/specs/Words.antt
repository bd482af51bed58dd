-- What the word of the pending packets says.
use Rattle.std.specs.Prelude.{ℕ, ◌≤◌, List, length, None, Option, is_some, slice_index_or}
use Rattle.tn_base.specs.declared.message.Packet.{Packet}
use Rattle.tn_tile.specs.Ready.{Marks}

-- the word says at which places a packet is pending
pub record KnowsSends (pending : List (Option Packet)) (word : ℕ) : Type 0 where
  pub few : length pending ≤ 64
  pub sends : Marks (λ k. is_some (slice_index_or pending k None)) word
