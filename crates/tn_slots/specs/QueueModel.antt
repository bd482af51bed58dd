use Rattle.std.specs.Prelude.{ℕ, List}

-- for each thread of a pool the slots that it is owed, the oldest first, and how many slots each queue has room for
pub record QueuesModel : Type 0 where
  pub queues : List (List ℕ)
  pub room : ℕ
