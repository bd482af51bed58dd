-- The queues of a pool's threads.
use Rattle.std.specs.Prelude.{ℕ, ◌≡◌, ◌<◌, ◌^◌, ◌==◌, List, [], ◌∷◌, ◌++◌, length, map, slice_index_or, if◌then◌else◌, Option, Some, None}
use Rattle.std.specs.List.{range_with_len}
use Rattle.std.specs.Int.{bit_at}

-- the first slot of a queue
abbrev pub first_of : List ℕ → Option ℕ
first_of [] = None
first_of (s ∷ rest) = Some s

-- the queue of thread t after slot s was put for the threads of the mask
abbrev pub put_in_queue : ℕ → ℕ → ℕ → List ℕ → List ℕ
put_in_queue mask s t queue = if bit_at mask t == 1 then queue ++ s ∷ [] else queue

-- the queues after slot s was put for the threads of the mask
abbrev pub appended : ℕ → ℕ → List (List ℕ) → List (List ℕ)
appended mask s queues = map (λ t. put_in_queue mask s t (slice_index_or queues t [])) (range_with_len 0 (length queues))

-- s was put into the queues that the mask names, but for those that rest names, which are as they were
pub record AppendedBut (mask rest s : ℕ) (old now : List (List ℕ)) : Type 0 where
  pub long : length now ≡ length old
  pub named : rest < 2 ^ length old
  pub part : (t : ℕ) → t < length old → bit_at rest t ≡ 1 → bit_at mask t ≡ 1
  pub each : (t : ℕ) → t < length old → slice_index_or now t [] ≡ (if bit_at rest t == 1 then slice_index_or old t [] else put_in_queue mask s t (slice_index_or old t []))
