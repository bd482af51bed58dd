-- Words that are drawn.
use Rattle.std.specs.Prelude.{ℕ, zero, suc, List, [], ◌∷◌}
use Rattle.rand_core.specs.Stream.{Stream, next_u32}
use Rattle.rand_core.specs.Steps.{steps_u32, stream_of}
use Rattle.rand_pcg.specs.Lcg.{Lcg, increment_of, started}
use Rattle.rand_pcg.specs.Pcg.{multiplier_64, pcg32}

-- the next words of a stream
unfoldable pub next_words : ℕ → Stream → List ℕ
next_words zero s = []
next_words (suc n) s = (next_u32 s).0 ∷ next_words n (next_u32 s).1

-- the 32-bit PCG generator of this state, in stream 0
abbrev pub generator : ℕ → Lcg
generator start = started 64 multiplier_64 start (increment_of 64 0)

-- the first words of that generator
abbrev pub drawn : ℕ → ℕ → List ℕ
drawn start n = next_words n (stream_of (steps_u32 pcg32) (generator start))
