-- The receivers of a message on their tile, as sets of the places of its threads.
use Rattle.std.specs.Prelude.{ℕ, ◌+◌, ◌*◌, ◌/◌, ◌%◌, ◌^◌, Bool, true, false, List, [], ◌∷◌, bit_and, if◌then◌else◌}
use Rattle.std.specs.Int.{bit_not, w64}
use Rattle.tn_base.specs.declared.message.Dest.{Dest}
use Rattle.tn_base.specs.declared.message.Dest.TheVariants as dest
use Rattle.tn_base.specs.declared.shape.ShapeNumbers.{ShapeNumbers}
use Rattle.tn_base.specs.Address.{place_in_tile}
use Rattle.tn_thread.specs.declared.state.ThreadState.{ThreadState}
use Rattle.tn_thread.specs.declared.state.ThreadState.TheVariants as state
use Rattle.tn_thread.specs.declared.thread.Thread.{Thread}

-- the sixteen bits of a core in a mask whose bit core * 16 + thread names a thread
abbrev pub core_bits : ℕ → ℕ → ℕ
core_bits m core = m / 2 ^ (16 * core) % 65536

-- the same threads by their places: the bits of each core stand behind those of the cores before it
abbrev pub packed : ShapeNumbers → ℕ → ℕ
packed n m = core_bits m 0 + core_bits m 1 * 2 ^ n.threads + core_bits m 2 * 2 ^ (2 * n.threads) + core_bits m 3 * 2 ^ (3 * n.threads)

abbrev pub receivers : ShapeNumbers → Dest → ℕ
receivers n (dest.Thread t) = 2 ^ place_in_tile n t.0
receivers n dest.Host = 0
receivers n (dest.Mask tile mask) = packed n mask
receivers n (dest.Key key) = 0

-- a thread that ended
abbrev pub is_dead : ThreadState → Bool
is_dead state.Run = false
is_dead (state.Wait waits) = false
is_dead (state.Idle vote) = false
is_dead (state.Answered value) = false
is_dead (state.Dead value) = true
is_dead (state.Trapped why) = false

-- the places of the threads that ended, the first in the lowest bit
abbrev pub dead_in : List Thread → ℕ
dead_in [] = 0
dead_in (t ∷ ts) = (if is_dead t.state then 1 else 0) + 2 * dead_in ts

-- those of a set that are alive, and those that ended
abbrev pub alive_of : List Thread → ℕ → ℕ
alive_of threads set = bit_and set (bit_not w64 (dead_in threads))

abbrev pub dead_of : List Thread → ℕ → ℕ
dead_of threads set = bit_and set (dead_in threads)
