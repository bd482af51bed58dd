-- The bytes of a message.
use Rattle.std.specs.Prelude.{ℕ, ◌%◌, ◌==◌, ◌&&◌, ◌++◌, Bool, List, length, drop, nat_le}

-- a message has one to eight flits of sixteen bytes
abbrev pub is_length : ℕ → Bool
is_length n = nat_le 16 n && nat_le n 128 && n % 16 == 0

-- a message of the same length, whose first bytes are replaced
abbrev pub fronted : List ℕ → List ℕ → List ℕ
fronted front bytes = front ++ drop (length front) bytes
