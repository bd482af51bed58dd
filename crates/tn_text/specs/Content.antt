-- What counts of a line: no comment, and no spaces at its ends.
use Rattle.std.specs.Prelude.{ℕ, ◌-◌, ◌==◌, ◌||◌, ◌&&◌, nat_le, Bool, List, length, take, drop}
use Rattle.std.specs.List.{before_first, prefix_len, suffix_len, list_all}

-- a space, a tab or a carriage return
abbrev pub is_space : ℕ → Bool
is_space b = b == 32 || b == 9 || b == 13

-- the bytes that may stand outside comments
abbrev pub may_stand : ℕ → Bool
may_stand b = is_space b || (nat_le 33 b && nat_le b 126)

-- `#`, which begins a comment
abbrev pub is_hash : ℕ → Bool
is_hash b = b == 35

abbrev pub before_comment : List ℕ → List ℕ
before_comment line = before_first is_hash line

abbrev pub without_front_spaces : List ℕ → List ℕ
without_front_spaces bs = drop (prefix_len is_space bs) bs

abbrev pub without_back_spaces : List ℕ → List ℕ
without_back_spaces bs = take (length bs - suffix_len is_space bs) bs

abbrev pub trimmed : List ℕ → List ℕ
trimmed bs = without_back_spaces (without_front_spaces bs)

-- a line without its comment and without the spaces at its ends
abbrev pub content_of : List ℕ → List ℕ
content_of line = trimmed (before_comment line)

-- no byte stands there that may not
abbrev pub is_plain : List ℕ → Bool
is_plain line = list_all may_stand (before_comment line)
