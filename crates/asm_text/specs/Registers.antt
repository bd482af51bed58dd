-- The names of registers.
use Rattle.std.specs.Prelude.{ℕ, List, [], ◌∷◌, if◌then◌else◌, Option, Some, None, codes, bytes_eq}
use Rattle.asm_text.specs.Places.{place_in}

-- the usual calling names, in the order of the registers
abbrev pub calling_names : List (List ℕ)
calling_names =
    codes "zero" ∷ codes "ra" ∷ codes "sp" ∷ codes "gp" ∷ codes "tp" ∷ codes "t0" ∷ codes "t1" ∷ codes "t2"
    ∷ codes "s0" ∷ codes "s1" ∷ codes "a0" ∷ codes "a1" ∷ codes "a2" ∷ codes "a3" ∷ codes "a4" ∷ codes "a5"
    ∷ codes "a6" ∷ codes "a7" ∷ codes "s2" ∷ codes "s3" ∷ codes "s4" ∷ codes "s5" ∷ codes "s6" ∷ codes "s7"
    ∷ codes "s8" ∷ codes "s9" ∷ codes "s10" ∷ codes "s11" ∷ codes "t3" ∷ codes "t4" ∷ codes "t5" ∷ codes "t6" ∷ []

-- the names by number
abbrev pub number_names : List (List ℕ)
number_names =
    codes "x0" ∷ codes "x1" ∷ codes "x2" ∷ codes "x3" ∷ codes "x4" ∷ codes "x5" ∷ codes "x6" ∷ codes "x7"
    ∷ codes "x8" ∷ codes "x9" ∷ codes "x10" ∷ codes "x11" ∷ codes "x12" ∷ codes "x13" ∷ codes "x14" ∷ codes "x15"
    ∷ codes "x16" ∷ codes "x17" ∷ codes "x18" ∷ codes "x19" ∷ codes "x20" ∷ codes "x21" ∷ codes "x22" ∷ codes "x23"
    ∷ codes "x24" ∷ codes "x25" ∷ codes "x26" ∷ codes "x27" ∷ codes "x28" ∷ codes "x29" ∷ codes "x30" ∷ codes "x31" ∷ []

abbrev pub else_by : Option ℕ → Option ℕ → Option ℕ
else_by (Some n) other = Some n
else_by None other = other

-- the register of a name, by number, by the usual calling names, or `fp`, which is `s0`
abbrev pub register_of : List ℕ → Option ℕ
register_of text =
    else_by (place_in text number_names) (else_by (place_in text calling_names) (if bytes_eq text (codes "fp") then Some 8 else None))
