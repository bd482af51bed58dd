-- The names of the control registers.
use Rattle.std.specs.Prelude.{ℕ, ◌+◌, List, [], ◌∷◌, if◌then◌else◌, Option, Some, codes, bytes_eq, option_map}
use Rattle.asm_text.specs.Places.{place_in}

-- the names of the control registers from 0x800 on, in order
abbrev pub control_names : List (List ℕ)
control_names =
    codes "CanSend" ∷ codes "CanRecv" ∷ codes "SendLen" ∷ codes "SendDest" ∷ codes "MaskLow" ∷ codes "MaskHigh"
    ∷ codes "Send" ∷ codes "Recv" ∷ codes "Free" ∷ codes "WaitUntil" ∷ codes "Idle" ∷ codes "Kill" ∷ codes "SendSlot" ∷ []

-- the number of the control register of a name
abbrev pub control_of : List ℕ → Option ℕ
control_of name =
    if bytes_eq name (codes "HartId") then Some 0xf14 else option_map (λ place. 0x800 + place) (place_in name control_names)
