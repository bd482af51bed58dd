-- Two threads, field by field.
use Rattle.std.specs.Prelude.{◌≡◌}
use Rattle.tn_thread.specs.declared.thread.Thread.{Thread}

-- they have one name, and one machine
abbrev pub SameName : Thread → Thread → Type 0
SameName a b = (a.id ≡ b.id) × (a.shape ≡ b.shape) × (a.firmware ≡ b.firmware)

-- they stand at one place, and have made as much
abbrev pub SameCounts : Thread → Thread → Type 0
SameCounts a b =
    (a.pc ≡ b.pc) × (a.steps ≡ b.steps) × (a.sends ≡ b.sends) × (a.given ≡ b.given) × (a.answer_to ≡ b.answer_to) × (a.hand ≡ b.hand)

-- they send to one destination
abbrev pub SameSending : Thread → Thread → Type 0
SameSending a b = (a.dest ≡ b.dest) × (a.mask_low ≡ b.mask_low) × (a.mask_high ≡ b.mask_high)

abbrev pub SameParts : Thread → Thread → Type 0
SameParts a b =
    SameName a b × SameCounts a b × SameSending a b × (a.state ≡ b.state) × (a.regs ≡ b.regs) × (a.mem ≡ b.mem) × (a.out ≡ b.out) × (a.switch ≡ b.switch)
