-- One slot of a pool.
use Rattle.std.specs.Prelude.{ℕ, ◌==◌, ◌&&◌, Bool, [], replicate}
use Rattle.tn_base.specs.Mask.{with_bit, without_bit}
use Rattle.tn_slots.specs.declared.slot.Slot.{Slot}

-- a slot that was never used
abbrev pub fresh_slot : Slot
fresh_slot = record { bytes = replicate 16 0; owed = 0; holders = 0 }

-- what stands past the last slot: nobody is owed it and nobody holds it
abbrev pub empty_slot : Slot
empty_slot = record { bytes = []; owed = 0; holders = 0 }

-- nobody is owed the slot and nobody holds it
abbrev pub is_free : Slot → Bool
is_free slot = slot.owed == 0 && slot.holders == 0

-- the slot after thread t, which was owed it, took it
abbrev pub taken_slot : ℕ → Slot → Slot
taken_slot t slot = record { bytes = slot.bytes; owed = without_bit slot.owed t; holders = with_bit slot.holders t }

-- the slot after thread t, which held it, freed it
abbrev pub freed_slot : ℕ → Slot → Slot
freed_slot t slot = record { bytes = slot.bytes; owed = slot.owed; holders = without_bit slot.holders t }

-- the slot without thread t: it is not owed it and does not hold it
abbrev pub left_slot : ℕ → Slot → Slot
left_slot t slot = record { bytes = slot.bytes; owed = without_bit slot.owed t; holders = without_bit slot.holders t }
