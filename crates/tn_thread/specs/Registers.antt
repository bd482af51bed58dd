-- The numbers of the control registers.
use Rattle.std.specs.Prelude.{ℕ, ◌==◌, Bool, true, false, Option, Some, None, if◌then◌else◌}
use Rattle.tn_thread.specs.declared.register.Register.{Register}
use Rattle.tn_thread.specs.declared.register.Register.TheVariants.{HartId, CanSend, CanRecv, SendLen, SendDest, MaskLow, MaskHigh, Send, Recv, Free, WaitUntil, Idle, Kill, SendSlot}

abbrev pub register_of : ℕ → Option Register
register_of number =
    if number == 0xF14 then Some HartId
    else if number == 0x800 then Some CanSend
    else if number == 0x801 then Some CanRecv
    else if number == 0x802 then Some SendLen
    else if number == 0x803 then Some SendDest
    else if number == 0x804 then Some MaskLow
    else if number == 0x805 then Some MaskHigh
    else if number == 0x806 then Some Send
    else if number == 0x807 then Some Recv
    else if number == 0x808 then Some Free
    else if number == 0x809 then Some WaitUntil
    else if number == 0x80A then Some Idle
    else if number == 0x80B then Some Kill
    else if number == 0x80C then Some SendSlot
    else None

-- what code outside the firmware of a graph job may use
abbrev pub is_open : Register → Bool
is_open HartId = true
is_open CanSend = false
is_open CanRecv = false
is_open SendLen = false
is_open SendDest = false
is_open MaskLow = false
is_open MaskHigh = false
is_open Send = false
is_open Recv = false
is_open Free = false
is_open WaitUntil = false
is_open Idle = false
is_open Kill = false
is_open SendSlot = true

-- a write may read the register too where it is Idle
abbrev pub may_write : Register → ℕ → Bool
may_write Idle rd = true
may_write HartId rd = rd == 0
may_write CanSend rd = rd == 0
may_write CanRecv rd = rd == 0
may_write SendLen rd = rd == 0
may_write SendDest rd = rd == 0
may_write MaskLow rd = rd == 0
may_write MaskHigh rd = rd == 0
may_write Send rd = rd == 0
may_write Recv rd = rd == 0
may_write Free rd = rd == 0
may_write WaitUntil rd = rd == 0
may_write Kill rd = rd == 0
may_write SendSlot rd = rd == 0
