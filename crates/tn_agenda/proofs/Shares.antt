-- Where shares begin.
use Rattle.std.proofs.Common.{◌≡◌, ℕ, ◌+◌, ◌*◌, ◌<◌, ◌≤◌, arith}
use Rattle.std.proofs.Math.Nat.{div-le_of_le-mul, div-mul-le_self, le-div_iff_mul-le, mul-div_cancel_left}
use Rattle.std.proofs.lemmas.Nat.{mul-le}
use Rattle.tn_agenda.specs.Shares.{share_start}

pub start_within : (stops workers worker : ℕ) → worker ≤ workers → share_start stops workers worker ≤ stops
start_within stops workers worker h = div-le_of_le-mul workers (mul-le worker stops workers stops h (omega arith))

pub starts_first : (stops workers : ℕ) → 0 < workers → share_start stops workers 0 ≡ 0
starts_first stops workers some = let h : share_start stops workers 0 ≤ 0 = div-le_of_le-mul workers (omega arith) in omega arith

pub starts_last : (stops workers : ℕ) → 0 < workers → share_start stops workers workers ≡ stops
starts_last stops workers some = mul-div_cancel_left stops some

pub starts_rise : (stops workers worker : ℕ) → 0 < workers → share_start stops workers worker ≤ share_start stops workers (worker + 1)
starts_rise stops workers worker some =
    let low = div-mul-le_self (worker * stops) workers in
    let more = mul-le worker stops (worker + 1) stops (omega arith) (omega arith) in
    (le-div_iff_mul-le some).1 (omega arith)
