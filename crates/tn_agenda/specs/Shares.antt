-- The workers' shares of the stops.
use Rattle.std.specs.Prelude.{ℕ, ◌*◌, ◌/◌, ◌≤◌, ◌<◌}
use Rattle.tn_agenda.specs.declared.share.Share.{Share}

-- where the share of a worker begins
abbrev pub share_start : ℕ → ℕ → ℕ → ℕ
share_start stops workers worker = worker * stops / workers

-- a stop is of a share
abbrev pub IsOf : Share → ℕ → Type 0
IsOf share stop = (share.first ≤ stop) × (stop < share.end)
