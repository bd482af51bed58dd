use Rattle.std.specs.Prelude.{ℕ, ◌≡◌, ◌<◌, Option, None, length, option_map, replicate}
use Rattle.tn_detect.specs.declared.phase.Phase.TheVariants.{Collect}
use Rattle.tn_detect.specs.declared.state.DetectorState.{DetectorState}
use Rattle.tn_detect.specs.Notes.{nothing_noted}

-- how many parts the detector visits, which no event changes, and its state
pub record DetectorView : Type 0 where
  pub visited : ℕ
  pub now : DetectorState

-- a detector in another state, and in another state if there is such a state
abbrev pub with_now : DetectorView → DetectorState → DetectorView
with_now v s = record v { now = s }

abbrev pub now_by : DetectorView → Option DetectorState → Option DetectorView
now_by v o = option_map (with_now v) o

-- a detector of so many parts at its start
abbrev pub fresh_state : ℕ → DetectorState
fresh_state visited = record { phase = Collect; reports = replicate visited None; noted = nothing_noted; answer = None }

abbrev pub fresh_detector : ℕ → DetectorView
fresh_detector visited = record { visited = visited; now = fresh_state visited }

-- a detector visits a part at least, and has a place for the report of each part
pub record IsDetector (v : DetectorView) : Type 0 where
  pub some : 0 < v.visited
  pub places : length v.now.reports ≡ v.visited
