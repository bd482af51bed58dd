-- A machine once a release that is under way is over. After an announcement the parts are released one after the other. A part that is
-- not released yet does nothing before its release.
use Rattle.std.specs.Prelude.{ℕ, zero, suc, List, [], ◌∷◌, map, slice_index_or}
use Rattle.tn_detect.specs.declared.phase.Phase.{Phase}
use Rattle.tn_detect.specs.declared.phase.Phase.TheVariants as phase
use Rattle.tn_detect.specs.declared.state.DetectorState.{DetectorState}
use Rattle.tn_detect.specs.DetectorView.{fresh_state}
use Rattle.tn_detect.specs.Notes.{value_of}
use Rattle.tn_rows.specs.PartView.{PartView, TileV, RouterV, LinkV, HostV, DetectorV, AbsentV}
use Rattle.tn_rows.specs.Places.{detector_part}
use Rattle.tn_rows.specs.Visited.{released_part}
use Rattle.tn_rows.specs.WorldView.{WorldView}

-- the parts once those from number i on are released
abbrev pub released_from : ℕ → ℕ → List PartView → List PartView
released_from zero value parts = map (released_part value) parts
released_from (suc i) value [] = []
released_from (suc i) value (x ∷ xs) = x ∷ released_from i value xs

-- the parts once the release is over that is under way in a phase
abbrev pub settled_in : Phase → ℕ → List PartView → List PartView
settled_in phase.Collect value parts = parts
settled_in (phase.Confirm i) value parts = parts
settled_in (phase.Release i) value parts = released_from i value parts
settled_in (phase.Go i) value parts = parts

-- the detector's state. Where no detector is, a fresh one is read
abbrev pub detector_in : PartView → DetectorState
detector_in (TileV v) = fresh_state 0
detector_in (RouterV v) = fresh_state 0
detector_in (LinkV v) = fresh_state 0
detector_in (HostV s) = fresh_state 0
detector_in (DetectorV v) = v.now
detector_in AbsentV = fresh_state 0

-- the detector is the last part
abbrev pub detector_on : WorldView → DetectorState
detector_on w = detector_in (slice_index_or w.parts (detector_part w.shape) AbsentV)

-- the machine once a release that is under way is over
abbrev pub settled : WorldView → WorldView
settled w = record w { parts = settled_in (detector_on w).phase (value_of (detector_on w).answer) w.parts }
