-- The tables of a job as they are read.
use Rattle.std.specs.Prelude.{ℕ, ◌==◌, ◌&&◌, Bool, List, [], ◌∷◌, Option}
use Rattle.std.specs.List.{find}
use Rattle.std.specs.declared.result.Result.{Result}
use Rattle.std.specs.declared.result.Result.TheVariants.{Ok, Err}
use Rattle.tn_base.specs.declared.ids.Board.{Board}
use Rattle.tn_keys.specs.declared.beat.BeatFault.{BeatFault}
use Rattle.tn_keys.specs.declared.record.RouteRec.{RouteRec}
use Rattle.tn_keys.specs.Tables.{Table}
use Rattle.job_text.specs.declared.job.TableSection.{TableSection}
use Rattle.job_faults.specs.declared.fault.LoadFault.{LoadFault}
use Rattle.job_faults.specs.declared.tables.ReadTable.{ReadTable}
use Rattle.job_faults.specs.Faults.{beat_fault, soonest}
use Rattle.job_faults.specs.Tables.{beats_of}

-- what a line adds to the beats
abbrev pub beats_in : Result (List RouteRec) BeatFault → Table
beats_in (Ok beat) = beat ∷ []
beats_in (Err found) = []

-- a section's table: its beats, and the first line that is no beat
abbrev pub as_read : ℕ → TableSection → ReadTable
as_read version t = record { line = t.line; x = t.x; y = t.y; beats = beats_of version t.beats; fault = soonest (beat_fault version) t.beats }

-- its first line that is no beat
abbrev pub read_fault : ReadTable → Option LoadFault
read_fault table = table.fault

-- it is the table of this board
abbrev pub is_on : Board → ReadTable → Bool
is_on b table = (table.x == b.x) && (table.y == b.y)

-- the table of a board, where it has one
abbrev pub read_for : List ReadTable → Board → Option ReadTable
read_for tables b = find (is_on b) tables
