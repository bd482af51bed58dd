-- The tables of a job, and the faults that they show.
use Rattle.std.specs.Prelude.{ℕ, ◌==◌, ◌&&◌, Bool, List, [], ◌∷◌, map, Option, Some, None, option_map}
use Rattle.std.specs.List.{filter_map, find, range_with_len}
use Rattle.std.specs.Option.{option_or}
use Rattle.std.specs.Result.{result_ok}
use Rattle.tn_base.specs.declared.ids.Board.{Board}
use Rattle.tn_base.specs.Parts.{board_at, board_count}
use Rattle.tn_keys.specs.declared.fault.TableFault.{TableFault}
use Rattle.tn_keys.specs.Accepted.{board_fault}
use Rattle.tn_keys.specs.Tables.{Table}
use Rattle.job_text.specs.declared.job.BeatLine.{BeatLine}
use Rattle.job_text.specs.declared.job.Job.{Job}
use Rattle.job_text.specs.declared.job.TableSection.{TableSection}
use Rattle.job_faults.specs.declared.fault.LoadFault.{LoadFault}
use Rattle.job_faults.specs.Faults.{beat_from, fault_at}
use Rattle.job_faults.specs.Names.{name_of_table}

-- Tables.

abbrev pub is_of : Board → TableSection → Bool
is_of b table = (table.x == b.x) && (table.y == b.y)

-- the section of a board, where it has one
abbrev pub section_for : Job → Board → Option TableSection
section_for job b = find (is_of b) job.tables

-- the beats of lines. Bytes that are no beat refuse the job before
abbrev pub beats_of : ℕ → List BeatLine → Table
beats_of version lines = filter_map (λ line. result_ok (beat_from version line.bytes)) lines

abbrev pub table_by : ℕ → Option TableSection → Table
table_by version None = []
table_by version (Some table) = beats_of version table.beats

-- the table of a board: without a section it has no beats
abbrev pub table_for : Job → Board → Table
table_for job b = table_by job.version (section_for job b)

-- the tables of all boards, by board y, then x
unfoldable pub tables_of : Job → List Table
tables_of job = map (λ i. table_for job (board_at job.numbers i)) (range_with_len 0 (board_count job.numbers))

-- A table that leads nowhere, or too far.

abbrev pub told_at : Option TableSection → Option TableFault → Option LoadFault
told_at None found = None
told_at (Some table) found = option_map (λ f. fault_at table.line (name_of_table f)) found

-- the fault of a board, at the line of its section. A board without one has no beats, and so no fault
abbrev pub fault_for : Job → Board → Option LoadFault
fault_for job b = told_at (section_for job b) (board_fault job.numbers (tables_of job) b)

-- the first fault that a test finds
abbrev pub first_found : (ℕ → Option LoadFault) → List ℕ → Option LoadFault
first_found test [] = None
first_found test (i ∷ is) = option_or (test i) (first_found test is)

-- the first board at fault, and there the first fault
unfoldable pub table_fault : Job → Option LoadFault
table_fault job = first_found (λ i. fault_for job (board_at job.numbers i)) (range_with_len 0 (board_count job.numbers))
