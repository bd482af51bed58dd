-- The faults of a job that makes no machine. `Loaded` has the order in which they refuse it.
use Rattle.std.specs.Prelude.{ℕ, ◌+◌, ◌&&◌, Bool, not, List, [], ◌∷◌, length, nat_le, nat_lt, Option, Some, None, option_map, if◌then◌else◌}
use Rattle.std.specs.List.{flat_map}
use Rattle.std.specs.declared.result.Result.{Result}
use Rattle.std.specs.declared.result.Result.TheVariants.{Ok, Err}
use Rattle.tn_base.specs.declared.shape.ShapeFault.{ShapeFault}
use Rattle.tn_base.specs.declared.shape.ShapeFault.TheVariants as number
use Rattle.tn_base.specs.declared.shape.ShapeNumbers.{ShapeNumbers}
use Rattle.tn_base.specs.Address.{has_thread, has_tile}
use Rattle.tn_base.specs.Bytes.{is_length}
use Rattle.tn_base.specs.Message.{slot_bytes}
use Rattle.tn_base.specs.Shape.{first_fault}
use Rattle.tn_keys.specs.declared.beat.BeatFault.{BeatFault}
use Rattle.tn_keys.specs.declared.record.RouteRec.{RouteRec}
use Rattle.tn_keys.specs.Read.{beat_of}
use Rattle.job_text.specs.declared.job.BeatLine.{BeatLine}
use Rattle.job_text.specs.declared.job.CodeSection.{CodeSection}
use Rattle.job_text.specs.declared.job.FillLine.{FillLine}
use Rattle.job_text.specs.declared.job.Job.{Job}
use Rattle.job_text.specs.declared.job.Owner.{Owner}
use Rattle.job_text.specs.declared.job.Owner.TheVariants as owner
use Rattle.job_text.specs.declared.job.ScriptLine.{ScriptLine}
use Rattle.job_text.specs.declared.job.ScriptText.{ScriptText}
use Rattle.job_text.specs.declared.job.ScriptText.TheVariants.{Send, Idle}
use Rattle.job_text.specs.declared.job.TableSection.{TableSection}
use Rattle.job_faults.specs.declared.fault.FaultName.{FaultName}
use Rattle.job_faults.specs.declared.fault.FaultName.TheVariants as fault
use Rattle.job_faults.specs.declared.fault.LoadFault.{LoadFault}
use Rattle.job_faults.specs.Assembly.{asms_fault, sections_of}
use Rattle.job_faults.specs.Code.{lacks_code}
use Rattle.job_faults.specs.Names.{name_of_beat, name_of_number}

abbrev pub fault_at : ℕ → FaultName → LoadFault
fault_at line kind = record { line = line; kind = kind }

-- the line of the shape
abbrev pub shape_line : ShapeNumbers → ℕ
shape_line lines = lines.boards_x

-- A number of the machine, which refuses a job first.

-- the line that gives a number: that of its setting, or of the shape. Of the memory of all threads together it is the shape's
abbrev pub number_line : ShapeFault → ShapeNumbers → ℕ
number_line number.Version lines = shape_line lines
number_line number.Boards lines = shape_line lines
number_line number.Tiles lines = shape_line lines
number_line number.Cores lines = shape_line lines
number_line number.Threads lines = shape_line lines
number_line number.Slots lines = lines.slots
number_line number.Link lines = lines.link
number_line number.Mem lines = lines.mem
number_line number.Total lines = shape_line lines
number_line number.Fuel lines = lines.fuel
number_line number.Turn lines = lines.turn

-- the first number that is outside its limits
abbrev pub number_fault : Job → Option LoadFault
number_fault job = option_map (λ f. fault_at (number_line f job.number_lines) (name_of_number f)) (first_fault job.numbers)

-- A section that is no assembly.

-- the first one in order of the sections, at its first line at fault
abbrev pub asm_fault : Job → Option LoadFault
asm_fault job = asms_fault job.asms

-- Sections that name what the machine does not have, and messages that are none.

-- the one of two faults that stands on the earlier line
abbrev pub sooner : Option LoadFault → Option LoadFault → Option LoadFault
sooner None b = b
sooner (Some a) None = Some a
sooner (Some a) (Some b) = if nat_lt b.line a.line then Some b else Some a

-- the first fault in order of lines
abbrev pub soonest : {X : Type 0} → (X → Option LoadFault) → List X → Option LoadFault
soonest test [] = None
soonest test (x ∷ xs) = sooner (test x) (soonest test xs)

abbrev pub owner_fault : ShapeNumbers → ℕ → Owner → Option LoadFault
owner_fault n line owner.All = None
owner_fault n line (owner.Tile tile) = if has_tile n tile then None else Some (fault_at line fault.BadTile)

-- the code of a tile that is not there
abbrev pub code_fault : ShapeNumbers → CodeSection → Option LoadFault
code_fault n section = owner_fault n section.line section.owner

-- the bytes of a thread that is not there, or bytes past the end of its memory
abbrev pub fill_fault : ShapeNumbers → FillLine → Option LoadFault
fill_fault n fill =
    if not (has_thread n fill.thread) then Some (fault_at fill.line fault.BadThread)
    else if nat_lt n.mem (fill.address + length fill.bytes) then Some (fault_at fill.line fault.BadFill)
    else None

-- the machine has the board of a table
abbrev pub has_board : ShapeNumbers → TableSection → Bool
has_board n table = nat_lt table.x n.boards_x && nat_lt table.y n.boards_y

-- the table of a board that is not there
abbrev pub place_fault : ShapeNumbers → TableSection → Option LoadFault
place_fault n table = if has_board n table then None else Some (fault_at table.line fault.BadTable)

-- the beat of 32 bytes in a version, or its first fault
unfoldable pub beat_from : ℕ → List ℕ → Result (List RouteRec) BeatFault
beat_from version bytes = beat_of version bytes

abbrev pub fault_of_beat : ℕ → Result (List RouteRec) BeatFault → Option LoadFault
fault_of_beat line (Ok records) = None
fault_of_beat line (Err found) = Some (fault_at line (name_of_beat found))

-- bytes that are no beat, at their own line
abbrev pub beat_fault : ℕ → BeatLine → Option LoadFault
beat_fault version beat = fault_of_beat beat.line (beat_from version beat.bytes)

-- the beats of all tables
abbrev pub beat_lines : List TableSection → List BeatLine
beat_lines tables = flat_map (λ table. table.beats) tables

-- a message of the version: one to four flits of 16 bytes, in version 2 one to eight
abbrev pub is_message : ShapeNumbers → ℕ → Bool
is_message n count = is_length count && nat_le count (slot_bytes n)

abbrev pub item_fault : ShapeNumbers → ℕ → ScriptText → Option LoadFault
item_fault n line Idle = None
item_fault n line (Send thread bytes) =
    if not (has_thread n thread) then Some (fault_at line fault.BadThread)
    else if is_message n (length bytes) then None
    else Some (fault_at line fault.BadMessage)

-- what the host sends to a thread that is not there, or no message
abbrev pub send_fault : ShapeNumbers → ScriptLine → Option LoadFault
send_fault n l = item_fault n l.line l.item

abbrev pub section_fault : Job → Option LoadFault
section_fault job =
    sooner (soonest (code_fault job.numbers) (sections_of job))
    (sooner (soonest (fill_fault job.numbers) job.fills)
    (sooner (soonest (place_fault job.numbers) job.tables)
    (sooner (soonest (beat_fault job.version) (beat_lines job.tables))
    (soonest (send_fault job.numbers) job.script))))

-- A tile without code.

abbrev pub missing_fault : Job → Option LoadFault
missing_fault job = if lacks_code job.numbers (sections_of job) then Some (fault_at (shape_line job.number_lines) fault.NoCode) else None
