-- The names of faults.
use Rattle.std.specs.Prelude.{ℕ, List, codes}
use Rattle.std.specs.declared.result.Result.{Result}
use Rattle.std.specs.declared.result.Result.TheVariants.{Ok, Err}
use Rattle.tn_base.specs.declared.shape.ShapeFault.{ShapeFault}
use Rattle.tn_base.specs.declared.shape.ShapeFault.TheVariants as number
use Rattle.tn_text.specs.declared.stop.Fault.{Fault}
use Rattle.asm_text.specs.declared.fault.AsmKind.{AsmKind}
use Rattle.asm_text.specs.declared.fault.AsmKind.TheVariants as asm
use Rattle.tn_keys.specs.declared.beat.BeatFault.{BeatFault}
use Rattle.tn_keys.specs.declared.beat.BeatFault.TheVariants as beat
use Rattle.tn_keys.specs.declared.fault.TableFault.{TableFault}
use Rattle.tn_keys.specs.declared.fault.TableFault.TheVariants as table
use Rattle.graph_text.specs.declared.graph.GraphKind.{GraphKind}
use Rattle.graph_text.specs.declared.graph.GraphKind.TheVariants as graph
use Rattle.job_text.specs.declared.job.Job.{Job}
use Rattle.job_text.specs.declared.job.JobKind.{JobKind}
use Rattle.job_text.specs.declared.job.JobKind.TheVariants as text
use Rattle.job_text.specs.Text.{job_of}
use Rattle.job_faults.specs.declared.fault.FaultName.{FaultName}
use Rattle.job_faults.specs.declared.fault.FaultName.TheVariants as fault
use Rattle.job_faults.specs.declared.fault.LoadFault.{LoadFault}

-- a number that is outside its limits
abbrev pub name_of_number : ShapeFault → FaultName
name_of_number number.Version = fault.Version
name_of_number number.Boards = fault.Boards
name_of_number number.Tiles = fault.Tiles
name_of_number number.Cores = fault.Cores
name_of_number number.Threads = fault.Threads
name_of_number number.Slots = fault.Slots
name_of_number number.Link = fault.Link
name_of_number number.Mem = fault.Mem
name_of_number number.Total = fault.Total
name_of_number number.Fuel = fault.Fuel
name_of_number number.Turn = fault.Turn

-- a text that is no job
abbrev pub name_of_text : JobKind → FaultName
name_of_text text.Header = fault.Header
name_of_text text.NoShape = fault.NoShape
name_of_text text.BadLine = fault.BadLine
name_of_text text.BadNumber = fault.BadNumber
name_of_text text.Twice = fault.Twice
name_of_text text.NoEnd = fault.NoEnd
name_of_text text.BadWord = fault.BadWord
name_of_text text.TooMany = fault.TooMany

abbrev pub fault_of_job : Fault JobKind → LoadFault
fault_of_job found = record { line = found.line; kind = name_of_text found.kind }

abbrev pub job_read : Result Job (Fault JobKind) → Result Job LoadFault
job_read (Ok job) = Ok job
job_read (Err found) = Err (fault_of_job found)

-- the job that lines say, or the first line at fault
abbrev pub job_said : List (List ℕ) → Result Job LoadFault
job_said lines = job_read (job_of lines)

-- a text that is no assembly
abbrev pub name_of_asm : AsmKind → FaultName
name_of_asm asm.BadLine = fault.BadLine
name_of_asm asm.BadName = fault.BadName
name_of_asm asm.BadArgs = fault.BadArgs
name_of_asm asm.BadNumber = fault.BadNumber
name_of_asm asm.OutOfRange = fault.OutOfRange
name_of_asm asm.Twice = fault.Twice
name_of_asm asm.NoLabel = fault.NoLabel
name_of_asm asm.TooMany = fault.TooMany

abbrev pub fault_of_asm : Fault AsmKind → LoadFault
fault_of_asm found = record { line = found.line; kind = name_of_asm found.kind }

-- a text that is no graph
abbrev pub name_of_graph : GraphKind → FaultName
name_of_graph graph.BadLine = fault.BadLine
name_of_graph graph.BadNumber = fault.BadNumber
name_of_graph graph.Twice = fault.Twice
name_of_graph graph.NoKind = fault.NoKind
name_of_graph graph.NoVertex = fault.NoVertex
name_of_graph graph.NoPin = fault.NoPin
name_of_graph graph.TooMany = fault.TooMany

abbrev pub fault_of_graph : Fault GraphKind → LoadFault
fault_of_graph found = record { line = found.line; kind = name_of_graph found.kind }

-- bytes that are no beat
abbrev pub name_of_beat : BeatFault → FaultName
name_of_beat beat.Count = fault.Count
name_of_beat beat.Tag = fault.Tag
name_of_beat beat.Chunk = fault.Chunk
name_of_beat beat.Unused = fault.Unused
name_of_beat beat.AfterInd = fault.AfterInd

-- a table that leads nowhere, or too far
abbrev pub name_of_table : TableFault → FaultName
name_of_table table.OffMachine = fault.OffMachine
name_of_table table.BadThread = fault.BadThread
name_of_table table.EmptyMask = fault.EmptyMask
name_of_table table.KeyRange = fault.KeyRange
name_of_table table.Loop = fault.Loop
name_of_table table.TooWide = fault.TooWide

-- a name as it is printed
abbrev pub fault_text : FaultName → List ℕ
fault_text fault.Version = codes "Version"
fault_text fault.Boards = codes "Boards"
fault_text fault.Tiles = codes "Tiles"
fault_text fault.Cores = codes "Cores"
fault_text fault.Threads = codes "Threads"
fault_text fault.Slots = codes "Slots"
fault_text fault.Link = codes "Link"
fault_text fault.Mem = codes "Mem"
fault_text fault.Total = codes "Total"
fault_text fault.Fuel = codes "Fuel"
fault_text fault.Turn = codes "Turn"
fault_text fault.Header = codes "Header"
fault_text fault.NoShape = codes "NoShape"
fault_text fault.BadLine = codes "BadLine"
fault_text fault.BadNumber = codes "BadNumber"
fault_text fault.Twice = codes "Twice"
fault_text fault.NoEnd = codes "NoEnd"
fault_text fault.BadWord = codes "BadWord"
fault_text fault.TooMany = codes "TooMany"
fault_text fault.BadName = codes "BadName"
fault_text fault.BadArgs = codes "BadArgs"
fault_text fault.OutOfRange = codes "OutOfRange"
fault_text fault.NoLabel = codes "NoLabel"
fault_text fault.NoKind = codes "NoKind"
fault_text fault.NoVertex = codes "NoVertex"
fault_text fault.NoPin = codes "NoPin"
fault_text fault.NoGraph = codes "NoGraph"
fault_text fault.Mixed = codes "Mixed"
fault_text fault.KeysFull = codes "KeysFull"
fault_text fault.TableFull = codes "TableFull"
fault_text fault.NoRoom = codes "NoRoom"
fault_text fault.BadTile = codes "BadTile"
fault_text fault.BadThread = codes "BadThread"
fault_text fault.BadFill = codes "BadFill"
fault_text fault.BadTable = codes "BadTable"
fault_text fault.BadMessage = codes "BadMessage"
fault_text fault.NoCode = codes "NoCode"
fault_text fault.Count = codes "Count"
fault_text fault.Tag = codes "Tag"
fault_text fault.Chunk = codes "Chunk"
fault_text fault.Unused = codes "Unused"
fault_text fault.AfterInd = codes "AfterInd"
fault_text fault.OffMachine = codes "OffMachine"
fault_text fault.EmptyMask = codes "EmptyMask"
fault_text fault.KeyRange = codes "KeyRange"
fault_text fault.Loop = codes "Loop"
fault_text fault.TooWide = codes "TooWide"
