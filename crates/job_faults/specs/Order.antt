-- The order in which the faults of a job refuse it, and a job's graph with places and routes.
use Rattle.std.specs.Prelude.{ℕ, Option, Some, None}
use Rattle.std.specs.Option.{option_or}
use Rattle.std.specs.declared.result.Result.{Result}
use Rattle.std.specs.declared.result.Result.TheVariants.{Ok, Err}
use Rattle.job_text.specs.declared.job.Job.{Job}
use Rattle.job_faults.specs.declared.fault.FaultName.TheVariants as fault
use Rattle.job_faults.specs.declared.fault.LoadFault.{LoadFault}
use Rattle.job_faults.specs.declared.map.Mapped.{Mapped}
use Rattle.job_faults.specs.Faults.{asm_fault, fault_at, missing_fault, number_fault, section_fault, shape_line}
use Rattle.job_faults.specs.Labels.{labels_fault}
use Rattle.job_faults.specs.Mapping.{graph_fault, graph_mapped}
use Rattle.job_faults.specs.Mixed.{mixed_fault}
use Rattle.job_faults.specs.Room.{room_fault}
use Rattle.job_faults.specs.Routed.{routes_fault}
use Rattle.job_faults.specs.Tables.{table_fault}

-- the first fault of a job whose assembly and graph have none
abbrev pub later_fault : Job → Option LoadFault
later_fault job =
    option_or (section_fault job)
    (option_or (missing_fault job)
    (option_or (labels_fault job)
    (option_or (room_fault job)
    (option_or (table_fault job)
    (routes_fault job)))))

-- the first fault
abbrev pub load_fault : Job → Option LoadFault
load_fault job =
    option_or (number_fault job)
    (option_or (mixed_fault job)
    (option_or (asm_fault job)
    (option_or (graph_fault job)
    (later_fault job))))

-- a fault refuses the job before what comes behind it
abbrev pub unless : {V : Type 0} → Option LoadFault → Result V LoadFault → Result V LoadFault
unless None others = others
unless (Some fault) others = Err fault

-- a job without a graph has none to map
abbrev pub map_or : ℕ → Option Mapped → Result Mapped LoadFault
map_or line None = Err (fault_at line fault.NoGraph)
map_or line (Some m) = Ok m

-- the faults, and behind them the graph with its places and routes
abbrev pub mapped : Job → Result Mapped LoadFault
mapped job = unless (load_fault job) (map_or (shape_line job.number_lines) (graph_mapped job))
