-- Tests of a graph whose vertices have places and whose pins have routes.
use Rattle.std.specs.Prelude.{ℕ, List, Option, Some, None}
use Rattle.tn_base.specs.declared.shape.ShapeNumbers.{ShapeNumbers}
use Rattle.tn_keys.specs.Tables.{Table}
use Rattle.tn_reach.specs.declared.check.TableStop.{TableStop}
use Rattle.tn_reach.specs.declared.check.TableStop.TheVariants.{Fault, Memory}
use Rattle.tn_reach.specs.Check.{table_stop}
use Rattle.job_text.specs.declared.job.Job.{Job}
use Rattle.job_text.specs.declared.job.TextSection.{TextSection}
use Rattle.job_faults.specs.declared.fault.LoadFault.{LoadFault}
use Rattle.job_faults.specs.declared.map.Mapped.{Mapped}
use Rattle.job_faults.specs.Faults.{fault_at}
use Rattle.job_faults.specs.Mapping.{graph_mapped}
use Rattle.job_faults.specs.Names.{name_of_table}

-- a fault of a table at this line
abbrev pub told_on : ℕ → Option TableStop → Option LoadFault
told_on line None = None
told_on line (Some (Fault board found)) = Some (fault_at line (name_of_table found))
-- no definition of faults gives this
told_on line (Some Memory) = None

-- of the first board whose table leads nowhere or too far the first fault, at this line
unfoldable pub tables_fault : ℕ → ShapeNumbers → List Table → Option LoadFault
tables_fault line n tables = told_on line (table_stop n tables)

abbrev pub routed_fault : ShapeNumbers → Option TextSection → Option Mapped → Option LoadFault
routed_fault n None m = None
routed_fault n (Some s) None = None
routed_fault n (Some s) (Some m) = tables_fault s.line n m.routes.tables

-- the fault of the tables of a graph's routes, at the graph's line
abbrev pub routes_fault : Job → Option LoadFault
routes_fault job = routed_fault job.numbers job.graph (graph_mapped job)
