-- What the runs of a graph's job mean.
use Rattle.std.specs.Prelude.{◌≡◌, List, Some}
use Rattle.std.specs.declared.result.Result.TheVariants.{Ok}
use Rattle.tn_base.specs.declared.event.Event.{Event}
use Rattle.job_faults.specs.declared.map.Mapped.{Mapped}
use Rattle.job_faults.specs.Mapping.{graph_mapped}
use Rattle.job_load.specs.Loaded.{loaded}
use Rattle.job_text.specs.declared.job.Job.{Job}
use Rattle.job_text.specs.declared.job.TextSection.{TextSection}
use Rattle.polite_edges.specs.Deeds.{Lawful}
use Rattle.polite_edges.specs.Histories.{history_deeds}
use Rattle.polite_edges.specs.Layout.{AllRouted, IsPlaced, Layout}
use Rattle.polite_edges.specs.Runs.{IsGraphStart}
use Rattle.polite_edges.specs.VertexLog.{EdgesApart, EvenAtRest, OnceAtRest}
use Rattle.tn_letters.specs.Standing.{bag_at}
use Rattle.tn_letters.specs.Tiles.{program_of}
use Rattle.tn_rows.specs.Runs.{Run}
use Rattle.tn_rows.specs.WorldView.{WorldView}
use Rattle.job_edges.specs.JobLayout.{layout_of}

-- the job is accepted with this start, and this is its graph with places and routes
pub record IsGraphJob (job : Job) (m : Mapped) (start : WorldView) : Type 0 where
  pub accepted : loaded job ≡ Ok start
  pub graph : graph_mapped job ≡ Some m

-- the machine at its start is that of the graph: each vertex has its device, the key of each pin finds exactly the pin's edges, each edge
-- is of one pin, and nothing has happened
pub record IsGraphMachine (g : Layout) (start : WorldView) : Type 0 where
  pub placed : IsPlaced g
  pub routed : AllRouted g
  pub apart : EdgesApart g
  pub begins : IsGraphStart g (program_of start) (bag_at start)

-- the deeds of a history are lawful, and at each announcement each message of each edge came once
pub record KeepsEdges (g : Layout) (start : WorldView) (history : List Event) : Type 0 where
  pub lawful : Lawful g (history_deeds start history)
  pub even : EvenAtRest g (history_deeds start history)
  pub once : OnceAtRest g (history_deeds start history)

-- if an accepted job has a graph section, it has its graph with places and routes
abbrev pub EachHasGraph : Type 0
EachHasGraph = (job : Job) (section : TextSection) (start : WorldView) → loaded job ≡ Ok start → job.graph ≡ Some section → (m : Mapped) × IsGraphJob job m start

abbrev pub EachIsGraphMachine : Type 0
EachIsGraphMachine = (job : Job) (m : Mapped) (start : WorldView) → IsGraphJob job m start → IsGraphMachine (layout_of job m) start

abbrev pub EachKeepsEdges : Type 0
EachKeepsEdges = (job : Job) (m : Mapped) (start end : WorldView) (history : List Event) → IsGraphJob job m start → Run start history end → KeepsEdges (layout_of job m) start history
