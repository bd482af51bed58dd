-- What holds of the graph of a job without a fault.
use Rattle.std.specs.Prelude.{ℕ, ◌≡◌, ◌≤◌, ◌<◌, ◌+◌, ◌%◌, IsTrue, is_some, length, replicate, slice_index, slice_index_or}
use Rattle.std.specs.List.{AllByRecursion}
use Rattle.std.specs.declared.result.Result.TheVariants.{Ok}
use Rattle.tn_base.specs.Message.{flits}
use Rattle.tn_base.specs.Shape.{WithinLimits}
use Rattle.tn_keys.specs.Accepted.{Accepted}
use Rattle.graph_text.specs.Graph.{IsGraph}
use Rattle.polite_place.specs.Outs.{outs_of}
use Rattle.polite_place.specs.Seats.{placed, seat_of}
use Rattle.polite_routes.specs.Answer.{routes_of}
use Rattle.job_text.specs.declared.job.Job.{Job}
use Rattle.job_faults.specs.declared.map.Mapped.{Mapped}
use Rattle.job_faults.specs.Assembly.{labels_of}
use Rattle.job_faults.specs.Labels.{entries_in, entries_of}
use Rattle.job_faults.specs.Room.{states_on}

-- Its messages have at most the machine's flits. The states of each thread leave 256 bytes of its memory. The tables of its routes are
-- accepted. Each handler of each kind has its label, and begins at an address that four divides
pub record Fits (job : Job) (m : Mapped) : Type 0 where
  pub limits : WithinLimits job.numbers
  pub graph_is : IsGraph m.graph
  pub messages : m.graph.flits ≤ flits job.numbers
  pub placement_is : Ok m.placement ≡ placed job.numbers m.graph.per_thread (outs_of m.graph)
  pub routes_are : Ok m.routes ≡ routes_of job.numbers m.graph m.placement
  pub room : (v : ℕ) → v < length m.graph.vertices → states_on m.graph m.placement (seat_of m.placement v).thread.0 + 256 ≤ job.numbers.mem
  pub tables : Accepted job.numbers m.routes.tables
  pub labelled : AllByRecursion (λ kind. IsTrue (is_some (entries_of (labels_of job.asms) kind.name))) m.graph.kinds
  pub at_words : (kind handler : ℕ) → slice_index (slice_index_or (entries_in (labels_of job.asms) m.graph.kinds) kind (replicate 5 0)) handler % 4 ≡ 0
