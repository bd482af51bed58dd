-- Where the threads and tables of a graph's machine come from.
use Rattle.std.proofs.Common.{ℕ, ◌≡◌, ◌∙◌, List, Some, map, refl, ap, subst, sym}
use Rattle.std.specs.List.{range_with_len}
use Rattle.tn_base.specs.declared.shape.ShapeNumbers.{ShapeNumbers}
use Rattle.tn_base.specs.Shape.{thread_count}
use Rattle.job_text.specs.declared.job.Job.{Job}
use Rattle.job_faults.specs.declared.map.Mapped.{Mapped}
use Rattle.job_faults.specs.Assembly.{LabelList, labels_of}
use Rattle.job_faults.specs.Labels.{entries_in}
use Rattle.job_faults.specs.Mapping.{graph_mapped}
use Rattle.job_load.specs.Graph.{FitsMachine, StartsFit, seated}
use Rattle.job_load.specs.Origin.{ComesOfGraph}
use Rattle.job_load.specs.SeatedModel.{SeatedModel}

entries_same : (job : Job) (m : Mapped) (labels : LabelList) (entries : List (List ℕ)) → labels ≡ labels_of job.asms → entries ≡ entries_in labels m.graph.kinds →
    entries ≡ entries_in (labels_of job.asms) m.graph.kinds
entries_same job m labels entries e f = f ∙ ap (λ (l : LabelList). entries_in l m.graph.kinds) e

pub starts_fit : (job : Job) (m : Mapped) (n : ShapeNumbers) (labels : LabelList) (entries : List (List ℕ)) → n ≡ job.numbers → labels ≡ labels_of job.asms → entries ≡ entries_in labels m.graph.kinds →
    FitsMachine job m → StartsFit n m.graph entries m.routes.in_edges
starts_fit job m n labels entries e f g h =
    subst (λ (k : ShapeNumbers). StartsFit k m.graph entries m.routes.in_edges) (sym e)
    (subst (λ (es : List (List ℕ)). StartsFit job.numbers m.graph es m.routes.in_edges) (sym (entries_same job m labels entries f g)) h.starts)

pub graph_comes : (job : Job) (m : Mapped) (n : ShapeNumbers) (labels : LabelList) (entries : List (List ℕ)) (threads : List SeatedModel) →
    n ≡ job.numbers → labels ≡ labels_of job.asms → entries ≡ entries_in labels m.graph.kinds → graph_mapped job ≡ Some m →
    threads ≡ map (seated n m.graph m.routes.keys entries m.routes.in_edges) (range_with_len 0 (thread_count n)) → ComesOfGraph job m.graph.flits threads m.routes.tables
graph_comes job m n labels entries threads e f g is h = record {
  mapped = m;
  graph_is = is;
  flits_are = refl;
  threads_are =
      h
      ∙ ap (λ (k : ShapeNumbers). map (seated k m.graph m.routes.keys entries m.routes.in_edges) (range_with_len 0 (thread_count k))) e
      ∙ ap (λ (es : List (List ℕ)). map (seated job.numbers m.graph m.routes.keys es m.routes.in_edges) (range_with_len 0 (thread_count job.numbers))) (entries_same job m labels entries f g);
  tables_are = refl;
}
