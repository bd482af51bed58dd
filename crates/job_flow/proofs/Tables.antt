-- The tables of a graph job's machine are those of the graph's routes. These lemmas are copies of lemmas of `job_edges`.
use Rattle.std.proofs.Common.{ℕ, ◌≡◌, ◌<◌, ◌∙◌, [], get_or, length, sym, ap, Some}
use Rattle.std.proofs.lemmas.List.{get_or-map}
use Rattle.std.proofs.lemmas.List.FromFn.{fill_by_all}
use Rattle.std.proofs.lemmas.Nat.{div-add-mod'}
use Rattle.tn_base.specs.declared.part.Kind.TheVariants as kind
use Rattle.tn_base.specs.declared.shape.ShapeNumbers.{ShapeNumbers}
use Rattle.tn_base.specs.Parts.{board_at, board_count, kind_of, part_count, parts, router_part}
use Rattle.tn_keys.specs.Tables.{table_at}
use Rattle.tn_letters.specs.Tiles.{beats_on, tables_of}
use Rattle.tn_rows.proofs.Neighbours.{kind_router, router_within}
use Rattle.tn_rows.specs.PartView.{AbsentV}
use Rattle.job_text.specs.declared.job.Job.{Job}
use Rattle.job_faults.specs.declared.map.Mapped.{Mapped}
use Rattle.job_faults.specs.Mapping.{graph_mapped}
use Rattle.job_load.specs.Start.{part_start, start_of, table_by}

part_is : (job : Job) (p : ℕ) → p < part_count job.numbers → get_or (start_of job).parts p AbsentV ≡ part_start job (kind_of job.numbers p)
part_is job p h = get_or-map (part_start job) (parts job.numbers) p kind.Detector AbsentV h

table_there : (job : Job) (m : Mapped) (i : ℕ) → graph_mapped job ≡ Some m → i < board_count job.numbers → get_or m.routes.tables i [] ≡ beats_on (get_or (start_of job).parts (router_part job.numbers i) AbsentV)
table_there job m i is h =
    let n : ShapeNumbers = job.numbers in
    ap (table_at m.routes.tables) (sym (div-add-mod' i n.boards_x))
    ∙ ap (λ o. table_by job o (board_at n i)) (sym is)
    ∙ ap beats_on (sym (part_is job (router_part n i) (router_within n i h) ∙ ap (part_start job) (kind_router n i h)))

pub tables_are : (job : Job) (m : Mapped) → graph_mapped job ≡ Some m → length m.routes.tables ≡ board_count job.numbers → m.routes.tables ≡ tables_of (start_of job)
unfolding tables_of
tables_are job m is long =
    fill_by_all (λ i. beats_on (get_or (start_of job).parts (router_part job.numbers i) AbsentV)) m.routes.tables (board_count job.numbers) [] long (λ i h. table_there job m i is h)
