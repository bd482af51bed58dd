-- The table of a board, by where the tables of a job's machine come from.
use Rattle.std.proofs.Common.{ℕ, ◌≡◌, ◌<◌, ◌∙◌, List, None, Some, length, sym, ap, subst, arith}
use Rattle.std.proofs.lemmas.Nat.{mul-add-lt}
use Rattle.tn_base.specs.declared.ids.Board.{Board}
use Rattle.tn_base.specs.declared.shape.ShapeNumbers.{ShapeNumbers}
use Rattle.tn_base.specs.Parts.{board_count}
use Rattle.tn_keys.specs.Tables.{HasBoard, Table, board_place, table_of}
use Rattle.job_text.specs.declared.job.Job.{Job}
use Rattle.job_faults.specs.declared.map.Mapped.{Mapped}
use Rattle.job_faults.specs.Mapping.{graph_mapped}
use Rattle.job_faults.specs.Tables.{table_for}
use Rattle.job_load.specs.Graph.{FitsGraph, FitsMachine}
use Rattle.job_load.specs.Origin.{ComesOfGraph}
use Rattle.job_load.specs.SeatedModel.{SeatedModel}
use Rattle.job_load.specs.Start.{board_table, table_by}

pub board_below : (n : ShapeNumbers) (b : Board) → HasBoard n b → board_place n b < board_count n
board_below n b h = let below = mul-add-lt b.y n.boards_x b.x n.boards_y h.1 h.0 in grind arith

-- the graph of a job fits its machine
pub graph_fits : (job : Job) (m : Mapped) → graph_mapped job ≡ Some m → FitsGraph job (graph_mapped job) → FitsMachine job m
graph_fits job m is fits = subst (FitsGraph job) is fits

pub tables_long : (job : Job) (flits : ℕ) (threads : List SeatedModel) (tables : List Table) → ComesOfGraph job flits threads tables → FitsGraph job (graph_mapped job) → length tables ≡ board_count job.numbers
tables_long job flits threads tables c fits = ap length c.tables_are ∙ (graph_fits job c.mapped c.graph_is fits).tables.count

pub table_planned : (job : Job) (flits : ℕ) (threads : List SeatedModel) (tables : List Table) (b : Board) → ComesOfGraph job flits threads tables → table_of job.numbers tables b ≡ board_table job b
table_planned job flits threads tables b c = ap (λ (ts : List Table). table_of job.numbers ts b) c.tables_are ∙ sym (ap (λ m. table_by job m b) c.graph_is)

-- a job without a graph
pub table_plain : (job : Job) (b : Board) → graph_mapped job ≡ None → table_for job b ≡ board_table job b
table_plain job b none = sym (ap (λ m. table_by job m b) none)
