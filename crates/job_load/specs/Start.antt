-- A job's machine at its start.
use Rattle.std.specs.Prelude.{ℕ, IsTrue, List, [], Option, None, Some, map}
use Rattle.std.specs.List.{range_with_len}
use Rattle.tn_base.specs.declared.ids.Board.{Board}
use Rattle.tn_base.specs.declared.part.Kind.{Kind}
use Rattle.tn_base.specs.declared.part.Kind.TheVariants as kind
use Rattle.tn_base.specs.declared.shape.ShapeNumbers.{ShapeNumbers}
use Rattle.tn_base.specs.Address.{has_tile, in_tile, tile_threads}
use Rattle.tn_base.specs.Parts.{board_at, board_count, parts, visited}
use Rattle.tn_detect.specs.DetectorView.{fresh_detector}
use Rattle.tn_host.specs.Rows.{fresh_state}
use Rattle.tn_keys.specs.Tables.{HasBoard, Table, table_of}
use Rattle.tn_router.specs.Kept.{fresh_router}
use Rattle.tn_rows.specs.PartView.{PartView, TileV, RouterV, LinkV, HostV, DetectorV}
use Rattle.tn_rows.specs.WorldView.{WorldView}
use Rattle.tn_thread.specs.declared.thread.Thread.{Thread}
use Rattle.tn_thread.specs.Step.{started}
use Rattle.tn_tile.specs.Kept.{fresh_tile}
use Rattle.tn_tile.specs.TileView.{TileView}
use Rattle.job_text.specs.declared.job.FillLine.{FillLine}
use Rattle.job_text.specs.declared.job.Job.{Job}
use Rattle.job_faults.specs.declared.map.Mapped.{Mapped}
use Rattle.job_faults.specs.Assembly.{sections_of}
use Rattle.job_faults.specs.Code.{code_of}
use Rattle.job_faults.specs.Mapping.{graph_mapped}
use Rattle.job_load.specs.Graph.{place_of, seated_in, thread_with}
use Rattle.job_load.specs.Images.{memory_of}
use Rattle.job_load.specs.Script.{script_of}
use Rattle.job_faults.specs.Tables.{table_for}

-- the threads of a tile by ascending address, each as its address says
abbrev pub by_address : (ℕ → Thread) → ShapeNumbers → ℕ → List Thread
by_address thread n tile = map (λ k. thread (in_tile n tile k)) (range_with_len 0 (tile_threads n))

-- a thread without firmware whose memory is what these fills say
abbrev pub filled_thread : ShapeNumbers → List FillLine → ℕ → Thread
filled_thread n fills thread = started n (record { 0 = thread }) (memory_of n.mem fills thread) None

abbrev pub thread_by : Job → Option Mapped → ℕ → Thread
thread_by job None thread = filled_thread job.numbers job.fills thread
thread_by job (Some m) thread = thread_with job.numbers m.graph.flits thread (seated_in job m (place_of job.numbers thread))

-- a thread at its start. In a job without a graph its memory is what the job's fills say. In a graph's job the thread has firmware for
-- messages of the graph's flits, its memory begins with the states of its vertices, and its softswitch has their devices
abbrev pub thread_start : Job → ℕ → Thread
thread_start job thread = thread_by job (graph_mapped job) thread

-- a tile at its start, over its code and its threads: nothing was sent yet, and nothing was dropped
abbrev pub tile_start : Job → ℕ → TileView
tile_start job tile = fresh_tile job.numbers tile (code_of (sections_of job) tile) (by_address (thread_start job) job.numbers tile)

abbrev pub table_by : Job → Option Mapped → Board → Table
table_by job None board = table_for job board
table_by job (Some m) board = table_of job.numbers m.routes.tables board

-- the table of a board: that of the graph's routes, or what the job's table sections say
abbrev pub board_table : Job → Board → Table
board_table job board = table_by job (graph_mapped job) board

-- the tables of all boards at the start, by board y, then x
unfoldable pub start_tables : Job → List Table
start_tables job = map (λ i. board_table job (board_at job.numbers i)) (range_with_len 0 (board_count job.numbers))

-- a part at its start: a tile, a router over its table, a link without packets, the host with its script, or the detector
-- without reports, which visits the host, the tiles and the routers
abbrev pub part_start : Job → Kind → PartView
part_start job (kind.Tile tile) = TileV (tile_start job tile.0)
part_start job kind.Host = HostV (fresh_state (script_of job))
part_start job (kind.Router board) = RouterV (fresh_router job.numbers board (board_table job board))
part_start job (kind.Link from onto) = LinkV (record { packets = []; capacity = job.numbers.link })
part_start job kind.Detector = DetectorV (fresh_detector (visited job.numbers))

-- the machine at its start: one part for each part of its shape
abbrev pub start_of : Job → WorldView
start_of job = record { shape = job.numbers; parts = map (part_start job) (parts job.numbers) }

-- where the kind names a tile or a board, the machine has it
abbrev pub IsThere : ShapeNumbers → Kind → Type 0
IsThere n (kind.Tile tile) = IsTrue (has_tile n tile.0)
IsThere n kind.Host = Unit {0}
IsThere n (kind.Router board) = HasBoard n board
IsThere n (kind.Link from onto) = Unit {0}
IsThere n kind.Detector = Unit {0}
