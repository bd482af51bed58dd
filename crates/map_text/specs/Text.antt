-- What is written of a graph that was placed and routed.
use Rattle.std.specs.Prelude.{ℕ, ◌≡◌, ◌==◌, List, [], ◌++◌, codes, decimal, flat_map, length, map, slice_index_or, if◌then◌else◌}
use Rattle.std.specs.List.{range_with_len}
use Rattle.tn_base.specs.declared.shape.ShapeNumbers.{ShapeNumbers}
use Rattle.tn_base.specs.declared.ids.Board.{Board}
use Rattle.tn_text.specs.Hex.{hex_text}
use Rattle.tn_text.specs.Lines.{feed}
use Rattle.tn_text.specs.Words.{spaced}
use Rattle.tn_keys.specs.declared.record.RouteRec.{RouteRec}
use Rattle.tn_keys.specs.Tables.{Table, table_of}
use Rattle.tn_keys.specs.Written.{written}
use Rattle.job_text.specs.declared.job.BeatLine.{BeatLine}
use Rattle.job_text.specs.declared.job.TableSection.{TableSection}
use Rattle.graph_text.specs.declared.graph.Graph.{Graph}
use Rattle.graph_text.specs.Text.{vertex_names}
use Rattle.polite_place.specs.declared.placement.Seat.{Seat}
use Rattle.polite_place.specs.Seats.{seat_of}

-- `place NAME THREAD`
abbrev pub place_line : List ℕ → ℕ → List ℕ
place_line name thread = codes "place" ++ spaced name ++ spaced (decimal thread) ++ feed

-- the name of a vertex
abbrev pub name_of : Graph → ℕ → List ℕ
name_of graph v = slice_index_or (vertex_names graph) v []

-- the line of a vertex: its name, and the address of its thread
abbrev pub vertex_line : Graph → List Seat → ℕ → List ℕ
vertex_line graph placement v = place_line (name_of graph v) (seat_of placement v).thread.0

-- the lines of all vertices, in order
abbrev pub places_text : Graph → List Seat → List ℕ
places_text graph placement = flat_map (vertex_line graph placement) (range_with_len 0 (length graph.vertices))

-- the 32 bytes of a beat, two digits each
abbrev pub beat_line : List RouteRec → List ℕ
beat_line beat = hex_text (written beat) ++ feed

-- `table X Y`
abbrev pub table_line : ℕ → ℕ → List ℕ
table_line x y = codes "table" ++ spaced (decimal x) ++ spaced (decimal y) ++ feed

abbrev pub end_line : List ℕ
end_line = codes "end" ++ feed

-- a table as a section of a job's text
abbrev pub section_text : ℕ → ℕ → Table → List ℕ
section_text x y table = table_line x y ++ flat_map beat_line table ++ end_line

-- the same, where a table without beats has no section
abbrev pub table_text : ℕ → ℕ → Table → List ℕ
table_text x y table = if length table == 0 then [] else section_text x y table

abbrev pub board : ℕ → ℕ → Board
board x y = record { x = x; y = y }

-- the section of a board
abbrev pub board_text : ShapeNumbers → List Table → ℕ → ℕ → List ℕ
board_text n tables y x = table_text x y (table_of n tables (board x y))

-- the sections of the boards of one y, by x
abbrev pub row_text : ShapeNumbers → List Table → ℕ → List ℕ
row_text n tables y = flat_map (board_text n tables y) (range_with_len 0 n.boards_x)

-- the sections of all boards, by y, then x
abbrev pub tables_text : ShapeNumbers → List Table → List ℕ
tables_text n tables = flat_map (row_text n tables) (range_with_len 0 n.boards_y)

-- the places of the vertices, then the tables of the boards
abbrev pub map_text : Graph → List Seat → ShapeNumbers → List Table → List ℕ
map_text graph placement n tables = places_text graph placement ++ tables_text n tables

-- the lines of a job's section have the bytes of these beats
abbrev pub HasBeats : TableSection → Table → Type 0
HasBeats section table = map (λ (line : BeatLine). line.bytes) section.beats ≡ map written table
