-- The graph job of a start and a number of vertices.
use Rattle.std.specs.Prelude.{ℕ, ◌≤◌, ◌+◌, ◌*◌, ◌/◌, ◌%◌, zero, suc, List, [], ◌∷◌, ◌++◌, codes, decimal, length}
use Rattle.tn_gen.specs.Drawn.{drawn}
use Rattle.tn_gen.specs.Head.{head}

-- `vertex vI sum J 0 5`, J being one more than I
abbrev pub vertex_text : ℕ → List ℕ
vertex_text i = codes "vertex v" ++ decimal i ++ codes " sum " ++ decimal (i + 1) ++ codes " 0 5\n"

-- the lines of so many vertices from this one on
unfoldable pub vertices_text : ℕ → ℕ → List ℕ
vertices_text i zero = []
vertices_text i (suc n) = vertex_text i ++ vertices_text (i + 1) n

-- `edge vI 0 vJ`, J being the word modulo the number of vertices
abbrev pub edge_text : ℕ → ℕ → ℕ → List ℕ
edge_text count i word = codes "edge v" ++ decimal i ++ codes " 0 v" ++ decimal (word % count) ++ codes "\n"

-- four edges a vertex, each to the vertex that the next word names; so many words were used before
abbrev pub edges_text : ℕ → ℕ → List ℕ → List ℕ
edges_text count used [] = []
edges_text count used (word ∷ words) = edge_text count (used / 4) word ++ edges_text count (used + 1) words

-- the job of this start with so many vertices
abbrev pub gen_text : ℕ → ℕ → List ℕ
gen_text start count = head ++ vertices_text 0 count ++ edges_text count 0 (drawn start (4 * count)) ++ codes "end\n"

-- the job of 1 to 4,096 vertices has at most as many bytes as an input of the program
abbrev pub DrawnJobsAreShort : Type 0
DrawnJobsAreShort = (start count : ℕ) → 1 ≤ count → count ≤ 4096 → length (gen_text start count) ≤ 16777216
