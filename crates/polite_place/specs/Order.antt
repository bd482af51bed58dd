-- The breadth-first order: the next vertex is the first that has no place yet among the targets of the vertices placed so
-- far, taken in order, and where all of these have one, the least vertex that has none.
use Rattle.std.specs.Prelude.{ℕ, suc, zero, Bool, false, ◌≡◌, ◌==◌, ◌||◌, ◌+◌, ◌<◌, List, [], ◌∷◌, ◌++◌, length, slice_index_or, if◌then◌else◌}

-- the vertex stands in the list
abbrev pub has : List ℕ → ℕ → Bool
has [] v = false
has (x ∷ xs) v = x == v || has xs v

-- how often a vertex stands in a list
abbrev pub times : List ℕ → ℕ → ℕ
times [] v = 0
times (x ∷ xs) v = (if x == v then 1 else 0) + times xs v

-- the targets of vertices, in order, where `outs` has those of each vertex
abbrev pub targets : List (List ℕ) → List ℕ → List ℕ
targets outs [] = []
targets outs (v ∷ vs) = slice_index_or outs v [] ++ targets outs vs

-- 0, 1, .., n - 1
abbrev pub upto : ℕ → List ℕ
upto zero = []
upto (suc n) = upto n ++ n ∷ []

-- the first of some vertices that has no place yet
abbrev pub first_new : List ℕ → List ℕ → ℕ
first_new placed [] = 0
first_new placed (v ∷ vs) = if has placed v then first_new placed vs else v

abbrev pub next_vertex : List (List ℕ) → List ℕ → ℕ
next_vertex outs placed = first_new placed (targets outs placed ++ upto (length outs))

-- the first n vertices of the order
abbrev pub bfs : List (List ℕ) → ℕ → List ℕ
bfs outs zero = []
bfs outs (suc n) = bfs outs n ++ next_vertex outs (bfs outs n) ∷ []

abbrev pub AllBelow : ℕ → List ℕ → Type 0
AllBelow n [] = Unit {0}
AllBelow n (x ∷ xs) = (x < n) × AllBelow n xs

-- each edge leads to a vertex that is there
abbrev pub AllListsBelow : ℕ → List (List ℕ) → Type 0
AllListsBelow n [] = Unit {0}
AllListsBelow n (xs ∷ xss) = AllBelow n xs × AllListsBelow n xss

-- each of n vertices stands once in the order, and nothing else does
pub record Once (n : ℕ) (order : List ℕ) : Type 0 where
  pub below : AllBelow n order
  pub once : (v : ℕ) → v < n → times order v ≡ 1
