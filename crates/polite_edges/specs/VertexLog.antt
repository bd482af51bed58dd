-- The vertex log: the sends, receives, steps and finishes of the vertices of a graph, newest first.
use Rattle.std.specs.Prelude.{ℕ, ◌+◌, ◌≡◌, ◌<◌, ◌≤◌, ◌⊎◌, ◌==◌, ◌&&◌, Bool, List, [], ◌∷◌, ◌++◌, count_by, map, if◌then◌else◌}
use Rattle.graph_text.specs.declared.graph.EdgeRow.{EdgeRow}
use Rattle.polite_routes.specs.Pins.{edges_of}
pub use Rattle.polite_edges.specs.declared.deed.LogItem.{LogItem}
pub use Rattle.polite_edges.specs.declared.deed.LogItem.TheVariants.{EdgeReceived, VertexFinished, VertexSent, VertexStepped}
use Rattle.polite_edges.specs.Layout.{Layout, with_key}
use Rattle.polite_edges.specs.Deeds.{Announced, Deed, Finished, Inited, Missed, Received, Sent, Stepped}

-- how often vertex u has sent
abbrev pub sends_of : ℕ → List Deed → ℕ
sends_of u [] = 0
sends_of u (Inited a d v ∷ older) = sends_of u older
sends_of u (Sent s ∷ older) = if s.vertex == u then 1 + sends_of u older else sends_of u older
sends_of u (Received a d e l ∷ older) = sends_of u older
sends_of u (Missed a d e ∷ older) = sends_of u older
sends_of u (Stepped a d v ∷ older) = sends_of u older
sends_of u (Finished a d v ∷ older) = sends_of u older
sends_of u (Announced value ∷ older) = sends_of u older

-- how often the vertex that sent a packet had sent before: the packet is that of the newest send with this thread and number. A send
-- without edges takes no number, so an older send may have the same
abbrev pub number_at : ℕ → ℕ → List Deed → ℕ
number_at origin n [] = 0
number_at origin n (Inited a d v ∷ older) = number_at origin n older
number_at origin n (Sent s ∷ older) = if s.thread == origin && s.number == n then sends_of s.vertex older else number_at origin n older
number_at origin n (Received a d e l ∷ older) = number_at origin n older
number_at origin n (Missed a d e ∷ older) = number_at origin n older
number_at origin n (Stepped a d v ∷ older) = number_at origin n older
number_at origin n (Finished a d v ∷ older) = number_at origin n older
number_at origin n (Announced value ∷ older) = number_at origin n older

abbrev pub vertex_log : List Deed → List LogItem
vertex_log [] = []
vertex_log (Inited a d v ∷ older) = vertex_log older
vertex_log (Sent s ∷ older) = VertexSent s.vertex s.pin (sends_of s.vertex older) s.bytes ∷ vertex_log older
vertex_log (Received a d e l ∷ older) = EdgeReceived e (number_at l.origin l.number older) l.bytes ∷ vertex_log older
vertex_log (Missed a d e ∷ older) = vertex_log older
vertex_log (Stepped a d v ∷ older) = VertexStepped v ∷ vertex_log older
vertex_log (Finished a d v ∷ older) = VertexFinished v ∷ vertex_log older
vertex_log (Announced value ∷ older) = vertex_log older

-- what comes to an edge: the number of the send, and the bytes
pub record Arrival : Type 0 where
  pub edge : ℕ
  pub number : ℕ
  pub bytes : List ℕ

abbrev pub arrival : Layout → ℕ → List ℕ → ℕ → Arrival
arrival g number bytes e = record { edge = e; number = number; bytes = with_key (g.local e) bytes }

-- what the sends of a log owe to the edges of their pins
abbrev pub owed : Layout → List LogItem → List Arrival
owed g [] = []
owed g (VertexSent u pin k bytes ∷ older) = map (arrival g k bytes) (g.edges u pin) ++ owed g older
owed g (EdgeReceived e k bytes ∷ older) = owed g older
owed g (VertexStepped u ∷ older) = owed g older
owed g (VertexFinished u ∷ older) = owed g older

-- what came
abbrev pub arrived : List LogItem → List Arrival
arrived [] = []
arrived (VertexSent u pin k bytes ∷ older) = arrived older
arrived (EdgeReceived e k bytes ∷ older) = record { edge = e; number = k; bytes = bytes } ∷ arrived older
arrived (VertexStepped u ∷ older) = arrived older
arrived (VertexFinished u ∷ older) = arrived older

-- of each edge, number and bytes as many came as were owed
pub record EachArrived (g : Layout) (log : List LogItem) : Type 0 where
  pub each : (test : Arrival → Bool) → count_by test (arrived log) ≡ count_by test (owed g log)

-- at each announcement the log before it is even
abbrev pub EvenAtRest : Layout → List Deed → Type 0
EvenAtRest g [] = Unit {0}
EvenAtRest g (Inited a d v ∷ older) = EvenAtRest g older
EvenAtRest g (Sent s ∷ older) = EvenAtRest g older
EvenAtRest g (Received a d e l ∷ older) = EvenAtRest g older
EvenAtRest g (Missed a d e ∷ older) = EvenAtRest g older
EvenAtRest g (Stepped a d v ∷ older) = EvenAtRest g older
EvenAtRest g (Finished a d v ∷ older) = EvenAtRest g older
EvenAtRest g (Announced value ∷ older) = EachArrived g (vertex_log older) × EvenAtRest g older

-- how often an edge is among edges
abbrev pub times : ℕ → List ℕ → ℕ
times e es = count_by (λ x. x == e) es

-- each edge is an edge of one pin alone, once
pub record EdgesApart (g : Layout) : Type 0 where
  pub once : (u pin e : ℕ) → times e (g.edges u pin) ≤ 1
  pub apart : (u pin v qin e : ℕ) → 0 < times e (g.edges u pin) → 0 < times e (g.edges v qin) → (u ≡ v) × (pin ≡ qin)

-- the log has this send
abbrev pub HasSend : ℕ → ℕ → ℕ → List ℕ → List LogItem → Type 0
HasSend u pin k bytes [] = ⊥
HasSend u pin k bytes (VertexSent v qin m message ∷ older) = ((u ≡ v) × (pin ≡ qin) × (k ≡ m) × (bytes ≡ message)) ⊎ HasSend u pin k bytes older
HasSend u pin k bytes (EdgeReceived e m message ∷ older) = HasSend u pin k bytes older
HasSend u pin k bytes (VertexStepped v ∷ older) = HasSend u pin k bytes older
HasSend u pin k bytes (VertexFinished v ∷ older) = HasSend u pin k bytes older

-- an arrival at this edge with this number, whose bytes pass a test
abbrev pub hits : ℕ → ℕ → (List ℕ → Bool) → Arrival → Bool
hits e k test a = (a.edge == e && a.number == k) && test a.bytes

-- of each send in the log and each edge of its pin there is exactly one arrival with the edge and the send's number, and the bytes of
-- the arrival are those of the send with the edge's local key over the first two
pub record EachOnceArrived (g : Layout) (log : List LogItem) : Type 0 where
  pub each : (u pin k e : ℕ) (bytes : List ℕ) (test : List ℕ → Bool) → HasSend u pin k bytes log → 0 < times e (g.edges u pin)
      → count_by (hits e k test) (arrived log) ≡ (if test (with_key (g.local e) bytes) then 1 else 0)

-- the same at each announcement, of the log before it
abbrev pub OnceAtRest : Layout → List Deed → Type 0
OnceAtRest g [] = Unit {0}
OnceAtRest g (Inited a d v ∷ older) = OnceAtRest g older
OnceAtRest g (Sent s ∷ older) = OnceAtRest g older
OnceAtRest g (Received a d e l ∷ older) = OnceAtRest g older
OnceAtRest g (Missed a d e ∷ older) = OnceAtRest g older
OnceAtRest g (Stepped a d v ∷ older) = OnceAtRest g older
OnceAtRest g (Finished a d v ∷ older) = OnceAtRest g older
OnceAtRest g (Announced value ∷ older) = EachOnceArrived g (vertex_log older) × OnceAtRest g older

-- if the edges of pins are those of a graph, each edge is an edge of one pin alone, once
abbrev pub GraphEdgesAreApart : Type 0
GraphEdgesAreApart = (g : Layout) (rows : List EdgeRow) → ((u pin : ℕ) → g.edges u pin ≡ edges_of rows u pin) → EdgesApart g
