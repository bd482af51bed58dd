-- What each deed adds to the vertex log.
use Rattle.std.specs.Prelude.{ℕ, ◌==◌, ◌&&◌, Bool, false, List, [], ◌∷◌, Option, Some, None, if◌then◌else◌}
use Rattle.polite_edges.specs.declared.deed.Deed.{Deed}
use Rattle.polite_edges.specs.declared.deed.Deed.TheVariants.{Announced, Finished, Inited, Missed, Received, Sent, Stepped}
use Rattle.polite_edges.specs.declared.deed.PinSend.{PinSend}
use Rattle.polite_edges.specs.declared.deed.LogItem.{LogItem}
use Rattle.polite_edges.specs.declared.deed.LogItem.TheVariants.{EdgeReceived, VertexFinished, VertexSent, VertexStepped}
use Rattle.polite_edges.specs.VertexLog.{number_at, sends_of}

-- the item of a deed behind older ones, if the deed is an item
abbrev pub items_of : Deed → List Deed → List LogItem
items_of (Inited a d v) older = []
items_of (Sent s) older = VertexSent s.vertex s.pin (sends_of s.vertex older) s.bytes ∷ []
items_of (Received a d e l) older = EdgeReceived e (number_at l.origin l.number older) l.bytes ∷ []
items_of (Missed a d e) older = []
items_of (Stepped a d v) older = VertexStepped v ∷ []
items_of (Finished a d v) older = VertexFinished v ∷ []
items_of (Announced value) older = []

-- a deed is a send of vertex u
abbrev pub is_send_of : ℕ → Deed → Bool
is_send_of u (Inited a d v) = false
is_send_of u (Sent s) = s.vertex == u
is_send_of u (Received a d e l) = false
is_send_of u (Missed a d e) = false
is_send_of u (Stepped a d v) = false
is_send_of u (Finished a d v) = false
is_send_of u (Announced value) = false

-- the vertex of a send, if it is the send of the packet with this origin and number
abbrev pub sender_by : ℕ → ℕ → PinSend → Option ℕ
sender_by origin n s = if s.thread == origin && s.number == n then Some s.vertex else None

-- the vertex of the send of the packet with this origin and number, if the deed is this send
abbrev pub sender_of : ℕ → ℕ → Deed → Option ℕ
sender_of origin n (Inited a d v) = None
sender_of origin n (Sent s) = sender_by origin n s
sender_of origin n (Received a d e l) = None
sender_of origin n (Missed a d e) = None
sender_of origin n (Stepped a d v) = None
sender_of origin n (Finished a d v) = None
sender_of origin n (Announced value) = None
