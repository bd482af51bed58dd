-- The machine of a graph, at its start: it flows, and each walk keeps it flowing.
use Rattle.std.specs.Prelude.{ℕ, IsTrue, List}
use Rattle.tn_base.specs.declared.event.Event.{Event}
use Rattle.tn_base.specs.declared.message.Dest.TheVariants as dest
use Rattle.tn_base.specs.declared.shape.ShapeNumbers.{ShapeNumbers}
use Rattle.tn_base.specs.Address.{has_thread, tile_of}
use Rattle.tn_keys.specs.Tables.{Table}
use Rattle.tn_letters.specs.Law.{IsStart}
use Rattle.tn_letters.specs.Standing.{bag_at}
use Rattle.tn_letters.specs.Tiles.{program_of, tables_of}
use Rattle.tn_rows.specs.Runs.{Walk}
use Rattle.tn_rows.specs.WorldView.{WorldView}
use Rattle.polite_edges.specs.Layout.{IsKeyOf, Layout}
use Rattle.polite_edges.specs.Runs.{IsGraphStart}
use Rattle.polite_flow.specs.Flowing.{IsFlowing, IsFlowStart}
use Rattle.polite_flow.specs.OnWay.{AreDirected}
use Rattle.polite_flow.specs.Sending.{AreSenders, MaySend}

-- each thread may send by the keys of the pins of its devices
abbrev pub KeysMaySend : ShapeNumbers → List Table → Layout → Type 0
KeysMaySend n tables g = (a key : ℕ) → IsTrue (has_thread n a) → IsKeyOf g a key → MaySend n tables (tile_of a) (dest.Key key)

-- the start of the machine of a graph, whose tables name the four directions alone, and whose threads may send by their keys
pub record GraphFlows (g : Layout) (start : WorldView) : Type 0 where
  pub begins : IsStart start
  pub graph : IsGraphStart g (program_of start) (bag_at start)
  pub directed : AreDirected start.shape (tables_of start)
  pub keys : KeysMaySend start.shape (tables_of start) g

-- such a start is a start of a machine that flows, and its threads are senders
abbrev pub GraphsStartFlowing : Type 0
GraphsStartFlowing = (g : Layout) (start : WorldView) → GraphFlows g start → IsFlowStart start × AreSenders (tables_of start) start

-- along each walk of the machine of a graph all packets are on their way
abbrev pub WalksOfGraphsFlow : Type 0
WalksOfGraphsFlow = (g : Layout) (start end : WorldView) (history : List Event) → GraphFlows g start → Walk start history end → IsFlowing (tables_of start) end
