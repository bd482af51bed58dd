-- The deeds of the histories of a machine, and the law on them.
use Rattle.std.specs.Prelude.{List, [], ◌∷◌}
use Rattle.tn_base.specs.declared.event.Event.{Event}
use Rattle.tn_rows.specs.Runs.{Run}
use Rattle.tn_rows.specs.WorldView.{WorldView}
use Rattle.tn_letters.specs.declared.steps.BagStep.{BagStep}
use Rattle.tn_letters.specs.Law.{IsStart}
pub use Rattle.tn_letters.specs.Moved.{moved}
use Rattle.tn_letters.specs.Standing.{bag_at}
use Rattle.tn_letters.specs.State.{BagState, Program}
use Rattle.tn_letters.specs.Steps.{bag_of}
use Rattle.tn_letters.specs.Tiles.{program_of}
use Rattle.polite_edges.specs.Deeds.{Deed, Lawful, added}
use Rattle.polite_edges.specs.Layout.{AllRouted, IsPlaced, Layout}
use Rattle.polite_edges.specs.Runs.{IsGraphStart, deed_at}
use Rattle.polite_edges.specs.VertexLog.{EdgesApart, EvenAtRest, LogItem, OnceAtRest, vertex_log}

-- the deeds of steps from a state, over the deeds before them
abbrev pub replayed : List Deed → Program → BagState → List BagStep → List Deed
replayed deeds m s [] = deeds
replayed deeds m s (step ∷ steps) = replayed (added (deed_at m step s) deeds) m (moved m step s) steps

-- the deeds of a history of a machine, newest first: each turn is read as its single steps
abbrev pub history_deeds : WorldView → List Event → List Deed
history_deeds start history = replayed [] (program_of start) (bag_at start) (bag_of start history)

-- the vertex log of a history, newest first
abbrev pub history_log : WorldView → List Event → List LogItem
history_log start history = vertex_log (history_deeds start history)

-- a run of the machine of a graph, from its start
pub record GraphHistory (g : Layout) (start end : WorldView) (history : List Event) : Type 0 where
  pub placed : IsPlaced g
  pub routed : AllRouted g
  pub start_is : IsStart start
  pub begins : IsGraphStart g (program_of start) (bag_at start)
  pub run : Run start history end

abbrev pub EveryHistoryIsLawful : Type 0
EveryHistoryIsLawful = (g : Layout) (start end : WorldView) (history : List Event) → GraphHistory g start end history → Lawful g (history_deeds start history)

abbrev pub EveryHistoryIsEven : Type 0
EveryHistoryIsEven = (g : Layout) (start end : WorldView) (history : List Event) → GraphHistory g start end history → EvenAtRest g (history_deeds start history)

abbrev pub EveryHistoryHasEachSendOnce : Type 0
EveryHistoryHasEachSendOnce = (g : Layout) (start end : WorldView) (history : List Event) → GraphHistory g start end history → EdgesApart g → OnceAtRest g (history_deeds start history)
