-- What links carry along each walk, and how many letters tiles dropped.
use Rattle.std.specs.Prelude.{ℕ, ◌≤◌, ◌*◌, IsTrue, List, length, slice_index_or}
use Rattle.std.specs.List.{AllByRecursion}
use Rattle.tn_base.specs.declared.event.Event.{Event}
use Rattle.tn_base.specs.declared.shape.ShapeNumbers.{ShapeNumbers}
use Rattle.tn_base.specs.Message.{has_packet}
use Rattle.tn_letters.specs.Law.{IsStart}
use Rattle.tn_rows.specs.PartView.{PartView, TileV, RouterV, LinkV, HostV, DetectorV, AbsentV}
use Rattle.tn_rows.specs.Runs.{Walk}
use Rattle.tn_rows.specs.WorldView.{WorldView}

-- after so many events: each packet on a link is one of the machine, and at most 512 letters an event were dropped on a tile
abbrev pub Carries : ShapeNumbers → ℕ → PartView → Type 0
Carries n events (TileV v) = v.now.dropped ≤ 512 * events
Carries n events (RouterV v) = Unit {0}
Carries n events (LinkV v) = AllByRecursion (λ k. IsTrue (has_packet n k)) v.packets
Carries n events (HostV s) = Unit {0}
Carries n events (DetectorV v) = Unit {0}
Carries n events AbsentV = Unit {0}

-- along each walk from the start of a machine this holds of each part
abbrev pub WalksCarry : Type 0
WalksCarry = (start end : WorldView) (history : List Event) (p : ℕ) → IsStart start → Walk start history end → Carries end.shape (length history) (slice_index_or end.parts p AbsentV)
