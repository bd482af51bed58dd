-- Each event keeps the order, by what the event does.
use Rattle.std.specs.Prelude.{ℕ, ◌≡◌, Bool, true, List, Some}
use Rattle.tn_base.specs.declared.event.Event.{Event}
use Rattle.tn_base.specs.declared.message.Dest.{Dest}
use Rattle.tn_rows.specs.Events.{happened}
use Rattle.tn_rows.specs.Runs.{Walk}
use Rattle.tn_rows.specs.WorldView.{WorldView}
use Rattle.tn_letters.specs.Law.{IsStart}
use Rattle.tn_order.specs.Acting.{ActsFit}
use Rattle.tn_order.specs.Acts.{Act}
use Rattle.tn_order.specs.History.{behind, event_acts, gone_of, receiver_of, sent_of}
use Rattle.tn_order.specs.Kept.{Kept}
use Rattle.tn_order.specs.Moving.{IsReceiver}
use Rattle.tn_order.specs.Spots.{standing_at, way_of}

-- whatever numbers of a sender are meant, if each send that is meant is for the receiver and has a number above all before: each event
-- keeps what is meant in order, by what the event sends, hands and drops
abbrev pub EachEventKeeps : Type 0
EachEventKeeps = (start w new : WorldView) (history : List Event) (e : Event) (s : ℕ) (goal : Dest) (mine : ℕ → ℕ → Bool) (past : List Act) → IsStart start → Walk start history w → happened e w ≡ Some new → IsReceiver w.shape goal →
    ((t k : ℕ) → mine t k ≡ true → t ≡ s) → ActsFit w.shape goal mine past (event_acts e w) → Kept w.shape (way_of w.shape s goal) goal mine (standing_at goal w) (sent_of mine past) (gone_of mine (receiver_of goal) past) →
    Kept w.shape (way_of w.shape s goal) goal mine (standing_at goal new) (sent_of mine (behind (event_acts e w) past)) (gone_of mine (receiver_of goal) (behind (event_acts e w) past))
