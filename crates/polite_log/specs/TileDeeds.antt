-- The deeds of a history, read at the tiles: each turn is read as its single steps on its tile.
use Rattle.std.specs.Prelude.{ℕ, zero, suc, ◌≡◌, List, [], ◌∷◌, Option, Some, None, option_map, slice_get, unwrap_or}
use Rattle.tn_base.specs.declared.event.Event.{Event}
use Rattle.tn_base.specs.declared.event.Event.TheVariants as event
use Rattle.tn_base.specs.declared.ids.ThreadId.{ThreadId}
use Rattle.tn_base.specs.Address.{place_in_tile}
use Rattle.tn_rows.specs.Events.{happened}
use Rattle.tn_rows.specs.PartView.{PartView, TileV, RouterV, LinkV, HostV, DetectorV, AbsentV}
use Rattle.tn_rows.specs.Places.{part_of}
use Rattle.tn_rows.specs.Runs.{Run}
use Rattle.tn_rows.specs.WorldView.{WorldView}
use Rattle.tn_tile.specs.Step.{due_by, sight_at, step_at_place, thread_at}
use Rattle.tn_tile.specs.TileView.{TileView}
use Rattle.tn_letters.specs.Law.{IsStart}
use Rattle.tn_letters.specs.Machine.{answer}
use Rattle.tn_letters.specs.Standing.{bag_at}
use Rattle.tn_letters.specs.Steps.{after_step}
use Rattle.tn_letters.specs.Tiles.{held_in}
use Rattle.polite_edges.specs.declared.deed.Deed.{Deed}
use Rattle.polite_edges.specs.declared.deed.Deed.TheVariants.{Announced}
use Rattle.polite_edges.specs.Deeds.{added}
use Rattle.polite_edges.specs.Histories.{history_deeds}
use Rattle.polite_edges.specs.Runs.{dispatch_deed}

-- the deed of the next step of the thread at a place, which has this address
abbrev pub step_deed : ℕ → ℕ → TileView → Option Deed
step_deed a k v =
    let t = thread_at v.now k in
    dispatch_deed (due_by t.state v.plan.code t) a t (held_in v k t.hand) (sight_at v.now k) (step_at_place v.plan.code k v.now).op

-- the deeds of n steps of the thread at a place, over the deeds before them
unfoldable pub turn_deeds : List Deed → ℕ → ℕ → ℕ → TileView → List Deed
turn_deeds deeds a k zero v = deeds
turn_deeds deeds a k (suc n) v = turn_deeds (added (step_deed a k v) deeds) a k n (after_step k v)

abbrev pub part_deeds : List Deed → ThreadId → ℕ → Option PartView → List Deed
part_deeds deeds t n None = deeds
part_deeds deeds t n (Some (TileV v)) = turn_deeds deeds t.0 (place_in_tile v.plan.shape t.0) n v
part_deeds deeds t n (Some (RouterV v)) = deeds
part_deeds deeds t n (Some (LinkV v)) = deeds
part_deeds deeds t n (Some (HostV s)) = deeds
part_deeds deeds t n (Some (DetectorV v)) = deeds
part_deeds deeds t n (Some AbsentV) = deeds

abbrev pub deeds_on : List Deed → ThreadId → ℕ → WorldView → Option ℕ → List Deed
deeds_on deeds t n w None = deeds
deeds_on deeds t n w (Some p) = part_deeds deeds t n (slice_get w.parts p)

-- the deeds of an event over those before it: those of a turn, or an announcement
abbrev pub event_deeds : List Deed → Event → WorldView → List Deed
event_deeds deeds (event.Turn t n) w = deeds_on deeds t n w (part_of w.shape t)
event_deeds deeds event.Announce w = Announced (answer w.shape (bag_at w)) ∷ deeds
event_deeds deeds _ w = deeds

-- the deeds of events over those before them. Behind an event that is not enabled there are none
abbrev pub deeds_over : List Deed → WorldView → List Event → List Deed
deeds_over deeds w [] = deeds
deeds_over deeds w (e ∷ es) = unwrap_or (option_map (λ mid. deeds_over (event_deeds deeds e w) mid es) (happened e w)) (event_deeds deeds e w)

-- the deeds of each run of a machine are those that are read at its tiles
abbrev pub DeedsAreOfTiles : Type 0
DeedsAreOfTiles = (start : WorldView) (history : List Event) (end : WorldView) → IsStart start → Run start history end → deeds_over [] start history ≡ history_deeds start history
