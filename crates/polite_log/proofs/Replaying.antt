-- A history that is made again, event by event.
use Rattle.std.proofs.Common.{ℕ, ◌+◌, ◌≡◌, ◌<◌, ◌≤◌, ◌∙◌, List, [], ◌∷◌, length, drop, get_or, refl, sym, ap, subst, Option, Some, option_map, unwrap_or}
use Rattle.std.proofs.lemmas.List.{drop_all, drop_more}
use Rattle.std.specs.Prelude.{cond}
use Rattle.std.specs.List.{list_all}
use Rattle.tn_base.specs.declared.event.Event.{Event}
use Rattle.tn_base.specs.declared.event.Event.TheVariants as event
use Rattle.tn_detect.specs.declared.state.DetectorState.{DetectorState}
use Rattle.tn_node.specs.Deed as deed
use Rattle.tn_quiet.specs.Law.{IsQuietWorld}
use Rattle.tn_quiet.proofs.Runs.{event_quiet}
use Rattle.tn_rest.proofs.RowsTell.{announce_tells}
use Rattle.tn_rows.specs.Events.{happened}
use Rattle.tn_rows.specs.Runs.{Run}
use Rattle.tn_rows.specs.WorldView.{WorldView}
use Rattle.tn_tile.specs.Still.{votes_for}
use Rattle.tn_letters.specs.Law.{IsStart}
use Rattle.tn_letters.specs.Machine.{addresses}
use Rattle.tn_letters.specs.Settled.{settled}
use Rattle.tn_letters.specs.Tiles.{thread_of}
use Rattle.tn_letters.proofs.Announced.{told_votes}
use Rattle.tn_letters.proofs.Calm.{quiet_start}
use Rattle.tn_letters.proofs.Detected.{Alone, alone}
use Rattle.tn_letters.proofs.GoodParts.{event_good}
use Rattle.tn_letters.proofs.Lift.{Good}
use Rattle.tn_letters.proofs.Silent.{NoRelease, detector_is, settled_now}
use Rattle.tn_letters.proofs.Starts.{good_start}
use Rattle.polite_edges.specs.declared.deed.Deed.{Deed}
use Rattle.polite_edges.specs.Histories.{history_deeds}
use Rattle.polite_log.specs.Reading.{TellsAnswer}
use Rattle.polite_log.specs.TileDeeds.{DeedsAreOfTiles, deeds_over, event_deeds}

-- before an announcement no release is under way
settled_then : (w new : WorldView) → Good w → happened event.Announce w ≡ Some new → settled w ≡ w
settled_then w new g h =
    let a : Alone w new deed.Announce = alone event.Announce deed.Announce w new g h refl in
    let u = announce_tells a.detector.visited a.detector.now a.behind a.does in
    settled_now w (subst NoRelease (sym (ap (λ (d : DetectorState). d.phase) (detector_is w a.detector a.detector_on) ∙ u.phase)) tt)

tells : (w : WorldView) → Good w → IsQuietWorld w → TellsAnswer w
tells w g q = λ new h.
    told_votes w new g q h
    ∙ sym (ap (λ (x : WorldView). cond (list_all (λ a. votes_for (thread_of x a).state) (addresses w.shape)) 2 1) (settled_then w new g h))

-- the events so far were made, with these deeds, and the others are left
pub record SoFar (start now : WorldView) (history others : List Event) (ds : List Deed) : Type 0 where
  pub run : (end : WorldView) × Run now others end
  pub good : Good now
  pub quiet : IsQuietWorld now
  pub deeds : deeds_over ds now others ≡ deeds_over [] start history

pub so_far_none : (start now : WorldView) (history : List Event) → IsStart start → ((end : WorldView) × Run start history end) → now ≡ start → SoFar start now history (drop 0 history) []
so_far_none start now history s run same =
    let g = good_start start s in
    subst (λ (w : WorldView). SoFar start w history (drop 0 history) []) (sym same) (record { run = run; good = g; quiet = quiet_start start s g; deeds = refl })

split : (start now : WorldView) (history : List Event) (i : ℕ) (d : Event) (ds : List Deed) → SoFar start now history (drop i history) ds → i < length history → SoFar start now history (get_or history i d ∷ drop (i + 1) history) ds
split start now history i d ds s less = subst (λ es. SoFar start now history es ds) (drop_more history i d less) s

pub so_far_tells : (start now : WorldView) (history others : List Event) (ds : List Deed) → SoFar start now history others ds → TellsAnswer now
so_far_tells start now history others ds s = tells now s.good s.quiet

over_next : (ds : List Deed) (e : Event) (es : List Event) (w new : WorldView) → happened e w ≡ Some new → deeds_over ds w (e ∷ es) ≡ deeds_over (event_deeds ds e w) new es
over_next ds e es w new h = ap (λ (o : Option WorldView). unwrap_or (option_map (λ mid. deeds_over (event_deeds ds e w) mid es) o) (event_deeds ds e w)) h

next : (start now new : WorldView) (history : List Event) (e : Event) (es : List Event) (ds more : List Deed) → SoFar start now history (e ∷ es) ds → happened e now ≡ Some new → more ≡ event_deeds ds e now → SoFar start new history es more
next start now new history e es ds more s h is =
    let mid : WorldView = s.run.1.0 in
    let same : mid ≡ new = ap (λ (o : Option WorldView). unwrap_or o mid) (sym s.run.1.1 ∙ h) in
    record {
      run = (s.run.0, subst (λ (w : WorldView). Run w es s.run.0) same s.run.1.3);
      good = event_good e now new s.good s.quiet h;
      quiet = event_quiet e now new s.good.limits s.quiet h;
      deeds = ap (λ x. deeds_over x new es) is ∙ (sym (over_next ds e es now new h) ∙ s.deeds);
    }

pub so_far_next : (start now new : WorldView) (history : List Event) (i : ℕ) (d : Event) (ds more : List Deed) → SoFar start now history (drop i history) ds → i < length history → happened (get_or history i d) now ≡ Some new → more ≡ event_deeds ds (get_or history i d) now → SoFar start new history (drop (i + 1) history) more
so_far_next start now new history i d ds more s less h is = next start now new history (get_or history i d) (drop (i + 1) history) ds more (split start now history i d ds s less) h is

pub so_far_all : (start now : WorldView) (history : List Event) (i : ℕ) (ds : List Deed) → SoFar start now history (drop i history) ds → length history ≤ i → IsStart start → ((end : WorldView) × Run start history end) → DeedsAreOfTiles → ds ≡ history_deeds start history
so_far_all start now history i ds s all start_is run law =
    sym (ap (deeds_over ds now) (drop_all i history all)) ∙ (s.deeds ∙ law start history run.0 start_is run.1)
