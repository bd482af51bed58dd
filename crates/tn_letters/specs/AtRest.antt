-- What an idle that ends with 1 or 2 tells: the whole machine was at rest when the detector announced it.
use Rattle.std.specs.Prelude.{◌↔◌, ℕ, ◌≡◌, ◌++◌, true, IsTrue, List, [], ◌∷◌, Some, if◌then◌else◌}
use Rattle.std.specs.List.{AllByRecursion, list_all}
use Rattle.tn_base.specs.declared.event.Event.{Event}
use Rattle.tn_base.specs.declared.event.Event.TheVariants as event
use Rattle.tn_base.specs.declared.event.Outcome.TheVariants as outcome
use Rattle.tn_base.specs.declared.ids.ThreadId.{ThreadId}
use Rattle.tn_base.specs.Address.{has_thread}
use Rattle.tn_detect.specs.Notes.{value_of}
use Rattle.tn_host.specs.Script.{first_item, is_no_send}
use Rattle.tn_rows.specs.Ends.{final_of}
use Rattle.tn_rows.specs.Events.{happened}
use Rattle.tn_rows.specs.Runs.{Walk}
use Rattle.tn_rows.specs.WorldView.{WorldView}
use Rattle.tn_thread.specs.declared.state.ThreadState.TheVariants as state
use Rattle.tn_thread.specs.declared.thread.Thread.{Thread}
use Rattle.tn_thread.specs.Step.{answered, is_idle}
use Rattle.tn_tile.specs.Receivers.{is_dead}
use Rattle.tn_tile.specs.Still.{does_nothing, votes_for}
use Rattle.tn_letters.specs.Law.{IsStart}
use Rattle.tn_letters.specs.Machine.{addresses}
use Rattle.tn_letters.specs.NextStep.{IsNoTurnOf}
use Rattle.tn_letters.specs.Settled.{detector_on}
use Rattle.tn_letters.specs.Standing.{standing}
use Rattle.tn_letters.specs.Tiles.{host_on, thread_of}

-- a machine at rest: every thread is idle or has ended, no letter is in any place, and the host does not send next
pub record IsResting (w : WorldView) : Type 0 where
  pub threads : (a : ℕ) → IsTrue (has_thread w.shape a) → does_nothing (thread_of w a).state ≡ true
  pub letters : standing w ≡ []
  pub host : is_no_send (first_item (host_on w).script) ≡ true

-- what the votes of a machine's threads give: 2 if every thread that has not ended votes for the end, else 1
abbrev pub voted : WorldView → ℕ
voted w = if list_all (λ a. votes_for (thread_of w a).state) (addresses w.shape) then 2 else 1

-- an announcement in a history: the events before and behind it, the machine before it, and the machine that it leaves
pub record Announcement (start : WorldView) (history : List Event) : Type 0 where
  pub before : List Event
  pub later : List Event
  pub rest : WorldView
  pub said : WorldView
  pub split : history ≡ before ++ event.Announce ∷ later
  pub walk : Walk start before rest
  pub step : happened event.Announce rest ≡ Some said

-- the value that an announcement tells
abbrev pub told_value : WorldView → ℕ
told_value said = value_of (detector_on said).answer

-- a machine is over: every thread has ended, and the host's script is at its end
pub record IsOver (w : WorldView) : Type 0 where
  pub threads : (a : ℕ) → IsTrue (has_thread w.shape a) → is_dead (thread_of w a).state ≡ true
  pub script : (host_on w).script ≡ []

-- an announcement comes at rest, tells what the votes give, and is the last one if and only if the machine is over
pub record ComesAtRest (rest said : WorldView) : Type 0 where
  pub resting : IsResting rest
  pub value : told_value said ≡ voted rest
  pub over : (final_of event.Announce said ≡ Some outcome.Done) ↔ IsOver rest

-- each announcement of a history comes at rest
abbrev pub AnnouncesAtRest : WorldView → List Event → Type 0
AnnouncesAtRest start history = (n : Announcement start history) → ComesAtRest n.rest n.said

-- a thread that was idle at an announcement has the announced value when it makes its next turn, and did nothing before
abbrev pub TellsIdleThreads : WorldView → List Event → Type 0
TellsIdleThreads start history = (n : Announcement start history) (middle more : List Event) (w new : WorldView) (t : ThreadId) (steps : ℕ) → n.later ≡ middle ++ event.Turn t steps ∷ more → Walk n.said middle w → happened (event.Turn t steps) w ≡ Some new → AllByRecursion (IsNoTurnOf t.0) middle →
    IsTrue (has_thread n.rest.shape t.0) → is_idle (thread_of n.rest t.0).state ≡ true → thread_of w t.0 ≡ answered (told_value n.said) (thread_of n.rest t.0)

-- a thread has its answer from an announcement: it was idle there, and all that changed of it since is that it has the announced value
pub record IsAnsweredAt (start : WorldView) (history : List Event) (a value : ℕ) (t : Thread) (n : Announcement start history) : Type 0 where
  pub idle : is_idle (thread_of n.rest a).state ≡ true
  pub announced : value ≡ told_value n.said
  pub thread : t ≡ answered value (thread_of n.rest a)

-- a thread that has an answer has it from an announcement among the events so far
abbrev pub AnswersAreAnnounced : WorldView → List Event → Type 0
AnswersAreAnnounced start history = (before later : List Event) (w : WorldView) (a value : ℕ) → history ≡ before ++ later → Walk start before w → IsTrue (has_thread w.shape a) → (thread_of w a).state ≡ state.Answered value →
    (n : Announcement start before) × IsAnsweredAt start before a value (thread_of w a) n

-- what idle means in a history: each announcement comes at rest, the idle threads read the announced value next, and no thread has
-- another answer
pub record AnswersAtRest (start : WorldView) (history : List Event) : Type 0 where
  pub rests : AnnouncesAtRest start history
  pub told : TellsIdleThreads start history
  pub because : AnswersAreAnnounced start history

abbrev pub EveryHistoryAnswersAtRest : Type 0
EveryHistoryAnswersAtRest = (start : WorldView) (history : List Event) → IsStart start → AnswersAtRest start history
