-- The figures of a run of a graph job that `gen` writes.
use Rattle.std.specs.Prelude.{ℕ, ◌+◌, ◌*◌, ◌%◌, ◌^◌, Bool, true, false, List, ◌++◌, codes, count_by, decimal, slice_index, sum_by}
use Rattle.tn_base.specs.declared.event.Event.{Event}
use Rattle.tn_base.specs.declared.event.Event.TheVariants as event
use Rattle.tn_base.specs.declared.message.Letter.{Letter}
use Rattle.tn_letters.specs.declared.steps.BagStep.{BagStep}
use Rattle.tn_letters.specs.declared.steps.BagStep.TheVariants as bag
use Rattle.tn_letters.specs.Steps.{bag_of}
use Rattle.tn_letters.specs.Tiles.{host_on}
use Rattle.tn_rows.specs.WorldView.{WorldView}
use Rattle.polite_edges.specs.declared.deed.Deed.{Deed}
use Rattle.polite_edges.specs.declared.deed.Deed.TheVariants.{Announced, Finished, Inited, Missed, Received, Sent, Stepped}
use Rattle.polite_edges.specs.Histories.{history_deeds}
use Rattle.polite_log.specs.declared.summary.Summary.{Summary}

-- the machine's rest is announced
abbrev pub is_announce : Event → Bool
is_announce event.Announce = true
is_announce _ = false

-- a thread is handed a letter
abbrev pub is_hand : BagStep → Bool
is_hand (bag.Private a seen) = false
is_hand (bag.Send a seen) = false
is_hand (bag.Hand a seen l) = true
is_hand (bag.Free a seen slot) = false
is_hand (bag.Idle a seen vote) = false
is_hand bag.Announce = false
is_hand (bag.HostSend l) = false
is_hand (bag.HostHand l) = false
is_hand (bag.Discard l) = false

-- a recv handler is called with a letter
abbrev pub is_receive : Deed → Bool
is_receive (Inited a d v) = false
is_receive (Sent s) = false
is_receive (Received a d e l) = true
is_receive (Missed a d e) = false
is_receive (Stepped a d v) = false
is_receive (Finished a d v) = false
is_receive (Announced value) = false

-- the second word of a message, its least byte first
abbrev pub second_word : List ℕ → ℕ
second_word bytes = slice_index bytes 4 + 256 * slice_index bytes 5 + 65536 * slice_index bytes 6 + 16777216 * slice_index bytes 7

-- the sum of the second words of letters, modulo 2 to the 32nd
abbrev pub word_sum : List Letter → ℕ
word_sum letters = sum_by (λ (l : Letter). second_word l.bytes) letters % 2 ^ 32

-- how many letters were handed to threads in a history
abbrev pub letters_in : WorldView → List Event → ℕ
letters_in start history = count_by is_hand (bag_of start history)

-- how often a recv handler was called with a letter in a history
abbrev pub received_in : WorldView → List Event → ℕ
received_in start history = count_by is_receive (history_deeds start history)

-- the summary of a run of a graph with so many vertices and edges
abbrev pub summary_of : ℕ → ℕ → WorldView → List Event → WorldView → Summary
summary_of vertices edges start history end = record {
  vertices = vertices;
  edges = edges;
  announcements = count_by is_announce history;
  received = received_in start history;
  letters = letters_in start history;
  sum = word_sum (host_on end).got;
}

-- `NAME NUMBER`
abbrev pub figure_text : List ℕ → ℕ → List ℕ
figure_text name number = name ++ codes " " ++ decimal number ++ codes "\n"

abbrev pub summary_text : Summary → List ℕ
summary_text s =
    figure_text (codes "vertices") s.vertices ++ figure_text (codes "edges") s.edges
    ++ figure_text (codes "announcements") s.announcements ++ figure_text (codes "received") s.received
    ++ figure_text (codes "letters") s.letters ++ figure_text (codes "sum") s.sum
