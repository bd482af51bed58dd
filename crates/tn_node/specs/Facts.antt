-- What a part tells the detector of itself.
use Rattle.std.specs.Prelude.{◌&&◌, Bool, true, false, not, Option, Some, None, if◌then◌else◌}
use Rattle.std.specs.Ordering.{int_eq}
use Rattle.tn_node.specs.declared.facts.PartFacts.{PartFacts}
use Rattle.tn_node.specs.declared.node.Node.{Node}

-- what a node tells, given whether its part is still, has threads that have not ended, which all vote for the end, and is a host
-- at its script's end. The detector's answer is not the part's to tell
abbrev pub facts_of : Node → Bool → Bool → Bool → Bool → PartFacts
facts_of n still live votes at_end = record {
  still = still;
  black = n.black;
  counter = n.counter;
  live = live;
  votes = votes;
  at_end = at_end;
  value = 0;
}

abbrev pub same_mark : Bool → Bool → Bool
same_mark true b = b
same_mark false b = not b

-- two facts are the same, whatever the detector's answer is
abbrev pub agree : PartFacts → PartFacts → Bool
agree f g =
    same_mark f.still g.still
    && same_mark f.black g.black
    && int_eq f.counter g.counter
    && same_mark f.live g.live
    && same_mark f.votes g.votes
    && same_mark f.at_end g.at_end

-- facts with another answer of the detector
abbrev pub with_value : PartFacts → PartFacts → PartFacts
with_value f g = record f { value = g.value }

-- what becomes of a part that tells its own facts, if those that cross agree with them
abbrev pub if_own : {S : Type 0} → PartFacts → PartFacts → S → Option S
if_own own f new = if agree f own then Some new else None

-- the same of a part that is still
abbrev pub if_still : {S : Type 0} → PartFacts → PartFacts → S → Option S
if_still own f new = if agree f own && own.still then Some new else None
