-- What a detector notes of the parts that it confirms, and what it answers.
use Rattle.std.specs.Prelude.{ℕ, ◌&&◌, ◌||◌, true, false, not, Option, Some, None, if◌then◌else◌}
use Rattle.tn_detect.specs.declared.answer.Answer.{Answer}
use Rattle.tn_detect.specs.declared.answer.Answer.TheVariants.{AllDead, Live}
use Rattle.tn_detect.specs.declared.facts.Noted.{Noted}
use Rattle.tn_detect.specs.declared.facts.PartView.{PartView}

-- nothing is noted
abbrev pub nothing_noted : Noted
nothing_noted = record { live = false; votes = true; at_end = false }

-- what is noted once a part more is confirmed
abbrev pub note : PartView → Noted → Noted
note v n = record { live = n.live || v.live; votes = n.votes && v.votes; at_end = n.at_end || v.at_end }

-- the answer: no thread lives and the host's script is at its end, or whether all threads that live vote for the end
abbrev pub answer_of : Noted → Answer
answer_of n = if not n.live && n.at_end then AllDead else Live n.votes

-- the number by which a thread learns the answer
abbrev pub value_of : Option Answer → ℕ
value_of None = 0
value_of (Some (Live true)) = 2
value_of (Some (Live false)) = 1
value_of (Some AllDead) = 2
