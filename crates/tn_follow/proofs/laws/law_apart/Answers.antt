use Rattle.tn_follow.proofs.Apart.{new_at_its_parts, new_by_part}
use Rattle.tn_follow.proofs.Places.{stand_on_their_part}
use Rattle.tn_follow.proofs.laws.law_apart.Goals as goal

pub returns-clause-places : goal.returns-clause-places
returns-clause-places c = stand_on_their_part

pub returns-clause-parts : goal.returns-clause-parts
returns-clause-parts c = new_by_part

pub returns-clause-event : goal.returns-clause-event
returns-clause-event c = new_at_its_parts
