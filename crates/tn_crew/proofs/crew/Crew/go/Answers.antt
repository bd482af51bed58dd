use Rattle.tn_crew.proofs.Standing.{crew_count, crew_stays, start_stays}
use Rattle.tn_crew.proofs.crew.Crew.go.Goals as goal
use Rattle.tn_stamped.specs.Placed.{began, entries_of}
use Rattle.tn_turns.specs.Faithful.{IsFaithful}

pub run_team-parts-requires-clause-count : goal.run_team-parts-requires-clause-count
run_team-parts-requires-clause-count g c = λ κs within. rw c.replace-parts.ensures.value (crew_count (record { shape = c.self.inside.sites; parts = c.self.inside.parts.items }) c.self.invariant)

pub run_team-parts-requires-clause-paired : goal.run_team-parts-requires-clause-paired
run_team-parts-requires-clause-paired g c = λ κs within. rw c.replace-parts.ensures.value c.self.invariant.paired

pub invariant_of-self : goal.invariant_of-self
invariant_of-self g c = crew_stays c.self.inside.sites c.self.inside.parts.items c.run_team-parts.result.parts.items c.self.invariant (rw c.replace-parts.ensures.value at c.run_team-parts.ensures)

pub returns-clause-start : goal.returns-clause-start
returns-clause-start g c =
    let kept : IsFaithful began entries_of c.self.inside.parts.items c.run_team-parts.result.parts.items = rw c.replace-parts.ensures.value at c.run_team-parts.ensures in
    rw (← c.self.view_is) (start_stays c.self.inside.sites c.self.inside.parts.items c.run_team-parts.result.parts.items kept.starts)
