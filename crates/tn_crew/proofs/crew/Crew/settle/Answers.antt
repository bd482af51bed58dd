use Rattle.tn_crew.proofs.crew.Crew.settle.Goals as goal

pub returns-clause-whole : goal.returns-clause-whole
returns-clause-whole c = rw (← c.self.view_is) (rw c.shape-shape.ensures at c.settle.ensures.whole)

pub returns-clause-over : goal.returns-clause-over
returns-clause-over c = rw (← c.self.view_is) (rw c.shape-shape.ensures at c.settle.ensures.over)
