use Rattle.tn_keys.proofs.Beats.{pushed, push_room, push_whole}
use Rattle.tn_keys.proofs.beat.Beat.push.Goals as goal

pub bounds-self-inside-self-inside : goal.bounds-self-inside-self-inside
bounds-self-inside-self-inside c = push_room c.self.inside.records c.self.inside.count _ _ c.self.view_is c.self.invariant.0 c.self.invariant.1 c.requires

pub invariant_of-self : goal.invariant_of-self
invariant_of-self c = push_whole c.self.inside.records c.self.inside.count _ _ c.self.view_is c.self.invariant.0 c.self.invariant.1 c.requires

pub returns : goal.returns
returns c = pushed c.self.inside.records c.self.inside.count _ _ c.self.view_is c.self.invariant.0 c.self.invariant.1 c.requires
