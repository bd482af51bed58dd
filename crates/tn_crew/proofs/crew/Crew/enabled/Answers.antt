use Rattle.std.proofs.Common.{List, subst}
use Rattle.std.specs.List.{All}
use Rattle.tn_crew.proofs.Standing.{present_world}
use Rattle.tn_crew.proofs.crew.Crew.enabled.Goals as goal
use Rattle.tn_stamped.specs.Placed.{FitsHere, PlacedView}

pub first_enabled-requires : goal.first_enabled-requires
first_enabled-requires c =
    let all : All FitsHere c.self.inside.parts.items = subst (λ (ps : List PlacedView). All FitsHere ps) c.deref.ensures.value c.law_fits.ensures in
    rw (← c.self.view_is) (present_world (record { shape = c.self.inside.sites; parts = c.self.inside.parts.items }) c.self.invariant all)
