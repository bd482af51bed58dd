use Rattle.std.proofs.Common.{◌≡◌, ◌<◌, ◌++◌, ◌∙◌, arith, length, set, sym}
use Rattle.tn_tile.specs.Turns.{moved}
use Rattle.tn_part.specs.Visits.{visit_event}
use Rattle.tn_world.proofs.Pairs.{both_placed, parts_long, written}
use Rattle.tn_world.proofs.detector.visit_at.Goals as goal

pub returns : goal.returns
returns g c =
    let xs = c.args.parts.now.items in
    let front = c.split_at_mut-front.result.0.now in
    let back = c.split_at_mut-front.result.1.now in
    let s = c.split_at_mut-front.ensures in
    let now = set front c.args.p.0 c.visit.new.self ++ set back 0 c.visit.new.detector in
    let joined : xs ≡ front ++ back = sym c.deref_mut.ensures.value ∙ s.value in
    let some : 0 < length back = omega (arith, s.back_len, c.deref_mut.ensures.len, c.requires.high, c.args.parts.now.ok) in
    let placed = both_placed front back xs c.args.p.0 c.args.d.0 c.index-front-p.result c.index-back-0.result joined s.front_len c.requires.low some (visit_event c.args.visit c.args.p) (moved c.visit.result) c.visit.new.self c.visit.new.detector c.visit.ensures in
    let long = parts_long front back xs c.args.p.0 c.args.d.0 c.index-front-p.result c.index-back-0.result joined s.front_len c.requires.low some c.visit.new.self c.visit.new.detector in
    rw (written now xs c.args.parts.now.len long (omega (arith, c.args.parts.now.ok))) placed
