use Rattle.std.proofs.Common.{◌≡◌, ◌<◌, ◌++◌, ◌∙◌, arith, length, set, sym}
use Rattle.tn_base.specs.declared.event.Event.TheVariants as event
use Rattle.tn_tile.specs.Turns.{moved}
use Rattle.tn_world.proofs.Pairs.{both_placed, parts_long, written}
use Rattle.tn_world.proofs.host.put_at.Goals as goal

pub returns : goal.returns
returns g c =
    let xs = c.args.parts.now.items in
    let front = c.split_at_mut-front.result.0.now in
    let back = c.split_at_mut-front.result.1.now in
    let s = c.split_at_mut-front.ensures in
    let now = set front 0 c.put.new.self ++ set back 0 c.put.new.link in
    let joined : xs ≡ front ++ back = sym c.deref_mut.ensures.value ∙ s.value in
    let some : 0 < length back = omega (arith, s.back_len, c.deref_mut.ensures.len, c.requires.high, c.args.parts.now.ok) in
    let placed = both_placed front back xs 0 c.args.l.0 c.index-front-0.result c.index-back-0.result joined s.front_len c.requires.low some event.HostPut (moved c.put.result) c.put.new.self c.put.new.link c.put.ensures in
    let long = parts_long front back xs 0 c.args.l.0 c.index-front-0.result c.index-back-0.result joined s.front_len c.requires.low some c.put.new.self c.put.new.link in
    rw (written now xs c.args.parts.now.len long (omega (arith, c.args.parts.now.ok))) placed
