use Rattle.std.proofs.Common.{◌≡◌, ◌≤◌, ◌*◌, ◌++◌, drop, length}
use Rattle.polite_start.specs.Start.{devices_from, image_of}
use Rattle.polite_start.proofs.thread.states_of.Given as goal

-- what is there and what the rest will add are the whole; each state has at most 64 bytes
abbrev pub invariant-loop-vertex : goal.invariant-loop-vertex
invariant-loop-vertex l =
    (l.image.items ++ image_of l.graph (drop l.vertex-index l.vertices) ≡ image_of l.graph l.vertices)
    × (l.devices.items ++ devices_from l.graph l.keys l.entries (length l.image.items) (drop l.vertex-index l.vertices) ≡ devices_from l.graph l.keys l.entries 0 l.vertices)
    × (length l.image.items ≤ 64 * l.vertex-index)
