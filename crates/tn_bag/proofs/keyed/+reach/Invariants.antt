use Rattle.std.proofs.Common.{◌≡◌, ◌++◌, ◌+◌, ◌*◌, map, drop}
use Rattle.tn_keys.specs.Reach.{reach_by, walk}
use Rattle.tn_letters.specs.Letters.{letter_for}
use Rattle.tn_letters.specs.Tiles.{tables_of}
use Rattle.tn_bag.proofs.keyed.+reach.Given as goal

abbrev pub decreases-push_key : goal.decreases-push_key
decreases-push_key g l = 2 * l.keys

abbrev pub decreases-push_records : goal.decreases-push_records
decreases-push_records g l = 2 * l.keys + 1

abbrev pub invariant-push_records-loop-record : goal.invariant-push_records-loop-record
invariant-push_records-loop-record g l =
    l.all.items ++ map (letter_for l.packet.origin l.packet.number) (walk (reach_by l.keys l.world.shape (tables_of l.world) l.packet.bytes) l.shape l.board l.packet.bytes (drop l.record-index l.records))
    ≡ l.initial.all.items ++ map (letter_for l.packet.origin l.packet.number) (walk (reach_by l.keys l.world.shape (tables_of l.world) l.packet.bytes) l.shape l.board l.packet.bytes l.records)
