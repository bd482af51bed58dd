use Rattle.std.proofs.Common.{◌*◌, ◌≤◌, arith}
use Rattle.std.proofs.lemmas.Nat.{mul-le}
use Rattle.tn_slots.proofs.Rings.{wrapped_short}
use Rattle.tn_slots.proofs.ring.place_in_block.Goals as goal

pub overflow_add-result : goal.overflow_add-result
overflow_add-result c =
    let m : c.args.t * c.args.room ≤ 64 * 512 = mul-le c.args.t c.args.room 64 512 (omega arith) c.requires.room in
    let w = wrapped_short c.args.room c.args.at in
    omega arith
