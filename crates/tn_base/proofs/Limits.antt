-- The numbers of a machine are within their limits.
use Rattle.std.proofs.Common.{◌≡◌, ℕ, ◌≤◌, Bool, true, false, arith, is_none, IsTrue, ◌&&◌, nat_le, nat_eq}
use Rattle.std.specs.declared.option.Option.{Option}
use Rattle.std.proofs.lemmas.Bool.Decides.{nat_tests}
use Rattle.tn_base.specs.Shape.{within, unless, is_shape, WithinLimits}
use Rattle.tn_base.specs.declared.shape.ShapeNumbers.{ShapeNumbers}
use Rattle.tn_base.specs.declared.shape.ShapeFault.{ShapeFault}

-- where no test finds a fault, this one passes, and those behind it find none
passes : (test : Bool) (fault : ShapeFault) (others : Option ShapeFault) → IsTrue (is_none (unless test fault others)) → (IsTrue test) × (IsTrue (is_none others))
passes true fault others h = (search, h)
passes false fault others h = cc h

inside : (least greatest n : ℕ) → IsTrue (within least greatest n) → (least ≤ n) × (n ≤ greatest)
inside least greatest n h = (grind (arith, nat_tests), grind (arith, nat_tests))

both : (a b : Bool) → IsTrue (a && b) → (IsTrue a) × (IsTrue b)
both true b h = (search, h)
both false b h = cc h

at_most : (n m : ℕ) → IsTrue (nat_le n m) → n ≤ m
at_most n m h = grind (arith, nat_tests)

is_nothing : (n : ℕ) → IsTrue (nat_eq n 0) → n ≡ 0
is_nothing n h = grind (arith, nat_tests)

pub within_limits : (n : ShapeNumbers) → IsTrue (is_shape n) → WithinLimits n
within_limits n h =
    let version = passes _ _ _ h in
    let boards = passes _ _ _ version.1 in
    let tiles = passes _ _ _ boards.1 in
    let cores = passes _ _ _ tiles.1 in
    let threads = passes _ _ _ cores.1 in
    let slots = passes _ _ _ threads.1 in
    let link = passes _ _ _ slots.1 in
    let mem = passes _ _ _ link.1 in
    let total = passes _ _ _ mem.1 in
    let fuel = passes _ _ _ total.1 in
    let turn = passes _ _ _ fuel.1 in
    let board = both _ _ boards.0 in
    let tile = both _ _ tiles.0 in
    let line = both _ _ mem.0 in
    record {
      version = inside _ _ _ version.0;
      boards_x = inside _ _ _ board.0;
      boards_y = inside _ _ _ board.1;
      tiles_x = inside _ _ _ tile.0;
      tiles_y = inside _ _ _ tile.1;
      cores = inside _ _ _ cores.0;
      threads = inside _ _ _ threads.0;
      slots = inside _ _ _ slots.0;
      link = inside _ _ _ link.0;
      mem = inside _ _ _ line.0;
      whole_lines = is_nothing _ line.1;
      total = at_most _ _ total.0;
      fuel = inside _ _ _ fuel.0;
      turn = inside _ _ _ turn.0;
    }
