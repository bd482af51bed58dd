-- The numbers of a machine, and their limits.
use Rattle.std.specs.Prelude.{◌≡◌, ◌≤◌, ℕ, ◌*◌, ◌%◌, ◌==◌, ◌&&◌, Bool, nat_le, if◌then◌else◌, is_none}
use Rattle.std.specs.declared.option.Option.{Option}
use Rattle.std.specs.declared.option.Option.TheVariants.{Some, None}
use Rattle.std.specs.declared.result.Result.{Result}
use Rattle.std.specs.declared.result.Result.TheVariants.{Ok, Err}
use Rattle.tn_base.specs.declared.shape.ShapeNumbers.{ShapeNumbers}
use Rattle.tn_base.specs.declared.shape.ShapeFault.{ShapeFault}
use Rattle.tn_base.specs.declared.shape.ShapeFault.TheVariants.{Version, Boards, Tiles, Cores, Threads, Slots, Link, Mem, Total, Fuel, Turn}

-- a number is from the least to the greatest
abbrev pub within : ℕ → ℕ → ℕ → Bool
within least greatest n = nat_le least n && nat_le n greatest

-- how many threads the machine has
abbrev pub thread_count : ShapeNumbers → ℕ
thread_count n = n.boards_x * n.boards_y * n.tiles_x * n.tiles_y * n.cores * n.threads

-- a fault where its test fails, else what the tests behind it say
abbrev pub unless : Bool → ShapeFault → Option ShapeFault → Option ShapeFault
unless test fault others = if test then others else Some fault

-- the first number that is outside its limits
abbrev pub first_fault : ShapeNumbers → Option ShapeFault
first_fault n =
    unless (within 1 2 n.version) Version
    (unless (within 1 4 n.boards_x && within 1 4 n.boards_y) Boards
    (unless (within 1 4 n.tiles_x && within 1 4 n.tiles_y) Tiles
    (unless (within 1 4 n.cores) Cores
    (unless (within 1 16 n.threads) Threads
    (unless (within 4 512 n.slots) Slots
    (unless (within 1 16 n.link) Link
    (unless (within 64 65536 n.mem && n.mem % 64 == 0) Mem
    (unless (nat_le (thread_count n * n.mem) 268435456) Total
    (unless (within 1 4294967295 n.fuel) Fuel
    (unless (within 1 64 n.turn) Turn None))))))))))

-- the numbers are those of a machine
abbrev pub is_shape : ShapeNumbers → Bool
is_shape n = is_none (first_fault n)

-- the machine of these numbers, or the first number that is outside its limits
abbrev pub shape_by : ShapeNumbers → Option ShapeFault → Result ShapeNumbers ShapeFault
shape_by n None = Ok n
shape_by n (Some fault) = Err fault

abbrev pub shape_of : ShapeNumbers → Result ShapeNumbers ShapeFault
shape_of n = shape_by n (first_fault n)

-- each number is within its limits
pub record WithinLimits (n : ShapeNumbers) : Type 0 where
  pub version : (1 ≤ n.version) × (n.version ≤ 2)
  pub boards_x : (1 ≤ n.boards_x) × (n.boards_x ≤ 4)
  pub boards_y : (1 ≤ n.boards_y) × (n.boards_y ≤ 4)
  pub tiles_x : (1 ≤ n.tiles_x) × (n.tiles_x ≤ 4)
  pub tiles_y : (1 ≤ n.tiles_y) × (n.tiles_y ≤ 4)
  pub cores : (1 ≤ n.cores) × (n.cores ≤ 4)
  pub threads : (1 ≤ n.threads) × (n.threads ≤ 16)
  pub slots : (4 ≤ n.slots) × (n.slots ≤ 512)
  pub link : (1 ≤ n.link) × (n.link ≤ 16)
  pub mem : (64 ≤ n.mem) × (n.mem ≤ 65536)
  pub whole_lines : n.mem % 64 ≡ 0
  pub total : thread_count n * n.mem ≤ 268435456
  pub fuel : (1 ≤ n.fuel) × (n.fuel ≤ 4294967295)
  pub turn : (1 ≤ n.turn) × (n.turn ≤ 64)
