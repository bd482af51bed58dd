-- The words after the first word of a line.
use Rattle.std.specs.Prelude.{ℕ, List, if◌then◌else◌, Option, Some, None, codes, bytes_eq, slice_index}
use Rattle.std.specs.declared.result.Result.{Result}
use Rattle.std.specs.declared.result.Result.TheVariants.{Ok, Err}
use Rattle.tn_text.specs.declared.numbers.Numeral.{Numeral}
use Rattle.tn_text.specs.declared.numbers.Numeral.TheVariants.{Value, TooLarge, NoNumber}
use Rattle.tn_text.specs.Numbers.{number_of}
use Rattle.tn_text.specs.Words.{one_of}
use Rattle.job_text.specs.declared.job.Owner.{Owner}
use Rattle.job_text.specs.declared.job.Owner.TheVariants.{All, Tile}
use Rattle.job_text.specs.declared.job.JobKind.{JobKind}
use Rattle.job_text.specs.declared.job.JobKind.TheVariants.{BadLine, BadNumber}

infixl 10 ◌>>=◌
abbrev pub ◌>>=◌ : {A B : Type 0} → Result A JobKind → (A → Result B JobKind) → Result B JobKind
(Ok x) >>= f = f x
(Err kind) >>= f = Err kind

-- the numbers of a line that has its form but for them
abbrev pub given : {V : Type 0} → Numeral V → Result V JobKind
given (Value v) = Ok v
given TooLarge = Err BadNumber
given NoNumber = Err BadLine

abbrev pub number_by : Option (List ℕ) → Result ℕ JobKind
number_by None = Err BadLine
number_by (Some w) = given (number_of w)

-- the one word, which is a number
abbrev pub number_in : List (List ℕ) → Result ℕ JobKind
number_in words = number_by (one_of words)

abbrev pub tile_owner : Result ℕ JobKind → Result Owner JobKind
tile_owner (Ok tile) = Ok (Tile tile)
tile_owner (Err kind) = Err kind

abbrev pub owner_by : Option (List ℕ) → Result Owner JobKind
owner_by None = Err BadLine
owner_by (Some w) = if bytes_eq w (codes "all") then Ok All else tile_owner (given (number_of w))

-- `all`, or a tile's address
abbrev pub owner_in : List (List ℕ) → Result Owner JobKind
owner_in words = owner_by (one_of words)

abbrev pub pair_in : Result (List ℕ) JobKind → Result (ℕ × ℕ) JobKind
pair_in (Ok ns) = Ok (slice_index ns 0, slice_index ns 1)
pair_in (Err kind) = Err kind
