-- What the records of each beat gather, held up to the greatest number that matters.
use Rattle.std.specs.Prelude.{ℕ, ◌≡◌, ◌<◌, ◌+◌, min, sum, List, [], length, map, drop, take, slice_index_or}
use Rattle.std.specs.List.{sum_by}
use Rattle.std.specs.declared.option.Option.{Option}
use Rattle.std.specs.declared.option.Option.TheVariants.{Some, None}
use Rattle.tn_base.specs.declared.ids.Board.{Board}
use Rattle.tn_base.specs.declared.shape.ShapeNumbers.{ShapeNumbers}
use Rattle.tn_base.specs.Parts.{board_at}
use Rattle.tn_keys.specs.declared.onward.Onward.{Onward}
use Rattle.tn_keys.specs.declared.record.RouteRec.{RouteRec}
use Rattle.tn_keys.specs.Accepted.{gathered, leads, nothing, own_weight}
use Rattle.tn_keys.specs.Copies.{onward}
use Rattle.tn_keys.specs.Key.{key_count, key_first}
use Rattle.tn_keys.specs.Tables.{Table, board_place, table_at}
use Rattle.tn_reach.specs.declared.measure.Measure.{Measure}
use Rattle.tn_reach.specs.declared.measure.Measure.TheVariants.{Chains, Weights}

-- 65,537 and more are one: whether a weight is above 65,536, or a number of chains above 0, is told by this
abbrev pub capped : ℕ → ℕ
capped v = min v 65537

-- what the last record counts, and one that is followed by others
abbrev pub last_of : Measure → RouteRec → ℕ
last_of Chains r = leads r
last_of Weights r = own_weight r

abbrev pub own_of : Measure → RouteRec → ℕ
own_of Chains r = nothing r
own_of Weights r = own_weight r

-- the mark of a beat: what its records gather over at most m records that lead on
abbrev pub mark : Measure → ℕ → ShapeNumbers → List Table → Board → List RouteRec → ℕ
mark e m n tables b beat = capped (sum_by (gathered (last_of e) (own_of e) m n tables b) beat)

-- the mark of a beat over no record that leads on
abbrev pub first_mark : Measure → List RouteRec → ℕ
first_mark e beat = capped (sum_by (last_of e) beat)

-- the sum of the marks of a key's beats where a record leads
abbrev pub marks_beyond : ShapeNumbers → List (List ℕ) → Option Onward → ℕ
marks_beyond n marks None = 0
marks_beyond n marks (Some o) = sum (take (key_count o.key) (drop (key_first o.key) (slice_index_or marks (board_place n o.board) [])))

-- the mark of a beat from those of all beats over one record less
abbrev pub next_mark : Measure → ShapeNumbers → List (List ℕ) → Board → List RouteRec → ℕ
next_mark e n marks b beat = capped (sum_by (λ r. own_of e r + marks_beyond n marks (onward n b r)) beat)

-- the marks of all beats of all boards, over at most m records that lead on
pub record Marked (e : Measure) (m : ℕ) (n : ShapeNumbers) (tables : List Table) (marks : List (List ℕ)) : Type 0 where
  pub count : length marks ≡ length tables
  pub each : (i : ℕ) → i < length tables → slice_index_or marks i [] ≡ map (mark e m n tables (board_at n i)) (table_at tables i)

-- the marks of all beats over no record that leads on
pub record First (e : Measure) (tables : List Table) (marks : List (List ℕ)) : Type 0 where
  pub count : length marks ≡ length tables
  pub each : (i : ℕ) → i < length tables → slice_index_or marks i [] ≡ map (first_mark e) (table_at tables i)

-- the marks of all beats from those over one record less
pub record Next (e : Measure) (n : ShapeNumbers) (tables : List Table) (marks next : List (List ℕ)) : Type 0 where
  pub count : length next ≡ length tables
  pub each : (i : ℕ) → i < length tables → slice_index_or next i [] ≡ map (next_mark e n marks (board_at n i)) (table_at tables i)
