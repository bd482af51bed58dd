-- Which fills are those of each thread.
use Rattle.std.specs.Prelude.{ℕ, ◌≡◌, ◌<◌, List, [], length, map, slice_index_or}
use Rattle.std.specs.List.{AllByRecursion}
use Rattle.job_text.specs.declared.job.FillLine.{FillLine}
use Rattle.job_load.specs.Images.{fills_of}

abbrev pub no_fill : FillLine
no_fill = record { line = 0; thread = 0; address = 0; bytes = [] }

-- the fills at places of a list
abbrev pub fills_at : List FillLine → List ℕ → List FillLine
fills_at fills places = map (λ p. slice_index_or fills p no_fill) places

-- each is a place of the list
abbrev pub ArePlaces : List FillLine → List ℕ → Type 0
ArePlaces fills places = AllByRecursion (λ p. p < length fills) places

-- the group at a thread's address
abbrev pub group_at : List (List ℕ) → ℕ → List ℕ
group_at groups thread = slice_index_or groups thread []

-- at the address of each thread stand the places of its fills, in order
pub record AreGroups (fills : List FillLine) (groups : List (List ℕ)) : Type 0 where
  pub each : (thread : ℕ) → fills_at fills (group_at groups thread) ≡ fills_of thread fills
  pub there : (thread : ℕ) → ArePlaces fills (group_at groups thread)
