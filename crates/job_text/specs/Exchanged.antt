-- Settings on neighbouring lines, in either order.
use Rattle.std.specs.Prelude.{◌≡◌, ℕ, true, List, ◌∷◌, ◌++◌, Some}
use Rattle.std.specs.declared.result.Result.{Result}
use Rattle.std.specs.declared.result.Result.TheVariants.{Ok, Err}
use Rattle.tn_text.specs.declared.stop.Fault.{Fault}
use Rattle.tn_text.specs.Content.{content_of, is_plain}
use Rattle.tn_text.specs.Words.{words_of}
use Rattle.job_text.specs.declared.job.Job.{Job}
use Rattle.job_text.specs.declared.job.JobKind.{JobKind}
use Rattle.job_text.specs.declared.job.JobKind.TheVariants.{NoEnd}
use Rattle.job_text.specs.declared.keyword.Keyword.TheVariants.{Number}
use Rattle.job_text.specs.declared.keyword.Setting.{Setting}
use Rattle.job_text.specs.Keyword.{keyword_of}
use Rattle.job_text.specs.Text.{job_of}
use Rattle.job_text.specs.WellFormed.{unlined}

-- the first word of a line is the name of a setting
pub record IsSetting (line : List ℕ) : Type 0 where
  pub name : List ℕ
  pub words : List (List ℕ)
  pub setting : Setting
  pub plain : is_plain line ≡ true
  pub words_are : words_of (content_of line) ≡ name ∷ words
  pub named : keyword_of name ≡ Some (Number setting)

-- the lines, as a text of their own, do not lack the end of a section
abbrev pub AreWhole : List (List ℕ) → Type 0
AreWhole lines = (fault : Fault JobKind) → job_of lines ≡ Err fault → fault.kind ≡ NoEnd → ⊥

-- both are refused, or both are jobs, which differ in nothing but the numbers of lines
abbrev pub AreAlike : Result Job (Fault JobKind) → Result Job (Fault JobKind) → Type 0
AreAlike (Ok job) (Ok other) = unlined job ≡ unlined other
AreAlike (Ok job) (Err fault) = ⊥
AreAlike (Err fault) (Ok job) = ⊥
AreAlike (Err fault) (Err other) = Unit {0}

-- two settings after whole sections, and whatever follows them
abbrev pub SettingsCommute : Type 0
SettingsCommute =
    (before after : List (List ℕ)) (a b : List ℕ) → AreWhole before → IsSetting a → IsSetting b
    → AreAlike (job_of (before ++ a ∷ b ∷ after)) (job_of (before ++ b ∷ a ∷ after))
