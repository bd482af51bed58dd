-- The lines that say the numbers of a job's machine.
use Rattle.std.specs.Prelude.{◌≡◌, ℕ, ◌+◌, ◌==◌, Bool, true, false, List, ◌∷◌, ◌++◌, length}
use Rattle.std.specs.declared.result.Result.TheVariants.{Ok}
use Rattle.job_text.specs.declared.job.Job.{Job}
use Rattle.job_text.specs.declared.keyword.Setting.{Setting}
use Rattle.job_text.specs.Arguments.{number_in}
use Rattle.job_text.specs.Exchanged.{IsSetting}
use Rattle.job_text.specs.Keyword.{setting_in}
use Rattle.job_text.specs.Text.{default_numbers, job_of}

-- the line of this number gives this value to the setting
pub record IsGiven (lines : List (List ℕ)) (line : ℕ) (s : Setting) (value : ℕ) : Type 0 where
  pub before : List (List ℕ)
  pub head : List ℕ
  pub after : List (List ℕ)
  pub lines_are : lines ≡ before ++ head ∷ after
  pub number : line ≡ length before + 1
  pub says : IsSetting head
  pub setting : says.setting ≡ s
  pub value_is : number_in says.words ≡ Ok value

-- no line gives the setting: its number is the default
abbrev pub SaidBy : Bool → List (List ℕ) → ℕ → Setting → ℕ → Type 0
SaidBy true lines line s value = value ≡ setting_in s default_numbers
SaidBy false lines line s value = IsGiven lines line s value

-- a setting whose line is that of the shape has its default, and any other is given by its line
abbrev pub IsNumberSaid : List (List ℕ) → Job → Setting → Type 0
IsNumberSaid lines job s =
    SaidBy (setting_in s job.number_lines == job.number_lines.version) lines (setting_in s job.number_lines) s (setting_in s job.numbers)

-- each setting of a job is said by the lines of its text
abbrev pub SettingsAreSaid : Type 0
SettingsAreSaid = (lines : List (List ℕ)) (job : Job) → job_of lines ≡ Ok job → (s : Setting) → IsNumberSaid lines job s
