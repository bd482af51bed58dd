-- Which call the words of the command line are for.
use Rattle.std.specs.Prelude.{◌≡◌, ℕ, Bool, true, false, ◌||◌, List, [], ◌∷◌, codes, None, Some}
use Rattle.std.specs.Str.{bytes_eq}
use Rattle.tn_words.specs.declared.command.Command.TheVariants as command
use Rattle.tn_words.specs.Forms.{form_of}
use Rattle.tn_run.specs.declared.machine.MachineCommand.TheVariants as machine
use Rattle.tn_run.specs.Machine.{machine_form}
use Rattle.tn_run.specs.Texts.{text_form}

-- The first word is `run` or `gen`. Such words are for `run_top`, and all others for `plain_top`.
abbrev pub is_for_machine : List (List ℕ) → Bool
is_for_machine [] = false
is_for_machine (first ∷ _) = bytes_eq first (codes "run") || bytes_eq first (codes "gen")

-- The first word is `gen`.
abbrev pub is_gen : List (List ℕ) → Bool
is_gen [] = false
is_gen (first ∷ _) = bytes_eq first (codes "gen")

-- Words that are for `plain_top` name no command that runs a machine.
abbrev pub NoMachine : Type 0
NoMachine = (words : List (List ℕ)) → is_for_machine words ≡ false → machine_form words ≡ None

-- Words that are for `run_top` name no command on texts.
abbrev pub NoText : Type 0
NoText = (words : List (List ℕ)) → is_for_machine words ≡ true → text_form words ≡ None

-- Each form of `gen` names a command of `run_top`.
abbrev pub EachGenIsServed : Type 0
EachGenIsServed = (words : List (List ℕ)) (start count workers : ℕ) → form_of words ≡ Some (command.Gen start count workers) → machine_form words ≡ Some (machine.Gen start count workers)
