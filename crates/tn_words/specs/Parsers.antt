-- The simple commands of `clap` that read the words after a command's name.
use Rattle.std.specs.Prelude.{ℕ, Bool, List, true, false, Option, Some, None, codes, bytes_eq, option_map}
use Rattle.std.specs.Option.{option_map_or}
use Rattle.std.specs.List.{list_any}
use Rattle.clap.specs.Walk.{Rule}
use Rattle.clap.specs.Simple.{App, new_app, new_rule, on_top, with_rule}
use Rattle.clap.specs.declared.builder.action.ArgAction.TheVariants.{SetTrue}
use Rattle.tn_words.specs.declared.command.Command.{Command}
use Rattle.tn_words.specs.declared.command.Command.TheVariants.{Wire}
use Rattle.tn_words.specs.Forms.{Text, follow_with, gen_pair, word_in}

-- no word names the program, and there is no `--help`
abbrev pub bare : App
bare = on_top (λ s. record s { no_binary_name = true; disable_help_flag = true }) (new_app (codes "tinsel"))

abbrev pub workers_rule : Rule
workers_rule = record (new_rule (codes "workers")) { long = Some (codes "workers") }

abbrev pub trace_rule : Rule
trace_rule = record (new_rule (codes "trace")) { long = Some (codes "trace"); action = Some SetTrue }

abbrev pub first_rule : Rule
first_rule = new_rule (codes "first")

abbrev pub second_rule : Rule
second_rule = new_rule (codes "second")

abbrev pub run_app : App
run_app = with_rule (with_rule bare workers_rule) trace_rule

abbrev pub gen_app : App
gen_app = with_rule (with_rule (with_rule bare first_rule) second_rule) workers_rule

abbrev pub two_app : App
two_app = with_rule (with_rule bare first_rule) second_rule

abbrev pub one_app : App
one_app = with_rule bare first_rule

-- the text of a flag that was given
abbrev pub says : Option (List ℕ) → Bool
says text = option_map_or (λ t. bytes_eq t (codes "true")) text false

-- a word is `--`
abbrev pub has_dashes : List (List ℕ) → Bool
has_dashes words = list_any (λ w. bytes_eq w (codes "--")) words

abbrev pub pair_of : Option Text → Option Text → Option (Text × Text)
pair_of (Some a) (Some b) = Some (a, b)
pair_of (Some a) None = None
pair_of None b = None

-- the command that clap's values for `gen` make: the option's, and the two words
abbrev pub gen_told : Option Text → Option Text → Option Text → Option Command
gen_told value start count = gen_pair value (pair_of start count)

abbrev pub follow_pair : Option (Text × Text) → Option Command
follow_pair (Some p) = follow_with (word_in p.0) (word_in p.1)
follow_pair None = None

-- the command that clap's values for `follow` make
abbrev pub follow_told : Option Text → Option Text → Option Command
follow_told origin number = follow_pair (pair_of origin number)

-- the command that clap's value for `wire` makes
abbrev pub wire_told : Option Text → Option Command
wire_told (Some seed) = option_map (λ n. Wire n) (word_in seed)
wire_told None = None
