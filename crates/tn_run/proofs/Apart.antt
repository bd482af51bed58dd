-- The commands that run a machine and the commands on texts have no words in common.
use Rattle.std.proofs.Common.{◌≡◌, ℕ, Bool, true, false, ◌||◌, if◌then◌else◌, List, [], ◌∷◌, codes, Option, None, Some, refl, option_map, option_and_then}
use Rattle.std.specs.Str.{bytes_eq}
use Rattle.tn_words.specs.declared.command.Command.{Command}
use Rattle.tn_words.specs.declared.command.Command.TheVariants.{Asm, Show, Map, Check, Bsp, Wire}
use Rattle.tn_words.specs.Forms.{Parted, alone, follow_of, follow_with, gen_among, gen_pair, gen_with, number_within, parted, run_with, traced, two_of, wire_of, word_in, workers_in}
use Rattle.tn_run.specs.Machine.{machine_in}
use Rattle.tn_run.specs.Texts.{text_in}
use Rattle.tn_run.specs.Words.{NoMachine, NoText}

abbrev no_machine : Option Command → Type 0
no_machine form = option_and_then machine_in form ≡ None

abbrev no_text : Option Command → Type 0
no_text form = option_and_then text_in form ≡ None

-- The forms that are no machine's.

alone_is : (c : Command) (words : List (List ℕ)) → machine_in c ≡ None → no_machine (alone c words)
alone_is c [] h = h
alone_is c (word ∷ rest) h = refl

follow_by : (origin number : Option ℕ) → no_machine (follow_with origin number)
follow_by (Some origin) (Some number) = refl
follow_by (Some origin) None = refl
follow_by None number = refl

follow_is : (words : List (List ℕ)) → no_machine (follow_of words)
follow_is [] = refl
follow_is (origin ∷ []) = refl
follow_is (origin ∷ number ∷ []) = follow_by (word_in origin) (word_in number)
follow_is (origin ∷ number ∷ more ∷ rest) = refl

wire_by : (seed : Option ℕ) → no_machine (option_map (λ n. Wire n) seed)
wire_by (Some seed) = refl
wire_by None = refl

wire_is : (words : List (List ℕ)) → no_machine (wire_of words)
wire_is [] = refl
wire_is (seed ∷ []) = wire_by (word_in seed)
wire_is (seed ∷ more ∷ rest) = refl

-- The forms that are no text's.

run_by : (workers : Option ℕ) (trace : Option Bool) → no_text (run_with workers trace)
run_by (Some workers) (Some trace) = refl
run_by (Some workers) None = refl
run_by None trace = refl

run_parted : (p : Option Parted) → no_text (option_and_then (λ p. run_with (workers_in p.value) (traced p.others)) p)
run_parted (Some p) = run_by (workers_in p.value) (traced p.others)
run_parted None = refl

gen_by : (start count workers : Option ℕ) → no_text (gen_with start count workers)
gen_by (Some start) (Some count) (Some workers) = refl
gen_by (Some start) (Some count) None = refl
gen_by (Some start) None workers = refl
gen_by None count workers = refl

gen_two : (value : Option (List ℕ)) (two : Option (List ℕ × List ℕ)) → no_text (gen_pair value two)
gen_two value (Some p) = gen_by (word_in p.0) (number_within 1 4096 p.1) (workers_in value)
gen_two value None = refl

gen_parted : (p : Option Parted) → no_text (option_and_then (λ p. gen_among p.value p.others) p)
gen_parted (Some p) = gen_two p.value (two_of p.others)
gen_parted None = refl

-- Along the names of the commands.

pub either : (P : Option Command → Type 0) (b : Bool) (x y : Option Command) → P x → P y → P (if b then x else y)
either P true x y h k = h
either P false x y h k = k

neither : (P : Option Command → Type 0) (a b : Bool) (x y z : Option Command) → (a || b) ≡ false → P z → P (if a then x else (if b then y else z))
neither P true b x y z e h = cc e
neither P false true x y z e h = cc e
neither P false false x y z e h = h

both : (P : Option Command → Type 0) (a b : Bool) (x y z : Option Command) → (a || b) ≡ true → P x → P y → P (if a then x else (if b then y else z))
both P true b x y z e h k = h
both P false true x y z e h k = k
both P false false x y z e h k = cc e

pub no_machines : NoMachine
no_machines [] e = refl
no_machines (name ∷ words) e =
    neither no_machine (bytes_eq name (codes "run")) (bytes_eq name (codes "gen")) _ _ _ e
    (either no_machine (bytes_eq name (codes "asm")) _ _ (alone_is Asm words refl)
    (either no_machine (bytes_eq name (codes "show")) _ _ (alone_is Show words refl)
    (either no_machine (bytes_eq name (codes "map")) _ _ (alone_is Map words refl)
    (either no_machine (bytes_eq name (codes "check")) _ _ (alone_is Check words refl)
    (either no_machine (bytes_eq name (codes "follow")) _ _ (follow_is words)
    (either no_machine (bytes_eq name (codes "bsp")) _ _ (alone_is Bsp words refl)
    (either no_machine (bytes_eq name (codes "wire")) _ _ (wire_is words) refl)))))))

pub no_texts : NoText
no_texts [] e = cc e
no_texts (name ∷ words) e =
    both no_text (bytes_eq name (codes "run")) (bytes_eq name (codes "gen")) _ _ _ e (run_parted (parted words)) (gen_parted (parted words))
