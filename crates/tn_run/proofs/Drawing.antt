-- The forms of `gen`.
use Rattle.std.proofs.Common.{◌≡◌, ◌∙◌, ℕ, Bool, true, false, ◌&&◌, ◌||◌, if◌then◌else◌, nat_le, List, [], ◌∷◌, codes, Option, None, Some, ap, refl, option_map, option_and_then, subst, sym, length}
use Rattle.std.specs.Str.{bytes_eq}
use Rattle.std.proofs.lemmas.Slice.Eq.{bytes_eq-Decides}
use Rattle.tn_text.specs.Numbers.{decimal_of}
use Rattle.tn_text.specs.declared.numbers.Numeral.{Numeral}
use Rattle.tn_text.specs.declared.numbers.Numeral.TheVariants.{Value, TooLarge, NoNumber}
use Rattle.tn_words.specs.declared.command.Command.{Command}
use Rattle.tn_words.specs.declared.command.Command.TheVariants as command
use Rattle.tn_words.specs.Forms.{Parted, alone, follow_of, follow_with, gen_among, gen_pair, gen_with, named, number_within, parted, run_with, traced, two_of, wire_of, within, word_in, workers_in}
use Rattle.tn_call.specs.Answers.{form_reads}
use Rattle.tn_run.specs.declared.machine.MachineCommand.TheVariants as machine
use Rattle.tn_run.specs.Kept.{IsFresh}
use Rattle.tn_run.specs.Machine.{machine_answer, machine_form, machine_in, machine_reads}
use Rattle.tn_run.specs.Words.{EachGenIsServed, is_for_machine, is_gen}
use Rattle.tn_run.proofs.Apart.{either}

-- A form of `gen` is served.

abbrev served : Option Command → Type 0
served form = (start count workers : ℕ) → form ≡ Some (command.Gen start count workers) → option_and_then machine_in form ≡ Some (machine.Gen start count workers)

sized : (count : ℕ) (b : Bool) (n : ℕ) → (if b then Some n else None) ≡ Some count → (n ≡ count) × (b ≡ true)
sized count true n e = (cc e, refl)
sized count false n e = cc e

size_told : (text : Numeral ℕ) (count : ℕ) → within 1 4096 text ≡ Some count → (nat_le 1 count && nat_le count 4096) ≡ true
size_told (Value n) count e =
    let k = sized count (nat_le 1 n && nat_le n 4096) n e in
    subst (λ (m : ℕ). (nat_le 1 m && nat_le m 4096) ≡ true) k.0 k.1
size_told TooLarge count e = cc e
size_told NoNumber count e = cc e

size_by : (b : Bool) (text : Numeral ℕ) (count : ℕ) → (if b then within 1 4096 text else None) ≡ Some count → (nat_le 1 count && nat_le count 4096) ≡ true
size_by true text count e = size_told text count e
size_by false text count e = cc e

-- the command of three numbers, of which the second is a size
made_of : (start count workers : ℕ) → (nat_le 1 count && nat_le count 4096) ≡ true → option_and_then machine_in (Some (command.Gen start count workers)) ≡ Some (machine.Gen start count workers)
made_of start count workers h = rw h refl

gen_by : (start count workers : Option ℕ) → ((n : ℕ) → count ≡ Some n → (nat_le 1 n && nat_le n 4096) ≡ true) → served (gen_with start count workers)
gen_by (Some start) (Some count) (Some workers) h s c w e = ap (λ (form : Option Command). option_and_then machine_in form) e ∙ made_of s c w (h c (cc e))
gen_by (Some start) (Some count) None h s c w e = cc e
gen_by (Some start) None workers h s c w e = cc e
gen_by None count workers h s c w e = cc e

gen_two : (value : Option (List ℕ)) (two : Option (List ℕ × List ℕ)) → served (gen_pair value two)
gen_two value (Some p) s c w e = gen_by (word_in p.0) (number_within 1 4096 p.1) (workers_in value) (λ n e. size_by (nat_le (length p.1) 10) (decimal_of p.1) n e) s c w e
gen_two value None s c w e = cc e

gen_parted : (p : Option Parted) → served (option_and_then (λ p. gen_among p.value p.others) p)
gen_parted (Some p) s c w e = gen_two p.value (two_of p.others) s c w e
gen_parted None s c w e = cc e

run_by : (workers : Option ℕ) (trace : Option Bool) → served (run_with workers trace)
run_by (Some workers) (Some trace) s c w e = cc e
run_by (Some workers) None s c w e = cc e
run_by None trace s c w e = cc e

run_parted : (p : Option Parted) → served (option_and_then (λ p. run_with (workers_in p.value) (traced p.others)) p)
run_parted (Some p) s c w e = run_by (workers_in p.value) (traced p.others) s c w e
run_parted None s c w e = cc e

alone_is : (c : Command) (words : List (List ℕ)) → served (Some c) → served (alone c words)
alone_is c [] h s n w e = h s n w e
alone_is c (word ∷ rest) h s n w e = cc e

follow_by : (origin number : Option ℕ) → served (follow_with origin number)
follow_by (Some origin) (Some number) s c w e = cc e
follow_by (Some origin) None s c w e = cc e
follow_by None number s c w e = cc e

follow_is : (words : List (List ℕ)) → served (follow_of words)
follow_is [] s c w e = cc e
follow_is (origin ∷ []) s c w e = cc e
follow_is (origin ∷ number ∷ []) s c w e = follow_by (word_in origin) (word_in number) s c w e
follow_is (origin ∷ number ∷ more ∷ rest) s c w e = cc e

wire_by : (seed : Option ℕ) → served (option_map (λ n. command.Wire n) seed)
wire_by (Some seed) s c w e = cc e
wire_by None s c w e = cc e

wire_is : (words : List (List ℕ)) → served (wire_of words)
wire_is [] s c w e = cc e
wire_is (seed ∷ []) s c w e = wire_by (word_in seed) s c w e
wire_is (seed ∷ more ∷ rest) s c w e = cc e

pub gens_served : EachGenIsServed
gens_served [] s c w e = cc e
gens_served (name ∷ words) s c w e =
    either served (bytes_eq name (codes "run")) _ _ (run_parted (parted words))
    (either served (bytes_eq name (codes "gen")) _ _ (gen_parted (parted words))
    (either served (bytes_eq name (codes "asm")) _ _ (alone_is command.Asm words (λ s c w e. cc e))
    (either served (bytes_eq name (codes "show")) _ _ (alone_is command.Show words (λ s c w e. cc e))
    (either served (bytes_eq name (codes "map")) _ _ (alone_is command.Map words (λ s c w e. cc e))
    (either served (bytes_eq name (codes "check")) _ _ (alone_is command.Check words (λ s c w e. cc e))
    (either served (bytes_eq name (codes "follow")) _ _ (follow_is words)
    (either served (bytes_eq name (codes "bsp")) _ _ (alone_is command.Bsp words (λ s c w e. cc e))
    (either served (bytes_eq name (codes "wire")) _ _ (wire_is words) (λ s c w e. cc e))))))))) s c w e

-- `gen` reads nothing.

abbrev unread : Option Command → Type 0
unread form = form_reads machine_reads machine_answer IsFresh (option_and_then machine_in form) ≡ false

unread_if : (b : Bool) (start count workers : ℕ) → form_reads machine_reads machine_answer IsFresh (if b then Some (machine.Gen start count workers) else None) ≡ false
unread_if true start count workers = refl
unread_if false start count workers = refl

unread_by : (start count workers : Option ℕ) → unread (gen_with start count workers)
unread_by (Some start) (Some count) (Some workers) = unread_if (nat_le 1 count && nat_le count 4096) start count workers
unread_by (Some start) (Some count) None = refl
unread_by (Some start) None workers = refl
unread_by None count workers = refl

unread_two : (value : Option (List ℕ)) (two : Option (List ℕ × List ℕ)) → unread (gen_pair value two)
unread_two value (Some p) = unread_by (word_in p.0) (number_within 1 4096 p.1) (workers_in value)
unread_two value None = refl

unread_parted : (p : Option Parted) → unread (option_and_then (λ p. gen_among p.value p.others) p)
unread_parted (Some p) = unread_two p.value (two_of p.others)
unread_parted None = refl

-- words that begin with `gen` read nothing
pub gen_unread : (words : List (List ℕ)) → is_gen words ≡ true → form_reads machine_reads machine_answer IsFresh (machine_form words) ≡ false
gen_unread [] e = refl
gen_unread (name ∷ words) e = subst (λ (first : List ℕ). unread (named first words)) (sym ((bytes_eq-Decides name (codes "gen")).0 e)) (unread_parted (parted words))

or_true : (b : Bool) → (b || true) ≡ true
or_true true = refl
or_true false = refl

-- such words are for `run_top`
pub gen_for_machine : (words : List (List ℕ)) → is_gen words ≡ true → is_for_machine words ≡ true
gen_for_machine [] e = cc e
gen_for_machine (name ∷ words) e = rw e (or_true (bytes_eq name (codes "run")))
