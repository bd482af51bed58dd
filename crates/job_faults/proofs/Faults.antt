-- The first fault, and the first section of an owner.
use Rattle.std.proofs.Common.{ℕ, ◌≡◌, ◌≤◌, ◌<◌, ◌+◌, ◌++◌, ◌∷◌, ◌∙◌, [], Bool, true, false, List, append_assoc, length, map, drop, get_or, nat_lt, if◌then◌else◌, refl, sym, ap, arith, None, Some, Option}
use Rattle.std.specs.List.{AllByRecursion, cons_option}
use Rattle.std.specs.Option.{option_or}
use Rattle.std.specs.Result.{result_ok}
use Rattle.std.specs.declared.result.Result.{Result}
use Rattle.std.proofs.lemmas.Bool.Decides.{nat_tests}
use Rattle.std.proofs.lemmas.List.{append-nil, drop_all, get_or_default}
use Rattle.std.specs.declared.result.Result.TheVariants.{Ok, Err}
use Rattle.tn_base.specs.declared.shape.ShapeFault.{ShapeFault}
use Rattle.tn_base.specs.declared.shape.ShapeNumbers.{ShapeNumbers}
use Rattle.tn_base.specs.Shape.{first_fault, shape_by}
use Rattle.tn_keys.specs.declared.beat.BeatFault.{BeatFault}
use Rattle.tn_keys.specs.declared.record.RouteRec.{RouteRec}
use Rattle.tn_keys.specs.Tables.{Table}
use Rattle.job_text.specs.declared.job.BeatLine.{BeatLine}
use Rattle.job_text.specs.declared.job.CodeSection.{CodeSection}
use Rattle.job_text.specs.declared.job.Job.{Job}
use Rattle.job_text.specs.declared.job.Owner.{Owner}
use Rattle.job_text.specs.declared.job.TableSection.{TableSection}
use Rattle.job_faults.specs.declared.fault.LoadFault.{LoadFault}
use Rattle.job_faults.specs.Code.{words_by}
use Rattle.job_faults.specs.Faults.{beat_fault, beat_from, beat_lines, fault_of_beat, number_fault, sooner, soonest}
use Rattle.job_faults.specs.ReadTables.{as_read, beats_in, read_fault}
use Rattle.job_faults.specs.Tables.{beats_of}
use Rattle.job_faults.proofs.Ranges.{rest_first}

-- the numbers of a shape that is made are those that were asked for, and none is at fault
pub numbers_of_shape : (n s : ShapeNumbers) (f : Option ShapeFault) → Ok s ≡ shape_by n f → (s ≡ n) × (f ≡ None)
numbers_of_shape n s None e = (cc, refl)
numbers_of_shape n s (Some f) e = absurd cc

pub no_number_fault : (job : Job) → first_fault job.numbers ≡ None → number_fault job ≡ None
no_number_fault job e = rw e refl

by_lines : (a b c : LoadFault) → sooner (sooner (Some a) (Some b)) (Some c) ≡ sooner (Some a) (sooner (Some b) (Some c))
by_lines a b c = grind (arith, nat_tests)

after_two : (t : Bool) (a b : LoadFault) → sooner (if t then Some b else Some a) None ≡ (if t then Some b else Some a)
after_two true a b = refl
after_two false a b = refl

no_choice : (t : Bool) (a b : LoadFault) → (if t then Some b else Some a) ≡ None → ⊥
no_choice true a b e = cc
no_choice false a b e = cc

pub sooner_assoc : (a b c : Option LoadFault) → sooner (sooner a b) c ≡ sooner a (sooner b c)
sooner_assoc None b c = refl
sooner_assoc (Some a) None c = refl
sooner_assoc (Some a) (Some b) None = after_two (nat_lt b.line a.line) a b
sooner_assoc (Some a) (Some b) (Some c) = by_lines a b c

pub sooner_none : (a : Option LoadFault) → sooner a None ≡ a
sooner_none None = refl
sooner_none (Some a) = refl

pub soonest_more : {X : Type 0} (test : X → Option LoadFault) (xs : List X) (i : ℕ) (x : X) (first : Option LoadFault) → i < length xs → x ≡ get_or xs i x →
    sooner (sooner first (test x)) (soonest test (drop (i + 1) xs)) ≡ sooner first (soonest test (drop i xs))
soonest_more test xs i x first h is = rw (rest_first xs i x h is) (sooner_assoc first (test x) (soonest test (drop (i + 1) xs)))

pub soonest_done : {X : Type 0} (test : X → Option LoadFault) (xs : List X) (i : ℕ) (first : Option LoadFault) → length xs ≤ i →
    sooner first (soonest test (drop i xs)) ≡ first
soonest_done test xs i first h = rw (drop_all i xs h) (sooner_none first)

pub soonest_append : {X : Type 0} (test : X → Option LoadFault) (xs ys : List X) → soonest test (xs ++ ys) ≡ sooner (soonest test xs) (soonest test ys)
soonest_append test [] ys = refl
soonest_append test (x ∷ xs) ys = rw (soonest_append test xs ys, sooner_assoc (test x) (soonest test xs) (soonest test ys)) refl

-- the first fault of tables that were read is that of their lines
pub soonest_read : (version : ℕ) (ts : List TableSection) → soonest read_fault (map (as_read version) ts) ≡ soonest (beat_fault version) (beat_lines ts)
soonest_read version [] = refl
soonest_read version (t ∷ ts) = rw (soonest_append (beat_fault version) t.beats (beat_lines ts), soonest_read version ts) refl

line_read : (r : Result (List RouteRec) BeatFault) (rest : Table) → beats_in r ++ rest ≡ cons_option (result_ok r) rest
line_read (Ok beat) rest = refl
line_read (Err found) rest = refl

-- the beats and the first fault of lines that are read from the front
pub record LinesRead (version : ℕ) (lines : List BeatLine) (i : ℕ) (beats : Table) (first : Option LoadFault) : Type 0 where
  pub beats_are : beats ++ beats_of version (drop i lines) ≡ beats_of version lines
  pub fault_is : sooner first (soonest (beat_fault version) (drop i lines)) ≡ soonest (beat_fault version) lines

pub lines_begun : (version : ℕ) (lines : List BeatLine) → LinesRead version lines 0 [] None
lines_begun version lines = record { beats_are = refl; fault_is = refl }

line_more : (version : ℕ) (lines : List BeatLine) (i : ℕ) (l : BeatLine) (beats : Table) (first : Option LoadFault) → i < length lines → l ≡ get_or lines i l → LinesRead version lines i beats first →
    LinesRead version lines (i + 1) (beats ++ beats_in (beat_from version l.bytes)) (sooner first (fault_of_beat l.line (beat_from version l.bytes)))
line_more version lines i l beats first h is read = record {
  beats_are = append_assoc beats (beats_in (beat_from version l.bytes)) (beats_of version (drop (i + 1) lines))
      ∙ ap (λ (more : Table). beats ++ more) (line_read (beat_from version l.bytes) (beats_of version (drop (i + 1) lines)))
      ∙ ap (λ (ls : List BeatLine). beats ++ beats_of version ls) (sym (rest_first lines i l h is)) ∙ read.beats_are;
  fault_is = sooner_assoc first (beat_fault version l) (soonest (beat_fault version) (drop (i + 1) lines))
      ∙ ap (λ (ls : List BeatLine). sooner first (soonest (beat_fault version) ls)) (sym (rest_first lines i l h is)) ∙ read.fault_is;
}

-- one line more. What is read past the last line is free
pub one_line : (version : ℕ) (lines : List BeatLine) (i : ℕ) (d : BeatLine) (beats : Table) (first : Option LoadFault) → i < length lines → LinesRead version lines i beats first →
    LinesRead version lines (i + 1) (beats ++ beats_in (beat_from version (get_or lines i d).bytes)) (sooner first (fault_of_beat (get_or lines i d).line (beat_from version (get_or lines i d).bytes)))
one_line version lines i d beats first h read = line_more version lines i (get_or lines i d) beats first h (get_or_default lines i d (get_or lines i d) h) read

pub lines_done : (version : ℕ) (lines : List BeatLine) (i : ℕ) (beats : Table) (first : Option LoadFault) → length lines ≤ i → LinesRead version lines i beats first →
    (beats ≡ beats_of version lines) × (first ≡ soonest (beat_fault version) lines)
lines_done version lines i beats first h read = (
  sym (append-nil beats) ∙ ap (λ (ls : List BeatLine). beats ++ beats_of version ls) (sym (drop_all i lines h)) ∙ read.beats_are,
  sym (sooner_none first) ∙ ap (λ (ls : List BeatLine). sooner first (soonest (beat_fault version) ls)) (sym (drop_all i lines h)) ∙ read.fault_is,
)

-- where no item is at fault, the test says so of each
pub sooner_neither : (a b : Option LoadFault) → sooner a b ≡ None → (a ≡ None) × (b ≡ None)
sooner_neither None b e = (refl, e)
sooner_neither (Some a) None e = absurd cc
sooner_neither (Some a) (Some b) e = absurd (no_choice (nat_lt b.line a.line) a b e)

-- where neither of two tests finds a fault, each one says so
pub or_neither : (a b : Option LoadFault) → option_or a b ≡ None → (a ≡ None) × (b ≡ None)
or_neither None b e = (refl, e)
or_neither (Some x) b e = absurd cc

-- five tests find nothing
pub record NoneFound (a b c d e : Option LoadFault) : Type 0 where
  pub first : a ≡ None
  pub second : b ≡ None
  pub third : c ≡ None
  pub fourth : d ≡ None
  pub fifth : e ≡ None

pub none_of_five : (a b c d e : Option LoadFault) → sooner a (sooner b (sooner c (sooner d e))) ≡ None → NoneFound a b c d e
none_of_five a b c d e h =
    let one = sooner_neither a (sooner b (sooner c (sooner d e))) h in
    let two = sooner_neither b (sooner c (sooner d e)) one.1 in
    let three = sooner_neither c (sooner d e) two.1 in
    let four = sooner_neither d e three.1 in
    record { first = one.0; second = two.0; third = three.0; fourth = four.0; fifth = four.1 }

pub none_soonest : {X : Type 0} (test : X → Option LoadFault) (xs : List X) → soonest test xs ≡ None → AllByRecursion (λ x. test x ≡ None) xs
none_soonest test [] e = tt
none_soonest test (x ∷ xs) e = let both = sooner_neither (test x) (soonest test xs) e in (both.0, none_soonest test xs both.1)

-- The words of an owner.

pub words_here : (test : Owner → Bool) (ss : List CodeSection) (i : ℕ) (s : CodeSection) → i < length ss → s ≡ get_or ss i s → test s.owner ≡ true →
    words_by test (drop i ss) ≡ Some s.words
words_here test ss i s h is e = rw (rest_first ss i s h is, e) refl

pub words_behind : (test : Owner → Bool) (ss : List CodeSection) (i : ℕ) (s : CodeSection) → i < length ss → s ≡ get_or ss i s → test s.owner ≡ false →
    words_by test (drop (i + 1) ss) ≡ words_by test (drop i ss)
words_behind test ss i s h is e = rw (rest_first ss i s h is, e) refl

pub words_done : (test : Owner → Bool) (ss : List CodeSection) (i : ℕ) → length ss ≤ i → words_by test (drop i ss) ≡ None
words_done test ss i h = rw (drop_all i ss h) refl

words_more : (test : Owner → Bool) (s : CodeSection) (xs ys : List CodeSection) (w : Option (List ℕ)) (b : Bool) → b ≡ test s.owner →
    words_by test (s ∷ xs) ≡ w → (words_by test xs ≡ w → words_by test (xs ++ ys) ≡ w) → words_by test (s ∷ xs ++ ys) ≡ w
words_more test s xs ys w true e h more = let k : Some s.words ≡ w = rw (← e) at h in rw (← e) k
words_more test s xs ys w false e h more = let k : words_by test xs ≡ w = rw (← e) at h in rw (← e) (more k)

-- the words of the sections in front, where these have some
pub words_front : (test : Owner → Bool) (xs ys : List CodeSection) (words : List ℕ) → words_by test xs ≡ Some words → words_by test (xs ++ ys) ≡ Some words
words_front test [] ys words h = cc
words_front test (s ∷ xs) ys words h = words_more test s xs ys (Some words) (test s.owner) refl h (words_front test xs ys words)

skipped : (test : Owner → Bool) (s : CodeSection) (xs ys : List CodeSection) (b : Bool) → b ≡ test s.owner →
    words_by test (s ∷ xs) ≡ None → (words_by test xs ≡ None → words_by test (xs ++ ys) ≡ words_by test ys) → words_by test (s ∷ xs ++ ys) ≡ words_by test ys
skipped test s xs ys true e h more = let k : Some s.words ≡ None = rw (← e) at h in cc
skipped test s xs ys false e h more = let k : words_by test xs ≡ None = rw (← e) at h in rw (← e) (more k)

-- else those of the sections behind
pub words_back : (test : Owner → Bool) (xs ys : List CodeSection) → words_by test xs ≡ None → words_by test (xs ++ ys) ≡ words_by test ys
words_back test [] ys h = refl
words_back test (s ∷ xs) ys h = skipped test s xs ys (test s.owner) refl h (words_back test xs ys)
