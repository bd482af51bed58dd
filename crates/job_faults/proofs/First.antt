-- The fault on the first line.
use Rattle.std.proofs.Common.{◌≡◌, ◌≤◌, ◌∷◌, ◌++◌, [], Bool, true, false, List, Option, Some, None, nat_lt, inl, inr, refl, arith, if◌then◌else◌}
use Rattle.std.specs.List.{AllByRecursion, filter_map}
use Rattle.std.specs.List.{cons_option}
use Rattle.std.proofs.lemmas.Bool.Decides.{nat_tests}
use Rattle.std.proofs.lemmas.List.{append-nil}
use Rattle.job_text.specs.declared.job.Job.{Job}
use Rattle.job_faults.specs.declared.fault.LoadFault.{LoadFault}
use Rattle.job_faults.specs.Assembly.{sections_of}
use Rattle.job_faults.specs.Faults.{beat_fault, beat_lines, code_fault, fill_fault, place_fault, section_fault, send_fault, sooner, soonest}
use Rattle.job_faults.specs.Laws.{IsAmong, IsFirst, section_faults}

abbrev Behind : LoadFault → LoadFault → Type 0
Behind f g = f.line ≤ g.line

all_behind : (f e : LoadFault) (gs : List LoadFault) → e.line ≤ f.line → AllByRecursion (Behind f) gs → AllByRecursion (Behind e) gs
all_behind f e [] h all = tt
all_behind f e (g ∷ gs) h all = (omega (arith, all.0), all_behind f e gs h all.1)

all_join : (f : LoadFault) (es hs : List LoadFault) → AllByRecursion (Behind f) es → AllByRecursion (Behind f) hs → AllByRecursion (Behind f) (es ++ hs)
all_join f [] hs a b = b
all_join f (x ∷ xs) hs a b = (a.0, all_join f xs hs a.1 b)

among_left : (f : LoadFault) (es hs : List LoadFault) → IsAmong f es → IsAmong f (es ++ hs)
among_left f [] hs h = absurd h
among_left f (x ∷ xs) hs h = elim h [ inl e ↦ inl e | inr more ↦ inr (among_left f xs hs more) ]

among_right : (f : LoadFault) (es hs : List LoadFault) → IsAmong f hs → IsAmong f (es ++ hs)
among_right f [] hs h = h
among_right f (x ∷ xs) hs h = inr (among_right f xs hs h)

chosen : (a b : LoadFault) (es hs : List LoadFault) (t : Bool) → nat_lt b.line a.line ≡ t →
    IsFirst (Some a) es → IsFirst (Some b) hs → IsFirst (if t then Some b else Some a) (es ++ hs)
chosen a b es hs true e p q =
    let less : b.line ≤ a.line = grind (arith, nat_tests) in
    (among_right b es hs q.0, all_join b es hs (all_behind a b es less p.1) q.1)
chosen a b es hs false e p q =
    let less : a.line ≤ b.line = grind (arith, nat_tests) in
    (among_left a es hs p.0, all_join a es hs p.1 (all_behind b a hs less q.1))

pub first_join : (a b : Option LoadFault) (es hs : List LoadFault) → IsFirst a es → IsFirst b hs → IsFirst (sooner a b) (es ++ hs)
first_join None b es hs p q = rw p q
first_join (Some a) None es hs p q = rw (q, append-nil es) p
first_join (Some a) (Some b) es hs p q = chosen a b es hs (nat_lt b.line a.line) refl p q

first_one : (a b : Option LoadFault) (hs : List LoadFault) → IsFirst b hs → IsFirst (sooner a b) (cons_option a hs)
first_one None b hs q = q
first_one (Some a) b hs q = first_join (Some a) b (a ∷ []) hs (inl refl, (omega arith, tt)) q

pub first_of : {X : Type 0} (test : X → Option LoadFault) (xs : List X) → IsFirst (soonest test xs) (filter_map test xs)
first_of test [] = refl
first_of test (x ∷ xs) = first_one (test x) (soonest test xs) (filter_map test xs) (first_of test xs)

pub first_section : (job : Job) → IsFirst (section_fault job) (section_faults job)
first_section job =
    let codes = first_of (code_fault job.numbers) (sections_of job) in
    let fills = first_of (fill_fault job.numbers) job.fills in
    let places = first_of (place_fault job.numbers) job.tables in
    let beats = first_of (beat_fault job.version) (beat_lines job.tables) in
    let sends = first_of (send_fault job.numbers) job.script in
    first_join _ _ (filter_map (code_fault job.numbers) (sections_of job)) _ codes
    (first_join _ _ (filter_map (fill_fault job.numbers) job.fills) _ fills
    (first_join _ _ (filter_map (place_fault job.numbers) job.tables) _ places
    (first_join _ _ (filter_map (beat_fault job.version) (beat_lines job.tables)) (filter_map (send_fault job.numbers) job.script) beats sends)))
