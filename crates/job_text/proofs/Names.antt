-- What is named once.
use Rattle.std.proofs.Common.{◌≡◌, ℕ, ◌+◌, ◌≤◌, Bool, true, false, ◌||◌, List, [], ◌∷◌, ◌++◌, Option, Some, None, Ordering, refl, sym, ap, ◌∙◌, ⊎_elim, arith}
use Rattle.std.specs.declared.cmp.Ordering.TheVariants.{Less, Equal, Greater}
use Rattle.std.specs.Option.{is_some, option_and_then}
use Rattle.std.specs.Ordering.{nat_cmp, match_ordering}
use Rattle.std.specs.BTreeMap.{is_at}
use Rattle.std.specs.BTreeSet.{insert_key}
use Rattle.std.proofs.lemmas.Bool.{cases_Bool}
use Rattle.std.proofs.lemmas.Bool.Decides.{nat_tests}
use Rattle.job_text.specs.declared.job.Section.{Section}
use Rattle.job_text.specs.declared.named.Named.{Named}
use Rattle.job_text.specs.declared.named.Subject.{Subject}
use Rattle.job_text.specs.declared.named.Subject.TheVariants.{AllCode, TileCode, BoardTable, TheGraph}
use Rattle.job_text.specs.Named.{has, with_number, board_number, is_named, with_subject, subject_of, subject_named, section_named, named_by}

abbrev pub at : ℕ → ℕ → Bool
at u x = is_at (nat_cmp u) x

at_self : (u : ℕ) → at u u ≡ true
at_self u = grind (arith, nat_tests)

at_equal : (t x u : ℕ) → nat_cmp t x ≡ Equal → at u t ≡ at u x
at_equal t x u e = let same : t ≡ x = grind (arith, nat_tests) in ap (at u) same

or_swap : (a b c : Bool) → (a || (b || c)) ≡ (b || (a || c))
or_swap true true c = refl
or_swap true false c = refl
or_swap false true c = refl
or_swap false false c = refl

or_twice : (a b : Bool) → (a || b) ≡ (a || (a || b))
or_twice true b = refl
or_twice false b = refl

has_by : (u t x : ℕ) (xs : List ℕ) (o : Ordering) → nat_cmp t x ≡ o → has u (insert_key nat_cmp xs t) ≡ (at u t || has u xs)
    → has u (match_ordering o (t ∷ x ∷ xs) (x ∷ xs) (x ∷ insert_key nat_cmp xs t)) ≡ (at u t || (at u x || has u xs))
has_by u t x xs Less e more = refl
has_by u t x xs Equal e more = let same = at_equal t x u e in rw same (or_twice (at u x) (has u xs))
has_by u t x xs Greater e more = ap (λ (b : Bool). at u x || b) more ∙ or_swap (at u x) (at u t) (has u xs)

pub has-with : (u t : ℕ) (xs : List ℕ) → has u (with_number t xs) ≡ (at u t || has u xs)
has-with u t [] = refl
has-with u t (x ∷ xs) = has_by u t x xs (nat_cmp t x) refl (has-with u t xs)

at_true : (t u : ℕ) → at t u ≡ true → t ≡ u
at_true t u h = grind (arith, nat_tests)

abbrev pub one : Bool → ℕ
one true = 1
one false = 0

one_or : (a b : Bool) → one (a || b) ≤ one a + one b
one_or true b = omega arith
one_or false true = omega arith
one_or false false = omega arith

one_added : (a b : Bool) → (a ≡ true → b ≡ false) → one (a || b) ≡ one a + one b
one_added true b h = let e = h refl in rw e (omega arith)
one_added false b h = omega arith

pub one_most : (b : Bool) → one b ≤ 1
one_most true = omega arith
one_most false = omega arith

-- Subjects.

abbrev pub same : Subject → Subject → Bool
same AllCode AllCode = true
same (TileCode t) (TileCode u) = at t u
same (BoardTable x y) (BoardTable a b) = at (board_number x y) (board_number a b)
same TheGraph TheGraph = true
same _ _ = false

same_self : (k : Subject) → same k k ≡ true
same_self AllCode = refl
same_self (TileCode t) = at_self t
same_self (BoardTable x y) = at_self (board_number x y)
same_self TheGraph = refl

named-with : (k j : Subject) (n : Named) → is_named k (with_subject j n) ≡ (same k j || is_named k n)
named-with AllCode AllCode n = refl
named-with AllCode (TileCode u) n = refl
named-with AllCode (BoardTable a b) n = refl
named-with AllCode TheGraph n = refl
named-with (TileCode t) AllCode n = refl
named-with (TileCode t) (TileCode u) n = has-with t u n.tiles
named-with (TileCode t) (BoardTable a b) n = refl
named-with (TileCode t) TheGraph n = refl
named-with (BoardTable x y) AllCode n = refl
named-with (BoardTable x y) (TileCode u) n = refl
named-with (BoardTable x y) (BoardTable a b) n = has-with (board_number x y) (board_number a b) n.boards
named-with (BoardTable x y) TheGraph n = refl
named-with TheGraph AllCode n = refl
named-with TheGraph (TileCode u) n = refl
named-with TheGraph (BoardTable a b) n = refl
named-with TheGraph TheGraph n = refl

same_named : (k j : Subject) (n : Named) → same k j ≡ true → is_named k n ≡ is_named j n
same_named AllCode AllCode n h = refl
same_named AllCode (TileCode u) n h = cc
same_named AllCode (BoardTable a b) n h = cc
same_named AllCode TheGraph n h = cc
same_named (TileCode t) AllCode n h = cc
same_named (TileCode t) (TileCode u) n h = ap (λ (x : ℕ). has x n.tiles) (at_true t u h)
same_named (TileCode t) (BoardTable a b) n h = cc
same_named (TileCode t) TheGraph n h = cc
same_named (BoardTable x y) AllCode n h = cc
same_named (BoardTable x y) (TileCode u) n h = cc
same_named (BoardTable x y) (BoardTable a b) n h = ap (λ (z : ℕ). has z n.boards) (at_true (board_number x y) (board_number a b) h)
same_named (BoardTable x y) TheGraph n h = cc
same_named TheGraph AllCode n h = cc
same_named TheGraph (TileCode u) n h = cc
same_named TheGraph (BoardTable a b) n h = cc
same_named TheGraph TheGraph n h = refl

-- How many sections of a list have a subject.

abbrev pub mark_by : Subject → Option Subject → ℕ
mark_by k None = 0
mark_by k (Some j) = one (same k j)

abbrev pub mark : Subject → Section → ℕ
mark k s = mark_by k (subject_of s)

abbrev pub counted : Subject → List Section → ℕ
counted k [] = 0
counted k (s ∷ ss) = mark k s + counted k ss

pub counted-append : (k : Subject) (xs ys : List Section) → counted k (xs ++ ys) ≡ counted k xs + counted k ys
counted-append k [] ys = omega arith
counted-append k (x ∷ xs) ys = let more = counted-append k xs ys in omega arith

more_by : (o : Option Subject) (n m : Named) (k : Subject) → subject_named n o ≡ Some m → one (is_named k m) ≡ mark_by k o + one (is_named k n)
more_by None n m k h = let e : n ≡ m = cc in omega (arith, ap (λ (x : Named). one (is_named k x)) e)
more_by (Some j) n m k h =
    ⊎_elim (λ e. let f : None ≡ Some m = rw e at h in cc)
    (λ e.
    let f : Some (with_subject j n) ≡ Some m = rw e at h in
    let g : with_subject j n ≡ m = cc in
    let with = ap one (named-with k j n) in
    let sum = one_added (same k j) (is_named k n) (λ s. same_named k j n s ∙ e) in
    sym (ap (λ (x : Named). one (is_named k x)) g) ∙ with ∙ sum) (cases_Bool (is_named j n))

-- what is named with one more section
pub named_more : (s : Section) (n m : Named) (k : Subject) → section_named n s ≡ Some m → one (is_named k m) ≡ mark k s + one (is_named k n)
named_more s n m k h = more_by (subject_of s) n m k h

once_first : (o : Option Subject) (ss : List Section) (n : Named) → ((k : Subject) → mark_by k o + counted k ss + one (is_named k n) ≤ 1)
    → ((m : Named) → ((k : Subject) → counted k ss + one (is_named k m) ≤ 1) → is_some (named_by m ss) ≡ true)
    → is_some (option_and_then (λ more. named_by more ss) (subject_named n o)) ≡ true
once_first None ss n h more = more n (λ k. omega (arith, h k))
once_first (Some j) ss n h more =
    let self = ap one (same_self j) in
    ⊎_elim (λ e. absurd (omega (arith, h j, self, ap one e)))
    (λ e. rw e (more (with_subject j n) (λ k. omega (arith, h k, ap one (named-with k j n), one_or (same k j) (is_named k n)))))
    (cases_Bool (is_named j n))

-- sections with different subjects may come in any order
pub named_once : (ss : List Section) (n : Named) → ((k : Subject) → counted k ss + one (is_named k n) ≤ 1) → is_some (named_by n ss) ≡ true
named_once [] n h = refl
named_once (s ∷ ss) n h = once_first (subject_of s) ss n h (λ m. named_once ss m)
