-- The sections of a job.
use Rattle.std.proofs.Common.{◌≡◌, ℕ, ◌+◌, ◌≤◌, List, [], ◌∷◌, ◌++◌, Option, Some, None, map, refl, sym, ap, subst, ◌∙◌, arith, append_assoc, IfSome}
use Rattle.std.specs.List.{AllByRecursion}
use Rattle.std.proofs.lemmas.List.{map-append}
use Rattle.job_text.specs.declared.job.Job.{Job}
use Rattle.job_text.specs.declared.job.TextSection.{TextSection}
use Rattle.job_text.specs.declared.job.Section.{Section}
use Rattle.job_text.specs.declared.job.Section.TheVariants.{Code, Asm, Fill, Table, Script, Graph}
use Rattle.job_text.specs.declared.named.Subject.{Subject}
use Rattle.job_text.specs.declared.named.Subject.TheVariants.{TheGraph}
use Rattle.job_text.specs.Sections.{graph_sections, job_sections, with_section}
use Rattle.job_text.specs.WellFormed.{IsSection, IsTable}
use Rattle.job_text.proofs.Names.{mark, counted, counted-append}

-- One more section among others.

pub record Inserted (s : Section) (before after : List Section) : Type 0 where
  pub front : List Section
  pub back : List Section
  pub was : before ≡ front ++ back
  pub is : after ≡ front ++ s ∷ back

pushed : {T : Type 0} (f : T → Section) (xs : List T) (x : T) (back : List Section) → Inserted (f x) (map f xs ++ back) (map f (xs ++ x ∷ []) ++ back)
pushed f xs x back = record {
  front = map f xs;
  back = back;
  was = refl;
  is = ap (λ (ys : List Section). ys ++ back) (map-append f xs (x ∷ [])) ∙ append_assoc (map f xs) (f x ∷ []) back;
}

under : (front : List Section) (s : Section) (before after : List Section) → Inserted s before after → Inserted s (front ++ before) (front ++ after)
under front s before after i = record {
  front = front ++ i.front;
  back = i.back;
  was = ap (λ (ys : List Section). front ++ ys) i.was ∙ sym (append_assoc front i.front i.back);
  is = ap (λ (ys : List Section). front ++ ys) i.is ∙ sym (append_assoc front i.front (s ∷ i.back));
}

abbrev codes_in : Job → List Section
codes_in job = map (λ s. Code s) job.codes

abbrev asms_in : Job → List Section
asms_in job = map (λ s. Asm s) job.asms

abbrev fills_in : Job → List Section
fills_in job = map (λ f. Fill f) job.fills

abbrev tables_in : Job → List Section
tables_in job = map (λ t. Table t) job.tables

abbrev script_in : Job → List Section
script_in job = map (λ l. Script l) job.script

-- a job has one graph at most
abbrev pub IsFree : Job → Section → Type 0
IsFree job (Graph s) = job.graph ≡ None
IsFree job _ = Unit {0}

first_graph : (g : Option TextSection) (s : TextSection) → g ≡ None → Inserted (Graph s) (graph_sections g) (Graph s ∷ [])
first_graph g s e = record { front = []; back = []; was = rw e refl; is = refl }

pub inserted : (job : Job) (s : Section) → IsFree job s → Inserted s (job_sections job) (job_sections (with_section job s))
inserted job (Code s) free = pushed (λ x. Code x) job.codes s _
inserted job (Asm s) free = under (codes_in job) (Asm s) _ _ (pushed (λ x. Asm x) job.asms s _)
inserted job (Fill f) free = under (codes_in job) (Fill f) _ _ (under (asms_in job) (Fill f) _ _ (pushed (λ x. Fill x) job.fills f _))
inserted job (Table t) free =
    under (codes_in job) (Table t) _ _ (under (asms_in job) (Table t) _ _ (under (fills_in job) (Table t) _ _ (pushed (λ x. Table x) job.tables t _)))
inserted job (Script l) free =
    under (codes_in job) (Script l) _ _ (under (asms_in job) (Script l) _ _ (under (fills_in job) (Script l) _ _ (under (tables_in job) (Script l) _ _
    (pushed (λ x. Script x) job.script l _))))
inserted job (Graph s) free =
    under (codes_in job) (Graph s) _ _ (under (asms_in job) (Graph s) _ _ (under (fills_in job) (Graph s) _ _ (under (tables_in job) (Graph s) _ _
    (under (script_in job) (Graph s) _ _ (first_graph job.graph s free)))))

-- What holds of each.

all_front : {T : Type 0} (P : T → Type 0) (xs ys : List T) → AllByRecursion P (xs ++ ys) → AllByRecursion P xs
all_front P [] ys h = tt
all_front P (x ∷ xs) ys h = (h.0, all_front P xs ys h.1)

all_back : {T : Type 0} (P : T → Type 0) (xs ys : List T) → AllByRecursion P (xs ++ ys) → AllByRecursion P ys
all_back P [] ys h = h
all_back P (x ∷ xs) ys h = all_back P xs ys h.1

all_join : {T : Type 0} (P : T → Type 0) (xs ys : List T) → AllByRecursion P xs → AllByRecursion P ys → AllByRecursion P (xs ++ ys)
all_join P [] ys h k = k
all_join P (x ∷ xs) ys h k = (h.0, all_join P xs ys h.1 k)

pub all_push : {T : Type 0} (P : T → Type 0) (xs : List T) (x : T) → AllByRecursion P xs → P x → AllByRecursion P (xs ++ x ∷ [])
all_push P xs x h p = all_join P xs (x ∷ []) h (p, tt)

all_inserted : (P : Section → Type 0) (s : Section) (before after : List Section) → Inserted s before after → AllByRecursion P before → P s → AllByRecursion P after
all_inserted P s before after i h p =
    let parts : AllByRecursion P (i.front ++ i.back) = subst (λ (ys : List Section). AllByRecursion P ys) i.was h in
    subst (λ (ys : List Section). AllByRecursion P ys) (sym i.is)
    (all_join P i.front (s ∷ i.back) (all_front P i.front i.back parts) (p, all_back P i.front i.back parts))

counted_inserted : (k : Subject) (s : Section) (before after : List Section) → Inserted s before after → counted k after ≡ counted k before + mark k s
counted_inserted k s before after i =
    let was = ap (counted k) i.was ∙ counted-append k i.front i.back in
    let is = ap (counted k) i.is ∙ counted-append k i.front (s ∷ i.back) in
    omega (arith, was, is)

pub all_with : (P : Section → Type 0) (job : Job) (s : Section) → IsFree job s → AllByRecursion P (job_sections job) → P s → AllByRecursion P (job_sections (with_section job s))
all_with P job s free h p = all_inserted P s (job_sections job) (job_sections (with_section job s)) (inserted job s free) h p

pub counted_with : (k : Subject) (job : Job) (s : Section) → IsFree job s → counted k (job_sections (with_section job s)) ≡ counted k (job_sections job) + mark k s
counted_with k job s free = counted_inserted k s (job_sections job) (job_sections (with_section job s)) (inserted job s free)

-- A graph that is named by no section is not there.

back_least : (k : Subject) (xs ys : List Section) (n : ℕ) → counted k (xs ++ ys) ≤ n → counted k ys ≤ n
back_least k xs ys n h = omega (arith, h, counted-append k xs ys)

no_graph : (g : Option TextSection) → counted TheGraph (graph_sections g) ≤ 0 → g ≡ None
no_graph None h = refl
no_graph (Some s) h = absurd (omega (arith, h))

pub graph_none : (job : Job) → counted TheGraph (job_sections job) ≡ 0 → job.graph ≡ None
graph_none job h =
    let a = back_least TheGraph (codes_in job) _ 0 (omega (arith, h)) in
    let b = back_least TheGraph (asms_in job) _ 0 a in
    let c = back_least TheGraph (fills_in job) _ 0 b in
    let d = back_least TheGraph (tables_in job) _ 0 c in
    no_graph job.graph (back_least TheGraph (script_in job) (graph_sections job.graph) 0 d)

-- What holds of the sections of one kind.

all_mapped : {T : Type 0} (f : T → Section) (P : Section → Type 0) (xs : List T) → AllByRecursion P (map f xs) → AllByRecursion (λ x. P (f x)) xs
all_mapped f P [] h = tt
all_mapped f P (x ∷ xs) h = (h.0, all_mapped f P xs h.1)

pub each_asm : (P : Section → Type 0) (job : Job) → AllByRecursion P (job_sections job) → AllByRecursion (λ s. P (Asm s)) job.asms
each_asm P job h = all_mapped (λ s. Asm s) P job.asms (all_front P (asms_in job) _ (all_back P (codes_in job) _ h))

pub each_table : (P : Section → Type 0) (job : Job) → AllByRecursion P (job_sections job) → AllByRecursion (λ t. P (Table t)) job.tables
each_table P job h =
    all_mapped (λ t. Table t) P job.tables (all_front P (tables_in job) _ (all_back P (fills_in job) _ (all_back P (asms_in job) _ (all_back P (codes_in job) _ h))))

graph_only : (P : Section → Type 0) (g : Option TextSection) → AllByRecursion P (graph_sections g) → IfSome g (λ s. P (Graph s))
graph_only P None h = tt
graph_only P (Some s) h = h.0

pub each_graph : (P : Section → Type 0) (job : Job) → AllByRecursion P (job_sections job) → IfSome job.graph (λ s. P (Graph s))
each_graph P job h =
    graph_only P job.graph
    (all_back P (script_in job) _ (all_back P (tables_in job) _ (all_back P (fills_in job) _ (all_back P (asms_in job) _ (all_back P (codes_in job) _ h)))))

-- the tables of a job that was read
pub tables_are : (job : Job) → AllByRecursion IsSection (job_sections job) → AllByRecursion IsTable job.tables
tables_are job h = each_table IsSection job h
