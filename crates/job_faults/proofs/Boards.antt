-- The tables of boards, and the first board at fault.
use Rattle.std.proofs.Common.{ℕ, ◌≡◌, ◌≤◌, ◌<◌, ◌+◌, ◌-◌, ◌∷◌, ◌++◌, ◌∙◌, [], Bool, true, false, List, Option, Some, None, length, map, option_map, zero, suc, refl, sym, ap, inl, inr, arith, cond, Global}
use Rattle.std.specs.List.{AllByRecursion, cons_option, find, range_with_len}
use Rattle.std.specs.Option.{option_or}
use Rattle.std.specs.Result.{result_ok}
use Rattle.std.specs.declared.result.Result.{Result}
use Rattle.std.proofs.Math.Nat.{div-add-mod}
use Rattle.std.proofs.lemmas.Bool.{cases_eq}
use Rattle.std.proofs.lemmas.List.{length-map, map-append}
use Rattle.std.proofs.lemmas.List.FromFn.{get_or-map-range_with_len, length-map-range_with_len}
use Rattle.std.specs.declared.vec.Vec.{Vec}
use Rattle.tn_base.specs.declared.ids.Board.{Board}
use Rattle.tn_base.specs.declared.shape.ShapeNumbers.{ShapeNumbers}
use Rattle.tn_base.specs.Parts.{board_at, board_count}
use Rattle.tn_keys.specs.declared.beat.Beat.{Beat}
use Rattle.tn_keys.specs.declared.beat.BeatFault.{BeatFault}
use Rattle.tn_keys.specs.declared.fault.TableFault.{TableFault}
use Rattle.tn_keys.specs.declared.record.RouteRec.{RouteRec}
use Rattle.tn_keys.specs.Accepted.{Accepted, board_fault}
use Rattle.tn_keys.specs.Read.{beat_of}
use Rattle.tn_keys.specs.Tables.{Table, board_place, table_at, table_of}
use Rattle.tn_reach.specs.declared.check.TableStop.{TableStop}
use Rattle.tn_reach.specs.declared.check.TableStop.TheVariants.{Fault}
use Rattle.tn_reach.specs.Check.{first_stop, stop_at, table_stop}
use Rattle.job_text.specs.declared.job.BeatLine.{BeatLine}
use Rattle.job_text.specs.declared.job.Job.{Job}
use Rattle.job_text.specs.declared.job.TableSection.{TableSection}
use Rattle.job_text.specs.WellFormed.{IsTable}
use Rattle.job_faults.specs.declared.fault.LoadFault.{LoadFault}
use Rattle.job_faults.specs.declared.tables.ReadTable.{ReadTable}
use Rattle.job_faults.specs.Faults.{beat_from, fault_at}
use Rattle.job_faults.specs.Names.{name_of_table}
use Rattle.job_faults.specs.ReadTables.{as_read, is_on, read_for}
use Rattle.job_faults.specs.Tables.{beats_of, first_found, is_of, section_for, table_by, table_fault, table_for, tables_of, told_at}
use Rattle.job_faults.proofs.Faults.{or_neither}
use Rattle.job_faults.proofs.Ranges.{all_at, all_in_range, all_mapped as mapped_done, more_mapped}

-- Tables.

pub beat_read : (r : Result (List RouteRec) BeatFault) (version : ℕ) (bytes : List ℕ) → r ≡ beat_of version bytes → r ≡ beat_from version bytes
unfolding beat_from
beat_read r version bytes e = e

place_back : (n : ShapeNumbers) (i : ℕ) → board_place n (board_at n i) ≡ i
place_back n i = let e = div-add-mod i n.boards_x in grind arith

pub tables_long : (job : Job) → length (tables_of job) ≡ board_count job.numbers
unfolding tables_of
tables_long job = length-map-range_with_len (λ i. table_for job (board_at job.numbers i)) 0 (board_count job.numbers)

table_at_place : (job : Job) (i : ℕ) → i < board_count job.numbers → table_at (tables_of job) i ≡ table_for job (board_at job.numbers i)
unfolding tables_of
table_at_place job i h = get_or-map-range_with_len (λ k. table_for job (board_at job.numbers k)) 0 (board_count job.numbers) i i [] h (omega arith)

table_is : (job : Job) (i : ℕ) → i < board_count job.numbers → table_of job.numbers (tables_of job) (board_at job.numbers i) ≡ table_for job (board_at job.numbers i)
table_is job i h = rw (place_back job.numbers i) (table_at_place job i h)

kept_few : {X : Type 0} (o : Option X) (xs : List X) (n : ℕ) → length xs ≤ n → length (cons_option o xs) ≤ suc n
kept_few None xs n h = omega arith
kept_few (Some x) xs n h = omega arith

beats_few : (version : ℕ) (lines : List BeatLine) → length (beats_of version lines) ≤ length lines
beats_few version [] = omega arith
beats_few version (l ∷ ls) = kept_few (result_ok (beat_from version l.bytes)) (beats_of version ls) (length ls) (beats_few version ls)

found_few : (version : ℕ) (t : TableSection) (others : Option TableSection) (here : Bool) → length t.beats ≤ 65536 → length (table_by version others) ≤ 65536 →
    length (table_by version (cond here (Some t) others)) ≤ 65536
found_few version t others true h more = let few = beats_few version t.beats in omega (arith, few, h)
found_few version t others false h more = more

table_few : (version : ℕ) (b : Board) (tables : List TableSection) → AllByRecursion IsTable tables → length (table_by version (find (is_of b) tables)) ≤ 65536
table_few version b [] all = omega arith
table_few version b (t ∷ ts) all = found_few version t (find (is_of b) ts) (is_of b t) all.0.few (table_few version b ts all.1)

-- Tables as they were read.

cond_read : {X Y : Type 0} (f : X → Y) (here : Bool) (x : X) (others : Option X) (read : Option Y) → read ≡ option_map f others → cond here (Some (f x)) read ≡ option_map f (cond here (Some x) others)
cond_read f true x others read e = refl
cond_read f false x others read e = e

found_read : (version : ℕ) (b : Board) (tables : List TableSection) → find (is_on b) (map (as_read version) tables) ≡ option_map (as_read version) (find (is_of b) tables)
found_read version b [] = refl
found_read version b (t ∷ ts) = cond_read (as_read version) (is_of b t) t (find (is_of b) ts) (find (is_on b) (map (as_read version) ts)) (found_read version b ts)

-- what was read for a board is what its section gives
pub read_there : (job : Job) (b : Board) (read : List ReadTable) → read ≡ map (as_read job.version) job.tables → read_for read b ≡ option_map (as_read job.version) (section_for job b)
read_there job b read e = ap (find (is_on b)) e ∙ found_read job.version b job.tables

some_read : (version : ℕ) (t : Option TableSection) (r : ReadTable) → Some r ≡ option_map (as_read version) t → r.beats ≡ table_by version t
some_read version None r e = absurd cc
some_read version (Some t) r e = let same : r ≡ as_read version t = cc in ap (λ (x : ReadTable). x.beats) same

none_read : (version : ℕ) (t : Option TableSection) → None ≡ option_map (as_read version) t → [] ≡ table_by version t
none_read version None e = refl
none_read version (Some t) e = absurd cc

pub table_read : (job : Job) (b : Board) (read : List ReadTable) (r : ReadTable) → read ≡ map (as_read job.version) job.tables → Some r ≡ read_for read b → r.beats ≡ table_for job b
table_read job b read r e there = some_read job.version (section_for job b) r (there ∙ read_there job b read e)

pub no_table_read : (job : Job) (b : Board) (read : List ReadTable) → read ≡ map (as_read job.version) job.tables → None ≡ read_for read b → [] ≡ table_for job b
no_table_read job b read e none = none_read job.version (section_for job b) (none ∙ read_there job b read e)

some_told : (version : ℕ) (t : Option TableSection) (r : ReadTable) (found : TableFault) → Some r ≡ option_map (as_read version) t → Some (fault_at r.line (name_of_table found)) ≡ told_at t (Some found)
some_told version None r found e = absurd cc
some_told version (Some t) r found e = let same : r ≡ as_read version t = cc in ap (λ (x : ReadTable). Some (fault_at x.line (name_of_table found))) same

none_told_read : (version : ℕ) (t : Option TableSection) (found : TableFault) → None ≡ option_map (as_read version) t → None ≡ told_at t (Some found)
none_told_read version None found e = refl
none_told_read version (Some t) found e = absurd cc

pub told_read : (job : Job) (b : Board) (read : List ReadTable) (r : ReadTable) (found : TableFault) → read ≡ map (as_read job.version) job.tables → Some r ≡ read_for read b →
    Some (fault_at r.line (name_of_table found)) ≡ told_at (section_for job b) (Some found)
told_read job b read r found e there = some_told job.version (section_for job b) r found (there ∙ read_there job b read e)

pub untold_read : (job : Job) (b : Board) (read : List ReadTable) (found : TableFault) → read ≡ map (as_read job.version) job.tables → None ≡ read_for read b → None ≡ told_at (section_for job b) (Some found)
untold_read job b read found e none = none_told_read job.version (section_for job b) found (none ∙ read_there job b read e)

abbrev Few : Table → Type 0
Few table = length table ≤ 65536

pub tables_few : (job : Job) → AllByRecursion IsTable job.tables → (i : ℕ) → length (table_at (tables_of job) i) ≤ 65536
unfolding tables_of
tables_few job formed i =
    all_at Few (map (λ k. table_for job (board_at job.numbers k)) (range_with_len 0 (board_count job.numbers))) i []
    (all_in_range Few (λ k. table_for job (board_at job.numbers k)) 0 (board_count job.numbers) (λ k less. table_few job.version (board_at job.numbers k) job.tables formed))
    (omega arith)

abbrev items_of : List (Vec Beat Global) → List Table
items_of boards = map (λ v. v.items) boards

pub more_tables : (f : ℕ → Table) (i count : ℕ) (boards : List (Vec Beat Global)) (v : Vec Beat Global) → i < count → v.items ≡ f i →
    items_of (boards ++ v ∷ []) ++ map f (range_with_len (i + 1) (count - (i + 1))) ≡ items_of boards ++ map f (range_with_len i (count - i))
more_tables f i count boards v h e = rw (map-append (λ b. b.items) boards (v ∷ [])) (more_mapped f i count (items_of boards) v.items h e)

pub all_tables : (job : Job) (i count : ℕ) (boards : List (Vec Beat Global)) → count ≡ board_count job.numbers → count ≤ i →
    items_of boards ++ map (λ k. table_for job (board_at job.numbers k)) (range_with_len i (count - i)) ≡ map (λ k. table_for job (board_at job.numbers k)) (range_with_len 0 count) →
    items_of boards ≡ tables_of job
unfolding tables_of
all_tables job i count boards long h e =
    sym (mapped_done (λ k. table_for job (board_at job.numbers k)) i count (items_of boards) h) ∙ e ∙ ap (λ n. map (λ k. table_for job (board_at job.numbers k)) (range_with_len 0 n)) long

pub boards_long : (job : Job) (boards : List (Vec Beat Global)) → items_of boards ≡ tables_of job → length boards ≡ board_count job.numbers
boards_long job boards e = sym (length-map boards (λ v. v.items)) ∙ ap length e ∙ tables_long job

-- The first board at fault. A board without a section shows no fault.

empty_faultless : (n : ShapeNumbers) (tables : List Table) (b : Board) → table_of n tables b ≡ [] → board_fault n tables b ≡ None
empty_faultless n tables b e = rw e refl

silent : (job : Job) (i : ℕ) → i < board_count job.numbers → section_for job (board_at job.numbers i) ≡ None → board_fault job.numbers (tables_of job) (board_at job.numbers i) ≡ None
silent job i h none = empty_faultless job.numbers (tables_of job) (board_at job.numbers i) (table_is job i h ∙ ap (table_by job.version) none)

stop_told : (t : Option TableSection) (o : Option TableFault) (s : ℕ → Option TableSection) (a i : ℕ) (found : TableFault) (stops : Option TableStop) (others : Option LoadFault) →
    t ≡ s a → (t ≡ None → o ≡ None) → stop_at a o stops ≡ Some (Fault i found) → (stops ≡ Some (Fault i found) → others ≡ told_at (s i) (Some found)) →
    option_or (told_at t o) others ≡ told_at (s i) (Some found)
stop_told None None s a i found stops others e quiet h more = more h
stop_told None (Some k) s a i found stops others e quiet h more = absurd (let never = quiet refl in cc)
stop_told (Some t) None s a i found stops others e quiet h more = more h
stop_told (Some t) (Some k) s a i found stops others e quiet h more =
    let here : a ≡ i = cc in
    let kind : k ≡ found = cc in
    rw (← here, ← kind, ← e) refl

stops_told : (f : ℕ → Option TableFault) (s : ℕ → Option TableSection) (a count i : ℕ) (found : TableFault) → ((j : ℕ) → j < a + count → s j ≡ None → f j ≡ None) →
    first_stop f (range_with_len a count) ≡ Some (Fault i found) → first_found (λ j. told_at (s j) (f j)) (range_with_len a count) ≡ told_at (s i) (Some found)
stops_told f s a zero i found quiet h = absurd cc
stops_told f s a (suc count) i found quiet h =
    stop_told (s a) (f a) s a i found (first_stop f (range_with_len (a + 1) count)) (first_found (λ j. told_at (s j) (f j)) (range_with_len (a + 1) count)) refl (quiet a (omega arith)) h
    (stops_told f s (a + 1) count i found (λ j less. quiet j (omega arith)))

told_none : (t : Option TableSection) → told_at t None ≡ None
told_none None = refl
told_none (Some t) = refl

none_told : (f : ℕ → Option TableFault) (s : ℕ → Option TableSection) (a count : ℕ) → ((j : ℕ) → j < a + count → f j ≡ None) → first_found (λ j. told_at (s j) (f j)) (range_with_len a count) ≡ None
none_told f s a zero none = refl
none_told f s a (suc count) none = rw (none a (omega arith), told_none (s a)) (none_told f s (a + 1) count (λ j less. none j (omega arith)))

untold : (t : Option TableSection) (o : Option TableFault) → (t ≡ None → o ≡ None) → told_at t o ≡ None → o ≡ None
untold None o quiet h = quiet refl
untold (Some t) None quiet h = refl
untold (Some t) (Some k) quiet h = absurd cc

none_at : (f : ℕ → Option TableFault) (s : ℕ → Option TableSection) (a count i : ℕ) → ((j : ℕ) → j < a + count → s j ≡ None → f j ≡ None) →
    first_found (λ j. told_at (s j) (f j)) (range_with_len a count) ≡ None → a ≤ i → i < a + count → f i ≡ None
none_at f s a zero i quiet h low high = absurd (omega arith)
none_at f s a (suc count) i quiet h low high =
    let both = or_neither (told_at (s a) (f a)) (first_found (λ j. told_at (s j) (f j)) (range_with_len (a + 1) count)) h in
    elim (cases_eq a i) [
      | inl same ↦ ap f (sym same) ∙ untold (s a) (f a) (quiet a (omega arith)) both.0
      | inr other ↦ none_at f s (a + 1) count i (λ j less. quiet j (omega arith)) both.1 (omega arith) (omega arith)
    ]

abbrev fault_on : Job → ℕ → Option TableFault
fault_on job i = board_fault job.numbers (tables_of job) (board_at job.numbers i)

abbrev section_on : Job → ℕ → Option TableSection
section_on job i = section_for job (board_at job.numbers i)

pub faultless : (job : Job) → table_fault job ≡ None → Accepted job.numbers (tables_of job)
unfolding table_fault
faultless job e = record {
  count = tables_long job;
  faultless = λ i h. none_at (fault_on job) (section_on job) 0 (board_count job.numbers) i (λ j less. silent job j (omega arith)) e (omega arith) (omega arith);
}

-- what the check of tables tells of the first board at fault
pub fault_told : (job : Job) (i : ℕ) (found : TableFault) → table_stop job.numbers (tables_of job) ≡ Some (Fault i found) →
    told_at (section_for job (board_at job.numbers i)) (Some found) ≡ table_fault job
unfolding table_fault
fault_told job i found h = sym (stops_told (fault_on job) (section_on job) 0 (board_count job.numbers) i found (λ j less. silent job j (omega arith)) h)

pub nothing_told : (job : Job) → Accepted job.numbers (tables_of job) → None ≡ table_fault job
unfolding table_fault
nothing_told job all = sym (none_told (fault_on job) (section_on job) 0 (board_count job.numbers) (λ j less. all.faultless j (omega arith)))
