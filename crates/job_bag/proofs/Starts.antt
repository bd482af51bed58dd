-- The start of an accepted job is a start of the bag machine's law.
use Rattle.std.proofs.Common.{ℕ, ◌≡◌, ◌≤◌, ◌<◌, ◌+◌, Bool, true, false, not, cond, List, [], ◌∷◌, get_or, length, map, zero, suc, refl, sym, ap, subst, ◌∙◌, arith, Some, None, if◌then◌else◌}
use Rattle.std.specs.Prelude.{nat_le}
use Rattle.std.specs.List.{AllByRecursion, cons_option, filter_map, range_with_len}
use Rattle.std.proofs.lemmas.Bool.{and_parts}
use Rattle.std.proofs.lemmas.List.{get_or-map, length-map}
use Rattle.tn_base.specs.declared.part.Kind.{Kind}
use Rattle.tn_base.specs.declared.part.Kind.TheVariants as kind
use Rattle.tn_base.specs.Address.{has_thread}
use Rattle.tn_base.specs.declared.shape.ShapeNumbers.{ShapeNumbers}
use Rattle.tn_base.specs.Bytes.{is_length}
use Rattle.tn_base.specs.Message.{slot_bytes}
use Rattle.tn_base.specs.Parts.{board_at, board_count, kind_of, parts, router_part}
use Rattle.tn_host.specs.declared.script.ScriptItem.{ScriptItem}
use Rattle.tn_host.specs.declared.script.ScriptItem.TheVariants as item
use Rattle.tn_keys.specs.Accepted.{Accepted}
use Rattle.tn_keys.specs.Tables.{Table}
use Rattle.tn_rows.proofs.Neighbours.{kind_router, router_within}
use Rattle.tn_rows.specs.PartView.{AbsentV}
use Rattle.tn_rows.specs.WorldView.{WorldView}
use Rattle.job_text.specs.declared.job.Job.{Job}
use Rattle.job_text.specs.declared.job.ScriptLine.{ScriptLine}
use Rattle.job_text.specs.declared.job.ScriptText.{ScriptText}
use Rattle.job_text.specs.declared.job.ScriptText.TheVariants.{Send, Idle}
use Rattle.job_faults.specs.declared.fault.FaultName.TheVariants as fault
use Rattle.job_faults.specs.declared.fault.LoadFault.{LoadFault}
use Rattle.job_faults.specs.Assembly.{sections_of}
use Rattle.job_faults.specs.Code.{code_of}
use Rattle.job_faults.specs.Faults.{fault_at, is_message, item_fault, send_fault}
use Rattle.job_load.specs.Laws.{HasStarts}
use Rattle.job_load.specs.Laws.{IsStart as IsJobStart}
use Rattle.job_load.specs.Script.{item_of, script_of}
use Rattle.job_load.specs.Start.{board_table, by_address, part_start, start_of, start_tables, thread_start}
use Rattle.job_faults.proofs.Ranges.{all_at}
use Rattle.tn_letters.specs.Law.{IsSendable, IsStart, StartsSo}
use Rattle.tn_letters.specs.Tiles.{beats_on, tables_of}

-- what the host sends are messages of the machine
no_fault : (there message : Bool) (f g : LoadFault) → (if not there then Some f else if message then None else Some g) ≡ None → (there ≡ true) × (message ≡ true)
no_fault true true f g e = (refl, refl)
no_fault true false f g e = cc e
no_fault false message f g e = cc e

item_is : (n : ShapeNumbers) (line : ℕ) (text : ScriptText) (items : List ScriptItem) → item_fault n line text ≡ None → AllByRecursion (IsSendable n) items → AllByRecursion (IsSendable n) (cons_option (item_of text) items)
item_is n line Idle items e all = (tt, all)
item_is n line (Send thread bytes) items e all =
    let fits = no_fault (has_thread n thread) (is_message n (length bytes)) (fault_at line fault.BadThread) (fault_at line fault.BadMessage) e in
    let long = and_parts (is_length (length bytes)) (nat_le (length bytes) (slot_bytes n)) fits.1 in
    subst (λ b. AllByRecursion (IsSendable n) (cons_option (cond b (Some (item.Send (record { 0 = thread }) bytes)) None) items)) (sym long.0) ((fits.0, long.1), all)

items_are : (n : ShapeNumbers) (lines : List ScriptLine) → AllByRecursion (λ l. send_fault n l ≡ None) lines → AllByRecursion (IsSendable n) (filter_map (λ (l : ScriptLine). item_of l.item) lines)
items_are n [] all = tt
items_are n (l ∷ ls) all = item_is n l.line l.item (filter_map (λ (x : ScriptLine). item_of x.item) ls) all.0 (items_are n ls all.1)

part_starts : (job : Job) (k : Kind) → HasStarts job k → AllByRecursion (λ l. send_fault job.numbers l ≡ None) job.script → StartsSo job.numbers (part_start job k)
part_starts job (kind.Tile tile) starts sends = (code_of (sections_of job) tile.0, by_address (thread_start job) job.numbers tile.0, starts, refl)
part_starts job kind.Host starts sends = (script_of job, items_are job.numbers job.script sends, refl)
part_starts job (kind.Router board) starts sends = (board_table job board, refl)
part_starts job (kind.Link from onto) starts sends = refl
part_starts job kind.Detector starts sends = refl

-- the table of each board's router is the job's
router_table : (job : Job) (i : ℕ) → i < board_count job.numbers → beats_on (get_or (map (part_start job) (parts job.numbers)) (router_part job.numbers i) AbsentV) ≡ board_table job (board_at job.numbers i)
router_table job i h =
    let n : ShapeNumbers = job.numbers in
    let e = get_or-map (part_start job) (parts n) (router_part n i) kind.Detector AbsentV (router_within n i h) in
    ap beats_on (e ∙ ap (part_start job) (kind_router n i h))

same_tables : (f g : ℕ → Table) (a count : ℕ) → ((i : ℕ) → a ≤ i → i < a + count → f i ≡ g i) → map f (range_with_len a count) ≡ map g (range_with_len a count)
same_tables f g a zero h = refl
same_tables f g a (suc count) h =
    ap (λ t. t ∷ map f (range_with_len (a + 1) count)) (h a (omega arith) (omega arith))
    ∙ ap (λ ts. g a ∷ ts) (same_tables f g (a + 1) count (λ i low high. h i (omega arith) (omega arith)))

tables_are : (job : Job) → tables_of (start_of job) ≡ start_tables job
unfolding tables_of start_tables
tables_are job =
    same_tables (λ i. beats_on (get_or (map (part_start job) (parts job.numbers)) (router_part job.numbers i) AbsentV)) (λ i. board_table job (board_at job.numbers i)) 0 (board_count job.numbers)
    (λ i low high. router_table job i (omega arith))

start_is : (job : Job) → IsJobStart job (start_of job) → IsStart (start_of job)
start_is job s = record {
  shape = s.numbers;
  world = s.world;
  parts = λ p h.
      let long = length-map (parts job.numbers) (part_start job) in
      let e = get_or-map (part_start job) (parts job.numbers) p kind.Detector AbsentV (omega arith) in
      rw e (part_starts job (kind_of job.numbers p) (all_at (HasStarts job) (parts job.numbers) p kind.Detector s.threads tt) s.sends);
  tables = subst (Accepted job.numbers) (sym (tables_are job)) s.tables;
}

-- what the law of jobs says of a start
pub accepted_start : (job : Job) (start : WorldView) → IsJobStart job start → IsStart start
accepted_start job start s = subst IsStart (sym s.start) (start_is job (subst (λ (w : WorldView). IsJobStart job w) s.start s))
