-- A dispatch keeps what holds of every softswitch.
use Rattle.std.proofs.Common.{ℕ, ◌<◌, ◌≤◌, ◌≡◌, ◌==◌, ◌∙◌, Bool, true, false, List, [], ◌∷◌, length, get_or, refl, sym, ap, subst, arith, Option, Some, None}
use Rattle.std.specs.Prelude.{is_some, unwrap_or, if◌then◌else◌}
use Rattle.std.specs.Option.{ForSome}
use Rattle.std.proofs.lemmas.List.{length-replicate, length-set}
use Rattle.tn_base.specs.declared.event.Trap.{Trap}
use Rattle.polite_switch.specs.declared.action.SwitchView.{SwitchView}
use Rattle.polite_switch.specs.declared.course.Call.{Call}
use Rattle.polite_switch.specs.declared.course.Course.{Course}
use Rattle.polite_switch.specs.declared.course.Entry.{Entry}
use Rattle.polite_switch.specs.declared.course.Entry.TheVariants as entry
use Rattle.polite_switch.specs.declared.course.Hand.{Hand}
use Rattle.polite_switch.specs.declared.device.InEdge.{InEdge}
use Rattle.polite_switch.specs.declared.row.Row.{Row}
use Rattle.polite_switch.specs.declared.row.Row.TheVariants as row
use Rattle.polite_switch.specs.DeviceModel.{DeviceModel}
use Rattle.polite_switch.specs.Course.{back_of, taken_course}
use Rattle.polite_switch.specs.Device.{AllAligned, AllNamed, edges_at, no_edge}
use Rattle.polite_switch.specs.Kept.{CourseFits, IsKept, RowHolds}
use Rattle.polite_switch.specs.Laws.{by_row}
use Rattle.polite_switch.specs.Ready.{WellQueued, first_of, put_ready}
use Rattle.polite_switch.specs.ReadyModel.{ReadyModel}
use Rattle.polite_switch.specs.SwitchModel.{SwitchModel}
use Rattle.polite_switch.specs.Table.{dispatched, done, edge_after, fault_of, fresh_switch, ready_by, row_of, send_call, taken, taken_ready, unless_fault}
use Rattle.polite_switch.proofs.Lists.{found}
use Rattle.polite_switch.proofs.Rows.{row_holds}
use Rattle.polite_switch.proofs.Queued.{active_kept, first_there, fresh_kept, put_kept}

pub does_row : (v : SwitchView) (s : SwitchModel) → fault_of v s ≡ None → dispatched v s ≡ by_row (row_of v (taken v s)) v s
does_row v s e = ap (λ f. unless_fault f v s) e

same_put : (r : ReadyModel) (d now : ℕ) (sent : Bool) → length (put_ready d now sent r).marks ≡ length r.marks
same_put r d now sent = rw length-set refl

entry_kept : (e : Entry) (d : ℕ) (v : SwitchView) (r : ReadyModel) → d < length r.marks → WellQueued r → WellQueued (ready_by e d v r) × (length (ready_by e d v r).marks ≡ length r.marks)
entry_kept entry.Init d v r l q = (put_kept r d v.a0 false q l, same_put r d v.a0 false)
entry_kept entry.Send d v r l q = (put_kept r d v.a0 true q l, same_put r d v.a0 true)
entry_kept entry.Recv d v r l q = (put_kept r d v.a0 false q l, same_put r d v.a0 false)
entry_kept entry.Step d v r l q =
    let e = same_put r d v.a0 false in
    (active_kept (put_ready d v.a0 false r) d _ (put_kept r d v.a0 false q l) (omega arith), rw length-set e)
entry_kept entry.Finish d v r l q = (q, refl)

ready_kept : (back : Option Call) (v : SwitchView) (r : ReadyModel) → ForSome back (λ call. call.device < length r.marks) → WellQueued r → WellQueued (taken_ready back v r) × (length (taken_ready back v r).marks ≡ length r.marks)
ready_kept None v r h q = (q, refl)
ready_kept (Some call) v r h q = entry_kept call.entry call.device v r (h call refl) q

if_back : (n : ℕ) (b : Bool) (o : Option Call) → ForSome o (λ call. call.device < n) → ForSome (if b then o else None) (λ call. call.device < n)
if_back n true o h = h
if_back n false o h = λ x e. absurd cc

some_call : (n : ℕ) (x : Call) → x.device < n → ForSome (Some x) (λ call. call.device < n)
some_call n x h = λ y e. let q : x ≡ y = cc in subst (λ (call : Call). call.device < n) q h

some_le : (n m : ℕ) → m ≤ n → ForSome (Some m) (λ k. k ≤ n)
some_le n m h = λ y e. let q : m ≡ y = cc in omega arith

stepped_fits : (n k : ℕ) (b : Bool) → k ≤ n → (if b then 0 else k) ≤ n
stepped_fits n k true h = omega arith
stepped_fits n k false h = h

finished_fits : (n : ℕ) (o : Option ℕ) (b : Bool) → ForSome o (λ k. k ≤ n) → ForSome (if b then Some 0 else o) (λ k. k ≤ n)
finished_fits n o true h = some_le n 0 (omega arith)
finished_fits n o false h = h

taken_fits : (n : ℕ) (v : SwitchView) (c : Course) → CourseFits n c → CourseFits n (taken_course v c)
taken_fits n v c h = record {
  call = h.call;
  begun = h.begun;
  stepped = stepped_fits n c.stepped (v.answer == 1) h.stepped;
  finished = finished_fits n c.finished (v.answer == 2) h.finished;
}

taken_kept : (v : SwitchView) (s : SwitchModel) → IsKept s → IsKept (taken v s)
taken_kept v s k =
    let h = if_back (length s.ready.marks) s.course.entered s.course.call (subst (λ n. ForSome s.course.call (λ call. call.device < n)) (sym k.fits.marks) k.fits.course.call) in
    let r = ready_kept (back_of s.course) v s.ready h k.queued in
    record {
      fits = record {
        few = k.fits.few;
        marks = r.1 ∙ k.fits.marks;
        aligned = k.fits.aligned;
        named = k.fits.named;
        course = taken_fits (length s.devices) v s.course k.fits.course;
      };
      queued = r.0;
    }

first_is : (q : List ℕ) → 0 < length q → unwrap_or (first_of q) 0 ≡ get_or q 0 (unwrap_or (first_of q) 0)
first_is [] h = absurd (omega arith)
first_is (x ∷ xs) h = refl

edge_in : (n : ℕ) (lists : List (List InEdge)) (hand : Option Hand) → AllNamed n lists → is_some (edge_after lists hand) ≡ true → (unwrap_or (edge_after lists hand) no_edge).device < n
edge_in n lists None named some = absurd cc
edge_in n lists (Some h) named some =
    let f = found (edges_at lists h.key) h.served no_edge some in
    subst (λ (e : InEdge). e.device < n) (sym f.1) (named.each h.key h.served f.0)

done_fits : (r : Row) (v : SwitchView) (s : SwitchModel) → IsKept s → RowHolds r v s → CourseFits (length s.devices) (done r v s).course
done_fits row.KeySend v s k h = let c = k.fits.course in record { call = c.call; begun = c.begun; stepped = c.stepped; finished = c.finished }
done_fits row.HostSend v s k h = let c = k.fits.course in record { call = c.call; begun = c.begun; stepped = c.stepped; finished = c.finished }
done_fits row.HostWait v s k h = k.fits.course
done_fits row.Init v s k h = let c = k.fits.course in record { call = some_call _ _ h; begun = omega arith; stepped = c.stepped; finished = c.finished }
done_fits row.Recv v s k h = let c = k.fits.course in record { call = some_call _ _ (edge_in _ s.in_edges s.course.hand k.fits.named h); begun = c.begun; stepped = c.stepped; finished = c.finished }
done_fits row.Free v s k h = let c = k.fits.course in record { call = c.call; begun = c.begun; stepped = c.stepped; finished = c.finished }
done_fits row.Step v s k h = let c = k.fits.course in record { call = some_call _ _ h.1; begun = c.begun; stepped = let less = h.1 in omega arith; finished = c.finished }
done_fits row.Finish v s k h = let c = k.fits.course in record { call = some_call _ _ h.2; begun = c.begun; stepped = c.stepped; finished = some_le _ _ (let less = h.2 in omega arith) }
done_fits row.Kill v s k h = k.fits.course
done_fits row.Take v s k h = let c = k.fits.course in record { call = c.call; begun = c.begun; stepped = c.stepped; finished = c.finished }
done_fits row.Send v s k h =
    let c = k.fits.course in
    let there = first_there s.ready.marks s.ready.queue (unwrap_or (first_of s.ready.queue) 0) k.queued h.1 (first_is s.ready.queue h.1) in
    record { call = some_call _ (send_call s (unwrap_or (first_of s.ready.queue) 0)) (subst (λ n. unwrap_or (first_of s.ready.queue) 0 < n) k.fits.marks there); begun = c.begun; stepped = c.stepped; finished = c.finished }
done_fits row.Wait v s k h = k.fits.course
done_fits row.Idle v s k h = k.fits.course

pub row_kept : (r : Row) (v : SwitchView) (s : SwitchModel) → IsKept s → RowHolds r v (taken v s) → IsKept (by_row r v s).switch
row_kept r v s k h =
    let t = taken_kept v s k in
    record {
      fits = record { few = t.fits.few; marks = t.fits.marks; aligned = t.fits.aligned; named = t.fits.named; course = done_fits r v (taken v s) t h };
      queued = t.queued;
    }

pub start_kept : (devices : List DeviceModel) (in_edges : List (List InEdge)) → length devices ≤ 64 → AllAligned devices → AllNamed (length devices) in_edges → IsKept (fresh_switch devices in_edges)
start_kept devices in_edges few aligned named = record {
  fits = record {
    few = few;
    marks = rw length-replicate refl;
    aligned = aligned;
    named = named;
    course = record { call = λ x e. absurd cc; begun = omega arith; stepped = omega arith; finished = λ x e. absurd cc };
  };
  queued = fresh_kept (length devices);
}

kept_by : (v : SwitchView) (s : SwitchModel) (o : Option Trap) → IsKept s → IsKept (unless_fault o v s).switch
kept_by v s None k = row_kept (row_of v (taken v s)) v s k (row_holds v (taken v s))
kept_by v s (Some why) k = k

pub dispatch_kept : (v : SwitchView) (s : SwitchModel) → IsKept s → IsKept (dispatched v s).switch
dispatch_kept v s k = kept_by v s (fault_of v s) k
