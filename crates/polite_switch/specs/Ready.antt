-- Which devices are ready.
use Rattle.std.specs.Prelude.{ℕ, ◌≡◌, ◌==◌, ◌&&◌, ◌||◌, not, Bool, true, false, List, [], ◌∷◌, ◌++◌, length, nat_lt, replicate, count_by, filter, slice_index_or, slice_set, if◌then◌else◌, Option, Some, None}
use Rattle.polite_switch.specs.declared.ready.Mark.{Mark}
use Rattle.polite_switch.specs.ReadyModel.{ReadyModel}

-- what is read past the last device
abbrev pub no_mark : Mark
no_mark = record { ready = 0; active = false }

abbrev pub mark_at : List Mark → ℕ → Mark
mark_at marks d = slice_index_or marks d no_mark

-- n devices at the start: active, and not ready
abbrev pub fresh_ready : ℕ → ReadyModel
fresh_ready n = record { marks = replicate n (record { ready = 0; active = true }); queue = [] }

abbrev pub is_ready : Mark → Bool
is_ready m = nat_lt 0 m.ready

abbrev pub is_active : Mark → Bool
is_active m = m.active

-- a device that was ready leaves its place where it is ready no more, and after its send
abbrev pub leaves : ℕ → ℕ → Bool → Bool
leaves was now sent = nat_lt 0 was && (sent || now == 0)

-- a device that is ready comes to the end where it was not ready before, and after its send
abbrev pub joins : ℕ → ℕ → Bool → Bool
joins was now sent = nat_lt 0 now && (sent || was == 0)

abbrev pub without : ℕ → List ℕ → List ℕ
without d queue = filter (λ x. not (x == d)) queue

abbrev pub after_leaving : Bool → ℕ → List ℕ → List ℕ
after_leaving leaving d queue = if leaving then without d queue else queue

abbrev pub after_joining : Bool → ℕ → List ℕ → List ℕ
after_joining joining d queue = if joining then queue ++ d ∷ [] else queue

-- the queue after device d, which was ready for one pin, is ready for another; 0 is none
abbrev pub requeued : ℕ → ℕ → ℕ → Bool → List ℕ → List ℕ
requeued d was now sent queue = after_joining (joins was now sent) d (after_leaving (leaves was now sent) d queue)

-- a handler of device d returned its readiness; sent tells that it was its send handler
abbrev pub put_ready : ℕ → ℕ → Bool → ReadyModel → ReadyModel
put_ready d now sent r = record {
  marks = slice_set r.marks d (record { ready = now; active = (mark_at r.marks d).active });
  queue = requeued d (mark_at r.marks d).ready now sent r.queue;
}

abbrev pub put_active : ℕ → Bool → ReadyModel → ReadyModel
put_active d active r = record {
  marks = slice_set r.marks d (record { ready = (mark_at r.marks d).ready; active = active });
  queue = r.queue;
}

-- the first ready device
abbrev pub first_of : List ℕ → Option ℕ
first_of [] = None
first_of (d ∷ rest) = Some d

-- how often d is in the queue
abbrev pub times : ℕ → List ℕ → ℕ
times d queue = count_by (λ x. x == d) queue

-- exactly the ready devices are in the queue, each once
pub record WellQueued (r : ReadyModel) : Type 0 where
  pub each : (d : ℕ) → times d r.queue ≡ (if is_ready (mark_at r.marks d) then 1 else 0)
  pub long : length r.queue ≡ count_by is_ready r.marks
