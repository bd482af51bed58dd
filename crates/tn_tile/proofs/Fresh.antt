-- A tile at its start.
use Rattle.std.proofs.Common.{ℕ, ◌≡◌, ◌+◌, ◌-◌, List, [], length, set, Some, get_or, refl, ap, ◌∙◌, arith, length-append, replicate, IsTrue, None, ◌∷◌, ◌++◌, inl, inr, ◌<◌}
use Rattle.std.proofs.Math.ListN.{get_or-append}
use Rattle.std.proofs.lemmas.Bool.{cases_lt}
use Rattle.std.proofs.lemmas.List.{get_or_push, length-replicate}
use Rattle.polite_switch.specs.SwitchModel.{SwitchModel}
use Rattle.tn_base.specs.declared.port.Port.TheVariants as port
use Rattle.tn_base.specs.declared.shape.ShapeNumbers.{ShapeNumbers}
use Rattle.tn_base.specs.Address.{has_tile, in_tile, tile_threads}
use Rattle.tn_base.specs.Message.{slot_bytes}
use Rattle.tn_node.specs.PortRows.{no_values}
use Rattle.tn_slots.proofs.Lists.{replicate_each}
use Rattle.tn_thread.specs.declared.thread.Thread.{Thread}
use Rattle.tn_thread.specs.Step.{slot_size}
use Rattle.tn_tile.specs.Kept.{AreStarts, IsThread, OutFits, StartsAt, WellShaped, fresh_tile, with_switches}
use Rattle.tn_tile.specs.Receivers.{dead_in, is_dead}
use Rattle.tn_tile.specs.Step.{no_thread}
use Rattle.tn_tile.proofs.Dead.{none_dead}
use Rattle.tn_tile.proofs.Shaped.{FitsIn}

start_is : (n : ShapeNumbers) (a : ℕ) (t : Thread) → StartsAt n a t → IsThread n a t
start_is n a t s =
    let size : length s.image + (n.mem - length s.image) ≡ n.mem = let fits = s.fits in omega arith in
    let zeros = length-replicate {A = ℕ} (n.mem - length s.image) 0 in
    record {
      id = ap (λ (x : Thread). x.id) s.start;
      shape = ap (λ (x : Thread). x.shape) s.start;
      mem = ap (λ (x : Thread). length x.mem.bytes) s.start ∙ length-append s.image (replicate (n.mem - length s.image) 0) ∙ ap (λ k. length s.image + k) zeros ∙ size;
      out = ap slot_size s.start ∙ length-replicate (slot_bytes n) 0;
      steps = let none : t.steps ≡ 0 = ap (λ (x : Thread). x.steps) s.start in omega arith;
    }

nothing_waits : (n : ShapeNumbers) → OutFits n no_values
nothing_waits n port.East = tt
nothing_waits n port.West = tt
nothing_waits n port.South = tt
nothing_waits n port.North = tt
nothing_waits n port.Up = tt
nothing_waits n port.Down = tt
nothing_waits n port.HostPort = tt
nothing_waits n port.Here = tt

pub fresh_shaped : (n : ShapeNumbers) (tile : ℕ) (words : List ℕ) (threads : List Thread) → IsTrue (has_tile n tile) → AreStarts n tile threads → WellShaped (fresh_tile n tile words threads)
fresh_shaped n tile words threads there starts = record {
  tile = there;
  fits = record {
    threads = record { count = starts.count; each = λ k h. start_is n (in_tile n tile k) (get_or threads k no_thread) (starts.each k h) };
    pool = record { queues = length-replicate (tile_threads n) []; slots = length-replicate n.slots _; slot_bytes = refl; senders = length-replicate n.slots _ };
    pending = record { count = length-replicate (tile_threads n) None; each = replicate_each (FitsIn n) (tile_threads n) None None tt tt };
    out = nothing_waits n;
  };
}

pub none_ended : (n : ShapeNumbers) (tile : ℕ) (threads : List Thread) → AreStarts n tile threads → dead_in threads ≡ 0
none_ended n tile threads starts =
    let count : length threads ≡ tile_threads n = starts.count in
    none_dead threads (λ k h. ap (λ (x : Thread). is_dead x.state) (starts.each k (rw (← count) h)).start)

-- one thread more at its start
pub starts_more : (n : ShapeNumbers) (tile k : ℕ) (ts : List Thread) (t : Thread) → length ts ≡ k → ((j : ℕ) → j < k → StartsAt n (in_tile n tile j) (get_or ts j no_thread)) → StartsAt n (in_tile n tile k) t
    → (j : ℕ) → j < k + 1 → StartsAt n (in_tile n tile j) (get_or (ts ++ t ∷ []) j no_thread)
starts_more n tile k ts t long each new j h =
    elim (cases_lt j k) [
      | inl below ↦ let within : j < length ts = omega arith in rw (get_or-append ts (t ∷ []) no_thread j within) (each j below)
      | inr last ↦ let same : j ≡ k = omega arith in rw (same, get_or_push ts t no_thread k long) new
    ]

-- the last softswitch can be given first
pub switch_last : (ts : List Thread) (ss : List SwitchModel) (s : SwitchModel) → length ss < length ts → with_switches ts (ss ++ s ∷ []) ≡ with_switches (set ts (length ss) (record (get_or ts (length ss) no_thread) { switch = Some s })) ss
switch_last [] ss s h = absurd (omega arith)
switch_last (t ∷ ts) [] s h = refl
switch_last (t ∷ ts) (r ∷ rs) s h = ap (λ (l : List Thread). record t { switch = Some r } ∷ l) (switch_last ts rs s (omega arith))
