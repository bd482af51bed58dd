-- What holds of every tile's state holds after each change of a part of it.
use Rattle.std.proofs.Common.{ℕ, ◌≡◌, ◌<◌, List, [], ◌∷◌, length, map, set, refl, ◌∙◌, inl, inr, IsTrue, length-set, Option, None, MatchOption}
use Rattle.std.proofs.lemmas.Bool.{cases_eq, cond_both}
use Rattle.std.proofs.lemmas.List.{get_or-map, get_or-set_same, get_or-set_other, length-map}
use Rattle.tn_base.specs.declared.message.Packet.{Packet}
use Rattle.tn_base.specs.declared.port.Port.{Port}
use Rattle.tn_base.specs.declared.shape.ShapeNumbers.{ShapeNumbers}
use Rattle.tn_base.specs.Address.{in_tile, tile_threads}
use Rattle.tn_node.specs.declared.ports.Ports.{Ports}
use Rattle.tn_node.specs.PortRows.{with_at}
use Rattle.tn_node.proofs.PortLaws.{each_set}
use Rattle.tn_slots.specs.PoolModel.{PoolModel}
use Rattle.tn_slots.specs.Pool.{put_at, queue_at, taken, taken_from}
use Rattle.tn_slots.proofs.Lists.{set_each}
use Rattle.tn_slots.proofs.Owed.{length-appended}
use Rattle.tn_thread.specs.declared.thread.Thread.{Thread}
use Rattle.tn_thread.specs.Step.{is_idle}
use Rattle.tn_tile.specs.declared.sender.Sender.{Sender}
use Rattle.tn_tile.specs.Kept.{HasPlace, IsFit, IsPacket, IsThread, OutFits, PendingFits, PoolFits, ThreadsFit, has_way}
use Rattle.tn_tile.specs.Rows.{told}
use Rattle.tn_tile.specs.Step.{no_thread}
use Rattle.tn_tile.specs.TileView.{TilePlan, TileState}

-- a packet of the machine, or none
abbrev pub FitsIn : ShapeNumbers → Option Packet → Type 0
FitsIn n o = MatchOption o (Unit {0}) (IsPacket n)

-- a packet of the machine, or none, for a way that a tile has
abbrev pub FitsWay : ShapeNumbers → Port → Option Packet → Type 0
FitsWay n way o = MatchOption o (Unit {0}) (λ p. IsPacket n p × IsTrue (has_way way))

-- a thread is replaced
pub threads_set : (n : ShapeNumbers) (tile : ℕ) (ts : List Thread) (k : ℕ) (t : Thread) → k < tile_threads n → IsThread n (in_tile n tile k) t → ThreadsFit n tile ts → ThreadsFit n tile (set ts k t)
threads_set n tile ts k t h fits w = record {
  count = length-set ts k t ∙ w.count;
  each = λ j below. elim (cases_eq j k) [
    | inl e ↦ rw (e, get_or-set_same ts k t no_thread (rw w.count h)) fits
    | inr ne ↦ rw (get_or-set_other ts k j t no_thread ne) (w.each j below)
  ];
}

told_thread : (n : ShapeNumbers) (a value : ℕ) (t : Thread) → IsThread n a t → IsThread n a (told value t)
told_thread n a value t is =
    cond_both (is_idle t.state) _ _ (IsThread n a)
    (λ _. record { id = is.id; shape = is.shape; mem = is.mem; out = is.out; steps = is.steps })
    (λ _. is)

-- the idle threads have their answer
pub threads_told : (n : ShapeNumbers) (tile : ℕ) (ts : List Thread) (value : ℕ) → ThreadsFit n tile ts → ThreadsFit n tile (map (told value) ts)
threads_told n tile ts value w = record {
  count = length-map ts (told value) ∙ w.count;
  each = λ k h.
      let within : k < length ts = rw w.count h in
      rw (get_or-map (told value) ts k no_thread no_thread within) (told_thread n (in_tile n tile k) value _ (w.each k h));
}

-- another packet of the machine, or none, is pending at a thread
pub pending_set : (n : ShapeNumbers) (ps : List (Option Packet)) (k : ℕ) (o : Option Packet) → FitsIn n o → PendingFits n ps → PendingFits n (set ps k o)
pending_set n ps k o fits w = record { count = length-set ps k o ∙ w.count; each = set_each (FitsIn n) ps k o None fits w.each }

-- another packet of the machine, or none, waits for a way out
pub out_set : (n : ShapeNumbers) (way : Port) (o : Option Packet) (out : Ports Packet) → FitsWay n way o → OutFits n out → OutFits n (with_at way o out)
out_set n way o out fits w = λ port. each_set (FitsWay n) way port o out fits w

-- a pool of as many queues and slots, and of slots of one size
pub record SameSizes (old new : PoolModel) : Type 0 where
  pub queues : length new.queues ≡ length old.queues
  pub slots : length new.slots ≡ length old.slots
  pub slot_bytes : new.slot_bytes ≡ old.slot_bytes

taken_by : (k : ℕ) (queue : List ℕ) (p : PoolModel) → SameSizes p (taken_from k queue p)
taken_by k [] p = record { queues = refl; slots = refl; slot_bytes = refl }
taken_by k (s ∷ rest) p = record { queues = length-set p.queues k rest; slots = length-set p.slots s _; slot_bytes = refl }

pub taken_sizes : (k : ℕ) (p : PoolModel) → SameSizes p (taken k p)
taken_sizes k p = taken_by k (queue_at p k) p

pub pool_same : (n : ShapeNumbers) (old new : PoolModel) (from : List Sender) → SameSizes old new → PoolFits n old from → PoolFits n new from
pool_same n old new from same w = record { queues = same.queues ∙ w.queues; slots = same.slots ∙ w.slots; slot_bytes = same.slot_bytes ∙ w.slot_bytes; senders = w.senders }

-- a message is put into a slot
pub pool_put : (n : ShapeNumbers) (p : PoolModel) (from : List Sender) (slot mask : ℕ) (bytes : List ℕ) (sender : Sender) → PoolFits n p from → PoolFits n (put_at slot bytes mask p) (set from slot sender)
pool_put n p from slot mask bytes sender w = record {
  queues = length-appended mask slot p.queues ∙ w.queues;
  slots = length-set p.slots slot _ ∙ w.slots;
  slot_bytes = w.slot_bytes;
  senders = length-set from slot sender ∙ w.senders;
}

-- each place of the tile has what it needs
pub has_place : (plan : TilePlan) (k : ℕ) (s : TileState) → k < tile_threads plan.shape → IsFit plan s → HasPlace k s
has_place plan k s h w = record { thread = rw w.threads.count h; pending = rw w.pending.count h; queue = rw w.pool.queues h }
