-- Steps that ask nothing of the tile. Such a step changes registers or memory; the pc and the counts of the thread are
-- written behind the last of them, by `caught_up`.
use Rattle.std.specs.Prelude.{ℕ, zero, suc, ◌≡◌, ◌≤◌, ◌+◌, ◌%◌, ◌^◌, List, Bool, Option, Some, None, MatchOption}
use Rattle.tn_base.specs.Regs.{set_reg}
use Rattle.tn_base.specs.declared.effect.Effect.{Effect}
use Rattle.tn_base.specs.declared.effect.Effect.TheVariants as effect
use Rattle.tn_thread.specs.declared.place.Place.{Place}
use Rattle.tn_thread.specs.declared.place.Place.TheVariants as place
use Rattle.tn_thread.specs.declared.thread.Thread.{Thread}
use Rattle.tn_pages.specs.Numbers.{value_at, written}
use Rattle.tn_pages.specs.Paged.{stored_in}
use Rattle.tn_thread.specs.Memory.{extended}
use Rattle.tn_thread.specs.Sight.{Sight}
use Rattle.tn_thread.specs.Step.{place_of}

-- a thread between such steps: where it goes on, and what the steps changed
pub record Going : Type 0 where
  pub pc : ℕ
  pub thread : Thread

abbrev pub goes_to : ℕ → Thread → Option Going
goes_to target t = Some (record { pc = target; thread = t })

-- the thread goes on behind its instruction
abbrev pub goes_on : ℕ → Thread → Option Going
goes_on pc t = goes_to ((pc + 4) % 2 ^ 32) t

-- a number of `width` bytes is read into a register
abbrev pub reads : ℕ → ℕ → Bool → ℕ → ℕ → Thread → Option Going
reads rd width signed value pc t = goes_on pc (record t { regs = set_reg t.regs rd (extended width signed value) })

-- a load from a message, if the thread holds its slot
abbrev pub reads_message : Option (List ℕ) → ℕ → ℕ → Bool → ℕ → ℕ → Thread → Option Going
reads_message None rd width signed at pc t = None
reads_message (Some message) rd width signed at pc t = reads rd width signed (value_at message at width) pc t

-- a load that does not trap
abbrev pub reads_from : Place → ℕ → ℕ → Bool → Sight → ℕ → Thread → Option Going
reads_from (place.Private at) rd width signed seen pc t = reads rd width signed (value_at t.mem.bytes at width) pc t
reads_from (place.SendSlot at) rd width signed seen pc t = reads rd width signed (value_at t.out.bytes at width) pc t
reads_from (place.Received slot at) rd width signed seen pc t = reads_message (seen.held slot) rd width signed at pc t
reads_from place.Misaligned rd width signed seen pc t = None
reads_from place.Nowhere rd width signed seen pc t = None

-- a store that does not trap
abbrev pub writes_to : Place → ℕ → ℕ → ℕ → Thread → Option Going
writes_to (place.Private at) width value pc t = goes_on pc (record t { mem = stored_in t.mem at width value })
writes_to (place.SendSlot at) width value pc t = goes_on pc (record t { out = record t.out { bytes = written t.out.bytes at width value } })
writes_to (place.Received slot at) width value pc t = None
writes_to place.Misaligned width value pc t = None
writes_to place.Nowhere width value pc t = None

-- a step from `pc` whose instruction has this effect, where it asks nothing of the tile: it goes on, loads or stores, and
-- does not trap. Control registers are not among them
abbrev pub alone : Effect → Sight → ℕ → Thread → Option Going
alone effect.Next seen pc t = goes_on pc t
alone (effect.Jump target) seen pc t = goes_to target t
alone (effect.Load rd addr width signed) seen pc t = reads_from (place_of addr width t) rd width signed seen pc t
alone (effect.Store addr width value) seen pc t = writes_to (place_of addr width t) width value pc t
alone (effect.CsrRead rd csr) seen pc t = None
alone (effect.CsrWrite rd csr value) seen pc t = None
alone (effect.Trap why) seen pc t = None

-- the call says where the thread goes on, and changed what the step changes; or it says nothing, and nothing changed
abbrev pub Goes : Option ℕ → Option Going → Thread → Thread → Type 0
Goes next row old new = MatchOption row ((next ≡ None) × (new ≡ old)) (λ g. (next ≡ Some g.pc) × (new ≡ g.thread))

-- a step that goes on takes at most one page of a stock, and a step that does not go on takes none
abbrev pub StockGoes : Option ℕ → ℕ → ℕ → Type 0
StockGoes next old new = MatchOption next (new ≡ old) (λ pc. old ≤ new + 1)

-- what the last of so many steps gave, where none completed an idle
abbrev pub given_after : ℕ → ℕ → ℕ
given_after zero given = given
given_after (suc n) given = 0

-- the thread at an address after so many steps
abbrev pub caught_up : ℕ → ℕ → Thread → Thread
caught_up n pc t = record t { pc = pc; steps = t.steps + n; given = given_after n t.given }
