-- Steps of a thread of a tile that ask nothing of the tile, one after the other.
use Rattle.std.specs.Prelude.{ℕ, zero, suc, ◌≡◌, ◌<◌, ◌≤◌, ◌+◌, ◌/◌, List, Option, Some, None, option_and_then, option_map, slice_get, slice_index_or, slice_set}
use Rattle.rv_isa.specs.declared.instr.Instr.{Instr}
use Rattle.rv_exec.specs.Exec.{OnAsking, regs_after, step_at}
use Rattle.tn_base.specs.declared.effect.Effect.{Effect}
use Rattle.tn_base.specs.declared.effect.Effect.TheVariants as effect
use Rattle.tn_base.specs.declared.event.Trap.TheVariants as trap
use Rattle.tn_thread.specs.declared.state.ThreadState.TheVariants as state
use Rattle.tn_thread.specs.declared.thread.Thread.{Thread}
use Rattle.tn_thread.specs.Alone.{Going, alone, caught_up}
use Rattle.tn_thread.specs.Sight.{Sight}
use Rattle.tn_thread.specs.Step.{FitsStep}
use Rattle.tn_tile.specs.Step.{fetched_at, no_thread, steps_of, thread_at}
use Rattle.tn_tile.specs.TileView.{TilePlan, TileState}

-- the instruction writes its register, and its effect asks nothing of the tile
abbrev pub alone_by : Instr → Sight → ℕ → Thread → Option Going
alone_by i seen pc t =
    let s = step_at i pc t.regs in
    alone s.effect seen pc (record t { regs = regs_after s.written i.rd t.regs })

-- what stands in the code at `pc` is an instruction whose step asks nothing of the tile
abbrev pub alone_at : Option (Option Instr) → Sight → ℕ → Thread → Option Going
alone_at None seen pc t = None
alone_at (Some None) seen pc t = None
alone_at (Some (Some i)) seen pc t = alone_by i seen pc t

-- the next step over this code, where it asks nothing of the tile
abbrev pub next_alone : List (Option Instr) → Sight → Going → Option Going
next_alone code seen g = alone_at (slice_get code (g.pc / 4)) seen g.pc g.thread

-- so many of them, one after the other
unfoldable pub alone_steps : ℕ → List (Option Instr) → Sight → Going → Option Going
alone_steps zero code seen g = Some g
alone_steps (suc n) code seen g = option_and_then (alone_steps n code seen) (next_alone code seen g)

-- a thread that runs, after so many steps that ask nothing of the tile, with its pc and its counts
abbrev pub went_alone : ℕ → List (Option Instr) → Sight → Thread → Option Thread
went_alone n code seen t = option_map (λ (g : Going). caught_up n g.pc g.thread) (alone_steps n code seen (record { pc = t.pc; thread = t }))

-- an instruction has this effect, and the thread has what it writes to the registers: nothing where the effect asks
abbrev pub Fetches : Option (Option Instr) → Effect → ℕ → Thread → Thread → Type 0
Fetches None e pc old new = (e ≡ effect.Trap trap.BadFetch) × (new ≡ old)
Fetches (Some None) e pc old new = (e ≡ effect.Trap trap.BadInstr) × (new ≡ old)
Fetches (Some (Some i)) e pc old new =
    let s = step_at i pc old.regs in
    (e ≡ s.effect) × (new ≡ record old { regs = regs_after s.written i.rd old.regs }) × OnAsking e (new.regs ≡ old.regs)

-- what stands at `pc` has this effect, and writes no register
abbrev pub AsksAt : Option (Option Instr) → Effect → ℕ → Thread → Type 0
AsksAt None e pc t = e ≡ effect.Trap trap.BadFetch
AsksAt (Some None) e pc t = e ≡ effect.Trap trap.BadInstr
AsksAt (Some (Some i)) e pc t = let s = step_at i pc t.regs in (e ≡ s.effect) × (regs_after s.written i.rd t.regs ≡ t.regs)

-- the next instruction of a thread has this effect, and writes no register
abbrev pub NextIs : List (Option Instr) → Effect → Thread → Type 0
NextIs code e t = (fetched_at (slice_get code (t.pc / 4)) t ≡ record { thread = t; effect = e }) × FitsStep e

-- steps in a row stop before the most only at an instruction that asks
abbrev pub Stops : ℕ → Option Effect → ℕ → List (Option Instr) → Thread → Type 0
Stops n None most code t = n ≡ most
Stops n (Some e) most code t = (n < most) × NextIs code e t

-- the thread at a place runs on after so many steps, and no letter was dropped
abbrev pub StillRuns : ℕ → ℕ → TileState → TileState → Type 0
StillRuns n k old new = ((thread_at new k).state ≡ state.Run) × ((thread_at new k).steps ≡ (thread_at old k).steps + n) × (new.dropped ≡ old.dropped)

-- the thread at a place made at least one step and at most this many, and few letters were dropped
pub record Advanced (plan : TilePlan) (k most n : ℕ) (old new : TileState) : Type 0 where
  pub steps : steps_of plan k n old ≡ Some new
  pub some : 0 < n
  pub few : n ≤ most
  pub count : new.dropped ≤ old.dropped + 512

-- the thread at a place went on alone, and no other thread changed
pub record RanAlone (k n : ℕ) (code : List (Option Instr)) (seen : Sight) (old new : List Thread) : Type 0 where
  pub thread : Thread
  pub went : went_alone n code seen (slice_index_or old k no_thread) ≡ Some thread
  pub put : new ≡ slice_set old k thread
