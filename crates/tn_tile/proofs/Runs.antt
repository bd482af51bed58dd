-- Steps that ask nothing of the tile, one after the other, are steps.
use Rattle.std.proofs.Common.{ℕ, ◌≡◌, ◌+◌, ◌/◌, suc, zero, add-one, List, refl, sym, ap, subst, Option, Some, None, option_and_then, option_map, slice_get}
use Rattle.rv_isa.specs.declared.instr.Instr.{Instr}
use Rattle.rv_exec.specs.Exec.{regs_after, step_at}
use Rattle.tn_thread.specs.declared.thread.Thread.{Thread}
use Rattle.tn_thread.specs.Alone.{Going, Goes, caught_up}
use Rattle.tn_thread.specs.Sight.{Sight}
use Rattle.tn_thread.proofs.AloneSteps.{Stays, alone_stays, stays_self, stays_more}
use Rattle.tn_tile.specs.Alone.{alone_at, alone_by, alone_steps, next_alone, went_alone}

-- the first step of none, and one more after the last
pub alone_none : (code : List (Option Instr)) (seen : Sight) (g : Going) → alone_steps 0 code seen g ≡ Some g
unfolding alone_steps
alone_none code seen g = refl

after_first : (first rest : Going → Option Going) (o : Option Going) (h j : Going) → ((g : Going) → first g ≡ Some h → rest g ≡ Some j) → option_and_then first o ≡ Some h → option_and_then rest o ≡ Some j
after_first first rest None h j each e = cc e
after_first first rest (Some g) h j each e = each g e

pub alone_more : (n : ℕ) (code : List (Option Instr)) (seen : Sight) (g h j : Going) → alone_steps n code seen g ≡ Some h → next_alone code seen h ≡ Some j → alone_steps (suc n) code seen g ≡ Some j
unfolding alone_steps
alone_more zero code seen g h j e f =
    let same : h ≡ g = cc e in
    let first : next_alone code seen g ≡ Some j = subst (λ x. next_alone code seen x ≡ Some j) same f in
    ap (λ o. option_and_then (alone_steps 0 code seen) o) first
alone_more (suc n) code seen g h j e f =
    after_first (alone_steps n code seen) (alone_steps (suc n) code seen) (next_alone code seen g) h j (λ x p. alone_more n code seen x h j p f) e

-- a call that says where the thread goes on made the step
pub goes_is : (r : Option ℕ) (row : Option Going) (old new : Thread) (n : ℕ) → Goes r row old new → r ≡ Some n → row ≡ Some (record { pc = n; thread = new })
goes_is r None old new n h e = let none = h.0 in cc
goes_is r (Some g) old new n h e =
    let next = h.0 in
    let p : g.pc ≡ n = cc in
    let q : g.thread ≡ new = sym h.1 in
    λ k. Some (record { pc = p k; thread = q k })

by_stays : (i : Instr) (seen : Sight) (pc : ℕ) (t : Thread) (g : Going) → alone_by i seen pc t ≡ Some g → Stays t g.thread
by_stays i seen pc t g e =
    let s = step_at i pc t.regs in
    let stays = alone_stays s.effect seen pc (record t { regs = regs_after s.written i.rd t.regs }) g e in
    let k = stays.keeps in
    record { state = stays.state; steps = stays.steps; keeps = record { id = k.id; shape = k.shape; firmware = k.firmware; mem = k.mem; out = k.out } }

pub at_stays : (o : Option (Option Instr)) (seen : Sight) (pc : ℕ) (t : Thread) (g : Going) → alone_at o seen pc t ≡ Some g → Stays t g.thread
at_stays None seen pc t g e = cc e
at_stays (Some None) seen pc t g e = cc e
at_stays (Some (Some i)) seen pc t g e = by_stays i seen pc t g e

-- one more step of the loop
pub record Further (n : ℕ) (code : List (Option Instr)) (seen : Sight) (start t : Thread) (pc : ℕ) : Type 0 where
  pub steps : alone_steps n code seen (record { pc = start.pc; thread = start }) ≡ Some (record { pc = pc; thread = t })
  pub stays : Stays start t

pub further : (n : ℕ) (code : List (Option Instr)) (seen : Sight) (start t new : Thread) (pc next : ℕ) → Further n code seen start t pc → alone_at (slice_get code (pc / 4)) seen pc t ≡ Some (record { pc = next; thread = new }) → Further (n + 1) code seen start new next
further n code seen start t new pc next f step =
    record {
      steps = rw add-one (alone_more n code seen (record { pc = start.pc; thread = start }) (record { pc = pc; thread = t }) (record { pc = next; thread = new }) f.steps step);
      stays = stays_more start t new f.stays (at_stays (slice_get code (pc / 4)) seen pc t (record { pc = next; thread = new }) step);
    }

-- the start of the loop
pub further_none : (code : List (Option Instr)) (seen : Sight) (start : Thread) (pc : ℕ) → pc ≡ start.pc → Further 0 code seen start start pc
further_none code seen start pc e = record { steps = rw e (alone_none code seen (record { pc = start.pc; thread = start })); stays = stays_self start }

-- the thread caught up behind the last of the steps
pub went_is : (n : ℕ) (code : List (Option Instr)) (seen : Sight) (start t : Thread) (pc : ℕ) → Further n code seen start t pc → went_alone n code seen start ≡ Some (caught_up n pc t)
went_is n code seen start t pc f = ap (λ o. option_map (λ (g : Going). caught_up n g.pc g.thread) o) f.steps
