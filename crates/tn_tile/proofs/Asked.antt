-- A step that asks: what its instruction gives, and what it makes of the tile.
use Rattle.std.proofs.Common.{ℕ, ◌≡◌, ◌≤◌, ◌/◌, arith, false, List, refl, sym, ap, subst, ◌∙◌, Option, Some, None, is_some, slice_get}
use Rattle.rv_isa.specs.declared.instr.Instr.{Instr}
use Rattle.rv_exec.specs.Exec.{OnAsking, regs_after, step_at}
use Rattle.tn_base.specs.declared.effect.Effect.{Effect}
use Rattle.tn_base.specs.declared.effect.Effect.TheVariants as effect
use Rattle.tn_base.specs.declared.op.Op.TheVariants as op
use Rattle.tn_thread.specs.declared.ask.Ask.{Ask}
use Rattle.tn_thread.specs.declared.state.ThreadState.{ThreadState}
use Rattle.tn_thread.specs.declared.state.ThreadState.TheVariants as state
use Rattle.tn_thread.specs.declared.thread.Thread.{Thread}
use Rattle.tn_thread.specs.Alone.{Goes, Going, alone, caught_up}
use Rattle.tn_thread.specs.Asks.{asks}
use Rattle.tn_thread.specs.Sight.{Sight}
use Rattle.tn_thread.specs.Step.{Stepped, resumed, resumed_by, stepped as thread_stepped}
use Rattle.tn_thread.proofs.Fits.{turned_resumes, turned_runs}
use Rattle.tn_tile.specs.Alone.{AsksAt, Fetches, NextIs, Stops, alone_at}
use Rattle.tn_tile.specs.Step.{due_at, fetched_at, fetched_by, next_step, step_by}
use Rattle.tn_tile.proofs.Due.{due_not, not_due}
use Rattle.tn_tile.proofs.Turned.{fetched_runs, turned_from}

-- a call that does not go on changed nothing
goes_none : (row : Option Going) (t new : Thread) → Goes None row t new → new ≡ t
goes_none None t new h = h.1
goes_none (Some g) t new h = let none = h.0 in cc

-- an effect that does not go on asks
asking : (e : Effect) (seen : Sight) (pc : ℕ) (t old new : Thread) (P : Type 0) → Goes None (alone e seen pc t) old new → OnAsking e P → P
asking effect.Next seen pc t old new P h p = let none = h.0 in cc
asking (effect.Jump target) seen pc t old new P h p = let none = h.0 in cc
asking (effect.Load rd addr width signed) seen pc t old new P h p = p
asking (effect.Store addr width value) seen pc t old new P h p = p
asking (effect.CsrRead rd csr) seen pc t old new P h p = p
asking (effect.CsrWrite rd csr value) seen pc t old new P h p = p
asking (effect.Trap why) seen pc t old new P h p = p

-- the instruction at which such steps stop, executed on the thread that is caught up: it asks, and changes nothing
asked_at : (o : Option (Option Instr)) (e : Effect) (seen : Sight) (n pc : ℕ) (t mid : Thread) → Goes None (alone_at o seen pc t) t t → Fetches o e pc (caught_up n pc t) mid → AsksAt o e pc t × (mid ≡ caught_up n pc t)
asked_at None e seen n pc t mid h f = f
asked_at (Some None) e seen n pc t mid h f = f
asked_at (Some (Some i)) e seen n pc t mid h f =
    let s = step_at i pc t.regs in
    let written : Thread = record t { regs = regs_after s.written i.rd t.regs } in
    let g : Goes None (alone e seen pc written) t t = subst (λ x. Goes None (alone x seen pc written) t t) (sym f.0) h in
    let kept : mid.regs ≡ t.regs = asking e seen pc written t t (mid.regs ≡ t.regs) g f.2 in
    let same : regs_after s.written i.rd t.regs ≡ t.regs = sym (ap (λ (x : Thread). x.regs) f.1) ∙ kept in
    ((f.0, same), f.1 ∙ ap (λ r. record (caught_up n pc t) { regs = r }) same)

pub asked_again : (o : Option (Option Instr)) (e : Effect) (seen : Sight) (n pc : ℕ) (t u mid : Thread) → Goes None (alone_at o seen pc t) t u → Fetches o e pc (caught_up n pc u) mid → AsksAt o e pc t × (mid ≡ caught_up n pc t)
asked_again o e seen n pc t u mid h f =
    let same : u ≡ t = goes_none (alone_at o seen pc t) t u h in
    asked_at o e seen n pc t mid (subst (λ (x : Thread). Goes None (alone_at o seen pc t) t x) same h) (subst (λ (x : Thread). Fetches o e pc (caught_up n pc x) mid) same f)

-- so its effect is the next one of the thread that is caught up
pub asked_next : (o : Option (Option Instr)) (e : Effect) (n pc : ℕ) (t : Thread) → AsksAt o e pc t → fetched_at o (caught_up n pc t) ≡ record { thread = caught_up n pc t; effect = e }
asked_next None e n pc t h = ap (λ x. record { thread = caught_up n pc t; effect = x }) (sym h)
asked_next (Some None) e n pc t h = ap (λ x. record { thread = caught_up n pc t; effect = x }) (sym h)
asked_next (Some (Some i)) e n pc t h =
    let p = h.1 in
    let q = sym h.0 in
    λ k. record { thread = record (caught_up n pc t) { regs = p k }; effect = q k }

-- steps in a row are at most the most
pub stops_few : (n : ℕ) (e : Option Effect) (most : ℕ) (code : List (Option Instr)) (t : Thread) → Stops n e most code t → n ≤ most
stops_few n None most code t h = omega (arith, h)
stops_few n (Some e) most code t h = let less = h.0 in omega arith

-- the next step of a thread that runs, by the effect of its instruction, where no dispatch is due
pub next_by : (code : List (Option Instr)) (e : Effect) (seen : Sight) (t : Thread) → t.state ≡ state.Run → is_some (due_at (slice_get code (t.pc / 4)) t) ≡ false → NextIs code e t → next_step code seen t ≡ thread_stepped e seen t
next_by code e seen t run none next =
    not_due code seen t run none ∙ ap (turned_from seen) (fetched_runs t.state code t run ∙ next.0) ∙ turned_runs t.state e seen t run

-- the same, where the instruction wrote to the registers before
pub next_from : (code : List (Option Instr)) (e : Effect) (seen : Sight) (t u : Thread) → t.state ≡ state.Run → u.state ≡ state.Run → is_some (due_at (slice_get code (t.pc / 4)) t) ≡ false → record { thread = u; effect = e } ≡ fetched_at (slice_get code (t.pc / 4)) t → next_step code seen t ≡ thread_stepped e seen u
next_from code e seen t u run runs none fetched =
    not_due code seen t run none ∙ ap (turned_from seen) (fetched_runs t.state code t run ∙ sym fetched) ∙ turned_runs u.state e seen u runs

-- a thread that does not run executes no instruction
fetched_stays : (s : ThreadState) (code : List (Option Instr)) (t : Thread) → (s ≡ state.Run → ⊥) → fetched_by s code t ≡ record { thread = t; effect = effect.Next }
fetched_stays state.Run code t not_run = absurd (not_run refl)
fetched_stays (state.Wait waits) code t not_run = refl
fetched_stays (state.Idle vote) code t not_run = refl
fetched_stays (state.Answered value) code t not_run = refl
fetched_stays (state.Dead value) code t not_run = refl
fetched_stays (state.Trapped why) code t not_run = refl

-- its completion asks nothing
resumed_none : (s : ThreadState) (t : Thread) → (resumed_by s t).op ≡ op.None
resumed_none state.Run t = refl
resumed_none (state.Wait waits) t = refl
resumed_none (state.Idle vote) t = refl
resumed_none (state.Answered value) t = refl
resumed_none (state.Dead value) t = refl
resumed_none (state.Trapped why) t = refl

-- so the next step of such a thread asks nothing
pub next_woken : (code : List (Option Instr)) (seen : Sight) (t new : Thread) (a : Ask) → (t.state ≡ state.Run → ⊥) → asks a new ≡ resumed t → record { thread = new; op = op.None } ≡ next_step code seen t
next_woken code seen t new a not_run e =
    let none : next_step code seen t ≡ step_by None code seen t = ap (λ d. step_by d code seen t) (due_not t.state code t not_run) in
    let step : next_step code seen t ≡ resumed t = none ∙ ap (turned_from seen) (fetched_stays t.state code t not_run) ∙ turned_resumes t.state effect.Next seen t not_run in
    let thread : new ≡ (resumed t).thread = ap (λ (x : Stepped). x.thread) e in
    let nothing : op.None ≡ (resumed t).op = sym (resumed_none t.state t) in
    (λ i. record { thread = thread i; op = nothing i }) ∙ sym step
