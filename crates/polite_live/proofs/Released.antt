-- A thread once a release that is under way is over: it is as it is now, or it is idle now and answered then.
use Rattle.std.proofs.Common.{ℕ, ◌≡◌, ◌⊎◌, ◌∙◌, true, List, get_or, refl, sym, ap, subst, inl, inr}
use Rattle.std.proofs.lemmas.Bool.{cases_lt, cond_both}
use Rattle.tn_base.specs.Address.{place_in_tile}
use Rattle.tn_detect.specs.declared.phase.Phase.{Phase}
use Rattle.tn_detect.specs.declared.phase.Phase.TheVariants as phase
use Rattle.tn_detect.specs.Notes.{value_of}
use Rattle.tn_rows.specs.PartView.{PartView, TileV, RouterV, LinkV, HostV, DetectorV, AbsentV}
use Rattle.tn_rows.specs.Visited.{released_part}
use Rattle.tn_rows.specs.WorldView.{WorldView}
use Rattle.tn_thread.specs.declared.state.ThreadState.TheVariants as state
use Rattle.tn_thread.specs.declared.thread.Thread.{Thread}
use Rattle.tn_thread.specs.Step.{is_idle}
use Rattle.tn_tile.specs.Rows.{told}
use Rattle.tn_tile.specs.Step.{no_thread}
use Rattle.tn_letters.specs.Settled.{detector_on, released_from, settled, settled_in}
use Rattle.tn_letters.specs.Tiles.{part_for, thread_in, thread_of, tile_in}
use Rattle.tn_letters.proofs.Settling.{released_before, released_behind}
use Rattle.polite_live.proofs.Runs.{map_told}

-- a thread that was idle has an answer
pub record Told (t u : Thread) : Type 0 where
  pub idle : is_idle t.state ≡ true
  pub value : ℕ
  pub is : u.state ≡ state.Answered value

abbrev pub Later : Thread → Thread → Type 0
Later t u = (u ≡ t) ⊎ Told t u

told_later : (t : Thread) (value : ℕ) (u : Thread) → Later t u → Later t (told value u)
told_later t value u (inl same) =
    cond_both (is_idle u.state) _ _ (λ (x : Thread). Later t x)
    (λ e. inr (record { idle = ap (λ (x : Thread). is_idle x.state) (sym same) ∙ e; value = value; is = refl })) (λ e. inl same)
told_later t value u (inr told) =
    cond_both (is_idle u.state) _ _ (λ (x : Thread). Later t x)
    (λ e. absurd (let no = sym (ap is_idle told.is) ∙ e in cc)) (λ e. inr told)

part_later : (k value : ℕ) (t : Thread) (x : PartView) → Later t (thread_in (tile_in x) k) → Later t (thread_in (tile_in (released_part value x)) k)
part_later k value t (TileV v) h = subst (Later t) (sym (map_told value v.now.threads k)) (told_later t value (get_or v.now.threads k no_thread) h)
part_later k value t (RouterV v) h = h
part_later k value t (LinkV v) h = h
part_later k value t (HostV s) h = h
part_later k value t (DetectorV v) h = h
part_later k value t AbsentV h = h

released_each : (P : PartView → Type 0) (i value : ℕ) (xs : List PartView) (p : ℕ) → ((x : PartView) → P x → P (released_part value x)) → P (get_or xs p AbsentV) → P (get_or (released_from i value xs) p AbsentV)
released_each P i value xs p keeps h = elim (cases_lt p i) [
  | inl before ↦ subst P (sym (released_before i value xs p before)) h
  | inr behind ↦ subst P (sym (released_behind i value xs p behind)) (keeps (get_or xs p AbsentV) h)
]

settled_each : (P : PartView → Type 0) (ph : Phase) (value : ℕ) (xs : List PartView) (p : ℕ) → ((x : PartView) → P x → P (released_part value x)) → P (get_or xs p AbsentV) → P (get_or (settled_in ph value xs) p AbsentV)
settled_each P phase.Collect value xs p keeps h = h
settled_each P (phase.Confirm i) value xs p keeps h = h
settled_each P (phase.Release i) value xs p keeps h = released_each P i value xs p keeps h
settled_each P (phase.Go i) value xs p keeps h = h

pub settled_later : (w : WorldView) (a : ℕ) → Later (thread_of w a) (thread_of (settled w) a)
settled_later w a =
    let k = place_in_tile w.shape a in
    let t = thread_of w a in
    settled_each (λ x. Later t (thread_in (tile_in x) k)) (detector_on w).phase (value_of (detector_on w).answer) w.parts (part_for w a) (part_later k (value_of (detector_on w).answer) t) (inl refl)
