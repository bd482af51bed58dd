-- Groups of fills.
use Rattle.std.proofs.Common.{ℕ, ◌≡◌, ◌<◌, ◌≤◌, ◌+◌, ◌==◌, ◌∷◌, ◌++◌, ◌∙◌, [], Bool, true, false, cond, List, length, drop, get_or, set, zero, suc, refl, sym, ap, subst, arith, append_assoc, inl, inr, if◌then◌else◌}
use Rattle.std.specs.List.{AllByRecursion}
use Rattle.std.proofs.lemmas.Bool.{cases_eq, eq-eqb, ne_eqb}
use Rattle.std.proofs.lemmas.List.{append-nil, drop_all, get_or-set_other, get_or-set_same, get_or_default, map-append}
use Rattle.job_text.specs.declared.job.FillLine.{FillLine}
use Rattle.job_text.proofs.Sections.{all_push}
use Rattle.job_faults.proofs.Ranges.{rest_first}
use Rattle.job_load.specs.Groups.{AreGroups, ArePlaces, fills_at, group_at, no_fill}
use Rattle.job_load.specs.Images.{fills_of}

-- what holds of all holds of the item that was read
pub item_holds : {X : Type 0} (P : X → Type 0) (xs : List X) (i : ℕ) (x : X) → AllByRecursion P xs → i < length xs → x ≡ get_or xs i x → P x
item_holds P [] i x all less is = absurd (omega (arith, less))
item_holds P (y ∷ ys) zero x all less is = subst P (sym is) all.0
item_holds P (y ∷ ys) (suc i) x all less is = item_holds P ys i x all.1 (omega (arith, less)) is

-- One more group.

pub no_group : (groups : List (List ℕ)) (k : ℕ) → group_at (groups ++ [] ∷ []) k ≡ group_at groups k
no_group [] zero = refl
no_group [] (suc k) = refl
no_group (x ∷ xs) zero = refl
no_group (x ∷ xs) (suc k) = no_group xs k

-- one group is written
pub one_group : (groups : List (List ℕ)) (thread k : ℕ) (group : List ℕ) → thread < length groups →
    group_at (set groups thread group) k ≡ (if thread == k then group else group_at groups k)
one_group groups thread k group h = elim (cases_eq thread k) [
  | inl e ↦ rw (← e, eq-eqb thread thread refl) (get_or-set_same groups thread group [] h)
  | inr ne ↦ rw (ne_eqb thread k ne) (get_or-set_other groups thread k group [] (λ e. ne (sym e)))
]

-- The groups after more fills.

-- the fills of each group, and those of its thread that are left, are all fills of the thread
pub record Gathers (fills rest : List FillLine) (groups : List (List ℕ)) : Type 0 where
  pub each : (k : ℕ) → fills_at fills (group_at groups k) ++ fills_of k rest ≡ fills_of k fills
  pub there : (k : ℕ) → ArePlaces fills (group_at groups k)

-- what one fill adds to the groups
abbrev pub Adds : ℕ → ℕ → List (List ℕ) → List (List ℕ) → Type 0
Adds thread p groups new = (k : ℕ) → group_at new k ≡ (if thread == k then group_at groups k ++ p ∷ [] else group_at groups k)

each_step : (fills : List FillLine) (p : ℕ) (f : FillLine) (rest : List FillLine) (old new : List ℕ) (here : Bool) → get_or fills p no_fill ≡ f →
    new ≡ (if here then old ++ p ∷ [] else old) →
    fills_at fills new ++ rest ≡ fills_at fills old ++ cond here (f ∷ rest) rest
each_step fills p f rest old new true is e =
    ap (λ ps. fills_at fills ps ++ rest) e
    ∙ ap (λ fs. fs ++ rest) (map-append (λ k. get_or fills k no_fill) old (p ∷ []))
    ∙ append_assoc (fills_at fills old) (get_or fills p no_fill ∷ []) rest
    ∙ ap (λ g. fills_at fills old ++ g ∷ rest) is
each_step fills p f rest old new false is e = ap (λ ps. fills_at fills ps ++ rest) e

there_step : (fills : List FillLine) (p : ℕ) (old new : List ℕ) (here : Bool) → p < length fills → ArePlaces fills old →
    new ≡ (if here then old ++ p ∷ [] else old) → ArePlaces fills new
there_step fills p old new true less all e = subst (ArePlaces fills) (sym e) (all_push (λ k. k < length fills) old p all less)
there_step fills p old new false less all e = subst (ArePlaces fills) (sym e) all

pub gathers_more : (fills : List FillLine) (p : ℕ) (f : FillLine) (groups new : List (List ℕ)) → p < length fills → f ≡ get_or fills p f →
    Gathers fills (drop p fills) groups → Adds f.thread p groups new → Gathers fills (drop (p + 1) fills) new
gathers_more fills p f groups new less is g adds =
    let here : get_or fills p no_fill ≡ f = sym (is ∙ get_or_default fills p f no_fill less) in
    let first : Gathers fills (f ∷ drop (p + 1) fills) groups = rw (rest_first fills p f less is) at g in
    record {
      each = λ k. each_step fills p f (fills_of k (drop (p + 1) fills)) (group_at groups k) (group_at new k) (f.thread == k) here (adds k) ∙ first.each k;
      there = λ k. there_step fills p (group_at groups k) (group_at new k) (f.thread == k) less (first.there k) (adds k);
    }

pub gathers_first : (fills : List FillLine) → Gathers fills fills []
gathers_first fills = record { each = λ k. refl; there = λ k. tt }

pub gathers_done : (fills : List FillLine) (p : ℕ) (groups : List (List ℕ)) → length fills ≤ p → Gathers fills (drop p fills) groups → AreGroups fills groups
gathers_done fills p groups h g =
    let done : Gathers fills [] groups = rw (drop_all p fills h) at g in
    record { each = λ k. sym (append-nil (fills_at fills (group_at groups k))) ∙ done.each k; there = done.there }
