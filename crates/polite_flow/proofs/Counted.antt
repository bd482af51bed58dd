-- In a walk each event changes the counter of a part by at most 1, so no counter comes to its end in fewer than 2 ^ 50 events.
use Rattle.std.proofs.Common.{ℕ, ◌≡◌, ◌<◌, ◌+◌, ◌^◌, Bool, true, false, refl, sym, ap, subst, List, [], ◌∷◌, length, inl, inr, arith, Some}
use Rattle.std.specs.Prelude.{ℤ, pos, ◌+ℤ◌, ◌-ℤ◌, ◌<ℤ◌, ◌≤ℤ◌, neg_ℤ, int_lt}
use Rattle.std.proofs.lemmas.Bool.{cases_eq}
use Rattle.std.proofs.lemmas.Int.{ints}
use Rattle.tn_base.specs.declared.event.Event.{Event}
use Rattle.tn_base.specs.declared.shape.ShapeNumbers.{ShapeNumbers}
use Rattle.tn_base.specs.Parts.{visited}
use Rattle.tn_base.specs.Shape.{WithinLimits}
use Rattle.tn_node.specs.declared.node.Node.{Node}
use Rattle.tn_quiet.specs.Law.{IsQuietWorld}
use Rattle.tn_quiet.specs.Machine.{link_count, rest_of, shown}
use Rattle.tn_quiet.proofs.Machines.{steps}
use Rattle.tn_quiet.proofs.Runs.{event_quiet, kept_at}
use Rattle.tn_rest.specs.declared.facts.Facts.{Facts}
use Rattle.tn_rest.specs.Happens.{Announce, Arrive, Begin, Confirm, Depart, Go, Happens, OnPart, Release, Report, RestEvent, Work}
use Rattle.tn_rest.specs.RestView.{RestView, Same}
use Rattle.tn_rest.specs.Seen.{seen}
use Rattle.tn_rest.proofs.Seen.{happens}
use Rattle.tn_rows.specs.Events.{happened}
use Rattle.tn_rows.specs.Places.{places}
use Rattle.tn_rows.specs.Runs.{Walk}
use Rattle.tn_rows.specs.WorldView.{WorldView}
use Rattle.polite_flow.specs.Able.{NodeAble}

-- ---- one event

-- two numbers differ by at most 1
record Near (a b : ℤ) : Type 0 where
  pub up : b ≤ℤ (a +ℤ pos 1)
  pub down : a ≤ℤ (b +ℤ pos 1)

same_near : (a b : ℤ) → b ≡ a → Near a b
same_near a b e = record { up = omega (arith, ints); down = omega (arith, ints) }

more_near : (a b : ℤ) → b ≡ a +ℤ pos 1 → Near a b
more_near a b e = record { up = omega (arith, ints); down = omega (arith, ints) }

less_near : (a b : ℤ) → b +ℤ pos 1 ≡ a → Near a b
less_near a b e = record { up = omega (arith, ints); down = omega (arith, ints) }

abbrev counter_of : RestView → ℕ → ℤ
counter_of w k = (w.part k).view.counter

all_same : (old new : RestView) (k : ℕ) → Same old.part new.part → Near (counter_of old k) (counter_of new k)
all_same old new k same = same_near (counter_of old k) (counter_of new k) (ap (λ (f : Facts). f.view.counter) (same k))

one_near : (n j : ℕ) (old new : RestView) (k : ℕ) → OnPart n j old new → Near (counter_of old j) (counter_of new j) → Near (counter_of old k) (counter_of new k)
one_near n j old new k on near = elim (cases_eq k j) [
  | inl e ↦ subst (λ i. Near (counter_of old i) (counter_of new i)) (sym e) near
  | inr ne ↦ same_near (counter_of old k) (counter_of new k) (ap (λ (f : Facts). f.view.counter) (on.part.other k ne))
]

near : (n m : ℕ) (e : RestEvent) (old new : RestView) (k : ℕ) → Happens n m e old new → Near (counter_of old k) (counter_of new k)
near n m (Work j) old new k h = one_near n j old new k h.0 (same_near _ _ h.1.counter)
near n m (Depart j l) old new k h = one_near n j old new k h.0 (more_near _ _ h.1.counter)
near n m (Arrive l j) old new k h = one_near n j old new k h.0 (less_near _ _ h.1.counter)
near n m (Report j) old new k h = one_near n j old new k h.0 (same_near _ _ h.1.counter)
near n m Begin old new k h = all_same old new k h.0.part
near n m (Confirm j) old new k h = all_same old new k h.0.part
near n m Announce old new k h = all_same old new k h.0.part
near n m (Release j) old new k h = one_near n j old new k h.0 (same_near _ _ h.1.counter)
near n m (Go j) old new k h = one_near n j old new k h.0 (same_near _ _ h.1.counter)

-- ---- a walk

-- a counter after this many events
pub record IsCount (events : ℕ) (c : ℤ) : Type 0 where
  pub above : pos 0 ≤ℤ (c +ℤ pos events)
  pub below : c ≤ℤ pos events

count_on : (events : ℕ) (a b : ℤ) → IsCount events a → Near a b → IsCount (events + 1) b
count_on events a b c x =
    let above = c.above in
    let below = c.below in
    let up = x.up in
    let down = x.down in
    record { above = omega (arith, ints); below = omega (arith, ints) }

abbrev Counted : ℕ → WorldView → Type 0
Counted events w = (k : ℕ) → IsCount events (counter_of (rest_of w) k)

event_counts : (events : ℕ) (e : Event) (w new : WorldView) → WithinLimits w.shape → IsQuietWorld w → Counted events w → happened e w ≡ Some new → Counted (events + 1) new
event_counts events e w new limits q c h k =
    let s = steps e w new limits q.world h in
    let n = visited w.shape in
    let m = link_count w.shape in
    let all = happens n m s.event (shown w) (shown new) s.steps in
    let same : new.shape ≡ w.shape = (kept_at e w new (places w.shape e) q.world h).1 in
    let x = near n m s.event (seen n m (shown w)) (seen n m (shown new)) k all in
    let count = count_on events (counter_of (rest_of w) k) (counter_of (seen n m (shown new)) k) (c k) x in
    subst (λ (z : ShapeNumbers). IsCount (events + 1) (counter_of (seen (visited z) (link_count z) (shown new)) k)) (sym same) count

pub walk_counts : (es : List Event) (events : ℕ) (w end : WorldView) → WithinLimits w.shape → IsQuietWorld w → Counted events w → Walk w es end → Counted (events + length es) end
walk_counts [] events w end limits q c walk = λ k. (let none : events ≡ events + 0 = omega arith in subst (λ i. IsCount i (counter_of (rest_of end) k)) none (subst (λ (v : WorldView). IsCount events (counter_of (rest_of v) k)) walk (c k)))
walk_counts (e ∷ es) events w end limits q c walk =
    let next = event_quiet e w walk.0 limits q walk.1 in
    let same : walk.0.shape ≡ w.shape = (kept_at e w walk.0 (places w.shape e) q.world walk.1).1 in
    let rest = walk_counts es (events + 1) walk.0 end (subst WithinLimits (sym same) limits) next (event_counts events e w walk.0 limits q c walk.1) walk.2 in
    let total : events + 1 + length es ≡ events + length (e ∷ es) = omega arith in
    λ k. subst (λ i. IsCount i (counter_of (rest_of end) k)) total (rest k)

-- ---- what a count of few events leaves

less_is : (a b : ℤ) → a <ℤ b → int_lt a b ≡ true
less_is a b h = by (int_lt a b) refl where
  by : (t : Bool) → int_lt a b ≡ t → t ≡ true
  by true e = refl
  by false e = absurd (omega (arith, ints))

pub node_able : (s : Node) (events : ℕ) → events < 2 ^ 50 → IsCount events s.counter → NodeAble s
node_able s events few c =
    let above = c.above in
    let below = c.below in
    record {
      gives = less_is s.counter (pos (2 ^ 63) -ℤ pos 1) (omega (arith, ints));
      takes = less_is (neg_ℤ (pos (2 ^ 63))) s.counter (omega (arith, ints));
    }

pub start_counts : (c : ℤ) → c ≡ pos 0 → IsCount 0 c
start_counts c e = record { above = omega (arith, ints); below = omega (arith, ints) }
