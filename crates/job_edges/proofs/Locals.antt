-- The local keys of hops fit 16 bits, and hops are read back from the copies of a message without bytes.
use Rattle.std.proofs.Common.{ℕ, ◌≡◌, ◌<◌, ◌≤◌, ◌/◌, ◌∷◌, ◌∙◌, ◌||◌, [], List, Bool, true, false, cond, zero, suc, drop, get_or, length, ltb, map, take, refl, sym, ap, arith}
use Rattle.byteorder.specs.Endian.{little_bytes}
use Rattle.byteorder.specs.Numbers.{little_number-reads_back}
use Rattle.std.proofs.lemmas.Bool.{lt-ltb, ltb-false, ltb-true}
use Rattle.std.proofs.lemmas.Bool.Decides.{nat_tests}
use Rattle.std.proofs.lemmas.List.Sums.{sum_by-cons}
use Rattle.std.specs.List.{AllByRecursion, sum_by}
use Rattle.tn_base.specs.declared.shape.ShapeNumbers.{ShapeNumbers}
use Rattle.job_faults.proofs.Faultless.{any_later}
use Rattle.polite_switch.specs.declared.device.InEdge.{InEdge}
use Rattle.polite_routes.specs.declared.target.Pin.{Pin}
use Rattle.polite_routes.specs.declared.target.Target.{Target}
use Rattle.polite_routes.specs.Hops.{Hop, arrives}
use Rattle.polite_routes.specs.Once.{AllFind, AllThere, EachOnce, Lists}
use Rattle.polite_routes.specs.Routes.{keys_full, local_of, pin_at, trees_to}
use Rattle.polite_routes.specs.Targets.{leads_to, reaches}
use Rattle.polite_routes.proofs.Entries.{low_targets}
use Rattle.polite_routes.proofs.Marking.{low_tile, no_target}
use Rattle.job_edges.specs.JobLayout.{hop_of}

-- The trees that reach a tile.

-- a tree that reaches a tile is one more than the trees before it
trees_before : (ps : List Pin) (j i : ℕ) → j < length ps → reaches (pin_at ps j).targets i ≡ true → trees_to (take j ps) i < trees_to ps i
trees_before [] j i h r = absurd (omega arith)
trees_before (p ∷ ps) zero i h r = rw r (omega arith)
trees_before (p ∷ ps) (suc j) i h r = let more = trees_before ps j i (omega arith) r in omega arith

few_trees : (ps : List Pin) (i : ℕ) → keys_full ps ≡ false → i < 256 → trees_to ps i ≤ 65536
unfolding keys_full
few_trees ps i free h = ltb-false 65536 (trees_to ps i) (any_later (λ k. ltb 65536 (trees_to ps k)) 0 256 i free (omega arith) (omega arith))

pub local_small : (ps : List Pin) (j i : ℕ) → keys_full ps ≡ false → j < length ps → i < 256 → reaches (pin_at ps j).targets i ≡ true → local_of ps j i < 65536
local_small ps j i free h low r = let before = trees_before ps j i h r in let few = few_trees ps i free low in omega arith

-- an edge reaches its own tile
reaches_own : (ts : List Target) (k : ℕ) → k < length ts → reaches ts ((get_or ts k no_target).thread.0 / 64) ≡ true
reaches_own [] k h = absurd (omega arith)
reaches_own (t ∷ ts) zero h = grind (arith, nat_tests)
reaches_own (t ∷ ts) (suc k) h = or_later (leads_to ((get_or ts k no_target).thread.0 / 64) t) (reaches ts ((get_or ts k no_target).thread.0 / 64)) (reaches_own ts k (omega arith)) where
  or_later : (a b : Bool) → b ≡ true → (a || b) ≡ true
  or_later true b e = refl
  or_later false b e = e

-- Sums of nothing.

-- 1 for a number that does not fit 16 bits
abbrev over_by : Bool → ℕ
over_by fits = cond fits 0 1

abbrev over : ℕ → ℕ
over k = over_by (ltb k 65536)

over_none : (k : ℕ) → k < 65536 → over k ≡ 0
over_none k h = ap over_by (lt-ltb k 65536 h)

none_over : (k : ℕ) → over k ≡ 0 → k < 65536
none_over k e = by (ltb k 65536) refl e where
  by : (b : Bool) → b ≡ ltb k 65536 → over_by b ≡ 0 → k < 65536
  by true is z = ltb-true k 65536 (sym is)
  by false is z = absurd (omega arith)

sum_nothing : {X : Type 0} (f : X → ℕ) (xs : List X) (d : X) → ((k : ℕ) → k < length xs → f (get_or xs k d) ≡ 0) → sum_by f xs ≡ 0
sum_nothing f [] d none = refl
sum_nothing f (x ∷ xs) d none = let e = sum_by-cons f x xs in let first = none 0 (omega arith) in let rest = sum_nothing f xs d (λ k h. none (suc k) (omega arith)) in omega arith

nothing_each : {X : Type 0} (f : X → ℕ) (xs : List X) (d : X) (k : ℕ) → sum_by f xs ≡ 0 → k < length xs → f (get_or xs k d) ≡ 0
nothing_each f [] d k e h = absurd (omega arith)
nothing_each f (x ∷ xs) d zero e h = let s = sum_by-cons f x xs in omega arith
nothing_each f (x ∷ xs) d (suc k) e h = let s = sum_by-cons f x xs in nothing_each f xs d k (omega arith) (omega arith)

-- Hops.

targets_small : (n : ShapeNumbers) (ps : List Pin) (j : ℕ) → keys_full ps ≡ false → j < length ps → AllThere n (pin_at ps j).targets → sum_by (λ (t : Target). over (local_of ps j (t.thread.0 / 64))) (pin_at ps j).targets ≡ 0
targets_small n ps j free h there =
    let ts : List Target = (pin_at ps j).targets in
    sum_nothing (λ (t : Target). over (local_of ps j (t.thread.0 / 64))) ts no_target
    (λ k less. over_none (local_of ps j ((get_or ts k no_target).thread.0 / 64)) (local_small ps j ((get_or ts k no_target).thread.0 / 64) free h (low_tile ts k (low_targets n ts there) less) (reaches_own ts k less)))

no_in_edge : InEdge
no_in_edge = record { device = 0; value = 0; edge = 0 }

all_small : (hs : List Hop) (d : Hop) → ((k : ℕ) → k < length hs → (get_or hs k d).local < 65536) → AllByRecursion (λ (h : Hop). h.local < 65536) hs
all_small [] d each = tt
all_small (h ∷ hs) d each = (each 0 (omega arith), all_small hs d (λ k less. each (suc k) (omega arith)))

no_hop : Hop
no_hop = record { receiver = 0; local = 0 }

-- hops that find the edges of a pin of these, where no tile is reached by too many trees
pub hops_small : (n : ShapeNumbers) (ps : List Pin) (j : ℕ) (lists : Lists) (hs : List Hop) → keys_full ps ≡ false → j < length ps → AllThere n (pin_at ps j).targets → EachOnce lists hs (pin_at ps j).targets (local_of ps j) → AllFind lists hs
    → AllByRecursion (λ (h : Hop). h.local < 65536) hs
hops_small n ps j lists hs free h there once find =
    let none : sum_by (λ (x : Hop). sum_by (λ (e : InEdge). over x.local) (lists x.receiver x.local)) hs ≡ 0 = once.once (λ a e k. over k) ∙ targets_small n ps j free h there in
    all_small hs no_hop (λ k less.
    let x : Hop = get_or hs k no_hop in
    none_over x.local (nothing_each (λ (e : InEdge). over x.local) (lists x.receiver x.local) no_in_edge 0
    (nothing_each (λ (y : Hop). sum_by (λ (e : InEdge). over y.local) (lists y.receiver y.local)) hs no_hop k none less) (find.found k no_hop less)))

-- Hops are read back.

hop_back : (h : Hop) → h.local < 65536 → hop_of (arrives [] h) ≡ h
hop_back h small = ap (λ k. let x : Hop = record { receiver = h.receiver; local = k } in x) (little_number-reads_back 2 h.local (drop (length (little_bytes 2 h.local)) []) small)

pub hops_back : (hs : List Hop) → AllByRecursion (λ (h : Hop). h.local < 65536) hs → map hop_of (map (arrives []) hs) ≡ hs
hops_back [] small = refl
hops_back (h ∷ hs) small = ap (λ x. x ∷ map hop_of (map (arrives []) hs)) (hop_back h small.0) ∙ ap (λ xs. h ∷ xs) (hops_back hs small.1)
