-- Which two parts an event is on, among so many parts.
use Rattle.std.specs.Prelude.{ℕ, ◌≡◌, ◌<◌, ◌-◌, ◌==◌, ◌&&◌, ◌⊎◌, Bool, false, List, Option, Some, None, filter}
use Rattle.std.specs.List.{All}
use Rattle.tn_base.specs.declared.event.Event.{Event}
use Rattle.tn_base.specs.declared.event.Event.TheVariants as event
use Rattle.tn_stamp.specs.declared.entry.Entry.{Entry}

pub record Pair : Type 0 where
  pub low : ℕ
  pub high : ℕ

abbrev pub pair : ℕ → ℕ → Option Pair
pair low high = Some (record { low = low; high = high })

-- the two parts of an event, the host, tile or router first; none where it is on one part
abbrev pub pair_of : ℕ → Event → Option Pair
pair_of n (event.Turn t steps) = None
pair_of n (event.Deliver t) = None
pair_of n (event.Depart p l) = pair p.0 l.0
pair_of n (event.Arrive l p) = pair p.0 l.0
pair_of n (event.Route p) = None
pair_of n event.HostPut = pair 0 (n - 2)
pair_of n event.HostTake = pair 0 (n - 3)
pair_of n (event.Report p) = pair p.0 (n - 1)
pair_of n event.Begin = None
pair_of n (event.Confirm p) = pair p.0 (n - 1)
pair_of n event.Announce = None
pair_of n (event.Release p) = pair p.0 (n - 1)
pair_of n (event.Go p) = pair p.0 (n - 1)

abbrev pub is_pair : Option Pair → ℕ → ℕ → Bool
is_pair None low high = false
is_pair (Some p) low high = p.low == low && p.high == high

-- the entries on the pair of these parts
abbrev pub pairing : ℕ → ℕ → ℕ → List Entry → List Entry
pairing n low high es = filter (λ e. is_pair (pair_of n e.event) low high) es

-- an entry on two parts is on part i and one other
abbrev pub IsOwn : ℕ → ℕ → Option Pair → Type 0
IsOwn n i None = Unit {0}
IsOwn n i (Some p) = (p.low < p.high) × (p.high < n) × ((p.low ≡ i) ⊎ (p.high ≡ i))

-- each entry is on one part, or on part i and one other
abbrev pub AllOwn : ℕ → ℕ → List Entry → Type 0
AllOwn n i es = All (λ e. IsOwn n i (pair_of n e.event)) es

-- each entry is on one part
abbrev pub AllSingle : ℕ → List Entry → Type 0
AllSingle n es = All (λ e. pair_of n e.event ≡ None) es

-- each entry is on one part, or on these two
abbrev pub AllBetween : ℕ → ℕ → ℕ → List Entry → Type 0
AllBetween n i j es = All (λ e. (pair_of n e.event ≡ None) ⊎ (pair_of n e.event ≡ pair i j)) es
