-- What a key reaches: more keys than a machine's chains have give nothing else.
use Rattle.std.proofs.Common.{ℕ, zero, suc, ◌≡◌, ◌≤◌, ◌+◌, Bool, true, false, cond, List, [], ◌∷◌, ◌++◌, length, refl, ap, sym, ◌∙◌, arith}
use Rattle.std.specs.List.{sum_by}
use Rattle.std.specs.declared.option.Option.{Option}
use Rattle.std.specs.declared.option.Option.TheVariants.{Some, None}
use Rattle.std.proofs.lemmas.List.Sums.{sum_by-append, sum_by-cons}
use Rattle.tn_base.specs.declared.ids.Board.{Board}
use Rattle.tn_base.specs.declared.shape.ShapeNumbers.{ShapeNumbers}
use Rattle.tn_keys.specs.declared.record.RouteRec.{RouteRec}
use Rattle.tn_keys.specs.declared.record.RouteRec.TheVariants.{Urm1, Urm2, Rr, Mrm, Ind}
use Rattle.tn_keys.specs.Accepted.{beyond, chains, gathered, leads, nothing}
use Rattle.tn_keys.specs.declared.onward.Onward.{Onward}
use Rattle.tn_keys.specs.Copies.{Copy, copies_of, led, onward}
use Rattle.tn_keys.specs.Reach.{reach_by, walk}
use Rattle.tn_keys.specs.Tables.{Table, beats_in, is_bad_key, joined, records_at, records_of, table_of}

-- what holds of where a record leads, and of where each of some records leads
abbrev pub Lead : (Onward → Type 0) → Option Onward → Type 0
Lead P None = Unit {0}
Lead P (Some o) = P o

abbrev pub LeadOnly : (Onward → Type 0) → ShapeNumbers → Board → List RouteRec → Type 0
LeadOnly P n b [] = Unit {0}
LeadOnly P n b (r ∷ rs) = Lead P (onward n b r) × LeadOnly P n b rs

led_same : (P : Onward → Type 0) (f g : Board → ℕ → List Copy) (o : Option Onward) → ((q : Onward) → P q → f q.board q.key ≡ g q.board q.key) → Lead P o → led f o ≡ led g o
led_same P f g None e h = refl
led_same P f g (Some o) e h = e o h

-- records reach the same where the keys to which they lead do
pub walk_same : (P : Onward → Type 0) (f g : Board → ℕ → List Copy) (n : ShapeNumbers) (b : Board) (bytes : List ℕ) (rs : List RouteRec) → ((q : Onward) → P q → f q.board q.key ≡ g q.board q.key) → LeadOnly P n b rs
    → walk f n b bytes rs ≡ walk g n b bytes rs
walk_same P f g n b bytes [] e l = refl
walk_same P f g n b bytes (Urm1 tile thread key ∷ rs) e l = ap (λ xs. copies_of g n b bytes (Urm1 tile thread key) ++ xs) (walk_same P f g n b bytes rs e l.1)
walk_same P f g n b bytes (Urm2 tile thread key ∷ rs) e l = ap (λ xs. copies_of g n b bytes (Urm2 tile thread key) ++ xs) (walk_same P f g n b bytes rs e l.1)
walk_same P f g n b bytes (Rr dir key ∷ rs) e l =
    let here : copies_of f n b bytes (Rr dir key) ≡ copies_of g n b bytes (Rr dir key) = led_same P f g (onward n b (Rr dir key)) e l.0 in
    ap (λ xs. xs ++ walk f n b bytes rs) here ∙ ap (λ xs. copies_of g n b bytes (Rr dir key) ++ xs) (walk_same P f g n b bytes rs e l.1)
walk_same P f g n b bytes (Mrm tile key mask ∷ rs) e l = ap (λ xs. copies_of g n b bytes (Mrm tile key mask) ++ xs) (walk_same P f g n b bytes rs e l.1)
walk_same P f g n b bytes (Ind key ∷ rs) e l = led_same P f g (onward n b (Ind key)) e l.0

-- the two lines of what records gather
pub gathered-zero : (last own : RouteRec → ℕ) (n : ShapeNumbers) (ts : List Table) (b : Board) (r : RouteRec) → gathered last own zero n ts b r ≡ last r
unfolding gathered
gathered-zero last own n ts b r = refl

pub gathered-suc : (last own : RouteRec → ℕ) (m : ℕ) (n : ShapeNumbers) (ts : List Table) (b : Board) (r : RouteRec) → gathered last own (suc m) n ts b r ≡ own r + beyond n ts (gathered last own m n ts) (onward n b r)
unfolding gathered
gathered-suc last own m n ts b r = refl

leads_nowhere : (n : ShapeNumbers) (b : Board) (r : RouteRec) → leads r ≡ 0 → Lead (λ o. ⊥) (onward n b r)
leads_nowhere n b (Urm1 tile thread key) h = tt
leads_nowhere n b (Urm2 tile thread key) h = tt
leads_nowhere n b (Rr dir key) h = absurd (omega arith)
leads_nowhere n b (Mrm tile key mask) h = tt
leads_nowhere n b (Ind key) h = absurd (omega arith)

-- no chain of one record
none_lead : (n : ShapeNumbers) (ts : List Table) (b : Board) (rs : List RouteRec) → sum_by (chains zero n ts b) rs ≡ 0 → LeadOnly (λ o. ⊥) n b rs
none_lead n ts b [] h = tt
none_lead n ts b (r ∷ rs) h =
    let e = sum_by-cons (chains zero n ts b) r rs in
    let z = gathered-zero leads nothing n ts b r in
    let here : leads r ≡ 0 = omega arith in
    let rest : sum_by (chains zero n ts b) rs ≡ 0 = omega arith in
    (leads_nowhere n b r here, none_lead n ts b rs rest)

-- no chain of m + 1 records begins where a record leads
abbrev pub Free : ℕ → ShapeNumbers → List Table → Onward → Type 0
Free m n ts o = beyond n ts (chains m n ts) (Some o) ≡ 0

free_onward : (m : ℕ) (n : ShapeNumbers) (ts : List Table) (o : Option Onward) → beyond n ts (chains m n ts) o ≡ 0 → Lead (Free m n ts) o
free_onward m n ts None h = tt
free_onward m n ts (Some o) h = h

-- no chain of m + 2 records
short_lead : (m : ℕ) (n : ShapeNumbers) (ts : List Table) (b : Board) (rs : List RouteRec) → sum_by (chains (suc m) n ts b) rs ≡ 0 → LeadOnly (Free m n ts) n b rs
short_lead m n ts b [] h = tt
short_lead m n ts b (r ∷ rs) h =
    let e = sum_by-cons (chains (suc m) n ts b) r rs in
    let z = gathered-suc leads nothing m n ts b r in
    let here : beyond n ts (chains m n ts) (onward n b r) ≡ 0 = omega arith in
    let rest : sum_by (chains (suc m) n ts b) rs ≡ 0 = omega arith in
    (free_onward m n ts (onward n b r) here, short_lead m n ts b rs rest)

pub sum_joined : (f : RouteRec → ℕ) (beats : Table) → sum_by f (joined beats) ≡ sum_by (λ beat. sum_by f beat) beats
sum_joined f [] = refl
sum_joined f (beat ∷ beats) =
    let rest = sum_joined f beats in let split = sum_by-append f beat (joined beats) in let cons = sum_by-cons (λ bs. sum_by f bs) beat beats in omega arith

-- the records of a key gather at most what all its beats do that are there
pub records_le : (f : RouteRec → ℕ) (table : Table) (key : ℕ) → sum_by f (records_at table key) ≤ sum_by (λ beat. sum_by f beat) (beats_in table key)
unfolding records_at
records_le f table key = by (is_bad_key (length table) key) where
  by : (bad : Bool) → sum_by f (cond bad [] (joined (beats_in table key))) ≤ sum_by (λ beat. sum_by f beat) (beats_in table key)
  by true = omega arith
  by false = let e = sum_joined f (beats_in table key) in omega arith

pub reach_by-suc : (keys : ℕ) (n : ShapeNumbers) (ts : List Table) (bytes : List ℕ) (b : Board) (key : ℕ) → reach_by (suc keys) n ts bytes b key ≡ walk (reach_by keys n ts bytes) n b bytes (records_of n ts b key)
unfolding reach_by
reach_by-suc keys n ts bytes b key = refl

-- records that begin no chain of m + 1 records reach the same over m keys and over more
pub walk_up : (m k : ℕ) (n : ShapeNumbers) (ts : List Table) (bytes : List ℕ) (b : Board) (rs : List RouteRec) → m ≤ k → sum_by (chains m n ts b) rs ≡ 0 → walk (reach_by m n ts bytes) n b bytes rs ≡ walk (reach_by k n ts bytes) n b bytes rs
walk_up zero k n ts bytes b rs l h = walk_same (λ o. ⊥) (reach_by zero n ts bytes) (reach_by k n ts bytes) n b bytes rs (λ q f. absurd f) (none_lead n ts b rs h)
walk_up (suc m) zero n ts bytes b rs l h = absurd (omega arith)
walk_up (suc m) (suc k) n ts bytes b rs l h =
    walk_same (Free m n ts) (reach_by (suc m) n ts bytes) (reach_by (suc k) n ts bytes) n b bytes rs
    (λ q f.
    let free : sum_by (chains m n ts q.board) (records_of n ts q.board q.key) ≡ 0 = let le = records_le (chains m n ts q.board) (table_of n ts q.board) q.key in omega arith in
    reach_by-suc m n ts bytes q.board q.key ∙ walk_up m k n ts bytes q.board (records_of n ts q.board q.key) (omega arith) free ∙ sym (reach_by-suc k n ts bytes q.board q.key))
    (short_lead m n ts b rs h)

-- more keys give the same
pub reach_more : (m k : ℕ) (n : ShapeNumbers) (ts : List Table) (bytes : List ℕ) (b : Board) (key : ℕ) → m ≤ k → sum_by (chains m n ts b) (records_of n ts b key) ≡ 0 → reach_by (suc k) n ts bytes b key ≡ reach_by (suc m) n ts bytes b key
reach_more m k n ts bytes b key l h = reach_by-suc k n ts bytes b key ∙ sym (walk_up m k n ts bytes b (records_of n ts b key) l h) ∙ sym (reach_by-suc m n ts bytes b key)

-- what a key reaches is what its records reach
pub reach_walk : (m : ℕ) (n : ShapeNumbers) (ts : List Table) (bytes : List ℕ) (b : Board) (key : ℕ) → sum_by (chains m n ts b) (records_of n ts b key) ≡ 0 → reach_by (suc m) n ts bytes b key ≡ walk (reach_by (suc m) n ts bytes) n b bytes (records_of n ts b key)
reach_walk m n ts bytes b key h = reach_by-suc m n ts bytes b key ∙ walk_up m (suc m) n ts bytes b (records_of n ts b key) (omega arith) h
