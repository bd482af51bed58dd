-- Chains that are counted, and chains that are lists.
use Rattle.std.proofs.Common.{ℕ, zero, suc, ◌≡◌, ◌≤◌, ◌<◌, ◌+◌, ◌-◌, Bool, true, false, ◌||◌, List, [], ◌∷◌, drop, get_or, length, refl, ap, sym, ◌∙◌, arith, subst, inl, inr}
use Rattle.std.specs.List.{Contains, list_any, sum_by}
use Rattle.std.specs.declared.option.Option.{Option}
use Rattle.std.specs.declared.option.Option.TheVariants.{Some, None}
use Rattle.std.proofs.Math.Bool.{or-true}
use Rattle.std.proofs.lemmas.Bool.{cases_lt, lt-ltb, ltb-true}
use Rattle.std.proofs.lemmas.List.{get_or-drop, get_or-take, get_or_past, length-take}
use Rattle.std.proofs.lemmas.List.Folds.{list_any-append, list_any_at}
use Rattle.std.proofs.lemmas.List.Sums.{get_or-le-sum_by, sum_by-cons}
use Rattle.tn_base.specs.declared.ids.Board.{Board}
use Rattle.tn_base.specs.declared.shape.ShapeNumbers.{ShapeNumbers}
use Rattle.tn_keys.specs.declared.fault.TableFault.{TableFault}
use Rattle.tn_keys.specs.declared.fault.TableFault.TheVariants as fault
use Rattle.tn_keys.specs.declared.onward.Onward.{Onward}
use Rattle.tn_keys.specs.declared.record.RouteRec.{RouteRec}
use Rattle.tn_keys.specs.declared.record.RouteRec.TheVariants.{Urm1, Urm2, Rr, Mrm, Ind}
use Rattle.tn_keys.specs.Accepted.{bad_range, bad_thread, beyond, board_fault, chains, empty_mask, leads, loops, nothing, off_machine, too_wide, unless}
use Rattle.tn_keys.specs.Copies.{neighbour, onto, onward}
use Rattle.tn_keys.specs.Key.{key_count, key_first}
use Rattle.tn_keys.specs.Tables.{Table, beats_in, joined, table_of}
use Rattle.tn_keys.proofs.Reaching.{gathered-suc, gathered-zero}
use Rattle.tn_reach.specs.declared.kinds.Kind.TheVariants as kind
use Rattle.tn_reach.specs.Chains.{At, BeginsAt, HasChain, InBeat, InKey, IsChain, IsOnward, LeadsTo, ShowsNone}

-- ---- sums over lists

-- an element of a list whose sum is not 0
some_in : {X : Type 0} (f : X → ℕ) (xs : List X) → 0 < sum_by f xs → (x : X) × Contains xs x × (0 < f x)
some_in f [] h = absurd (omega arith)
some_in f (x ∷ xs) h =
    let e = sum_by-cons f x xs in
    elim (cases_lt 0 (f x)) [
      | inl here ↦ (x, (0, omega arith, refl), here)
      | inr none ↦
          let rest = some_in f xs (omega arith) in
          (rest.0, (suc rest.1.0, let l = rest.1.1 in omega arith, rest.1.2), rest.2)
    ]

in_le : {X : Type 0} (f : X → ℕ) (xs : List X) (x : X) → Contains xs x → f x ≤ sum_by f xs
in_le f xs x h = let P = λ (y : _). f y ≤ sum_by f xs in subst P h.2 (get_or-le-sum_by f xs h.0 x h.1)

-- a place in a list whose sum is not 0
some_at : (g : List RouteRec → ℕ) (beats : Table) → 0 < sum_by g beats → (i : ℕ) × (i < length beats) × (0 < g (get_or beats i []))
some_at g [] h = absurd (omega arith)
some_at g (beat ∷ beats) h =
    let e = sum_by-cons g beat beats in
    elim (cases_lt 0 (g beat)) [
      | inl here ↦ (0, omega arith, here)
      | inr none ↦
          let rest = some_at g beats (omega arith) in
          (suc rest.0, let l = rest.1 in omega arith, rest.2)
    ]

at_le : (g : List RouteRec → ℕ) (beats : Table) (i : ℕ) → g [] ≡ 0 → g (get_or beats i []) ≤ sum_by g beats
at_le g beats i none =
    elim (cases_lt i (length beats)) [
      | inl there ↦ get_or-le-sum_by g beats i [] there
      | inr past ↦ let e : g (get_or beats i []) ≡ 0 = ap g (get_or_past beats i [] past) ∙ none in omega arith
    ]

-- the beats of a key, by their places in the table
place_of_key : (table : Table) (key j : ℕ) → j < key_count key → get_or (beats_in table key) j [] ≡ get_or table (key_first key + j) []
place_of_key table key j l = get_or-take (key_count key) (drop (key_first key) table) j [] l ∙ get_or-drop (key_first key) table j []

-- a record of a key's beats whose count is not 0
found : (f : RouteRec → ℕ) (table : Table) (key : ℕ) → 0 < sum_by (λ beat. sum_by f beat) (beats_in table key) → (r : RouteRec) × InKey table key r × (0 < f r)
found f table key h =
    let at = some_at (λ beat. sum_by f beat) (beats_in table key) h in
    let within = at.1 in
    let few = length-take (key_count key) (drop (key_first key) table) in
    let low : at.0 < key_count key = omega arith in
    let here = place_of_key table key at.0 low in
    let some : 0 < sum_by f (get_or table (key_first key + at.0) []) = let P = λ (beat : List RouteRec). 0 < sum_by f beat in subst P here at.2 in
    let got = some_in f (get_or table (key_first key + at.0) []) some in
    (got.0, record { place = key_first key + at.0; from = omega arith; below = omega arith; inside = got.1 }, got.2)

key_le : (f : RouteRec → ℕ) (table : Table) (key : ℕ) (r : RouteRec) → InKey table key r → f r ≤ sum_by (λ beat. sum_by f beat) (beats_in table key)
key_le f table key r h =
    let from = h.from in
    let below = h.below in
    let j = h.place - key_first key in
    let low : j < key_count key = omega arith in
    let back : key_first key + j ≡ h.place = omega arith in
    let here : get_or (beats_in table key) j [] ≡ get_or table h.place [] = place_of_key table key j low ∙ ap (λ i. get_or table i []) back in
    let own = in_le f (get_or table h.place []) r h.inside in
    let all = at_le (λ beat. sum_by f beat) (beats_in table key) j refl in
    let same : sum_by f (get_or (beats_in table key) j []) ≡ sum_by f (get_or table h.place []) = ap (sum_by f) here in
    omega arith

-- ---- one record after another

abbrev at : Board → RouteRec → At
at b r = record { board = b; route = r }

abbrev led : Board → ℕ → Onward
led b key = record { board = b; key = key }

leads_of : (n : ShapeNumbers) (b : Board) (r : RouteRec) (o : Onward) → onward n b r ≡ Some o → LeadsTo n b r o.board o.key
leads_of n b (Urm1 tile thread key) o e = absurd (cc)
leads_of n b (Urm2 tile thread key) o e = absurd (cc)
leads_of n b (Rr dir key) o e = by (neighbour n dir b) refl e where
  by : (c : Option Board) → neighbour n dir b ≡ c → onto key c ≡ Some o → (neighbour n dir b ≡ Some o.board) × (key ≡ o.key)
  by None p q = absurd (cc)
  by (Some c) p q =
      let same : led c key ≡ o = cc in
      (p ∙ ap (λ x. Some (x.board)) same, ap (λ x. x.key) same)
leads_of n b (Mrm tile key mask) o e = absurd (cc)
leads_of n b (Ind key) o e = let same : led b key ≡ o = cc in (ap (λ x. x.board) same, ap (λ x. x.key) same)

onward_of : (n : ShapeNumbers) (b : Board) (r : RouteRec) (c : Board) (key : ℕ) → LeadsTo n b r c key → onward n b r ≡ Some (led c key)
onward_of n b (Urm1 tile thread local) c key h = absurd h
onward_of n b (Urm2 tile thread local) c key h = absurd h
onward_of n b (Rr dir on) c key h = ap (onto on) h.0 ∙ ap (λ k. Some (led c k)) h.1
onward_of n b (Mrm tile local mask) c key h = absurd h
onward_of n b (Ind on) c key h = ap (λ d. Some (led d on)) h.0 ∙ ap (λ k. Some (led c k)) h.1

onward_leads : (r : RouteRec) → 0 < leads r → IsOnward r
onward_leads (Urm1 tile thread key) h = absurd (omega arith)
onward_leads (Urm2 tile thread key) h = absurd (omega arith)
onward_leads (Rr dir key) h = tt
onward_leads (Mrm tile key mask) h = absurd (omega arith)
onward_leads (Ind key) h = tt

leads_onward : (r : RouteRec) → IsOnward r → 0 < leads r
leads_onward (Urm1 tile thread key) h = absurd h
leads_onward (Urm2 tile thread key) h = absurd h
leads_onward (Rr dir key) h = omega arith
leads_onward (Mrm tile key mask) h = absurd h
leads_onward (Ind key) h = omega arith

-- ---- chains from one record

chain_of : (m : ℕ) (n : ShapeNumbers) (ts : List Table) (b : Board) (r : RouteRec) → 0 < chains m n ts b r → (others : List At) × (length others ≡ m) × IsChain n ts (at b r ∷ others)
chain_of zero n ts b r h = ([], refl, onward_leads r (rw (gathered-zero leads nothing n ts b r) at h))
chain_of (suc m) n ts b r h =
    let step = gathered-suc leads nothing m n ts b r in
    by (λ c s. chain_of m n ts c s) (onward n b r) refl (omega arith) where
      by : ((c : Board) (s : RouteRec) → 0 < chains m n ts c s → (others : List At) × (length others ≡ m) × IsChain n ts (at c s ∷ others))
          → (o : Option Onward) → onward n b r ≡ o → 0 < beyond n ts (chains m n ts) o → (others : List At) × (length others ≡ suc m) × IsChain n ts (at b r ∷ others)
      by on None e g = absurd (omega arith)
      by on (Some o) e g =
          let next = found (chains m n ts o.board) (table_of n ts o.board) o.key g in
          let rest = on o.board next.0 next.2 in
          (at o.board next.0 ∷ rest.0, ap suc rest.1, (record { key = o.key; leads = leads_of n b r o e; found = next.1 }, rest.2))

chain_counted : (n : ShapeNumbers) (ts : List Table) (a : At) (others : List At) → IsChain n ts (a ∷ others) → 0 < chains (length others) n ts a.board a.route
chain_counted n ts a [] h = rw (gathered-zero leads nothing n ts a.board a.route) (leads_onward a.route h)
chain_counted n ts a (next ∷ others) h =
    let f = h.0 in
    let rest = chain_counted n ts next others h.1 in
    let most = key_le (chains (length others) n ts next.board) (table_of n ts next.board) f.key next.route f.found in
    let on : onward n a.board a.route ≡ Some (led next.board f.key) = onward_of n a.board a.route next.board f.key f.leads in
    let sum : beyond n ts (chains (length others) n ts) (onward n a.board a.route) ≡ beyond n ts (chains (length others) n ts) (Some (led next.board f.key)) = ap (beyond n ts (chains (length others) n ts)) on in
    let step = gathered-suc leads nothing (length others) n ts a.board a.route in
    omega arith

-- ---- tests over the records of a table

some_passes : (p : RouteRec → Bool) (rs : List RouteRec) → list_any p rs ≡ true → (r : RouteRec) × Contains rs r × (p r ≡ true)
some_passes p [] h = absurd (cc)
some_passes p (r ∷ rs) h = by (λ g. some_passes p rs g) (p r) refl h where
  by : (list_any p rs ≡ true → (s : RouteRec) × Contains rs s × (p s ≡ true)) → (here : Bool) → p r ≡ here → (here || list_any p rs) ≡ true → (s : RouteRec) × Contains (r ∷ rs) s × (p s ≡ true)
  by behind true e g = (r, (0, omega arith, refl), e)
  by behind false e g =
      let rest = behind g in
      (rest.0, (suc rest.1.0, let l = rest.1.1 in omega arith, rest.1.2), rest.2)

passes : (p : RouteRec → Bool) (rs : List RouteRec) (r : RouteRec) → Contains rs r → p r ≡ true → list_any p rs ≡ true
passes p rs r h e = list_any_at p rs h.0 r h.1 (ap p h.2 ∙ e)

some_beat : (p : RouteRec → Bool) (table : Table) → list_any p (joined table) ≡ true → (place : ℕ) × (r : RouteRec) × InBeat table place r × (p r ≡ true)
some_beat p [] h = absurd (cc)
some_beat p (beat ∷ beats) h = by (λ g. some_beat p beats g) (list_any p beat) refl (sym (list_any-append p beat (joined beats)) ∙ h) where
  by : (list_any p (joined beats) ≡ true → (place : ℕ) × (r : RouteRec) × InBeat beats place r × (p r ≡ true))
      → (here : Bool) → list_any p beat ≡ here → (here || list_any p (joined beats)) ≡ true → (place : ℕ) × (r : RouteRec) × InBeat (beat ∷ beats) place r × (p r ≡ true)
  by behind true e g = let got = some_passes p beat e in (0, got.0, got.1, got.2)
  by behind false e g = let rest = behind g in (suc rest.0, rest.1, rest.2, rest.3)

beat_passes : (p : RouteRec → Bool) (table : Table) (place : ℕ) (r : RouteRec) → InBeat table place r → p r ≡ true → list_any p (joined table) ≡ true
beat_passes p [] place r h e = let l = h.1 in absurd (omega arith)
beat_passes p (beat ∷ beats) zero r h e = list_any-append p beat (joined beats) ∙ ap (λ x. x || list_any p (joined beats)) (passes p beat r h e)
beat_passes p (beat ∷ beats) (suc place) r h e = list_any-append p beat (joined beats) ∙ ap (λ x. list_any p beat || x) (beat_passes p beats place r h e) ∙ or-true (list_any p beat)

-- ---- the law

pub chain_found : (n : ShapeNumbers) (ts : List Table) (b : Board) → list_any (loops n ts b) (joined (table_of n ts b)) ≡ true → HasChain n ts b 65
chain_found n ts b h =
    let got = some_beat (loops n ts b) (table_of n ts b) h in
    let rest = chain_of 64 n ts b got.1 (ltb-true _ _ got.3) in
    let long = rest.1 in
    record { chain = at b got.1 ∷ rest.0; long = omega arith; begins = (refl, (got.0, got.2)); linked = rest.2 }

pub chain_shown : (n : ShapeNumbers) (ts : List Table) (b : Board) → HasChain n ts b 65 → list_any (loops n ts b) (joined (table_of n ts b)) ≡ true
chain_shown n ts b h = by h.chain h.long h.begins h.linked where
  by : (chain : List At) → length chain ≡ 65 → BeginsAt n ts b chain → IsChain n ts chain → list_any (loops n ts b) (joined (table_of n ts b)) ≡ true
  by [] long begins linked = absurd begins
  by (a ∷ others) long begins linked =
      let count : length others ≡ 64 = omega arith in
      let some : 0 < chains (length others) n ts a.board a.route = chain_counted n ts a others linked in
      let here : 0 < chains 64 n ts b a.route = let P = λ (d : Board). 0 < chains 64 n ts d a.route in subst P begins.0 (let Q = λ (m : ℕ). 0 < chains m n ts a.board a.route in subst Q count some) in
      beat_passes (loops n ts b) (table_of n ts b) begins.1.0 a.route begins.1.1 (lt-ltb 0 _ here)

-- no test before, and then Loop
abbrev fault_by : (a b c d e f : Bool) → Option TableFault
fault_by a b c d e f = unless a fault.OffMachine (unless b fault.BadThread (unless c fault.EmptyMask (unless d fault.KeyRange (unless e fault.Loop (unless f fault.TooWide None)))))

loop_of : (a b c d e f : Bool) → fault_by a b c d e f ≡ Some fault.Loop → (a ≡ false) × (b ≡ false) × (c ≡ false) × (d ≡ false) × (e ≡ true)
loop_of true b c d e f h = absurd (cc)
loop_of false true c d e f h = absurd (cc)
loop_of false false true d e f h = absurd (cc)
loop_of false false false true e f h = absurd (cc)
loop_of false false false false true f h = (refl, refl, refl, refl, refl)
loop_of false false false false false true h = absurd (cc)
loop_of false false false false false false h = absurd (cc)

loop_by : (a b c d e f : Bool) → a ≡ false → b ≡ false → c ≡ false → d ≡ false → e ≡ true → fault_by a b c d e f ≡ Some fault.Loop
loop_by a b c d e f p q r s t = rw (p, q, r, s, t) refl

pub loop_told : (n : ShapeNumbers) (ts : List Table) (b : Board) → board_fault n ts b ≡ Some fault.Loop → ShowsNone n ts b × HasChain n ts b 65
loop_told n ts b h =
    let got = loop_of _ _ _ _ _ _ h in
    (none got.0 got.1 got.2 got.3, chain_found n ts b got.4) where
      none : list_any (off_machine n b) (joined (table_of n ts b)) ≡ false → list_any (bad_thread n) (joined (table_of n ts b)) ≡ false → list_any empty_mask (joined (table_of n ts b)) ≡ false → list_any (bad_range n ts b) (joined (table_of n ts b)) ≡ false → ShowsNone n ts b
      none p q r s kind.OffMachine = p
      none p q r s kind.BadThread = q
      none p q r s kind.EmptyMask = r
      none p q r s kind.KeyRange = s

pub loop_tells : (n : ShapeNumbers) (ts : List Table) (b : Board) → ShowsNone n ts b → HasChain n ts b 65 → board_fault n ts b ≡ Some fault.Loop
loop_tells n ts b none h = loop_by _ _ _ _ _ (list_any (too_wide n ts b) (table_of n ts b)) (none kind.OffMachine) (none kind.BadThread) (none kind.EmptyMask) (none kind.KeyRange) (chain_shown n ts b h)
