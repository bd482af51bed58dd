-- The first beat that has a record, and the records from a place on.
use Rattle.std.proofs.Common.{ℕ, zero, suc, ◌≡◌, ◌≤◌, ◌<◌, ◌+◌, ◌==◌, ◌++◌, ◌&&◌, ◌⊎◌, true, false, List, [], ◌∷◌, drop, get_or, take, length, refl, sym, ap, subst, ◌∙◌, arith, inl, inr, ltb, Some, None, is_some}
use Rattle.std.specs.Prelude.{slice_get}
use Rattle.std.proofs.Math.Seq.{drop-cons}
use Rattle.std.proofs.lemmas.Bool.{and_parts, eqb-false, eqb-true, leb-true, ltb-false, ltb-true, not-true, or_cases, or_parts}
use Rattle.std.proofs.lemmas.List.{get_or-drop, get_or-take, get_or_default, length-drop, length-take-le}
use Rattle.tn_base.specs.declared.message.Dest.TheVariants as dest
use Rattle.tn_keys.specs.declared.record.RouteRec.{RouteRec}
use Rattle.tn_keys.specs.Key.{key_count, key_first}
use Rattle.tn_keys.specs.Tables.{Table, is_bad_key, joined}
use Rattle.tn_router.specs.declared.work.Work.{Work}
use Rattle.tn_router.specs.Kept.{is_nil, is_placed, is_record_of}
use Rattle.tn_router.specs.Rest.{beats_from, first_full, rest_by}

-- a key that is not bad has beats, all of them in the table
pub record Good (beats key : ℕ) : Type 0 where
  pub some : 0 < key_count key
  pub within : key_first key + key_count key ≤ beats

pub good : (beats key : ℕ) → is_bad_key beats key ≡ false → Good beats key
good beats key h =
    let p = or_parts (key_count key == 0) (ltb beats (key_first key + key_count key)) h in
    let some = eqb-false (key_count key) 0 p.0 in
    let within = ltb-false beats (key_first key + key_count key) p.1 in
    record { some = by (key_count key) some; within = within } where
      by : (n : ℕ) → (n ≡ 0 → ⊥) → 0 < n
      by zero h = absurd (h refl)
      by (suc n) h = omega arith

-- a record of a key
pub record IsRecord (table : Table) (key beat at : ℕ) : Type 0 where
  pub good : is_bad_key (length table) key ≡ false
  pub first : key_first key ≤ beat
  pub end : beat < key_first key + key_count key
  pub within : key_first key + key_count key ≤ length table
  pub stands : at < length (get_or table beat [])

pub record_facts : (table : Table) (key beat at : ℕ) → is_record_of table key beat at ≡ true → IsRecord table key beat at
record_facts table key beat at h =
    let p = and_parts _ _ h in
    let q = and_parts _ _ p.0 in
    let r = and_parts _ _ q.0 in
    let is_good = not-true (is_bad_key (length table) key) r.0 in
    record {
      good = is_good;
      first = leb-true (key_first key) beat r.1;
      end = ltb-true beat (key_first key + key_count key) q.1;
      within = (good (length table) key is_good).within;
      stands = ltb-true at (length (get_or table beat [])) p.1;
    }

-- the beats from a place on, and those from the next one on
pub beats_here : (beats : Table) (i end : ℕ) → i < end → end ≤ length beats → drop i (take end beats) ≡ get_or beats i [] ∷ drop (i + 1) (take end beats)
beats_here beats i end h l =
    let long = length-take-le end beats l in
    let within : i < length (take end beats) = omega arith in
    let next : suc i ≡ i + 1 = omega arith in
    drop-cons (take end beats) i [] within ∙ ap (λ b. b ∷ drop (suc i) (take end beats)) (get_or-take end beats i [] h) ∙ ap (λ j. get_or beats i [] ∷ drop j (take end beats)) next

full_here : (beat : List RouteRec) (i : ℕ) (rest : Table) → (length beat ≡ 0 → ⊥) → first_full i (beat ∷ rest) ≡ Some i
full_here [] i rest h = absurd (h refl)
full_here (r ∷ rs) i rest h = refl

full_next : (beat : List RouteRec) (i : ℕ) (rest : Table) → length beat ≡ 0 → first_full i (beat ∷ rest) ≡ first_full (i + 1) rest
full_next [] i rest h = refl
full_next (r ∷ rs) i rest h = absurd (omega arith)

-- the beat that is looked at has a record, or has none
pub found_full : (beats : Table) (beat : List RouteRec) (i end : ℕ) → i < end → end ≤ length beats → beat ≡ get_or beats i beat → (length beat ≡ 0 → ⊥) → first_full i (drop i (take end beats)) ≡ Some i
found_full beats beat i end h l is some =
    let within : i < length beats = omega arith in
    let read : beat ≡ get_or beats i [] = is ∙ get_or_default beats i beat [] within in
    ap (first_full i) (beats_here beats i end h l) ∙ full_here (get_or beats i []) i (drop (i + 1) (take end beats)) (λ e. some (ap length read ∙ e))

pub passed_empty : (beats : Table) (beat : List RouteRec) (i end : ℕ) → i < end → end ≤ length beats → beat ≡ get_or beats i beat → length beat ≡ 0 → first_full (i + 1) (drop (i + 1) (take end beats)) ≡ first_full i (drop i (take end beats))
passed_empty beats beat i end h l is none =
    let within : i < length beats = omega arith in
    let read : beat ≡ get_or beats i [] = is ∙ get_or_default beats i beat [] within in
    sym (ap (first_full i) (beats_here beats i end h l) ∙ full_next (get_or beats i []) i (drop (i + 1) (take end beats)) (sym (ap length read) ∙ none))

nothing_left : (bs : Table) → length bs ≡ 0 → bs ≡ []
nothing_left [] h = refl
nothing_left (b ∷ bs) h = absurd (omega arith)

pub none_full : (beats : Table) (i end : ℕ) → end ≤ length beats → end ≤ i → first_full i (drop i (take end beats)) ≡ None
none_full beats i end l h =
    let long = length-take-le end beats l in
    let rest = length-drop i (take end beats) in
    let zero_long : length (drop i (take end beats)) ≡ 0 = omega arith in
    ap (first_full i) (nothing_left (drop i (take end beats)) zero_long)

-- the next record is that at the place
get_dropped : (beat rest : List RouteRec) (at : ℕ) → at < length beat → slice_get (drop at (beat ++ rest)) 0 ≡ slice_get beat at
get_dropped [] rest at h = absurd (omega arith)
get_dropped (r ∷ rs) rest zero h = refl
get_dropped (r ∷ rs) rest (suc at) h = get_dropped rs rest at (omega arith)

pub rest_record : (table : Table) (key : ℕ) (w : Work) → IsRecord table key w.beat w.at → slice_get (get_or table w.beat []) w.at ≡ slice_get (rest_by table w key) 0
rest_record table key w f =
    let here : beats_from table key w.beat ≡ get_or table w.beat [] ∷ beats_from table key (w.beat + 1) = beats_here table w.beat (key_first key + key_count key) f.end f.within in
    let late : ltb w.beat (key_first key) ≡ false = not_before w.beat (key_first key) f.first in
    sym (rw (f.good, late, here) (get_dropped (get_or table w.beat []) (joined (beats_from table key (w.beat + 1))) w.at f.stands)) where
      not_before : (a b : ℕ) → b ≤ a → ltb a b ≡ false
      not_before a b h = grind arith

nil : (rs : List RouteRec) → is_nil rs ≡ true → rs ≡ []
nil [] h = refl
nil (r ∷ rs) h = cc h

-- a packet with a key stands at a record, or no record comes
pub placed_cases : (table : Table) (key : ℕ) (w : Work) → w.packet.dest ≡ dest.Key key → is_placed table w ≡ true
    → (is_record_of table key w.beat w.at ≡ true) ⊎ ((rest_by table w key ≡ []) × (w.beat ≡ 0) × (w.at ≡ 0))
placed_cases table key w e h =
    let both = rw e at h in
    elim (or_cases (is_record_of table key w.beat w.at) ((is_nil (rest_by table w key) && w.beat == 0) && w.at == 0) both) [
      | inl here ↦ inl here
      | inr none ↦
          let p = and_parts (is_nil (rest_by table w key) && w.beat == 0) (w.at == 0) none in
          let q = and_parts (is_nil (rest_by table w key)) (w.beat == 0) p.0 in
          inr (nil (rest_by table w key) q.0, eqb-true w.beat 0 q.1, eqb-true w.at 0 p.1)
    ]

first_empty : (beat rest : List RouteRec) → beat ++ rest ≡ [] → beat ≡ []
first_empty [] rest h = refl
first_empty (r ∷ rs) rest h = cc h

-- what the place of a packet with a key says of its next record
pub record Stands (table : Table) (key : ℕ) (w : Work) : Type 0 where
  pub within : w.beat < length table
  pub value : slice_get (get_or table w.beat []) w.at ≡ slice_get (rest_by table w key) 0
  pub there : is_some (slice_get (get_or table w.beat []) w.at) ≡ true → is_record_of table key w.beat w.at ≡ true

pub stands : (table : Table) (key : ℕ) (w : Work) → is_bad_key (length table) key ≡ false → w.packet.dest ≡ dest.Key key → key_first key ≤ w.beat → is_placed table w ≡ true → Stands table key w
stands table key w is_good e late h = elim (placed_cases table key w e h) [
  | inl here ↦
      let f = record_facts table key w.beat w.at here in
      let end = f.end in
      let within = f.within in
      record { within = omega arith; value = rest_record table key w f; there = λ _. here }
  | inr none ↦
      let g = good (length table) key is_good in
      let some = g.some in
      let within = g.within in
      let zero_beat = none.1 in
      let start : key_first key ≡ 0 = omega arith in
      let early : ltb w.beat (key_first key) ≡ false = rw (zero_beat, start) refl in
      let rest : drop w.at (joined (beats_from table key w.beat)) ≡ [] = rw (is_good, early) at none.0 in
      let all : joined (beats_from table key 0) ≡ [] = rw (none.1, none.2) at rest in
      let here : beats_from table key 0 ≡ get_or table 0 [] ∷ beats_from table key (0 + 1) = beats_here table 0 (key_first key + key_count key) (omega arith) within in
      let empty : get_or table 0 [] ≡ [] = first_empty (get_or table 0 []) (joined (beats_from table key (0 + 1))) (sym (ap joined here) ∙ all) in
      let read : slice_get (get_or table w.beat []) w.at ≡ None = rw (none.1, empty) refl in
      record {
        within = omega arith;
        value = read ∙ sym (ap (λ rs. slice_get rs 0) none.0);
        there = λ s. let none_is = rw read at s in cc none_is;
      }
]

-- the beat of a key that has the first record, if one has
full_some : (i j : ℕ) (bs : Table) → first_full i bs ≡ Some j → (k : ℕ) × (j ≡ i + k) × (k < length bs) × (0 < length (get_or bs k []))
full_some i j [] e = cc e
full_some i j ([] ∷ bs) e =
    let q = full_some (i + 1) j bs e in
    (suc q.0, (let a = q.1 in omega arith), (let a = q.2 in omega arith), q.3)
full_some i j ((r ∷ rs) ∷ bs) e =
    let same : i ≡ j = cc e in
    (zero, omega arith, omega arith, omega arith)

pub full_record : (table : Table) (key i j : ℕ) → is_bad_key (length table) key ≡ false → key_first key ≤ i → first_full i (beats_from table key i) ≡ Some j → IsRecord table key j 0
full_record table key i j is_good late e =
    let q = full_some i j (beats_from table key i) e in
    let within = (good (length table) key is_good).within in
    let is = q.1 in
    let below = q.2 in
    let some = q.3 in
    let long = length-take-le (key_first key + key_count key) table within in
    let rest = length-drop i (take (key_first key + key_count key) table) in
    let end : i + q.0 < key_first key + key_count key = omega arith in
    let read : get_or (beats_from table key i) q.0 [] ≡ get_or table j [] =
    get_or-drop i (take (key_first key + key_count key) table) q.0 [] ∙ get_or-take (key_first key + key_count key) table (i + q.0) [] end ∙ ap (λ k. get_or table k []) (sym is) in
    record { good = is_good; first = omega arith; end = omega arith; within = within; stands = subst (λ (b : List RouteRec). 0 < length b) read some }

pub full_none : (i : ℕ) (bs : Table) → first_full i bs ≡ None → joined bs ≡ []
full_none i [] e = refl
full_none i ([] ∷ bs) e = full_none (i + 1) bs e
full_none i ((r ∷ rs) ∷ bs) e = cc e
