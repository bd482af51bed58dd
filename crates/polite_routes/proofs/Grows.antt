-- Tables that grow: each key that names beats that are there keeps its records.
use Rattle.std.proofs.Common.{◌≡◌, ◌≢◌, ◌<◌, ◌≤◌, ℕ, suc, ◌+◌, ◌/◌, ◌%◌, eqb, cond, Bool, true, false, List, [], ◌∷◌, ◌++◌, length, take, drop, get_or, set, append_assoc, refl, sym, ◌∙◌, ap, arith, length-append, length-set}
use Rattle.std.proofs.lemmas.Bool.Decides.{nat_tests}
use Rattle.std.proofs.lemmas.Grind.{common_steps}
use Rattle.std.proofs.lemmas.List.{get_or-set_other, get_or-set_same}
use Rattle.tn_base.specs.declared.ids.Board.{Board}
use Rattle.tn_base.specs.declared.shape.ShapeNumbers.{ShapeNumbers}
use Rattle.tn_keys.specs.declared.record.RouteRec.{RouteRec}
use Rattle.tn_keys.specs.Beat.{is_beat}
use Rattle.tn_keys.specs.Tables.{Table, beats_in, board_place, is_bad_key, joined, records_at, records_of, table_of}
use Rattle.polite_routes.specs.Pack.{filled, key_of, pack, with_records}

pub record Grows (n : ShapeNumbers) (ts us : List Table) : Type 0 where
  pub good : (b : Board) (key : ℕ) → is_bad_key (length (table_of n ts b)) key ≡ false → is_bad_key (length (table_of n us b)) key ≡ false
  pub records : (b : Board) (key : ℕ) → is_bad_key (length (table_of n ts b)) key ≡ false → records_of n us b key ≡ records_of n ts b key

pub grows_refl : (n : ShapeNumbers) (ts : List Table) → Grows n ts ts
grows_refl n ts = record { good = λ b k h. h; records = λ b k h. refl }

pub grows_trans : (n : ShapeNumbers) (ts us vs : List Table) → Grows n ts us → Grows n us vs → Grows n ts vs
grows_trans n ts us vs g h = record { good = λ b k e. h.good b k (g.good b k e); records = λ b k e. h.records b k (g.good b k e) ∙ g.records b k e }

-- a key that is not bad
pub good_some : (m key : ℕ) → is_bad_key m key ≡ false → 0 < key % 256
good_some m key h = grind (arith, nat_tests)

pub good_within : (m key : ℕ) → is_bad_key m key ≡ false → key / 256 + key % 256 ≤ m
good_within m key h = grind (arith, nat_tests)

pub good_from : (m key : ℕ) → 0 < key % 256 → key / 256 + key % 256 ≤ m → is_bad_key m key ≡ false
good_from m key s w = grind (arith, nat_tests)

pub records_good : (t : Table) (key : ℕ) → is_bad_key (length t) key ≡ false → records_at t key ≡ joined (beats_in t key)
unfolding records_at
records_good t key h = ap (λ b. cond b [] (joined (beats_in t key))) h

part_stays : (X : Type 0) (i n : ℕ) (xs ys : List X) → i + n ≤ length xs → take n (drop i (xs ++ ys)) ≡ take n (drop i xs)
part_stays X i n xs ys h = grind (arith, common_steps)

part_new : (X : Type 0) (i n : ℕ) (xs ys : List X) → i ≡ length xs → n ≡ length ys → take n (drop i (xs ++ ys)) ≡ ys
part_new X i n xs ys h e = grind (arith, common_steps)

-- the table of a board is longer, or the same
pub record Longer (old new : Table) : Type 0 where
  pub more : Table
  pub is : new ≡ old ++ more

longer_good : (old new : Table) (key : ℕ) → Longer old new → is_bad_key (length old) key ≡ false → is_bad_key (length new) key ≡ false
longer_good old new key l h =
    let s = good_some (length old) key h in
    let w = good_within (length old) key h in
    let e : length new ≡ length old + length l.more = ap length l.is ∙ length-append old l.more in
    good_from (length new) key s (omega arith)

longer_records : (old new : Table) (key : ℕ) → Longer old new → is_bad_key (length old) key ≡ false → records_at new key ≡ records_at old key
longer_records old new key l h =
    records_good new key (longer_good old new key l h)
    ∙ ap (λ t. joined (beats_in t key)) l.is
    ∙ ap joined (part_stays (List RouteRec) (key / 256) (key % 256) old l.more (good_within (length old) key h))
    ∙ sym (records_good old key h)

pub table_here : (n : ShapeNumbers) (b : Board) (rs : List RouteRec) (ts : List Table) → board_place n b < length ts → table_of n (with_records n b rs ts) b ≡ table_of n ts b ++ pack rs
unfolding with_records
table_here n b rs ts h = get_or-set_same ts (board_place n b) (table_of n ts b ++ pack rs) [] h

longer_by : (n : ShapeNumbers) (b c : Board) (rs : List RouteRec) (ts : List Table) (v : Bool) → v ≡ eqb (board_place n c) (board_place n b) → board_place n b < length ts → Longer (table_of n ts c) (table_of n (with_records n b rs ts) c)
unfolding with_records
longer_by n b c rs ts true e h =
    let i : board_place n c ≡ board_place n b = grind (arith, nat_tests) in
    record {
      more = pack rs;
      is = ap (λ p. get_or (set ts (board_place n b) (table_of n ts b ++ pack rs)) p []) i ∙ get_or-set_same ts (board_place n b) (table_of n ts b ++ pack rs) [] h ∙ ap (λ p. get_or ts p [] ++ pack rs) (sym i);
    }
longer_by n b c rs ts false e h =
    let i : board_place n c ≢ board_place n b = grind (arith, nat_tests) in
    record { more = []; is = get_or-set_other ts (board_place n b) (board_place n c) (table_of n ts b ++ pack rs) [] i ∙ sym (nothing_more (table_of n ts c)) } where
      nothing_more : (t : Table) → t ++ [] ≡ t
      nothing_more t = grind (arith, common_steps)

pub longer_with : (n : ShapeNumbers) (b c : Board) (rs : List RouteRec) (ts : List Table) → board_place n b < length ts → Longer (table_of n ts c) (table_of n (with_records n b rs ts) c)
longer_with n b c rs ts h = longer_by n b c rs ts (eqb (board_place n c) (board_place n b)) refl h

pub grows_with : (n : ShapeNumbers) (b : Board) (rs : List RouteRec) (ts : List Table) → board_place n b < length ts → Grows n ts (with_records n b rs ts)
grows_with n b rs ts h = record {
  good = λ c key e. longer_good (table_of n ts c) (table_of n (with_records n b rs ts) c) key (longer_with n b c rs ts h) e;
  records = λ c key e. longer_records (table_of n ts c) (table_of n (with_records n b rs ts) c) key (longer_with n b c rs ts h) e;
}

pub length_with : (n : ShapeNumbers) (b : Board) (rs : List RouteRec) (ts : List Table) → length (with_records n b rs ts) ≡ length ts
unfolding with_records
length_with n b rs ts = length-set ts (board_place n b) (table_of n ts b ++ pack rs)

-- beats hold the records in order
joined_filled : (beat rs : List RouteRec) → joined (filled beat rs) ≡ beat ++ rs
joined_filled beat [] = refl
joined_filled beat (r ∷ rs) =
    elim (is_beat (beat ++ r ∷ [])) as (λ v. joined (cond v (filled (beat ++ r ∷ []) rs) (beat ∷ filled (r ∷ []) rs)) ≡ beat ++ r ∷ rs) [
      | true ↦ joined_filled (beat ++ r ∷ []) rs ∙ append_assoc beat (r ∷ []) rs
      | false ↦ ap (λ xs. beat ++ xs) (joined_filled (r ∷ []) rs)
    ]

pub joined_pack : (rs : List RouteRec) → joined (pack rs) ≡ rs
joined_pack [] = refl
joined_pack (r ∷ rs) = joined_filled (r ∷ []) rs

length_filled : (beat rs : List RouteRec) → length (filled beat rs) ≤ suc (length rs)
length_filled beat [] = omega arith
length_filled beat (r ∷ rs) =
    elim (is_beat (beat ++ r ∷ [])) as (λ v. length (cond v (filled (beat ++ r ∷ []) rs) (beat ∷ filled (r ∷ []) rs)) ≤ suc (length (r ∷ rs))) [
      | true ↦ let h = length_filled (beat ++ r ∷ []) rs in omega arith
      | false ↦ let h = length_filled (r ∷ []) rs in omega arith
    ]

pub length_pack : (rs : List RouteRec) → length (pack rs) ≤ length rs
length_pack [] = omega arith
length_pack (r ∷ rs) = length_filled (r ∷ []) rs

filled_some : (beat rs : List RouteRec) → 0 < length (filled beat rs)
filled_some beat [] = omega arith
filled_some beat (r ∷ rs) =
    elim (is_beat (beat ++ r ∷ [])) as (λ v. 0 < length (cond v (filled (beat ++ r ∷ []) rs) (beat ∷ filled (r ∷ []) rs))) [
      | true ↦ filled_some (beat ++ r ∷ []) rs
      | false ↦ omega arith
    ]

-- the records that were given out are those of their key
pub record Given (n : ShapeNumbers) (b : Board) (rs : List RouteRec) (ts : List Table) (key : ℕ) : Type 0 where
  pub good : is_bad_key (length (table_of n (with_records n b rs ts) b)) key ≡ false
  pub records : records_of n (with_records n b rs ts) b key ≡ rs

pub given : (n : ShapeNumbers) (b : Board) (r : RouteRec) (rs : List RouteRec) (ts : List Table) → board_place n b < length ts → length (r ∷ rs) < 256 → Given n b (r ∷ rs) ts (key_of (length (table_of n ts b)) (length (pack (r ∷ rs))))
given n b r rs ts h few =
    let qs : List RouteRec = r ∷ rs in
    let key : ℕ = key_of (length (table_of n ts b)) (length (pack qs)) in
    let some : 0 < length (pack qs) = filled_some (r ∷ []) rs in
    let short : length (pack qs) < 256 = let l = length_pack qs in omega arith in
    let t : table_of n (with_records n b qs ts) b ≡ table_of n ts b ++ pack qs = table_here n b qs ts h in
    let long : length (table_of n (with_records n b qs ts) b) ≡ length (table_of n ts b) + length (pack qs) = ap length t ∙ length-append (table_of n ts b) (pack qs) in
    let first : key / 256 ≡ length (table_of n ts b) = omega arith in
    let count : key % 256 ≡ length (pack qs) = omega arith in
    let good : is_bad_key (length (table_of n (with_records n b qs ts) b)) key ≡ false = good_from (length (table_of n (with_records n b qs ts) b)) key (omega arith) (omega arith) in
    record {
      good = good;
      records = records_good (table_of n (with_records n b qs ts) b) key good
          ∙ ap (λ x. joined (beats_in x key)) t
          ∙ ap joined (part_new (List RouteRec) (key / 256) (key % 256) (table_of n ts b) (pack qs) first count)
          ∙ joined_pack qs;
    }
