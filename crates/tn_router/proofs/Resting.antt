-- The records still to come, after each step.
use Rattle.std.proofs.Common.{ℕ, zero, suc, ◌≡◌, ◌≤◌, ◌+◌, ◌++◌, true, false, List, [], ◌∷◌, drop, get_or, take, length, refl, sym, ap, subst, ◌∙◌, arith, ltb, Option, Some, None, MatchOption, option_map}
use Rattle.std.proofs.lemmas.Bool.{cond_both, le-ltb, ltb-false}
use Rattle.std.proofs.lemmas.List.{drop-drop, drop-take}
use Rattle.tn_base.specs.declared.message.Dest.TheVariants as dest
use Rattle.tn_base.specs.declared.message.Packet.{Packet}
use Rattle.tn_keys.specs.declared.record.RouteRec.{RouteRec}
use Rattle.tn_keys.specs.Key.{key_count, key_first}
use Rattle.tn_keys.specs.Tables.{Table, is_bad_key, joined, records_at}
use Rattle.tn_router.specs.declared.work.Work.{Work}
use Rattle.tn_router.specs.Rest.{at_beat, beats_from, entered, first_full, from_beat, next_work, or_zero, rest_by, started_by}
use Rattle.tn_router.proofs.Firsts.{IsRecord, beats_here, full_none, full_record}
use Rattle.tn_router.proofs.Placed.{none_comes}

-- the beats before the first one that has a record have none
skipped : (i j : ℕ) (bs : Table) → first_full i bs ≡ Some j → (k : ℕ) × (j ≡ i + k) × (joined (drop k bs) ≡ joined bs)
skipped i j [] e = cc e
skipped i j ([] ∷ bs) e = let q = skipped (i + 1) j bs e in (suc q.0, (let a = q.1 in omega arith), q.2)
skipped i j ((r ∷ rs) ∷ bs) e = let same : i ≡ j = cc e in (zero, omega arith, refl)

full_joined : (table : Table) (key i j : ℕ) → first_full i (beats_from table key i) ≡ Some j → joined (beats_from table key j) ≡ joined (beats_from table key i)
full_joined table key i j e =
    let q = skipped i j (beats_from table key i) e in
    let all = take (key_first key + key_count key) table in
    let further : drop q.0 (drop i all) ≡ drop j all = drop-drop q.0 i all ∙ ap (λ k. drop k all) (sym q.1) in
    sym (ap joined further) ∙ q.2

-- a packet at a place of its key
rest_at : (table : Table) (key : ℕ) (w : Work) → is_bad_key (length table) key ≡ false → key_first key ≤ w.beat → rest_by table w key ≡ drop w.at (joined (beats_from table key w.beat))
rest_at table key w is_good late =
    let after : ltb w.beat (key_first key) ≡ false = le-ltb w.beat (key_first key) late in
    rw (is_good, after) refl

-- a packet that is still there and of which these records come, or none comes
abbrev pub Rests : Table → ℕ → Packet → List RouteRec → Option Work → Type 0
Rests table key p rs o = MatchOption o (rs ≡ []) (λ x. (x.packet ≡ p) × (rest_by table x key ≡ rs))

beat_rests : (table : Table) (key i : ℕ) (p : Packet) (o : Option ℕ) → is_bad_key (length table) key ≡ false → key_first key ≤ i → first_full i (beats_from table key i) ≡ o → Rests table key p (joined (beats_from table key i)) (option_map (at_beat p) o)
beat_rests table key i p None is_good late e = full_none i (beats_from table key i) e
beat_rests table key i p (Some j) is_good late e =
    let f = full_record table key i j is_good late e in
    (refl, rest_at table key (at_beat p j) is_good f.first ∙ full_joined table key i j e)

from_rests : (table : Table) (key i : ℕ) (p : Packet) → is_bad_key (length table) key ≡ false → key_first key ≤ i → Rests table key p (joined (beats_from table key i)) (from_beat table key i p)
from_rests table key i p is_good late = beat_rests table key i p (first_full i (beats_from table key i)) is_good late refl

-- the records of a key that is not bad
records_good : (table : Table) (key : ℕ) → is_bad_key (length table) key ≡ false → records_at table key ≡ joined (beats_from table key (key_first key))
unfolding records_at
records_good table key is_good = rw is_good (ap joined (sym (drop-take (key_first key) (key_count key) table)))

records_bad : (table : Table) (key : ℕ) → is_bad_key (length table) key ≡ true → records_at table key ≡ []
unfolding records_at
records_bad table key bad = rw bad refl

-- behind a record that is no IND the next ones come
pub rest_next : (table : Table) (key : ℕ) (w : Work) → IsRecord table key w.beat w.at → Rests table key w.packet (drop 1 (rest_by table w key)) (next_work table key w)
rest_next table key w f =
    let beat = get_or table w.beat [] in
    let others = joined (beats_from table key (w.beat + 1)) in
    let here : beats_from table key w.beat ≡ beat ∷ beats_from table key (w.beat + 1) = beats_here table w.beat (key_first key + key_count key) f.end f.within in
    let more : drop 1 (rest_by table w key) ≡ drop (w.at + 1) (beat ++ others) =
    ap (drop 1) (rest_at table key w f.good f.first) ∙ drop-drop 1 w.at (joined (beats_from table key w.beat)) ∙ ap (λ bs. drop (w.at + 1) (joined bs)) here in
    subst (λ rs. Rests table key w.packet rs (next_work table key w)) (sym more) (
    cond_both (ltb (w.at + 1) (length beat)) (Some (record w { at = w.at + 1 })) (from_beat table key (w.beat + 1) w.packet) (Rests table key w.packet (drop (w.at + 1) (beat ++ others)))
    (λ _. (refl, rest_at table key (record w { at = w.at + 1 }) f.good f.first ∙ ap (λ bs. drop (w.at + 1) (joined bs)) here))
    (λ past.
    let first = f.first in
    let stands = f.stands in
    let end : w.at + 1 ≡ length beat = let le = ltb-false (w.at + 1) (length beat) past in omega arith in
    let gone : drop (w.at + 1) (beat ++ others) ≡ others = ap (λ k. drop k (beat ++ others)) end ∙ drop_front beat others in
    subst (λ rs. Rests table key w.packet rs (from_beat table key (w.beat + 1) w.packet)) (sym gone) (from_rests table key (w.beat + 1) w.packet f.good (omega arith)))
    ) where
      drop_front : (xs ys : List RouteRec) → drop (length xs) (xs ++ ys) ≡ ys
      drop_front [] ys = refl
      drop_front (x ∷ xs) ys = drop_front xs ys

-- behind an IND those of its key come; of a bad key none do
pub rest_entered : (table : Table) (p : Packet) (key : ℕ) → Rests table key (record p { dest = dest.Key key }) (records_at table key) (entered table p key)
rest_entered table p key =
    let q : Packet = record p { dest = dest.Key key } in
    cond_both (is_bad_key (length table) key) (Some (at_beat q 0)) (from_beat table key (key_first key) q) (Rests table key q (records_at table key))
    (λ bad. (refl, (let none : rest_by table (at_beat q 0) key ≡ [] = rw bad refl in none) ∙ sym (records_bad table key bad)))
    (λ is_good. subst (λ rs. Rests table key q rs (from_beat table key (key_first key) q)) (sym (records_good table key is_good)) (from_rests table key (key_first key) q is_good (omega arith)))

-- a packet that comes into process has all the records of its key before it
first_rest : (table : Table) (key : ℕ) (p : Packet) (o : Option ℕ) → is_bad_key (length table) key ≡ false → first_full (key_first key) (beats_from table key (key_first key)) ≡ o → rest_by table (or_zero p (option_map (at_beat p) o)) key ≡ joined (beats_from table key (key_first key))
first_rest table key p None is_good e =
    let none = full_none (key_first key) (beats_from table key (key_first key)) e in
    none_comes table key p none ∙ sym none
first_rest table key p (Some j) is_good e =
    let f = full_record table key (key_first key) j is_good (omega arith) e in
    rest_at table key (at_beat p j) is_good f.first ∙ full_joined table key (key_first key) j e

pub rest_started : (table : Table) (p : Packet) (key : ℕ) → rest_by table (started_by table p key) key ≡ records_at table key
rest_started table p key =
    cond_both (is_bad_key (length table) key) (at_beat p 0) (or_zero p (from_beat table key (key_first key) p)) (λ w. rest_by table w key ≡ records_at table key)
    (λ bad. (let none : rest_by table (at_beat p 0) key ≡ [] = rw bad refl in none) ∙ sym (records_bad table key bad))
    (λ is_good. first_rest table key p (first_full (key_first key) (beats_from table key (key_first key))) is_good refl ∙ sym (records_good table key is_good))

first_packet : (p : Packet) (o : Option ℕ) → (or_zero p (option_map (at_beat p) o)).packet ≡ p
first_packet p None = refl
first_packet p (Some j) = refl

pub started_packet : (table : Table) (p : Packet) (key : ℕ) → (started_by table p key).packet ≡ p
started_packet table p key =
    cond_both (is_bad_key (length table) key) (at_beat p 0) (or_zero p (from_beat table key (key_first key) p)) (λ w. w.packet ≡ p)
    (λ _. refl) (λ _. first_packet p (first_full (key_first key) (beats_from table key (key_first key))))
