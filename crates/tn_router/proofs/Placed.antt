-- A packet in process stands at a record of its key, or no record comes.
use Rattle.std.proofs.Common.{ℕ, ◌≡◌, ◌≤◌, ◌+◌, ◌||◌, true, false, [], drop, get_or, length, refl, ap, subst, arith, ltb, Option, Some, None, MatchOption, option_map}
use Rattle.std.proofs.lemmas.Bool.{and_from, cond_both, le-leb, lt-ltb, ltb-false, ltb-true, not_from_false, or_left, or_parts, or_right}
use Rattle.tn_base.specs.declared.message.Dest.{Dest}
use Rattle.tn_base.specs.declared.message.Dest.TheVariants as dest
use Rattle.tn_base.specs.declared.message.Packet.{Packet}
use Rattle.tn_keys.specs.Key.{key_count, key_first}
use Rattle.tn_keys.specs.Tables.{Table, is_bad_key, joined}
use Rattle.tn_router.specs.declared.work.Work.{Work}
use Rattle.tn_router.specs.Kept.{is_placed, is_record_of, is_record_to}
use Rattle.tn_router.specs.Rest.{at_beat, beats_from, entered, first_full, from_beat, next_work, or_zero, rest_by, rest_of, rest_to, started, started_to}
use Rattle.tn_router.proofs.Firsts.{IsRecord, full_none, full_record, record_facts}

pub is_record : (table : Table) (key beat at : ℕ) → IsRecord table key beat at → is_record_of table key beat at ≡ true
is_record table key beat at f =
    and_from _ _ (and_from _ _ (and_from _ _ (not_from_false (is_bad_key (length table) key) f.good) (le-leb (key_first key) beat f.first)) (lt-ltb beat (key_first key + key_count key) f.end)) (lt-ltb at (length (get_or table beat [])) f.stands)

-- a packet at a record is placed
pub placed_at : (table : Table) (key : ℕ) (w : Work) → w.packet.dest ≡ dest.Key key → IsRecord table key w.beat w.at → is_placed table w ≡ true
placed_at table key w e f = rw e (or_left _ _ (is_record table key w.beat w.at f))

-- and so is one of which no record comes, with both numbers 0
placed_none : (table : Table) (p : Packet) → rest_of table (at_beat p 0) ≡ [] → is_placed table (at_beat p 0) ≡ true
placed_none table p e = or_right (is_record_to table p.dest 0 0) _ (rw e refl)

abbrev pub AllPlaced : Table → Option Work → Type 0
AllPlaced table o = MatchOption o (Unit {0}) (λ w. is_placed table w ≡ true)

beat_placed : (table : Table) (key i : ℕ) (p : Packet) (o : Option ℕ) → is_bad_key (length table) key ≡ false → p.dest ≡ dest.Key key → key_first key ≤ i → first_full i (beats_from table key i) ≡ o → AllPlaced table (option_map (at_beat p) o)
beat_placed table key i p None is_good e late is = tt
beat_placed table key i p (Some j) is_good e late is = placed_at table key (at_beat p j) e (full_record table key i j is_good late is)

pub from_placed : (table : Table) (key i : ℕ) (p : Packet) → is_bad_key (length table) key ≡ false → p.dest ≡ dest.Key key → key_first key ≤ i → AllPlaced table (from_beat table key i p)
from_placed table key i p is_good e late = beat_placed table key i p (first_full i (beats_from table key i)) is_good e late refl

-- no record of a bad key comes
pub bad_placed : (table : Table) (key : ℕ) (p : Packet) → p.dest ≡ dest.Key key → is_bad_key (length table) key ≡ true → is_placed table (at_beat p 0) ≡ true
bad_placed table key p e bad =
    let none : rest_of table (at_beat p 0) ≡ [] = rw (e, bad) refl in
    placed_none table p none

-- nor does one of a key whose beats are empty
pub none_comes : (table : Table) (key : ℕ) (p : Packet) → joined (beats_from table key (key_first key)) ≡ [] → rest_by table (at_beat p 0) key ≡ []
none_comes table key p none =
    cond_both (is_bad_key (length table) key || ltb 0 (key_first key)) [] (drop 0 (joined (beats_from table key 0))) (λ rs. rs ≡ []) (λ _. refl)
    (λ no.
    let late = ltb-false 0 (key_first key) (or_parts (is_bad_key (length table) key) (ltb 0 (key_first key)) no).1 in
    let start : key_first key ≡ 0 = omega arith in
    subst (λ i. joined (beats_from table key i) ≡ []) start none)

first_placed : (table : Table) (key : ℕ) (p : Packet) (o : Option ℕ) → is_bad_key (length table) key ≡ false → p.dest ≡ dest.Key key → first_full (key_first key) (beats_from table key (key_first key)) ≡ o → is_placed table (or_zero p (option_map (at_beat p) o)) ≡ true
first_placed table key p None is_good e is =
    let none : rest_of table (at_beat p 0) ≡ [] = rw e (none_comes table key p (full_none (key_first key) (beats_from table key (key_first key)) is)) in
    placed_none table p none
first_placed table key p (Some j) is_good e is = placed_at table key (at_beat p j) e (full_record table key (key_first key) j is_good (omega arith) is)

started_at : (table : Table) (p : Packet) (d : Dest) → p.dest ≡ d → is_placed table (started_to table p d) ≡ true
started_at table p (dest.Thread t) e = placed_none table p (ap (rest_to table (at_beat p 0)) e)
started_at table p dest.Host e = placed_none table p (ap (rest_to table (at_beat p 0)) e)
started_at table p (dest.Mask tile mask) e = placed_none table p (ap (rest_to table (at_beat p 0)) e)
started_at table p (dest.Key key) e =
    cond_both (is_bad_key (length table) key) (at_beat p 0) (or_zero p (from_beat table key (key_first key) p)) (λ w. is_placed table w ≡ true)
    (λ bad. bad_placed table key p e bad)
    (λ is_good. first_placed table key p (first_full (key_first key) (beats_from table key (key_first key))) is_good e refl)

pub started_placed : (table : Table) (p : Packet) → is_placed table (started table p) ≡ true
started_placed table p = started_at table p p.dest refl

pub next_placed : (table : Table) (key : ℕ) (w : Work) → w.packet.dest ≡ dest.Key key → is_record_of table key w.beat w.at ≡ true → AllPlaced table (next_work table key w)
next_placed table key w e h =
    let f = record_facts table key w.beat w.at h in
    let first = f.first in
    cond_both (ltb (w.at + 1) (length (get_or table w.beat []))) (Some (record w { at = w.at + 1 })) (from_beat table key (w.beat + 1) w.packet) (AllPlaced table)
    (λ more. placed_at table key (record w { at = w.at + 1 }) e (record { good = f.good; first = f.first; end = f.end; within = f.within; stands = ltb-true (w.at + 1) (length (get_or table w.beat [])) more }))
    (λ _. from_placed table key (w.beat + 1) w.packet f.good e (omega arith))

pub entered_placed : (table : Table) (p : Packet) (key : ℕ) → AllPlaced table (entered table p key)
entered_placed table p key =
    let q : Packet = record p { dest = dest.Key key } in
    cond_both (is_bad_key (length table) key) (Some (at_beat q 0)) (from_beat table key (key_first key) q) (AllPlaced table)
    (λ bad. bad_placed table key q refl bad)
    (λ is_good. from_placed table key (key_first key) q is_good refl (omega arith))
