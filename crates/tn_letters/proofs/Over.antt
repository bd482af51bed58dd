-- The detector answers that all is over if and only if every thread has ended and the host's script is at its end.
use Rattle.std.proofs.Common.{ℕ, ◌≡◌, ◌<◌, ◌-◌, ◌||◌, zero, suc, List, [], ◌∷◌, length, get_or, not, Bool, true, false, refl, sym, ◌∙◌, ap, subst, arith, IsTrue, Option, Some, None, is_none, inl, inr}
use Rattle.std.specs.Prelude.{◌↔◌, option_and_then}
use Rattle.std.specs.List.{list_any}
use Rattle.std.proofs.lemmas.Bool.{cases_lt}
use Rattle.std.proofs.lemmas.Option.{get_or_from_slice_get}
use Rattle.tn_base.specs.declared.event.Event.TheVariants as event
use Rattle.tn_base.specs.declared.event.Outcome.TheVariants as outcome
use Rattle.tn_base.specs.declared.part.Kind.{Kind}
use Rattle.tn_base.specs.declared.part.Kind.TheVariants as kind
use Rattle.tn_base.specs.declared.shape.ShapeNumbers.{ShapeNumbers}
use Rattle.tn_base.specs.Address.{has_thread, has_tile, in_tile, place_in_tile, tile_place, tile_threads}
use Rattle.tn_base.specs.Parts.{board_at, kind_of, part_count, tile_at, tile_count, tile_part, visited}
use Rattle.tn_base.proofs.TilePlaces.{place_back, place_there}
use Rattle.tn_detect.specs.declared.answer.Answer.{Answer}
use Rattle.tn_detect.specs.declared.answer.Answer.TheVariants.{AllDead, Live}
use Rattle.tn_detect.specs.Notes.{answer_of}
use Rattle.tn_host.specs.declared.script.ScriptItem.{ScriptItem}
use Rattle.tn_host.specs.Script.{first_item}
use Rattle.tn_quiet.specs.Law.{IsQuietWorld}
use Rattle.tn_quiet.specs.Machine.{rest_of}
use Rattle.tn_quiet.proofs.Machines.{at_last}
use Rattle.tn_rows.proofs.PartKinds.{past_tiles, router_at, tile_at_part}
use Rattle.tn_rest.specs.declared.facts.Facts.{Facts}
use Rattle.tn_rest.specs.Quiet.{notes_of}
use Rattle.tn_rows.specs.Ends.{done_on, done_with, final_of}
use Rattle.tn_rows.specs.Events.{happened}
use Rattle.tn_rows.specs.PartView.{PartView, TileV, RouterV, LinkV, HostV, DetectorV, AbsentV}
use Rattle.tn_rows.specs.Places.{detector_part}
use Rattle.tn_rows.specs.WorldView.{WorldView}
use Rattle.tn_thread.specs.declared.thread.Thread.{Thread}
use Rattle.tn_tile.specs.Receivers.{is_dead}
use Rattle.tn_tile.specs.Step.{no_thread, thread_at}
use Rattle.tn_tile.specs.Still.{has_live}
use Rattle.tn_tile.specs.TileView.{TileView}
use Rattle.tn_letters.specs.AtRest.{IsOver}
use Rattle.tn_letters.specs.Settled.{detector_in, detector_on}
use Rattle.tn_letters.specs.Tiles.{host_in, host_on, part_for, thread_of}
use Rattle.tn_letters.proofs.Announced.{answer_is}
use Rattle.tn_letters.proofs.Detected.{last_part}
use Rattle.tn_letters.proofs.Empty.{host_there, on_place, part_facts, seat}
use Rattle.tn_letters.proofs.GoodParts.{event_good}
use Rattle.tn_letters.proofs.Lift.{Good, GoodTile, On, OnPart, StandsAt, part_on, stands_on, tile_is}
use Rattle.tn_letters.proofs.Votes.{or_false}

-- ---- what is noted

dead_each : (part : ℕ → Facts) (i : ℕ) → (notes_of part i).live ≡ false → (k : ℕ) → k < i → (part k).view.live ≡ false
dead_each part zero e k h = absurd (omega arith)
dead_each part (suc i) e k h =
    let s = or_false (notes_of part i).live (part i).view.live e in
    elim (cases_lt k i) [
      | inl below ↦ dead_each part i s.0 k below
      | inr behind ↦ (let same : k ≡ i = omega arith in ap (λ j. (part j).view.live) same ∙ s.1)
    ]

neither : (a b : Bool) → a ≡ false → b ≡ false → (a || b) ≡ false
neither true b p q = cc p
neither false b p q = q

dead_from : (part : ℕ → Facts) (i : ℕ) → ((k : ℕ) → k < i → (part k).view.live ≡ false) → (notes_of part i).live ≡ false
dead_from part zero h = refl
dead_from part (suc i) h = neither (notes_of part i).live (part i).view.live (dead_from part i (λ k below. h k (omega arith))) (h i (omega arith))

-- the host alone tells of an end
end_of_first : (part : ℕ → Facts) (i : ℕ) → ((k : ℕ) → k < i → (part (suc k)).view.at_end ≡ false) → (notes_of part (suc i)).at_end ≡ (part 0).view.at_end
end_of_first part zero h = refl
end_of_first part (suc i) h = or_none (notes_of part (suc i)).at_end (part (suc i)).view.at_end (h i (omega arith)) ∙ end_of_first part i (λ k below. h k (omega arith))
  where
    or_none : (a b : Bool) → b ≡ false → (a || b) ≡ a
    or_none true b e = refl
    or_none false b e = e

-- ---- threads

not_dead : (b : Bool) → not b ≡ false → b ≡ true
not_dead true e = refl
not_dead false e = cc e

none_at : (ts : List Thread) (k : ℕ) → list_any (λ (t : Thread). not (is_dead t.state)) ts ≡ false → k < length ts → is_dead (get_or ts k no_thread).state ≡ true
none_at [] k e h = absurd (omega arith)
none_at (t ∷ ts) zero e h = not_dead (is_dead t.state) (or_false (not (is_dead t.state)) (list_any (λ (t : Thread). not (is_dead t.state)) ts) e).0
none_at (t ∷ ts) (suc k) e h = none_at ts k (or_false (not (is_dead t.state)) (list_any (λ (t : Thread). not (is_dead t.state)) ts) e).1 (omega arith)

none_from : (ts : List Thread) → ((k : ℕ) → k < length ts → is_dead (get_or ts k no_thread).state ≡ true) → list_any (λ (t : Thread). not (is_dead t.state)) ts ≡ false
none_from [] h = refl
none_from (t ∷ ts) h = neither (not (is_dead t.state)) (list_any (λ (t : Thread). not (is_dead t.state)) ts) (ap not (h 0 (omega arith))) (none_from ts (λ k below. h (suc k) (omega arith)))

-- a part has no live thread if its tile has none
shown_dead : (w : WorldView) (p : ℕ) (x : PartView) → OnPart w p x → p < visited w.shape → ((v : TileView) → x ≡ TileV v → has_live v.now ≡ false) → ((rest_of w).part p).view.live ≡ false
shown_dead w p (TileV v) on inside h = ap (λ (f : Facts). f.view.live) (part_facts w p (TileV v) on inside) ∙ h v refl
shown_dead w p (RouterV v) on inside h = ap (λ (f : Facts). f.view.live) (part_facts w p (RouterV v) on inside)
shown_dead w p (LinkV v) on inside h = ap (λ (f : Facts). f.view.live) (part_facts w p (LinkV v) on inside)
shown_dead w p (HostV s) on inside h = ap (λ (f : Facts). f.view.live) (part_facts w p (HostV s) on inside)
shown_dead w p (DetectorV v) on inside h = ap (λ (f : Facts). f.view.live) (part_facts w p (DetectorV v) on inside)
shown_dead w p AbsentV on inside h = ap (λ (f : Facts). f.view.live) (part_facts w p AbsentV on inside)

abbrev AllDeadIn : WorldView → Type 0
AllDeadIn w = (a : ℕ) → IsTrue (has_thread w.shape a) → is_dead (thread_of w a).state ≡ true

each_dead : (w : WorldView) → Good w → (notes_of (rest_of w).part (visited w.shape)).live ≡ false → AllDeadIn w
each_dead w g e a there =
    let s = seat w a g there in
    let part = dead_each (rest_of w).part (visited w.shape) e (part_for w a) s.inside in
    let dead : has_live s.tile.now ≡ false = sym (ap (λ (f : Facts). f.view.live) (part_facts w (part_for w a) (TileV s.tile) s.on s.inside)) ∙ part in
    ap (λ (t : Thread). is_dead t.state) s.thread ∙ none_at s.tile.now.threads (place_in_tile w.shape a) dead s.within

tile_dead : (w : WorldView) (p : ℕ) (v : TileView) → Good w → On w p v → AllDeadIn w → has_live v.now ≡ false
tile_dead w p v g on each = none_from v.now.threads (λ k below.
    let n : ShapeNumbers = w.shape in
    let t : GoodTile n p v = part_on w p (TileV v) g on in
    let here : IsTrue (has_tile n v.plan.tile) = subst (λ m. IsTrue (has_tile m v.plan.tile)) t.shape t.shaped.tile in
    let count = t.shaped.fits.threads.count in
    let low : k < tile_threads n = subst (λ m. k < tile_threads m) t.shape (omega arith) in
    let back = place_back n v.plan.tile k g.limits here low in
    let a : ℕ = in_tile n v.plan.tile k in
    let part : part_for w a ≡ p = ap (λ x. tile_part (tile_place n x)) back.0 ∙ t.part in
    let is : thread_of w a ≡ thread_at v.now k = ap (λ x. thread_at x.now (place_in_tile n a)) (tile_is w p v a on part) ∙ ap (thread_at v.now) back.1 in
    sym (ap (λ (x : Thread). is_dead x.state) is) ∙ each a (place_there n v.plan.tile k g.limits here low))

no_live : (w : WorldView) → Good w → AllDeadIn w → (notes_of (rest_of w).part (visited w.shape)).live ≡ false
no_live w g each = dead_from (rest_of w).part (visited w.shape) (λ p inside.
    let last = at_last w.shape g.limits in
    let below : p < part_count w.shape = omega arith in
    let on = on_place w p g below in
    shown_dead w p (get_or w.parts p AbsentV) on inside (λ v is. tile_dead w p v g (subst (OnPart w p) is on) each))

-- ---- the script

-- a tile and a router tell of no end
no_end : (k : Kind) (w : WorldView) (p : ℕ) (x : PartView) → StandsAt k x → ((k ≡ kind.Host) → ⊥) → OnPart w p x → p < visited w.shape → ((rest_of w).part p).view.at_end ≡ false
no_end k w p (TileV v) s ne on inside = ap (λ (f : Facts). f.view.at_end) (part_facts w p (TileV v) on inside)
no_end k w p (RouterV v) s ne on inside = ap (λ (f : Facts). f.view.at_end) (part_facts w p (RouterV v) on inside)
no_end k w p (LinkV v) s ne on inside = ap (λ (f : Facts). f.view.at_end) (part_facts w p (LinkV v) on inside)
no_end k w p (DetectorV v) s ne on inside = ap (λ (f : Facts). f.view.at_end) (part_facts w p (DetectorV v) on inside)
no_end k w p AbsentV s ne on inside = ap (λ (f : Facts). f.view.at_end) (part_facts w p AbsentV on inside)
no_end kind.Host w p (HostV h) s ne on inside = absurd (ne refl)
no_end (kind.Tile tile) w p (HostV h) s ne on inside = absurd s
no_end (kind.Router board) w p (HostV h) s ne on inside = absurd s
no_end (kind.Link from onto) w p (HostV h) s ne on inside = absurd s
no_end kind.Detector w p (HostV h) s ne on inside = absurd s

-- behind the host no visited part is a host
not_host : (n : ShapeNumbers) (i : ℕ) → suc i < visited n → (kind_of n (suc i) ≡ kind.Host) → ⊥
not_host n i h e = elim (cases_lt i (tile_count n)) [
  | inl here ↦ (let f : kind.Tile (record { 0 = tile_at n i }) ≡ kind.Host = tile_at_part n i here ∙ e in cc f)
  | inr past ↦ (let f : kind.Router (board_at n (i - tile_count n)) ≡ kind.Host = router_at n (i - tile_count n) (omega arith) ∙ (past_tiles n i past ∙ e) in cc f)
]

end_noted : (w : WorldView) → Good w → (notes_of (rest_of w).part (visited w.shape)).at_end ≡ is_none (first_item (host_on w).script)
end_noted w g =
    let n : ShapeNumbers = w.shape in
    let some : suc (visited n - 1) ≡ visited n = omega arith in
    let h = host_there w g in
    let first : ((rest_of w).part 0).view.at_end ≡ is_none (first_item h.0.script) = ap (λ (f : Facts). f.view.at_end) (part_facts w 0 (HostV h.0) h.1 (omega arith)) in
    let here : is_none (first_item (host_on w).script) ≡ is_none (first_item h.0.script) = ap (λ x. is_none (first_item (host_in x).script)) h.1.is in
    ap (λ i. (notes_of (rest_of w).part i).at_end) (sym some)
    ∙ (end_of_first (rest_of w).part (visited n - 1) (λ k below.
    let last = at_last n g.limits in
    let inside : suc k < visited n = omega arith in
    let there : suc k < part_count n = omega arith in
    let on = on_place w (suc k) g there in
    no_end (kind_of n (suc k)) w (suc k) (get_or w.parts (suc k) AbsentV) (stands_on w (suc k) (get_or w.parts (suc k) AbsentV) g on) (not_host n k inside) on inside)
    ∙ (first ∙ sym here))

-- ---- the answer

none_left : (xs : List ScriptItem) → is_none (first_item xs) ≡ true → xs ≡ []
none_left [] e = refl
none_left (x ∷ xs) e = cc e

over_if : (live votes at_end : Bool) → (o : Option Answer) → o ≡ Some (answer_of (record { live = live; votes = votes; at_end = at_end })) → o ≡ Some AllDead → (live ≡ false) × (at_end ≡ true)
over_if false votes true o e h = (refl, refl)
over_if false votes false o e h = cc
over_if true votes true o e h = cc
over_if true votes false o e h = cc

over_is : (live votes at_end : Bool) → live ≡ false → at_end ≡ true → answer_of (record { live = live; votes = votes; at_end = at_end }) ≡ AllDead
over_is false votes true p q = refl
over_is false votes false p q = cc q
over_is true votes at_end p q = cc p

pub over_answer : (w : WorldView) (o : Option Answer) → Good w → o ≡ Some (answer_of (notes_of (rest_of w).part (visited w.shape))) → (o ≡ Some AllDead) ↔ IsOver w
over_answer w o g e = (onto, back)
  where
    onto : o ≡ Some AllDead → IsOver w
    onto h =
        let notes = notes_of (rest_of w).part (visited w.shape) in
        let s = over_if notes.live notes.votes notes.at_end o e h in
        record { threads = each_dead w g s.0; script = none_left (host_on w).script (sym (end_noted w g) ∙ s.1) }

    back : IsOver w → o ≡ Some AllDead
    back v =
        let notes = notes_of (rest_of w).part (visited w.shape) in
        e ∙ ap Some (over_is notes.live notes.votes notes.at_end (no_live w g v.threads) (end_noted w g ∙ ap (λ xs. is_none (first_item xs)) v.script))

-- ---- the event

done_all : (o : Option Answer) → (done_with o ≡ Some outcome.Done) ↔ (o ≡ Some AllDead)
done_all None = (λ e. cc, λ e. cc)
done_all (Some (Live votes)) = (λ e. cc, λ e. cc)
done_all (Some AllDead) = (λ e. refl, λ e. refl)

final_is : (w : WorldView) → Good w → final_of event.Announce w ≡ done_with (detector_on w).answer
final_is w g =
    let last = last_part w g in
    ap (option_and_then done_on) last.1 ∙ sym (ap (λ x. done_with (detector_in x).answer) (get_or_from_slice_get w.parts (detector_part w.shape) (DetectorV last.0) AbsentV last.1))

pub announced_over : (w new : WorldView) → Good w → IsQuietWorld w → happened event.Announce w ≡ Some new → (final_of event.Announce new ≡ Some outcome.Done) ↔ IsOver w
announced_over w new g q h =
    let f = final_is new (event_good event.Announce w new g q h) in
    let d = done_all (detector_on new).answer in
    let v = over_answer w (detector_on new).answer g (answer_is w new g q h) in
    (λ e. v.0 (d.0 (sym f ∙ e)), λ e. f ∙ d.1 (v.1 e))
