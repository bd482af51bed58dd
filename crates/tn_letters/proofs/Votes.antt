-- The detector's answer is that of all threads: whether those that have not ended vote for the end.
use Rattle.std.proofs.Common.{ℕ, ◌≡◌, ◌<◌, ◌+◌, ◌&&◌, ◌||◌, zero, suc, List, [], ◌∷◌, length, get_or, cond, nat_lt, not, Bool, true, false, refl, sym, ◌∙◌, ap, subst, arith, IsTrue, Option, Some, None, option_map, slice_get, inl, inr}
use Rattle.std.specs.List.{list_all, list_any}
use Rattle.std.proofs.lemmas.Bool.{and_parts, cases_lt}
use Rattle.std.proofs.lemmas.Option.{slice_get-map}
use Rattle.tn_base.specs.declared.shape.ShapeNumbers.{ShapeNumbers}
use Rattle.tn_base.specs.Address.{has_thread, has_tile, in_tile, place_in_tile, thread_at as thread_address, tile_place, tile_threads}
use Rattle.tn_base.specs.Parts.{part_count, tile_part, visited}
use Rattle.tn_base.specs.Shape.{thread_count}
use Rattle.tn_base.proofs.Listing.{length_mapped, mapped_at}
use Rattle.tn_base.proofs.Places.{orders_threads}
use Rattle.tn_base.proofs.TilePlaces.{place_back, place_there}
use Rattle.tn_detect.specs.Notes.{answer_of, value_of}
use Rattle.tn_quiet.specs.Machine.{rest_of, shown as shown_parts, shows}
use Rattle.tn_quiet.proofs.Machines.{at_last}
use Rattle.tn_rest.specs.declared.facts.Facts.{Facts}
use Rattle.tn_rest.specs.Quiet.{notes_of}
use Rattle.tn_rest.specs.Seen.{facts_of, no_facts}
use Rattle.tn_rows.specs.PartView.{PartView, TileV, RouterV, LinkV, HostV, DetectorV, AbsentV}
use Rattle.tn_rows.specs.WorldView.{WorldView}
use Rattle.tn_thread.specs.declared.state.ThreadState.{ThreadState}
use Rattle.tn_thread.specs.declared.state.ThreadState.TheVariants as state
use Rattle.tn_thread.specs.declared.thread.Thread.{Thread}
use Rattle.tn_tile.specs.Receivers.{is_dead}
use Rattle.tn_tile.specs.Step.{no_thread, thread_at}
use Rattle.tn_tile.specs.Still.{all_vote, votes_for}
use Rattle.tn_tile.specs.TileView.{TileView}
use Rattle.tn_letters.specs.Machine.{addresses}
use Rattle.tn_letters.specs.Tiles.{part_for, thread_of}
use Rattle.tn_letters.proofs.Empty.{all_at, on_place, part_facts, seat}
use Rattle.tn_letters.proofs.Lift.{Good, GoodTile, On, OnPart, part_on, tile_is}

-- ---- two tests that hold together

bool_same : (a b : Bool) → (a ≡ true → b ≡ true) → (b ≡ true → a ≡ true) → a ≡ b
bool_same true true f g = refl
bool_same true false f g = sym (f refl)
bool_same false true f g = g refl
bool_same false false f g = refl

and_of : (a b : Bool) → a ≡ true → b ≡ true → (a && b) ≡ true
and_of true b p q = q
and_of false b p q = cc p

pub or_false : (a b : Bool) → (a || b) ≡ false → (a ≡ false) × (b ≡ false)
or_false true b e = cc e
or_false false b e = (refl, e)

all_from : {X : Type 0} (f : X → Bool) (xs : List X) (d : X) → ((k : ℕ) → k < length xs → f (get_or xs k d) ≡ true) → list_all f xs ≡ true
all_from f [] d h = refl
all_from f (x ∷ xs) d h = and_of (f x) (list_all f xs) (h 0 (omega arith)) (all_from f xs d (λ k below. h (suc k) (omega arith)))

-- ---- what is noted

-- if no part has a live thread, all parts vote for the end
still_votes : (part : ℕ → Facts) (i : ℕ) → ((k : ℕ) → (part k).view.live ≡ false → (part k).view.votes ≡ true) → (notes_of part i).live ≡ false → (notes_of part i).votes ≡ true
still_votes part zero each e = refl
still_votes part (suc i) each e =
    let s = or_false (notes_of part i).live (part i).view.live e in
    and_of (notes_of part i).votes (part i).view.votes (still_votes part i each s.0) (each i s.1)

noted_each : (part : ℕ → Facts) (i : ℕ) → (notes_of part i).votes ≡ true → (k : ℕ) → k < i → (part k).view.votes ≡ true
noted_each part zero e k h = absurd (omega arith)
noted_each part (suc i) e k h =
    let s = and_parts (notes_of part i).votes (part i).view.votes e in
    elim (cases_lt k i) [
      | inl below ↦ noted_each part i s.0 k below
      | inr behind ↦ (let same : k ≡ i = omega arith in ap (λ j. (part j).view.votes) same ∙ s.1)
    ]

noted_from : (part : ℕ → Facts) (i : ℕ) → ((k : ℕ) → k < i → (part k).view.votes ≡ true) → (notes_of part i).votes ≡ true
noted_from part zero h = refl
noted_from part (suc i) h = and_of (notes_of part i).votes (part i).view.votes (noted_from part i (λ k below. h k (omega arith))) (h i (omega arith))

-- ---- what parts show

dead_votes : (s : ThreadState) → not (is_dead s) ≡ false → votes_for s ≡ true
dead_votes (state.Dead value) e = refl
dead_votes state.Run e = cc e
dead_votes (state.Wait waits) e = cc e
dead_votes (state.Idle vote) e = cc e
dead_votes (state.Answered value) e = cc e
dead_votes (state.Trapped why) e = cc e

dead_all : (ts : List Thread) → list_any (λ (t : Thread). not (is_dead t.state)) ts ≡ false → list_all (λ (t : Thread). votes_for t.state) ts ≡ true
dead_all [] e = refl
dead_all (t ∷ ts) e =
    let s = or_false (not (is_dead t.state)) (list_any (λ (t : Thread). not (is_dead t.state)) ts) e in
    and_of (votes_for t.state) (list_all (λ (t : Thread). votes_for t.state) ts) (dead_votes t.state s.0) (dead_all ts s.1)

abbrev DeadVotes : Facts → Type 0
DeadVotes f = f.view.live ≡ false → f.view.votes ≡ true

shows_votes : (o : Option PartView) → DeadVotes (facts_of (option_map shows o))
shows_votes None e = refl
shows_votes (Some (TileV v)) e = dead_all v.now.threads e
shows_votes (Some (RouterV v)) e = refl
shows_votes (Some (LinkV x)) e = refl
shows_votes (Some (HostV s)) e = refl
shows_votes (Some (DetectorV v)) e = refl
shows_votes (Some AbsentV) e = refl

part_votes : (w : WorldView) (k : ℕ) → DeadVotes ((rest_of w).part k)
part_votes w k = by (nat_lt k (visited w.shape)) (facts_of (slice_get (shown_parts w) k)) (subst (λ o. DeadVotes (facts_of o)) (sym (slice_get-map shows w.parts k)) (shows_votes (slice_get w.parts k)))
  where
    by : (b : Bool) (f : Facts) → DeadVotes f → DeadVotes (cond b f no_facts)
    by true f h = h
    by false f h = λ e. refl

-- a part votes for the end if its threads do
shown_votes : (w : WorldView) (p : ℕ) (x : PartView) → OnPart w p x → p < visited w.shape → ((v : TileView) → x ≡ TileV v → all_vote v.now ≡ true) → ((rest_of w).part p).view.votes ≡ true
shown_votes w p (TileV v) on inside h = ap (λ (f : Facts). f.view.votes) (part_facts w p (TileV v) on inside) ∙ h v refl
shown_votes w p (RouterV v) on inside h = ap (λ (f : Facts). f.view.votes) (part_facts w p (RouterV v) on inside)
shown_votes w p (LinkV v) on inside h = ap (λ (f : Facts). f.view.votes) (part_facts w p (LinkV v) on inside)
shown_votes w p (HostV s) on inside h = ap (λ (f : Facts). f.view.votes) (part_facts w p (HostV s) on inside)
shown_votes w p (DetectorV v) on inside h = ap (λ (f : Facts). f.view.votes) (part_facts w p (DetectorV v) on inside)
shown_votes w p AbsentV on inside h = ap (λ (f : Facts). f.view.votes) (part_facts w p AbsentV on inside)

-- ---- all threads

abbrev votes_at : WorldView → ℕ → Bool
votes_at w a = votes_for (thread_of w a).state

-- the address of a thread by its number
address_at : (n : ShapeNumbers) (k : ℕ) → k < thread_count n → get_or (addresses n) k 0 ≡ thread_address n k
address_at n k low = let e : 0 + k ≡ k = omega arith in mapped_at (thread_address n) 0 (thread_count n) k 0 low ∙ ap (thread_address n) e

-- if each part votes for the end, each thread does
each_thread : (w : WorldView) (a : ℕ) → Good w → IsTrue (has_thread w.shape a) → (notes_of (rest_of w).part (visited w.shape)).votes ≡ true → votes_at w a ≡ true
each_thread w a g there e =
    let s = seat w a g there in
    let part = noted_each (rest_of w).part (visited w.shape) e (part_for w a) s.inside in
    let votes : all_vote s.tile.now ≡ true = sym (ap (λ (f : Facts). f.view.votes) (part_facts w (part_for w a) (TileV s.tile) s.on s.inside)) ∙ part in
    ap (λ (t : Thread). votes_for t.state) s.thread ∙ all_at (λ (t : Thread). votes_for t.state) s.tile.now.threads (place_in_tile w.shape a) no_thread votes s.within

-- if each thread votes for the end, each tile does
each_tile : (w : WorldView) (p : ℕ) (v : TileView) → Good w → On w p v → ((a : ℕ) → IsTrue (has_thread w.shape a) → votes_at w a ≡ true) → all_vote v.now ≡ true
each_tile w p v g on each = all_from (λ (t : Thread). votes_for t.state) v.now.threads no_thread (λ k below.
    let n : ShapeNumbers = w.shape in
    let t : GoodTile n p v = part_on w p (TileV v) g on in
    let here : IsTrue (has_tile n v.plan.tile) = subst (λ m. IsTrue (has_tile m v.plan.tile)) t.shape t.shaped.tile in
    let count = t.shaped.fits.threads.count in
    let low : k < tile_threads n = subst (λ m. k < tile_threads m) t.shape (omega arith) in
    let back = place_back n v.plan.tile k g.limits here low in
    let a : ℕ = in_tile n v.plan.tile k in
    let part : part_for w a ≡ p = ap (λ x. tile_part (tile_place n x)) back.0 ∙ t.part in
    let is : thread_of w a ≡ thread_at v.now k = ap (λ x. thread_at x.now (place_in_tile n a)) (tile_is w p v a on part) ∙ ap (thread_at v.now) back.1 in
    sym (ap (λ (x : Thread). votes_for x.state) is) ∙ each a (place_there n v.plan.tile k g.limits here low))

pub votes_same : (w : WorldView) → Good w → (notes_of (rest_of w).part (visited w.shape)).votes ≡ list_all (votes_at w) (addresses w.shape)
votes_same w g = bool_same _ _ onto back
  where
    onto : (notes_of (rest_of w).part (visited w.shape)).votes ≡ true → list_all (votes_at w) (addresses w.shape) ≡ true
    onto e = all_from (votes_at w) (addresses w.shape) 0 (λ k below.
        let long = length_mapped (thread_address w.shape) 0 (thread_count w.shape) in
        let low : k < thread_count w.shape = omega arith in
        ap (votes_at w) (address_at w.shape k low) ∙ each_thread w (thread_address w.shape k) g ((orders_threads w.shape g.limits).there k low) e)

    back : list_all (votes_at w) (addresses w.shape) ≡ true → (notes_of (rest_of w).part (visited w.shape)).votes ≡ true
    back e = noted_from (rest_of w).part (visited w.shape) (λ p inside.
        let last = at_last w.shape g.limits in
        let below : p < part_count w.shape = omega arith in
        let on = on_place w p g below in
        shown_votes w p (get_or w.parts p AbsentV) on inside (λ v is. each_tile w p v g (subst (OnPart w p) is on) (λ a there.
        let i = (orders_threads w.shape g.limits).each a there in
        let long = length_mapped (thread_address w.shape) 0 (thread_count w.shape) in
        let low = i.1 in
        let at = all_at (votes_at w) (addresses w.shape) i.0 0 e (omega arith) in
        sym (ap (votes_at w) (address_at w.shape i.0 low ∙ i.2)) ∙ at)))

-- ---- the value that threads learn

value_is : (live votes at_end : Bool) → (live ≡ false → votes ≡ true) → value_of (Some (answer_of (record { live = live; votes = votes; at_end = at_end }))) ≡ cond votes 2 1
value_is false true true h = refl
value_is false true false h = refl
value_is false false true h = cc (h refl)
value_is false false false h = refl
value_is true true true h = refl
value_is true true false h = refl
value_is true false true h = refl
value_is true false false h = refl

pub value_same : (w : WorldView) → Good w → value_of (Some (answer_of (notes_of (rest_of w).part (visited w.shape)))) ≡ cond (list_all (votes_at w) (addresses w.shape)) 2 1
value_same w g =
    let notes = notes_of (rest_of w).part (visited w.shape) in
    value_is notes.live notes.votes notes.at_end (still_votes (rest_of w).part (visited w.shape) (part_votes w)) ∙ ap (λ b. cond b 2 1) (votes_same w g)
