-- A machine with its release carried through: what its parts are, and what stays.
use Rattle.std.proofs.Common.{ℕ, ◌≡◌, ◌<◌, ◌≤◌, zero, suc, List, [], ◌∷◌, length, get_or, set, slice_get, refl, ◌∙◌, ap, arith, inl, inr, sum_by}
use Rattle.std.proofs.lemmas.Bool.{cases_lt}
use Rattle.tn_base.specs.declared.shape.ShapeNumbers.{ShapeNumbers}
use Rattle.tn_detect.specs.declared.phase.Phase.{Phase}
use Rattle.tn_detect.specs.declared.phase.Phase.TheVariants as phase
use Rattle.tn_detect.specs.Notes.{value_of}
use Rattle.tn_keys.specs.Reach.{Reach}
use Rattle.tn_rows.specs.PartView.{PartView, TileV, RouterV, LinkV, HostV, DetectorV, AbsentV}
use Rattle.tn_rows.specs.WorldView.{WorldView}
use Rattle.tn_rows.specs.Visited.{released_part}
use Rattle.tn_letters.specs.Law.{dropped_on}
use Rattle.tn_letters.specs.Settled.{detector_on, released_from, settled, settled_in}
use Rattle.tn_letters.specs.Standing.{bag_at, part_standing}
use Rattle.tn_letters.specs.Tiles.{beats_on, held_in, host_in, host_on, program_of, thread_of, tile_in}
use Rattle.tn_letters.proofs.Bare.{Means, dropped_match, flight_match, held_match, program_match}
use Rattle.tn_letters.proofs.Simulate.{shown}

-- ---- the parts

pub released_length : (i value : ℕ) (xs : List PartView) → length (released_from i value xs) ≡ length xs
released_length zero value [] = refl
released_length zero value (x ∷ xs) = ap suc (released_length zero value xs)
released_length (suc i) value [] = refl
released_length (suc i) value (x ∷ xs) = ap suc (released_length i value xs)

pub released_before : (i value : ℕ) (xs : List PartView) (p : ℕ) → p < i → get_or (released_from i value xs) p AbsentV ≡ get_or xs p AbsentV
released_before zero value xs p h = absurd (omega arith)
released_before (suc i) value [] p h = refl
released_before (suc i) value (x ∷ xs) zero h = refl
released_before (suc i) value (x ∷ xs) (suc p) h = released_before i value xs p (omega arith)

pub released_behind : (i value : ℕ) (xs : List PartView) (p : ℕ) → i ≤ p → get_or (released_from i value xs) p AbsentV ≡ released_part value (get_or xs p AbsentV)
released_behind zero value [] p h = refl
released_behind zero value (x ∷ xs) zero h = refl
released_behind zero value (x ∷ xs) (suc p) h = released_behind zero value xs p (omega arith)
released_behind (suc i) value [] p h = refl
released_behind (suc i) value (x ∷ xs) zero h = absurd (omega arith)
released_behind (suc i) value (x ∷ xs) (suc p) h = released_behind i value xs p (omega arith)

pub released_get : (i value : ℕ) (xs : List PartView) (p : ℕ) → p < i → slice_get (released_from i value xs) p ≡ slice_get xs p
released_get zero value xs p h = absurd (omega arith)
released_get (suc i) value [] p h = refl
released_get (suc i) value (x ∷ xs) zero h = refl
released_get (suc i) value (x ∷ xs) (suc p) h = released_get i value xs p (omega arith)

pub released_set : (i value : ℕ) (xs : List PartView) (p : ℕ) (y : PartView) → p < i → released_from i value (set xs p y) ≡ set (released_from i value xs) p y
released_set zero value xs p y h = absurd (omega arith)
released_set (suc i) value [] p y h = refl
released_set (suc i) value (x ∷ xs) zero y h = refl
released_set (suc i) value (x ∷ xs) (suc p) y h = ap (λ zs. x ∷ zs) (released_set i value xs p y (omega arith))

pub settled_length : (ph : Phase) (value : ℕ) (xs : List PartView) → length (settled_in ph value xs) ≡ length xs
settled_length phase.Collect value xs = refl
settled_length (phase.Confirm i) value xs = refl
settled_length (phase.Release i) value xs = released_length i value xs
settled_length (phase.Go i) value xs = refl

-- ---- what a release does not change

abbrev pub Stays : {A : Type 0} → (PartView → A) → Type 0
Stays f = (value : ℕ) (x : PartView) → f (released_part value x) ≡ f x

released_stays : {A : Type 0} (f : PartView → A) (i value : ℕ) (xs : List PartView) (p : ℕ) → Stays f → f (get_or (released_from i value xs) p AbsentV) ≡ f (get_or xs p AbsentV)
released_stays f i value xs p stays = elim (cases_lt p i) [
  | inl h ↦ ap f (released_before i value xs p h)
  | inr h ↦ ap f (released_behind i value xs p h) ∙ stays value (get_or xs p AbsentV)
]

pub settled_stays : {A : Type 0} (f : PartView → A) (ph : Phase) (value : ℕ) (xs : List PartView) (p : ℕ) → Stays f → f (get_or (settled_in ph value xs) p AbsentV) ≡ f (get_or xs p AbsentV)
settled_stays f phase.Collect value xs p stays = refl
settled_stays f (phase.Confirm i) value xs p stays = refl
settled_stays f (phase.Release i) value xs p stays = released_stays f i value xs p stays
settled_stays f (phase.Go i) value xs p stays = refl

stays_held : (k s : ℕ) → Stays (λ x. held_in (tile_in x) k s)
stays_held k j value (TileV v) = refl
stays_held k j value (RouterV v) = refl
stays_held k j value (LinkV v) = refl
stays_held k j value (HostV s) = refl
stays_held k j value (DetectorV v) = refl
stays_held k j value AbsentV = refl

stays_code : Stays (λ x. (tile_in x).plan.code)
stays_code value (TileV v) = refl
stays_code value (RouterV v) = refl
stays_code value (LinkV v) = refl
stays_code value (HostV s) = refl
stays_code value (DetectorV v) = refl
stays_code value AbsentV = refl

pub stays_beats : Stays beats_on
stays_beats value (TileV v) = refl
stays_beats value (RouterV v) = refl
stays_beats value (LinkV v) = refl
stays_beats value (HostV s) = refl
stays_beats value (DetectorV v) = refl
stays_beats value AbsentV = refl

stays_standing : (n : ShapeNumbers) (r : Reach) (p : ℕ) → Stays (part_standing n r p)
stays_standing n r p value (TileV v) = refl
stays_standing n r p value (RouterV v) = refl
stays_standing n r p value (LinkV v) = refl
stays_standing n r p value (HostV s) = refl
stays_standing n r p value (DetectorV v) = refl
stays_standing n r p value AbsentV = refl

stays_got : Stays (λ x. (host_in x).got)
stays_got value (TileV v) = refl
stays_got value (RouterV v) = refl
stays_got value (LinkV v) = refl
stays_got value (HostV s) = refl
stays_got value (DetectorV v) = refl
stays_got value AbsentV = refl

stays_sends : Stays (λ x. (host_in x).sends)
stays_sends value (TileV v) = refl
stays_sends value (RouterV v) = refl
stays_sends value (LinkV v) = refl
stays_sends value (HostV s) = refl
stays_sends value (DetectorV v) = refl
stays_sends value AbsentV = refl

stays_dropped : Stays dropped_on
stays_dropped value (TileV v) = refl
stays_dropped value (RouterV v) = refl
stays_dropped value (LinkV v) = refl
stays_dropped value (HostV s) = refl
stays_dropped value (DetectorV v) = refl
stays_dropped value AbsentV = refl

pub settled_means : (w : WorldView) (ph : Phase) (value : ℕ) → Means w (settled_in ph value w.parts)
settled_means w ph value = record {
  code = λ p. settled_stays (λ x. (tile_in x).plan.code) ph value w.parts p stays_code;
  beats = λ p. settled_stays beats_on ph value w.parts p stays_beats;
  held = λ k s p. settled_stays (λ x. held_in (tile_in x) k s) ph value w.parts p (stays_held k s);
  standing = λ r p. settled_stays (part_standing w.shape r p) ph value w.parts p (stays_standing w.shape r p);
  got = λ p. settled_stays (λ x. (host_in x).got) ph value w.parts p stays_got;
  sends = λ p. settled_stays (λ x. (host_in x).sends) ph value w.parts p stays_sends;
}

pub settled_dropped : (ph : Phase) (value : ℕ) (xs : List PartView) → sum_by dropped_on (settled_in ph value xs) ≡ sum_by dropped_on xs
settled_dropped ph value xs = dropped_match xs (settled_in ph value xs) (settled_length ph value xs) (λ p. settled_stays dropped_on ph value xs p stays_dropped)

abbrev pub means_now : (w : WorldView) → Means w (settled w).parts
means_now w = settled_means w (detector_on w).phase (value_of (detector_on w).answer)

pub settled_program : (w : WorldView) → program_of (settled w) ≡ program_of w
settled_program w = program_match w (settled w).parts (means_now w)

-- the state of the bag machine is that of the parts with the release carried through
pub bag_is : (w : WorldView) → shown (λ a. []) [] (settled w) ≡ bag_at w
bag_is w = λ i. record {
  threads = thread_of (settled w);
  flight = flight_match w (settled w).parts (means_now w) i;
  got = λ a. [];
  held = held_match w (settled w).parts (means_now w) i;
  dropped = [];
  host = (means_now w).got 0 i;
  script = (host_on (settled w)).script;
  host_sends = (means_now w).sends 0 i;
  announcements = 0;
}
