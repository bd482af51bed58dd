-- What a machine means does not depend on what the detector asks of its parts: counters, colours, holds, and the detector itself.
use Rattle.std.proofs.Common.{ℕ, ◌≡◌, suc, List, [], ◌∷◌, length, get_or, map, refl, sym, ◌∙◌, ap, arith, pos, false, sum_by}
use Rattle.std.specs.List.{range_with_len}
use Rattle.std.proofs.lemmas.List.Sums.{sum_by-cons}
use Rattle.tn_base.specs.declared.message.Letter.{Letter}
use Rattle.tn_base.specs.declared.shape.ShapeNumbers.{ShapeNumbers}
use Rattle.tn_base.specs.Address.{place_in_tile}
use Rattle.tn_base.specs.Parts.{board_count, part_count, router_part}
use Rattle.tn_detect.specs.DetectorView.{fresh_detector}
use Rattle.tn_host.specs.Rows.{with_node as host_with_node}
use Rattle.tn_keys.specs.Copies.{each_below}
use Rattle.tn_keys.specs.Reach.{Reach, reach}
use Rattle.tn_node.specs.declared.node.Node.{Node}
use Rattle.tn_router.specs.Rows.{with_node as router_with_node}
use Rattle.tn_router.specs.RouterView.{with_now as router_with_now}
use Rattle.tn_rows.specs.PartView.{PartView, TileV, RouterV, LinkV, HostV, DetectorV, AbsentV}
use Rattle.tn_rows.specs.WorldView.{WorldView}
use Rattle.tn_tile.specs.Rows.{with_node}
use Rattle.tn_tile.specs.TileView.{with_now}
use Rattle.tn_letters.specs.declared.place.Place.{Place}
use Rattle.tn_letters.specs.Law.{dropped_on}
use Rattle.tn_letters.specs.Standing.{part_standing, standing_letters, standing_on}
use Rattle.tn_letters.specs.Tiles.{beats_on, held_in, held_of, host_in, part_for, program_of, reach_of, tables_of, thread_in, tile_in}
use Rattle.tn_letters.proofs.Simulate.{shown}

abbrev pub bare_node : Node → Node
bare_node n = record { out = n.out; counter = pos 0; black = false; held = false }

-- a part without what the detector asks of it
abbrev pub bare : PartView → PartView
bare (TileV v) = TileV (with_now v (with_node v.now (bare_node v.now.node)))
bare (RouterV v) = RouterV (router_with_now v (router_with_node v.now (bare_node v.now.node)))
bare (LinkV v) = LinkV v
bare (HostV s) = HostV (host_with_node s (bare_node s.node))
bare (DetectorV v) = DetectorV (fresh_detector 0)
bare AbsentV = AbsentV

-- parts that differ in that alone
pub record Alike (xs ys : List PartView) : Type 0 where
  pub count : length ys ≡ length xs
  pub each : (p : ℕ) → bare (get_or ys p AbsentV) ≡ bare (get_or xs p AbsentV)

-- a fact of a part that does not depend on that
abbrev pub Deep : {A : Type 0} → (PartView → A) → Type 0
Deep f = (x : PartView) → f (bare x) ≡ f x

pub same : {A : Type 0} (f : PartView → A) (x y : PartView) → Deep f → bare y ≡ bare x → f y ≡ f x
same f x y deep e = sym (deep y) ∙ (ap f e ∙ deep x)

deep_thread : (k : ℕ) → Deep (λ x. thread_in (tile_in x) k)
deep_thread k (TileV v) = refl
deep_thread k (RouterV v) = refl
deep_thread k (LinkV v) = refl
deep_thread k (HostV s) = refl
deep_thread k (DetectorV v) = refl
deep_thread k AbsentV = refl

deep_held : (k s : ℕ) → Deep (λ x. held_in (tile_in x) k s)
deep_held k j (TileV v) = refl
deep_held k j (RouterV v) = refl
deep_held k j (LinkV v) = refl
deep_held k j (HostV s) = refl
deep_held k j (DetectorV v) = refl
deep_held k j AbsentV = refl

deep_code : Deep (λ x. (tile_in x).plan.code)
deep_code (TileV v) = refl
deep_code (RouterV v) = refl
deep_code (LinkV v) = refl
deep_code (HostV s) = refl
deep_code (DetectorV v) = refl
deep_code AbsentV = refl

deep_beats : Deep beats_on
deep_beats (TileV v) = refl
deep_beats (RouterV v) = refl
deep_beats (LinkV v) = refl
deep_beats (HostV s) = refl
deep_beats (DetectorV v) = refl
deep_beats AbsentV = refl

deep_standing : (n : ShapeNumbers) (r : Reach) (p : ℕ) → Deep (part_standing n r p)
deep_standing n r p (TileV v) = refl
deep_standing n r p (RouterV v) = refl
deep_standing n r p (LinkV v) = refl
deep_standing n r p (HostV s) = refl
deep_standing n r p (DetectorV v) = refl
deep_standing n r p AbsentV = refl

deep_got : Deep (λ x. (host_in x).got)
deep_got (TileV v) = refl
deep_got (RouterV v) = refl
deep_got (LinkV v) = refl
deep_got (HostV s) = refl
deep_got (DetectorV v) = refl
deep_got AbsentV = refl

deep_script : Deep (λ x. (host_in x).script)
deep_script (TileV v) = refl
deep_script (RouterV v) = refl
deep_script (LinkV v) = refl
deep_script (HostV s) = refl
deep_script (DetectorV v) = refl
deep_script AbsentV = refl

deep_sends : Deep (λ x. (host_in x).sends)
deep_sends (TileV v) = refl
deep_sends (RouterV v) = refl
deep_sends (LinkV v) = refl
deep_sends (HostV s) = refl
deep_sends (DetectorV v) = refl
deep_sends AbsentV = refl

deep_dropped : Deep dropped_on
deep_dropped (TileV v) = refl
deep_dropped (RouterV v) = refl
deep_dropped (LinkV v) = refl
deep_dropped (HostV s) = refl
deep_dropped (DetectorV v) = refl
deep_dropped AbsentV = refl

-- ---- a machine with other parts

abbrev pub with_parts : WorldView → List PartView → WorldView
with_parts w ys = record w { parts = ys }

-- a fact of the part at each place
abbrev pub Match : {A : Type 0} → (PartView → A) → List PartView → List PartView → Type 0
Match f xs ys = (p : ℕ) → f (get_or ys p AbsentV) ≡ f (get_or xs p AbsentV)

pub tables_match : (w : WorldView) (ys : List PartView) → Match beats_on w.parts ys → tables_of (with_parts w ys) ≡ tables_of w
unfolding tables_of
tables_match w ys m = λ i. map (λ j. m (router_part w.shape j) i) (range_with_len 0 (board_count w.shape))

pub reach_match : (w : WorldView) (ys : List PartView) → Match beats_on w.parts ys → reach_of (with_parts w ys) ≡ reach_of w
reach_match w ys m = ap (reach w.shape) (tables_match w ys m)

-- what a machine means that has other parts
pub record Means (w : WorldView) (ys : List PartView) : Type 0 where
  pub code : Match (λ x. (tile_in x).plan.code) w.parts ys
  pub beats : Match beats_on w.parts ys
  pub held : (k s : ℕ) → Match (λ x. held_in (tile_in x) k s) w.parts ys
  pub standing : (r : Reach) (p : ℕ) → part_standing w.shape r p (get_or ys p AbsentV) ≡ part_standing w.shape r p (get_or w.parts p AbsentV)
  pub got : Match (λ x. (host_in x).got) w.parts ys
  pub sends : Match (λ x. (host_in x).sends) w.parts ys

pub program_match : (w : WorldView) (ys : List PartView) → Means w ys → program_of (with_parts w ys) ≡ program_of w
program_match w ys m = λ i. record { shape = w.shape; code = λ a. m.code (part_for w a) i; reach = reach_match w ys m.beats i }

standing_at : (w : WorldView) (ys : List PartView) (p : ℕ) → Means w ys → standing_on (with_parts w ys) p ≡ standing_on w p
standing_at w ys p m = ap (λ r. part_standing w.shape r p (get_or ys p AbsentV)) (reach_match w ys m.beats) ∙ m.standing (reach_of w) p

pub flight_match : (w : WorldView) (ys : List PartView) → Means w ys → standing_letters (with_parts w ys) ≡ standing_letters w
flight_match w ys m = λ i. map (λ (q : Place × Letter). q.1) (each_below (part_count w.shape) (λ p. standing_at w ys p m i))

pub held_match : (w : WorldView) (ys : List PartView) → Means w ys → held_of (with_parts w ys) ≡ held_of w
held_match w ys m = λ i a s. m.held (place_in_tile w.shape a) s (part_for w a) i

-- and what its threads and the host's script are
pub shown_match : (got : ℕ → List Letter) (dropped : List Letter) (w : WorldView) (ys : List PartView) → Means w ys → ((k : ℕ) → Match (λ x. thread_in (tile_in x) k) w.parts ys) → Match (λ x. (host_in x).script) w.parts ys →
    shown got dropped (with_parts w ys) ≡ shown got dropped w
shown_match got dropped w ys m threads script = λ i. record {
  threads = λ a. threads (place_in_tile w.shape a) (part_for w a) i;
  flight = flight_match w ys m i;
  got = got;
  held = held_match w ys m i;
  dropped = dropped;
  host = m.got 0 i;
  script = script 0 i;
  host_sends = m.sends 0 i;
  announcements = 0;
}

pub dropped_match : (xs ys : List PartView) → length ys ≡ length xs → Match dropped_on xs ys → sum_by dropped_on ys ≡ sum_by dropped_on xs
dropped_match [] [] e m = refl
dropped_match [] (y ∷ ys) e m = absurd (omega arith)
dropped_match (x ∷ xs) [] e m = absurd (omega arith)
dropped_match (x ∷ xs) (y ∷ ys) e m =
    let a = sum_by-cons dropped_on x xs in
    let b = sum_by-cons dropped_on y ys in
    let c = m 0 in
    let d = dropped_match xs ys (omega arith) (λ p. m (suc p)) in
    omega arith

-- ---- parts that differ in what the detector asks of them

pub alike_means : (w : WorldView) (ys : List PartView) → Alike w.parts ys → Means w ys
alike_means w ys a = record {
  code = λ p. same (λ x. (tile_in x).plan.code) _ _ deep_code (a.each p);
  beats = λ p. same beats_on _ _ deep_beats (a.each p);
  held = λ k s p. same (λ x. held_in (tile_in x) k s) _ _ (deep_held k s) (a.each p);
  standing = λ r p. same (part_standing w.shape r p) _ _ (deep_standing w.shape r p) (a.each p);
  got = λ p. same (λ x. (host_in x).got) _ _ deep_got (a.each p);
  sends = λ p. same (λ x. (host_in x).sends) _ _ deep_sends (a.each p);
}

pub alike_shown : (got : ℕ → List Letter) (dropped : List Letter) (w : WorldView) (ys : List PartView) → Alike w.parts ys → shown got dropped (with_parts w ys) ≡ shown got dropped w
alike_shown got dropped w ys a = shown_match got dropped w ys (alike_means w ys a) (λ k p. same (λ x. thread_in (tile_in x) k) _ _ (deep_thread k) (a.each p)) (λ p. same (λ x. (host_in x).script) _ _ deep_script (a.each p))

pub alike_dropped : (xs ys : List PartView) → Alike xs ys → sum_by dropped_on ys ≡ sum_by dropped_on xs
alike_dropped xs ys a = dropped_match xs ys a.count (λ p. same dropped_on _ _ deep_dropped (a.each p))
