-- The report lists each thread that ended, by ascending address.
use Rattle.std.proofs.Common.{◌≡◌, ◌∙◌, ◌⊎◌, inl, inr, ℕ, suc, ◌+◌, ◌*◌, ◌<◌, ◌≤◌, List, [], ◌∷◌, ◌++◌, refl, sym, ap, subst, append-nil, length, length-append, get_or, map, arith}
use Rattle.std.specs.List.{flat_map, range_with_len}
use Rattle.tn_letters.proofs.PartKinds.{tile_part_is}
use Rattle.tn_letters.specs.Tiles.{thread_of, tile_in}
use Rattle.tn_base.proofs.Listing.{length_mapped}
use Rattle.tn_base.proofs.Places.{orders_tiles}
use Rattle.tn_base.proofs.TilePlaces.{place_back, tile_kind, tile_placed}
use Rattle.tn_base.specs.Address.{in_tile, place_in_tile, thread_at, tile_place, tile_threads}
use Rattle.tn_base.specs.Parts.{from_routers, from_tiles, kind_of, part_count, tile_at, tile_count, tile_part}
use Rattle.tn_base.specs.Shape.{WithinLimits, thread_count}
use Rattle.tn_base.specs.declared.part.Kind.{Kind}
use Rattle.tn_base.specs.declared.part.Kind.TheVariants as kind
use Rattle.tn_base.specs.declared.shape.ShapeNumbers.{ShapeNumbers}
use Rattle.tn_rows.specs.Events.{FitsKind, IsWorld}
use Rattle.tn_rows.specs.PartView.{PartView, TileV, RouterV, LinkV, HostV, DetectorV, AbsentV}
use Rattle.tn_rows.specs.WorldView.{WorldView}
use Rattle.tn_thread.specs.declared.thread.Thread.{Thread}
use Rattle.tn_base.specs.declared.ids.TileId.{TileId}
use Rattle.tn_tile.specs.TileView.{TileView}
use Rattle.tn_tile.specs.Step.{no_thread}
use Rattle.tn_run.proofs.Blocks.{blocks, flat_none, flat_same, flat_shift, flat_split}
use Rattle.tn_run.proofs.Named.{thread_named}
use Rattle.tn_run.specs.Exits.{HasThreads, ListsExits, listed_exits}
use Rattle.tn_run.specs.Report.{exit_text, exits_from, exits_text, part_exits}

-- Lists by their places.

walk : {X A : Type 0} → (ℕ → X → List A) → ℕ → List X → List A
walk g i [] = []
walk g i (x ∷ xs) = g i x ++ walk g (i + 1) xs

after_first : {X : Type 0} (x : X) (xs : List X) (k : ℕ) (d : X) → get_or (x ∷ xs) (1 + k) d ≡ get_or xs k d
after_first x xs k d = let e : 1 + k ≡ suc k = omega arith in rw e refl

walk_is : {X A : Type 0} (g : ℕ → X → List A) (i : ℕ) (xs : List X) (d : X) → walk g i xs ≡ flat_map (λ k. g (i + k) (get_or xs k d)) (range_with_len 0 (length xs))
unfolding walk
walk_is g i [] d = refl
walk_is {A = A} g i (x ∷ xs) d =
    let here : i + 0 ≡ i = omega arith in
    let later : flat_map (λ k. g (i + k) (get_or (x ∷ xs) k d)) (range_with_len (1 + 0) (length xs)) ≡ flat_map (λ k. g (i + (1 + k)) (get_or (x ∷ xs) (1 + k) d)) (range_with_len 0 (length xs)) =
    flat_shift (λ k. g (i + k) (get_or (x ∷ xs) k d)) 1 0 (length xs) in
    let same : flat_map (λ k. g (i + (1 + k)) (get_or (x ∷ xs) (1 + k) d)) (range_with_len 0 (length xs)) ≡ flat_map (λ k. g (i + 1 + k) (get_or xs k d)) (range_with_len 0 (length xs)) =
    flat_same _ _ 0 (length xs) (λ k low high. let e : i + (1 + k) ≡ i + 1 + k = omega arith in rw (e, after_first x xs k d) refl) in
    let more = walk_is g (i + 1) xs d ∙ sym (later ∙ same) in
    rw here (ap (λ (ys : List A). g i x ++ ys) more)

tile_walk : (n : ShapeNumbers) (tile i : ℕ) (ts : List Thread) → exits_from n tile i ts ≡ walk (λ k t. exit_text (in_tile n tile k) t.state) i ts
unfolding walk
tile_walk n tile i [] = refl
tile_walk n tile i (t ∷ ts) = ap (λ (xs : List ℕ). exit_text (in_tile n tile i) t.state ++ xs) (tile_walk n tile (i + 1) ts)

part_walk : (i : ℕ) (ps : List PartView) → exits_text ps ≡ walk (λ k p. part_exits p) i ps
unfolding walk
part_walk i [] = refl
part_walk i (p ∷ ps) = ap (λ (xs : List ℕ). part_exits p ++ xs) (part_walk (i + 1) ps)

-- the lines of a tile, by the places of its threads
tile_lines : (n : ShapeNumbers) (tile : ℕ) (ts : List Thread) →
    exits_from n tile 0 ts ≡ flat_map (λ k. exit_text (in_tile n tile k) (get_or ts k no_thread).state) (range_with_len 0 (length ts))
tile_lines n tile ts =
    tile_walk n tile 0 ts ∙ walk_is (λ k t. exit_text (in_tile n tile k) t.state) 0 ts no_thread
    ∙ flat_same _ _ 0 (length ts) (λ k low high. let e : 0 + k ≡ k = omega arith in rw e refl)

-- The tiles among the parts.

abbrev part_at : WorldView → ℕ → PartView
part_at w p = get_or w.parts p AbsentV

record IsTile (n : ShapeNumbers) (k : Kind) (v : TileView) : Type 0 where
  tile : TileId
  kind_is : k ≡ kind.Tile tile
  shape_is : v.plan.shape ≡ n
  named : v.plan.tile ≡ tile.0

is_tile : (n : ShapeNumbers) (k : Kind) (v : TileView) → FitsKind n k (TileV v) → IsTile n k v
is_tile n (kind.Tile tile) v fits = record { tile = tile; kind_is = refl; shape_is = fits.0; named = fits.1 }
is_tile n kind.Host v fits = absurd fits
is_tile n (kind.Router board) v fits = absurd fits
is_tile n (kind.Link from onto) v fits = absurd fits
is_tile n kind.Detector v fits = absurd fits

-- a part that is no tile has no lines
no_lines : (n : ShapeNumbers) (p : ℕ) (v : PartView) → FitsKind n (kind_of n p) v → (p < 1) ⊎ (1 + tile_count n ≤ p) → part_exits v ≡ []
no_lines n p (TileV v) fits out =
    let it = is_tile n (kind_of n p) v fits in
    let part = tile_part_is n p it.tile it.kind_is in
    let below = part.below in
    let at : 1 + part.i ≡ p = part.part in
    elim out [ inl h ↦ absurd (omega arith) | inr h ↦ absurd (omega arith) ]
no_lines n p (RouterV v) fits out = refl
no_lines n p (LinkV v) fits out = refl
no_lines n p (HostV s) fits out = refl
no_lines n p (DetectorV v) fits out = refl
no_lines n p AbsentV fits out = refl

-- the lines of a tile
abbrev lines_of : ShapeNumbers → ℕ → PartView → List ℕ
lines_of n a v = flat_map (λ k. exit_text (in_tile n a k) (get_or (tile_in v).now.threads k no_thread).state) (range_with_len 0 (tile_threads n))

fitted : (n : ShapeNumbers) (a : ℕ) (v : PartView) → FitsKind n (kind.Tile (record { 0 = a })) v → length (tile_in v).now.threads ≡ tile_threads n → part_exits v ≡ lines_of n a v
fitted n a (TileV v) fits count =
    ap (λ (m : ShapeNumbers). exits_from m v.plan.tile 0 v.now.threads) fits.0
    ∙ ap (λ (x : ℕ). exits_from n x 0 v.now.threads) fits.1
    ∙ tile_lines n a v.now.threads
    ∙ ap (λ (m : ℕ). flat_map (λ k. exit_text (in_tile n a k) (get_or v.now.threads k no_thread).state) (range_with_len 0 m)) count
fitted n a (RouterV v) fits count = absurd fits
fitted n a (LinkV v) fits count = absurd fits
fitted n a (HostV s) fits count = absurd fits
fitted n a (DetectorV v) fits count = absurd fits
fitted n a AbsentV fits count = absurd fits

parts_are : (n : ShapeNumbers) → part_count n ≡ 1 + (tile_count n + length (from_routers n))
parts_are n =
    let all : length (from_tiles n) ≡ length (map (λ i. kind.Tile (record { 0 = tile_at n i })) (range_with_len 0 (tile_count n))) + length (from_routers n) =
    length-append (map (λ i. kind.Tile (record { 0 = tile_at n i })) (range_with_len 0 (tile_count n))) (from_routers n) in
    let tiles = length_mapped (λ i. kind.Tile (record { 0 = tile_at n i })) 0 (tile_count n) in
    let first : part_count n ≡ suc (length (from_tiles n)) = refl in
    omega (arith, all, tiles, first)

-- the report's lines, tile by tile
by_tiles : (w : WorldView) → IsWorld w → HasThreads w →
    exits_text w.parts ≡ flat_map (λ t. lines_of w.shape (tile_at w.shape t) (part_at w (tile_part t))) (range_with_len 0 (tile_count w.shape))
by_tiles w fits count =
    let n = w.shape in
    let more = length (from_routers n) in
    let F : ℕ → List ℕ = λ p. part_exits (get_or w.parts p AbsentV) in
    let many : length w.parts ≡ 1 + (tile_count n + more) = fits.count ∙ parts_are n in
    let whole = parts_are n in
    let all : exits_text w.parts ≡ flat_map F (range_with_len 0 (1 + (tile_count n + more))) =
    part_walk 0 w.parts ∙ walk_is (λ k p. part_exits p) 0 w.parts AbsentV ∙ ap (λ (m : ℕ). flat_map F (range_with_len 0 m)) many in
    let host : flat_map F (range_with_len 0 1) ≡ [] =
    flat_none F 0 1 (λ k low high. no_lines n k (get_or w.parts k AbsentV) (fits.each k (omega arith)) (inl high)) in
    let others : flat_map F (range_with_len (1 + tile_count n) more) ≡ [] =
    flat_none F (1 + tile_count n) more (λ k low high. no_lines n k (get_or w.parts k AbsentV) (fits.each k (omega arith)) (inr low)) in
    let tiles : flat_map F (range_with_len (1 + 0) (tile_count n)) ≡ flat_map (λ t. lines_of n (tile_at n t) (get_or w.parts (tile_part t) AbsentV)) (range_with_len 0 (tile_count n)) =
    flat_shift F 1 0 (tile_count n)
    ∙ flat_same _ _ 0 (tile_count n) (λ t low high.
    let below : t < tile_count n = omega arith in
    let fit = subst (λ (k : Kind). FitsKind n k (get_or w.parts (tile_part t) AbsentV)) (tile_kind n t below) (fits.each (tile_part t) (omega arith)) in
    fitted n (tile_at n t) (get_or w.parts (tile_part t) AbsentV) fit (count t below)) in
    all
    ∙ flat_split F 0 1 (tile_count n + more)
    ∙ ap (λ (xs : List ℕ). xs ++ flat_map F (range_with_len 1 (tile_count n + more))) host
    ∙ flat_split F 1 (tile_count n) more
    ∙ ap (λ (xs : List ℕ). flat_map F (range_with_len 1 (tile_count n)) ++ xs) others
    ∙ append-nil (flat_map F (range_with_len 1 (tile_count n)))
    ∙ tiles

-- The threads by their addresses.

flat_of_map : {A B C : Type 0} (f : B → List C) (g : A → B) (xs : List A) → flat_map f (map g xs) ≡ flat_map (λ x. f (g x)) xs
flat_of_map f g [] = refl
flat_of_map {C = C} f g (x ∷ xs) = ap (λ (ys : List C). f (g x) ++ ys) (flat_of_map f g xs)

-- the thread at a place of a tile
placed_thread : (w : WorldView) (t k : ℕ) → WithinLimits w.shape → t < tile_count w.shape → k < tile_threads w.shape →
    thread_of w (in_tile w.shape (tile_at w.shape t) k) ≡ get_or (tile_in (get_or w.parts (tile_part t) AbsentV)).now.threads k no_thread
placed_thread w t k l h j =
    let n = w.shape in
    let a = in_tile n (tile_at n t) k in
    let back = place_back n (tile_at n t) k l ((orders_tiles n l).there t h) j in
    let P : ℕ → ℕ → Thread = λ p i. get_or (tile_in (get_or w.parts (tile_part p) AbsentV)).now.threads i no_thread in
    ap (λ (x : ℕ). P (tile_place n x) (place_in_tile n a)) back.0
    ∙ ap (λ (p : ℕ). P p (place_in_tile n a)) (tile_placed n t l h)
    ∙ ap (λ (i : ℕ). P t i) back.1

count_is : (n : ShapeNumbers) → thread_count n ≡ tile_count n * tile_threads n
count_is n = omega arith

by_addresses : (w : WorldView) → WithinLimits w.shape →
    listed_exits w ≡ flat_map (λ t. lines_of w.shape (tile_at w.shape t) (part_at w (tile_part t))) (range_with_len 0 (tile_count w.shape))
by_addresses w l =
    let n = w.shape in
    let G : ℕ → List ℕ = λ a. exit_text a (thread_of w a).state in
    flat_of_map G (thread_at n) (range_with_len 0 (thread_count n))
    ∙ ap (λ (m : ℕ). flat_map (λ i. G (thread_at n i)) (range_with_len 0 m)) (count_is n)
    ∙ blocks (λ i. G (thread_at n i)) (tile_threads n) (tile_count n)
    ∙ flat_same _ _ 0 (tile_count n) (λ t low high.
    flat_same _ _ 0 (tile_threads n) (λ k least most.
    let here : t < tile_count n = omega arith in
    let there : k < tile_threads n = omega arith in
    ap G (thread_named n t k (omega (arith, l.threads.0)) there)
    ∙ ap (λ (x : Thread). exit_text (in_tile n (tile_at n t) k) x.state) (placed_thread w t k l here there)))

pub lists_exits : ListsExits
lists_exits w l fits count = by_tiles w fits count ∙ sym (by_addresses w l)
