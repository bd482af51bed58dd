-- At rest no letter is in flight, and every thread is idle or has ended.
use Rattle.std.proofs.Common.{ℕ, ◌≡◌, ◌≢◌, ◌<◌, ◌≤◌, ◌+◌, ◌-◌, ◌++◌, ◌==◌, zero, suc, List, [], ◌∷◌, length, get_or, map, cond, Bool, true, refl, sym, ◌∙◌, ap, subst, arith, IsTrue, Option, Some, None, is_none, option_map, slice_get, inl, inr}
use Rattle.std.specs.Int.{bit_at}
use Rattle.std.specs.List.{flat_map, list_all, range_with_len}
use Rattle.std.proofs.lemmas.Bool.{and_parts, cases_eq, lt-ltb}
use Rattle.std.proofs.lemmas.Option.{slice_get-get_or, slice_get-map}
use Rattle.tn_base.specs.declared.message.Letter.{Letter}
use Rattle.tn_base.specs.declared.message.Packet.{Packet}
use Rattle.tn_base.specs.declared.ids.TileId.{TileId}
use Rattle.tn_base.specs.declared.part.Kind.{Kind}
use Rattle.tn_base.specs.declared.part.Kind.TheVariants as kind
use Rattle.tn_base.specs.declared.shape.ShapeNumbers.{ShapeNumbers}
use Rattle.tn_base.specs.Address.{has_thread, in_tile, place_in_tile, tile_of, tile_place, tile_threads}
use Rattle.tn_base.specs.Parts.{kind_of, part_count, tile_at as tile_address, visited}
use Rattle.tn_base.proofs.TilePlaces.{fields, place_below, tile_found, tile_kind}
use Rattle.tn_host.specs.HostView.{HostState}
use Rattle.tn_host.specs.Script.{first_item, is_no_send}
use Rattle.tn_keys.specs.Copies.{each_below, only_if}
use Rattle.tn_keys.specs.Reach.{Reach}
use Rattle.tn_link.specs.LinkView.{LinkView}
use Rattle.tn_node.proofs.PortLaws.{empty_at}
use Rattle.tn_node.specs.PortRows.{all_empty}
use Rattle.tn_quiet.specs.Machine.{link_count, rest_of, shown as shown_parts, shows}
use Rattle.tn_quiet.proofs.Machines.{at_last}
use Rattle.tn_rows.proofs.HostLinks.{detector_last}
use Rattle.tn_rest.specs.declared.facts.Facts.{Facts}
use Rattle.tn_rest.specs.Quiet.{IsAtRest as IsRest}
use Rattle.tn_rest.specs.Seen.{facts_of, no_facts, packets_of}
use Rattle.tn_router.specs.Rows.{is_still as router_still}
use Rattle.tn_router.specs.RouterView.{RouterView}
use Rattle.tn_rows.specs.PartView.{PartView, TileV, RouterV, LinkV, HostV, DetectorV, AbsentV}
use Rattle.tn_rows.specs.WorldView.{WorldView}
use Rattle.tn_slots.specs.Pool.{queue_at, slot_at}
use Rattle.tn_slots.specs.WellKept.{times}
use Rattle.tn_thread.specs.declared.thread.Thread.{Thread}
use Rattle.tn_tile.specs.Step.{no_thread, thread_at}
use Rattle.tn_tile.specs.Still.{does_nothing, is_nil, is_still}
use Rattle.tn_tile.specs.TileView.{TileView}
use Rattle.tn_tile.proofs.Deeds.{StillParts, still_parts}
use Rattle.tn_letters.specs.declared.place.Place.{Place}
use Rattle.tn_letters.specs.declared.place.Place.TheVariants as place
use Rattle.tn_letters.specs.Machine.{IsAtRest}
use Rattle.tn_letters.specs.Standing.{link_standing, out_by, out_standing, owed_standing, owed_to, part_standing, pending_of, pending_standing, ports, process_standing, slots_standing, standing_letters, standing_on, tile_standing, transit_by, transit_standing, waiting, work_by, works_from, leaving_by}
use Rattle.tn_letters.specs.Tiles.{host_in, letter_in, part_for, reach_of, thread_of, tile_in}
use Rattle.tn_letters.proofs.Lift.{Good, GoodTile, On, OnPart, StandsAt, part_on, stands_on}
use Rattle.tn_letters.proofs.PartKinds.{RouterPart, TilePart, router_part_is, tile_part_is}
use Rattle.tn_letters.proofs.Simulate.{shown}
use Rattle.tn_letters.proofs.Walks.{first_is, router_at, tile_at}

-- ---- lists of nothing

pub all_at : {X : Type 0} (f : X → Bool) (xs : List X) (k : ℕ) (d : X) → list_all f xs ≡ true → k < length xs → f (get_or xs k d) ≡ true
all_at f [] k d all h = absurd (omega arith)
all_at f (x ∷ xs) zero d all h = (and_parts (f x) (list_all f xs) all).0
all_at f (x ∷ xs) (suc k) d all h = all_at f xs k d (and_parts (f x) (list_all f xs) all).1 (omega arith)

flat_nothing : {X Y : Type 0} (f : X → List Y) (xs : List X) → ((x : X) → f x ≡ []) → flat_map f xs ≡ []
flat_nothing f [] none = refl
flat_nothing f (x ∷ xs) none = ap (λ ys. ys ++ flat_map f xs) (none x) ∙ flat_nothing f xs none

range_nothing : {Y : Type 0} (f : ℕ → List Y) (i count : ℕ) → ((k : ℕ) → i ≤ k → k < i + count → f k ≡ []) → flat_map f (range_with_len i count) ≡ []
range_nothing f i zero none = refl
range_nothing f i (suc count) none = ap (λ ys. ys ++ flat_map f (range_with_len (i + 1) count)) (none i (omega arith) (omega arith)) ∙ range_nothing f (i + 1) count (λ k low high. none k (omega arith) (omega arith))

each_nothing : {Y : Type 0} (count : ℕ) (f : ℕ → List Y) → ((k : ℕ) → k < count → f k ≡ []) → each_below count f ≡ []
each_nothing count f none = range_nothing f 0 count (λ k low high. none k (omega arith))

none_pending : (ps : List (Option Packet)) (k : ℕ) → list_all is_none ps ≡ true → get_or ps k None ≡ None
none_pending [] k all = refl
none_pending (None ∷ ps) zero all = refl
none_pending (Some p ∷ ps) zero all = cc all
none_pending (p ∷ ps) (suc k) all = none_pending ps k (and_parts (is_none p) (list_all is_none ps) all).1

none_queued : (qs : List (List ℕ)) (k : ℕ) → list_all is_nil qs ≡ true → get_or qs k [] ≡ []
none_queued [] k all = refl
none_queued ([] ∷ qs) zero all = refl
none_queued ((x ∷ xs) ∷ qs) zero all = cc all
none_queued (q ∷ qs) (suc k) all = none_queued qs k (and_parts (is_nil q) (list_all is_nil qs) all).1

-- ---- parts that are still

owed_none : (v : TileView) (s k : ℕ) → bit_at (slot_at v.now.pool s).owed k ≡ 0 → owed_to v s k ≡ []
owed_none v s k e = ap (λ b. only_if (b == 1) (place_of v s k, letter_in v k s)) e
  where
    place_of : TileView → ℕ → ℕ → Place
    place_of v s k = place.Slot (record { 0 = v.plan.tile }) s (record { 0 = in_tile v.plan.shape v.plan.tile k })

tile_nothing : (n : ShapeNumbers) (reach : Reach) (p : ℕ) (v : TileView) → GoodTile n p v → is_still v.now ≡ true → tile_standing reach p v ≡ []
tile_nothing n reach p v g still =
    let s : StillParts v.now = still_parts v.now still in
    let pending : pending_standing reach v ≡ [] = each_nothing (tile_threads v.plan.shape) (pending_of reach v) (λ k h. ap (waiting v.plan.shape reach _) (none_pending v.now.pending k s.pending)) in
    let transit : transit_standing reach p v ≡ [] = flat_nothing (transit_by reach p v) ports (λ way. ap (waiting v.plan.shape reach _) (empty_at way v.now.node.out s.out)) in
    let slots : slots_standing v ≡ [] = each_nothing (length v.now.pool.slots) (owed_standing v) (λ j h. each_nothing (tile_threads v.plan.shape) (owed_to v j) (λ k below.
    let queues = g.shaped.fits.pool.queues in
    let kept = g.kept.each k j (omega arith) in
    let none : times j (queue_at v.now.pool k) ≡ 0 = ap (times j) (none_queued v.now.pool.queues k s.queues) in
    owed_none v j k (omega arith))) in
    ap (λ xs. xs ++ transit_standing reach p v ++ slots_standing v) pending ∙ (ap (λ xs. xs ++ slots_standing v) transit ∙ slots)

router_nothing : (n : ShapeNumbers) (reach : Reach) (p : ℕ) (v : RouterView) → router_still v.now ≡ true → part_standing n reach p (RouterV v) ≡ []
router_nothing n reach p v still =
    let s = and_parts (all_empty v.now.inputs) (all_empty v.now.node.out) still in
    let out : out_standing reach p v ≡ [] = flat_nothing (out_by reach p v) ports (λ way. ap (leaving_by reach p v way) (empty_at way v.now.node.out s.1)) in
    let process : process_standing reach p v ≡ [] = flat_nothing (work_by reach p v) ports (λ way. ap (works_from reach p v way) (empty_at way v.now.inputs s.0)) in
    ap (λ xs. xs ++ process_standing reach p v) out ∙ process

link_nothing : (n : ShapeNumbers) (reach : Reach) (p : ℕ) (v : LinkView) → length v.packets ≡ 0 → link_standing n reach p v ≡ []
link_nothing n reach p v none = each_nothing (length v.packets) _ (λ k h. absurd (omega arith))

-- ---- what a part shows

pub read_part : (w : WorldView) (p : ℕ) (x : PartView) → OnPart w p x → slice_get (shown_parts w) p ≡ Some (shows x)
read_part w p x on = slice_get-map shows w.parts p ∙ ap (option_map shows) (slice_get-get_or w.parts p AbsentV on.within ∙ ap Some on.is)

pub part_facts : (w : WorldView) (p : ℕ) (x : PartView) → OnPart w p x → p < visited w.shape → (rest_of w).part p ≡ facts_of (Some (shows x))
part_facts w p x on inside = ap (λ b. cond b (facts_of (slice_get (shown_parts w) p)) no_facts) (lt-ltb p (visited w.shape) inside) ∙ ap facts_of (read_part w p x on)

link_packets : (w : WorldView) (p : ℕ) (x : PartView) → OnPart w p x → visited w.shape ≤ p → p - visited w.shape < link_count w.shape → (rest_of w).link (p - visited w.shape) ≡ packets_of (Some (shows x))
link_packets w p x on behind inside =
    let same : visited w.shape + (p - visited w.shape) ≡ p = omega arith in
    ap (λ b. cond b (packets_of (slice_get (shown_parts w) (visited w.shape + (p - visited w.shape)))) 0) (lt-ltb (p - visited w.shape) (link_count w.shape) inside)
    ∙ (ap (λ i. packets_of (slice_get (shown_parts w) i)) same ∙ ap packets_of (read_part w p x on))

-- a part that stands at a tile's place is a tile
pub tile_stands_there : (tile : TileId) (x : PartView) → StandsAt (kind.Tile tile) x → (v : TileView) × (x ≡ TileV v)
tile_stands_there tile (TileV v) s = (v, refl)
tile_stands_there tile (RouterV v) s = absurd s
tile_stands_there tile (LinkV x) s = absurd s
tile_stands_there tile (HostV h) s = absurd s
tile_stands_there tile (DetectorV v) s = absurd s
tile_stands_there tile AbsentV s = absurd s

-- the part that stands at a place
pub on_place : (w : WorldView) (p : ℕ) → Good w → p < part_count w.shape → OnPart w p (get_or w.parts p AbsentV)
on_place w p g below = let n = g.count in record { within = omega arith; below = below; is = refl }

pub tile_visited : (n : ShapeNumbers) (p : ℕ) (tile : TileId) → kind_of n p ≡ kind.Tile tile → p < visited n
tile_visited n p tile e = let t : TilePart n p tile = tile_part_is n p tile e in let a = t.below in let b = t.part in omega arith

router_visited : (n : ShapeNumbers) (p : ℕ) (v : RouterView) → kind_of n p ≡ kind.Router v.plan.board → p < visited n
router_visited n p v e = let t : RouterPart n p v.plan.board = router_part_is n p v.plan.board e in let a = t.below in let b = t.part in omega arith

-- a link is neither visited nor the last part
record LinkPlace (n : ShapeNumbers) (p : ℕ) : Type 0 where
  behind : visited n ≤ p
  other : p ≢ part_count n - 1

at_link : (w : WorldView) (p : ℕ) (k : Kind) (x : LinkView) → Good w → kind_of w.shape p ≡ k → StandsAt k (LinkV x) → LinkPlace w.shape p
at_link w p (kind.Link from onto) x g e s = record {
  behind = (g.leads p from onto e).behind;
  other = λ last. not_detector (sym e ∙ (ap (kind_of w.shape) last ∙ detector_last w.shape));
}
  where
    not_detector : kind.Link from onto ≡ kind.Detector → ⊥
    not_detector e = cc e
at_link w p (kind.Tile tile) x g e s = absurd s
at_link w p (kind.Router board) x g e s = absurd s
at_link w p kind.Host x g e s = absurd s
at_link w p kind.Detector x g e s = absurd s

-- ---- the whole machine

part_nothing : (w : WorldView) (reach : Reach) (p : ℕ) (x : PartView) → Good w → IsRest (visited w.shape) (link_count w.shape) (rest_of w) → OnPart w p x → part_standing w.shape reach p x ≡ []
part_nothing w reach p (TileV v) g rest on =
    let t = tile_at (kind_of w.shape p) v (stands_on w p (TileV v) g on) in
    let inside = tile_visited w.shape p t.0 t.1 in
    tile_nothing w.shape reach p v (part_on w p (TileV v) g on) (sym (ap (λ (f : Facts). f.view.still) (part_facts w p (TileV v) on inside)) ∙ rest.still p inside)
part_nothing w reach p (RouterV v) g rest on =
    let inside = router_visited w.shape p v (router_at (kind_of w.shape p) v (stands_on w p (RouterV v) g on)) in
    router_nothing w.shape reach p v (sym (ap (λ (f : Facts). f.view.still) (part_facts w p (RouterV v) on inside)) ∙ rest.still p inside)
part_nothing w reach p (LinkV x) g rest on =
    let site = at_link w p (kind_of w.shape p) x g refl (stands_on w p (LinkV x) g on) in
    let behind = site.behind in
    let other = site.other in
    let below = on.below in
    let inside : p - visited w.shape < link_count w.shape = elim (cases_eq p (part_count w.shape - 1)) [
      | inl e ↦ absurd (other e)
      | inr ne ↦ omega arith
    ] in
    link_nothing w.shape reach p x (sym (link_packets w p (LinkV x) on behind inside) ∙ rest.empty (p - visited w.shape) inside)
part_nothing w reach p (HostV s) g rest on = refl
part_nothing w reach p (DetectorV v) g rest on = refl
part_nothing w reach p AbsentV g rest on = refl

pub flight_nothing : (w : WorldView) → Good w → IsRest (visited w.shape) (link_count w.shape) (rest_of w) → standing_letters w ≡ []
flight_nothing w g rest = ap (map (λ (q : Place × Letter). q.1)) (each_nothing (part_count w.shape) (standing_on w) (λ p below. part_nothing w (reach_of w) p (get_or w.parts p AbsentV) g rest (on_place w p g below)))

-- the tile of a thread
pub record Seat (w : WorldView) (a : ℕ) : Type 0 where
  pub tile : TileView
  pub on : On w (part_for w a) tile
  pub inside : part_for w a < visited w.shape
  pub within : place_in_tile w.shape a < length tile.now.threads
  pub thread : thread_of w a ≡ thread_at tile.now (place_in_tile w.shape a)

pub seat : (w : WorldView) (a : ℕ) → Good w → IsTrue (has_thread w.shape a) → Seat w a
seat w a g there =
    let n : ShapeNumbers = w.shape in
    let p = part_for w a in
    let found = tile_found n (tile_of a) g.limits (fields n a there).tile in
    let below = found.0 in
    let k : kind_of n p ≡ kind.Tile (record { 0 = tile_address n (tile_place n (tile_of a)) }) = tile_kind n (tile_place n (tile_of a)) below in
    let inside = tile_visited n p _ k in
    let last = at_last n g.limits in
    let all : p < part_count n = omega arith in
    let on = on_place w p g all in
    let v = tile_stands_there _ (get_or w.parts p AbsentV) (subst (λ k. StandsAt k (get_or w.parts p AbsentV)) k (stands_on w p (get_or w.parts p AbsentV) g on)) in
    let here : On w p v.0 = subst (OnPart w p) v.1 on in
    let good : GoodTile n p v.0 = part_on w p (TileV v.0) g here in
    let low : place_in_tile n a < tile_threads v.0.plan.shape = subst (λ m. place_in_tile n a < tile_threads m) (sym good.shape) (place_below n a there) in
    let count = good.shaped.fits.threads.count in
    record {
      tile = v.0;
      on = here;
      inside = inside;
      within = omega arith;
      thread = ap (λ x. thread_at (tile_in x).now (place_in_tile n a)) v.1;
    }

-- the host of a machine
pub host_there : (w : WorldView) → Good w → (s : HostState) × OnPart w 0 (HostV s)
host_there w g =
    let on = on_place w 0 g (omega arith) in
    let s = first_is (get_or w.parts 0 AbsentV) (stands_on w 0 (get_or w.parts 0 AbsentV) g on) in
    (s.0, subst (OnPart w 0) s.1 on)

pub at_rest : (got : ℕ → List Letter) (dropped : List Letter) (w : WorldView) → Good w → IsRest (visited w.shape) (link_count w.shape) (rest_of w) → IsAtRest w.shape (shown got dropped w)
at_rest got dropped w g rest = record {
  threads = λ a there.
      let s = seat w a g there in
      let still : is_still s.tile.now ≡ true = sym (ap (λ (f : Facts). f.view.still) (part_facts w (part_for w a) (TileV s.tile) s.on s.inside)) ∙ rest.still (part_for w a) s.inside in
      ap (λ (t : Thread). does_nothing t.state) s.thread ∙ all_at (λ (t : Thread). does_nothing t.state) s.tile.now.threads (place_in_tile w.shape a) no_thread (still_parts s.tile.now still).threads s.within;
  flight = flight_nothing w g rest;
  host =
      let h = host_there w g in
      ap (λ x. is_no_send (first_item (host_in x).script)) h.1.is ∙ (sym (ap (λ (f : Facts). f.view.still) (part_facts w 0 (HostV h.0) h.1 (omega arith))) ∙ rest.still 0 (omega arith));
}
