-- The machine of a graph's job at its start.
use Rattle.std.proofs.Common.{ℕ, ◌≡◌, ◌<◌, ◌≤◌, ◌+◌, ◌-◌, ◌/◌, ◌++◌, ◌==◌, ◌∷◌, ◌∙◌, [], inl, inr, IsTrue, false, cond, List, zero, suc, get_or, length, map, replicate, flat_map, refl, sym, ap, subst, arith, slice_get, Option, Some, None}
use Rattle.std.specs.Int.{bit_at}
use Rattle.std.specs.List.{AllByRecursion, cons_option, filter_map, range_with_len}
use Rattle.std.proofs.lemmas.Bool.{cases_lt, or_parts}
use Rattle.std.proofs.lemmas.List.{get_or-map, get_or_past, length-map}
use Rattle.std.proofs.lemmas.List.FromFn.{fill_by_all, get_or-map-range_with_len}
use Rattle.std.proofs.lemmas.Nat.{div-add-mod'}
use Rattle.std.proofs.lemmas.Option.{slice_get_past}
use Rattle.tn_base.specs.declared.message.Letter.{Letter}
use Rattle.tn_base.specs.declared.message.Packet.{Packet}
use Rattle.tn_base.specs.declared.part.Kind.{Kind}
use Rattle.tn_base.specs.declared.part.Kind.TheVariants as kind
use Rattle.tn_base.specs.declared.shape.ShapeNumbers.{ShapeNumbers}
use Rattle.tn_base.specs.Address.{has_thread, in_tile, place_in_tile, tile_of, tile_place, tile_threads}
use Rattle.tn_base.specs.Parts.{board_at, board_count, kind_of, part_count, parts, router_part, tile_count, tile_part}
use Rattle.tn_base.specs.Parts.{tile_at as tile_address}
use Rattle.tn_base.specs.Shape.{WithinLimits}
use Rattle.tn_base.proofs.TilePlaces.{fields, place_below, place_named, tile_found, tile_kind}
use Rattle.tn_host.specs.declared.script.ScriptItem.{ScriptItem}
use Rattle.tn_keys.specs.Copies.{each_below, only_if}
use Rattle.tn_keys.specs.Reach.{Reach}
use Rattle.tn_keys.specs.Tables.{table_at}
use Rattle.tn_rows.proofs.HostLinks.{detector_last, host_links_there}
use Rattle.tn_rows.proofs.Neighbours.{kind_router, router_within}
use Rattle.tn_rows.specs.PartView.{PartView, AbsentV}
use Rattle.tn_rows.specs.WorldView.{WorldView}
use Rattle.tn_slots.specs.Slot.{empty_slot}
use Rattle.tn_slots.proofs.Kept.{fresh_bits}
use Rattle.tn_tile.specs.Step.{no_thread}
use Rattle.tn_tile.specs.TileView.{TileView}
use Rattle.rv_isa.specs.Decode.{decode_of}
use Rattle.tn_letters.specs.declared.place.Place.{Place}
use Rattle.tn_letters.specs.declared.place.Place.TheVariants as place
use Rattle.tn_letters.specs.Settled.{detector_in, settled}
use Rattle.tn_letters.specs.Standing.{bag_at, owed_standing, owed_to, part_standing, pending_of, pending_standing, slots_standing, standing_letters, standing_on, transit_standing, waiting}
use Rattle.tn_letters.specs.Tiles.{beats_on, held_of, host_on, letter_in, part_for, reach_of, tables_of, thread_of, tile_for, tile_in}
use Rattle.tn_letters.proofs.Silent.{NoRelease, settled_now}
use Rattle.job_text.specs.declared.job.Job.{Job}
use Rattle.job_text.specs.declared.job.ScriptLine.{ScriptLine}
use Rattle.job_text.specs.declared.job.ScriptText.{ScriptText}
use Rattle.job_text.specs.declared.job.ScriptText.TheVariants.{Send, Idle}
use Rattle.job_faults.specs.declared.map.Mapped.{Mapped}
use Rattle.job_faults.specs.Assembly.{sections_of}
use Rattle.job_faults.specs.Code.{code_of}
use Rattle.job_faults.specs.Mapping.{graph_mapped}
use Rattle.job_faults.specs.Mixed.{has_send, is_send}
use Rattle.job_load.specs.Graph.{place_of, seated_in}
use Rattle.job_load.specs.Script.{item_of}
use Rattle.job_load.specs.Start.{part_start, start_of, table_by, thread_by, thread_start, tile_start}
use Rattle.polite_edges.specs.Runs.{IsAwait, IsFreshThread}
use Rattle.job_edges.specs.JobLayout.{layout_of, switch_at}
use Rattle.job_edges.proofs.Places.{place_is}

-- Parts.

part_is : (job : Job) (p : ℕ) → p < part_count job.numbers → get_or (start_of job).parts p AbsentV ≡ part_start job (kind_of job.numbers p)
part_is job p h = get_or-map (part_start job) (parts job.numbers) p kind.Detector AbsentV h

tile_within : (n : ShapeNumbers) (i : ℕ) → i < tile_count n → tile_part i < part_count n
tile_within n i h = elim (cases_lt (tile_part i) (part_count n)) [
  | inl there ↦ there
  | inr past ↦
      let none : kind_of n (tile_part i) ≡ kind.Detector = get_or_past (parts n) (tile_part i) kind.Detector past in
      let is : kind.Tile (record { 0 = tile_address n i }) ≡ kind.Detector = sym (tile_kind n i h) ∙ none in
      cc is
]

-- the tile of a thread at the start
pub tile_starts : (job : Job) (a : ℕ) → WithinLimits job.numbers → IsTrue (has_thread job.numbers a) → tile_for (start_of job) a ≡ tile_start job (tile_of a)
tile_starts job a l h =
    let n : ShapeNumbers = job.numbers in
    let at = tile_found n (tile_of a) l (fields n a h).tile in
    ap tile_in (part_is job (part_for (start_of job) a) (tile_within n (tile_place n (tile_of a)) at.0))
    ∙ ap (λ k. tile_in (part_start job k)) (tile_kind n (tile_place n (tile_of a)) at.0)
    ∙ ap (λ t. tile_in (part_start job (kind.Tile (record { 0 = t })))) at.1

-- at the start no release is under way
pub settled_start : (job : Job) → settled (start_of job) ≡ start_of job
settled_start job =
    let n : ShapeNumbers = job.numbers in
    let many = host_links_there n in
    let is : get_or (start_of job).parts (part_count n - 1) AbsentV ≡ part_start job kind.Detector = part_is job (part_count n - 1) (omega arith) ∙ ap (part_start job) (detector_last n) in
    settled_now (start_of job) (subst (λ (x : PartView). NoRelease (detector_in x).phase) (sym is) tt)

-- Threads.

thread_there : (job : Job) (a : ℕ) → WithinLimits job.numbers → IsTrue (has_thread job.numbers a) → thread_of (start_of job) a ≡ thread_start job a
thread_there job a l h =
    let n : ShapeNumbers = job.numbers in
    ap (λ (v : TileView). get_or v.now.threads (place_in_tile n a) no_thread) (tile_starts job a l h)
    ∙ get_or-map-range_with_len (λ k. thread_start job (in_tile n (tile_of a) k)) 0 (tile_threads n) (place_in_tile n a) (place_in_tile n a) no_thread (place_below n a h) (omega arith)
    ∙ ap (thread_start job) (place_named n a h)

fresh_by : (job : Job) (m : Mapped) (a : ℕ) → switch_at job m a ≡ (seated_in job m (place_of job.numbers a)).switch → IsFreshThread (layout_of job m) a (thread_by job (Some m) a)
fresh_by job m a e = record { firmware = refl; switch = ap Some (sym e); state = refl; given = refl; sends = refl }

pub thread_begins : (job : Job) (m : Mapped) (a : ℕ) → WithinLimits job.numbers → graph_mapped job ≡ Some m → IsTrue (has_thread job.numbers a) → IsFreshThread (layout_of job m) a ((bag_at (start_of job)).threads a)
thread_begins job m a l is h =
    let same : thread_by job (Some m) a ≡ thread_of (settled (start_of job)) a =
    ap (λ o. thread_by job o a) (sym is) ∙ sym (thread_there job a l h) ∙ ap (λ (w : WorldView). thread_of w a) (sym (settled_start job)) in
    subst (IsFreshThread (layout_of job m) a) same (fresh_by job m a (ap (λ i. (seated_in job m i).switch) (place_is job.numbers a l h)))

-- Letters.

no_bits : (o h : ℕ) → o + h ≡ 0 → (o ≡ 0) × (h ≡ 0)
no_bits o h e = (omega arith, omega arith)

pub none_held : (job : Job) (a slot : ℕ) → WithinLimits job.numbers → IsTrue (has_thread job.numbers a) → held_of (start_of job) a slot ≡ None
none_held job a slot l h =
    let n : ShapeNumbers = job.numbers in
    let k : ℕ = place_in_tile n a in
    let free = (no_bits _ _ (fresh_bits n.slots slot k)).1 in
    ap (λ (v : TileView). held_by v k) (tile_starts job a l h) ∙ ap (λ b. cond (b == 1) (Some (letter_in (tile_start job (tile_of a)) k slot)) None) free where
      held_by : TileView → ℕ → Option Letter
      held_by v k = cond (bit_at (get_or v.now.pool.slots slot empty_slot).holders k == 1) (Some (letter_in v k slot)) None

range_nothing : {Y : Type 0} (f : ℕ → List Y) (i count : ℕ) → ((k : ℕ) → i ≤ k → k < i + count → f k ≡ []) → flat_map f (range_with_len i count) ≡ []
range_nothing f i zero none = refl
range_nothing f i (suc count) none = ap (λ ys. ys ++ flat_map f (range_with_len (i + 1) count)) (none i (omega arith) (omega arith)) ∙ range_nothing f (i + 1) count (λ k low high. none k (omega arith) (omega arith))

none_pending : (c k : ℕ) → get_or {A = Option Packet} (replicate c None) k None ≡ None
none_pending zero k = refl
none_pending (suc c) zero = refl
none_pending (suc c) (suc k) = none_pending c k

no_owed : (on : Reach) (job : Job) (tile s k : ℕ) → owed_to (tile_start job tile) s k ≡ []
no_owed on job tile s k =
    let n : ShapeNumbers = job.numbers in
    let v : TileView = tile_start job tile in
    let free = (no_bits _ _ (fresh_bits n.slots s k)).0 in
    ap (λ b. only_if (b == 1) (place.Slot (record { 0 = tile }) s (record { 0 = in_tile n tile k }), letter_in v k s)) free

nothing_on : (n : ShapeNumbers) (on : Reach) (p : ℕ) (job : Job) (k : Kind) → part_standing n on p (part_start job k) ≡ []
nothing_on n on p job (kind.Tile tile) =
    let v : TileView = tile_start job tile.0 in
    let count : ℕ = tile_threads job.numbers in
    let pending : pending_standing on v ≡ [] =
    range_nothing (pending_of on v) 0 count (λ k low high. ap (waiting job.numbers on (place.Pending (record { 0 = in_tile job.numbers tile.0 k }))) (none_pending count k)) in
    let slots : slots_standing v ≡ [] =
    range_nothing (owed_standing v) 0 (length v.now.pool.slots) (λ s low high. range_nothing (owed_to v s) 0 count (λ k from below. no_owed on job tile.0 s k)) in
    let transit : transit_standing on p v ≡ [] = refl in
    ap (λ xs. xs ++ transit_standing on p v ++ slots_standing v) pending ∙ (ap (λ xs. xs ++ slots_standing v) transit ∙ slots)
nothing_on n on p job kind.Host = refl
nothing_on n on p job (kind.Router board) = refl
nothing_on n on p job (kind.Link from onto) = refl
nothing_on n on p job kind.Detector = refl

pub none_in_flight : (job : Job) → standing_letters (start_of job) ≡ []
none_in_flight job =
    let n : ShapeNumbers = job.numbers in
    let w : WorldView = start_of job in
    let none : each_below (part_count n) (standing_on w) ≡ [] =
    range_nothing (standing_on w) 0 (part_count n) (λ p low high.
    ap (part_standing n (reach_of w) p) (part_is job p (omega arith)) ∙ nothing_on n (reach_of w) p job (kind_of n p)) in
    ap (map (λ (q : Place × Letter). q.1)) none

-- The host's script.

awaits_one : (text : ScriptText) (items : List ScriptItem) → is_send text ≡ false → AllByRecursion IsAwait items → AllByRecursion IsAwait (cons_option (item_of text) items)
awaits_one Idle items e all = (tt, all)
awaits_one (Send thread bytes) items e all = absurd (cc e)

awaits : (lines : List ScriptLine) → has_send lines ≡ false → AllByRecursion IsAwait (filter_map (λ (l : ScriptLine). item_of l.item) lines)
awaits [] e = tt
awaits (l ∷ ls) e =
    let both = or_parts (is_send l.item) (has_send ls) e in
    awaits_one l.item (filter_map (λ (x : ScriptLine). item_of x.item) ls) both.0 (awaits ls both.1)

pub script_awaits : (job : Job) → has_send job.script ≡ false → AllByRecursion IsAwait (bag_at (start_of job)).script
script_awaits job e = subst (λ (w : WorldView). AllByRecursion IsAwait (host_on w).script) (sym (settled_start job)) (awaits job.script e)

-- Code and tables.

pub no_code_there : (job : Job) (a : ℕ) → WithinLimits job.numbers → ((tile : ℕ) → length (code_of (sections_of job) tile) ≤ 0xFFFFFFF0 / 4) → IsTrue (has_thread job.numbers a) →
    slice_get (tile_for (start_of job) a).plan.code (0xFFFFFFF0 / 4) ≡ None
no_code_there job a l short h =
    let words : List ℕ = code_of (sections_of job) (tile_of a) in
    let long = length-map words decode_of in
    let few = short (tile_of a) in
    ap (λ (v : TileView). slice_get v.plan.code (0xFFFFFFF0 / 4)) (tile_starts job a l h) ∙ slice_get_past (map decode_of words) (0xFFFFFFF0 / 4) (omega arith)

table_there : (job : Job) (m : Mapped) (i : ℕ) → graph_mapped job ≡ Some m → i < board_count job.numbers → get_or m.routes.tables i [] ≡ beats_on (get_or (start_of job).parts (router_part job.numbers i) AbsentV)
table_there job m i is h =
    let n : ShapeNumbers = job.numbers in
    ap (table_at m.routes.tables) (sym (div-add-mod' i n.boards_x))
    ∙ ap (λ o. table_by job o (board_at n i)) (sym is)
    ∙ ap beats_on (sym (part_is job (router_part n i) (router_within n i h) ∙ ap (part_start job) (kind_router n i h)))

pub tables_are : (job : Job) (m : Mapped) → graph_mapped job ≡ Some m → length m.routes.tables ≡ board_count job.numbers → m.routes.tables ≡ tables_of (start_of job)
unfolding tables_of
tables_are job m is long =
    fill_by_all (λ i. beats_on (get_or (start_of job).parts (router_part job.numbers i) AbsentV)) m.routes.tables (board_count job.numbers) [] long (λ i h. table_there job m i is h)
