-- What stands on a part, by any weight of letters.
use Rattle.std.proofs.Common.{ℕ, ◌+◌, ◌≡◌, ◌==◌, cond, List, ◌++◌, length, get_or, refl, ap, ◌∙◌, arith, Option, Some, None, sum_by}
use Rattle.std.specs.Int.{bit_at}
use Rattle.std.specs.List.{range_with_len, slice_get}
use Rattle.std.proofs.lemmas.List.Sums.{sum_by-append}
use Rattle.tn_base.specs.declared.message.Letter.{Letter}
use Rattle.tn_base.specs.declared.message.Packet.{Packet}
use Rattle.tn_base.specs.declared.port.Port.{Port}
use Rattle.tn_base.specs.declared.port.Port.TheVariants as port
use Rattle.tn_base.specs.declared.shape.ShapeNumbers.{ShapeNumbers}
use Rattle.tn_base.specs.Address.{tile_threads}
use Rattle.tn_base.specs.Parts.{part_count}
use Rattle.tn_slots.specs.Pool.{slot_at}
use Rattle.tn_node.specs.declared.ports.Ports.{Ports}
use Rattle.tn_tile.specs.Step.{pending_at}
use Rattle.tn_tile.specs.TileView.{TileView}
use Rattle.tn_base.specs.Message.{has_packet}
use Rattle.tn_base.specs.declared.ids.Board.{Board}
use Rattle.tn_link.specs.LinkView.{LinkView}
use Rattle.tn_keys.specs.Copies.{Copy}
use Rattle.tn_keys.specs.Tables.{Table}
use Rattle.tn_router.specs.declared.work.Work.{Work}
use Rattle.tn_router.specs.Left.{copies_left, copies_out}
use Rattle.tn_node.specs.PortRows.{at as waits_for, with_at}
use Rattle.tn_router.specs.RouterView.{RouterView}
use Rattle.tn_rows.specs.PartView.{PartView, TileV, RouterV, LinkV, HostV, DetectorV, AbsentV}
use Rattle.tn_rows.specs.WorldView.{WorldView}
use Rattle.tn_letters.specs.declared.place.Place.{Place}
use Rattle.tn_letters.specs.declared.place.Place.TheVariants as place
use Rattle.tn_keys.specs.Reach.{Reach}
use Rattle.tn_letters.specs.Letters.{SameBag, letter_for, letters_from, letters_to, link_board, packet_letters}
use Rattle.tn_letters.specs.Standing.{crossing_at, leaving_by, link_standing, out_standing, process_standing, works_from, owed_standing, part_standing, pending_standing, ports, slots_standing, standing, standing_letters, standing_on, transit_standing, waiting}
use Rattle.tn_letters.specs.Tiles.{letter_in, reach_of}
use Rattle.tn_letters.proofs.Sums.{sum_below, sum_flat, sum_if, sum_map, sum_only, sum_places, sum_same}

-- bags are the same where each weight of letters weighs them the same
pub same_bag : (xs ys : List Letter) → ((w : Letter → ℕ) → sum_by w xs ≡ sum_by w ys) → SameBag xs ys
same_bag xs ys h = record { each = λ test. h (λ x. cond (test x) 1 0) }

abbrev pub packet_w : (Letter → ℕ) → ShapeNumbers → Reach → Option Packet → ℕ
packet_w w n reach None = 0
packet_w w n reach (Some p) = sum_by w (packet_letters n reach p)

abbrev pub pending_w : (Letter → ℕ) → Reach → TileView → ℕ
pending_w w reach v = sum_by (λ k. packet_w w v.plan.shape reach (pending_at v.now k)) (range_with_len 0 (tile_threads v.plan.shape))

-- a weight of each port's value, summed over the ports
abbrev pub ports_w : {X : Type 0} → (Port → Option X → ℕ) → Ports X → ℕ
ports_w g s =
    g port.East s.east + g port.West s.west + g port.South s.south + g port.North s.north + g port.Up s.up + g port.Down s.down + g port.HostPort s.host

-- another value for a port: the sum changes by its weight
pub ports_set : {X : Type 0} (g : Port → Option X → ℕ) (way : Port) (o : Option X) (s : Ports X) → (way ≡ port.Here → ⊥) → ports_w g (with_at way o s) + g way (waits_for way s) ≡ ports_w g s + g way o
ports_set g port.East o s ne = omega arith
ports_set g port.West o s ne = omega arith
ports_set g port.South o s ne = omega arith
ports_set g port.North o s ne = omega arith
ports_set g port.Up o s ne = omega arith
ports_set g port.Down o s ne = omega arith
ports_set g port.HostPort o s ne = omega arith
ports_set g port.Here o s ne = absurd (ne refl)

abbrev pub buffers_w : (Letter → ℕ) → ShapeNumbers → Reach → Ports Packet → ℕ
buffers_w w n reach out = ports_w (λ way. packet_w w n reach) out

abbrev pub owed_w : (Letter → ℕ) → TileView → ℕ → ℕ
owed_w w v s = sum_by (λ k. cond (bit_at (slot_at v.now.pool s).owed k == 1) (w (letter_in v k s)) 0) (range_with_len 0 (tile_threads v.plan.shape))

abbrev pub slots_w : (Letter → ℕ) → TileView → ℕ
slots_w w v = sum_by (owed_w w v) (range_with_len 0 (length v.now.pool.slots))

abbrev pub tile_w : (Letter → ℕ) → Reach → TileView → ℕ
tile_w w reach v = pending_w w reach v + buffers_w w v.plan.shape reach v.now.node.out + slots_w w v

-- of a packet on a link to a board, and of all that are there
abbrev pub crossing_w : (Letter → ℕ) → Board → ShapeNumbers → Reach → Packet → ℕ
crossing_w w board n reach k = cond (has_packet n k) (sum_by w (letters_from board n reach k.origin k.number k.dest k.bytes)) 0

abbrev pub link_w : (Letter → ℕ) → Board → ShapeNumbers → Reach → LinkView → ℕ
link_w w board n reach v = sum_by (crossing_w w board n reach) v.packets

-- of copies of a packet
abbrev pub copies_w : (Letter → ℕ) → Packet → List Copy → ℕ
copies_w w k copies = sum_by (λ (c : Copy). w (letter_for k.origin k.number c)) copies

-- of a packet that waits in a router for a way out, and of all of them
abbrev pub out_w : (Letter → ℕ) → Reach → ShapeNumbers → Board → Port → Option Packet → ℕ
out_w w reach n b way None = 0
out_w w reach n b way (Some k) = copies_w w k (copies_out reach n b way k)

abbrev pub outs_w : (Letter → ℕ) → Reach → ShapeNumbers → Board → Ports Packet → ℕ
outs_w w reach n b out = ports_w (out_w w reach n b) out

-- of a packet in process, and of all of them
abbrev pub work_w : (Letter → ℕ) → Reach → ShapeNumbers → Board → Table → Option Work → ℕ
work_w w reach n b table None = 0
work_w w reach n b table (Some x) = copies_w w x.packet (copies_left reach n b table x)

abbrev pub works_w : (Letter → ℕ) → Reach → ShapeNumbers → Board → Table → Ports Work → ℕ
works_w w reach n b table inputs = ports_w (λ side. work_w w reach n b table) inputs

abbrev pub router_w : (Letter → ℕ) → Reach → RouterView → ℕ
router_w w reach v = outs_w w reach v.plan.shape v.plan.board v.now.node.out + works_w w reach v.plan.shape v.plan.board v.plan.beats v.now.inputs

-- of a part, which has this number
abbrev pub part_w : (Letter → ℕ) → ShapeNumbers → Reach → ℕ → PartView → ℕ
part_w w n reach p (TileV v) = tile_w w reach v
part_w w n reach p (RouterV v) = router_w w reach v
part_w w n reach p (LinkV v) = link_w w (link_board n p) n reach v
part_w w n reach p (HostV s) = 0
part_w w n reach p (DetectorV v) = 0
part_w w n reach p AbsentV = 0

-- a letter in its place
abbrev second : (Letter → ℕ) → Place × Letter → ℕ
second w q = w q.1

waiting_w : (w : Letter → ℕ) (v : TileView) (reach : Reach) (at : Place) (o : Option Packet) → sum_by (second w) (waiting v.plan.shape reach at o) ≡ packet_w w v.plan.shape reach o
waiting_w w v reach at None = refl
waiting_w w v reach at (Some p) = sum_map (second w) (λ l. (at, l)) (packet_letters v.plan.shape reach p)

pending_is : (w : Letter → ℕ) (reach : Reach) (v : TileView) → sum_by (second w) (pending_standing reach v) ≡ pending_w w reach v
pending_is w reach v =
    sum_below (second w) (tile_threads v.plan.shape) _
    ∙ sum_same _ (λ k. packet_w w v.plan.shape reach (pending_at v.now k)) 0 (tile_threads v.plan.shape) (λ k l u. waiting_w w v reach _ (pending_at v.now k))

-- a sum over all ports, where nothing stands at `Here`
sum_ports : {X : Type 0} (f : Port → ℕ) (g : Port → Option X → ℕ) (s : Ports X) → f port.Here ≡ 0 → ((way : Port) → f way ≡ g way (waits_for way s)) → sum_by f ports ≡ ports_w g s
sum_ports f g s none same =
    let a = same port.East in
    let b = same port.West in
    let c = same port.South in
    let d = same port.North in
    let e = same port.Up in
    let h = same port.Down in
    let i = same port.HostPort in
    omega arith

transit_is : (w : Letter → ℕ) (reach : Reach) (p : ℕ) (v : TileView) → sum_by (second w) (transit_standing reach p v) ≡ buffers_w w v.plan.shape reach v.now.node.out
transit_is w reach p v =
    let stands : Port → Place = λ way. place.Transit (record { 0 = p }) way in
    sum_flat (second w) (λ way. waiting v.plan.shape reach (stands way) (waits_for way v.now.node.out)) ports
    ∙ sum_ports (λ way. sum_by (second w) (waiting v.plan.shape reach (stands way) (waits_for way v.now.node.out))) (λ way. packet_w w v.plan.shape reach) v.now.node.out refl
    (λ way. waiting_w w v reach (stands way) (waits_for way v.now.node.out))

owed_is : (w : Letter → ℕ) (v : TileView) (s : ℕ) → sum_by (second w) (owed_standing v s) ≡ owed_w w v s
owed_is w v s =
    sum_below (second w) (tile_threads v.plan.shape) _
    ∙ sum_same _ (λ k. cond (bit_at (slot_at v.now.pool s).owed k == 1) (w (letter_in v k s)) 0) 0 (tile_threads v.plan.shape)
    (λ k l u. sum_only (second w) (bit_at (slot_at v.now.pool s).owed k == 1) _)

slots_is : (w : Letter → ℕ) (v : TileView) → sum_by (second w) (slots_standing v) ≡ slots_w w v
slots_is w v = sum_below (second w) (length v.now.pool.slots) (owed_standing v) ∙ sum_same _ (owed_w w v) 0 (length v.now.pool.slots) (λ s l u. owed_is w v s)

abbrev maybe_w : (Letter → ℕ) → Board → ShapeNumbers → Reach → Option Packet → ℕ
maybe_w w board n reach None = 0
maybe_w w board n reach (Some k) = crossing_w w board n reach k

crossing_is : (w : Letter → ℕ) (n : ShapeNumbers) (reach : Reach) (p i : ℕ) (o : Option Packet) → sum_by (second w) (crossing_at n reach p i o) ≡ maybe_w w (link_board n p) n reach o
crossing_is w n reach p i None = refl
crossing_is w n reach p i (Some k) =
    let letters : List Letter = letters_from (link_board n p) n reach k.origin k.number k.dest k.bytes in
    sum_map (second w) (λ l. (place.OnLink (record { 0 = p }) i, l)) (letters_to (link_board n p) n reach k)
    ∙ sum_if w (has_packet n k) letters letters refl

link_is : (w : Letter → ℕ) (n : ShapeNumbers) (reach : Reach) (p : ℕ) (v : LinkView) → sum_by (second w) (link_standing n reach p v) ≡ link_w w (link_board n p) n reach v
link_is w n reach p v =
    sum_below (second w) (length v.packets) (λ i. crossing_at n reach p i (slice_get v.packets i))
    ∙ (sum_same _ (λ i. maybe_w w (link_board n p) n reach (slice_get v.packets i)) 0 (length v.packets) (λ i l u. crossing_is w n reach p i (slice_get v.packets i))
    ∙ sum_places (maybe_w w (link_board n p) n reach) (crossing_w w (link_board n p) n reach) v.packets (λ k. refl))

leaving_is : (w : Letter → ℕ) (reach : Reach) (p : ℕ) (v : RouterView) (way : Port) (o : Option Packet) → sum_by (second w) (leaving_by reach p v way o) ≡ out_w w reach v.plan.shape v.plan.board way o
leaving_is w reach p v way None = refl
leaving_is w reach p v way (Some k) = sum_map (second w) (λ c. (place.Transit (record { 0 = p }) way, letter_for k.origin k.number c)) (copies_out reach v.plan.shape v.plan.board way k)

working_is : (w : Letter → ℕ) (reach : Reach) (p : ℕ) (v : RouterView) (side : Port) (o : Option Work) → sum_by (second w) (works_from reach p v side o) ≡ work_w w reach v.plan.shape v.plan.board v.plan.beats o
working_is w reach p v side None = refl
working_is w reach p v side (Some x) = sum_map (second w) (λ c. (place.InProcess (record { 0 = p }) side, letter_for x.packet.origin x.packet.number c)) (copies_left reach v.plan.shape v.plan.board v.plan.beats x)

out_is : (w : Letter → ℕ) (reach : Reach) (p : ℕ) (v : RouterView) → sum_by (second w) (out_standing reach p v) ≡ outs_w w reach v.plan.shape v.plan.board v.now.node.out
out_is w reach p v =
    sum_flat (second w) (λ way. leaving_by reach p v way (waits_for way v.now.node.out)) ports
    ∙ sum_ports (λ way. sum_by (second w) (leaving_by reach p v way (waits_for way v.now.node.out))) (out_w w reach v.plan.shape v.plan.board) v.now.node.out refl
    (λ way. leaving_is w reach p v way (waits_for way v.now.node.out))

process_is : (w : Letter → ℕ) (reach : Reach) (p : ℕ) (v : RouterView) → sum_by (second w) (process_standing reach p v) ≡ works_w w reach v.plan.shape v.plan.board v.plan.beats v.now.inputs
process_is w reach p v =
    sum_flat (second w) (λ side. works_from reach p v side (waits_for side v.now.inputs)) ports
    ∙ sum_ports (λ side. sum_by (second w) (works_from reach p v side (waits_for side v.now.inputs))) (λ side. work_w w reach v.plan.shape v.plan.board v.plan.beats) v.now.inputs refl
    (λ side. working_is w reach p v side (waits_for side v.now.inputs))

part_is : (w : Letter → ℕ) (n : ShapeNumbers) (reach : Reach) (p : ℕ) (part : PartView) → sum_by (second w) (part_standing n reach p part) ≡ part_w w n reach p part
part_is w n reach p (TileV v) =
    let a = sum_by-append (second w) (pending_standing reach v ++ transit_standing reach p v) (slots_standing v) in
    let b = sum_by-append (second w) (pending_standing reach v) (transit_standing reach p v) in
    let c = pending_is w reach v in
    let d = transit_is w reach p v in
    let e = slots_is w v in
    let all : sum_by (second w) (pending_standing reach v ++ transit_standing reach p v ++ slots_standing v) ≡ tile_w w reach v = omega arith in
    all
part_is w n reach p (RouterV v) =
    let a = sum_by-append (second w) (out_standing reach p v) (process_standing reach p v) in
    let b = out_is w reach p v in
    let c = process_is w reach p v in
    let all : sum_by (second w) (out_standing reach p v ++ process_standing reach p v) ≡ router_w w reach v = omega arith in
    all
part_is w n reach p (LinkV v) = link_is w n reach p v
part_is w n reach p (HostV s) = refl
part_is w n reach p (DetectorV v) = refl
part_is w n reach p AbsentV = refl

standing_by : (w : Letter → ℕ) (v : WorldView) → sum_by w (standing_letters v) ≡ sum_by (λ p. part_w w v.shape (reach_of v) p (get_or v.parts p AbsentV)) (range_with_len 0 (part_count v.shape))
standing_by w v =
    sum_map w (λ (q : Place × Letter). q.1) (standing v)
    ∙ sum_below (second w) (part_count v.shape) (standing_on v)
    ∙ sum_same _ (λ p. part_w w v.shape (reach_of v) p (get_or v.parts p AbsentV)) 0 (part_count v.shape) (λ p l u. part_is w v.shape (reach_of v) p (get_or v.parts p AbsentV))

-- what stands in a machine whose keys lead so
pub standing_is : (w : Letter → ℕ) (v : WorldView) (reach : Reach) → reach_of v ≡ reach → sum_by w (standing_letters v) ≡ sum_by (λ p. part_w w v.shape reach p (get_or v.parts p AbsentV)) (range_with_len 0 (part_count v.shape))
standing_is w v reach e = standing_by w v ∙ ap (λ (r : Reach). sum_by (λ p. part_w w v.shape r p (get_or v.parts p AbsentV)) (range_with_len 0 (part_count v.shape))) e
