-- What the calls that list the standing letters read.
use Rattle.std.proofs.Common.{ℕ, ◌≡◌, ◌<◌, ◌+◌, ◌==◌, [], Bool, Bor, true, false, cond, List, zero, suc, refl, sym, ap, subst, ◌∙◌, IsTrue, Option, Some, None, option_map, MatchOption}
use Rattle.std.specs.Prelude.{option_copied}
use Rattle.std.proofs.lemmas.Bool.{and_from, eq-eqb}
use Rattle.tn_base.specs.declared.message.Packet.{Packet}
use Rattle.tn_base.specs.declared.shape.ShapeNumbers.{ShapeNumbers}
use Rattle.tn_base.specs.Address.{has_thread, in_tile, place_in_tile, tile_of, tile_threads}
use Rattle.tn_base.specs.Message.{has_packet}
use Rattle.tn_base.specs.Shape.{WithinLimits}
use Rattle.tn_base.proofs.TilePlaces.{place_back, place_there}
use Rattle.std.specs.Int.{bit_at}
use Rattle.std.specs.List.{flat_map, range_with_len}
use Rattle.std.proofs.lemmas.Nat.Bits.{bit_at-zero}
use Rattle.tn_slots.specs.Pool.{slot_at}
use Rattle.tn_slots.specs.Slot.{is_free}
use Rattle.tn_slots.proofs.Kept.{free_masks}
use Rattle.tn_keys.specs.Copies.{only_if}
use Rattle.tn_keys.specs.Reach.{Reach}
use Rattle.tn_letters.specs.Letters.{letter}
use Rattle.tn_base.specs.declared.port.Port.{Port}
use Rattle.tn_tile.specs.Kept.{IsPacket, WellShaped, has_way}
use Rattle.tn_tile.specs.Rows.{is_here, sender_of}
use Rattle.tn_tile.specs.Step.{pending_at}
use Rattle.tn_tile.specs.TileView.{TileView}
use Rattle.tn_base.specs.declared.message.Letter.{Letter}
use Rattle.tn_letters.specs.declared.place.Place.{Place}
use Rattle.tn_letters.specs.declared.place.Place.TheVariants as place
use Rattle.tn_letters.specs.Standing.{owed_standing, owed_to, pending_of, waiting}
use Rattle.tn_letters.specs.Tiles.{letter_in, sender_at}

-- a thread that is named by its tile and its place is on the tile, at that place
pub named_here : (v : TileView) (k a : ℕ) → WithinLimits v.plan.shape → WellShaped v → k < tile_threads v.plan.shape → a ≡ in_tile v.plan.shape v.plan.tile k → IsTrue (is_here v.plan a) × (place_in_tile v.plan.shape a ≡ k)
named_here v k a limits w h e =
    let back = place_back v.plan.shape v.plan.tile k limits w.tile h in (
      and_from _ _ (subst (λ b. IsTrue (has_thread v.plan.shape b)) (sym e) (place_there v.plan.shape v.plan.tile k limits w.tile h)) (eq-eqb _ _ (ap tile_of e ∙ back.0)),
      ap (place_in_tile v.plan.shape) e ∙ back.1,
    )

-- a packet that was read fits the machine, as what it was read from
pub packet_read : (n : ShapeNumbers) (r : Option (Bor Packet)) (o : Option Packet) → option_copied r ≡ o → MatchOption o (Unit {0}) (IsPacket n) → MatchOption r (Unit {0}) (λ p. IsTrue (has_packet n p.now))
packet_read n None o e fits = tt
packet_read n (Some p) o e fits = subst (λ x. MatchOption x (Unit {0}) (IsPacket n)) (sym e) fits

-- a packet that waits for a way out of a tile is one of the machine
pub waits_fit : (n : ShapeNumbers) (way : Port) (o : Option Packet) → MatchOption o (Unit {0}) (λ p. IsPacket n p × IsTrue (has_way way)) → MatchOption o (Unit {0}) (IsPacket n)
waits_fit n way None fits = tt
waits_fit n way (Some p) fits = fits.0

-- the same without the limits: the thread is there, as the call that named it says
pub here_read : (v : TileView) (n : ShapeNumbers) (tile k a : ℕ) → WellShaped v → n ≡ v.plan.shape → tile ≡ v.plan.tile → k < tile_threads v.plan.shape → a ≡ in_tile n tile k → IsTrue (has_thread n a) → WithinLimits v.plan.shape → IsTrue (is_here v.plan a) × (place_in_tile v.plan.shape a ≡ k) × (a ≡ in_tile v.plan.shape v.plan.tile k)
here_read v n tile k a w same at h e there limits =
    let is : a ≡ in_tile v.plan.shape v.plan.tile k = e ∙ (ap (λ m. in_tile m tile k) same ∙ ap (λ t. in_tile v.plan.shape t k) at) in
    let x = named_here v k a limits w h is in
    (x.0, x.1, is)

-- the packet of the place, where it was read by the thread's name
pub pending_read : (v : TileView) (k a : ℕ) (on : Reach) (o : Option Packet) → place_in_tile v.plan.shape a ≡ k → a ≡ in_tile v.plan.shape v.plan.tile k → o ≡ pending_at v.now (place_in_tile v.plan.shape a) →
    waiting v.plan.shape on (place.Pending (record { 0 = a })) o ≡ pending_of on v k
pending_read v k a on o at named is =
    ap (λ x. waiting v.plan.shape on (place.Pending (record { 0 = x })) o) named
    ∙ ap (waiting v.plan.shape on (place.Pending (record { 0 = in_tile v.plan.shape v.plan.tile k }))) (is ∙ ap (pending_at v.now) at)

-- a free slot is owed to nobody
flat_none : {A : Type 0} (f : ℕ → List A) (i n : ℕ) → ((k : ℕ) → f k ≡ []) → flat_map f (range_with_len i n) ≡ []
flat_none f i zero h = refl
flat_none f i (suc n) h = rw (h i) (flat_none f (i + 1) n h)

no_message : (b : Bool) (bytes : List ℕ) (f : List ℕ → ℕ × ℕ) → option_map f (cond b None (Some bytes)) ≡ None → b ≡ true
no_message true bytes f e = refl
no_message false bytes f e = cc e

pub none_owed : (v : TileView) (s : ℕ) → sender_of s v.now ≡ None → owed_standing v s ≡ []
none_owed v s e =
    let free = no_message (is_free (slot_at v.now.pool s)) (slot_at v.now.pool s).bytes _ e in
    let none = (free_masks (slot_at v.now.pool s) free).0 in
    flat_none (owed_to v s) 0 (tile_threads v.plan.shape)
    (λ k. ap (λ m. only_if (bit_at m k == 1) (place.Slot (record { 0 = v.plan.tile }) s (record { 0 = in_tile v.plan.shape v.plan.tile k }), letter_in v k s)) none
    ∙ ap (λ b. only_if (b == 1) (place.Slot (record { 0 = v.plan.tile }) s (record { 0 = in_tile v.plan.shape v.plan.tile k }), letter_in v k s)) (bit_at-zero k))

-- a used slot's letter for a thread that is owed it
pub message_some : (m : Option (List ℕ)) (x y : ℕ × ℕ) → option_map (λ bytes. x) m ≡ Some y → y ≡ x
message_some None x y e = cc e
message_some (Some bytes) x y e = cc e

abbrev pub owed_item : ℕ → ℕ → ℕ → ℕ → ℕ → List ℕ → Place × Letter
owed_item tile s a origin number bytes = (place.Slot (record { 0 = tile }) s (record { 0 = a }), letter origin number a bytes)

pub owed_made : (v : TileView) (s k tile a origin number : ℕ) (bytes : List ℕ) → sender_of s v.now ≡ Some (origin, number) → bytes ≡ (slot_at v.now.pool s).bytes → tile ≡ v.plan.tile → a ≡ in_tile v.plan.shape v.plan.tile k →
    owed_item tile s a origin number bytes ≡ owed_item v.plan.tile s (in_tile v.plan.shape v.plan.tile k) (sender_at v s).origin (sender_at v s).number (slot_at v.now.pool s).bytes
owed_made v s k tile a origin number bytes from same at named =
    let d : (ℕ × ℕ) = ((sender_at v s).origin, (sender_at v s).number) in
    let e : (ℕ × ℕ) = (origin, number) in
    let f : e ≡ d = message_some _ d e from in
    ap (λ t. owed_item t s a origin number bytes) at
    ∙ (ap (λ b. owed_item v.plan.tile s b origin number bytes) named
    ∙ (ap (λ y. owed_item v.plan.tile s (in_tile v.plan.shape v.plan.tile k) origin number y) same
    ∙ ap (λ (q : ℕ × ℕ). owed_item v.plan.tile s (in_tile v.plan.shape v.plan.tile k) q.0 q.1 (slot_at v.now.pool s).bytes) f))
