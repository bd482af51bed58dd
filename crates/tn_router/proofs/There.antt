-- In accepted tables the destination of each copy is there.
use Rattle.std.proofs.Common.{ℕ, zero, suc, ◌≡◌, ◌≤◌, ◌<◌, ◌+◌, ◌/◌, ◌%◌, ◌==◌, ◌||◌, ◌++◌, Bool, true, false, List, [], ◌∷◌, drop, get_or, length, refl, sym, ap, ◌∙◌, arith, leb, ltb, Some}
use Rattle.std.specs.Int.{bytes_low_first}
use Rattle.std.specs.List.{list_any}
use Rattle.std.specs.Prelude.{not, slice_get}
use Rattle.std.proofs.lemmas.Bool.{and_from, and_parts, cond_both, eq-eqb, le-leb, leb-true, lt-ltb, ltb-true, or_parts}
use Rattle.std.proofs.lemmas.List.{length-append, length-drop}
use Rattle.byteorder.specs.Numbers.{length-bytes_low_first}
use Rattle.tn_base.specs.declared.ids.Board.{Board}
use Rattle.tn_base.specs.declared.shape.ShapeNumbers.{ShapeNumbers}
use Rattle.tn_base.specs.Address.{has_thread, has_tile, names_tile}
use Rattle.tn_base.specs.Message.{slot_bytes}
use Rattle.tn_base.specs.Shape.{WithinLimits}
use Rattle.tn_keys.specs.declared.record.RouteRec.{RouteRec}
use Rattle.tn_keys.specs.Accepted.{Accepted, bad_thread, empty_mask, has_bit, has_place, off_machine}
use Rattle.tn_keys.specs.Copies.{keyed, tile_address}
use Rattle.tn_keys.specs.Tables.{HasBoard, Table, joined, table_of}
use Rattle.tn_keys.proofs.Accepting.{accepted_board}

pub not_false : (b : Bool) → not b ≡ false → b ≡ true
not_false true h = refl
not_false false h = cc h

-- the fields of the address of a tile's thread
pub record Fields (b : Board) (tile thread a : ℕ) : Type 0 where
  pub small : a < 16384
  pub thread_is : a % 16 ≡ thread % 16
  pub core : a / 16 % 4 ≡ thread / 16
  pub tile_x : a / 64 % 4 ≡ tile % 4
  pub tile_y : a / 256 % 4 ≡ tile / 4
  pub board_x : a / 1024 % 4 ≡ b.x
  pub board_y : a / 4096 % 4 ≡ b.y

address : (b : Board) (tile thread : ℕ) → b.x < 4 → b.y < 4 → tile < 16 → thread < 64 → Fields b tile thread (tile_address b tile + thread)
address b tile thread x y t k = record {
  small = omega arith;
  thread_is = omega arith;
  core = omega arith;
  tile_x = omega arith;
  tile_y = omega arith;
  board_x = omega arith;
  board_y = omega arith;
}

names : (n : ShapeNumbers) (b : Board) (tile thread a : ℕ) → HasBoard n b → has_place n tile ≡ true → Fields b tile thread a → names_tile n a ≡ true
names n b tile thread a h place f =
    let p = and_parts (ltb (tile % 4) n.tiles_x) (ltb (tile / 4) n.tiles_y) place in
    and_from _ _ (and_from _ _ (and_from _ _ (and_from _ _ (lt-ltb a 16384 f.small) (rw f.tile_x p.0)) (rw f.tile_y p.1)) (rw f.board_x (lt-ltb b.x n.boards_x h.0))) (rw f.board_y (lt-ltb b.y n.boards_y h.1))

low_tile : (n : ShapeNumbers) (tile : ℕ) → WithinLimits n → has_place n tile ≡ true → tile < 16
low_tile n tile l place =
    let p = and_parts (ltb (tile % 4) n.tiles_x) (ltb (tile / 4) n.tiles_y) place in
    let y = ltb-true (tile / 4) n.tiles_y p.1 in
    let most = l.tiles_y.1 in
    omega arith

low_thread : (n : ShapeNumbers) (thread : ℕ) → WithinLimits n → has_bit n thread ≡ true → thread < 64
low_thread n thread l bit =
    let p = and_parts (ltb (thread % 16) n.threads) (ltb (thread / 16) n.cores) bit in
    let core = ltb-true (thread / 16) n.cores p.1 in
    let most = l.cores.1 in
    omega arith

low_board : (n : ShapeNumbers) (b : Board) → WithinLimits n → HasBoard n b → (b.x < 4) × (b.y < 4)
low_board n b l h =
    let x = h.0 in
    let y = h.1 in
    let most_x = l.boards_x.1 in
    let most_y = l.boards_y.1 in
    (omega arith, omega arith)

pub thread_there : (n : ShapeNumbers) (b : Board) (tile thread : ℕ) → WithinLimits n → HasBoard n b → not (has_place n tile) ≡ false → not (has_bit n thread) ≡ false → has_thread n (tile_address b tile + thread) ≡ true
thread_there n b tile thread l h on bit =
    let place = not_false (has_place n tile) on in
    let named = not_false (has_bit n thread) bit in
    let low = low_board n b l h in
    let f = address b tile thread low.0 low.1 (low_tile n tile l place) (low_thread n thread l named) in
    let p = and_parts (ltb (thread % 16) n.threads) (ltb (thread / 16) n.cores) named in
    and_from _ _ (and_from _ _ (names n b tile thread (tile_address b tile + thread) h place f) (rw f.thread_is p.0)) (rw f.core p.1)

pub tile_there : (n : ShapeNumbers) (b : Board) (tile : ℕ) → WithinLimits n → HasBoard n b → not (has_place n tile) ≡ false → has_tile n (tile_address b tile) ≡ true
tile_there n b tile l h on =
    let place = not_false (has_place n tile) on in
    let low = low_board n b l h in
    let x = low.0 in
    let y = low.1 in
    let t = low_tile n tile l place in
    let f : Fields b tile 0 (tile_address b tile) = record {
      small = omega arith;
      thread_is = omega arith;
      core = omega arith;
      tile_x = omega arith;
      tile_y = omega arith;
      board_x = omega arith;
      board_y = omega arith;
    } in
    and_from _ _ (names n b tile 0 (tile_address b tile) h place f) (eq-eqb (tile_address b tile % 64) 0 (omega arith))

room : (n : ShapeNumbers) → 64 ≤ slot_bytes n
room n = cond_both (n.version == 1) 64 128 (λ k. 64 ≤ k) (λ _. omega arith) (λ _. omega arith)

-- a copy is as long as its packet
pub keyed_fits : (n : ShapeNumbers) (size key : ℕ) (bytes : List ℕ) → size ≤ 8 → leb (length bytes) (slot_bytes n) ≡ true → leb (length (keyed size key bytes)) (slot_bytes n) ≡ true
keyed_fits n size key bytes small fits =
    let front = bytes_low_first 0 size key in
    let front_long : length front ≡ size = length-bytes_low_first 0 size key in
    let long = length-append front (drop (length front) bytes) in
    let rest = length-drop (length front) bytes in
    let le = leb-true (length bytes) (slot_bytes n) fits in
    let most = room n in
    le-leb (length (keyed size key bytes)) (slot_bytes n) (omega arith)

-- what holds of no record of a table holds of none of its beats' records
none_of : (f : RouteRec → Bool) (rs : List RouteRec) (at : ℕ) (r : RouteRec) → list_any f rs ≡ false → slice_get rs at ≡ Some r → f r ≡ false
none_of f [] at r h e = cc e
none_of f (q ∷ qs) zero r h e = let same : q ≡ r = cc e in ap f (sym same) ∙ (or_parts (f q) (list_any f qs) h).0
none_of f (q ∷ qs) (suc at) r h e = none_of f qs at r (or_parts (f q) (list_any f qs) h).1 e

none_front : (f : RouteRec → Bool) (xs ys : List RouteRec) → list_any f (xs ++ ys) ≡ false → (list_any f xs ≡ false) × (list_any f ys ≡ false)
none_front f [] ys h = (refl, h)
none_front f (x ∷ xs) ys h =
    let p = or_parts (f x) (list_any f (xs ++ ys)) h in
    let q = none_front f xs ys p.1 in
    (ap (λ b. b || list_any f xs) p.0 ∙ q.0, q.1)

none_in : (f : RouteRec → Bool) (table : Table) (i at : ℕ) (r : RouteRec) → list_any f (joined table) ≡ false → slice_get (get_or table i []) at ≡ Some r → f r ≡ false
none_in f [] i at r h e = cc e
none_in f (beat ∷ beats) zero at r h e = none_of f beat at r (none_front f beat (joined beats) h).0 e
none_in f (beat ∷ beats) (suc i) at r h e = none_in f beats i at r (none_front f beat (joined beats) h).1 e

-- a record of accepted tables leads somewhere
pub record LeadsThere (n : ShapeNumbers) (b : Board) (r : RouteRec) : Type 0 where
  pub on : off_machine n b r ≡ false
  pub threads : bad_thread n r ≡ false
  pub masks : empty_mask r ≡ false

pub leads_there : (n : ShapeNumbers) (ts : List Table) (b : Board) (i at : ℕ) (r : RouteRec) → Accepted n ts → HasBoard n b → slice_get (get_or (table_of n ts b) i []) at ≡ Some r → LeadsThere n b r
leads_there n ts b i at r a h e =
    let f = accepted_board n ts b a h in
    record {
      on = none_in (off_machine n b) (table_of n ts b) i at r f.on e;
      threads = none_in (bad_thread n) (table_of n ts b) i at r f.threads e;
      masks = none_in empty_mask (table_of n ts b) i at r f.masks e;
    }
