-- The letters of a packet whose receivers are on one tile, place by place: those that are alive, and those that ended.
use Rattle.std.proofs.Common.{ℕ, ◌+◌, ◌-◌, ◌*◌, ◌/◌, ◌%◌, ◌^◌, ◌<◌, ◌≡◌, ◌⊎◌, ◌==◌, Bool, true, false, cond, List, [], zero, suc, refl, sym, ◌∙◌, ap, inl, inr, arith, IsTrue, sum_by, ltb, min}
use Rattle.std.specs.Int.{bit_at, bit_not, w64}
use Rattle.std.specs.Int.RustNames.{count_ones}
use Rattle.std.specs.Int.Bits.{bit_and}
use Rattle.std.specs.List.{range_with_len}
use lib.Count.{ones}
use Rattle.std.proofs.Math.Nat.{pow-suc}
use Rattle.std.proofs.lemmas.Bool.{and_parts, cond_both, eq-eqb, eqb-true}
use Rattle.std.proofs.lemmas.Bool.Decides.{nat_tests}
use Rattle.std.proofs.lemmas.List.Sums.{sum_by-cons}
use Rattle.std.proofs.lemmas.Nat.{ones_cat}
use Rattle.std.proofs.lemmas.Nat.Bits.{bit_at-pow_same, bit_at-pow_other, bit_at-suc, bit_at_and, bit_at_lowest, bit_at_not}
use Rattle.tn_base.specs.declared.message.Dest.{Dest}
use Rattle.tn_base.specs.declared.message.Dest.TheVariants as dest
use Rattle.tn_base.specs.declared.message.Letter.{Letter}
use Rattle.tn_base.specs.declared.port.Port.{Port}
use Rattle.tn_base.specs.declared.port.Port.TheVariants as port
use Rattle.tn_base.specs.declared.shape.ShapeNumbers.{ShapeNumbers}
use Rattle.tn_base.specs.Address.{has_thread, has_tile, in_tile, place_in_tile, tile_of, tile_threads}
use Rattle.tn_base.specs.Message.{has_dest}
use Rattle.tn_base.specs.Ports.{board_x, board_y, same_board, tile_port, tile_x, tile_y, to_router, to_tile, toward}
use Rattle.tn_base.specs.Shape.{WithinLimits}
use Rattle.tn_base.proofs.TilePlaces.{place_back, place_below, place_named, place_there}
use Rattle.tn_slots.proofs.Lists.{bit_cases}
use Rattle.tn_tile.specs.Receivers.{packed, receivers}
use Rattle.tn_tile.proofs.Packed.{receiver_bit}
use Rattle.tn_keys.specs.Copies.{only_if}
use Rattle.tn_keys.specs.Reach.{Reach}
use Rattle.tn_letters.specs.Letters.{letter, letters}
use Rattle.tn_letters.proofs.Sums.{sum_below, sum_only, sum_same, sum_shift, sum_single}

-- ---- bits

one_digit : (m : ℕ) → ones m ≡ ones (m / 2) + m % 2
unfolding count_ones
one_digit m =
    let whole : m / 2 * 2 ^ 1 + m % 2 ≡ m = omega arith in
    let c = ones_cat 1 (m / 2) (m % 2) (omega arith) in
    let low : ones (m % 2) ≡ m % 2 = low_digit (m % 2) (omega arith) in
    let e = ap ones whole in
    omega arith
  where
    low_digit : (d : ℕ) → d < 2 → ones d ≡ d
    low_digit zero h = refl
    low_digit (suc zero) h = refl
    low_digit (suc (suc d)) h = absurd (omega arith)

-- the ones of a number are its bits, added up
pub ones_are : (n m : ℕ) → m < 2 ^ n → ones m ≡ sum_by (bit_at m) (range_with_len 0 n)
unfolding count_ones
ones_are zero m h = let z : m ≡ 0 = omega arith in ap ones z
ones_are (suc n) m h =
    let d = one_digit m in
    let r = ones_are n (m / 2) (let p : 2 ^ suc n ≡ 2 ^ n * 2 = pow-suc 2 n in omega arith) in
    let c = sum_by-cons (bit_at m) 0 (range_with_len (0 + 1) n) in
    let s = sum_shift (bit_at m) 0 n in
    let t = sum_same (λ k. bit_at m (k + 1)) (bit_at (m / 2)) 0 n (λ k l u. let o : k + 1 ≡ suc k = omega arith in ap (bit_at m) o ∙ bit_at-suc m k) in
    let l = bit_at_lowest m in
    omega arith

-- of a set, those of it that are in another set and those that are not
pub parted : (set dead k x : ℕ) → dead < 2 ^ 64 → k < 64 →
    cond (bit_at set k == 1) x 0 ≡ cond (bit_at (bit_and set dead) k == 1) x 0 + cond (bit_at (bit_and set (bit_not w64 dead)) k == 1) x 0
parted set dead k x h j =
    by (bit_at set k) (bit_at dead k) (bit_at (bit_and set dead) k) (bit_at (bit_and set (bit_not w64 dead)) k) (bit_cases set k) (bit_cases dead k)
    (bit_at_and set dead k) (bit_at_and set (bit_not w64 dead) k ∙ ap (min (bit_at set k)) (bit_at_not w64 dead k h j))
  where
    by : (s d b c : ℕ) → (s ≡ 1) ⊎ (s ≡ 0) → (d ≡ 1) ⊎ (d ≡ 0) → b ≡ min s d → c ≡ min s (1 - d) → cond (s == 1) x 0 ≡ cond (b == 1) x 0 + cond (c == 1) x 0
    by s d b c (inl p) (inl q) e f = let y : b ≡ 1 = rw (e, p, q) refl in let z : c ≡ 0 = rw (f, p, q) refl in rw (p, y, z) (omega arith)
    by s d b c (inl p) (inr q) e f = let y : b ≡ 0 = rw (e, p, q) refl in let z : c ≡ 1 = rw (f, p, q) refl in rw (p, y, z) (omega arith)
    by s d b c (inr p) (inl q) e f = let y : b ≡ 0 = rw (e, p, q) refl in let z : c ≡ 0 = rw (f, p, q) refl in rw (p, y, z) (omega arith)
    by s d b c (inr p) (inr q) e f = let y : b ≡ 0 = rw (e, p, q) refl in let z : c ≡ 0 = rw (f, p, q) refl in rw (p, y, z) (omega arith)

-- both of two sets, by one of them and a test of the other
pub both_sets : (set dead k x : ℕ) (ended : Bool) → bit_at dead k ≡ cond ended 1 0 → cond (bit_at (bit_and set dead) k == 1) x 0 ≡ cond (bit_at set k == 1) (cond ended x 0) 0
both_sets set dead k x true e = by (bit_at set k) (bit_at (bit_and set dead) k) (bit_cases set k) (bit_at_and set dead k ∙ ap (min (bit_at set k)) e)
  where
    by : (s b : ℕ) → (s ≡ 1) ⊎ (s ≡ 0) → b ≡ min s 1 → cond (b == 1) x 0 ≡ cond (s == 1) x 0
    by s b (inl p) f = let y : b ≡ 1 = rw (f, p) refl in rw (p, y) refl
    by s b (inr p) f = let y : b ≡ 0 = rw (f, p) refl in rw (p, y) refl
both_sets set dead k x false e = by (bit_at set k) (bit_at (bit_and set dead) k) (bit_cases set k) (bit_at_and set dead k ∙ ap (min (bit_at set k)) e)
  where
    by : (s b : ℕ) → (s ≡ 1) ⊎ (s ≡ 0) → b ≡ min s 0 → cond (b == 1) x 0 ≡ cond (s == 1) 0 0
    by s b (inl p) f = let y : b ≡ 0 = rw (f, p) refl in rw (p, y) refl
    by s b (inr p) f = let y : b ≡ 0 = rw (f, p) refl in rw (p, y) refl

-- ---- a packet that stays on its tile

-- a way that does not end here
away : (x y to_x to_y : ℕ) (end : Port) → (end ≡ port.Here → ⊥) → toward x y to_x to_y end ≡ port.Here → ⊥
away x y to_x to_y end not =
    cond_both (ltb x to_x) _ _ (λ p. p ≡ port.Here → ⊥) (λ _ e. cc e)
    (λ _. cond_both (ltb to_x x) _ _ (λ p. p ≡ port.Here → ⊥) (λ _ e. cc e)
    (λ _. cond_both (ltb y to_y) _ _ (λ p. p ≡ port.Here → ⊥) (λ _ e. cc e)
    (λ _. cond_both (ltb to_y y) _ _ (λ p. p ≡ port.Here → ⊥) (λ _ e. cc e) (λ _. not))))

pub router_away : (a : ℕ) → to_router a ≡ port.Here → ⊥
router_away a = away (tile_x a) (tile_y a) 0 0 port.Up (λ e. cc e)

not_less : (x y : ℕ) → ltb x y ≡ false → ltb y x ≡ false → x ≡ y
not_less x y a b = grind (arith, nat_tests)

stays : (x y to_x to_y : ℕ) → toward x y to_x to_y port.Here ≡ port.Here → (x ≡ to_x) × (y ≡ to_y)
stays x y to_x to_y =
    cond_both (ltb x to_x) _ _ (λ p. p ≡ port.Here → (x ≡ to_x) × (y ≡ to_y)) (λ _ e. cc e)
    (λ a. cond_both (ltb to_x x) _ _ (λ p. p ≡ port.Here → (x ≡ to_x) × (y ≡ to_y)) (λ _ e. cc e)
    (λ b. cond_both (ltb y to_y) _ _ (λ p. p ≡ port.Here → (x ≡ to_x) × (y ≡ to_y)) (λ _ e. cc e)
    (λ c. cond_both (ltb to_y y) _ _ (λ p. p ≡ port.Here → (x ≡ to_x) × (y ≡ to_y)) (λ _ e. cc e)
    (λ d. λ _. (not_less x to_x a b, not_less y to_y c d)))))

-- the fields of a tile's address, and of another address on it
pub record OnTile (a b : ℕ) : Type 0 where
  pub tile : (tile_x a ≡ tile_x b) × (tile_y a ≡ tile_y b)
  pub board : (board_x a ≡ board_x b) × (board_y a ≡ board_y b)

boards : (a b : ℕ) → same_board a b ≡ true → (board_x a ≡ board_x b) × (board_y a ≡ board_y b)
boards a b h = let t = and_parts _ _ h in (eqb-true _ _ t.0, eqb-true _ _ t.1)

on_tile : (a b : ℕ) → to_tile a b ≡ port.Here → OnTile a b
on_tile a b =
    cond_both (same_board a b) _ _ (λ p. p ≡ port.Here → OnTile a b)
    (λ h e. record { tile = stays (tile_x a) (tile_y a) (tile_x b) (tile_y b) e; board = boards a b h })
    (λ h e. absurd (router_away a e))

fields_meet : (a b : ℕ) → a < 16384 → b < 16384 → a % 64 ≡ 0 → OnTile a b → tile_of b ≡ a
fields_meet a b h j whole o =
    let tx : a / 64 % 4 ≡ b / 64 % 4 = o.tile.0 in
    let ty : a / 256 % 4 ≡ b / 256 % 4 = o.tile.1 in
    let bx : a / 1024 % 4 ≡ b / 1024 % 4 = o.board.0 in
    let by : a / 4096 % 4 ≡ b / 4096 % 4 = o.board.1 in
    omega arith

thread_below : (n : ShapeNumbers) (a : ℕ) → IsTrue (has_thread n a) → a < 16384
thread_below n a h = grind (arith, nat_tests)

tile_below : (n : ShapeNumbers) (a : ℕ) → IsTrue (has_tile n a) → (a < 16384) × (a % 64 ≡ 0)
tile_below n a h = (grind (arith, nat_tests), grind (arith, nat_tests))

-- a thread that a packet reaches here is on the tile, and so is the tile of a mask
pub thread_here : (n : ShapeNumbers) (tile t : ℕ) → IsTrue (has_tile n tile) → IsTrue (has_thread n t) → to_tile tile t ≡ port.Here → tile_of t ≡ tile
thread_here n tile t there h e = let low = tile_below n tile there in fields_meet tile t low.0 (thread_below n t h) low.1 (on_tile tile t e)

pub tile_here_is : (n : ShapeNumbers) (tile at : ℕ) → IsTrue (has_tile n tile) → IsTrue (has_tile n at) → to_tile tile at ≡ port.Here → at ≡ tile
tile_here_is n tile at there h e =
    let low = tile_below n tile there in
    let other = tile_below n at h in
    let on : tile_of at ≡ tile = fields_meet tile at low.0 other.0 low.1 (on_tile tile at e) in
    let whole = other.1 in
    omega arith

-- what the packet is for the thread at a place
abbrev pub place_letter : ShapeNumbers → ℕ → ℕ → ℕ → List ℕ → ℕ → Letter
place_letter n tile origin number bytes k = letter origin number (in_tile n tile k) bytes

-- the letters of a packet that stays on its tile are those of the places among its receivers
pub letters_here : (f : Letter → ℕ) (n : ShapeNumbers) (reach : Reach) (tile origin number : ℕ) (to : Dest) (bytes : List ℕ) → WithinLimits n → IsTrue (has_tile n tile) → IsTrue (has_dest n to) → tile_port tile to ≡ port.Here →
    sum_by f (letters n reach origin number to bytes) ≡ sum_by (λ k. cond (bit_at (receivers n to) k == 1) (f (place_letter n tile origin number bytes k)) 0) (range_with_len 0 (tile_threads n))
letters_here f n reach tile origin number (dest.Thread t) bytes limits there fits here =
    let on : tile_of t.0 ≡ tile = thread_here n tile t.0 there fits here in
    let k : ℕ = place_in_tile n t.0 in
    let at : in_tile n tile k ≡ t.0 = ap (λ x. in_tile n x k) (sym on) ∙ place_named n t.0 fits in
    let one = sum_single (λ j. cond (bit_at (2 ^ k) j == 1) (f (place_letter n tile origin number bytes j)) 0) (tile_threads n) k (place_below n t.0 fits)
    (λ j ne. ap (λ b. cond (b == 1) (f (place_letter n tile origin number bytes j)) 0) (bit_at-pow_other k j ne)) in
    let bit : cond (bit_at (2 ^ k) k == 1) (f (place_letter n tile origin number bytes k)) 0 ≡ f (place_letter n tile origin number bytes k) = ap (λ b. cond b (f (place_letter n tile origin number bytes k)) 0) (eq-eqb (bit_at (2 ^ k) k) 1 (bit_at-pow_same k)) in
    let same : f (place_letter n tile origin number bytes k) ≡ f (letter origin number t.0 bytes) = ap (λ x. f (letter origin number x bytes)) at in
    let c = sum_by-cons f (letter origin number t.0 bytes) [] in
    omega arith
letters_here f n reach tile origin number dest.Host bytes limits there fits here = absurd (router_away tile here)
letters_here f n reach tile origin number (dest.Key key) bytes limits there fits here = absurd (router_away tile here)
letters_here f n reach tile origin number (dest.Mask at mask) bytes limits there fits here =
    let parts = and_parts _ _ fits in
    let same : at.0 ≡ tile = tile_here_is n tile at.0 there (and_parts _ _ parts.0).0 here in
    ap (λ x. sum_by f (letters n reach origin number (dest.Mask (record { 0 = x }) mask) bytes)) same
    ∙ (sum_below f (tile_threads n) (λ k. only_if (bit_at mask (in_tile n tile k % 64) == 1) (place_letter n tile origin number bytes k))
    ∙ sum_same _ (λ k. cond (bit_at (packed n mask) k == 1) (f (place_letter n tile origin number bytes k)) 0) 0 (tile_threads n)
    (λ k l u.
    let a : ℕ = in_tile n tile k in
    let below : k < tile_threads n = omega arith in
    let h = place_there n tile k limits there below in
    let bit : bit_at (packed n mask) k ≡ bit_at mask (a % 64) = ap (bit_at (packed n mask)) (sym (place_back n tile k limits there below).1) ∙ receiver_bit n mask a limits parts.1 h in
    sum_only f (bit_at mask (a % 64) == 1) (place_letter n tile origin number bytes k) ∙ ap (λ b. cond (b == 1) (f (place_letter n tile origin number bytes k)) 0) (sym bit)))
