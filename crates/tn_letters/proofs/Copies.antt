-- The letters of copies, and of packets that come to a router or leave it.
use Rattle.std.proofs.Common.{ℕ, ◌≡◌, ◌==◌, ◌%◌, Bool, true, cond, List, [], refl, sym, ◌∙◌, ap, subst, arith, Some, IsTrue, sum_by}
use Rattle.std.specs.Int.{bit_at}
use Rattle.std.proofs.lemmas.Bool.{and_parts, eqb-true}
use Rattle.std.proofs.lemmas.List.Sums.{sum_by-cons}
use Rattle.tn_base.specs.declared.ids.Board.{Board}
use Rattle.tn_base.specs.declared.message.Dest.{Dest}
use Rattle.tn_base.specs.declared.message.Dest.TheVariants as dest
use Rattle.tn_base.specs.declared.message.Letter.{Letter}
use Rattle.tn_base.specs.declared.message.Packet.{Packet}
use Rattle.tn_base.specs.declared.port.Port.{Port}
use Rattle.tn_base.specs.declared.shape.ShapeNumbers.{ShapeNumbers}
use Rattle.tn_base.specs.Address.{in_tile, tile_threads}
use Rattle.tn_base.specs.Mask.{names_threads}
use Rattle.tn_base.specs.Message.{has_dest, has_packet}
use Rattle.tn_base.specs.Shape.{WithinLimits}
use Rattle.tn_base.proofs.NamesThreads.{names_to}
use Rattle.tn_keys.specs.Accepted.{Accepted}
use Rattle.tn_keys.specs.Copies.{Copy, copy_to, led, masked_copies, only_if, onto}
use Rattle.tn_keys.specs.Reach.{Reach, reach}
use Rattle.tn_keys.specs.Tables.{HasBoard, Table, table_of}
use Rattle.tn_keys.proofs.Masks.{masked_is}
use Rattle.tn_router.specs.Kept.{is_keyed}
use Rattle.tn_router.specs.Left.{board_on, copies_left, copies_to, reached}
use Rattle.tn_router.specs.Rest.{started, started_to}
use Rattle.tn_router.proofs.Conserved.{started_left}
use Rattle.tn_router.proofs.Resting.{started_packet}
use Rattle.tn_letters.specs.Letters.{host_address, letter, letter_for, letters_from, masked_letters}
use Rattle.tn_letters.proofs.Sums.{sum_below, sum_map, sum_only, sum_same}
use Rattle.tn_letters.proofs.Weights.{copies_w, crossing_w, out_w, work_w}

-- those of a mask are for the threads that it names
masked_w : (f : Letter → ℕ) (n : ShapeNumbers) (origin number tile mask : ℕ) (bytes : List ℕ) → WithinLimits n → IsTrue (names_threads n mask) → tile % 64 ≡ 0 →
    sum_by (λ (c : Copy). f (letter_for origin number c)) (masked_copies tile mask bytes) ≡ sum_by f (masked_letters n origin number tile mask bytes)
masked_w f n origin number tile mask bytes limits names low =
    let w : Copy → ℕ = λ c. f (letter_for origin number c) in
    let named : ℕ → Bool = λ k. bit_at mask (in_tile n tile k % 64) == 1 in
    let each : ℕ → ℕ = λ k. cond (named k) (f (letter origin number (in_tile n tile k) bytes)) 0 in
    ap (λ (cs : List Copy). sum_by w cs) (masked_is n tile mask bytes low (names_to n mask names) limits.threads.1 limits.cores.1)
    ∙ (sum_below w (tile_threads n) (λ k. only_if (named k) (copy_to (in_tile n tile k) bytes))
    ∙ (sum_same _ each 0 (tile_threads n) (λ k l u. sum_only w (named k) (copy_to (in_tile n tile k) bytes))
    ∙ sym (sum_below f (tile_threads n) (λ k. only_if (named k) (letter origin number (in_tile n tile k) bytes))
    ∙ sum_same _ each 0 (tile_threads n) (λ k l u. sum_only f (named k) (letter origin number (in_tile n tile k) bytes)))))

-- the copies of a packet are its letters, where its key leads the same way
pub copies_are : (f : Letter → ℕ) (n : ShapeNumbers) (on : Reach) (c : Board) (origin number : ℕ) (bytes : List ℕ) (d : Dest) (by_key : ℕ → List Copy) → WithinLimits n → IsTrue (has_dest n d) → ((key : ℕ) → d ≡ dest.Key key → by_key key ≡ on c key bytes) →
    sum_by (λ (x : Copy). f (letter_for origin number x)) (copies_to by_key bytes d) ≡ sum_by f (letters_from c n on origin number d bytes)
copies_are f n on c origin number bytes (dest.Thread t) by_key limits there leads =
    let a = sum_by-cons (λ (x : Copy). f (letter_for origin number x)) (copy_to t.0 bytes) [] in
    let b = sum_by-cons f (letter origin number t.0 bytes) [] in
    omega arith
copies_are f n on c origin number bytes dest.Host by_key limits there leads =
    let a = sum_by-cons (λ (x : Copy). f (letter_for origin number x)) (copy_to host_address bytes) [] in
    let b = sum_by-cons f (letter origin number host_address bytes) [] in
    omega arith
copies_are f n on c origin number bytes (dest.Mask tile mask) by_key limits there leads =
    let parts = and_parts _ _ there in
    masked_w f n origin number tile.0 mask bytes limits parts.1 (eqb-true _ _ (and_parts _ _ (and_parts _ _ parts.0).0).1)
copies_are f n on c origin number bytes (dest.Key key) by_key limits there leads =
    ap (λ (cs : List Copy). sum_by (λ (x : Copy). f (letter_for origin number x)) cs) (leads key refl) ∙ sym (sum_map f (letter_for origin number) (on c key bytes))

-- a packet weighs in a router's buffer what it weighs on the link to the board to which it goes
pub out_weighs : (f : Letter → ℕ) (n : ShapeNumbers) (on : Reach) (b c : Board) (way : Port) (k : Packet) → WithinLimits n → IsTrue (has_packet n k) → (is_keyed k.dest ≡ true → board_on n b way ≡ Some c) → out_w f on n b way (Some k) ≡ crossing_w f c n on k
out_weighs f n on b c way k limits fits leads =
    copies_are f n on c k.origin k.number k.bytes k.dest (λ key. led (reached on k.bytes) (onto key (board_on n b way))) limits (and_parts _ _ fits).0
    (λ key e. ap (λ o. led (reached on k.bytes) (onto key o)) (leads (ap is_keyed e)))
    ∙ sym (ap (λ t. cond t (sum_by f (letters_from c n on k.origin k.number k.dest k.bytes)) 0) fits)

started_is : (table : Table) (k : Packet) (d : Dest) → (started_to table k d).packet ≡ k
started_is table k (dest.Thread t) = refl
started_is table k dest.Host = refl
started_is table k (dest.Mask tile mask) = refl
started_is table k (dest.Key key) = started_packet table k key

-- and where it comes into process what it weighed on the link
pub started_weighs : (f : Letter → ℕ) (n : ShapeNumbers) (tables : List Table) (b : Board) (table : Table) (k : Packet) → WithinLimits n → Accepted n tables → HasBoard n b → table ≡ table_of n tables b → IsTrue (has_packet n k) →
    work_w f (reach n tables) n b table (Some (started table k)) ≡ crossing_w f b n (reach n tables) k
started_weighs f n tables b table k limits accepted board is fits =
    subst (λ t. work_w f (reach n tables) n b t (Some (started t k)) ≡ crossing_w f b n (reach n tables) k) (sym is)
    (ap (λ (p : Packet). copies_w f p (copies_left (reach n tables) n b (table_of n tables b) (started (table_of n tables b) k))) (started_is (table_of n tables b) k k.dest)
    ∙ (ap (copies_w f k) (started_left n tables b k limits accepted board)
    ∙ (copies_are f n (reach n tables) b k.origin k.number k.bytes k.dest (λ key. reach n tables b key k.bytes) limits (and_parts _ _ fits).0 (λ key e. refl)
    ∙ sym (ap (λ t. cond t (sum_by f (letters_from b n (reach n tables) k.origin k.number k.dest k.bytes)) 0) fits))))
