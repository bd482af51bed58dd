-- What the calls that follow keys read.
use Rattle.std.proofs.Common.{ℕ, ◌≡◌, ◌≤◌, ◌<◌, ◌+◌, ◌-◌, ◌*◌, ◌++◌, ◌==◌, Bool, Bor, true, false, cond, List, [], ◌∷◌, drop, take, length, get_or, map, zero, suc, refl, sym, ◌∙◌, ap, subst, arith, Option, Some, None, is_none, MatchOption, append_assoc, unwrap_or, ltb}
use Rattle.std.specs.Prelude.{◌||◌, option_and_then, option_copied, slice_get}
use Rattle.std.specs.Int.{bit_at}
use Rattle.std.specs.List.{flat_map, range_with_len}
use Rattle.std.proofs.lemmas.Bool.{ne_eqb, le-ltb, lt-ltb}
use Rattle.std.proofs.lemmas.List.{append-nil, drop-take, get_or_past}
use Rattle.tn_base.specs.Parts.{visited}
use Rattle.tn_keys.specs.Key.{key_count, key_first}
use Rattle.tn_keys.specs.Tables.{is_bad_key, records_at, records_of}
use Rattle.tn_router.proofs.Firsts.{beats_here}
use Rattle.tn_base.proofs.Listing.{length_mapped, mapped_at}
use Rattle.tn_base.specs.declared.ids.Board.{Board}
use Rattle.tn_base.specs.declared.message.Letter.{Letter}
use Rattle.tn_base.specs.declared.shape.ShapeNumbers.{ShapeNumbers}
use Rattle.tn_base.specs.Parts.{board_count, router_part}
use Rattle.tn_keys.specs.declared.record.RouteRec.{RouteRec}
use Rattle.tn_keys.specs.Copies.{Copy, copy_to, masked_copies, only_if}
use Rattle.tn_base.specs.declared.message.Dest.{Dest}
use Rattle.tn_base.specs.declared.message.Dest.TheVariants as dest
use Rattle.tn_keys.specs.Reach.{reach, reach_by, walk}
use Rattle.tn_keys.proofs.Reaching.{reach_by-suc}
use Rattle.tn_keys.specs.Tables.{Table, board_place, joined, table_of}
use Rattle.tn_router.specs.RouterView.{RouterView}
use Rattle.tn_rows.specs.PartView.{PartView, TileV, RouterV, LinkV, HostV, DetectorV, AbsentV, router_of}
use Rattle.tn_rows.specs.WorldView.{WorldView}
use Rattle.tn_letters.specs.Letters.{letter, letter_for, letters_from}
use Rattle.tn_letters.specs.Tiles.{beats_on, reach_of, tables_of}

-- the letter of a bit of a mask
abbrev pub masked_at : ℕ → ℕ → ℕ → ℕ → List ℕ → ℕ → List Letter
masked_at origin number tile mask bytes k = only_if (bit_at mask k == 1) (letter origin number (tile + k) bytes)

only_map : (f : Copy → Letter) (b : Bool) (c : Copy) (rest : List Copy) → map f (only_if b c ++ rest) ≡ only_if b (f c) ++ map f rest
only_map f true c rest = refl
only_map f false c rest = refl

masked_range : (origin number tile mask : ℕ) (bytes : List ℕ) (i count : ℕ) → map (letter_for origin number) (flat_map (λ k. only_if (bit_at mask k == 1) (copy_to (tile + k) bytes)) (range_with_len i count)) ≡ flat_map (masked_at origin number tile mask bytes) (range_with_len i count)
masked_range origin number tile mask bytes i zero = refl
masked_range origin number tile mask bytes i (suc count) =
    only_map (letter_for origin number) (bit_at mask i == 1) (copy_to (tile + i) bytes) (flat_map (λ k. only_if (bit_at mask k == 1) (copy_to (tile + k) bytes)) (range_with_len (i + 1) count))
    ∙ ap (λ xs. masked_at origin number tile mask bytes i ++ xs) (masked_range origin number tile mask bytes (i + 1) count)

pub masked_letters_are : (origin number tile mask : ℕ) (bytes : List ℕ) → map (letter_for origin number) (masked_copies tile mask bytes) ≡ flat_map (masked_at origin number tile mask bytes) (range_with_len 0 64)
unfolding masked_copies
masked_letters_are origin number tile mask bytes = masked_range origin number tile mask bytes 0 64

pub reach_none : (n : ShapeNumbers) (ts : List Table) (bytes : List ℕ) (b : Board) (key : ℕ) → reach_by zero n ts bytes b key ≡ []
unfolding reach_by
reach_none n ts bytes b key = refl

-- the router that was read has the table of its board
pub table_past : (w : WorldView) (b : Board) → board_count w.shape ≤ board_place w.shape b → table_of w.shape (tables_of w) b ≡ []
unfolding tables_of
table_past w b h =
    let beats : ℕ → Table = λ j. beats_on (get_or w.parts (router_part w.shape j) AbsentV) in
    let long = length_mapped beats 0 (board_count w.shape) in
    get_or_past (map beats (range_with_len 0 (board_count w.shape))) (board_place w.shape b) [] (omega arith)

pub table_read : (w : WorldView) (b : Board) → board_place w.shape b < board_count w.shape → table_of w.shape (tables_of w) b ≡ beats_on (get_or w.parts (router_part w.shape (board_place w.shape b)) AbsentV)
unfolding tables_of
table_read w b h =
    let beats : ℕ → Table = λ j. beats_on (get_or w.parts (router_part w.shape j) AbsentV) in
    mapped_at beats 0 (board_count w.shape) (board_place w.shape b) [] h ∙ ap beats (omega arith)

pub router_read : (part : PartView) (o : Option (Bor RouterView)) → option_copied o ≡ router_of part → MatchOption o (beats_on part ≡ []) (λ r. r.now.plan.beats ≡ beats_on part)
router_read (TileV v) None e = refl
router_read (TileV v) (Some r) e = cc e
router_read (RouterV v) None e = cc e
router_read (RouterV v) (Some r) e = ap (λ (x : Option RouterView). (unwrap_or x v).plan.beats) e
router_read (LinkV x) None e = refl
router_read (LinkV x) (Some r) e = cc e
router_read (HostV h) None e = refl
router_read (HostV h) (Some r) e = cc e
router_read (DetectorV d) None e = refl
router_read (DetectorV d) (Some r) e = cc e
router_read AbsentV None e = refl
router_read AbsentV (Some r) e = cc e

parts_read : (parts : List PartView) (i : ℕ) (o : Option (Bor RouterView)) → option_copied o ≡ option_and_then router_of (slice_get parts i) → MatchOption o (beats_on (get_or parts i AbsentV) ≡ []) (λ r. r.now.plan.beats ≡ beats_on (get_or parts i AbsentV))
parts_read [] i None e = refl
parts_read [] i (Some r) e = cc e
parts_read (x ∷ xs) zero o e = router_read x o e
parts_read (x ∷ xs) (suc i) o e = parts_read xs i o e

-- the numbers of a machine, as they were read
same_place : (n : ShapeNumbers) (b : Board) (numbers shape : ShapeNumbers) → shape ≡ n → numbers ≡ shape → b.y * numbers.boards_x + b.x ≡ board_place n b
same_place n b numbers shape s e = ap (λ (k : ShapeNumbers). b.y * k.boards_x + b.x) (e ∙ s)

pub past_read : (w : WorldView) (b : Board) (numbers shape : ShapeNumbers) (count : ℕ) → shape ≡ w.shape → numbers ≡ shape → count ≡ board_count shape → count ≤ b.y * numbers.boards_x + b.x → table_of w.shape (tables_of w) b ≡ []
past_read w b numbers shape count s e c h =
    let place = same_place w.shape b numbers shape s e in
    let boards : count ≡ board_count w.shape = c ∙ ap board_count s in
    table_past w b (omega arith)

pub found_read : (w : WorldView) (b : Board) (numbers shape : ShapeNumbers) (seen count : ℕ) (o : Option (Bor RouterView)) → shape ≡ w.shape → numbers ≡ shape → seen ≡ visited shape → count ≡ board_count shape → b.y * numbers.boards_x + b.x < count →
    option_copied o ≡ option_and_then router_of (slice_get w.parts (seen - count + (b.y * numbers.boards_x + b.x))) → MatchOption o (table_of w.shape (tables_of w) b ≡ []) (λ r. r.now.plan.beats ≡ table_of w.shape (tables_of w) b)
found_read w b numbers shape seen count o s e v c h is =
    let place = same_place w.shape b numbers shape s e in
    let boards : count ≡ board_count w.shape = c ∙ ap board_count s in
    let all : seen ≡ visited w.shape = v ∙ ap visited s in
    let part : seen - count + (b.y * numbers.boards_x + b.x) ≡ router_part w.shape (board_place w.shape b) = omega arith in
    let read = parts_read w.parts (router_part w.shape (board_place w.shape b)) o (is ∙ ap (λ i. option_and_then router_of (slice_get w.parts i)) part) in
    subst (λ (t : Table). MatchOption o (t ≡ []) (λ r. r.now.plan.beats ≡ t)) (sym (table_read w b (omega arith))) read

-- beats one after another
pub beat_read : (t : Table) (i : ℕ) (o : Option (Bor (List RouteRec))) → option_copied o ≡ slice_get t i → MatchOption o (get_or t i [] ≡ []) (λ r. r.now ≡ get_or t i [])
beat_read [] i None e = refl
beat_read [] i (Some r) e = cc e
beat_read (x ∷ xs) zero None e = cc e
beat_read (x ∷ xs) zero (Some r) e = ap (λ (y : Option (List RouteRec)). unwrap_or y x) e
beat_read (x ∷ xs) (suc i) o e = beat_read xs i o e

pub more_beats : (t : Table) (i end : ℕ) (before now beat : List RouteRec) → i < end → end ≤ length t → now ≡ before ++ beat → beat ≡ get_or t i [] → now ++ joined (drop (i + 1) (take end t)) ≡ before ++ joined (drop i (take end t))
more_beats t i end before now beat h l e is =
    let rest : List RouteRec = joined (drop (i + 1) (take end t)) in
    ap (λ xs. xs ++ rest) (e ∙ ap (λ xs. before ++ xs) is)
    ∙ (append_assoc before (get_or t i []) rest ∙ ap (λ xs. before ++ xs) (sym (ap joined (beats_here t i end h l))))

-- the records of a key
bad_records : (t : Table) (key : ℕ) → is_bad_key (length t) key ≡ true → records_at t key ≡ []
unfolding records_at
bad_records t key bad = ap (λ b. cond b [] (joined (take (key_count key) (drop (key_first key) t)))) bad

good_records : (t : Table) (key : ℕ) → is_bad_key (length t) key ≡ false → joined (drop (key_first key) (take (key_first key + key_count key) t)) ≡ records_at t key
unfolding records_at
good_records t key is_good =
    ap joined (drop-take (key_first key) (key_count key) t) ∙ sym (ap (λ b. cond b [] (joined (take (key_count key) (drop (key_first key) t)))) is_good)

or_right : (b c : Bool) → c ≡ true → (b || c) ≡ true
or_right true c e = refl
or_right false c e = e

-- the last beat of a key is not there
pub bad_past : (t : Table) (key : ℕ) → length t < key_first key + key_count key → records_at t key ≡ []
bad_past t key h = bad_records t key (or_right (key_count key == 0) (ltb (length t) (key_first key + key_count key)) (lt-ltb (length t) (key_first key + key_count key) h))

pub bad_none : (t : Table) (key : ℕ) → key_count key ≡ 0 → records_at t key ≡ []
bad_none t key e = bad_records t key (ap (λ k. (k == 0) || ltb (length t) (key_first key + k)) e)

pub good_read : (t : Table) (key : ℕ) → (key_count key ≡ 0 → ⊥) → key_first key + key_count key ≤ length t → joined (drop (key_first key) (take (key_first key + key_count key) t)) ≡ records_at t key
good_read t key some h = good_records t key (ap (λ b. b || ltb (length t) (key_first key + key_count key)) (ne_eqb (key_count key) 0 some) ∙ le-ltb (length t) (key_first key + key_count key) h)

pub past_get : (t : Table) (i : ℕ) → is_none (slice_get t i) ≡ true → length t ≤ i
past_get [] i e = omega arith
past_get (x ∷ xs) zero e = cc e
past_get (x ∷ xs) (suc i) e = let r = past_get xs i e in omega arith

pub within_get : (t : Table) (i : ℕ) → is_none (slice_get t i) ≡ false → i < length t
within_get [] i e = cc e
within_get (x ∷ xs) zero e = omega arith
within_get (x ∷ xs) (suc i) e = let r = within_get xs i e in omega arith

copied_none : (o : Option (Bor (List RouteRec))) → is_none (option_copied o) ≡ is_none o
copied_none None = refl
copied_none (Some r) = refl

pub none_read : (t : Table) (i : ℕ) (o : Option (Bor (List RouteRec))) → option_copied o ≡ slice_get t i → is_none (slice_get t i) ≡ is_none o
none_read t i o e = sym (ap is_none e) ∙ copied_none o

-- the table of a board, where its router was read or not
pub no_table : (t : Table) (key : ℕ) (o : Option (Bor RouterView)) → MatchOption o (t ≡ []) (λ r. r.now.plan.beats ≡ t) → o ≡ None → records_at t key ≡ []
no_table t key None m e = subst (λ x. records_at x key ≡ []) (sym m) (by (key_count key) refl)
  where
    by : (k : ℕ) → key_count key ≡ k → records_at [] key ≡ []
    by zero e = bad_none [] key e
    by (suc k) e = bad_past [] key (omega arith)
no_table t key (Some r) m e = cc e

pub some_table : (t : Table) (o : Option (Bor RouterView)) (r : Bor RouterView) → MatchOption o (t ≡ []) (λ r. r.now.plan.beats ≡ t) → o ≡ Some r → r.now.plan.beats ≡ t
some_table t None r m e = cc e
some_table t (Some s) r m e = subst (λ (x : Option (Bor RouterView)). MatchOption x (t ≡ []) (λ r. r.now.plan.beats ≡ t)) e m

-- a key as it was read
pub past_key : (t beats : Table) (key first count : ℕ) (o : Option (Bor (List RouteRec))) → beats ≡ t → first ≡ key_first key → count ≡ key_count key → (count ≡ 0 → ⊥) → option_copied o ≡ slice_get beats (first + count - 1) → is_none o ≡ true → records_at t key ≡ []
past_key t beats key first count o same f c some e none =
    let past = past_get beats (first + count - 1) (none_read beats (first + count - 1) o e ∙ none) in
    let long = ap length same in
    let one : 0 < count = by count some in
    bad_past t key (omega arith)
  where
    by : (k : ℕ) → (k ≡ 0 → ⊥) → 0 < k
    by zero h = absurd (h refl)
    by (suc k) h = omega arith

pub within_key : (beats : Table) (first count : ℕ) (o : Option (Bor (List RouteRec))) → (count ≡ 0 → ⊥) → option_copied o ≡ slice_get beats (first + count - 1) → is_none o ≡ false → first + count ≤ length beats
within_key beats first count o some e there =
    let h = within_get beats (first + count - 1) (none_read beats (first + count - 1) o e ∙ there) in
    omega arith

pub found_key : (t beats : Table) (key first count : ℕ) → beats ≡ t → first ≡ key_first key → count ≡ key_count key → (count ≡ 0 → ⊥) → first + count ≤ length beats → joined (drop first (take (first + count) beats)) ≡ records_at t key
found_key t beats key first count same f c some h =
    let long = ap length same in
    ap (λ (x : Table). joined (drop first (take (first + count) x))) same
    ∙ (ap (λ i. joined (drop i (take (i + count) t))) f ∙ (ap (λ k. joined (drop (key_first key) (take (key_first key + k) t))) c
    ∙ good_read t key (λ z. some (c ∙ z)) (omega arith)))

-- over no keys nothing is reached, and over more what a key's records do
pub no_keys : (all : List Letter) (f : Copy → Letter) (keys : ℕ) (n : ShapeNumbers) (ts : List Table) (bytes : List ℕ) (b : Board) (key : ℕ) → keys ≡ 0 → all ≡ all ++ map f (reach_by keys n ts bytes b key)
no_keys all f keys n ts bytes b key e =
    sym (append-nil all) ∙ ap (λ (cs : List Copy). all ++ map f cs) (sym (ap (λ k. reach_by k n ts bytes b key) e ∙ reach_none n ts bytes b key))

one_more : (keys : ℕ) (n : ShapeNumbers) (ts : List Table) (bytes : List ℕ) (b : Board) (key : ℕ) (records : List RouteRec) → (keys ≡ 0 → ⊥) → records ≡ records_of n ts b key → walk (reach_by (keys - 1) n ts bytes) n b bytes records ≡ reach_by keys n ts bytes b key
one_more zero n ts bytes b key records some e = absurd (some refl)
one_more (suc keys) n ts bytes b key records some e =
    let less : suc keys - 1 ≡ keys = omega arith in
    ap (λ k. walk (reach_by k n ts bytes) n b bytes records) less ∙ (ap (walk (reach_by keys n ts bytes) n b bytes) e ∙ sym (reach_by-suc keys n ts bytes b key))

pub one_key : (keys : ℕ) (n m : ShapeNumbers) (ts : List Table) (bytes : List ℕ) (b : Board) (key : ℕ) (records : List RouteRec) → m ≡ n → (keys ≡ 0 → ⊥) → records ≡ records_of n ts b key → walk (reach_by (keys - 1) n ts bytes) m b bytes records ≡ reach_by keys n ts bytes b key
one_key keys n m ts bytes b key records same some e = ap (λ k. walk (reach_by (keys - 1) n ts bytes) k b bytes records) same ∙ one_more keys n ts bytes b key records some e

pub reach_keys : (n : ShapeNumbers) (ts : List Table) (bytes : List ℕ) (b : Board) (key : ℕ) → reach_by 65 n ts bytes b key ≡ reach n ts b key bytes
unfolding reach
reach_keys n ts bytes b key = refl

-- the letters of a packet with a key, which is there
pub key_letters : (b : Board) (n : ShapeNumbers) (w : WorldView) (origin number : ℕ) (bytes : List ℕ) (d : Dest) (key : ℕ) (all : List Letter) → d ≡ dest.Key key → all ≡ map (letter_for origin number) (reach_by 65 w.shape (tables_of w) bytes b key) →
    all ≡ letters_from b n (reach_of w) origin number d bytes
key_letters b n w origin number bytes d key all e is =
    is ∙ (ap (map (letter_for origin number)) (reach_keys w.shape (tables_of w) bytes b key) ∙ ap (λ x. letters_from b n (reach_of w) origin number x bytes) (sym e))
