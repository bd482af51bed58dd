-- A Route loses no copy and makes none twice.
use Rattle.std.proofs.Common.{ℕ, ◌≡◌, ◌+◌, ◌==◌, ◌++◌, true, false, cond, List, [], ◌∷◌, drop, get_or, length, refl, sym, ap, subst, ◌∙◌, arith, inl, inr, leb, Option, Some, None, is_some}
use Rattle.std.specs.Prelude.{slice_get}
use Rattle.std.proofs.lemmas.Bool.{and_from, and_parts, cases_Bool, cond_both, not_from_false}
use Rattle.std.proofs.lemmas.List.{append-nil}
use Rattle.tn_base.specs.declared.ids.Board.{Board}
use Rattle.tn_base.specs.declared.message.Dest.{Dest}
use Rattle.tn_base.specs.declared.message.Dest.TheVariants as dest
use Rattle.tn_base.specs.declared.message.Packet.{Packet}
use Rattle.tn_base.specs.declared.port.Port.{Port}
use Rattle.tn_base.specs.declared.port.Port.TheVariants as port
use Rattle.tn_base.specs.declared.shape.ShapeNumbers.{ShapeNumbers}
use Rattle.tn_base.specs.Mask.{names_threads}
use Rattle.tn_base.specs.Message.{has_dest, has_packet, slot_bytes}
use Rattle.tn_base.specs.Shape.{WithinLimits}
use Rattle.tn_keys.specs.declared.record.RouteRec.{RouteRec}
use Rattle.tn_keys.specs.declared.record.RouteRec.TheVariants.{Urm1, Urm2, Rr, Mrm, Ind}
use Rattle.tn_keys.specs.Accepted.{Accepted}
use Rattle.tn_keys.specs.Copies.{Copy, copies_of, keyed, led, neighbour, onto, tile_address}
use Rattle.tn_keys.specs.Reach.{Reach, reach, walk}
use Rattle.tn_keys.specs.Tables.{HasBoard, Table, is_bad_key, records_at, table_of}
use Rattle.tn_keys.proofs.Accepting.{reach_is}
use Rattle.tn_router.specs.declared.moves.Sent.{Sent}
use Rattle.tn_router.specs.declared.work.Work.{Work}
use Rattle.tn_router.specs.Kept.{FitsWork, is_keyed}
use Rattle.tn_router.specs.Left.{KeepsCopies, all_left, all_sent, board_on, copies_left, copies_out, copies_to, reached}
use Rattle.tn_router.specs.Moves.{behind, copy_by, key_move, move_of, move_to, record_move, sent_if, way_of}
use Rattle.tn_router.specs.Rest.{at_beat, entered, next_record, next_work, rest_by, rest_to, started, started_by, started_to}
use Rattle.tn_router.proofs.Firsts.{IsRecord, record_facts, rest_record}
use Rattle.tn_router.proofs.Moved.{comes}
use Rattle.tn_router.proofs.Resting.{Rests, rest_entered, rest_next, rest_started, started_packet}
use Rattle.tn_router.proofs.There.{LeadsThere, keyed_fits, leads_there, not_false, thread_there, tile_there}

-- the copies still to come of a packet with a key are those of its next records
left_by : (on : Reach) (n : ShapeNumbers) (b : Board) (table : Table) (w : Work) (key : ℕ) → w.packet.dest ≡ dest.Key key → copies_left on n b table w ≡ walk (reached on w.packet.bytes) n b w.packet.bytes (rest_by table w key)
left_by on n b table w key e =
    subst (λ d. copies_to (λ k. walk (reached on w.packet.bytes) n b w.packet.bytes (rest_to table w d)) w.packet.bytes d ≡ walk (reached on w.packet.bytes) n b w.packet.bytes (rest_by table w key)) (sym e) refl

-- what stays has the copies of the records that come
rests_left : (on : Reach) (n : ShapeNumbers) (b : Board) (table : Table) (key : ℕ) (p : Packet) (rs : List RouteRec) (o : Option Work) → p.dest ≡ dest.Key key → Rests table key p rs o → all_left on n b table o ≡ walk (reached on p.bytes) n b p.bytes rs
rests_left on n b table key p rs None e h = sym (ap (walk (reached on p.bytes) n b p.bytes) h)
rests_left on n b table key p rs (Some w) e h =
    left_by on n b table w key (ap (λ (q : Packet). q.dest) h.0 ∙ e)
    ∙ subst (λ (q : Packet). walk (reached on w.packet.bytes) n b w.packet.bytes (rest_by table w key) ≡ walk (reached on q.bytes) n b q.bytes (rest_by table w key)) h.0 refl
    ∙ ap (walk (reached on p.bytes) n b p.bytes) h.1

-- a copy that is a packet of the machine is sent
sent_made : (on : Reach) (n : ShapeNumbers) (b : Board) (way : Port) (p : Packet) → has_packet n p ≡ true → all_sent on n b (sent_if n way p) ≡ copies_out on n b way p
sent_made on n b way p e = ap (λ t. all_sent on n b (cond t (Some (record { way = way; packet = p })) None)) e

way_board : (n : ShapeNumbers) (b : Board) (dir : ℕ) → board_on n b (way_of dir) ≡ neighbour n dir b
way_board n b dir = elim (cases_Bool (dir == 0)) [
  | inl e ↦ rw e refl
  | inr e ↦ elim (cases_Bool (dir == 1)) [
    | inl f ↦ rw (e, f) refl
    | inr f ↦ elim (cases_Bool (dir == 2)) [ inl g ↦ rw (e, f, g) refl | inr g ↦ rw (e, f, g) refl ]
  ]
]

-- by an RR a copy goes to a neighbour, if there is one
led_there : (on : Reach) (n : ShapeNumbers) (b : Board) (way : Port) (p : Packet) (key : ℕ) (o : Option Board) → has_packet n (record p { dest = dest.Key key }) ≡ true → board_on n b way ≡ o
    → all_sent on n b (cond (is_some o) (sent_if n way (record p { dest = dest.Key key })) None) ≡ led (reached on p.bytes) (onto key o)
led_there on n b way p key None h e = refl
led_there on n b way p key (Some c) h e = sent_made on n b way (record p { dest = dest.Key key }) h ∙ ap (λ o. led (reached on p.bytes) (onto key o)) e

-- a record that is no IND sends the copies that it makes
copy_sent : (on : Reach) (n : ShapeNumbers) (b : Board) (p : Packet) (r : RouteRec) → WithinLimits n → HasBoard n b → has_packet n p ≡ true → LeadsThere n b r → ((key : ℕ) → r ≡ Ind key → ⊥) → all_sent on n b (copy_by n b p r) ≡ copies_of (reached on p.bytes) n b p.bytes r
copy_sent on n b p (Urm1 tile thread key) l h fits there is =
    let short = (and_parts (has_dest n p.dest) (leb (length p.bytes) (slot_bytes n)) fits).1 in
    sent_made on n b port.Down (record p { dest = dest.Thread (record { 0 = tile_address b tile + thread }); bytes = keyed 4 key p.bytes })
    (and_from _ _ (thread_there n b tile thread l h there.on there.threads) (keyed_fits n 4 key p.bytes (omega arith) short))
copy_sent on n b p (Urm2 tile thread key) l h fits there is =
    let short = (and_parts (has_dest n p.dest) (leb (length p.bytes) (slot_bytes n)) fits).1 in
    sent_made on n b port.Down (record p { dest = dest.Thread (record { 0 = tile_address b tile + thread }); bytes = keyed 8 key p.bytes })
    (and_from _ _ (thread_there n b tile thread l h there.on there.threads) (keyed_fits n 8 key p.bytes (omega arith) short))
copy_sent on n b p (Rr dir key) l h fits there is =
    let short = (and_parts (has_dest n p.dest) (leb (length p.bytes) (slot_bytes n)) fits).1 in
    led_there on n b (way_of dir) p key (neighbour n dir b) short (way_board n b dir)
copy_sent on n b p (Mrm tile key mask) l h fits there is =
    let short = (and_parts (has_dest n p.dest) (leb (length p.bytes) (slot_bytes n)) fits).1 in
    sent_made on n b port.Down (record p { dest = dest.Mask (record { 0 = tile_address b tile }) mask; bytes = keyed 2 key p.bytes })
    (and_from _ _ (and_from _ _ (and_from _ _ (tile_there n b tile l h there.on) (not_from_false (mask == 0) there.masks)) (not_false (names_threads n mask) there.threads)) (keyed_fits n 2 key p.bytes (omega arith) short))
copy_sent on n b p (Ind key) l h fits there is = absurd (is key refl)

both : (a c x y : List Copy) → a ≡ x → c ≡ y → a ++ c ≡ x ++ y
both a c x y e f = ap (λ xs. xs ++ c) e ∙ ap (λ ys. x ++ ys) f

-- what the next record makes of the copies still to come
abbrev Conserves : Reach → ShapeNumbers → Board → Table → List Copy → Option Sent → Option Work → Type 0
Conserves on n b table before sent work = before ≡ all_sent on n b sent ++ all_left on n b table work

plain_done : (on : Reach) (n : ShapeNumbers) (b : Board) (table : Table) (key : ℕ) (w : Work) (r : RouteRec) (rs : List RouteRec) → WithinLimits n → HasBoard n b → has_packet n w.packet ≡ true → w.packet.dest ≡ dest.Key key → LeadsThere n b r → ((k : ℕ) → r ≡ Ind k → ⊥) → Rests table key w.packet rs (next_work table key w)
    → Conserves on n b table (copies_of (reached on w.packet.bytes) n b w.packet.bytes r ++ walk (reached on w.packet.bytes) n b w.packet.bytes rs) (copy_by n b w.packet r) (next_work table key w)
plain_done on n b table key w r rs l h fits e there is rests =
    both _ _ _ _ (sym (copy_sent on n b w.packet r l h fits there is)) (sym (rests_left on n b table key w.packet rs (next_work table key w) e rests))

record_done : (on : Reach) (n : ShapeNumbers) (b : Board) (table : Table) (key : ℕ) (w : Work) (r : RouteRec) (rs : List RouteRec) → WithinLimits n → HasBoard n b → has_packet n w.packet ≡ true → w.packet.dest ≡ dest.Key key → LeadsThere n b r
    → ((k : ℕ) → on b k w.packet.bytes ≡ walk (reached on w.packet.bytes) n b w.packet.bytes (records_at table k)) → Rests table key w.packet rs (next_work table key w)
    → Conserves on n b table (walk (reached on w.packet.bytes) n b w.packet.bytes (r ∷ rs)) (copy_by n b w.packet r) (behind table key w r)
record_done on n b table key w (Urm1 tile thread local) rs l h fits e there walked rests = plain_done on n b table key w (Urm1 tile thread local) rs l h fits e there (λ k q. cc q) rests
record_done on n b table key w (Urm2 tile thread local) rs l h fits e there walked rests = plain_done on n b table key w (Urm2 tile thread local) rs l h fits e there (λ k q. cc q) rests
record_done on n b table key w (Rr dir onward) rs l h fits e there walked rests = plain_done on n b table key w (Rr dir onward) rs l h fits e there (λ k q. cc q) rests
record_done on n b table key w (Mrm tile local mask) rs l h fits e there walked rests = plain_done on n b table key w (Mrm tile local mask) rs l h fits e there (λ k q. cc q) rests
record_done on n b table key w (Ind onward) rs l h fits e there walked rests =
    walked onward ∙ sym (rests_left on n b table onward (record w.packet { dest = dest.Key onward }) (records_at table onward) (entered table w.packet onward) refl (rest_entered table w.packet onward))

first_and : (rs : List RouteRec) (r : RouteRec) → slice_get rs 0 ≡ Some r → rs ≡ r ∷ drop 1 rs
first_and [] r e = cc e
first_and (q ∷ qs) r e = let same : q ≡ r = cc e in ap (λ x. x ∷ qs) same

no_first : (rs : List RouteRec) → slice_get rs 0 ≡ None → rs ≡ []
no_first [] e = refl
no_first (q ∷ qs) e = cc e

-- what accepted tables tell of the records at a board
pub record Sound (on : Reach) (n : ShapeNumbers) (b : Board) (table : Table) : Type 0 where
  pub limits : WithinLimits n
  pub board : HasBoard n b
  pub walked : (k : ℕ) (bytes : List ℕ) → on b k bytes ≡ walk (reached on bytes) n b bytes (records_at table k)
  pub there : (i at : ℕ) (r : RouteRec) → slice_get (get_or table i []) at ≡ Some r → LeadsThere n b r

record_conserves : (on : Reach) (n : ShapeNumbers) (b : Board) (table : Table) (side : Port) (key : ℕ) (w : Work) (o : Option RouteRec) → Sound on n b table → FitsWork n table w → w.packet.dest ≡ dest.Key key → slice_get (rest_by table w key) 0 ≡ o
    → Conserves on n b table (copies_left on n b table w) (record_move n b table side key w o).sent (record_move n b table side key w o).work
record_conserves on n b table side key w None s f e is = left_by on n b table w key e ∙ ap (walk (reached on w.packet.bytes) n b w.packet.bytes) (no_first (rest_by table w key) is)
record_conserves on n b table side key w (Some r) s f e is =
    let facts : IsRecord table key w.beat w.at = record_facts table key w.beat w.at (comes table key w r e f.1 is) in
    let read : slice_get (get_or table w.beat []) w.at ≡ Some r = rest_record table key w facts ∙ is in
    left_by on n b table w key e ∙ ap (walk (reached on w.packet.bytes) n b w.packet.bytes) (first_and (rest_by table w key) r is)
    ∙ record_done on n b table key w r (drop 1 (rest_by table w key)) s.limits s.board f.0 e (s.there w.beat w.at r read) (λ k. s.walked k w.packet.bytes) (rest_next table key w facts)

-- a packet without a key goes whole
whole_same : (f g : ℕ → List Copy) (bytes : List ℕ) (d : Dest) → is_keyed d ≡ false → copies_to f bytes d ≡ copies_to g bytes d ++ []
whole_same f g bytes (dest.Thread t) h = refl
whole_same f g bytes dest.Host h = refl
whole_same f g bytes (dest.Mask tile mask) h = sym (append-nil (copies_to g bytes (dest.Mask tile mask)))
whole_same f g bytes (dest.Key key) h = cc h

key_conserves : (on : Reach) (n : ShapeNumbers) (b : Board) (table : Table) (side : Port) (key : ℕ) (w : Work) → Sound on n b table → FitsWork n table w → w.packet.dest ≡ dest.Key key → KeepsCopies on n b table w (key_move n b table side key w)
key_conserves on n b table side key w s f e =
    cond_both (is_bad_key (length table) key) (record { side = side; sent = None; work = Some w; bad = Some key }) (record_move n b table side key w (next_record table w)) (KeepsCopies on n b table w)
    (λ _. refl)
    (λ _. record_conserves on n b table side key w (next_record table w) s f e (sym (ap (λ d. slice_get (rest_to table w d) 0) e)))

conserves_to : (on : Reach) (n : ShapeNumbers) (b : Board) (table : Table) (side : Port) (w : Work) (d : Dest) → Sound on n b table → FitsWork n table w → w.packet.dest ≡ d → KeepsCopies on n b table w (move_to n b table side w d)
conserves_to on n b table side w (dest.Thread t) s f e = whole_same _ _ w.packet.bytes w.packet.dest (ap is_keyed e)
conserves_to on n b table side w dest.Host s f e = whole_same _ _ w.packet.bytes w.packet.dest (ap is_keyed e)
conserves_to on n b table side w (dest.Mask tile mask) s f e = whole_same _ _ w.packet.bytes w.packet.dest (ap is_keyed e)
conserves_to on n b table side w (dest.Key key) s f e = key_conserves on n b table side key w s f e

sound : (n : ShapeNumbers) (ts : List Table) (b : Board) → WithinLimits n → Accepted n ts → HasBoard n b → Sound (reach n ts) n b (table_of n ts b)
sound n ts b l a h = record {
  limits = l;
  board = h;
  walked = λ k bytes. reach_is n ts b k bytes a h;
  there = λ i at r e. leads_there n ts b i at r a h e;
}

pub route_conserves : (n : ShapeNumbers) (ts : List Table) (b : Board) (side : Port) (w : Work) → WithinLimits n → Accepted n ts → HasBoard n b → FitsWork n (table_of n ts b) w → KeepsCopies (reach n ts) n b (table_of n ts b) w (move_of n b (table_of n ts b) side w)
route_conserves n ts b side w l a h f = conserves_to (reach n ts) n b (table_of n ts b) side w w.packet.dest (sound n ts b l a h) f refl

-- a packet that comes into process has all its copies before it
started_to_left : (on : Reach) (n : ShapeNumbers) (b : Board) (table : Table) (p : Packet) (d : Dest) → Sound on n b table → p.dest ≡ d → copies_left on n b table (started_to table p d) ≡ copies_to (λ key. on b key p.bytes) p.bytes d
started_to_left on n b table p (dest.Thread t) s e = subst (λ d. copies_to (λ k. walk (reached on p.bytes) n b p.bytes (rest_to table (at_beat p 0) d)) p.bytes d ≡ copies_to (λ key. on b key p.bytes) p.bytes (dest.Thread t)) (sym e) refl
started_to_left on n b table p dest.Host s e = subst (λ d. copies_to (λ k. walk (reached on p.bytes) n b p.bytes (rest_to table (at_beat p 0) d)) p.bytes d ≡ copies_to (λ key. on b key p.bytes) p.bytes dest.Host) (sym e) refl
started_to_left on n b table p (dest.Mask tile mask) s e = subst (λ d. copies_to (λ k. walk (reached on p.bytes) n b p.bytes (rest_to table (at_beat p 0) d)) p.bytes d ≡ copies_to (λ key. on b key p.bytes) p.bytes (dest.Mask tile mask)) (sym e) refl
started_to_left on n b table p (dest.Key key) s e =
    let same : (started_by table p key).packet ≡ p = started_packet table p key in
    rests_left on n b table key p (records_at table key) (Some (started_by table p key)) e (same, rest_started table p key) ∙ sym (s.walked key p.bytes)

pub started_left : (n : ShapeNumbers) (ts : List Table) (b : Board) (p : Packet) → WithinLimits n → Accepted n ts → HasBoard n b → copies_left (reach n ts) n b (table_of n ts b) (started (table_of n ts b) p) ≡ copies_to (λ key. reach n ts b key p.bytes) p.bytes p.dest
started_left n ts b p l a h = started_to_left (reach n ts) n b (table_of n ts b) p p.dest (sound n ts b l a h) refl
