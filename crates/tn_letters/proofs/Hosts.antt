-- The host's events: a letter that it sends comes into flight, and a letter that it takes leaves the flight.
use Rattle.std.proofs.Common.{ℕ, ◌+◌, ◌<◌, ◌≡◌, ◌++◌, Bool, true, false, cond, List, [], ◌∷◌, get_or, refl, sym, ◌∙◌, ap, subst, arith, Option, Some, None, option_map, IsTrue, sum_by}
use Rattle.std.specs.List.{AllByRecursion}
use Rattle.std.proofs.lemmas.Bool.{and_from}
use Rattle.std.proofs.lemmas.List.{get_or-set_same}
use Rattle.std.proofs.lemmas.List.Sums.{sum_by-cons}
use Rattle.std.proofs.lemmas.Nat.{mul-le}
use Rattle.tn_base.specs.declared.event.Event.TheVariants as event
use Rattle.tn_base.specs.declared.ids.Board.{Board}
use Rattle.tn_base.specs.declared.ids.ThreadId.{ThreadId}
use Rattle.tn_base.specs.declared.message.Dest.{Dest}
use Rattle.tn_base.specs.declared.message.Dest.TheVariants as dest
use Rattle.tn_base.specs.declared.message.Letter.{Letter}
use Rattle.tn_base.specs.declared.message.Packet.{Packet}
use Rattle.tn_base.specs.declared.part.Kind.{Kind}
use Rattle.tn_base.specs.declared.part.Kind.TheVariants as kind
use Rattle.tn_base.specs.declared.shape.ShapeNumbers.{ShapeNumbers}
use Rattle.tn_base.specs.Message.{has_packet}
use Rattle.tn_base.specs.Parts.{board_count, kind_of, link, router_part}
use Rattle.tn_base.specs.Shape.{WithinLimits}
use Rattle.tn_host.specs.declared.script.ScriptItem.{ScriptItem}
use Rattle.tn_host.specs.declared.script.ScriptItem.TheVariants as item
use Rattle.tn_host.specs.HostView.{HostState}
use Rattle.tn_host.specs.Rows.{departed, host_letter, put_row, take_row, took}
use Rattle.tn_host.specs.Script.{first_item, host_address, items_behind, packet_of}
use Rattle.tn_host.proofs.Deeds.{put_is, taken_is}
use Rattle.tn_keys.specs.Reach.{Reach}
use Rattle.tn_link.specs.LinkRows.{front_of, put_in, take_from}
use Rattle.tn_link.specs.LinkView.{LinkView}
use Rattle.tn_node.specs.SamePacket.{is_packet}
use Rattle.tn_stamp.specs.declared.entry.Crossing.TheVariants as crossing
use Rattle.tn_tile.proofs.Steps.{taken}
use Rattle.tn_rows.proofs.Meeting.{mapped, met_rows}
use Rattle.tn_rows.proofs.Neighbours.{kind_router}
use Rattle.tn_rows.specs.Events.{Met, meets, met_by, met_with, with_both, with_part}
use Rattle.tn_rows.specs.PartView.{HostV, LinkV, AbsentV}
use Rattle.tn_rows.specs.WorldView.{WorldView}
use Rattle.tn_letters.specs.declared.steps.BagStep.TheVariants as bag
use Rattle.tn_letters.specs.Law.{IsSendable}
use Rattle.tn_letters.specs.Letters.{letter, letters_from, link_board}
use Rattle.tn_letters.specs.Standing.{standing_letters}
use Rattle.tn_letters.specs.State.{BagState}
use Rattle.tn_letters.specs.Steps.{send_steps, take_steps}
use Rattle.tn_letters.specs.Tiles.{host_in, host_on, reach_of}
use Rattle.tn_letters.proofs.Becomes.{nothing}
use Rattle.tn_letters.proofs.Crossings.{home_put, home_take, put_more, take_less}
use Rattle.tn_letters.proofs.Lift.{Good, IsForHost, OnLink, OnPart, StandsAt, host_stays, is_host, is_tile, leads_to_host, leads_to_tile, part_on, stands_on}
use Rattle.tn_letters.proofs.Links.{Shifted, Shifts, beside, link_shifts, shifted, shifts_beside, two_parts}
use Rattle.tn_letters.proofs.Runs.{same_refl}
use Rattle.tn_letters.proofs.Simulate.{Reached, shown}
use Rattle.tn_letters.proofs.Weights.{crossing_w, same_bag}

-- ---- the link from the host leads to a router

some_board : (n : ShapeNumbers) → WithinLimits n → 0 < board_count n
some_board n limits = mul-le 1 1 n.boards_x n.boards_y limits.boards_x.0 limits.boards_y.0

pub router_no_tile : (n : ShapeNumbers) → WithinLimits n → leads_to_tile n (link 0 (router_part n 0)) ≡ false
router_no_tile n limits = ap is_tile (kind_router n 0 (some_board n limits))

pub router_no_host : (n : ShapeNumbers) → WithinLimits n → leads_to_host n (link 0 (router_part n 0)) ≡ false
router_no_host n limits = ap is_host (kind_router n 0 (some_board n limits))

-- ---- the host and a link of its

-- the host of a machine
host_is : (w : WorldView) (p : ℕ) (s : HostState) → OnPart w p (HostV s) → p ≡ 0 → host_on w ≡ s
host_is w p s on first = ap (λ i. host_in (get_or w.parts i AbsentV)) (sym first) ∙ ap host_in on.is

-- what one letter weighs
abbrev of_letter : Letter → (Letter → ℕ) → ℕ
of_letter l f = f l

-- the host became another one, and its link too
pub record HostShifted (w there : WorldView) (new : HostState) (came gone : (Letter → ℕ) → ℕ) : Type 0 where
  pub shifted : Shifted w there came gone
  pub host : host_on there ≡ new

still_host : (w : WorldView) (p : ℕ) (s t : HostState) (good : Good w) → OnPart w p (HostV s) → StandsAt (kind_of w.shape p) (HostV t)
still_host w p s t good on = by (kind_of w.shape p) (stands_on w p (HostV s) good on)
  where
    by : (k : Kind) → StandsAt k (HostV s) → StandsAt k (HostV t)
    by kind.Host h = tt
    by (kind.Tile tile) h = absurd h
    by (kind.Router board) h = absurd h
    by (kind.Link from onto) h = absurd h
    by kind.Detector h = absurd h

host_shifts : (w : WorldView) (p : ℕ) (s t : HostState) → Good w → OnPart w p (HostV s) → AllByRecursion (IsSendable w.shape) t.script → Shifts w p (HostV s) (HostV t) nothing nothing
host_shifts w p s t good on script = record {
  on = on;
  was = record { tile = refl; dropped = refl };
  is = record { tile = refl; dropped = refl };
  beats = refl;
  stands = still_host w p s t good on;
  good = script;
  weighs = λ f. refl;
}

host_shifted : (w : WorldView) (p q : ℕ) (s t : HostState) (x y : LinkView) (came gone : (Letter → ℕ) → ℕ) → Good w → OnPart w p (HostV s) → OnLink w q x → p ≡ 0 → AllByRecursion (IsSendable w.shape) t.script → Shifts w q (LinkV x) (LinkV y) came gone →
    HostShifted w (with_part (with_part w p (HostV t)) q (LinkV y)) t came gone
host_shifted w p q s t x y came gone good on off first script link =
    let mid : WorldView = with_part w p (HostV t) in
    let apart = two_parts w p q (HostV s) (LinkV x) on off (λ e. cc e) in
    let one = shifted w p (HostV s) (HostV t) nothing nothing good (host_shifts w p s t good on script) in
    let two = shifted mid q (LinkV x) (LinkV y) came gone one.good (shifts_beside w p q (HostV s) (HostV t) (LinkV x) (LinkV y) came gone apart on refl link) in
    record {
      shifted = record {
        threads = λ b h. one.threads b h ∙ two.threads b h;
        held = λ b slot. one.held b slot ∙ two.held b slot;
        letters = λ f. let a = one.letters f in let b = two.letters f in omega arith;
        good = two.good;
        program = two.program ∙ one.program;
        count = two.count ∙ one.count;
      };
      host =
          host_stays mid q (LinkV x) (LinkV y) (beside w p q (HostV t) (LinkV x) apart off) refl
          ∙ (ap (λ i. host_in (get_or mid.parts i AbsentV)) (sym first) ∙ ap host_in (get_or-set_same w.parts p (HostV t) AbsentV on.within));
    }

-- what the rows of the host and a link gave
record Both (t : Option HostState) (l : Option LinkView) (m : Met) : Type 0 where
  new : HostState
  next : LinkView
  host : t ≡ Some new
  link : l ≡ Some next
  low : HostV new ≡ m.low
  high : LinkV next ≡ m.high

both_rows : (t : Option HostState) (l : Option LinkView) (m : Met) → met_by (option_map HostV t) (option_map LinkV l) ≡ Some m → Both t l m
both_rows t l m e =
    let rows = met_rows (option_map HostV t) (option_map LinkV l) m e in
    let low = mapped HostV t m.low rows.0 in
    let high = mapped LinkV l m.high rows.1 in
    record { new = low.0; next = high.0; host = low.1; link = high.1; low = low.2; high = high.2 }

pair_is : (w : WorldView) (p q : ℕ) (new : HostState) (next : LinkView) (m : Met) → HostV new ≡ m.low → LinkV next ≡ m.high → with_part (with_part w p (HostV new)) q (LinkV next) ≡ with_both w p q m
pair_is w p q new next m low high = λ i. with_both w p q (record { low = low i; high = high i })

-- a packet of one letter weighs what the letter does
one_weighs : (f : Letter → ℕ) (c : Board) (n : ShapeNumbers) (reach : Reach) (k : Packet) (d : Dest) (l : Letter) → k.dest ≡ d → IsTrue (has_packet n k) → letters_from c n reach k.origin k.number d k.bytes ≡ l ∷ [] → crossing_w f c n reach k ≡ f l
one_weighs f c n reach k d l to fits is =
    let all : crossing_w f c n reach k ≡ sum_by f (l ∷ []) = ap (λ b. cond b (sum_by f (letters_from c n reach k.origin k.number k.dest k.bytes)) 0) fits
    ∙ (ap (λ x. sum_by f (letters_from c n reach k.origin k.number x k.bytes)) to ∙ ap (λ (ls : List Letter). sum_by f ls) is) in
    let sum = sum_by-cons f l [] in
    omega arith

-- ---- the host sends a letter

-- the packet of a message
abbrev message : HostState → ThreadId → List ℕ → Packet
message s t bytes = record { origin = host_address; number = s.sends; dest = dest.Thread t; bytes = bytes }

send_reached : (got : ℕ → List Letter) (dropped : List Letter) (w : WorldView) (p q : ℕ) (s : HostState) (t : ThreadId) (bytes : List ℕ) (items : List ScriptItem) (x y : LinkView) → Good w → OnPart w p (HostV s) → OnLink w q x → p ≡ 0 →
    leads_to_tile w.shape (kind_of w.shape q) ≡ false → leads_to_host w.shape (kind_of w.shape q) ≡ false → s.script ≡ item.Send t bytes ∷ items → put_in (message s t bytes) x ≡ Some y →
    Reached got dropped w (bag.HostSend (letter host_address s.sends t.0 bytes) ∷ []) (with_part (with_part w p (HostV (departed s))) q (LinkV y))
send_reached got dropped w p q s t bytes items x y good on off first no_tile no_host script put =
    let k : Packet = message s t bytes in
    let l : Letter = letter host_address s.sends t.0 bytes in
    let there : WorldView = with_part (with_part w p (HostV (departed s))) q (LinkV y) in
    let old : AllByRecursion (IsSendable w.shape) (item.Send t bytes ∷ items) = subst (AllByRecursion (IsSendable w.shape)) script (part_on w p (HostV s) good on) in
    let fits : IsTrue (has_packet w.shape k) = and_from _ _ old.0.0 old.0.1 in
    let rest : (departed s).script ≡ items = ap items_behind script in
    let link : Shifts w q (LinkV x) (LinkV y) (of_letter l) nothing = link_shifts w q x y (of_letter l) nothing good off
    (home_put w.shape q k x y put (part_on w q (LinkV x) good off) (λ leads. absurd (no_both _ leads no_tile)) (λ leads. absurd (no_both _ leads no_host)))
    (λ f. let more = put_more f (link_board w.shape q) w.shape (reach_of w) k x y put in let one = one_weighs f (link_board w.shape q) w.shape (reach_of w) k (dest.Thread t) l refl fits refl in omega arith) in
    let h : HostShifted w there (departed s) (of_letter l) nothing = host_shifted w p q s (departed s) x y (of_letter l) nothing good on off first (subst (AllByRecursion (IsSendable w.shape)) (sym rest) old.1) link in
    let was : host_on w ≡ s = host_is w p s on first in
    let before : BagState = shown got dropped w in
    record {
      now = got;
      gone = dropped;
      run = (
        before,
        record before { flight = l ∷ standing_letters w; script = items; host_sends = (host_on w).sends + 1 },
        same_refl w.shape before,
        (items, ap (λ (h : HostState). h.script) was ∙ script, refl, sym (ap (λ (h : HostState). h.sends) was), refl),
        record {
          threads = h.shifted.threads;
          flight = same_bag _ _ (λ f. let a = h.shifted.letters f in let b = sum_by-cons f l (standing_letters w) in omega arith);
          got = λ b u. refl;
          held = λ b slot u. h.shifted.held b slot;
          dropped = refl;
          host = ap (λ (h : HostState). h.got) was ∙ sym (ap (λ (h : HostState). h.got) h.host);
          script = sym (ap (λ (h : HostState). h.script) h.host ∙ rest);
          host_sends = ap (λ (h : HostState). h.sends + 1) was ∙ sym (ap (λ (h : HostState). h.sends) h.host);
          announcements = refl;
        },
      );
      good = h.shifted.good;
      program = h.shifted.program;
      count = let c = h.shifted.count in omega arith;
    }
  where
    no_both : (b : Bool) → b ≡ true → b ≡ false → ⊥
    no_both b e f = cc (e, f)

put_by : (got : ℕ → List Letter) (dropped : List Letter) (w : WorldView) (p q : ℕ) (s : HostState) (x : LinkView) (m : Met) (held : Bool) (items : List ScriptItem) → Good w → OnPart w p (HostV s) → OnLink w q x → p ≡ 0 →
    leads_to_tile w.shape (kind_of w.shape q) ≡ false → leads_to_host w.shape (kind_of w.shape q) ≡ false → s.script ≡ items →
    met_with event.HostPut (HostV s) (LinkV x) (option_map crossing.Packet (cond held None (packet_of s.sends (first_item items)))) ≡ Some m → Reached got dropped w (send_steps s.sends (first_item items)) (with_both w p q m)
put_by got dropped w p q s x m true items good on off first no_tile no_host script is = cc is
put_by got dropped w p q s x m false [] good on off first no_tile no_host script is = cc is
put_by got dropped w p q s x m false (item.AwaitIdle ∷ items) good on off first no_tile no_host script is = cc is
put_by got dropped w p q s x m false (item.Send t bytes ∷ items) good on off first no_tile no_host script is =
    let k : Packet = message s t bytes in
    let b = both_rows (put_row k s) (put_in k x) m is in
    let new : departed s ≡ b.new = sym (put_is k s b.new b.host) in
    subst (λ (z : WorldView). Reached got dropped w (bag.HostSend (letter host_address s.sends t.0 bytes) ∷ []) z) (pair_is w p q b.new b.next m b.low b.high)
    (subst (λ (z : HostState). Reached got dropped w (bag.HostSend (letter host_address s.sends t.0 bytes) ∷ []) (with_part (with_part w p (HostV z)) q (LinkV b.next))) new
    (send_reached got dropped w p q s t bytes items x b.next good on off first no_tile no_host script b.link))

pub put_reached : (got : ℕ → List Letter) (dropped : List Letter) (w : WorldView) (p q : ℕ) (s : HostState) (x : LinkView) (m : Met) → Good w → OnPart w p (HostV s) → OnLink w q x → p ≡ 0 →
    leads_to_tile w.shape (kind_of w.shape q) ≡ false → leads_to_host w.shape (kind_of w.shape q) ≡ false →
    meets event.HostPut (HostV s) (LinkV x) ≡ Some m → Reached got dropped w (send_steps s.sends (first_item s.script)) (with_both w p q m)
put_reached got dropped w p q s x m good on off first no_tile no_host is = put_by got dropped w p q s x m s.node.held s.script good on off first no_tile no_host refl is

-- ---- the host takes a letter

hand_reached : (got : ℕ → List Letter) (dropped : List Letter) (w : WorldView) (p q : ℕ) (s : HostState) (x y : LinkView) (k : Packet) → Good w → OnPart w p (HostV s) → OnLink w q x → p ≡ 0 →
    leads_to_tile w.shape (kind_of w.shape q) ≡ false → leads_to_host w.shape (kind_of w.shape q) ≡ true → front_of x ≡ Some k → take_from x ≡ Some y →
    Reached got dropped w (bag.HostHand (host_letter k) ∷ []) (with_part (with_part w p (HostV (took k s))) q (LinkV y))
hand_reached got dropped w p q s x y k good on off first no_tile to_host front take =
    let l : Letter = host_letter k in
    let there : WorldView = with_part (with_part w p (HostV (took k s))) q (LinkV y) in
    let t = home_take w.shape q k x y front take (part_on w q (LinkV x) good off) in
    let for_host : IsForHost w.shape k = t.for_host to_host in
    let link : Shifts w q (LinkV x) (LinkV y) nothing (of_letter l) = link_shifts w q x y nothing (of_letter l) good off t.good
    (λ f. let less = take_less f (link_board w.shape q) w.shape (reach_of w) k x y front take in let one = one_weighs f (link_board w.shape q) w.shape (reach_of w) k dest.Host l for_host.1 for_host.0 refl in omega arith) in
    let h : HostShifted w there (took k s) nothing (of_letter l) = host_shifted w p q s (took k s) x y nothing (of_letter l) good on off first (part_on w p (HostV s) good on) link in
    let was : host_on w ≡ s = host_is w p s on first in
    let before : BagState = shown got dropped w in
    record {
      now = got;
      gone = dropped;
      run = (
        before,
        record before { flight = standing_letters there; host = (host_on w).got ++ l ∷ [] },
        same_refl w.shape before,
        (
          standing_letters there,
          same_bag _ _ (λ f. let a = h.shifted.letters f in let b = sum_by-cons f l (standing_letters there) in omega arith),
          refl,
          refl,
        ),
        record {
          threads = h.shifted.threads;
          flight = record { each = λ test. refl };
          got = λ b u. refl;
          held = λ b slot u. h.shifted.held b slot;
          dropped = refl;
          host = ap (λ (h : HostState). h.got ++ l ∷ []) was ∙ sym (ap (λ (h : HostState). h.got) h.host);
          script = ap (λ (h : HostState). h.script) was ∙ sym (ap (λ (h : HostState). h.script) h.host);
          host_sends = ap (λ (h : HostState). h.sends) was ∙ sym (ap (λ (h : HostState). h.sends) h.host);
          announcements = refl;
        },
      );
      good = h.shifted.good;
      program = h.shifted.program;
      count = let c = h.shifted.count in omega arith;
    }

take_by : (got : ℕ → List Letter) (dropped : List Letter) (w : WorldView) (p q : ℕ) (s : HostState) (x : LinkView) (m : Met) (o : Option Packet) → Good w → OnPart w p (HostV s) → OnLink w q x → p ≡ 0 →
    leads_to_tile w.shape (kind_of w.shape q) ≡ false → leads_to_host w.shape (kind_of w.shape q) ≡ true → front_of x ≡ o →
    met_with event.HostTake (HostV s) (LinkV x) (option_map crossing.Packet o) ≡ Some m → Reached got dropped w (take_steps o) (with_both w p q m)
take_by got dropped w p q s x m None good on off first no_tile to_host front is = cc is
take_by got dropped w p q s x m (Some k) good on off first no_tile to_host front is =
    let b = both_rows (take_row k s) (cond (is_packet k (front_of x)) (take_from x) None) m is in
    let take = taken (is_packet k (front_of x)) (take_from x) b.next b.link in
    let new : took k s ≡ b.new = sym (taken_is k s b.new b.host).1 in
    subst (λ (z : WorldView). Reached got dropped w (bag.HostHand (host_letter k) ∷ []) z) (pair_is w p q b.new b.next m b.low b.high)
    (subst (λ (z : HostState). Reached got dropped w (bag.HostHand (host_letter k) ∷ []) (with_part (with_part w p (HostV z)) q (LinkV b.next))) new
    (hand_reached got dropped w p q s x b.next k good on off first no_tile to_host front take.1))

pub take_reached : (got : ℕ → List Letter) (dropped : List Letter) (w : WorldView) (p q : ℕ) (s : HostState) (x : LinkView) (m : Met) → Good w → OnPart w p (HostV s) → OnLink w q x → p ≡ 0 →
    leads_to_tile w.shape (kind_of w.shape q) ≡ false → leads_to_host w.shape (kind_of w.shape q) ≡ true →
    meets event.HostTake (HostV s) (LinkV x) ≡ Some m → Reached got dropped w (take_steps (front_of x)) (with_both w p q m)
take_reached got dropped w p q s x m good on off first no_tile to_host is = take_by got dropped w p q s x m (front_of x) good on off first no_tile to_host refl is
