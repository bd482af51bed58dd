-- Events that leave the threads and what they hold: letters move between places, and some are dropped.
use Rattle.std.proofs.Common.{ℕ, ◌+◌, ◌≡◌, List, ◌++◌, length, get_or, map, refl, sym, ◌∙◌, ap, arith, Option, Some, IsTrue, length-append, sum_by}
use Rattle.std.proofs.lemmas.List.Sums.{sum_by-append}
use Rattle.tn_base.specs.declared.message.Letter.{Letter}
use Rattle.tn_base.specs.declared.message.Packet.{Packet}
use Rattle.tn_base.specs.declared.shape.ShapeNumbers.{ShapeNumbers}
use Rattle.tn_base.specs.Address.{has_thread, place_in_tile}
use Rattle.tn_host.specs.HostView.{HostState}
use Rattle.tn_link.specs.LinkView.{LinkView}
use Rattle.tn_slots.specs.WellKept.{WellKept}
use Rattle.tn_tile.specs.Kept.{IsFit}
use Rattle.tn_tile.specs.Step.{no_thread}
use Rattle.tn_tile.specs.declared.state.TileState.{TileState}
use Rattle.tn_tile.specs.TileView.{TileView, with_now}
use Rattle.tn_rows.specs.Events.{with_part}
use Rattle.tn_rows.specs.PartView.{TileV, LinkV}
use Rattle.tn_rows.specs.WorldView.{WorldView}
use Rattle.tn_letters.specs.declared.steps.BagStep.TheVariants as bag
use Rattle.tn_letters.specs.Law.{dropped_in}
use Rattle.tn_letters.specs.Letters.{board_of, link_board}
use Rattle.tn_keys.specs.Reach.{Reach}
use Rattle.tn_letters.specs.Standing.{standing_letters}
use Rattle.tn_letters.specs.State.{Agree}
use Rattle.tn_letters.specs.Tiles.{held_in, held_of, host_on, part_for, program_of, reach_of, thread_in, thread_of}
use Rattle.tn_letters.proofs.Lift.{Good, GoodLink, HomeTile, On, OnLink, good_lift, good_now, host_beside, host_stays, lift_same, program_stays, tile_is, tile_on, tile_stands, with_tile}
use Rattle.tn_letters.proofs.Links.{Shifts, beside, link_shifts, shifted, shifts_beside, two_parts}
use Rattle.tn_letters.proofs.Runs.{ForDead, discards, run_before}
use Rattle.tn_letters.proofs.Simulate.{Reached, dropped_after, shown}
use Rattle.tn_letters.proofs.Weights.{link_w, packet_w, same_bag, tile_w}

-- ---- of a machine

pub record Becomes (w there : WorldView) (ls : List Letter) : Type 0 where
  pub threads : Agree w.shape (thread_of w) (thread_of there)
  pub held : (b slot : ℕ) → IsTrue (has_thread w.shape b) → held_of w b slot ≡ held_of there b slot
  pub letters : (f : Letter → ℕ) → sum_by f (standing_letters w) ≡ sum_by f ls + sum_by f (standing_letters there)
  pub good : Good there
  pub program : program_of there ≡ program_of w
  pub count : dropped_in there ≡ dropped_in w + length ls
  pub host : host_on w ≡ host_on there

-- the letters are dropped one after another, where their receivers ended
pub becomes_reached : (got : ℕ → List Letter) (dropped : List Letter) (w there : WorldView) (ls : List Letter) → there.shape ≡ w.shape → Becomes w there ls → ForDead w.shape (shown got dropped there) ls → Reached got dropped w (map bag.Discard ls) there
becomes_reached got dropped w there ls same d dead = record {
  now = got;
  gone = dropped ++ ls;
  run = run_before (program_of w) (shown got dropped w) (record (shown got dropped there) { flight = ls ++ standing_letters there }) (shown got (dropped ++ ls) there) (map bag.Discard ls)
      (record {
        threads = d.threads;
        flight = same_bag _ _ (λ f.
            let x = d.letters f in
            let q = sum_by-append f ls (standing_letters there) in
            omega arith);
        got = λ b h. refl;
        held = d.held;
        dropped = refl;
        host = ap (λ (h : HostState). h.got) d.host;
        script = ap (λ (h : HostState). h.script) d.host;
        host_sends = ap (λ (h : HostState). h.sends) d.host;
        announcements = refl;
      })
      (discards (program_of w) (shown got dropped there) ls (standing_letters there) dropped dead);
  good = d.good;
  program = d.program;
  count =
      let a = d.count in
      let l = length-append dropped ls in
      omega arith;
}

-- the threads of a tile are as they were
pub threads_stay : (w there : WorldView) (p : ℕ) (v : TileView) (ls : List Letter) → On w p v → Becomes w there ls → (b : ℕ) → IsTrue (has_thread w.shape b) → part_for w b ≡ p → thread_of there b ≡ thread_in v (place_in_tile w.shape b)
threads_stay w there p v ls on d b h near = sym (d.threads b h) ∙ ap (λ t. thread_in t (place_in_tile w.shape b)) (tile_is w p v b on near)

-- ---- of a tile

-- what no letter weighs, and what those of a packet do
abbrev pub nothing : (Letter → ℕ) → ℕ
nothing f = 0

abbrev pub of_packet : ShapeNumbers → Reach → Packet → (Letter → ℕ) → ℕ
of_packet n reach k f = packet_w f n reach (Some k)

-- some letters came to a tile, which is in this state now, some are gone elsewhere, and some are dropped
pub record Drops (w : WorldView) (v : TileView) (new : TileState) (ls : List Letter) (came gone : (Letter → ℕ) → ℕ) : Type 0 where
  pub weighs : (f : Letter → ℕ) → came f + tile_w f (reach_of w) v ≡ gone f + sum_by f ls + tile_w f (reach_of w) (with_now v new)
  pub holds : (j : ℕ) → held_in (with_now v new) j ≡ held_in v j
  pub threads : new.threads ≡ v.now.threads
  pub fits : IsFit v.plan new
  pub kept : WellKept new.pool
  pub dropped : new.dropped ≡ v.now.dropped + length ls
  pub home : HomeTile (board_of v.plan.tile) new.pending new.node.out

good_after : (w : WorldView) (p : ℕ) (v : TileView) (new : TileState) (ls : List Letter) (came gone : (Letter → ℕ) → ℕ) → Good w → On w p v → Drops w v new ls came gone → Good (with_tile w p (with_now v new))
good_after w p v new ls came gone good on d = good_lift w p v (with_now v new) good on (good_now w.shape p v new (tile_on w p v good on) d.fits d.kept d.home)

-- an event on one tile
pub tile_becomes : (w : WorldView) (p : ℕ) (v : TileView) (new : TileState) (ls : List Letter) → Good w → On w p v → Drops w v new ls nothing nothing → Becomes w (with_tile w p (with_now v new)) ls
tile_becomes w p v new ls good on d = record {
  threads = λ b h. lift_same thread_in w p v (with_now v new) on (λ j u. ap (λ ts. get_or ts j no_thread) d.threads) b h;
  held = λ b slot h. ap (λ (x : ℕ → Option Letter). x slot) (lift_same held_in w p v (with_now v new) on (λ j u. d.holds j) b h);
  letters = λ f.
      let x = d.weighs f in
      let y = tile_stands f w p v (with_now v new) (sum_by f ls) 0 on (omega arith) in
      omega arith;
  good = good_after w p v new ls nothing nothing good on d;
  program = program_stays w p v (with_now v new) on refl;
  count =
      let a = dropped_after w p v (with_now v new) on in
      let m = d.dropped in
      omega arith;
  host = host_beside w p v (with_now v new) on;
}

-- an event on a tile and a link: what the one gains, the other loses
pub pair_becomes : (w : WorldView) (p q : ℕ) (v : TileView) (new : TileState) (x y : LinkView) (ls : List Letter) (came gone : (Letter → ℕ) → ℕ) → Good w → On w p v → OnLink w q x → Drops w v new ls came gone → GoodLink w.shape q y →
    ((f : Letter → ℕ) → came f + link_w f (link_board w.shape q) w.shape (reach_of w) y ≡ gone f + link_w f (link_board w.shape q) w.shape (reach_of w) x) → Becomes w (with_part (with_tile w p (with_now v new)) q (LinkV y)) ls
pair_becomes w p q v new x y ls came gone good on off d home between =
    let mid : WorldView = with_tile w p (with_now v new) in
    let link : Shifts w q (LinkV x) (LinkV y) gone came = link_shifts w q x y gone came good off home (λ f. sym (between f)) in
    let apart = two_parts w p q (TileV v) (LinkV x) on off (λ e. cc e) in
    let second = shifted mid q (LinkV x) (LinkV y) gone came (good_after w p v new ls came gone good on d) (shifts_beside w p q (TileV v) (TileV (with_now v new)) (LinkV x) (LinkV y) gone came apart on refl link) in
    record {
      threads = λ b h. lift_same thread_in w p v (with_now v new) on (λ j u. ap (λ ts. get_or ts j no_thread) d.threads) b h ∙ second.threads b h;
      held = λ b slot h. ap (λ (z : ℕ → Option Letter). z slot) (lift_same held_in w p v (with_now v new) on (λ j u. d.holds j) b h) ∙ second.held b slot;
      letters = λ f.
          let a = d.weighs f in
          let b = tile_stands f w p v (with_now v new) (gone f + sum_by f ls) (came f) on (omega arith) in
          let c = second.letters f in
          omega arith;
      good = second.good;
      program = second.program ∙ program_stays w p v (with_now v new) on refl;
      count =
          let a = dropped_after w p v (with_now v new) on in
          let b = second.count in
          let m = d.dropped in
          omega arith;
      host = host_beside w p v (with_now v new) on ∙ sym (host_stays mid q (LinkV x) (LinkV y) (beside w p q (TileV (with_now v new)) (LinkV x) apart off) refl);
    }
