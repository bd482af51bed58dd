use Rattle.std.proofs.Common.{◌≡◌, ◌∙◌, List, ap, sym, subst}
use Rattle.tn_thread.specs.declared.thread.Thread.{Thread}
use Rattle.tn_tile.specs.Kept.{WellShaped, fresh_state, fresh_tile, with_switches}
use Rattle.tn_tile.specs.Receivers.{dead_in}
use Rattle.tn_tile.specs.TileView.{TileState, TileView}
use Rattle.tn_tile.proofs.Fresh.{fresh_shaped, none_ended}
use Rattle.tn_tile.proofs.tile.Tile.of.Goals as goal

pub all_ready-ready-requires : goal.all_ready-ready-requires
all_ready-ready-requires c =
    let n = c.args.shape.now in
    let all = with_switches c.args.threads.items c.args.switches.items in
    let v : TileView = record { plan = c.in_ok-plan.plan; now = c.in_ok-state.state } in
    let now : v.now ≡ fresh_state n all = c.in_ok-state.ensures ∙ ap (λ (ts : List Thread). fresh_state n ts) c.with_switches.ensures in
    let same : v ≡ fresh_tile n c.args.tile.0 c.args.code.now all = λ i. record { plan = c.in_ok-plan.ensures i; now = now i } in
    let shaped : WellShaped v = subst WellShaped (sym same) (fresh_shaped n c.args.tile.0 c.args.code.now all c.requires.tile c.requires.threads) in
    shaped.fits

pub invariant_of-result : goal.invariant_of-result
invariant_of-result c =
    let n = c.args.shape.now in
    let all = with_switches c.args.threads.items c.args.switches.items in
    let v : TileView = record { plan = c.in_ok-plan.plan; now = c.in_ok-state.state } in
    let now : v.now ≡ fresh_state n all = c.in_ok-state.ensures ∙ ap (λ (ts : List Thread). fresh_state n ts) c.with_switches.ensures in
    let same : v ≡ fresh_tile n c.args.tile.0 c.args.code.now all = λ i. record { plan = c.in_ok-plan.ensures i; now = now i } in
    record {
      shaped = subst WellShaped (sym same) (fresh_shaped n c.args.tile.0 c.args.code.now all c.requires.tile c.requires.threads);
      few = c.all_ready-ready.ensures.few;
      ready = c.all_ready-ready.ensures.marks;
      dead = c.of-2.ensures ∙ sym (none_ended n c.args.tile.0 all c.requires.threads) ∙ ap (λ (s : TileState). dead_in s.threads) (sym now);
    }
