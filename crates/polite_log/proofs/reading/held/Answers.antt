use Rattle.std.proofs.Common.{◌≡◌, ◌∙◌, ap, sym, Some}
use Rattle.std.specs.Prelude.{option_copied}
use Rattle.tn_base.specs.Address.{place_in_tile}
use Rattle.tn_letters.specs.Letters.{letter}
use Rattle.tn_slots.specs.Pool.{held_by}
use Rattle.polite_log.proofs.Sights.{held_some}
use Rattle.polite_log.proofs.reading.held.Goals as goal

pub returns : goal.returns
returns c =
    let v = c.args.tile.now in
    let k = place_in_tile v.plan.shape c.args.t.0 in
    let place : c.place_in_tile.result ≡ k = c.place_in_tile.ensures.value ∙ ap (λ n. place_in_tile n c.args.t.0) c.shape.ensures in
    let is : option_copied c.held.result ≡ held_by v.now.pool k c.args.slot = c.held.ensures ∙ (ap (λ p. held_by p c.place_in_tile.result c.args.slot) c.pool.ensures ∙ ap (λ j. held_by v.now.pool j c.args.slot) place) in
    ap (λ bytes. Some (letter c.in_ok-origin.origin c.in_ok-origin.number c.args.t.0 bytes)) c.copy.ensures
    ∙ held_some v c.args.t.0 c.args.slot c.in_ok-bytes.bytes.now (c.in_ok-origin.origin, c.in_ok-origin.number) c.requires
    (sym is ∙ ap option_copied c.in_ok-bytes.was)
    (sym c.sender.ensures ∙ c.in_ok-origin.was)
