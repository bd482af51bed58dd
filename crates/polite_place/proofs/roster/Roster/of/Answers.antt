use Rattle.std.proofs.Common.{◌≡◌, ◌∙◌, ap, arith, length}
use Rattle.polite_place.specs.Seats.{share_of}
use Rattle.polite_place.proofs.Rosters.{made}
use Rattle.polite_place.proofs.roster.Roster.of.Goals as goal

pub returns : goal.returns
returns c =
    let long : c.len.result ≡ length c.in_ok-outs.outs.items = omega (arith, c.len.ensures, c.in_ok-outs.outs.ok.0) in
    made c.args.shape.now _ c.in_ok-outs.outs.items _ _ _ c.in_ok-outs.ensures.value c.as_slice.ensures.value c.in_ok-order.ensures.order
    (c.share_of-share.ensures ∙ ap (share_of c.args.shape.now) long)
