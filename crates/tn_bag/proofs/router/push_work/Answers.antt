use Rattle.std.proofs.Common.{ℕ, ◌∙◌, ◌≡◌, ◌++◌, Bor, List, Option, ap, subst, sym}
use Rattle.std.specs.Prelude.{OnOk, option_map}
use Rattle.tn_base.specs.declared.message.Letter.{Letter}
use Rattle.tn_base.specs.declared.message.Packet.{Packet}
use Rattle.tn_router.specs.declared.work.Work.{Work}
use Rattle.tn_node.specs.PortRows.{at}
use Rattle.tn_letters.specs.declared.place.Place.{Place}
use Rattle.tn_letters.specs.Tiles.{reach_of}
use Rattle.tn_bag.proofs.Waits.{work_letters}
use Rattle.tn_bag.proofs.router.push_work.Goals as goal

pub returns : goal.returns
returns g c =
    let work : Work = record { packet = c.in-Some.packet.now; beat = c.in-Some.beat; at = c.in-Some.at } in
    subst (λ (ys : List (Place × Letter)). OnOk c.push_letters.result (c.push_letters.new.all.items ≡ c.args.all.now.items ++ ys))
    (work_letters (reach_of c.args.world.now) c.args.p c.args.router.now c.args.side work (at c.args.side c.args.router.now.now.inputs) c.deref.result.now
    (sym c.in_process.ensures ∙ ap (λ (o : Option (Bor Packet × ℕ × ℕ)). option_map (λ q. record { packet = q.0.now; beat = q.1; at = q.2 }) o) c.in-Some.is) (c.deref.ensures.value ∙ c.in_ok-letters.ensures)) c.push_letters.ensures
