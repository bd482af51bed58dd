use Rattle.std.proofs.Common.{◌∙◌, ◌≡◌, ◌++◌, Bor, List, Option, ap, subst, sym}
use Rattle.std.specs.Prelude.{OnOk, option_copied}
use Rattle.tn_base.specs.declared.message.Letter.{Letter}
use Rattle.tn_router.specs.RouterView.{RouterView}
use Rattle.tn_letters.specs.declared.place.Place.{Place}
use Rattle.tn_letters.specs.Tiles.{reach_of}
use Rattle.tn_bag.proofs.Waits.{router_letters}
use Rattle.tn_bag.proofs.places.push_part.Goals as goal

pub returns-in-Some-as_router : goal.returns-in-Some-as_router
returns-in-Some-as_router g c =
    subst (λ (ys : List (Place × Letter)). OnOk c.push_router.result (c.push_router.new.all.items ≡ c.args.all.now.items ++ ys))
    (router_letters c.args.world.now.shape (reach_of c.args.world.now) c.args.p c.args.part.now c.in-Some-as_router.router.now
    (sym (ap (λ (o : Option (Bor RouterView)). option_copied o) c.in-Some-as_router.is) ∙ c.as_router.ensures)) c.push_router.ensures
