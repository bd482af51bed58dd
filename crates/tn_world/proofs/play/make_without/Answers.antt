use Rattle.std.proofs.Common.{◌≡◌, ◌∙◌, ap, is_some, subst, sym}
use Rattle.tn_base.specs.declared.event.Event.{Event}
use Rattle.tn_base.specs.Does.{Does}
use Rattle.tn_rows.specs.Ends.{final_of}
use Rattle.tn_rows.specs.Events.{happened}
use Rattle.tn_rows.specs.Runs.{IsLongest}
use Rattle.tn_tile.specs.Turns.{moved}
use Rattle.tn_world.proofs.Calm.{makes, visit_made}
use Rattle.tn_part.specs.declared.visit.Visit.TheVariants as visit
use Rattle.tn_world.proofs.play.make_without.Goals as goal

pub returns-in-Route : goal.returns-in-Route
returns-in-Route g c =
    let old = c.args.world.now in
    let new = c.route-did.new.self in
    let longest : IsLongest c.args.e.now old = subst (λ (e : Event). IsLongest e old) (sym c.in-Route.is) tt in
    let does = subst (λ (e : Event). Does (moved c.route-did.result) (happened e old) old new) (sym c.in-Route.is) c.route-did.ensures in
    let told : c.is_some.result ≡ is_some (final_of c.args.e.now new) = c.is_some.ensures ∙ ap (λ o. is_some o) c.final_of.ensures in
    makes c.told.result c.route-did.result c.args.e.now c.is_some.result old new longest told c.told.ensures does

pub returns-in-Announce : goal.returns-in-Announce
returns-in-Announce g c =
    let old = c.args.world.now in
    let new = c.announce-did.new.self in
    let longest : IsLongest c.args.e.now old = subst (λ (e : Event). IsLongest e old) (sym c.in-Announce.is) tt in
    let does = subst (λ (e : Event). Does (moved c.announce-did.result) (happened e old) old new) (sym c.in-Announce.is) c.announce-did.ensures in
    let told : c.is_some-in-Announce.result ≡ is_some (final_of c.args.e.now new) = c.is_some-in-Announce.ensures ∙ ap (λ o. is_some o) c.final_of-in-Announce.ensures in
    makes c.told-in-Announce.result c.announce-did.result c.args.e.now c.is_some-in-Announce.result old new longest told c.told-in-Announce.ensures does

pub returns-in-Report : goal.returns-in-Report
returns-in-Report g c = visit_made visit.Report c.in-Report.p c.went_on-in-Report.result c.visit.result c.args.e.now c.args.world.now c.visit.new.self c.in-Report.is c.went_on-in-Report.ensures c.visit.ensures

pub returns-in-Confirm : goal.returns-in-Confirm
returns-in-Confirm g c = visit_made visit.Confirm c.in-Confirm.p c.went_on-in-Confirm.result c.visit-in-Confirm.result c.args.e.now c.args.world.now c.visit-in-Confirm.new.self c.in-Confirm.is c.went_on-in-Confirm.ensures c.visit-in-Confirm.ensures

pub returns-in-Release : goal.returns-in-Release
returns-in-Release g c = visit_made visit.Release c.in-Release.p c.went_on-in-Release.result c.visit-in-Release.result c.args.e.now c.args.world.now c.visit-in-Release.new.self c.in-Release.is c.went_on-in-Release.ensures c.visit-in-Release.ensures

pub returns-in-Go : goal.returns-in-Go
returns-in-Go g c = visit_made visit.Go c.in-Go.p c.went_on-in-Go.result c.visit-in-Go.result c.args.e.now c.args.world.now c.visit-in-Go.new.self c.in-Go.is c.went_on-in-Go.ensures c.visit-in-Go.ensures
