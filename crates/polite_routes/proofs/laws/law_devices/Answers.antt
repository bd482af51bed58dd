use Rattle.std.proofs.Common.{◌≡◌, ◌≤◌, ◌∙◌, [], List, ap, arith, get_or, length, subst, sym}
use Rattle.tn_base.specs.Address.{thread_at}
use Rattle.polite_switch.specs.Device.{AllNamed}
use Rattle.polite_place.specs.declared.placement.Seat.{Seat}
use Rattle.polite_place.specs.Outs.{outs_of}
use Rattle.polite_place.specs.Seats.{Numbered, devices_on}
use Rattle.polite_routes.proofs.Naming.{all_lead}
use Rattle.polite_routes.proofs.Serving.{made}
use Rattle.polite_routes.proofs.laws.law_devices.Goals as goal

pub returns-clause-numbered : goal.returns-clause-numbered
returns-clause-numbered c =
    let g = c.args.graph.now in
    let m = made c.args.shape.now g.per_thread (outs_of g) c.args.placement.now c.requires.placement in
    subst (Numbered g.per_thread) (sym m.seated) (c.law_seats.ensures.numbered (outs_of g) g.per_thread (c.law_seats.ensures.edges g c.requires.graph) m.room)

pub returns-clause-few : goal.returns-clause-few
returns-clause-few c = λ a.
    let few = (returns-clause-numbered c).few a in
    let most = c.requires.graph.devices in
    omega arith

pub returns-clause-lead : goal.returns-clause-lead
returns-clause-lead c =
    let n = c.args.shape.now in
    let g = c.args.graph.now in
    let p = c.args.placement.now in
    let m = made n g.per_thread (outs_of g) p c.requires.placement in
    let count : length p ≡ length g.vertices = ap length m.seated ∙ c.law_seats.ensures.count (outs_of g) ∙ c.law_seats.ensures.vertices g in
    λ set e. all_lead n g.per_thread g p set c.requires.graph count (returns-clause-numbered c) e

pub returns-clause-roster : goal.returns-clause-roster
returns-clause-roster c =
    let n = c.args.shape.now in
    let g = c.args.graph.now in
    let m = made n g.per_thread (outs_of g) c.args.placement.now c.requires.placement in
    λ set i e h.
    subst (λ d. AllNamed d (get_or set.in_edges i []))
    (ap (λ (q : List Seat). devices_on q (thread_at n i)) m.seated ∙ c.law_seats.ensures.listed (outs_of g) i (c.law_seats.ensures.edges g c.requires.graph) h)
    ((returns-clause-lead c set e).named i h)
