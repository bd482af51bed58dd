use Rattle.std.proofs.Common.{◌≡◌, ◌∙◌, ap, length, subst, sym}
use Rattle.polite_place.specs.Outs.{outs_of}
use Rattle.polite_place.specs.Seats.{Seated}
use Rattle.polite_routes.proofs.PinRows.{pins_there}
use Rattle.polite_routes.proofs.Serving.{all_keyed, all_pass, all_served, made}
use Rattle.polite_routes.proofs.laws.law_served.Goals as goal

pub returns-clause-served : goal.returns-clause-served
returns-clause-served c =
    let n = c.args.shape.now in
    let g = c.args.graph.now in
    let p = c.args.placement.now in
    let m = made n g.per_thread (outs_of g) p c.requires.placement in
    let count : length p ≡ length g.vertices = ap length m.seated ∙ c.law_seats.ensures.count (outs_of g) ∙ c.law_seats.ensures.vertices g in
    let seated : Seated n g.per_thread p = subst (Seated n g.per_thread) (sym m.seated) (c.law_seats.ensures.seated (outs_of g) g.per_thread (c.law_seats.ensures.edges g c.requires.graph) m.room) in
    λ set e. all_served n g p set c.numbers-numbers.ensures.limits c.requires.graph (pins_there n g p c.requires.graph count seated) e

pub returns-clause-keys : goal.returns-clause-keys
returns-clause-keys c =
    let n = c.args.shape.now in
    let g = c.args.graph.now in
    let p = c.args.placement.now in
    let m = made n g.per_thread (outs_of g) p c.requires.placement in
    let count : length p ≡ length g.vertices = ap length m.seated ∙ c.law_seats.ensures.count (outs_of g) ∙ c.law_seats.ensures.vertices g in
    let seated : Seated n g.per_thread p = subst (Seated n g.per_thread) (sym m.seated) (c.law_seats.ensures.seated (outs_of g) g.per_thread (c.law_seats.ensures.edges g c.requires.graph) m.room) in
    λ set e. all_keyed n g p set c.numbers-numbers.ensures.limits c.requires.graph (pins_there n g p c.requires.graph count seated) e

pub returns-clause-passes : goal.returns-clause-passes
returns-clause-passes c =
    let n = c.args.shape.now in
    let g = c.args.graph.now in
    let p = c.args.placement.now in
    let m = made n g.per_thread (outs_of g) p c.requires.placement in
    let count : length p ≡ length g.vertices = ap length m.seated ∙ c.law_seats.ensures.count (outs_of g) ∙ c.law_seats.ensures.vertices g in
    let seated : Seated n g.per_thread p = subst (Seated n g.per_thread) (sym m.seated) (c.law_seats.ensures.seated (outs_of g) g.per_thread (c.law_seats.ensures.edges g c.requires.graph) m.room) in
    λ set e. all_pass n g p set c.numbers-numbers.ensures.limits (pins_there n g p c.requires.graph count seated) e
