-- The threads of a graph's job may send by the keys of their pins.
use Rattle.std.proofs.Common.{ℕ, zero, suc, ◌≡◌, ◌<◌, ◌+◌, ◌/◌, ◌%◌, ◌*◌, ◌∙◌, List, map, refl, sym, ap, subst, arith, slice_get, Option, Some, None, Ok}
use Rattle.std.specs.List.{range_with_len}
use Rattle.tn_base.specs.declared.message.Dest.TheVariants as dest
use Rattle.tn_base.specs.declared.shape.ShapeNumbers.{ShapeNumbers}
use Rattle.tn_base.specs.Address.{tile_of}
use Rattle.tn_letters.specs.Law.{IsStart}
use Rattle.tn_letters.specs.Tiles.{tables_of}
use Rattle.tn_rows.specs.WorldView.{WorldView}
use Rattle.graph_text.specs.Graph.{pins_at}
use Rattle.polite_routes.specs.Answer.{pin_key}
use Rattle.polite_routes.proofs.Serving.{all_served}
use Rattle.polite_switch.specs.Device.{joined_key}
use Rattle.polite_flow.specs.Graphs.{GraphFlows, KeysMaySend}
use Rattle.polite_flow.specs.Law.{AreRoutes}
use Rattle.polite_flow.specs.OnWay.{AreDirected, Fits as FitsPlace}
use Rattle.polite_flow.specs.Places.{Bound, Pending, Tile, tile_named}
use Rattle.polite_flow.proofs.Routed.{are_routes}
use Rattle.job_text.specs.declared.job.Job.{Job}
use Rattle.job_faults.specs.declared.fault.LoadFault.{LoadFault}
use Rattle.job_faults.specs.declared.map.Mapped.{Mapped}
use Rattle.job_faults.specs.Fits.{Fits}
use Rattle.job_faults.specs.Order.{load_fault, unless}
use Rattle.job_faults.proofs.Fits.{fits}
use Rattle.job_load.specs.Start.{start_of}
use Rattle.job_load.proofs.Fits.{fits_machine}
use Rattle.job_edges.specs.JobLayout.{layout_of}
use Rattle.job_edges.specs.Laws.{IsGraphJob, IsGraphMachine}
use Rattle.job_flow.proofs.Devices.{all_pins, all_seated, device_is}
use Rattle.job_flow.proofs.Tables.{tables_are}

-- ---- the routes of the job

routes : (job : Job) (m : Mapped) → Fits job m → AreRoutes job.numbers m.graph m.placement m.routes
routes job m f =
    let seats = all_seated job m f in
    are_routes job.numbers m.graph m.placement m.routes m.graph.per_thread f.limits f.routes_are (all_served job.numbers m.graph m.placement m.routes f.limits f.graph_is (all_pins job m f) f.routes_are) seats.0 seats.1

-- ---- keys of pins

-- a key is that of a pin that is there
key_from : (f : ℕ → Option ℕ) (i n p key : ℕ) → joined_key (slice_get (map f (range_with_len i n)) p) ≡ Some key → (p < n) × (f (i + p) ≡ Some key)
key_from f i zero p key e = cc e
key_from f i (suc n) zero key e = let same : i + 0 ≡ i = omega arith in (omega arith, ap f same ∙ e)
key_from f i (suc n) (suc p) key e =
    let rest = key_from f (i + 1) n p key e in
    let less = rest.0 in
    let same : i + suc p ≡ i + 1 + p = omega arith in
    (omega arith, ap f same ∙ rest.1)

abbrev tile_made : ℕ → ℕ → ℕ → ℕ → Tile
tile_made u v x y = record { board = record { x = u; y = v }; x = x; y = y }

-- an address is on the tile of the address's tile
tile_whole : (a : ℕ) → tile_named a ≡ tile_named (tile_of a)
tile_whole a =
    let u : a / 1024 % 4 ≡ a / 64 * 64 / 1024 % 4 = omega arith in
    let v : a / 4096 % 4 ≡ a / 64 * 64 / 4096 % 4 = omega arith in
    let x : a / 64 % 4 ≡ a / 64 * 64 / 64 % 4 = omega arith in
    let y : a / 256 % 4 ≡ a / 64 * 64 / 256 % 4 = omega arith in
    ap (λ k. tile_made k (a / 4096 % 4) (a / 64 % 4) (a / 256 % 4)) u
    ∙ ap (λ k. tile_made (a / 64 * 64 / 1024 % 4) k (a / 64 % 4) (a / 256 % 4)) v
    ∙ ap (λ k. tile_made (a / 64 * 64 / 1024 % 4) (a / 64 * 64 / 4096 % 4) k (a / 256 % 4)) x
    ∙ ap (λ k. tile_made (a / 64 * 64 / 1024 % 4) (a / 64 * 64 / 4096 % 4) (a / 64 * 64 / 64 % 4) k) y

keys_may_send : (job : Job) (m : Mapped) → Fits job m → KeysMaySend job.numbers m.routes.tables (layout_of job m)
keys_may_send job m f a key has k = λ thread.
    let n : ShapeNumbers = job.numbers in
    let x = device_is job m a k.device f has k.there in
    let pin = key_from (pin_key m.routes.keys x.vertex) 0 (pins_at m.graph x.vertex) k.pin key (sym (ap (λ (ks : List (Option ℕ)). joined_key (slice_get ks k.pin)) x.keys) ∙ k.is) in
    let same : k.pin ≡ 0 + k.pin = omega arith in
    let sent = (routes job m f).sent x.vertex k.pin key thread x.there pin.0 (ap (pin_key m.routes.keys x.vertex) same ∙ pin.1) in
    subst (λ t. FitsPlace n m.routes.tables (Pending t thread) (Bound (dest.Key key))) (ap tile_named x.seat ∙ tile_whole a) sent

-- ---- the start

no_fault : (f : Option LoadFault) (made w : WorldView) → unless f (Ok made) ≡ Ok w → (f ≡ None) × (made ≡ w)
no_fault None made w e = (refl, cc)
no_fault (Some f) made w e = absurd (cc e)

-- the start of a job, and its tables
pub record JobFlows (job : Job) (m : Mapped) (start : WorldView) : Type 0 where
  pub flows : GraphFlows (layout_of job m) start
  pub tables : tables_of start ≡ m.routes.tables

pub job_flows : (job : Job) (m : Mapped) (start : WorldView) → IsGraphJob job m start → IsGraphMachine (layout_of job m) start → IsStart start → JobFlows job m start
job_flows job m start j g s =
    let both = no_fault (load_fault job) (start_of job) start j.accepted in
    let f = fits job m both.0 j.graph in
    let fm = fits_machine job m both.0 j.graph in
    let same : m.routes.tables ≡ tables_of start = tables_are job m j.graph fm.tables.count ∙ ap tables_of both.1 in
    let shape : job.numbers ≡ start.shape = sym g.begins.shape in
    let directed : AreDirected start.shape m.routes.tables = subst (λ n. AreDirected n m.routes.tables) shape (routes job m f).has.directed in
    let keys : KeysMaySend start.shape m.routes.tables (layout_of job m) = subst (λ n. KeysMaySend n m.routes.tables (layout_of job m)) shape (keys_may_send job m f) in
    record {
      flows = record {
        begins = s;
        graph = g.begins;
        directed = subst (AreDirected start.shape) same directed;
        keys = subst (λ ts. KeysMaySend start.shape ts (layout_of job m)) same keys;
      };
      tables = sym same;
    }
