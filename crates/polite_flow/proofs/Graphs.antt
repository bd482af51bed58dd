-- The machine of a graph, at its start, flows, and its threads are senders.
use Rattle.std.proofs.Common.{ℕ, zero, suc, ◌≡◌, ◌<◌, refl, sym, subst, arith, IsTrue, List, [], ◌∷◌, length, get_or, Some}
use Rattle.std.specs.List.{AllByRecursion}
use Rattle.std.proofs.lemmas.Bool.{and_parts, ltb-true}
use Rattle.polite_switch.specs.Device.{device_at, key_at}
use Rattle.polite_switch.specs.DeviceModel.{DeviceModel}
use Rattle.tn_base.specs.declared.event.Event.{Event}
use Rattle.tn_base.specs.declared.message.Dest.TheVariants as dest
use Rattle.tn_base.specs.declared.shape.ShapeNumbers.{ShapeNumbers}
use Rattle.tn_base.specs.Address.{has_thread, has_tile, in_tile, tile_of, tile_threads}
use Rattle.tn_base.proofs.TilePlaces.{place_back, place_there}
use Rattle.tn_detect.specs.DetectorView.{DetectorView}
use Rattle.tn_keys.specs.Tables.{Table}
use Rattle.tn_letters.specs.Law.{IsStart, StartsSo}
use Rattle.tn_letters.specs.Settled.{detector_in, settled}
use Rattle.tn_letters.specs.Tiles.{host_on, tables_of, thread_of}
use Rattle.tn_letters.proofs.Lift.{Good, GoodTile, On, Stands, tile_on}
use Rattle.tn_letters.proofs.Silent.{NoRelease, settled_now}
use Rattle.tn_letters.proofs.Simulate.{read}
use Rattle.tn_letters.proofs.Starts.{good_start}
use Rattle.tn_rows.specs.PartView.{PartView, TileV, RouterV, LinkV, HostV, DetectorV, AbsentV}
use Rattle.tn_rows.specs.Places.{detector_part}
use Rattle.tn_rows.specs.Runs.{Walk}
use Rattle.tn_rows.specs.WorldView.{WorldView}
use Rattle.tn_thread.specs.declared.thread.Thread.{Thread}
use Rattle.tn_tile.specs.Step.{no_thread, thread_at}
use Rattle.tn_tile.specs.TileView.{TileView}
use Rattle.polite_edges.specs.Layout.{IsKeyOf, Layout}
use Rattle.polite_edges.specs.Runs.{IsAwait, IsFreshThread}
use Rattle.polite_flow.specs.Flowing.{IsFlowing, IsFlowStart}
use Rattle.polite_flow.specs.Graphs.{GraphFlows}
use Rattle.polite_flow.specs.Sending.{AreSenders, KeysAre, MaySend, PartSends, SwitchSends, ThreadSends}
use Rattle.polite_flow.proofs.Sending.{walks_flow}
use Rattle.polite_flow.proofs.Starting.{each_place}

-- ---- lists

all_from : {X : Type 0} (P : X → Type 0) (xs : List X) (d : X) → ((k : ℕ) → k < length xs → P (get_or xs k d)) → AllByRecursion P xs
all_from P [] d each = tt
all_from P (x ∷ xs) d each = (each 0 (omega arith), all_from P xs d (λ k h. each (suc k) (omega arith)))

-- only a device that is there has a key
device_there : (devices : List DeviceModel) (d pin key : ℕ) → key_at (device_at devices d) pin ≡ Some key → d < length devices
device_there [] d pin key e = cc e
device_there (x ∷ xs) zero pin key e = omega arith
device_there (x ∷ xs) (suc d) pin key e = let h = device_there xs d pin key e in omega arith

-- ---- at the start no release is under way

calm_part : (n : ShapeNumbers) (x : PartView) → StartsSo n x → NoRelease (detector_in x).phase
calm_part n (TileV v) s = tt
calm_part n (RouterV v) s = tt
calm_part n (LinkV v) s = tt
calm_part n (HostV h) s = tt
calm_part n (DetectorV v) s = subst (λ (y : DetectorView). NoRelease y.now.phase) (sym s) tt
calm_part n AbsentV s = tt

settled_start : (w : WorldView) → IsStart w → settled w ≡ w
settled_start w s = settled_now w (each_place (λ p x. NoRelease (detector_in x).phase) w.parts (λ p. tt) (λ p h. calm_part w.shape (get_or w.parts p AbsentV) (s.parts p h)) (detector_part w.shape))

-- ---- threads

fresh_sends : (n : ShapeNumbers) (tables : List Table) (g : Layout) (a tile : ℕ) (t : Thread) → tile_of a ≡ tile → ((key : ℕ) → IsKeyOf g a key → MaySend n tables (tile_of a) (dest.Key key)) → IsFreshThread g a t → ThreadSends (λ key. MaySend n tables tile (dest.Key key)) t
fresh_sends n tables g a tile t at may f = record { firmware = f.firmware; keys = subst (SwitchSends P) (sym f.switch) keys }
  where
    P : ℕ → Type 0
    P key = MaySend n tables tile (dest.Key key)

    keys : KeysAre P (g.devices a)
    keys device pin key e = subst (λ i. MaySend n tables i (dest.Key key)) at (may key (record { device = device; pin = pin; there = device_there (g.devices a) device pin key e; is = e }))

-- a tile of the machine may send to the host
host_sends : (n : ShapeNumbers) (tables : List Table) (tile : ℕ) → IsTrue (has_tile n tile) → MaySend n tables tile dest.Host
host_sends n tables tile h thread =
    let named = (and_parts _ _ h).0 in
    let v = and_parts _ _ named in
    let u = and_parts _ _ v.0 in
    let y = and_parts _ _ u.0 in
    let x = and_parts _ _ y.0 in
    ((ltb-true _ _ u.1, ltb-true _ _ v.1), (ltb-true _ _ x.1, ltb-true _ _ y.1))

-- the thread at a place of a tile of the machine
thread_sends : (g : Layout) (w : WorldView) (p k : ℕ) (v : TileView) → GraphFlows g w → Good w → On w p v → k < tile_threads w.shape → ThreadSends (λ key. MaySend w.shape (tables_of w) v.plan.tile (dest.Key key)) (thread_at v.now k)
thread_sends g w p k v f good on below =
    let n : ShapeNumbers = w.shape in
    let tables = tables_of w in
    let t : GoodTile n p v = tile_on w p v good on in
    let there : IsTrue (has_tile n v.plan.tile) = subst (λ s. IsTrue (has_tile s v.plan.tile)) t.shape t.shaped.tile in
    let a = in_tile n v.plan.tile k in
    let has : IsTrue (has_thread n a) = place_there n v.plan.tile k good.limits there below in
    let back = place_back n v.plan.tile k good.limits there below in
    let stands : Stands n v a k = record { there = has; tile = back.0; place = back.1 } in
    let is : thread_of w a ≡ thread_at v.now k = read (λ x i. thread_at x.now i) w p a k v (record { good = good; on = on; stands = stands }) in
    let fresh : IsFreshThread g a (thread_of (settled w) a) = f.graph.threads a (subst (λ s. IsTrue (has_thread s a)) f.graph.shape has) in
    let now : IsFreshThread g a (thread_of w a) = subst (λ x. IsFreshThread g a (thread_of x a)) (settled_start w f.begins) fresh in
    subst (ThreadSends (λ key. MaySend n tables v.plan.tile (dest.Key key))) is (fresh_sends n tables g a v.plan.tile (thread_of w a) back.0 (λ key. f.keys a key has) now)

part_sends : (g : Layout) (w : WorldView) (p : ℕ) (x : PartView) → GraphFlows g w → Good w → p < length w.parts → get_or w.parts p AbsentV ≡ x → PartSends w.shape (tables_of w) x
part_sends g w p (TileV v) f good within is =
    let n : ShapeNumbers = w.shape in
    let count = good.count in
    let on : On w p v = record { within = within; below = omega arith; is = is } in
    let t : GoodTile n p v = tile_on w p v good on in
    let many : length v.now.threads ≡ tile_threads n = subst (λ s. length v.now.threads ≡ tile_threads s) t.shape t.shaped.fits.threads.count in
    record {
      host = host_sends n (tables_of w) v.plan.tile (subst (λ s. IsTrue (has_tile s v.plan.tile)) t.shape t.shaped.tile);
      threads = all_from (ThreadSends (λ key. MaySend n (tables_of w) v.plan.tile (dest.Key key))) v.now.threads no_thread (λ k h. thread_sends g w p k v f good on (omega (arith, h, many)));
    }
part_sends g w p (RouterV v) f good within is = tt
part_sends g w p (LinkV v) f good within is = tt
part_sends g w p (HostV s) f good within is = tt
part_sends g w p (DetectorV v) f good within is = tt
part_sends g w p AbsentV f good within is = tt

-- ---- the whole machine

pub graph_starts : (g : Layout) (start : WorldView) → GraphFlows g start → IsFlowStart start × AreSenders (tables_of start) start
graph_starts g w f =
    let good = good_start w f.begins in (
      record { begins = f.begins; directed = f.directed; host = subst (λ (x : WorldView). AllByRecursion IsAwait (host_on x).script) (settled_start w f.begins) f.graph.script },
      each_place (λ p x. PartSends w.shape (tables_of w) x) w.parts (λ p. tt) (λ p h. part_sends g w p (get_or w.parts p AbsentV) f good h refl),
    )

pub graph_walks : (g : Layout) (start end : WorldView) (history : List Event) → GraphFlows g start → Walk start history end → IsFlowing (tables_of start) end
graph_walks g start end history f walk =
    let s = graph_starts g start f in
    (walks_flow start end history s.0 s.1 walk).0
