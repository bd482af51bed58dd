-- At its start a machine flows, and along each walk from there.
use Rattle.std.proofs.Common.{ℕ, ◌≡◌, ◌<◌, refl, sym, ap, ◌∙◌, subst, arith, List, [], ◌∷◌, length, get_or, Option, Some, None, unwrap_or}
use Rattle.std.specs.List.{slice_get}
use Rattle.std.proofs.lemmas.Option.{slice_get_within, unwrap_or-slice_get}
use Rattle.tn_base.specs.declared.event.Event.{Event}
use Rattle.tn_base.specs.declared.part.Kind.{Kind}
use Rattle.tn_base.specs.declared.part.Kind.TheVariants as kind
use Rattle.tn_base.specs.declared.shape.ShapeNumbers.{ShapeNumbers}
use Rattle.tn_base.specs.Parts.{kind_of}
use Rattle.tn_keys.specs.Tables.{HasBoard, Table, table_of}
use Rattle.tn_letters.specs.Law.{StartsSo}
use Rattle.tn_letters.specs.Tiles.{tables_of}
use Rattle.tn_letters.proofs.Lift.{GoodPart}
use Rattle.tn_letters.proofs.Starts.{good_start}
use Rattle.tn_router.specs.RouterView.{RouterPlan, RouterView}
use Rattle.tn_rows.specs.PartView.{PartView, TileV, RouterV, LinkV, HostV, DetectorV, AbsentV}
use Rattle.tn_rows.specs.Runs.{Walk}
use Rattle.tn_rows.specs.WorldView.{WorldView}
use Rattle.tn_tile.specs.TileView.{TileView}
use Rattle.polite_flow.specs.Flowing.{IsFlowing, IsFlowStart, TurnsFit}
use Rattle.polite_flow.specs.Routers.{RouterOnWay, plan_of}
use Rattle.polite_flow.specs.Tiles.{TileOnWay}
use Rattle.polite_flow.specs.World.{KindOnWay, PartOnWay, PartReady}
use Rattle.polite_flow.proofs.Flowing.{event_flows}
use Rattle.polite_flow.proofs.Fresh.{fresh_on_way}

-- what holds of each part that is there, and where no part is, holds at every place
pub each_place : (P : ℕ → PartView → Type 0) (parts : List PartView) → ((p : ℕ) → P p AbsentV) → ((p : ℕ) → p < length parts → P p (get_or parts p AbsentV)) → (p : ℕ) → P p (get_or parts p AbsentV)
each_place P parts absent each p = by (slice_get parts p) refl where
  by : (o : Option PartView) → slice_get parts p ≡ o → P p (get_or parts p AbsentV)
  by None e = subst (P p) (sym (ap (λ o. unwrap_or o AbsentV) e) ∙ unwrap_or-slice_get parts p AbsentV) (absent p)
  by (Some x) e = each p (slice_get_within parts p x e)

-- ---- routers are ready

plan_is : (n : ShapeNumbers) (tables : List Table) (v : RouterView) → v.plan.shape ≡ n → v.plan.beats ≡ table_of n tables v.plan.board → v.plan ≡ plan_of n tables v.plan.board
plan_is n tables v e f =
    let plan : ShapeNumbers → Table → RouterPlan = λ s t. record { shape = s; board = v.plan.board; beats = t } in
    ap (λ s. plan s v.plan.beats) e ∙ ap (plan n) f

good_ready : (n : ShapeNumbers) (tables : List Table) (p : ℕ) (x : PartView) → GoodPart n tables p x → PartReady n tables x
good_ready n tables p (TileV v) g = tt
good_ready n tables p (RouterV v) g = record { plan = plan_is n tables v g.shape g.beats; on = subst (λ s. HasBoard s v.plan.board) g.shape g.shaped.board; fit = g.shaped.fits }
good_ready n tables p (LinkV v) g = tt
good_ready n tables p (HostV s) g = tt
good_ready n tables p (DetectorV v) g = tt
good_ready n tables p AbsentV g = tt

-- ---- no packet is there

no_packets : (n : ShapeNumbers) (tables : List Table) (l : ℕ) (k : Kind) → KindOnWay n tables l k (record { packets = []; capacity = n.link })
no_packets n tables l kind.Host = tt
no_packets n tables l (kind.Tile a) = tt
no_packets n tables l (kind.Router b) = tt
no_packets n tables l (kind.Link from onto) = tt
no_packets n tables l kind.Detector = tt

starts_on_way : (n : ShapeNumbers) (tables : List Table) (p : ℕ) (x : PartView) → StartsSo n x → PartOnWay n tables p x
starts_on_way n tables p (TileV v) s = subst (λ (y : TileView). TileOnWay n tables v.plan.tile y.now) (sym s.3) ((fresh_on_way n tables).tile v.plan.tile s.0 s.1)
starts_on_way n tables p (RouterV v) s = subst (λ (y : RouterView). RouterOnWay n tables v.plan.board y.now) (sym s.1) ((fresh_on_way n tables).router v.plan.board)
starts_on_way n tables p (LinkV v) s = subst (KindOnWay n tables p (kind_of n p)) (sym s) (no_packets n tables p (kind_of n p))
starts_on_way n tables p (HostV h) s = tt
starts_on_way n tables p (DetectorV v) s = tt
starts_on_way n tables p AbsentV s = tt

pub start_flows : (start : WorldView) → IsFlowStart start → IsFlowing (tables_of start) start
start_flows w f =
    let n : ShapeNumbers = w.shape in
    let tables = tables_of w in
    let g = good_start w f.begins in
    let count = g.count in
    record {
      world = f.begins.world;
      ready = record {
        routes = record { limits = g.limits; directed = f.directed };
        routers = each_place (λ p x. PartReady n tables x) w.parts (λ p. tt) (λ p h. good_ready n tables p (get_or w.parts p AbsentV) (g.each p (omega arith)));
      };
      host = f.host;
      ways = each_place (PartOnWay n tables) w.parts (λ p. tt) (λ p h. starts_on_way n tables p (get_or w.parts p AbsentV) (f.begins.parts p h));
    }

-- ---- along a walk

flows_on : (tables : List Table) (start end : WorldView) (history : List Event) → IsFlowing tables start → TurnsFit tables start history → Walk start history end → IsFlowing tables end
flows_on tables start end [] f t walk = subst (IsFlowing tables) walk f
flows_on tables start end (e ∷ es) f t walk =
    let turn = t walk.0 walk.1 in
    flows_on tables walk.0 end es (event_flows tables e start walk.0 f turn.0 walk.1) turn.1 walk.2

pub walk_flows : (start end : WorldView) (history : List Event) → IsFlowStart start → TurnsFit (tables_of start) start history → Walk start history end → IsFlowing (tables_of start) end
walk_flows start end history f t walk = flows_on (tables_of start) start end history (start_flows start f) t walk
