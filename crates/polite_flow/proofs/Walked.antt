-- Along each walk from the start of a graph's machine, an event is enabled, if each part goes on.
use Rattle.std.proofs.Common.{ℕ, zero, suc, ◌≡◌, ◌<◌, ◌+◌, ◌-◌, ◌^◌, true, refl, List, [], ◌∷◌, length, get_or, subst, sym, inl, inr, arith, Some}
use Rattle.std.specs.List.{AllByRecursion}
use Rattle.std.proofs.lemmas.Bool.{cases_lt}
use Rattle.std.proofs.lemmas.List.{get_or_past}
use Rattle.std.proofs.lemmas.Option.{get_or_from_slice_get, slice_get-get_or}
use Rattle.std.specs.Prelude.{slice_get}
use Rattle.tn_base.specs.declared.part.Kind.{Kind}
use Rattle.tn_base.specs.declared.part.Kind.TheVariants as kind
use Rattle.tn_base.specs.declared.shape.ShapeNumbers.{ShapeNumbers}
use Rattle.tn_base.specs.Parts.{board_count, from_routers, kind_of, tile_count}
use Rattle.tn_host.specs.declared.script.ScriptItem.{ScriptItem}
use Rattle.tn_host.specs.declared.script.ScriptItem.TheVariants as item
use Rattle.tn_host.specs.HostView.{HostState}
use Rattle.tn_host.specs.Script.{first_item, is_no_send}
use Rattle.tn_keys.specs.Tables.{Table}
use Rattle.tn_letters.specs.Tiles.{host_in, tables_of}
use Rattle.tn_letters.proofs.Calm.{quiet_start, rest_start}
use Rattle.tn_letters.proofs.GoodParts.{walk_good}
use Rattle.tn_letters.proofs.Lift.{Good, GoodPart}
use Rattle.tn_letters.proofs.Starts.{good_start}
use Rattle.tn_quiet.specs.Machine.{rest_of}
use Rattle.tn_quiet.proofs.Runs.{walk_quiet}
use Rattle.tn_rest.specs.declared.facts.Facts.{Facts}
use Rattle.tn_rows.specs.Events.{IsWorld}
use Rattle.tn_rows.specs.PartView.{PartView, TileV, RouterV, LinkV, HostV, DetectorV, AbsentV}
use Rattle.tn_rows.specs.WorldView.{WorldView}
use Rattle.tn_rows.proofs.PartKinds.{IsBehind, past_routers, past_tiles, router_at, tile_at_part}
use Rattle.polite_edges.specs.Runs.{IsAwait}
use Rattle.polite_flow.specs.Able.{MovesUnlessStill, NodeAble, PartAble}
use Rattle.polite_flow.specs.Always.{PartGoesOn, WalksGoOn}
use Rattle.polite_flow.specs.Flowing.{IsFlowing}
use Rattle.polite_flow.specs.Traffic.{HostSendsNothing}
use Rattle.polite_flow.proofs.Counted.{IsCount, node_able, start_counts, walk_counts}
use Rattle.polite_flow.proofs.PartsAt.{host_kind_at, router_kind_at, tile_kind_at}
use Rattle.polite_flow.proofs.Sending.{walks_flow}
use Rattle.polite_flow.proofs.Threading.{tiles_move}
use Rattle.polite_flow.proofs.Unjammed.{each_moment}
use Rattle.polite_flow.proofs.Watched.{below, seen_part}

-- the node of a part can count a packet more
abbrev NodeOf : PartView → Type 0
NodeOf (TileV v) = NodeAble v.now.node
NodeOf (RouterV v) = NodeAble v.now.node
NodeOf (LinkV v) = Unit {0}
NodeOf (HostV s) = NodeAble s.node
NodeOf (DetectorV v) = Unit {0}
NodeOf AbsentV = Unit {0}

able : (n : ShapeNumbers) (tables : List Table) (p : ℕ) (x : PartView) → GoodPart n tables p x → NodeOf x → PartGoesOn n x → PartAble n x
able n tables p (TileV v) good node g = record { shaped = good.shaped; node = node; counts = g.counts; served = g.served }
able n tables p (RouterV v) good node g = node
able n tables p (LinkV v) good node g = g
able n tables p (HostV s) good node g = node.takes
able n tables p (DetectorV v) good node g = tt
able n tables p AbsentV good node g = tt

-- a host that has no message to send is still
host_rests : (script : List ScriptItem) → AllByRecursion IsAwait script → is_no_send (first_item script) ≡ true
host_rests [] all = refl
host_rests (item.Send t bytes ∷ xs) all = absurd all.0
host_rests (item.AwaitIdle ∷ xs) all = refl

-- no part behind the first part is a host
abbrev IsNoHost : Kind → Type 0
IsNoHost kind.Host = ⊥
IsNoHost (kind.Tile tile) = Unit {0}
IsNoHost (kind.Router board) = Unit {0}
IsNoHost (kind.Link from onto) = Unit {0}
IsNoHost kind.Detector = Unit {0}

behind_no_host : (k : Kind) → IsBehind k → IsNoHost k
behind_no_host kind.Host is = is
behind_no_host (kind.Tile tile) is = tt
behind_no_host (kind.Router board) is = tt
behind_no_host (kind.Link from onto) is = tt
behind_no_host kind.Detector is = tt

no_host_behind : (n : ShapeNumbers) (i : ℕ) → IsNoHost (kind_of n (suc i))
no_host_behind n i = elim (cases_lt i (tile_count n)) [
  | inl here ↦ subst IsNoHost (tile_at_part n i here) tt
  | inr past ↦ subst IsNoHost (past_tiles n i past) (elim (cases_lt (i - tile_count n) (board_count n)) [
    | inl there ↦ subst IsNoHost (router_at n (i - tile_count n) there) tt
    | inr behind ↦ behind_no_host (get_or (from_routers n) (i - tile_count n) kind.Detector) (past_routers n (i - tile_count n) behind)
  ])
]

-- a part is not a host whose script has a message
abbrev Rests : PartView → Type 0
Rests (TileV v) = Unit {0}
Rests (RouterV v) = Unit {0}
Rests (LinkV v) = Unit {0}
Rests (HostV s) = AllByRecursion IsAwait s.script
Rests (DetectorV v) = Unit {0}
Rests AbsentV = Unit {0}

host_at : (w : WorldView) (p : ℕ) (s : HostState) → IsWorld w → slice_get w.parts p ≡ Some (HostV s) → HostSendsNothing w → AllByRecursion IsAwait s.script
host_at w zero s made is host = subst (λ (x : PartView). AllByRecursion IsAwait (host_in x).script) (get_or_from_slice_get w.parts 0 (HostV s) AbsentV is) host
host_at w (suc i) s made is host = absurd (subst IsNoHost (host_kind_at w (suc i) s made is) (no_host_behind w.shape i))

rests_at : (w : WorldView) (p : ℕ) (x : PartView) → IsWorld w → slice_get w.parts p ≡ Some x → HostSendsNothing w → Rests x
rests_at w p (TileV v) made is host = tt
rests_at w p (RouterV v) made is host = tt
rests_at w p (LinkV v) made is host = tt
rests_at w p (HostV s) made is host = host_at w p s made is host
rests_at w p (DetectorV v) made is host = tt
rests_at w p AbsentV made is host = tt

moves : (n : ShapeNumbers) (tables : List Table) (p : ℕ) (x : PartView) → GoodPart n tables p x → Rests x → PartGoesOn n x → MovesUnlessStill x
moves n tables p (TileV v) good host g = λ busy. tiles_move v good.shaped.fits g.threads busy
moves n tables p (RouterV v) good host g = tt
moves n tables p (LinkV v) good host g = tt
moves n tables p (HostV s) good host g = host_rests s.script host
moves n tables p (DetectorV v) good host g = tt
moves n tables p AbsentV good host g = tt

-- the counter of each part after so many events
abbrev Counts : ℕ → WorldView → Type 0
Counts events w = (k : ℕ) → IsCount events ((rest_of w).part k).view.counter

-- after a number of events below 2 ^ 50 the node of each part can count a packet more
node_of : (w : WorldView) (p : ℕ) (x : PartView) (events : ℕ) → IsWorld w → slice_get w.parts p ≡ Some x → events < 2 ^ 50 → Counts events w → NodeOf x
node_of w p (TileV v) events made is few c =
    let low = below w.shape p (kind.Tile (record { 0 = v.plan.tile })) (tile_kind_at w p v made is).is (λ f. f) in
    node_able v.now.node events few (subst (λ (f : Facts). IsCount events f.view.counter) (seen_part w p (TileV v) low is) (c p))
node_of w p (RouterV v) events made is few c =
    let low = below w.shape p (kind.Router v.plan.board) (router_kind_at w p v made is).is (λ f. f) in
    node_able v.now.node events few (subst (λ (f : Facts). IsCount events f.view.counter) (seen_part w p (RouterV v) low is) (c p))
node_of w p (LinkV v) events made is few c = tt
node_of w p (HostV s) events made is few c =
    let low = below w.shape p kind.Host (host_kind_at w p s made is) (λ f. f) in
    node_able s.node events few (subst (λ (f : Facts). IsCount events f.view.counter) (seen_part w p (HostV s) low is) (c p))
node_of w p (DetectorV v) events made is few c = tt
node_of w p AbsentV events made is few c = tt

-- what holds of each part of a machine, and where no part is
at_each : (P : PartView → Type 0) (w : WorldView) → Good w → P AbsentV → ((p : ℕ) → slice_get w.parts p ≡ Some (get_or w.parts p AbsentV) → GoodPart w.shape (tables_of w) p (get_or w.parts p AbsentV) → P (get_or w.parts p AbsentV)) → (p : ℕ) → P (get_or w.parts p AbsentV)
at_each P w good past each p = elim (cases_lt p (length w.parts)) [
  | inl within ↦ let count = good.count in each p (slice_get-get_or w.parts p AbsentV within) (good.each p (omega arith))
  | inr behind ↦ subst P (sym (get_or_past w.parts p AbsentV behind)) past
]

pub walks_go_on : WalksGoOn
walks_go_on start end history begins senders walk few goes =
    let good = good_start start begins.begins in
    let quiet = quiet_start start begins.begins good in
    let begun = rest_start start begins.begins good in
    let flows : IsFlowing (tables_of start) end = (walks_flow start end history begins senders walk).0 in
    let there : Good end = walk_good history start end good quiet walk in
    let counts : Counts (0 + length history) end = walk_counts history 0 start end good.limits quiet (λ k. start_counts ((rest_of start).part k).view.counter (begun.counters k)) walk in
    let fewer : 0 + length history < 2 ^ 50 = omega arith in
    let n : ShapeNumbers = end.shape in
    each_moment (tables_of start) end
    (record {
      quiet = (walk_quiet history start end good.limits quiet walk).0;
      ready = flows.ready;
      on_way = flows.ways;
      able = at_each (PartAble n) end there tt (λ p is g. (let x = get_or end.parts p AbsentV in able n (tables_of end) p x g (node_of end p x (0 + length history) flows.world is fewer counts) (goes p)));
    })
    (at_each MovesUnlessStill end there tt (λ p is g. moves n (tables_of end) p (get_or end.parts p AbsentV) g (rests_at end p (get_or end.parts p AbsentV) flows.world is flows.host) (goes p)))
