-- What a change of one field of a part changes of the spots of the part.
use Rattle.std.proofs.Common.{ℕ, ◌≡◌, ◌≢◌, refl, ap, inl, inr, Option}
use Rattle.std.specs.Prelude.{◌⊎◌}
use Rattle.std.proofs.lemmas.Bool.{cases_eq}
use Rattle.tn_base.specs.declared.message.Dest.{Dest}
use Rattle.tn_base.specs.declared.port.Port.{Port}
use Rattle.tn_link.specs.LinkView.{LinkView}
use Rattle.tn_node.specs.declared.ports.Ports.{Ports}
use Rattle.tn_node.specs.PortRows.{at, with_at}
use Rattle.tn_node.proofs.PortLaws.{each_set}
use Rattle.tn_router.specs.declared.state.RouterState.{RouterState}
use Rattle.tn_router.specs.RouterView.{RouterView, with_now as router_with_now}
use Rattle.tn_rows.specs.PartView.{TileV, RouterV, LinkV}
use Rattle.tn_rows.specs.WorldView.{WorldView}
use Rattle.tn_tile.specs.declared.state.TileState.{TileState}
use Rattle.tn_tile.specs.Step.{pending_at}
use Rattle.tn_tile.specs.TileView.{TileView, with_now}
use Rattle.tn_order.specs.Spots.{Spot, Pending, Waits, Works, Crosses, Queue, items_of, packet_in, queue_items, stands_in}
use Rattle.tn_order.proofs.Views.{OthersOn}

-- a port has its new value, and each other port the value that it had
pub ports_others : {X : Type 0} (way : Port) (o : Option X) (s : Ports X) (u : Port) → (u ≡ way) ⊎ (at u (with_at way o s) ≡ at u s)
ports_others way o s u = each_set (λ q x. (q ≡ way) ⊎ (x ≡ at q s)) way u o s (inl refl) (λ q. inr refl)

-- ---- a tile

-- of a tile all but the packet of the thread at one place stays
pub record ButPending (goal : Dest) (v : TileView) (s : TileState) (k : ℕ) : Type 0 where
  pub pending : (j : ℕ) → j ≢ k → pending_at s j ≡ pending_at v.now j
  pub out : (way : Port) → at way s.node.out ≡ at way v.now.node.out
  pub queue : queue_items goal (with_now v s) ≡ queue_items goal v

pub tile_pending : (goal : Dest) (w : WorldView) (p : ℕ) (v : TileView) (s : TileState) (k : ℕ) → ButPending goal v s k → OthersOn goal w p (TileV v) (TileV (with_now v s)) (Pending p k)
tile_pending goal w p v s k b (Pending q j) here = elim (cases_eq j k) [
  | inl e ↦ inl (λ i. Pending (here i) (e i))
  | inr ne ↦ inr (ap items_of (b.pending j ne))
]
tile_pending goal w p v s k b (Waits q way) here = inr (ap items_of (b.out way))
tile_pending goal w p v s k b (Works q side) here = inr refl
tile_pending goal w p v s k b (Crosses l) here = inr refl
tile_pending goal w p v s k b Queue here = inr b.queue

-- of a tile all but the packet that waits for one way out stays
pub record ButOut (goal : Dest) (v : TileView) (s : TileState) (way : Port) : Type 0 where
  pub pending : (j : ℕ) → pending_at s j ≡ pending_at v.now j
  pub out : (u : Port) → (u ≡ way) ⊎ (at u s.node.out ≡ at u v.now.node.out)
  pub queue : queue_items goal (with_now v s) ≡ queue_items goal v

pub tile_out : (goal : Dest) (w : WorldView) (p : ℕ) (v : TileView) (s : TileState) (way : Port) → ButOut goal v s way → OthersOn goal w p (TileV v) (TileV (with_now v s)) (Waits p way)
tile_out goal w p v s way b (Pending q j) here = inr (ap items_of (b.pending j))
tile_out goal w p v s way b (Waits q u) here = elim (b.out u) [
  | inl e ↦ inl (λ i. Waits (here i) (e i))
  | inr e ↦ inr (ap items_of e)
]
tile_out goal w p v s way b (Works q side) here = inr refl
tile_out goal w p v s way b (Crosses l) here = inr refl
tile_out goal w p v s way b Queue here = inr b.queue

-- of a tile all but the receiver's queue stays
pub record ButQueue (v : TileView) (s : TileState) : Type 0 where
  pub pending : (j : ℕ) → pending_at s j ≡ pending_at v.now j
  pub out : (way : Port) → at way s.node.out ≡ at way v.now.node.out

pub tile_queue : (goal : Dest) (w : WorldView) (p : ℕ) (v : TileView) (s : TileState) → ButQueue v s → OthersOn goal w p (TileV v) (TileV (with_now v s)) Queue
tile_queue goal w p v s b (Pending q j) here = inr (ap items_of (b.pending j))
tile_queue goal w p v s b (Waits q u) here = inr (ap items_of (b.out u))
tile_queue goal w p v s b (Works q side) here = inr refl
tile_queue goal w p v s b (Crosses l) here = inr refl
tile_queue goal w p v s b Queue here = inl refl

-- no spot of the tile changes
pub tile_same : (goal : Dest) (v : TileView) (s : TileState) → ButQueue v s → queue_items goal (with_now v s) ≡ queue_items goal v → (r : Spot) → stands_in goal (TileV (with_now v s)) r ≡ stands_in goal (TileV v) r
tile_same goal v s b queue (Pending q j) = ap items_of (b.pending j)
tile_same goal v s b queue (Waits q u) = ap items_of (b.out u)
tile_same goal v s b queue (Works q side) = refl
tile_same goal v s b queue (Crosses l) = refl
tile_same goal v s b queue Queue = queue

-- ---- a router

pub router_out : (goal : Dest) (w : WorldView) (p : ℕ) (v : RouterView) (s : RouterState) (way : Port) → ((side : Port) → at side s.inputs ≡ at side v.now.inputs) → ((u : Port) → (u ≡ way) ⊎ (at u s.node.out ≡ at u v.now.node.out)) →
    OthersOn goal w p (RouterV v) (RouterV (router_with_now v s)) (Waits p way)
router_out goal w p v s way inputs out (Pending q j) here = inr refl
router_out goal w p v s way inputs out (Waits q u) here = elim (out u) [
  | inl e ↦ inl (λ i. Waits (here i) (e i))
  | inr e ↦ inr (ap items_of e)
]
router_out goal w p v s way inputs out (Works q side) here = inr (ap (λ o. items_of (packet_in o)) (inputs side))
router_out goal w p v s way inputs out (Crosses l) here = inr refl
router_out goal w p v s way inputs out Queue here = inr refl

pub router_works : (goal : Dest) (w : WorldView) (p : ℕ) (v : RouterView) (s : RouterState) (side : Port) → ((u : Port) → (u ≡ side) ⊎ (at u s.inputs ≡ at u v.now.inputs)) → ((way : Port) → at way s.node.out ≡ at way v.now.node.out) →
    OthersOn goal w p (RouterV v) (RouterV (router_with_now v s)) (Works p side)
router_works goal w p v s side inputs out (Pending q j) here = inr refl
router_works goal w p v s side inputs out (Waits q u) here = inr (ap items_of (out u))
router_works goal w p v s side inputs out (Works q u) here = elim (inputs u) [
  | inl e ↦ inl (λ i. Works (here i) (e i))
  | inr e ↦ inr (ap (λ o. items_of (packet_in o)) e)
]
router_works goal w p v s side inputs out (Crosses l) here = inr refl
router_works goal w p v s side inputs out Queue here = inr refl

-- ---- a link

pub link_others : (goal : Dest) (w : WorldView) (q : ℕ) (x y : LinkView) → OthersOn goal w q (LinkV x) (LinkV y) (Crosses q)
link_others goal w q x y (Pending p j) here = inr refl
link_others goal w q x y (Waits p u) here = inr refl
link_others goal w q x y (Works p side) here = inr refl
link_others goal w q x y (Crosses l) here = inl (ap Crosses here)
link_others goal w q x y Queue here = inr refl
