-- From each spot at most one spot comes next.
use Rattle.std.proofs.Common.{ℕ, ◌≡◌, ◌≢◌, sym, ◌∙◌, ap}
use Rattle.tn_base.specs.declared.message.Dest.{Dest}
use Rattle.tn_base.specs.declared.part.Kind.{Kind}
use Rattle.tn_base.specs.declared.part.Kind.TheVariants as kind
use Rattle.tn_base.specs.declared.port.Port.{Port}
use Rattle.tn_base.specs.declared.port.Port.TheVariants as port
use Rattle.tn_base.specs.declared.shape.ShapeNumbers.{ShapeNumbers}
use Rattle.tn_base.specs.Parts.{kind_of}
use Rattle.tn_base.specs.Ports.{port_of}
use Rattle.tn_base.specs.Shape.{WithinLimits}
use Rattle.tn_ways.specs.Ways.{Ways}
use Rattle.tn_ways.proofs.Law.{ways}
use Rattle.tn_order.specs.Net.{IsNet}
use Rattle.tn_order.specs.Spots.{Spot, Pending, Waits, Works, Crosses, Queue, NextBehind, NextInto, NextSpot, onward, way_of}

into_one : (n : ShapeNumbers) (goal : Dest) (l p : ℕ) (k : Kind) (q r : Spot) → NextInto n goal l p k q → NextInto n goal l p k r → q ≡ r
into_one n goal l p kind.Host q r a b = absurd a
into_one n goal l p (kind.Tile tile) q r a b = a ∙ sym b
into_one n goal l p (kind.Router board) q r a b = a ∙ sym b
into_one n goal l p (kind.Link from onto) q r a b = absurd a
into_one n goal l p kind.Detector q r a b = absurd a

behind_one : (n : ShapeNumbers) (goal : Dest) (l : ℕ) (k : Kind) (q r : Spot) → NextBehind n goal l k q → NextBehind n goal l k r → q ≡ r
behind_one n goal l kind.Host q r a b = absurd a
behind_one n goal l (kind.Tile tile) q r a b = absurd a
behind_one n goal l (kind.Router board) q r a b = absurd a
behind_one n goal l (kind.Link from onto) q r a b = into_one n goal l onto.0 (kind_of n onto.0) q r a b
behind_one n goal l kind.Detector q r a b = absurd a

next_one : (n : ShapeNumbers) (goal : Dest) → Ways n → (p q r : Spot) → NextSpot n goal p q → NextSpot n goal p r → q ≡ r
next_one n goal ways (Pending p k) q r a b = a ∙ sym b
next_one n goal ways (Waits p way) q r a b = a.2 ∙ (ap Crosses (ways.apart p a.0 b.0 way a.1 b.1) ∙ sym b.2)
next_one n goal ways (Works p side) q r a b = a ∙ sym b
next_one n goal ways (Crosses l) q r a b = behind_one n goal l (kind_of n l) q r a b
next_one n goal ways Queue q r a b = absurd a

pub not_pending : (p : ℕ) (way : Port) (k j : ℕ) → onward p way ≡ Pending k j → ⊥
not_pending p port.East k j e = cc e
not_pending p port.West k j e = cc e
not_pending p port.South k j e = cc e
not_pending p port.North k j e = cc e
not_pending p port.Up k j e = cc e
not_pending p port.Down k j e = cc e
not_pending p port.HostPort k j e = cc e
not_pending p port.Here k j e = cc e

not_crosses : (p : ℕ) (way : Port) (l : ℕ) → onward p way ≡ Crosses l → ⊥
not_crosses p port.East l e = cc e
not_crosses p port.West l e = cc e
not_crosses p port.South l e = cc e
not_crosses p port.North l e = cc e
not_crosses p port.Up l e = cc e
not_crosses p port.Down l e = cc e
not_crosses p port.HostPort l e = cc e
not_crosses p port.Here l e = cc e

into_else : (n : ShapeNumbers) (goal : Dest) (l p : ℕ) (k : Kind) (q : Spot) → NextInto n goal l p k q → q ≡ Crosses l → ⊥
into_else n goal l p kind.Host q a e = a
into_else n goal l p (kind.Tile tile) q a e = not_crosses p (port_of n p goal) l (sym a ∙ e)
into_else n goal l p (kind.Router board) q a e = let f = sym a ∙ e in cc f
into_else n goal l p (kind.Link from onto) q a e = a
into_else n goal l p kind.Detector q a e = a

behind_else : (n : ShapeNumbers) (goal : Dest) (l : ℕ) (k : Kind) (q : Spot) → NextBehind n goal l k q → q ≡ Crosses l → ⊥
behind_else n goal l kind.Host q a e = a
behind_else n goal l (kind.Tile tile) q a e = a
behind_else n goal l (kind.Router board) q a e = a
behind_else n goal l (kind.Link from onto) q a e = into_else n goal l onto.0 (kind_of n onto.0) q a e
behind_else n goal l kind.Detector q a e = a

pub next_else : (n : ShapeNumbers) (goal : Dest) (p q : Spot) → NextSpot n goal p q → q ≢ p
next_else n goal (Pending p k) q a e = not_pending p (port_of n p goal) p k (sym a ∙ e)
next_else n goal (Waits p way) q a e = let f = sym a.2 ∙ e in cc f
next_else n goal (Works p side) q a e = let f = sym a ∙ e in cc f
next_else n goal (Crosses l) q a e = behind_else n goal l (kind_of n l) q a e
next_else n goal Queue q a e = a

pub spot_net : (n : ShapeNumbers) (s : ℕ) (goal : Dest) → WithinLimits n → IsNet (way_of n s goal)
spot_net n s goal limits = record { one = next_one n goal (ways n limits); onward = next_else n goal }
