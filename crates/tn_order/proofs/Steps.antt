-- A packet goes on within a part, or from a part to another part.
use Rattle.std.proofs.Common.{ℕ, ◌≡◌, ◌≢◌, Bool, true, refl, sym, ◌∙◌, ap, subst, List, [], ◌∷◌, ◌++◌, map, length-set, arith}
use Rattle.std.proofs.lemmas.List.{get_or-set_other, get_or-set_same, set-set, set_comm}
use Rattle.tn_base.specs.declared.message.Dest.{Dest}
use Rattle.tn_base.specs.declared.message.Packet.{Packet}
use Rattle.tn_base.specs.declared.shape.ShapeNumbers.{ShapeNumbers}
use Rattle.tn_link.specs.LinkView.{LinkView}
use Rattle.tn_rows.specs.Events.{with_part}
use Rattle.tn_rows.specs.PartView.{PartView, LinkV, AbsentV}
use Rattle.tn_rows.specs.WorldView.{WorldView}
use Rattle.tn_letters.proofs.Lift.{OnPart}
use Rattle.tn_order.specs.Kept.{IsFor, Kept}
use Rattle.tn_order.specs.Net.{Net, IsNet}
use Rattle.tn_order.specs.Spots.{Crosses, Item, Spot, item_of, spot_part, standing_at, stands_in}
use Rattle.tn_order.specs.Views.{Takes, Puts}
use Rattle.tn_order.proofs.PartViews.{link_others}
use Rattle.tn_order.proofs.Passing.{pass}
use Rattle.tn_order.proofs.Views.{OthersOn, lift_puts, lift_takes}

-- a part loses the first item of a spot
pub record Gives (goal : Dest) (w : WorldView) (p : ℕ) (a b : PartView) (x : Spot) (i : Item) : Type 0 where
  pub here : spot_part w.shape goal x ≡ p
  pub first : stands_in goal a x ≡ i ∷ stands_in goal b x
  pub others : OthersOn goal w p a b x

-- a part gets an item behind what stands at a spot
pub record Gets (goal : Dest) (w : WorldView) (p : ℕ) (a b : PartView) (y : Spot) (j : Item) : Type 0 where
  pub here : spot_part w.shape goal y ≡ p
  pub last : stands_in goal b y ≡ stands_in goal a y ++ j ∷ []
  pub others : OthersOn goal w p a b y

-- an item is of the same packet as another one
pub record OfOne (j i : Item) : Type 0 where
  pub origin : j.origin ≡ i.origin
  pub number : j.number ≡ i.number

-- part p in another state
abbrev pub on_mid : (w : WorldView) (p q : ℕ) (a b c : PartView) → OnPart w p a → OnPart w q c → q ≢ p → OnPart (with_part w p b) q c
on_mid w p q a b c on off apart = record {
  within = let l = length-set w.parts p b in let h = off.within in omega arith;
  below = off.below;
  is = get_or-set_other w.parts p q b AbsentV apart ∙ off.is;
}

pub gives_takes : (goal : Dest) (w : WorldView) (p : ℕ) (a b : PartView) (x : Spot) (i : Item) → OnPart w p a → Gives goal w p a b x i → Takes x (i ∷ []) (standing_at goal w) (standing_at goal (with_part w p b))
gives_takes goal w p a b x i on g = lift_takes goal w p a b x (i ∷ []) on.within on.is g.here g.first g.others

pub gets_puts : (goal : Dest) (w : WorldView) (p : ℕ) (a b : PartView) (y : Spot) (j : Item) → OnPart w p a → Gets goal w p a b y j → Puts y (j ∷ []) (standing_at goal w) (standing_at goal (with_part w p b))
gets_puts goal w p a b y j on g = lift_puts goal w p a b y (j ∷ []) on.within on.is g.here g.last g.others

-- from part p to part q
pub across : (n : ShapeNumbers) (net : Net Spot) (goal : Dest) (mine : ℕ → ℕ → Bool) (w : WorldView) (p q : ℕ) (a b c d : PartView) (x y : Spot) (i j : Item) (sent gone : List ℕ) → IsNet net → q ≢ p → OnPart w p a → OnPart w q c → Gives goal w p a b x i → Gets goal w q c d y j → OfOne j i →
    (mine i.origin i.number ≡ true → IsFor n goal i.to → net.Next x y) → (mine i.origin i.number ≡ true → IsFor n goal i.to → IsFor n goal j.to) → Kept n net goal mine (standing_at goal w) sent gone → Kept n net goal mine (standing_at goal (with_part (with_part w p b) q d)) sent gone
across n net goal mine w p q a b c d x y i j sent gone is apart on off gives gets one next for k =
    let mid : WorldView = with_part w p b in
    pass n net goal mine x y i j (standing_at goal w) (standing_at goal mid) (standing_at goal (with_part mid q d)) sent gone is
    (λ e. apart (sym gets.here ∙ (ap (spot_part w.shape goal) (sym e) ∙ gives.here))) one.origin one.number
    (gives_takes goal w p a b x i on gives)
    (gets_puts goal mid q c d y j (on_mid w p q a b c on off apart) (record { here = gets.here; last = gets.last; others = gets.others }))
    next for k

-- from part q to part p, where part p changes first
pub back : (n : ShapeNumbers) (net : Net Spot) (goal : Dest) (mine : ℕ → ℕ → Bool) (w : WorldView) (p q : ℕ) (a b c d : PartView) (x y : Spot) (i j : Item) (sent gone : List ℕ) → IsNet net → q ≢ p → OnPart w p a → OnPart w q c → Gives goal w q c d x i → Gets goal w p a b y j → OfOne j i →
    (mine i.origin i.number ≡ true → IsFor n goal i.to → net.Next x y) → (mine i.origin i.number ≡ true → IsFor n goal i.to → IsFor n goal j.to) → Kept n net goal mine (standing_at goal w) sent gone → Kept n net goal mine (standing_at goal (with_part (with_part w p b) q d)) sent gone
back n net goal mine w p q a b c d x y i j sent gone is apart on off gives gets one next for k =
    let swap : with_part (with_part w q d) p b ≡ with_part (with_part w p b) q d = ap (λ ps. record w { parts = ps }) (set_comm w.parts q p d b apart) in
    subst (λ (u : WorldView). Kept n net goal mine (standing_at goal u) sent gone) swap
    (across n net goal mine w q p c d a b x y i j sent gone is (λ e. apart (sym e)) off on gives gets one next for k)

-- within a part, by a state between
pub within_part : (n : ShapeNumbers) (net : Net Spot) (goal : Dest) (mine : ℕ → ℕ → Bool) (w : WorldView) (p : ℕ) (a mid b : PartView) (x y : Spot) (i j : Item) (sent gone : List ℕ) → IsNet net → x ≢ y → OnPart w p a → Gives goal w p a mid x i → Gets goal w p mid b y j → OfOne j i →
    (mine i.origin i.number ≡ true → IsFor n goal i.to → net.Next x y) → (mine i.origin i.number ≡ true → IsFor n goal i.to → IsFor n goal j.to) → Kept n net goal mine (standing_at goal w) sent gone → Kept n net goal mine (standing_at goal (with_part w p b)) sent gone
within_part n net goal mine w p a mid b x y i j sent gone is apart on gives gets one next for k =
    let between : WorldView = with_part w p mid in
    let there : OnPart between p mid = record {
      within = let l = length-set w.parts p mid in let h = on.within in omega arith;
      below = on.below;
      is = get_or-set_same w.parts p mid AbsentV on.within;
    } in
    let twice : with_part between p b ≡ with_part w p b = ap (λ ps. record w { parts = ps }) (set-set w.parts p mid b) in
    subst (λ (u : WorldView). Kept n net goal mine (standing_at goal u) sent gone) twice
    (pass n net goal mine x y i j (standing_at goal w) (standing_at goal between) (standing_at goal (with_part between p b)) sent gone is apart one.origin one.number
    (gives_takes goal w p a mid x i on gives)
    (gets_puts goal between p mid b y j there (record { here = gets.here; last = gets.last; others = gets.others }))
    next for k)

-- ---- links

items_joined : (ks : List Packet) (k : Packet) → map item_of (ks ++ k ∷ []) ≡ map item_of ks ++ item_of k ∷ []
items_joined [] k = refl
items_joined (x ∷ ks) k = ap (λ l. item_of x ∷ l) (items_joined ks k)

pub link_gets : (goal : Dest) (w : WorldView) (q : ℕ) (x y : LinkView) (k : Packet) → y.packets ≡ x.packets ++ k ∷ [] → Gets goal w q (LinkV x) (LinkV y) (Crosses q) (item_of k)
link_gets goal w q x y k e = record { here = refl; last = ap (map item_of) e ∙ items_joined x.packets k; others = link_others goal w q x y }

pub link_gives : (goal : Dest) (w : WorldView) (q : ℕ) (x y : LinkView) (k : Packet) → x.packets ≡ k ∷ y.packets → Gives goal w q (LinkV x) (LinkV y) (Crosses q) (item_of k)
link_gives goal w q x y k e = record { here = refl; first = ap (map item_of) e; others = link_others goal w q x y }
