-- What is read of a thread of a tile, and of an event that is made again.
use Rattle.std.proofs.Common.{ℕ, ◌≡◌, ◌∙◌, ◌==◌, Bool, true, false, cond, List, refl, sym, ap, Option, Some, None, is_some, option_map, unwrap_or}
use Rattle.std.specs.Int.{bit_at}
use Rattle.std.proofs.lemmas.Bool.{and_parts, eqb-true}
use Rattle.tn_base.specs.Address.{in_tile, place_in_tile}
use Rattle.tn_base.proofs.TilePlaces.{place_named}
use Rattle.tn_slots.specs.Pool.{held_by, message_at, slot_at}
use Rattle.tn_tile.specs.declared.deliver.Did.{Did}
use Rattle.tn_tile.specs.declared.deliver.Did.TheVariants as did
use Rattle.tn_tile.specs.Rows.{is_here, sender_of}
use Rattle.tn_tile.specs.TileView.{TileView}
use Rattle.tn_rows.specs.WorldView.{WorldView}
use Rattle.tn_world.specs.Plays.{Redone}
use Rattle.tn_letters.specs.Letters.{letter}
use Rattle.tn_letters.specs.Tiles.{held_in, letter_in, sender_at}

-- ---- an event that is enabled and made again

pub redone : (d : Did) (o : Option WorldView) (new : WorldView) → Redone d o new → is_some o ≡ true → o ≡ Some new
redone did.Moved o new r some = r
redone did.Nothing o new r some = let clash : false ≡ true = sym (ap is_some r) ∙ some in cc clash

-- ---- the letter in a slot

cond_some : {A : Type 0} (b : Bool) (x y : A) → cond b (Some x) None ≡ Some y → (b ≡ true) × (x ≡ y)
cond_some true x y e = (refl, ap (λ o. unwrap_or o x) e)
cond_some false x y e = cc e

map_const : {A B : Type 0} (c x : B) (o : Option A) → option_map (λ _. c) o ≡ Some x → x ≡ c
map_const c x None e = cc e
map_const c x (Some y) e = sym (ap (λ o. unwrap_or o c) e)

pub held_some : (v : TileView) (a slot : ℕ) (bytes : List ℕ) (from : ℕ × ℕ) → is_here v.plan a ≡ true → held_by v.now.pool (place_in_tile v.plan.shape a) slot ≡ Some bytes → sender_of slot v.now ≡ Some from → Some (letter from.0 from.1 a bytes) ≡ held_in v (place_in_tile v.plan.shape a) slot
held_some v a slot bytes from here e sent =
    let k : ℕ = place_in_tile v.plan.shape a in
    let s = slot_at v.now.pool slot in
    let parts = and_parts _ _ here in
    let at : in_tile v.plan.shape v.plan.tile k ≡ a = ap (λ t. in_tile v.plan.shape t k) (sym (eqb-true _ _ parts.1)) ∙ place_named v.plan.shape a parts.0 in
    let who : ℕ × ℕ = ((sender_at v slot).origin, (sender_at v slot).number) in
    let is : from ≡ who = map_const who from (message_at v.now.pool slot) sent in
    let c = cond_some (bit_at s.holders k == 1) s.bytes bytes e in
    ap (λ (q : ℕ × ℕ). Some (letter q.0 q.1 a bytes)) is
    ∙ (ap (λ b. Some (letter who.0 who.1 a b)) (sym c.1)
    ∙ (ap (λ b. Some (letter who.0 who.1 b s.bytes)) (sym at)
    ∙ sym (ap (λ b. cond b (Some (letter_in v k slot)) None) c.0)))
