-- From one part of a machine that is no tile to the whole machine, and a tile beside it.
use Rattle.std.proofs.Common.{ℕ, ◌+◌, ◌≡◌, ◌≢◌, get_or, set, refl, sym, ◌∙◌, ap, subst, inl, inr, arith, length-set, sum_by}
use Rattle.std.proofs.lemmas.Bool.{cases_eq}
use Rattle.std.proofs.lemmas.List.{get_or-set_same, get_or-set_other}
use Rattle.std.proofs.lemmas.List.Sums.{sum_by-set}
use Rattle.tn_base.specs.declared.message.Letter.{Letter}
use Rattle.tn_base.specs.Address.{place_in_tile}
use Rattle.tn_base.specs.declared.part.Kind.{Kind}
use Rattle.tn_base.specs.declared.part.Kind.TheVariants as kind
use Rattle.tn_base.specs.Parts.{kind_of}
use Rattle.tn_letters.specs.Letters.{link_board}
use Rattle.tn_link.specs.LinkView.{LinkView}
use Rattle.tn_keys.specs.Reach.{Reach}
use Rattle.tn_rows.specs.Events.{with_part}
use Rattle.tn_rows.specs.PartView.{PartView, LinkV, AbsentV}
use Rattle.tn_rows.specs.WorldView.{WorldView}
use Rattle.tn_letters.specs.Law.{dropped_in, dropped_on}
use Rattle.tn_letters.specs.Standing.{standing_letters}
use Rattle.tn_letters.specs.State.{Agree}
use Rattle.tn_letters.specs.Tiles.{beats_on, held_in, held_of, no_tile, host_in, host_on, part_for, program_of, reach_of, tables_of, thread_in, thread_of, tile_for, tile_in}
use Rattle.tn_letters.proofs.Lift.{Good, GoodLink, GoodPart, OnLink, OnPart, StandsAt, good_with, host_stays, part_changes, reach_stays, stands_on, tables_stay}
use Rattle.tn_letters.proofs.Weights.{link_w, part_w}

-- a part is no tile, so no letter is dropped there
pub record NoTilePart (part : PartView) : Type 0 where
  pub tile : tile_in part ≡ no_tile
  pub dropped : dropped_on part ≡ 0

-- one part that is no tile becomes another one with the same table, and what letters weigh there changes so
pub record Shifts (w : WorldView) (p : ℕ) (old new : PartView) (came gone : (Letter → ℕ) → ℕ) : Type 0 where
  pub on : OnPart w p old
  pub was : NoTilePart old
  pub is : NoTilePart new
  pub beats : beats_on new ≡ beats_on old
  pub stands : StandsAt (kind_of w.shape p) new
  pub good : GoodPart w.shape (tables_of w) p new
  pub weighs : (f : Letter → ℕ) → came f + part_w f w.shape (reach_of w) p old ≡ gone f + part_w f w.shape (reach_of w) p new

-- the machine, then: its threads are as they were
pub record Shifted (w there : WorldView) (came gone : (Letter → ℕ) → ℕ) : Type 0 where
  pub threads : Agree w.shape (thread_of w) (thread_of there)
  pub held : (b slot : ℕ) → held_of w b slot ≡ held_of there b slot
  pub letters : (f : Letter → ℕ) → came f + sum_by f (standing_letters w) ≡ gone f + sum_by f (standing_letters there)
  pub good : Good there
  pub program : program_of there ≡ program_of w
  pub count : dropped_in there ≡ dropped_in w

-- each thread's tile is as it was
pub tile_past : (w : WorldView) (q : ℕ) (old new : PartView) (b : ℕ) → OnPart w q old → NoTilePart old → NoTilePart new → tile_for (with_part w q new) b ≡ tile_for w b
tile_past w q old new b on was is = elim (cases_eq (part_for w b) q) [
  | inr far ↦ ap tile_in (get_or-set_other w.parts q (part_for w b) new AbsentV far)
  | inl near ↦
      ap (λ i. tile_in (get_or (set w.parts q new) i AbsentV)) near
      ∙ (ap tile_in (get_or-set_same w.parts q new AbsentV on.within)
      ∙ (is.tile ∙ sym (ap (λ i. tile_in (get_or w.parts i AbsentV)) near ∙ (ap tile_in on.is ∙ was.tile))))
]

same_beats : (w : WorldView) (q : ℕ) (old new : PartView) → OnPart w q old → beats_on new ≡ beats_on old → beats_on new ≡ beats_on (get_or w.parts q AbsentV)
same_beats w q old new on e = e ∙ sym (ap beats_on on.is)

pub program_past : (w : WorldView) (q : ℕ) (old new : PartView) → OnPart w q old → NoTilePart old → NoTilePart new → beats_on new ≡ beats_on old → program_of (with_part w q new) ≡ program_of w
program_past w q old new on was is e = λ i. record { shape = w.shape; code = λ b. (tile_past w q old new b on was is i).plan.code; reach = reach_stays w q new on.within (same_beats w q old new on e) i }

pub shifted : (w : WorldView) (p : ℕ) (old new : PartView) (came gone : (Letter → ℕ) → ℕ) → Good w → Shifts w p old new came gone → Shifted w (with_part w p new) came gone
shifted w p old new came gone good s =
    let on = s.on in
    let beats = same_beats w p old new on s.beats in
    record {
      threads = λ b h. sym (ap (λ t. thread_in t (place_in_tile w.shape b)) (tile_past w p old new b on s.was s.is));
      held = λ b slot. sym (ap (λ t. held_in t (place_in_tile w.shape b) slot) (tile_past w p old new b on s.was s.is));
      letters = λ f.
          let c = part_changes f w p new (reach_of w) on.within on.below beats refl in
          let was : part_w f w.shape (reach_of w) p (get_or w.parts p AbsentV) ≡ part_w f w.shape (reach_of w) p old = ap (part_w f w.shape (reach_of w) p) on.is in
          let e = s.weighs f in
          omega arith;
      good = good_with w p new good on.within beats s.stands s.good;
      program = program_past w p old new on s.was s.is s.beats;
      count =
          let a = sum_by-set dropped_on w.parts p new AbsentV on.within in
          let b : dropped_on (get_or w.parts p AbsentV) ≡ 0 = ap dropped_on on.is ∙ s.was.dropped in
          let c = s.is.dropped in
          omega arith;
    }

-- ---- a link

still_link : (k : Kind) (x y : LinkView) → StandsAt k (LinkV x) → StandsAt k (LinkV y)
still_link kind.Host x y h = absurd h
still_link (kind.Tile tile) x y h = absurd h
still_link (kind.Router board) x y h = absurd h
still_link (kind.Link from onto) x y h = tt
still_link kind.Detector x y h = absurd h

pub link_shifts : (w : WorldView) (q : ℕ) (x y : LinkView) (came gone : (Letter → ℕ) → ℕ) → Good w → OnLink w q x → GoodLink w.shape q y →
    ((f : Letter → ℕ) → came f + link_w f (link_board w.shape q) w.shape (reach_of w) x ≡ gone f + link_w f (link_board w.shape q) w.shape (reach_of w) y) → Shifts w q (LinkV x) (LinkV y) came gone
link_shifts w q x y came gone good on home weighs = record {
  on = on;
  was = record { tile = refl; dropped = refl };
  is = record { tile = refl; dropped = refl };
  beats = refl;
  stands = still_link (kind_of w.shape q) x y (stands_on w q (LinkV x) good on);
  good = home;
  weighs = weighs;
}

-- ---- one part beside another

pub beside : (w : WorldView) (p q : ℕ) (new part : PartView) → q ≢ p → OnPart w q part → OnPart (with_part w p new) q part
beside w p q new part apart off = record {
  within = let l = length-set w.parts p new in let h = off.within in omega arith;
  below = off.below;
  is = get_or-set_other w.parts p q new AbsentV apart ∙ off.is;
}

-- what changes there is the same beside another part that changed
pub shifts_beside : (w : WorldView) (p q : ℕ) (here part old new : PartView) (came gone : (Letter → ℕ) → ℕ) → q ≢ p → OnPart w p here → beats_on part ≡ beats_on here → Shifts w q old new came gone → Shifts (with_part w p part) q old new came gone
shifts_beside w p q here part old new came gone apart on same s =
    let leads : reach_of (with_part w p part) ≡ reach_of w = reach_stays w p part on.within (same_beats w p here part on same) in
    let tables : tables_of (with_part w p part) ≡ tables_of w = tables_same w p here part on same in
    record {
      on = beside w p q part old apart s.on;
      was = s.was;
      is = s.is;
      beats = s.beats;
      stands = s.stands;
      good = subst (λ ts. GoodPart w.shape ts q new) (sym tables) s.good;
      weighs = λ f. subst (λ (r : Reach). came f + part_w f w.shape r q old ≡ gone f + part_w f w.shape r q new) (sym leads) (s.weighs f);
    }
  where
    tables_same : (w : WorldView) (p : ℕ) (here part : PartView) → OnPart w p here → beats_on part ≡ beats_on here → tables_of (with_part w p part) ≡ tables_of w
    tables_same w p here part on same = tables_stay w p part on.within (same_beats w p here part on same)

-- parts of two kinds are two parts
pub two_parts : (w : WorldView) (p q : ℕ) (low high : PartView) → OnPart w p low → OnPart w q high → (low ≡ high → ⊥) → q ≢ p
two_parts w p q low high on off differ = λ e. differ (sym on.is ∙ (ap (λ i. get_or w.parts i AbsentV) (sym e) ∙ off.is))

-- an event on two parts that are no tiles: what the one gains, the other loses
pub both_shifted : (w : WorldView) (p q : ℕ) (low high new next : PartView) (came gone : (Letter → ℕ) → ℕ) → Good w → q ≢ p → Shifts w p low new came gone → Shifts w q high next gone came →
    (there : WorldView) → there ≡ with_part (with_part w p new) q next → Shifted w there (λ f. 0) (λ f. 0)
both_shifted w p q low high new next came gone good apart a b there is =
    let first = shifted w p low new came gone good a in
    let second = shifted (with_part w p new) q high next gone came first.good (shifts_beside w p q low new high next gone came apart a.on a.beats b) in
    subst (λ (x : WorldView). Shifted w x (λ f. 0) (λ f. 0)) (sym is) (record {
      threads = λ b h. first.threads b h ∙ second.threads b h;
      held = λ b slot. first.held b slot ∙ second.held b slot;
      letters = λ f. let x = first.letters f in let y = second.letters f in omega arith;
      good = second.good;
      program = second.program ∙ first.program;
      count = second.count ∙ first.count;
    })

-- nor does it change the host, if both parts show the host that they showed
pub both_host : (w : WorldView) (p q : ℕ) (low high new next : PartView) (there : WorldView) → q ≢ p → OnPart w p low → OnPart w q high → host_in new ≡ host_in low → host_in next ≡ host_in high →
    there ≡ with_part (with_part w p new) q next → host_on w ≡ host_on there
both_host w p q low high new next there apart on off same_low same_high is =
    sym (ap host_on is ∙ (host_stays (with_part w p new) q high next (beside w p q new high apart off) same_high ∙ host_stays w p low new on same_low))
