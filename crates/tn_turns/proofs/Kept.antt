-- Each step of the table of turns keeps its rule.
use Rattle.std.proofs.Common.{◌≡◌, ◌≢◌, ◌⊎◌, ℕ, zero, suc, ◌+◌, ◌<◌, List, [], ◌∷◌, ◌++◌, length, map, replicate, get_or, set, Bool, true, false, ◌||◌, eqb, sym, refl, ap, ◌∙◌, subst, inl, inr, ⊎_elim, arith, Option, Some, None, length-set, length-append, eq-eqb, ne_eqb, true≢false}
use mathlib.Core.Logic.{dite}
use mathlib.Core.Option.{none, some, some-injective, some-ne-none}
use mathlib.Core.Option as maybe
use native.Mathlib.Decide.{ℕ_discrete}
use lib.ListN.{get_elem?, length-map, length-replicate}
use lib.Seq.{set-get_or}
use prog.Atomic.{either}
use Rattle.atomic_table.specs.Table.{State, step, keeps, takes, gives, stepped, Allows, Splits, Joins, opening, Final, Seen}
use Rattle.atomic_table.proofs.Lists.{at_set, set_here, set_else, set_again, at_longer, at_map}
use Rattle.tn_stamp.specs.declared.entry.Entry.{Entry}
use Rattle.tn_turns.specs.declared.view.KeptView.{KeptView}
use Rattle.tn_turns.specs.declared.view.SeatView.{SeatView}
use Rattle.tn_turns.specs.declared.view.View.{View}
use Rattle.tn_turns.specs.declared.view.View.TheVariants.{Kept, Given, Spent}
use Rattle.tn_stamp.specs.Pairs.{pairing, AllSingle, AllBetween}
use Rattle.tn_stamp.specs.Merging.{ArePaired}
use Rattle.tn_turns.specs.Faithful.{IsFaithful}
use Rattle.tn_turns.specs.Rule.{among, rest_of, SeatHas, IsHome, IsOut, SeatOk, Stands, Holds, opened, seat_of, with_turn, after_miss, took, laid, lifted, gave, split_left, split_right, seat_joined}
use Rattle.tn_turns.proofs.ByIndex.{at_within, there, one_at, at_end}
use Rattle.tn_turns.proofs.Pairing.{grown_one, grown_two}

or_right : (b c : Bool) → (b || c) ≡ false → c ≡ false
or_right true c e = absurd (true≢false e)
or_right false c e = e

pub or_true : (b c : Bool) → c ≡ true → (b || c) ≡ true
or_true true c e = refl
or_true false c e = e

among_else : (k i : ℕ) (is : List ℕ) → k ≢ i → among k is ≡ false → among k (i ∷ is) ≡ false
among_else k i is n e = (λ t. ne_eqb k i n t || among k is) ∙ e

not_here : (i : ℕ) (is : List ℕ) → among i (i ∷ is) ≡ false → ⊥
not_here i is e = true≢false (sym (λ t. eq-eqb i i refl t || among i is) ∙ e)

abbrev St : Type 0 → Type 0
St T = State (Option T) (View T)

abbrev Homes : Type 0 → Type 0
Homes T = List (maybe.Option (Option T))

module _ {T : Type 0} where
  abbrev Is : List ℕ → Homes T → List (View T) → ℕ → T → Type 0
  Is words homes views k x = IsHome words homes k x ⊎ IsOut words homes views k x

  -- the record at k stays with the item, or goes from x to y
  abbrev Carries : SeatView T → SeatView T → ℕ → T → T → Type 0
  Carries h h' k x y = ((x ≡ y) × (get_elem? h'.outs k ≡ get_elem? h.outs k)) ⊎ ((get_elem? h.outs k ≡ some (Some x)) × (get_elem? h'.outs k ≡ some (Some y)))

  -- a step of the seat id at the turn i
  record Moves (shown shown' : List T) (s : St T) (words' : List ℕ) (homes' : Homes T) (id i : ℕ) (h h' : SeatView T) : Type 0 where
    pub view : get_elem? s.views id ≡ some (Given h)
    pub number : h'.number ≡ h.number
    pub wide : length h'.outs ≡ length h.outs
    pub size : length shown' ≡ length shown
    pub words_size : length words' ≡ length s.words
    pub homes_size : length homes' ≡ length s.homes
    pub words : (k : ℕ) → k ≢ i → get_elem? words' k ≡ get_elem? s.words k
    pub homes : (k : ℕ) → k ≢ i → get_elem? homes' k ≡ get_elem? s.homes k
    pub hands : (k : ℕ) → k ≢ i → among k h'.hands ≡ false → among k h.hands ≡ false
    pub shows : (k : ℕ) (y : T) → k ≢ i → get_elem? shown' k ≡ some y → (x : T) × (get_elem? shown k ≡ some x) × Carries h h' k x y
    pub here : (y : T) → get_elem? shown' i ≡ some y → Is words' homes' (set s.views id (Given h')) i y
    pub others : (k : ℕ) → k ≢ id → k ≢ 0 → get_elem? s.words i ≡ some k → get_elem? words' i ≡ some k
    pub mine : (k : ℕ) (y : T) → k ≢ i → get_elem? h'.outs k ≡ some (Some y) → (x : T) × (get_elem? h.outs k ≡ some (Some x))
    pub mine_here : (y : T) → get_elem? h'.outs i ≡ some (Some y) → get_elem? words' i ≡ some id

  module _ (shown : List T) (s : St T) (r : Stands shown s) where
    seat_ok : (k : ℕ) (h : SeatView T) → get_elem? s.views k ≡ some (Given h) → (k ≡ h.number + 1) × (among h.number r.desk.joined ≡ false) × (length h.outs ≡ r.desk.size)
    seat_ok k h at = r.seats k (Given h) at

    not_kept : (k : ℕ) (h : SeatView T) → get_elem? s.views k ≡ some (Given h) → k ≢ 0
    not_kept k h at z = let e = (seat_ok k h at).0 in omega arith

    same_hold : (k : ℕ) (h g : SeatView T) → get_elem? s.views k ≡ some (Given h) → get_elem? s.views k ≡ some (Given g) → h ≡ g
    same_hold k h g p q = ap seat_of (one_at s.views k (Given h) (Given g) p q)

    module _ (shown' : List T) (words' : List ℕ) (homes' : Homes T) (id i : ℕ) (h h' : SeatView T) (m : Moves shown shown' s words' homes' id i h h') where
      abbrev views' : List (View T)
      views' = set s.views id (Given h')

      carried : (k : ℕ) (x y : T) → k ≢ i → get_elem? shown k ≡ some x → Is s.words s.homes s.views k x → Carries h h' k x y → Is words' homes' views' k y
      carried k x y n at (inl home) (inl c) = inl record { word = m.words k n ∙ home.word; slot = m.homes k n ∙ (home.slot ∙ ap (λ (z : T). some (some (Some z))) c.0) }
      carried k x y n at (inl home) (inr c) = absurd (not_kept id h m.view (one_at s.words k id 0 (r.outs id k h x m.view c.0) home.word))
      carried k x y n at (inr out) c = dite (ℕ_discrete out.seat id)
          (λ e. let same : out.hold ≡ h = same_hold id out.hold h (subst (λ (z : ℕ). get_elem? s.views z ≡ some (Given out.hold)) e out.view) m.view in
          let was : get_elem? h.outs k ≡ some (Some x) = subst (λ (g : SeatView T). get_elem? g.outs k ≡ some (Some x)) same out.recorded in inr record {
            seat = id;
            hold = h';
            word = m.words k n ∙ (out.word ∙ ap (λ (z : ℕ). some z) e);
            view = set_here s.views id (Given h') (at_within s.views id (Given h) m.view);
            recorded = ⊎_elim (λ (c : (x ≡ y) × (get_elem? h'.outs k ≡ get_elem? h.outs k)). c.1 ∙ (was ∙ ap (λ (z : T). some (Some z)) c.0)) (λ (c : (get_elem? h.outs k ≡ some (Some x)) × (get_elem? h'.outs k ≡ some (Some y))). c.1) c;
            slot = λ a. m.homes k n ∙ out.slot (subst (λ (g : SeatView T). among k g.hands ≡ false) (sym same) (m.hands k n a));
          })
          (λ other. let same : x ≡ y = ⊎_elim (λ (c : (x ≡ y) × (get_elem? h'.outs k ≡ get_elem? h.outs k)). c.0)
          (λ (c : (get_elem? h.outs k ≡ some (Some x)) × (get_elem? h'.outs k ≡ some (Some y))). absurd (other (one_at s.words k out.seat id out.word (r.outs id k h x m.view c.0)))) c in inr record {
            seat = out.seat;
            hold = out.hold;
            word = m.words k n ∙ out.word;
            view = set_else s.views id out.seat (Given h') other ∙ out.view;
            recorded = out.recorded ∙ ap (λ (z : T). some (Some z)) same;
            slot = λ a. m.homes k n ∙ out.slot a;
          })

      moved : Stands shown' record { words = words'; homes = homes'; views = views' }
      moved = let mine = seat_ok id h m.view in record {
        desk = r.desk;
        size = m.size ∙ r.size;
        words_size = m.words_size ∙ r.words_size;
        homes_size = m.homes_size ∙ r.homes_size;
        kept = set_else s.views id 0 (Given h') (λ z. not_kept id h m.view (sym z)) ∙ r.kept;
        count = length-set s.views id (Given h') ∙ r.count;
        below = r.below;
        once = r.once;
        seats = λ k v at. ⊎_elim (λ (t : (k ≡ id) × (Given h' ≡ v)). subst (λ (z : View T). SeatOk r.desk k z) t.1
            (t.0 ∙ (mine.0 ∙ ap (λ (z : ℕ). z + 1) (sym m.number)), subst (λ (z : ℕ). among z r.desk.joined ≡ false) (sym m.number) mine.1, m.wide ∙ mine.2))
            (λ (t : (k ≢ id) × (get_elem? s.views k ≡ some v)). r.seats k v t.1) (at_set s.views id k (Given h') v at);
        items = λ k y at. dite (ℕ_discrete k i) (λ e. subst (λ (z : ℕ). Is words' homes' views' z y) (sym e) (m.here y (subst (λ (z : ℕ). get_elem? shown' z ≡ some y) e at)))
            (λ n. let w = m.shows k y n at in carried k w.0 y n w.1 (r.items k w.0 w.1) w.2);
        outs = λ k j g y at rec. ⊎_elim (λ (t : (k ≡ id) × (Given h' ≡ Given g)). let same : h' ≡ g = ap seat_of t.1 in let rec' : get_elem? h'.outs j ≡ some (Some y) = subst (λ (z : SeatView T). get_elem? z.outs j ≡ some (Some y)) (sym same) rec in
            dite (ℕ_discrete j i) (λ e. subst (λ (z : ℕ). get_elem? words' z ≡ some k) (sym e) (m.mine_here y (subst (λ (z : ℕ). get_elem? h'.outs z ≡ some (Some y)) e rec') ∙ ap (λ (z : ℕ). some z) (sym t.0)))
            (λ n. let w = m.mine j y n rec' in m.words j n ∙ (r.outs id j h w.0 m.view w.1 ∙ ap (λ (z : ℕ). some z) (sym t.0))))
            (λ (t : (k ≢ id) × (get_elem? s.views k ≡ some (Given g))). let was = r.outs k j g y t.1 rec in
            dite (ℕ_discrete j i) (λ e. subst (λ (z : ℕ). get_elem? words' z ≡ some k) (sym e) (m.others k t.0 (not_kept k g t.1) (subst (λ (z : ℕ). get_elem? s.words z ≡ some k) e was)))
            (λ n. m.words j n ∙ was)) (at_set s.views id k (Given h') (Given g) at);
      }

module _ {T S : Type 0} (start : T → S) (journal : T → List Entry) (firsts : List T) where
  abbrev Rule : St T → Type 0
  Rule = Holds start journal firsts

  -- the turn i of a record x is out with the seat, and the item shown is x
  own_turn : (shown : List T) (s : St T) (r : Stands shown s) (id i : ℕ) (h : SeatView T) (x : T) → get_elem? s.views id ≡ some (Given h) → get_elem? h.outs i ≡ some (Some x)
      → (get_elem? shown i ≡ some x) × (get_elem? s.words i ≡ some id) × (among i h.hands ≡ false → get_elem? s.homes i ≡ some (some None))
  own_turn shown s r id i h x at rec = let word = r.outs id i h x at rec in
      let inside : i < length shown = subst (λ (z : ℕ). i < z) (r.words_size ∙ sym r.size) (at_within s.words i id word) in let y = there shown i inside in pick y.0 y.1 word (r.items i y.0 y.1)
    where
      pick : (y : T) → get_elem? shown i ≡ some y → get_elem? s.words i ≡ some id → Is s.words s.homes s.views i y → (get_elem? shown i ≡ some x) × (get_elem? s.words i ≡ some id) × (among i h.hands ≡ false → get_elem? s.homes i ≡ some (some None))
      pick y is word (inl home) = absurd (not_kept shown s r id h at (one_at s.words i id 0 word home.word))
      pick y is word (inr out) = let e : out.seat ≡ id = one_at s.words i out.seat id out.word word in
          let same : out.hold ≡ h = same_hold shown s r id out.hold h (subst (λ (z : ℕ). get_elem? s.views z ≡ some (Given out.hold)) e out.view) at in
          let was : get_elem? h.outs i ≡ some (Some y) = subst (λ (g : SeatView T). get_elem? g.outs i ≡ some (Some y)) same out.recorded in
          let record_is : y ≡ x = some_same y x (one_at h.outs i (Some y) (Some x) was rec) in
          (is ∙ ap (λ (z : T). some z) record_is, word, λ a. out.slot (subst (λ (g : SeatView T). among i g.hands ≡ false) (sym same) a))
        where
          some_same : (a b : T) → Some a ≡ Some b → a ≡ b
          some_same a b e = ap (λ (o : Option T). value o) e
            where
              value : Option T → T
              value None = a
              value (Some z) = z

  -- a step of a seat that changes no word and no item
  still : (shown : List T) (s : St T) (r : Stands shown s) (id : ℕ) (h : SeatView T) → get_elem? s.views id ≡ some (Given h) → (missed : ℕ)
      → Stands shown record { words = s.words; homes = s.homes; views = set s.views id (Given (record h { missed = missed })) }
  still shown s r id h at missed = let h' : SeatView T = record h { missed = missed } in let i : ℕ = r.desk.size in
      moved shown s r shown s.words s.homes id i h h' record {
        view = at;
        number = refl;
        wide = refl;
        size = refl;
        words_size = refl;
        homes_size = refl;
        words = λ k n. refl;
        homes = λ k n. refl;
        hands = λ k n a. a;
        shows = λ k y n e. (y, e, inl (refl, refl));
        here = λ y e. let l = at_within shown i y e in let z = r.size in absurd (omega arith);
        others = λ k n z e. e;
        mine = λ k y n e. (y, e);
        mine_here = λ y e. let l = at_within h.outs i (Some y) e in let z = (seat_ok shown s r id h at).2 in absurd (omega arith);
      }

  pub takes_turn : (slots id i new : ℕ) (me : SeatHas T) (h : SeatView T) → me ≡ (Given h, []) → new ≡ h.number + 1 → i < slots → ((x : T) → get_elem? h.outs i ≢ some (Some x))
      → Allows Rule slots id me i (λ n. either (eqb n 0) new n) (took (step slots i 0 new none) me)
  takes_turn slots id i new me h is num near free = subst (λ (m : SeatHas T). Allows Rule slots id m i (λ n. either (eqb n 0) new n) (took (step slots i 0 new none) m)) (sym is) go
    where
      go : Allows Rule slots id (Given h, []) i (λ n. either (eqb n 0) new n) (took (step slots i 0 new none) (Given h, []))
      go s held deep at _ = let shown : List T = held.0 in let r : Stands shown s = held.1 in let n : ℕ = get_or s.words i 0 in
          let inside : i < length s.words = (let a = r.words_size in let b = r.homes_size in omega arith) in
          let word : get_elem? s.words i ≡ some n = at_index_of s.words i inside in
          let ok = seat_ok shown s r id h at in let mine : new ≡ id = num ∙ sym ok.0 in
          dite (ℕ_discrete n 0)
          (λ hit. let inshown : i < length shown = (let a = r.words_size in let b = r.size in omega arith) in let item = there shown i inshown in let x : T = item.0 in
          let home = at_home x (r.items i x item.1) (word ∙ ap (λ (z : ℕ). some z) hit) in
          let h' : SeatView T = with_turn h i x in (
            Given h',
            takes i (Some x),
            home,
            subst (λ b. Rule (stepped s i (either b new n) id [] (Given h') (takes i (Some x)))) (sym (eq-eqb n 0 hit)) (
              shown,
              moved shown s r shown (set s.words i new) (set s.homes i none) id i h h' record {
                view = at;
                number = refl;
                wide = length-set h.outs i (Some x);
                size = refl;
                words_size = length-set s.words i new;
                homes_size = length-set s.homes i none;
                words = λ k a. set_else s.words i k new a;
                homes = λ k a. set_else s.homes i k none a;
                hands = λ k a e. or_right (eqb k i) (among k h.hands) e;
                shows = λ k y a e. (y, e, inl (refl, set_else h.outs i k (Some x) a));
                here = λ y e. let same : x ≡ y = one_at shown i x y item.1 e in inr record {
                  seat = id;
                  hold = h';
                  word = set_here s.words i new inside ∙ ap (λ (z : ℕ). some z) mine;
                  view = set_here s.views id (Given h') (at_within s.views id (Given h) at);
                  recorded = set_here h.outs i (Some x) (let a = r.words_size in let b = ok.2 in omega arith) ∙ ap (λ (z : T). some (Some z)) same;
                  slot = λ a. absurd (not_here i h.hands a);
                };
                others = λ k a z e. absurd (z (one_at s.words i k 0 e (word ∙ ap (λ (z : ℕ). some z) hit)));
                mine = λ k y a e. (y, sym (set_else h.outs i k (Some x) a) ∙ e);
                mine_here = λ y e. set_here s.words i new inside ∙ ap (λ (z : ℕ). some z) mine;
              },
              held.2,
            ),
            (λ _. (x, refl), λ miss. absurd (miss hit)),
          ))
          (λ miss. (
            Given (after_miss h),
            keeps,
            tt,
            subst (λ b. Rule (stepped s i (either b new n) id [] (Given (after_miss h)) keeps)) (sym (ne_eqb n 0 miss))
                (shown, subst (λ ws. Stands shown record { words = ws; homes = s.homes; views = set s.views id (Given (after_miss h)) }) (sym (set_again s.words i n word)) (still shown s r id h at (h.missed + 1)), held.2),
            ((λ hit. absurd (miss hit)), λ _. ((λ own. not_mine (own ∙ mine) word miss), refl)),
          ))
        where
          not_mine : get_or s.words i 0 ≡ id → get_elem? s.words i ≡ some (get_or s.words i 0) → get_or s.words i 0 ≢ 0 → ⊥
          not_mine e w miss = let inside : i < length held.0 = (let a = held.1.words_size in let b = held.1.size in let c = at_within s.words i (get_or s.words i 0) w in omega arith) in
              let x = there held.0 i inside in seen x.0 (held.1.items i x.0 x.1)
            where
              seen : (x : T) → Is s.words s.homes s.views i x → ⊥
              seen x (inl home) = miss (one_at s.words i (get_or s.words i 0) 0 w home.word)
              seen x (inr out) = let z : out.seat ≡ id = one_at s.words i out.seat (get_or s.words i 0) out.word w ∙ e in
                  let q : out.hold ≡ h = same_hold held.0 s held.1 id out.hold h (subst (λ (k : ℕ). get_elem? s.views k ≡ some (Given out.hold)) z out.view) at in
                  free x (subst (λ (g : SeatView T). get_elem? g.outs i ≡ some (Some x)) q out.recorded)

          at_index_of : (ws : List ℕ) (i : ℕ) → i < length ws → get_elem? ws i ≡ some (get_or ws i 0)
          at_index_of [] i l = absurd (omega arith)
          at_index_of (w ∷ ws) zero l = refl
          at_index_of (w ∷ ws) (suc i) l = at_index_of ws i (omega arith)

          at_home : (x : T) → Is s.words s.homes s.views i x → get_elem? s.words i ≡ some 0 → get_elem? s.homes i ≡ some (some (Some x))
          at_home x (inl home) w = home.slot
          at_home x (inr out) w = absurd (not_kept held.0 s held.1 out.seat out.hold out.view (one_at s.words i out.seat 0 out.word w))

  -- a load: the word keeps its value
  loads : (s : St T) (i : ℕ) {homes : Homes T} {views : List (View T)} → Rule record { words = s.words; homes = homes; views = views } → Rule record { words = set s.words i (get_or s.words i 0); homes = homes; views = views }
  loads s i {homes = homes} {views = views} h = subst (λ ws. Rule record { words = ws; homes = homes; views = views }) (sym (set-get_or s.words i 0)) h

  pub lays : (slots id i : ℕ) (me : SeatHas T) (h : SeatView T) (hs : List ℕ) (x : T) (cs : List (ℕ × Option T)) → me ≡ (Given h, (i, None) ∷ cs) → h.hands ≡ i ∷ hs → get_elem? h.outs i ≡ some (Some x)
      → Allows Rule slots id me i (λ n. n) (laid (step slots i 0 0 none) me)
  lays slots id i me h hs x cs is hand rec = subst (λ (m : SeatHas T). Allows Rule slots id m i (λ n. n) (laid (step slots i 0 0 none) m)) (sym is) go
    where
      go : Allows Rule slots id (Given h, (i, None) ∷ cs) i (λ n. n) (laid (step slots i 0 0 none) (Given h, (i, None) ∷ cs))
      go s held deep at _ = let shown : List T = held.0 in let r : Stands shown s = held.1 in let own = own_turn shown s r id i h x at rec in
          let h' : SeatView T = record h { hands = rest_of h.hands } in
          let inside : i < length s.homes = (let a = r.words_size in let b = r.homes_size in let c = at_within s.words i id own.1 in omega arith) in (
            Given h',
            gives,
            tt,
            loads s i (
              shown,
              moved shown s r shown s.words (set s.homes i (some None)) id i h h' record {
                view = at;
                number = refl;
                wide = refl;
                size = refl;
                words_size = refl;
                homes_size = length-set s.homes i (some None);
                words = λ k a. refl;
                homes = λ k a. set_else s.homes i k (some None) a;
                hands = λ k a e. subst (λ (z : List ℕ). among k z ≡ false) (sym hand) (among_else k i hs a (subst (λ (z : List ℕ). among k (rest_of z) ≡ false) hand e));
                shows = λ k y a e. (y, e, inl (refl, refl));
                here = λ y e. let same : x ≡ y = one_at shown i x y own.0 e in inr record {
                  seat = id;
                  hold = h';
                  word = own.1;
                  view = set_here s.views id (Given h') (at_within s.views id (Given h) at);
                  recorded = rec ∙ ap (λ (z : T). some (Some z)) same;
                  slot = λ a. set_here s.homes i (some None) inside;
                };
                others = λ k a z e. e;
                mine = λ k y a e. (y, e);
                mine_here = λ y e. own.1;
              },
              held.2,
            ),
            refl,
          )

  pub lifts : (slots id i : ℕ) (me : SeatHas T) (h : SeatView T) (x : T) (cs : List (ℕ × Option T)) → me ≡ (Given h, cs) → among i h.hands ≡ false → get_elem? h.outs i ≡ some (Some x)
      → Allows Rule slots id me i (λ n. n) (lifted (step slots i 0 0 none) me)
  lifts slots id i me h x cs is bare rec = subst (λ (m : SeatHas T). Allows Rule slots id m i (λ n. n) (lifted (step slots i 0 0 none) m)) (sym is) go
    where
      go : Allows Rule slots id (Given h, cs) i (λ n. n) (lifted (step slots i 0 0 none) (Given h, cs))
      go s held deep at _ = let shown : List T = held.0 in let r : Stands shown s = held.1 in let own = own_turn shown s r id i h x at rec in
          let h' : SeatView T = record h { hands = i ∷ h.hands } in (
            Given h',
            takes i None,
            own.2 bare,
            loads s i (
              shown,
              moved shown s r shown s.words (set s.homes i none) id i h h' record {
                view = at;
                number = refl;
                wide = refl;
                size = refl;
                words_size = refl;
                homes_size = length-set s.homes i none;
                words = λ k a. refl;
                homes = λ k a. set_else s.homes i k none a;
                hands = λ k a e. or_right (eqb k i) (among k h.hands) e;
                shows = λ k y a e. (y, e, inl (refl, refl));
                here = λ y e. let same : x ≡ y = one_at shown i x y own.0 e in inr record {
                  seat = id;
                  hold = h';
                  word = own.1;
                  view = set_here s.views id (Given h') (at_within s.views id (Given h) at);
                  recorded = rec ∙ ap (λ (z : T). some (Some z)) same;
                  slot = λ a. absurd (not_here i h.hands a);
                };
                others = λ k a z e. e;
                mine = λ k y a e. (y, e);
                mine_here = λ y e. own.1;
              },
              held.2,
            ),
            refl,
          )

  -- the item a goes home, as x grown by es on one item
  pub gives_one : (slots id i : ℕ) (me : SeatHas T) (h : SeatView T) (hs : List ℕ) (x a : T) (es : List Entry) → me ≡ (Given h, (i, Some a) ∷ []) → h.hands ≡ i ∷ hs → get_elem? h.outs i ≡ some (Some x)
      → start a ≡ start x → journal a ≡ journal x ++ es → AllSingle (length firsts) es
      → Allows Rule slots id me i (λ _. 0) (gave (step slots i 0 0 none) me)
  gives_one slots id i me h hs x a es is hand rec same_start grown single = subst (λ (m : SeatHas T). Allows Rule slots id m i (λ _. 0) (gave (step slots i 0 0 none) m)) (sym is) go
    where
      go : Allows Rule slots id (Given h, (i, Some a) ∷ []) i (λ _. 0) (gave (step slots i 0 0 none) (Given h, (i, Some a) ∷ []))
      go s held deep at _ = let shown : List T = held.0 in let r : Stands shown s = held.1 in let own = own_turn shown s r id i h x at rec in
          let h' : SeatView T = record h { hands = rest_of h.hands; outs = set h.outs i None } in let shown' : List T = set shown i a in
          let within = at_within s.words i id own.1 in let inside : i < length s.homes = (let b = r.words_size in let c = r.homes_size in omega arith) in
          let inshown : i < length shown = (let b = r.words_size in let c = r.size in omega arith) in
          let inouts : i < length h.outs = (let b = r.words_size in let c = (seat_ok shown s r id h at).2 in omega arith) in (
            Given h',
            gives,
            tt,
            (
              shown',
              moved shown s r shown' (set s.words i 0) (set s.homes i (some (Some a))) id i h h' record {
                view = at;
                number = refl;
                wide = length-set h.outs i None;
                size = length-set shown i a;
                words_size = length-set s.words i 0;
                homes_size = length-set s.homes i (some (Some a));
                words = λ k n. set_else s.words i k 0 n;
                homes = λ k n. set_else s.homes i k (some (Some a)) n;
                hands = λ k n e. subst (λ (z : List ℕ). among k z ≡ false) (sym hand) (among_else k i hs n (subst (λ (z : List ℕ). among k (rest_of z) ≡ false) hand e));
                shows = λ k y n e. (y, sym (set_else shown i k a n) ∙ e, inl (refl, set_else h.outs i k None n));
                here = λ y e. inl record { word = set_here s.words i 0 within; slot = set_here s.homes i (some (Some a)) inside ∙ ap (λ (z : T). some (some (Some z))) (one_at shown' i a y (set_here shown i a inshown) e) };
                others = λ k n z e. absurd (n (one_at s.words i k id e own.1));
                mine = λ k y n e. (y, sym (set_else h.outs i k None n) ∙ e);
                mine_here = λ y e. absurd (none_some y (one_at (set h.outs i None) i None (Some y) (set_here h.outs i None inouts) e));
              },
              grows_one shown r own.0 held.2,
            ),
            refl,
          )
        where
          none_some : (y : T) → None ≡ Some y → ⊥
          none_some y e = cc

          grows_one : (shown : List T) → Stands shown s → get_elem? shown i ≡ some x → IsFaithful start journal firsts shown → IsFaithful start journal firsts (set shown i a)
          grows_one shown r at_i f = grown_one start journal firsts shown i x a es at_i same_start grown single f

  -- the item a goes home, and the record of j becomes b: both grow alike on their pair
  pub gives_first : (slots id i j : ℕ) (me : SeatHas T) (h : SeatView T) (hs : List ℕ) (x a y b : T) (es fs : List Entry) → me ≡ (Given h, (i, Some a) ∷ (j, Some b) ∷ []) → h.hands ≡ i ∷ hs → i < j
      → get_elem? h.outs i ≡ some (Some x) → get_elem? h.outs j ≡ some (Some y) → start a ≡ start x → start b ≡ start y → journal a ≡ journal x ++ es → journal b ≡ journal y ++ fs
      → AllBetween (length firsts) i j es → AllBetween (length firsts) i j fs → pairing (length firsts) i j es ≡ pairing (length firsts) i j fs
      → Allows Rule slots id me i (λ _. 0) (gave (step slots i 0 0 none) me)
  gives_first slots id i j me h hs x a y b es fs is hand order rec rec_j same_i same_j grown_i grown_j first second alike =
      subst (λ (m : SeatHas T). Allows Rule slots id m i (λ _. 0) (gave (step slots i 0 0 none) m)) (sym is) go
    where
      go : Allows Rule slots id (Given h, (i, Some a) ∷ (j, Some b) ∷ []) i (λ _. 0) (gave (step slots i 0 0 none) (Given h, (i, Some a) ∷ (j, Some b) ∷ []))
      go s held deep at _ = let shown : List T = held.0 in let r : Stands shown s = held.1 in let own = own_turn shown s r id i h x at rec in let own_j = own_turn shown s r id j h y at rec_j in let apart : i ≢ j = (λ e. omega arith) in
          let mid : List (Option T) = set h.outs j (Some b) in let h' : SeatView T = record h { hands = rest_of h.hands; outs = set mid i None } in
          let shown₁ : List T = set shown j b in let shown' : List T = set shown₁ i a in
          let within = at_within s.words i id own.1 in let inside : i < length s.homes = (let l₁ = r.words_size in let l₂ = r.homes_size in omega arith) in
          let inouts : i < length mid = (let l₁ = r.words_size in let l₂ = (seat_ok shown s r id h at).2 in let l₃ = length-set h.outs j (Some b) in omega arith) in
          let inouts_j : j < length h.outs = at_within h.outs j (Some y) rec_j in
          let inshown : i < length shown₁ = (let l₁ = r.words_size in let l₂ = r.size in let l₃ = length-set shown j b in omega arith) in
          let inshown_j : j < length shown = at_within shown j y own_j.0 in (
            Given h',
            gives,
            tt,
            (
              shown',
              moved shown s r shown' (set s.words i 0) (set s.homes i (some (Some a))) id i h h' record {
                view = at;
                number = refl;
                wide = length-set mid i None ∙ length-set h.outs j (Some b);
                size = length-set shown₁ i a ∙ length-set shown j b;
                words_size = length-set s.words i 0;
                homes_size = length-set s.homes i (some (Some a));
                words = λ k n. set_else s.words i k 0 n;
                homes = λ k n. set_else s.homes i k (some (Some a)) n;
                hands = λ k n e. subst (λ (z : List ℕ). among k z ≡ false) (sym hand) (among_else k i hs n (subst (λ (z : List ℕ). among k (rest_of z) ≡ false) hand e));
                shows = λ k z n e. let e' : get_elem? shown₁ k ≡ some z = sym (set_else shown₁ i k a n) ∙ e in dite (ℕ_discrete k j)
                    (λ here. let now : b ≡ z = one_at shown₁ j b z (set_here shown j b inshown_j) (subst (λ (q : ℕ). get_elem? shown₁ q ≡ some z) here e') in (
                      y,
                      subst (λ (q : ℕ). get_elem? shown q ≡ some y) (sym here) own_j.0,
                      inr (
                        subst (λ (q : ℕ). get_elem? h.outs q ≡ some (Some y)) (sym here) rec_j,
                        set_else mid i k None n ∙ (subst (λ (q : ℕ). get_elem? mid q ≡ some (Some b)) (sym here) (set_here h.outs j (Some b) inouts_j) ∙ ap (λ (q : T). some (Some q)) now),
                      ),
                    ))
                    (λ m. (z, sym (set_else shown j k b m) ∙ e', inl (refl, set_else mid i k None n ∙ set_else h.outs j k (Some b) m)));
                here = λ z e. inl record { word = set_here s.words i 0 within; slot = set_here s.homes i (some (Some a)) inside ∙ ap (λ (z : T). some (some (Some z))) (one_at shown' i a z (set_here shown₁ i a inshown) e) };
                others = λ k n z e. absurd (n (one_at s.words i k id e own.1));
                mine = λ k z n e. let e' : get_elem? mid k ≡ some (Some z) = sym (set_else mid i k None n) ∙ e in dite (ℕ_discrete k j)
                    (λ here. (y, subst (λ (q : ℕ). get_elem? h.outs q ≡ some (Some y)) (sym here) rec_j)) (λ m. (z, sym (set_else h.outs j k (Some b) m) ∙ e'));
                mine_here = λ z e. absurd (none_some z (one_at (set mid i None) i None (Some z) (set_here mid i None inouts) e));
              },
              grown_two start journal firsts shown i j x a y b es fs order own.0 (set_else shown j i b apart ∙ own.0) own_j.0 same_i same_j grown_i grown_j first second alike held.2,
            ),
            refl,
          )
        where
          none_some : (z : T) → None ≡ Some z → ⊥
          none_some z e = cc

  -- each item's word is 0, and it is at home
  pub starts : (words : List ℕ) → words ≡ replicate (length firsts) 0 → ArePaired (map journal firsts) → Rule (opening words (map (λ x. Some x) firsts) (opened firsts))
  starts words blank paired = (
    firsts,
    record {
      desk = record { size = length firsts; given = 0; joined = [] };
      size = refl;
      words_size = ap length blank ∙ length-replicate (length firsts) 0;
      homes_size = length-map (map (λ x. Some x) firsts) (λ (x : Option T). some x) ∙ length-map firsts (λ (x : T). Some x);
      kept = refl;
      count = refl;
      below = λ m e. absurd (true≢false (sym e));
      once = tt;
      seats = λ k v e. dite (ℕ_discrete k 0) (λ z. first k v z e) (λ n. absurd (beyond k v n e));
      items = λ i x e. inl record { word = (λ t. get_elem? {A = ℕ} (blank t) i) ∙ zero_at (length firsts) i (at_within firsts i x e); slot = at_map (λ (y : Option T). some y) (map (λ x. Some x) firsts) i (Some x) (at_map (λ (y : T). Some y) firsts i x e) };
      outs = λ k i h x e. absurd (no_given k h e);
    },
    record { starts = refl; paired = paired },
  )
    where
      beyond : (k : ℕ) (v : View T) → k ≢ 0 → get_elem? (opened firsts ∷ []) k ≡ some v → ⊥
      beyond zero v n e = n refl
      beyond (suc k) v n e = some-ne-none v (sym e)

      first : (k : ℕ) (v : View T) → k ≡ 0 → get_elem? (opened firsts ∷ []) k ≡ some v → SeatOk (record { size = length firsts; given = 0; joined = [] }) k v
      first zero v z e = subst (SeatOk (record { size = length firsts; given = 0; joined = [] }) 0) (some-injective (opened firsts) v e) (refl, refl)
      first (suc k) v z e = absurd (omega arith)

      no_given : (k : ℕ) (h : SeatView T) → get_elem? (opened firsts ∷ []) k ≡ some (Given h) → ⊥
      no_given zero h e = let q : opened firsts ≡ Given h = some-injective (opened firsts) (Given h) e in cc
      no_given (suc k) h e = some-ne-none (Given h) (sym e)

      zero_at : (n i : ℕ) → i < n → get_elem? {A = ℕ} (replicate n 0) i ≡ some 0
      zero_at zero i l = absurd (omega arith)
      zero_at (suc n) zero l = refl
      zero_at (suc n) (suc i) l = zero_at n i (omega arith)

  no_out : (n i : ℕ) (x : T) → get_elem? {A = Option T} (replicate n None) i ≡ some (Some x) → ⊥
  no_out zero i x e = some-ne-none (Some x) (sym e)
  no_out (suc n) zero x e = let q : None ≡ Some x = some-injective None (Some x) e in cc
  no_out (suc n) (suc i) x e = no_out n i x e

  pub splits : (id : ℕ) (me : SeatHas T) (d : KeptView) → me ≡ (Kept d, []) → Splits Rule id me.0 (split_left me.0) (split_right me.0)
  splits id me d is = subst (λ (m : SeatHas T). Splits Rule id m.0 (split_left m.0) (split_right m.0)) (sym is) go
    where
      go : Splits Rule id (Kept d) (split_left (Kept d)) (split_right (Kept d))
      go s held at = let shown : List T = held.0 in let r : Stands shown s = held.1 in let mine = r.seats id (Kept d) at in
          (shown, cut shown s r id mine.0 d mine.1, held.2)
        where
          cut : (shown : List T) (s : St T) (r : Stands shown s) (id : ℕ) → id ≡ 0 → (d : KeptView) → d ≡ r.desk → Stands shown record { words = s.words; homes = s.homes; views = set s.views id (split_left (Kept d)) ++ split_right (Kept d) ∷ [] }
          cut shown s r id zeroth d same = subst (λ (e : KeptView). Stands shown record { words = s.words; homes = s.homes; views = set s.views id (split_left (Kept e)) ++ split_right (Kept e) ∷ [] }) (sym same)
              (let d' : KeptView = record r.desk { given = r.desk.given + 1 } in let g : SeatView T = record { number = r.desk.given; missed = 0; hands = []; marker = record {}; outs = replicate r.desk.size None } in
              let mid : List (View T) = set s.views id (Kept d') in let long : length mid ≡ r.desk.given + 1 = length-set s.views id (Kept d') ∙ r.count in
              let full : 0 < length s.views = at_within s.views 0 (Kept r.desk) r.kept in record {
                desk = d';
                size = r.size;
                words_size = r.words_size;
                homes_size = r.homes_size;
                kept = at_longer mid (Given g ∷ []) 0 (Kept d') (subst (λ (k : ℕ). get_elem? (set s.views k (Kept d')) 0 ≡ some (Kept d')) (sym zeroth) (set_here s.views 0 (Kept d') full));
                count = length-append mid (Given g ∷ []) ∙ (let e = long in omega arith);
                below = λ m e. let l = r.below m e in omega arith;
                once = r.once;
                seats = λ k v e. ⊎_elim (λ (e : get_elem? mid k ≡ some v). ⊎_elim (λ (t : (k ≡ id) × (Kept d' ≡ v)). subst (SeatOk d' k) t.1 (t.0 ∙ zeroth, refl))
                    (λ (t : (k ≢ id) × (get_elem? s.views k ≡ some v)). others k v (λ z. t.0 (z ∙ sym zeroth)) (r.seats k v t.1)) (at_set s.views id k (Kept d') v e))
                    (λ (t : (k ≡ length mid) × (Given g ≡ v)). subst (SeatOk d' k) t.1 (t.0 ∙ long, fresh r.desk.given (λ b. let l = r.below r.desk.given b in omega arith), length-replicate r.desk.size None)) (at_end mid (Given g) v k e);
                items = λ i x e. ⊎_elim (λ home. inl home) (λ (out : IsOut s.words s.homes s.views i x). inr record {
                  seat = out.seat;
                  hold = out.hold;
                  word = out.word;
                  view = at_longer mid (Given g ∷ []) out.seat (Given out.hold) (set_else s.views id out.seat (Kept d') (λ z. not_kept shown s r out.seat out.hold out.view (z ∙ zeroth)) ∙ out.view);
                  recorded = out.recorded;
                  slot = out.slot;
                }) (r.items i x e);
                outs = λ k i h x e rec. ⊎_elim (λ (e : get_elem? mid k ≡ some (Given h)). ⊎_elim (λ (t : (k ≡ id) × (Kept d' ≡ Given h)). absurd (kept_given d' h t.1))
                    (λ (t : (k ≢ id) × (get_elem? s.views k ≡ some (Given h))). r.outs k i h x t.1 rec) (at_set s.views id k (Kept d') (Given h) e))
                    (λ (t : (k ≡ length mid) × (Given g ≡ Given h)). absurd (no_out r.desk.size i x (subst (λ (q : SeatView T). get_elem? q.outs i ≡ some (Some x)) (sym (ap seat_of t.1)) rec))) (at_end mid (Given g) (Given h) k e);
              })
            where
              kept_given : (d : KeptView) (h : SeatView T) → Kept d ≡ Given h → ⊥
              kept_given d h e = cc

              others : (k : ℕ) (v : View T) → k ≢ 0 → SeatOk r.desk k v → SeatOk (record r.desk { given = r.desk.given + 1 }) k v
              others k (Kept e) n o = absurd (n o.0)
              others k (Given h) n o = o
              others k Spent n o = o

              fresh : (m : ℕ) → (among m r.desk.joined ≡ true → ⊥) → among m r.desk.joined ≡ false
              fresh m f = decide (among m r.desk.joined) f
                where
                  decide : (b : Bool) → (b ≡ true → ⊥) → b ≡ false
                  decide true f = absurd (f refl)
                  decide false f = refl

  pub joins : (id other : ℕ) (v w : View T) (d : KeptView) (h : SeatView T) → v ≡ Kept d → w ≡ Given h → ((i : ℕ) (x : T) → get_elem? h.outs i ≢ some (Some x)) → Joins Rule id v other w (seat_joined v w) Spent
  joins id other v w d h is_v is_w free = subst (λ (p : View T × View T). Joins Rule id p.0 other p.1 (seat_joined p.0 p.1) Spent) (λ t. (sym is_v t, sym is_w t)) go
    where
      go : Joins Rule id (Kept d) other (Given h) (seat_joined (Kept d) (Given h)) Spent
      go s held at apart there_too = let shown : List T = held.0 in let r : Stands shown s = held.1 in let mine = r.seats id (Kept d) at in
          (shown, paste shown s r id mine.0 d mine.1 apart (sym (set_else s.views id other (seat_joined (Kept d) (Given h)) apart) ∙ there_too), held.2)
        where
          paste : (shown : List T) (s : St T) (r : Stands shown s) (id : ℕ) → id ≡ 0 → (d : KeptView) → d ≡ r.desk → ¬ (other ≡ id) → get_elem? s.views other ≡ some (Given h)
              → Stands shown record { words = s.words; homes = s.homes; views = set (set s.views id (seat_joined (Kept d) (Given h))) other Spent }
          paste shown s r id zeroth d same apart away = subst (λ (e : KeptView). Stands shown record { words = s.words; homes = s.homes; views = set (set s.views id (seat_joined (Kept e) (Given h))) other Spent }) (sym same)
              (let d' : KeptView = record r.desk { joined = h.number ∷ r.desk.joined } in let mid : List (View T) = set s.views id (Kept d') in let ok = seat_ok shown s r other h away in
              let full : 0 < length s.views = at_within s.views 0 (Kept r.desk) r.kept in let within = at_within s.views other (Given h) away in record {
                desk = d';
                size = r.size;
                words_size = r.words_size;
                homes_size = r.homes_size;
                kept = set_else mid other 0 Spent (λ z. not_kept shown s r other h away (sym z)) ∙ subst (λ (k : ℕ). get_elem? (set s.views k (Kept d')) 0 ≡ some (Kept d')) (sym zeroth) (set_here s.views 0 (Kept d') full);
                count = length-set mid other Spent ∙ (length-set s.views id (Kept d') ∙ r.count);
                below = λ m e. dite (ℕ_discrete m h.number) (λ q. let l₁ = ok.0 in let l₂ = r.count in omega arith) (λ n. r.below m (sym (λ t. ne_eqb m h.number n t || among m r.desk.joined) ∙ e));
                once = (ok.1, r.once);
                seats = λ k v e. ⊎_elim (λ (t : (k ≡ other) × (Spent ≡ v)). subst (SeatOk d' k) t.1 (h.number, t.0 ∙ ok.0, (λ t. eq-eqb h.number h.number refl t || among h.number r.desk.joined)))
                    (λ (t : (k ≢ other) × (get_elem? mid k ≡ some v)). ⊎_elim (λ (u : (k ≡ id) × (Kept d' ≡ v)). subst (SeatOk d' k) u.1 (u.0 ∙ zeroth, refl))
                    (λ (u : (k ≢ id) × (get_elem? s.views k ≡ some v)). others k v (λ z. u.0 (z ∙ sym zeroth)) (λ z. t.0 (z ∙ sym ok.0)) (r.seats k v u.1)) (at_set s.views id k (Kept d') v t.1)) (at_set mid other k Spent v e);
                items = λ i x e. ⊎_elim (λ home. inl home) (λ (out : IsOut s.words s.homes s.views i x). inr record {
                  seat = out.seat;
                  hold = out.hold;
                  word = out.word;
                  view = set_else mid other out.seat Spent (λ z. let q : out.hold ≡ h = same_hold shown s r other out.hold h (subst (λ (k : ℕ). get_elem? s.views k ≡ some (Given out.hold)) z out.view) away in
                      free i x (subst (λ (g : SeatView T). get_elem? g.outs i ≡ some (Some x)) q out.recorded))
                      ∙ (set_else s.views id out.seat (Kept d') (λ z. not_kept shown s r out.seat out.hold out.view (z ∙ zeroth)) ∙ out.view);
                  recorded = out.recorded;
                  slot = out.slot;
                }) (r.items i x e);
                outs = λ k i g x e rec. ⊎_elim (λ (t : (k ≡ other) × (Spent ≡ Given g)). absurd (spent_given g t.1))
                    (λ (t : (k ≢ other) × (get_elem? mid k ≡ some (Given g))). ⊎_elim (λ (u : (k ≡ id) × (Kept d' ≡ Given g)). absurd (kept_given d' g u.1))
                    (λ (u : (k ≢ id) × (get_elem? s.views k ≡ some (Given g))). r.outs k i g x u.1 rec) (at_set s.views id k (Kept d') (Given g) t.1)) (at_set mid other k Spent (Given g) e);
              })
            where
              kept_given : (d : KeptView) (h : SeatView T) → Kept d ≡ Given h → ⊥
              kept_given d h e = cc

              spent_given : (g : SeatView T) → Spent ≡ Given g → ⊥
              spent_given g e = cc

              others : (k : ℕ) (v : View T) → k ≢ 0 → k ≢ h.number + 1 → SeatOk r.desk k v → SeatOk (record r.desk { joined = h.number ∷ r.desk.joined }) k v
              others k (Kept e) n m o = absurd (n o.0)
              others k (Given g) n m o = (o.0, among_else g.number h.number r.desk.joined (λ z. m (o.0 ∙ ap (λ (q : ℕ). q + 1) z)) o.1, o.2)
              others k Spent n m o = (o.0, o.1, or_true (eqb o.0 h.number) (among o.0 r.desk.joined) o.2)

  -- where all seats are joined, each item is at home
  pub all_home : (ws : List ℕ) (xs : List (Option T)) (id : ℕ) (v : View T) (d : KeptView) → v ≡ Kept d → ((m : ℕ) → m < d.given → among m d.joined ≡ true) → Final (Seen Rule id v) ws xs
      → (shown : List T) × (xs ≡ map (λ x. Some x) shown) × IsFaithful start journal firsts shown
  all_home ws xs id v d is all end = let s : St T = end.0 in let shown : List T = end.1.0.0 in let r : Stands shown s = end.1.0.1 in
      let at : get_elem? s.views id ≡ some (Kept d) = end.1.1 ∙ ap (λ z. some z) is in let same : d ≡ r.desk = (r.seats id (Kept d) at).1 in (
        shown,
        same_items xs shown (sym end.3 ∙ (r.homes_size ∙ sym r.size))
            (λ i x e. end.4 i (Some x) (home_of s shown r (λ m l. subst (λ (q : KeptView). m < q.given → among m q.joined ≡ true) same (all m) l) i x (r.items i x e))),
        end.1.0.2,
      )
    where
      home_of : (s : St T) (shown : List T) (r : Stands shown s) → ((m : ℕ) → m < r.desk.given → among m r.desk.joined ≡ true) → (i : ℕ) (x : T) → Is s.words s.homes s.views i x → get_elem? s.homes i ≡ some (some (Some x))
      home_of s shown r all i x (inl home) = home.slot
      home_of s shown r all i x (inr out) = let ok = seat_ok shown s r out.seat out.hold out.view in let l = at_within s.views out.seat (Given out.hold) out.view in let c = r.count in let o = ok.0 in
          absurd (true≢false (sym (all out.hold.number (omega arith)) ∙ ok.1))

      same_items : (xs : List (Option T)) (ys : List T) → length xs ≡ length ys → ((i : ℕ) (y : T) → get_elem? ys i ≡ some y → get_elem? xs i ≡ some (Some y)) → xs ≡ map (λ x. Some x) ys
      same_items [] [] l f = refl
      same_items [] (y ∷ ys) l f = absurd (omega arith)
      same_items (x ∷ xs) [] l f = absurd (omega arith)
      same_items (x ∷ xs) (y ∷ ys) l f = let e : x ≡ Some y = some-injective x (Some y) (f 0 y refl) in let es = same_items xs ys (omega arith) (λ i z q. f (suc i) z q) in λ t. e t ∷ es t
