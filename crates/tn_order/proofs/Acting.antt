-- What was done, as the numbers that are meant.
use Rattle.std.proofs.Common.{ℕ, ◌≡◌, ◌==◌, ◌&&◌, Bool, true, false, cond, refl, sym, ◌∙◌, ap, subst, inl, inr, List, [], ◌∷◌, ◌++◌}
use Rattle.std.proofs.lemmas.Bool.{eq-eqb}
use Rattle.tn_base.specs.declared.message.Dest.{Dest}
use Rattle.tn_base.specs.declared.shape.ShapeNumbers.{ShapeNumbers}
use Rattle.tn_order.specs.Acts.{Act, Sent, Handed, Dropped}
use Rattle.tn_order.specs.History.{behind, gone_of, sent_of}
use Rattle.tn_order.specs.Kept.{Kept, world_of}
use Rattle.tn_order.specs.Net.{In, Net}
use Rattle.tn_order.specs.Order.{Ordered}
use Rattle.tn_order.specs.Spots.{Item, Spot}

pub behind_join : (xs ys past : List Act) → behind (xs ++ ys) past ≡ behind ys (behind xs past)
behind_join [] ys past = refl
behind_join (x ∷ xs) ys past = behind_join xs ys (x ∷ past)

-- what is gone stays gone
in_cond : (b : Bool) (m k : ℕ) (xs : List ℕ) → In m xs → In m (cond b (k ∷ xs) xs)
in_cond true m k xs i = inr i
in_cond false m k xs i = i

pub gone_step : (mine : ℕ → ℕ → Bool) (receiver m : ℕ) (x : Act) (past : List Act) → In m (gone_of mine receiver past) → In m (gone_of mine receiver (x ∷ past))
gone_step mine receiver m (Sent s n to) past i = i
gone_step mine receiver m (Handed s n a) past i = in_cond (mine s n && a == receiver) m n (gone_of mine receiver past) i
gone_step mine receiver m (Dropped s n a) past i = in_cond (mine s n && a == receiver) m n (gone_of mine receiver past) i

pub gone_later : (mine : ℕ → ℕ → Bool) (receiver m : ℕ) (xs past : List Act) → In m (gone_of mine receiver past) → In m (gone_of mine receiver (behind xs past))
gone_later mine receiver m [] past i = i
gone_later mine receiver m (x ∷ xs) past i = gone_later mine receiver m xs (x ∷ past) (gone_step mine receiver m x past i)

both_true : (b : Bool) (a receiver : ℕ) → b ≡ true → a ≡ receiver → (b && a == receiver) ≡ true
both_true b a receiver e f = ap (λ x. x && a == receiver) e ∙ eq-eqb a receiver f

both_false : (b c : Bool) → b ≡ false → (b && c) ≡ false
both_false b c e = ap (λ x. x && c) e

-- a letter that is meant, for the receiver, is gone with its act
pub gone_adds : (mine : ℕ → ℕ → Bool) (receiver s n a : ℕ) (past : List Act) → mine s n ≡ true → a ≡ receiver → gone_of mine receiver (Handed s n a ∷ past) ≡ n ∷ gone_of mine receiver past
gone_adds mine receiver s n a past e f = ap (λ b. cond b (n ∷ gone_of mine receiver past) (gone_of mine receiver past)) (both_true (mine s n) a receiver e f)

pub gone_stays : (mine : ℕ → ℕ → Bool) (receiver s n a : ℕ) (past : List Act) → mine s n ≡ false → gone_of mine receiver (Handed s n a ∷ past) ≡ gone_of mine receiver past
gone_stays mine receiver s n a past e = ap (λ b. cond b (n ∷ gone_of mine receiver past) (gone_of mine receiver past)) (both_false (mine s n) (a == receiver) e)

pub dropped_in : (mine : ℕ → ℕ → Bool) (receiver s n a : ℕ) (past : List Act) → mine s n ≡ true → a ≡ receiver → In n (gone_of mine receiver (Dropped s n a ∷ past))
dropped_in mine receiver s n a past e f = subst (λ l. In n l) (sym (ap (λ b. cond b (n ∷ gone_of mine receiver past) (gone_of mine receiver past)) (both_true (mine s n) a receiver e f))) (inl refl)

pub sent_adds : (mine : ℕ → ℕ → Bool) (s n : ℕ) (to : Dest) (past : List Act) → mine s n ≡ true → sent_of mine (Sent s n to ∷ past) ≡ n ∷ sent_of mine past
sent_adds mine s n to past e = ap (λ b. cond b (n ∷ sent_of mine past) (sent_of mine past)) e

pub sent_stays : (mine : ℕ → ℕ → Bool) (s n : ℕ) (to : Dest) (past : List Act) → mine s n ≡ false → sent_of mine (Sent s n to ∷ past) ≡ sent_of mine past
sent_stays mine s n to past e = ap (λ b. cond b (n ∷ sent_of mine past) (sent_of mine past)) e

-- more may be gone
pub more_gone : (n : ShapeNumbers) (net : Net Spot) (goal : Dest) (mine : ℕ → ℕ → Bool) (f : Spot → List Item) (sent gone left : List ℕ) → ((m : ℕ) → In m gone → In m left) → Kept n net goal mine f sent gone → Kept n net goal mine f sent left
more_gone n net goal mine f sent gone left more k =
    let o : Ordered net (world_of mine f sent gone) = k.order in
    record {
      order = record {
        letters = o.letters;
        shows = o.shows;
        on_way = o.on_way;
        ahead = o.ahead;
        in_turn = o.in_turn;
        known = o.known;
        kept = λ m i. elim (o.kept m i) [ inl g ↦ inl (more m g) | inr h ↦ inr h ];
      };
      all = k.all;
    }
