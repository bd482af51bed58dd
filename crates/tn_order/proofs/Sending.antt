-- The sends of a machine's history go to destinations of the machine, and each origin's sends have rising numbers.
use Rattle.std.proofs.Common.{ℕ, zero, suc, ◌≡◌, ◌≤◌, ◌<◌, ◌+◌, ◌%◌, ◌^◌, true, refl, sym, ◌∙◌, ap, subst, inl, inr, arith, List, [], ◌∷◌, ◌++◌, get_or, set, map, IsTrue, Option, Some, unwrap_or}
use Rattle.std.specs.Prelude.{◌⊎◌}
use Rattle.std.specs.List.{AllByRecursion, flat_map}
use Rattle.std.proofs.lemmas.List.{get_or-set_same, set-get_or}
use Rattle.tn_base.specs.declared.message.Dest.{Dest}
use Rattle.tn_base.specs.declared.message.Letter.{Letter}
use Rattle.tn_base.specs.declared.op.Op.{Op}
use Rattle.tn_base.specs.declared.op.Op.TheVariants as op
use Rattle.tn_base.specs.declared.shape.ShapeNumbers.{ShapeNumbers}
use Rattle.tn_base.specs.Address.{has_thread}
use Rattle.tn_base.specs.Message.{has_dest}
use Rattle.tn_rows.specs.PartView.{AbsentV}
use Rattle.tn_rows.specs.WorldView.{WorldView}
use Rattle.tn_thread.specs.declared.thread.Thread.{Thread}
use Rattle.tn_thread.specs.Step.{Stepped}
use Rattle.tn_tile.specs.declared.state.TileState.{TileState}
use Rattle.tn_tile.specs.Step.{acted, can_step, no_thread, step_at_place, stepped, steps_of, thread_at, with_thread}
use Rattle.tn_tile.specs.TileView.{TileView, with_now}
use Rattle.tn_tile.proofs.Steps.{taken}
use Rattle.tn_letters.specs.declared.steps.BagStep.TheVariants as bag
use Rattle.tn_letters.specs.Letters.{host_address}
use Rattle.tn_letters.specs.Steps.{after_step, dropped_by, first_letter, queued, seen_at, step_by, thread_step}
use Rattle.tn_letters.specs.Tiles.{host_on, program_of, thread_in, thread_of}
use Rattle.tn_letters.proofs.Lift.{GoodTile, on_new, tile_on, twice, with_tile}
use Rattle.tn_letters.proofs.Simulate.{Place, Sizes, op_fits, read, sizes}
use Rattle.tn_letters.proofs.Threads.{step_reached}
use Rattle.tn_order.specs.Acts.{Act, Sent, Handed, Dropped, AmongActs, Rises, sent_with}
use Rattle.tn_order.specs.History.{behind, step_acts, step_ends, turn_acts}
use Rattle.tn_order.specs.Numbers.{Counts, IsNoSend}
use Rattle.tn_order.proofs.Acting.{behind_join}
use Rattle.tn_order.proofs.Counted.{AllEnough, few_steps, run_enough}
use Rattle.tn_order.proofs.Numbers.{next_counts}
use Rattle.tn_order.proofs.Rising.{host_no_thread, run_host, run_sends}

-- a send goes to a destination of the machine, with a number above all before of its origin
abbrev pub IsGoodAct : ShapeNumbers → List Act → Act → Type 0
IsGoodAct n past (Sent t k to) = IsTrue (has_dest n to) × Rises past (Sent t k to)
IsGoodAct n past (Handed t k a) = Unit {0}
IsGoodAct n past (Dropped t k a) = Unit {0}

abbrev pub AreGood : ShapeNumbers → List Act → List Act → Type 0
AreGood n past [] = Unit {0}
AreGood n past (x ∷ xs) = IsGoodAct n past x × AreGood n (x ∷ past) xs

pub good_join : (n : ShapeNumbers) (xs ys past : List Act) → AreGood n past xs → AreGood n (behind xs past) ys → AreGood n past (xs ++ ys)
good_join n [] ys past a b = b
good_join n (x ∷ xs) ys past a b = (a.0, good_join n xs ys (x ∷ past) a.1 b)

-- each send so far has a number below the count of its origin
abbrev pub Below : List Act → WorldView → Type 0
Below past w = (a k : ℕ) (d : Dest) → AmongActs (Sent a k d) past → ((a ≡ host_address) × (k < (host_on w).sends)) ⊎ (IsTrue (has_thread w.shape a) × (k < (thread_of w a).sends))

-- acts without a send
abbrev pub NoSend : Act → Type 0
NoSend (Sent t k to) = ⊥
NoSend (Handed t k a) = Unit {0}
NoSend (Dropped t k a) = Unit {0}

pub none_good : (n : ShapeNumbers) (xs past : List Act) → AllByRecursion NoSend xs → AreGood n past xs
none_good n [] past h = tt
none_good n (Sent t k to ∷ xs) past h = absurd h.0
none_good n (Handed t k a ∷ xs) past h = (tt, none_good n xs (Handed t k a ∷ past) h.1)
none_good n (Dropped t k a ∷ xs) past h = (tt, none_good n xs (Dropped t k a ∷ past) h.1)

pub none_among : (xs past : List Act) (a k : ℕ) (d : Dest) → AllByRecursion NoSend xs → AmongActs (Sent a k d) (behind xs past) → AmongActs (Sent a k d) past
none_among [] past a k d h i = i
none_among (Sent t l to ∷ xs) past a k d h i = absurd h.0
none_among (Handed t l r ∷ xs) past a k d h i = elim (none_among xs (Handed t l r ∷ past) a k d h.1 i) [ inl e ↦ cc e | inr j ↦ j ]
none_among (Dropped t l r ∷ xs) past a k d h i = elim (none_among xs (Dropped t l r ∷ past) a k d h.1 i) [ inl e ↦ cc e | inr j ↦ j ]

-- ---- what machines count

pub record Grew (w new : WorldView) : Type 0 where
  pub shape : new.shape ≡ w.shape
  pub threads : (a : ℕ) → IsTrue (has_thread w.shape a) → (thread_of w a).sends ≤ (thread_of new a).sends
  pub host : (host_on w).sends ≤ (host_on new).sends

pub below_grew : (past : List Act) (w new : WorldView) → Grew w new → Below past w → Below past new
below_grew past w new g below a k d i = elim (below a k d i) [
  | inl e ↦ (let l = e.1 in let m = g.host in inl (e.0, omega arith))
  | inr e ↦ (let l = e.1 in let m = g.threads a e.0 in inr (subst (λ n. IsTrue (has_thread n a)) (sym g.shape) e.0, omega arith))
]

-- the thread after its step
acted_threads : (k : ℕ) (t : Thread) (o : Op) (s : TileState) → (acted k t o s).threads ≡ s.threads
acted_threads k t op.None s = refl
acted_threads k t (op.Send to bytes) s = refl
acted_threads k t op.Hand s = refl
acted_threads k t (op.Free slot) s = refl
acted_threads k t (op.Idle vote) s = refl
acted_threads k t (op.Kill value) s = refl
acted_threads k t (op.Trap why) s = refl

-- ---- one step of a thread

pub record Stepping (past : List Act) (w mid : WorldView) (acts : List Act) : Type 0 where
  pub good : AreGood w.shape past acts
  pub below : Below (behind acts past) mid
  pub enough : AllEnough mid

ends_none : (a : ℕ) (v : TileView) (k : ℕ) (o : Op) → AllByRecursion NoSend (flat_map step_ends (step_by a (seen_at v k) (first_letter v k) o ∷ dropped_by (queued v k) o))
ends_none a v k op.None = tt
ends_none a v k (op.Send to bytes) = tt
ends_none a v k op.Hand = (tt, tt)
ends_none a v k (op.Free slot) = tt
ends_none a v k (op.Idle vote) = tt
ends_none a v k (op.Kill value) = by (queued v k)
  where
    by : (ls : List Letter) → AllByRecursion NoSend (flat_map step_ends (map bag.Discard ls))
    by [] = tt
    by (l ∷ ls) = (tt, by ls)
ends_none a v k (op.Trap why) = tt

no_sent : (a number : ℕ) (o : Op) → IsNoSend o → sent_with a number o ≡ []
no_sent a number op.None h = refl
no_sent a number (op.Send to bytes) h = absurd h
no_sent a number op.Hand h = refl
no_sent a number (op.Free slot) h = refl
no_sent a number (op.Idle vote) h = refl
no_sent a number (op.Kill value) h = refl
no_sent a number (op.Trap why) h = refl

same_sent : (a b k l : ℕ) (d e : Dest) → Sent a k d ≡ Sent b l e → (a ≡ b) × (k ≡ l)
same_sent a b k l d e h = (cc h, cc h)

-- what is known of the machine after a step of a thread
record StepFacts (past : List Act) (w mid : WorldView) (a k : ℕ) (v : TileView) (made : Stepped) : Type 0 where
  pub there : IsTrue (has_thread w.shape a)
  pub later : Below past mid
  pub more : AllEnough mid
  pub was : (thread_of w a).sends ≡ (thread_at v.now k).sends
  pub was_steps : (thread_of w a).steps ≡ (thread_at v.now k).steps
  pub enough : (thread_of w a).sends ≤ (thread_of w a).steps
  pub now : (thread_of mid a).sends ≡ made.thread.sends
  pub now_steps : (thread_of mid a).steps ≡ made.thread.steps
  pub few : (thread_of mid a).steps < 2 ^ 32
  pub shape : mid.shape ≡ w.shape

step_facts : (past : List Act) (w : WorldView) (p a k : ℕ) (v : TileView) → Place w p v a k → can_step v.plan.shape.fuel k v.now ≡ true → AllEnough w → Below past w → StepFacts past w (with_tile w p (after_step k v)) a k v (step_at_place v.plan.code k v.now)
step_facts past w p a k v c can enough below =
    let one = step_reached (λ b. []) [] w p a k v c can in
    let mid : WorldView = with_tile w p (after_step k v) in
    let z : Sizes w v k = sizes w p a k v c in
    let made : Stepped = step_at_place v.plan.code k v.now in
    let few : (b : ℕ) → IsTrue (has_thread w.shape b) → (thread_of mid b).steps < 2 ^ 32 = λ b there. let f = few_steps mid b one.good there in let g = c.good.limits.fuel in omega arith in
    let grew : Grew w mid = record {
      shape = refl;
      threads = λ b there. run_sends (program_of w) (thread_step a k v) _ _ b there one.run enough few;
      host = run_host (program_of w) (thread_step a k v) _ _ one.run;
    } in
    let there : Place mid p (after_step k v) a k = record { good = one.good; on = on_new w p v (after_step k v) c.on; stands = record { there = c.stands.there; tile = c.stands.tile; place = c.stands.place } } in
    let now_at : thread_at (after_step k v).now k ≡ made.thread = ap (λ ts. get_or ts k no_thread) (acted_threads k (thread_at v.now k) made.op (with_thread k made.thread v.now)) ∙ get_or-set_same v.now.threads k made.thread no_thread z.threads in
    record {
      there = c.stands.there;
      later = below_grew past w mid grew below;
      more = run_enough (program_of w) (thread_step a k v) _ _ one.run enough;
      was = read (λ x j. (thread_in x j).sends) w p a k v c;
      was_steps = read (λ x j. (thread_in x j).steps) w p a k v c;
      enough = enough a c.stands.there;
      now = read (λ x j. (thread_in x j).sends) mid p a k (after_step k v) there ∙ ap (λ (t : Thread). t.sends) now_at;
      now_steps = read (λ x j. (thread_in x j).steps) mid p a k (after_step k v) there ∙ ap (λ (t : Thread). t.steps) now_at;
      few = few a c.stands.there;
      shape = refl;
    }

abbrev acts_of_op : ℕ → ℕ → TileView → Op → List Act
acts_of_op a k v o = sent_with a (thread_at v.now k).sends o ++ flat_map step_ends (step_by a (seen_at v k) (first_letter v k) o ∷ dropped_by (queued v k) o)

quiet_step : (past acts : List Act) (w mid : WorldView) → AllByRecursion NoSend acts → Below past mid → AllEnough mid → Stepping past w mid acts
quiet_step past acts w mid quiet later more = record { good = none_good w.shape acts past quiet; below = λ b m d i. later b m d (none_among acts past b m d quiet i); enough = more }

send_step : (past : List Act) (w mid : WorldView) (a k : ℕ) (v : TileView) (made : Stepped) (to : Dest) → IsTrue (has_dest w.shape to) → Below past w → StepFacts past w mid a k v made → made.thread.sends ≡ ((thread_at v.now k).sends + 1) % 2 ^ 32 → made.thread.steps ≡ (thread_at v.now k).steps + 1 → Stepping past w mid (Sent a (thread_at v.now k).sends to ∷ [])
send_step past w mid a k v made to fits below f sends steps =
    let was = f.was in
    let was_steps = f.was_steps in
    let enough = f.enough in
    let now = f.now in
    let now_steps = f.now_steps in
    let few = f.few in
    let next : (thread_at v.now k).sends < (thread_of mid a).sends = omega arith in
    record {
      good = (
        (
          fits,
          λ m d i. elim (below a m d i) [
            | inl e ↦ host_no_thread w.shape a f.there e.0
            | inr e ↦ (let l = e.1 in omega arith)
          ],
        ),
        tt,
      );
      below = λ b m d i. elim i [
        | inr j ↦ f.later b m d j
        | inl e ↦ (let same = same_sent b a m (thread_at v.now k).sends d to e in let at = same.0 in let num = same.1 in
            inr (subst (λ n. IsTrue (has_thread n b)) (sym f.shape) (subst (λ x. IsTrue (has_thread w.shape x)) (sym at) f.there), subst (λ x. m < (thread_of mid x).sends) (sym at) (omega arith)))
      ];
      enough = f.more;
    }

step_done : (past : List Act) (w mid : WorldView) (a k : ℕ) (v : TileView) (o : Op) → (step_at_place v.plan.code k v.now).op ≡ o → ((to : Dest) (bytes : List ℕ) → o ≡ op.Send to bytes → IsTrue (has_dest w.shape to)) → Below past w → StepFacts past w mid a k v (step_at_place v.plan.code k v.now) → Counts (thread_at v.now k) (step_at_place v.plan.code k v.now) →
    Stepping past w mid (acts_of_op a k v o)
step_done past w mid a k v (op.Send to bytes) e fits below f (inr c) = send_step past w mid a k v (step_at_place v.plan.code k v.now) to (fits to bytes refl) below f c.0 c.1
step_done past w mid a k v (op.Send to bytes) e fits below f (inl c) = absurd (subst IsNoSend e c.2)
step_done past w mid a k v op.None e fits below f c = quiet_step past _ w mid (ends_none a v k op.None) f.later f.more
step_done past w mid a k v op.Hand e fits below f c = quiet_step past _ w mid (ends_none a v k op.Hand) f.later f.more
step_done past w mid a k v (op.Free slot) e fits below f c = quiet_step past _ w mid (ends_none a v k (op.Free slot)) f.later f.more
step_done past w mid a k v (op.Idle vote) e fits below f c = quiet_step past _ w mid (ends_none a v k (op.Idle vote)) f.later f.more
step_done past w mid a k v (op.Kill value) e fits below f c = quiet_step past _ w mid (ends_none a v k (op.Kill value)) f.later f.more
step_done past w mid a k v (op.Trap why) e fits below f c = quiet_step past _ w mid (ends_none a v k (op.Trap why)) f.later f.more

step_good : (past : List Act) (w : WorldView) (p a k : ℕ) (v : TileView) → Place w p v a k → can_step v.plan.shape.fuel k v.now ≡ true → AllEnough w → Below past w → Stepping past w (with_tile w p (after_step k v)) (step_acts a k v)
step_good past w p a k v c can enough below =
    let good : GoodTile w.shape p v = tile_on w p v c.good c.on in
    let z : Sizes w v k = sizes w p a k v c in
    let shape : (thread_at v.now k).shape ≡ w.shape = (good.shaped.fits.threads.each k z.below).shape ∙ good.shape in
    step_done past w (with_tile w p (after_step k v)) a k v (step_at_place v.plan.code k v.now).op refl
    (λ to bytes e. subst (λ n. IsTrue (has_dest n to)) shape (op_fits v k (op.Send to bytes) can e).1)
    below (step_facts past w p a k v c can enough below) (next_counts v.plan.code _ (thread_at v.now k))

-- ---- a turn

pub turn_good : (n : ℕ) (past : List Act) (w : WorldView) (p a k : ℕ) (v : TileView) (new : TileState) → Place w p v a k → steps_of v.plan k n v.now ≡ Some new → AllEnough w → Below past w → Stepping past w (with_tile w p (with_now v new)) (turn_acts a k n v)
unfolding steps_of turn_acts
turn_good zero past w p a k v new c is enough below =
    let same : v.now ≡ new = ap (λ (o : Option TileState). unwrap_or o new) is in
    let back : w ≡ with_tile w p v = ap (λ ps. record w { parts = ps }) (sym (ap (λ x. set w.parts p x) (sym c.on.is) ∙ set-get_or w.parts p AbsentV)) in
    subst (λ x. Stepping past w (with_tile w p (with_now v x)) []) same (subst (λ (x : WorldView). Stepping past w x []) back (record { good = tt; below = below; enough = enough }))
turn_good (suc n) past w p a k v new c is enough below =
    let first = taken (can_step v.plan.shape.fuel k v.now) (steps_of v.plan k n (stepped v.plan.code k v.now)) new is in
    let mid : WorldView = with_tile w p (after_step k v) in
    let one = step_reached (λ b. []) [] w p a k v c first.0 in
    let there : Place mid p (after_step k v) a k = record { good = one.good; on = on_new w p v (after_step k v) c.on; stands = record { there = c.stands.there; tile = c.stands.tile; place = c.stands.place } } in
    let s = step_good past w p a k v c first.0 enough below in
    let t = turn_good n (behind (step_acts a k v) past) mid p a k (after_step k v) new there first.1 s.enough s.below in
    subst (λ (x : WorldView). Stepping past w x (step_acts a k v ++ turn_acts a k n (after_step k v))) (twice w p (after_step k v) (with_now v new)) (record {
      good = good_join w.shape (step_acts a k v) (turn_acts a k n (after_step k v)) past s.good t.good;
      below = subst (λ l. Below l (with_tile mid p (with_now v new))) (sym (behind_join (step_acts a k v) (turn_acts a k n (after_step k v)) past)) t.below;
      enough = t.enough;
    })
