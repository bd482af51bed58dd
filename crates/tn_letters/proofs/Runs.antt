-- Runs of the bag machine: joined, begun at a state that is the same, and letters that are dropped one after another.
use Rattle.std.proofs.Common.{◌≡◌, true, List, [], ◌∷◌, ◌++◌, map, refl, sym, ◌∙◌, ap, subst, IsTrue, append-nil}
use Rattle.tn_base.specs.declared.message.Letter.{Letter}
use Rattle.tn_base.specs.declared.shape.ShapeNumbers.{ShapeNumbers}
use Rattle.tn_base.specs.Address.{has_thread}
use Rattle.tn_tile.specs.Receivers.{is_dead}
use Rattle.tn_letters.specs.declared.steps.BagStep.{BagStep}
use Rattle.tn_letters.specs.declared.steps.BagStep.TheVariants as bag
use Rattle.tn_letters.specs.Machine.{BagRun}
use Rattle.tn_letters.specs.State.{BagState, Program, Same}

pub same_refl : (n : ShapeNumbers) (s : BagState) → Same n s s
same_refl n s = record {
  threads = λ a h. refl;
  flight = record { each = λ test. refl };
  got = λ a h. refl;
  held = λ a slot h. refl;
  dropped = refl;
  host = refl;
  script = refl;
  host_sends = refl;
  announcements = refl;
}

pub same_then : (n : ShapeNumbers) (s t u : BagState) → Same n s t → Same n t u → Same n s u
same_then n s t u x y = record {
  threads = λ a h. x.threads a h ∙ y.threads a h;
  flight = record { each = λ test. x.flight.each test ∙ y.flight.each test };
  got = λ a h. x.got a h ∙ y.got a h;
  held = λ a slot h. x.held a slot h ∙ y.held a slot h;
  dropped = x.dropped ∙ y.dropped;
  host = x.host ∙ y.host;
  script = x.script ∙ y.script;
  host_sends = x.host_sends ∙ y.host_sends;
  announcements = x.announcements ∙ y.announcements;
}

pub run_before : (m : Program) (s t u : BagState) (steps : List BagStep) → Same m.shape s t → BagRun m t steps u → BagRun m s steps u
run_before m s t u [] same r = same_then m.shape s t u same r
run_before m s t u (x ∷ xs) same r = (r.0, r.1, same_then m.shape s t r.0 same r.2, r.3, r.4)

pub run_join : (m : Program) (s t u : BagState) (xs ys : List BagStep) → BagRun m s xs t → BagRun m t ys u → BagRun m s (xs ++ ys) u
run_join m s t u [] ys r q = run_before m s t u ys r q
run_join m s t u (x ∷ xs) ys r q = (r.0, r.1, r.2, r.3, run_join m r.1 t u xs ys r.4 q)

-- the receivers of these letters are threads that ended
abbrev pub ForDead : ShapeNumbers → BagState → List Letter → Type 0
ForDead n s [] = Unit {0}
ForDead n s (l ∷ ls) = IsTrue (has_thread n l.receiver) × (is_dead (s.threads l.receiver).state ≡ true) × ForDead n s ls

join_one : (xs : List Letter) (l : Letter) (ls : List Letter) → (xs ++ l ∷ []) ++ ls ≡ xs ++ l ∷ ls
join_one [] l ls = refl
join_one (x ∷ xs) l ls = ap (λ ys. x ∷ ys) (join_one xs l ls)

-- they are dropped one after another
pub discards : (m : Program) (threads : BagState) (ls rest dropped : List Letter) → ForDead m.shape threads ls →
    BagRun m (record threads { flight = ls ++ rest; dropped = dropped }) (map bag.Discard ls) (record threads { flight = rest; dropped = dropped ++ ls })
discards m s [] rest dropped h =
    subst (λ (ds : List Letter). Same m.shape (record s { flight = rest; dropped = dropped }) (record s { flight = rest; dropped = ds })) (sym (append-nil dropped))
    (same_refl m.shape (record s { flight = rest; dropped = dropped }))
discards m s (l ∷ ls) rest dropped h = (
  record s { flight = l ∷ (ls ++ rest); dropped = dropped },
  record s { flight = ls ++ rest; dropped = dropped ++ l ∷ [] },
  same_refl m.shape (record s { flight = l ∷ (ls ++ rest); dropped = dropped }),
  (ls ++ rest, record { each = λ test. refl }, h.0, h.1, refl),
  subst (λ (ds : List Letter). BagRun m (record s { flight = ls ++ rest; dropped = dropped ++ l ∷ [] }) (map bag.Discard ls) (record s { flight = rest; dropped = ds })) (join_one dropped l ls)
      (discards m s ls rest (dropped ++ l ∷ []) h.2),
)
