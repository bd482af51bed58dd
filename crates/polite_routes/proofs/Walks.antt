-- Walks of the records of trees.
use Rattle.std.proofs.Common.{◌≡◌, ◌≤◌, ℕ, suc, zero, List, [], ◌∷◌, ◌++◌, append_assoc, refl, sym, ◌∙◌, ap, arith, Option, Some, None}
use Rattle.tn_base.specs.declared.ids.Board.{Board}
use Rattle.tn_base.specs.declared.shape.ShapeNumbers.{ShapeNumbers}
use Rattle.tn_keys.specs.declared.record.RouteRec.{RouteRec}
use Rattle.tn_keys.specs.declared.record.RouteRec.TheVariants.{Urm1, Urm2, Rr, Mrm, Ind}
use Rattle.tn_keys.specs.Copies.{Copy, copies_of, led, neighbour, onto}
use Rattle.tn_keys.specs.Reach.{reach_by, walk}
use Rattle.tn_keys.specs.Tables.{Table, records_of}
use Rattle.polite_routes.specs.Straight.{At, Straight, StraightRecords}
use Rattle.polite_routes.proofs.Grows.{Grows}

abbrev pub Way : Type 1
Way = ℕ → Board → ℕ → Type 0

at_map : (P Q : Board → Type 0) (at : Option Board) → ((b : Board) → P b → Q b) → At P at → At Q at
at_map P Q None f h = absurd h
at_map P Q (Some b) f h = f b h

pub straight_map : (P Q : ℕ → Board → ℕ → Type 0) (n : ShapeNumbers) (last : ℕ) (b : Board) (rs : List RouteRec) → ((d : ℕ) (c : Board) (k : ℕ) → P d c k → Q d c k) → StraightRecords P n last b rs → StraightRecords Q n last b rs
straight_map P Q n last b [] f h = tt
straight_map P Q n last b (Urm1 t h k ∷ rs) f g = absurd g.0
straight_map P Q n last b (Urm2 t h k ∷ rs) f g = absurd g.0
straight_map P Q n last b (Rr d k ∷ rs) f g = ((g.0.0, at_map (λ c. P d c k) (λ c. Q d c k) (neighbour n d b) (λ c p. f d c k p) g.0.1), straight_map P Q n last b rs f g.1)
straight_map P Q n last b (Mrm t k m ∷ rs) f g = (g.0, straight_map P Q n last b rs f g.1)
straight_map P Q n last b (Ind k ∷ rs) f g = absurd g.0

-- whatever the direction was
pub straight_any : (P : ℕ → Board → ℕ → Type 0) (n : ShapeNumbers) (last : ℕ) (b : Board) (rs : List RouteRec) → StraightRecords P n last b rs → StraightRecords P n 4 b rs
straight_any P n last b [] h = tt
straight_any P n last b (Urm1 t h k ∷ rs) g = absurd g.0
straight_any P n last b (Urm2 t h k ∷ rs) g = absurd g.0
straight_any P n last b (Rr d k ∷ rs) g = ((refl, g.0.1), straight_any P n last b rs g.1)
straight_any P n last b (Mrm t k m ∷ rs) g = (g.0, straight_any P n last b rs g.1)
straight_any P n last b (Ind k ∷ rs) g = absurd g.0

pub straight_append : (P : ℕ → Board → ℕ → Type 0) (n : ShapeNumbers) (last : ℕ) (b : Board) (rs ss : List RouteRec) → StraightRecords P n last b rs → StraightRecords P n last b ss → StraightRecords P n last b (rs ++ ss)
straight_append P n last b [] ss g h = h
straight_append P n last b (r ∷ rs) ss g h = (g.0, straight_append P n last b rs ss g.1 h)

pub straight_front : (P : ℕ → Board → ℕ → Type 0) (n : ShapeNumbers) (last : ℕ) (b : Board) (rs ss : List RouteRec) → StraightRecords P n last b (rs ++ ss) → StraightRecords P n last b rs
straight_front P n last b [] ss g = tt
straight_front P n last b (r ∷ rs) ss g = (g.0, straight_front P n last b rs ss g.1)

pub straight_back : (P : ℕ → Board → ℕ → Type 0) (n : ShapeNumbers) (last : ℕ) (b : Board) (rs ss : List RouteRec) → StraightRecords P n last b (rs ++ ss) → StraightRecords P n last b ss
straight_back P n last b [] ss g = g
straight_back P n last b (r ∷ rs) ss g = straight_back P n last b rs ss g.1

-- records lead to the same where the keys do to which they lead
led_same : (P : Board → Type 0) (f g : Board → ℕ → List Copy) (k : ℕ) (at : Option Board) → ((c : Board) → P c → f c k ≡ g c k) → At P at → led f (onto k at) ≡ led g (onto k at)
led_same P f g k None e h = absurd h
led_same P f g k (Some c) e h = e c h

pub walk_same : (P : ℕ → Board → ℕ → Type 0) (f g : Board → ℕ → List Copy) (n : ShapeNumbers) (last : ℕ) (b : Board) (bytes : List ℕ) (rs : List RouteRec) → ((d : ℕ) (c : Board) (k : ℕ) → P d c k → f c k ≡ g c k) → StraightRecords P n last b rs
    → walk f n b bytes rs ≡ walk g n b bytes rs
walk_same P f g n last b bytes [] e h = refl
walk_same P f g n last b bytes (Urm1 t q k ∷ rs) e h = absurd h.0
walk_same P f g n last b bytes (Urm2 t q k ∷ rs) e h = absurd h.0
walk_same P f g n last b bytes (Rr d k ∷ rs) e h =
    let here : copies_of f n b bytes (Rr d k) ≡ copies_of g n b bytes (Rr d k) = led_same (λ c. P d c k) f g k (neighbour n d b) (λ c p. e d c k p) h.0.1 in
    ap (λ xs. xs ++ walk f n b bytes rs) here ∙ ap (λ xs. copies_of g n b bytes (Rr d k) ++ xs) (walk_same P f g n last b bytes rs e h.1)
walk_same P f g n last b bytes (Mrm t k m ∷ rs) e h = ap (λ xs. copies_of g n b bytes (Mrm t k m) ++ xs) (walk_same P f g n last b bytes rs e h.1)
walk_same P f g n last b bytes (Ind k ∷ rs) e h = absurd h.0

-- records one behind others
pub walk_append : (P : ℕ → Board → ℕ → Type 0) (f : Board → ℕ → List Copy) (n : ShapeNumbers) (last : ℕ) (b : Board) (bytes : List ℕ) (rs ss : List RouteRec) → StraightRecords P n last b rs → walk f n b bytes (rs ++ ss) ≡ walk f n b bytes rs ++ walk f n b bytes ss
walk_append P f n last b bytes [] ss h = refl
walk_append P f n last b bytes (Urm1 t q k ∷ rs) ss h = absurd h.0
walk_append P f n last b bytes (Urm2 t q k ∷ rs) ss h = absurd h.0
walk_append P f n last b bytes (Rr d k ∷ rs) ss h =
    ap (λ xs. copies_of f n b bytes (Rr d k) ++ xs) (walk_append P f n last b bytes rs ss h.1) ∙ sym (append_assoc (copies_of f n b bytes (Rr d k)) (walk f n b bytes rs) (walk f n b bytes ss))
walk_append P f n last b bytes (Mrm t k m ∷ rs) ss h =
    ap (λ xs. copies_of f n b bytes (Mrm t k m) ++ xs) (walk_append P f n last b bytes rs ss h.1) ∙ sym (append_assoc (copies_of f n b bytes (Mrm t k m)) (walk f n b bytes rs) (walk f n b bytes ss))
walk_append P f n last b bytes (Ind k ∷ rs) ss h = absurd h.0

pub reach_suc : (keys : ℕ) (n : ShapeNumbers) (ts : List Table) (bytes : List ℕ) (b : Board) (key : ℕ) → reach_by (suc keys) n ts bytes b key ≡ walk (reach_by keys n ts bytes) n b bytes (records_of n ts b key)
unfolding reach_by
reach_suc keys n ts bytes b key = refl

-- a longer bound, and tables that grew
pub straight_up : (m k : ℕ) (n : ShapeNumbers) (ts : List Table) (last : ℕ) (b : Board) (key : ℕ) → m ≤ k → Straight m n ts last b key → Straight k n ts last b key
straight_up zero zero n ts last b key l h = h
straight_up zero (suc k) n ts last b key l h = (h.0, straight_map (λ d c q. ⊥) (Straight k n ts) n last b (records_of n ts b key) (λ d c q f. absurd f) h.1)
straight_up (suc m) zero n ts last b key l h = absurd (omega arith)
straight_up (suc m) (suc k) n ts last b key l h =
    (h.0, straight_map (Straight m n ts) (Straight k n ts) n last b (records_of n ts b key) (λ d c q f. straight_up m k n ts d c q (omega arith) f) h.1)

pub straight_grows : (m : ℕ) (n : ShapeNumbers) (ts us : List Table) (last : ℕ) (b : Board) (key : ℕ) → Grows n ts us → Straight m n ts last b key → Straight m n us last b key
straight_grows zero n ts us last b key g h = (g.good b key h.0, rw (g.records b key h.0) h.1)
straight_grows (suc m) n ts us last b key g h =
    (g.good b key h.0, rw (g.records b key h.0) (straight_map (Straight m n ts) (Straight m n us) n last b (records_of n ts b key) (λ d c q f. straight_grows m n ts us d c q g f) h.1))

pub reach_grows : (m k : ℕ) (n : ShapeNumbers) (ts us : List Table) (bytes : List ℕ) (last : ℕ) (b : Board) (key : ℕ) → m ≤ k → Grows n ts us → Straight m n ts last b key → reach_by (suc k) n us bytes b key ≡ reach_by (suc k) n ts bytes b key
reach_grows zero k n ts us bytes last b key l g h =
    reach_suc k n us bytes b key ∙ ap (walk (reach_by k n us bytes) n b bytes) (g.records b key h.0)
    ∙ walk_same (λ d c q. ⊥) (reach_by k n us bytes) (reach_by k n ts bytes) n last b bytes (records_of n ts b key) (λ d c q f. absurd f) h.1
    ∙ sym (reach_suc k n ts bytes b key)
reach_grows (suc m) zero n ts us bytes last b key l g h = absurd (omega arith)
reach_grows (suc m) (suc k) n ts us bytes last b key l g h =
    reach_suc (suc k) n us bytes b key ∙ ap (walk (reach_by (suc k) n us bytes) n b bytes) (g.records b key h.0)
    ∙ walk_same (Straight m n ts) (reach_by (suc k) n us bytes) (reach_by (suc k) n ts bytes) n last b bytes (records_of n ts b key) (λ d c q f. reach_grows m k n ts us bytes d c q (omega arith) g f) h.1
    ∙ sym (reach_suc (suc k) n ts bytes b key)
