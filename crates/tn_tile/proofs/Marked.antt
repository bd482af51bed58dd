-- Words of which each bit says whether a place passes a test.
use Rattle.std.proofs.Common.{ℕ, ◌≡◌, ◌≢◌, ◌<◌, ◌≤◌, ◌+◌, ◌-◌, ◌/◌, ◌%◌, ◌^◌, ◌==◌, zero, suc, Bool, true, false, List, [], ◌∷◌, length, get_or, set, refl, sym, ap, ◌∙◌, arith, inl, inr, Option, Some, None, is_none, is_some, length-set, ◌⊎◌}
use Rattle.std.specs.Int.{bit_at}
use Rattle.std.specs.List.{list_all}
use Rattle.std.proofs.lemmas.Bool.{cases_Bool, cases_eq, cases_lt, eqb-true}
use Rattle.std.proofs.lemmas.List.{get_or-set_same, get_or-set_other}
use Rattle.std.proofs.lemmas.Nat.{shr-shr}
use Rattle.std.proofs.lemmas.Nat.Bits.{bit_at-zero, bit_at_above, same_from_bits_below}
use Rattle.tn_base.specs.declared.message.Packet.{Packet}
use Rattle.tn_base.specs.Mask.{without_bit}
use Rattle.tn_base.proofs.Masks.{without_same, without_other}
use Rattle.tn_slots.proofs.Lists.{bit_cases}
use Rattle.tn_tile.specs.Ready.{IsFirst, IsFirstAt, LooksAt, Marks}
use Rattle.tn_tile.specs.Words.{KnowsSends}

zero_bit : (b : ℕ) → b ≡ 0 → (b == 1) ≡ false
zero_bit b e = rw e refl

one_bit : (b : ℕ) → b ≡ 1 → (b == 1) ≡ true
one_bit b e = rw e refl

is_one : (b : ℕ) → (b == 1) ≡ true → b ≡ 1
is_one b e = eqb-true b 1 e

-- one bit is written
pub marks_write : (f g : ℕ → Bool) (old new at : ℕ) → Marks f old → (bit_at new at == 1) ≡ g at → ((i : ℕ) → i < 64 → i ≢ at → bit_at new i ≡ bit_at old i) → ((i : ℕ) → i ≢ at → g i ≡ f i) → Marks g new
marks_write f g old new at m written others same = record {
  each = λ k h. elim (cases_eq k at) [
    | inl e ↦ rw e written
    | inr ne ↦ ap (λ b. b == 1) (others k h ne) ∙ m.each k h ∙ sym (same k ne)
  ];
}

-- the bits of some places were looked at
pub marks_look : (f g : ℕ → Bool) (old new places : ℕ) → Marks f old → LooksAt old new places g → ((k : ℕ) → k < 64 → bit_at places k ≡ 0 → g k ≡ f k) → Marks g new
marks_look f g old new places m l same = record {
  each = λ k h. elim (bit_cases places k) [
    | inl one ↦ l.seen k h one
    | inr none ↦ ap (λ b. b == 1) (l.kept k h none) ∙ m.each k h ∙ sym (same k h none)
  ];
}

pub marks_same : (f g : ℕ → Bool) (word : ℕ) → Marks f word → ((k : ℕ) → g k ≡ f k) → Marks g word
marks_same f g word m same = record { each = λ k h. m.each k h ∙ sym (same k) }

-- the loop that looks: which places are left to look at
pub record Looking (old now places rest : ℕ) (f : ℕ → Bool) : Type 0 where
  pub part : (k : ℕ) → k < 64 → bit_at rest k ≡ 1 → bit_at places k ≡ 1
  pub seen : (k : ℕ) → k < 64 → bit_at places k ≡ 1 → bit_at rest k ≡ 0 → (bit_at now k == 1) ≡ f k
  pub kept : (k : ℕ) → k < 64 → bit_at places k ≡ 0 → bit_at now k ≡ bit_at old k

not_both : (b : ℕ) → b ≡ 1 → b ≡ 0 → ⊥
not_both b e f = cc (e, f)

pub looking_none : (old places : ℕ) (f : ℕ → Bool) → Looking old old places places f
looking_none old places f = record {
  part = λ k h one. one;
  seen = λ k h one none. absurd (not_both _ one none);
  kept = λ k h none. refl;
}

pub looking_more : (old now new places rest at : ℕ) (f : ℕ → Bool) → at < 64 → bit_at rest at ≡ 1 → Looking old now places rest f → (bit_at new at == 1) ≡ f at → ((i : ℕ) → i < 64 → i ≢ at → bit_at new i ≡ bit_at now i) → Looking old new places (without_bit rest at) f
looking_more old now new places rest at f here one l written others = record {
  part = λ k h left. elim (cases_eq k at) [
    | inl e ↦ absurd (not_both _ (rw e at left) (without_same rest at here))
    | inr ne ↦ l.part k h (sym (without_other rest at k here h ne) ∙ left)
  ];
  seen = λ k h named gone. elim (cases_eq k at) [
    | inl e ↦ rw e written
    | inr ne ↦ ap (λ b. b == 1) (others k h ne) ∙ l.seen k h named (sym (without_other rest at k here h ne) ∙ gone)
  ];
  kept = λ k h none. elim (cases_eq k at) [
    | inl e ↦ absurd (not_both _ (l.part at here one) (rw e at none))
    | inr ne ↦ others k h ne ∙ l.kept k h none
  ];
}

pub looking_end : (old now places rest : ℕ) (f : ℕ → Bool) → rest ≡ 0 → Looking old now places rest f → LooksAt old now places f
looking_end old now places rest f e l = record {
  seen = λ k h one. l.seen k h one (rw e (bit_at-zero k));
  kept = l.kept;
}

-- the loop over all places
pub record MarksBelow (f : ℕ → Bool) (count word : ℕ) : Type 0 where
  pub each : (k : ℕ) → k < count → (bit_at word k == 1) ≡ f k
  pub above : (k : ℕ) → k < 64 → count ≤ k → bit_at word k ≡ 0

pub below_none : (f : ℕ → Bool) → MarksBelow f 0 0
below_none f = record { each = λ k h. absurd (omega arith); above = λ k h m. bit_at-zero k }

pub below_more : (f : ℕ → Bool) (count word new : ℕ) → count < 64 → MarksBelow f count word → (bit_at new count == 1) ≡ f count → ((i : ℕ) → i < 64 → i ≢ count → bit_at new i ≡ bit_at word i) → MarksBelow f (count + 1) new
below_more f count word new few m written others = record {
  each = λ k h. elim (cases_eq k count) [
    | inl e ↦ rw e written
    | inr ne ↦ ap (λ b. b == 1) (others k (omega arith) ne) ∙ m.each k (omega arith)
  ];
  above = λ k h past. others k h (λ e. omega arith) ∙ m.above k h (omega arith);
}

pub below_all : (f : ℕ → Bool) (count word : ℕ) → ((k : ℕ) → count ≤ k → f k ≡ false) → MarksBelow f count word → Marks f word
below_all f count word none m = record {
  each = λ k h. elim (cases_lt k count) [
    | inl below ↦ m.each k below
    | inr past ↦ zero_bit _ (m.above k h past) ∙ sym (none k past)
  ];
}

-- a word without a bit says that no place passes
pub marks_zero : (f : ℕ → Bool) → ((k : ℕ) → f k ≡ false) → Marks f 0
marks_zero f none = record { each = λ k h. zero_bit _ (bit_at-zero k) ∙ sym (none k) }

-- the first bit of a word from a place on
shifted_bit : (word low i : ℕ) → bit_at (word / 2 ^ low) i ≡ bit_at word (low + i)
shifted_bit word low i = ap (λ y. y % 2) (shr-shr word low i)

bit_from : (word low k : ℕ) → low ≤ k → bit_at word k ≡ bit_at (word / 2 ^ low) (k - low)
bit_from word low k h = let e : low + (k - low) ≡ k = omega arith in ap (bit_at word) (sym e) ∙ sym (shifted_bit word low (k - low))

pub no_bit : (word low : ℕ) → word / 2 ^ low ≡ 0 → IsFirst (λ k. bit_at word k == 1) low 64 None
no_bit word low e = λ k h below. zero_bit _ (bit_from word low k h ∙ ap (λ x. bit_at x (k - low)) e ∙ bit_at-zero (k - low))

within_word : (word k : ℕ) → word < 2 ^ 64 → bit_at word k ≡ 1 → k < 64
within_word word k h one = elim (cases_lt k 64) [
  | inl below ↦ below
  | inr past ↦ absurd (not_both _ one (bit_at_above word 64 k h past))
]

pub first_is : (word low t : ℕ) → word < 2 ^ 64 → bit_at (word / 2 ^ low) t ≡ 1 → ((k : ℕ) → k < t → bit_at (word / 2 ^ low) k ≡ 0) → IsFirstAt (λ k. bit_at word k == 1) low 64 (low + t)
first_is word low t small one lower =
    let there : bit_at word (low + t) ≡ 1 = sym (shifted_bit word low t) ∙ one in
    record {
      from = omega arith;
      within = within_word word (low + t) small there;
      passes = one_bit _ there;
      first = λ j h below. zero_bit _ (bit_from word low j h ∙ lower (j - low) (omega arith));
    }

-- the first place that passes, by the first bit of a word
pub first_by : (f : ℕ → Bool) (word low count : ℕ) (r : Option ℕ) → Marks f word → count ≤ 64 → ((k : ℕ) → count ≤ k → f k ≡ false) → IsFirst (λ k. bit_at word k == 1) low 64 r → IsFirst f low count r
first_by f word low count None m few none h = λ k from below. sym (m.each k (omega arith)) ∙ h k from (omega arith)
first_by f word low count (Some k) m few none h =
    let within = h.within in
    let passes : f k ≡ true = sym (m.each k within) ∙ h.passes in
    record {
      from = h.from;
      within = elim (cases_lt k count) [
        | inl below ↦ below
        | inr past ↦ absurd (let e = none k past in cc (e, passes))
      ];
      passes = passes;
      first = λ j from below. sym (m.each j (omega arith)) ∙ h.first j from below;
    }

-- a packet is pending, or none, at a place
pub sends_set : (ps : List (Option Packet)) (word new at : ℕ) (o : Option Packet) → at < length ps → KnowsSends ps word → (bit_at new at == 1) ≡ is_some o → ((i : ℕ) → i < 64 → i ≢ at → bit_at new i ≡ bit_at word i) → KnowsSends (set ps at o) new
sends_set ps word new at o h w written others = record {
  few = rw length-set w.few;
  sends = marks_write (λ k. is_some (get_or ps k None)) (λ k. is_some (get_or (set ps at o) k None)) word new at w.sends
      (written ∙ sym (ap is_some (get_or-set_same ps at o None h))) others
      (λ i ne. ap is_some (get_or-set_other ps at i o None ne));
}

all_none : (ps : List (Option Packet)) → ((k : ℕ) → k < length ps → is_some (get_or ps k None) ≡ false) → list_all is_none ps ≡ true
all_none [] each = refl
all_none (None ∷ ps) each = all_none ps (λ k h. each (suc k) (omega arith))
all_none (Some p ∷ ps) each = cc (each 0 (omega arith))

none_all : (ps : List (Option Packet)) (k : ℕ) → list_all is_none ps ≡ true → is_some (get_or ps k None) ≡ false
none_all [] k e = refl
none_all (None ∷ ps) zero e = refl
none_all (None ∷ ps) (suc k) e = none_all ps k e
none_all (Some p ∷ ps) k e = cc e

no_marks : (f : ℕ → Bool) (word : ℕ) → word < 2 ^ 64 → Marks f word → ((k : ℕ) → f k ≡ false) → word ≡ 0
no_marks f word small m none = same_from_bits_below 64 word 0 small (omega arith) (λ i h. by (bit_cases word i) (m.each i h ∙ none i) i) where
  by : {b : ℕ} → ((b ≡ 1) ⊎ (b ≡ 0)) → (b == 1) ≡ false → (i : ℕ) → b ≡ bit_at 0 i
  by (inl one) e i = absurd (cc (one_bit _ one, e))
  by (inr none) e i = none ∙ sym (bit_at-zero i)

-- no packet is pending if the word is zero, and only then
pub sends_none : (ps : List (Option Packet)) (word : ℕ) → word < 2 ^ 64 → KnowsSends ps word → (word == 0) ≡ list_all is_none ps
sends_none ps word small w = elim (cases_Bool (list_all is_none ps)) [
  | inl none ↦ rw (none, no_marks (λ k. is_some (get_or ps k None)) word small w.sends (λ k. none_all ps k none)) refl
  | inr some ↦ elim (cases_Bool (word == 0)) [
    | inl e ↦
        let zero_word : word ≡ 0 = eqb-true word 0 e in
        let few = w.few in
        let all : list_all is_none ps ≡ true = all_none ps (λ k h. sym (w.sends.each k (omega arith)) ∙ zero_bit _ (rw zero_word (bit_at-zero k))) in
        absurd (cc (all, some))
    | inr ne ↦ ne ∙ sym some
  ]
]
