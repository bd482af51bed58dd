-- Steps of filling beats.
use Rattle.std.proofs.Common.{◌≡◌, ◌<◌, ◌≤◌, ℕ, suc, zero, ◌+◌, ◌-◌, true, false, cond, List, [], ◌∷◌, ◌++◌, length, take, drop, get_or, append_assoc, refl, sym, ◌∙◌, ap, arith, drop-cons, add-one, length-drop}
use Rattle.std.proofs.lemmas.List.{get_or-drop}
use Rattle.std.proofs.lemmas.Grind.{common_steps}
use Rattle.std.proofs.lemmas.Bool.{and_parts}
use Rattle.std.specs.List.{list_all}
use Rattle.tn_keys.specs.declared.record.RouteRec.{RouteRec}
use Rattle.tn_keys.specs.declared.record.RouteRec.TheVariants.{Ind}
use Rattle.tn_keys.specs.Beat.{is_beat}
use Rattle.tn_keys.specs.Tables.{Table}
use Rattle.polite_routes.specs.Pack.{filled, is_alone, pack}

abbrev pub part : List RouteRec → ℕ → ℕ → List RouteRec
part rs s e = take (e - s) (drop s rs)

abbrev no_record : RouteRec
no_record = Ind 0

take_one : (xs : List RouteRec) (k : ℕ) → k < length xs → take (k + 1) xs ≡ take k xs ++ get_or xs k no_record ∷ []
take_one xs k h = grind (arith, common_steps)

part_more : (rs : List RouteRec) (s e : ℕ) → s ≤ e → e < length rs → part rs s (e + 1) ≡ part rs s e ++ get_or rs e no_record ∷ []
part_more rs s e h l =
    let i : e + 1 - s ≡ e - s + 1 = omega arith in
    let j : s + (e - s) ≡ e = omega arith in
    let k : e - s < length (drop s rs) = omega (arith, length-drop s rs) in
    ap (λ m. take m (drop s rs)) i ∙ take_one (drop s rs) (e - s) k ∙ ap (λ x. take (e - s) (drop s rs) ++ x ∷ []) (get_or-drop s rs (e - s) no_record ∙ ap (λ m. get_or rs m no_record) j)

rest_is : (rs : List RouteRec) (e : ℕ) → e < length rs → drop e rs ≡ get_or rs e no_record ∷ drop (e + 1) rs
rest_is rs e l = rw (add-one, drop-cons rs e no_record) refl

part_one : (rs : List RouteRec) (e : ℕ) → e < length rs → part rs e (e + 1) ≡ get_or rs e no_record ∷ []
part_one rs e l = let i : e + 1 - e ≡ 1 = omega arith in rw i (grind (arith, common_steps))

filled-fits : (beat : List RouteRec) (r : RouteRec) (rs : List RouteRec) → is_beat (beat ++ r ∷ []) ≡ true → filled beat (r ∷ rs) ≡ filled (beat ++ r ∷ []) rs
filled-fits beat r rs h = ap (λ b. cond b (filled (beat ++ r ∷ []) rs) (beat ∷ filled (r ∷ []) rs)) h

filled-full : (beat : List RouteRec) (r : RouteRec) (rs : List RouteRec) → is_beat (beat ++ r ∷ []) ≡ false → filled beat (r ∷ rs) ≡ beat ∷ filled (r ∷ []) rs
filled-full beat r rs h = ap (λ b. cond b (filled (beat ++ r ∷ []) rs) (beat ∷ filled (r ∷ []) rs)) h

-- one more record, which fits
pub fill_fits : (out total : Table) (rs : List RouteRec) (s e : ℕ) → s ≤ e → e < length rs → is_beat (part rs s (e + 1)) ≡ true → out ++ filled (part rs s e) (drop e rs) ≡ total → out ++ filled (part rs s (e + 1)) (drop (e + 1) rs) ≡ total
fill_fits out total rs s e h l b so_far =
    let m = part_more rs s e h l in
    let c : is_beat (part rs s e ++ get_or rs e no_record ∷ []) ≡ true = ap is_beat (sym m) ∙ b in
    ap (λ xs. out ++ filled xs (drop (e + 1) rs)) m
    ∙ ap (λ xs. out ++ xs) (sym (filled-fits (part rs s e) (get_or rs e no_record) (drop (e + 1) rs) c))
    ∙ ap (λ xs. out ++ filled (part rs s e) xs) (sym (rest_is rs e l)) ∙ so_far

-- one more record, which begins the next beat
pub fill_next : (out now total : Table) (rs : List RouteRec) (s e : ℕ) → s ≤ e → e < length rs → is_beat (part rs s (e + 1)) ≡ false → now ≡ out ++ part rs s e ∷ [] → out ++ filled (part rs s e) (drop e rs) ≡ total
    → now ++ filled (part rs e (e + 1)) (drop (e + 1) rs) ≡ total
fill_next out now total rs s e h l b n so_far =
    let m = part_more rs s e h l in
    let c : is_beat (part rs s e ++ get_or rs e no_record ∷ []) ≡ false = ap is_beat (sym m) ∙ b in
    ap (λ xs. xs ++ filled (part rs e (e + 1)) (drop (e + 1) rs)) n
    ∙ append_assoc out (part rs s e ∷ []) (filled (part rs e (e + 1)) (drop (e + 1) rs))
    ∙ ap (λ xs. out ++ part rs s e ∷ filled xs (drop (e + 1) rs)) (part_one rs e l)
    ∙ ap (λ xs. out ++ xs) (sym (filled-full (part rs s e) (get_or rs e no_record) (drop (e + 1) rs) c))
    ∙ ap (λ xs. out ++ filled (part rs s e) xs) (sym (rest_is rs e l)) ∙ so_far

alone_in : (rs : List RouteRec) (e : ℕ) → e < length rs → list_all is_alone rs ≡ true → is_alone (get_or rs e no_record) ≡ true
alone_in [] e l h = absurd (omega arith)
alone_in (r ∷ rs) zero l h = (and_parts _ _ h).0
alone_in (r ∷ rs) (suc e) l h = alone_in rs e (omega arith) (and_parts _ _ h).1

-- each record is a beat by itself
pub alone_at : (rs : List RouteRec) (e : ℕ) → e < length rs → list_all is_alone rs ≡ true → is_beat (part rs e (e + 1)) ≡ true
alone_at rs e l h = ap is_beat (part_one rs e l) ∙ alone_in rs e l h

pub fill_first : (out : Table) (rs : List RouteRec) → 0 < length rs → out ++ filled (part rs 0 1) (drop 1 rs) ≡ out ++ pack rs
fill_first out [] h = absurd (omega arith)
fill_first out (r ∷ rs) h = refl

pub fill_last : (out total : Table) (rs : List RouteRec) (s e : ℕ) → length rs ≤ e → e ≤ length rs → out ++ filled (part rs s e) (drop e rs) ≡ total → out ++ drop s rs ∷ [] ≡ total
fill_last out total rs s e h l so_far =
    let d : drop e rs ≡ [] = grind (arith, common_steps) in
    let p : part rs s e ≡ drop s rs = grind (arith, common_steps) in
    ap (λ xs. out ++ xs ∷ []) (sym p) ∙ ap (λ xs. out ++ filled (part rs s e) xs) (sym d) ∙ so_far

-- the state of the loop, after one more record
pub record Filling (now total : Table) (rs : List RouteRec) (s e : ℕ) : Type 0 where
  pub so_far : now ++ filled (part rs s e) (drop e rs) ≡ total
  pub beat : is_beat (part rs s e) ≡ true
  pub order : s < e

pub filling_fits : (out total : Table) (rs : List RouteRec) (s e : ℕ) → s < e → e < length rs → is_beat (part rs s (e + 1)) ≡ true → out ++ filled (part rs s e) (drop e rs) ≡ total → Filling out total rs s (e + 1)
filling_fits out total rs s e h l b so_far = record { so_far = fill_fits out total rs s e (omega arith) l b so_far; beat = b; order = omega arith }

pub filling_next : (out now total : Table) (rs : List RouteRec) (s e : ℕ) → s < e → e < length rs → is_beat (part rs s (e + 1)) ≡ false → list_all is_alone rs ≡ true → now ≡ out ++ part rs s e ∷ [] → out ++ filled (part rs s e) (drop e rs) ≡ total
    → Filling now total rs e (e + 1)
filling_next out now total rs s e h l b a n so_far = record { so_far = fill_next out now total rs s e (omega arith) l b n so_far; beat = alone_at rs e l a; order = omega arith }

pub filling_as : (now then total : Table) (rs : List RouteRec) (s t e : ℕ) → now ≡ then → s ≡ t → Filling then total rs t e → Filling now total rs s e
filling_as now then total rs s t e p q f = rw (p, q) f
