-- The items of a script that are still to come, one item later.
use Rattle.std.proofs.Common.{ℕ, ◌≡◌, ◌+◌, zero, suc, List, [], ◌∷◌, drop, refl, ap, ◌∙◌, arith}
use Rattle.tn_host.specs.declared.script.ScriptItem.{ScriptItem}
use Rattle.tn_host.specs.Script.{items_behind}

behind : (xs : List ScriptItem) (i : ℕ) → drop (suc i) xs ≡ items_behind (drop i xs)
behind [] zero = refl
behind [] (suc i) = refl
behind (x ∷ xs) zero = refl
behind (x ∷ xs) (suc i) = behind xs i

pub passed : (xs : List ScriptItem) (i : ℕ) → drop (i + 1) xs ≡ items_behind (drop i xs)
passed xs i = let e : i + 1 ≡ suc i = omega arith in ap (λ k. drop k xs) e ∙ behind xs i
