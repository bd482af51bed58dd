-- Bytes of memories.
use Rattle.std.proofs.Common.{ℕ, ◌≡◌, ◌≤◌, ◌<◌, ◌+◌, ◌-◌, ◌∷◌, ◌++◌, ◌&&◌, ◌==◌, ◌∙◌, [], Bool, true, false, List, Option, Some, None, cond, drop, get_or, length, length-append, nat_le, nat_lt, replicate, take, zero, suc, refl, subst, sym, ap, arith, if◌then◌else◌}
use Rattle.std.specs.List.{AllByRecursion}
use Rattle.std.specs.Option.{option_or, unwrap_or}
use Rattle.std.proofs.lemmas.Bool.Decides.{nat_tests}
use Rattle.std.proofs.lemmas.List.{get_or-append_right, get_or_append_left, get_or-drop, get_or-take, length-replicate, length-take-le}
use Rattle.job_text.specs.declared.job.FillLine.{FillLine}
use Rattle.job_load.specs.Images.{IsWithin, fills_of, laid, overlaid}
use Rattle.job_load.specs.Laws.{IsMemory, given_by, last_given}
use Rattle.job_load.proofs.Images.{laid_more}

-- the bytes before, within and behind what is laid
before_laid : (m : List ℕ) (address : ℕ) (bytes : List ℕ) (a : ℕ) → address + length bytes ≤ length m → a < address → get_or (laid m address bytes) a 0 ≡ get_or m a 0
before_laid m address bytes a h less =
    let front = take address m in
    let long : length front ≡ address = length-take-le address m (omega arith) in
    get_or_append_left (front ++ bytes) (drop (address + length bytes) m) 0 a (omega (arith, length-append front bytes))
    ∙ get_or_append_left front bytes 0 a (omega arith) ∙ get_or-take address m a 0 less

within_laid : (m : List ℕ) (address : ℕ) (bytes : List ℕ) (a : ℕ) → address + length bytes ≤ length m → address ≤ a → a < address + length bytes →
    get_or (laid m address bytes) a 0 ≡ get_or bytes (a - address) 0
within_laid m address bytes a h more less =
    let front = take address m in
    let long : length front ≡ address = length-take-le address m (omega arith) in
    get_or_append_left (front ++ bytes) (drop (address + length bytes) m) 0 a (omega (arith, length-append front bytes))
    ∙ get_or-append_right front bytes address a 0 long more

behind_laid : (m : List ℕ) (address : ℕ) (bytes : List ℕ) (a : ℕ) → address + length bytes ≤ length m → address + length bytes ≤ a →
    get_or (laid m address bytes) a 0 ≡ get_or m a 0
behind_laid m address bytes a h more =
    let front = take address m in
    let long : length (front ++ bytes) ≡ address + length bytes = length-append front bytes ∙ ap (λ n. n + length bytes) (length-take-le address m (omega arith)) in
    get_or-append_right (front ++ bytes) (drop (address + length bytes) m) (address + length bytes) a 0 long more
    ∙ get_or-drop (address + length bytes) m (a - (address + length bytes)) 0 ∙ ap (λ k. get_or m k 0) (omega arith)

laid_by : (m : List ℕ) (f : FillLine) (a : ℕ) (from below : Bool) → f.address + length f.bytes ≤ length m → nat_le f.address a ≡ from → nat_lt a (f.address + length f.bytes) ≡ below →
    get_or (laid m f.address f.bytes) a 0 ≡ unwrap_or (if from && below then Some (get_or f.bytes (a - f.address) 0) else None) (get_or m a 0)
laid_by m f a true true h d e = within_laid m f.address f.bytes a h (grind (arith, nat_tests)) (grind (arith, nat_tests))
laid_by m f a true false h d e = behind_laid m f.address f.bytes a h (grind (arith, nat_tests))
laid_by m f a false below h d e = before_laid m f.address f.bytes a h (grind (arith, nat_tests))

or_twice : (x y : Option ℕ) (d : ℕ) → unwrap_or x (unwrap_or y d) ≡ unwrap_or (option_or x y) d
or_twice None y d = refl
or_twice (Some x) y d = refl

-- memory that fills are laid over keeps its size, and its bytes are theirs
pub record IsOver (m : List ℕ) (fills : List FillLine) : Type 0 where
  pub size_is : length (overlaid m fills) ≡ length m
  pub byte : (a : ℕ) → get_or (overlaid m fills) a 0 ≡ unwrap_or (last_given fills a) (get_or m a 0)

pub over : (m : List ℕ) (fills : List FillLine) → AllByRecursion (IsWithin (length m)) fills → IsOver m fills
over m [] all = record { size_is = refl; byte = λ a. refl }
over m (f ∷ fs) all =
    let long = laid_more m f.address f.bytes all.0.end in
    let P : ℕ → Type 0 = λ n. AllByRecursion (IsWithin n) fs in
    let rest = over (laid m f.address f.bytes) fs (subst P (sym long) all.1) in
    record {
      size_is = rest.size_is ∙ long;
      byte = λ a. rest.byte a ∙ ap (unwrap_or (last_given fs a)) (laid_by m f a (nat_le f.address a) (nat_lt a (f.address + length f.bytes)) all.0.end refl refl) ∙ or_twice (last_given fs a) (given_by f a) (get_or m a 0);
    }

kept : (P : FillLine → Type 0) (t : Bool) (f : FillLine) (fs : List FillLine) → P f → AllByRecursion P fs → AllByRecursion P (cond t (f ∷ fs) fs)
kept P true f fs one all = (one, all)
kept P false f fs one all = all

within_of : (size thread : ℕ) (fills : List FillLine) → AllByRecursion (IsWithin size) fills → AllByRecursion (IsWithin size) (fills_of thread fills)
within_of size thread [] all = tt
within_of size thread (f ∷ fs) all = kept (IsWithin size) (f.thread == thread) f (fills_of thread fs) all.0 (within_of size thread fs all.1)

zeros : (n a : ℕ) → get_or (replicate {A = ℕ} n 0) a 0 ≡ 0
zeros zero a = refl
zeros (suc n) zero = refl
zeros (suc n) (suc a) = zeros n a

pub memory_is : (size : ℕ) (fills : List FillLine) (thread : ℕ) → AllByRecursion (IsWithin size) fills → IsMemory size fills thread
memory_is size fills thread all =
    let long : length (replicate size 0) ≡ size = length-replicate size 0 in
    let P : ℕ → Type 0 = λ n. AllByRecursion (IsWithin n) (fills_of thread fills) in
    let got = over (replicate size 0) (fills_of thread fills) (subst P (sym long) (within_of size thread fills all)) in
    record {
      size_is = got.size_is ∙ long;
      byte = λ a. got.byte a ∙ ap (unwrap_or (last_given (fills_of thread fills) a)) (zeros size a);
    }
